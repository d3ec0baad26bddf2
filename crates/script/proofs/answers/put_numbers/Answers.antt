use Rattle.script.proofs.Walks.Encoding.{numbers-put}
use Rattle.script.proofs.answers.put_numbers.Goals as goal

pub returns : goal.returns
returns c =
    let put324 = c.put32-4 in
    let put323 = c.put32-3 in
    let put322 = c.put32-2 in
    let put32 = c.put32 in
    let a = c.args in
    let p = c.requires in
    rw (put324.ensures, put323.ensures, put322.ensures, put32.ensures)
    (numbers-put a.part.now a.n.first a.n.second a.n.third a.n.fourth (p))
