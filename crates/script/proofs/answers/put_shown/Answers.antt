use native.Mathlib.Omega.{arith}
use Rattle.script.proofs.Walks.Encoding.{shown-written}
use Rattle.script.proofs.answers.put_shown.Goals as goal

pub returns : goal.returns
returns c =
    let clear = c.clear in
    let copy = c.copy in
    let put-numbers = c.put_numbers in
    let a = c.args in
    let p = c.requires in
    shown-written a.part.now _ a.bytes.now _ _ a.start p.1 p.0 put-numbers.ensures copy.ensures clear.ensures (omega arith)
