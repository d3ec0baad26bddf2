use Rattle.std.proofs.Common.{◌∙◌}
use Rattle.journal.specs.Run.{look_answer}
use Rattle.script.proofs.Walks.Encoding.{numbers-alone}
use Rattle.script.proofs.answers.lookup.Goals as goal

pub returns : goal.returns
unfolding look_answer
returns c =
    let put-numbers = c.put_numbers in
    let found-numbers = c.found_numbers in
    let lookup = c.lookup-f in
    let name-of = c.name_of-name in
    let p = c.requires in
    put-numbers.ensures ∙ numbers-alone _ _ _ _ _ p.1 ∙ found-numbers.ensures ∙ rw (lookup.ensures, name-of.ensures)
