use Rattle.script.proofs.Walks.Making.{undo-made}
use Rattle.script.proofs.runner.undo.Goals as goal

pub returns : goal.returns
returns c =
    let put-numbers = c.put_numbers in
    let undone-numbers = c.undone_numbers in
    let undo = c.undo-u in
    let p = c.requires in
    undo-made _ _ _ _ _ _ _ _ _ _ undone-numbers.ensures put-numbers.ensures (p) undo.ensures.answer undo.ensures.state
