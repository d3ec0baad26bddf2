use Rattle.script.proofs.Walks.Making.{info-item, undo-to-item}
use Rattle.script.proofs.marks.make.Goals as goal

pub returns-then-script-at-eq27 : goal.returns-then-script-at-eq27
returns-then-script-at-eq27 c =
    let put-numbers = c.put_numbers in
    let tell = c.tell in
    let if1 = c.if-script-at-eq27 in
    let p = c.requires in
    info-item _ _ _ _ _ _ _ _ _ _ if1.true p.2 tell.ensures put-numbers.ensures

pub returns : goal.returns
returns c =
    let put-numbers = c.put_numbers-2 in
    let undo-to = c.undo_to-b in
    let get32 = c.get32-mark in
    let if1 = c.if-script-at-eq27 in
    let p = c.requires in
    undo-to-item _ _ _ _ _ _ _ _ _ _ p.1 if1.false p.2 get32.ensures undo-to.ensures put-numbers.ensures
