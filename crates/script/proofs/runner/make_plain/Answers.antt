use mathlib.Core.Path.{◌∙◌}
use Rattle.script.proofs.Walks.Scripts.{room-list, room-mark, room-call}
use Rattle.script.proofs.Walks.Making.{call-item}
use Rattle.script.proofs.runner.make_plain.Goals as goal

pub make_list-requires : goal.make_list-requires
make_list-requires c =
    let e = c.if-script-at-eq15.true in
    let p = c.requires in
    (p.0.fits, e, p.0.room ∙ room-list _ _ e)

pub make-requires : goal.make-requires
make-requires c =
    let h = c.if-script-at-ge27.true in
    let p = c.requires in
    (p.0.fits, h, p.0.room ∙ room-mark _ _ h)

pub make_call-requires : goal.make_call-requires
make_call-requires c =
    let if2 = c.if-script-at-ge27 in
    let if1 = c.if-script-at-eq15 in
    let p = c.requires in
    (record { fits = p.0.fits; room = p.0.room ∙ room-call _ _ if1.false if2.false p.2 }, p.1)

pub returns : goal.returns
returns c =
    let make-call = c.make_call in
    let if2 = c.if-script-at-ge27 in
    let if1 = c.if-script-at-eq15 in
    let p = c.requires in
    call-item _ _ _ _ _ _ if1.false if2.false p.2 make-call.ensures
