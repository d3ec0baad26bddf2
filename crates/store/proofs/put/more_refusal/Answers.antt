use Rattle.std.proofs.Common.{refl}
use Rattle.std.proofs.lemmas.Result.{err_from_is_err_and}
use Rattle.layout.proofs.Laws.Reasons.{reason}
use Rattle.layout.specs.Walks.Slots.{entry_at}
use Rattle.store.proofs.Walks.Prepares.{weighed-why, more-refused, more-written}
use Rattle.store.proofs.put.more_refusal.Goals as goal

pub returns-in_err-size : goal.returns-in_err-size
returns-in_err-size c =
    let a = c.args in
    let why = c.in_err-size.field-0.0 in
    let q = err_from_is_err_and c.from_residual.result c.from_residual.ensures.1 in
    rw (q.1, q.2) (more-refused (weighed-why a.image.now (entry_at a.found.block a.found.slot) a.bytes.now why c.in_err-size.ensures) (reason why))

pub write_at_refusal-requires : goal.write_at_refusal-requires
write_at_refusal-requires c = let p = c.requires in (p.0, p.1, c.in_ok-size.ensures.small refl)

pub returns : goal.returns
returns c = more-written c.in_ok-size.ensures refl _ c.write_at_refusal.ensures
