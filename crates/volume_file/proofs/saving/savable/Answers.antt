use Rattle.std.proofs.Common.{refl, sym, ◌∙◌, arith}
use Rattle.std.proofs.lemmas.Result.{err_from_is_err_and}
use Rattle.volume_file.proofs.Walks.Places.{given-long}
use Rattle.volume_file.proofs.Laws.Reasons.{some_number}
use Rattle.volume_file.proofs.Laws.Refused.{prepare-file, prepare-waits, prepare-lengths}
use Rattle.volume_file.proofs.saving.savable.Goals as goal

pub returns-in_err-h-clause-number : goal.returns-in_err-h-clause-number
returns-in_err-h-clause-number c =
    let p = err_from_is_err_and c.from_residual.result c.from_residual.ensures.1 in
    rw (p.1, p.2) (prepare-file _ _ _ _ _ c.in_err-h.ensures.number (some_number _))

pub log_waits-requires : goal.log_waits-requires
log_waits-requires c = given-long _ _ c.in_ok-h.ensures.number refl

pub returns-then-log_waits-clause-number : goal.returns-then-log_waits-clause-number
returns-then-log_waits-clause-number c = prepare-waits _ _ _ _ _ c.in_ok-h.ensures.number refl (sym c.log_waits.ensures ∙ c.if-log_waits.true)

pub block-requires : goal.block-requires
block-requires c = omega (arith, given-long _ _ c.in_ok-h.ensures.number refl)

pub returns-in_err-fits-clause-number : goal.returns-in_err-fits-clause-number
returns-in_err-fits-clause-number c =
    let p = err_from_is_err_and c.from_residual-in_err-fits.result c.from_residual-in_err-fits.ensures.1 in
    rw (p.1, p.2) (prepare-lengths _ _ _ _ _ c.in_ok-h.ensures.number refl (sym c.log_waits.ensures ∙ c.if-log_waits.false) _ (rw c.block.ensures.bytes at c.in_err-fits.ensures))

pub returns-clause-number : goal.returns-clause-number
returns-clause-number c = prepare-lengths _ _ _ _ _ c.in_ok-h.ensures.number refl (sym c.log_waits.ensures ∙ c.if-log_waits.false) _ (rw c.block.ensures.bytes at c.in_ok-fits.ensures)
