use Rattle.std.proofs.Common.{length, refl, sym, ap, ◌∙◌}
use Rattle.std.proofs.lemmas.Result.{err_from_is_err_and}
use Rattle.layout.specs.Reasons.{number_of}
use Rattle.layout.proofs.Laws.Reasons.{reason}
use Rattle.std.proofs.lemmas.Bool.{leb-true}
use Rattle.store.specs.Walks.Forms.{max_form}
use Rattle.store.specs.Walks.Loads.{asked_revision}
use Rattle.layout.proofs.Laws.Bytes.{length-zeros}
use Rattle.layout.proofs.Walks.Looks.{located-below}
use Rattle.store.proofs.Laws.Serials.{addressed}
use Rattle.store.proofs.Walks.Gets.{got-check, got-address, got-none, got-file, located-bytes, located_fits}
use Rattle.store.proofs.get.get_either.Goals as goal

pub returns-in_err-check : goal.returns-in_err-check
returns-in_err-check c =
    let a = c.args in
    let why = c.in_err-check.field-0.0 in
    let q = err_from_is_err_and c.from_residual.result c.from_residual.ensures.1 in
    rw (q.1, q.2) (got-check a.image.now a.directory.now a.serial.now (asked_revision a.revision) a.buffer.now (number_of why) c.in_err-check.ensures (reason why))

pub returns-in_err-address_refusal : goal.returns-in_err-address_refusal
returns-in_err-address_refusal c =
    let a = c.args in
    let why = c.in_err-address_refusal.field-0.0 in
    let q = err_from_is_err_and c.from_residual-in_err-address_refusal.result c.from_residual-in_err-address_refusal.ensures.1 in
    rw (q.1, q.2) (got-address a.image.now a.directory.now a.serial.now (asked_revision a.revision) a.buffer.now (sym c.in_ok-check.ensures) (number_of why) c.in_err-address_refusal.ensures (reason why))

pub open_file-requires : goal.open_file-requires
open_file-requires c = (sym c.in_ok-check.ensures, (addressed _ _ _ (sym c.in_ok-address_refusal.ensures)).0)

pub returns-in_default : goal.returns-in_default
returns-in_default c =
    let a = c.args in
    let why = c.in_default.field-0 in
    got-none a.image.now a.directory.now a.serial.now (asked_revision a.revision) a.buffer.now (sym c.in_ok-check.ensures) (sym c.in_ok-address_refusal.ensures) (λ z. reason why (c.in_default.ensures ∙ z))

pub get_from-requires : goal.get_from-requires
get_from-requires c =
    let o = c.in-Ok.ensures in
    let l = o.file refl in
    let r = sym o.number_is in
    let ok = sym c.in_ok-check.ensures in
    (located-below l r ok, located_fits l r ok, ap length c.empty_room-room.ensures ∙ length-zeros max_form, leb-true _ _ (addressed _ _ _ (sym c.in_ok-address_refusal.ensures)).1)

pub returns : goal.returns
returns c =
    let o = c.in-Ok.ensures in
    c.get_from.ensures ∙ got-file _ _ _ _ _ (sym c.in_ok-check.ensures) (sym c.in_ok-address_refusal.ensures) (sym o.number_is) _ (located-bytes (o.file refl))
