use Rattle.std.proofs.Common.{refl, sym, ◌∙◌}
use Rattle.layout.proofs.Walks.Looks.{whole-bad}
use Rattle.store.proofs.Walks.Serials.{address-unfit, address_unnamed, address-root, address-form, address-levels, whole-right}
use Rattle.store.proofs.serial.address_refusal.Goals.{then-not-fits-via-then-not-fits, then-not-fits-via-else-not-fits+then-not-serial_ok}
use Rattle.store.proofs.serial.address_refusal.Goals as goal

pub returns-then-not-fits : goal.returns-then-not-fits
returns-then-not-fits c =
    let a = c.args in
    elim c.then-not-fits.branch [
      | then-not-fits-via-then-not-fits w ↦ address-unfit a.directory.now a.serial.now a.fits w.if-not-fits.true
      | then-not-fits-via-else-not-fits+then-not-serial_ok w ↦ address_unnamed a.directory.now a.serial.now a.fits (sym w.serial_ok.ensures ∙ w.if-not-serial_ok.true)
    ]

pub returns-then-is_root : goal.returns-then-is_root
returns-then-is_root c = let a = c.args in address-root a.directory.now a.serial.now a.fits c.if-not-fits.false (sym c.serial_ok.ensures ∙ c.if-not-serial_ok.false) (sym c.is_root.ensures ∙ c.if-is_root.true)

pub returns-in-None : goal.returns-in-None
returns-in-None c =
    let a = c.args in
    address-form a.directory.now a.serial.now a.fits c.if-not-fits.false (sym c.serial_ok.ensures ∙ c.if-not-serial_ok.false) (sym c.is_root.ensures ∙ c.if-is_root.false) 9
    (whole-bad a.directory.now 0 (sym c.in-None.ensures) refl) refl

pub returns-in-Some : goal.returns-in-Some
returns-in-Some c =
    let a = c.args in
    let e = c.in-Some.ensures in
    address-levels a.directory.now a.serial.now a.fits c.if-not-fits.false (sym c.serial_ok.ensures ∙ c.if-not-serial_ok.false) (sym c.is_root.ensures ∙ c.if-is_root.false) _ c.whole_path_refusal.ensures
    (λ z. whole-right a.directory.now (λ y. e.1 (e.0 ∙ y)) (sym c.whole_path_refusal.ensures ∙ z))
