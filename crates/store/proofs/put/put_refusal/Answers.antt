use Rattle.std.proofs.Common.{refl, sym, ◌∙◌}
use Rattle.std.proofs.lemmas.Result.{err_from_is_err_and}
use Rattle.layout.specs.Reasons.{number_of}
use Rattle.layout.proofs.Laws.Reasons.{reason}
use Rattle.std.proofs.lemmas.Bool.{leb-true}
use Rattle.store.specs.Put.{path_of}
use Rattle.store.proofs.Laws.Serials.{addressed}
use Rattle.store.proofs.Walks.Refusals.{address-refused, there-if, absent-if}
use Rattle.store.proofs.Walks.Prepares.{prepared-first-for, prepared-more, there-more}
use Rattle.store.proofs.put.put_refusal.Goals as goal

pub returns-in_err-address_refusal : goal.returns-in_err-address_refusal
returns-in_err-address_refusal c =
    let a = c.args in
    let why = c.in_err-address_refusal.field-0.0 in
    let q = err_from_is_err_and c.from_residual.result c.from_residual.ensures.1 in
    rw (q.1, q.2) (address-refused a.image.now a.directory.now a.serial.now a.time a.bytes.now (number_of why) c.in_err-address_refusal.ensures (reason why))

pub open_file-requires : goal.open_file-requires
open_file-requires c = (c.requires, (addressed _ _ _ (sym c.in_ok-address_refusal.ensures)).0)

pub first_refusal-requires : goal.first_refusal-requires
first_refusal-requires c = (c.requires, (addressed _ _ _ (sym c.in_ok-address_refusal.ensures)).0)

pub returns-in_default : goal.returns-in_default
returns-in_default c =
    let a = c.args in
    let why = c.in_default.field-0 in
    let right = addressed a.directory.now a.serial.now _ (sym c.in_ok-address_refusal.ensures) in
    let f = c.first_refusal.ensures in
    prepared-first-for a.image.now a.directory.now a.serial.now a.time a.bytes.now right.0 (leb-true _ _ right.1) c.requires
    (absent-if a.image.now a.directory.now a.serial.now right.0 (λ z. reason why (c.in_default.ensures ∙ z))) c.first_refusal.result f.place f.empty

pub more_refusal-requires : goal.more_refusal-requires
more_refusal-requires c =
    let a = c.args in
    let o = c.in-Ok.ensures in
    let right = addressed a.directory.now a.serial.now _ (sym c.in_ok-address_refusal.ensures) in
    (c.requires, record { path = path_of a.directory.now a.serial.now; accepted = sym o.number_is; located = o.file refl }, leb-true _ _ right.1)

pub returns-in_err-more_refusal : goal.returns-in_err-more_refusal
returns-in_err-more_refusal c =
    let a = c.args in
    let o = c.in-Ok.ensures in
    let right = addressed a.directory.now a.serial.now _ (sym c.in_ok-address_refusal.ensures) in
    let there = there-if a.image.now a.directory.now a.serial.now right.0 (sym o.number_is) in
    let why = c.in_err-more_refusal.field-0.0 in
    let q = err_from_is_err_and c.from_residual-in_err-more_refusal.result c.from_residual-in_err-more_refusal.ensures.1 in
    rw (q.1, q.2) (c.in_err-more_refusal.ensures ∙ sym (there-more a.image.now a.directory.now a.serial.now a.time a.bytes.now right.0 (leb-true _ _ right.1) c.requires there (o.file refl)))

pub returns : goal.returns
returns c =
    let a = c.args in
    let o = c.in-Ok.ensures in
    let right = addressed a.directory.now a.serial.now _ (sym c.in_ok-address_refusal.ensures) in
    let there = there-if a.image.now a.directory.now a.serial.now right.0 (sym o.number_is) in
    prepared-more a.image.now a.directory.now a.serial.now a.time a.bytes.now right.0 (leb-true _ _ right.1) c.requires there (o.file refl) 0 refl c.in_ok-more_refusal.ensures
