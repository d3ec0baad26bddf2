use Rattle.std.proofs.Common.{ℕ, refl, sym, ap, ◌∙◌, arith}
use Rattle.std.proofs.lemmas.Result.{err_from_is_err_and}
use Rattle.layout.specs.Reasons.{number_of, outcome}
use Rattle.layout.proofs.Laws.Reasons.{reason}
use Rattle.layout.proofs.Walks.Looks.{whole-given}
use Rattle.layout.proofs.Walks.Shapes.{sound-shape}
use Rattle.volume.specs.Walks.Places.{brought_refusal}
use Rattle.volume.proofs.Walks.Places.{brought-fine, place-as}
use Rattle.volume.proofs.Walks.CreateDirectory.{create-directory-shape, create-directory-brought, create-directory-place, create-directory-full, create-directory-fine}
use Rattle.volume.proofs.create_directory.create_directory_refusal.Goals as goal

pub returns-then-not-shaped : goal.returns-then-not-shaped
returns-then-not-shaped c =
    let a = c.args in
    create-directory-shape a.image.now a.path.now a.kind a.flags a.d (sym c.if-not-shaped.true ∙ c.shaped.ensures)

pub returns-in_err-accept_brought : goal.returns-in_err-accept_brought
returns-in_err-accept_brought c =
    let a = c.args in
    let why = c.in_err-accept_brought.field-0.0 in
    let q = err_from_is_err_and c.from_residual.result c.from_residual.ensures.1 in
    rw (q.1, q.2)
    (create-directory-brought a.image.now a.path.now a.kind a.flags a.d (sym c.if-not-shaped.false ∙ c.shaped.ensures) (number_of why)
    (c.in_err-accept_brought.ensures ∙ ap (λ (x : ℕ). brought_refusal x a.flags) c.whole_path_refusal.ensures) (reason why))

pub find_place-requires : goal.find_place-requires
find_place-requires c =
    let b = brought-fine (outcome c.whole_path_refusal.result) c.args.flags 0 c.in_ok-accept_brought.ensures refl in
    whole-given _ _ c.requires (b.0 ∙ c.whole_path_refusal.ensures)

pub returns-in_err-place : goal.returns-in_err-place
returns-in_err-place c =
    let a = c.args in
    let why = c.in_err-place.field-0.0 in
    let e = c.in_err-place.ensures in
    let b = brought-fine (outcome c.whole_path_refusal.result) a.flags 0 c.in_ok-accept_brought.ensures refl in
    let q = err_from_is_err_and c.from_residual-in_err-place.result c.from_residual-in_err-place.ensures.1 in
    rw (q.1, q.2)
    (e ∙ create-directory-place a.image.now a.path.now a.kind a.flags a.d (sym c.if-not-shaped.false ∙ c.shaped.ensures) (b.0 ∙ c.whole_path_refusal.ensures) b.1
    (λ z. reason why (e ∙ z)))

pub header_number-requires : goal.header_number-requires
header_number-requires c =
    let h = sound-shape _ c.requires in
    (omega arith, omega arith)

pub returns-then-header_number-d : goal.returns-then-header_number-d
returns-then-header_number-d c =
    let a = c.args in
    let b = brought-fine (outcome c.whole_path_refusal.result) a.flags 0 c.in_ok-accept_brought.ensures refl in
    create-directory-full a.image.now a.path.now a.kind a.flags a.d (sym c.if-not-shaped.false ∙ c.shaped.ensures) (b.0 ∙ c.whole_path_refusal.ensures) b.1
    (sym c.in_ok-place.ensures.number_is) c.requires _ c.header_number.ensures c.if-header_number-d.true

pub returns : goal.returns
returns c =
    let a = c.args in
    let b = brought-fine (outcome c.whole_path_refusal.result) a.flags 0 c.in_ok-accept_brought.ensures refl in
    let o = c.in_ok-place.ensures in
    let z = sym o.number_is in
    place-as
    (z ∙ create-directory-fine a.image.now a.path.now a.kind a.flags a.d (sym c.if-not-shaped.false ∙ c.shaped.ensures) (b.0 ∙ c.whole_path_refusal.ensures) b.1 z c.requires
    _ c.header_number.ensures c.if-header_number-d.false)
    o
