use Rattle.std.proofs.Common.{ℕ, refl, sym, ap, subst, ◌∙◌}
use Rattle.std.proofs.lemmas.Result.{err_from_is_err_and}
use Rattle.layout.specs.Reasons.{number_of, outcome}
use Rattle.layout.proofs.Laws.Reasons.{reason}
use Rattle.layout.proofs.Walks.Looks.{form-given}
use Rattle.volume.specs.Walks.Places.{brought_refusal, SearchedFor}
use Rattle.volume.proofs.Walks.Places.{brought-fine}
use Rattle.volume.proofs.Walks.Create.{refused-kind, refused-brought, by_place}
use Rattle.volume.proofs.create.create_refusal.Goals as goal

pub returns-then-not-is_file : goal.returns-then-not-is_file
returns-then-not-is_file c =
    let a = c.args in
    refused-kind a.image.now a.path.now a.kind a.flags (sym c.if-not-is_file.true ∙ c.is_file.ensures)

pub returns-in_err-accept_brought : goal.returns-in_err-accept_brought
returns-in_err-accept_brought c =
    let a = c.args in
    let why = c.in_err-accept_brought.field-0.0 in
    let q = err_from_is_err_and c.from_residual.result c.from_residual.ensures.1 in
    rw (q.1, q.2)
    (refused-brought a.image.now a.path.now a.kind a.flags (sym c.if-not-is_file.false ∙ c.is_file.ensures) (number_of why)
    (c.in_err-accept_brought.ensures ∙ ap (λ (x : ℕ). brought_refusal x a.flags) c.path_refusal.ensures) (reason why))

pub find_place-requires : goal.find_place-requires
find_place-requires c =
    let b = brought-fine (outcome c.path_refusal.result) c.args.flags 0 c.in_ok-accept_brought.ensures refl in
    form-given _ _ c.requires (b.0 ∙ c.path_refusal.ensures)

pub returns : goal.returns
returns c =
    let a = c.args in
    let b = brought-fine (outcome c.path_refusal.result) a.flags 0 c.in_ok-accept_brought.ensures refl in
    let same = by_place a.image.now a.path.now a.kind a.flags (sym c.if-not-is_file.false ∙ c.is_file.ensures)
    (form-given a.image.now a.path.now c.requires (b.0 ∙ c.path_refusal.ensures)) b.1 in
    subst (λ (x : ℕ). SearchedFor a.image.now a.path.now x c.find_place.result) same c.find_place.ensures
