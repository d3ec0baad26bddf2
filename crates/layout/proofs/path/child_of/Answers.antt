use Rattle.std.proofs.Common.{ℕ, List, Option, refl, sym, ◌∙◌, subst, arith}
use Rattle.layout.specs.Directory.{is_directory, slot_of}
use Rattle.layout.specs.Paths.{child_of}
use Rattle.layout.specs.Walks.Shapes.{DirectoryAt}
use Rattle.layout.specs.Walks.Slots.{SomeUnlessZero, Stands}
use Rattle.layout.proofs.Walks.Visits.{self-number, at-below}
use Rattle.layout.proofs.Walks.Paths.{directory-is, child_of-none, child_of-found}
use Rattle.layout.proofs.path.child_of.Goals as goal

pub number_at-d-requires : goal.number_at-d-requires
number_at-d-requires c = let h = at-below c.requires.0 in (omega (arith, h, c.requires.0.shape), omega arith)

pub find-requires : goal.find-requires
find-requires c =
    let a = c.args in
    let p = c.requires in
    (subst (DirectoryAt a.image.now a.n a.b) (sym (self-number a.image.now a.b _ 12 c.number_at-d.ensures)) p.0, p.1)

pub returns-in_err-at : goal.returns-in_err-at
returns-in_err-at c =
    let a = c.args in
    let q = directory-is a.image.now a.b _ c.number_at-d.ensures in
    let st = subst (λ (ds : List ℕ). Stands ds a.n (slot_of is_directory a.image.now ds a.name.now) 0 0) q c.in_err-at.ensures in
    subst (λ (r : Option ℕ). SomeUnlessZero (child_of a.image.now a.b a.name.now) r) (sym c.from_residual.ensures) (sym (child_of-none a.image.now a.b a.name.now a.n _ _ st refl))

pub number_at-child-requires : goal.number_at-child-requires
number_at-child-requires c = let e = c.in_ok-at.ensures in let h = e.0.block e.1 in (omega (arith, h.0, c.requires.0.shape), omega arith)

pub returns-then-child-eq0 : goal.returns-then-child-eq0
returns-then-child-eq0 c =
    let a = c.args in
    let e = c.in_ok-at.ensures in
    let at = c.in_ok-at.at in
    let q = directory-is a.image.now a.b _ c.number_at-d.ensures in
    let st = subst (λ (ds : List ℕ). Stands ds a.n (slot_of is_directory a.image.now ds a.name.now) at.slot at.block) q e.0 in
    sym (child_of-found a.image.now a.b a.name.now a.n _ _ st e.1 _ c.number_at-child.ensures) ∙ c.if-child-eq0.true

pub returns-else-child-eq0 : goal.returns-else-child-eq0
returns-else-child-eq0 c =
    let a = c.args in
    let e = c.in_ok-at.ensures in
    let at = c.in_ok-at.at in
    let q = directory-is a.image.now a.b _ c.number_at-d.ensures in
    let st = subst (λ (ds : List ℕ). Stands ds a.n (slot_of is_directory a.image.now ds a.name.now) at.slot at.block) q e.0 in
    (child_of-found a.image.now a.b a.name.now a.n _ _ st e.1 _ c.number_at-child.ensures, c.if-child-eq0.false)
