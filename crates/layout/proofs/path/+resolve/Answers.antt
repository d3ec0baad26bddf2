use Rattle.std.proofs.Common.{ℕ, List, Option, true, length-take, length-drop, ◌+◌, ◌≡◌, refl, sym, ap, ◌∙◌, subst, arith}
use Rattle.layout.specs.Lists.{every}
use Rattle.layout.specs.Directory.{good_name}
use Rattle.layout.specs.Paths.{cut, leading, resolve}
use Rattle.layout.specs.Walks.Paths.{Along}
use Rattle.layout.specs.Walks.Slots.{NoneIsZero, SomeUnlessZero}
use Rattle.layout.proofs.Laws.Bytes.{part-rest}
use Rattle.layout.proofs.Walks.Paths.{resolve-here, resolve-none, resolve-down, along-here, along-down, good-first, good-rest}
use Rattle.layout.proofs.path.+resolve.Goals as goal

pub returns-then-k-rest-clause-number : goal.returns-then-k-rest-clause-number
returns-then-k-rest-clause-number t c = let a = c.args in resolve-here a.image.now a.n a.b a.rest.now _ c.part_length-k.ensures.0 c.if-k-rest.true

pub returns-then-k-rest-clause-some : goal.returns-then-k-rest-clause-some
returns-then-k-rest-clause-some t c = let a = c.args in λ h. (resolve-here a.image.now a.n a.b a.rest.now _ c.part_length-k.ensures.0 c.if-k-rest.true, h)

pub child_of-requires : goal.child_of-requires
child_of-requires t c =
    let a = c.args in
    let p = c.requires in
    let w = c.part_length-k.result in (
      along-here a.image.now a.n a.b a.rest.now w c.part_length-k.ensures.0 (omega arith) p.0,
      good-first a.image.now a.n a.b a.rest.now w c.part_length-k.ensures.0 (omega arith) p.1,
    )

pub returns-in_err-child-clause-number : goal.returns-in_err-child-clause-number
returns-in_err-child-clause-number t c =
    let a = c.args in
    subst (λ (r : Option ℕ). NoneIsZero (resolve a.image.now a.b (leading (cut a.rest.now))) r) (sym c.from_residual.ensures)
    (sym (resolve-none a.image.now a.n a.b a.rest.now _ c.part_length-k.ensures.0 (omega arith) 0 (sym c.in_err-child.ensures) refl))

pub returns-in_err-child-clause-some : goal.returns-in_err-child-clause-some
returns-in_err-child-clause-some t c =
    let a = c.args in
    λ h. subst (λ (r : Option ℕ). SomeUnlessZero (resolve a.image.now a.b (leading (cut a.rest.now))) r) (sym c.from_residual.ensures)
    (sym (resolve-none a.image.now a.n a.b a.rest.now _ c.part_length-k.ensures.0 (omega arith) 0 (sym c.in_err-child.ensures) refl))

pub resolve-requires : goal.resolve-requires
resolve-requires t c =
    let a = c.args in
    let p = c.requires in
    let w = c.part_length-k.result in
    let e = c.in_ok-child.ensures in
    let q = part-rest a.rest.now (w + 1) in (
      simp (length-take, length-drop) (omega arith),
      (
        subst (λ (l : List ℕ). Along a.image.now a.n c.in_ok-child.child (leading (cut l))) (sym q) (along-down a.image.now a.n a.b a.rest.now w c.part_length-k.ensures.0 (omega arith) _ e.0 e.1 p.0),
        subst (λ (l : List ℕ). every good_name (cut l) ≡ true) (sym q) (good-rest a.image.now a.n a.b a.rest.now w c.part_length-k.ensures.0 (omega arith) p.1),
      ),
    )

pub returns-clause-number : goal.returns-clause-number
returns-clause-number t c =
    let a = c.args in
    let w = c.part_length-k.result in
    let e = c.in_ok-child.ensures in
    subst (λ (x : ℕ). NoneIsZero x c.resolve.result)
    (ap (λ (l : List ℕ). resolve a.image.now c.in_ok-child.child (leading (cut l))) (part-rest a.rest.now (w + 1))
    ∙ resolve-down a.image.now a.n a.b a.rest.now w c.part_length-k.ensures.0 (omega arith) _ e.0 e.1)
    c.resolve.ensures.number

pub returns-clause-some : goal.returns-clause-some
returns-clause-some t c =
    let a = c.args in
    let w = c.part_length-k.result in
    let e = c.in_ok-child.ensures in
    λ h. subst (λ (x : ℕ). SomeUnlessZero x c.resolve.result)
    (ap (λ (l : List ℕ). resolve a.image.now c.in_ok-child.child (leading (cut l))) (part-rest a.rest.now (w + 1))
    ∙ resolve-down a.image.now a.n a.b a.rest.now w c.part_length-k.ensures.0 (omega arith) _ e.0 e.1)
    (c.resolve.ensures.some e.1)
