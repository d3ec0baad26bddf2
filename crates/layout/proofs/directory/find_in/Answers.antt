use Rattle.std.proofs.Common.{ℕ, List, ◌≡◌, ◌+◌, ◌-◌, sym, ap, ◌∙◌, arith}
use Rattle.layout.specs.Lists.{within}
use Rattle.layout.specs.Walks.Names.{may_hold}
use Rattle.layout.specs.Walks.Slots.{entry_at, entry_named, slot_in}
use Rattle.layout.proofs.Laws.Lists.{lowest-here, lowest-next, lowest-zero}
use Rattle.layout.proofs.Walks.Slots.{none-in-block}
use Rattle.layout.proofs.directory.find_in.Goals as goal

pub returns-then-not-may_hold : goal.returns-then-not-may_hold
returns-then-not-may_hold c =
    let a = c.args in
    let none = sym c.if-not-may_hold.true ∙ c.may_hold.ensures ∙ ap (λ (s : List ℕ). may_hold s a.name.now) c.block.ensures.bytes in
    lowest-zero (λ x. entry_named (within a.lo a.hi) a.image.now a.name.now (entry_at a.b x)) a.k a.j c.requires.2
    (λ i g l. none-in-block (within a.lo a.hi) a.image.now a.name.now a.b i c.requires.0 c.requires.3 none)

pub loop-at-init : goal.loop-at-init
loop-at-init c =
    let a = c.args in
    let e : a.k + a.j - a.k ≡ a.j = omega arith in
    ap (λ (j : ℕ). slot_in (entry_named (within a.lo a.hi) a.image.now a.name.now) a.b a.k j) (sym e)

pub returns-then-holds_at : goal.returns-then-holds_at
returns-then-holds_at c =
    let l = c.loop-at in
    let a = c.args in (
      sym (l.invariant ∙ lowest-here (λ x. entry_named (within a.lo a.hi) a.image.now a.name.now (entry_at a.b x)) l.at (a.k + a.j - l.at)
          (omega arith) (sym c.if-holds_at.true ∙ c.holds_at.ensures)),
      λ z. omega arith,
    )

pub loop-at-preserved : goal.loop-at-preserved
loop-at-preserved c =
    let l = c.loop-at in
    let a = c.args in
    let e : a.k + a.j - l.at - 1 ≡ a.k + a.j - (l.at + 1) = omega arith in
    l.invariant ∙ lowest-next (λ x. entry_named (within a.lo a.hi) a.image.now a.name.now (entry_at a.b x)) l.at (a.k + a.j - l.at)
    (omega arith) (sym c.if-holds_at.false ∙ c.holds_at.ensures)
    ∙ ap (λ (j : ℕ). slot_in (entry_named (within a.lo a.hi) a.image.now a.name.now) a.b (l.at + 1) j) e

pub returns : goal.returns
returns c =
    let l = c.loop-at in
    let a = c.args in
    let z : a.k + a.j - l.at ≡ 0 = omega arith in
    l.invariant ∙ ap (λ (j : ℕ). slot_in (entry_named (within a.lo a.hi) a.image.now a.name.now) a.b l.at j) z
