use Rattle.std.proofs.Common.{◌+◌, ◌%◌, ◌≤◌, refl, ◌∙◌, arith}
use Rattle.layout.specs.Lists.{within}
use Rattle.layout.specs.Table.{next}
use Rattle.layout.specs.Walks.Slots.{entry_named}
use Rattle.layout.proofs.Walks.Slots.{place-below, place-first, place-on, slot_from-end, slot_from-skip, slot_of-from, stands-in, stands-none}
use Rattle.layout.proofs.directory.find.Goals as goal

pub loop-left-init : goal.loop-left-init
loop-left-init c =
    let a = c.args in
    (place-first (next a.image.now) a.first a.d (omega arith), refl, omega arith)

pub find_in-requires : goal.find_in-requires
find_in-requires c =
    let l = c.loop-left in
    let p = c.requires in
    let h = place-below _ _ _ _ _ _ p.0.blocks l.invariant.0 in
    (omega (arith, h, p.0.shape), omega (arith, l.invariant.0.left, p.0.blocks.few), l.invariant.2, p.1, c.ending-w.ensures)

pub returns-in-Some : goal.returns-in-Some
returns-in-Some c =
    let l = c.loop-left in
    let a = c.args in
    let bs = c.requires.0.blocks in
    let e = c.in-Some.ensures in (
      stands-in (entry_named (within a.lo a.hi) a.image.now a.name.now) _ _ a.d _ _ _ _ c.min-j.result _ bs l.invariant.0
          (omega arith) (omega arith) l.invariant.2 e.0 e.1
          (slot_of-from (within a.lo a.hi) a.image.now _ a.name.now a.d bs.size ∙ l.invariant.1),
      e.1,
    )

pub overflow_add-k : goal.overflow_add-k
overflow_add-k c = omega arith

pub following-b-requires : goal.following-b-requires
following-b-requires c =
    let l = c.loop-left in
    let h = place-below _ _ _ _ _ _ c.requires.0.blocks l.invariant.0 in
    omega (arith, h, c.requires.0.shape)

pub loop-left-preserved : goal.loop-left-preserved
loop-left-preserved c =
    let l = c.loop-left in
    let a = c.args in
    let j = c.min-j.result in
    let one : l.k % 4 + j ≤ 4 = omega arith in
    let few : j ≤ l.left = omega arith in (
      place-on _ _ _ _ _ _ j _ l.invariant.0 (omega arith) few one c.following-b.ensures,
      l.invariant.1 ∙ slot_from-skip (entry_named (within a.lo a.hi) a.image.now a.name.now) _ _ _ _ _ j l.invariant.0 one few l.invariant.2
          c.in_default.ensures,
      omega arith,
    )

pub returns : goal.returns
returns c =
    let a = c.args in
    let p = c.requires in
    let l = c.loop-left in
    stands-none _ _ _ (slot_of-from (within a.lo a.hi) a.image.now _ a.name.now a.d p.0.blocks.size ∙ l.invariant.1 ∙ slot_from-end
    (entry_named (within a.lo a.hi) a.image.now a.name.now) _ _ _ (omega arith))
