use mathlib.Core.Path.{refl, sym, ◌∙◌}
use native.Mathlib.Omega.{arith}
use borrow.Author.Tests.{not-true, not-false}
use Rattle.layout.proofs.Walks.Content.{below-nth, least-cases}
use Rattle.store.proofs.Walks.Zeros.{zeroing-here, zeroing-pass, zeroing-step, zeroing-stop, zeroing-end}
use Rattle.store.proofs.load.zero_along.Goals as goal

pub loop-rest-init : goal.loop-rest-init
loop-rest-init c = record { enough = c.requires.1; inside = below-nth _ _ _ _ c.requires.0; whole = refl }

pub entry-b-requires : goal.entry-b-requires
entry-b-requires c = let h = zeroing-here _ _ _ _ _ _ _ _ _ _ c.loop-rest.invariant (omega arith) in omega (arith, h, c.requires.0.shape.whole, c.requires.0.shape.low)

pub overflow_sub-left : goal.overflow_sub-left
overflow_sub-left c = let h = zeroing-here _ _ _ _ _ _ _ _ _ _ c.loop-rest.invariant (omega arith) in omega (arith, h)

pub loop-rest-smaller-then-o-ge512 : goal.loop-rest-smaller-then-o-ge512
loop-rest-smaller-then-o-ge512 c = let h = zeroing-here _ _ _ _ _ _ _ _ _ _ c.loop-rest.invariant (omega arith) in omega (arith, h)

pub loop-rest-preserved-then-o-ge512 : goal.loop-rest-preserved-then-o-ge512
loop-rest-preserved-then-o-ge512 c = rw c.entry-b.ensures (zeroing-pass _ _ _ _ _ _ _ _ _ _ c.loop-rest.invariant c.requires.0.shape.whole (omega arith) c.if-o-ge512.true)

pub overflow_sub-o-in-loop-rest : goal.overflow_sub-o-in-loop-rest
overflow_sub-o-in-loop-rest c = omega arith

pub zero_in_block-requires : goal.zero_in_block-requires
zero_in_block-requires c =
    let h = zeroing-here _ _ _ _ _ _ _ _ _ _ c.loop-rest.invariant (omega arith) in
    let f = least-cases _ _ _ c.if-o-ge512.false c.min-m.ensures in
    (omega (arith, h, c.requires.0.shape.whole), f.0)

pub returns-then-not-zero_in_block : goal.returns-then-not-zero_in_block
returns-then-not-zero_in_block c =
    let f = least-cases _ _ _ c.if-o-ge512.false c.min-m.ensures in
    sym (zeroing-stop _ _ _ _ _ _ _ _ _ _ c.loop-rest.invariant c.requires.0.shape.whole (omega arith) _ f (sym c.zero_in_block.ensures ∙ not-true _ c.if-not-zero_in_block.true-raw))

pub overflow_sub-rest : goal.overflow_sub-rest
overflow_sub-rest c = let f = least-cases _ _ _ c.if-o-ge512.false c.min-m.ensures in omega (arith, f.1)

pub entry-b-requires-in-loop-rest : goal.entry-b-requires-in-loop-rest
entry-b-requires-in-loop-rest c = let h = zeroing-here _ _ _ _ _ _ _ _ _ _ c.loop-rest.invariant (omega arith) in omega (arith, h, c.requires.0.shape.whole, c.requires.0.shape.low)

pub overflow_sub-left-in-loop-rest : goal.overflow_sub-left-in-loop-rest
overflow_sub-left-in-loop-rest c = let h = zeroing-here _ _ _ _ _ _ _ _ _ _ c.loop-rest.invariant (omega arith) in omega (arith, h)

pub loop-rest-smaller : goal.loop-rest-smaller
loop-rest-smaller c = let h = zeroing-here _ _ _ _ _ _ _ _ _ _ c.loop-rest.invariant (omega arith) in omega (arith, h)

pub loop-rest-preserved : goal.loop-rest-preserved
loop-rest-preserved c =
    let f = least-cases _ _ _ c.if-o-ge512.false c.min-m.ensures in
    rw c.entry-b-in-loop-rest.ensures
    (zeroing-step _ _ _ _ _ _ _ _ _ _ c.loop-rest.invariant c.requires.0.shape.whole (omega arith) _ f (sym c.zero_in_block.ensures ∙ not-false _ c.if-not-zero_in_block.false-raw))

pub returns : goal.returns
returns c = sym (zeroing-end _ _ _ _ _ _ _ _ _ _ c.loop-rest.invariant (omega arith))
