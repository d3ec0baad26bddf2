use Prim.Native.Nat.{ℕ, ◌-◌}
use mathlib.Core.Path.{sym, ap, ◌∙◌}
use Rattle.std.proofs.Common.{rules, arith}
use Rattle.layout.specs.Lists.{interval, every}
use Rattle.plain_check.specs.Plain.{Holds, answer, counted}
use Rattle.plain_check.proofs.Walks.Tests.{each-end, each-stop, each_next}
use Rattle.plain_check.proofs.Walks.Stages.{counted-not, counted-so}
use Rattle.plain_check.proofs.check.all_counted.Goals as goal

-- src/check.rt:374:9
pub root_block-root-requires : goal.root_block-root-requires
root_block-root-requires c = c.requires.high

-- src/check.rt:375:5
pub loop-b-init : goal.loop-b-init
loop-b-init c = (omega arith, ap (λ (x : ℕ). every (counted c.args.image.now) (interval x (c.args.n - x))) (sym c.root_block-root.ensures))

-- src/check.rt:377:21
pub next-requires : goal.next-requires
next-requires c = omega (arith, c.requires.high)

-- src/check.rt:377:20
pub overflow_cast-next : goal.overflow_cast-next
overflow_cast-next c = omega arith

-- src/check.rt:378:13
pub returns-then-held-next : goal.returns-then-held-next
unfolding answer
returns-then-held-next c = sym (c.loop-b.invariant.1 ∙ each-stop _ c.loop-b.b-counter c.args.n (omega arith) (counted-not _ _ _ c.requires c.root_block-root.ensures _ _ _ (c.tally-held.ensures (Holds c.loop-b.b-counter) (λ first k r h l p. search rules)) c.next.ensures.0 c.if-held-next.true))

-- src/check.rt:375:9
pub overflow_step-b : goal.overflow_step-b
overflow_step-b c = omega arith

-- src/check.rt:375:5
pub loop-b-smaller : goal.loop-b-smaller
loop-b-smaller c = omega arith

-- src/check.rt:375:5
pub loop-b-preserved : goal.loop-b-preserved
unfolding answer
loop-b-preserved c = (omega arith, c.loop-b.invariant.1 ∙ each_next _ c.loop-b.b-counter c.args.n (omega arith) (counted-so _ _ _ c.requires c.root_block-root.ensures _ _ _ (c.tally-held.ensures (Holds c.loop-b.b-counter) (λ first k r h l p. search rules)) c.next.ensures.0 c.if-held-next.false))

-- src/check.rt:370:1
pub returns : goal.returns
returns c = each-end _ c.loop-b.b-counter c.args.n (omega arith) ∙ sym c.loop-b.invariant.1
