use Prim.Native.Nat.{ℕ}
use mathlib.Core.Path.{sym, ◌∙◌}
use native.Mathlib.Omega.{arith}
use Rattle.plain_check.specs.Walks.{new_from}
use Rattle.plain_check.proofs.Walks.Tests.{from_first}
use Rattle.plain_check.proofs.Walks.Meets.{held-before, new-end, new-stop, new-next}
use Rattle.plain_check.proofs.check.new_blocks.Goals as goal

-- src/check.rt:182:9
pub root_block-root-requires : goal.root_block-root-requires
root_block-root-requires c = c.requires.0.high

-- src/check.rt:184:5
pub loop-i-init : goal.loop-i-init
loop-i-init c = (c.requires.3, omega arith, from_first (λ (x : ℕ). new_from c.args.image.now c.args.met c.args.b x) _)

-- src/check.rt:185:13
pub meet-requires : goal.meet-requires
meet-requires c = (omega (arith, c.root_block-root.ensures, c.requires.0.high), c.requires.1, omega (arith, c.requires.2, c.requires.0.high))

-- src/check.rt:187:13
pub returns-then-meet-ne0 : goal.returns-then-meet-ne0
returns-then-meet-ne0 c = sym (c.loop-i.invariant.2 ∙ new-stop c.args.image.now c.args.met c.loop-i.at c.args.k c.loop-i.i (omega arith) _ (held-before _ _ _ _ _ _ _ c.requires.0 c.root_block-root.ensures c.meet.ensures.equal) c.if-meet-ne0.true)

-- src/check.rt:189:9
pub next-at-requires : goal.next-at-requires
next-at-requires c = c.loop-i.invariant.0

-- src/check.rt:184:9
pub overflow_step-i : goal.overflow_step-i
overflow_step-i c = omega arith

-- src/check.rt:184:5
pub loop-i-smaller : goal.loop-i-smaller
loop-i-smaller c = omega arith

-- src/check.rt:184:5
pub loop-i-preserved : goal.loop-i-preserved
loop-i-preserved c = (c.next-at.ensures.1, omega arith, c.loop-i.invariant.2 ∙ new-next c.args.image.now c.args.met c.loop-i.at c.args.k c.loop-i.i (omega arith) _ (held-before _ _ _ _ _ _ _ c.requires.0 c.root_block-root.ensures c.meet.ensures.equal) c.if-meet-ne0.false _ c.next-at.ensures.0)

-- src/check.rt:178:1
pub returns : goal.returns
returns c = new-end c.args.image.now c.args.met c.loop-i.at c.args.k c.loop-i.i (omega arith) ∙ sym c.loop-i.invariant.2
