use Prim.Native.Nat.{◌+◌}
use mathlib.Core.Path.{refl, sym, ◌∙◌}
use native.Mathlib.Omega.{arith}
use Rattle.plain_check.specs.Walks.{same_field}
use Rattle.plain_check.proofs.Walks.Tests.{each-end, each-stop, each_next}
use Rattle.plain_check.proofs.Walks.Names.{byte-same, byte-other}
use Rattle.plain_check.proofs.check.same_name.Goals as goal

-- src/check.rt:141:5
pub loop-i-init : goal.loop-i-init
unfolding same_field
loop-i-init c = (omega arith, omega arith, refl)

-- src/check.rt:142:24
pub overflow_add-a : goal.overflow_add-a
overflow_add-a c = omega arith

-- src/check.rt:142:12
pub byte-requires : goal.byte-requires
byte-requires c = omega arith

-- src/check.rt:142:46
pub overflow_add-b : goal.overflow_add-b
overflow_add-b c = omega arith

-- src/check.rt:142:34
pub byte-requires-in-loop-i : goal.byte-requires-in-loop-i
byte-requires-in-loop-i c = omega arith

-- src/check.rt:143:13
pub returns-then-byte : goal.returns-then-byte
returns-then-byte c = sym (c.loop-i.invariant.2 ∙ each-stop _ c.loop-i.i 128 (omega arith) (byte-other c.args.image.now (c.args.a + c.loop-i.i) (c.args.b + c.loop-i.i) _ _ c.byte.ensures.0 c.byte-in-loop-i.ensures.0 c.if-byte.true))

-- src/check.rt:141:9
pub overflow_step-i : goal.overflow_step-i
overflow_step-i c = omega arith

-- src/check.rt:141:5
pub loop-i-smaller : goal.loop-i-smaller
loop-i-smaller c = omega arith

-- src/check.rt:141:5
pub loop-i-preserved : goal.loop-i-preserved
loop-i-preserved c = (omega arith, omega arith, c.loop-i.invariant.2 ∙ each_next _ c.loop-i.i 128 (omega arith) (byte-same c.args.image.now (c.args.a + c.loop-i.i) (c.args.b + c.loop-i.i) _ _ c.byte.ensures.0 c.byte-in-loop-i.ensures.0 c.if-byte.false))

-- src/check.rt:137:1
pub returns : goal.returns
returns c = each-end _ c.loop-i.i 128 (omega arith) ∙ sym c.loop-i.invariant.2
