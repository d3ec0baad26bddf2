use Prim.Native.Nat.{◌+◌, ◌-◌}
use mathlib.Core.Path.{sym, ◌∙◌}
use native.Mathlib.Omega.{arith}
use Rattle.plain_check.proofs.Walks.Slots.{place-first, place-next}
use Rattle.plain_check.proofs.Walks.Stage5.{other-start, other-end, other-clash, other-next}
use Rattle.plain_check.proofs.check.new_name.Goals as goal

-- src/check.rt:257:17
pub overflow_mul-o : goal.overflow_mul-o
overflow_mul-o c = omega (arith, c.requires.0)

-- src/check.rt:258:5
pub loop-j-init : goal.loop-j-init
loop-j-init c = (omega arith, c.requires.1, place-first _ _ c.requires.0, other-start _ _ _ _)

-- src/check.rt:259:9
pub after-o-requires : goal.after-o-requires
after-o-requires c = (c.loop-j.invariant.2.low, c.loop-j.invariant.2.even)

-- src/check.rt:260:60
pub same_name-requires : goal.same_name-requires
same_name-requires c = (omega (arith, c.after-o.ensures.1), c.requires.3)

-- src/check.rt:261:13
pub returns-then-byte-same_name : goal.returns-then-byte-same_name
returns-then-byte-same_name c =
    let p = place-next _ _ _ (c.loop-j.j - 2) (c.loop-j.j - 1) _ c.loop-j.invariant.2 (omega arith) c.after-o.ensures.0 c.after-o.ensures.1 c.after-o.ensures.2 in
    sym (c.loop-j.invariant.3 ∙ other-clash c.args.image.now _ c.args.e c.args.k c.loop-j.j c.loop-j.invariant.0 (omega arith) _ _ _ _ (p.here (omega (arith, c.requires.2))) c.byte.ensures.0 c.byte-in-loop-j.ensures.0 c.same_name.ensures c.if-byte-same_name.true)

-- src/check.rt:258:9
pub overflow_step-j : goal.overflow_step-j
overflow_step-j c = omega arith

-- src/check.rt:258:5
pub loop-j-smaller : goal.loop-j-smaller
loop-j-smaller c = omega arith

-- src/check.rt:258:5
pub loop-j-preserved : goal.loop-j-preserved
loop-j-preserved c =
    let p = place-next _ _ _ (c.loop-j.j - 2) (c.loop-j.j - 1) _ c.loop-j.invariant.2 (omega arith) c.after-o.ensures.0 c.after-o.ensures.1 c.after-o.ensures.2 in
    (omega arith, omega arith, place-next _ _ _ (c.loop-j.j - 2) (c.loop-j.j + 1 - 2) _ c.loop-j.invariant.2 (omega arith) c.after-o.ensures.0 c.after-o.ensures.1 c.after-o.ensures.2, c.loop-j.invariant.3 ∙ other-next c.args.image.now _ c.args.e c.args.k c.loop-j.j c.loop-j.invariant.0 (omega arith) _ _ _ _ (p.here (omega (arith, c.requires.2))) c.byte.ensures.0 c.byte-in-loop-j.ensures.0 c.same_name.ensures c.if-byte-same_name.false)

-- src/check.rt:253:1
pub returns : goal.returns
returns c = other-end c.args.image.now _ c.args.e c.args.k c.loop-j.j (omega arith) ∙ sym c.loop-j.invariant.3
