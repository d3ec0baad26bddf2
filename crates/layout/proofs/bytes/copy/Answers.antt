use Prim.Native.Nat.{ℕ}
use mathlib.Core.List.{◌++◌, append-nil}
use mathlib.Core.Path.{◌≡◌, refl, ap, ◌∙◌}
use native.Mathlib.Omega.{arith}
use lib.ListN.{length, take, drop, length-set}
use lib.Seq.{drop-length, take-length}
use Rattle.layout.proofs.Laws.Bytes.{copy_more}
use Rattle.layout.proofs.bytes.copy.Goals as goal

pub loop-i-init : goal.loop-i-init
loop-i-init c = (omega arith, refl, refl, refl)

pub bounds-src-i : goal.bounds-src-i
bounds-src-i c = omega arith

pub bounds-dst-i : goal.bounds-dst-i
bounds-dst-i c = omega arith

pub overflow_step-i : goal.overflow_step-i
overflow_step-i c = omega arith

pub loop-i-smaller : goal.loop-i-smaller
loop-i-smaller c = omega arith

pub loop-i-preserved : goal.loop-i-preserved
loop-i-preserved c =
    let a = c.args in (
      omega arith,
      refl,
      simp length-set c.loop-i.invariant.2,
      rw c.loop-i.invariant.3
          (copy_more a.src.now a.dst.now c.loop-i.i (omega arith) (omega arith)),
    )

pub shape_of-dst : goal.shape_of-dst
shape_of-dst c = c.loop-i.invariant.2

pub returns : goal.returns
returns c =
    let a = c.args in
    let e : c.loop-i.i ≡ length a.dst.now = omega arith in
    let f : c.loop-i.i ≡ length a.src.now = omega arith in
    c.loop-i.invariant.3 ∙ ap (λ (k : ℕ). take k a.src.now ++ drop c.loop-i.i a.dst.now) f ∙ rw (e, drop-length, append-nil, take-length)
