use Prim.Native.Nat.{◌+◌, ◌-◌, ◌*◌}
use mathlib.Core.Path.{refl, sym, ap, ◌∙◌}
use native.Mathlib.Omega.{arith}
use Rattle.plain_check.proofs.Walks.Slots.{place-first, place-next}
use Rattle.plain_check.proofs.Walks.Meets.{meet-start, meet-end, meet-skip, meet-child, goes_down}
use Prim.Native.Nat.{ℕ}
use Rattle.plain_check.proofs.check.+meet.Goals as goal

pub overflow_mul-d : goal.overflow_mul-d
overflow_mul-d t c = omega arith

pub overflow_add-d : goal.overflow_add-d
overflow_add-d t c = omega arith

pub number-size-requires : goal.number-size-requires
number-size-requires t c = omega arith

pub overflow_sub-more : goal.overflow_sub-more
overflow_sub-more t c = omega (arith, c.requires)

pub holds-requires : goal.holds-requires
holds-requires t c = c.requires.0

pub overflow_add-held : goal.overflow_add-held
overflow_add-held t c = omega (arith, c.requires, c.holds.ensures.1)

pub overflow_mul-e : goal.overflow_mul-e
overflow_mul-e t c = omega (arith, c.requires.0)

pub overflow_mul-k-end : goal.overflow_mul-k-end
overflow_mul-k-end t c = omega (arith, c.number-size.ensures.1)

pub loop-k-init : goal.loop-k-init
loop-k-init t c =
    record {
      low = omega arith;
      few = omega (arith, c.number-size.ensures.1);
      whole = ap (λ (x : ℕ). 4 * x) c.number-size.ensures.0;
      sums = omega (arith, c.requires, c.holds.ensures.1);
      place = place-first _ _ c.requires.0;
      equal = meet-start _ _ _ _ _ _ c.number-size.ensures.0 c.holds.ensures.0 refl _ _ _ c.requires.1;
    }

pub after-e-requires : goal.after-e-requires
after-e-requires t c = (c.loop-k.invariant.place.low, c.loop-k.invariant.place.even)

pub overflow_step-k : goal.overflow_step-k
overflow_step-k t c = omega arith

pub loop-k-smaller-then-levels-more : goal.loop-k-smaller-then-levels-more
loop-k-smaller-then-levels-more t c = omega arith

pub loop-k-preserved-then-levels-more : goal.loop-k-preserved-then-levels-more
loop-k-preserved-then-levels-more t c =
    let p = place-next _ _ _ (c.loop-k.k - 2) (c.loop-k.k - 1) _ c.loop-k.invariant.place (omega (arith, c.loop-k.invariant.low)) c.after-e.ensures.0 c.after-e.ensures.1 c.after-e.ensures.2 in
    record {
      low = omega (arith, c.loop-k.invariant.low);
      few = c.loop-k.invariant.few;
      whole = c.loop-k.invariant.whole;
      sums = c.loop-k.invariant.sums;
      place = place-next _ _ _ (c.loop-k.k - 2) (c.loop-k.k + 1 - 2) _ c.loop-k.invariant.place (omega (arith, c.loop-k.invariant.low)) c.after-e.ensures.0 c.after-e.ensures.1 c.after-e.ensures.2;
      equal = c.loop-k.invariant.equal ∙ meet-skip c.args.image.now _ c.args.b c.args.levels c.loop-k.k (4 * c.number-size.result) c.loop-k.more c.loop-k.held c.loop-k.invariant.low (omega arith) _ _ (p.here (omega (arith, c.loop-k.invariant.whole))) c.byte.ensures.0 _ c.is_directory.ensures c.if-levels-more.true;
    }

pub overflow_sub-levels : goal.overflow_sub-levels
overflow_sub-levels t c = omega (arith, (goes_down c.args.levels c.loop-k.more c.is_directory.result c.if-levels-more.false).0)

pub overflow_add-e : goal.overflow_add-e
overflow_add-e t c = omega (arith, c.after-e.ensures.1)

pub number-requires : goal.number-requires
number-requires t c = omega (arith, c.after-e.ensures.1)

pub meet-c-requires : goal.meet-c-requires
meet-c-requires t c =
    let g = goes_down c.args.levels c.loop-k.more c.is_directory.result c.if-levels-more.false in
    (omega (arith, g.0), (c.number.ensures.1, omega (arith, g.1), omega (arith, c.loop-k.invariant.sums, c.requires)))

pub overflow_step-k-in-loop-k : goal.overflow_step-k-in-loop-k
overflow_step-k-in-loop-k t c = omega arith

pub loop-k-smaller : goal.loop-k-smaller
loop-k-smaller t c = omega arith

pub loop-k-preserved : goal.loop-k-preserved
loop-k-preserved t c =
    let p = place-next _ _ _ (c.loop-k.k - 2) (c.loop-k.k - 1) _ c.loop-k.invariant.place (omega (arith, c.loop-k.invariant.low)) c.after-e.ensures.0 c.after-e.ensures.1 c.after-e.ensures.2 in
    let g = goes_down c.args.levels c.loop-k.more c.is_directory.result c.if-levels-more.false in
    record {
      low = omega (arith, c.loop-k.invariant.low);
      few = c.loop-k.invariant.few;
      whole = c.loop-k.invariant.whole;
      sums = omega (arith, c.loop-k.invariant.sums, c.meet-c.ensures.bound);
      place = place-next _ _ _ (c.loop-k.k - 2) (c.loop-k.k + 1 - 2) _ c.loop-k.invariant.place (omega (arith, c.loop-k.invariant.low)) c.after-e.ensures.0 c.after-e.ensures.1 c.after-e.ensures.2;
      equal = c.loop-k.invariant.equal ∙ meet-child c.args.image.now _ c.args.b c.args.levels c.loop-k.k (4 * c.number-size.result) c.loop-k.more c.loop-k.held c.loop-k.invariant.low (omega arith) _ _ (p.here (omega (arith, c.loop-k.invariant.whole))) c.byte.ensures.0 _ c.is_directory.ensures g.2 g.0 _ c.number.ensures.0 _ c.meet-c.ensures.equal;
    }

pub returns : goal.returns
returns t c = record { equal = meet-end c.args.image.now _ c.args.b c.args.levels c.loop-k.k (4 * c.number-size.result) c.loop-k.more c.loop-k.held (omega arith) ∙ sym c.loop-k.invariant.equal; bound = c.loop-k.invariant.sums }
