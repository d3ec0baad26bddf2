use Rattle.std.proofs.Common.{ℕ, ◌+◌, ◌-◌, ◌*◌, refl, ap, arith}
use mathlib.Core.Logic.{inl}
use Rattle.plain_check.proofs.Walks.Slots.{place-first, place-next}
use Rattle.plain_check.proofs.Walks.Tallies.{sofar-over, sofar-end, sofar-more, sofar-down, tally-start, rest_end, rest-skip, rest-child, goes_down}
use Rattle.plain_check.proofs.check.+tally.Goals as goal

pub loop-k-init : goal.loop-k-init
loop-k-init g t c =
    record {
      low = omega arith;
      few = omega (arith, c.number-size.ensures.1);
      whole = ap (λ (x : ℕ). 4 * x) c.number-size.ensures.0;
      place = place-first _ _ c.requires.2;
      sums = λ q a. inl (tally-start q c.args.image.now c.args.n c.args.d c.args.levels _ _ _ _ c.number-size.ensures.0 (a _ _ _ c.requires.2 c.number-size.ensures.1 c.ask.ensures) refl);
    }

pub loop-k-preserved-then-levels-is_directory : goal.loop-k-preserved-then-levels-is_directory
loop-k-preserved-then-levels-is_directory g t c =
    let i = c.loop-k.invariant in
    let p = place-next _ _ _ (c.loop-k.k - 2) (c.loop-k.k - 1) _ i.place (omega (arith, i.low)) c.after-e.ensures.0 c.after-e.ensures.1 c.after-e.ensures.2 in
    record {
      low = omega (arith, i.low);
      few = i.few;
      whole = i.whole;
      place = place-next _ _ _ (c.loop-k.k - 2) (c.loop-k.k + 1 - 2) _ i.place (omega (arith, i.low)) c.after-e.ensures.0 c.after-e.ensures.1 c.after-e.ensures.2;
      sums = λ q a. sofar-more _ _ _ _ (i.sums q a) c.if-n-sum.false _ _ (rest-skip q c.args.image.now c.args.n c.args.d c.args.levels c.loop-k.k (4 * c.number-size.result) i.low (omega arith) _ _ _ (p.here (omega (arith, i.whole))) (c.ask_file-sum.ensures.equal q _ a) c.byte.ensures.0 _ c.is_directory.ensures c.if-levels-is_directory.true);
    }

pub loop-k-preserved : goal.loop-k-preserved
loop-k-preserved g t c =
    let i = c.loop-k.invariant in
    let p = place-next _ _ _ (c.loop-k.k - 2) (c.loop-k.k - 1) _ i.place (omega (arith, i.low)) c.after-e.ensures.0 c.after-e.ensures.1 c.after-e.ensures.2 in
    let d = goes_down c.args.levels c.is_directory.result c.if-levels-is_directory.false in
    record {
      low = omega (arith, i.low);
      few = i.few;
      whole = i.whole;
      place = place-next _ _ _ (c.loop-k.k - 2) (c.loop-k.k + 1 - 2) _ i.place (omega (arith, i.low)) c.after-e.ensures.0 c.after-e.ensures.1 c.after-e.ensures.2;
      sums = λ q a. sofar-down _ _ _ _ (i.sums q a) c.if-n-sum.false _ _ _ _ (rest-child q c.args.image.now c.args.n c.args.d c.args.levels c.loop-k.k (4 * c.number-size.result) i.low (omega arith) _ _ _ (p.here (omega (arith, i.whole))) (c.ask_file-sum.ensures.equal q _ a) c.byte.ensures.0 _ c.is_directory.ensures d.1 d.0 _ c.number.ensures.0) (c.tally-sum.ensures q a);
    }

pub returns-then-n-sum : goal.returns-then-n-sum
returns-then-n-sum g t c = λ q a. sofar-over _ _ _ _ (c.loop-k.invariant.sums q a) c.if-n-sum.true

pub returns : goal.returns
returns g t c = λ q a. sofar-end _ _ _ _ (c.loop-k.invariant.sums q a) (rest_end q c.args.image.now c.args.n c.args.d c.args.levels c.loop-k.k (4 * c.number-size.result) (omega arith))
