use Prim.Native.Nat.{◌+◌, ◌-◌, ◌*◌}
use mathlib.Core.Bool.{true, false, ◌&&◌}
use mathlib.Core.Path.{◌≡◌, refl, sym, ap, ◌∙◌}
use native.Mathlib.Omega.{arith}
use Rattle.layout.specs.Directory.{blocks_of}
use Rattle.layout.proofs.Laws.Tests.{and_split}
use Rattle.layout.proofs.Laws.Trees.{length-directory}
use Rattle.plain_check.proofs.Walks.Slots.{place-first, place-next}
use Rattle.plain_check.proofs.Walks.Tallies.{goes_down}
use Rattle.plain_check.proofs.Walks.Tours.{stands-first, end-slot, slot-inside, slot-tests, right-more, tour-unended, tour-slots, slots_end, slots-bad, slots-other, slots-stop, slots-down, child-bad, child-down, child-stands, child-fewer}
use Prim.Native.Nat.{ℕ, ◌<◌}
use Rattle.std.proofs.lemmas.Result.{err_from_is_err_and}
use Rattle.plain_check.proofs.Laws.Reasons.{some_number}
use Rattle.plain_check.proofs.check.+tour.Goals as goal

pub overflow_mul-d : goal.overflow_mul-d
overflow_mul-d t c = omega (arith, stands-first _ _ _ c.requires.1, c.requires.0)

pub overflow_add-d : goal.overflow_add-d
overflow_add-d t c = omega (arith, stands-first _ _ _ c.requires.1, c.requires.0)

pub number-size-requires : goal.number-size-requires
number-size-requires t c = omega (arith, stands-first _ _ _ c.requires.1, c.requires.0)

pub last_block-requires : goal.last_block-requires
last_block-requires t c = (omega (arith, stands-first _ _ _ c.requires.1, c.requires.0), omega (arith, c.requires.1.some, c.number-size.ensures.0))

pub overflow_mul-last_block : goal.overflow_mul-last_block
overflow_mul-last_block t c = omega (arith, c.last_block.ensures.1)

pub overflow_add-last_block : goal.overflow_add-last_block
overflow_add-last_block t c = omega (arith, c.last_block.ensures.1)

pub returns-then-byte : goal.returns-then-byte
returns-then-byte t c = record { equal = tour-unended _ _ _ _ _ _ (end-slot _ _ _ c.requires.1 _ _ c.number-size.ensures.0 c.last_block.ensures.0) c.byte.ensures.0 c.if-byte.true; bound = tt }

pub overflow_mul-e : goal.overflow_mul-e
overflow_mul-e t c = omega (arith, stands-first _ _ _ c.requires.1, c.requires.0)

pub overflow_mul-k-end : goal.overflow_mul-k-end
overflow_mul-k-end t c = omega (arith, c.number-size.ensures.1)

pub loop-k-init : goal.loop-k-init
loop-k-init t c =
    record {
      low = omega arith;
      few = omega (arith, c.number-size.ensures.1);
      whole = ap (λ (x : ℕ). 4 * x) c.number-size.ensures.0;
      some = c.requires.2;
      most = c.requires.3;
      place = place-first _ _ (omega (arith, stands-first _ _ _ c.requires.1, c.requires.0));
      right = λ j q r. absurd (omega (arith, q, r));
      equal = tour-slots _ _ _ _ _ _ (end-slot _ _ _ c.requires.1 _ _ c.number-size.ensures.0 c.last_block.ensures.0) c.byte.ensures.0 c.if-byte.false _ _ (c.number-size.ensures.0 ∙ sym (length-directory _ _)) refl;
    }

pub after-e-requires : goal.after-e-requires
after-e-requires t c = (c.loop-k.invariant.place.low, c.loop-k.invariant.place.even)

pub slot_ok-requires : goal.slot_ok-requires
slot_ok-requires t c =
    let i = c.loop-k.invariant in
    let v = c.requires.0 in
    let S = c.requires.1 in
    let h : c.loop-k.k < 4 * blocks_of c.args.image.now (512 * c.args.d) = omega (arith, c.loop-k.invariant.whole) in
    let at = (place-next _ _ _ (c.loop-k.k - 2) (c.loop-k.k - 1) _ c.loop-k.invariant.place (omega (arith, c.loop-k.invariant.low)) c.after-e.ensures.0 c.after-e.ensures.1 c.after-e.ensures.2).here (omega (arith, h)) in
    (slot-inside _ _ _ c.loop-k.k _ v S i.low h at i.right, omega (arith, c.after-e.ensures.1))

pub new_name-requires : goal.new_name-requires
new_name-requires t c =
    let h : c.loop-k.k < 4 * blocks_of c.args.image.now (512 * c.args.d) = omega (arith, c.loop-k.invariant.whole) in
    (omega (arith, stands-first _ _ _ c.requires.1, c.requires.0), c.loop-k.invariant.low, h, omega (arith, c.after-e.ensures.1))

pub returns-then-not-slot_ok-new_name : goal.returns-then-not-slot_ok-new_name
returns-then-not-slot_ok-new_name t c = let i = c.loop-k.invariant in
    let v = c.requires.0 in
    let S = c.requires.1 in
    let h : c.loop-k.k < 4 * blocks_of c.args.image.now (512 * c.args.d) = omega (arith, c.loop-k.invariant.whole) in
    let at = (place-next _ _ _ (c.loop-k.k - 2) (c.loop-k.k - 1) _ c.loop-k.invariant.place (omega (arith, c.loop-k.invariant.low)) c.after-e.ensures.0 c.after-e.ensures.1 c.after-e.ensures.2).here (omega (arith, h)) in
    let t : (c.slot_ok.result && c.new_name.result) ≡ false = c.if-not-slot_ok-new_name.true in record { equal = sym (i.equal ∙ slots-bad _ _ _ _ c.loop-k.k (4 * c.number-size.result) i.low (omega arith) _ at (sym t ∙ slot-tests _ _ _ c.loop-k.k _ v S i.low h at i.right _ _ c.slot_ok.ensures c.new_name.ensures)); bound = tt }

pub overflow_step-k : goal.overflow_step-k
overflow_step-k t c = omega arith

pub loop-k-smaller-then-not-is_directory : goal.loop-k-smaller-then-not-is_directory
loop-k-smaller-then-not-is_directory t c = omega arith

pub loop-k-preserved-then-not-is_directory : goal.loop-k-preserved-then-not-is_directory
loop-k-preserved-then-not-is_directory t c =
    let i = c.loop-k.invariant in
    let v = c.requires.0 in
    let S = c.requires.1 in
    let h : c.loop-k.k < 4 * blocks_of c.args.image.now (512 * c.args.d) = omega (arith, c.loop-k.invariant.whole) in
    let at = (place-next _ _ _ (c.loop-k.k - 2) (c.loop-k.k - 1) _ c.loop-k.invariant.place (omega (arith, c.loop-k.invariant.low)) c.after-e.ensures.0 c.after-e.ensures.1 c.after-e.ensures.2).here (omega (arith, h)) in
    let t : (c.slot_ok.result && c.new_name.result) ≡ true = c.if-not-slot_ok-new_name.false in
    let ok = sym c.slot_ok.ensures ∙ (and_split c.slot_ok.result c.new_name.result t).0 in
    let test = sym t ∙ slot-tests _ _ _ c.loop-k.k _ v S i.low h at i.right _ _ c.slot_ok.ensures c.new_name.ensures in
    let u = c.if-not-is_directory.true in
    record {
      low = omega (arith, i.low);
      few = i.few;
      whole = i.whole;
      place = place-next _ _ _ (c.loop-k.k - 2) (c.loop-k.k + 1 - 2) _ c.loop-k.invariant.place (omega (arith, c.loop-k.invariant.low)) c.after-e.ensures.0 c.after-e.ensures.1 c.after-e.ensures.2;
      right = right-more _ _ _ c.loop-k.k _ v S i.low h at i.right ok;
      some = i.some;
      most = i.most;
      equal = i.equal ∙ slots-other _ _ _ _ c.loop-k.k (4 * c.number-size.result) i.low (omega arith) _ at test _ c.byte-in-loop-k.ensures.0 (sym u ∙ c.is_directory.ensures);
    }

pub child_ok-requires : goal.child_ok-requires
child_ok-requires t c =
    let i = c.loop-k.invariant in
    let v = c.requires.0 in
    let S = c.requires.1 in
    let h : c.loop-k.k < 4 * blocks_of c.args.image.now (512 * c.args.d) = omega (arith, c.loop-k.invariant.whole) in
    let at = (place-next _ _ _ (c.loop-k.k - 2) (c.loop-k.k - 1) _ c.loop-k.invariant.place (omega (arith, c.loop-k.invariant.low)) c.after-e.ensures.0 c.after-e.ensures.1 c.after-e.ensures.2).here (omega (arith, h)) in
    (v, slot-inside _ _ _ c.loop-k.k _ v S i.low h at i.right, i.some, i.most)

pub returns-then-levels-child_ok : goal.returns-then-levels-child_ok
returns-then-levels-child_ok t c = let i = c.loop-k.invariant in
    let v = c.requires.0 in
    let S = c.requires.1 in
    let h : c.loop-k.k < 4 * blocks_of c.args.image.now (512 * c.args.d) = omega (arith, c.loop-k.invariant.whole) in
    let at = (place-next _ _ _ (c.loop-k.k - 2) (c.loop-k.k - 1) _ c.loop-k.invariant.place (omega (arith, c.loop-k.invariant.low)) c.after-e.ensures.0 c.after-e.ensures.1 c.after-e.ensures.2).here (omega (arith, h)) in
    let t : (c.slot_ok.result && c.new_name.result) ≡ true = c.if-not-slot_ok-new_name.false in
    let ok = sym c.slot_ok.ensures ∙ (and_split c.slot_ok.result c.new_name.result t).0 in
    let test = sym t ∙ slot-tests _ _ _ c.loop-k.k _ v S i.low h at i.right _ _ c.slot_ok.ensures c.new_name.ensures in
    let u = c.if-not-is_directory.false in record { equal = sym (i.equal ∙ slots-stop _ _ _ _ c.loop-k.k (4 * c.number-size.result) i.low (omega arith) _ at test _ c.byte-in-loop-k.ensures.0 (sym u ∙ c.is_directory.ensures) 4 0 (child-bad _ _ _ _ _ c.args.levels c.child_ok.result c.child_ok.ensures c.if-levels-child_ok.true) (λ z. omega arith)); bound = tt }

pub overflow_sub-levels : goal.overflow_sub-levels
overflow_sub-levels t c = omega (arith, (goes_down c.args.levels c.child_ok.result c.if-levels-child_ok.false).0)

pub overflow_add-e : goal.overflow_add-e
overflow_add-e t c = omega (arith, c.after-e.ensures.1)

pub number-requires : goal.number-requires
number-requires t c = omega (arith, c.after-e.ensures.1)

pub overflow_add-met : goal.overflow_add-met
overflow_add-met t c = omega (arith, c.loop-k.invariant.most, c.requires.0)

pub tour-requires : goal.tour-requires
tour-requires t c =
    let g = goes_down c.args.levels c.child_ok.result c.if-levels-child_ok.false in
    (omega (arith, g.0), (c.requires.0, child-stands _ _ _ _ _ (sym g.1 ∙ c.child_ok.ensures) _ c.number.ensures.0, omega arith, omega (arith, child-fewer _ _ _ _ _ (sym g.1 ∙ c.child_ok.ensures))))

pub returns-in_err-met : goal.returns-in_err-met
returns-in_err-met t c = let i = c.loop-k.invariant in
    let v = c.requires.0 in
    let S = c.requires.1 in
    let h : c.loop-k.k < 4 * blocks_of c.args.image.now (512 * c.args.d) = omega (arith, c.loop-k.invariant.whole) in
    let at = (place-next _ _ _ (c.loop-k.k - 2) (c.loop-k.k - 1) _ c.loop-k.invariant.place (omega (arith, c.loop-k.invariant.low)) c.after-e.ensures.0 c.after-e.ensures.1 c.after-e.ensures.2).here (omega (arith, h)) in
    let t : (c.slot_ok.result && c.new_name.result) ≡ true = c.if-not-slot_ok-new_name.false in
    let ok = sym c.slot_ok.ensures ∙ (and_split c.slot_ok.result c.new_name.result t).0 in
    let test = sym t ∙ slot-tests _ _ _ c.loop-k.k _ v S i.low h at i.right _ _ c.slot_ok.ensures c.new_name.ensures in
    let u = c.if-not-is_directory.false in
    let g = goes_down c.args.levels c.child_ok.result c.if-levels-child_ok.false in
    let p = err_from_is_err_and c.from_residual.result c.from_residual.ensures.1 in
    rw (p.1, p.2) (record { equal = sym (i.equal ∙ slots-stop _ _ _ _ c.loop-k.k (4 * c.number-size.result) i.low (omega arith) _ at test _ c.byte-in-loop-k.ensures.0 (sym u ∙ c.is_directory.ensures) _ _ (c.in_err-met.ensures.equal ∙ child-down _ _ _ _ _ _ g.0 (sym g.1 ∙ c.child_ok.ensures) _ c.number.ensures.0) (some_number _)); bound = tt })

pub overflow_step-k-in-loop-k : goal.overflow_step-k-in-loop-k
overflow_step-k-in-loop-k t c = omega arith

pub loop-k-smaller : goal.loop-k-smaller
loop-k-smaller t c = omega arith

pub loop-k-preserved : goal.loop-k-preserved
loop-k-preserved t c =
    let i = c.loop-k.invariant in
    let v = c.requires.0 in
    let S = c.requires.1 in
    let h : c.loop-k.k < 4 * blocks_of c.args.image.now (512 * c.args.d) = omega (arith, c.loop-k.invariant.whole) in
    let at = (place-next _ _ _ (c.loop-k.k - 2) (c.loop-k.k - 1) _ c.loop-k.invariant.place (omega (arith, c.loop-k.invariant.low)) c.after-e.ensures.0 c.after-e.ensures.1 c.after-e.ensures.2).here (omega (arith, h)) in
    let t : (c.slot_ok.result && c.new_name.result) ≡ true = c.if-not-slot_ok-new_name.false in
    let ok = sym c.slot_ok.ensures ∙ (and_split c.slot_ok.result c.new_name.result t).0 in
    let test = sym t ∙ slot-tests _ _ _ c.loop-k.k _ v S i.low h at i.right _ _ c.slot_ok.ensures c.new_name.ensures in
    let u = c.if-not-is_directory.false in
    let g = goes_down c.args.levels c.child_ok.result c.if-levels-child_ok.false in
    record {
      low = omega (arith, i.low);
      few = i.few;
      whole = i.whole;
      place = place-next _ _ _ (c.loop-k.k - 2) (c.loop-k.k + 1 - 2) _ c.loop-k.invariant.place (omega (arith, c.loop-k.invariant.low)) c.after-e.ensures.0 c.after-e.ensures.1 c.after-e.ensures.2;
      right = right-more _ _ _ c.loop-k.k _ v S i.low h at i.right ok;
      some = c.in_ok-met.ensures.bound.0;
      most = c.in_ok-met.ensures.bound.1;
      equal = i.equal ∙ slots-down _ _ _ _ c.loop-k.k (4 * c.number-size.result) i.low (omega arith) _ at test _ c.byte-in-loop-k.ensures.0 (sym u ∙ c.is_directory.ensures) _ _ (c.in_ok-met.ensures.equal ∙ child-down _ _ _ _ _ _ g.0 (sym g.1 ∙ c.child_ok.ensures) _ c.number.ensures.0) refl;
    }

pub returns : goal.returns
returns t c = record { equal = sym (c.loop-k.invariant.equal ∙ slots_end _ _ _ _ c.loop-k.k (4 * c.number-size.result) (omega arith)); bound = (c.loop-k.invariant.some, c.loop-k.invariant.most) }
