use Prim.Native.Nat.{ℕ, ◌≤◌, ◌<◌, ◌+◌, ◌-◌, ◌/◌, ◌%◌}
use mathlib.Core.Path.{◌≡◌, refl, ◌∙◌}
use mathlib.Core.List.{List, [], ◌∷◌}
use lib.ListN.{length}
use native.Mathlib.Omega.{arith}
use Rattle.layout.specs.Listing.{digits}
use Rattle.lister.specs.Text.{TextPut}
use Rattle.lister.proofs.Digits.{digits-none, digits-one, digits_more}
use Rattle.lister.proofs.Pieces.{Pending, begin, room, more, last, finish}
use Rattle.lister.proofs.text.+put_digits.Goals as goal

-- what is left of the number before its last digit, where it has one digit, and where it has more
one : (s : List ℕ) (at k x d : ℕ) → at + length (digits k x) ≤ length s → d ≡ 48 + x → 0 < k → x < 10 → Pending s at (digits k x) s at (d ∷ [])
one s at k x d h e m l = begin s at _ _ h (digits-one k x d e m l)

more-than-one : (s : List ℕ) (at k x d : ℕ) → at + length (digits k x) ≤ length s → {t : List ℕ} {p : ℕ} → TextPut s at (digits (k - 1) (x / 10)) t p → d ≡ 48 + x % 10 → 0 < k → 10 ≤ x
    → Pending s at (digits k x) t p (d ∷ [])
more-than-one s at k x d h w e m l = more (begin s at _ _ h refl) w (d ∷ []) (digits_more k x d e m l)

pub returns-then-most-eq0 : goal.returns-then-most-eq0
returns-then-most-eq0 t c = finish (begin c.args.out.now _ _ _ c.requires refl) (digits-none c.args.most c.args.x c.if-most-eq0.true)

pub digit-requires : goal.digit-requires
digit-requires t c = omega arith

pub put_byte-requires : goal.put_byte-requires
put_byte-requires t c = (one c.args.out.now c.args.at c.args.most c.args.x _ c.requires c.digit.ensures (omega arith) c.if-x-lt10.true).fits

pub shape_of-out-then-x-lt10 : goal.shape_of-out-then-x-lt10
shape_of-out-then-x-lt10 t c = c.put_byte.auto.out

pub returns-then-x-lt10 : goal.returns-then-x-lt10
returns-then-x-lt10 t c = last (one c.args.out.now c.args.at c.args.most c.args.x _ c.requires c.digit.ensures (omega arith) c.if-x-lt10.true) c.put_byte.ensures refl

pub overflow_sub-most : goal.overflow_sub-most
overflow_sub-most t c = omega arith

pub put_digits-p-requires : goal.put_digits-p-requires
put_digits-p-requires t c =
    let k = c.args.most in
    let x = c.args.x in (
      omega arith,
      room (begin c.args.out.now _ _ _ c.requires refl) (digits (k - 1) (x / 10)) _
          (digits_more k x (48 + x % 10) refl (omega arith) c.if-x-lt10.false),
    )

pub digit-requires-2 : goal.digit-requires-2
digit-requires-2 t c = omega arith

pub put_byte-requires-2 : goal.put_byte-requires-2
put_byte-requires-2 t c = (more-than-one c.args.out.now c.args.at c.args.most c.args.x _ c.requires c.put_digits-p.ensures c.digit-2.ensures (omega arith) c.if-x-lt10.false).fits

pub shape_of-out : goal.shape_of-out
shape_of-out t c = c.put_byte-2.auto.out ∙ (more-than-one c.args.out.now c.args.at c.args.most c.args.x _ c.requires c.put_digits-p.ensures c.digit-2.ensures (omega arith) c.if-x-lt10.false).size

pub returns : goal.returns
returns t c = last (more-than-one c.args.out.now c.args.at c.args.most c.args.x _ c.requires c.put_digits-p.ensures c.digit-2.ensures (omega arith) c.if-x-lt10.false) c.put_byte-2.ensures refl
