-- Tests joined by `&` and `|`, and a test of each number of an interval.
use Prim.Native.Nat.{ℕ, ◌+◌, ◌-◌, ◌*◌, ◌≤◌, ◌<◌}
use mathlib.Core.Bool.{Bool, true, false, ◌&&◌, ◌||◌}
use mathlib.Core.Path.{◌≡◌, refl, sym, ◌∙◌}
use native.Mathlib.Omega.{arith}
use Rattle.layout.specs.Lists.{interval, every}
use Rattle.layout.proofs.Laws.Lists.{interval-next}
use Rattle.layout.proofs.Laws.Tests.{true-not-false}
use Rattle.plain_check.specs.Plain.{one}

pub and-true : (a : Bool) → (a && true) ≡ a
and-true true = refl
and-true false = refl

pub and-false : (a : Bool) → (a && false) ≡ false
and-false true = refl
and-false false = refl

pub regroup : (a b c : Bool) → ((a && b) && c) ≡ (a && (b && c))
regroup true b c = refl
regroup false b c = refl

-- one test more of those that were passed
pub regroup-more : (good a b rest : Bool) → (good && ((a && b) && rest)) ≡ (((good && a) && b) && rest)
regroup-more true true b rest = refl
regroup-more true false b rest = refl
regroup-more false a b rest = refl

-- a number x of those from b up to `end`
module _ (p : ℕ → Bool) (x end : ℕ) where
  pub each-end : end ≤ x → true ≡ every p (interval x (end - x))
  each-end h = let z : end - x ≡ 0 = omega arith in rw z

  module _ (h : x < end) where
    turn : every p (interval x (end - x)) ≡ (p x && every p (interval (x + 1) (end - (x + 1))))
    turn = let z : end - x - 1 ≡ end - (x + 1) = omega arith in rw (interval-next x (end - x) (omega arith), z)

    pub each-stop : false ≡ p x → every p (interval x (end - x)) ≡ false
    each-stop t = turn ∙ rw (← t)

    pub each_next : true ≡ p x → every p (interval x (end - x)) ≡ every p (interval (x + 1) (end - (x + 1)))
    each_next t = turn ∙ rw (← t)

    -- where the tests are joined and none stops
    pub each_more : (good a b : Bool) → (a && b) ≡ p x → (good && every p (interval x (end - x))) ≡ (((good && a) && b) && every p (interval (x + 1) (end - (x + 1))))
    each_more good a b e = rw (turn, ← e) (regroup-more good a b (every p (interval (x + 1) (end - (x + 1)))))

pub or-split-false : (a b : Bool) → (a || b) ≡ false → (a ≡ false) × (b ≡ false)
or-split-false true b e = absurd (true-not-false refl e)
or-split-false false b e = (refl, e)

-- what is done from the first on is all
pub from_first : {A : Type 0} (f : ℕ → A) (k : ℕ) → f k ≡ f (k - 0)
from_first f k = let z : k - 0 ≡ k = omega arith in rw z

pub each_none : (p : ℕ → Bool) (x end : ℕ) (good : Bool) → end ≤ x → good ≡ (good && every p (interval x (end - x)))
each_none p x end good h = rw (← each-end p x end h) (sym (and-true good))

-- a test that is made only where another holds
pub taken : (f c x : Bool) → (f && c) ≡ x → f ≡ true → c ≡ x
taken true c x e t = e
taken false c x e t = absurd (true-not-false t refl)

pub left : (f c x : Bool) → (f && c) ≡ x → f ≡ false → false ≡ x
left true c x e t = absurd (true-not-false refl t)
left false c x e t = e

-- a test as a number
pub one-few : (t : Bool) → one t ≤ 1
one-few true = omega arith
one-few false = omega arith

pub times-one : (n : ℕ) (t : Bool) → (n + 1) * one t ≤ n + 1
times-one n true = omega arith
times-one n false = omega arith
