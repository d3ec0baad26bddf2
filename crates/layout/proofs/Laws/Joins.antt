-- Lists joined from any list: members, parts, joins of joins; a range by its members.
use Prim.Native.Nat.{ℕ, zero, suc, ◌+◌, ◌≤◌, ◌<◌}
use mathlib.Core.Bool.{Bool, true, false}
use mathlib.Core.List.{List, [], ◌∷◌, ◌++◌, append_assoc, map}
use mathlib.Core.Logic.{inl, inr, ⊎_elim, ◌≢◌}
use mathlib.Core.Path.{◌≡◌, refl, sym, ap, ◌∙◌, subst}
use native.Mathlib.Nat.{eq-or-lt_of_le}
use native.Mathlib.Omega.{arith}
use lib.Dec.{eqb}
use borrow.Author.Tests.{eqb-true}
use Rattle.layout.specs.Lists.{interval, distinct, keep, select, joined}
use Rattle.layout.proofs.Laws.Tests.{true-not-false, eqb-self}
use Rattle.layout.proofs.Laws.Lists.{In, in_left, in_right, in-append, distinct_apart, distinct-left, distinct-right, distinct_append}

-- a range
pub in-interval : (a k x : ℕ) → In x (interval a k) → (a ≤ x) × (x < a + k)
in-interval a zero x x3 = elim x3 [ ]
in-interval a (suc k) x (inl e) = (omega arith, omega arith)
in-interval a (suc k) x (inr m) = let r = in-interval (suc a) k x m in (omega arith, omega arith)

pub interval-in : (k a x : ℕ) → a ≤ x → x < a + k → In x (interval a k)
interval-in zero a x h g = absurd (omega arith)
interval-in (suc k) a x h g = ⊎_elim (λ e. inl (sym e)) (λ l. inr (interval-in k (suc a) x l (omega arith))) (eq-or-lt_of_le h)

-- what passes a test, of any list
module _ (p : ℕ → Bool) where
  pub in-select : (xs : List ℕ) (x : ℕ) → In x (select p xs) → In x xs × (p x ≡ true)
  in-select [] x m = elim m [ ]
  in-select (y ∷ xs) x m = go (p y) refl (in-select xs x) m
    where
      go : (t : Bool) → p y ≡ t → (In x (select p xs) → In x xs × (p x ≡ true)) → In x (keep t y (select p xs)) → In x (y ∷ xs) × (p x ≡ true)
      go true e ih (inl q) = (inl q, ap p q ∙ e)
      go true e ih (inr q) = let r = ih q in (inr r.0, r.1)
      go false e ih q = let r = ih q in (inr r.0, r.1)

  pub select_has : (xs : List ℕ) (x : ℕ) → In x xs → p x ≡ true → In x (select p xs)
  select_has [] x m t = elim m [ ]
  select_has (y ∷ xs) x m t = go (p y) refl (λ i. select_has xs x i t) m
    where
      go : (u : Bool) → p y ≡ u → (In x xs → In x (select p xs)) → In x (y ∷ xs) → In x (keep u y (select p xs))
      go true e ih (inl q) = inl q
      go false e ih (inl q) = absurd (true-not-false (ap p (sym q) ∙ t) e)
      go true e ih (inr q) = inr (ih q)
      go false e ih (inr q) = ih q

  pub select-none : (xs : List ℕ) → ((x : ℕ) → In x xs → p x ≡ true → ⊥) → select p xs ≡ []
  select-none [] f = refl
  select-none (x ∷ xs) f = go (p x) refl (select-none xs (λ y m. f y (inr m)))
    where
      go : (t : Bool) → p x ≡ t → select p xs ≡ [] → keep t x (select p xs) ≡ []
      go true e ih = absurd (f x (inl refl) e)
      go false e ih = ih

pub select-agree : (p q : ℕ → Bool) (xs : List ℕ) → ((x : ℕ) → In x xs → q x ≡ p x) → select q xs ≡ select p xs
select-agree p q [] f = refl
select-agree p q (x ∷ xs) f = rw (f x (inl refl), select-agree p q xs (λ y m. f y (inr m)))

-- a map
module _ {A B : Type 0} (f : A → B) where
  pub of_map : (y : B) (xs : List A) → In y (map f xs) → (x : A) × In x xs × (y ≡ f x)
  of_map y [] x' = elim x' [ ]
  of_map y (x ∷ xs) (inl e) = (x, inl refl, e)
  of_map y (x ∷ xs) (inr i) = let r = of_map y xs i in (r.0, inr r.1, r.2)

  pub to_map : (x : A) (xs : List A) → In x xs → In (f x) (map f xs)
  to_map x [] x'' = elim x'' [ ]
  to_map x (y ∷ xs) (inl e) = inl (ap f e)
  to_map x (y ∷ xs) (inr i) = inr (to_map x xs i)

pub map-agree : {A B : Type 0} (f g : A → B) (xs : List A) → ((x : A) → In x xs → g x ≡ f x) → map g xs ≡ map f xs
map-agree f g [] h = refl
map-agree f g (x ∷ xs) h = rw (h x (inl refl), map-agree f g xs (λ y m. h y (inr m)))

-- members of a join
module _ {A B : Type 0} (g : A → List B) where
  pub of-join : (xs : List A) (y : B) → In y (joined g xs) → (x : A) × In x xs × In y (g x)
  of-join [] y m = elim m [ ]
  of-join (x ∷ xs) y m = ⊎_elim (λ i. (x, inl refl, i)) (λ i. let r = of-join xs y i in (r.0, inr r.1, r.2)) (in-append y (g x) (joined g xs) m)

  pub to-join : (xs : List A) (x : A) (y : B) → In x xs → In y (g x) → In y (joined g xs)
  to-join [] x y x4 i = elim x4 [ ]
  to-join (z ∷ xs) x y (inl e) i = in_left y (g z) (joined g xs) (subst (λ (w : A). In y (g w)) e i)
  to-join (z ∷ xs) x y (inr m) i = in_right y (g z) (joined g xs) (to-join xs x y m i)

  pub join-append : (xs ys : List A) → joined g (xs ++ ys) ≡ joined g xs ++ joined g ys
  join-append [] ys = refl
  join-append (x ∷ xs) ys = ap (λ (r : List B). g x ++ r) (join-append xs ys) ∙ sym (append_assoc (g x) (joined g xs) (joined g ys))

  -- no element in two of the lists
  module _ (eq : B → B → Bool) (eq-true : (x y : B) → eq x y ≡ true → x ≡ y) (true-eq : (x : B) → eq x x ≡ true) where
    pub join-part : (xs : List A) → distinct eq (joined g xs) ≡ true → (x : A) → In x xs → distinct eq (g x) ≡ true
    join-part [] d x x4 = elim x4 [ ]
    join-part (z ∷ xs) d x (inl e) = subst (λ (w : A). distinct eq (g w) ≡ true) (sym e) (distinct-left eq eq-true true-eq (g z) (joined g xs) d)
    join-part (z ∷ xs) d x (inr m) = join-part xs (distinct-right eq eq-true true-eq (g z) (joined g xs) d) x m

    pub join_apart : (xs : List A) → distinct eq (joined g xs) ≡ true → (x y : A) → In x xs → In y xs → x ≢ y → (b : B) → In b (g x) → In b (g y) → ⊥
    join_apart [] d x y x8 _ ne b i j = elim x8 [ ]
    join_apart (z ∷ xs) d x y (inl p) (inl q) ne b i j = ne (p ∙ sym q)
    join_apart (z ∷ xs) d x y (inl p) (inr q) ne b i j =
        distinct_apart eq eq-true true-eq (g z) (joined g xs) d b (subst (λ (w : A). In b (g w)) p i) (to-join xs y b q j)
    join_apart (z ∷ xs) d x y (inr p) (inl q) ne b i j =
        distinct_apart eq eq-true true-eq (g z) (joined g xs) d b (subst (λ (w : A). In b (g w)) q j) (to-join xs x b p i)
    join_apart (z ∷ xs) d x y (inr p) (inr q) ne b i j = join_apart xs (distinct-right eq eq-true true-eq (g z) (joined g xs) d) x y p q ne b i j

pub join-map : {A B C : Type 0} (g : B → List C) (f : A → B) (xs : List A) → joined g (map f xs) ≡ joined (λ x. g (f x)) xs
join-map g f [] = refl
join-map {A} {B} {C} g f (x ∷ xs) = ap (λ (r : List C). g (f x) ++ r) (join-map g f xs)

pub join-join : {A B C : Type 0} (g : B → List C) (f : A → List B) (xs : List A) → joined g (joined f xs) ≡ joined (λ x. joined g (f x)) xs
join-join g f [] = refl
join-join {A} {B} {C} g f (x ∷ xs) = join-append g (f x) (joined f xs) ∙ ap (λ (r : List C). joined g (f x) ++ r) (join-join g f xs)

-- different numbers joined from different numbers
pub join-distinct : (g : ℕ → List ℕ) (xs : List ℕ) → distinct eqb xs ≡ true → ((x : ℕ) → In x xs → distinct eqb (g x) ≡ true)
    → ((x y : ℕ) → In x xs → In y xs → x ≢ y → (b : ℕ) → In b (g x) → In b (g y) → ⊥) → distinct eqb (joined g xs) ≡ true
join-distinct g [] d e f = refl
join-distinct g (x ∷ xs) d e f =
    distinct_append eqb eqb-true eqb-self (g x) (joined g xs) (e x (inl refl))
    (join-distinct g xs (distinct-right eqb eqb-true eqb-self (x ∷ []) xs d) (λ y m. e y (inr m)) (λ y z m i. f y z (inr m) (inr i)))
    (λ b i j. let r = of-join g xs b j in
    f x r.0 (inl refl) (inr r.1) (λ q. distinct_apart eqb eqb-true eqb-self (x ∷ []) xs d x (inl refl) (subst (λ (w : ℕ). In w xs) (sym q) r.1)) b i r.2)
