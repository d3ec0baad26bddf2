-- A change below one directory of the tree, seen from the root: the directories of two images x and y that differ only below the directory b₀, and how
-- (Rel) they differ there, they differ so in all.
use Prim.Native.Nat.{ℕ, zero, suc, ◌≤◌}
use mathlib.Core.Bool.{true}
use mathlib.Core.List.{List, [], ◌∷◌, ◌++◌, append-nil}
use mathlib.Core.Logic.{◌⊎◌, inl, inr}
use mathlib.Core.Path.{◌≡◌, refl, sym, ap, ◌∙◌, subst}
use native.Mathlib.Omega.{arith}
use lib.Dec.{eqb}
use borrow.Author.Tests.{eqb-true}
use Rattle.layout.specs.Lists.{distinct, joined}
use Rattle.layout.specs.Directory.{first_block, directory, children, below, dirs}
use Rattle.layout.proofs.Laws.Tests.{eqb-self}
use Rattle.layout.proofs.Laws.Lists.{In, in_left, in_right, distinct-left, distinct-right, distinct_apart, joined_same}
use Rattle.layout.proofs.Laws.Joins.{of-join, to-join, join-append, join-join}
use Rattle.layout.proofs.Laws.Visits.{blocks_in, below-is, under}
use Rattle.layout.proofs.Laws.Changed.{Kept, below-same}

-- levels fall
pub below-level : (s : List ℕ) (left b : ℕ) (d : ℕ × ℕ) → In d (below s left b) → d.1 ≤ left
below-level s zero b d i = first (rw (below-is s zero b) at i)
  where
    first : In d ((b, zero) ∷ []) → d.1 ≤ zero
    first (inr x'') = elim x'' [ ]
    first (inl e) = let z : d.1 ≡ zero = ap (λ (w : ℕ × ℕ). w.1) e in omega arith
below-level s (suc left) b d i = first (λ c. below-level s left c d) (rw (below-is s (suc left) b) at i)
  where
    first : ((c : ℕ) → In d (below s left c) → d.1 ≤ left) → In d ((b, suc left) ∷ under s (suc left) b) → d.1 ≤ suc left
    first ih (inl e) = let z : d.1 ≡ suc left = ap (λ (w : ℕ × ℕ). w.1) e in omega arith
    first ih (inr m) = let r = of-join (λ e. below s left (first_block s e)) (children s b) d m in let z = ih (first_block s r.0) r.2 in omega arith

-- what is below a directory of the tree is of the tree
pub below-trans : (s : List ℕ) (left r b i : ℕ) (d : ℕ × ℕ) → In (b, i) (below s left r) → In d (below s i b) → In d (below s left r)
below-trans s zero r b i d m j = first (rw (below-is s zero r) at m)
  where
    first : In {A = ℕ × ℕ} (b, i) ((r, zero) ∷ []) → In d (below s zero r)
    first (inr x3) = elim x3 [ ]
    first (inl e) =
        let p : b ≡ r = ap (λ (w : ℕ × ℕ). w.0) e in
        let q : i ≡ zero = ap (λ (w : ℕ × ℕ). w.1) e in
        subst (λ (z : ℕ). In d (below s zero z)) p (subst (λ (z : ℕ). In d (below s z b)) q j)
below-trans s (suc left) r b i d m j = first (λ c n. below-trans s left c b i d n j) (rw (below-is s (suc left) r) at m)
  where
    first : ((c : ℕ) → In (b, i) (below s left c) → In d (below s left c)) → In {A = ℕ × ℕ} (b, i) ((r, suc left) ∷ under s (suc left) r) → In d (below s (suc left) r)
    first ih (inl e) =
        let p : b ≡ r = ap (λ (w : ℕ × ℕ). w.0) e in
        let q : i ≡ suc left = ap (λ (w : ℕ × ℕ). w.1) e in
        subst (λ (z : ℕ). In d (below s (suc left) z)) p (subst (λ (z : ℕ). In d (below s z b)) q j)
    first ih (inr n) =
        let w = of-join (λ e. below s left (first_block s e)) (children s r) (b, i) n in
        rw (below-is s (suc left) r) (inr (to-join (λ e. below s left (first_block s e)) (children s r) w.0 d w.1 (ih (first_block s w.0) w.2)))

-- a list at one of its elements
pub split_at : {A : Type 0} (x : A) (xs : List A) → In x xs → (ps : List A) × (qs : List A) × (xs ≡ ps ++ (x ∷ qs))
split_at {A = A} x [] x'' = elim x'' [ ]
split_at {A} x (y ∷ xs) (inl e) = ([], xs, ap (λ (z : A). z ∷ xs) (sym e))
split_at {A} x (y ∷ xs) (inr m) = let r = split_at x xs m in (y ∷ r.0, r.1, ap (λ (z : List A). y ∷ z) r.2)

module _ (x y : List ℕ) (b₀ j : ℕ) where
  abbrev d₀ : ℕ × ℕ
  d₀ = (b₀, suc j)

  module _ (Rel : List (ℕ × ℕ) → List (ℕ × ℕ) → Type 0)
      (around : (ps xs ys qs : List (ℕ × ℕ)) → Rel xs ys → Rel (ps ++ (xs ++ qs)) (ps ++ (ys ++ qs)))
      (base : Rel (under x (suc j) b₀) (under y (suc j) b₀))
      (own : (d : ℕ × ℕ) → In d (dirs x) → In d.0 (directory x d.0))
      (kept : (d : ℕ × ℕ) → In d (dirs x) → (In d (below x (suc j) b₀) → ⊥) → Kept x y d.0)
    where
      -- one level: the directory r, of which the child e₁ leads to d₀
      module _ (left r : ℕ) (sub : (d : ℕ × ℕ) → In d (below x (suc left) r) → In d (dirs x)) (once : distinct eqb (joined (blocks_in x) (below x (suc left) r)) ≡ true) where
        abbrev F : ℕ → List (ℕ × ℕ)
        F e = below x left (first_block x e)

        abbrev G : ℕ → List (ℕ × ℕ)
        G e = below y left (first_block y e)

        in-under : (e : ℕ) → In e (children x r) → (d : ℕ × ℕ) → In d (F e) → In d (below x (suc left) r)
        in-under e m d n = rw (below-is x (suc left) r) (inr (to-join F (children x r) e d m n))

        rest-once : distinct eqb (joined (blocks_in x) (joined F (children x r))) ≡ true
        rest-once = distinct-right eqb eqb-true eqb-self (directory x r) (joined (blocks_in x) (joined F (children x r))) (rw (below-is x (suc left) r) at once)

        module _ (ps qs : List ℕ) (e₁ : ℕ) (cut : children x r ≡ ps ++ (e₁ ∷ qs)) (there : In d₀ (F e₁)) where
          three : joined (blocks_in x) (joined F (children x r)) ≡ joined (blocks_in x) (joined F ps) ++ (joined (blocks_in x) (F e₁) ++ joined (blocks_in x) (joined F qs))
          three =
              ap (λ (l : List ℕ). joined (blocks_in x) (joined F l)) cut ∙ ap (joined (blocks_in x)) (join-append F ps (e₁ ∷ qs))
              ∙ join-append (blocks_in x) (joined F ps) (F e₁ ++ joined F qs)
              ∙ ap (λ (l : List ℕ). joined (blocks_in x) (joined F ps) ++ l) (join-append (blocks_in x) (F e₁) (joined F qs))

          once₃ : distinct eqb (joined (blocks_in x) (joined F ps) ++ (joined (blocks_in x) (F e₁) ++ joined (blocks_in x) (joined F qs))) ≡ true
          once₃ = rw three at rest-once

          pub middle-once : distinct eqb (joined (blocks_in x) (F e₁)) ≡ true
          middle-once =
              distinct-left eqb eqb-true eqb-self (joined (blocks_in x) (F e₁)) (joined (blocks_in x) (joined F qs))
              (distinct-right eqb eqb-true eqb-self (joined (blocks_in x) (joined F ps)) (joined (blocks_in x) (F e₁) ++ joined (blocks_in x) (joined F qs)) once₃)

          member : (e : ℕ) → (In e ps ⊎ In e qs) → In e (children x r)
          member e (inl m) = rw cut (in_left e ps (e₁ ∷ qs) m)
          member e (inr m) = rw cut (in_right e ps (e₁ ∷ qs) (inr m))

          me : In e₁ (children x r)
          me = rw cut (in_right e₁ ps (e₁ ∷ qs) (inl refl))

          -- nothing below d₀ is in the other children
          beside : (e : ℕ) → (In e ps ⊎ In e qs) → (d : ℕ × ℕ) → In d (F e) → In d (below x (suc j) b₀) → ⊥
          beside e s d n m =
              let a : In d (F e₁) = below-trans x left (first_block x e₁) b₀ (suc j) d there m in
              let o = own d (sub d (in-under e (member e s) d n)) in
              let p : In d.0 (joined (blocks_in x) (F e₁)) = to-join (blocks_in x) (F e₁) d d.0 a o in
              go s (to-join (blocks_in x) (F e) d d.0 n o) p
            where
              go : (In e ps ⊎ In e qs) → In d.0 (joined (blocks_in x) (F e)) → In d.0 (joined (blocks_in x) (F e₁)) → ⊥
              go (inl u) p q =
                  distinct_apart eqb eqb-true eqb-self (joined (blocks_in x) (joined F ps)) (joined (blocks_in x) (F e₁) ++ joined (blocks_in x) (joined F qs)) once₃ d.0
                  (rw (join-join (blocks_in x) F ps) (to-join (λ z. joined (blocks_in x) (F z)) ps e d.0 u p))
                  (in_left d.0 (joined (blocks_in x) (F e₁)) (joined (blocks_in x) (joined F qs)) q)
              go (inr u) p q =
                  distinct_apart eqb eqb-true eqb-self (joined (blocks_in x) (F e₁)) (joined (blocks_in x) (joined F qs))
                  (distinct-right eqb eqb-true eqb-self (joined (blocks_in x) (joined F ps)) (joined (blocks_in x) (F e₁) ++ joined (blocks_in x) (joined F qs)) once₃) d.0 q
                  (rw (join-join (blocks_in x) F qs) (to-join (λ z. joined (blocks_in x) (F z)) qs e d.0 u p))

          -- the directory itself is above d₀
          above : Kept x y r
          above =
              kept (r, suc left) (sub (r, suc left) (rw (below-is x (suc left) r) (inl refl)))
              (λ m. let p = below-level x (suc j) b₀ (r, suc left) m in let q = below-level x left (first_block x e₁) d₀ there in omega arith)

          same_beside : (e : ℕ) → (In e ps ⊎ In e qs) → G e ≡ F e
          same_beside e s =
              ap (below y left) (above.firsts e (member e s))
              ∙ below-same x y left (first_block x e) (λ d n. kept d (sub d (in-under e (member e s) d n)) (beside e s d n))

          one-level : Rel (F e₁) (below y left (first_block x e₁)) → Rel (below x (suc left) r) (below y (suc left) r)
          one-level R =
              let p : below x (suc left) r ≡ ((r, suc left) ∷ joined F ps) ++ (F e₁ ++ joined F qs) =
              below-is x (suc left) r ∙ ap (λ (l : List (ℕ × ℕ)). (r, suc left) ∷ l) (ap (joined F) cut ∙ join-append F ps (e₁ ∷ qs)) in
              let q : below y (suc left) r ≡ ((r, suc left) ∷ joined F ps) ++ (below y left (first_block x e₁) ++ joined F qs) =
              below-is y (suc left) r ∙ ap (λ (l : List (ℕ × ℕ)). (r, suc left) ∷ l)
              (ap (joined G) (above.kids ∙ cut) ∙ join-append G ps (e₁ ∷ qs)
              ∙ ap (λ (l : List (ℕ × ℕ)). l ++ (G e₁ ++ joined G qs)) (joined_same F G ps (λ e m. same_beside e (inl m)))
              ∙ ap (λ (l : List (ℕ × ℕ)). joined F ps ++ l) (ap (λ (l : List (ℕ × ℕ)). G e₁ ++ l) (joined_same F G qs (λ e m. same_beside e (inr m)))
              ∙ ap (λ (c : ℕ). below y left c ++ joined F qs) (above.firsts e₁ me))) in
              rw (p, q) (around ((r, suc left) ∷ joined F ps) (F e₁) (below y left (first_block x e₁)) (joined F qs) R)

      pub spread : (left r : ℕ) → ((d : ℕ × ℕ) → In d (below x left r) → In d (dirs x)) → distinct eqb (joined (blocks_in x) (below x left r)) ≡ true
          → In d₀ (below x left r) → Rel (below x left r) (below y left r)
      spread zero r sub once i = first (rw (below-is x zero r) at i)
        where
          first : In d₀ ((r, zero) ∷ []) → Rel (below x zero r) (below y zero r)
          first (inr x5) = elim x5 [ ]
          first (inl e) = let z : suc j ≡ zero = ap (λ (w : ℕ × ℕ). w.1) e in absurd (omega arith)
      spread (suc left) r sub once i = first (λ c. spread left c) (rw (below-is x (suc left) r) at i)
        where
          here : b₀ ≡ r → j ≡ left → Rel (below x (suc left) r) (below y (suc left) r)
          here p q =
              subst (λ (z : ℕ). Rel (below x (suc z) r) (below y (suc z) r)) q (subst (λ (z : ℕ). Rel (below x (suc j) z) (below y (suc j) z)) p
              (rw (below-is x (suc j) b₀, below-is y (suc j) b₀, ← append-nil (under x (suc j) b₀), ← append-nil (under y (suc j) b₀))
              (around (d₀ ∷ []) (under x (suc j) b₀) (under y (suc j) b₀) [] base)))

          first : ((c : ℕ) → ((d : ℕ × ℕ) → In d (below x left c) → In d (dirs x)) → distinct eqb (joined (blocks_in x) (below x left c)) ≡ true → In d₀ (below x left c) → Rel (below x left c) (below y left c))
              → In d₀ ((r, suc left) ∷ under x (suc left) r) → Rel (below x (suc left) r) (below y (suc left) r)
          first ih (inl e) = let z : suc j ≡ suc left = ap (λ (w : ℕ × ℕ). w.1) e in here (ap (λ (w : ℕ × ℕ). w.0) e) (omega arith)
          first ih (inr m) =
              let w = of-join (F left r sub once) (children x r) d₀ m in
              let e₁ = w.0 in
              let c = split_at e₁ (children x r) w.1 in
              one-level left r sub once c.0 c.1 e₁ c.2 w.2
              (ih (first_block x e₁) (λ d n. sub d (in-under left r sub once e₁ w.1 d n)) (middle-once left r sub once c.0 c.1 e₁ c.2 w.2) w.2)
