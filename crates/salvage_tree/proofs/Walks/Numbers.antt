-- Bytes that are set where they are not right already, by the tests of the code; and whether anything was different.
use Prim.Native.Nat.{ℕ, ◌+◌, ◌*◌, ◌/◌, ◌%◌, ◌≤◌, ◌<◌}
use mathlib.Core.Bool.{Bool, true, false, cond}
use mathlib.Core.List.{List, [], ◌∷◌}
use mathlib.Core.Path.{◌≡◌, refl, sym, ap, ◌∙◌, subst}
use native.Mathlib.Decide.{ℕ_discrete}
use native.Mathlib.Omega.{arith}
use lib.Dec.{eqb}
use lib.ListN.{length, get_or, set}
use borrow.Author.Tests.{eq-eqb, ne_eqb, eqb-true}
use Rattle.std.specs.Cmp.Lexicographic.{pointwise}
use Rattle.layout.specs.Lists.{same}
use Rattle.layout.specs.Bytes.{be32, bytes4, part, splice}
use Rattle.layout.specs.Table.{next, set_next}
use Rattle.layout.specs.Walks.Slots.{entry_at}
use Rattle.layout.proofs.Laws.Tests.{is_false, true-not-false}
use Rattle.layout.proofs.Laws.Bytes.{sets-splice}
use Rattle.layout.proofs.Laws.Names.{same-eq, same_refl}
use Rattle.salvage_tree.specs.SalvageTree.{coded, put_number, put_byte, put_field, put_value}
use Rattle.salvage_tree.proofs.Laws.Puts.{number_is, byte-is}

-- two tests that follow from one another are the same
pub both_ways : (a b : Bool) → (a ≡ true → b ≡ true) → (b ≡ true → a ≡ true) → a ≡ b
both_ways true b f g = sym (f refl)
both_ways false b f g = sym (is_false b (λ e. true-not-false (g e) refl))

-- `==` of two byte strings, in the words of the definitions
pub pointwise-same : (xs ys : List ℕ) → pointwise eqb xs ys ≡ same xs ys
pointwise-same [] [] = refl
pointwise-same [] (y ∷ ys) = refl
pointwise-same (x ∷ xs) [] = refl
pointwise-same (x ∷ xs) (y ∷ ys) = rw (pointwise-same xs ys)

pub eqb_turned : (x y : ℕ) → eqb x y ≡ eqb y x
eqb_turned x y = elim (ℕ_discrete x y) [ yes p ↦ rw p | no p ↦ ne_eqb x y p ∙ sym (ne_eqb y x (λ z. p (sym z))) ]

pub same-turned : (xs ys : List ℕ) → same xs ys ≡ same ys xs
same-turned [] [] = refl
same-turned [] (y ∷ ys) = refl
same-turned (x ∷ xs) [] = refl
same-turned (x ∷ xs) (y ∷ ys) = rw (eqb_turned x y, same-turned xs ys)

pub one_set : (s : List ℕ) (at v : ℕ) → at < length s → set s at v ≡ splice s at (v ∷ [])
one_set s at v h = sets-splice s at (v ∷ []) (omega arith)

module _ (s : List ℕ) (at v : ℕ) where
  pub number-left : be32 s at ≡ v → s ≡ put_number s at v
  unfolding put_number
  number-left e = rw (eq-eqb (be32 s at) v e)

  pub number-set : (be32 s at ≡ v → ⊥) → splice s at (bytes4 v) ≡ put_number s at v
  unfolding put_number
  number-set e = rw (ne_eqb (be32 s at) v e)

  pub byte_left : get_or s at 0 ≡ v → s ≡ put_byte s at v
  unfolding put_byte
  byte_left e = rw (eq-eqb (get_or s at 0) v e)

  pub byte-set : (get_or s at 0 ≡ v → ⊥) → splice s at (v ∷ []) ≡ put_byte s at v
  unfolding put_byte
  byte-set e = rw (ne_eqb (get_or s at 0) v e)

  pub number-flag : at + 4 ≤ length s → v < 0x100000000 → eqb (be32 s at) v ≡ same s (put_number s at v)
  number-flag h l =
      both_ways _ _ (λ e. subst (λ (u : List ℕ). same s u ≡ true) (number-left (eqb-true _ _ e)) (same_refl s))
      (λ e. eq-eqb _ _ (ap (λ (u : List ℕ). be32 u at) (same-eq s (put_number s at v) e) ∙ number_is s at v h l))

  pub byte_flag : at < length s → eqb (get_or s at 0) v ≡ same s (put_byte s at v)
  byte_flag h =
      both_ways _ _ (λ e. subst (λ (u : List ℕ). same s u ≡ true) (byte_left (eqb-true _ _ e)) (same_refl s))
      (λ e. eq-eqb _ _ (ap (λ (u : List ℕ). get_or u at 0) (same-eq s (put_byte s at v) e) ∙ byte-is s at v (omega arith)))

module _ (s : List ℕ) (at : ℕ) (field : List ℕ) (t : Bool) (e : t ≡ same (part s at 80) field) where
  pub field-left : t ≡ true → s ≡ put_field s at field
  unfolding put_field
  field-left z = rw (sym e ∙ z)

  pub field-set : t ≡ false → splice s at field ≡ put_field s at field
  unfolding put_field
  field-set z = rw (sym e ∙ z)

module _ (s : List ℕ) (b v : ℕ) where
  pub value-left : next s b ≡ v → s ≡ put_value s b v
  unfolding put_value
  value-left e = rw (eq-eqb (next s b) v e)

  pub value_set : (next s b ≡ v → ⊥) → set_next s b v ≡ put_value s b v
  unfolding put_value
  value_set e = rw (ne_eqb (next s b) v e)

-- A CODE
pub code-none : (codes : List ℕ) (e c : ℕ) → c ≡ 0 → codes ≡ coded codes e c
unfolding coded
code-none codes e c z = rw (eq-eqb c 0 z)

pub code_put : (codes : List ℕ) (e i c : ℕ) → (c ≡ 0 → ⊥) → e / 128 ≡ i → i < length codes → set codes i c ≡ coded codes e c
unfolding coded
code_put codes e i c z q h = rw (ne_eqb c 0 z, q) (one_set codes i c h)

pub code-right : (codes : List ℕ) (e : ℕ) (r : Bool) → r ≡ true → codes ≡ coded codes e (cond r 0 3)
code-right codes e r z = rw z (code-none codes e 0 refl)

pub code-wrong : (codes : List ℕ) (e i : ℕ) (r : Bool) → r ≡ false → e / 128 ≡ i → i < length codes → set codes i 3 ≡ coded codes e (cond r 0 3)
code-wrong codes e i r z q h = rw z (code_put codes e i 3 (λ y. omega arith) q h)

pub slot-index : (b k : ℕ) → entry_at b k / 128 ≡ 4 * b + k % 4
slot-index b k = omega arith
