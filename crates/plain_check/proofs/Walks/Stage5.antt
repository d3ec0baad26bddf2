-- Stage 5: the tests of one entry, and the names of the slots before it.
use Prim.Native.Nat.{ℕ, zero, suc, ◌+◌, ◌-◌, ◌/◌, ◌≤◌, ◌<◌}
use mathlib.Core.Bool.{Bool, true, false, not, ◌&&◌, ◌||◌, beq}
use mathlib.Core.List.{List}
use mathlib.Core.Logic.{⊎_elim}
use mathlib.Core.Path.{◌≡◌, refl, ap, ◌∙◌}
use native.Mathlib.Omega.{arith}
use lib.Dec.{eqb, leb}
use lib.ListN.{length}
use Rattle.layout.specs.Lists.{iff, interval, every, same}
use Rattle.layout.specs.Bytes.{be32}
use Rattle.layout.specs.Directory.{slot_at, type_of, is_free, is_file, is_directory, name_of, name_ok}
use Rattle.layout.specs.Check.{no_attributes, attributes_ok, file_ok, directory_entry_ok, slot_ok, new_name}
use Rattle.layout.proofs.Laws.Tests.{and_split, or_split}
use Rattle.plain_check.specs.Walks.{same_field, clash, new_field}
use Rattle.plain_check.proofs.Walks.Names.{field-name}
use Rattle.plain_check.proofs.Walks.Slots.{slots-none, slots_next}
use Rattle.plain_check.proofs.Walks.Tests.{and-false}

beq-iff : (a b : Bool) → beq a b ≡ iff a b
beq-iff true true = refl
beq-iff true false = refl
beq-iff false true = refl
beq-iff false false = refl

-- the tests of one entry, joined
pub file-all : (s : List ℕ) (e size a k blocks first : ℕ) (name : Bool) → size ≡ be32 s (e + 8) → a ≡ be32 s (e + 32) → k ≡ be32 s (e + 36) → blocks ≡ be32 s (e + 12)
    → first ≡ be32 s (e + 4) → name ≡ name_ok s e
    → (name && ((((eqb a 0 && eqb k 0) || (not (eqb a 0) && (leb 1 k && leb k 8))) && (eqb blocks ((size + 511) / 512) && beq (eqb first 0) (eqb size 0))))) ≡ file_ok s e
unfolding file_ok attributes_ok no_attributes
file-all s e size a k blocks first name es ea ek eb ef en = rw (beq-iff (eqb first 0) (eqb size 0), ← es, ← ea, ← ek, ← eb, ← ef, en)

pub entry-all : (s : List ℕ) (e x y size : ℕ) (name : Bool) → x ≡ be32 s (e + 32) → y ≡ be32 s (e + 36) → size ≡ be32 s (e + 8) → name ≡ name_ok s e
    → (name && ((eqb x 0 && eqb y 0) && eqb size 0)) ≡ directory_entry_ok s e
unfolding directory_entry_ok no_attributes
entry-all s e x y size name ex ey es en = rw (← ex, ← ey, ← es, en)

pub slot-all : (s : List ℕ) (e kind : ℕ) (f file d entry : Bool) → kind ≡ type_of s e → f ≡ is_file kind → file ≡ file_ok s e → d ≡ is_directory kind → entry ≡ directory_entry_ok s e
    → (eqb kind 0 || ((f && file) || (d && entry))) ≡ slot_ok s e
unfolding slot_ok
slot-all s e kind f file d entry ek ef eo ed ee = rw (← ek, ef, eo, ed, ee)

-- a right slot that is used has a good name
slot-named : (s : List ℕ) (e : ℕ) → slot_ok s e ≡ true → is_free (type_of s e) ≡ false → name_ok s e ≡ true
unfolding slot_ok file_ok directory_entry_ok
slot-named s e ok used =
    ⊎_elim
    (λ f. (and_split (name_ok s e) _ (and_split (is_file (type_of s e)) _ f).1).0)
    (λ d. (and_split (name_ok s e) _ (and_split (is_directory (type_of s e)) _ d).1).0)
    (or_split (is_file (type_of s e) && file_ok s e) _ (rw used at ok))

every-same : (p q : ℕ → Bool) (k a : ℕ) → ((j : ℕ) → a ≤ j → j < a + k → p j ≡ q j) → every p (interval a k) ≡ every q (interval a k)
every-same p q zero a f = refl
every-same p q (suc k) a f = rw (f a (omega arith) (omega arith), every-same p q k (suc a) (λ j l h. f j (omega arith) (omega arith)))

every_true : (k a : ℕ) → every (λ j. true) (interval a k) ≡ true
every_true zero a = refl
every_true (suc k) a = every_true k (suc a)

-- where all slots up to slot k are right, the fields tell of their names
module _ (s ds : List ℕ) (k e : ℕ) (at : e ≡ slot_at ds k) (inside : (j : ℕ) → j ≤ k → slot_at ds j + 128 ≤ length s)
    (right : (j : ℕ) → 1 ≤ j → j < k → slot_ok s (slot_at ds j) ≡ true) where
  term : slot_ok s e ≡ true → is_free (type_of s e) ≡ false → (j : ℕ) → 1 ≤ j → j < k
      → not (clash s e (slot_at ds j)) ≡ (is_free (type_of s (slot_at ds j)) || not (same (name_of s (slot_at ds j)) (name_of s e)))
  term ok used j l h = go (is_free (type_of s (slot_at ds j))) refl
    where
      go : (t : Bool) → is_free (type_of s (slot_at ds j)) ≡ t → not ((not t && not (is_free (type_of s e))) && same_field s (slot_at ds j) e) ≡ (t || not (same (name_of s (slot_at ds j)) (name_of s e)))
      go true q = refl
      go false q = rw used (ap not (field-name s (slot_at ds j) e (inside j (omega (arith, h))) (rw at (inside k (omega arith))) (slot-named s (slot_at ds j) (right j l h) q) (slot-named s e ok used)))

  fields : slot_ok s e ≡ true → new_field s ds e k ≡ new_name s ds k
  unfolding new_field new_name
  fields ok = rw (← at) (go (is_free (type_of s e)) refl)
    where
      go : (t : Bool) → is_free (type_of s e) ≡ t
          → every (λ j. not (clash s e (slot_at ds j))) (interval 1 (k - 1))
          ≡ (t || every (λ j. is_free (type_of s (slot_at ds j)) || not (same (name_of s (slot_at ds j)) (name_of s e))) (interval 1 (k - 1)))
      go true q =
          every-same _ (λ j. true) (k - 1) 1 (λ j l h. rw (q, and-false (not (is_free (type_of s (slot_at ds j))))))
          ∙ every_true (k - 1) 1
      go false q = every-same _ _ (k - 1) 1 (λ j l h. term ok q j l (omega arith))

  pub fields-names : (slot_ok s e && new_field s ds e k) ≡ (slot_ok s e && new_name s ds k)
  fields-names = go (slot_ok s e) refl
    where
      go : (t : Bool) → slot_ok s e ≡ t → (t && new_field s ds e k) ≡ (t && new_name s ds k)
      go true q = fields q
      go false q = refl

-- the slots before slot k, one by one
module _ (s ds : List ℕ) (e k j : ℕ) where
  abbrev pub others : Bool
  others = every (λ j. not (clash s e (slot_at ds j))) (interval (j - 1) (k - j))

  pub other-end : k ≤ j → true ≡ others
  other-end h = rw (slots-none j k h)

  module _ (l : 2 ≤ j) (h : j < k) (o x y : ℕ) (f : Bool) (at : o ≡ slot_at ds (j - 1)) (ex : x ≡ type_of s o) (ey : y ≡ type_of s e) (ef : f ≡ same_field s o e) where
    pub other-clash : ((not (eqb x 0) && not (eqb y 0)) && f) ≡ true → others ≡ false
    other-clash t = rw (slots_next j k l h, ← at, ← ex, ← ey, ← ef, t)

    pub other-next : ((not (eqb x 0) && not (eqb y 0)) && f) ≡ false → others ≡ every (λ j. not (clash s e (slot_at ds j))) (interval (j + 1 - 1) (k - (j + 1)))
    other-next t =
        let none : clash s e (slot_at ds (j - 1)) ≡ false = rw (← at, ← ex, ← ey, ← ef, t) in
        rw (slots_next j k l h) (ap (λ (u : Bool). not u && every (λ j. not (clash s e (slot_at ds j))) (interval (j + 1 - 1) (k - (j + 1)))) none)

pub other-start : (s ds : List ℕ) (e k : ℕ) → new_field s ds e (k - 1) ≡ every (λ j. not (clash s e (slot_at ds j))) (interval (2 - 1) (k - 2))
unfolding new_field
other-start s ds e k = let z : k - 1 - 1 ≡ k - 2 = omega arith in rw z
