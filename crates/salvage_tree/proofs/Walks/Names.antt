-- Names: the length of one, and the loop that looks for it.
use Prim.Native.Nat.{ℕ, suc, ◌+◌, ◌-◌, ◌/◌, ◌≤◌, ◌<◌}
use mathlib.Core.Bool.{Bool, true, false, not, ◌&&◌}
use mathlib.Core.List.{List}
use mathlib.Core.Logic.{⊎_elim}
use mathlib.Core.Path.{◌≡◌, refl, sym, ap, ◌∙◌}
use native.Mathlib.Omega.{arith}
use lib.ListN.{length, get_or, take, drop}
use lib.Seq.{drop-length}
use borrow.Author.Tests.{eq-eqb, ne_eqb}
use lib.Dec.{eqb}
use Rattle.layout.specs.Lists.{interval, every, same}
use Rattle.layout.specs.Bytes.{part}
use Rattle.layout.specs.Directory.{slot_at, type_of, unpadded, good_name, name_of, name_ok}
use Rattle.layout.specs.Check.{slot_ok, new_name, file_ok, directory_entry_ok}
use Rattle.layout.specs.Walks.Slots.{entry_at}
use Rattle.layout.proofs.Laws.Tests.{and_split}
use Rattle.layout.proofs.Laws.Lists.{interval-next}
use Rattle.layout.proofs.Laws.Names.{take-unpadded}
use Rattle.layout.proofs.Laws.Sound.{slot_ok-split}
use Rattle.layout.proofs.Walks.Names.{unpadded-end, unpadded-next}
use Rattle.layout.specs.Walks.Shapes.{Blocks}
use Rattle.salvage_tree.specs.Walks.{other_than, Own}

-- THE LENGTH of a name, when i bytes are looked at
pub record Measuring (f : List ℕ) (i : ℕ) : Type 0 where
  pub most : i ≤ length f
  pub is : length (unpadded f) ≡ i + length (unpadded (drop i f))

pub measuring-start : (f : List ℕ) → Measuring f 0
measuring-start f = record { most = omega arith; is = omega arith }

pub measuring-more : (f : List ℕ) (i : ℕ) → Measuring f i → i < length f → (get_or f i 0 ≡ 0 → ⊥) → Measuring f (i + 1)
measuring-more f i w h ne =
    let q : length (unpadded (drop i f)) ≡ suc (length (unpadded (drop (i + 1) f))) = ap length (unpadded-next f i h ne) in
    record { most = omega arith; is = omega (arith, w.is) }

pub measured-stop : (f : List ℕ) (i : ℕ) → Measuring f i → i < length f → get_or f i 0 ≡ 0 → (i ≡ length (unpadded f)) × (i ≤ length f)
measured-stop f i w h e = let q : length (unpadded (drop i f)) ≡ 0 = ap length (unpadded-end f i h e) in (omega (arith, w.is), w.most)

pub measured-end : (f : List ℕ) (i : ℕ) → Measuring f i → length f ≤ i → (length f ≡ length (unpadded f)) × (length f ≤ length f)
measured-end f i w h =
    let p : i ≡ length f = omega (arith, w.most) in
    let q : length (unpadded (drop i f)) ≡ 0 = ap (λ (j : ℕ). length (unpadded (drop j f))) p ∙ ap (λ (l : List ℕ). length (unpadded l)) (drop-length f) in
    (omega (arith, w.is), omega arith)

pub named-part : (s : List ℕ) (e : ℕ) (f : List ℕ) (r : ℕ) → f ≡ part s (e + 48) 80 → r ≡ length (unpadded f) → take r f ≡ name_of s e
unfolding name_of
named-part s e f r ef er =
    rw er (take-unpadded f ∙ ap unpadded ef)

-- A SLOT WITH THE NAME
pub name_free : (s : List ℕ) (e : ℕ) (name : List ℕ) (type : ℕ) → type ≡ type_of s e → type ≡ 0 → not (eqb type 0) ≡ not (other_than s e name)
unfolding other_than
name_free s e name type et z = rw (← et, eq-eqb type 0 z)

pub name-held : (s : List ℕ) (e : ℕ) (name f : List ℕ) → (type_of s e ≡ 0 → ⊥) → f ≡ part s (e + 48) 80 → (r : Bool) → r ≡ same (unpadded f) name → r ≡ not (other_than s e name)
unfolding other_than name_of
name-held s e name f z ef r er = rw (ne_eqb (type_of s e) 0 z, ← ef, ← er) (sym (not-not r))
  where
    not-not : (t : Bool) → not (not t) ≡ t
    not-not true = refl
    not-not false = refl

-- THE LOOP, at slot k
pub record Seeking (s ds name : List ℕ) (j k left : ℕ) : Type 0 where
  pub sum : k + left ≡ 1 + j
  pub some : 1 ≤ k
  pub is : every (λ x. other_than s (slot_at ds x) name) (interval 1 j) ≡ every (λ x. other_than s (slot_at ds x) name) (interval k left)

pub seeking-start : (s ds name : List ℕ) (j : ℕ) → Seeking s ds name j 1 j
seeking-start s ds name j = record { sum = refl; some = omega arith; is = refl }

pub slot_is : (ds : List ℕ) (k b : ℕ) → b ≡ get_or ds (k / 4) 0 → slot_at ds k ≡ entry_at b k
unfolding slot_at
slot_is ds k b e = rw (← e)

module _ {s ds name : List ℕ} {j k left : ℕ} (w : Seeking s ds name j k left) (pos : 0 < left) (b : ℕ) (eb : b ≡ get_or ds (k / 4) 0) (r : Bool) (er : r ≡ not (other_than s (entry_at b k) name)) where
  test-is : r ≡ not (other_than s (slot_at ds k) name)
  test-is = er ∙ ap (λ (e : ℕ). not (other_than s e name)) (sym (slot_is ds k b eb))

  here : every (λ x. other_than s (slot_at ds x) name) (interval 1 j) ≡ other_than s (slot_at ds k) name && every (λ x. other_than s (slot_at ds x) name) (interval (k + 1) (left - 1))
  here = w.is ∙ ap (every (λ x. other_than s (slot_at ds x) name)) (interval-next k left pos)

  pub sought-here : r ≡ true → false ≡ every (λ x. other_than s (slot_at ds x) name) (interval 1 j)
  sought-here z = sym (here ∙ rw (not_is true (other_than s (slot_at ds k) name) (sym z ∙ test-is)))
    where
      not_is : (t u : Bool) → t ≡ not u → u ≡ not t
      not_is t true e = rw e
      not_is t false e = rw e

  pub seeking-more : r ≡ false → (rest : ℕ) → rest + 1 ≡ left → Seeking s ds name j (k + 1) rest
  seeking-more z rest er = let q : rest ≡ left - 1 = omega arith in rw q
      (record { sum = omega (arith, w.sum); some = omega arith; is = here ∙ rw (not_is false (other_than s (slot_at ds k) name) (sym z ∙ test-is)) })
    where
      not_is : (t u : Bool) → t ≡ not u → u ≡ not t
      not_is t true e = rw e
      not_is t false e = rw e

pub sought-none : {s ds name : List ℕ} {j k left : ℕ} → Seeking s ds name j k left → left ≡ 0 → true ≡ every (λ x. other_than s (slot_at ds x) name) (interval 1 j)
sought-none w e = sym (w.is ∙ rw e)

-- A SLOT IN USE THAT IS RIGHT has a good name
pub right-name : (s : List ℕ) (e : ℕ) → slot_ok s e ≡ true → (type_of s e ≡ 0 → ⊥) → good_name (name_of s e) ≡ true
unfolding name_ok file_ok directory_entry_ok
right-name s e w u =
    ⊎_elim (λ z. absurd (u z))
    (λ o. ⊎_elim (λ f. (and_split (good_name (name_of s e)) _ (and_split (name_ok s e) _ f.1).0).0) (λ f. (and_split (good_name (name_of s e)) _ (and_split (name_ok s e) _ f.1).0).0) o)
    (slot_ok-split s e w)

pub right-broken : (s ds : List ℕ) (b k : ℕ) (r : Bool) → r ≡ slot_ok s (entry_at b k) → r ≡ false → false ≡ slot_ok s (entry_at b k) && new_name s ds k
right-broken s ds b k r e z = rw (sym e ∙ z)

pub right_new : (s ds : List ℕ) (b k : ℕ) → b ≡ get_or ds (k / 4) 0 → (type_of s (entry_at b k) ≡ 0 → ⊥) → (r : Bool) → r ≡ slot_ok s (entry_at b k) → r ≡ true
    → (name : List ℕ) → name ≡ name_of s (entry_at b k) → (x : Bool) → x ≡ every (λ y. other_than s (slot_at ds y) name) (interval 1 (k - 1)) → x ≡ slot_ok s (entry_at b k) && new_name s ds k
unfolding new_name other_than
right_new s ds b k eb u r er z name en x ex =
    let q = slot_is ds k b eb in
    rw (sym er ∙ z, q, ne_eqb (type_of s (entry_at b k)) 0 u, ← en) ex

-- the blocks of a directory, for what only looks
pub own-blocks : (n : ℕ) (ds : List ℕ) → Own n ds → Blocks n (length ds) ds
own-blocks n ds O = record { some = O.some; few = O.few; size = refl; below = O.below }
