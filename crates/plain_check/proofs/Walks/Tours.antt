-- Stages 4 and 5 down the tree, slot by slot.
use Prim.Native.Nat.{ℕ, zero, suc, ◌+◌, ◌-◌, ◌*◌, ◌/◌, ◌%◌, ◌≤◌, ◌<◌}
use mathlib.Core.Bool.{Bool, true, false, cond, not, ◌&&◌, ◌||◌}
use mathlib.Core.List.{List}
use mathlib.Core.Logic.{⊎_elim}
use mathlib.Core.Path.{◌≡◌, refl, sym, ap, ◌∙◌}
use native.Mathlib.Omega.{arith}
use lib.Dec.{eqb, ltb}
use lib.ListN.{length, get_or}
use borrow.Author.Tests.{eq-eqb, ne_eqb, ltb-true, not-true}
use Rattle.layout.specs.Lists.{interval}
use Rattle.layout.specs.Table.{next, chain}
use Rattle.layout.specs.Directory.{slot_at, type_of, first_block, blocks_of, is_directory, directory}
use Rattle.layout.specs.Check.{slot_ok, new_name}
use Rattle.layout.proofs.Laws.Chains.{chain_first}
use Rattle.layout.proofs.Laws.Tests.{and_split, lt-or-ge}
use Rattle.layout.proofs.Laws.Trees.{length-directory}
use Rattle.plain_check.specs.Plain.{plain_directory_ok, plain_child_ok, Tour, toured, stop4, stop5, up_to, asks, goes_on, tour_slots, tour_entries, tour_child}
use Rattle.plain_check.specs.Walks.{new_field, new_from, Volume, Stands}
use Rattle.plain_check.proofs.Walks.Slots.{slots-none, slots_next, slots-first}
use Rattle.plain_check.proofs.Walks.Stage4.{four-stands}
use Rattle.plain_check.proofs.Walks.Stage5.{fields-names}

module _ (s : List ℕ) (n d : ℕ) (S : Stands s n d) where
  pub stands-first : d < n
  unfolding directory
  stands-first = rw (← chain_first (next s) d (blocks_of s (512 * d)) (omega (arith, S.some))) at (S.below 0 (omega (arith, S.some)))

  pub stands-slot : (k : ℕ) → k < 4 * blocks_of s (512 * d) → slot_at (directory s d) k + 128 ≤ 512 * n
  unfolding slot_at
  stands-slot k h = omega (arith, S.below (k / 4) (omega arith))

  -- the end slot
  pub end-slot : (size end : ℕ) → size ≡ blocks_of s (512 * d) → end ≡ get_or (chain (next s) d size) (size - 1) 0
      → 512 * end + 384 ≡ slot_at (directory s d) (4 * length (directory s d) - 1)
  unfolding slot_at directory
  end-slot size end es ee =
      let l : length (directory s d) ≡ size = length-directory s d ∙ sym es in
      let some : 1 ≤ size = omega (arith, S.some) in
      let p : (4 * size - 1) / 4 ≡ size - 1 = omega arith in
      let q : (4 * size - 1) % 4 ≡ 3 = omega arith in
      rw (l, p, q, ← es, ← ee)

-- entry k, where all slots before it are right
module _ (s : List ℕ) (n d k e : ℕ) (v : Volume s n) (S : Stands s n d) (l : 2 ≤ k) (h : k < 4 * blocks_of s (512 * d)) (at : e ≡ slot_at (directory s d) (k - 1))
    (right : (j : ℕ) → 1 ≤ j → j < k - 1 → slot_ok s (slot_at (directory s d) j) ≡ true) where
  pub slot-inside : e + 128 ≤ length s
  slot-inside = omega (arith, at, stands-slot s n d S (k - 1) (omega (arith, h, l)), v.whole)

  pub slot-tests : (a b : Bool) → a ≡ slot_ok s e → b ≡ new_field s (directory s d) e (k - 1) → (a && b) ≡ (slot_ok s e && new_name s (directory s d) (k - 1))
  slot-tests a b ea eb =
      rw (ea, eb)
      (fields-names s (directory s d) (k - 1) e at (λ j q. omega (arith, stands-slot s n d S j (omega (arith, q, h, l)), v.whole)) right)

  pub right-more : slot_ok s e ≡ true → (j : ℕ) → 1 ≤ j → j < k + 1 - 1 → slot_ok s (slot_at (directory s d) j) ≡ true
  right-more ok j q r =
      ⊎_elim
      (λ u. right j q u)
      (λ u. let z : j ≡ k - 1 = omega (arith, u, r, l) in rw (z, ← at) ok)
      (lt-or-ge j (k - 1))

module _ (child : ℕ → ℕ → Tour) (s ds : List ℕ) (c : ℕ) where
  module _ (type e : ℕ) (at : e ≡ slot_at ds (4 * length ds - 1)) (et : type ≡ type_of s e) where
    pub tour-unended : (type ≡ 0xFF → ⊥) → toured 5 0 ≡ tour_entries child s ds c
    unfolding tour_entries
    tour-unended h = rw (← at, ← et, ne_eqb type 0xFF h)

    pub tour-slots : type ≡ 0xFF → (size end : ℕ) → size ≡ length ds → end ≡ 4 * size → tour_entries child s ds c ≡ tour_slots child s ds (interval (2 - 1) (end - 2)) c
    unfolding tour_entries
    tour-slots h size end es ee = rw (← at, ← et, eq-eqb type 0xFF h, ← es, slots-first size end ee)

  module _ (k end : ℕ) where
    pub slots_end : end ≤ k → tour_slots child s ds (interval (k - 1) (end - k)) c ≡ toured 0 c
    unfolding tour_slots
    slots_end h = rw (slots-none k end h)

    module _ (l : 2 ≤ k) (h : k < end) (e : ℕ) (at : e ≡ slot_at ds (k - 1)) where
      turn : tour_slots child s ds (interval (k - 1) (end - k)) c
          ≡ asks (slot_ok s e && new_name s ds (k - 1)) stop5 (goes_on (cond (is_directory (type_of s e)) (child e c) (up_to c)) (tour_slots child s ds (interval (k + 1 - 1) (end - (k + 1)))))
      unfolding tour_slots
      turn = rw at (ap (λ (ks : List ℕ). tour_slots child s ds ks c) (slots_next k end l h))

      pub slots-bad : false ≡ slot_ok s e && new_name s ds (k - 1) → tour_slots child s ds (interval (k - 1) (end - k)) c ≡ toured 5 0
      slots-bad t = turn ∙ rw (← t)

      module _ (t : true ≡ slot_ok s e && new_name s ds (k - 1)) (kind : ℕ) (ek : kind ≡ type_of s e) where
        pub slots-other : false ≡ is_directory kind → tour_slots child s ds (interval (k - 1) (end - k)) c ≡ tour_slots child s ds (interval (k + 1 - 1) (end - (k + 1))) c
        slots-other u = turn ∙ rw (← t, ← ek, ← u)

        down : true ≡ is_directory kind → tour_slots child s ds (interval (k - 1) (end - k)) c ≡ goes_on (child e c) (tour_slots child s ds (interval (k + 1 - 1) (end - (k + 1))))
        down u = turn ∙ rw (← t, ← ek, ← u)

        pub slots-stop : true ≡ is_directory kind → (fault m : ℕ) → toured fault m ≡ child e c → (fault ≡ 0 → ⊥) → tour_slots child s ds (interval (k - 1) (end - k)) c ≡ toured fault m
        slots-stop u fault m w z = down u ∙ rw (← w) (stops fault m z)
          where
            stops : (fault m : ℕ) → (fault ≡ 0 → ⊥) → goes_on (toured fault m) (tour_slots child s ds (interval (k + 1 - 1) (end - (k + 1)))) ≡ toured fault m
            stops zero m z = absurd (z refl)
            stops (suc fault) m z = refl

        pub slots-down : true ≡ is_directory kind → (fault m : ℕ) → toured fault m ≡ child e c → fault ≡ 0
            → tour_slots child s ds (interval (k - 1) (end - k)) c ≡ tour_slots child s ds (interval (k + 1 - 1) (end - (k + 1))) m
        slots-down u fault m w z = down u ∙ rw (← w, z)

-- a child
module _ (s : List ℕ) (n p e c : ℕ) where
  abbrev pub child_right : Bool
  child_right = plain_child_ok s n p e && (ltb c n && new_from s c (first_block s e) (blocks_of s (512 * first_block s e)))

  pub child-bad : (levels : ℕ) (t : Bool) → t ≡ child_right → (eqb levels 0 || not t) ≡ true → toured 4 0 ≡ tour_child levels s n p e c
  unfolding tour_child new_from directory
  child-bad zero t r q = refl
  child-bad (suc levels) t r q = rw (← r) (go t (rw (ne_eqb (suc levels) 0 (λ w. omega arith)) at q))
    where
      go : (t : Bool) → not t ≡ true → toured 4 0 ≡ asks t stop4 (tour_entries (tour_child levels s n (first_block s e)) s (directory s (first_block s e)) (suc c))
      go t q = rw (not-true t q)

  pub child-down : (levels : ℕ) → (levels ≡ 0 → ⊥) → true ≡ child_right → (b : ℕ) → b ≡ first_block s e
      → tour_entries (tour_child (levels - 1) s n b) s (directory s b) (c + 1) ≡ tour_child levels s n p e c
  unfolding tour_child new_from directory
  child-down zero z t b eb = absurd (z refl)
  child-down (suc levels) z t b eb =
      let q : suc levels - 1 ≡ levels = omega arith in
      let r : c + 1 ≡ suc c = omega arith in
      rw (q, r, eb, ← t)

  pub child-stands : true ≡ child_right → (b : ℕ) → b ≡ first_block s e → Stands s n b
  unfolding plain_child_ok
  child-stands t b eb =
      let w = and_split (plain_child_ok s n p e) _ (sym t) in
      rw eb (four-stands s n (first_block s e) p (sym (and_split (plain_directory_ok s n (first_block s e) p) _ w.0).0))

  pub child-fewer : true ≡ child_right → c < n
  child-fewer t = let w = and_split (plain_child_ok s n p e) _ (sym t) in ltb-true c n (and_split (ltb c n) _ w.1).0
