-- The slots of the directories of a sound image: where they are, their names, the children that they tell.
use Prim.Native.Nat.{ℕ, zero, suc, ◌+◌, ◌-◌, ◌*◌, ◌/◌, ◌≤◌, ◌<◌}
use mathlib.Core.Bool.{Bool, true, not, ◌||◌, or-true}
use mathlib.Core.List.{List, [], ◌∷◌}
use mathlib.Core.Logic.{◌⊎◌, inl, inr, ⊎_elim, ◌≢◌}
use mathlib.Core.Path.{◌≡◌, refl, sym, ap, subst}
use native.Mathlib.Decide.{ℕ_discrete}
use native.Mathlib.Omega.{arith}
use lib.ListN.{length}
use borrow.Author.Tests.{eq-eqb, eqb-true, not-true}
use Rattle.layout.specs.Limits.{max_levels}
use Rattle.layout.specs.Lists.{same, every, interval, select, joined}
use Rattle.layout.specs.Geometry.{block_count, table_blocks}
use Rattle.layout.specs.Table.{next}
use Rattle.layout.specs.Directory.{slot_at, slots, type_of, first_block, is_free, is_directory, name_of, directory, root_of, children, below, dirs}
use Rattle.layout.specs.Check.{new_name, slot_ok}
use Rattle.layout.proofs.Laws.Tests.{or_split, is_false, lt-or-gt, true-not-false}
use Rattle.layout.proofs.Laws.Lists.{In, every-interval, interval-every}
use Rattle.layout.proofs.Laws.Names.{same-eq, same_refl}
use Rattle.layout.proofs.Laws.Chains.{nth}
use Rattle.layout.proofs.Laws.Joins.{in-interval, interval-in, in-select, select_has, of_map, to_map, of-join, to-join}
use Rattle.layout.proofs.Laws.Visits.{blocks_in, below-is}
use Rattle.layout.proofs.Laws.Trees.{size_at, Directory, in_tree, dir-block, block-above, directory-in, slot_at-is, length-directory, same-slot-place}
use Rattle.layout.proofs.Laws.Sound.{Sound, Entry, EntryIn}

-- slots by their numbers
module _ (s : List ℕ) (b : ℕ) where
  pub in-slots : (k : ℕ) → In k (slots (directory s b)) → (1 ≤ k) × (k < 4 * size_at s b - 1)
  in-slots k i = let r = in-interval 1 (4 * length (directory s b) - 2) k i in (r.0, omega (arith, length-directory s b))

  pub slots-in : (k : ℕ) → 1 ≤ k → k < 4 * size_at s b - 1 → In k (slots (directory s b))
  slots-in k h g = interval-in (4 * length (directory s b) - 2) 1 k h (omega (arith, length-directory s b))

  pub in-children : (e : ℕ) → In e (children s b) → (k : ℕ) × (1 ≤ k) × (k < 4 * size_at s b - 1) × (is_directory (type_of s (slot_at (directory s b) k)) ≡ true) × (e ≡ slot_at (directory s b) k)
  unfolding children
  in-children e i =
      let p : ℕ → Bool = λ k. is_directory (type_of s (slot_at (directory s b) k)) in
      let r = of_map (slot_at (directory s b)) e (select p (slots (directory s b))) i in
      let w = in-select p (slots (directory s b)) r.0 r.1 in
      let x = in-slots r.0 w.0 in
      (r.0, x.0, x.1, w.1, r.2)

  pub children-in : (k : ℕ) → 1 ≤ k → k < 4 * size_at s b - 1 → is_directory (type_of s (slot_at (directory s b) k)) ≡ true → In (slot_at (directory s b) k) (children s b)
  unfolding children
  children-in k h g t =
      let p : ℕ → Bool = λ j. is_directory (type_of s (slot_at (directory s b) j)) in
      to_map (slot_at (directory s b)) k (select p (slots (directory s b))) (select_has p (slots (directory s b)) k (slots-in k h g) t)

-- a name is new exactly if no earlier slot that is not free has it
module _ (s ds : List ℕ) (k : ℕ) where
  pub new_name-split : new_name s ds k ≡ true → type_of s (slot_at ds k) ≢ 0 → (j : ℕ) → 1 ≤ j → j < k → type_of s (slot_at ds j) ≢ 0 → name_of s (slot_at ds j) ≢ name_of s (slot_at ds k)
  unfolding new_name
  new_name-split w used j h l uj q =
      let test : ℕ → Bool = λ i. is_free (type_of s (slot_at ds i)) || not (same (name_of s (slot_at ds i)) (name_of s (slot_at ds k))) in
      let a : every test (interval 1 (k - 1)) ≡ true = ⊎_elim (λ z. absurd (used (eqb-true _ _ z))) (λ z. z) (or_split (is_free (type_of s (slot_at ds k))) _ w) in
      let t = every-interval test 1 (k - 1) a j h (omega arith) in
      ⊎_elim (λ z. uj (eqb-true _ _ z)) (λ z. true-not-false {a = same (name_of s (slot_at ds j)) (name_of s (slot_at ds k))} (rw q (same_refl (name_of s (slot_at ds k)))) (not-true _ z))
      (or_split (is_free (type_of s (slot_at ds j))) _ t)

  pub new_name-join : (type_of s (slot_at ds k) ≢ 0 → (j : ℕ) → 1 ≤ j → j < k → type_of s (slot_at ds j) ≢ 0 → name_of s (slot_at ds j) ≢ name_of s (slot_at ds k)) → new_name s ds k ≡ true
  unfolding new_name
  new_name-join f = go (ℕ_discrete (type_of s (slot_at ds k)) 0)
    where
      test : ℕ → Bool
      test i = is_free (type_of s (slot_at ds i)) || not (same (name_of s (slot_at ds i)) (name_of s (slot_at ds k)))

      at : type_of s (slot_at ds k) ≢ 0 → (j : ℕ) → 1 ≤ j → j < k → Dec (type_of s (slot_at ds j) ≡ 0) → test j ≡ true
      at u j h l (yes z) = rw (eq-eqb _ 0 z)
      at u j h l (no z) = rw (is_false (same (name_of s (slot_at ds j)) (name_of s (slot_at ds k))) (λ t. f u j h l z (same-eq _ _ t))) (or-true (is_free (type_of s (slot_at ds j))))

      go : Dec (type_of s (slot_at ds k) ≡ 0) → new_name s ds k ≡ true
      go (yes z) = rw (eq-eqb _ 0 z)
      go (no z) = rw (interval-every test 1 (k - 1) (λ j h g. at z j h (omega arith) (ℕ_discrete (type_of s (slot_at ds j)) 0))) (or-true (is_free (type_of s (slot_at ds k))))

-- a child of a directory of the tree is one too, with a level less below it
pub child-below : (s : List ℕ) (left r b j e : ℕ) → In (b, suc j) (below s left r) → In e (children s b) → In (first_block s e, j) (below s left r)
child-below s zero r b j e i m = one (rw (below-is s zero r) at i)
  where
    one : In {A = ℕ × ℕ} (b, suc j) ((r, zero) ∷ []) → In (first_block s e, j) (below s zero r)
    one (inr x3) = elim x3 [ ]
    one (inl q) = let z : suc j ≡ zero = ap (λ (w : ℕ × ℕ). w.1) q in absurd (omega arith)
child-below s (suc left) r b j e i m = one (λ a p. child-below s left (first_block s a) b j e p m) (rw (below-is s (suc left) r) at i)
  where
    there : (a : ℕ) → In a (children s r) → In (first_block s e, j) (below s left (first_block s a)) → In (first_block s e, j) (below s (suc left) r)
    there a n p = rw (below-is s (suc left) r) (inr (to-join (λ x. below s left (first_block s x)) (children s r) a (first_block s e, j) n p))

    one : ((a : ℕ) → In (b, suc j) (below s left (first_block s a)) → In (first_block s e, j) (below s left (first_block s a)))
        → In {A = ℕ × ℕ} (b, suc j) ((r, suc left) ∷ joined (λ x. below s left (first_block s x)) (children s r)) → In (first_block s e, j) (below s (suc left) r)
    one ih (inl q) =
        let x : b ≡ r = ap (λ (w : ℕ × ℕ). w.0) q in
        let y : j ≡ left = let z : suc j ≡ suc left = ap (λ (w : ℕ × ℕ). w.1) q in omega arith in
        there e (subst (λ (z : ℕ). In e (children s z)) x m) (rw (y, below-is s left (first_block s e)) (inl refl))
    one ih (inr q) =
        let w = of-join (λ x. below s left (first_block s x)) (children s r) (b, suc j) q in
        there w.0 w.1 (ih w.0 w.2)

module _ (s : List ℕ) (S : Sound s) where
  abbrev n : ℕ
  n = block_count s

  -- a directory d of the tree
  module _ (d : ℕ × ℕ) (di : In d (dirs s)) where
    pub right-dir : (p : ℕ) × Directory s n d.0 p
    right-dir = in_tree s n S.tree d di

    pub dir-least : 1 ≤ size_at s d.0
    dir-least = right-dir.1.d-least

    pub child-dir : (e : ℕ) → In e (children s d.0) → (j : ℕ) × In (first_block s e, j) (dirs s)
    unfolding dirs
    child-dir e m = go d.1 refl
      where
        go : (j : ℕ) → d.1 ≡ j → (i : ℕ) × In (first_block s e, i) (below s max_levels (root_of s))
        go zero q = absurd (subst (In e) ((S.tree.local d di).deep q) m)
        go (suc j) q =
            let z : d ≡ (d.0, suc j) = ap {B = ℕ × ℕ} (λ (y : ℕ). (d.0, y)) q in
            (j, child-below s max_levels (root_of s) d.0 j e (subst (λ (w : ℕ × ℕ). In w (below s max_levels (root_of s))) z di) m)

    -- its slots
    module _ (k : ℕ) (h : k < 4 * size_at s d.0) where
      pub slot-block : slot_at (directory s d.0) k / 512 ≡ nth (next s) (k / 4) d.0
      slot-block = omega (arith, slot_at-is s d.0 k h)

      pub slot-entry : Entry s (slot_at (directory s d.0) k)
      slot-entry =
          record {
            within-tree = rw slot-block (dir-block s n S.tree S.least d di (k / 4) (omega arith));
            aligned = omega (arith, slot_at-is s d.0 k h);
          }

      pub slot-entry-in : (ks : List (ℕ × ℕ)) → In d ks → EntryIn s ks (slot_at (directory s d.0) k)
      slot-entry-in ks i =
          record {
            within-tree = rw slot-block (to-join (blocks_in s) ks d (nth (next s) (k / 4) d.0) i (directory-in s d.0 (k / 4) (omega arith)));
            aligned = omega (arith, slot_at-is s d.0 k h);
          }

      pub slot-other : (d' : ℕ × ℕ) → In d' (dirs s) → (j : ℕ) → j < 4 * size_at s d'.0 → (d ≢ d') ⊎ (k ≢ j) → slot_at (directory s d.0) k ≢ slot_at (directory s d'.0) j
      slot-other d' di' j hj (inl ne) q = ne (same-slot-place s n S.tree S.least d d' di di' k j h hj q).0
      slot-other d' di' j hj (inr ne) q = ne (same-slot-place s n S.tree S.least d d' di di' k j h hj q).1

    pub slot-ok : (k : ℕ) → 1 ≤ k → k < 4 * size_at s d.0 - 1 → slot_ok s (slot_at (directory s d.0) k) ≡ true
    slot-ok k h g = (S.tree.local d di).slot k (slots-in s d.0 k h g)

    -- the names of two slots that are not free differ
    pub names-differ : (j k : ℕ) → 1 ≤ j → 1 ≤ k → j < 4 * size_at s d.0 - 1 → k < 4 * size_at s d.0 - 1 → j ≢ k
        → type_of s (slot_at (directory s d.0) j) ≢ 0 → type_of s (slot_at (directory s d.0) k) ≢ 0 → name_of s (slot_at (directory s d.0) j) ≢ name_of s (slot_at (directory s d.0) k)
    names-differ j k j₁ k₁ j₂ k₂ ne uj uk q =
        ⊎_elim
        (λ lt. new_name-split s (directory s d.0) k ((S.tree.local d di).name k (slots-in s d.0 k k₁ k₂)) uk j j₁ lt uj q)
        (λ lt. new_name-split s (directory s d.0) j ((S.tree.local d di).name j (slots-in s d.0 j j₁ j₂)) uj k k₁ lt uk (sym q))
        (lt-or-gt j k ne)

  -- an entry of some directories of the tree is one of the tree
  pub entry-of-tree : (ks : List (ℕ × ℕ)) → ((d : ℕ × ℕ) → In d ks → In d (dirs s)) → (a : ℕ) → EntryIn s ks a → Entry s a
  entry-of-tree ks sub a E =
      let r = of-join (blocks_in s) ks (a / 512) E.within-tree in
      record { within-tree = to-join (blocks_in s) (dirs s) r.0 (a / 512) (sub r.0 r.1) r.2; aligned = E.aligned }

  -- an entry lies in the image, above the table
  pub entry-low : (e : ℕ) → Entry s e → 512 * (table_blocks n + 1) ≤ e
  entry-low e E = let w = block-above s n S.tree S.least (e / 512) E.within-tree in omega arith

  pub entry-high : (e : ℕ) → Entry s e → e + 128 ≤ length s
  entry-high e E = let w = block-above s n S.tree S.least (e / 512) E.within-tree in let a = E.aligned in omega (arith, S.whole)

  pub entries-apart : (e e' : ℕ) → Entry s e → Entry s e' → e ≢ e' → (e + 128 ≤ e') ⊎ (e' + 128 ≤ e)
  entries-apart e e' E E' ne =
      let a = E.aligned in
      let b = E'.aligned in
      ⊎_elim (λ lt. inl (omega arith)) (λ lt. inr (omega arith)) (lt-or-gt e e' ne)
