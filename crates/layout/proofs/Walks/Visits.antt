-- The visit with marks, clause by clause, as the code takes it; and what a right directory gives.
use Prim.Native.Nat.{ℕ, zero, suc, ◌+◌, ◌-◌, ◌*◌, ◌≤◌, ◌<◌}
use mathlib.Core.Bool.{Bool, true, false, cond, ◌&&◌, false≢true}
use mathlib.Core.List.{List}
use mathlib.Core.Path.{◌≡◌, refl, sym, ap, ◌∙◌, subst}
use native.Mathlib.Omega.{arith}
use lib.Dec.{eqb, ltb, leb}
use lib.ListN.{get_or, set}
use borrow.Author.Tests.{eq-eqb, ne_eqb, lt-ltb, le-ltb, ltb-true, leb-true}
use Rattle.layout.specs.Limits.{max_directory, max_levels}
use Rattle.layout.specs.Lists.{same}
use Rattle.layout.specs.Bytes.{be32, part}
use Rattle.layout.specs.Geometry.{table_blocks, root_block, in_volume}
use Rattle.layout.specs.Table.{next, chain}
use Rattle.layout.specs.Directory.{slot_at, type_of, first_block, self_of, parent_of, blocks_of, is_directory, directory}
use Rattle.layout.specs.Check.{slot_ok, new_name}
use Rattle.layout.specs.Walks.Chains.{Walk, walked, walk, follow}
use Rattle.layout.specs.Walks.Entries.{self_ok}
use Rattle.layout.specs.Walks.Shapes.{Shape, DirectoryAt}
use Rattle.layout.specs.Walks.Slots.{entry_at}
use Rattle.layout.specs.Walks.Names.{bad_from}
use Rattle.layout.specs.Walks.Stages.{follow_directory, child_entry, follow_child, Seen, visited, walk_entry, walk_slots, walk_entries, walk_child, walk_root}
use Rattle.layout.proofs.Laws.Chains.{length-chain}
use Rattle.layout.proofs.Laws.Tests.{and_split}

-- a number of the self entry of block b
pub self-number : (s : List ℕ) (b x k : ℕ) → x ≡ be32 s (entry_at b 0 + k) → x ≡ be32 s (512 * b + k)
self-number s b x k e = e ∙ ap (λ (j : ℕ). be32 s j) (omega arith)

pub self-field : (s : List ℕ) (b : ℕ) → part s (entry_at b 0 + 48) 80 ≡ part s (512 * b + 48) 80
self-field s b =
    let e : entry_at b 0 + 48 ≡ 512 * b + 48 = omega arith in
    rw e

-- what the entry of a child directory and the child tell
module _ (s : List ℕ) (n e b : ℕ) (eb : b ≡ be32 s (e + 4)) where
  pub child_entry-beyond : n ≤ b → false ≡ child_entry s n e
  unfolding child_entry
  child_entry-beyond h = rw (← eb, le-ltb b n h)

  module _ (h : b < n) (x y : ℕ) (ex : x ≡ be32 s (512 * b + 12)) (ey : y ≡ be32 s (e + 12)) where
    pub child_entry-size : (x ≡ y → ⊥) → false ≡ child_entry s n e
    unfolding child_entry
    child_entry-size z = rw (← eb, lt-ltb b n h, ← ex, ← ey, ne_eqb x y z)

    pub child_entry-name : x ≡ y → same (part s (512 * b + 48) 80) (part s (e + 48) 80) ≡ child_entry s n e
    unfolding child_entry
    child_entry-name z = rw (← eb, lt-ltb b n h, ← ex, ← ey, eq-eqb x y z)

module _ (s : List ℕ) (n parent e : ℕ) (m : List ℕ) where
  pub follow_child-other : false ≡ child_entry s n e → walked false m ≡ follow_child s n parent e m
  unfolding follow_child
  follow_child-other h = rw (← h)

  pub follow_child-same : true ≡ child_entry s n e → (b : ℕ) → b ≡ be32 s (e + 4) → follow_directory s n b parent m ≡ follow_child s n parent e m
  unfolding follow_child
  follow_child-same h b eb = rw (← h, eb)

  pub child_entry-below : true ≡ child_entry s n e → first_block s e < n
  unfolding child_entry
  child_entry-below h = ltb-true _ _ (and_split (ltb (first_block s e) n) _ (sym h)).0

  pub record ChildFacts (m₁ : List ℕ) : Type 0 where
    pub inside : first_block s e < n
    pub stage : walked true m₁ ≡ follow_directory s n (first_block s e) parent m

  pub follow_child-right : (m₁ : List ℕ) → walked true m₁ ≡ follow_child s n parent e m → ChildFacts m₁
  unfolding follow_child
  follow_child-right m₁ h = go (child_entry s n e) refl
    where
      go : (t : Bool) → child_entry s n e ≡ t → ChildFacts m₁
      go true q = record { inside = child_entry-below (sym q); stage = rw q at h }
      go false q = absurd (false≢true (sym (ap (λ (w : Walk). w.ok) (rw q at h))))

-- one entry
module _ (child : ℕ → List ℕ → Seen) (s : List ℕ) (e : ℕ) (m : List ℕ) (ty : ℕ) (et : ty ≡ type_of s e) where
  pub walk_entry-other : false ≡ is_directory ty → visited 0 m ≡ walk_entry child s e m
  unfolding walk_entry
  walk_entry-other h = rw (← et, ← h)

  pub walk_entry-child : true ≡ is_directory ty → child e m ≡ walk_entry child s e m
  unfolding walk_entry
  walk_entry-child h = rw (← et, ← h)

-- the slots from k on, when the first that stage 5 refuses is known
bad-low : (s ds : List ℕ) (j k : ℕ) → k ≤ bad_from s ds k j
unfolding bad_from
bad-low s ds zero k = omega arith
bad-low s ds (suc j) k = go (slot_ok s (slot_at ds k) && new_name s ds k) (bad-low s ds j (k + 1))
  where
    go : (t : Bool) → k + 1 ≤ bad_from s ds (k + 1) j → k ≤ cond t (bad_from s ds (k + 1) j) k
    go true h = omega arith
    go false h = omega arith

module _ (child : ℕ → List ℕ → Seen) (s ds : List ℕ) (k j : ℕ) (m : List ℕ) where
  pub walk_slots-end : j ≡ 0 → walk_slots child s ds k j m ≡ visited 0 m
  unfolding walk_slots
  walk_slots-end e = rw e

  slots-suc : 0 < j → walk_slots child s ds k j m ≡
      (let w : Seen = walk_entry child s (slot_at ds k) m in
      let rest : Seen = walk_slots child s ds (k + 1) (j - 1) w.marks in
      cond (slot_ok s (slot_at ds k) && new_name s ds k) (cond (eqb w.why 0) rest w) (visited 5 m))
  unfolding walk_slots
  slots-suc h =
      let e : j ≡ suc (j - 1) = omega arith in
      ap (λ (i : ℕ). walk_slots child s ds k i m) e

  module _ (h : 0 < j) (bad : ℕ) (eb : bad ≡ bad_from s ds k j) where
    bad-suc : bad ≡ cond (slot_ok s (slot_at ds k) && new_name s ds k) (bad_from s ds (k + 1) (j - 1)) k
    unfolding bad_from
    bad-suc =
        let e : j ≡ suc (j - 1) = omega arith in
        eb ∙ ap (λ (i : ℕ). bad_from s ds k i) e

    refused : k ≡ bad → (slot_ok s (slot_at ds k) && new_name s ds k) ≡ false
    refused z = go (slot_ok s (slot_at ds k) && new_name s ds k) bad-suc
      where
        go : (t : Bool) → bad ≡ cond t (bad_from s ds (k + 1) (j - 1)) k → t ≡ false
        go true q = let l = bad-low s ds (j - 1) (k + 1) in absurd (omega arith)
        go false q = refl

    passed : (k ≡ bad → ⊥) → (slot_ok s (slot_at ds k) && new_name s ds k) ≡ true
    passed z = go (slot_ok s (slot_at ds k) && new_name s ds k) bad-suc
      where
        go : (t : Bool) → bad ≡ cond t (bad_from s ds (k + 1) (j - 1)) k → t ≡ true
        go true q = refl
        go false q = absurd (z (sym q))

    pub walk_slots-bad : k ≡ bad → walk_slots child s ds k j m ≡ visited 5 m
    walk_slots-bad z = slots-suc h ∙ rw (refused z)

    module _ (z : k ≡ bad → ⊥) where
      pub bad-next : bad ≡ bad_from s ds (k + 1) (j - 1)
      bad-next = rw (passed z) at bad-suc

      module _ (e : ℕ) (at : e ≡ slot_at ds k) (r : ℕ) (m₁ : List ℕ) (given : visited r m₁ ≡ walk_entry child s e m) where
        pub walk_slots-next : r ≡ 0 → walk_slots child s ds k j m ≡ walk_slots child s ds (k + 1) (j - 1) m₁
        walk_slots-next q = slots-suc h ∙ rw (passed z, ← at, ← given, eq-eqb r 0 q)

        pub walk_slots-stop : (r ≡ 0 → ⊥) → walk_slots child s ds k j m ≡ visited r m₁
        walk_slots-stop q = slots-suc h ∙ rw (passed z, ← at, ← given, ne_eqb r 0 q)

-- a directory
module _ (child : ℕ → List ℕ → Seen) (s ds : List ℕ) (d : ℕ) (m : List ℕ) (ty : ℕ) (et : ty ≡ type_of s (slot_at ds (4 * d - 1))) where
  pub walk_entries-end : (ty ≡ 255 → ⊥) → walk_entries child s ds d m ≡ visited 5 m
  unfolding walk_entries
  walk_entries-end h = rw (← et, ne_eqb ty 255 h)

  pub walk_entries-slots : ty ≡ 255 → walk_entries child s ds d m ≡ walk_slots child s ds 1 (4 * d - 2) m
  unfolding walk_entries
  walk_entries-slots h = rw (← et, eq-eqb ty 255 h)

-- a child, when `left` levels may still be met
module _ (left : ℕ) (s : List ℕ) (n parent e : ℕ) (m : List ℕ) where
  pub walk_child-none : left ≡ 0 → walk_child left s n parent e m ≡ visited 4 m
  unfolding walk_child
  walk_child-none z = rw z

  module _ (h : 0 < left) (m₁ : List ℕ) where
    pub walk_child-refused : walked false m₁ ≡ follow_child s n parent e m → walk_child left s n parent e m ≡ visited 4 m₁
    unfolding walk_child
    walk_child-refused g =
        let q : left ≡ suc (left - 1) = omega arith in
        ap (λ (i : ℕ). walk_child i s n parent e m) q ∙ rw (← g)

    pub walk_child-down : walked true m₁ ≡ follow_child s n parent e m → (b d : ℕ) → b ≡ be32 s (e + 4) → d ≡ be32 s (entry_at b 0 + 12)
        → walk_child left s n parent e m ≡ walk_entries (walk_child (left - 1) s n b) s (chain (next s) b d) d m₁
    unfolding walk_child directory
    walk_child-down g b d eb ed =
        let q : left ≡ suc (left - 1) = omega arith in
        let z : d ≡ blocks_of s (512 * b) = self-number s b d 12 ed in
        ap (λ (i : ℕ). walk_child i s n parent e m) q ∙ rw (← g, ← eb, ← z)

-- the root
module _ (s : List ℕ) (n : ℕ) (m m₁ : List ℕ) where
  pub walk_root-refused : walked false m₁ ≡ follow_directory s n (root_block n) (root_block n) m → walk_root s n m ≡ visited 4 m₁
  unfolding walk_root
  walk_root-refused g = rw (← g)

  pub walk_root-down : walked true m₁ ≡ follow_directory s n (root_block n) (root_block n) m → (d : ℕ) → d ≡ be32 s (entry_at (root_block n) 0 + 12)
      → walk_root s n m ≡ walk_entries (walk_child max_levels s n (root_block n)) s (chain (next s) (root_block n) d) d m₁
  unfolding walk_root directory
  walk_root-down g d ed =
      let z : d ≡ blocks_of s (512 * root_block n) = self-number s (root_block n) d 12 ed in
      rw (← g, ← z)

-- the blocks of a chain that was followed are below n, whatever was marked before
walk-below : (v : ℕ → ℕ) (n k b : ℕ) (m : List ℕ) → (walk v n k b m).ok ≡ true → (i : ℕ) → i < k → get_or (chain v b k) i 0 < n
unfolding walk chain in_volume
walk-below v n zero b m e i h = absurd (omega arith)
walk-below v n (suc k) b m e i h =
    go (walk-below v n k (v b) (set m b 1)) (in_volume n b && eqb (get_or m b 0) 0) refl e i h
  where
    go : ((walk v n k (v b) (set m b 1)).ok ≡ true → (i : ℕ) → i < k → get_or (chain v (v b) k) i 0 < n)
        → (t : Bool) → (in_volume n b && eqb (get_or m b 0) 0) ≡ t → (cond t (walk v n k (v b) (set m b 1)) (walked false m)).ok ≡ true
        → (i : ℕ) → i < suc k → get_or (chain v b (suc k)) i 0 < n
    go more true q p zero g = ltb-true b n (and_split (ltb (table_blocks n) b) _ (and_split (in_volume n b) _ q).0).1
    go more true q p (suc i) g = more p i (omega arith)
    go more false q p i g = absurd (false≢true p)

follow-below : (v : ℕ → ℕ) (n k b : ℕ) (m : List ℕ) → (follow v n k b m).ok ≡ true → (i : ℕ) → i < k → get_or (chain v b k) i 0 < n
unfolding follow
follow-below v n zero b m e i h = absurd (omega arith)
follow-below v n (suc k) b m e i h = walk-below v n (suc k) b m e i h

-- the first block of a directory
pub at-below : {s : List ℕ} {n b d : ℕ} → DirectoryAt s n b d → b < n
unfolding chain
at-below {s} {n} {b} {d} D =
    let q : d ≡ suc (d - 1) = let h = D.blocks.some in omega arith in
    first (d - 1) (subst (λ (k : ℕ). (i : ℕ) → i < k → get_or (chain (next s) b k) i 0 < n) q D.blocks.below)
  where
    first : (k : ℕ) → ((i : ℕ) → i < suc k → get_or (chain (next s) b (suc k)) i 0 < n) → b < n
    first k f = f 0 (omega arith)

-- a directory whose self entry and chain are right
module _ (s : List ℕ) (n b parent : ℕ) (m m₁ : List ℕ) (d : ℕ) (shape : Shape s n) (given : walked true m₁ ≡ follow_directory s n b parent m)
    (size : d ≡ be32 s (entry_at b 0 + 12)) where
  count : d ≡ blocks_of s (512 * b)
  count = self-number s b d 12 size

  record Right : Type 0 where
    self : self_ok s (512 * b) b parent ≡ true
    chased : (follow (next s) n d b m).ok ≡ true

  right : Right
  unfolding follow_directory
  right = go (self_ok s (512 * b) b parent) refl
    where
      go : (t : Bool) → self_ok s (512 * b) b parent ≡ t → Right
      go true q = record { self = q; chased = sym (ap (λ (w : Walk). w.ok) (rw (q, ← count) at given)) }
      go false q = absurd (false≢true (sym (ap (λ (w : Walk). w.ok) (rw q at given))))

  limits : (1 ≤ d) × (d ≤ max_directory)
  unfolding self_ok
  limits =
      let f : ℕ = 512 * b in
      let a₁ = and_split (eqb (type_of s f) 1) _ right.self in
      let a₂ = and_split (eqb (self_of s f) b) _ a₁.1 in
      let a₃ = and_split (eqb (parent_of s f) parent) _ a₂.1 in
      let a₄ = and_split (leb 1 (blocks_of s f)) (leb (blocks_of s f) max_directory) a₃.1 in
      (rw count (leb-true 1 (blocks_of s f) a₄.0), rw count (leb-true (blocks_of s f) max_directory a₄.1))

  pub directory-at : DirectoryAt s n b d
  directory-at = record {
    shape = shape;
    blocks = record {
      some = limits.0;
      few = limits.1;
      size = length-chain (next s) b d;
      below = follow-below (next s) n d b m right.chased;
    };
  }
