-- AGREEMENT: an image whose directories' blocks, and their slots but one, are as they were. Its tree is the same where no directory entry comes or goes,
-- and it is sound again by what is new of it: one slot, the table, the counts.
use Prim.Native.Nat.{ℕ, zero, suc, ◌+◌, ◌-◌, ◌*◌, ◌/◌, ◌≤◌, ◌<◌}
use mathlib.Core.Bool.{true, false}
use mathlib.Core.List.{List, ◌∷◌, map}
use mathlib.Core.Logic.{inl, inr, ◌≢◌}
use mathlib.Core.Path.{◌≡◌, refl, sym, ap, ◌∙◌, subst}
use native.Mathlib.Decide.{ℕ_discrete}
use native.Mathlib.Omega.{arith}
use lib.ListN.{length}
use Rattle.layout.specs.Limits.{max_levels}
use Rattle.layout.specs.Lists.{joined}
use Rattle.layout.specs.Bytes.{be32, part}
use Rattle.layout.specs.Geometry.{block_count, root_block}
use Rattle.layout.specs.Table.{next, occupied}
use Rattle.layout.specs.Directory.{slot_at, slots, type_of, first_block, blocks_of, is_directory, name_of, directory, root_of, children, below, dirs}
use Rattle.layout.specs.Check.{stage2, stage3, slot_ok, new_name, child_ok, directory_ok}
use Rattle.layout.proofs.Laws.Tests.{true-not-false}
use Rattle.layout.proofs.Laws.Lists.{In, joined_same}
use Rattle.layout.proofs.Laws.Chains.{nth, nth-agree, chain-agree}
use Rattle.layout.proofs.Laws.Joins.{select-agree, to-join}
use Rattle.layout.proofs.Laws.Entries.{same-type, same_name, same-slot, same-field, same-name-field}
use Rattle.layout.proofs.Laws.Frames.{Same, same-be32, same-part}
use Rattle.layout.proofs.Laws.Visits.{Local, Tree, dir_blocks, blocks_in, below-is}
use Rattle.layout.proofs.Laws.Trees.{size_at, Directory, root_in, directory-in, length-directory, slot_at-zero, directory_ok-join, directory_ok-split, child_ok-split, child_ok-join, same-slot-place}
use Rattle.layout.proofs.Laws.Tables.{Table, table_of}
use Rattle.layout.proofs.Laws.Sound.{Facts, Sound, EntryIn, blocks_of_all, held_at, Owner, owner-map}
use Rattle.layout.proofs.Laws.Slots.{in-slots, in-children, new_name-join, dir-least, child-dir, slot-entry, slot-entry-in, slot-other, entry-of-tree, slot-ok, names-differ, entry-high}

-- what keeps a directory's place in the tree: its blocks, its children's entries, and where they lead
pub record Kept (s s' : List ℕ) (b : ℕ) : Type 0 where
  pub blocks : directory s' b ≡ directory s b
  pub kids : children s' b ≡ children s b
  pub firsts : (e : ℕ) → In e (children s b) → first_block s' e ≡ first_block s e

module _ (s s' : List ℕ) where
  pub below-same : (left b : ℕ) → ((d : ℕ × ℕ) → In d (below s left b) → Kept s s' d.0) → below s' left b ≡ below s left b
  below-same zero b f = below-is s' zero b ∙ sym (below-is s zero b)
  below-same (suc left) b f =
      let K = f (b, suc left) (rw (below-is s (suc left) b) (inl refl)) in
      let each : (e : ℕ) → In e (children s b) → below s' left (first_block s' e) ≡ below s left (first_block s e) =
      λ e i. ap (below s' left) (K.firsts e i) ∙ below-same left (first_block s e)
      (λ d j. f d (rw (below-is s (suc left) b) (inr (to-join (λ a. below s left (first_block s a)) (children s b) e d i j)))) in
      below-is s' (suc left) b
      ∙ ap (λ (r : List (ℕ × ℕ)). (b, suc left) ∷ r)
      (ap (joined (λ e. below s' left (first_block s' e))) K.kids ∙ joined_same (λ e. below s left (first_block s e)) (λ e. below s' left (first_block s' e)) (children s b) each)
      ∙ sym (below-is s (suc left) b)

  module _ (len : length s' ≡ length s) (kept : (d : ℕ × ℕ) → In d (dirs s) → Kept s s' d.0) where
    pub dirs-same : dirs s' ≡ dirs s
    unfolding dirs
    dirs-same = ap (below s' max_levels) (ap (λ (x : ℕ). root_block (x / 512)) len) ∙ below-same max_levels (root_of s) kept

    pub dir_blocks-same : dir_blocks s' ≡ dir_blocks s
    dir_blocks-same = ap (joined (blocks_in s')) dirs-same ∙ joined_same (blocks_in s) (blocks_in s') (dirs s) (λ d i. (kept d i).blocks)

    pub tree-same : (n : ℕ) → Tree s n → directory_ok s' n (root_of s) (root_of s) ≡ true → ((d : ℕ × ℕ) → In d (dirs s) → Local s' n d.0 d.1) → Tree s' n
    tree-same n T ok loc =
        record {
          rooted = rw len ok;
          local = rw dirs-same loc;
          once = rw dir_blocks-same T.once;
        }

-- s' is s after a change: the directories ks stay, and e is the one slot of them that may differ
pub record OneSlot (s : List ℕ) (ks : List (ℕ × ℕ)) (s' : List ℕ) (e : ℕ) : Type 0 where
  pub len : length s' ≡ length s
  pub head : Same s s' 0 20
  pub tail : Same s s' 28 4
  pub slots : (a : ℕ) → EntryIn s ks a → a ≢ e → Same s s' a 128
  pub values : (q : ℕ) → In q (blocks_of_all s ks) → next s' q ≡ next s q

-- the slots of a directory, right by themselves
pub record SlotsRight (s : List ℕ) (b : ℕ) : Type 0 where
  pub end-type : type_of s (slot_at (directory s b) (4 * length (directory s b) - 1)) ≡ 255
  pub slot : (k : ℕ) → In k (slots (directory s b)) → slot_ok s (slot_at (directory s b) k) ≡ true
  pub name : (k : ℕ) → In k (slots (directory s b)) → new_name s (directory s b) k ≡ true

module _ (s s' : List ℕ) (S : Sound s) (ks : List (ℕ × ℕ)) (sub : (d : ℕ × ℕ) → In d ks → In d (dirs s)) (d₀ : ℕ × ℕ) (i₀ : In d₀ ks) (k : ℕ) (k₁ : 1 ≤ k)
    (k₂ : k < 4 * size_at s d₀.0 - 1)
  where
    abbrev n : ℕ
    n = block_count s

    abbrev e : ℕ
    e = slot_at (directory s d₀.0) k

    module _ (O : OneSlot s ks s' e) where
      -- an entry that stays
      module _ (a : ℕ) (E : EntryIn s ks a) (ne : a ≢ e) where
        fits : a + 128 ≤ length s
        fits = entry-high s S a (entry-of-tree s S ks sub a E)

        pub type-stays : type_of s' a ≡ type_of s a
        type-stays = same-type s s' a O.len fits (O.slots a E ne)

        pub field-stays : (i : ℕ) → i + 4 ≤ 128 → be32 s' (a + i) ≡ be32 s (a + i)
        field-stays = same-field s s' a O.len fits (O.slots a E ne)

        pub name-stays : name_of s' a ≡ name_of s a
        name-stays = same_name s s' a O.len fits (O.slots a E ne)

        pub field80-stays : part s' (a + 48) 80 ≡ part s (a + 48) 80
        field80-stays = same-name-field s s' a O.len fits (O.slots a E ne)

        pub slot-stays : slot_ok s' a ≡ slot_ok s a
        slot-stays = same-slot s s' a O.len fits (O.slots a E ne)

      -- a directory of the tree: its self entry, its blocks
      module _ (d : ℕ × ℕ) (di : In d ks) where
        zero-at : slot_at (directory s d.0) 0 ≡ 512 * d.0
        zero-at = slot_at-zero s d.0 (dir-least s S d (sub d di))

        first_small : 0 < 4 * size_at s d.0
        first_small = omega (arith, dir-least s S d (sub d di))

        self-entry : EntryIn s ks (512 * d.0)
        self-entry = rw zero-at at (slot-entry-in s S d (sub d di) 0 first_small ks di)

        self-away : 512 * d.0 ≢ e
        self-away = rw zero-at at (slot-other s S d (sub d di) 0 first_small d₀ (sub d₀ i₀) k (omega arith) (inr (λ q. omega arith)))

        pub self-type-stays : type_of s' (512 * d.0) ≡ type_of s (512 * d.0)
        self-type-stays = type-stays (512 * d.0) self-entry self-away

        pub self-stays : (i : ℕ) → i + 4 ≤ 128 → be32 s' (512 * d.0 + i) ≡ be32 s (512 * d.0 + i)
        self-stays = field-stays (512 * d.0) self-entry self-away

        pub self-name-stays : part s' (512 * d.0 + 48) 80 ≡ part s (512 * d.0 + 48) 80
        self-name-stays = field80-stays (512 * d.0) self-entry self-away

        pub size-stays : size_at s' d.0 ≡ size_at s d.0
        size-stays = self-stays 12 (omega arith)

        pub blocks-stay : directory s' d.0 ≡ directory s d.0
        unfolding directory
        blocks-stay =
            rw size-stays (chain-agree (next s) (next s') d.0 (size_at s d.0) (λ y h. O.values (nth (next s) y d.0) (to-join (blocks_in s) ks d (nth (next s) y d.0) di (directory-in s d.0 y h))))

        nth-stays : (x : ℕ) → x ≤ size_at s d.0 → nth (next s') x d.0 ≡ nth (next s) x d.0
        nth-stays x h = nth-agree (next s) (next s') x d.0 (λ y l. O.values (nth (next s) y d.0) (to-join (blocks_in s) ks d (nth (next s) y d.0) di (directory-in s d.0 y (omega arith))))

        pub directory-stays : (p : ℕ) → Directory s n d.0 p → Directory s' n d.0 p
        directory-stays p D =
            record {
              self_type = self-type-stays ∙ D.self_type;
              self-block = self-stays 4 (omega arith) ∙ D.self-block;
              self-parent = self-stays 8 (omega arith) ∙ D.self-parent;
              d-least = rw size-stays D.d-least;
              d-most = rw size-stays D.d-most;
              chained =
                  rw size-stays (record {
                    above = λ x h. rw (nth-stays x (omega arith)) (D.chained.above x h);
                    below = λ x h. rw (nth-stays x (omega arith)) (D.chained.below x h);
                    last = λ h. nth-stays (size_at s d.0) (omega arith) ∙ D.chained.last h;
                  });
            }

      -- a child whose entry stays
      module _ (d : ℕ × ℕ) (di : In d ks) (a : ℕ) (i : In a (children s d.0)) where
        pub child-entry : EntryIn s ks a
        child-entry = let c = in-children s d.0 a i in subst (EntryIn s ks) (sym c.4) (slot-entry-in s S d (sub d di) c.0 (omega arith) ks di)

        pub child-stays : a ≢ e → (left : ℕ) → In (first_block s a, left) ks → child_ok s' n d.0 a ≡ true
        child-stays ne left w =
            let f : first_block s' a ≡ first_block s a = field-stays a child-entry ne 4 (omega arith) in
            let g : blocks_of s' a ≡ blocks_of s a = field-stays a child-entry ne 12 (omega arith) in
            let c = child_ok-split s n d.0 a ((S.tree.local d (sub d di)).child a i) in
            let b : ℕ × ℕ = (first_block s a, left) in
            child_ok-join s' n d.0 a
            (rw f (directory_ok-join s' n (first_block s a) d.0 S.least (directory-stays b w d.0 (directory_ok-split s n (first_block s a) d.0 c.0))))
            (rw (f, g) (self-stays b w 12 (omega arith) ∙ c.1))
            (rw f (self-name-stays b w ∙ c.2 ∙ sym (field80-stays a child-entry ne)))

      pub root-right : In (root_of s, max_levels) ks → directory_ok s' n (root_of s) (root_of s) ≡ true
      root-right i =
          directory_ok-join s' n (root_of s) (root_of s) S.least
          (directory-stays (root_of s, max_levels) i (root_of s) (directory_ok-split s n (root_of s) (root_of s) S.tree.rooted))

      -- what is new: the slot, its name
      module _ (ok : slot_ok s' e ≡ true)
          (new : type_of s' e ≢ 0 → (j : ℕ) → 1 ≤ j → j < 4 * size_at s d₀.0 - 1 → j ≢ k → type_of s (slot_at (directory s d₀.0) j) ≢ 0
          → name_of s' e ≢ name_of s (slot_at (directory s d₀.0) j))
        where
          slot_of : (d : ℕ × ℕ) → In d ks → (j : ℕ) → 1 ≤ j → j < 4 * size_at s d.0 - 1 → slot_ok s' (slot_at (directory s d.0) j) ≡ true
          slot_of d di j h g = go (ℕ_discrete (slot_at (directory s d.0) j) e)
            where
              go : Dec (slot_at (directory s d.0) j ≡ e) → slot_ok s' (slot_at (directory s d.0) j) ≡ true
              go (yes q) = rw q ok
              go (no ne) = slot-stays (slot_at (directory s d.0) j) (slot-entry-in s S d (sub d di) j (omega arith) ks di) ne ∙ slot-ok s S d (sub d di) j h g

          -- two slots of one directory, the earlier first
          apart : (d : ℕ × ℕ) → In d ks → (i j : ℕ) → 1 ≤ i → i < j → j < 4 * size_at s d.0 - 1
              → type_of s' (slot_at (directory s d.0) i) ≢ 0 → type_of s' (slot_at (directory s d.0) j) ≢ 0
              → name_of s' (slot_at (directory s d.0) i) ≢ name_of s' (slot_at (directory s d.0) j)
          apart d di i j h lt g ui uj = go (ℕ_discrete (slot_at (directory s d.0) i) e) (ℕ_discrete (slot_at (directory s d.0) j) e)
            where
              at : ℕ → ℕ
              at x = slot_at (directory s d.0) x

              -- the new name against another of its directory
              against : (x y : ℕ) → x < 4 * size_at s d.0 → 1 ≤ y → y < 4 * size_at s d.0 - 1 → at x ≡ e → at y ≢ e → type_of s' (at x) ≢ 0 → type_of s' (at y) ≢ 0 → name_of s' (at x) ≢ name_of s' (at y)
              against x y hx y₁ y₂ q ne ux uy z =
                  let w = same-slot-place s n S.tree S.least d d₀ (sub d di) (sub d₀ i₀) x k hx (omega arith) q in
                  let b : d.0 ≡ d₀.0 = ap (λ (c : ℕ × ℕ). c.0) w.0 in
                  let E = slot-entry-in s S d (sub d di) y (omega arith) ks di in
                  let v : at y ≡ slot_at (directory s d₀.0) y = ap (λ (c : ℕ). slot_at (directory s c) y) b in
                  let l : size_at s d.0 ≡ size_at s d₀.0 = ap (size_at s) b in
                  new (subst (λ (c : ℕ). type_of s' c ≢ 0) q ux) y y₁ (omega arith) (λ r. ne (v ∙ ap (slot_at (directory s d₀.0)) r))
                  (subst (λ (c : ℕ). type_of s c ≢ 0) v (λ r. uy (type-stays (at y) E ne ∙ r)))
                  (ap (name_of s') (sym q) ∙ z ∙ name-stays (at y) E ne ∙ ap (name_of s) v)

              go : Dec (at i ≡ e) → Dec (at j ≡ e) → name_of s' (at i) ≢ name_of s' (at j)
              go (yes p) (yes q) = λ z. let w = same-slot-place s n S.tree S.least d d (sub d di) (sub d di) i j (omega arith) (omega arith) (p ∙ sym q) in omega (arith, w.1)
              go (yes p) (no q) = against i j (omega arith) (omega arith) g p q ui uj
              go (no p) (yes q) = λ z. against j i (omega arith) h (omega arith) q p uj ui (sym z)
              go (no p) (no q) =
                  let E = slot-entry-in s S d (sub d di) i (omega arith) ks di in
                  let F = slot-entry-in s S d (sub d di) j (omega arith) ks di in
                  rw (name-stays (at i) E p, name-stays (at j) F q)
                  (names-differ s S d (sub d di) i j h (omega arith) (omega arith) g (λ r. omega arith) (λ r. ui (type-stays (at i) E p ∙ r)) (λ r. uj (type-stays (at j) F q ∙ r)))

          end-away : (d : ℕ × ℕ) → In d ks → slot_at (directory s d.0) (4 * size_at s d.0 - 1) ≢ e
          end-away d di q =
              let l = dir-least s S d (sub d di) in
              let w = same-slot-place s n S.tree S.least d d₀ (sub d di) (sub d₀ i₀) (4 * size_at s d.0 - 1) k (omega arith) (omega arith) q in
              let z : size_at s d.0 ≡ size_at s d₀.0 = ap (λ (c : ℕ × ℕ). size_at s c.0) w.0 in
              omega (arith, w.1)

          -- the slots of every directory are right
          pub slots-again : (d : ℕ × ℕ) → In d ks → SlotsRight s' d.0
          slots-again d di =
              let L = S.tree.local d (sub d di) in
              let z = length-directory s d.0 in
              let l = dir-least s S d (sub d di) in
              record {
                end-type =
                    rw (blocks-stay d di, z) (type-stays (slot_at (directory s d.0) (4 * size_at s d.0 - 1)) (slot-entry-in s S d (sub d di) (4 * size_at s d.0 - 1) (omega arith) ks di) (end-away d di)
                    ∙ (rw z at L.end-type));
                slot = rw (blocks-stay d di) (λ j i. let w = in-slots s d.0 j i in slot_of d di j w.0 w.1);
                name = rw (blocks-stay d di) (λ j i. let w = in-slots s d.0 j i in new_name-join s' (directory s d.0) j (λ u x h lt ux. apart d di x j h lt w.1 ux u));
              }

-- the header's other bytes stay: the facts of s' by its tree, its table and its counts
module _ (s s' : List ℕ) (S : Sound s) (len : length s' ≡ length s) (head : Same s s' 0 20) (tail : Same s s' 28 4) where
  small : 512 ≤ length s
  small = omega (arith, S.whole, S.least)

  facts : Tree s' (block_count s) → Table (block_count s) (Owner s') (next s') (first_block s') (held_at s') → be32 s' 20 ≡ occupied (next s') (block_count s)
      → be32 s' 24 ≡ block_count s - occupied (next s') (block_count s) → Facts s' (block_count s)
  unfolding stage2 stage3
  facts tree table used free =
      record {
        whole = len ∙ S.whole;
        least = S.least;
        most = S.most;
        signed = rw (same-part s s' 0 20 0 12 head (omega arith) (omega arith) (omega (arith, small)) len) S.signed;
        numbered =
            rw (
              len,
              same-be32 s s' 0 20 12 head (omega arith) (omega arith),
              same-be32 s s' 0 20 16 head (omega arith) (omega arith),
              same-be32 s s' 28 4 28 tail (omega arith) (omega arith),
            )
            S.numbered;
        tree = tree;
        table = table;
        used-is = used;
        free-is = free;
      }

  pub sound-of : Tree s' (block_count s) → Table (block_count s) (Owner s') (next s') (first_block s') (held_at s') → be32 s' 20 ≡ occupied (next s') (block_count s)
      → be32 s' 24 ≡ block_count s - occupied (next s') (block_count s) → Sound s'
  sound-of tree table used free = rw len (facts tree table used free)

-- ONE SLOT, and no directory entry comes or goes: the tree is the same
module _ (s s' : List ℕ) (S : Sound s) (d₀ : ℕ × ℕ) (i₀ : In d₀ (dirs s)) (k : ℕ) (k₁ : 1 ≤ k) (k₂ : k < 4 * size_at s d₀.0 - 1) where
  abbrev m : ℕ
  m = block_count s

  abbrev e₀ : ℕ
  e₀ = slot_at (directory s d₀.0) k

  all : (d : ℕ × ℕ) → In d (dirs s) → In d (dirs s)
  all d i = i

  module _ (O : OneSlot s (dirs s) s' e₀) (was : is_directory (type_of s e₀) ≡ false) (now : is_directory (type_of s' e₀) ≡ false) where
    not-child : (d : ℕ × ℕ) → In d (dirs s) → (a : ℕ) → In a (children s d.0) → a ≢ e₀
    not-child d di a i q =
        let c = in-children s d.0 a i in
        true-not-false {a = is_directory (type_of s e₀)} (subst (λ (x : ℕ). is_directory (type_of s x) ≡ true) (sym c.4 ∙ q) c.3) was

    is-dir-same : (d : ℕ × ℕ) (di : In d (dirs s)) (j : ℕ) → j < 4 * size_at s d.0
        → is_directory (type_of s' (slot_at (directory s d.0) j)) ≡ is_directory (type_of s (slot_at (directory s d.0) j))
    is-dir-same d di j h = go (ℕ_discrete (slot_at (directory s d.0) j) e₀)
      where
        go : Dec (slot_at (directory s d.0) j ≡ e₀) → is_directory (type_of s' (slot_at (directory s d.0) j)) ≡ is_directory (type_of s (slot_at (directory s d.0) j))
        go (yes q) = ap (λ (x : ℕ). is_directory (type_of s' x)) q ∙ now ∙ sym was ∙ ap (λ (x : ℕ). is_directory (type_of s x)) (sym q)
        go (no ne) = ap is_directory (type-stays s s' S (dirs s) all d₀ i₀ k k₁ k₂ O (slot_at (directory s d.0) j) (slot-entry s S d di j h) ne)

    pub kept : (d : ℕ × ℕ) → In d (dirs s) → Kept s s' d.0
    unfolding children
    kept d di =
        record {
          blocks = blocks-stay s s' S (dirs s) all d₀ i₀ k k₁ k₂ O d di;
          kids =
              rw (blocks-stay s s' S (dirs s) all d₀ i₀ k k₁ k₂ O d di) (ap (map (slot_at (directory s d.0)))
              (select-agree (λ j. is_directory (type_of s (slot_at (directory s d.0) j))) (λ j. is_directory (type_of s' (slot_at (directory s d.0) j))) (slots (directory s d.0))
              (λ j i. let w = in-slots s d.0 j i in is-dir-same d di j (omega arith))));
          firsts = λ a i. field-stays s s' S (dirs s) all d₀ i₀ k k₁ k₂ O a (child-entry s s' S (dirs s) all d₀ i₀ k k₁ k₂ O d di a i) (not-child d di a i) 4 (omega arith);
        }

    pub tree-stays : dirs s' ≡ dirs s
    tree-stays = dirs-same s s' O.len kept

    module _ (ok : slot_ok s' e₀ ≡ true)
        (new : type_of s' e₀ ≢ 0 → (j : ℕ) → 1 ≤ j → j < 4 * size_at s d₀.0 - 1 → j ≢ k → type_of s (slot_at (directory s d₀.0) j) ≢ 0
        → name_of s' e₀ ≢ name_of s (slot_at (directory s d₀.0) j))
      where
        local : (d : ℕ × ℕ) → In d (dirs s) → Local s' m d.0 d.1
        local d di =
            let R = slots-again s s' S (dirs s) all d₀ i₀ k k₁ k₂ O ok new d di in
            let K = kept d di in
            record {
              end-type = R.end-type;
              slot = R.slot;
              name = R.name;
              child = rw K.kids (λ a i. let c = child-dir s S d di a i in child-stays s s' S (dirs s) all d₀ i₀ k k₁ k₂ O d di a i (not-child d di a i) c.0 c.1);
              deep = λ q. K.kids ∙ (S.tree.local d di).deep q;
            }

        pub tree_again : Tree s' m
        tree_again = tree-same s s' O.len kept m S.tree (root-right s s' S (dirs s) all d₀ i₀ k k₁ k₂ O (root_in s m)) local

        pub blocks-again : dir_blocks s' ≡ dir_blocks s
        blocks-again = dir_blocks-same s s' O.len kept

        pub sound-again : Table m (Owner s) (next s') (first_block s') (held_at s') → be32 s' 20 ≡ occupied (next s') m → be32 s' 24 ≡ m - occupied (next s') m → Sound s'
        sound-again table used free =
            sound-of s s' S O.len O.head O.tail tree_again
            (table_of m (Owner s) (Owner s') (next s') (first_block s') (held_at s')
            (owner-map s' s (dirs s') (dirs s) (λ a E. record { within-tree = rw blocks-again at E.within-tree; aligned = E.aligned }))
            (owner-map s s' (dirs s) (dirs s') (λ a E. record { within-tree = rw blocks-again E.within-tree; aligned = E.aligned })) table) used free
