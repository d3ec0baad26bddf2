-- A DIRECTORY GOES: the entry of a directory that has no children becomes a slot that is none. The tree has it less, and the image is sound.
use Prim.Native.Nat.{ℕ, zero, suc, ◌+◌, ◌-◌, ◌*◌, ◌/◌, ◌≤◌, ◌<◌}
use mathlib.Core.Bool.{Bool, true, false}
use mathlib.Core.List.{List, [], ◌∷◌, ◌++◌, map, map-append}
use mathlib.Core.Logic.{inl, inr, ⊎_elim, ◌≢◌}
use mathlib.Core.Path.{◌≡◌, refl, sym, ap, ◌∙◌, subst}
use native.Mathlib.Decide.{ℕ_discrete}
use native.Mathlib.Omega.{arith}
use lib.Dec.{eqb}
use lib.ListN.{length}
use borrow.Author.Tests.{eqb-true}
use Rattle.layout.specs.Claims.{Inserted}
use Rattle.layout.specs.Limits.{max_levels}
use Rattle.layout.specs.Lists.{distinct, joined}
use Rattle.layout.specs.Bytes.{be32, part}
use Rattle.layout.specs.Geometry.{block_count, root_block}
use Rattle.layout.specs.Table.{next, occupied}
use Rattle.layout.specs.Directory.{slot_at, slots, type_of, first_block, parent_of, is_directory, name_of, directory, root_of, children, below, dirs}
use Rattle.layout.specs.Check.{slot_ok, child_ok}
use Rattle.layout.proofs.Laws.Tests.{eqb-self, true-not-false, within-split}
use Rattle.layout.proofs.Laws.Lists.{In, in_left, in_right, in-append, distinct-right, distinct_apart, joined_same}
use Rattle.layout.proofs.Laws.Joins.{of-join, to-join, join-append, select-agree}
use Rattle.layout.proofs.Laws.Visits.{Local, Tree, blocks_in, dir_blocks, below-is, under}
use Rattle.layout.proofs.Laws.Trees.{size_at, directory-in, length-directory, root_in, child_ok-split, directory_ok-split}
use Rattle.layout.proofs.Laws.Tables.{Table}
use Rattle.layout.proofs.Laws.Sound.{Sound, Entry, EntryIn, held_at, Owner}
use Rattle.layout.proofs.Laws.Slots.{in-slots, in-children, children-in, dir-least, child-dir, child-below, slot-entry-in, slot-other, names-differ}
use Rattle.layout.proofs.Laws.Changed.{Kept, below-same, OneSlot, type-stays, field-stays, blocks-stay, child-entry, child-stays, slots-again, root-right, sound-of}
use Rattle.layout.proofs.Laws.Spread.{below-level, spread}
use Rattle.layout.proofs.Laws.Comes.{inserted-around, inserted-in, in-inserted, select-insert, pair-dec, inside-tree, distinct_remove}

-- the directory at the head of what is below it
head-level : (s : List ℕ) (left r b : ℕ) → In (b, left) (below s left r) → b ≡ r
head-level s left r b i = first left refl (rw (below-is s left r) at i)
  where
    first : (l : ℕ) → l ≡ left → In {A = ℕ × ℕ} (b, left) ((r, left) ∷ under s l r) → b ≡ r
    first l q (inl e) = ap (λ (w : ℕ × ℕ). w.0) e
    first zero q (inr m) = absurd m
    first (suc l) q (inr m) =
        let w = of-join (λ a. below s l (first_block s a)) (children s r) (b, left) m in
        let z = below-level s l (first_block s w.0) (b, left) w.2 in
        absurd (omega arith)

-- a name by its field
same-name_of : (s : List ℕ) (a b : ℕ) → part s (a + 48) 80 ≡ part s (b + 48) 80 → name_of s a ≡ name_of s b
unfolding name_of
same-name_of s a b q = rw q

module _ (s s' : List ℕ) (S : Sound s) (b₀ j : ℕ) (j₀ : In (b₀, suc j) (dirs s)) (k : ℕ) (k₁ : 1 ≤ k) (k₂ : k < 4 * size_at s b₀ - 1) where
  abbrev n : ℕ
  n = block_count s

  abbrev d₀ : ℕ × ℕ
  d₀ = (b₀, suc j)

  abbrev e : ℕ
  e = slot_at (directory s b₀) k

  abbrev c : ℕ
  c = first_block s e

  module _ (was : is_directory (type_of s e) ≡ true) where
    e-child : In e (children s b₀)
    e-child = children-in s b₀ k k₁ k₂ was

    pub gone-in : In (c, j) (dirs s)
    unfolding dirs
    gone-in = child-below s max_levels (root_of s) b₀ j e j₀ e-child

    -- no other entry of the tree is of this directory
    pub only-entry : (d : ℕ × ℕ) → In d (dirs s) → (a : ℕ) → In a (children s d.0) → first_block s a ≡ c → a ≡ e
    only-entry d di a i q =
        let u = child_ok-split s n d.0 a ((S.tree.local d di).child a i) in
        let v = child_ok-split s n b₀ e ((S.tree.local d₀ j₀).child e e-child) in
        let x = directory_ok-split s n (first_block s a) d.0 u.0 in
        let y = directory_ok-split s n c b₀ v.0 in
        let p : d.0 ≡ b₀ = sym x.self-parent ∙ ap (λ (w : ℕ). parent_of s (512 * w)) q ∙ y.self-parent in
        let r = in-children s d.0 a i in
        let m : name_of s a ≡ name_of s e = same-name_of s a e (sym u.2 ∙ ap (λ (w : ℕ). part s (512 * w + 48) 80) q ∙ v.2) in
        go d di a r.0 r.1 r.2 r.3 r.4 p m (ℕ_discrete r.0 k)
      where
        used : (x : ℕ) → is_directory x ≡ true → x ≢ 0
        used x t z = let w = within-split 0x20 0x5F x t in omega arith

        go : (d : ℕ × ℕ) → In d (dirs s) → (a i : ℕ) → 1 ≤ i → i < 4 * size_at s d.0 - 1 → is_directory (type_of s (slot_at (directory s d.0) i)) ≡ true → a ≡ slot_at (directory s d.0) i
            → d.0 ≡ b₀ → name_of s a ≡ name_of s e → Dec (i ≡ k) → a ≡ e
        go d di a i h g t z p m (yes r) = z ∙ ap (λ (w : ℕ). slot_at (directory s w) i) p ∙ ap (slot_at (directory s b₀)) r
        go d di a i h g t z p m (no r) =
            let l : size_at s d.0 ≡ size_at s b₀ = ap (size_at s) p in
            let x : slot_at (directory s d.0) i ≡ slot_at (directory s b₀) i = ap (λ (w : ℕ). slot_at (directory s w) i) p in
            absurd (names-differ s S d₀ j₀ i k h k₁ (omega arith) k₂ r (used _ (subst (λ (w : ℕ). is_directory (type_of s w) ≡ true) x t)) (used _ was)
            (ap (name_of s) (sym (z ∙ x)) ∙ m))

    -- ks are the directories without it
    module _ (ks : List (ℕ × ℕ)) (I : Inserted (c, j) ks (dirs s)) where
      sub : (d : ℕ × ℕ) → In d ks → In d (dirs s)
      sub d i = in-inserted (c, j) ks (dirs s) I d i

      stays-in : (d : ℕ × ℕ) → In d (dirs s) → d ≢ (c, j) → In d ks
      stays-in d i ne = ⊎_elim (λ m. m) (λ q. absurd (ne q)) (inserted-in (c, j) ks (dirs s) I d i)

      i₀ : In d₀ ks
      i₀ = stays-in d₀ j₀ (λ q. let z : suc j ≡ j = ap (λ (w : ℕ × ℕ). w.1) q in omega arith)

      -- they share no block with it
      pub kept-apart : (d : ℕ × ℕ) → In d ks → (q : ℕ) → In q (directory s d.0) → In q (directory s c) → ⊥
      kept-apart d i q x y =
          let A : List ℕ = joined (blocks_in s) I.front in
          let B : List ℕ = joined (blocks_in s) I.back in
          let z : dir_blocks s ≡ A ++ (directory s c ++ B) = ap (joined (blocks_in s)) I.more-is ∙ join-append (blocks_in s) I.front ((c, j) ∷ I.back) in
          let w : distinct eqb (A ++ (directory s c ++ B)) ≡ true = rw z at S.tree.once in
          ⊎_elim
          (λ m. distinct_apart eqb eqb-true eqb-self A (directory s c ++ B) w q (to-join (blocks_in s) I.front d q m x) (in_left q (directory s c) B y))
          (λ m. distinct_apart eqb eqb-true eqb-self (directory s c) B (distinct-right eqb eqb-true eqb-self A (directory s c ++ B) w) q y (to-join (blocks_in s) I.back d q m x))
          (in-append d I.front I.back (rw I.less-is at i))

      module _ (O : OneSlot s ks s' e) (now : is_directory (type_of s' e) ≡ false) (leaf : children s c ≡ []) where
        blocks-same : (d : ℕ × ℕ) → In d ks → directory s' d.0 ≡ directory s d.0
        blocks-same d di = blocks-stay s s' S ks sub d₀ i₀ k k₁ k₂ O d di

        first-same : (d : ℕ × ℕ) → In d ks → (a : ℕ) → In a (children s d.0) → a ≢ e → first_block s' a ≡ first_block s a
        first-same d di a i ne = field-stays s s' S ks sub d₀ i₀ k k₁ k₂ O a (child-entry s s' S ks sub d₀ i₀ k k₁ k₂ O d di a i) ne 4 (omega arith)

        away : (d : ℕ × ℕ) → In d ks → d ≢ d₀ → (x : ℕ) → x < 4 * size_at s d.0 → slot_at (directory s d.0) x ≢ e
        away d di ne x h = slot-other s S d (sub d di) x h d₀ j₀ k (omega arith) (inl ne)

        child-away : (d : ℕ × ℕ) → In d ks → d ≢ d₀ → (a : ℕ) → In a (children s d.0) → a ≢ e
        child-away d di ne a i q = let r = in-children s d.0 a i in away d di ne r.0 (omega arith) (sym r.4 ∙ q)

        kept-other : (d : ℕ × ℕ) → In d ks → d ≢ d₀ → Kept s s' d.0
        unfolding children
        kept-other d di ne =
            record {
              blocks = blocks-same d di;
              kids =
                  rw (blocks-same d di) (ap (map (slot_at (directory s d.0)))
                  (select-agree (λ x. is_directory (type_of s (slot_at (directory s d.0) x))) (λ x. is_directory (type_of s' (slot_at (directory s d.0) x))) (slots (directory s d.0))
                  (λ x i. let w = in-slots s d.0 x i in
                  ap is_directory (type-stays s s' S ks sub d₀ i₀ k k₁ k₂ O (slot_at (directory s d.0) x) (slot-entry-in s S d (sub d di) x (omega arith) ks di) (away d di ne x (omega arith))))));
              firsts = λ a i. first-same d di a i (child-away d di ne a i);
            }

        -- this one has one less
        kids-less : Inserted e (children s' b₀) (children s b₀)
        unfolding children
        kids-less =
            let ds = directory s b₀ in
            let p : ℕ → Bool = λ x. is_directory (type_of s' (slot_at ds x)) in
            let q : ℕ → Bool = λ x. is_directory (type_of s (slot_at ds x)) in
            let J = select-insert p q k (4 * length ds - 2) 1 now was
            (λ x h g ne. ap is_directory (sym (type-stays s s' S ks sub d₀ i₀ k k₁ k₂ O (slot_at ds x) (slot-entry-in s S d₀ j₀ x (omega (arith, length-directory s b₀)) ks i₀)
            (slot-other s S d₀ j₀ x (omega (arith, length-directory s b₀)) d₀ j₀ k (omega arith) (inr ne))))) k₁ (omega (arith, length-directory s b₀)) in
            record {
              front = map (slot_at ds) J.front;
              back = map (slot_at ds) J.back;
              less-is = rw (blocks-same d₀ i₀) (ap (map (slot_at ds)) J.less-is ∙ map-append (slot_at ds) J.front J.back);
              more-is = ap (map (slot_at ds)) J.more-is ∙ map-append (slot_at ds) J.front (k ∷ J.back);
            }

        -- a child that stays has not its entry at e
        kid-away : (a : ℕ) → In a (children s' b₀) → a ≢ e
        kid-away a i q =
            let r = in-children s' b₀ a i in
            true-not-false {a = is_directory (type_of s' e)} (subst (λ (x : ℕ). is_directory (type_of s' x) ≡ true) (sym r.4 ∙ q) r.3) now

        leaf-below : below s j c ≡ (c, j) ∷ []
        leaf-below = below-is s j c ∙ ap (λ (z : List (ℕ × ℕ)). (c, j) ∷ z) (none j)
          where
            none : (i : ℕ) → under s i c ≡ []
            none zero = refl
            none (suc i) = ap (joined (λ a. below s i (first_block s a))) leaf

        base : Inserted (c, j) (under s' (suc j) b₀) (under s (suc j) b₀)
        base =
            let K = kids-less in
            let F : ℕ → List (ℕ × ℕ) = λ a. below s j (first_block s a) in
            let G : ℕ → List (ℕ × ℕ) = λ a. below s' j (first_block s' a) in
            let same : (a : ℕ) → In a (children s' b₀) → G a ≡ F a =
            λ a i.
            let m = in-inserted e (children s' b₀) (children s b₀) K a i in
            ap (below s' j) (first-same d₀ i₀ a m (kid-away a i)) ∙ below-same s s' j (first_block s a)
            (λ d x. kept-other d (stays-in d (inside-tree s b₀ j j₀ a m d x) (other a i m d x))
            (λ z. let w = below-level s j (first_block s a) d x in let y : d.1 ≡ suc j = ap (λ (v : ℕ × ℕ). v.1) z in omega arith)) in
            record {
              front = joined F K.front;
              back = joined F K.back;
              less-is =
                  ap (joined G) K.less-is ∙ join-append G K.front K.back
                  ∙ ap (λ (z : List (ℕ × ℕ)). z ++ joined G K.back) (joined_same F G K.front (λ a i. same a (rw K.less-is (in_left a K.front K.back i))))
                  ∙ ap (λ (z : List (ℕ × ℕ)). joined F K.front ++ z) (joined_same F G K.back (λ a i. same a (rw K.less-is (in_right a K.front K.back i))));
              more-is =
                  ap (joined F) K.more-is ∙ join-append F K.front (e ∷ K.back)
                  ∙ ap (λ (z : List (ℕ × ℕ)). joined F K.front ++ (z ++ joined F K.back)) leaf-below;
            }
          where
            other : (a : ℕ) → In a (children s' b₀) → In a (children s b₀) → (d : ℕ × ℕ) → In d (below s j (first_block s a)) → d ≢ (c, j)
            other a i m d x q =
                kid-away a i (only-entry d₀ j₀ a m (sym (head-level s j (first_block s a) c (subst (λ (w : ℕ × ℕ). In w (below s j (first_block s a))) q x))))

        -- THE TREE HAS ONE DIRECTORY LESS
        pub dirs-less : Inserted (c, j) (dirs s') (dirs s)
        unfolding dirs
        dirs-less =
            let r : root_of s' ≡ root_of s = ap (λ (x : ℕ). root_block (x / 512)) O.len in
            rw r (spread s s' b₀ j (λ xs ys. Inserted (c, j) ys xs) (λ ps xs ys qs z. inserted-around (c, j) ps ys xs qs z) base
            (λ d di. directory-in s d.0 0 (dir-least s S d di))
            (λ d di no_sub. kept-other d (stays-in d di (λ z. no_sub (subst (λ (w : ℕ × ℕ). In w (below s (suc j) b₀)) (sym z) gone-below)))
            (λ z. no_sub (subst (λ (w : ℕ × ℕ). In w (below s (suc j) b₀)) (sym z) (rw (below-is s (suc j) b₀) (inl refl)))))
            max_levels (root_of s) (λ d i. i) S.tree.once j₀)
          where
            gone-below : In (c, j) (below s (suc j) b₀)
            gone-below = rw (below-is s (suc j) b₀) (inr (to-join (λ a. below s j (first_block s a)) (children s b₀) e (c, j) e-child (rw leaf-below (inl refl))))

        abbrev left-front : List ℕ
        left-front = joined (blocks_in s) dirs-less.front

        abbrev left_back : List ℕ
        left_back = joined (blocks_in s) dirs-less.back

        pub blocks-all : dir_blocks s ≡ left-front ++ (directory s c ++ left_back)
        blocks-all = ap (joined (blocks_in s)) dirs-less.more-is ∙ join-append (blocks_in s) dirs-less.front ((c, j) ∷ dirs-less.back)

        once-all : distinct eqb (left-front ++ (directory s c ++ left_back)) ≡ true
        once-all = rw blocks-all at S.tree.once

        own : In c (directory s c)
        own = directory-in s c 0 (dir-least s S (c, j) gone-in)

        -- the directory is not there any more
        gone-not : In (c, j) (dirs s') → ⊥
        gone-not i = ⊎_elim
            (λ m. distinct_apart eqb eqb-true eqb-self left-front (directory s c ++ left_back) once-all c (to-join (blocks_in s) dirs-less.front (c, j) c m own) (in_left c (directory s c) left_back own))
            (λ m. distinct_apart eqb eqb-true eqb-self (directory s c) left_back (distinct-right eqb eqb-true eqb-self left-front (directory s c ++ left_back) once-all) c own
            (to-join (blocks_in s) dirs-less.back (c, j) c m own))
            (in-append (c, j) dirs-less.front dirs-less.back (rw dirs-less.less-is at i))

        pub dir-kept : (d : ℕ × ℕ) → In d (dirs s') → In d ks
        dir-kept d i = stays-in d (in-inserted (c, j) (dirs s') (dirs s) dirs-less d i) (λ q. gone-not (subst (λ (w : ℕ × ℕ). In w (dirs s')) q i))

        pub blocks-left : dir_blocks s' ≡ left-front ++ left_back
        blocks-left =
            joined_same (blocks_in s) (blocks_in s') (dirs s') (λ d i. blocks-same d (dir-kept d i))
            ∙ ap (joined (blocks_in s)) dirs-less.less-is ∙ join-append (blocks_in s) dirs-less.front dirs-less.back

        pub entry-ks : (a : ℕ) → Entry s' a → EntryIn s ks a
        entry-ks a E =
            let r = of-join (blocks_in s') (dirs s') (a / 512) E.within-tree in
            let m = dir-kept r.0 r.1 in
            record { within-tree = to-join (blocks_in s) ks r.0 (a / 512) m (rw (blocks-same r.0 m) at r.2); aligned = E.aligned }

        -- an entry of the smaller tree is one of the larger, and not of the directory that went; and back
        pub entry-left : (a : ℕ) → Entry s' a → Entry s a
        entry-left a E =
            record {
              within-tree =
                  rw blocks-all (⊎_elim (λ m. in_left (a / 512) left-front (directory s c ++ left_back) m)
                  (λ m. in_right (a / 512) left-front (directory s c ++ left_back) (in_right (a / 512) (directory s c) left_back m))
                  (in-append (a / 512) left-front left_back (rw blocks-left at E.within-tree)));
              aligned = E.aligned;
            }

        pub entry_kept : (a : ℕ) → Entry s a → (In (a / 512) (directory s c) → ⊥) → Entry s' a
        entry_kept a E f =
            record {
              within-tree =
                  rw blocks-left (⊎_elim (λ m. in_left (a / 512) left-front left_back m)
                  (λ m. ⊎_elim (λ x. absurd (f x)) (λ x. in_right (a / 512) left-front left_back x) (in-append (a / 512) (directory s c) left_back m))
                  (in-append (a / 512) left-front (directory s c ++ left_back) (rw blocks-all at E.within-tree)));
              aligned = E.aligned;
            }

        -- what is new: the slot
        module _ (ok : slot_ok s' e ≡ true) (free : type_of s' e ≡ 0) where
          right_child : (d : ℕ × ℕ) (di : In d ks) (a : ℕ) → In a (children s d.0) → a ≢ e → child_ok s' n d.0 a ≡ true
          right_child d di a i ne =
              let w = child-dir s S d (sub d di) a i in
              child-stays s s' S ks sub d₀ i₀ k k₁ k₂ O d di a i ne w.0
              (stays-in (first_block s a, w.0) w.1 (λ q. ne (only-entry d (sub d di) a i (ap (λ (v : ℕ × ℕ). v.0) q))))

          children-of : (d : ℕ × ℕ) → In d ks → (a : ℕ) → In a (children s' d.0) → child_ok s' n d.0 a ≡ true
          children-of d di a i = go (pair-dec d d₀)
            where
              go : Dec (d ≡ d₀) → child_ok s' n d.0 a ≡ true
              go (no ne) = let m = rw (kept-other d di ne).kids at i in right_child d di a m (child-away d di ne a m)
              go (yes z) =
                  let y : d.0 ≡ b₀ = ap (λ (w : ℕ × ℕ). w.0) z in
                  let i' : In a (children s' b₀) = subst (λ (w : ℕ). In a (children s' w)) y i in
                  subst (λ (w : ℕ). child_ok s' n w a ≡ true) (sym y) (right_child d₀ i₀ a (in-inserted e (children s' b₀) (children s b₀) kids-less a i') (kid-away a i'))

          depth-of : (d : ℕ × ℕ) → In d ks → d.1 ≡ 0 → children s' d.0 ≡ []
          depth-of d di q = go (pair-dec d d₀)
            where
              go : Dec (d ≡ d₀) → children s' d.0 ≡ []
              go (no ne) = (kept-other d di ne).kids ∙ (S.tree.local d (sub d di)).deep q
              go (yes z) = let y : d.1 ≡ suc j = ap (λ (w : ℕ × ℕ). w.1) z in absurd (omega arith)

          local-left : (d : ℕ × ℕ) → In d ks → Local s' n d.0 d.1
          local-left d di =
              let R = slots-again s s' S ks sub d₀ i₀ k k₁ k₂ O ok (λ u. absurd (u free)) d di in
              record { end-type = R.end-type; slot = R.slot; name = R.name; child = children-of d di; deep = depth-of d di }

          root_kept : In (root_of s, max_levels) ks
          unfolding dirs
          root_kept = stays-in (root_of s, max_levels) (root_in s n) (λ q.
              let z : max_levels ≡ j = ap (λ (w : ℕ × ℕ). w.1) q in
              let y = below-level s max_levels (root_of s) d₀ j₀ in
              omega arith)

          pub tree-less : Tree s' n
          tree-less =
              record {
                rooted = rw O.len (root-right s s' S ks sub d₀ i₀ k k₁ k₂ O root_kept);
                local = λ d i. local-left d (dir-kept d i);
                once = rw blocks-left (distinct_remove left-front (directory s c) left_back once-all);
              }

          pub sound-less : Table n (Owner s') (next s') (first_block s') (held_at s') → be32 s' 20 ≡ occupied (next s') n → be32 s' 24 ≡ n - occupied (next s') n → Sound s'
          sound-less table used left = sound-of s s' S O.len O.head O.tail tree-less table used left
