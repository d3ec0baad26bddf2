-- A DIRECTORY COMES: one slot of a directory of the tree becomes the entry of a directory that has no children. The tree has it more, and the image is
-- sound if the new directory is right and its blocks are none of the others'.
use Prim.Native.Nat.{ℕ, zero, suc, ◌+◌, ◌-◌, ◌*◌, ◌/◌, ◌%◌, ◌≤◌, ◌<◌}
use mathlib.Core.Bool.{Bool, true, false}
use mathlib.Core.List.{List, [], ◌∷◌, ◌++◌, append_assoc, map, map-append}
use mathlib.Core.Logic.{◌⊎◌, inl, inr, ⊎_elim, ◌≢◌}
use mathlib.Core.Path.{◌≡◌, refl, sym, ap, ◌∙◌, subst}
use native.Mathlib.Decide.{ℕ_discrete}
use native.Mathlib.Nat.{eq-or-lt_of_le}
use native.Mathlib.Omega.{arith}
use lib.Dec.{eqb}
use lib.ListN.{length}
use borrow.Author.Tests.{eqb-true}
use Rattle.layout.specs.Limits.{max_levels}
use Rattle.layout.specs.Lists.{interval, distinct, keep, select, joined}
use Rattle.layout.specs.Bytes.{be32}
use Rattle.layout.specs.Geometry.{block_count, root_block}
use Rattle.layout.specs.Table.{next, occupied}
use Rattle.layout.specs.Directory.{slot_at, slots, type_of, first_block, is_directory, name_of, directory, root_of, children, below, dirs}
use Rattle.layout.specs.Check.{slot_ok, child_ok}
use Rattle.layout.specs.Claims.{Inserted}
use Rattle.layout.proofs.Laws.Tests.{eqb-self, true-not-false}
use Rattle.layout.proofs.Laws.Lists.{In, in_left, in_right, in-append, distinct-left, distinct-right, distinct_apart, distinct_append, joined_same}
use Rattle.layout.proofs.Laws.Joins.{in-interval, join-append, select-agree}
use Rattle.layout.proofs.Laws.Visits.{Local, Tree, blocks_in, dir_blocks, below-is, under, child_ok-directory, directory_ok-distinct}
use Rattle.layout.proofs.Laws.Trees.{size_at, directory-in, length-directory, pair_same, root_in}
use Rattle.layout.proofs.Laws.Tables.{Table}
use Rattle.layout.proofs.Laws.Sound.{Sound, Entry, held_at, Owner}
use Rattle.layout.proofs.Laws.Slots.{in-slots, in-children, dir-least, child-dir, child-below, slot-entry, slot-other}
use Rattle.layout.proofs.Laws.Changed.{Kept, below-same, OneSlot, SlotsRight, type-stays, field-stays, blocks-stay, child-entry, child-stays, slots-again, root-right, sound-of}
use Rattle.layout.proofs.Laws.Spread.{below-level, below-trans, spread}

module _ {A : Type 0} (one : A) where
  pub inserted-around : (ps xs ys qs : List A) → Inserted one xs ys → Inserted one (ps ++ (xs ++ qs)) (ps ++ (ys ++ qs))
  inserted-around ps xs ys qs I =
      record {
        front = ps ++ I.front;
        back = I.back ++ qs;
        less-is = ap (λ (z : List A). ps ++ (z ++ qs)) I.less-is ∙ simp append_assoc;
        more-is = ap (λ (z : List A). ps ++ (z ++ qs)) I.more-is ∙ simp append_assoc;
      }

  pub inserted-in : (xs ys : List A) → Inserted one xs ys → (x : A) → In x ys → In x xs ⊎ (x ≡ one)
  inserted-in xs ys I x i = ⊎_elim (λ m. inl (rw I.less-is (in_left x I.front I.back m))) back (in-append x I.front (one ∷ I.back) (rw I.more-is at i))
    where
      back : In x (one ∷ I.back) → In x xs ⊎ (x ≡ one)
      back (inl e) = inr e
      back (inr m) = inl (rw I.less-is (in_right x I.front I.back m))

  pub in-inserted : (xs ys : List A) → Inserted one xs ys → (x : A) → In x xs → In x ys
  in-inserted xs ys I x i =
      rw I.more-is (⊎_elim (λ m. in_left x I.front (one ∷ I.back) m) (λ m. in_right x I.front (one ∷ I.back) (inr m)) (in-append x I.front I.back (rw I.less-is at i)))

  pub one-inserted : (xs ys : List A) → Inserted one xs ys → In one ys
  one-inserted xs ys I = rw I.more-is (in_right one I.front (one ∷ I.back) (inl refl))

-- one number more passes a test
pub select-insert : (p q : ℕ → Bool) (k m a : ℕ) → p k ≡ false → q k ≡ true → ((x : ℕ) → a ≤ x → x < a + m → x ≢ k → q x ≡ p x) → a ≤ k → k < a + m
    → Inserted k (select p (interval a m)) (select q (interval a m))
select-insert p q k zero a f t same h g = absurd (omega arith)
select-insert p q k (suc m) a f t same h g = ⊎_elim here (λ lt. later lt (select-insert p q k m (suc a) f t (λ x l u ne. same x (omega arith) (omega arith) ne) lt (omega arith))) (eq-or-lt_of_le h)
  where
    here : a ≡ k → Inserted k (select p (interval a (suc m))) (select q (interval a (suc m)))
    here e =
        let r : select q (interval (suc a) m) ≡ select p (interval (suc a) m) = select-agree p q (interval (suc a) m) (λ x i. let w = in-interval (suc a) m x i in same x (omega arith) (omega arith) (λ z. omega arith)) in
        let u : p a ≡ false = ap p e ∙ f in
        let v : q a ≡ true = ap q e ∙ t in
        record { front = []; back = select p (interval (suc a) m); less-is = rw u; more-is = rw (v, r, e) }

    later : a < k → Inserted k (select p (interval (suc a) m)) (select q (interval (suc a) m)) → Inserted k (select p (interval a (suc m))) (select q (interval a (suc m)))
    later lt I = go (p a) (same a (omega arith) (omega arith) (λ z. omega arith))
      where
        go : (u : Bool) → q a ≡ u → Inserted k (keep u a (select p (interval (suc a) m))) (keep (q a) a (select q (interval (suc a) m)))
        go true v = record { front = a ∷ I.front; back = I.back; less-is = ap (λ (z : List ℕ). a ∷ z) I.less-is; more-is = rw v (ap (λ (z : List ℕ). a ∷ z) I.more-is) }
        go false v = record { front = I.front; back = I.back; less-is = I.less-is; more-is = rw v I.more-is }

pub pair-dec : (d d' : ℕ × ℕ) → Dec (d ≡ d')
pair-dec d d' = go (ℕ_discrete d.0 d'.0) (ℕ_discrete d.1 d'.1)
  where
    go : Dec (d.0 ≡ d'.0) → Dec (d.1 ≡ d'.1) → Dec (d ≡ d')
    go (yes p) (yes q) = yes (pair_same d d' p q)
    go (no p) q = no (λ e. p (ap (λ (w : ℕ × ℕ). w.0) e))
    go (yes p) (no q) = no (λ e. q (ap (λ (w : ℕ × ℕ). w.1) e))

-- what is below a child of a directory of the tree is of the tree
pub inside-tree : (s : List ℕ) (b j : ℕ) → In (b, suc j) (dirs s) → (a : ℕ) → In a (children s b) → (d : ℕ × ℕ) → In d (below s j (first_block s a)) → In d (dirs s)
unfolding dirs
inside-tree s b j i a m d n = below-trans s max_levels (root_of s) (first_block s a) j d (child-below s max_levels (root_of s) b j a i m) n

-- different numbers, with some put between
pub distinct-insert : (xs ys zs : List ℕ) → distinct eqb (xs ++ zs) ≡ true → distinct eqb ys ≡ true → ((q : ℕ) → In q ys → In q (xs ++ zs) → ⊥) → distinct eqb (xs ++ (ys ++ zs)) ≡ true
distinct-insert xs ys zs d e f =
    distinct_append eqb eqb-true eqb-self xs (ys ++ zs) (distinct-left eqb eqb-true eqb-self xs zs d)
    (distinct_append eqb eqb-true eqb-self ys zs e (distinct-right eqb eqb-true eqb-self xs zs d) (λ q i j. f q i (in_right q xs zs j)))
    (λ q i j. ⊎_elim (λ u. f q u (in_left q xs zs i)) (λ u. distinct_apart eqb eqb-true eqb-self xs zs d q i u) (in-append q ys zs j))

pub distinct_remove : (xs ys zs : List ℕ) → distinct eqb (xs ++ (ys ++ zs)) ≡ true → distinct eqb (xs ++ zs) ≡ true
distinct_remove xs ys zs d =
    let r = distinct-right eqb eqb-true eqb-self xs (ys ++ zs) d in
    distinct_append eqb eqb-true eqb-self xs zs (distinct-left eqb eqb-true eqb-self xs (ys ++ zs) d) (distinct-right eqb eqb-true eqb-self ys zs r)
    (λ q i j. distinct_apart eqb eqb-true eqb-self xs (ys ++ zs) d q i (in_right q ys zs j))

module _ (s s' : List ℕ) (S : Sound s) (b₀ j : ℕ) (i₀ : In (b₀, suc j) (dirs s)) (k : ℕ) (k₁ : 1 ≤ k) (k₂ : k < 4 * size_at s b₀ - 1) where
  abbrev n : ℕ
  n = block_count s

  abbrev d₀ : ℕ × ℕ
  d₀ = (b₀, suc j)

  abbrev e : ℕ
  e = slot_at (directory s b₀) k

  abbrev c : ℕ
  c = first_block s' e

  all : (d : ℕ × ℕ) → In d (dirs s) → In d (dirs s)
  all d i = i

  module _ (O : OneSlot s (dirs s) s' e) (was : is_directory (type_of s e) ≡ false) (now : is_directory (type_of s' e) ≡ true) (leaf : children s' c ≡ []) where
    blocks-same : (d : ℕ × ℕ) → In d (dirs s) → directory s' d.0 ≡ directory s d.0
    blocks-same d di = blocks-stay s s' S (dirs s) all d₀ i₀ k k₁ k₂ O d di

    old-child : (d : ℕ × ℕ) → In d (dirs s) → (a : ℕ) → In a (children s d.0) → a ≢ e
    old-child d di a i q =
        let r = in-children s d.0 a i in
        true-not-false {a = is_directory (type_of s e)} (subst (λ (x : ℕ). is_directory (type_of s x) ≡ true) (sym r.4 ∙ q) r.3) was

    first-same : (d : ℕ × ℕ) (di : In d (dirs s)) (a : ℕ) → In a (children s d.0) → first_block s' a ≡ first_block s a
    first-same d di a i =
        field-stays s s' S (dirs s) all d₀ i₀ k k₁ k₂ O a (child-entry s s' S (dirs s) all d₀ i₀ k k₁ k₂ O d di a i) (old-child d di a i) 4 (omega arith)

    -- every other directory keeps its children
    kept-other : (d : ℕ × ℕ) → In d (dirs s) → d ≢ d₀ → Kept s s' d.0
    unfolding children
    kept-other d di ne =
        record {
          blocks = blocks-same d di;
          kids =
              rw (blocks-same d di) (ap (map (slot_at (directory s d.0)))
              (select-agree (λ x. is_directory (type_of s (slot_at (directory s d.0) x))) (λ x. is_directory (type_of s' (slot_at (directory s d.0) x))) (slots (directory s d.0))
              (λ x i. let w = in-slots s d.0 x i in
              ap is_directory (type-stays s s' S (dirs s) all d₀ i₀ k k₁ k₂ O (slot_at (directory s d.0) x) (slot-entry s S d di x (omega arith))
              (slot-other s S d di x (omega arith) d₀ i₀ k (omega arith) (inl ne))))));
          firsts = first-same d di;
        }

    -- this one has one more
    kids-more : Inserted e (children s b₀) (children s' b₀)
    unfolding children
    kids-more =
        let ds = directory s b₀ in
        let p : ℕ → Bool = λ x. is_directory (type_of s (slot_at ds x)) in
        let q : ℕ → Bool = λ x. is_directory (type_of s' (slot_at ds x)) in
        let I = select-insert p q k (4 * length ds - 2) 1 was now
        (λ x h g ne. ap is_directory (type-stays s s' S (dirs s) all d₀ i₀ k k₁ k₂ O (slot_at ds x) (slot-entry s S d₀ i₀ x (omega (arith, length-directory s b₀)))
        (slot-other s S d₀ i₀ x (omega (arith, length-directory s b₀)) d₀ i₀ k (omega arith) (inr ne)))) k₁ (omega (arith, length-directory s b₀)) in
        record {
          front = map (slot_at ds) I.front;
          back = map (slot_at ds) I.back;
          less-is = ap (map (slot_at ds)) I.less-is ∙ map-append (slot_at ds) I.front I.back;
          more-is = rw (blocks-same d₀ i₀) (ap (map (slot_at ds)) I.more-is ∙ map-append (slot_at ds) I.front (k ∷ I.back));
        }

    leaf-below : below s' j c ≡ (c, j) ∷ []
    leaf-below = below-is s' j c ∙ ap (λ (z : List (ℕ × ℕ)). (c, j) ∷ z) (none j)
      where
        none : (i : ℕ) → under s' i c ≡ []
        none zero = refl
        none (suc i) = ap (joined (λ a. below s' i (first_block s' a))) leaf

    -- below it: what was there, and the new directory
    base : Inserted (c, j) (under s (suc j) b₀) (under s' (suc j) b₀)
    base =
        let K = kids-more in
        let F : ℕ → List (ℕ × ℕ) = λ a. below s j (first_block s a) in
        let G : ℕ → List (ℕ × ℕ) = λ a. below s' j (first_block s' a) in
        let same : (a : ℕ) → In a (children s b₀) → G a ≡ F a =
        λ a i. ap (below s' j) (first-same d₀ i₀ a i) ∙ below-same s s' j (first_block s a)
        (λ d m. kept-other d (inside a i d m) (λ z. let w = below-level s j (first_block s a) d m in let y : d.1 ≡ suc j = ap (λ (x : ℕ × ℕ). x.1) z in omega arith)) in
        record {
          front = joined F K.front;
          back = joined F K.back;
          less-is = ap (joined F) K.less-is ∙ join-append F K.front K.back;
          more-is =
              ap (joined G) K.more-is ∙ join-append G K.front (e ∷ K.back)
              ∙ ap (λ (z : List (ℕ × ℕ)). z ++ (G e ++ joined G K.back)) (joined_same F G K.front (λ a i. same a (rw K.less-is (in_left a K.front K.back i))))
              ∙ ap (λ (z : List (ℕ × ℕ)). joined F K.front ++ z)
              (ap (λ (z : List (ℕ × ℕ)). z ++ joined G K.back) leaf-below
              ∙ ap (λ (z : List (ℕ × ℕ)). (c, j) ∷ z) (joined_same F G K.back (λ a i. same a (rw K.less-is (in_right a K.front K.back i)))));
        }
      where
        inside : (a : ℕ) → In a (children s b₀) → (d : ℕ × ℕ) → In d (below s j (first_block s a)) → In d (dirs s)
        inside a i d m = inside-tree s (b₀) j i₀ a i d m

    -- THE TREE HAS ONE DIRECTORY MORE
    pub dirs-more : Inserted (c, j) (dirs s) (dirs s')
    unfolding dirs
    dirs-more =
        let r : root_of s' ≡ root_of s = ap (λ (x : ℕ). root_block (x / 512)) O.len in
        rw r (spread s s' b₀ j (Inserted (c, j)) (inserted-around (c, j)) base
        (λ d di. directory-in s d.0 0 (dir-least s S d di))
        (λ d di no_sub. kept-other d di (λ z. no_sub (subst (λ (w : ℕ × ℕ). In w (below s (suc j) b₀)) (sym z) (rw (below-is s (suc j) b₀) (inl refl)))))
        max_levels (root_of s) (λ d i. i) S.tree.once i₀)

    -- the blocks of the directories: those that were there, and the new one's between
    abbrev old-front : List ℕ
    old-front = joined (blocks_in s) dirs-more.front

    abbrev old-back : List ℕ
    old-back = joined (blocks_in s) dirs-more.back

    pub blocks-less : dir_blocks s ≡ old-front ++ old-back
    blocks-less = ap (joined (blocks_in s)) dirs-more.less-is ∙ join-append (blocks_in s) dirs-more.front dirs-more.back

    pub blocks_more : dir_blocks s' ≡ old-front ++ (directory s' c ++ old-back)
    blocks_more =
        ap (joined (blocks_in s')) dirs-more.more-is ∙ join-append (blocks_in s') dirs-more.front ((c, j) ∷ dirs-more.back)
        ∙ ap (λ (z : List ℕ). z ++ (directory s' c ++ joined (blocks_in s') dirs-more.back))
        (joined_same (blocks_in s) (blocks_in s') dirs-more.front (λ d i. blocks-same d (rw dirs-more.less-is (in_left d dirs-more.front dirs-more.back i))))
        ∙ ap (λ (z : List ℕ). old-front ++ (directory s' c ++ z))
        (joined_same (blocks_in s) (blocks_in s') dirs-more.back (λ d i. blocks-same d (rw dirs-more.less-is (in_right d dirs-more.front dirs-more.back i))))

    -- an entry of the larger tree: an old one, or one of the new directory
    pub entry_more : (a : ℕ) → Entry s' a → Entry s a ⊎ In (a / 512) (directory s' c)
    entry_more a E = ⊎_elim
        (λ m. inl (record { within-tree = rw blocks-less (in_left (a / 512) old-front old-back m); aligned = E.aligned }))
        (λ m. ⊎_elim (λ x. inr x) (λ x. inl (record { within-tree = rw blocks-less (in_right (a / 512) old-front old-back x); aligned = E.aligned }))
        (in-append (a / 512) (directory s' c) old-back m))
        (in-append (a / 512) old-front (directory s' c ++ old-back) (rw blocks_more at E.within-tree))

    pub entry_old : (a : ℕ) → Entry s a → Entry s' a
    entry_old a E =
        record {
          within-tree =
              rw blocks_more (⊎_elim (λ m. in_left (a / 512) old-front (directory s' c ++ old-back) m)
              (λ m. in_right (a / 512) old-front (directory s' c ++ old-back) (in_right (a / 512) (directory s' c) old-back m))
              (in-append (a / 512) old-front old-back (rw blocks-less at E.within-tree)));
          aligned = E.aligned;
        }

    pub entry_new : (a : ℕ) → In (a / 512) (directory s' c) → a % 128 ≡ 0 → Entry s' a
    entry_new a i h =
        record { within-tree = rw blocks_more (in_right (a / 512) old-front (directory s' c ++ old-back) (in_left (a / 512) (directory s' c) old-back i)); aligned = h }

    -- what is new is right: the slot and its name, the new directory and its blocks
    module _ (ok : slot_ok s' e ≡ true)
        (new : type_of s' e ≢ 0 → (x : ℕ) → 1 ≤ x → x < 4 * size_at s b₀ - 1 → x ≢ k → type_of s (slot_at (directory s b₀) x) ≢ 0 → name_of s' e ≢ name_of s (slot_at (directory s b₀) x))
        (child : child_ok s' n b₀ e ≡ true) (inner : SlotsRight s' c) (fresh : (q : ℕ) → In q (directory s' c) → In q (dir_blocks s) → ⊥)
      where
        kept-child : (d : ℕ × ℕ) (di : In d (dirs s)) (a : ℕ) → In a (children s d.0) → child_ok s' n d.0 a ≡ true
        kept-child d di a i =
            let w = child-dir s S d di a i in
            child-stays s s' S (dirs s) all d₀ i₀ k k₁ k₂ O d di a i (old-child d di a i) w.0 w.1

        children-of : (d : ℕ × ℕ) → In d (dirs s) → (a : ℕ) → In a (children s' d.0) → child_ok s' n d.0 a ≡ true
        children-of d di a i = go (pair-dec d d₀)
          where
            go : Dec (d ≡ d₀) → child_ok s' n d.0 a ≡ true
            go (no ne) = kept-child d di a (rw (kept-other d di ne).kids at i)
            go (yes z) =
                let y : d.0 ≡ b₀ = ap (λ (w : ℕ × ℕ). w.0) z in
                subst (λ (w : ℕ). child_ok s' n w a ≡ true) (sym y)
                (⊎_elim (λ m. kept-child d₀ i₀ a m) (λ q. subst (λ (w : ℕ). child_ok s' n b₀ w ≡ true) (sym q) child)
                (inserted-in e (children s b₀) (children s' b₀) kids-more a (subst (λ (w : ℕ). In a (children s' w)) y i)))

        depth-of : (d : ℕ × ℕ) → In d (dirs s) → d.1 ≡ 0 → children s' d.0 ≡ []
        depth-of d di q = go (pair-dec d d₀)
          where
            go : Dec (d ≡ d₀) → children s' d.0 ≡ []
            go (no ne) = (kept-other d di ne).kids ∙ (S.tree.local d di).deep q
            go (yes z) = let y : d.1 ≡ suc j = ap (λ (w : ℕ × ℕ). w.1) z in absurd (omega arith)

        local-old : (d : ℕ × ℕ) → In d (dirs s) → Local s' n d.0 d.1
        local-old d di =
            let R = slots-again s s' S (dirs s) all d₀ i₀ k k₁ k₂ O ok new d di in
            record { end-type = R.end-type; slot = R.slot; name = R.name; child = children-of d di; deep = depth-of d di }

        local-new : Local s' n c j
        local-new =
            record { end-type = inner.end-type; slot = inner.slot; name = inner.name; child = λ a i. absurd (subst (In a) leaf i); deep = λ q. leaf }

        pub tree-more : Tree s' n
        tree-more =
            record {
              rooted = rw O.len (root-right s s' S (dirs s) all d₀ i₀ k k₁ k₂ O (root_in s n));
              local = λ d i. ⊎_elim (λ m. local-old d m) (λ z. subst (λ (w : ℕ × ℕ). Local s' n w.0 w.1) (sym z) local-new) (inserted-in (c, j) (dirs s) (dirs s') dirs-more d i);
              once =
                  rw blocks_more (distinct-insert old-front (directory s' c) old-back (rw blocks-less at S.tree.once)
                  (directory_ok-distinct s' n c b₀ (child_ok-directory s' n b₀ e child)) (λ q x y. fresh q x (rw blocks-less y)));
            }

        -- A SOUND IMAGE AGAIN, where the owners are the old entries and the new self entry, and no other entry of the new directory owns a block
        pub sound_more : Table n (Owner s') (next s') (first_block s') (held_at s') → be32 s' 20 ≡ occupied (next s') n → be32 s' 24 ≡ n - occupied (next s') n → Sound s'
        sound_more table used free = sound-of s s' S O.len O.head O.tail tree-more table used free
