-- A chain cut to its first j blocks, the others freed: the table's chains then, the values and bytes that the image has, and the image midway.
use Prim.Native.Nat.{ℕ, zero, suc, ◌+◌, ◌-◌, ◌*◌, ◌≤◌, ◌<◌}
use mathlib.Core.Path.{◌≡◌, refl, sym, ap, ◌∙◌, subst}
use mathlib.Core.Bool.{true}
use mathlib.Core.List.{List, [], ◌∷◌, ◌++◌}
use mathlib.Core.Logic.{◌⊎◌, inl, inr, ⊎_elim, ◌≢◌}
use native.Mathlib.Omega.{arith}
use native.Mathlib.Decide.{ℕ_discrete}
use borrow.Author.Tests.{eqb-true, ne_eqb}
use lib.ListN.{length, take, drop, take-append-drop}
use lib.Dec.{eqb}
use Rattle.layout.specs.Limits.{min_blocks, max_blocks}
use Rattle.layout.specs.Lists.{distinct, last_or}
use Rattle.layout.specs.Bytes.{be32, block, zeros}
use Rattle.layout.specs.Geometry.{block_count, table_blocks, root_block}
use Rattle.layout.specs.Table.{next, chain, occupied, table_block_of}
use Rattle.layout.specs.Directory.{type_of, first_block, blocks_of, is_file, dirs, file_blocks}
use Rattle.volume.specs.Entries.{linked, released, entries_named, blocks_named}
use Rattle.volume.specs.Write.{changed_entries}
use Rattle.volume.specs.Shorten.{cut_off}
use Rattle.volume.proofs.Laws.Table.{linked-length, linked-same, linked-at, linked-other, released-next, released-at, released-same, released-occupied, released-counted, released-left, released-zero}
use Rattle.volume.proofs.Laws.Frame.{entries-more, entries-table, entries-low, blocks-of, changed-new, changed-below, released-agree}
use Rattle.layout.proofs.Laws.Tests.{eqb-self, lt-or-ge, lt-or-gt}
use Rattle.layout.proofs.Laws.Bytes.{part-rest, part_same}
use Rattle.layout.proofs.Laws.Lists.{In, in_some, in_left, in_right, in-append, in_take, in-drop, in-single, last-in, distinct-left, distinct-right, distinct_apart}
use Rattle.layout.proofs.Laws.Frames.{Same, same_then, same-be32, Agree, agree_refl, agree-more, agree_then, agree-block, set-next-agree}
use Rattle.layout.proofs.Laws.Chains.{nth, nth-suc, nth-add, nth-agree, length-chain, chain-part, chain-last, last_none, in-chain, chain-in, Chain, chain_ok-split, chain-used, chain-differ, chain-distinct}
use Rattle.layout.proofs.Laws.Counts.{occupied-same}
use Rattle.layout.proofs.Laws.Tables.{Table, table-owner, table-changed}
use Rattle.layout.proofs.Laws.Visits.{dir_blocks}
use Rattle.layout.proofs.Laws.Sound.{Sound, Entry, Owner, held_at}
use Rattle.layout.proofs.Laws.Owners.{file-holds, file-above, file-below, file-used, file-chained, file-no-self}
use Rattle.layout.proofs.Laws.Steps.{over, over-same, over-other, Midway, Staying, staying, midway_start, kept_above, dir-apart}

-- a chain of j blocks does not depend on the value of its last block
pub chain-front : (v w : ℕ → ℕ) (b j : ℕ) → ((y : ℕ) → suc y < j → w (nth v y b) ≡ v (nth v y b)) → chain w b j ≡ chain v b j
unfolding chain
chain-front v w b zero f = refl
chain-front v w b (suc zero) f = refl
chain-front v w b (suc (suc j)) f =
    let e : w b ≡ v b = f 0 (omega arith) in
    rw e (ap (λ (r : List ℕ). b ∷ r) (chain-front v w (v b) (suc j) (λ y h. f (suc y) (omega arith))))

-- the chain of k is cut, the others stay: its last block then has the value 1, and those behind it 0
module _ (n : ℕ) (P : ℕ → Type 0) (v f l : ℕ → ℕ) (T : Table n P v f l) (h₃ : min_blocks ≤ n) (k : ℕ) (hk : P k) (w g q : ℕ → ℕ)
    (fs : (j : ℕ) → P j → j ≢ k → g j ≡ f j) (ls : (j : ℕ) → P j → j ≢ k → q j ≡ l j) (gk : g k ≡ f k) (le : q k ≤ l k)
    (same : (b : ℕ) → b < 128 * table_blocks n → ((x : ℕ) → q k ≤ suc x → x < l k → b ≢ nth v x (f k)) → w b ≡ v b)
    (ends : (x : ℕ) → suc x ≡ q k → w (nth v x (f k)) ≡ 1) (gone : (x : ℕ) → q k ≤ x → x < l k → w (nth v x (f k)) ≡ 0)
  where
    C : Chain v n (f k) (l k)
    C = T.right k hk

    stays : (x : ℕ) → suc x < q k → w (nth v x (f k)) ≡ v (nth v x (f k))
    stays x h = same (nth v x (f k)) (omega (arith, C.below x (omega arith))) (λ y p r. chain-differ v n (f k) (l k) C h₃ x y (omega arith) r)

    at : (x : ℕ) → x < q k → nth w x (g k) ≡ nth v x (f k)
    at x h = rw gk (nth-agree v w x (f k) (λ y b. stays y (omega arith)))

    last_of : (j : ℕ) → j ≡ q k → 0 < j → nth w j (g k) ≡ 1
    last_of zero e h = absurd (omega arith)
    last_of (suc x) e h = nth-suc w x (g k) ∙ ap w (at x (omega arith)) ∙ ends x e

    shorter : Chain w n (g k) (q k)
    shorter =
        record {
          above = λ x h. rw (at x h) (C.above x (omega arith));
          below = λ x h. rw (at x h) (C.below x (omega arith));
          last = last_of (q k) refl;
        }

    pub table-cut : Table n P w g q
    table-cut =
        table-changed n P v f l T h₃ k hk w g q fs ls
        (λ j h ne x a. same (nth v x (f j)) (omega (arith, (T.right j h).below x a)) (λ y p r. T.apart j k h hk ne x y a r))
        shorter
        (λ j h ne x y a b. rw (at y b) (T.apart j k h hk ne x y a (omega arith)))
        (λ b h. same b (omega arith) (λ x p r e. omega (arith, C.above x r)) ∙ T.low b h)
        (λ b h a ne.
        ⊎_elim (λ r. inl (mine b ne r.0 r.1 r.2 (lt-or-ge r.0 (q k)))) (λ r. inr r)
        (table-owner n P v f l T h₃ k b h a (λ z. ne (same b a (λ x p r e. chain-used v n (f k) (l k) C h₃ x r (ap v (sym e) ∙ z)) ∙ z))))
      where
        mine : (b : ℕ) → w b ≢ 0 → (y : ℕ) → y < l k → b ≡ nth v y (f k) → (y < q k) ⊎ (q k ≤ y) → (x : ℕ) × (x < q k) × (b ≡ nth w x (g k))
        mine b ne y h e (inl p) = (y, p, e ∙ sym (at y p))
        mine b ne y h e (inr p) = absurd (ne (ap w e ∙ gone y p h))

-- the last blocks bs of an image of n blocks, which follow the block `last`, are freed
module _ (n : ℕ) (n₁ : 3 ≤ n) (most : n ≤ max_blocks) (s : List ℕ) (len : length s ≡ 512 * n) (last : ℕ) (small : last < n) where
  pub cut-agree : (bs : List ℕ) → ((q : ℕ) → In q bs → q < n) → Agree s (cut_off s n last bs) (bs ++ entries_named (changed_entries last bs))
  unfolding cut_off linked changed_entries
  cut-agree [] below = agree_refl s _
  cut-agree (b ∷ bs) below = go last small
    where
      R : List ℕ
      R = released s n (b ∷ bs)

      ns : ℕ → List ℕ
      ns a = entries_named (changed_entries a (b ∷ bs))

      freeing : Agree s R (blocks_named (b ∷ bs))
      freeing = released-agree n n₁ (b ∷ bs) s len below

      there : (a x : ℕ) → In x (blocks_named (b ∷ bs)) → In x ((b ∷ bs) ++ ns a)
      there a x i =
          ⊎_elim (λ j. in_left x (b ∷ bs) (ns a) j) (λ j. in_right x (b ∷ bs) (ns a) (entries-more (b ∷ bs) (changed_entries a (b ∷ bs)) (λ y m. changed-new a (b ∷ bs) y m) x j))
          (blocks-of (b ∷ bs) x i)

      go : (a : ℕ) → a < n → Agree s (linked R a 1) ((b ∷ bs) ++ ns a)
      go zero h = agree-more freeing (there 0)
      go (suc a) h =
          agree_then freeing (set-next-agree R (suc a) 1 (omega (arith, freeing.size))) (there (suc a))
          (in-single (table_block_of (suc a)) ((b ∷ bs) ++ ns (suc a)) (in_right _ (b ∷ bs) (ns (suc a)) (entries-table (suc a ∷ b ∷ bs) (suc a) (inl refl))))

  module _ (bs : List ℕ) (below : (q : ℕ) → In q bs → q < n) (above : (q : ℕ) → In q bs → table_blocks n < q) (used : (q : ℕ) → In q bs → next s q ≢ 0)
      (once : distinct eqb bs ≡ true) (apart : (q : ℕ) → In q bs → 0 < last → q ≢ last)
    where
      fit : 512 + 4 * last + 4 ≤ length (released s n bs)
      fit = omega (arith, (released-agree n n₁ bs s len below).size)

      -- where a block is freed, the image is this one
      some_is : 0 < length bs → cut_off s n last bs ≡ linked (released s n bs) last 1
      unfolding cut_off
      some_is h = go bs h
        where
          go : (cs : List ℕ) → 0 < length cs → cut_off s n last cs ≡ linked (released s n cs) last 1
          go [] g = absurd (omega arith)
          go (c ∷ cs) g = refl

      none_is : length bs ≡ 0 → cut_off s n last bs ≡ s
      unfolding cut_off
      none_is h = go bs h
        where
          go : (cs : List ℕ) → length cs ≡ 0 → cut_off s n last cs ≡ s
          go [] g = refl
          go (c ∷ cs) g = absurd (omega arith)

      by_cases : (Q : List ℕ → Type 0) → Q s → (0 < length bs → Q (linked (released s n bs) last 1)) → Q (cut_off s n last bs)
      by_cases Q none some =
          ⊎_elim (λ h. subst Q (sym (some_is h)) (some h)) (λ h. subst Q (sym (none_is (omega arith))) none) (lt-or-ge 0 (length bs))

      -- the links
      pub cut-next : (y : ℕ) → y < 128 * table_blocks n → (In y bs → ⊥) → (0 < length bs → 0 < last → y ≢ last) → next (cut_off s n last bs) y ≡ next s y
      cut-next y h out ne =
          by_cases (λ t. next t y ≡ next s y) refl
          (λ some. linked-other (released s n bs) 1 last fit y (ne some) ∙ released-next n n₁ bs s y len below above h out)

      pub cut_at : (q : ℕ) → In q bs → next (cut_off s n last bs) q ≡ 0
      cut_at q i =
          let some = in_some q bs i in
          rw (some_is (omega arith)) (linked-other (released s n bs) 1 last fit q (apart q i) ∙ released-at n n₁ bs s len below above once q i)

      pub cut-end : 0 < length bs → 0 < last → next (cut_off s n last bs) last ≡ 1
      cut-end some pos = rw (some_is some) (linked-at (released s n bs) 1 last fit (omega arith) pos)

      -- the bytes
      pub cut-same : (a m : ℕ) → (a + m ≤ 20) ⊎ (28 ≤ a) → (a + m ≤ 512) ⊎ ((512 * root_block n ≤ a) × ((q : ℕ) → In q bs → (a + m ≤ 512 * q) ⊎ (512 * q + 512 ≤ a)))
          → Same s (cut_off s n last bs) a m
      cut-same a m p q =
          by_cases (λ t. Same s t a m) (λ i h. refl)
          (λ some. same_then s (released s n bs) (linked (released s n bs) last 1) a m (released-same n n₁ bs s len below above a m p q)
          (linked-same (released s n bs) 1 last fit a m (⊎_elim (λ r. inl r) (λ r. inr (omega (arith, r.0))) q)))

      pub cut-block : (x : ℕ) → table_blocks n < x → (In x bs → ⊥) → block (cut_off s n last bs) x ≡ block s x
      cut-block x tx out =
          agree-block x (cut-agree bs below) (λ i. ⊎_elim out (λ j. omega (arith, entries-low n (changed_entries last bs) (changed-below n last bs small below) x j))
          (in-append x bs (entries_named (changed_entries last bs)) i))

      linked-block : (x : ℕ) → x < n → table_blocks n < x → block (linked (released s n bs) last 1) x ≡ block (released s n bs) x
      linked-block x xn tx =
          let z = (released-agree n n₁ bs s len below).size in
          let y = linked-length (released s n bs) 1 last fit in
          part_same (released s n bs) (linked (released s n bs) last 1) (512 * x) (512 * x) 512 (linked-same (released s n bs) 1 last fit (512 * x) 512 (inr (omega arith))) (omega arith) (omega arith)

      pub cut-zero : (x : ℕ) → In x bs → block (cut_off s n last bs) x ≡ zeros 512
      cut-zero x i =
          let some = in_some x bs i in
          rw (some_is (omega arith)) (linked-block x (below x i) (above x i) ∙ released-zero n n₁ bs s len below above once x i)

      -- the counts
      module _ (in-use : 0 < last → next s last ≢ 0) where
        zeros-same : (y : ℕ) → y < n → eqb (next (linked (released s n bs) last 1) y) 0 ≡ eqb (next (released s n bs) y) 0
        zeros-same y h = go (ℕ_discrete y last) (lt-or-ge 0 last)
          where
            kept : 0 < last → next (released s n bs) last ≡ next s last
            kept pos = released-next n n₁ bs s last len below above (omega arith) (λ i. apart last i pos refl)

            go : Dec (y ≡ last) → (0 < last) ⊎ (last ≤ 0) → eqb (next (linked (released s n bs) last 1) y) 0 ≡ eqb (next (released s n bs) y) 0
            go (no d) w = ap (λ (z : ℕ). eqb z 0) (linked-other (released s n bs) 1 last fit y (λ pos. d))
            go (yes d) (inr z) = ap (λ (z : ℕ). eqb z 0) (linked-other (released s n bs) 1 last fit y (λ pos. absurd (omega arith)))
            go (yes d) (inl pos) =
                ne_eqb (next (linked (released s n bs) last 1) y) 0 (λ i. omega (arith, ap (next (linked (released s n bs) last 1)) d, linked-at (released s n bs) 1 last fit (omega arith) pos))
                ∙ sym (ne_eqb (next (released s n bs) y) 0 (λ i. in-use pos (sym (kept pos) ∙ ap (next (released s n bs)) (sym d) ∙ i)))

        still : occupied (next (linked (released s n bs) last 1)) n ≡ occupied (next (released s n bs)) n
        still = occupied-same (next (released s n bs)) (next (linked (released s n bs) last 1)) n zeros-same

        count_kept : (i : ℕ) → i + 4 ≤ 512 → be32 (linked (released s n bs) last 1) i ≡ be32 (released s n bs) i
        count_kept i h = same-be32 (released s n bs) (linked (released s n bs) last 1) 0 512 i (linked-same (released s n bs) 1 last fit 0 512 (inl (omega arith))) (omega arith) (omega arith)

        pub cut-occupied : occupied (next s) n ≡ length bs + occupied (next (cut_off s n last bs)) n
        cut-occupied =
            ⊎_elim (λ h. rw (some_is h, still) (released-occupied n n₁ bs s len below above used once))
            (λ h. let z : length bs ≡ 0 = omega arith in rw (none_is z, z) (omega arith)) (lt-or-ge 0 (length bs))

        module _ (counted : be32 s 20 ≡ occupied (next s) n) (left : be32 s 24 ≡ n - occupied (next s) n) where
          pub cut-used : be32 (cut_off s n last bs) 20 ≡ occupied (next (cut_off s n last bs)) n
          cut-used =
              by_cases (λ t. be32 t 20 ≡ occupied (next t) n) counted
              (λ some. count_kept 20 (omega arith) ∙ released-counted n n₁ most bs s len below above used once counted ∙ sym still)

          pub cut_left : be32 (cut_off s n last bs) 24 ≡ n - occupied (next (cut_off s n last bs)) n
          cut_left =
              by_cases (λ t. be32 t 24 ≡ n - occupied (next t) n) left
              (λ some. count_kept 24 (omega arith) ∙ released-left n n₁ most bs s len below above used once counted left ∙ ap (λ (z : ℕ). n - z) (sym still))

-- a file's chain cut to its first j blocks
module _ (s : List ℕ) (S : Sound s) (e : ℕ) (E : Entry s e) (file : is_file (type_of s e) ≡ true) (j : ℕ) (le : j ≤ blocks_of s e) where
  abbrev n' : ℕ
  n' = block_count s

  abbrev first : ℕ
  first = first_block s e

  abbrev k : ℕ
  k = blocks_of s e

  abbrev kept : List ℕ
  kept = take j (file_blocks s e)

  abbrev gone : List ℕ
  gone = drop j (file_blocks s e)

  abbrev last : ℕ
  last = last_or 0 (take j (file_blocks s e))

  abbrev cut : List ℕ
  cut = cut_off s (block_count s) (last_or 0 (take j (file_blocks s e))) (drop j (file_blocks s e))

  own : Chain (next s) n' first k
  own = chain_ok-split (next s) n' first k (file-chained s S e E file)

  -- its blocks by their positions
  pub kept-is : take j (file_blocks s e) ≡ chain (next s) (first_block s e) j
  unfolding file_blocks
  kept-is = chain-part (next s) 0 first k j (omega arith)

  pub gone-is : drop j (file_blocks s e) ≡ chain (next s) (nth (next s) j (first_block s e)) (blocks_of s e - j)
  unfolding file_blocks
  gone-is =
      sym (part-rest (chain (next s) first k) j) ∙ ap (λ (w : ℕ). take (w - j) (drop j (chain (next s) first k))) (length-chain (next s) first k)
      ∙ chain-part (next s) j first k (k - j) (omega arith)

  pub gone-length : length (drop j (file_blocks s e)) ≡ blocks_of s e - j
  gone-length = ap length gone-is ∙ length-chain (next s) (nth (next s) j first) (k - j)

  pub kept-length : length (take j (file_blocks s e)) ≡ j
  kept-length = ap length kept-is ∙ length-chain (next s) first j

  gone_at : (q : ℕ) → In q gone → (x : ℕ) × (j ≤ x) × (x < k) × (q ≡ nth (next s) x first)
  gone_at q i =
      let r = in-chain (next s) (nth (next s) j first) (k - j) q (rw gone-is at i) in
      let h = r.1 in
      (j + r.0, omega arith, omega arith, r.2 ∙ sym (nth-add (next s) j r.0 first))

  at-gone : (x : ℕ) → j ≤ x → x < k → In (nth (next s) x first) gone
  at-gone x h g =
      let z : j + (x - j) ≡ x = omega arith in
      rw gone-is (chain-in (next s) (nth (next s) j first) (k - j) (nth (next s) x first) (x - j) (omega arith) (ap (λ (y : ℕ). nth (next s) y first) (sym z) ∙ nth-add (next s) j (x - j) first))

  last-at : (x : ℕ) → suc x ≡ j → last ≡ nth (next s) x first
  last-at x q = ap (last_or 0) kept-is ∙ go j q
    where
      go : (i : ℕ) → suc x ≡ i → last_or 0 (chain (next s) first i) ≡ nth (next s) x first
      go zero p = absurd (omega arith)
      go (suc c) p = let z : c ≡ x = omega arith in chain-last (next s) first (suc c) ∙ ap (λ (y : ℕ). nth (next s) y first) z

  last-pos : 0 < last → 0 < j
  last-pos pos = ⊎_elim (λ h. h) (λ h. absurd (omega (arith, ap (last_or 0) kept-is ∙ last_none (next s) first j (omega arith)))) (lt-or-ge 0 j)

  pub last-small : last_or 0 (take j (file_blocks s e)) < block_count s
  last-small = ⊎_elim (λ z. omega (arith, S.least)) (λ i. file-below s S e E file last (in_take last j (file_blocks s e) i)) (last-in kept 0)

  pub last-used : 0 < last_or 0 (take j (file_blocks s e)) → next s (last_or 0 (take j (file_blocks s e))) ≢ 0
  last-used pos = ⊎_elim (λ z. absurd (omega arith)) (λ i. file-used s S e E file last (in_take last j (file_blocks s e) i)) (last-in kept 0)

  pub gone-below : (q : ℕ) → In q (drop j (file_blocks s e)) → q < block_count s
  gone-below q i = file-below s S e E file q (in-drop q j (file_blocks s e) i)

  pub gone-above : (q : ℕ) → In q (drop j (file_blocks s e)) → table_blocks (block_count s) < q
  gone-above q i = file-above s S e E file q (in-drop q j (file_blocks s e) i)

  pub gone-used : (q : ℕ) → In q (drop j (file_blocks s e)) → next s q ≢ 0
  gone-used q i = file-used s S e E file q (in-drop q j (file_blocks s e) i)

  all_once : distinct eqb (kept ++ gone) ≡ true
  unfolding file_blocks
  all_once = rw (take-append-drop j (file_blocks s e)) (chain-distinct (next s) n' first k own S.least)

  pub kept-once : distinct eqb (take j (file_blocks s e)) ≡ true
  kept-once = distinct-left eqb eqb-true eqb-self kept gone all_once

  pub gone-once : distinct eqb (drop j (file_blocks s e)) ≡ true
  gone-once = distinct-right eqb eqb-true eqb-self kept gone all_once

  pub gone-apart : (q : ℕ) → In q (take j (file_blocks s e)) → In q (drop j (file_blocks s e)) → ⊥
  gone-apart = distinct_apart eqb eqb-true eqb-self kept gone all_once

  pub gone-last : (q : ℕ) → In q (drop j (file_blocks s e)) → 0 < last_or 0 (take j (file_blocks s e)) → q ≢ last_or 0 (take j (file_blocks s e))
  gone-last q i pos z = ⊎_elim (λ y. omega arith) (λ m. gone-apart last m (subst (λ (x : ℕ). In x gone) z i)) (last-in kept 0)

  -- the links then
  pub cut-value : (b : ℕ) → b < 128 * table_blocks (block_count s) → ((x : ℕ) → j ≤ suc x → x < blocks_of s e → b ≢ nth (next s) x (first_block s e)) → next cut b ≡ next s b
  cut-value b h f =
      cut-next n' S.least S.most s S.whole last last-small gone gone-below gone-above gone-used gone-once gone-last b h
      (λ i. let r = gone_at b i in f r.0 (let y = r.1 in omega arith) r.2 r.3)
      (λ some pos q. let p = last-pos pos in f (j - 1) (omega arith) (omega arith) (q ∙ last-at (j - 1) (omega arith)))

  pub cut-ends : (x : ℕ) → suc x ≡ j → next cut (nth (next s) x (first_block s e)) ≡ 1
  cut-ends x q = ⊎_elim shorter whole (lt-or-ge j k)
    where
      z : last ≡ nth (next s) x first
      z = last-at x q

      shorter : j < k → next cut (nth (next s) x first) ≡ 1
      shorter h =
          rw (← z) (cut-end n' S.least S.most s S.whole last last-small gone gone-below gone-above gone-used gone-once gone-last (omega (arith, gone-length))
          (omega (arith, z, own.above x (omega arith))))

      whole : k ≤ j → next cut (nth (next s) x first) ≡ 1
      whole h =
          let l = gone-length in
          let y : suc x ≡ k = omega arith in
          cut-next n' S.least S.most s S.whole last last-small gone gone-below gone-above gone-used gone-once gone-last (nth (next s) x first) (omega (arith, own.below x (omega arith)))
          (λ i. absurd (omega (arith, in_some (nth (next s) x first) gone i))) (λ some. absurd (omega arith))
          ∙ sym (nth-suc (next s) x first) ∙ ap (λ (w : ℕ). nth (next s) w first) y ∙ own.last (omega arith)

  cut-zeros : (x : ℕ) → j ≤ x → x < k → next cut (nth (next s) x first) ≡ 0
  cut-zeros x h g =
      cut_at n' S.least S.most s S.whole last last-small gone gone-below gone-above gone-used gone-once gone-last (nth (next s) x first) (at-gone x h g)

  -- the image midway: the file has j blocks
  no_self : (d : ℕ × ℕ) → In d (dirs s) → 512 * d.0 ≢ e
  no_self d i q = file-no-self s S e E file d i (sym q)

  St : Staying s (dirs s) (Owner s) (first_block s) (held_at s) e
  St = staying s S e (inl E) no_self

  start : Midway s (dirs s) (Owner s) (first_block s) (held_at s) e s first k
  start = subst (λ (x : ℕ). Midway s (dirs s) (Owner s) (first_block s) (held_at s) e s first x) (file-holds s S e E file) (midway_start s S e (inl E) no_self)

  far : (q : ℕ) → In q (dir_blocks s) → (x : ℕ) → x < k → q ≢ nth (next s) x first
  far = dir-apart s S (dirs s) (Owner s) (first_block s) (held_at s) e St s first k start

  beside : (q : ℕ) → In q (dir_blocks s) → (x : ℕ) → In x gone → (512 * q + 512 ≤ 512 * x) ⊎ (512 * x + 512 ≤ 512 * q)
  beside q i x m = let r = gone_at x m in ⊎_elim (λ p. inl (omega arith)) (λ p. inr (omega arith)) (lt-or-gt q x (λ z. far q i r.0 r.2 (z ∙ r.3)))

  keeps : (a m : ℕ) → (a + m ≤ 20) ⊎ (28 ≤ a) → (a + m ≤ 512) ⊎ ((512 * root_block n' ≤ a) × ((q : ℕ) → In q gone → (a + m ≤ 512 * q) ⊎ (512 * q + 512 ≤ a))) → Same s cut a m
  keeps = cut-same n' S.least S.most s S.whole last last-small gone gone-below gone-above gone-used gone-once gone-last

  pub cut-midway : Midway s (dirs s) (Owner s) (first_block s) (held_at s) e cut (first_block s e) j
  cut-midway =
      record {
        len = (cut-agree n' S.least S.most s S.whole last last-small gone gone-below).size;
        head = keeps 0 20 (inl (omega arith)) (inl (omega arith));
        tail = keeps 28 4 (inr (omega arith)) (inl (omega arith));
        kept = λ q i.
            let w = kept_above s S (dirs s) (Owner s) (first_block s) (held_at s) e St q i in
            keeps (512 * q) 512 (inr (omega arith)) (inr (omega arith, beside q i));
        values = λ q i. cut-value q (omega (arith, (kept_above s S (dirs s) (Owner s) (first_block s) (held_at s) e St q i).1)) (λ x p r. far q i x r);
        table = table-cut n' (Owner s) (next s) (first_block s) (held_at s) S.table S.least e (inl E) (next cut) (over e first (first_block s)) (over e j (held_at s))
            (λ a A ne. over-other e first (first_block s) a ne) (λ a A ne. over-other e j (held_at s) a ne) (over-same e first (first_block s))
            (rw (over-same e j (held_at s), file-holds s S e E file) le)
            (λ b h f. cut-value b h (λ x p r. f x (rw (over-same e j (held_at s)) p) (rw (file-holds s S e E file) r)))
            (λ x p. cut-ends x (p ∙ over-same e j (held_at s)))
            (λ x p r. cut-zeros x (rw (over-same e j (held_at s)) at p) (rw (file-holds s S e E file) at r));
        used = cut-used n' S.least S.most s S.whole last last-small gone gone-below gone-above gone-used gone-once gone-last last-used S.used-is S.free-is;
        free = cut_left n' S.least S.most s S.whole last last-small gone gone-below gone-above gone-used gone-once gone-last last-used S.used-is S.free-is;
      }
