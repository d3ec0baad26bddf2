-- Shorten: the last blocks of the file are freed, the bytes behind the new end zeroed, the entry is set again. The image after it is sound; the file has the first of its
-- bytes and blocks, and the other owners keep theirs.
use Prim.Native.Nat.{ℕ, suc, ◌+◌, ◌-◌, ◌*◌, ◌/◌, ◌≤◌, ◌<◌}
use mathlib.Core.Path.{◌≡◌, refl, sym, ap, ◌∙◌, subst}
use mathlib.Core.Bool.{Bool, true, false, cond}
use mathlib.Core.List.{List, ◌∷◌, ◌++◌}
use mathlib.Core.Logic.{◌⊎◌, inl, inr, ⊎_elim, ◌≢◌}
use native.Mathlib.Omega.{arith}
use native.Mathlib.Nat.{eq-or-lt_of_le}
use borrow.Author.Tests.{le-ltb, le-leb, leb-true}
use lib.ListN.{length, get_or, take, drop, get_or-eq_default, take-append-drop}
use lib.Dec.{eqb, leb, ltb}
use lib.Seq.{take-append-le, take-take}
use Rattle.layout.specs.Lists.{last_or, joined}
use Rattle.layout.specs.Bytes.{be32, splice, zeros, block}
use Rattle.layout.specs.Geometry.{block_count, table_blocks, blocks_for}
use Rattle.layout.specs.Table.{next}
use Rattle.layout.specs.Directory.{slot_at, type_of, first_block, size_of, blocks_of, is_file, directory, dirs, file_blocks, content}
use Rattle.layout.specs.Paths.{home, path_slot, entry_of, file_refusal}
use Rattle.layout.specs.Check.{check}
use Rattle.layout.specs.Claims.{SameAttributes}
use Rattle.volume.specs.Entries.{entries_named}
use Rattle.volume.specs.Write.{put, set_file, written, changed_entries}
use Rattle.volume.specs.Shorten.{cut_off, tail_length, shorten_at, shorten_named, shorten_refusal}
use Rattle.volume.proofs.Laws.Places.{file-at-path}
use Rattle.volume.proofs.Laws.Growth.{put-steps}
use Rattle.volume.proofs.Laws.Data.{put-outside, put_next, joined-put}
use Rattle.volume.proofs.Laws.Frame.{entries-low, changed-below, written_in, put-agree}
use Rattle.volume.proofs.Laws.Unchanged.{Bounded, file-agree}
use Rattle.volume.proofs.Laws.Cut.{chain-front, cut-agree, cut-next, cut_at, cut-block, cut-zero, cut-occupied, kept-is, kept-length, gone-length, kept-once, gone-once, gone-apart, gone-below, gone-above, gone-used, gone-last, last-small, last-used, cut-value, cut-ends, cut-midway}
use Rattle.volume.proofs.Laws.Renewed.{Renewed, renewed-full, renewed-outside, renewed-entry, renewed-sound, renewed-slot, renewed-next, renewed-count}
use Rattle.layout.proofs.Laws.Tests.{require-zero, first_of-zero}
use Rattle.layout.proofs.Laws.Bytes.{length-zeros, take-splice}
use Rattle.layout.proofs.Laws.Lists.{In, in_some, in_take, in-drop, in-append, in_left, in_right, in-single, joined-append, joined_same, last-in}
use Rattle.layout.proofs.Laws.Frames.{Same, Agree, agree-more, agree_then}
use Rattle.layout.proofs.Laws.Chains.{nth, chain_ok-split, chain-differ, chain-used, get_d-chain, in-chain, chain-start, Chain}
use Rattle.layout.proofs.Laws.Counts.{chain-most, occupied-same}
use Rattle.layout.proofs.Laws.Visits.{dir_blocks}
use Rattle.layout.proofs.Laws.Trees.{size_at}
use Rattle.layout.proofs.Laws.Sound.{held_at, Sound, Entry, Owner, sound, check-zero}
use Rattle.layout.proofs.Laws.Slots.{slot-entry}
use Rattle.layout.proofs.Laws.Files.{entry-slot, file-in, length-blocks}
use Rattle.layout.proofs.Laws.Owners.{blocks_at, file-blocks, file-no-self, file-above, file-below, file-apart, file-chained, second, second-blocks, second-no-self, entry-elsewhere, block-high, block-below, block-outside}
use Rattle.layout.proofs.Laws.Changed.{OneSlot}
use Rattle.layout.proofs.Laws.Steps.{Midway, Staying, staying}
use Rattle.layout.proofs.Laws.Others.{same-attributes}

-- what an accepted shorten makes of the entry at e, and of its file
pub record Shortened (s s' : List ℕ) (e size time : ℕ) : Type 0 where
  pub contents : content s' e ≡ take size (content s e)
  pub blocks : file_blocks s' e ≡ take (blocks_for size) (file_blocks s e)
  -- the bytes of its blocks, also those past the size
  pub whole : joined (block s') (file_blocks s' e) ≡ splice (joined (block s) (take (blocks_for size) (file_blocks s e))) size (zeros (tail_length (size_of s e) size))
  pub entry : Renewed s s' e (get_or (take (blocks_for size) (file_blocks s e)) 0 0) size (blocks_for size) time

-- the bytes that become 0 lie in the blocks that the file keeps
pub tail-fits : (old size : ℕ) → size + tail_length old size ≤ 512 * blocks_for size
unfolding tail_length
tail-fits old size = go (ltb size old)
  where
    go : (t : Bool) → size + cond t (512 * blocks_for size - size) 0 ≤ 512 * blocks_for size
    go true = omega arith
    go false = omega arith

pub tail_none : (old size : ℕ) → old ≤ size → tail_length old size ≡ 0
unfolding tail_length
tail_none old size h = rw (le-ltb size old h)

-- what an accepted shorten has
pub record ShortenGiven (s path : List ℕ) (size : ℕ) : Type 0 where
  pub there : file_refusal s path ≡ 0
  pub less : size ≤ size_of s (entry_of is_file s path)

pub shorten-given : (s path : List ℕ) (size : ℕ) → shorten_refusal s path size ≡ 0 → ShortenGiven s path size
unfolding shorten_refusal
shorten-given s path size r =
    let f = first_of-zero (file_refusal s path) _ r in
    record { there = f.0; less = leb-true _ _ (require-zero (leb size (size_of s (entry_of is_file s path))) 11 _ f.1).0 }

pub shorten-accepted : (s path : List ℕ) (size : ℕ) → ShortenGiven s path size → shorten_refusal s path size ≡ 0
unfolding shorten_refusal
shorten-accepted s path size G = rw (G.there, le-leb size (size_of s (entry_of is_file s path)) G.less)

module _ (s : List ℕ) (S : Sound s) (d : ℕ × ℕ) (di : In d (dirs s)) (k : ℕ) (k₁ : 1 ≤ k) (k₂ : k < 4 * size_at s d.0 - 1) (file : is_file (type_of s (slot_at (directory s d.0) k)) ≡ true)
    (size time : ℕ) (less : size ≤ size_of s (slot_at (directory s d.0) k))
  where
    abbrev n : ℕ
    n = block_count s

    abbrev e : ℕ
    e = slot_at (directory s d.0) k

    mine : Entry s e
    mine = slot-entry s S d di k (omega arith)

    abbrev j : ℕ
    j = blocks_for size

    abbrev old : List ℕ
    old = file_blocks s e

    abbrev kept : List ℕ
    kept = take (blocks_for size) (file_blocks s e)

    abbrev gone : List ℕ
    gone = drop (blocks_for size) (file_blocks s e)

    abbrev last : ℕ
    last = last_or 0 (take (blocks_for size) (file_blocks s e))

    abbrev cut : List ℕ
    cut = cut_off s n (last_or 0 (take (blocks_for size) (file_blocks s e))) (drop (blocks_for size) (file_blocks s e))

    abbrev zeroed : ℕ
    zeroed = tail_length (size_of s e) size

    abbrev full : List ℕ
    full = put cut kept size (zeros zeroed)

    abbrev first : ℕ
    first = get_or kept 0 0

    abbrev done : List ℕ
    done = set_file full e first size j time

    fewer : j ≤ blocks_of s e
    fewer = omega (arith, (file-in s S d di k k₁ k₂ file).blocks)

    chained : Chain (next s) n (first_block s e) (blocks_of s e)
    chained = chain_ok-split (next s) n (first_block s e) (blocks_of s e) (file-chained s S e mine file)

    -- the blocks that stay
    kept-below : (q : ℕ) → In q kept → q < n
    kept-below q i = file-below s S e mine file q (in_take q j old i)

    kept_above : (q : ℕ) → In q kept → table_blocks n < q
    kept_above q i = file-above s S e mine file q (in_take q j old i)

    kept-far : (q : ℕ) → In q kept → In q (dir_blocks s) → ⊥
    kept-far q i = block-outside s S e (inl mine) (file-no-self s S e mine file) q (rw (file-blocks s S e mine file) (in_take q j old i))

    many : length kept ≡ j
    many = kept-length s S e mine file j fewer

    -- the steps: blocks are freed, bytes are zeroed
    St : Staying s (dirs s) (Owner s) (first_block s) (held_at s) e
    St = staying s S e (inl mine) (λ x i q. file-no-self s S e mine file x i (sym q))

    shorter : Midway s (dirs s) (Owner s) (first_block s) (held_at s) e cut (first_block s e) j
    shorter = cut-midway s S e mine file j fewer

    filled : Midway s (dirs s) (Owner s) (first_block s) (held_at s) e full (first_block s e) j
    filled = put-steps s S (dirs s) (Owner s) (first_block s) (held_at s) e St kept cut (first_block s e) j size (zeros zeroed) shorter (λ q i. (kept_above q i, kept-below q i, kept-far q i))

    starts : 0 < j → first ≡ first_block s e
    starts pos = rw (kept-is s S e mine file j fewer) (get_d-chain (next s) (first_block s e) j 0 pos)

    empty : j ≡ 0 → first ≡ 0
    empty q = get_or-eq_default kept 0 (omega (arith, many))

    few : j ≤ n
    few = omega (arith, fewer, chain-most (next s) n (first_block s e) (blocks_of s e) chained S.least)

    shorten-is : shorten_at s e size time ≡ done
    unfolding shorten_at
    shorten-is = rw many

    long : length done ≡ length full
    long = renewed-full s S d di k k₁ k₂ file full (first_block s e) j filled first size time starts empty refl few

    outside : (a w : ℕ) → (a + w ≤ e) ⊎ (e + 128 ≤ a) → Same full done a w
    outside = renewed-outside s S d di k k₁ k₂ file full (first_block s e) j filled first size time starts empty refl few

    entry : Renewed s done e first size j time
    entry = renewed-entry s S d di k k₁ k₂ file full (first_block s e) j filled first size time starts empty refl few

    pub shortened-sound : Sound (shorten_at s e size time)
    shortened-sound = rw shorten-is (renewed-sound s S d di k k₁ k₂ file full (first_block s e) j filled first size time starts empty refl few)

    pub shortened-slot : OneSlot s (dirs s) (shorten_at s e size time) e
    shortened-slot = rw shorten-is (renewed-slot s S d di k k₁ k₂ file full (first_block s e) j filled first size time starts empty refl few)

    -- the table is written by cutting alone
    cut-length : length cut ≡ 512 * n
    cut-length = shorter.len ∙ S.whole

    done_next : (y : ℕ) → y < 128 * table_blocks n → next done y ≡ next cut y
    done_next y h =
        renewed-next s S d di k k₁ k₂ file full (first_block s e) j filled first size time starts empty refl few y h
        ∙ put_next n S.least kept cut size (zeros zeroed) cut-length kept-below kept_above y h

    last-below : last < n
    last-below = last-small s S e mine file j fewer

    -- the links of other blocks, and of those freed
    pub shortened-next : (y : ℕ) → y < 128 * table_blocks n → (In y old → ⊥) → next (shorten_at s e size time) y ≡ next s y
    shortened-next y h out =
        rw shorten-is (done_next y h ∙ cut-next n S.least S.most s S.whole last last-below gone (gone-below s S e mine file j fewer) (gone-above s S e mine file j fewer)
        (gone-used s S e mine file j fewer) (gone-once s S e mine file j fewer) (gone-last s S e mine file j fewer) y h (λ i. out (in-drop y j old i))
        (λ some pos q. ⊎_elim (λ z. omega arith) (λ i. out (subst (λ (x : ℕ). In x old) (sym q) (in_take last j old i))) (last-in kept 0)))

    pub shortened-at : (q : ℕ) → In q gone → next (shorten_at s e size time) q ≡ 0
    shortened-at q i =
        rw shorten-is (done_next q (omega (arith, gone-below s S e mine file j fewer q i)) ∙ cut_at n S.least S.most s S.whole last last-below gone (gone-below s S e mine file j fewer)
        (gone-above s S e mine file j fewer) (gone-used s S e mine file j fewer) (gone-once s S e mine file j fewer) (gone-last s S e mine file j fewer) q i)

    -- blocks that are none of the directories'
    done-block : (q : ℕ) → q < n → (In q (dir_blocks s) → ⊥) → block done q ≡ block full q
    done-block q h out =
        entry-elsewhere s S e mine full done filled.len long outside q h (λ z. out (subst (λ (y : ℕ). In y (dir_blocks s)) z mine.within-tree))

    pub shortened-zero : (q : ℕ) → In q gone → block (shorten_at s e size time) q ≡ zeros 512
    shortened-zero q i =
        rw shorten-is (done-block q (gone-below s S e mine file j fewer q i)
        (block-outside s S e (inl mine) (file-no-self s S e mine file) q (rw (file-blocks s S e mine file) (in-drop q j old i)))
        ∙ put-outside n S.least q kept cut size (zeros zeroed) cut-length kept-below (λ m. gone-apart s S e mine file j fewer q m i)
        ∙ cut-zero n S.least S.most s S.whole last last-below gone (gone-below s S e mine file j fewer) (gone-above s S e mine file j fewer)
        (gone-used s S e mine file j fewer) (gone-once s S e mine file j fewer) (gone-last s S e mine file j fewer) q i)

    -- the other owners
    module _ (a : ℕ) (A : Owner s a) (ne : a ≢ e) (q : ℕ) (i : In q (blocks_at s a)) where
      not-old : In q old → ⊥
      not-old = file-apart s S e mine file a A ne q i

      pub shortened-value : next (shorten_at s e size time) q ≡ next s q
      shortened-value = shortened-next q (omega (arith, block-below s S a A q i)) not-old

      pub shortened-block : ((x : ℕ × ℕ) → In x (dirs s) → a ≢ 512 * x.0) → block (shorten_at s e size time) q ≡ block s q
      shortened-block apart =
          rw shorten-is (done-block q (block-below s S a A q i) (block-outside s S a A apart q i)
          ∙ put-outside n S.least q kept cut size (zeros zeroed) cut-length kept-below (λ m. not-old (in_take q j old m))
          ∙ cut-block n S.least S.most s S.whole last last-below gone (gone-below s S e mine file j fewer) (gone-above s S e mine file j fewer)
          (gone-used s S e mine file j fewer) (gone-once s S e mine file j fewer) (gone-last s S e mine file j fewer) q (block-high s S a A q i) (λ m. not-old (in-drop q j old m)))

    -- the file's attributes stay
    pub shortened-attributes : SameAttributes s (shorten_at s e size time) e
    shortened-attributes =
        same-attributes s (shorten_at s e size time) e mine.aligned file (rw shorten-is entry.type) (rw shorten-is entry.attribute) (rw shorten-is entry.attribute-size)
        (λ q i. shortened-value (e + 28) (second s S e mine file) (λ z. omega arith) q (rw (second-blocks s S e mine file) i))
        (λ q i. shortened-block (e + 28) (second s S e mine file) (λ z. omega arith) q (rw (second-blocks s S e mine file) i) (second-no-self s S e mine file))

    -- as many blocks less are in use as it frees
    pub shortened-used : be32 s 20 ≡ (blocks_of s e - blocks_for size) + be32 (shorten_at s e size time) 20
    shortened-used =
        let l = gone-length s S e mine file j fewer in
        let o = cut-occupied n S.least S.most s S.whole last last-below gone (gone-below s S e mine file j fewer) (gone-above s S e mine file j fewer)
        (gone-used s S e mine file j fewer) (gone-once s S e mine file j fewer) (gone-last s S e mine file j fewer) (last-used s S e mine file j fewer) in
        let u = filled.used in
        let c = occupied-same (next cut) (next full) n (λ y h. ap (λ (z : ℕ). eqb z 0) (put_next n S.least kept cut size (zeros zeroed) cut-length kept-below kept_above y (omega arith))) in
        let r = renewed-count s S d di k k₁ k₂ file full (first_block s e) j filled first size time starts empty refl few 20 (omega arith) in
        let w = S.used-is in
        rw shorten-is (omega arith)

    -- the file has the first of its blocks and bytes
    front : (y : ℕ) → suc y < j → next done (nth (next s) y (first_block s e)) ≡ next s (nth (next s) y (first_block s e))
    front y h =
        let f = fewer in
        let small = chained.below y (omega arith) in
        done_next (nth (next s) y (first_block s e)) (omega arith)
        ∙ cut-value s S e mine file j fewer (nth (next s) y (first_block s e)) (omega arith)
        (λ x p r. chain-differ (next s) n (first_block s e) (blocks_of s e) chained S.least y x (omega arith) r)

    done-blocks : file_blocks done e ≡ kept
    unfolding file_blocks
    done-blocks =
        rw (entry.first-is, entry.blocks_is)
        (chain-start (next done) j first (first_block s e) starts ∙ chain-front (next s) (next done) (first_block s e) j front ∙ sym (kept-is s S e mine file j fewer))

    old-kept : joined (block cut) kept ≡ joined (block s) kept
    old-kept = joined_same (block s) (block cut) kept
        (λ q i. cut-block n S.least S.most s S.whole last last-below gone (gone-below s S e mine file j fewer) (gone-above s S e mine file j fewer)
        (gone-used s S e mine file j fewer) (gone-once s S e mine file j fewer) (gone-last s S e mine file j fewer) q (kept_above q i) (gone-apart s S e mine file j fewer q i))

    done-data : joined (block done) kept ≡ splice (joined (block s) kept) size (zeros zeroed)
    done-data =
        joined_same (block full) (block done) kept (λ q i. done-block q (kept-below q i) (kept-far q i))
        ∙ joined-put n S.least kept cut size (zeros zeroed) cut-length kept-below (kept-once s S e mine file j fewer)
        (omega (arith, many, length-zeros zeroed, tail-fits (size_of s e) size)) ∙ ap (λ (x : List ℕ). splice x size (zeros zeroed)) old-kept

    whole_length : length (joined (block s) kept) ≡ 512 * j
    whole_length = length-blocks s kept (λ x m. omega (arith, S.whole, kept-below x m)) ∙ ap (λ (z : ℕ). 512 * z) many

    done-content : content done e ≡ take size (content s e)
    unfolding content
    done-content =
        let split : joined (block s) old ≡ joined (block s) kept ++ joined (block s) gone = ap (joined (block s)) (sym (take-append-drop j old)) ∙ joined-append (block s) kept gone in
        let l = whole_length in
        rw (entry.size_is, done-blocks, done-data)
        (take-splice (joined (block s) kept) size (zeros zeroed) size (omega arith) (omega arith)
        ∙ sym (take-take size (size_of s e) (joined (block s) old) less ∙ ap (take size) split ∙ take-append-le size (joined (block s) kept) (joined (block s) gone) (omega arith)))

    pub shortened-file : Shortened s (shorten_at s e size time) e size time
    shortened-file = rw shorten-is (record { contents = done-content; blocks = done-blocks; whole = ap (joined (block done)) done-blocks ∙ done-data; entry = entry })

    -- the links that change are of blocks of the table
    pub shortened-entries : (x : ℕ) → In x (entries_named (changed_entries (last_or 0 (take (blocks_for size) (file_blocks s e))) (drop (blocks_for size) (file_blocks s e)))) → x ≤ table_blocks (block_count s)
    shortened-entries = entries-low n (changed_entries last gone) (changed-below n last gone last-below (gone-below s S e mine file j fewer))

    -- which blocks are written
    pub shortened-bounded : Bounded s (shorten_at s e size time) (shorten_named s e size)
    unfolding shorten_named
    shortened-bounded =
        let holds : List ℕ = written kept size zeroed in
        let entries : List ℕ = entries_named (changed_entries last gone) in
        let rest : List ℕ = holds ++ (gone ++ entries) in
        let ns : List ℕ = e / 512 ∷ rest in
        let below = gone-below s S e mine file j fewer in
        let a : Agree s cut ns = agree-more (cut-agree n S.least S.most s S.whole last last-below gone below) (λ x i. inr (in_right x holds (gone ++ entries) i)) in
        let b : Agree cut full ns = agree-more (rw (length-zeros zeroed) at (put-agree n S.least kept cut size (zeros zeroed) cut-length kept-below)) (λ x i. inr (in_left x holds (gone ++ entries) i)) in
        let c : Agree s full ns = agree_then a b (λ x i. i) (λ x i. i) in
        rw shorten-is (record {
          agree = agree_then c (file-agree s S e mine full first size j time (c.size ∙ S.whole)) (λ x i. i) (in-single (e / 512) ns (inl refl));
          inside = λ b i. ⊎_elim (λ q. rw q (entry-slot s S e mine).inside)
              (λ m. ⊎_elim (λ x. kept-below b (written_in kept size zeroed b x)) (λ x. ⊎_elim (below b) (λ y. omega (arith, shortened-entries b y, S.least)) (in-append b gone entries x)) (in-append b holds (gone ++ entries) m)) i;
        })

    -- the blocks that stay are in use
    pub shortened-in-use : (q : ℕ) → In q (take (blocks_for size) (file_blocks s e)) → next (shorten_at s e size time) q ≢ 0
    shortened-in-use q i =
        let r = in-chain (next s) (first_block s e) j q (rw (kept-is s S e mine file j fewer) at i) in
        rw (shorten-is, r.2) (⊎_elim (λ z w. at-end r.0 r.1 z w) (λ z w. chain-used (next s) n (first_block s e) (blocks_of s e) chained S.least r.0 (omega (arith, fewer, r.1)) (sym (front r.0 z) ∙ w))
        (eq-or-lt_of_le r.1))
      where
        at-end : (x : ℕ) → x < j → suc x ≡ j → next done (nth (next s) x (first_block s e)) ≡ 0 → ⊥
        at-end x h z w =
            let o = done_next (nth (next s) x (first_block s e)) (omega (arith, fewer, chained.below x (omega (arith, fewer)))) ∙ cut-ends s S e mine file j fewer x z in
            omega arith

    -- no block is freed: the table stays
    pub shortened-links : blocks_of s e ≤ blocks_for size → (y : ℕ) → y < 128 * table_blocks n → next (shorten_at s e size time) y ≡ next s y
    shortened-links all y h =
        let l = gone-length s S e mine file j fewer in
        rw shorten-is (done_next y h ∙ cut-next n S.least S.most s S.whole last last-below gone (gone-below s S e mine file j fewer) (gone-above s S e mine file j fewer)
        (gone-used s S e mine file j fewer) (gone-once s S e mine file j fewer) (gone-last s S e mine file j fewer) y h (λ i. absurd (omega (arith, in_some y gone i))) (λ some. absurd (omega arith)))

pub kept-shorten : (s path : List ℕ) (size time : ℕ) → check s ≡ 0 → shorten_refusal s path size ≡ 0 → check (shorten_at s (entry_of is_file s path) size time) ≡ 0
unfolding entry_of
kept-shorten s path size time c r =
    let G = shorten-given s path size r in
    let A = file-at-path s path G.there in
    let N = A.named in
    check-zero _ (shortened-sound s (sound s c) (home s path, A.level) A.home-in (path_slot is_file s path) N.low N.high N.typed size time G.less)
