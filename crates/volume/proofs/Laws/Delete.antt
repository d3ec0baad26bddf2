-- Delete, of a file: its own chain is freed, then that of its attributes; the image after it is sound, and the blocks of every other owner stay.
use Prim.Native.Nat.{ℕ, ◌+◌, ◌-◌, ◌*◌, ◌/◌, ◌≤◌, ◌<◌}
use mathlib.Core.Path.{◌≡◌, refl, sym, ◌∙◌, subst}
use mathlib.Core.Bool.{true}
use mathlib.Core.List.{List, ◌∷◌, ◌++◌, []}
use mathlib.Core.Logic.{◌⊎◌, inl, inr, ⊎_elim, ◌≢◌}
use native.Mathlib.Omega.{arith}
use lib.ListN.{length, length-append}
use lib.Dec.{eqb}
use borrow.Author.Tests.{eqb-true}
use Rattle.layout.specs.Lists.{distinct}
use Rattle.layout.specs.Bytes.{be32, zeros, splice, block}
use Rattle.layout.specs.Geometry.{block_count, table_blocks, root_block}
use Rattle.layout.specs.Table.{next, chain}
use Rattle.layout.specs.Directory.{slot_at, type_of, first_block, blocks_of, attribute_block_of, attribute_size_of, is_file, directory, dirs, file_blocks, attribute_blocks}
use Rattle.layout.specs.Check.{slot_ok, check}
use Rattle.layout.specs.Paths.{home, path_slot, entry_of, file_refusal}
use Rattle.volume.specs.Entries.{freed, released, blocks_named}
use Rattle.volume.specs.Delete.{all_blocks, delete_at, delete_named}
use Rattle.volume.proofs.Laws.Table.{released-next, released-occupied}
use Rattle.volume.proofs.Laws.Frame.{released-agree}
use Rattle.volume.proofs.Laws.Release.{released-chain, released-steps}
use Rattle.volume.proofs.Laws.Unchanged.{Bounded, entry-bounded, value-kept, block-kept}
use Rattle.volume.proofs.Laws.Places.{file-at-path}
use Rattle.layout.proofs.Laws.Tests.{eqb-self}
use Rattle.layout.proofs.Laws.Bytes.{length-splice, length-zeros, splice-first}
use Rattle.layout.proofs.Laws.Lists.{In, in-append, distinct_append}
use Rattle.layout.proofs.Laws.Frames.{Same, same-be32, same_beside, before-next, Agree}
use Rattle.layout.proofs.Laws.Chains.{chain-distinct, length-chain}
use Rattle.layout.proofs.Laws.Trees.{size_at}
use Rattle.layout.proofs.Laws.Sound.{held_at, own_held, second-held, second-first, Sound, Entry, Owner, sound, check-zero}
use Rattle.layout.proofs.Laws.Slots.{slot-entry, entry-high, entry-low}
use Rattle.layout.proofs.Laws.Owners.{blocks_at, file-no-dir, file-below, file-above, second, second-chained, second-apart, file-holds, second_holds, file-blocks, second-blocks, file-no-self, second-no-self, block-high, block-below, block-used, block_apart}
use Rattle.layout.proofs.Laws.Changed.{OneSlot}
use Rattle.layout.proofs.Laws.Steps.{over, over-same, over-other, Midway, Staying, staying, staying-then, midway_start, midway-then, midway_end, one-slot}

-- the slot is zeroed last
module _ (t : List ℕ) (e : ℕ) (fit : e + 128 ≤ length t) where
  fits : e + length (zeros 128) ≤ length t
  fits = omega (arith, length-zeros 128)

  pub zeroed-length : length (splice t e (zeros 128)) ≡ length t
  zeroed-length = length-splice t e (zeros 128) fits

  pub zeroed-outside : (a w : ℕ) → (a + w ≤ e) ⊎ (e + 128 ≤ a) → Same t (splice t e (zeros 128)) a w
  zeroed-outside a w h = same_beside t e (zeros 128) fits a w (⊎_elim (λ x. inl x) (λ x. inr (omega (arith, length-zeros 128))) h)

  pub zeroed-type : type_of (splice t e (zeros 128)) e ≡ 0
  unfolding zeros
  zeroed-type = splice-first t e (zeros 128) fits (omega (arith, length-zeros 128))

-- two lists of blocks freed
pub released-append : (n : ℕ) (bs cs s : List ℕ) → released s n (bs ++ cs) ≡ released (released s n bs) n cs
unfolding released
released-append n [] cs s = refl
released-append n (b ∷ bs) cs s = released-append n bs cs (freed s n b)

-- a file, in slot k of the directory d
module _ (s : List ℕ) (S : Sound s) (d : ℕ × ℕ) (di : In d (dirs s)) (k : ℕ) (k₁ : 1 ≤ k) (k₂ : k < 4 * size_at s d.0 - 1)
    (file : is_file (type_of s (slot_at (directory s d.0) k)) ≡ true)
  where
    abbrev n : ℕ
    n = block_count s

    abbrev e : ℕ
    e = slot_at (directory s d.0) k

    abbrev f : ℕ → ℕ
    f = first_block s

    abbrev l : ℕ → ℕ
    l = held_at s

    E : Entry s e
    E = slot-entry s S d di k (omega arith)

    A : Owner s (e + 28)
    A = second s S e E file

    away : e ≢ e + 28
    away q = omega arith

    -- the file's own chain
    St : Staying s (dirs s) (Owner s) f l e
    St = staying s S e (inl E) (λ c i q. file-no-self s S e E file c i (sym q))

    start : Midway s (dirs s) (Owner s) f l e s (first_block s e) (blocks_of s e)
    start =
        subst (λ (c : ℕ). Midway s (dirs s) (Owner s) f l e s (first_block s e) c) (file-holds s S e E file)
        (midway_start s S e (inl E) (λ c i q. file-no-self s S e E file c i (sym q)))

    abbrev half : List ℕ
    half = released s n (file_blocks s e)

    own-freed : (z : ℕ) × Midway s (dirs s) (Owner s) f l e half z 0
    unfolding file_blocks
    own-freed = released-steps s S (dirs s) (Owner s) f l e St (blocks_of s e) s (first_block s e) start

    -- then its attributes'
    abbrev g : ℕ → ℕ
    g = over e own-freed.0 f

    abbrev m : ℕ → ℕ
    m = over e 0 l

    St₂ : Staying s (dirs s) (Owner s) g m (e + 28)
    St₂ = staying-then s S (dirs s) (Owner s) f l e St own-freed.0 0 (e + 28) A (λ c i q. second-no-self s S e E file c i (sym q))

    start₂ : Midway s (dirs s) (Owner s) g m (e + 28) half (attribute_block_of s e) (attribute_size_of s e)
    start₂ =
        subst (λ (b : ℕ). Midway s (dirs s) (Owner s) g m (e + 28) half b (attribute_size_of s e)) (over-other e own-freed.0 f (e + 28) (λ q. away (sym q)) ∙ second-first s e)
        (subst (λ (c : ℕ). Midway s (dirs s) (Owner s) g m (e + 28) half (g (e + 28)) c) (over-other e 0 l (e + 28) (λ q. away (sym q)) ∙ second_holds s S e E file)
        (midway-then s S (dirs s) (Owner s) f l e St own-freed.0 0 (e + 28) half own-freed.1))

    second-chain : chain (next half) (attribute_block_of s e) (attribute_size_of s e) ≡ attribute_blocks s e
    unfolding attribute_blocks
    second-chain =
        released-chain n S.least (file_blocks s e) s (attribute_block_of s e) (attribute_size_of s e) S.whole (file-below s S e E file) (file-above s S e E file) (second-chained s S e E file) (second-apart s S e E file)

    abbrev all : List ℕ
    all = all_blocks s e

    abbrev freer : List ℕ
    freer = released s n all

    freeing : (z : ℕ) × Midway s (dirs s) (Owner s) g m (e + 28) freer z 0
    unfolding all_blocks
    freeing =
        rw (released-append n (file_blocks s e) (attribute_blocks s e) s)
        (rw second-chain at (released-steps s S (dirs s) (Owner s) g m (e + 28) St₂ (attribute_size_of s e) half (attribute_block_of s e) start₂))

    -- the slot is zeroed
    fit : e + 128 ≤ length freer
    fit = omega (arith, entry-high s S e E, freeing.1.len)

    pub deleted-sound : Sound (delete_at s e)
    unfolding delete_at slot_ok
    deleted-sound =
        let z = zeroed-type freer e fit in
        midway_end s S d di k k₁ k₂ g m (e + 28) freer freeing.0 0 freeing.1 (delete_at s e) (zeroed-length freer e fit) (zeroed-outside freer e fit)
        (file-no-dir (type_of s e) file) (rw z) (rw z) (λ u. absurd (u z))
        (λ a A₁ p q. (over-other (e + 28) 0 m a q ∙ over-other e 0 l a p, over-other (e + 28) freeing.0 g a q ∙ over-other e own-freed.0 f a p))
        (own_held (delete_at s e) e E.aligned ∙ (rw z) ∙ sym own-none, λ pos. absurd (omega (arith, own-none)))
        (second-held (delete_at s e) e E.aligned ∙ (rw z) ∙ sym (over-same (e + 28) 0 m), λ pos. absurd (omega (arith, over-same (e + 28) 0 m)))
      where
        own-none : over (e + 28) 0 m e ≡ 0
        own-none = over-other (e + 28) 0 m e away ∙ over-same e 0 l

    -- the entry's bytes alone change in the directories
    pub deleted-slot : OneSlot s (dirs s) (delete_at s e) e
    unfolding delete_at
    deleted-slot = one-slot s S d di k k₁ k₂ g m (e + 28) freer freeing.0 0 freeing.1 (delete_at s e) (zeroed-length freer e fit) (zeroed-outside freer e fit)

    pub deleted-type : type_of (delete_at s e) e ≡ 0
    unfolding delete_at
    deleted-type = zeroed-type freer e fit

    -- a block of the file is of one of its two owners
    owned_by : (q : ℕ) → In q all → In q (blocks_at s e) ⊎ In q (blocks_at s (e + 28))
    unfolding all_blocks
    owned_by q i = ⊎_elim (λ j. inl (rw (file-blocks s S e E file) j)) (λ j. inr (rw (second-blocks s S e E file) j)) (in-append q (file_blocks s e) (attribute_blocks s e) i)

    pub deleted-below : (q : ℕ) → In q (all_blocks s e) → q < n
    deleted-below q i = ⊎_elim (block-below s S e (inl E) q) (block-below s S (e + 28) A q) (owned_by q i)

    pub deleted-above : (q : ℕ) → In q all → table_blocks n < q
    deleted-above q i = ⊎_elim (block-high s S e (inl E) q) (block-high s S (e + 28) A q) (owned_by q i)

    all_apart : (a : ℕ) → Owner s a → a ≢ e → a ≢ e + 28 → (q : ℕ) → In q (blocks_at s a) → In q all → ⊥
    all_apart a O p r q i j = ⊎_elim (block_apart s S e (inl E) a O p q i) (block_apart s S (e + 28) A a O r q i) (owned_by q j)

    pub deleted-once : distinct eqb all ≡ true
    unfolding all_blocks
    deleted-once =
        let p : distinct eqb (file_blocks s e) ≡ true = subst (λ (bs : List ℕ). distinct eqb bs ≡ true) (file-blocks s S e E file)
        (chain-distinct (next s) n (first_block s e) (held_at s e) (S.table.right e (inl E)) S.least) in
        let q : distinct eqb (attribute_blocks s e) ≡ true = subst (λ (bs : List ℕ). distinct eqb bs ≡ true) (second-blocks s S e E file)
        (chain-distinct (next s) n (first_block s (e + 28)) (held_at s (e + 28)) (S.table.right (e + 28) A) S.least) in
        distinct_append eqb eqb-true eqb-self (file_blocks s e) (attribute_blocks s e) p q
        (λ b i j. block_apart s S (e + 28) A e (inl E) (λ z. omega arith) b (rw (file-blocks s S e E file) i) (rw (second-blocks s S e E file) j))

    freer-agree : Agree s freer (blocks_named all)
    freer-agree = released-agree n S.least all s S.whole deleted-below

    pub deleted-bounded : Bounded s (delete_at s e) (delete_named s e)
    unfolding delete_at delete_named
    deleted-bounded = entry-bounded s S e E freer all freer-agree deleted-below e (zeros 128) (omega arith) (omega (arith, length-zeros 128))

    pub deleted-in-use : (q : ℕ) → In q all → next s q ≢ 0
    deleted-in-use q i = ⊎_elim (block-used s S e (inl E) q) (block-used s S (e + 28) A q) (owned_by q i)

    values : (y : ℕ) → y < 128 * table_blocks n → (In y all → ⊥) → next (delete_at s e) y ≡ next s y
    unfolding delete_at
    values y h ne =
        before-next freer (delete_at s e) n (zeroed-outside freer e fit 0 (512 * root_block n) (inl (omega (arith, entry-low s S e E)))) y h
        ∙ released-next n S.least all s y S.whole deleted-below deleted-above h ne

    framed : Agree s (delete_at s e) (e / 512 ∷ blocks_named all)
    unfolding delete_named
    framed = deleted-bounded.agree

    pub deleted-next : (a : ℕ) → Owner s a → a ≢ e → a ≢ e + 28 → ((x : ℕ × ℕ) → In x (dirs s) → a ≢ 512 * x.0) → (q : ℕ) → In q (blocks_at s a) → next (delete_at s e) q ≡ next s q
    deleted-next a O p r no_self = value-kept s S e E all (delete_at s e) framed deleted-below values a O no_self (all_apart a O p r)

    pub deleted-block : (a : ℕ) → Owner s a → a ≢ e → a ≢ e + 28 → ((x : ℕ × ℕ) → In x (dirs s) → a ≢ 512 * x.0) → (q : ℕ) → In q (blocks_at s a) → block (delete_at s e) q ≡ block s q
    deleted-block a O p r no_self = block-kept s S e E all (delete_at s e) framed deleted-below values a O no_self (all_apart a O p r)

    all-length : length all ≡ blocks_of s e + attribute_size_of s e
    unfolding all_blocks file_blocks attribute_blocks
    all-length =
        let own = length-chain (next s) (first_block s e) (blocks_of s e) in
        let second = length-chain (next s) (attribute_block_of s e) (attribute_size_of s e) in
        length-append (file_blocks s e) (attribute_blocks s e) ∙ omega arith

    -- as many blocks less are in use as both chains have
    pub deleted-used : be32 s 20 ≡ blocks_of s e + attribute_size_of s e + be32 (delete_at s e) 20
    unfolding delete_at
    deleted-used =
        let l : length all ≡ blocks_of s e + attribute_size_of s e = all-length in
        let o = released-occupied n S.least all s S.whole deleted-below deleted-above deleted-in-use deleted-once in
        let u = freeing.1.used in
        let w = S.used-is in
        let g = entry-low s S e E in
        let h : be32 (splice freer e (zeros 128)) 20 ≡ be32 freer 20 = same-be32 freer (splice freer e (zeros 128)) 0 28 20 (zeroed-outside freer e fit 0 28 (inl (omega arith))) (omega arith) (omega arith) in
        omega arith

-- by paths
pub kept-delete : (s path : List ℕ) → check s ≡ 0 → file_refusal s path ≡ 0 → check (delete_at s (entry_of is_file s path)) ≡ 0
unfolding entry_of
kept-delete s path c r =
    let A = file-at-path s path r in
    let N = A.named in
    check-zero _ (deleted-sound s (sound s c) (home s path, A.level) A.home-in (path_slot is_file s path) N.low N.high N.typed)
