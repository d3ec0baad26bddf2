-- The file of a path, and a write at its end: what it leaves of the path, the file and the free blocks.
use Prim.Native.Nat.{ℕ, ◌+◌, ◌*◌, ◌/◌, ◌≤◌, ◌<◌}
use mathlib.Core.Path.{◌≡◌, refl, sym, ap, ◌∙◌, subst}
use mathlib.Core.Bool.{true, false}
use mathlib.Core.List.{List, ◌++◌}
use mathlib.Core.Logic.{◌⊎◌, inl, inr, ⊎_elim, ◌≢◌}
use native.Mathlib.Omega.{arith}
use native.Mathlib.Decide.{ℕ_discrete}
use borrow.Author.Tests.{ne_eqb}
use lib.ListN.{length, drop}
use lib.Dec.{eqb}
use Rattle.layout.specs.Lists.{last_or, distinct}
use Rattle.layout.specs.Geometry.{block_count, table_blocks, root_block, blocks_for}
use Rattle.layout.specs.Table.{next, free_blocks}
use Rattle.layout.specs.Directory.{slot_at, type_of, first_block, size_of, blocks_of, is_file, is_directory, directory, dirs, file_blocks}
use Rattle.layout.specs.Check.{check}
use Rattle.layout.specs.Paths.{home, path_slot, entry_of, file_refusal}
use Rattle.volume.specs.Entries.{grown}
use Rattle.volume.specs.Write.{needed, new_blocks, write_at}
use Rattle.layout.proofs.Laws.Lists.{In, in_right, last-in}
use Rattle.layout.proofs.Laws.Rests.{select-rest}
use Rattle.layout.proofs.Laws.Tests.{lt-or-gt}
use Rattle.layout.proofs.Laws.Chains.{chain_ok-split, chain-distinct}
use Rattle.layout.proofs.Laws.Visits.{dir_blocks}
use Rattle.layout.proofs.Laws.Sound.{Sound, Entry, sound, check-zero}
use Rattle.layout.proofs.Laws.Slots.{slot-entry, entry-low, entry-high}
use Rattle.layout.proofs.Laws.Files.{file-in}
use Rattle.layout.proofs.Laws.Owners.{Fresh, block-outside, file-blocks, file-above, file-below, file-used, file-chained, file-no-self, file-no-dir}
use Rattle.layout.proofs.Laws.Changed.{OneSlot}
use Rattle.volume.proofs.Laws.Places.{At, file-at-path}
use Rattle.volume.proofs.Laws.Space.{new-fresh, last-below}
use Rattle.volume.proofs.Laws.Table.{grown-next}
use Rattle.volume.proofs.Laws.Blank.{grown-free}
use Rattle.volume.proofs.Laws.Views.{own-slot, own-entry}
use Rattle.volume.proofs.Laws.Write.{Written, written-file, written-slot, written-sound, written-table}

-- a sound image, on which a path leads to the file whose entry is at e
pub record Stands (s path : List ℕ) (e : ℕ) : Type 0 where
  pub ok : check s ≡ 0
  pub there : file_refusal s path ≡ 0
  pub entry : entry_of is_file s path ≡ e

-- the blocks bs of a file with the entry at e, in an image of n blocks
pub record Held (s : List ℕ) (n e : ℕ) (bs : List ℕ) : Type 0 where
  pub whole : length s ≡ 512 * n
  pub least : 3 ≤ n
  pub low : 512 * root_block n ≤ e
  pub high : e + 128 ≤ 512 * n
  pub count : blocks_of s e ≡ blocks_for (size_of s e)
  pub above : (q : ℕ) → In q bs → table_blocks n < q
  pub below : (q : ℕ) → In q bs → q < n
  pub used : (q : ℕ) → In q bs → next s q ≢ 0
  pub once : distinct eqb bs ≡ true
  pub apart : (q : ℕ) → In q bs → (e + 128 ≤ 512 * q) ⊎ (512 * q + 512 ≤ e)

-- what a write of x at the file's end leaves
pub record Ended (s s' path : List ℕ) (e : ℕ) (x : List ℕ) : Type 0 where
  pub stands : Stands s' path e
  pub len : length s' ≡ length s
  pub size : size_of s' e ≡ size_of s e + length x
  pub blocks : file_blocks s' e ≡ file_blocks s e ++ new_blocks s e (size_of s e) (length x)
  pub free : free_blocks (next s') (block_count s') ≡ drop (needed s e (size_of s e) (length x)) (free_blocks (next s) (block_count s))

module _ (s path : List ℕ) (ok : check s ≡ 0) (r : file_refusal s path ≡ 0) where
  abbrev n : ℕ
  n = block_count s

  abbrev k : ℕ
  k = path_slot is_file s path

  abbrev e : ℕ
  e = slot_at (directory s (home s path)) (path_slot is_file s path)

  S : Sound s
  S = sound s ok

  A : At is_file s path
  A = file-at-path s path r

  file : is_file (type_of s e) ≡ true
  file = A.named.typed

  E : Entry s e
  E = let h = A.named.high in slot-entry s S (home s path, A.level) A.home-in k (omega arith)

  far : (q : ℕ) → In q (file_blocks s e) → q ≢ e / 512
  far q i z =
      block-outside s S e (inl E) (file-no-self s S e E file) q (rw (file-blocks s S e E file) i) (subst (λ (y : ℕ). In y (dir_blocks s)) (sym z) E.within-tree)

  once-own : distinct eqb (file_blocks s e) ≡ true
  unfolding file_blocks
  once-own = chain-distinct (next s) n (first_block s e) (blocks_of s e) (chain_ok-split (next s) n (first_block s e) (blocks_of s e) (file-chained s S e E file)) S.least

  held-own : Held s n e (file_blocks s e)
  held-own =
      record {
        whole = S.whole;
        least = S.least;
        low = entry-low s S e E;
        high = omega (arith, entry-high s S e E, S.whole);
        count = (file-in s S (home s path, A.level) A.home-in k A.named.low A.named.high A.named.typed).blocks;
        above = file-above s S e E file;
        below = file-below s S e E file;
        used = file-used s S e E file;
        once = once-own;
        apart = λ q i. let a = E.aligned in ⊎_elim (λ h. inr (omega arith)) (λ h. inl (omega arith)) (lt-or-gt q (e / 512) (far q i));
      }

  module _ (x : List ℕ) (time : ℕ) (room : needed s e (size_of s e) (length x) ≤ length (free_blocks (next s) (block_count s))) where
    abbrev z : ℕ
    z = size_of s e

    abbrev s' : List ℕ
    s' = write_at s e (size_of s e) x time

    abbrev new : List ℕ
    new = new_blocks s e (size_of s e) (length x)

    abbrev last : ℕ
    last = last_or 0 (file_blocks s e)

    W : Written s s' e z x time
    W = written-file s S (home s path, A.level) A.home-in k A.named.low A.named.high A.named.typed z x time room (omega arith)

    O : OneSlot s (dirs s) s' e
    O = written-slot s S (home s path, A.level) A.home-in k A.named.low A.named.high A.named.typed z x time room

    S' : Sound s'
    S' = written-sound s S (home s path, A.level) A.home-in k A.named.low A.named.high A.named.typed z x time room

    was : is_directory (type_of s e) ≡ false
    was = file-no-dir (type_of s e) file

    slot-own : path_slot is_file s' path ≡ k
    slot-own =
        own-slot s s' path S A.good A.short A.there A.level A.home-in k A.named.low A.named.high O was (rw W.type was) S' (rw W.type file) (W.name ∙ A.named.named)

    entry-own : entry_of is_file s' path ≡ e
    entry-own =
        own-entry s s' path S A.good A.short A.there A.level A.home-in k A.named.low A.named.high O was (rw W.type was) S' (rw W.type file) (W.name ∙ A.named.named)

    there-own : file_refusal s' path ≡ 0
    unfolding file_refusal
    there-own = rw slot-own r

    table : (y : ℕ) → y < n → next s' y ≡ next (grown s n last new) y
    table y h = written-table s S (home s path, A.level) A.home-in k A.named.low A.named.high A.named.typed z x time room y (omega arith)

    fresh : Fresh n (next s) new
    fresh = new-fresh s e z (length x) S

    last-used : 0 < last → next s last ≢ 0
    last-used pos = ⊎_elim (λ h. absurd (omega arith)) (λ i. file-used s S e E file last i) (last-in (file_blocks s e) 0)

    small : last < n
    small = last-below s S e E file z (length x)

    -- a block that is not taken is free after it if it was before
    others : (y : ℕ) → y < n → (In y new → ⊥) → eqb (next s' y) 0 ≡ eqb (next s y) 0
    others y h m = go (ℕ_discrete (next s y) 0)
      where
        go : Dec (next s y ≡ 0) → eqb (next s' y) 0 ≡ eqb (next s y) 0
        go (yes v) =
            ap (λ (w : ℕ). eqb w 0) (table y h ∙ grown-next n S.least new s last y S.whole small fresh.below fresh.above (omega arith) m (λ pos q. last-used pos (ap (next s) (sym q) ∙ v)))
        go (no u) =
            ne_eqb (next s' y) 0 (λ w. u (grown-free n S.least S.most new s last y S.whole small last-used fresh h (sym (table y h) ∙ w)).0)
            ∙ sym (ne_eqb (next s y) 0 u)

    left : ((q : ℕ) → In q new → next s' q ≢ 0) → free_blocks (next s') n ≡ drop (needed s e z (length x)) (free_blocks (next s) n)
    unfolding free_blocks new_blocks
    left taken =
        select-rest (λ b. eqb (next s b) 0) (λ b. eqb (next s' b) 0) n 0 (needed s e z (length x)) (λ i h l m. ne_eqb (next s' i) 0 (taken i m)) (λ i h l m. others i (omega arith) m)

    stands-own : Stands s' path e
    stands-own = record { ok = check-zero s' S'; there = there-own; entry = entry-own }

    size-own : size_of s' e ≡ size_of s e + length x
    size-own = W.size ∙ omega arith

    ended-own : ((q : ℕ) → In q (file_blocks s' e) → next s' q ≢ 0) → Ended s s' path e x
    ended-own taken =
        record {
          stands = stands-own;
          len = O.len;
          size = size-own;
          blocks = W.blocks;
          free = ap (λ (l : ℕ). free_blocks (next s') (l / 512)) O.len ∙ left (λ q i. taken q (rw W.blocks (in_right q (file_blocks s e) new i)));
        }

pub held : (s path : List ℕ) (e n : ℕ) (bs : List ℕ) → Stands s path e → block_count s ≡ n → file_blocks s e ≡ bs → Held s n e bs
unfolding entry_of
held s path e n bs H q f =
    subst (λ (l : List ℕ). Held s n e l) f (subst (λ (m : ℕ). Held s m e (file_blocks s e)) q (subst (λ (i : ℕ). Held s (block_count s) i (file_blocks s i)) H.entry (held-own s path H.ok H.there)))

pub ended : (s path : List ℕ) (e : ℕ) → Stands s path e → (x : List ℕ) (time : ℕ) → needed s e (size_of s e) (length x) ≤ length (free_blocks (next s) (block_count s))
    → Ended s (write_at s e (size_of s e) x time) path e x
unfolding entry_of
ended s path e H x time =
    subst (λ (i : ℕ). needed s i (size_of s i) (length x) ≤ length (free_blocks (next s) (block_count s)) → Ended s (write_at s i (size_of s i) x time) path i x) H.entry
    (λ room. ended-own s path H.ok H.there x time room
    (held (write_at s (entry_of is_file s path) (size_of s (entry_of is_file s path)) x time) path (entry_of is_file s path) _ _ (stands-own s path H.ok H.there x time room) refl refl).used)
