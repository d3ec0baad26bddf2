-- Replace by its path: the image after its shorten, in which the path leads where it did, and the write to it that is accepted there.
use Prim.Native.Nat.{ℕ, zero, suc, ◌+◌, ◌-◌, ◌/◌, ◌%◌, ◌≤◌, ◌<◌, max, min}
use mathlib.Core.Path.{◌≡◌, refl, ap, ◌∙◌, subst}
use mathlib.Core.Bool.{false, ◌&&◌}
use mathlib.Core.List.{List, append-nil}
use mathlib.Core.Logic.{◌⊎◌, inl, inr, ⊎_elim}
use native.Mathlib.Omega.{arith}
use borrow.Author.Tests.{ne_eqb, le-leb}
use lib.ListN.{length, get_or, take}
use lib.Dec.{eqb, leb}
use lib.Seq.{take_all, take-take}
use Rattle.layout.specs.Limits.{max_data}
use Rattle.layout.specs.Geometry.{block_count, blocks_for}
use Rattle.layout.specs.Table.{next, free_blocks}
use Rattle.layout.specs.Directory.{slot_at, type_of, first_block, size_of, blocks_of, is_file, is_directory, directory, dirs, file_blocks}
use Rattle.layout.specs.Check.{check}
use Rattle.layout.specs.Paths.{home, path_slot, path_ok, entry_of, file_refusal}
use Rattle.volume.specs.Entries.{entries_named}
use Rattle.volume.specs.Write.{new_size, needed, new_blocks, write_at, written, changed_entries, write_named, write_at_refusal, write_refusal}
use Rattle.volume.specs.Shorten.{shorten_at}
use Rattle.volume.specs.Replace.{replace_refusal, replace_at}
use Rattle.volume.proofs.Laws.Places.{At, file-at-path, WriteGiven, write-at, write-given}
use Rattle.volume.proofs.Laws.Write.{kept-write}
use Rattle.volume.proofs.Laws.Shorten.{Shortened, ShortenGiven, shortened-sound, shortened-slot, shortened-file, shortened-used, shortened-links}
use Rattle.volume.proofs.Laws.Views.{own-slot, own-entry}
use Rattle.layout.proofs.Laws.Tests.{lt-or-ge, require-zero}
use Rattle.layout.proofs.Laws.Lists.{select-same}
use Rattle.layout.proofs.Laws.Sound.{Sound, sound, check-zero}
use Rattle.layout.proofs.Laws.Files.{file-in, length-file_blocks}
use Rattle.layout.proofs.Laws.Owners.{free_of, file-no-dir}
use Rattle.layout.proofs.Laws.Changed.{OneSlot}

-- the smaller of two numbers is one of them
pub min-either : (a b : ℕ) → ((min a b ≡ a) × (a ≤ b)) ⊎ ((min a b ≡ b) × (b ≤ a))
min-either a b = ⊎_elim (λ h. inl (omega arith, omega arith)) (λ h. inr (omega arith, omega arith)) (lt-or-ge a b)

-- the blocks that a write at 0 takes after the shorten, against those that it would take before
fewer-needed : (size count m free more : ℕ) → ((m ≡ size) × (size ≤ count)) ⊎ ((m ≡ count) × (count ≤ size)) → blocks_for (max size (0 + count)) - blocks_for size ≤ free → free ≤ more
    → blocks_for (max m (0 + count)) - blocks_for m ≤ more
fewer-needed size count m free more (inl q) h g = let a = q.0 in let b = q.1 in omega arith
fewer-needed size count m free more (inr q) h g = let a = q.0 in let b = q.1 in omega arith

-- the blocks that a write at 0 of so many bytes writes are the first
written-front : (bs : List ℕ) (count : ℕ) → written (take (blocks_for count) bs) 0 count ≡ written bs 0 count
unfolding written
written-front bs zero = refl
written-front bs (suc c) = let q : 0 % 512 + suc c ≡ suc c = omega arith in rw q (take-take (blocks_for (suc c)) (blocks_for (suc c)) bs (omega arith))

-- an accepted replace
module _ (s path : List ℕ) (count : ℕ) (r : replace_refusal s path count ≡ 0) where
  pub replace-there : file_refusal s path ≡ 0
  unfolding replace_refusal
  replace-there = (write-at s path 0 count r).0

  pub replace-given : WriteGiven s path 0 count
  unfolding replace_refusal
  replace-given = write-given s path 0 count r

  pub replace-shorten : ShortenGiven s path (min (size_of s (entry_of is_file s path)) count)
  replace-shorten = record { there = replace-there; less = ⊎_elim (λ q. let a = q.0 in omega arith) (λ q. let a = q.0 in let b = q.1 in omega arith) (min-either (size_of s (entry_of is_file s path)) count) }

-- the image after its shorten
module _ (s path : List ℕ) (ok : check s ≡ 0) (count time : ℕ) (r : replace_refusal s path count ≡ 0) where
  abbrev m : ℕ
  m = min (size_of s (entry_of is_file s path)) count

  abbrev t : List ℕ
  t = shorten_at s (entry_of is_file s path) (min (size_of s (entry_of is_file s path)) count) time

  abbrev a : ℕ
  a = slot_at (directory s (home s path)) (path_slot is_file s path)

  A : At is_file s path
  A = file-at-path s path (replace-there s path count r)

  T : Sound s
  T = sound s ok

  less : min (size_of s (slot_at (directory s (home s path)) (path_slot is_file s path))) count ≤ size_of s (slot_at (directory s (home s path)) (path_slot is_file s path))
  unfolding entry_of
  less = (replace-shorten s path count r).less

  right : Sound t
  unfolding entry_of
  right = shortened-sound s T (home s path, A.level) A.home-in (path_slot is_file s path) A.named.low A.named.high A.named.typed m time less

  pub short-sound : check (shorten_at s (entry_of is_file s path) (min (size_of s (entry_of is_file s path)) count) time) ≡ 0
  short-sound = check-zero _ right

  only : OneSlot s (dirs s) t a
  unfolding entry_of
  only = shortened-slot s T (home s path, A.level) A.home-in (path_slot is_file s path) A.named.low A.named.high A.named.typed m time less

  short : Shortened s t a m time
  unfolding entry_of
  short = shortened-file s T (home s path, A.level) A.home-in (path_slot is_file s path) A.named.low A.named.high A.named.typed m time less

  pub short-length : length (shorten_at s (entry_of is_file s path) (min (size_of s (entry_of is_file s path)) count) time) ≡ length s
  short-length = only.len

  pub short-count : block_count (shorten_at s (entry_of is_file s path) (min (size_of s (entry_of is_file s path)) count) time) ≡ block_count s
  short-count = ap (λ (x : ℕ). x / 512) only.len

  -- the path leads where it did
  no-dir : is_directory (type_of s a) ≡ false
  no-dir = file-no-dir (type_of s a) A.named.typed

  pub short-slot : path_slot is_file (shorten_at s (entry_of is_file s path) (min (size_of s (entry_of is_file s path)) count) time) path ≡ path_slot is_file s path
  short-slot =
      let N = A.named in
      let type = short.entry.type in
      own-slot s t path T A.good A.short A.there A.level A.home-in (path_slot is_file s path) N.low N.high only no-dir (rw type no-dir) right (rw type N.typed) (short.entry.name ∙ N.named)

  pub short-entry : entry_of is_file (shorten_at s (entry_of is_file s path) (min (size_of s (entry_of is_file s path)) count) time) path ≡ entry_of is_file s path
  short-entry =
      let N = A.named in
      let type = short.entry.type in
      own-entry s t path T A.good A.short A.there A.level A.home-in (path_slot is_file s path) N.low N.high only no-dir (rw type no-dir) right (rw type N.typed) (short.entry.name ∙ N.named)
      ∙ (unfold entry_of in refl)

  pub short-accepted : file_refusal (shorten_at s (entry_of is_file s path) (min (size_of s (entry_of is_file s path)) count) time) path ≡ 0
  unfolding file_refusal
  short-accepted = let l = A.named.low in rw (A.good, A.short, short-slot, ne_eqb (path_slot is_file s path) 0 (λ z. omega arith))

  -- to the file as it was shortened
  pub short-first : first_block t (entry_of is_file s path) ≡ get_or (take (blocks_for (min (size_of s (entry_of is_file s path)) count)) (file_blocks s (entry_of is_file s path))) 0 0
  unfolding entry_of
  short-first = short.entry.first-is

  pub short-size : size_of t (entry_of is_file s path) ≡ min (size_of s (entry_of is_file s path)) count
  unfolding entry_of
  short-size = short.entry.size_is

  pub short-many : blocks_of t (entry_of is_file s path) ≡ blocks_for (min (size_of s (entry_of is_file s path)) count)
  unfolding entry_of
  short-many = short.entry.blocks_is

  pub short-blocks : file_blocks t (entry_of is_file s path) ≡ take (blocks_for (min (size_of s (entry_of is_file s path)) count)) (file_blocks s (entry_of is_file s path))
  unfolding entry_of
  short-blocks = short.blocks

  held : blocks_of s (entry_of is_file s path) ≡ blocks_for (size_of s (entry_of is_file s path))
  unfolding entry_of
  held = (file-in s T (home s path, A.level) A.home-in (path_slot is_file s path) A.named.low A.named.high A.named.typed).blocks

  -- there is room for the write there
  free_more : length (free_blocks (next s) (block_count s)) ≤ length (free_blocks (next t) (block_count s))
  unfolding entry_of
  free_more =
      let u = right.used-is in
      let v = shortened-used s T (home s path, A.level) A.home-in (path_slot is_file s path) A.named.low A.named.high A.named.typed m time less in
      omega (arith, free_of (next t) (block_count s), free_of (next s) (block_count s), T.used-is, rw short-count at u)

  short-room : needed t (entry_of is_file s path) 0 count ≤ length (free_blocks (next t) (block_count s))
  unfolding needed new_size
  short-room =
      rw (short-size, short-many) (fewer-needed (size_of s (entry_of is_file s path)) count m (length (free_blocks (next s) (block_count s))) (length (free_blocks (next t) (block_count s)))
      (min-either (size_of s (entry_of is_file s path)) count) (rw held at (replace-given s path count r).room) free_more)

  pub replace-write : WriteGiven (shorten_at s (entry_of is_file s path) (min (size_of s (entry_of is_file s path)) count) time) path 0 count
  replace-write = record { there = file-at-path t path short-accepted; within-size = omega arith; room = rw (short-entry, short-count) short-room }

  pub replace-accepted : write_refusal (shorten_at s (entry_of is_file s path) (min (size_of s (entry_of is_file s path)) count) time) path 0 count ≡ 0
  unfolding replace_refusal write_refusal write_at_refusal
  replace-accepted =
      let few = require-zero (leb count max_data && path_ok path) 8 _ r in
      rw (
        few.0,
        short-accepted,
        short-entry,
        short-count,
        le-leb 0 (size_of t (entry_of is_file s path)) (omega arith),
        le-leb (needed t (entry_of is_file s path) 0 count) (length (free_blocks (next t) (block_count s))) short-room,
      )

  -- what it names there is what it names before the shorten
  module _ (big : size_of s (entry_of is_file s path) ≤ count) (q : min (size_of s (entry_of is_file s path)) count ≡ size_of s (entry_of is_file s path)) where
    links : (y : ℕ) → y < block_count s → next t y ≡ next s y
    unfolding entry_of
    links y h = shortened-links s T (home s path, A.level) A.home-in (path_slot is_file s path) A.named.low A.named.high A.named.typed m time less (rw (held, q) (omega arith)) y (omega arith)

    free-same : free_blocks (next t) (block_count t) ≡ free_blocks (next s) (block_count s)
    unfolding free_blocks
    free-same = rw short-count (select-same (λ b. eqb (next s b) 0) (λ b. eqb (next t b) 0) (block_count s) 0 (λ i h g. ap (λ (v : ℕ). eqb v 0) (links i (omega arith))))

    old-same : file_blocks t (entry_of is_file s path) ≡ file_blocks s (entry_of is_file s path)
    old-same = short-blocks ∙ take_all (blocks_for (min (size_of s (entry_of is_file s path)) count)) (file_blocks s (entry_of is_file s path)) (rw (length-file_blocks s (entry_of is_file s path), held, q) (omega arith))

    new-same : new_blocks t (entry_of is_file s path) 0 count ≡ new_blocks s (entry_of is_file s path) 0 count
    unfolding new_blocks needed new_size
    new-same = rw (free-same, short-size, short-many, q, held)

    names-big : write_named t (entry_of is_file s path) 0 count ≡ write_named s (entry_of is_file s path) 0 count
    unfolding write_named
    names-big = rw (old-same, new-same)

  module _ (small : count ≤ size_of s (entry_of is_file s path)) (q : min (size_of s (entry_of is_file s path)) count ≡ count) where
    none_before : needed s (entry_of is_file s path) 0 count ≡ 0
    unfolding needed new_size
    none_before = rw held (omega arith)

    none_after : needed t (entry_of is_file s path) 0 count ≡ 0
    unfolding needed new_size
    none_after = rw (short-size, short-many, q) (omega arith)

    names-small : write_named t (entry_of is_file s path) 0 count ≡ write_named s (entry_of is_file s path) 0 count
    unfolding write_named new_blocks changed_entries entries_named
    names-small =
        rw (none_before, none_after, short-blocks, q, append-nil (take (blocks_for count) (file_blocks s (entry_of is_file s path))), append-nil (file_blocks s (entry_of is_file s path)), written-front (file_blocks s (entry_of is_file s path)) count)

  pub replace-names : write_named (shorten_at s (entry_of is_file s path) (min (size_of s (entry_of is_file s path)) count) time) (entry_of is_file s path) 0 count ≡ write_named s (entry_of is_file s path) 0 count
  replace-names = ⊎_elim (λ q. names-big q.1 q.0) (λ q. names-small q.1 q.0) (min-either (size_of s (entry_of is_file s path)) count)

pub kept-replace : (s path bytes : List ℕ) (time : ℕ) → check s ≡ 0 → replace_refusal s path (length bytes) ≡ 0 → check (replace_at s (entry_of is_file s path) bytes time) ≡ 0
unfolding replace_at
kept-replace s path bytes time ok r =
    let t : List ℕ = shorten_at s (entry_of is_file s path) (min (size_of s (entry_of is_file s path)) (length bytes)) time in
    subst (λ (x : ℕ). check (write_at t x 0 bytes time) ≡ 0) (short-entry s path ok (length bytes) time r)
    (kept-write t path 0 bytes time (short-sound s path ok (length bytes) time r) (replace-write s path ok (length bytes) time r))
