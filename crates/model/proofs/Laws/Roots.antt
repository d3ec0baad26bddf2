-- THE ROOT KEEPS ITS BLOCKS: every change writes one slot of a directory, or two, and none of them is the root's own.
use Prim.Native.Nat.{ℕ, suc, ◌-◌, ◌*◌, ◌/◌, ◌≤◌, ◌<◌, min}
use mathlib.Core.Path.{◌≡◌, refl, sym, ap, ◌∙◌}
use mathlib.Core.Bool.{not}
use mathlib.Core.List.{List}
use borrow.Author.Tests.{eqb-false, not-true}
use lib.ListN.{length}
use lib.Dec.{eqb}
use Rattle.layout.specs.Limits.{max_levels}
use Rattle.layout.specs.Geometry.{block_count, root_block}
use Rattle.layout.specs.Directory.{slot_at, first_block, size_of, is_file, is_directory, is_empty, directory, root_of, root, dirs, free_slot}
use Rattle.layout.specs.Check.{check}
use Rattle.layout.specs.Paths.{parts, path_ok, leading, last_part, shallow, home, path_slot, entry_of, file_refusal, directory_refusal}
use Rattle.layout.proofs.Laws.Tests.{require-zero, first_of-zero}
use Rattle.layout.proofs.Laws.Lists.{In}
use Rattle.layout.proofs.Laws.Paths.{path-named, path-home}
use Rattle.layout.proofs.Laws.Trees.{size_at, length-directory, root_in}
use Rattle.layout.proofs.Laws.Sound.{Sound, sound}
use Rattle.layout.proofs.Laws.Changed.{OneSlot, size-stays}
use Rattle.volume.specs.Create.{create_refusal, create_image}
use Rattle.volume.specs.Write.{write_at}
use Rattle.volume.specs.Delete.{delete_at}
use Rattle.volume.specs.Directories.{create_directory_refusal, new_directory_blocks, create_directory_image, delete_directory_refusal}
use Rattle.volume.specs.Entries.{directory_made}
use Rattle.volume.specs.Attributes.{set_attributes_refusal, set_attributes_at, clear_attributes_at}
use Rattle.volume.specs.Flags.{clear_flags_at}
use Rattle.volume.specs.Shorten.{shorten_refusal, shorten_at}
use Rattle.volume.specs.Move.{move_refusal, move_image}
use Rattle.volume.specs.Change as changes
use Rattle.volume.specs.Change.{create, write, delete, create_directory, delete_directory, set_attributes, clear_attributes, clear_flags, shorten, replace, move}
use Rattle.volume.proofs.Theorems as volume
use Rattle.volume.proofs.Laws.Places.{WriteGiven, write-given, file-at-path, create-given, create-directory-given, place_is, place-free, place-home, place-new, path-name, path-levels, set-path, set_given}
use Rattle.volume.proofs.Laws.Create.{created-slot}
use Rattle.volume.proofs.Laws.Write.{written-slot}
use Rattle.volume.proofs.Laws.Delete.{deleted-slot}
use Rattle.volume.proofs.Laws.CreateDirectory.{made-slot}
use Rattle.volume.proofs.Laws.DeleteDirectory.{removed-sound, small_size, small-in, small_slot}
use Rattle.volume.proofs.Laws.SetClear.{set-slot, cleared-slot}
use Rattle.volume.proofs.Laws.Flags.{flags-slot}
use Rattle.volume.proofs.Laws.Shorten.{shorten-given, shortened-slot}
use Rattle.volume.proofs.Laws.Moved.{move-given, without, slot_on, arrival}
use Rattle.store.specs.Put.{path_of, opened, entry_at, rewritten, put_refusal, put_image}
use Rattle.store.specs.Change.{Change, plain, put_in, refusal, after}
use Rattle.store.proofs.Laws.Put.{by-opened, opened-sound, put-given, opened-length}
use Rattle.store.proofs.Theorems.{change-length}

-- the root's own entry is slot 0, and the slot that changes is not
stays : (s s' : List ℕ) → Sound s → (d : ℕ × ℕ) → In d (dirs s) → (k : ℕ) → 1 ≤ k → k < 4 * size_at s d.0 - 1 → OneSlot s (dirs s) s' (slot_at (directory s d.0) k) → size_at s' (root_of s) ≡ size_at s (root_of s)
stays s s' S d di k k₁ k₂ O = size-stays s s' S (dirs s) (λ x i. i) d di k k₁ k₂ O (root_of s, max_levels) (root_in s (block_count s))

same-root : (s s' : List ℕ) → length s' ≡ length s → root_of s' ≡ root_of s
same-root s s' e = ap (λ (n : ℕ). root_block (n / 512)) e

module _ (s path : List ℕ) (ok : check s ≡ 0) where
  abbrev S : Sound s
  S = sound s ok

  create-root : (type user group permissions flags time : ℕ) → create_refusal s path type flags ≡ 0 → size_at (create_image s path type user group permissions flags time) (root_of s) ≡ size_at s (root_of s)
  unfolding create_image
  create-root type user group permissions flags time r =
      let G = create-given s path type flags r in
      let w = place-free s path G.placed in
      let i = place-home s path G.placed G.short in
      rw (place_is s path G.placed)
      (stays s _ S (home s path, max_levels - length (leading (parts path))) i (free_slot s (directory s (home s path))) w.0 w.1
      (created-slot s S (home s path, max_levels - length (leading (parts path))) i (free_slot s (directory s (home s path))) w.0 w.1 w.2 (last_part (parts path)) (path-name path G.good) (place-new s path G.placed)
      type user group permissions flags time G.file))

  write_root : (offset : ℕ) (bytes : List ℕ) (time : ℕ) → WriteGiven s path offset (length bytes) → size_at (write_at s (entry_of is_file s path) offset bytes time) (root_of s) ≡ size_at s (root_of s)
  unfolding entry_of
  write_root offset bytes time G =
      let A = G.there in
      let N = A.named in
      stays s _ S (home s path, A.level) A.home-in (path_slot is_file s path) N.low N.high
      (written-slot s S (home s path, A.level) A.home-in (path_slot is_file s path) N.low N.high N.typed offset bytes time G.room)

  delete-root : file_refusal s path ≡ 0 → size_at (delete_at s (entry_of is_file s path)) (root_of s) ≡ size_at s (root_of s)
  unfolding entry_of
  delete-root r =
      let A = file-at-path s path r in
      let N = A.named in
      stays s _ S (home s path, A.level) A.home-in (path_slot is_file s path) N.low N.high
      (deleted-slot s S (home s path, A.level) A.home-in (path_slot is_file s path) N.low N.high N.typed)

  create-directory-root : (type user group permissions flags time d : ℕ) → create_directory_refusal s path type flags d ≡ 0
      → size_at (create_directory_image s path type user group permissions flags time d) (root_of s) ≡ size_at s (root_of s)
  unfolding create_directory_image new_directory_blocks directory_made
  create-directory-root type user group permissions flags time d r =
      let G = create-directory-given s path type flags d r in
      let l = path-levels path G.good G.deep in
      let w = place-free s path G.placed in
      let i : In (home s path, suc (max_levels - suc (length (leading (parts path))))) (dirs s) = rw l.1 (place-home s path G.placed l.0) in
      rw (place_is s path G.placed)
      (stays s _ S (home s path, suc (max_levels - suc (length (leading (parts path))))) i (free_slot s (directory s (home s path))) w.0 w.1
      (made-slot s S (home s path) (max_levels - suc (length (leading (parts path)))) i (free_slot s (directory s (home s path))) w.0 w.1 w.2 (last_part (parts path)) (path-name path G.good) (place-new s path G.placed)
      type user group permissions flags time G.dir d G.least G.most G.room))

  -- read backwards: where one comes
  delete-directory-root : delete_directory_refusal s path ≡ 0 → length (delete_at s (entry_of is_directory s path)) ≡ length s → size_at (delete_at s (entry_of is_directory s path)) (root_of s) ≡ size_at s (root_of s)
  unfolding delete_directory_refusal directory_refusal entry_of
  delete-directory-root r e =
      let z = first_of-zero (directory_refusal s path) _ r in
      let a = require-zero (path_ok path) 8 _ z.0 in
      let b = require-zero (shallow (parts path)) 16 _ a.1 in
      let f = require-zero (not (eqb (path_slot is_directory s path) 0)) 9 _ b.1 in
      let g = require-zero (is_empty s (first_block s (entry_of is_directory s path))) 17 _ z.1 in
      let ne = eqb-false _ _ (not-true _ f.0) in
      let N = path-named is_directory s path ne in
      let l = path-levels path a.0 b.0 in
      let j : ℕ = max_levels - suc (length (leading (parts path))) in
      let k : ℕ = path_slot is_directory s path in
      let i : In (home s path, suc (max_levels - suc (length (leading (parts path))))) (dirs s) = rw l.1 (path-home is_directory s path ne l.0) in
      let T = removed-sound s S (home s path) j i k N.low N.high N.typed g.0 in
      let m = small_size s S (home s path) j i k N.low N.high N.typed g.0 in
      let q = same-root s (delete_at s (slot_at (directory s (home s path)) (path_slot is_directory s path))) e in
      let y = stays (delete_at s (slot_at (directory s (home s path)) (path_slot is_directory s path))) s T (home s path, suc j) (small-in s S (home s path) j i k N.low N.high N.typed g.0) k N.low
      (rw m N.high) (small_slot s S (home s path) j i k N.low N.high N.typed g.0) in
      sym (rw q at y)

  set-root : (bytes : List ℕ) → set_attributes_refusal s path (length bytes) ≡ 0 → size_at (set_attributes_at s (entry_of is_file s path) bytes) (root_of s) ≡ size_at s (root_of s)
  unfolding entry_of
  set-root bytes r =
      let A = file-at-path s path (set-path s path (length bytes) r) in
      let N = A.named in
      stays s _ S (home s path, A.level) A.home-in (path_slot is_file s path) N.low N.high
      (set-slot s S (home s path, A.level) A.home-in (path_slot is_file s path) N.low N.high N.typed bytes (set_given s path (length bytes) r))

  clear-root : file_refusal s path ≡ 0 → size_at (clear_attributes_at s (entry_of is_file s path)) (root_of s) ≡ size_at s (root_of s)
  unfolding entry_of
  clear-root r =
      let A = file-at-path s path r in
      let N = A.named in
      stays s _ S (home s path, A.level) A.home-in (path_slot is_file s path) N.low N.high
      (cleared-slot s S (home s path, A.level) A.home-in (path_slot is_file s path) N.low N.high N.typed)

  flags-root : file_refusal s path ≡ 0 → size_at (clear_flags_at s (entry_of is_file s path)) (root_of s) ≡ size_at s (root_of s)
  unfolding entry_of
  flags-root r =
      let A = file-at-path s path r in
      let N = A.named in
      stays s _ S (home s path, A.level) A.home-in (path_slot is_file s path) N.low N.high
      (flags-slot s S (home s path, A.level) A.home-in (path_slot is_file s path) N.low N.high N.typed)

  shorten-root : (size time : ℕ) → shorten_refusal s path size ≡ 0 → size_at (shorten_at s (entry_of is_file s path) size time) (root_of s) ≡ size_at s (root_of s)
  unfolding entry_of
  shorten-root size time r =
      let G = shorten-given s path size r in
      let A = file-at-path s path G.there in
      let N = A.named in
      stays s _ S (home s path, A.level) A.home-in (path_slot is_file s path) N.low N.high
      (shortened-slot s S (home s path, A.level) A.home-in (path_slot is_file s path) N.low N.high N.typed size time G.less)

move-root : (s path to : List ℕ) → check s ≡ 0 → move_refusal s path to ≡ 0 → length (without s path) ≡ length s → size_at (move_image s path to) (root_of s) ≡ size_at s (root_of s)
move-root s path to ok r e =
    let G = move-given s path to r in
    let A = arrival s path to ok G in
    let q = same-root s (without s path) e in
    let y = stays (without s path) (move_image s path to) A.rest (home (without s path) to, max_levels - length (leading (parts to))) A.inside (slot_on (without s path) to) A.k₁ A.k₂ A.only in
    (rw q at y) ∙ delete-root s path ok G.from

-- one change after the other; a replace is a shorten and a write
halves : (s path bytes : List ℕ) (k time : ℕ) → check s ≡ 0 → changes.refusal s (shorten path k time) ≡ 0 → changes.refusal (changes.after s (shorten path k time)) (write path 0 bytes time) ≡ 0
    → size_at (changes.after (changes.after s (shorten path k time)) (write path 0 bytes time)) (root_of s) ≡ size_at s (root_of s)
unfolding changes.refusal changes.after
halves s path bytes k time ok r q =
    let t : List ℕ = shorten_at s (entry_of is_file s path) k time in
    let okt : check (shorten_at s (entry_of is_file s path) k time) ≡ 0 = volume.change-sound s ok (shorten path k time) r in
    let e : length (shorten_at s (entry_of is_file s path) k time) ≡ length s = volume.change-length s ok (shorten path k time) r in
    let y = write_root (shorten_at s (entry_of is_file s path) k time) path okt 0 bytes time (write-given (shorten_at s (entry_of is_file s path) k time) path 0 (length bytes) q) in
    (rw (same-root s (shorten_at s (entry_of is_file s path) k time) e) at y) ∙ shorten-root s path ok k time r

plain-root : (s : List ℕ) → check s ≡ 0 → (c : changes.Change) → changes.refusal s c ≡ 0 → size_at (changes.after s c) (root_of s) ≡ size_at s (root_of s)
unfolding changes.refusal changes.after
plain-root s ok (create path type user group permissions flags time) r = create-root s path ok type user group permissions flags time r
plain-root s ok (write path offset bytes time) r = write_root s path ok offset bytes time (write-given s path offset (length bytes) r)
plain-root s ok (delete path) r = delete-root s path ok r
plain-root s ok (create_directory path type user group permissions flags time d) r = create-directory-root s path ok type user group permissions flags time d r
plain-root s ok (delete_directory path) r = delete-directory-root s path ok r (volume.change-length s ok (delete_directory path) r)
plain-root s ok (set_attributes path bytes) r = set-root s path ok bytes r
plain-root s ok (clear_attributes path) r = clear-root s path ok r
plain-root s ok (clear_flags path) r = flags-root s path ok r
plain-root s ok (shorten path size time) r = shorten-root s path ok size time r
plain-root s ok (replace path bytes time) r =
    ap (λ (t : List ℕ). size_at t (root_of s)) (volume.replace-both s ok path bytes time r)
    ∙ halves s path bytes (min (size_of s (entry_of is_file s path)) (length bytes)) time ok (volume.replace-shortens s ok path bytes time r) (volume.replace-writes s ok path bytes time r)
plain-root s ok (move path to) r = move-root s path to ok r (volume.change-length s ok (delete path) (move-given s path to r).from)

-- a put: the file is made where there is none, and written
put-root : (s directory serial : List ℕ) (time : ℕ) (bytes : List ℕ) → check s ≡ 0 → put_refusal s directory serial time bytes ≡ 0 → size_at (put_image s directory serial time bytes) (root_of s) ≡ size_at s (root_of s)
unfolding put_image entry_at
put-root s directory serial time bytes ok r =
    let t : List ℕ = opened s directory serial time in
    let e = opened-length s directory serial time bytes ok r in
    let y = write_root (opened s directory serial time) (path_of directory serial) (opened-sound s directory serial time bytes ok r) 0 (rewritten s directory serial time bytes) time (put-given s directory serial time bytes ok r) in
    (rw (same-root s (opened s directory serial time) e) at y)
    ∙ by-opened s directory serial time bytes ok r (λ x. size_at x (root_of s) ≡ size_at s (root_of s)) (λ q. refl) (λ q c. create-root s (path_of directory serial) ok 0x60 0 0 0 0 time c)

size-kept : (s : List ℕ) → check s ≡ 0 → (c : Change) → refusal s c ≡ 0 → size_at (after s c) (root_of s) ≡ size_at s (root_of s)
unfolding refusal after
size-kept s ok (plain c) r = plain-root s ok c r
size-kept s ok (put_in directory serial time bytes) r = put-root s directory serial time bytes ok r

pub root_kept : (s : List ℕ) → check s ≡ 0 → (c : Change) → refusal s c ≡ 0 → length (root (after s c)) ≡ length (root s)
root_kept s ok c r =
    length-directory (after s c) (root_of (after s c)) ∙ ap (size_at (after s c)) (same-root s (after s c) (change-length s ok c r)) ∙ size-kept s ok c r ∙ sym (length-directory s (root_of s))
