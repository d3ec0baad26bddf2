-- What looking up, reading and looking in place give.
use Prim.Native.Nat.{ℕ, zero, suc, ◌+◌, ◌-◌, ◌*◌, ◌/◌, ◌≤◌, ◌<◌, min}
use mathlib.Core.Bool.{Bool, not, true, false, cond}
use mathlib.Core.List.{List, []}
use mathlib.Core.Logic.{◌⊎◌, inl, inr, ◌≢◌}
use mathlib.Core.Path.{◌≡◌, sym, ap, ◌∙◌, refl}
use native.Mathlib.Decide.{ℕ_discrete}
use native.Mathlib.Omega.{arith}
use lib.Dec.{eqb}
use lib.ListN.{length, get_or, take, drop}
use borrow.Author.Tests.{le-ltb, lt-ltb, eqb-false, not-true}
use Rattle.layout.specs.Bytes.{part, splice}
use Rattle.layout.specs.Directory.{slot_at, size_of, blocks_of, attribute_size_of, is_file, directory, file_blocks, content, attributes}
use Rattle.layout.specs.Limits.{max_blocks, max_levels, max_attributes}
use Rattle.layout.specs.Paths.{parts, path_ok, leading, shallow, home, path_slot, entry_of, file_refusal}
use Rattle.layout.specs.Check.{check}
use Rattle.layout.specs.Looks.{lookup_refusal, read_refusal, read, extent_of, look_in_place, ReadAnswer, read_attributes, VolumeAnswer, EntryAnswer, volume_info, listed_refusal, listed_block, used_slot, no_entry, entry_fields, next_entry}
use Rattle.layout.proofs.Laws.Bytes.{length_part, length-splice, length-take-most, be32-small}
use Rattle.layout.proofs.Laws.Files.{File, attributes-few, file-in, length-file_blocks, file-inside, content-part}
use Rattle.layout.proofs.Laws.Paths.{path-named, path-home}
use Rattle.layout.proofs.Laws.Lists.{get_d-in}
use Rattle.layout.proofs.Laws.Sound.{sound}
use Rattle.layout.proofs.Laws.Tests.{lt-or-ge, require-zero, first_of-zero, accept-refused, accept-same, accept-either}

-- what an accepted path has
module _ (s path : List ℕ) (r : file_refusal s path ≡ 0) where
  pub good-given : path_ok path ≡ true
  unfolding file_refusal
  good-given = (require-zero (path_ok path) 8 _ r).0

  short-given : shallow (leading (parts path)) ≡ true
  unfolding file_refusal
  short-given = (require-zero (shallow (leading (parts path))) 16 _ (require-zero (path_ok path) 8 _ r).1).0

  file-given : path_slot is_file s path ≢ 0
  unfolding file_refusal
  file-given =
      let a = require-zero (path_ok path) 8 _ r in
      let b = require-zero (shallow (leading (parts path))) 16 _ a.1 in
      let c = require-zero (not (eqb (path_slot is_file s path) 0)) 9 _ b.1 in
      eqb-false _ _ (not-true _ c.0)

  pub path-file : check s ≡ 0 → File s (entry_of is_file s path)
  unfolding entry_of
  path-file ok =
      let N = path-named is_file s path file-given in
      file-in s (sound s ok) (home s path, max_levels - length (leading (parts path))) (path-home is_file s path file-given short-given) (path_slot is_file s path) N.low N.high N.typed

-- an accepted look up: the image is sound, and the file is there
module _ (s path : List ℕ) (ok : lookup_refusal s path ≡ 0) where
  pub lookup-sound : check s ≡ 0
  unfolding lookup_refusal
  lookup-sound = (first_of-zero (check s) (file_refusal s path) ok).0

  pub lookup-path : file_refusal s path ≡ 0
  unfolding lookup_refusal
  lookup-path = (first_of-zero (check s) (file_refusal s path) ok).1

  pub lookup-file : File s (entry_of is_file s path)
  lookup-file = path-file s path lookup-path lookup-sound

-- read leaves as long a buffer and fills no more; its count is a number of 32 bits
module _ (s path : List ℕ) (offset : ℕ) (buffer : List ℕ) where
  pub read_count : (read s path offset buffer).count ≤ length buffer
  unfolding read
  read_count =
      let h : min (length buffer) (size_of s (entry_of is_file s path) - offset) ≤ length buffer = omega arith in
      let z : 0 ≤ length buffer = omega arith in
      accept-either (λ (r : ReadAnswer). r.count ≤ length buffer) (read_refusal s path offset) _ _ h z

  pub read_length : length (read s path offset buffer).buffer ≡ length buffer
  unfolding read
  read_length =
      let count : ℕ = min (length buffer) (size_of s (entry_of is_file s path) - offset) in
      let bytes : List ℕ = part (content s (entry_of is_file s path)) offset count in
      let h : length bytes ≤ count = length-take-most count (drop offset (content s (entry_of is_file s path))) in
      accept-either (λ (r : ReadAnswer). length r.buffer ≡ length buffer) (read_refusal s path offset) _ _ (length-splice buffer 0 bytes (omega arith)) refl

  pub count_small : ((i : ℕ) → get_or s i 0 < 256) → (read s path offset buffer).count < 0x100000000
  unfolding read
  count_small f =
      let h : min (length buffer) (size_of s (entry_of is_file s path) - offset) < 0x100000000 = omega (arith, be32-small s (entry_of is_file s path + 8) f) in
      let z : 0 < 0x100000000 = omega arith in
      accept-either (λ (r : ReadAnswer). r.count < 0x100000000) (read_refusal s path offset) _ _ h z

-- and so does reading attributes, at most 8 blocks
module _ (s path buffer : List ℕ) where
  pub attributes-count : (read_attributes s path buffer).count ≤ length buffer
  unfolding read_attributes
  attributes-count =
      let h : 512 * min (attribute_size_of s (entry_of is_file s path)) (length buffer / 512) ≤ length buffer = omega arith in
      let z : 0 ≤ length buffer = omega arith in
      accept-either (λ (r : ReadAnswer). r.count ≤ length buffer) (lookup_refusal s path) _ _ h z

  pub attributes-length : length (read_attributes s path buffer).buffer ≡ length buffer
  unfolding read_attributes
  attributes-length =
      let count : ℕ = 512 * min (attribute_size_of s (entry_of is_file s path)) (length buffer / 512) in
      let bytes : List ℕ = take count (attributes s (entry_of is_file s path)) in
      let h : length bytes ≤ count = length-take-most count (attributes s (entry_of is_file s path)) in
      accept-either (λ (r : ReadAnswer). length r.buffer ≡ length buffer) (lookup_refusal s path) _ _ (length-splice buffer 0 bytes (omega arith)) refl

  pub attributes-small : (read_attributes s path buffer).count ≤ 512 * max_attributes
  unfolding read_attributes
  attributes-small = go (lookup_refusal s path) refl
    where
      go : (r : ℕ) → lookup_refusal s path ≡ r → (read_attributes s path buffer).count ≤ 512 * max_attributes
      go (suc r) q = rw q (omega arith)
      go zero q = let f = attributes-few s (entry_of is_file s path) (lookup-file s path q).fields in rw q (omega arith)

-- look in place: the part of block i of a file, as numbers
module _ (s path : List ℕ) (i : ℕ) where
  pub extent-refused : lookup_refusal s path ≢ 0 → extent_of s path i ≡ record { start = 0; size = 0 }
  unfolding extent_of
  extent-refused h = accept-refused (lookup_refusal s path) _ _ h

  pub extent-past : blocks_of s (entry_of is_file s path) ≤ i → extent_of s path i ≡ record { start = 0; size = 0 }
  unfolding extent_of
  extent-past h = rw (le-ltb i (blocks_of s (entry_of is_file s path)) h) (accept-same (lookup_refusal s path) _)

  pub extent-found : lookup_refusal s path ≡ 0 → i < blocks_of s (entry_of is_file s path)
      → extent_of s path i ≡ record { start = 512 * get_or (file_blocks s (entry_of is_file s path)) i 0; size = min 512 (size_of s (entry_of is_file s path) - 512 * i) }
  unfolding extent_of
  extent-found ok h = rw (ok, lt-ltb i (blocks_of s (entry_of is_file s path)) h)

  -- it lies inside the image
  pub extent-inside : (extent_of s path i).start + (extent_of s path i).size ≤ length s
  extent-inside = go (ℕ_discrete (lookup_refusal s path) 0) (lt-or-ge i (blocks_of s (entry_of is_file s path)))
    where
      go : Dec (lookup_refusal s path ≡ 0) → (i < blocks_of s (entry_of is_file s path)) ⊎ (blocks_of s (entry_of is_file s path) ≤ i)
          → (extent_of s path i).start + (extent_of s path i).size ≤ length s
      go (no r) w = rw (extent-refused r) (omega arith)
      go (yes ok) (inr h) = rw (extent-past h) (omega arith)
      go (yes ok) (inl h) =
          let S = sound s (lookup-sound s path ok) in
          let e = entry_of is_file s path in
          let m = get_d-in (file_blocks s e) i 0 (omega (arith, length-file_blocks s e)) in
          rw (extent-found ok h) (omega (arith, file-inside s S e _ (lookup-file s path ok) m, S.whole))

  -- that part of the file's content
  pub look-content : lookup_refusal s path ≡ 0 → i < blocks_of s (entry_of is_file s path)
      → look_in_place s path i ≡ part (content s (entry_of is_file s path)) (512 * i) (min 512 (size_of s (entry_of is_file s path) - 512 * i))
  unfolding look_in_place
  look-content ok h =
      rw (extent-found ok h)
      (content-part s (sound s (lookup-sound s path ok)) (entry_of is_file s path) (lookup-file s path ok) i (min 512 (size_of s (entry_of is_file s path) - 512 * i)) h (omega arith) (omega arith))

  pub extent-small : (extent_of s path i).start + (extent_of s path i).size ≤ 512 * max_blocks
  extent-small = go (ℕ_discrete (lookup_refusal s path) 0)
    where
      go : Dec (lookup_refusal s path ≡ 0) → (extent_of s path i).start + (extent_of s path i).size ≤ 512 * max_blocks
      go (yes e) = let S = sound s (lookup-sound s path e) in omega (arith, extent-inside, S.whole, S.most)
      go (no e) = rw (extent-refused e) (omega arith)

  pub length-look : length (look_in_place s path i) ≡ (extent_of s path i).size
  unfolding look_in_place
  length-look = length_part s (extent_of s path i).start (extent_of s path i).size extent-inside

  pub look-short : length (look_in_place s path i) ≤ 512
  look-short = go (ℕ_discrete (lookup_refusal s path) 0) (lt-or-ge i (blocks_of s (entry_of is_file s path)))
    where
      go : Dec (lookup_refusal s path ≡ 0) → (i < blocks_of s (entry_of is_file s path)) ⊎ (blocks_of s (entry_of is_file s path) ≤ i) → length (look_in_place s path i) ≤ 512
      go (no r) w = rw (length-look, extent-refused r) (omega arith)
      go (yes ok) (inr h) = rw (length-look, extent-past h) (omega arith)
      go (yes ok) (inl h) = rw (length-look, extent-found ok h) (omega arith)

  -- "It hands back an empty part exactly if it refuses or i is not below the file's blocks."
  pub look-empty : (lookup_refusal s path ≢ 0) ⊎ (blocks_of s (entry_of is_file s path) ≤ i) → look_in_place s path i ≡ []
  unfolding look_in_place
  look-empty (inl r) = rw (extent-refused r)
  look-empty (inr h) = rw (extent-past h)

  pub look-empty-only : look_in_place s path i ≡ [] → (lookup_refusal s path ≢ 0) ⊎ (blocks_of s (entry_of is_file s path) ≤ i)
  look-empty-only e = go (ℕ_discrete (lookup_refusal s path) 0) (lt-or-ge i (blocks_of s (entry_of is_file s path)))
    where
      go : Dec (lookup_refusal s path ≡ 0) → (i < blocks_of s (entry_of is_file s path)) ⊎ (blocks_of s (entry_of is_file s path) ≤ i)
          → (lookup_refusal s path ≢ 0) ⊎ (blocks_of s (entry_of is_file s path) ≤ i)
      go (no r) w = inl r
      go (yes ok) (inr h) = inr h
      go (yes ok) (inl h) =
          let z : 0 ≡ min 512 (size_of s (entry_of is_file s path) - 512 * i) = ap length (sym e) ∙ length-look ∙ rw (extent-found ok h) in
          absurd (omega (arith, (lookup-file s path ok).blocks))

-- the volume's numbers and a directory's entry leave the length of the buffer
module _ (s buffer : List ℕ) where
  length-fitted : (at k : ℕ) → length (splice buffer 0 (part s at (min (length buffer) k))) ≡ length buffer
  length-fitted at k =
      let h = length-take-most (min (length buffer) k) (drop at s) in
      length-splice buffer 0 (part s at (min (length buffer) k)) (omega arith)

  pub volume-length : length (volume_info s buffer).buffer ≡ length buffer
  unfolding volume_info
  volume-length = accept-either (λ (a : VolumeAnswer). length a.buffer ≡ length buffer) (check s) _ _ (length-fitted 112 144) refl

  pub entry_length : (path : List ℕ) (start : ℕ) → length (next_entry s path start buffer).buffer ≡ length buffer
  unfolding next_entry no_entry entry_fields
  entry_length path start =
      let ds : List ℕ = directory s (listed_block s path) in
      let e : ℕ = slot_at ds (used_slot s ds start) in
      accept-either (λ (a : EntryAnswer). length a.buffer ≡ length buffer) (listed_refusal s path) _ _ (either (eqb (used_slot s ds start) 0) _ _ refl (length-fitted (e + 48) 80)) refl
    where
      either : (t : Bool) (a b : EntryAnswer) → length a.buffer ≡ length buffer → length b.buffer ≡ length buffer → length (cond t a b).buffer ≡ length buffer
      either true a b f g = f
      either false a b f g = g
