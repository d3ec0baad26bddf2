-- The looks answer what the path shows; no block has two owners, by paths; and what shows nothing is refused.
use Prim.Native.Nat.{ℕ, ◌+◌, ◌-◌, ◌*◌, ◌/◌, ◌≤◌, ◌<◌, min}
use mathlib.Core.Path.{◌≡◌, refl, sym, ap, ◌∙◌}
use mathlib.Core.Bool.{Bool, true, false, ◌&&◌}
use mathlib.Core.List.{List}
use mathlib.Core.Logic.{◌⊎◌, inl, inr, ⊎_elim, ◌≢◌}
use native.Mathlib.Omega.{arith}
use borrow.Author.Tests.{le-leb, le-ltb}
use lib.ListN.{length, take, length-append, length-take, length-drop}
use lib.Dec.{leb}
use Rattle.layout.specs.Claims.{Untouched}
use Rattle.layout.specs.Limits.{max_data}
use Rattle.volume.specs.Write.{write_refusal}
use Rattle.layout.proofs.Laws.Tests.{require-zero, first_of-zero, lt-or-ge}
use Rattle.layout.specs.Bytes.{part, splice}
use Rattle.layout.specs.Geometry.{block_count}
use Rattle.layout.specs.Directory.{type_of, size_of, blocks_of, is_file, name_of, directory, dirs, file_blocks, attribute_blocks, attributes, content}
use Rattle.layout.specs.Check.{check}
use Rattle.layout.specs.Paths.{path_ok, home, path_slot, entry_of, file_refusal}
use Rattle.layout.specs.Looks.{lookup_refusal, lookup, read_refusal, read, extent_of, look_in_place, read_attributes}
use Rattle.volume.specs.Delete.{all_blocks}
use Rattle.volume.specs.Views.{File, Maybe, nothing, just, file_of, file_at}
use Rattle.volume.proofs.Laws.Places.{At, write-given}
use Rattle.volume.proofs.Laws.Views.{not-nothing, file-shown, shown-accepted}
use Rattle.volume.proofs.Laws.Effects.{OwnKept, content-length, attributes-blocks}
use Rattle.volume.proofs.Laws.Framed.{at_entry}
use Rattle.layout.proofs.Laws.Looks.{lookup-file, look-content}
use Rattle.layout.proofs.Laws.Lists.{In, in-append}
use Rattle.layout.proofs.Laws.Trees.{same-slot-place}
use Rattle.layout.proofs.Laws.Sound.{Sound, Entry, Owner}
use Rattle.layout.proofs.Laws.Owners.{blocks_at, one-owner, second, second-apart, file-blocks, second-blocks, file-no-self, second-no-self, self-entry, self-first, self-size}
use Rattle.layout.proofs.Laws.Ways.{same_home, same-path}
use Rattle.layout.proofs.Laws.Others.{lookup-stays}

-- a file that is shown is the one shown
abbrev pub file_in : File → Maybe File → File
file_in d nothing = d
file_in d (just x) = x

module _ (s path : List ℕ) (ok : check s ≡ 0) (f : File) (shows : file_at s path ≡ just f) where
  accepted : file_refusal s path ≡ 0
  accepted = shown-accepted s path f shows

  is : f ≡ file_of s (entry_of is_file s path)
  is = ap (file_in f) (sym shows ∙ file-shown s path accepted)

  bytes-are : f.bytes ≡ content s (entry_of is_file s path)
  unfolding file_of
  bytes-are = ap (λ (x : File). x.bytes) is

  long : length f.bytes ≡ size_of s (entry_of is_file s path)
  long = ap length bytes-are ∙ content-length s path ok accepted

  pub looked : lookup_refusal s path ≡ 0
  unfolding lookup_refusal
  looked = rw (ok, accepted)

  -- a read at or before the end gives its bytes, as many as there are and the buffer holds
  pub read-shown : (offset : ℕ) (buffer : List ℕ) → offset ≤ length f.bytes
      → read s path offset buffer
      ≡ record { number = 0; count = min (length buffer) (length f.bytes - offset); buffer = splice buffer 0 (part f.bytes offset (min (length buffer) (length f.bytes - offset))) }
  unfolding read read_refusal
  read-shown offset buffer h = rw (looked, le-leb offset (size_of s (entry_of is_file s path)) (omega (arith, long)), long, bytes-are)

  -- a read of its attributes gives their bytes, as many whole blocks as there are and the buffer holds
  pub attributes-read : (buffer : List ℕ) → read_attributes s path buffer
      ≡ record { number = 0; count = 512 * min (length f.attributes / 512) (length buffer / 512); buffer = splice buffer 0 (take (512 * min (length f.attributes / 512) (length buffer / 512)) f.attributes) }
  unfolding read_attributes file_of
  attributes-read buffer =
      let a : f.attributes ≡ attributes s (entry_of is_file s path) = ap (λ (x : File). x.attributes) is in
      let l = ap (λ (x : List ℕ). length x / 512) a ∙ attributes-blocks s path ok accepted in
      rw (looked, l, a)

  -- a look in place at a block of it gives the block's bytes, up to its end
  pub look-shown : (i : ℕ) → 512 * i < length f.bytes → look_in_place s path i ≡ part f.bytes (512 * i) (min 512 (length f.bytes - 512 * i))
  look-shown i h = let b = (lookup-file s path looked).blocks in rw (long, bytes-are) (look-content s path i looked (omega (arith, long)))

-- what shows no file is refused
pub not-shown : (s path : List ℕ) → file_at s path ≡ nothing → file_refusal s path ≢ 0
not-shown s path q z = not-nothing (file_of s (entry_of is_file s path)) (sym (file-shown s path z) ∙ q)

-- data put at an offset within a list reaches to its end
pub splice-long : (s : List ℕ) (at : ℕ) (p : List ℕ) → at ≤ length s → at + length p ≤ length (splice s at p)
unfolding splice
splice-long s at p h = simp (length-append, length-take, length-drop) (omega arith)

-- an accepted write: its path is accepted, and the offset is within the bytes shown
pub write-path : (s path : List ℕ) → check s ≡ 0 → (offset count : ℕ) → write_refusal s path offset count ≡ 0 → (file_refusal s path ≡ 0) × (offset ≤ length (file_of s (entry_of is_file s path)).bytes)
unfolding write_refusal file_of
write-path s path ok offset count r =
    let q = (first_of-zero (file_refusal s path) _ (require-zero (leb count max_data && path_ok path) 8 _ r).1).0 in
    let g = (write-given s path offset count r).within-size in
    let l = content-length s path ok q in
    (q, omega arith)

-- OTHER PATHS: look up answers the same, the slot too
module _ (s s' other : List ℕ) (ok : check s ≡ 0) (ok' : check s' ≡ 0) (U : path_ok other ≡ true → Untouched s s' other) where
  pub lookup-kept : lookup s' other ≡ lookup s other
  unfolding lookup lookup_refusal file_refusal
  lookup-kept = go (path_ok other) refl
    where
      go : (t : Bool) → path_ok other ≡ t → lookup s' other ≡ lookup s other
      go true e = lookup-stays s s' other ok ok' (U e)
      go false e = rw (ok, ok', e)

-- THE PATH OF A SET OR CLEAR: every answer but that on its attributes stays
module _ (s s' path : List ℕ) (ok : check s ≡ 0) (ok' : check s' ≡ 0) (r : file_refusal s path ≡ 0) (W : OwnKept s s' path) where
  still-accepted : file_refusal s' path ≡ 0
  unfolding file_refusal
  still-accepted = rw W.slot r

  pub own-lookup : lookup s' path ≡ lookup s path
  unfolding lookup lookup_refusal
  own-lookup = rw (ok, ok', still-accepted, r, W.entry, W.slot, W.size, W.blocks)

  pub own_read : (offset : ℕ) (buffer : List ℕ) → read s' path offset buffer ≡ read s path offset buffer
  unfolding read read_refusal lookup_refusal
  own_read offset buffer = rw (ok, ok', still-accepted, r, W.entry, W.size, W.contents)

  pub own-look : (i : ℕ) → look_in_place s' path i ≡ look_in_place s path i
  unfolding look_in_place extent_of lookup_refusal
  own-look i = go (lt-or-ge i (blocks_of s (entry_of is_file s path)))
    where
      l : lookup_refusal s path ≡ 0
      l = rw (ok, r)

      l' : lookup_refusal s' path ≡ 0
      l' = rw (ok', still-accepted)

      count : blocks_of s' (entry_of is_file s' path) ≡ blocks_of s (entry_of is_file s path)
      count = rw W.entry W.blocks

      go : (i < blocks_of s (entry_of is_file s path)) ⊎ (blocks_of s (entry_of is_file s path) ≤ i) → look_in_place s' path i ≡ look_in_place s path i
      go (inl h) = look-content s' path i l' (omega (arith, count)) ∙ rw (W.entry, W.size, W.contents) (sym (look-content s path i l h))
      go (inr h) = rw (l, l', count, le-ltb i (blocks_of s (entry_of is_file s path)) h)

-- OWNERS, by paths
module _ (s : List ℕ) (S : Sound s) where
  n : ℕ
  n = block_count s

  -- one entry is of one path
  one-path : (type : ℕ → Bool) (path other : List ℕ) → At type s path → At type s other → entry_of type s path ≡ entry_of type s other → path ≡ other
  unfolding entry_of
  one-path type path other A B q =
      let g = A.named.high in
      let h = B.named.high in
      let p = same-slot-place s (block_count s) S.tree S.least (home s path, A.level) (home s other, B.level) A.home-in B.home-in (path_slot type s path) (path_slot type s other) (omega arith) (omega arith) q in
      same-path path other A.good B.good (same_home s S path other A.short B.short A.there (ap (λ (w : ℕ × ℕ). w.0) p.0))
      (sym A.named.named ∙ ap (name_of s) q ∙ B.named.named)

  file_type : (path : List ℕ) → At is_file s path → is_file (type_of s (entry_of is_file s path)) ≡ true
  unfolding entry_of
  file_type path A = A.named.typed

  -- a block of a file is of its own chain or of its attributes'
  record Owned (path : List ℕ) (b : ℕ) : Type 0 where
    at : ℕ
    owner : Owner s at
    holds : In b (blocks_at s at)
    place : (at ≡ entry_of is_file s path) ⊎ (at ≡ entry_of is_file s path + 28)

  module _ (path : List ℕ) (A : At is_file s path) where
    abbrev e : ℕ
    e = entry_of is_file s path

    entry : Entry s e
    entry = at_entry s S is_file path A

    in-own : (b : ℕ) → In b (file_blocks s e) → In b (blocks_at s e)
    in-own b i = rw (file-blocks s S e entry (file_type path A)) i

    in-second : (b : ℕ) → In b (attribute_blocks s e) → In b (blocks_at s (e + 28))
    in-second b i = rw (second-blocks s S e entry (file_type path A)) i

    owned : (b : ℕ) → In b (all_blocks s e) → Owned path b
    unfolding all_blocks
    owned b m =
        ⊎_elim (λ i. record { at = e; owner = inl entry; holds = in-own b i; place = inl refl })
        (λ i. record { at = e + 28; owner = second s S e entry (file_type path A); holds = in-second b i; place = inr refl }) (in-append b (file_blocks s e) (attribute_blocks s e) m)

  pub chains-apart : (path : List ℕ) → At is_file s path → (b : ℕ) → In b (file_blocks s (entry_of is_file s path)) → In b (attribute_blocks s (entry_of is_file s path)) → ⊥
  chains-apart path A b i j = second-apart s S (entry_of is_file s path) (entry path A) (file_type path A) b j i

  directory-owns : (d : ℕ × ℕ) → In d (dirs s) → blocks_at s (512 * d.0) ≡ directory s d.0
  unfolding directory
  directory-owns d i = rw (self-first s S d i, self-size s S d i)

  pub file-owner : (path other : List ℕ) → At is_file s path → At is_file s other → (b : ℕ) → In b (all_blocks s (entry_of is_file s path)) → In b (all_blocks s (entry_of is_file s other)) → path ≡ other
  file-owner path other A B b i j =
      let O = owned path A b i in
      let P = owned other B b j in
      let q : O.at ≡ P.at = one-owner s S b O.at P.at O.owner P.owner O.holds P.holds in
      let l = (entry path A).aligned in
      let m = (entry other B).aligned in
      one-path is_file path other A B (⊎_elim (λ x. ⊎_elim (λ y. omega arith) (λ y. omega arith) P.place) (λ x. ⊎_elim (λ y. omega arith) (λ y. omega arith) P.place) O.place)

  pub directory-apart : (path : List ℕ) → At is_file s path → (d : ℕ × ℕ) → In d (dirs s) → (b : ℕ) → In b (all_blocks s (entry_of is_file s path)) → In b (directory s d.0) → ⊥
  directory-apart path A d i b m k =
      let O = owned path A b m in
      let q : O.at ≡ 512 * d.0 = one-owner s S b O.at (512 * d.0) O.owner (inl (self-entry s S d i)) O.holds (rw (directory-owns d i) k) in
      ⊎_elim (λ x. file-no-self s S (e path A) (entry path A) (file_type path A) d i (sym x ∙ q)) (λ x. second-no-self s S (e path A) (entry path A) (file_type path A) d i (sym x ∙ q)) O.place

  pub directory-owner : (d d' : ℕ × ℕ) → In d (dirs s) → In d' (dirs s) → (b : ℕ) → In b (directory s d.0) → In b (directory s d'.0) → d.0 ≡ d'.0
  directory-owner d d' i i' b m k =
      let q = one-owner s S b (512 * d.0) (512 * d'.0) (inl (self-entry s S d i)) (inl (self-entry s S d' i')) (rw (directory-owns d i) m) (rw (directory-owns d' i') k) in
      omega arith
