-- Data whose end stands in its place already: putting its front leaves what putting all of it leaves.
use Prim.Native.Nat.{ℕ, ◌+◌, ◌-◌, ◌*◌, ◌≤◌, ◌<◌, max, min}
use mathlib.Core.Path.{◌≡◌, refl, sym, ap, ◌∙◌}
use mathlib.Core.Bool.{true}
use mathlib.Core.List.{List, [], ◌∷◌, ◌++◌, append-nil}
use mathlib.Core.Logic.{◌⊎◌, inl, inr}
use native.Mathlib.Omega.{arith}
use lib.ListN.{length, get_or, take, drop, length-take, length-drop, take-append-drop, get_or-append}
use lib.Seq.{get_or-append-add, get_or-take, get_or-drop}
use lib.Dec.{eqb}
use Rattle.layout.specs.Bytes.{block, splice}
use Rattle.layout.specs.Lists.{joined, distinct}
use Rattle.layout.specs.Geometry.{block_count, blocks_for}
use Rattle.layout.specs.Table.{next, free_blocks}
use Rattle.layout.specs.Directory.{slot_at, type_of, first_block, size_of, blocks_of, is_file, directory, file_blocks, content}
use Rattle.layout.specs.Check.{check}
use Rattle.layout.specs.Paths.{home, path_slot, entry_of, file_refusal}
use Rattle.volume.specs.Entries.{grown}
use Rattle.volume.specs.Write.{new_size, needed, new_blocks, put, set_file, write_at}
use Rattle.layout.proofs.Laws.Tests.{lt-or-ge}
use Rattle.layout.proofs.Laws.Lists.{In}
use Rattle.layout.proofs.Laws.Bytes.{length-block, get_d_part, length-take-most, splice-nil, get_d-splice-after}
use Rattle.layout.proofs.Laws.Splices.{splice-same}
use Rattle.layout.proofs.Laws.Chains.{chain_ok-split, chain-distinct}
use Rattle.layout.proofs.Laws.Sound.{Sound, Entry, sound}
use Rattle.layout.proofs.Laws.Slots.{slot-entry}
use Rattle.layout.proofs.Laws.Files.{File, file-in, length-blocks, length-file_blocks, length-content}
use Rattle.layout.proofs.Laws.Owners.{file-below}
use Rattle.volume.proofs.Laws.Frame.{put-length}
use Rattle.volume.proofs.Laws.Data.{joined-put}
use Rattle.volume.proofs.Laws.Places.{At, file-at-path}
use Rattle.volume.proofs.Laws.Puts.{put-joined}

-- data that stands along the blocks already
pub put-own : (bs s : List ℕ) (o : ℕ) (y : List ℕ) → ((q : ℕ) → In q bs → 512 * q + 512 ≤ length s) → o + length y ≤ 512 * length bs
    → ((i : ℕ) → i < length y → get_or (joined (block s) bs) (o + i) 0 ≡ get_or y i 0) → put s bs o y ≡ s
unfolding put
put-own [] s o y h fit same = refl
put-own (b ∷ bs) s o y h fit same =
    ap (λ (u : List ℕ). put u bs (o - 512) (drop (512 - o) y)) first
    ∙ put-own bs s (o - 512) (drop (512 - o) y) (λ q i. h q (inr i)) (omega (arith, length-drop (512 - o) y)) rest
  where
    lb : length (block s b) ≡ 512
    lb = length-block s b (h b (inl refl))

    first : splice s (512 * b + o) (take (512 - o) y) ≡ s
    first = go (lt-or-ge o 512)
      where
        go : (o < 512) ⊎ (512 ≤ o) → splice s (512 * b + o) (take (512 - o) y) ≡ s
        go (inr g) = let z : 512 - o ≡ 0 = omega arith in rw (z, splice-nil s (512 * b + o))
        go (inl g) =
            let l : length (take (512 - o) y) ≤ 512 - o = length-take-most (512 - o) y in
            let m = length-take (512 - o) y in
            splice-same s (512 * b + o) (take (512 - o) y) (omega (arith, h b (inl refl)))
            (λ i k. let a : 512 * b + o + i ≡ 512 * b + (o + i) = omega arith in
            ap (λ (x : ℕ). get_or s x 0) a ∙ sym (get_d_part s (512 * b) 512 (o + i) (omega arith))
            ∙ sym (get_or-append (block s b) (joined (block s) bs) 0 (o + i) (omega (arith, lb)))
            ∙ same i (omega arith) ∙ sym (get_or-take (512 - o) y i 0 (omega arith)))

    rest : (i : ℕ) → i < length (drop (512 - o) y) → get_or (joined (block s) bs) (o - 512 + i) 0 ≡ get_or (drop (512 - o) y) i 0
    rest i k =
        let l = length-drop (512 - o) y in
        let a : o + (512 - o + i) ≡ length (block s b) + (o - 512 + i) = omega (arith, lb) in
        sym (get_or-append-add (block s b) (joined (block s) bs) (o - 512 + i) 0) ∙ ap (λ (x : ℕ). get_or (block s b ++ joined (block s) bs) x 0) (sym a)
        ∙ same (512 - o + i) (omega arith) ∙ sym (get_or-drop (512 - o) y i 0)

module _ (n : ℕ) (n₁ : 3 ≤ n) where
  pub put_front : (bs s : List ℕ) (o : ℕ) (x y : List ℕ) → length s ≡ 512 * n → ((q : ℕ) → In q bs → q < n) → distinct eqb bs ≡ true → o + length x + length y ≤ 512 * length bs
      → ((i : ℕ) → i < length y → get_or (joined (block s) bs) (o + length x + i) 0 ≡ get_or y i 0) → put s bs o (x ++ y) ≡ put s bs o x
  put_front bs s o x y len h d fit same =
      let u : List ℕ = put s bs o x in
      let lu : length u ≡ 512 * n = put-length n n₁ bs s o x len h in
      let lj : length (joined (block s) bs) ≡ 512 * length bs = length-blocks s bs (λ q i. omega (arith, h q i)) in
      sym (put-joined n bs s o x y len h)
      ∙ put-own bs u (o + length x) y (λ q i. omega (arith, h q i)) fit
      (λ i k. ap (λ (l : List ℕ). get_or l (o + length x + i) 0) (joined-put n n₁ bs s o x len h d (omega arith))
      ∙ get_d-splice-after (joined (block s) bs) o x (omega arith) (o + length x + i) (omega arith) ∙ same i k)

-- A write at 0 to the file of a path, of no more bytes than it has, and one of their front where the others stand already.
module _ (s path : List ℕ) (ok : check s ≡ 0) (r : file_refusal s path ≡ 0) where
  abbrev n : ℕ
  n = block_count s

  abbrev e : ℕ
  e = slot_at (directory s (home s path)) (path_slot is_file s path)

  abbrev old : List ℕ
  old = file_blocks s e

  S : Sound s
  S = sound s ok

  A : At is_file s path
  A = file-at-path s path r

  file : is_file (type_of s e) ≡ true
  file = A.named.typed

  E : Entry s e
  E = let h = A.named.high in slot-entry s S (home s path, A.level) A.home-in (path_slot is_file s path) (omega arith)

  F : File s e
  F = file-in s S (home s path, A.level) A.home-in (path_slot is_file s path) A.named.low A.named.high file

  once : distinct eqb old ≡ true
  unfolding file_blocks
  once = chain-distinct (next s) n (first_block s e) (blocks_of s e) (chain_ok-split (next s) n (first_block s e) (blocks_of s e) F.chained) S.least

  none-new : (count : ℕ) → count ≤ size_of s e → new_blocks s e 0 count ≡ []
  unfolding new_blocks needed new_size
  none-new count h =
      let z : blocks_for (max (size_of s e) (0 + count)) - blocks_of s e ≡ 0 = omega (arith, F.blocks) in
      ap (λ (k : ℕ). take k (free_blocks (next s) n)) z

  size-kept : (count : ℕ) → count ≤ size_of s e → new_size s e 0 count ≡ size_of s e
  unfolding new_size
  size-kept count h = omega arith

  write-short : (bytes : List ℕ) (time : ℕ) → length bytes ≤ size_of s e → write_at s e 0 bytes time ≡ set_file (put s old 0 bytes) e (get_or old 0 0) (size_of s e) (length old) time
  unfolding write_at grown
  write-short bytes time h = rw (none-new (length bytes) h, size-kept (length bytes) h, append-nil old)

  stands : (w : List ℕ) (k i : ℕ) → drop k w ≡ drop k (content s e) → length (take k w) ≡ k → k + i < size_of s e → get_or (joined (block s) old) (0 + length (take k w) + i) 0 ≡ get_or (drop k w) i 0
  unfolding content
  stands w k i end long h =
      let a : 0 + length (take k w) + i ≡ k + i = omega arith in
      ap (λ (j : ℕ). get_or (joined (block s) old) j 0) a ∙ sym (get_or-take (size_of s e) (joined (block s) old) (k + i) 0 h)
      ∙ sym (get_or-drop k (take (size_of s e) (joined (block s) old)) i 0) ∙ ap (λ (l : List ℕ). get_or l i 0) (sym end)

  fronts : (w : List ℕ) (k time : ℕ) → length w ≡ size_of s e → drop k w ≡ drop k (content s e) → write_at s e 0 (take k w) time ≡ write_at s e 0 w time
  fronts w k time len end =
      let x : List ℕ = take k w in
      let y : List ℕ = drop k w in
      let lx : length x ≡ min k (length w) = length-take k w in
      let ly : length y ≡ length w - k = length-drop k w in
      let lo : length old ≡ blocks_of s e = length-file_blocks s e in
      let lc : length (content s e) ≡ size_of s e = length-content s S e F in
      let p : put s old 0 (take k w ++ drop k w) ≡ put s old 0 (take k w) =
      put_front n S.least old s 0 x y S.whole (file-below s S e E file) once (omega (arith, F.blocks)) (λ i h. stands w k i end (omega arith) (omega arith)) in
      let q : put s old 0 w ≡ put s old 0 (take k w) = ap (put s old 0) (sym (take-append-drop k w)) ∙ p in
      write-short (take k w) time (omega arith) ∙ ap (λ (u : List ℕ). set_file u e (get_or old 0 0) (size_of s e) (length old) time) (sym q) ∙ sym (write-short w time (omega arith))

  pub write-front : (w : List ℕ) (k time : ℕ) → length w ≡ size_of s (entry_of is_file s path) → drop k w ≡ drop k (content s (entry_of is_file s path))
      → write_at s (entry_of is_file s path) 0 (take k w) time ≡ write_at s (entry_of is_file s path) 0 w time
  unfolding entry_of
  write-front = fronts
