-- Which blocks each step of a change writes to: blocks freed, taken, data put.
use Prim.Native.Nat.{ℕ, ◌+◌, ◌*◌, ◌/◌, ◌≤◌, ◌<◌, ◌-◌, zero, suc, ◌%◌, max}
use mathlib.Core.Path.{◌≡◌, refl, sym, ◌∙◌, subst}
use mathlib.Core.List.{List, [], ◌∷◌, ◌++◌}
use mathlib.Core.Logic.{inl, inr, ⊎_elim, ◌⊎◌}
use native.Mathlib.Omega.{arith}
use lib.Seq.{take-nil, drop-nil}
use lib.ListN.{length, drop, length-drop, length-append, take}
use Rattle.layout.specs.Bytes.{splice, be32, bytes4, zeros}
use Rattle.layout.specs.Table.{set_next, table_block_of}
use Rattle.layout.specs.Geometry.{blocks_for, table_blocks}
use Rattle.volume.specs.Entries.{set_occupied, freed, released, entries_named, blocks_named, linked, taken, grown}
use Rattle.volume.specs.Write.{put, written, changed_entries}
use Rattle.layout.proofs.Laws.Bytes.{length-take-most, length-bytes4, length-zeros, splice-nil}
use Rattle.layout.proofs.Laws.Lists.{In, in_left, in_right, in-append, in_take, in-drop, in_some, in-part, in_map, map-in, in-single}
use Rattle.layout.proofs.Laws.Tests.{lt-or-ge}
use Rattle.layout.proofs.Laws.Frames.{Agree, agree_refl, agree-more, agree_then, splice-agree, set-next-agree}

-- the blocks that changed entries name: block 0 and the table block of each entry
pub entries-table : (xs : List ℕ) (x : ℕ) → In x xs → In (table_block_of x) (entries_named xs)
unfolding entries_named
entries-table [] x i = elim i [ ]
entries-table (y ∷ xs) x i = inr (in_map table_block_of x (y ∷ xs) i)

pub entries-zero : (xs : List ℕ) (x : ℕ) → In x xs → In 0 (entries_named xs)
unfolding entries_named
entries-zero [] x i = elim i [ ]
entries-zero (y ∷ xs) x i = inl refl

pub entries-of : (xs : List ℕ) (b : ℕ) → In b (entries_named xs) → (x : ℕ) × In x xs × ((b ≡ 0) ⊎ (b ≡ table_block_of x))
unfolding entries_named
entries-of [] b x' = elim x' [ ]
entries-of (y ∷ xs) b (inl e) = (y, inl refl, inl e)
entries-of (y ∷ xs) b (inr i) = let r = map-in table_block_of b (y ∷ xs) i in (r.0, r.1, inr r.2)

pub entries-more : (xs ys : List ℕ) → ((x : ℕ) → In x xs → In x ys) → (b : ℕ) → In b (entries_named xs) → In b (entries_named ys)
entries-more xs ys f b i =
    let r = entries-of xs b i in
    ⊎_elim (λ e. subst (λ (z : ℕ). In z (entries_named ys)) (sym e) (entries-zero ys r.0 (f r.0 r.1)))
    (λ e. subst (λ (z : ℕ). In z (entries_named ys)) (sym e) (entries-table ys r.0 (f r.0 r.1))) r.2

pub entries-low : (n : ℕ) (xs : List ℕ) → ((x : ℕ) → In x xs → x < n) → (b : ℕ) → In b (entries_named xs) → b ≤ table_blocks n
entries-low n xs h b i = let r = entries-of xs b i in ⊎_elim (λ e. omega arith) (λ e. omega (arith, h r.0 r.1)) r.2

-- the blocks that freed and new blocks name: themselves, block 0 and the table block of each entry
pub blocks-in : (xs : List ℕ) (b : ℕ) → In b xs → In b (blocks_named xs)
unfolding blocks_named
blocks-in xs b i = in_left b xs (entries_named xs) i

pub blocks-of : (xs : List ℕ) (b : ℕ) → In b (blocks_named xs) → In b xs ⊎ In b (entries_named xs)
unfolding blocks_named
blocks-of xs b i = in-append b xs (entries_named xs) i

pub blocks-entries : (xs : List ℕ) (b : ℕ) → In b (entries_named xs) → In b (blocks_named xs)
unfolding blocks_named
blocks-entries xs b i = in_right b xs (entries_named xs) i

pub blocks_more : (xs ys : List ℕ) → ((x : ℕ) → In x xs → In x ys) → (b : ℕ) → In b (blocks_named xs) → In b (blocks_named ys)
blocks_more xs ys f b i = ⊎_elim (λ j. blocks-in ys b (f b j)) (λ j. blocks-entries ys b (entries-more xs ys f b j)) (blocks-of xs b i)

-- of blocks below n they are below n; and a block behind the table that is none of them is not named
module _ (n : ℕ) (xs : List ℕ) (h : (x : ℕ) → In x xs → x < n) where
  pub blocks-below : 3 ≤ n → (b : ℕ) → In b (blocks_named xs) → b < n
  blocks-below n₁ b i = ⊎_elim (h b) (λ j. omega (arith, entries-low n xs h b j)) (blocks-of xs b i)

  pub blocks-not : (b : ℕ) → table_blocks n < b → (In b xs → ⊥) → In b (blocks_named xs) → ⊥
  blocks-not b t f i = ⊎_elim f (λ j. omega (arith, entries-low n xs h b j)) (blocks-of xs b i)

-- the entries that change: of the blocks taken, and of the block before them
pub changed-first : (xs : List ℕ) → changed_entries 0 xs ≡ xs
unfolding changed_entries
changed-first [] = refl
changed-first (x ∷ xs) = refl

pub changed-new : (last : ℕ) (xs : List ℕ) (x : ℕ) → In x xs → In x (changed_entries last xs)
unfolding changed_entries
changed-new zero [] x i = elim i [ ]
changed-new (suc last) [] x i = elim i [ ]
changed-new zero (y ∷ xs) x i = i
changed-new (suc last) (y ∷ xs) x i = inr i

pub changed-of : (last : ℕ) (xs : List ℕ) (x : ℕ) → In x (changed_entries last xs) → ((x ≡ last) × (0 < last)) ⊎ In x xs
unfolding changed_entries
changed-of zero [] x i = elim i [ ]
changed-of (suc last) [] x i = elim i [ ]
changed-of zero (y ∷ xs) x i = inr i
changed-of (suc last) (y ∷ xs) x (inl e) = inl (e, omega arith)
changed-of (suc last) (y ∷ xs) x (inr i) = inr i

changed-more : (last y : ℕ) (xs : List ℕ) (x : ℕ) → In x (changed_entries last (y ∷ [])) → In x (changed_entries last (y ∷ xs))
unfolding changed_entries
changed-more zero y xs x (inr x4) = elim x4 [ ]
changed-more (suc last) y xs x (inr (inr x6)) = elim x6 [ ]
changed-more zero y xs x (inl e) = inl e
changed-more (suc last) y xs x (inl e) = inl e
changed-more (suc last) y xs x (inr (inl e)) = inr (inl e)

pub changed-below : (n last : ℕ) (xs : List ℕ) → last < n → ((x : ℕ) → In x xs → x < n) → (x : ℕ) → In x (changed_entries last xs) → x < n
changed-below n last xs h f x i = ⊎_elim (λ e. rw e.0 h) (λ j. f x j) (changed-of last xs x i)

-- the blocks that hold a written byte, block by block
written-far : (b : ℕ) (bs : List ℕ) (offset count : ℕ) → 512 ≤ offset → written (b ∷ bs) offset count ≡ written bs (offset - 512) count
unfolding written
written-far b bs offset zero h = refl
written-far b bs offset (suc c) h =
    let d : offset / 512 ≡ suc ((offset - 512) / 512) = omega arith in
    let m : offset % 512 ≡ (offset - 512) % 512 = omega arith in
    rw (d, m)

written_from : (b : ℕ) (bs : List ℕ) (offset c y : ℕ) → offset < 512 → suc c - (512 - offset) ≡ y → written (b ∷ bs) offset (suc c) ≡ b ∷ written bs (offset - 512) y
unfolding written
written_from b bs offset c zero h e =
    let d : offset / 512 ≡ 0 = omega arith in
    let k : blocks_for (offset % 512 + suc c) ≡ suc ((offset + c) / 512) = omega arith in
    let w : (offset + c) / 512 ≡ 0 = omega arith in
    rw (d, k, w)
written_from b bs offset c (suc y) h e =
    let d : offset / 512 ≡ 0 = omega arith in
    let k : blocks_for (offset % 512 + suc c) ≡ suc ((offset + c) / 512) = omega arith in
    let o : (offset - 512) / 512 ≡ 0 = omega arith in
    let w : blocks_for ((offset - 512) % 512 + suc y) ≡ (offset + c) / 512 = omega arith in
    rw (d, k, o, w)

written-here : (b : ℕ) (bs : List ℕ) (offset c : ℕ) → offset < 512 → written (b ∷ bs) offset (suc c) ≡ b ∷ written bs (offset - 512) (suc c - (512 - offset))
written-here b bs offset c h = written_from b bs offset c (suc c - (512 - offset)) h refl

written_none : (bs : List ℕ) (offset : ℕ) → written bs offset 0 ≡ []
unfolding written
written_none bs offset = refl

-- blocks at the end, up to the last byte written
written_all : (x : ℕ) (xs ys : List ℕ) (offset c : ℕ) → offset / 512 ≤ length xs → length xs + length ys ≤ blocks_for (offset + suc c) → In x ys
    → In x (written (xs ++ ys) offset (suc c))
unfolding written
written_all x xs ys offset c h k i = in-part xs ys (offset / 512) (blocks_for (offset % 512 + suc c)) x h (omega arith) i

-- the blocks that a write takes all hold a written byte
pub taken-written : (xs ys : List ℕ) (size offset count x : ℕ) → length xs ≡ blocks_for size → length ys ≡ blocks_for (max size (offset + count)) - blocks_for size → offset ≤ size
    → In x ys → In x (written (xs ++ ys) offset count)
taken-written xs ys size offset zero x p q h i = absurd (omega (arith, in_some x ys i))
taken-written xs ys size offset (suc c) x p q h i = written_all x xs ys offset c (omega arith) (omega (arith, in_some x ys i)) i

pub written_in : (bs : List ℕ) (offset count x : ℕ) → In x (written bs offset count) → In x bs
unfolding written
written_in bs offset zero x i = elim i [ ]
written_in bs offset (suc c) x i = in-drop x (offset / 512) bs (in_take x (blocks_for (offset % 512 + suc c)) (drop (offset / 512) bs) i)

-- what each step of a change writes, in an image of n blocks
module _ (n : ℕ) (n₁ : 3 ≤ n) where
  set-occupied-agree : (s : List ℕ) (u : ℕ) → length s ≡ 512 * n → Agree s (set_occupied s n u) (0 ∷ [])
  unfolding set_occupied
  set-occupied-agree s u len =
      let l : length (bytes4 u ++ bytes4 (n - u)) ≡ 8 = simp (length-append, length-bytes4) in
      splice-agree s 0 20 (bytes4 u ++ bytes4 (n - u)) (omega arith) (omega arith) (omega arith)

  -- blocks freed
  freed-agree : (s : List ℕ) (b : ℕ) → length s ≡ 512 * n → b < n → Agree s (freed s n b) (blocks_named (b ∷ []))
  unfolding freed blocks_named entries_named
  freed-agree s b len h =
      let u = splice s (512 * b) (zeros 512) in
      let lz : length (zeros 512) ≡ 512 = length-zeros 512 in
      let zeroed = splice-agree s b (512 * b) (zeros 512) (omega arith) (omega arith) (omega arith) in
      let a = set-next-agree u b 0 (omega (arith, zeroed.size)) in
      let ns : List ℕ = b ∷ 0 ∷ table_block_of b ∷ [] in
      let counted = set-occupied-agree (set_next u b 0) (be32 s 20 - 1) (a.size ∙ zeroed.size ∙ len) in
      let rest : Agree u (freed s n b) ns = agree_then a counted (in-single (table_block_of b) ns (inr (inr (inl refl)))) (in-single 0 ns (inr (inl refl))) in
      agree_then zeroed rest (in-single b ns (inl refl)) (λ x i. i)

  pub released-agree : (bs s : List ℕ) → length s ≡ 512 * n → ((x : ℕ) → In x bs → x < n) → Agree s (released s n bs) (blocks_named bs)
  unfolding released
  released-agree [] s len h = agree_refl s (blocks_named [])
  released-agree (b ∷ bs) s len h =
      let a = freed-agree s b len (h b (inl refl)) in
      agree_then a (released-agree bs (freed s n b) (a.size ∙ len) (λ x i. h x (inr i)))
      (blocks_more (b ∷ []) (b ∷ bs) (in-single b (b ∷ bs) (inl refl))) (blocks_more bs (b ∷ bs) (λ x i. inr i))

  -- blocks taken
  linked-agree : (s : List ℕ) (a b : ℕ) → length s ≡ 512 * n → a < n → Agree s (linked s a b) (entries_named (changed_entries a (b ∷ [])))
  unfolding linked changed_entries entries_named
  linked-agree s zero b len h = agree_refl s _
  linked-agree s (suc a) b len h = agree-more (set-next-agree s (suc a) b (omega arith)) (in-single (table_block_of (suc a)) (entries_named (suc a ∷ b ∷ [])) (entries-table (suc a ∷ b ∷ []) (suc a) (inl refl)))

  taken-agree : (s : List ℕ) (a b : ℕ) → length s ≡ 512 * n → a < n → b < n → Agree s (taken s n a b) (b ∷ entries_named (changed_entries a (b ∷ [])))
  unfolding taken
  taken-agree s a b len an bn =
      let ns : List ℕ = changed_entries a (b ∷ []) in
      let b-in : In b ns = changed-new a (b ∷ []) b (inl refl) in
      let u = splice s (512 * b) (zeros 512) in
      let v = set_next u b 1 in
      let lz : length (zeros 512) ≡ 512 = length-zeros 512 in
      let zeroed = splice-agree s b (512 * b) (zeros 512) (omega arith) (omega arith) (omega arith) in
      let ended = set-next-agree u b 1 (omega (arith, zeroed.size)) in
      let joined = linked-agree v a b (ended.size ∙ zeroed.size ∙ len) an in
      let counted = set-occupied-agree (linked v a b) (be32 s 20 + 1) (joined.size ∙ ended.size ∙ zeroed.size ∙ len) in
      let linking : Agree v (taken s n a b) (entries_named ns) = agree_then joined counted (λ x i. i) (in-single 0 (entries_named ns) (entries-zero ns b b-in)) in
      let rest : Agree u (taken s n a b) (entries_named ns) = agree_then ended linking (in-single (table_block_of b) (entries_named ns) (entries-table ns b b-in)) (λ x i. i) in
      agree_then zeroed rest (in-single b (b ∷ entries_named ns) (inl refl)) (λ x i. inr i)

  pub grown-agree : (bs s : List ℕ) (a : ℕ) → length s ≡ 512 * n → a < n → ((x : ℕ) → In x bs → x < n) → Agree s (grown s n a bs) (bs ++ entries_named (changed_entries a bs))
  unfolding grown
  grown-agree [] s a len an h = agree_refl s _
  grown-agree (b ∷ bs) s a len an h =
      let bn = h b (inl refl) in
      let one = taken-agree s a b len an bn in
      let ns : List ℕ = entries_named (changed_entries a (b ∷ bs)) in
      agree_then one (grown-agree bs (taken s n a b) b (one.size ∙ len) bn (λ x i. h x (inr i)))
      (λ x i. ⊎_elim (λ e. inl e) (λ j. inr (in_right x bs ns (entries-more (changed_entries a (b ∷ [])) (changed_entries a (b ∷ bs)) (changed-more a b bs) x j))) i)
      (λ x i. inr (⊎_elim (λ j. in_left x bs ns j) (λ j. in_right x bs ns (entries-more (changed_entries b bs) (changed_entries a (b ∷ bs)) (later a b bs) x j)) (in-append x bs (entries_named (changed_entries b bs)) i)))
    where
      later : (a b : ℕ) (bs : List ℕ) (y : ℕ) → In y (changed_entries b bs) → In y (changed_entries a (b ∷ bs))
      later a b bs y i = changed-new a (b ∷ bs) y (⊎_elim (λ e. inl e.0) (λ j. inr j) (changed-of b bs y i))

  -- data put into blocks
  pub put-agree : (bs s : List ℕ) (offset : ℕ) (bytes : List ℕ) → length s ≡ 512 * n → ((x : ℕ) → In x bs → x < n) → Agree s (put s bs offset bytes) (written bs offset (length bytes))
  unfolding put
  put-agree [] s offset bytes len h = agree_refl s _
  put-agree (b ∷ bs) s offset bytes len h = go bytes (lt-or-ge offset 512) (λ t more lt. put-agree bs t (offset - 512) more lt (λ x i. h x (inr i)))
    where
      bn : b < n
      bn = h b (inl refl)

      go : (bytes : List ℕ) → (offset < 512) ⊎ (512 ≤ offset) → ((t more : List ℕ) → length t ≡ 512 * n → Agree t (put t bs (offset - 512) more) (written bs (offset - 512) (length more)))
          → Agree s (put (splice s (512 * b + offset) (take (512 - offset) bytes)) bs (offset - 512) (drop (512 - offset) bytes)) (written (b ∷ bs) offset (length bytes))
      go bytes (inr far) rest =
          let d : 512 - offset ≡ 0 = omega arith in
          rw (d, splice-nil s (512 * b + offset), written-far b bs offset (length bytes) far) (rest s bytes len)
      go [] (inl near) rest =
          rw (take-nil {A = ℕ} (512 - offset), drop-nil {A = ℕ} (512 - offset), splice-nil s (512 * b + offset))
          (agree-more (rest s [] len) (λ x i. absurd (rw (written_none bs (offset - 512)) at i)))
      go (y ∷ ys) (inl near) rest =
          let p : List ℕ = take (512 - offset) (y ∷ ys) in
          let l : length p ≤ 512 - offset = length-take-most (512 - offset) (y ∷ ys) in
          let one = splice-agree s b (512 * b + offset) p (omega (arith, bn)) (omega arith) (omega arith) in
          let d : length (drop (512 - offset) (y ∷ ys)) ≡ suc (length ys) - (512 - offset) = length-drop (512 - offset) (y ∷ ys) in
          rw (written-here b bs offset (length ys) near)
          (agree_then one (rw d at (rest (splice s (512 * b + offset) p) (drop (512 - offset) (y ∷ ys)) (one.size ∙ len)))
          (in-single b (b ∷ written bs (offset - 512) (suc (length ys) - (512 - offset))) (inl refl)) (λ x i. inr i))

  -- so the image keeps its length
  pub grown-length : (bs s : List ℕ) (a : ℕ) → length s ≡ 512 * n → a < n → ((x : ℕ) → In x bs → x < n) → length (grown s n a bs) ≡ 512 * n
  grown-length bs s a len an h = (grown-agree bs s a len an h).size ∙ len

  pub put-length : (bs s : List ℕ) (offset : ℕ) (bytes : List ℕ) → length s ≡ 512 * n → ((x : ℕ) → In x bs → x < n) → length (put s bs offset bytes) ≡ 512 * n
  put-length bs s offset bytes len h = (put-agree bs s offset bytes len h).size ∙ len
