-- The blocks that are free after a change (L7): those that it freed hold only zeros, those that were free before hold what they held.
use Prim.Native.Nat.{ℕ, suc, ◌+◌, ◌-◌, ◌*◌, ◌/◌, ◌≤◌, ◌<◌, min}
use mathlib.Core.Path.{◌≡◌, refl, sym, ap, ◌∙◌, subst}
use mathlib.Core.Bool.{true, false}
use mathlib.Core.List.{List, [], ◌∷◌, ◌++◌}
use mathlib.Core.Logic.{◌⊎◌, inl, inr, ⊎_elim, ◌≢◌}
use native.Mathlib.Omega.{arith}
use lib.ListN.{length, get_or, take, take-append-drop}
use lib.Dec.{eqb}
use borrow.Author.Tests.{eqb-true, eqb-false}
use Rattle.layout.specs.Limits.{max_blocks, max_levels}
use Rattle.layout.specs.Lists.{has, distinct, last_or}
use Rattle.layout.specs.Bytes.{block, zeros, splice}
use Rattle.layout.specs.Geometry.{block_count, table_blocks, root_block, blocks_for}
use Rattle.layout.specs.Table.{next, chain, free_blocks}
use Rattle.layout.specs.Directory.{slot_at, type_of, first_block, size_of, blocks_of, is_file, is_directory, directory, dirs, file_blocks, attribute_blocks, free_slot}
use Rattle.layout.specs.Check.{check}
use Rattle.layout.specs.Paths.{parts, leading, last_part, home, path_slot, entry_of, file_refusal, directory_refusal}
use Rattle.volume.specs.Entries.{directory_made, released, taken, grown, entries_named, blocks_named}
use Rattle.volume.specs.Create.{place, create_refusal, create_image, create_named}
use Rattle.volume.specs.Write.{written, changed_entries, new_blocks, write_at, write_named}
use Rattle.volume.specs.Delete.{all_blocks, delete_at, delete_named}
use Rattle.volume.specs.Attributes.{emptied, new_attributes, set_attributes_refusal, set_attributes_at, set_attributes_named, clear_attributes_at, clear_attributes_named}
use Rattle.volume.specs.Flags.{clear_flags_at, clear_flags_named}
use Rattle.volume.specs.Shorten.{kept_blocks, cut_blocks, tail_length, shorten_at, shorten_named}
use Rattle.volume.specs.Replace.{replace_refusal, replace_at}
use Rattle.volume.specs.Directories.{create_directory_refusal, new_directory_blocks, create_directory_image, create_directory_named, delete_directory_refusal}
use Rattle.volume.specs.Change.{Change, create, write, delete, create_directory, delete_directory, set_attributes, clear_attributes, clear_flags, shorten, replace, refusal, after, named, move}
use Rattle.volume.specs.Move.{move_place, move_refusal, move_image, move_named}
use Rattle.volume.specs.Claims.{Blanked}
use Rattle.layout.proofs.Laws.Tests.{true-or-false, true-not-false, lt-or-ge, first_of-zero}
use Rattle.layout.proofs.Laws.Bytes.{length-zeros, get_d-zeros, get_d_part, get_d-splice-before, get_d-splice-inside, get_d-splice-after, part_same, length-splice}
use Rattle.layout.proofs.Laws.Lists.{In, in-append, in_take, in-drop, has-eqb-in, in-has-eqb, last-in, head_apart, tail-distinct}
use Rattle.layout.proofs.Laws.Frames.{Agree, agree-block, agree-next, before-next, same-below}
use Rattle.layout.proofs.Laws.Joins.{of-join}
use Rattle.layout.proofs.Laws.Chains.{nth, chain-used, chain-distinct, in-chain}
use Rattle.layout.proofs.Laws.Visits.{blocks_in, dir_blocks}
use Rattle.layout.proofs.Laws.Trees.{size_at, in-directory}
use Rattle.layout.proofs.Laws.Sound.{Sound, Entry, sound}
use Rattle.layout.proofs.Laws.Slots.{entry-low, entry-high, right-dir}
use Rattle.layout.proofs.Laws.Owners.{Fresh, free-fresh, file-used}
use Rattle.volume.proofs.Laws.Table.{taken-length, taken-first, taken-zeros, released-next, released-zero}
use Rattle.volume.proofs.Laws.Frame.{entries-low, blocks-not, written_in, changed-below, released-agree}
use Rattle.volume.proofs.Laws.Framed.{frame, write-framed, shorten-framed, at_entry, place-entry, child-chain, own-only}
use Rattle.volume.proofs.Laws.Places.{create-given, create-directory-given, At, file-at-path, directory-at-path, path-levels, path-name, place_is, place-home, place-free, place-new, WriteGiven, write-given, set-path, set_given}
use Rattle.volume.proofs.Laws.CreateDirectory.{made_table}
use Rattle.volume.proofs.Laws.Delete.{deleted-below, deleted-above, deleted-in-use, deleted-once}
use Rattle.volume.proofs.Laws.Attributes.{old_below, old-used, emptied-length, emptied-next, set-fresh, both_below}
use Rattle.volume.proofs.Laws.SetClear.{cleared-table, cleared-zero, set-table, set-zero}
use Rattle.volume.proofs.Laws.Space.{new-fresh, last-below}
use Rattle.volume.proofs.Laws.Shorten.{ShortenGiven, shorten-given, shortened-next, shortened-zero, shortened-in-use, shortened-entries}
use Rattle.volume.proofs.Laws.Replace.{replace-shorten, replace-write, short-sound, short-count, short-entry}
use Rattle.volume.proofs.Laws.Write.{written-table}
use Rattle.volume.proofs.Laws.Moved.{move-given, old-entry, new-entry, move-next, move-bounded}

-- a block that is free after blocks were taken was free before, and is none of them
module _ (n : ℕ) (n₁ : 3 ≤ n) (most : n ≤ max_blocks) where
  pub grown-free : (bs s : List ℕ) (a y : ℕ) → length s ≡ 512 * n → a < n → (0 < a → next s a ≢ 0) → Fresh n (next s) bs → y < n → next (grown s n a bs) y ≡ 0
      → (next s y ≡ 0) × (In y bs → ⊥)
  unfolding grown
  grown-free [] s a y len an used F yn z = (z, λ i. i)
  grown-free (x ∷ bs) s a y len an used F yn z =
      let xn = F.below x (inl refl) in
      let tx = F.above x (inl refl) in
      let first = taken-first n n₁ s a x len an xn tx (F.empty x (inl refl)) used most in
      let same = taken-zeros n n₁ s a x len an xn tx (F.empty x (inl refl)) used most in
      let apart : (q : ℕ) → In q bs → q ≢ x = λ q i e. head_apart x bs F.distinct-all (subst (λ (w : ℕ). In w bs) e i) in
      let rest : Fresh n (next (taken s n a x)) bs = record {
        above = λ q i. F.above q (inr i);
        below = λ q i. F.below q (inr i);
        empty = λ q i. eqb-true _ _ (same q (F.below q (inr i)) (apart q i) ∙ ap (λ (w : ℕ). eqb w 0) (F.empty q (inr i)));
        distinct-all = tail-distinct x bs F.distinct-all;
      } in
      let r = grown-free bs (taken s n a x) x y (taken-length n n₁ s a x len an xn) xn (λ pos e. omega (arith, first)) rest yn z in
      let ne : y ≢ x = λ e. omega (arith, first, ap (next (taken s n a x)) e, r.0) in
      (eqb-true _ _ (sym (same y yn ne) ∙ ap (λ (w : ℕ). eqb w 0) r.0), λ m. ⊎_elim ne r.1 m)

-- zeros stay zeros when zeros are written into them
zeroed-again : (t : List ℕ) (e b : ℕ) → e + 128 ≤ length t → 512 * b + 512 ≤ length t → block t b ≡ zeros 512 → block (splice t e (zeros 128)) b ≡ zeros 512
zeroed-again t e b fit inside blank =
    let l = length-zeros 128 in
    part_same t (splice t e (zeros 128)) (512 * b) (512 * b) 512 (λ i h. go i h (lt-or-ge (512 * b + i) e) (lt-or-ge (512 * b + i) (e + 128))) inside
    (omega (arith, length-splice t e (zeros 128) (omega arith))) ∙ blank
  where
    was : (i : ℕ) → i < 512 → get_or t (512 * b + i) 0 ≡ 0
    was i h = sym (get_d_part t (512 * b) 512 i h) ∙ ap (λ (p : List ℕ). get_or p i 0) blank ∙ get_d-zeros 512 i

    go : (i : ℕ) → i < 512 → (512 * b + i < e) ⊎ (e ≤ 512 * b + i) → (512 * b + i < e + 128) ⊎ (e + 128 ≤ 512 * b + i) → get_or (splice t e (zeros 128)) (512 * b + i) 0 ≡ get_or t (512 * b + i) 0
    go i h (inl p) q = get_d-splice-before t e (zeros 128) (omega (arith, length-zeros 128)) (512 * b + i) p
    go i h (inr p) (inr q) = get_d-splice-after t e (zeros 128) (omega (arith, length-zeros 128)) (512 * b + i) (omega (arith, length-zeros 128))
    go i h (inr p) (inl q) =
        let k : ℕ = 512 * b + i - e in
        let there : 512 * b + i ≡ e + k = omega arith in
        rw there (get_d-splice-inside t e (zeros 128) (omega (arith, length-zeros 128)) k (omega (arith, length-zeros 128)) ∙ get_d-zeros 128 k) ∙ sym (was i h)

-- a change of the entry at e
module _ (s : List ℕ) (S : Sound s) where
  abbrev n : ℕ
  n = block_count s

  low-used : (b : ℕ) → b ≤ table_blocks n → next s b ≢ 0
  low-used b h z = omega (arith, S.table.low b h)

  free-above : (b : ℕ) → next s b ≡ 0 → table_blocks n < b
  free-above b z = ⊎_elim (λ h. h) (λ h. absurd (low-used b h z)) (lt-or-ge (table_blocks n) b)

  tree-used : (x : ℕ) → In x (dir_blocks s) → next s x ≢ 0
  tree-used x m z =
      let r = of-join (blocks_in s) (dirs s) x m in
      let y = in-directory s r.0.0 x r.2 in
      chain-used (next s) n r.0.0 (size_at s r.0.0) (right-dir s S r.0 r.1).1.chained S.least y.0 y.1 (ap (next s) (sym y.2) ∙ z)

  module _ (e : ℕ) (E : Entry s e) where
    -- a block that is free after it was either in use and is zero, or free and not named
    pub blanked : (s' ns : List ℕ) → Agree s s' (e / 512 ∷ ns)
        → ((b : ℕ) → b < n → next s' b ≡ 0 → ((next s b ≢ 0) × (block s' b ≡ zeros 512)) ⊎ ((next s b ≡ 0) × (In b ns → ⊥))) → Blanked s s'
    blanked s' ns A f =
        record {
          freed = λ b bn u z. ⊎_elim (λ x. x.1) (λ x. absurd (u x.0)) (f b bn z);
          spared = λ b bn v z. ⊎_elim (λ x. absurd (x.0 v)) (λ x. agree-block b A (λ m. ⊎_elim (λ q. tree-used (e / 512) E.within-tree (ap (next s) (sym q) ∙ v)) x.1 m)) (f b bn z);
        }

    -- only the entry's block was written
    pub entry-blanked : (s' : List ℕ) → Agree s s' (e / 512 ∷ []) → Blanked s s'
    entry-blanked s' A = blanked s' [] A λ b bn z. inr (sym (agree-next b A (λ m. ⊎_elim (λ q. omega (arith, S.least, entry-low s S e E)) (λ i. i) m)) ∙ z, λ i. i)

    -- blocks bs were taken, behind the block a; besides what they name, blocks in use are
    pub grown-blanked : (s' ns bs : List ℕ) (a : ℕ) → Agree s s' (e / 512 ∷ ns) → a < n → (0 < a → next s a ≢ 0) → Fresh n (next s) bs
        → ((y : ℕ) → y < 128 * table_blocks n → next s' y ≡ next (grown s n a bs) y) → ((b : ℕ) → next s b ≡ 0 → (In b bs → ⊥) → In b ns → ⊥) → Blanked s s'
    grown-blanked s' ns bs a A an used F table out =
        blanked s' ns A λ b bn z.
        let g = grown-free n S.least S.most bs s a b S.whole an used F bn (sym (table b (omega (arith, S.least))) ∙ z) in
        inr (g.0, out b g.0 g.1)

    -- the entry and the chain bs went
    pub deleted-blanked : (bs : List ℕ) → delete_at s e ≡ splice (released s n bs) e (zeros 128) → Agree s (delete_at s e) (e / 512 ∷ blocks_named bs)
        → ((q : ℕ) → In q bs → q < n) → ((q : ℕ) → In q bs → table_blocks n < q) → ((q : ℕ) → In q bs → next s q ≢ 0) → distinct eqb bs ≡ true → Blanked s (delete_at s e)
    deleted-blanked bs is A below above used once = blanked (delete_at s e) (blocks_named bs) A λ b bn z. go b bn z (true-or-false (has eqb b bs))
      where
        size : length (released s n bs) ≡ 512 * n
        size = (released-agree n S.least bs s S.whole below).size ∙ S.whole

        fits : e + length (zeros 128) ≤ length (released s n bs)
        fits = omega (arith, length-zeros 128, size, S.whole, entry-high s S e E)

        kept : (b : ℕ) → b < n → (In b bs → ⊥) → next (delete_at s e) b ≡ next s b
        kept b bn out =
            rw is (before-next (released s n bs) (splice (released s n bs) e (zeros 128)) n
            (same-below (released s n bs) e (zeros 128) fits 0 (512 * root_block n) (omega (arith, entry-low s S e E))) b (omega (arith, S.least)))
            ∙ released-next n S.least bs s b S.whole below above (omega (arith, S.least)) out

        go : (b : ℕ) → b < n → next (delete_at s e) b ≡ 0 → (has eqb b bs ≡ true) ⊎ (has eqb b bs ≡ false)
            → ((next s b ≢ 0) × (block (delete_at s e) b ≡ zeros 512)) ⊎ ((next s b ≡ 0) × (In b (blocks_named bs) → ⊥))
        go b bn z (inl h) =
            let i = has-eqb-in b bs h in
            inl (used b i, rw is (zeroed-again (released s n bs) e b (omega (arith, size, S.whole, entry-high s S e E)) (omega (arith, size)) (released-zero n S.least bs s S.whole below above once b i)))
        go b bn z (inr h) =
            let out : In b bs → ⊥ = λ i. true-not-false (in-has-eqb b bs i) h in
            let v : next s b ≡ 0 = sym (kept b bn out) ∙ z in
            inr (v, blocks-not n bs below b (free-above b v) out)

-- the old chain of a file's attributes was freed, then blocks may have been taken; bs are these and those
emptied-blanked : (s : List ℕ) (S : Sound s) (e : ℕ) (E : Entry s e) → is_file (type_of s e) ≡ true → (s' bs : List ℕ) → Agree s s' (e / 512 ∷ blocks_named bs) → ((q : ℕ) → In q bs → q < block_count s)
    → ((b : ℕ) → b < block_count s → next s' b ≡ 0 → (next (emptied s e) b ≡ 0) × (In b bs → In b (attribute_blocks s e)))
    → ((b : ℕ) → In b (attribute_blocks s e) → next s' b ≡ 0 → block s' b ≡ zeros 512) → Blanked s s'
emptied-blanked s S e E file s' bs A below left zero = blanked s S e E s' (blocks_named bs) A λ b bn z. go b bn z (true-or-false (has eqb b (attribute_blocks s e)))
  where
    go : (b : ℕ) → b < block_count s → next s' b ≡ 0 → (has eqb b (attribute_blocks s e) ≡ true) ⊎ (has eqb b (attribute_blocks s e) ≡ false)
        → ((next s b ≢ 0) × (block s' b ≡ zeros 512)) ⊎ ((next s b ≡ 0) × (In b (blocks_named bs) → ⊥))
    go b bn z (inl h) = let i = has-eqb-in b (attribute_blocks s e) h in inl (old-used s S e E file b i, zero b i z)
    go b bn z (inr h) =
        let out : In b (attribute_blocks s e) → ⊥ = λ i. true-not-false (in-has-eqb b (attribute_blocks s e) i) h in
        let v : next s b ≡ 0 = sym (emptied-next s S e E file b (omega (arith, S.least)) out) ∙ (left b bn z).0 in
        inr (v, blocks-not (block_count s) bs below b (free-above s S b v) (λ i. out ((left b bn z).1 i)))

-- each kind of change
module _ (s : List ℕ) (ok : check s ≡ 0) where
  abbrev T : Sound s
  T = sound s ok

  create-blanked : (path : List ℕ) (type user group permissions flags time : ℕ) → create_refusal s path type flags ≡ 0 → Blanked s (create_image s path type user group permissions flags time)
  unfolding refusal after named create_named
  create-blanked path type user group permissions flags time r =
      let G = create-given s path type flags r in
      let E = place-entry s T path G.placed G.short in
      entry-blanked s T (place s path) E _ (frame s (create path type user group permissions flags time) ok r).agree

  -- the data may go into old blocks too, and the block before the new ones is in use
  pub write-blanked : (path : List ℕ) (offset : ℕ) (bytes : List ℕ) (time : ℕ) → WriteGiven s path offset (length bytes)
      → Blanked s (write_at s (entry_of is_file s path) offset bytes time)
  unfolding refusal after named write_named entry_of
  write-blanked path offset bytes time G =
      let A = G.there in
      let N = A.named in
      let k = path_slot is_file s path in
      let d : ℕ × ℕ = (home s path, A.level) in
      let e : ℕ = slot_at (directory s (home s path)) k in
      let E = at_entry s T is_file path A in
      let old = file_blocks s e in
      let new = new_blocks s e offset (length bytes) in
      let F = new-fresh s e offset (length bytes) T in
      let last-small = last-below s T e E N.typed offset (length bytes) in
      let last-used : 0 < last_or 0 old → next s (last_or 0 old) ≢ 0 = λ pos. ⊎_elim (λ q. absurd (omega arith)) (file-used s T e E N.typed (last_or 0 old)) (last-in old 0) in
      grown-blanked s T e E (write_at s e offset bytes time) (written (old ++ new) offset (length bytes) ++ entries_named (changed_entries (last_or 0 old) new)) new (last_or 0 old)
      (write-framed s T path offset bytes time G).agree last-small last-used F
      (written-table s T d A.home-in k N.low N.high N.typed offset bytes time G.room)
      (λ b z out m. ⊎_elim
      (λ i. ⊎_elim (λ j. file-used s T e E N.typed b j z) out (in-append b old new (written_in (old ++ new) offset (length bytes) b i)))
      (λ i. low-used s T b (entries-low (block_count s) (changed_entries (last_or 0 old) new) (changed-below (block_count s) (last_or 0 old) new last-small F.below) b i) z)
      (in-append b (written (old ++ new) offset (length bytes)) (entries_named (changed_entries (last_or 0 old) new)) m))

  create-directory-blanked : (path : List ℕ) (type user group permissions flags time d : ℕ) → create_directory_refusal s path type flags d ≡ 0
      → Blanked s (create_directory_image s path type user group permissions flags time d)
  unfolding create_directory_image new_directory_blocks directory_made create_directory_named refusal after named
  create-directory-blanked path type user group permissions flags time d r =
      let G = create-directory-given s path type flags d r in
      let l = path-levels path G.good G.deep in
      let w = place-free s path G.placed in
      let home-in : In (home s path, suc (max_levels - suc (length (leading (parts path))))) (dirs s) = rw l.1 (place-home s path G.placed l.0) in
      let new = take d (free_blocks (next s) (block_count s)) in
      let F = free-fresh s T d in
      grown-blanked s T (place s path) (place-entry s T path G.placed l.0) (create_directory_image s path type user group permissions flags time d) (blocks_named new) new 0
      (frame s (create_directory path type user group permissions flags time d) ok r).agree (omega (arith, T.least)) (λ pos. absurd (omega arith)) F
      (rw (place_is s path G.placed) (made_table s T (home s path) (max_levels - suc (length (leading (parts path)))) home-in (free_slot s (directory s (home s path))) w.0 w.1 w.2
      (last_part (parts path)) (path-name path G.good) (place-new s path G.placed) type user group permissions flags time G.dir d G.least G.most G.room))
      (λ b z out. blocks-not (block_count s) new F.below b (free-above s T b z) out)

  delete-blanked : (path : List ℕ) → file_refusal s path ≡ 0 → Blanked s (delete_at s (entry_of is_file s path))
  unfolding refusal after named delete_named delete_at entry_of
  delete-blanked path r =
      let A = file-at-path s path r in
      let N = A.named in
      let d : ℕ × ℕ = (home s path, A.level) in
      let k = path_slot is_file s path in
      let e : ℕ = slot_at (directory s (home s path)) k in
      deleted-blanked s T e (at_entry s T is_file path A) (all_blocks s e) refl (frame s (delete path) ok r).agree
      (deleted-below s T d A.home-in k N.low N.high N.typed) (deleted-above s T d A.home-in k N.low N.high N.typed)
      (deleted-in-use s T d A.home-in k N.low N.high N.typed) (deleted-once s T d A.home-in k N.low N.high N.typed)

  delete-directory-blanked : (path : List ℕ) → delete_directory_refusal s path ≡ 0 → Blanked s (delete_at s (entry_of is_directory s path))
  unfolding refusal after named delete_named delete_directory_refusal delete_at file_blocks
  delete-directory-blanked path r =
      let A = directory-at-path s path (first_of-zero (directory_refusal s path) _ r).0 in
      let e : ℕ = entry_of is_directory s path in
      let C = child-chain s T path A in
      let is : all_blocks s e ≡ chain (next s) (first_block s e) (blocks_of s e) = own-only s T path A in
      let at : (q : ℕ) → In q (all_blocks s e) → (x : ℕ) × (x < blocks_of s e) × (q ≡ nth (next s) x (first_block s e)) = λ q i. in-chain (next s) (first_block s e) (blocks_of s e) q (rw is at i) in
      deleted-blanked s T e (at_entry s T is_directory path A) (all_blocks s e) refl (frame s (delete_directory path) ok r).agree
      (λ q i. let x = at q i in rw x.2 (C.below x.0 x.1)) (λ q i. let x = at q i in rw x.2 (C.above x.0 x.1))
      (λ q i. let x = at q i in rw x.2 (chain-used (next s) (block_count s) (first_block s e) (blocks_of s e) C T.least x.0 x.1))
      (rw is (chain-distinct (next s) (block_count s) (first_block s e) (blocks_of s e) C T.least))

  -- the attributes of a file
  clear-blanked : (path : List ℕ) → file_refusal s path ≡ 0 → Blanked s (clear_attributes_at s (entry_of is_file s path))
  unfolding refusal after named clear_attributes_named entry_of
  clear-blanked path r =
      let A = file-at-path s path r in
      let N = A.named in
      let d : ℕ × ℕ = (home s path, A.level) in
      let k = path_slot is_file s path in
      let e : ℕ = slot_at (directory s (home s path)) k in
      let E = at_entry s T is_file path A in
      emptied-blanked s T e E N.typed (clear_attributes_at s e) (attribute_blocks s e) (frame s (clear_attributes path) ok r).agree (old_below s T e E N.typed)
      (λ b bn z. (sym (cleared-table s T d A.home-in k N.low N.high N.typed b (omega (arith, T.least))) ∙ z, λ i. i))
      (λ b i z. cleared-zero s T d A.home-in k N.low N.high N.typed b i)

  set-blanked : (path bytes : List ℕ) → set_attributes_refusal s path (length bytes) ≡ 0 → Blanked s (set_attributes_at s (entry_of is_file s path) bytes)
  unfolding refusal after named set_attributes_named entry_of
  set-blanked path bytes r =
      let A = file-at-path s path (set-path s path (length bytes) r) in
      let R = set_given s path (length bytes) r in
      let N = A.named in
      let d : ℕ × ℕ = (home s path, A.level) in
      let k = path_slot is_file s path in
      let e : ℕ = slot_at (directory s (home s path)) k in
      let E = at_entry s T is_file path A in
      let old = attribute_blocks s e in
      let new = new_attributes s e (length bytes) in
      let F = set-fresh s T e E N.typed bytes R in
      let still : (b : ℕ) → b < block_count s → next (set_attributes_at s e bytes) b ≡ 0 → (next (emptied s e) b ≡ 0) × (In b new → ⊥) = λ b bn z.
      grown-free (block_count s) T.least T.most new (emptied s e) 0 b (emptied-length s T e E N.typed) (omega (arith, T.least)) (λ pos. absurd (omega arith)) F bn
      (sym (set-table s T d A.home-in k N.low N.high N.typed bytes R b (omega (arith, T.least))) ∙ z) in
      emptied-blanked s T e E N.typed (set_attributes_at s e bytes) (old ++ new) (frame s (set_attributes path bytes) ok r).agree (both_below s T e E N.typed bytes R)
      (λ b bn z. ((still b bn z).0, λ i. ⊎_elim (λ j. j) (λ j. absurd ((still b bn z).1 j)) (in-append b old new i)))
      (λ b i z. set-zero s T d A.home-in k N.low N.high N.typed bytes R b i (still b (old_below s T e E N.typed b i) z).1)

  -- the system flags of a file
  flags-blanked : (path : List ℕ) → file_refusal s path ≡ 0 → Blanked s (clear_flags_at s (entry_of is_file s path))
  unfolding refusal after named clear_flags_named
  flags-blanked path r = entry-blanked s T (entry_of is_file s path) (at_entry s T is_file path (file-at-path s path r)) _ (frame s (clear_flags path) ok r).agree

  -- no link changes, and both slots stand in blocks in use
  move-blanked : (path to : List ℕ) → move_refusal s path to ≡ 0 → Blanked s (move_image s path to)
  unfolding move_named
  move-blanked path to r =
      let G = move-given s path to r in
      blanked s T (entry_of is_file s path) (old-entry s path to ok G) (move_image s path to) (move_place s path to / 512 ∷ []) (move-bounded s path to ok G).agree
      λ b bn z. let v : next s b ≡ 0 = sym (move-next s path to ok G b (omega (arith, T.least))) ∙ z in
      inr (v, λ i. ⊎_elim (λ q. tree-used s T (move_place s path to / 512) (new-entry s path to ok G).within-tree (ap (next s) (sym q) ∙ v)) (λ x. x) i)

-- a file shortened: the blocks that it keeps stay in use
module _ (s : List ℕ) (ok : check s ≡ 0) (path : List ℕ) (size time : ℕ) (G : ShortenGiven s path size) where
  abbrev entry : ℕ
  entry = entry_of is_file s path

  abbrev short : List ℕ
  short = shorten_at s (entry_of is_file s path) size time

  abbrev held : List ℕ
  held = file_blocks s (entry_of is_file s path)

  abbrev saved : List ℕ
  saved = written (kept_blocks s entry size) size (tail_length (size_of s entry) size) ++ (cut_blocks s entry size ++ entries_named (changed_entries (last_or 0 (kept_blocks s entry size)) (cut_blocks s entry size)))

  A : At is_file s path
  A = file-at-path s path G.there

  held-used : (b : ℕ) → In b held → next s b ≢ 0
  unfolding entry_of
  held-used = file-used s (sound s ok) entry (at_entry s (sound s ok) is_file path A) A.named.typed

  others_same : (b : ℕ) → b < block_count s → (In b held → ⊥) → next short b ≡ next s b
  unfolding entry_of
  others_same b h out =
      shortened-next s (sound s ok) (home s path, A.level) A.home-in (path_slot is_file s path) A.named.low A.named.high A.named.typed size time G.less b (omega (arith, (sound s ok).least)) out

  -- a block that was free still is
  still-free : (b : ℕ) → b < block_count s → next s b ≡ 0 → next short b ≡ 0
  still-free b h z = others_same b h (λ i. held-used b i z) ∙ z

  not_saved : (b : ℕ) → next s b ≡ 0 → (In b held → ⊥) → In b saved → ⊥
  unfolding entry_of
  not_saved b z out m =
      let freed : List ℕ = cut_blocks s entry size in
      ⊎_elim (λ i. out (in_take b (blocks_for size) held (written_in (kept_blocks s entry size) size (tail_length (size_of s entry) size) b i)))
      (λ i. ⊎_elim (λ j. out (in-drop b (blocks_for size) held j))
      (λ j. low-used s (sound s ok) b
      (shortened-entries s (sound s ok) (home s path, A.level) A.home-in (path_slot is_file s path) A.named.low A.named.high A.named.typed size time G.less b j) z)
      (in-append b freed (entries_named (changed_entries (last_or 0 (kept_blocks s entry size)) freed)) i))
      (in-append b (written (kept_blocks s entry size) size (tail_length (size_of s entry) size)) (freed ++ entries_named (changed_entries (last_or 0 (kept_blocks s entry size)) freed)) m)

  now-free : (b : ℕ) → b < block_count s → next short b ≡ 0 → (has eqb b held ≡ true) ⊎ (has eqb b held ≡ false)
      → ((next s b ≢ 0) × (block short b ≡ zeros 512)) ⊎ ((next s b ≡ 0) × (In b saved → ⊥))
  unfolding entry_of
  now-free b h z (inl v) =
      let i = has-eqb-in b held v in
      let parts : In b (kept_blocks s entry size ++ cut_blocks s entry size) = rw (take-append-drop (blocks_for size) held) i in
      ⊎_elim
      (λ j. absurd (shortened-in-use s (sound s ok) (home s path, A.level) A.home-in (path_slot is_file s path) A.named.low A.named.high A.named.typed size time G.less b j z))
      (λ j. inl (held-used b i, shortened-zero s (sound s ok) (home s path, A.level) A.home-in (path_slot is_file s path) A.named.low A.named.high A.named.typed size time G.less b j))
      (in-append b (kept_blocks s entry size) (cut_blocks s entry size) parts)
  now-free b h z (inr v) =
      let out : In b held → ⊥ = λ i. true-not-false (in-has-eqb b held i) v in
      let w : next s b ≡ 0 = sym (others_same b h out) ∙ z in
      inr (w, not_saved b w out)

  shorten-blanked : Blanked s (shorten_at s (entry_of is_file s path) size time)
  unfolding after named shorten_named
  shorten-blanked =
      blanked s (sound s ok) entry (at_entry s (sound s ok) is_file path A) short saved (shorten-framed s (sound s ok) path A size time G.less).agree
      (λ b h z. now-free b h z (true-or-false (has eqb b held)))

-- blocks were freed, then another change was made
freed-then : (s t u : List ℕ) → block_count t ≡ block_count s → ((b : ℕ) → b < block_count s → next s b ≡ 0 → next t b ≡ 0) → Blanked s t → Blanked t u → Blanked s u
freed-then s t u n more B C =
    record {
      freed = λ b h used z. go b h used z (true-or-false (eqb (next t b) 0));
      spared = λ b h free z. C.spared b (rw n h) (more b h free) z ∙ B.spared b h free (more b h free);
    }
  where
    go : (b : ℕ) → b < block_count s → next s b ≢ 0 → next u b ≡ 0 → (eqb (next t b) 0 ≡ true) ⊎ (eqb (next t b) 0 ≡ false) → block u b ≡ zeros 512
    go b h used z (inl e) = let v : next t b ≡ 0 = eqb-true _ _ e in C.spared b (rw n h) v z ∙ B.freed b h used v
    go b h used z (inr e) = C.freed b (rw n h) (eqb-false _ _ e) z

replace-blanked : (s : List ℕ) → check s ≡ 0 → (path bytes : List ℕ) (time : ℕ) → replace_refusal s path (length bytes) ≡ 0 → Blanked s (replace_at s (entry_of is_file s path) bytes time)
unfolding replace_at
replace-blanked s ok path bytes time r =
    let e : ℕ = entry_of is_file s path in
    let m : ℕ = min (size_of s e) (length bytes) in
    let t : List ℕ = shorten_at s e m time in
    let G = replace-shorten s path (length bytes) r in
    freed-then s t (write_at t e 0 bytes time) (short-count s path ok (length bytes) time r) (still-free s ok path m time G) (shorten-blanked s ok path m time G)
    (subst (λ (x : ℕ). Blanked t (write_at t x 0 bytes time)) (short-entry s path ok (length bytes) time r)
    (write-blanked t (short-sound s path ok (length bytes) time r) path 0 bytes time (replace-write s path ok (length bytes) time r)))

pub blank : (s : List ℕ) (c : Change) → check s ≡ 0 → refusal s c ≡ 0 → Blanked s (after s c)
unfolding refusal after
blank s (create path type user group permissions flags time) ok r = create-blanked s ok path type user group permissions flags time r
blank s (write path offset bytes time) ok r = write-blanked s ok path offset bytes time (write-given s path offset (length bytes) r)
blank s (delete path) ok r = delete-blanked s ok path r
blank s (create_directory path type user group permissions flags time d) ok r = create-directory-blanked s ok path type user group permissions flags time d r
blank s (delete_directory path) ok r = delete-directory-blanked s ok path r
blank s (set_attributes path bytes) ok r = set-blanked s ok path bytes r
blank s (clear_attributes path) ok r = clear-blanked s ok path r
blank s (clear_flags path) ok r = flags-blanked s ok path r
blank s (shorten path size time) ok r = shorten-blanked s ok path size time (shorten-given s path size r)
blank s (replace path bytes time) ok r = replace-blanked s ok path bytes time r
blank s (move path to) ok r = move-blanked s ok path to r
