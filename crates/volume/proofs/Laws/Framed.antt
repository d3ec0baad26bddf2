-- THE FRAME LAW: an accepted change on a sound image changes no byte outside its named blocks, and these are below n.
use Prim.Native.Nat.{ℕ, ◌+◌, ◌-◌, ◌*◌, ◌/◌, ◌%◌, ◌≤◌, ◌<◌, max, min}
use mathlib.Core.Path.{◌≡◌, refl, ◌∙◌, subst}
use mathlib.Core.Bool.{Bool, true}
use mathlib.Core.List.{List, [], ◌∷◌, ◌++◌, append-nil}
use mathlib.Core.Logic.{inl, inr, ⊎_elim}
use native.Mathlib.Omega.{arith}
use lib.ListN.{length, get_or, take, length-take}
use lib.Dec.{eqb}
use Rattle.layout.specs.Limits.{max_levels}
use Rattle.layout.specs.Lists.{has, last_or}
use Rattle.layout.specs.Bytes.{splice, zeros}
use Rattle.layout.specs.Geometry.{block_count, blocks_for}
use Rattle.layout.specs.Table.{next, free_blocks}
use Rattle.layout.specs.Directory.{slot_at, type_of, first_block, size_of, blocks_of, is_file, is_directory, directory, file_blocks, attribute_blocks, free_slot}
use Rattle.layout.specs.Check.{check}
use Rattle.layout.specs.Paths.{parts, leading, last_part, shallow, home, path_slot, entry_of, directory_refusal}
use Rattle.volume.specs.Entries.{entry_bytes, directory_made, released, grown, entries_named, blocks_named}
use Rattle.volume.specs.Create.{place, place_refusal, create_refusal, create_image, create_named}
use Rattle.volume.specs.Write.{put, written, changed_entries, new_size, needed, new_blocks, write_at, write_named}
use Rattle.volume.specs.Delete.{all_blocks, delete_at, delete_named}
use Rattle.volume.specs.Attributes.{new_attributes, set_attributes_named, clear_attributes_named}
use Rattle.volume.specs.Flags.{clear_flags_named}
use Rattle.volume.specs.Shorten.{kept_blocks, cut_blocks, tail_length, shorten_at, shorten_named}
use Rattle.volume.specs.Replace.{replace_refusal, replace_at, replace_named}
use Rattle.volume.specs.Directories.{create_directory_refusal, new_directory_blocks, create_directory_image, create_directory_named, delete_directory_refusal}
use Rattle.volume.specs.Change.{Change, create, write, delete, create_directory, delete_directory, set_attributes, clear_attributes, clear_flags, shorten, replace, refusal, after, named, move}
use Rattle.volume.specs.Move.{move_place, move_refusal, move_named}
use Rattle.volume.proofs.Laws.Entries.{entry_length}
use Rattle.volume.proofs.Laws.Frame.{entries-low, blocks-in, blocks-below, changed-first, changed-below, written_in, taken-written, released-agree, grown-agree, put-agree}
use Rattle.volume.proofs.Laws.Places.{create-given, CreateDirectoryGiven, create-directory-given, At, file-at-path, directory-at-path, WriteGiven, write-given, SetGiven, set-path, set_given, path-levels, path-name, place_is, place-home, place-free}
use Rattle.volume.proofs.Laws.Unchanged.{Bounded, slot-agree, file-agree, entry-bounded}
use Rattle.volume.proofs.Laws.Delete.{deleted-bounded}
use Rattle.volume.proofs.Laws.SetClear.{cleared-bounded, set-bounded}
use Rattle.volume.proofs.Laws.Flags.{flags-bounded}
use Rattle.volume.proofs.Laws.Shorten.{shorten-given, shortened-bounded}
use Rattle.volume.proofs.Laws.Replace.{replace-there, replace-shorten, replace-given, replace-write, replace-names, short-sound, short-entry}
use Rattle.volume.proofs.Laws.Moved.{move-given, old-entry, move-bounded}
use Rattle.volume.proofs.Laws.Space.{new-fresh, new-length, all-below, last-below}
use Rattle.layout.proofs.Laws.Bytes.{length-zeros}
use Rattle.layout.proofs.Laws.Tests.{first_of-zero}
use Rattle.layout.proofs.Laws.Names.{padded-length}
use Rattle.layout.proofs.Laws.Lists.{In, in_left, in_right, in-append, in-has-eqb, has-eqb-in, in-single, get_d-in}
use Rattle.layout.proofs.Laws.Chains.{Chain, in-chain}
use Rattle.layout.proofs.Laws.Frames.{Agree, agree-more, agree_then, splice-agree}
use Rattle.layout.proofs.Laws.Trees.{child_ok-split, directory_ok-split}
use Rattle.layout.proofs.Laws.Sound.{Sound, Entry, sound}
use Rattle.layout.proofs.Laws.Slots.{slot-ok, slot-entry, children-in}
use Rattle.layout.proofs.Laws.Files.{Slot, entry-slot, file-in, length-file_blocks}
use Rattle.layout.proofs.Laws.Owners.{directory-slot-ok, directory-attributes, Fresh, free-fresh}

pub record Framed (s : List ℕ) (c : Change) : Type 0 where
  pub agree : Agree s (after s c) (named s c)
  pub inside : (b : ℕ) → has eqb b (named s c) ≡ true → b < block_count s
  -- there is a named block
  pub one : ℕ
  pub listed : has eqb one (named s c) ≡ true

module _ (s : List ℕ) (S : Sound s) where
  abbrev n : ℕ
  n = block_count s

  -- bytes of an entry
  module _ (e : ℕ) (E : Entry s e) where
    slot : Slot s e
    slot = entry-slot s S e E

    -- the entry is written, and its block is named first
    framed-by : (c : Change) (ns : List ℕ) → named s c ≡ e / 512 ∷ ns → Agree s (after s c) (e / 512 ∷ ns) → ((b : ℕ) → In b ns → b < n) → Framed s c
    framed-by c ns q a f =
        record {
          agree = rw q a;
          inside = λ b i. ⊎_elim (λ d. rw d slot.inside) (λ j. f b j) (has-eqb-in b (e / 512 ∷ ns) (rw q at i));
          one = e / 512;
          listed = rw q (in-has-eqb (e / 512) (e / 512 ∷ ns) (inl refl));
        }

    bounded-framed : (c : Change) (ns : List ℕ) → named s c ≡ e / 512 ∷ ns → Bounded s (after s c) (e / 512 ∷ ns) → Framed s c
    bounded-framed c ns q B = framed-by c ns q B.agree (λ b i. B.inside b (inr i))

  -- where a path's entry stands
  pub at_entry : (type : ℕ → Bool) (path : List ℕ) → At type s path → Entry s (entry_of type s path)
  unfolding entry_of
  at_entry type path A = let h = A.named.high in slot-entry s S (home s path, A.level) A.home-in (path_slot type s path) (omega arith)

  pub place-entry : (path : List ℕ) → place_refusal s path ≡ 0 → shallow (leading (parts path)) ≡ true → Entry s (place s path)
  place-entry path r h =
      let w = place-free s path r in
      rw (place_is s path r) (slot-entry s S (home s path, max_levels - length (leading (parts path))) (place-home s path r h) (free_slot s (directory s (home s path))) (omega (arith, w.1)))

  pub create-framed : (path : List ℕ) (type user group permissions flags time : ℕ) → create_refusal s path type flags ≡ 0 → Framed s (create path type user group permissions flags time)
  unfolding after named create_image create_named
  create-framed path type user group permissions flags time r =
      let G = create-given s path type flags r in
      let good = path-name path G.good in
      let l = entry_length (last_part (parts path)) (padded-length (last_part (parts path)) good) type user group permissions 0 0 0 time flags in
      let E = place-entry path G.placed G.short in
      framed-by (place s path) E (create path type user group permissions flags time) [] refl
      (slot-agree s S (place s path) E s (place s path) (entry_bytes type user group permissions 0 0 0 time flags (last_part (parts path))) S.whole (omega arith) (omega arith)) (λ b i. absurd i)

  -- the calls on a file
  module _ (path : List ℕ) (A : At is_file s path) where
    abbrev d : ℕ × ℕ
    d = (home s path, A.level)

    abbrev k : ℕ
    k = path_slot is_file s path

    delete-framed : Framed s (delete path)
    unfolding after named delete_named entry_of
    delete-framed =
        let N = A.named in
        bounded-framed (entry_of is_file s path) (at_entry is_file path A) (delete path) (blocks_named (all_blocks s (entry_of is_file s path))) refl
        (deleted-bounded s S d A.home-in k N.low N.high N.typed)

    clear-framed : Framed s (clear_attributes path)
    unfolding after named clear_attributes_named entry_of
    clear-framed =
        let N = A.named in
        bounded-framed (entry_of is_file s path) (at_entry is_file path A) (clear_attributes path) (blocks_named (attribute_blocks s (entry_of is_file s path))) refl
        (cleared-bounded s S d A.home-in k N.low N.high N.typed)

    pub shorten-framed : (size time : ℕ) → size ≤ size_of s (entry_of is_file s path) → Framed s (shorten path size time)
    unfolding after named shorten_named entry_of
    shorten-framed size time less =
        let N = A.named in
        let e : ℕ = entry_of is_file s path in
        bounded-framed e (at_entry is_file path A) (shorten path size time)
        (written (kept_blocks s e size) size (tail_length (size_of s e) size) ++ (cut_blocks s e size ++ entries_named (changed_entries (last_or 0 (kept_blocks s e size)) (cut_blocks s e size)))) refl
        (shortened-bounded s S d A.home-in k N.low N.high N.typed size time less)

    flags-framed : Framed s (clear_flags path)
    unfolding after named clear_flags_named entry_of
    flags-framed =
        let N = A.named in
        bounded-framed (entry_of is_file s path) (at_entry is_file path A) (clear_flags path) [] refl (flags-bounded s S d A.home-in k N.low N.high N.typed)

    set-framed : (bytes : List ℕ) → SetGiven s (entry_of is_file s path) (length bytes) → Framed s (set_attributes path bytes)
    unfolding after named set_attributes_named entry_of
    set-framed bytes R =
        let N = A.named in
        bounded-framed (entry_of is_file s path) (at_entry is_file path A) (set_attributes path bytes)
        (blocks_named (attribute_blocks s (entry_of is_file s path) ++ new_attributes s (entry_of is_file s path) (length bytes))) refl
        (set-bounded s S d A.home-in k N.low N.high N.typed bytes R)

  -- the blocks of a directory, by its entry
  pub child-chain : (path : List ℕ) → At is_directory s path → Chain (next s) n (first_block s (entry_of is_directory s path)) (blocks_of s (entry_of is_directory s path))
  unfolding entry_of
  child-chain path A =
      let b : ℕ = home s path in
      let k : ℕ = path_slot is_directory s path in
      let e : ℕ = slot_at (directory s b) k in
      let v = child_ok-split s n b e ((S.tree.local (b, A.level) A.home-in).child e (children-in s b k A.named.low A.named.high A.named.typed)) in
      let D = directory_ok-split s n (first_block s e) b v.0 in
      subst (Chain (next s) n (first_block s e)) v.1 D.chained

  child-below : (path : List ℕ) → At is_directory s path → (x : ℕ) → In x (file_blocks s (entry_of is_directory s path)) → x < n
  unfolding file_blocks
  child-below path A x i =
      let r = in-chain (next s) (first_block s (entry_of is_directory s path)) (blocks_of s (entry_of is_directory s path)) x i in
      rw r.2 ((child-chain path A).below r.0 r.1)

  -- it has no attributes
  pub own-only : (path : List ℕ) → At is_directory s path → all_blocks s (entry_of is_directory s path) ≡ file_blocks s (entry_of is_directory s path)
  unfolding all_blocks entry_of
  own-only path A =
      let N = A.named in
      let e : ℕ = slot_at (directory s (home s path)) (path_slot is_directory s path) in
      rw (directory-attributes s e (directory-slot-ok s e N.typed (slot-ok s S (home s path, A.level) A.home-in (path_slot is_directory s path) N.low N.high))).1
      (append-nil (file_blocks s e))

  delete-directory-framed : (path : List ℕ) → delete_directory_refusal s path ≡ 0 → Framed s (delete_directory path)
  unfolding after named delete_at delete_named delete_directory_refusal
  delete-directory-framed path r =
      let A = directory-at-path s path (first_of-zero (directory_refusal s path) _ r).0 in
      let e : ℕ = entry_of is_directory s path in
      let E = at_entry is_directory path A in
      let bs : List ℕ = all_blocks s e in
      let below : (x : ℕ) → In x bs → x < n = λ x i. child-below path A x (rw (own-only path A) at i) in
      bounded-framed e E (delete_directory path) (blocks_named bs) refl
      (entry-bounded s S e E (released s n bs) bs (released-agree n S.least bs s S.whole below) below e (zeros 128) (omega arith) (omega (arith, length-zeros 128)))

  module _ (path : List ℕ) (type user group permissions flags time d : ℕ) (r : create_directory_refusal s path type flags d ≡ 0) where
    new-directory : CreateDirectoryGiven s path type flags d
    new-directory = create-directory-given s path type flags d r

    abbrev taken-blocks : List ℕ
    taken-blocks = take d (free_blocks (next s) n)

    fresh-taken : Fresh n (next s) taken-blocks
    fresh-taken = free-fresh s S d

    many-taken : length taken-blocks ≡ d
    many-taken = length-take d (free_blocks (next s) n) ∙ omega (arith, new-directory.room)

    -- bytes in a taken block
    in_taken : (t : List ℕ) (q at : ℕ) (p ns : List ℕ) → length t ≡ 512 * n → In q taken-blocks → 512 * q ≤ at → at + length p ≤ 512 * q + 512 → ((x : ℕ) → In x taken-blocks → In x ns) → Agree t (splice t at p) ns
    in_taken t q at p ns len i low high sub =
        agree-more (splice-agree t q at p (omega (arith, fresh-taken.below q i)) low high) (λ x m. sub x (in-single q taken-blocks i x m))

    same_entries : (x : ℕ) → In x (taken-blocks ++ entries_named (changed_entries 0 taken-blocks)) → In x (blocks_named taken-blocks)
    unfolding blocks_named
    same_entries x m = subst (λ (bs : List ℕ). In x (taken-blocks ++ entries_named bs)) (changed-first taken-blocks) m

    create-directory-framed : Framed s (create_directory path type user group permissions flags time d)
    unfolding after named create_directory_image create_directory_named new_directory_blocks directory_made slot_at changed_entries
    create-directory-framed =
        let g = new-directory in
        let E = place-entry path g.placed (path-levels path g.good g.deep).0 in
        let e = place s path in
        let name = last_part (parts path) in
        let new = taken-blocks in
        let b₁ : ℕ = get_or new 0 0 in
        let rest : List ℕ = blocks_named new in
        let ns : List ℕ = e / 512 ∷ rest in
        let sub : (x : ℕ) → In x new → In x ns = λ x i. inr (blocks-in new x i) in
        let eighty = padded-length name (path-name path g.good) in
        let L = many-taken in
        let larger = grown s n 0 new in
        let a : Agree s larger ns = agree-more (grown-agree n S.least new s 0 S.whole (omega (arith, S.least)) fresh-taken.below) (λ x i. inr (same_entries x i)) in
        let p₁ : List ℕ = entry_bytes 1 0 0 0 b₁ (home s path) (length new) time 0 name in
        let l₁ = entry_length name eighty 1 0 0 0 b₁ (home s path) (length new) time 0 in
        let t₁ = splice larger (512 * b₁) p₁ in
        let b : Agree s t₁ ns = agree_then a (in_taken larger b₁ (512 * b₁) p₁ ns (a.size ∙ S.whole) (get_d-in new 0 0 (omega (arith, L, g.least))) (omega arith) (omega arith) sub) (λ x i. i) (λ x i. i) in
        let last : ℕ = 512 * get_or new ((4 * length new - 1) / 4) 0 + 128 * ((4 * length new - 1) % 4) in
        let q : ℕ = get_or new ((4 * length new - 1) / 4) 0 in
        let ends : List ℕ = 0xFF ∷ [] in
        let l₂ : length ends ≡ 1 = refl in
        let made = splice t₁ last ends in
        let c : Agree s made ns = agree_then b (in_taken t₁ q last ends ns (b.size ∙ S.whole) (get_d-in new ((4 * length new - 1) / 4) 0 (omega (arith, L, g.least))) (omega arith) (omega arith) sub) (λ x i. i) (λ x i. i) in
        let p₂ : List ℕ = entry_bytes type user group permissions b₁ 0 d time flags name in
        let l₃ = entry_length name eighty type user group permissions b₁ 0 d time flags in
        framed-by e E (create_directory path type user group permissions flags time d) rest refl
        (agree_then c (slot-agree s S e E made e p₂ (c.size ∙ S.whole) (omega arith) (omega arith)) (λ x i. i) (in-single (e / 512) ns (inl refl)))
        (blocks-below n new fresh-taken.below S.least)

  module _ (path : List ℕ) (offset : ℕ) (bytes : List ℕ) (time : ℕ) (given : WriteGiven s path offset (length bytes)) where
    abbrev entry : ℕ
    entry = entry_of is_file s path

    E : Entry s entry
    E = at_entry is_file path given.there

    typed : is_file (type_of s entry) ≡ true
    unfolding entry_of
    typed = given.there.named.typed

    abbrev old : List ℕ
    old = file_blocks s entry

    abbrev new : List ℕ
    new = new_blocks s entry offset (length bytes)

    abbrev holds : List ℕ
    holds = written (file_blocks s entry ++ new_blocks s entry offset (length bytes)) offset (length bytes)

    abbrev entries : List ℕ
    entries = entries_named (changed_entries (last_or 0 (file_blocks s entry)) (new_blocks s entry offset (length bytes)))

    new-below : (x : ℕ) → In x new → x < n
    new-below = (new-fresh s entry offset (length bytes) S).below

    inside : (x : ℕ) → In x (old ++ new) → x < n
    inside = all-below s S entry E typed offset (length bytes)

    before : last_or 0 old < n
    before = last-below s S entry E typed offset (length bytes)

    renewed : blocks_of s entry ≡ blocks_for (size_of s entry)
    unfolding entry_of
    renewed = let A = given.there in (file-in s S (home s path, A.level) A.home-in (path_slot is_file s path) A.named.low A.named.high A.named.typed).blocks

    counts : (length old ≡ blocks_for (size_of s entry)) × (length new ≡ blocks_for (max (size_of s entry) (offset + length bytes)) - blocks_for (size_of s entry)) × (offset ≤ size_of s entry)
    unfolding new_size needed
    counts = (length-file_blocks s entry ∙ renewed, new-length s entry offset (length bytes) given.room ∙ rw renewed, given.within-size)

    -- a block that is taken holds a written byte
    new-written : (x : ℕ) → In x new → In x holds
    new-written x i = taken-written (file_blocks s entry) new (size_of s entry) offset (length bytes) x counts.0 counts.1 counts.2 i

    pub write-framed : Framed s (write path offset bytes time)
    unfolding after named write_at write_named
    write-framed =
        let ns : List ℕ = entry / 512 ∷ (holds ++ entries) in
        let first : (x : ℕ) → In x (entry / 512 ∷ []) → In x ns = in-single (entry / 512) ns (inl refl) in
        let larger = grown s n (last_or 0 old) new in
        let filled = put larger (old ++ new) offset bytes in
        let a : Agree s larger ns = agree-more (grown-agree n S.least new s (last_or 0 old) S.whole before new-below)
        (λ x i. inr (⊎_elim (λ j. in_left x holds entries (new-written x j)) (λ j. in_right x holds entries j) (in-append x new entries i))) in
        let b : Agree larger filled ns = agree-more (put-agree n S.least (old ++ new) larger offset bytes (a.size ∙ S.whole) inside) (λ x i. inr (in_left x holds entries i)) in
        let c : Agree s filled ns = agree_then a b (λ x i. i) (λ x i. i) in
        framed-by entry E (write path offset bytes time) (holds ++ entries) refl
        (agree_then c (file-agree s S entry E filled (get_or (old ++ new) 0 0) (new_size s entry offset (length bytes)) (length (old ++ new)) time (c.size ∙ S.whole)) (λ x i. i) first)
        (λ x i. ⊎_elim (λ j. inside x (written_in (old ++ new) offset (length bytes) x j))
        (λ j. omega (arith, entries-low n (changed_entries (last_or 0 old) new) (changed-below n (last_or 0 old) new before new-below) x j, S.least)) (in-append x holds entries i))

-- the file is shortened, then written
replace-framed : (s path bytes : List ℕ) (time : ℕ) → check s ≡ 0 → replace_refusal s path (length bytes) ≡ 0 → Framed s (replace path bytes time)
unfolding after named replace_at replace_named shorten_named
replace-framed s path bytes time ok r =
    let e : ℕ = entry_of is_file s path in
    let m : ℕ = min (size_of s e) (length bytes) in
    let t : List ℕ = shorten_at s e m time in
    let A = file-at-path s path (replace-there s path (length bytes) r) in
    let one : Framed s (shorten path m time) = shorten-framed s (sound s ok) path A m time (replace-shorten s path (length bytes) r).less in
    let two : Framed s (write path 0 bytes time) = write-framed s (sound s ok) path 0 bytes time (replace-given s path (length bytes) r) in
    let second : Agree t (write_at t e 0 bytes time) (write_named s e 0 (length bytes)) =
    subst (Agree t (write_at t e 0 bytes time)) (replace-names s path ok (length bytes) time r)
    (subst (λ (x : ℕ). Agree t (write_at t x 0 bytes time) (write_named t x 0 (length bytes))) (short-entry s path ok (length bytes) time r)
    (write-framed t (sound t (short-sound s path ok (length bytes) time r)) path 0 bytes time (replace-write s path ok (length bytes) time r)).agree) in
    let ns : List ℕ = written (kept_blocks s e m) m (tail_length (size_of s e) m) ++ (cut_blocks s e m ++ entries_named (changed_entries (last_or 0 (kept_blocks s e m)) (cut_blocks s e m))) in
    let ws : List ℕ = write_named s e 0 (length bytes) in
    framed-by s (sound s ok) e (at_entry s (sound s ok) is_file path A) (replace path bytes time) (ns ++ ws) refl
    (agree_then one.agree second (λ x i. in_left x (e / 512 ∷ ns) ws i) (λ x i. in_right x (e / 512 ∷ ns) ws i))
    (λ x i. ⊎_elim (λ j. one.inside x (in-has-eqb x (e / 512 ∷ ns) (inr j))) (λ j. two.inside x (in-has-eqb x ws j)) (in-append x ns ws i))

move-framed : (s path to : List ℕ) → check s ≡ 0 → move_refusal s path to ≡ 0 → Framed s (move path to)
unfolding after named move_named
move-framed s path to ok r =
    let G = move-given s path to r in
    bounded-framed s (sound s ok) (entry_of is_file s path) (old-entry s path to ok G) (move path to) (move_place s path to / 512 ∷ []) refl (move-bounded s path to ok G)

pub frame : (s : List ℕ) (c : Change) → check s ≡ 0 → refusal s c ≡ 0 → Framed s c
unfolding refusal
frame s (create path type user group permissions flags time) ok r = create-framed s (sound s ok) path type user group permissions flags time r
frame s (write path offset bytes time) ok r = write-framed s (sound s ok) path offset bytes time (write-given s path offset (length bytes) r)
frame s (delete path) ok r = delete-framed s (sound s ok) path (file-at-path s path r)
frame s (create_directory path type user group permissions flags time d) ok r = create-directory-framed s (sound s ok) path type user group permissions flags time d r
frame s (delete_directory path) ok r = delete-directory-framed s (sound s ok) path r
frame s (set_attributes path bytes) ok r = set-framed s (sound s ok) path (file-at-path s path (set-path s path (length bytes) r)) bytes (set_given s path (length bytes) r)
frame s (clear_attributes path) ok r = clear-framed s (sound s ok) path (file-at-path s path r)
frame s (clear_flags path) ok r = flags-framed s (sound s ok) path (file-at-path s path r)
frame s (shorten path size time) ok r = let G = shorten-given s path size r in shorten-framed s (sound s ok) path (file-at-path s path G.there) size time G.less
frame s (replace path bytes time) ok r = replace-framed s path bytes time ok r
frame s (move path to) ok r = move-framed s path to ok r
