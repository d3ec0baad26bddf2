-- What a put finds out of the file that is there, and writes to it.
use Prim.Native.Nat.{ℕ, zero, suc, ◌+◌, ◌-◌, ◌*◌, ◌/◌, ◌≤◌, ◌<◌, max}
use mathlib.Core.Path.{◌≡◌, refl, sym, ap, ◌∙◌, subst}
use mathlib.Core.Bool.{Bool, true, false}
use mathlib.Core.List.{List, [], ◌∷◌, ◌++◌}
use mathlib.Core.Logic.{inl, inr, ⊎_elim}
use native.Mathlib.Omega.{arith}
use native.Mathlib.Numerals.{add-one}
use borrow.Author.Tests.{leb-true, le-leb, lt-ltb, le-ltb}
use lib.ListN.{length, get_or, take, drop, length-append, length-take, get_or-append}
use lib.Dec.{leb}
use lib.Seq.{take_all, drop_at, drop-append-add, get_or-append-add}
use Rattle.layout.specs.Lists.{last_or, joined}
use Rattle.layout.specs.Bytes.{bytes4, part, block, zeros}
use Rattle.layout.specs.Geometry.{block_count, blocks_for}
use Rattle.layout.specs.Table.{next, free_blocks}
use Rattle.layout.specs.Directory.{size_of, blocks_of, is_file, file_blocks, content}
use Rattle.layout.specs.Check.{check}
use Rattle.layout.specs.Paths.{file_refusal}
use Rattle.layout.specs.Walks.Shapes.{ChainBelow}
use Rattle.layout.specs.Walks.Looks.{Located}
use Rattle.layout.specs.Walks.Slots.{entry_at}
use Rattle.volume.specs.Write.{new_size, needed, new_blocks, written, write_at, changed_entries, write_named, write_at_refusal}
use Rattle.volume.specs.Entries.{entries_named}
use Rattle.volume.specs.Walks.Targets as targets
use Rattle.store.specs.Settings.{max_setting, max_number, Revision, record_bytes, whole_file, encoded, held, revisions, latest, added}
use Rattle.store.specs.Put.{held_in, form_refusal}
use Rattle.store.specs.Walks.Forms.{max_form, bytes_of, in_room, Summary, Parsed, length_after}
use Rattle.store.specs.Walks.Puts.{held_at, rewritten_at, more_refusal, Weighed}
use Rattle.layout.proofs.Laws.Tests.{require-zero, first_of-zero, lt-or-ge}
use Rattle.layout.proofs.Laws.Bytes.{length-zeros, zeros-add}
use Rattle.layout.proofs.Walks.Looks.{located-below}
use Rattle.volume.proofs.Laws.Effects.{content-length}
use Rattle.volume.proofs.Walks.Write.{blocks-for, blocks-most}
use Rattle.store.specs.Claims.{Bytes}
use Rattle.store.proofs.Laws.Put.{form-held}
use Rattle.store.proofs.Laws.Whole.{bytes_drop, bytes_take, written-again}
use Rattle.volume.proofs.Laws.Fronts.{write-front}
use Rattle.store.proofs.Walks.Rewriting.{standing-length, added-length, added-most, encoded-take}

-- the content of an image's file is bytes
bytes-append : (xs ys : List ℕ) → Bytes xs → Bytes ys → Bytes (xs ++ ys)
bytes-append xs ys a b i = ⊎_elim (λ h. rw (get_or-append xs ys 0 i h) (a i))
    (λ h. let e : i ≡ length xs + (i - length xs) = omega arith in subst (λ (j : ℕ). get_or (xs ++ ys) j 0 < 256) (sym e) (rw (get_or-append-add xs ys (i - length xs) 0) (b (i - length xs)))) (lt-or-ge i (length xs))

bytes-blocks : (s bs : List ℕ) → Bytes s → Bytes (joined (block s) bs)
bytes-blocks s [] small i = omega arith
bytes-blocks s (b ∷ bs) small i = bytes-append (block s b) (joined (block s) bs) (bytes_take 512 (drop (512 * b) s) (bytes_drop (512 * b) s small)) (bytes-blocks s bs small) i

content-bytes : (s : List ℕ) (e : ℕ) → Bytes s → Bytes (content s e)
unfolding content
content-bytes s e small = bytes_take (size_of s e) (joined (block s) (file_blocks s e)) (bytes-blocks s (file_blocks s e) small)

length-encoded : (rs : List Revision) (size : ℕ) → length (encoded rs size) ≡ max size (length (whole_file rs))
unfolding encoded
length-encoded rs size = length-append (whole_file rs) (zeros (size - length (whole_file rs))) ∙ (let z = length-zeros (size - length (whole_file rs)) in omega arith)

-- behind the records there are zeros
drop-encoded : (rs : List Revision) (size k : ℕ) → length (whole_file rs) ≤ k → k ≤ size → drop k (encoded rs size) ≡ zeros (size - k)
unfolding encoded
drop-encoded rs size k h g =
    let e : k ≡ length (whole_file rs) + (k - length (whole_file rs)) = omega arith in
    let z : size - length (whole_file rs) ≡ (k - length (whole_file rs)) + (size - k) = omega arith in
    ap (λ (i : ℕ). drop i (whole_file rs ++ zeros (size - length (whole_file rs)))) e
    ∙ drop-append-add (whole_file rs) (zeros (size - length (whole_file rs))) (k - length (whole_file rs))
    ∙ ap (λ (i : ℕ). drop (k - length (whole_file rs)) (zeros i)) z ∙ ap (drop (k - length (whole_file rs))) (zeros-add (k - length (whole_file rs)) (size - k))
    ∙ drop_at (zeros (k - length (whole_file rs))) (zeros (size - k)) (k - length (whole_file rs)) (length-zeros (k - length (whole_file rs)))

-- less data is accepted where more is
written-less : (s : List ℕ) (e a k : ℕ) → k ≤ a → write_at_refusal s e 0 a ≡ 0 → write_at_refusal s e 0 k ≡ 0
unfolding write_at_refusal needed new_size
written-less s e a k h r =
    let x = require-zero (leb 0 (size_of s e)) 11 _ r in
    let y = require-zero (leb (blocks_for (max (size_of s e) (0 + a)) - blocks_of s e) (length (free_blocks (next s) (block_count s)))) 13 _ x.1 in
    let z : blocks_for (max (size_of s e) (0 + a)) - blocks_of s e ≤ length (free_blocks (next s) (block_count s)) = leb-true _ _ y.0 in
    rw (x.0, le-leb (blocks_for (max (size_of s e) (0 + k)) - blocks_of s e) (length (free_blocks (next s) (block_count s))) (omega arith))

-- the records with one more are longer by that one at most
body-drop : (k : ℕ) (rs : List Revision) → length (joined record_bytes (drop k rs)) ≤ length (joined record_bytes rs)
body-drop zero rs = omega arith
body-drop (suc k) [] = omega arith
body-drop (suc k) (r ∷ rs) = let l = length-append (record_bytes r) (joined record_bytes rs) in let ih = body-drop k rs in omega arith

body-append : (xs ys : List Revision) → length (joined record_bytes (xs ++ ys)) ≡ length (joined record_bytes xs) + length (joined record_bytes ys)
body-append [] ys = omega arith
body-append (r ∷ xs) ys =
    let a = length-append (record_bytes r) (joined record_bytes (xs ++ ys)) in
    let b = length-append (record_bytes r) (joined record_bytes xs) in
    let ih = body-append xs ys in
    omega arith

whole-body : (rs : List Revision) → length (whole_file rs) ≡ 5 + length (joined record_bytes rs)
unfolding whole_file bytes4
whole-body rs = let l = length-append (bytes4 (5 + length (joined record_bytes rs))) (joined record_bytes rs) in omega arith

more-longer : (rs : List Revision) (bytes : List ℕ) → length (whole_file (added rs bytes)) ≤ length (whole_file rs) + (5 + length bytes)
unfolding added record_bytes bytes4
more-longer rs bytes =
    let new : Revision = record { number = suc (latest rs); bytes = bytes } in
    let a = whole-body (drop (length rs - 15) rs ++ (new ∷ [])) in
    let b = whole-body rs in
    let c = body-append (drop (length rs - 15) rs) (new ∷ []) in
    let d = body-drop (length rs - 15) rs in
    let e = length-append bytes [] in
    omega arith

-- two lengths that need the same blocks name the same
written_same : (bs : List ℕ) (a c : ℕ) → blocks_for a ≡ blocks_for c → 0 < a → 0 < c → written bs 0 a ≡ written bs 0 c
unfolding written
written_same bs zero c q h g = absurd (omega arith)
written_same bs (suc a) zero q h g = absurd (omega arith)
written_same bs (suc a) (suc c) q h g =
    let z : blocks_for (0 + suc a) ≡ blocks_for (0 + suc c) = omega (arith, q) in
    ap (part bs 0) z

new-same : (s : List ℕ) (e a c : ℕ) → needed s e 0 a ≡ needed s e 0 c → new_blocks s e 0 a ≡ new_blocks s e 0 c
unfolding new_blocks
new-same s e a c n = ap (λ (k : ℕ). take k (free_blocks (next s) (block_count s))) n

named-same : (s : List ℕ) (e a c : ℕ) → needed s e 0 a ≡ needed s e 0 c → blocks_for a ≡ blocks_for c → 0 < a → 0 < c → write_named s e 0 a ≡ write_named s e 0 c
unfolding write_named
named-same s e a c n q h g =
    let old = file_blocks s e in
    let new = new_blocks s e 0 c in
    ap (λ (x : List ℕ). e / 512 ∷ (written (old ++ x) 0 a ++ entries_named (changed_entries (last_or 0 old) x))) (new-same s e a c n)
    ∙ ap (λ (x : List ℕ). e / 512 ∷ (x ++ entries_named (changed_entries (last_or 0 old) new))) (written_same (old ++ new) a c q h g)

-- A FILE THAT WAS FOUND, on a sound image, and its first bytes in a room
module _ {s : List ℕ} {slot b first size blocks : ℕ} (st : targets.Standing s (file_refusal s) slot b first size blocks) (ok : check s ≡ 0) where
  o : Located is_file s st.path slot b first size blocks
  o = st.located

  abbrev e : ℕ
  e = entry_at b slot

  pub file-below : ChainBelow s (block_count s) first blocks
  file-below = located-below o st.accepted ok

  pub file-inside : size ≤ 512 * blocks
  file-inside = let z = blocks-for o st.accepted ok in omega arith

  pub file-small : size ≤ 33554432
  file-small = let z = file-inside in let m = blocks-most o st.accepted ok in omega arith

  pub file-blocks : blocks ≤ 65536
  file-blocks = blocks-most o st.accepted ok

  -- its numbers and content
  size_is : size_of s e ≡ size
  size_is = ap (size_of s) o.place ∙ sym o.bytes

  blocks_is : blocks_of s e ≡ blocks
  blocks_is = ap (blocks_of s) o.place ∙ sym o.count

  content-is : bytes_of s first size blocks ≡ content s e
  unfolding bytes_of content file_blocks
  content-is = rw (o.place, o.start, o.bytes, o.count)

  content-long : length (content s e) ≡ size
  content-long = rw o.place (content-length s st.path ok st.accepted) ∙ sym o.bytes

  -- a put for which there is room in the file's blocks, whatever it drops
  module _ (byte-s : Bytes s) (bytes : List ℕ) (r : more_refusal s (entry_at b slot) bytes ≡ 0) where
    form-right : form_refusal (revisions (content s e)) ≡ 0
    unfolding more_refusal
    form-right = (first_of-zero (form_refusal (revisions (content s e))) _ r).0

    whole-most : length (whole_file (held_at s e)) ≤ size
    whole-most =
        let a = ap length (written-again (content s e) (held_at s e) (content-bytes s e byte-s) (form-held (revisions (content s e)) form-right).0) in
        let l = length-encoded (held_at s e) (length (content s e)) in
        omega (arith, content-long)

    spare-long : length (rewritten_at s e bytes) ≡ max size (length (whole_file (added (held_at s e) bytes)))
    unfolding rewritten_at
    spare-long = length-encoded (added (held_at s e) bytes) (size_of s e) ∙ ap (λ (x : ℕ). max x (length (whole_file (added (held_at s e) bytes)))) size_is

    pub spare-accepted : write_at_refusal s (entry_at b slot) 0 size ≡ 0
    unfolding more_refusal
    spare-accepted = let l = spare-long in written-less s e (length (rewritten_at s e bytes)) size (omega arith) (first_of-zero (form_refusal (revisions (content s e))) _ r).1

    pub spare-named : size + 5 + length bytes ≤ 512 * blocks → write_named s (entry_at b slot) 0 size ≡ write_named s (entry_at b slot) 0 (length (rewritten_at s (entry_at b slot) bytes))
    unfolding needed new_size
    spare-named h =
        let l = spare-long in
        let w = whole-most in
        let m = more-longer (held_at s e) bytes in
        let f = whole-body (held_at s e) in
        let z = blocks-for o st.accepted ok in
        let k = size_is in
        let j = blocks_is in
        named-same s e size (length (rewritten_at s e bytes)) (rw (k, j) (omega arith)) (omega arith) (omega arith) (omega arith)

  module _ (room : List ℕ) (right : Bool) (used count last oldest : ℕ) (P : Parsed (revisions (bytes_of s first size blocks)) room right used count last oldest) where
    abbrev rs : List Revision
    rs = in_room room used

    found-is : revisions (content s e) ≡ revisions (bytes_of s first size blocks)
    found-is = ap revisions (sym content-is)

    pub weighed-form : right ≡ false → (bytes : List ℕ) (r z : ℕ) → r ≡ 24 → Weighed s (entry_at b slot) bytes r z
    weighed-form q bytes r z n = record { number_is = n ∙ sym (ap form_refusal (found-is ∙ P.wrong q)); size_is = λ y. absurd (omega arith); small = λ y. absurd (omega arith) }

    -- it is of the form
    module _ (q : right ≡ true) where
      stood : Summary room used count last oldest
      stood = (P.right q).1

      held-is : revisions (content s e) ≡ held rs
      held-is = found-is ∙ (P.right q).0

      pub weighed-last : last ≡ max_number → (bytes : List ℕ) (r z : ℕ) → r ≡ 25 → Weighed s (entry_at b slot) bytes r z
      weighed-last m bytes r z n =
          record { number_is = n ∙ sym (ap form_refusal held-is ∙ rw (le-ltb (latest rs) max_number (let l = stood.latest-is in omega arith))); size_is = λ y. absurd (omega arith); small = λ y. absurd (omega arith) }

      module _ (bytes : List ℕ) (short : length bytes ≤ max_setting) (byte : Bytes room) (long : length room ≡ max_form) where
        pub weighed-size : last < max_number → (z : ℕ) → z ≡ max size (length_after used count oldest (length bytes)) → Weighed s (entry_at b slot) bytes 0 z
        unfolding rewritten_at
        weighed-size m z n =
            let h : held_at s e ≡ rs = ap held_in held-is in
            let l = length-encoded (added rs bytes) size in
            let a = added-length room used count last oldest byte long stood bytes short in
            let a₂ = added-most room used count last oldest byte long stood bytes short in
            record {
              number_is = sym (ap form_refusal held-is ∙ rw (lt-ltb (latest rs) max_number (let x = stood.latest-is in omega arith)));
              size_is = λ y. rw (h, size_is) (n ∙ ap (max size) (sym a) ∙ sym l);
              small = λ y. let g = file-small in omega arith;
            }

        -- the front of the file as rewritten is written: the records, and zeros where they were longer
        module _ (byte-s : Bytes s) (new : List ℕ) (used' k : ℕ) (ne : new ≡ encoded (added (in_room room used) bytes) max_form) (ue : used' ≡ length (whole_file (added (in_room room used) bytes)))
            (ke : k ≡ max used used')
          where
            abbrev w : List ℕ
            w = encoded (added rs bytes) size

            rewritten-is : rewritten_at s e bytes ≡ w
            unfolding rewritten_at
            rewritten-is = let h : held_at s e ≡ rs = ap held_in held-is in rw (h, size_is)

            long-w : length w ≡ max size used'
            long-w = length-encoded (added rs bytes) size ∙ ap (max size) (sym ue)

            whole-used : length (whole_file rs) ≡ used
            whole-used = standing-length room used count last oldest byte long stood

            again : encoded rs size ≡ content s e
            again = ap (encoded rs) (sym content-long) ∙ written-again (content s e) rs (content-bytes s e byte-s) held-is

            used-most : used ≤ size
            used-most = let a = ap length again in let l = length-encoded rs size in omega (arith, content-long, whole-used)

            new-most : used' ≤ max_form
            new-most = let a = added-length room used count last oldest byte long stood bytes short in let m = added-most room used count last oldest byte long stood bytes short in omega arith

            pub more-fits : k ≤ length new
            more-fits =
                let l = ap length ne ∙ length-encoded (added rs bytes) max_form in
                let h = stood.high in
                let m = new-most in
                omega arith

            front-is : take k new ≡ take k w
            front-is = ap (take k) ne ∙ encoded-take (added rs bytes) k max_form size (⊎_elim (λ h. inr (let g = stood.high in let m = used-most in (omega arith, omega arith))) (λ h. inl (omega arith)) (lt-or-ge used' used))

            pub more-accepted : more_refusal s (entry_at b slot) bytes ≡ 0 → write_at_refusal s (entry_at b slot) 0 (length (take k new)) ≡ 0
            unfolding more_refusal
            more-accepted r =
                let z : write_at_refusal s e 0 (length w) ≡ 0 = ap (λ (x : List ℕ). write_at_refusal s e 0 (length x)) (sym rewritten-is) ∙ (first_of-zero (form_refusal (revisions (content s e))) _ r).1 in
                let l = ap length front-is ∙ length-take k w in
                written-less s e (length w) (length (take k new)) (omega arith) z

            end_is : used' ≤ size → drop k w ≡ drop k (content s e)
            end_is h =
                let m = used-most in
                drop-encoded (added rs bytes) size k (omega arith) (omega arith)
                ∙ sym (ap (drop k) (sym again) ∙ drop-encoded rs size k (omega (arith, whole-used)) (omega arith))

            fronts : (v : List ℕ) (j time : ℕ) → length v ≡ size_of s e → drop j v ≡ drop j (content s e) → write_at s e 0 (take j v) time ≡ write_at s e 0 v time
            fronts =
                subst (λ (x : ℕ). (v : List ℕ) (j time : ℕ) → length v ≡ size_of s x → drop j v ≡ drop j (content s x) → write_at s x 0 (take j v) time ≡ write_at s x 0 v time) (sym o.place)
                (write-front s st.path ok st.accepted)

            pub more-image : (time : ℕ) → write_at s (entry_at b slot) 0 (take k new) time ≡ write_at s (entry_at b slot) 0 (rewritten_at s (entry_at b slot) bytes) time
            more-image time =
                ap (λ (x : List ℕ). write_at s e 0 x time) front-is
                ∙ ⊎_elim (λ h. ap (λ (x : List ℕ). write_at s e 0 x time) (take_all k w (let l = long-w in omega arith)))
                (λ h. fronts w k time (let l = long-w in let z = size_is in omega arith) (end_is h)) (lt-or-ge size used')
                ∙ ap (λ (x : List ℕ). write_at s e 0 x time) (sym rewritten-is)

      pub more-number : last + 1 ≡ suc (latest (held_at s (entry_at b slot)))
      more-number = let h : held_at s e ≡ rs = ap held_in held-is in rw (h, add-one) (ap suc stood.latest-is)

    -- an accepted put has found it of the form
    module _ (bytes : List ℕ) (r : more_refusal s (entry_at b slot) bytes ≡ 0) where
      accepted : form_refusal (revisions (content s e)) ≡ 0
      unfolding more_refusal
      accepted = (first_of-zero (form_refusal (revisions (content s e))) _ r).0

      pub more-right : right ≡ true
      more-right = go right refl
        where
          go : (x : Bool) → right ≡ x → x ≡ true
          go true q = refl
          go false q = let z : form_refusal (revisions (content s e)) ≡ 24 = ap form_refusal (found-is ∙ P.wrong q) in absurd (omega (arith, z, accepted))

      pub more-summary : Summary room used count last oldest
      more-summary = (P.right more-right).1

      pub more-low : last < max_number
      more-low =
          let h : held_at s e ≡ rs = ap held_in (held-is more-right) in
          let l : latest (held_at s e) < max_number = (form-held (revisions (content s e)) accepted).1 in
          let g : latest rs < max_number = (rw h at l) in
          let x = more-summary.latest-is in
          omega arith
