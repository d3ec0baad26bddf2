-- The first put of a serial number: what it names, its file just made, and what it writes to it.
use Prim.Native.Nat.{ℕ, suc, ◌+◌, ◌/◌, ◌%◌, ◌≤◌}
use mathlib.Core.Path.{◌≡◌, sym, ap, ◌∙◌}
use mathlib.Core.Bool.{false}
use mathlib.Core.List.{List, [], ◌∷◌, ◌++◌}
use mathlib.Core.Logic.{inl}
use native.Mathlib.Omega.{arith}
use borrow.Author.Tests.{leb-true, le-leb}
use lib.ListN.{length, take}
use lib.Dec.{leb}
use lib.Seq.{take_all}
use Rattle.layout.specs.Refusals.{require}
use Rattle.layout.specs.Bytes.{part}
use Rattle.layout.specs.Geometry.{block_count, blocks_for}
use Rattle.layout.specs.Table.{next, free_blocks}
use Rattle.layout.specs.Directory.{size_of, is_file, file_blocks}
use Rattle.layout.specs.Check.{check}
use Rattle.layout.specs.Paths.{entry_of, file_refusal}
use Rattle.layout.specs.Walks.Slots as slots
use Rattle.volume.specs.Entries.{entries_named}
use Rattle.volume.specs.Create.{place_refusal, create_image, place}
use Rattle.volume.specs.Write.{needed, new_blocks, write_at, written, changed_entries, write_named, write_at_refusal}
use Rattle.volume.specs.Walks.Marks.{marked}
use Rattle.volume.specs.Walks.Places.{Vacant}
use Rattle.volume.specs.Walks.Targets.{Standing}
use Rattle.store.specs.Settings.{max_setting, whole_file, encoded, latest, added}
use Rattle.store.specs.Put.{path_of, is_there, opened, entry_at, rewritten, put_image, put_named, put_revision, put_refusal}
use Rattle.store.specs.Walks.Forms.{max_form, in_room}
use Rattle.store.specs.Walks.Puts.{first_refusal}
use Rattle.store.specs.Walks.Addresses.{Addressed}
use Rattle.layout.proofs.Laws.Tests.{require-zero, first_of-zero}
use Rattle.layout.proofs.Laws.Bytes.{length-take-most}
use Rattle.volume.proofs.Laws.Create.{kept-create}
use Rattle.volume.proofs.Laws.Effects.{create-entry, create-slot-found}
use Rattle.volume.proofs.Laws.Created.{created-length, created-first, created-size, created-blocks, created-none, created-free}
use Rattle.store.proofs.Laws.Put.{put-serial, put-short, opened-accepted}
use Rattle.store.proofs.Walks.Refusals.{absent-refusal, absent-opened, absent-stored, absent-created, absent-entry, absent-rewritten, absent-length, absent-needed, absent-free, first-whole, first-length}
use Rattle.store.proofs.Walks.Rooms.{none_in}
use Rattle.store.proofs.Walks.Rewriting.{encoded-take}

module _ (s directory serial : List ℕ) (time : ℕ) (bytes : List ℕ) (ok : check s ≡ 0) (r : put_refusal s directory serial time bytes ≡ 0) (absent : is_there s directory serial ≡ false) where
  abbrev path : List ℕ
  path = path_of directory serial

  right : Addressed directory serial
  right = put-serial s directory serial time bytes ok r

  short : length bytes ≤ max_setting
  short = put-short s directory serial time bytes ok r

  abbrev free : List ℕ
  free = free_blocks (next s) (block_count s)

  abbrev t : List ℕ
  t = create_image s (path_of directory serial) 0x60 0 0 0 0 time

  tests : (place_refusal s path ≡ 0) × (require (leb 1 (length free)) 14 0 ≡ 0)
  unfolding first_refusal
  tests = first_of-zero (place_refusal s path) (require (leb 1 (length free)) 14 0) (sym (absent-refusal s directory serial time bytes right short absent ok) ∙ r)

  placed : place_refusal s path ≡ 0
  placed = tests.0

  pub first-room : 1 ≤ length (free_blocks (next s) (block_count s))
  first-room = leb-true _ _ (require-zero (leb 1 (length free)) 13 _ tests.1).0

  -- THE BLOCKS NAMED
  none_old : file_blocks (opened s directory serial time) (entry_at s directory serial time) ≡ []
  none_old = rw (absent-entry s directory serial time bytes right short absent placed ok, absent-opened s directory serial time bytes right short absent) (created-none s path ok 0x60 0 0 0 0 time (absent-created s directory serial time bytes right short absent placed ok))

  one-new : new_blocks (opened s directory serial time) (entry_at s directory serial time) 0 (length (rewritten s directory serial time bytes)) ≡ take 1 free
  unfolding new_blocks
  one-new = rw (absent-needed s directory serial time bytes right short absent placed ok, absent-free s directory serial time bytes right short absent placed ok)

  one_written : written (take 1 free) 0 (suc (9 + length bytes)) ≡ take 1 free
  unfolding written
  one_written =
      let z : blocks_for (0 % 512 + suc (9 + length bytes)) ≡ 1 = (let h = short in omega arith) in
      ap (λ (k : ℕ). part (take 1 free) 0 k) z ∙ take_all 1 (take 1 free) (length-take-most 1 free)

  module _ (h slot b : ℕ) (va : Vacant s (path_of directory serial) h slot b) where
    block-is : entry_at s directory serial time / 512 ≡ b
    block-is = let p = va.here in rw (absent-entry s directory serial time bytes right short absent placed ok) (omega arith)

    pub first-named : (m : List ℕ) → marked (marked m (b ∷ [])) (take 1 (free_blocks (next s) (block_count s)) ++ entries_named (changed_entries 0 (take 1 (free_blocks (next s) (block_count s))))) ≡ marked m (put_named s directory serial time bytes)
    unfolding put_named write_named marked
    first-named m =
        let ten : 10 + length bytes ≡ suc (9 + length bytes) = omega arith in
        rw (none_old, one-new, block-is, absent-length s directory serial time bytes right short absent placed ok, ten, one_written)

    -- THE FILE JUST MADE
    pub first-sound : check (create_image s (path_of directory serial) 0x60 0 0 0 0 time) ≡ 0
    first-sound = kept-create s path 0x60 0 0 0 0 time ok (absent-created s directory serial time bytes right short absent placed ok)

    at_place : slots.entry_at b slot ≡ entry_of is_file t path
    at_place = va.here ∙ sym (create-entry s path ok 0x60 0 0 0 0 time (absent-created s directory serial time bytes right short absent placed ok))

    pub first-standing : Standing (create_image s (path_of directory serial) 0x60 0 0 0 0 time) (file_refusal (create_image s (path_of directory serial) 0x60 0 0 0 0 time)) slot b 0 0 0
    first-standing =
        let c = absent-created s directory serial time bytes right short absent placed ok in
        let p : entry_of is_file t path ≡ place s path = create-entry s path ok 0x60 0 0 0 0 time c in
        let l = created-length s path ok 0x60 0 0 0 0 time c in
        record {
          path = path;
          accepted = rw (absent-opened s directory serial time bytes right short absent) at (opened-accepted s directory serial time bytes ok r);
          located = record {
            found = va.lowest ∙ sym (create-slot-found s path ok 0x60 0 0 0 0 time c);
            low = va.low;
            inside = let i = va.inside in omega arith;
            place = at_place;
            start = rw p (sym (created-first s path ok 0x60 0 0 0 0 time c));
            bytes = rw p (sym (created-size s path ok 0x60 0 0 0 0 time c));
            count = rw p (sym (created-blocks s path ok 0x60 0 0 0 0 time c));
          };
        }

    pub first-accepted : write_at_refusal (create_image s (path_of directory serial) 0x60 0 0 0 0 time) (slots.entry_at b slot) 0 (10 + length bytes) ≡ 0
    unfolding write_at_refusal
    first-accepted =
        let c = absent-created s directory serial time bytes right short absent placed ok in
        let n : needed t (place s path) 0 (10 + length bytes) ≡ 1 =
        ap (λ (k : ℕ). needed t (place s path) 0 k) (sym (absent-length s directory serial time bytes right short absent placed ok))
        ∙ (rw (absent-entry s directory serial time bytes right short absent placed ok, absent-opened s directory serial time bytes right short absent) at (absent-needed s directory serial time bytes right short absent placed ok)) in
        rw (va.here, n, created-free s path ok 0x60 0 0 0 0 time c, le-leb 0 (size_of t (place s path)) (omega arith), le-leb 1 (length free) first-room)

    pub first-image : write_at (create_image s (path_of directory serial) 0x60 0 0 0 0 time) (slots.entry_at b slot) 0 (encoded (added [] bytes) 0) time ≡ put_image s directory serial time bytes
    unfolding put_image
    first-image =
        rw (va.here, absent-rewritten s directory serial time bytes right short absent placed ok, absent-entry s directory serial time bytes right short absent placed ok, absent-opened s directory serial time bytes right short absent)

  pub first-revision : 1 ≡ put_revision s directory serial
  unfolding put_revision latest
  first-revision = rw (absent-stored s directory serial time bytes right short absent)

-- what the first put writes
module _ (old bytes new : List ℕ) (start used : ℕ) (five : start ≡ 5) (ne : new ≡ encoded (added (in_room old start) bytes) max_form) (ue : used ≡ length (whole_file (added (in_room old start) bytes))) where
  none : in_room old start ≡ []
  none = ap (in_room old) five ∙ none_in old

  pub first-used : used ≡ 10 + length bytes
  first-used = ue ∙ rw none (first-whole bytes)

  pub first-front : (k : ℕ) → k ≡ used → take k new ≡ encoded (added [] bytes) 0
  first-front k e =
      ap (λ (i : ℕ). take i new) e ∙ ap (take used) (ne ∙ rw none) ∙ encoded-take (added [] bytes) used max_form 0 (inl (omega (arith, first-used, first-whole bytes)))
      ∙ take_all used (encoded (added [] bytes) 0) (omega (arith, first-used, first-length bytes))
