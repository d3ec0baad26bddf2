-- The refusals of a put, in the order in which the code takes its tests.
use Prim.Native.Nat.{ℕ, zero, suc, ◌+◌, ◌-◌, ◌≤◌}
use mathlib.Core.Path.{◌≡◌, refl, sym, ap, ◌∙◌}
use mathlib.Core.Bool.{Bool, true, false, cond}
use mathlib.Core.List.{List, [], append-nil}
use native.Mathlib.Omega.{arith}
use borrow.Author.Tests.{le-leb}
use lib.ListN.{length, length-append}
use lib.Dec.{leb}
use Rattle.layout.specs.Refusals.{require, first_of}
use Rattle.layout.specs.Bytes.{bytes4, zeros}
use Rattle.layout.specs.Geometry.{block_count}
use Rattle.layout.specs.Table.{next, free_blocks}
use Rattle.layout.specs.Directory.{size_of, is_file, content}
use Rattle.layout.specs.Check.{check}
use Rattle.layout.specs.Paths.{entry_of, file_refusal}
use Rattle.volume.specs.Create.{place_refusal, new_refusal, create_refusal, create_image, place}
use Rattle.volume.specs.Write.{new_size, needed, write_at_refusal}
use Rattle.store.specs.Settings.{max_setting, record_bytes, whole_file, encoded, held, revisions, latest, added}
use Rattle.store.specs.Put.{path_of, address_refusal, is_there, stored, opened, entry_at, rewritten, form_refusal, put_refusal}
use Rattle.store.specs.Walks.Puts.{rewritten_at, more_refusal, first_refusal}
use Rattle.store.specs.Walks.Addresses.{Addressed}
use Rattle.layout.proofs.Laws.Tests.{first_of-refused}
use Rattle.layout.proofs.Laws.Bytes.{length-zeros}
use Rattle.volume.proofs.Laws.Effects.{create-entry}
use Rattle.store.proofs.Laws.Serials.{address-right, serial-path, serial-shallow}
use Rattle.volume.proofs.Laws.Created.{created-size, created-blocks, created-free}

-- whether there is a file, by the refusal of its path
module _ (s directory serial : List ℕ) (right : Addressed directory serial) where
  by-there : file_refusal s (path_of directory serial) ≡ require (is_there s directory serial) 10 0
  unfolding is_there file_refusal
  by-there = rw (serial-path directory serial right, serial-shallow directory serial right)

  pub there-if : file_refusal s (path_of directory serial) ≡ 0 → is_there s directory serial ≡ true
  there-if z = go (is_there s directory serial) (sym by-there ∙ z)
    where
      go : (b : Bool) → require b 10 0 ≡ 0 → b ≡ true
      go true q = refl
      go false q = absurd (omega arith)

  pub absent-if : (file_refusal s (path_of directory serial) ≡ 0 → ⊥) → is_there s directory serial ≡ false
  absent-if h = go (is_there s directory serial) (λ z. h (by-there ∙ z))
    where
      go : (b : Bool) → (require b 10 0 ≡ 0 → ⊥) → b ≡ false
      go true q = absurd (q refl)
      go false q = refl

-- the first put's file: five bytes, and one record
pub first-whole : (bytes : List ℕ) → length (whole_file (added [] bytes)) ≡ 10 + length bytes
unfolding whole_file added record_bytes latest bytes4
first-whole bytes = rw (append-nil bytes) (omega arith)

pub first-length : (bytes : List ℕ) → length (encoded (added [] bytes) 0) ≡ 10 + length bytes
unfolding encoded
first-length bytes =
    let w : List ℕ = whole_file (added [] bytes) in
    omega (arith, length-append w (zeros (0 - length w)), length-zeros (0 - length w), first-whole bytes)

module _ (s directory serial : List ℕ) (time : ℕ) (bytes : List ℕ) where
  pub address-refused : (k : ℕ) → k ≡ address_refusal directory serial (leb (length bytes) max_setting) → (k ≡ 0 → ⊥) → k ≡ put_refusal s directory serial time bytes
  unfolding put_refusal
  address-refused k e n = rw (← e) (sym (first_of-refused k _ n))

  module _ (right : Addressed directory serial) (short : length bytes ≤ max_setting) where
    abbrev room : ℕ
    room = require (leb (needed (opened s directory serial time) (entry_at s directory serial time) 0 (length (rewritten s directory serial time bytes))) (length (free_blocks (next (opened s directory serial time)) (block_count (opened s directory serial time))))) 14 0

    by_form : put_refusal s directory serial time bytes ≡ first_of (cond (is_there s directory serial) (form_refusal (stored s directory serial)) (place_refusal s (path_of directory serial))) room
    unfolding put_refusal
    by_form = rw (address-right directory serial right (leb (length bytes) max_setting) (le-leb (length bytes) max_setting short))

    -- THERE IS A FILE
    module _ (there : is_there s directory serial ≡ true) where
      abbrev e : ℕ
      e = entry_of is_file s (path_of directory serial)

      pub there-opened : opened s directory serial time ≡ s
      unfolding opened
      there-opened = rw there

      pub there-entry : entry_at s directory serial time ≡ entry_of is_file s (path_of directory serial)
      unfolding entry_at
      there-entry = rw there-opened

      pub there-stored : stored s directory serial ≡ revisions (content s (entry_of is_file s (path_of directory serial)))
      unfolding stored
      there-stored = rw there

      pub there-rewritten : rewritten s directory serial time bytes ≡ rewritten_at s (entry_of is_file s (path_of directory serial)) bytes
      unfolding rewritten rewritten_at
      there-rewritten = rw (there-stored, there-entry, there-opened)

      pub there-refusal : put_refusal s directory serial time bytes ≡ more_refusal s (entry_of is_file s (path_of directory serial)) bytes
      unfolding write_at_refusal more_refusal
      there-refusal = by_form ∙ rw (there, there-stored, there-rewritten, there-entry, there-opened, le-leb 0 (size_of s e) (omega arith))

    -- THERE IS NONE
    module _ (absent : is_there s directory serial ≡ false) where
      pub absent-opened : opened s directory serial time ≡ create_image s (path_of directory serial) 0x60 0 0 0 0 time
      unfolding opened
      absent-opened = rw absent

      pub absent-stored : stored s directory serial ≡ held []
      unfolding stored
      absent-stored = rw absent

      module _ (placed : place_refusal s (path_of directory serial) ≡ 0) (ok : check s ≡ 0) where
        pub absent-created : create_refusal s (path_of directory serial) 0x60 0 ≡ 0
        unfolding create_refusal new_refusal
        absent-created = rw (serial-path directory serial right, serial-shallow directory serial right, placed)

        pub absent-entry : entry_at s directory serial time ≡ place s (path_of directory serial)
        unfolding entry_at
        absent-entry = rw absent-opened (create-entry s (path_of directory serial) ok 0x60 0 0 0 0 time absent-created)

        pub absent-rewritten : rewritten s directory serial time bytes ≡ encoded (added [] bytes) 0
        unfolding rewritten
        absent-rewritten = rw (absent-stored, absent-entry, absent-opened, created-size s (path_of directory serial) ok 0x60 0 0 0 0 time absent-created)

        pub absent-length : length (rewritten s directory serial time bytes) ≡ 10 + length bytes
        absent-length = ap length absent-rewritten ∙ first-length bytes

        -- the first put needs one block
        pub absent-needed : needed (opened s directory serial time) (entry_at s directory serial time) 0 (length (rewritten s directory serial time bytes)) ≡ 1
        unfolding needed new_size
        absent-needed =
            rw (absent-length, absent-entry, absent-opened, created-size s (path_of directory serial) ok 0x60 0 0 0 0 time absent-created, created-blocks s (path_of directory serial) ok 0x60 0 0 0 0 time absent-created) (omega arith)

        pub absent-free : free_blocks (next (opened s directory serial time)) (block_count (opened s directory serial time)) ≡ free_blocks (next s) (block_count s)
        absent-free = rw absent-opened (created-free s (path_of directory serial) ok 0x60 0 0 0 0 time absent-created)

        by-room : room ≡ require (leb 1 (length (free_blocks (next s) (block_count s)))) 14 0
        by-room = rw (absent-needed, absent-free)

      pub absent-refusal : check s ≡ 0 → put_refusal s directory serial time bytes ≡ first_refusal s (path_of directory serial)
      unfolding first_refusal
      absent-refusal ok = by_form ∙ rw absent (go (place_refusal s (path_of directory serial)) refl)
        where
          go : (r : ℕ) → place_refusal s (path_of directory serial) ≡ r → first_of r room ≡ first_of r (require (leb 1 (length (free_blocks (next s) (block_count s)))) 14 0)
          go zero z = by-room z ok
          go (suc r) z = refl
