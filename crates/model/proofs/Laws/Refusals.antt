-- The number with which a change is refused is the model's.
use Prim.Native.Nat.{ℕ, zero, suc, ◌+◌, ◌-◌, ◌/◌, ◌%◌, ◌≤◌, ◌<◌, max}
use mathlib.Core.Path.{◌≡◌, refl, sym, ap, ◌∙◌}
use mathlib.Core.Bool.{Bool, true, false, ◌&&◌, not, cond, false≢true}
use mathlib.Core.List.{List}
use mathlib.Core.Logic.{◌⊎◌, inl, inr, ◌≢◌}
use native.Mathlib.Omega.{arith}
use native.Mathlib.Decide.{ℕ_discrete}
use borrow.Author.Tests.{leb-true, le-leb, ne_eqb, eq-eqb}
use lib.ListN.{length}
use lib.Dec.{eqb, leb}
use Rattle.layout.specs.Refusals.{require, first_of}
use Rattle.layout.specs.Lists.{within}
use Rattle.layout.specs.Geometry.{block_count, blocks_for}
use Rattle.layout.specs.Table.{next, free_blocks}
use Rattle.layout.specs.Directory.{is_file, is_directory, is_used, size_of}
use Rattle.layout.specs.Check.{check}
use Rattle.layout.specs.Paths.{parts, path_ok, leading, shallow, home, path_slot, entry_of, file_refusal, directory_refusal}
use Rattle.volume.specs.Views as views
use Rattle.volume.specs.Views.{folder_at}
use Rattle.volume.specs.Create.{place_refusal, new_refusal, create_refusal}
use Rattle.volume.specs.Write.{new_size, needed, write_at_refusal, write_refusal}
use Rattle.volume.specs.Attributes.{emptied, set_attributes_refusal}
use Rattle.volume.specs.Directories.{create_directory_refusal, delete_directory_refusal}
use Rattle.volume.specs.Shorten.{shorten_refusal}
use Rattle.volume.specs.Replace.{replace_refusal}
use Rattle.volume.specs.Move.{move_slot, move_refusal}
use Rattle.volume.specs.Change as changes
use Rattle.volume.specs.Change.{create, write, delete, create_directory, delete_directory, set_attributes, clear_attributes, clear_flags, shorten, replace, move}
use Rattle.store.specs.Settings.{max_setting, encoded, added}
use Rattle.store.specs.Put.{path_of, address_refusal, is_there, stored, held_in, opened, entry_at, rewritten, form_refusal, put_refusal}
use Rattle.store.specs.Walks.Addresses.{Addressed}
use Rattle.store.specs.Views.{stored_in}
use Rattle.store.specs.Change.{Change, plain, put_in, refusal, after, subject, further}
use Rattle.store.proofs.Laws.Serials.{is_in, addressed, serial-path, serial-shallow, there-view, stored-view}
use Rattle.store.proofs.Theorems.{change-sound}
use Rattle.layout.proofs.Laws.Tests.{and_split, is_false, lt-or-ge, require-zero, true-not-false}
use Rattle.layout.proofs.Laws.Looks.{lookup-file}
use Rattle.layout.proofs.Laws.Owners.{free-count}
use Rattle.layout.proofs.Laws.Sound.{sound}
use Rattle.volume.proofs.Laws.Effects.{attributes-blocks}
use Rattle.volume.proofs.Laws.Places.{path-levels}
use Rattle.volume.proofs.Laws.Room.{room-is}
use Rattle.model.specs.Model.{File, Node, nothing, file, folder, Model, blocks, becomes, shows_nothing, shows_folder, settings, new, written, step, shows_file}
use Rattle.model.specs.Looks.{bytes_in, attributes_in, no_file}
use Rattle.model.specs.Refines.{as_folder, Shows, has_place, place_for, is_bare}
use Rattle.model.specs.Refusals.{in_folder, new_number, no_folder, room_number, put_number, refusal_in}
use Rattle.model.proofs.Laws.Nodes.{splice-length, is_shown_folder, settings-of, is-in}
use Rattle.model.proofs.Laws.Models.{nothing-blocks, own_at, free_one}
use Rattle.model.proofs.Laws.Steps.{refines, allowed}
use Rattle.model.proofs.Laws.Looks.{Both, Neither, either, number-shown}
use Rattle.model.proofs.Laws.Parents.{home-shown, taken-shown}

-- tests and numbers
leb-same : (a b c d : ℕ) → (a ≤ b → c ≤ d) → (c ≤ d → a ≤ b) → leb a b ≡ leb c d
leb-same a b c d f g = go (lt-or-ge b a)
  where
    go : (b < a) ⊎ (a ≤ b) → leb a b ≡ leb c d
    go (inr h) = le-leb a b h ∙ sym (le-leb c d (f h))
    go (inl h) = is_false (leb a b) (λ t. let w = leb-true a b t in omega arith) ∙ sym (is_false (leb c d) (λ t. let w = g (leb-true c d t) in omega arith))

first_of-same : (n x y : ℕ) → (n ≡ 0 → x ≡ y) → first_of n x ≡ first_of n y
first_of-same zero x y f = f refl
first_of-same (suc n) x y f = refl

require-same : (b : Bool) (n x y : ℕ) → (b ≡ true → x ≡ y) → require b n x ≡ require b n y
require-same true n x y f = f refl
require-same false n x y f = refl

-- the blocks of one node
write-room : (x : Node) (path : List ℕ) (offset : ℕ) (bytes : List ℕ) (time free : ℕ) → shows_file x ≡ true → offset ≤ length (bytes_in x)
    → leb (blocks_for (max (length (bytes_in x)) (offset + length bytes)) - blocks_for (length (bytes_in x))) free ≡ leb (blocks (becomes (plain (write path offset bytes time)) x)) (free + blocks x)
unfolding becomes
write-room nothing path offset bytes time free t h = absurd (false≢true t)
write-room (file f) path offset bytes time free t h =
    rw (splice-length f.bytes offset bytes h)
    (leb-same (blocks_for (max (length f.bytes) (offset + length bytes)) - blocks_for (length f.bytes)) free
    (blocks_for (max (length f.bytes) (offset + length bytes)) + length f.attributes / 512) (free + (blocks_for (length f.bytes) + length f.attributes / 512))
    (sums _ _ _ _) (sums-back _ _ _ _))
  where
    sums : (new old a k : ℕ) → new - old ≤ k → new + a ≤ k + (old + a)
    sums new old a k l = omega arith

    sums-back : (new old a k : ℕ) → new + a ≤ k + (old + a) → new - old ≤ k
    sums-back new old a k l = omega arith
write-room (folder d) path offset bytes time free t h = absurd (false≢true t)

set_room : (x : Node) (path bytes : List ℕ) (free : ℕ) → shows_file x ≡ true
    → leb (length bytes / 512) (free + length (attributes_in x) / 512) ≡ leb (blocks (becomes (plain (set_attributes path bytes)) x)) (free + blocks x)
unfolding becomes
set_room nothing path bytes free t = absurd (false≢true t)
set_room (file f) path bytes free t =
    leb-same (length bytes / 512) (free + length f.attributes / 512) (blocks_for (length f.bytes) + length bytes / 512) (free + (blocks_for (length f.bytes) + length f.attributes / 512))
    (λ h. omega arith) (λ h. omega arith)
set_room (folder d) path bytes free t = absurd (false≢true t)

replace-room : (x : Node) (path bytes : List ℕ) (time free : ℕ)
    → leb (blocks (becomes (plain (write path 0 bytes time)) x)) (free + blocks x) ≡ leb (blocks (becomes (plain (replace path bytes time)) x)) (free + blocks x)
unfolding becomes
replace-room nothing path bytes time free = refl
replace-room (file f) path bytes time free =
    rw (splice-length f.bytes 0 bytes (omega arith))
    (leb-same (blocks_for (max (length f.bytes) (0 + length bytes)) + length f.attributes / 512) (free + (blocks_for (length f.bytes) + length f.attributes / 512))
    (blocks_for (length bytes) + length f.attributes / 512) (free + (blocks_for (length f.bytes) + length f.attributes / 512))
    (λ h. omega arith) (λ h. omega arith))
replace-room (folder d) path bytes time free = refl

same_test : (a b : Bool) → require a 10 0 ≡ require b 10 0 → a ≡ b
same_test true true q = refl
same_test true false q = absurd (omega arith)
same_test false true q = absurd (omega arith)
same_test false false q = refl

folder-shows : (x : Node) → shows_folder x ≡ is_shown_folder (as_folder x)
folder-shows nothing = refl
folder-shows (file f) = refl
folder-shows (folder d) = refl

file-of : (m : Model) (path : List ℕ) → no_file m path ≡ 0 → shows_file (m.at path) ≡ true
unfolding no_file
file-of m path z =
    let a = require-zero (path_ok path) 8 (require (shallow (leading (parts path))) 17 (require (shows_file (m.at path)) 10 0)) z in
    let b = require-zero (shallow (leading (parts path))) 16 (require (shows_file (m.at path)) 10 0) a.1 in
    (require-zero (shows_file (m.at path)) 9 0 b.1).0

module _ (s : List ℕ) (m : Model) (S : Shows s m) (ok : check s ≡ 0) where
  pub free-shown : length (free_blocks (next s) (block_count s)) ≡ m.free
  free-shown = free-count s (sound s ok) ∙ S.free

  pub place-number : (path : List ℕ) → path_ok path ≡ true → shallow (leading (parts path)) ≡ true → place_refusal s path ≡ new_number (has_place s path) m path
  unfolding place_refusal new_number has_place
  place-number path good low = go (ℕ_discrete (home s path) 0)
    where
      go : Dec (home s path ≡ 0) → place_refusal s path ≡ new_number (has_place s path) m path
      go (yes z) = let a : in_folder m path ≡ false = sym (home-shown s m S ok path good low) ∙ ap not (eq-eqb (home s path) 0 z) in rw (eq-eqb (home s path) 0 z, a)
      go (no ne) =
          let a : in_folder m path ≡ true = sym (home-shown s m S ok path good low) ∙ ap not (ne_eqb (home s path) 0 ne) in
          rw (ne_eqb (home s path) 0 ne, a, taken-shown s m S ok path good low ne)

  pub folder-number : (path : List ℕ) → directory_refusal s path ≡ no_folder m path
  unfolding directory_refusal no_folder folder_at
  folder-number path = go (path_ok path) refl (shallow (parts path)) refl (not (eqb (path_slot is_directory s path) 0)) refl
    where
      shown-at : (t : Bool) → path_ok path ≡ true → shallow (parts path) ≡ true → not (eqb (path_slot is_directory s path) 0) ≡ t → is_shown_folder (folder_at s path) ≡ t
      shown-at true q v u = rw (q, v, u)
      shown-at false q v u = rw (q, v, u)

      go : (g : Bool) → path_ok path ≡ g → (w : Bool) → shallow (parts path) ≡ w → (t : Bool) → not (eqb (path_slot is_directory s path) 0) ≡ t → directory_refusal s path ≡ no_folder m path
      go false q w v t u = rw q
      go true q false v t u = rw (q, v)
      go true q true v t u =
          let same : shows_folder (m.at path) ≡ t = folder-shows (m.at path) ∙ ap is_shown_folder (sym (S.folders path)) ∙ shown-at t q v u in
          rw (q, v, u, same)

new-of : (place : Bool) (m : Model) (path : List ℕ) → new_number place m path ≡ 0 → shows_nothing (m.at path) ≡ true
unfolding new_number
new-of place m path z =
    let a = require-zero (in_folder m path) 9 (require (shows_nothing (m.at path)) 11 (require place 13 0)) z in
    (require-zero (shows_nothing (m.at path)) 10 (require place 13 0) a.1).0

module _ (s : List ℕ) (m : Model) (S : Shows s m) (ok : check s ≡ 0) where
  -- the write at a path that shows a file
  pub write-shown : (path : List ℕ) (offset : ℕ) (bytes : List ℕ) (time : ℕ) → no_file m path ≡ 0 → offset ≤ length (bytes_in (m.at path))
      → leb (needed s (entry_of is_file s path) offset (length bytes)) (length (free_blocks (next s) (block_count s))) ≡ leb (blocks (becomes (plain (write path offset bytes time)) (m.at path))) (m.free + blocks (m.at path))
  unfolding needed new_size
  write-shown path offset bytes time z h = go (either s m S ok path)
    where
      go : Both s m S ok path ⊎ Neither s m S ok path
          → leb (needed s (entry_of is_file s path) offset (length bytes)) (length (free_blocks (next s) (block_count s))) ≡ leb (blocks (becomes (plain (write path offset bytes time)) (m.at path))) (m.free + blocks (m.at path))
      go (inl B) =
          let b = (lookup-file s path B.looked).blocks in
          rw (b, sym B.long, free-shown s m S ok) (write-room (m.at path) path offset bytes time m.free (file-of m path z) h)
      go (inr N) = absurd (let q : suc N.number ≡ 0 = sym N.none ∙ z in omega arith)

  set-shown : (path bytes : List ℕ) → no_file m path ≡ 0
      → leb (length bytes / 512) (length (free_blocks (next (emptied s (entry_of is_file s path))) (block_count s))) ≡ leb (blocks (becomes (plain (set_attributes path bytes)) (m.at path))) (m.free + blocks (m.at path))
  set-shown path bytes z = go (either s m S ok path)
    where
      go : Both s m S ok path ⊎ Neither s m S ok path
          → leb (length bytes / 512) (length (free_blocks (next (emptied s (entry_of is_file s path))) (block_count s))) ≡ leb (blocks (becomes (plain (set_attributes path bytes)) (m.at path))) (m.free + blocks (m.at path))
      go (inl B) =
          let q : length (free_blocks (next (emptied s (entry_of is_file s path))) (block_count s)) ≡ m.free + length (attributes_in (m.at path)) / 512 =
          room-is s path ok B.found ∙ rw (S.free, B.more, attributes-blocks s path ok B.found) in
          rw q (set_room (m.at path) path bytes m.free (file-of m path z))
      go (inr N) = absurd (let q : suc N.number ≡ 0 = sym N.none ∙ z in omega arith)

  create-number : (path : List ℕ) (type user group permissions flags time : ℕ) (empty : Bool)
      → create_refusal s path type flags ≡ refusal_in (has_place s path) empty m (plain (create path type user group permissions flags time))
  unfolding create_refusal new_refusal refusal_in
  create-number path type user group permissions flags time empty =
      require-same (path_ok path && is_file type) 9 _ _ (λ g.
      require-same (shallow (leading (parts path))) 17 _ _ (λ w.
      ap (require (eqb flags 0) 26) (place-number s m S ok path (and_split (path_ok path) (is_file type) g).0 w)))

  write-number : (path : List ℕ) (offset : ℕ) (bytes : List ℕ) (time : ℕ) (place empty : Bool) → write_refusal s path offset (length bytes) ≡ refusal_in place empty m (plain (write path offset bytes time))
  unfolding write_refusal write_at_refusal refusal_in room_number subject views.subject
  write-number path offset bytes time place empty =
      ap (λ (k : ℕ). require (leb (length bytes) 4096 && path_ok path) 9 (first_of k (write_at_refusal s (entry_of is_file s path) offset (length bytes)))) (number-shown s m S ok path)
      ∙ ap (require (leb (length bytes) 4096 && path_ok path) 9) (first_of-same (no_file m path) _ _ (λ z. inner z (either s m S ok path)))
    where
      inner : no_file m path ≡ 0 → Both s m S ok path ⊎ Neither s m S ok path
          → write_at_refusal s (entry_of is_file s path) offset (length bytes)
          ≡ require (leb offset (length (bytes_in (m.at path)))) 12 (require (leb (blocks (becomes (plain (write path offset bytes time)) (m.at path))) (m.free + blocks (m.at path))) 14 0)
      inner z (inl B) =
          rw (sym B.long)
          (require-same (leb offset (length (bytes_in (m.at path)))) 12 _ _ (λ h. ap (λ (b : Bool). require b 14 0) (write-shown path offset bytes time z (leb-true _ _ h))))
      inner z (inr N) = absurd (let q : suc N.number ≡ 0 = sym N.none ∙ z in omega arith)

  create-directory-number : (path : List ℕ) (type user group permissions flags time d : ℕ) (empty : Bool)
      → create_directory_refusal s path type flags d ≡ refusal_in (has_place s path) empty m (plain (create_directory path type user group permissions flags time d))
  unfolding create_directory_refusal new_refusal refusal_in room_number becomes subject views.subject
  create-directory-number path type user group permissions flags time d empty =
      require-same (path_ok path && (is_directory type && within 1 64 d)) 9 _ _ (λ g.
      require-same (shallow (parts path)) 17 _ _ (λ w.
      let good = (and_split (path_ok path) (is_directory type && within 1 64 d) g).0 in
      let low = (path-levels path good w).0 in
      ap (λ (k : ℕ). first_of (require (eqb flags 0) 26 k) (require (leb d (length (free_blocks (next s) (block_count s)))) 14 0)) (place-number s m S ok path good low)
      ∙ first_of-same (require (eqb flags 0) 26 (new_number (has_place s path) m path)) _ _ (λ z.
      let n = nothing-blocks (m.at path) (new-of (has_place s path) m path (require-zero (eqb flags 0) 25 _ z).1) in
      let e : m.free + blocks (m.at path) ≡ m.free = omega arith in
      rw (free-shown s m S ok, e))))

  delete-directory-number : (path : List ℕ) (place : Bool) → delete_directory_refusal s path ≡ refusal_in place (is_bare s path) m (plain (delete_directory path))
  unfolding delete_directory_refusal refusal_in is_bare
  delete-directory-number path place = rw (folder-number s m S ok path)

  set-number : (path bytes : List ℕ) (place empty : Bool) → set_attributes_refusal s path (length bytes) ≡ refusal_in place empty m (plain (set_attributes path bytes))
  unfolding set_attributes_refusal refusal_in room_number subject views.subject
  set-number path bytes place empty =
      ap (λ (k : ℕ). require (path_ok path && (leb 1 (length bytes) && eqb (length bytes % 512) 0)) 9 (require (leb (length bytes) 4096) 20
      (first_of k (require (leb (length bytes / 512) (length (free_blocks (next (emptied s (entry_of is_file s path))) (block_count s)))) 14 0)))) (number-shown s m S ok path)
      ∙ ap (λ (k : ℕ). require (path_ok path && (leb 1 (length bytes) && eqb (length bytes % 512) 0)) 9 (require (leb (length bytes) 4096) 20 k))
      (first_of-same (no_file m path) _ _ (λ z. ap (λ (b : Bool). require b 14 0) (set-shown path bytes z)))

  long : (path : List ℕ) → no_file m path ≡ 0 → size_of s (entry_of is_file s path) ≡ length (bytes_in (m.at path))
  long path z = go (either s m S ok path)
    where
      go : Both s m S ok path ⊎ Neither s m S ok path → size_of s (entry_of is_file s path) ≡ length (bytes_in (m.at path))
      go (inl B) = sym B.long
      go (inr N) = absurd (let q : suc N.number ≡ 0 = sym N.none ∙ z in omega arith)

  replace-shown : (path bytes : List ℕ) (time : ℕ) → no_file m path ≡ 0
      → leb (needed s (entry_of is_file s path) 0 (length bytes)) (length (free_blocks (next s) (block_count s))) ≡ leb (blocks (becomes (plain (replace path bytes time)) (m.at path))) (m.free + blocks (m.at path))
  replace-shown path bytes time z = write-shown path 0 bytes time z (omega arith) ∙ replace-room (m.at path) path bytes time m.free

  file-there : (path : List ℕ) → path_ok path ≡ true → shallow (leading (parts path)) ≡ true → not (eqb (path_slot is_file s path) 0) ≡ shows_file (m.at path)
  unfolding file_refusal no_file
  file-there path good low = same_test (not (eqb (path_slot is_file s path) 0)) (shows_file (m.at path)) (rw (good, low) at (number-shown s m S ok path))

  led : (to : List ℕ) → path_ok to ≡ true → shallow (leading (parts to)) ≡ true → in_folder m to ≡ true → home s to ≢ 0
  led to good low h z = true-not-false (home-shown s m S ok to good low ∙ h) (ap not (eq-eqb (home s to) 0 z))

  -- a file cut, or with other bytes: as of a write at 0
  shorten-number : (path : List ℕ) (size : ℕ) → shorten_refusal s path size ≡ first_of (no_file m path) (require (leb size (length (bytes_in (m.at path)))) 12 0)
  unfolding shorten_refusal
  shorten-number path size =
      ap (λ (k : ℕ). first_of k (require (leb size (size_of s (entry_of is_file s path))) 12 0)) (number-shown s m S ok path)
      ∙ first_of-same (no_file m path) _ _ (λ z. ap (λ (k : ℕ). require (leb size k) 12 0) (long path z))

  replace-number : (path bytes : List ℕ) (time : ℕ) → replace_refusal s path (length bytes) ≡ refusal_in true true m (plain (replace path bytes time))
  unfolding replace_refusal write_refusal write_at_refusal refusal_in room_number subject views.subject
  replace-number path bytes time =
      let e : ℕ = entry_of is_file s path in
      let w : write_at_refusal s (entry_of is_file s path) 0 (length bytes) ≡ require (leb (needed s (entry_of is_file s path) 0 (length bytes)) (length (free_blocks (next s) (block_count s)))) 14 0 =
      rw (le-leb 0 (size_of s (entry_of is_file s path)) (omega arith)) in
      ap (λ (k : ℕ). require (leb (length bytes) 4096 && path_ok path) 9 (first_of k (write_at_refusal s (entry_of is_file s path) 0 (length bytes)))) (number-shown s m S ok path)
      ∙ ap (λ (k : ℕ). require (leb (length bytes) 4096 && path_ok path) 9 (first_of (no_file m path) k)) w
      ∙ ap (require (leb (length bytes) 4096 && path_ok path) 9) (first_of-same (no_file m path) _ _ (λ z. ap (λ (b : Bool). require b 14 0) (replace-shown path bytes time z)))

  -- a move: 13 by the folder that it goes to
  move-number : (path to : List ℕ) (empty : Bool) → move_refusal s path to ≡ refusal_in (not (eqb (move_slot s path to) 0)) empty m (plain (move path to))
  unfolding move_refusal refusal_in
  move-number path to empty =
      require-same (path_ok path && path_ok to) 9 _ _ (λ g.
      require-same (shallow (leading (parts path)) && shallow (leading (parts to))) 17 _ _ (λ w.
      let good = and_split (path_ok path) (path_ok to) g in
      let low = and_split (shallow (leading (parts path))) (shallow (leading (parts to))) w in
      let q : (not (eqb (path_slot is_file s path) 0) && not (eqb (home s to) 0)) ≡ (shows_file (m.at path) && in_folder m to) = rw (file-there path good.0 low.0, home-shown s m S ok to good.1 low.1) in
      ap (λ (b : Bool). require b 10 (require (eqb (path_slot is_used s to) 0) 11 (require (not (eqb (move_slot s path to) 0)) 13 0))) q
      ∙ require-same (shows_file (m.at path) && in_folder m to) 10 _ _ (λ h.
      ap (λ (b : Bool). require b 11 (require (not (eqb (move_slot s path to) 0)) 13 0)) (taken-shown s m S ok to good.1 low.1 (led to good.1 low.1 (and_split (shows_file (m.at path)) (in_folder m to) h).1)))))

  -- A PUT
  module _ (directory serial : List ℕ) (good : Addressed directory serial) where
    abbrev path : List ℕ
    path = path_of directory serial

    abbrev x : Node
    x = m.at (path_of directory serial)

    pub there-is : is_there s directory serial ≡ shows_file x
    there-is = there-view s directory serial good ∙ ap is_in (S.files path) ∙ sym (is-in x)

    pub stored_is : stored s directory serial ≡ settings x
    stored_is = stored-view s directory serial good ∙ ap stored_in (S.files path) ∙ sym (settings-of x)

    -- the numbers before 14
    pub before-room : (y : Node) → m.at (path_of directory serial) ≡ y → cond (is_there s directory serial) (form_refusal (stored s directory serial)) (place_refusal s path) ≡ put_number (has_place s path) m path y
    before-room y e = rw (there-is, stored_is, place-number s m S ok path (serial-path directory serial good) (serial-shallow directory serial good), e) (by-node y)
      where
        by-node : (z : Node) → cond (shows_file z) (form_refusal (settings z)) (new_number (has_place s path) m path) ≡ put_number (has_place s path) m path z
        by-node nothing = refl
        by-node (file f) = refl
        by-node (folder d) = refl

-- a path that shows a file f, with data w written over it
module _ (t : List ℕ) (n : Model) (T : Shows t n) (ok : check t ≡ 0) (path : List ℕ) (good : path_ok path ≡ true) (low : shallow (leading (parts path)) ≡ true) (f : File) (e : n.at path ≡ file f) where
  none-missing : no_file n path ≡ 0
  unfolding no_file
  none-missing = rw (good, low, e)

  pub size-of : size_of t (entry_of is_file t path) ≡ length f.bytes
  size-of = go (either t n T ok path)
    where
      go : Both t n T ok path ⊎ Neither t n T ok path → size_of t (entry_of is_file t path) ≡ length f.bytes
      go (inl B) = sym B.long ∙ ap (λ (y : Node). length (bytes_in y)) e
      go (inr N) = absurd (let q : suc N.number ≡ 0 = sym N.none ∙ none-missing in omega arith)

  pub room_of : (w : List ℕ) (time : ℕ) → leb (needed t (entry_of is_file t path) 0 (length w)) (length (free_blocks (next t) (block_count t))) ≡ leb (blocks (file (written 0 w time f))) (n.free + blocks (file f))
  unfolding becomes
  room_of w time =
      write-shown t n T ok path 0 w time none-missing (omega arith)
      ∙ ap (λ (y : Node). leb (blocks (becomes (plain (write path 0 w time)) y)) (n.free + blocks y)) e

module _ (s : List ℕ) (m : Model) (S : Shows s m) (ok : check s ≡ 0) (directory serial : List ℕ) (time : ℕ) (bytes : List ℕ) (good : Addressed directory serial) where
  abbrev at : List ℕ
  at = path_of directory serial

  abbrev made : Change
  made = plain (create (path_of directory serial) 0x60 0 0 0 0 time)

  opened-old : is_there s directory serial ≡ true → opened s directory serial time ≡ s
  unfolding opened
  opened-old q = rw q

  opened-new : is_there s directory serial ≡ false → opened s directory serial time ≡ after s made
  unfolding opened after changes.after
  opened-new q = rw q

  abbrev fits : Bool
  fits = leb (needed (opened s directory serial time) (entry_at s directory serial time) 0 (length (rewritten s directory serial time bytes))) (length (free_blocks (next (opened s directory serial time)) (block_count (opened s directory serial time))))

  -- on the image t that is opened, which shows n, with the file f there
  on-opened : (t : List ℕ) → opened s directory serial time ≡ t → (n : Model) → Shows t n → check t ≡ 0 → (f : File) → n.at (path_of directory serial) ≡ file f
      → fits ≡ leb (blocks (file (written 0 (encoded (added (held_in (settings (m.at (path_of directory serial)))) bytes) (length f.bytes)) time f))) (n.free + blocks (file f))
  unfolding entry_at rewritten
  on-opened t o n T okt f e =
      let p = serial-path directory serial good in
      let l = serial-shallow directory serial good in
      let z = size-of t n T okt (path_of directory serial) p l f e in
      let r = room_of t n T okt (path_of directory serial) p l f e (encoded (added (held_in (settings (m.at (path_of directory serial)))) bytes) (length f.bytes)) time in
      rw (o, z, stored_is s m S ok directory serial good) r

  created : new_number (has_place s (path_of directory serial)) m (path_of directory serial) ≡ 0 → refusal s made ≡ 0
  unfolding refusal changes.refusal create_refusal new_refusal
  created h =
      let p = serial-path directory serial good in
      let l = serial-shallow directory serial good in
      rw (p, l, place-number s m S ok (path_of directory serial) p l) h

  stepped : (r : refusal s made ≡ 0) → (step m made).at (path_of directory serial) ≡ file (new 0x60 0 0 0 0 time)
  unfolding becomes subject views.subject
  stepped r = own_at m made (allowed s m S ok made r)

  freed : (r : refusal s made ≡ 0) → m.at (path_of directory serial) ≡ nothing → (step m made).free ≡ m.free
  unfolding becomes subject views.subject further views.further
  freed r e = free_one m made (allowed s m S ok made r) refl ∙ rw e (omega arith)

  room-put : (y : Node) → m.at (path_of directory serial) ≡ y → put_number (has_place s (path_of directory serial)) m (path_of directory serial) y ≡ 0
      → fits ≡ leb (blocks (becomes (put_in directory serial time bytes) (m.at (path_of directory serial)))) (m.free + blocks (m.at (path_of directory serial)))
  unfolding becomes
  room-put nothing e z =
      let q : is_there s directory serial ≡ false = there-is s m S ok directory serial good ∙ ap shows_file e in
      let r = created z in
      let k : (step m made).at (path_of directory serial) ≡ file (new 0x60 0 0 0 0 time) = stepped r in
      let l : (step m made).free ≡ m.free = freed r e in
      on-opened (after s made) (opened-new q) (step m made) (refines s m S ok made r) (change-sound s ok made r) (new 0x60 0 0 0 0 time) k
      ∙ rw (l, e)
  room-put (file f) e z =
      let q : is_there s directory serial ≡ true = there-is s m S ok directory serial good ∙ ap shows_file e in
      on-opened s (opened-old q) m S ok f e ∙ rw e
  room-put (folder d) e z = absurd (false≢true (sym (ap shows_nothing e) ∙ new-of (has_place s (path_of directory serial)) m (path_of directory serial) z))

put-number : (s : List ℕ) (m : Model) → Shows s m → check s ≡ 0 → (directory serial : List ℕ) (time : ℕ) (bytes : List ℕ) (empty : Bool)
    → put_refusal s directory serial time bytes ≡ refusal_in (has_place s (path_of directory serial)) empty m (put_in directory serial time bytes)
unfolding put_refusal refusal_in room_number subject
put-number s m S ok directory serial time bytes empty =
    first_of-same (address_refusal directory serial (leb (length bytes) max_setting)) _ _ (λ g.
    let good = (addressed directory serial _ g).0 in
    let path : List ℕ = path_of directory serial in
    ap (λ (k : ℕ). first_of k (require (fits s m S ok directory serial time bytes good) 14 0)) (before-room s m S ok directory serial good (m.at (path_of directory serial)) refl)
    ∙ first_of-same (put_number (has_place s (path_of directory serial)) m (path_of directory serial) (m.at (path_of directory serial))) _ _
    (λ z. ap (λ (b : Bool). require b 14 0) (room-put s m S ok directory serial time bytes good (m.at (path_of directory serial)) refl z)))

-- THE NUMBER IS THE MODEL'S
pub decided : (s : List ℕ) (m : Model) → Shows s m → check s ≡ 0 → (c : Change) → refusal s c ≡ refusal_in (place_for s c) (is_bare s (subject c)) m c
unfolding refusal changes.refusal subject views.subject further views.further refusal_in place_for
decided s m S ok (plain (create path type user group permissions flags time)) = create-number s m S ok path type user group permissions flags time (is_bare s path)
decided s m S ok (plain (write path offset bytes time)) = write-number s m S ok path offset bytes time (has_place s path) (is_bare s path)
decided s m S ok (plain (delete path)) = number-shown s m S ok path
decided s m S ok (plain (create_directory path type user group permissions flags time size)) = create-directory-number s m S ok path type user group permissions flags time size (is_bare s path)
decided s m S ok (plain (delete_directory path)) = delete-directory-number s m S ok path (has_place s path)
decided s m S ok (plain (set_attributes path bytes)) = set-number s m S ok path bytes (has_place s path) (is_bare s path)
decided s m S ok (plain (clear_attributes path)) = number-shown s m S ok path
decided s m S ok (plain (clear_flags path)) = number-shown s m S ok path
decided s m S ok (plain (shorten path size time)) = shorten-number s m S ok path size
decided s m S ok (plain (replace path bytes time)) = replace-number s m S ok path bytes time
decided s m S ok (plain (move path to)) = move-number s m S ok path to (is_bare s path)
decided s m S ok (put_in directory serial time bytes) = put-number s m S ok directory serial time bytes (is_bare s (path_of directory serial))
