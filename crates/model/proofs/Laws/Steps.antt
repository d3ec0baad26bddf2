-- An accepted change on an image that shows a model: the model suits it, has room for it, and the image shows the model's step.
use Prim.Native.Nat.{ℕ, ◌+◌, ◌-◌, ◌/◌, ◌≤◌}
use mathlib.Core.Path.{◌≡◌, refl, sym, ap, ◌∙◌}
use mathlib.Core.Bool.{Bool, true, false, false≢true}
use mathlib.Core.List.{List, []}
use mathlib.Core.Logic.{◌⊎◌, inl, inr, ⊎_elim}
use native.Mathlib.Omega.{arith}
use native.Mathlib.Decide.{ℕ_discrete}
use borrow.Author.Tests.{eq-eqb, le-leb}
use lib.ListN.{length}
use lib.Dec.{leb}
use Rattle.layout.specs.Bytes.{be32}
use Rattle.layout.specs.Geometry.{block_count}
use Rattle.layout.specs.Table.{next}
use Rattle.layout.specs.Directory.{slot_at, type_of, directory, is_file, is_directory}
use Rattle.layout.specs.Check.{check}
use Rattle.layout.specs.Paths.{parts, path_ok, shallow, home, path_slot, entry_of, file_refusal, directory_refusal}
use Rattle.volume.specs.Create.{place_refusal}
use Rattle.volume.specs.Directories.{delete_directory_refusal}
use Rattle.volume.specs.Move.{move_refusal, move_image}
use Rattle.volume.specs.Change as changes
use Rattle.volume.specs.Change.{create, write, delete, create_directory, delete_directory, set_attributes, clear_attributes, clear_flags, shorten, replace, move}
use Rattle.volume.specs.Views as views
use Rattle.volume.specs.Views.{file_at, folder_at, file_of, folder_of}
use Rattle.store.specs.Settings.{Found, held, added}
use Rattle.store.specs.Put.{path_of, stored, held_in, put_image}
use Rattle.store.specs.Change.{Change, plain, put_in, refusal, after, subject, further, subjects}
use Rattle.store.specs.Views.{stored_in, made, made_folder, takes, gives, gives_folder}
use Rattle.layout.proofs.Laws.Tests.{first_of-zero, and-join}
use Rattle.layout.proofs.Laws.Lists.{In, in-every}
use Rattle.layout.proofs.Laws.Paths.{path-named}
use Rattle.layout.proofs.Laws.Owners.{file-used-type}
use Rattle.layout.proofs.Laws.Inside.{directory-used-type}
use Rattle.layout.proofs.Laws.Sound.{sound}
use Rattle.layout.proofs.Laws.Counts.{occupied-most}
use Rattle.volume.proofs.Laws.Places.{create-given, create-directory-given, place-new, set-path}
use Rattle.volume.proofs.Laws.Views.{file-shown, none-shown}
use Rattle.volume.proofs.Laws.Shown.{write-path}
use Rattle.volume.proofs.Laws.Effects.{content-length}
use Rattle.volume.proofs.Laws.Shorten.{shorten-given}
use Rattle.volume.proofs.Laws.Replace.{replace-there}
use Rattle.volume.proofs.Laws.Moved.{move-given, move-vacant}
use Rattle.volume.proofs.Laws.Arrived.{move-come, move-folders}
use Rattle.volume.proofs.Laws.Orders.{in-or-not}
use Rattle.store.proofs.Laws.Serials.{there-shown, stored-view}
use Rattle.store.proofs.Laws.Put.{by-opened, put-serial, put-stored}
use Rattle.store.proofs.Laws.Shown.{others, folders}
use Rattle.store.proofs.Theorems.{change-sound, change-length, own-file, own-folder, blocks-in-use}
use Rattle.model.specs.Model.{Node, nothing, file, folder, Model, blocks, becomes, step, shows_nothing, settings, shows_file}
use Rattle.model.proofs.Laws.Allows.{only_file, not_folder, suits, allows}
use Rattle.model.specs.Refines.{as_file, as_folder, Shows}
use Rattle.model.proofs.Laws.Nodes.{made-becomes, folder-becomes, blocks-become, is_shown, is_shown_folder, length_shown, none-node, file-node, within-node, folder-node, settings-of}
use Rattle.model.proofs.Laws.Roots.{root_kept}
use Rattle.model.proofs.Laws.Models.{Moves, one-or-two, step-root, own_at, come-at, other_at, free_one, free_moved}

-- where there is a place for a new entry, nothing is shown
placed-file : (s path : List ℕ) → place_refusal s path ≡ 0 → file_at s path ≡ views.nothing
placed-file s path r = go (ℕ_discrete (path_slot is_file s path) 0)
  where
    go : Dec (path_slot is_file s path ≡ 0) → file_at s path ≡ views.nothing
    go (yes z) = none-shown s path z
    go (no ne) =
        let N = path-named is_file s path ne in
        absurd (place-new s path r (path_slot is_file s path) N.low N.high (file-used-type (type_of s (slot_at (directory s (home s path)) (path_slot is_file s path))) N.typed) (sym N.named))

pub no-folder : (s path : List ℕ) → path_slot is_directory s path ≡ 0 → folder_at s path ≡ views.nothing
unfolding folder_at directory_refusal
no-folder s path z = go (path_ok path) refl (shallow (parts path)) refl
  where
    go : (g : Bool) → path_ok path ≡ g → (w : Bool) → shallow (parts path) ≡ w → folder_at s path ≡ views.nothing
    go false q w v = rw q
    go true q false v = rw (q, v)
    go true q true v = rw (q, v, eq-eqb (path_slot is_directory s path) 0 z)

placed-folder : (s path : List ℕ) → place_refusal s path ≡ 0 → folder_at s path ≡ views.nothing
placed-folder s path r = go (ℕ_discrete (path_slot is_directory s path) 0)
  where
    go : Dec (path_slot is_directory s path ≡ 0) → folder_at s path ≡ views.nothing
    go (yes z) = no-folder s path z
    go (no ne) =
        let N = path-named is_directory s path ne in
        absurd (place-new s path r (path_slot is_directory s path) N.low N.high (directory-used-type (type_of s (slot_at (directory s (home s path)) (path_slot is_directory s path))) N.typed) (sym N.named))

pub folder-shown : (s path : List ℕ) → directory_refusal s path ≡ 0 → folder_at s path ≡ views.just (folder_of s (entry_of is_directory s path))
unfolding folder_at
folder-shown s path r = rw r

file-no-folder : (x : Node) → is_shown (as_file x) ≡ true → as_folder x ≡ views.nothing
file-no-folder nothing h = refl
file-no-folder (file f) h = refl
file-no-folder (folder d) h = absurd (false≢true h)

nothing-suits : (x : Node) → shows_nothing x ≡ true → not_folder x ≡ true
nothing-suits nothing h = refl
nothing-suits (file f) h = refl
nothing-suits (folder d) h = h

file-suits : (x : Node) → shows_file x ≡ true → not_folder x ≡ true
file-suits nothing h = refl
file-suits (file f) h = refl
file-suits (folder d) h = h

module _ (s : List ℕ) (m : Model) (S : Shows s m) (ok : check s ≡ 0) where
  -- by what the image shows at a path
  at-file : (path : List ℕ) → file_refusal s path ≡ 0 → is_shown (as_file (m.at path)) ≡ true
  at-file path r = ap is_shown (sym (S.files path) ∙ file-shown s path r)

  at_length : (path : List ℕ) → file_refusal s path ≡ 0 → length_shown (as_file (m.at path)) ≡ length (file_of s (entry_of is_file s path)).bytes
  at_length path r = ap length_shown (sym (S.files path) ∙ file-shown s path r)

  at-folder : (path : List ℕ) → directory_refusal s path ≡ 0 → is_shown_folder (as_folder (m.at path)) ≡ true
  at-folder path r = ap is_shown_folder (sym (S.folders path) ∙ folder-shown s path r)

  at_place : (path : List ℕ) → place_refusal s path ≡ 0 → shows_nothing (m.at path) ≡ true
  at_place path r = none-node (m.at path) (sym (S.files path) ∙ placed-file s path r) (sym (S.folders path) ∙ placed-folder s path r)

  at_offset : (path : List ℕ) (offset count : ℕ) → (file_refusal s path ≡ 0) × (offset ≤ length (file_of s (entry_of is_file s path)).bytes) → only_file (λ f. leb offset (length f.bytes)) (m.at path) ≡ true
  at_offset path offset count w = let l = at_length path w.0 in let h = w.1 in within-node (m.at path) offset (at-file path w.0) (omega arith)

  pub suited : (c : Change) → refusal s c ≡ 0 → suits c (m.at (subject c)) ≡ true
  unfolding suits refusal subject changes.refusal views.subject delete_directory_refusal
  suited (plain (create path type user group permissions flags time)) r = at_place path (create-given s path type flags r).placed
  suited (plain (write path offset bytes time)) r = at_offset path offset (length bytes) (write-path s path ok offset (length bytes) r)
  suited (plain (delete path)) r = file-node (m.at path) (at-file path r)
  suited (plain (create_directory path type user group permissions flags time size)) r = at_place path (create-directory-given s path type flags size r).placed
  suited (plain (delete_directory path)) r = folder-node (m.at path) (at-folder path (first_of-zero (directory_refusal s path) _ r).0)
  suited (plain (set_attributes path bytes)) r = file-node (m.at path) (at-file path (set-path s path (length bytes) r))
  suited (plain (clear_attributes path)) r = file-node (m.at path) (at-file path r)
  suited (plain (clear_flags path)) r = file-node (m.at path) (at-file path r)
  suited (plain (shorten path size time)) r =
      let G = shorten-given s path size r in
      at_offset path size 0 (G.there, let l = content-length s path ok G.there in let h = G.less in unfold file_of in omega arith)
  suited (plain (replace path bytes time)) r = file-node (m.at path) (at-file path (replace-there s path (length bytes) r))
  suited (plain (move path to)) r = file-node (m.at path) (at-file path (move-given s path to r).from)
  suited (put_in directory serial time bytes) r =
      let path : List ℕ = path_of directory serial in
      by-opened s directory serial time bytes ok r (λ t. not_folder (m.at (path_of directory serial)) ≡ true)
      (λ q. file-suits (m.at (path_of directory serial)) (file-node (m.at (path_of directory serial))
      (ap is_shown (sym (S.files (path_of directory serial)) ∙ there-shown s directory serial (put-serial s directory serial time bytes ok r) q))))
      (λ q c. nothing-suits (m.at (path_of directory serial)) (at_place (path_of directory serial) (create-given s (path_of directory serial) 0x60 0 c).placed))

-- nothing is where a move goes, and what its path showed comes there
module _ (s : List ℕ) (m : Model) (S : Shows s m) (ok : check s ≡ 0) (path to : List ℕ) (r : move_refusal s path to ≡ 0) where
  none-at : shows_nothing (m.at to) ≡ true
  none-at =
      none-node (m.at to) (sym (S.files to) ∙ none-shown s to (move-vacant s path to (move-given s path to r) is_file (λ x t. file-used-type x t)))
      (sym (S.folders to) ∙ no-folder s to (move-vacant s path to (move-given s path to r) is_directory (λ x t. directory-used-type x t)))

  come-file : file_at (move_image s path to) to ≡ as_file (m.at path)
  come-file = move-come s path to ok r ∙ S.files path

  come-folder : folder_at (move_image s path to) to ≡ as_folder (m.at path)
  come-folder =
      move-folders s path to ok r to ∙ no-folder s to (move-vacant s path to (move-given s path to r) is_directory (λ x t. directory-used-type x t))
      ∙ sym (file-no-folder (m.at path) (at-file s m S ok path (move-given s path to r).from))

vacated : (s : List ℕ) (m : Model) → Shows s m → check s ≡ 0 → (c : Change) → refusal s c ≡ 0 → (to : List ℕ) → In to (further c) → shows_nothing (m.at to) ≡ true
unfolding refusal changes.refusal further views.further
vacated s m S ok (plain (create path type user group permissions flags time)) r q x5 = elim x5 [ ]
vacated s m S ok (plain (write path offset bytes time)) r q x6 = elim x6 [ ]
vacated s m S ok (plain (delete path)) r q x7 = elim x7 [ ]
vacated s m S ok (plain (create_directory path type user group permissions flags time d)) r q x8 = elim x8 [ ]
vacated s m S ok (plain (delete_directory path)) r q x9 = elim x9 [ ]
vacated s m S ok (plain (set_attributes path bytes)) r q x10 = elim x10 [ ]
vacated s m S ok (plain (clear_attributes path)) r q x11 = elim x11 [ ]
vacated s m S ok (plain (clear_flags path)) r q x12 = elim x12 [ ]
vacated s m S ok (plain (shorten path size time)) r q x13 = elim x13 [ ]
vacated s m S ok (plain (replace path bytes time)) r q x14 = elim x14 [ ]
vacated s m S ok (plain (move path to)) r q (inr x16) = elim x16 [ ]
vacated s m S ok (put_in _ serial time bytes) r q x3 = elim x3 [ ]
vacated s m S ok (plain (move path to)) r q (inl e) = rw e (none-at s m S ok path to r)

come : (s : List ℕ) (m : Model) → Shows s m → check s ≡ 0 → (c : Change) → refusal s c ≡ 0 → (to : List ℕ) → In to (further c)
    → (file_at (after s c) to ≡ as_file (m.at (subject c))) × (folder_at (after s c) to ≡ as_folder (m.at (subject c)))
unfolding refusal changes.refusal after changes.after subject views.subject further views.further
come s m S ok (plain (create path type user group permissions flags time)) r q x5 = elim x5 [ ]
come s m S ok (plain (write path offset bytes time)) r q x6 = elim x6 [ ]
come s m S ok (plain (delete path)) r q x7 = elim x7 [ ]
come s m S ok (plain (create_directory path type user group permissions flags time d)) r q x8 = elim x8 [ ]
come s m S ok (plain (delete_directory path)) r q x9 = elim x9 [ ]
come s m S ok (plain (set_attributes path bytes)) r q x10 = elim x10 [ ]
come s m S ok (plain (clear_attributes path)) r q x11 = elim x11 [ ]
come s m S ok (plain (clear_flags path)) r q x12 = elim x12 [ ]
come s m S ok (plain (shorten path size time)) r q x13 = elim x13 [ ]
come s m S ok (plain (replace path bytes time)) r q x14 = elim x14 [ ]
come s m S ok (plain (move path to)) r q (inr x16) = elim x16 [ ]
come s m S ok (put_in _ serial time bytes) r q x3 = elim x3 [ ]
come s m S ok (plain (move path to)) r q (inl e) = rw e (come-file s m S ok path to r, come-folder s m S ok path to r)

-- used and free blocks are all blocks
all-blocks : (s : List ℕ) → check s ≡ 0 → be32 s 20 + be32 s 24 ≡ block_count s
all-blocks s ok =
    let u = (sound s ok).used-is in
    let f = (sound s ok).free-is in
    let h = occupied-most (next s) (block_count s) in
    omega arith

free-after : (n u f u' f' given given' taken old new : ℕ) → u + f ≡ n → u' + f' ≡ n → u' + (given + given') ≡ u + taken → given + given' + new ≡ taken + old → (f' ≡ f + old - new) × (new ≤ f + old)
free-after n u f u' f' given given' taken old new a b c d = (omega arith, omega arith)

module _ (s : List ℕ) (m : Model) (S : Shows s m) (ok : check s ≡ 0) (c : Change) (r : refusal s c ≡ 0) where
  abbrev here : Node
  here = m.at (subject c)

  suit : suits c here ≡ true
  suit = suited s m S ok c r

  own-node : as_file (becomes c here) ≡ file_at (after s c) (subject c)
  own-node = sym (made-becomes c here suit) ∙ ap (made c) (sym (S.files (subject c))) ∙ sym (own-file s ok c r)

  own-folder-node : as_folder (becomes c here) ≡ folder_at (after s c) (subject c)
  own-folder-node = sym (folder-becomes c here suit) ∙ ap (made_folder c) (sym (S.folders (subject c))) ∙ sym (own-folder s ok c r)

  -- blocks: those in use before and after, against what the model counts
  both : (be32 s 20 + m.free ≡ block_count s) × (be32 (after s c) 20 + be32 (after s c) 24 ≡ block_count s)
      × (be32 (after s c) 20 + (gives c (as_file here) + gives_folder c (as_folder here)) ≡ be32 s 20 + takes c (as_file here))
  both = (
    rw S.free at (all-blocks s ok),
    all-blocks (after s c) (change-sound s ok c r) ∙ ap (λ (k : ℕ). k / 512) (change-length s ok c r),
    rw (S.files (subject c), S.folders (subject c)) at (blocks-in-use s ok c r),
  )

  one : further c ≡ [] → (be32 (after s c) 24 ≡ m.free + blocks here - blocks (becomes c here)) × (blocks (becomes c here) ≤ m.free + blocks here)
  one o =
      free-after (block_count s) (be32 s 20) m.free (be32 (after s c) 20) (be32 (after s c) 24) (gives c (as_file here)) (gives_folder c (as_folder here)) (takes c (as_file here)) (blocks here) (blocks (becomes c here))
      both.0 both.1 both.2 (blocks-become c o here suit)

  pub allowed : allows m c ≡ true
  unfolding allows
  allowed = and-join suit (and-join (le-leb _ _ (⊎_elim (λ o. (one o).1) (λ M. let z : blocks (becomes c here) ≡ 0 = ap blocks (M.gone here) in omega arith) (one-or-two c)))
      (in-every (λ to. shows_nothing (m.at to)) (further c) (λ to i. vacated s m S ok c r to i)))

  free-is : be32 (after s c) 24 ≡ (step m c).free
  free-is = ⊎_elim (λ o. (one o).0 ∙ sym (free_one m c allowed o)) moved (one-or-two c)
    where
      moved : Moves c → be32 (after s c) 24 ≡ (step m c).free
      moved M = omega (arith, both.0, both.1, both.2, M.none-taken (as_file here), M.none-given (as_file here) (as_folder here), free_moved m c allowed M)

  come-node : (to : List ℕ) → In to (further c) → (file_at (after s c) to ≡ as_file here) × (folder_at (after s c) to ≡ as_folder here)
  come-node to i = come s m S ok c r to i

  file-at : (path : List ℕ) → In path (subjects c) ⊎ (In path (subjects c) → ⊥) → file_at (after s c) path ≡ as_file ((step m c).at path)
  file-at path (inl (inl e)) = rw (e, own_at m c allowed) (sym own-node)
  file-at path (inl (inr i)) = rw (come-at m c allowed path i) (come-node path i).0
  file-at path (inr out) = rw (other_at m c allowed path out) (others s c ok r path out ∙ S.files path)

  folder-at : (path : List ℕ) → In path (subjects c) ⊎ (In path (subjects c) → ⊥) → folder_at (after s c) path ≡ as_folder ((step m c).at path)
  folder-at path (inl (inl e)) = rw (e, own_at m c allowed) (sym own-folder-node)
  folder-at path (inl (inr i)) = rw (come-at m c allowed path i) (come-node path i).1
  folder-at path (inr out) = rw (other_at m c allowed path out) (folders s c ok r path out ∙ S.folders path)

  -- THE STEP
  pub refines : Shows (after s c) (step m c)
  refines = record { files = λ path. file-at path (in-or-not path (subjects c)); folders = λ path. folder-at path (in-or-not path (subjects c)); free = free-is; root_size = root_kept s ok c r ∙ S.root_size ∙ sym (step-root m c) }

-- SETTINGS: after an accepted put they are what was there, and one more
pub put-adds : (s : List ℕ) (m : Model) → Shows s m → (ok : check s ≡ 0) (directory serial : List ℕ) (time : ℕ) (bytes : List ℕ) → refusal s (put_in directory serial time bytes) ≡ 0
    → settings ((step m (put_in directory serial time bytes)).at (path_of directory serial)) ≡ held (added (held_in (settings (m.at (path_of directory serial)))) bytes)
unfolding refusal after
put-adds s m S ok directory serial time bytes r =
    let good = put-serial s directory serial time bytes ok r in
    let S' = refines s m S ok (put_in directory serial time bytes) r in
    let path : List ℕ = path_of directory serial in
    let a : stored s directory serial ≡ settings (m.at (path_of directory serial)) =
    stored-view s directory serial good ∙ ap stored_in (S.files (path_of directory serial)) ∙ sym (settings-of (m.at (path_of directory serial))) in
    let x : Node = (step m (put_in directory serial time bytes)).at (path_of directory serial) in
    settings-of x ∙ ap stored_in (sym (S'.files (path_of directory serial))) ∙ sym (stored-view (put_image s directory serial time bytes) directory serial good)
    ∙ put-stored s directory serial time bytes ok r ∙ ap (λ (f : Found). held (added (held_in f) bytes)) a
