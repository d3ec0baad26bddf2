-- WHAT ANY CHANGE DOES: to what its own path shows, by a function of that alone; to what other paths show, nothing; and to the blocks in use.
use Prim.Native.Nat.{ℕ, suc, ◌+◌, ◌-◌, ◌*◌, ◌/◌, ◌<◌}
use mathlib.Core.Path.{◌≡◌, refl, sym, ap, ◌∙◌}
use mathlib.Core.Bool.{true, not}
use mathlib.Core.List.{List, [], ◌∷◌}
use mathlib.Core.Logic.{inl, inr, ⊎_elim, ◌≢◌}
use native.Mathlib.Omega.{arith}
use borrow.Author.Tests.{leb-true, eq-eqb, eqb-false, not-true}
use lib.ListN.{length}
use lib.Dec.{eqb, leb}
use Rattle.layout.specs.Claims.{Inserted, Untouched}
use Rattle.layout.specs.Limits.{max_levels}
use Rattle.layout.specs.Lists.{every}
use Rattle.layout.specs.Bytes.{be32, bytes4, bytes8}
use Rattle.layout.specs.Directory.{slot_at, slots, type_of, first_block, is_free, is_file, is_directory, is_empty, good_name, directory, dirs, free_slot}
use Rattle.layout.specs.Check.{check}
use Rattle.layout.specs.Paths.{parts, path_ok, leading, last_part, shallow, home, path_slot, entry_of, directory_refusal}
use Rattle.volume.specs.Entries.{directory_made, blocks_named}
use Rattle.volume.specs.Create.{create_slot}
use Rattle.volume.specs.Directories.{create_directory_refusal, new_directory_blocks, create_directory_image, delete_directory_refusal}
use Rattle.volume.specs.Delete.{all_blocks, delete_at, delete_named}
use Rattle.volume.specs.Change.{Change, create, write, delete, create_directory, delete_directory, set_attributes, clear_attributes, clear_flags, shorten, replace, refusal, after, named, move}
use Rattle.volume.specs.Views.{Folder, Maybe, just, folder_of, file_at, folder_at, subject, of_file, made, takes, gives, made_folder, size_in, gives_folder, nothing, further, subjects}
use Rattle.volume.proofs.Laws.Places.{CreateDirectoryGiven, create-directory-given, write-given, leading-shorter, path-levels, path-name, place_is, place-home, place-free, place-new, place-there}
use Rattle.volume.proofs.Laws.CreateDirectory.{made-inserted, made-slot, made-dir, made-bare, made-name, made-folder, made-used}
use Rattle.volume.proofs.Laws.Shorten.{shorten-given}
use Rattle.volume.proofs.Laws.Content.{create-untouched, write-untouched, delete-untouched, set-untouched, clear-untouched, flags-untouched, shorten-untouched, replace-untouched, create-directory-untouched}
use Rattle.volume.proofs.Laws.Views.{other-shown, none-shown}
use Rattle.volume.specs.Move.{move_refusal}
use Rattle.volume.proofs.Laws.Moved.{move-given, move-vacant, move-used, move-length}
use Rattle.volume.proofs.Laws.Arrived.{move-untouched, move-others, move-left, move-come, move-folders}
use Rattle.volume.proofs.Laws.Folders.{Comes, came-before, came-slot, came-entry, came-after, came-others}
use Rattle.volume.proofs.Laws.Effects.{Effect, effect}
use Rattle.layout.proofs.Laws.Tests.{and_split, require-zero, first_of-zero}
use Rattle.volume.proofs.Laws.DeleteDirectory.{removed-sound, removed-tree, removed-type, small-dir, small_size, small-in, small_slot, back-new, back-untouched, removed-used, not_itself, back-empty}
use Rattle.layout.proofs.Laws.Trees.{size_at}
use Rattle.layout.proofs.Laws.Paths.{Named, path-named, path-home, home_found}
use Rattle.layout.proofs.Laws.Newcomers.{after-home}
use Rattle.layout.proofs.Laws.Lists.{In, in-every}
use Rattle.layout.proofs.Laws.Owners.{file-used-type}
use Rattle.layout.proofs.Laws.Slots.{in-slots}
use Rattle.layout.proofs.Laws.Empties.{Empty}
use Rattle.layout.proofs.Laws.Others.{untouched-back}
use Rattle.layout.proofs.Laws.Frames.{Agree}
use Rattle.volume.proofs.Laws.Framed.{frame}
use Rattle.layout.proofs.Laws.Sound.{Sound, sound}

-- a directory with no slot in use is empty, as the rule says it
bare-empty : (s : List ℕ) (b : ℕ) → Empty s b → is_empty s b ≡ true
unfolding is_empty
bare-empty s b M = in-every (λ k. is_free (type_of s (slot_at (directory s b) k))) (slots (directory s b)) (λ k i. eq-eqb _ 0 (M.free k (in-slots s b k i).0 (in-slots s b k i).1))

-- the level of the directory of a path
parts-levels : (path : List ℕ) → path_ok path ≡ true → max_levels - length (parts path) ≡ max_levels - suc (length (leading (parts path)))
unfolding path_ok
parts-levels path ok =
    let a = leb-true 1 (length (parts path)) (and_split (leb 1 (length (parts path))) (every good_name (parts path)) ok).0 in
    let c = leading-shorter (parts path) a in
    omega arith

pub record Acts (s : List ℕ) (c : Change) : Type 0 where
  pub own : file_at (after s c) (subject c) ≡ made c (file_at s (subject c))
  pub others : (other : List ℕ) → (In other (subjects c) → ⊥) → file_at (after s c) other ≡ file_at s other
  pub arrived : (to : List ℕ) → In to (further c) → file_at (after s c) to ≡ file_at s (subject c)
  pub vacant : (to : List ℕ) → In to (further c) → file_at s to ≡ nothing
  pub kept : (to : List ℕ) → In to (further c) → folder_at (after s c) to ≡ folder_at s to
  pub folder : folder_at (after s c) (subject c) ≡ made_folder c (folder_at s (subject c))
  pub folders : (other : List ℕ) → other ≢ subject c → folder_at (after s c) other ≡ folder_at s other
  pub used : be32 (after s c) 20 + (gives c (file_at s (subject c)) + gives_folder c (folder_at s (subject c))) ≡ be32 s 20 + takes c (file_at s (subject c))
  pub size : length (after s c) ≡ length s

-- a change of a file
file-acts : (s : List ℕ) (c : Change) → further c ≡ [] → ((m : Maybe Folder) → made_folder c m ≡ m) → ((m : Maybe Folder) → gives_folder c m ≡ 0) → Effect s c → Acts s c
file-acts s c one f g E =
    record {
      own = E.own;
      others = λ other aside. E.others other (λ q. aside (inl q));
      arrived = λ to i. absurd (rw one at i);
      vacant = λ to i. absurd (rw one at i);
      kept = λ to i. absurd (rw one at i);
      folder = E.folders (subject c) ∙ sym (f (folder_at s (subject c)));
      folders = λ other ne. E.folders other;
      used = let z = g (folder_at s (subject c)) in let u = E.used in omega arith;
      size = E.size;
    }

-- A DIRECTORY CREATED
module _ (s path : List ℕ) (ok : check s ≡ 0) (type user group permissions flags time d : ℕ) (r : create_directory_refusal s path type flags d ≡ 0) where
  given : CreateDirectoryGiven s path type flags d
  given = create-directory-given s path type flags d r

  abbrev k : ℕ
  k = free_slot s (directory s (home s path))

  abbrev j : ℕ
  j = max_levels - suc (length (leading (parts path)))

  home-in : In (home s path, suc j) (dirs s)
  home-in = let l = path-levels path given.good given.deep in rw l.1 (place-home s path given.placed l.0)

  abbrev s' : List ℕ
  s' = create_directory_image s path type user group permissions flags time d

  comes : Comes s s' path
  unfolding create_directory_image new_directory_blocks directory_made
  comes =
      let G = given in
      let w = place-free s path G.placed in
      let n = path-name path G.good in
      let p = place-new s path G.placed in
      let S = sound s ok in
      let name : List ℕ = last_part (parts path) in
      let at = place_is s path G.placed in
      record {
        good = G.good;
        deep = G.deep;
        there = place-there s path G.placed;
        j = j;
        inside = home-in;
        k = k;
        k₁ = w.0;
        k₂ = w.1;
        only = rw at (made-slot s S (home s path) j home-in k w.0 w.1 w.2 name n p type user group permissions flags time G.dir d G.least G.most G.room);
        was = w.2;
        now = rw at (made-dir s S (home s path) j home-in k w.0 w.1 w.2 name n p type user group permissions flags time G.dir d G.least G.most G.room);
        bare = rw at (made-bare s S (home s path) j home-in k w.0 w.1 w.2 name n p type user group permissions flags time G.dir d G.least G.most G.room);
        new = rw (at, made-name s S (home s path) j home-in k w.0 w.1 w.2 name n p type user group permissions flags time G.dir d G.least G.most G.room) (λ x h g ne u. p x h g u);
        called = rw at (made-name s S (home s path) j home-in k w.0 w.1 w.2 name n p type user group permissions flags time G.dir d G.least G.most G.room);
      }

  folder-new : folder_of s' (slot_at (directory s (home s path)) k) ≡ record { kind = type ∷ user ∷ group ∷ permissions ∷ []; created = bytes8 time; modified = bytes8 time; flags = bytes4 flags; size = d }
  unfolding create_directory_image new_directory_blocks directory_made
  folder-new =
      let G = given in
      let w = place-free s path G.placed in
      rw (place_is s path G.placed) (made-folder s (sound s ok) (home s path) j home-in k w.0 w.1 w.2 (last_part (parts path)) (path-name path G.good) (place-new s path G.placed)
      type user group permissions flags time G.dir d G.least G.most G.room)

  used-new : be32 s' 20 ≡ be32 s 20 + d
  unfolding create_directory_image new_directory_blocks directory_made
  used-new =
      let G = given in
      let w = place-free s path G.placed in
      rw (place_is s path G.placed) (made-used s (sound s ok) (home s path) j home-in k w.0 w.1 w.2 (last_part (parts path)) (path-name path G.good) (place-new s path G.placed)
      type user group permissions flags time G.dir d G.least G.most G.room)

  same-files : (other : List ℕ) → file_at s' other ≡ file_at s other
  same-files other = other-shown s s' (sound s ok) comes.only.len other (λ q. create-directory-untouched s path other ok type user group permissions flags time d r)

  comes-k : comes.k ≡ k
  unfolding comes
  comes-k = refl

  folder-k : folder_of s' (slot_at (directory s (home s path)) comes.k) ≡ record { kind = type ∷ user ∷ group ∷ permissions ∷ []; created = bytes8 time; modified = bytes8 time; flags = bytes4 flags; size = d }
  folder-k = ap (λ (x : ℕ). folder_of s' (slot_at (directory s (home s path)) x)) comes-k ∙ folder-new

  -- it is there, in the slot that is answered, and empty; the tree has just it more
  found-entry : entry_of is_directory s' path ≡ slot_at (directory s (home s path)) k
  unfolding comes
  found-entry = came-entry s s' path (sound s ok) comes

  pub create-directory-found : path_slot is_directory s' path ≡ create_slot s path
  unfolding comes create_slot
  create-directory-found = came-slot s s' path (sound s ok) comes

  pub create-directory-empty : is_empty s' (first_block s' (entry_of is_directory s' path)) ≡ true
  unfolding comes
  create-directory-empty = rw found-entry (bare-empty s' (first_block s' (slot_at (directory s (home s path)) k)) comes.bare)

  pub create-directory-tree : Inserted (first_block s' (entry_of is_directory s' path), max_levels - length (parts path)) (dirs s) (dirs s')
  unfolding create_directory_image new_directory_blocks directory_made
  create-directory-tree =
      let G = given in
      let w = place-free s path G.placed in
      let l = parts-levels path G.good in
      rw (found-entry, l) (rw (place_is s path G.placed) (made-inserted s (sound s ok) (home s path) j home-in k w.0 w.1 w.2 (last_part (parts path)) (path-name path G.good) (place-new s path G.placed)
      type user group permissions flags time G.dir d G.least G.most G.room))

  pub create-directory-acts : Acts s (create_directory path type user group permissions flags time d)
  unfolding after subject further made made_folder takes gives gives_folder
  create-directory-acts =
      record {
        own = same-files path;
        others = λ other ne. same-files other;
        arrived = λ to i. absurd i;
        vacant = λ to i. absurd i;
        kept = λ to i. absurd i;
        folder = came-after s s' path (sound s ok) comes ∙ ap just folder-k;
        folders = λ other ne. came-others s s' path (sound s ok) comes other ne;
        used = let u = used-new in omega arith;
        size = comes.only.len;
      }

-- A DIRECTORY DELETED: read backwards, one comes
module _ (s path : List ℕ) (ok : check s ≡ 0) (r : delete_directory_refusal s path ≡ 0) where
  record Gone : Type 0 where
    accepted : directory_refusal s path ≡ 0
    good : path_ok path ≡ true
    deep : shallow (parts path) ≡ true
    some : path_slot is_directory s path ≢ 0
    empty : is_empty s (first_block s (entry_of is_directory s path)) ≡ true

  asked : Gone
  unfolding delete_directory_refusal directory_refusal
  asked =
      let z = first_of-zero (directory_refusal s path) _ r in
      let a = require-zero (path_ok path) 8 _ z.0 in
      let b = require-zero (shallow (parts path)) 16 _ a.1 in
      let f = require-zero (not (eqb (path_slot is_directory s path) 0)) 9 _ b.1 in
      let g = require-zero (is_empty s (first_block s (entry_of is_directory s path))) 17 _ z.1 in
      record { accepted = z.0; good = a.0; deep = b.0; some = eqb-false _ _ (not-true _ f.0); empty = g.0 }

  T : Sound s
  T = sound s ok

  abbrev b : ℕ
  b = home s path

  abbrev x : ℕ
  x = path_slot is_directory s path

  abbrev e : ℕ
  e = slot_at (directory s (home s path)) (path_slot is_directory s path)

  abbrev i : ℕ
  i = max_levels - suc (length (leading (parts path)))

  abbrev small : List ℕ
  small = delete_at s e

  N : Named is_directory s (home s path) (last_part (parts path)) (path_slot is_directory s path)
  N = path-named is_directory s path asked.some

  low : shallow (leading (parts path)) ≡ true
  low = (path-levels path asked.good asked.deep).0

  home-there : In (b, suc i) (dirs s)
  home-there = rw (path-levels path asked.good asked.deep).1 (path-home is_directory s path asked.some low)

  bare : is_empty s (first_block s e) ≡ true
  unfolding entry_of
  bare = asked.empty

  fit : x < 4 * size_at small b - 1
  fit = let h = N.high in let w = small_size s T b i home-there x N.low N.high N.typed bare in omega arith

  dir-is : directory small b ≡ directory s b
  dir-is = small-dir s T b i home-there x N.low N.high N.typed bare

  home-is : home small path ≡ home s path
  home-is =
      ⊎_elim (λ q. sym q) (λ w. absurd (⊎_elim (home_found is_directory s path asked.some)
      (λ z. not_itself s T b i home-there x N.low N.high N.typed bare (z ∙ ap (λ (ds : List ℕ). first_block s (slot_at ds x)) dir-is)) w.1))
      (after-home small s (removed-sound s T b i home-there x N.low N.high N.typed bare) b i (small-in s T b i home-there x N.low N.high N.typed bare) x N.low fit
      (small_slot s T b i home-there x N.low N.high N.typed bare) (rw dir-is (removed-type s T b i home-there x N.low N.high N.typed bare)) (rw dir-is N.typed)
      (rw dir-is (back-empty s T b i home-there x N.low N.high N.typed bare)) (back-new s T b i home-there x N.low N.high N.typed bare) path low)

  goes : Comes small s path
  goes =
      record {
        good = asked.good;
        deep = asked.deep;
        there = rw home-is (home_found is_directory s path asked.some);
        j = i;
        inside = rw home-is (small-in s T b i home-there x N.low N.high N.typed bare);
        k = x;
        k₁ = N.low;
        k₂ = rw home-is fit;
        only = rw home-is (small_slot s T b i home-there x N.low N.high N.typed bare);
        was = rw (home-is, dir-is) (removed-type s T b i home-there x N.low N.high N.typed bare);
        now = rw (home-is, dir-is) N.typed;
        bare = rw (home-is, dir-is) (back-empty s T b i home-there x N.low N.high N.typed bare);
        new = rw home-is (back-new s T b i home-there x N.low N.high N.typed bare);
        called = rw (home-is, dir-is) N.named;
      }

  S' : Sound small
  S' = removed-sound s T b i home-there x N.low N.high N.typed bare

  -- it changes no byte outside its named blocks
  agreed : Agree s small (e / 512 ∷ blocks_named (all_blocks s e))
  unfolding after named delete_named entry_of
  agreed = (frame s (delete_directory path) ok (unfold refusal in r)).agree

  same-files-left : (other : List ℕ) → file_at small other ≡ file_at s other
  same-files-left other = sym (other-shown small s S' goes.only.len other (λ q. back-untouched s T b i home-there x N.low N.high N.typed bare agreed other))

  shown-before : folder_at s path ≡ just (folder_of s e)
  unfolding folder_at entry_of
  shown-before = rw asked.accepted

  used-less : be32 small 20 + (0 + size_in (just (folder_of s e))) ≡ be32 s 20 + 0
  unfolding folder_of
  used-less = let u = removed-used s T b i home-there x N.low N.high N.typed bare in omega arith

  -- the tree has just it less
  pub delete-directory-tree : Inserted (first_block s (entry_of is_directory s path), max_levels - length (parts path)) (dirs (delete_at s (entry_of is_directory s path))) (dirs s)
  unfolding entry_of
  delete-directory-tree = rw (parts-levels path asked.good) (removed-tree s T b i home-there x N.low N.high N.typed bare)

  pub delete-directory-untouched : (other : List ℕ) → Untouched s (delete_at s (entry_of is_directory s path)) other
  unfolding entry_of
  delete-directory-untouched other = untouched-back s small other (back-untouched s T b i home-there x N.low N.high N.typed bare agreed other)

  pub delete-directory-acts : Acts s (delete_directory path)
  unfolding after subject further made made_folder takes gives gives_folder entry_of
  delete-directory-acts =
      record {
        own = same-files-left path;
        others = λ other ne. same-files-left other;
        arrived = λ to i. absurd i;
        vacant = λ to i. absurd i;
        kept = λ to i. absurd i;
        folder = came-before small s path S' goes;
        folders = λ other ne. sym (came-others small s path S' goes other ne);
        used = rw shown-before used-less;
        size = sym goes.only.len;
      }

-- A FILE MOVED
move-acts : (s path to : List ℕ) → check s ≡ 0 → move_refusal s path to ≡ 0 → Acts s (move path to)
unfolding after subject further made made_folder takes gives gives_folder
move-acts s path to ok r =
    record {
      own = move-left s path to ok r;
      others = λ other aside. move-others s path to ok r other (λ q. aside (inl q)) (λ q. aside (inr (inl q)));
      arrived = λ p i. ⊎_elim (λ q. rw q (move-come s path to ok r)) (λ x. absurd x) i;
      vacant = λ p i. ⊎_elim (λ q. rw q (none-shown s to (move-vacant s path to (move-given s path to r) is_file file-used-type))) (λ x. absurd x) i;
      kept = λ p i. move-folders s path to ok r p;
      folder = move-folders s path to ok r path;
      folders = λ other ne. move-folders s path to ok r other;
      used = let u = move-used s path to ok (move-given s path to r) in omega arith;
      size = move-length s path to ok (move-given s path to r);
    }

-- ALL OF THEM
pub acts : (s : List ℕ) (c : Change) → check s ≡ 0 → refusal s c ≡ 0 → Acts s c
unfolding refusal of_file further made_folder gives_folder
acts s (create path type user group permissions flags time) ok r = file-acts s (create path type user group permissions flags time) refl (λ m. refl) (λ m. refl) (effect s (create path type user group permissions flags time) refl ok r)
acts s (write path offset bytes time) ok r = file-acts s (write path offset bytes time) refl (λ m. refl) (λ m. refl) (effect s (write path offset bytes time) refl ok r)
acts s (delete path) ok r = file-acts s (delete path) refl (λ m. refl) (λ m. refl) (effect s (delete path) refl ok r)
acts s (create_directory path type user group permissions flags time d) ok r = create-directory-acts s path ok type user group permissions flags time d r
acts s (delete_directory path) ok r = delete-directory-acts s path ok r
acts s (set_attributes path bytes) ok r = file-acts s (set_attributes path bytes) refl (λ m. refl) (λ m. refl) (effect s (set_attributes path bytes) refl ok r)
acts s (clear_attributes path) ok r = file-acts s (clear_attributes path) refl (λ m. refl) (λ m. refl) (effect s (clear_attributes path) refl ok r)
acts s (clear_flags path) ok r = file-acts s (clear_flags path) refl (λ m. refl) (λ m. refl) (effect s (clear_flags path) refl ok r)
acts s (shorten path size time) ok r = file-acts s (shorten path size time) refl (λ m. refl) (λ m. refl) (effect s (shorten path size time) refl ok r)
acts s (replace path bytes time) ok r = file-acts s (replace path bytes time) refl (λ m. refl) (λ m. refl) (effect s (replace path bytes time) refl ok r)
acts s (move path to) ok r = move-acts s path to ok r

-- the files of all other paths stay where they are, with their entries and blocks
pub others-untouched : (s : List ℕ) (c : Change) (other : List ℕ) → check s ≡ 0 → refusal s c ≡ 0 → (In other (subjects c) → ⊥) → path_ok other ≡ true → Untouched s (after s c) other
unfolding refusal after subject
others-untouched s (create path type user group permissions flags time) other ok r ne good = create-untouched s path other ok good (λ q. ne (inl q)) type user group permissions flags time r
others-untouched s (write path offset bytes time) other ok r ne good = write-untouched s path other ok good (λ q. ne (inl q)) offset bytes time (write-given s path offset (length bytes) r)
others-untouched s (delete path) other ok r ne good = delete-untouched s path other ok good (λ q. ne (inl q)) r
others-untouched s (create_directory path type user group permissions flags time d) other ok r ne good = create-directory-untouched s path other ok type user group permissions flags time d r
others-untouched s (delete_directory path) other ok r ne good = delete-directory-untouched s path ok r other
others-untouched s (set_attributes path bytes) other ok r ne good = set-untouched s path other ok good (λ q. ne (inl q)) bytes r
others-untouched s (clear_attributes path) other ok r ne good = clear-untouched s path other ok good (λ q. ne (inl q)) r
others-untouched s (clear_flags path) other ok r ne good = flags-untouched s path other ok good (λ q. ne (inl q)) r
others-untouched s (shorten path size time) other ok r ne good = shorten-untouched s path other ok good (λ q. ne (inl q)) size time (shorten-given s path size r)
others-untouched s (replace path bytes time) other ok r ne good = replace-untouched s path other ok good (λ q. ne (inl q)) bytes time r
others-untouched s (move path to) other ok r ne good = move-untouched s path to ok r other good (λ q. ne (inl q)) (λ q. ne (inr (unfold further in inl q)))
