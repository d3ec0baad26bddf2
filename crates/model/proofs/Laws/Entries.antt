-- AN ENTRY that a listing answers has the fields of what is at its name, and every name at which something is comes.
use Prim.Native.Nat.{ℕ, zero, suc, ◌+◌, ◌-◌, ◌*◌, ◌/◌, ◌≤◌, ◌<◌, min}
use mathlib.Core.Path.{◌≡◌, refl, sym, ap, ◌∙◌, subst}
use mathlib.Core.Bool.{Bool, true, false, ◌&&◌, cond, false≢true}
use mathlib.Core.List.{List, []}
use mathlib.Core.Logic.{inl, inr, ⊎_elim, ◌≢◌}
use native.Mathlib.Omega.{arith}
use native.Mathlib.Decide.{ℕ_discrete}
use borrow.Author.Tests.{leb-true, le-leb, ne_eqb, eqb-true, eqb-false, not-true}
use lib.ListN.{length, get_or, take}
use lib.Dec.{eqb, leb}
use Rattle.layout.specs.Lists.{lowest, interval}
use Rattle.layout.specs.Bytes.{be32, be64, bytes4, bytes8, part, splice}
use Rattle.layout.specs.Geometry.{blocks_for}
use Rattle.layout.specs.Directory.{slot_at, type_of, first_block, size_of, blocks_of, attribute_block_of, attribute_size_of, is_file, is_directory, is_used, good_name, name_of, name_ok, padded, directory, root_of, content, attributes}
use Rattle.layout.specs.Check.{check, no_attributes, attributes_ok, file_ok, directory_entry_ok}
use Rattle.layout.specs.Paths.{path_slot, entry_of, file_refusal, directory_refusal}
use Rattle.layout.specs.Looks.{EntryAnswer, no_entry, entry_fields, is_root_path, listed_refusal, listed_block, used_slot, next_entry}
use Rattle.layout.proofs.Laws.Tests.{and_split, and-join}
use Rattle.layout.proofs.Laws.Lists.{lowest-met, lowest-none, lowest-first}
use Rattle.layout.proofs.Laws.Bytes.{get_d_part, be32-part, part-part}
use Rattle.layout.proofs.Laws.Names.{same-eq}
use Rattle.layout.proofs.Laws.Owners.{file-used-type}
use Rattle.layout.proofs.Laws.Inside.{directory-used-type}
use Rattle.layout.proofs.Laws.Paths.{Named, path-named}
use Rattle.layout.proofs.Laws.Slots.{slot-entry, entry-high, names-differ}
use Rattle.layout.proofs.Laws.Trees.{size_at, length-directory}
use Rattle.layout.proofs.Laws.Sound.{Sound, sound}
use Rattle.volume.specs.Views as views
use Rattle.volume.specs.Views.{file_of, folder_of}
use Rattle.volume.proofs.Laws.Views.{file-shown}
use Rattle.volume.proofs.Laws.Effects.{content-length, attributes-blocks}
use Rattle.store.specs.Put.{front}
use Rattle.model.specs.Model.{Given, Node, nothing, file, folder, Model, shows_nothing}
use Rattle.model.specs.Refusals.{no_folder}
use Rattle.model.specs.Listing.{child, list_number, Given≡, Tells, EntrySays, Comes}
use Rattle.model.specs.Refines.{kind_bytes, as_file, as_folder, Shows}
use Rattle.model.proofs.Laws.Nodes.{is_shown, is_shown_folder}
use Rattle.model.proofs.Laws.Steps.{folder-shown}
use Rattle.model.proofs.Laws.Parents.{found, folder-low}
use Rattle.model.proofs.Laws.Refusals.{folder-number}
use Rattle.model.proofs.Laws.Folders.{Opened, root_opened, folder-opened, child-ok, child-home, child-low, child-there, child-named, named-child, some-slot, slot-kind, slot-name_ok, slot-good}

-- numbers by the bytes that keep them
be64-part : (s : List ℕ) (at : ℕ) → be64 (part s at 8) 0 ≡ be64 s at
unfolding be64
be64-part s at = let z : at + 0 ≡ at = omega arith in rw (be32-part s at 8 0 (omega arith), be32-part s at 8 4 (omega arith), z)

four-part : (s : List ℕ) (at : ℕ) → be32 (part s at 4) 0 ≡ be32 s at
four-part s at = let z : at + 0 ≡ at = omega arith in be32-part s at 4 0 (omega arith) ∙ ap (be32 s) z

-- the fields of a view
kind_in : views.Maybe views.File → List ℕ
kind_in views.nothing = []
kind_in (views.just f) = f.kind

created_in : views.Maybe views.File → List ℕ
created_in views.nothing = []
created_in (views.just f) = f.created

modified_in : views.Maybe views.File → List ℕ
modified_in views.nothing = []
modified_in (views.just f) = f.modified

bytes_of : views.Maybe views.File → List ℕ
bytes_of views.nothing = []
bytes_of (views.just f) = f.bytes

attributes_of : views.Maybe views.File → List ℕ
attributes_of views.nothing = []
attributes_of (views.just f) = f.attributes

-- a folder's fields as those of a file without bytes
as_entry : views.Maybe views.Folder → views.Maybe views.File
as_entry views.nothing = views.nothing
as_entry (views.just d) = views.just (record { bytes = []; kind = d.kind; created = d.created; modified = d.modified; flags = d.flags; attributes = [] })

module _ (s : List ℕ) (e k : ℕ) (buffer : List ℕ) where
  abbrev a : EntryAnswer
  a = entry_fields s k e buffer

  given-told : (g : Given) → kind_bytes g ≡ part s e 4 → bytes8 g.created ≡ part s (e + 16) 8 → Given≡ g a
  unfolding entry_fields
  given-told g q c =
      let z : e + 0 ≡ e = omega arith in
      let at : (i : ℕ) → i < 4 → get_or s (e + i) 0 ≡ get_or (kind_bytes g) i 0 = λ i h. sym (get_d_part s e 4 i h) ∙ ap (λ (l : List ℕ). get_or l i 0) (sym q) in
      (ap (λ (i : ℕ). get_or s i 0) (sym z) ∙ at 0 (omega arith), at 1 (omega arith), at 2 (omega arith), at 3 (omega arith), sym (be64-part s (e + 16)) ∙ ap (λ (l : List ℕ). be64 l 0) (sym c))

  time-told : (t : ℕ) → bytes8 t ≡ part s (e + 24) 8 → be64 s (e + 24) ≡ be64 (bytes8 t) 0
  time-told t q = sym (be64-part s (e + 24)) ∙ ap (λ (l : List ℕ). be64 l 0) (sym q)

  flags-told : (t : ℕ) → bytes4 t ≡ part s (e + 40) 4 → be32 s (e + 40) ≡ be32 (bytes4 t) 0
  flags-told t q = sym (four-part s (e + 40)) ∙ ap (λ (l : List ℕ). be32 l 0) (sym q)

  file-told : (x : Node) → as_file x ≡ views.just (file_of s e) → size_of s e ≡ length (content s e) → blocks_of s e ≡ blocks_for (size_of s e) → attribute_size_of s e ≡ length (attributes s e) / 512 → Tells x a
  unfolding Tells file_of entry_fields kind_in created_in modified_in bytes_of attributes_of
  file-told nothing q z b t = absurd (false≢true (ap is_shown q))
  file-told (folder d) q z b t = absurd (false≢true (ap is_shown q))
  file-told (file f) q z b t =
      let l : length f.bytes ≡ size_of s e = ap (λ (v : views.Maybe views.File). length (bytes_of v)) q ∙ sym z in (
        given-told f.given (ap kind_in q) (ap created_in q),
        time-told f.modified (ap modified_in q),
        flags-told f.flags (ap views.flags_in q),
        sym l,
        b ∙ ap blocks_for (sym l),
        t ∙ sym (ap (λ (v : views.Maybe views.File). length (attributes_of v) / 512) q),
      )

  folder-told : (x : Node) → as_folder x ≡ views.just (folder_of s e) → size_of s e ≡ 0 → attribute_size_of s e ≡ 0 → Tells x a
  unfolding Tells folder_of entry_fields kind_in created_in modified_in as_entry
  folder-told nothing q z t = absurd (false≢true (ap is_shown_folder q))
  folder-told (file f) q z t = absurd (false≢true (ap is_shown_folder q))
  folder-told (folder d) q z t = (
    given-told d.given (ap (λ (v : views.Maybe views.Folder). kind_in (as_entry v)) q) (ap (λ (v : views.Maybe views.Folder). created_in (as_entry v)) q),
    time-told d.modified (ap (λ (v : views.Maybe views.Folder). modified_in (as_entry v)) q),
    flags-told d.flags (ap views.folder_flags_in q),
    z,
    sym (ap views.size_in q),
    t,
  )

-- A SLOT OF A FOLDER
module _ (s : List ℕ) (m : Model) (S : Shows s m) (ok : check s ≡ 0) (at : List ℕ) (b : ℕ) (F : Opened s at b) where
  abbrev R : Sound s
  R = sound s ok

  abbrev place : ℕ → ℕ
  place k = slot_at (directory s b) k

  -- what has a name is found by the path
  module _ (type : ℕ → Bool) (f : (x : ℕ) → type x ≡ true → x ≢ 0) (name : List ℕ) (g : good_name name ≡ true) (k : ℕ) (N : Named type s b name k) where
    there-some : path_slot type s (child at name) ≢ 0
    there-some =
        found s m S ok (child at name) (child-ok s m S ok at b F name g) (child-low s m S ok at b F name g) (child-there s m S ok at b F name g) type k (child-named s m S ok at b F name g type k N)

    is-slot : path_slot type s (child at name) ≡ k
    is-slot = go (ℕ_discrete (path_slot type s (child at name)) k)
      where
        M : Named type s b name (path_slot type s (child at name))
        M = named-child s m S ok at b F name g type (path_slot type s (child at name)) (path-named type s (child at name) there-some)

        go : Dec (path_slot type s (child at name) ≡ k) → path_slot type s (child at name) ≡ k
        go (yes q) = q
        go (no n) =
            absurd (names-differ s R (b, F.level) F.inside (path_slot type s (child at name)) k M.low N.low M.high N.high n (f _ M.typed) (f _ N.typed) (M.named ∙ sym N.named))

    is-entry : entry_of type s (child at name) ≡ place k
    unfolding entry_of
    is-entry = rw (child-home s m S ok at b F name g, is-slot)

  module _ (k : ℕ) (k₁ : 1 ≤ k) (k₂ : k < 4 * size_at s b - 1) (used : type_of s (place k) ≢ 0) (buffer : List ℕ) where
    abbrev name : List ℕ
    name = name_of s (place k)

    good : good_name name ≡ true
    good = slot-good s m S ok at b F k k₁ k₂ used

    of-file : is_file (type_of s (place k)) ≡ true → file_ok s (place k) ≡ true → Tells (m.at (child at name)) (entry_fields s k (place k) buffer)
    unfolding file_refusal file_ok
    of-file t o =
        let N : Named is_file s b name k = record { low = k₁; high = k₂; typed = t; named = refl } in
        let q = is-entry is_file (λ x h. file-used-type x h) name good k N in
        let r : file_refusal s (child at name) ≡ 0 = rw (child-ok s m S ok at b F name good, child-low s m S ok at b F name good, ne_eqb (path_slot is_file s (child at name)) 0 (there-some is_file (λ x h. file-used-type x h) name good k N)) in
        let w = and_split (name_ok s (place k)) _ o in
        let v = and_split (attributes_ok s (place k)) _ w.1 in
        let u = and_split (eqb (blocks_of s (place k)) (blocks_for (size_of s (place k)))) _ v.1 in
        let l : size_of s (place k) ≡ length (content s (place k)) = sym (subst (λ (i : ℕ). length (content s i) ≡ size_of s i) q (content-length s (child at name) ok r)) in
        let c : attribute_size_of s (place k) ≡ length (attributes s (place k)) / 512 = subst (λ (i : ℕ). attribute_size_of s i ≡ length (attributes s i) / 512) q (sym (attributes-blocks s (child at name) ok r)) in
        file-told s (place k) k buffer (m.at (child at name))
        (sym (S.files (child at name)) ∙ file-shown s (child at name) r ∙ ap (λ (i : ℕ). views.just (file_of s i)) q) l (eqb-true _ _ u.0) c

    of-folder : is_directory (type_of s (place k)) ≡ true → directory_entry_ok s (place k) ≡ true → Tells (m.at (child at name)) (entry_fields s k (place k) buffer)
    unfolding directory_refusal directory_entry_ok no_attributes
    of-folder t o =
        let N : Named is_directory s b name k = record { low = k₁; high = k₂; typed = t; named = refl } in
        let q = is-entry is_directory (λ x h. directory-used-type x h) name good k N in
        let ne = there-some is_directory (λ x h. directory-used-type x h) name good k N in
        let fine = child-ok s m S ok at b F name good in
        let low = child-low s m S ok at b F name good in
        let r : directory_refusal s (child at name) ≡ 0 = rw (fine, folder-low s m S ok (child at name) fine low (child-there s m S ok at b F name good) ne, ne_eqb (path_slot is_directory s (child at name)) 0 ne) in
        let w = and_split (name_ok s (place k)) _ o in
        let v = and_split (eqb (attribute_block_of s (place k)) 0 && eqb (attribute_size_of s (place k)) 0) _ w.1 in
        folder-told s (place k) k buffer (m.at (child at name))
        (sym (S.folders (child at name)) ∙ folder-shown s (child at name) r ∙ ap (λ (i : ℕ). views.just (folder_of s i)) q)
        (eqb-true _ _ v.1) (eqb-true _ _ (and_split (eqb (attribute_block_of s (place k)) 0) _ v.0).1)

    pub slot-told : Tells (m.at (child at name)) (entry_fields s k (place k) buffer)
    slot-told = ⊎_elim (λ w. of-file w.0 w.1) (λ w. of-folder w.0 w.1) (slot-kind s m S ok at b F k k₁ k₂ used)

    pub name-bytes : (n : ℕ) → part s (place k + 48) (min n 80) ≡ take (min n 80) (padded name)
    unfolding name_ok
    name-bytes n =
        let p = same-eq _ _ (and_split (good_name name) _ (slot-name_ok s m S ok at b F k k₁ k₂ used)).1 in
        let h = entry-high s R (place k) (slot-entry s R (b, F.level) F.inside k (omega arith)) in
        let z : place k + 48 + 0 ≡ place k + 48 = omega arith in
        ap (λ (i : ℕ). part s i (min n 80)) (sym z) ∙ sym (part-part s (place k + 48) 80 0 (min n 80) (omega arith) (omega arith)) ∙ ap (λ (l : List ℕ). part l 0 (min n 80)) p

-- ASKED FROM A SLOT ON
module _ (s : List ℕ) (m : Model) (S : Shows s m) (ok : check s ≡ 0) (path buffer : List ℕ) where
  number_is : listed_refusal s path ≡ list_number m path
  unfolding listed_refusal list_number
  number_is = rw (ok, folder-number s m S ok path)

  abbrev b : ℕ
  b = listed_block s path

  opened : list_number m path ≡ 0 → Opened s (front path) (listed_block s path)
  unfolding list_number listed_block front
  opened z = go (is_root_path path) refl z
    where
      go : (t : Bool) → is_root_path path ≡ t → cond t 0 (no_folder m path) ≡ 0 → Opened s (cond t [] path) (cond t (root_of s) (first_block s (entry_of is_directory s path)))
      go true e q = root_opened s
      go false e q = folder-opened s m S ok path (folder-number s m S ok path ∙ q)

  refused : (j start : ℕ) → list_number m path ≡ suc j → next_entry s path start buffer ≡ no_entry (suc j) buffer
  unfolding next_entry
  refused j start z = rw (number_is, z)

  -- the slot that is answered
  abbrev test : ℕ → ℕ → Bool
  test start k = leb start k && is_used (type_of s (slot_at (directory s (listed_block s path)) k))

  abbrev next : ℕ → ℕ
  next start = used_slot s (directory s (listed_block s path)) start

  none_left : (start : ℕ) → list_number m path ≡ 0 → next start ≡ 0 → next_entry s path start buffer ≡ no_entry 0 buffer
  unfolding next_entry
  none_left start z n = rw (number_is, z, n)

  one_left : (start : ℕ) → list_number m path ≡ 0 → next start ≢ 0
      → next_entry s path start buffer ≡ entry_fields s (next start) (slot_at (directory s b) (next start)) (splice buffer 0 (part s (slot_at (directory s b) (next start) + 48) (min (length buffer) 80)))
  unfolding next_entry
  one_left start z n = rw (number_is, z, ne_eqb (next start) 0 n)

  met : (start : ℕ) → next start ≢ 0 → (1 ≤ next start) × (next start < 4 * size_at s b - 1) × (start ≤ next start) × (type_of s (slot_at (directory s b) (next start)) ≢ 0)
  unfolding used_slot
  met start n =
      let w = lowest-met (test start) 1 (4 * length (directory s b) - 2) n in
      let v = and_split (leb start (next start)) _ w.2 in
      (w.0, omega (arith, length-directory s b, w.0, w.1), leb-true _ _ v.0, eqb-false _ 0 (not-true _ v.1))

  told : (start : ℕ) → list_number m path ≡ 0 → next start ≢ 0 → EntrySays m path buffer (next_entry s path start buffer)
  unfolding entry_fields
  told start z n =
      let w = met start n in
      let F = opened z in
      let q = one_left start z n in
      rw q (record {
        number = sym z;
        entry = inr (record {
          name = name_of s (slot_at (directory s b) (next start));
          tells = slot-told s m S ok (front path) b F (next start) w.0 w.1 w.3 (splice buffer 0 (part s (slot_at (directory s b) (next start) + 48) (min (length buffer) 80)));
          named = ap (splice buffer 0) (name-bytes s m S ok (front path) b F (next start) w.0 w.1 w.3 buffer (length buffer));
        });
      })

  nothing-told : (k start : ℕ) → list_number m path ≡ k → next_entry s path start buffer ≡ no_entry k buffer → EntrySays m path buffer (next_entry s path start buffer)
  unfolding no_entry
  nothing-told k start z q = rw q (record { number = sym z; entry = inl (ap (λ (j : ℕ). no_entry j buffer) (sym z)) })

  pub entry-says : (start : ℕ) → EntrySays m path buffer (next_entry s path start buffer)
  entry-says start = go (list_number m path) refl (ℕ_discrete (next start) 0)
    where
      go : (k : ℕ) → list_number m path ≡ k → Dec (next start ≡ 0) → EntrySays m path buffer (next_entry s path start buffer)
      go (suc j) z n = nothing-told (suc j) start z (refused j start z)
      go zero z (yes n) = nothing-told zero start z (none_left start z n)
      go zero z (no n) = told start z n

  -- EVERY NAME
  module _ (z : list_number m path ≡ 0) (name : List ℕ) (g : good_name name ≡ true) (shown : shows_nothing (m.at (child (front path) name)) ≡ false) where
    N : (k : ℕ) × Named is_used s b name k
    N = some-slot s m S ok (front path) b (opened z) name g shown

    abbrev own : ℕ
    own = N.0

    -- the lowest from a slot on is not behind it
    low : (start : ℕ) → start ≤ own → (next start ≢ 0) × (next start ≤ own)
    unfolding used_slot
    low start h =
        let l = N.1.low in
        let u = N.1.high in
        let n : ℕ = 4 * length (directory s b) - 2 in
        let y = length-directory s b in
        let t : test start own ≡ true = and-join (le-leb start own h) N.1.typed in
        let f : lowest (test start) (interval 1 own) ≢ 0 = λ q. lowest-none (test start) 1 own (omega arith) q own l (omega arith) t in
        let p : lowest (test start) (interval 1 (4 * length (directory s b) - 2)) ≡ lowest (test start) (interval 1 own) = lowest-first (test start) own 1 (4 * length (directory s b) - 2) (omega arith) f in
        let w = (lowest-met (test start) 1 own f).1 in
        (λ q. f (sym p ∙ q), omega arith)

    asked : (start : ℕ) → start ≤ own → (next_entry s path start buffer).slot ≡ next start
    unfolding entry_fields
    asked start h = ap (λ (a : EntryAnswer). a.slot) (one_left start z (low start h).0)

    here : next own ≡ own
    here = let w = met own (low own (omega arith)).0 in let v = (low own (omega arith)).1 in omega (arith, w.2)

    called-as : (next_entry s path own buffer).buffer ≡ splice buffer 0 (take (min (length buffer) 80) (padded name))
    unfolding entry_fields
    called-as =
        let n = (low own (omega arith)).0 in
        let w = met own n in
        ap (λ (a : EntryAnswer). a.buffer) (one_left own z n)
        ∙ ap (splice buffer 0) (name-bytes s m S ok (front path) b (opened z) (next own) w.0 w.1 w.3 buffer (length buffer))
        ∙ ap (λ (k : ℕ). splice buffer 0 (take (min (length buffer) 80) (padded (name_of s (slot_at (directory s b) k))))) here
        ∙ ap (λ (x : List ℕ). splice buffer 0 (take (min (length buffer) 80) (padded x))) N.1.named

    pub comes : Comes (λ start. next_entry s path start buffer) buffer name
    comes =
        record {
          slot = own;
          answered = asked own (omega arith) ∙ here;
          named = called-as;
          before = λ start h. let e = asked start h in let w = low start h in let v = met start w.0 in (omega (arith, v.0), omega (arith, w.1));
        }
