-- THE EFFECT OF A CHANGE OF A FILE: on what its own path shows a function of that alone, on what other paths show none, and how many blocks it takes and gives.
use Prim.Native.Nat.{ℕ, ◌+◌, ◌-◌, ◌/◌, ◌≤◌, ◌<◌, max, min}
use mathlib.Core.Path.{◌≡◌, refl, sym, ap, ◌∙◌}
use mathlib.Core.Bool.{true, false}
use mathlib.Core.List.{List, [], ◌∷◌, ◌++◌}
use mathlib.Core.Logic.{◌⊎◌, inl, inr, ⊎_elim, ◌≢◌}
use native.Mathlib.Omega.{arith}
use lib.ListN.{length, get_or, take, length-take}
use Rattle.layout.specs.Limits.{max_levels}
use Rattle.layout.specs.Bytes.{be32, bytes4, bytes8, part, splice, zeros}
use Rattle.layout.specs.Geometry.{block_count, blocks_for}
use Rattle.layout.specs.Table.{next, chain, free_blocks}
use Rattle.layout.specs.Directory.{slot_at, type_of, size_of, blocks_of, is_file, is_directory, name_of, good_name, directory, dirs, free_slot, file_blocks, content, attribute_size_of, attribute_blocks, attributes}
use Rattle.layout.specs.Check.{check}
use Rattle.layout.specs.Paths.{parts, leading, last_part, home, path_slot, entry_of, file_refusal}
use Rattle.volume.specs.Entries.{entry_bytes}
use Rattle.volume.specs.Create.{create_refusal, create_slot, create_image, place}
use Rattle.volume.specs.Write.{new_size, needed, new_blocks, write_at}
use Rattle.volume.specs.Delete.{delete_at}
use Rattle.volume.specs.Attributes.{set_attributes_at, clear_attributes_at, set_attributes_refusal}
use Rattle.volume.specs.Flags.{clear_flags_at}
use Rattle.volume.specs.Shorten.{shorten_at}
use Rattle.volume.specs.Replace.{replace_refusal, replace_at}
use Rattle.volume.specs.Change.{Change, create, write, delete, create_directory, delete_directory, set_attributes, clear_attributes, clear_flags, shorten, replace, refusal, after, move}
use Rattle.volume.specs.Views.{File, just, file_of, file_at, folder_at, subject, of_file, made, takes, gives}
use Rattle.volume.proofs.Laws.Places.{CreateGiven, create-given, At, file-at-path, at-accepted, WriteGiven, write-given, SetGiven, set-path, set_given, path-name, place_is, place-home, place-free, place-new, place-there}
use Rattle.volume.proofs.Laws.Entries.{entry_length, entry-type, entry-size, entry-attribute-size}
use Rattle.volume.proofs.Laws.Create.{created-slot, created-no-dir, created-name, created-sound}
use Rattle.volume.proofs.Laws.Write.{Written, written-file, written-slot, written-used, written-attributes, written-sound}
use Rattle.volume.proofs.Laws.Delete.{deleted-slot, deleted-type, deleted-used}
use Rattle.volume.proofs.Laws.Fields.{EntryKept}
use Rattle.volume.proofs.Laws.SetClear.{cleared-sound, cleared-slot, cleared-entry, cleared-flags, cleared-content, cleared-none, cleared-used, set-sound, set-slot, set-entry, set-flags, set-content, set-bytes, set-used}
use Rattle.volume.proofs.Laws.Flags.{flags-beside, flags-zero, flags-sound, flags-slot, flags-entry, flags-content, flags-attributes, flags-used}
use Rattle.volume.proofs.Laws.Shorten.{Shortened, ShortenGiven, shorten-given, shortened-file, shortened-slot, shortened-sound, shortened-used, shortened-attributes}
use Rattle.volume.proofs.Laws.Replace.{min-either, replace-there, replace-shorten, replace-write, short-sound, short-entry}
use Rattle.volume.proofs.Laws.Content.{write-untouched, delete-untouched, create-untouched, set-untouched, clear-untouched, flags-untouched, shorten-untouched}
use Rattle.volume.proofs.Laws.Views.{file-shown, other-shown, OneEntry, folder-shown, own-gone, own-slot, own-entry, own-shown}
use Rattle.layout.proofs.Laws.Bytes.{part-part, part_same, be32-part, zeros-32, length-splice}
use Rattle.layout.proofs.Laws.Splices.{splice-whole}
use Rattle.layout.proofs.Laws.Tests.{true-not-false}
use Rattle.layout.proofs.Laws.Lists.{In}
use Rattle.layout.proofs.Laws.Names.{padded-length}
use Rattle.layout.proofs.Laws.Frames.{same-inside, same-below, same_byte, same-be32}
use Rattle.layout.proofs.Laws.Sound.{Sound, Entry, sound}
use Rattle.layout.proofs.Laws.Slots.{slot-entry, entry-high, entry-low}
use Rattle.layout.proofs.Laws.Files.{file-in, length-content, length-attributes}
use Rattle.layout.proofs.Laws.Owners.{file-no-dir}
use Rattle.layout.proofs.Laws.Changed.{OneSlot}

pub record Effect (s : List ℕ) (c : Change) : Type 0 where
  pub own : file_at (after s c) (subject c) ≡ made c (file_at s (subject c))
  pub others : (other : List ℕ) → other ≢ subject c → file_at (after s c) other ≡ file_at s other
  pub folders : (path : List ℕ) → folder_at (after s c) path ≡ folder_at s path
  pub used : be32 (after s c) 20 + gives c (file_at s (subject c)) ≡ be32 s 20 + takes c (file_at s (subject c))
  pub size : length (after s c) ≡ length s

-- CREATE
module _ (s path : List ℕ) (ok : check s ≡ 0) (type user group permissions flags time : ℕ) (r : create_refusal s path type flags ≡ 0) where
  given : CreateGiven s path type flags
  given = create-given s path type flags r

  abbrev e : ℕ
  e = slot_at (directory s (home s path)) (free_slot s (directory s (home s path)))

  abbrev p : List ℕ
  p = entry_bytes type user group permissions 0 0 0 time flags (last_part (parts path))

  abbrev s' : List ℕ
  s' = splice s e p

  S : Sound s
  S = sound s ok

  create-is : create_image s path type user group permissions flags time ≡ s'
  unfolding create_image
  create-is = rw (place_is s path given.placed)

  level : ℕ
  level = max_levels - length (leading (parts path))

  abbrev di : In (home s path, max_levels - length (leading (parts path))) (dirs s)
  di = place-home s path given.placed given.short

  good : good_name (last_part (parts path)) ≡ true
  good = path-name path given.good

  E : Entry s e
  E = let h = (place-free s path given.placed).1 in slot-entry s S (home s path, max_levels - length (leading (parts path))) di (free_slot s (directory s (home s path))) (omega arith)

  high : e + 128 ≤ length s
  high = entry-high s S e E

  long : length p ≡ 128
  long = entry_length (last_part (parts path)) (padded-length (last_part (parts path)) good) type user group permissions 0 0 0 time flags

  part-new : (i w : ℕ) → i + w ≤ 128 → part s' (e + i) w ≡ part p i w
  part-new i w h =
      part_same p s' i (e + i) w (same-inside s e p (omega (arith, long, high)) i w (omega (arith, long))) (omega (arith, long)) (omega (arith, high, length-splice s e p (omega (arith, long, high))))

  slots : OneSlot s (dirs s) s' e
  slots =
      let w = place-free s path given.placed in
      created-slot s S (home s path, max_levels - length (leading (parts path))) di (free_slot s (directory s (home s path))) w.0 w.1 w.2 (last_part (parts path)) good (place-new s path given.placed) type user group permissions flags time given.file

  no-dir : is_directory (type_of s' e) ≡ false
  no-dir =
      let w = place-free s path given.placed in
      created-no-dir s S (home s path, max_levels - length (leading (parts path))) di (free_slot s (directory s (home s path))) w.0 w.1 w.2 (last_part (parts path)) good (place-new s path given.placed) type user group permissions flags time given.file

  was-none : is_directory (type_of s e) ≡ false
  was-none = rw (place-free s path given.placed).2

  file-new : file_of s' e ≡ record { bytes = []; kind = type ∷ user ∷ group ∷ permissions ∷ []; created = bytes8 time; modified = bytes8 time; flags = bytes4 flags; attributes = [] }
  unfolding file_of content attributes attribute_blocks chain entry_bytes bytes4 bytes8 zeros be32
  file-new =
      let z : e + 0 ≡ e = omega arith in
      let eighty = padded-length (last_part (parts path)) good in
      let a : size_of s' e ≡ 0 = entry-size (last_part (parts path)) eighty type user group permissions 0 0 0 time flags s e high in
      let k : part s' e 4 ≡ type ∷ user ∷ group ∷ permissions ∷ [] = rw z at (part-new 0 4 (omega arith)) in
      let b : attribute_size_of s' e ≡ 0 = entry-attribute-size (last_part (parts path)) eighty type user group permissions 0 0 0 time flags s e high in
      rw (a, b, k, part-new 16 8 (omega arith), part-new 24 8 (omega arith), part-new 40 4 (omega arith))

  -- where the path leads then
  pub create-slot-found : path_slot is_file (create_image s path type user group permissions flags time) path ≡ create_slot s path
  unfolding create_slot
  create-slot-found =
      let w = place-free s path given.placed in
      let S' : Sound s' = created-sound s S (home s path, max_levels - length (leading (parts path))) di (free_slot s (directory s (home s path))) w.0 w.1 w.2 (last_part (parts path)) good (place-new s path given.placed) type user group permissions flags time given.file in
      rw create-is (own-slot s s' path S given.good given.short (place-there s path given.placed) (max_levels - length (leading (parts path))) di (free_slot s (directory s (home s path))) w.0 w.1 slots was-none no-dir
      S' (rw (entry-type (last_part (parts path)) (padded-length (last_part (parts path)) good) type user group permissions 0 0 0 time flags s e high) given.file)
      (created-name s S (home s path, max_levels - length (leading (parts path))) di (free_slot s (directory s (home s path))) w.0 w.1 w.2 (last_part (parts path)) good (place-new s path given.placed) type user group permissions flags time given.file))

  pub create-entry : entry_of is_file (create_image s path type user group permissions flags time) path ≡ place s path
  create-entry =
      let w = place-free s path given.placed in
      let S' : Sound s' = created-sound s S (home s path, max_levels - length (leading (parts path))) di (free_slot s (directory s (home s path))) w.0 w.1 w.2 (last_part (parts path)) good (place-new s path given.placed) type user group permissions flags time given.file in
      rw (create-is, place_is s path given.placed) (own-entry s s' path S given.good given.short (place-there s path given.placed) (max_levels - length (leading (parts path))) di (free_slot s (directory s (home s path))) w.0 w.1 slots was-none no-dir
      S' (rw (entry-type (last_part (parts path)) (padded-length (last_part (parts path)) good) type user group permissions 0 0 0 time flags s e high) given.file)
      (created-name s S (home s path, max_levels - length (leading (parts path))) di (free_slot s (directory s (home s path))) w.0 w.1 w.2 (last_part (parts path)) good (place-new s path given.placed) type user group permissions flags time given.file))

  pub create-effect : Effect s (create path type user group permissions flags time)
  unfolding after subject made takes gives
  create-effect =
      let w = place-free s path given.placed in
      let O : OneEntry s s' = record { d = (home s path, max_levels - length (leading (parts path))); di = di; k = free_slot s (directory s (home s path)); k₁ = w.0; k₂ = w.1; only = slots; was = was-none; now = no-dir } in
      let S' : Sound s' = created-sound s S (home s path, max_levels - length (leading (parts path))) di (free_slot s (directory s (home s path))) w.0 w.1 w.2 (last_part (parts path)) good (place-new s path given.placed) type user group permissions flags time given.file in
      record {
        own = rw create-is (own-shown s s' path S given.good given.short (place-there s path given.placed) (max_levels - length (leading (parts path))) di (free_slot s (directory s (home s path))) w.0 w.1 slots was-none no-dir
            S' (rw (entry-type (last_part (parts path)) (padded-length (last_part (parts path)) good) type user group permissions 0 0 0 time flags s e high) given.file)
            (created-name s S (home s path, max_levels - length (leading (parts path))) di (free_slot s (directory s (home s path))) w.0 w.1 w.2 (last_part (parts path)) good (place-new s path given.placed) type user group permissions flags time given.file)
            ∙ ap just file-new);
        others = λ other ne. other-shown s _ S (rw create-is slots.len) other (λ q. create-untouched s path other ok q ne type user group permissions flags time r);
        folders = λ q. rw create-is (folder-shown s s' S O q);
        used = rw create-is (let h = same-be32 s s' 0 28 20 (same-below s e p (omega (arith, long, high)) 0 28 (omega (arith, entry-low s S e E))) (omega arith) (omega arith) in omega arith);
        size = rw create-is slots.len;
      }

-- the file of the path, found where it was, with its size, blocks and content
pub record OwnKept (s s' path : List ℕ) : Type 0 where
  pub slot : path_slot is_file s' path ≡ path_slot is_file s path
  pub entry : entry_of is_file s' path ≡ entry_of is_file s path
  pub size : size_of s' (entry_of is_file s path) ≡ size_of s (entry_of is_file s path)
  pub blocks : blocks_of s' (entry_of is_file s path) ≡ blocks_of s (entry_of is_file s path)
  pub contents : content s' (entry_of is_file s path) ≡ content s (entry_of is_file s path)

-- A FILE THAT IS THERE
module _ (s path : List ℕ) (ok : check s ≡ 0) (q : file_refusal s path ≡ 0) where
  abbrev A : At is_file s path
  A = file-at-path s path q

  abbrev k : ℕ
  k = path_slot is_file s path

  abbrev a : ℕ
  a = slot_at (directory s (home s path)) (path_slot is_file s path)

  T : Sound s
  T = sound s ok

  F : Entry s a
  F = let h = A.named.high in slot-entry s T (home s path, A.level) A.home-in k (omega arith)

  entry-is : entry_of is_file s path ≡ a
  unfolding entry_of
  entry-is = refl

  shown : file_at s path ≡ just (file_of s a)
  shown = file-shown s path q ∙ ap (λ (x : ℕ). just (file_of s x)) entry-is

  no-dir-file : is_directory (type_of s a) ≡ false
  no-dir-file = file-no-dir (type_of s a) A.named.typed

  bytes-length : length (content s a) ≡ size_of s a
  bytes-length = length-content s T a (file-in s T (home s path, A.level) A.home-in k A.named.low A.named.high A.named.typed)

  pub content-length : length (content s (entry_of is_file s path)) ≡ size_of s (entry_of is_file s path)
  unfolding entry_of
  content-length = bytes-length

  blocks_is : blocks_of s a ≡ blocks_for (size_of s a)
  blocks_is = (file-in s T (home s path, A.level) A.home-in k A.named.low A.named.high A.named.typed).blocks

  second-length : length (attributes s a) / 512 ≡ attribute_size_of s a
  second-length = let l = length-attributes s T a (file-in s T (home s path, A.level) A.home-in k A.named.low A.named.high A.named.typed) in omega arith

  pub attributes-blocks : length (attributes s (entry_of is_file s path)) / 512 ≡ attribute_size_of s (entry_of is_file s path)
  unfolding entry_of
  attributes-blocks = second-length

  one_entry : (s' : List ℕ) → OneSlot s (dirs s) s' a → is_directory (type_of s' a) ≡ false → OneEntry s s'
  one_entry s' O now = record { d = (home s path, A.level); di = A.home-in; k = k; k₁ = A.named.low; k₂ = A.named.high; only = O; was = no-dir-file; now = now }

  -- the entry keeps its type and name
  module _ (s' : List ℕ) (O : OneSlot s (dirs s) s' a) (S' : Sound s') (type : type_of s' a ≡ type_of s a) (name : name_of s' a ≡ name_of s a) where
    now : is_directory (type_of s' a) ≡ false
    now = rw type no-dir-file

    there-still : file_at s' path ≡ just (file_of s' a)
    there-still =
        own-shown s s' path T A.good A.short A.there A.level A.home-in k A.named.low A.named.high O no-dir-file now S' (rw type A.named.typed) (name ∙ A.named.named)

  -- DELETE
  delete-count : be32 (delete_at s a) 20 + (blocks_for (length (content s a)) + length (attributes s a) / 512) ≡ be32 s 20 + 0
  delete-count =
      let u = deleted-used s T (home s path, A.level) A.home-in k A.named.low A.named.high A.named.typed in
      let l = bytes-length in
      let m = second-length in
      let b = blocks_is in
      rw (l, m) (omega arith)

  pub delete-effect : Effect s (delete path)
  unfolding after subject made takes gives entry_of file_of
  delete-effect =
      let d : ℕ × ℕ = (home s path, A.level) in
      let O = deleted-slot s T d A.home-in k A.named.low A.named.high A.named.typed in
      let z = deleted-type s T d A.home-in k A.named.low A.named.high A.named.typed in
      let now : is_directory (type_of (delete_at s a) a) ≡ false = rw z in
      record {
        own = own-gone s (delete_at s a) path T A.good A.short A.there A.level A.home-in k A.named.low A.named.high O no-dir-file now z A.named.typed A.named.named;
        others = λ other ne. other-shown s (delete_at s a) T O.len other (λ g. delete-untouched s path other ok g ne q);
        folders = folder-shown s (delete_at s a) T (one_entry (delete_at s a) O now);
        used = rw shown delete-count;
        size = O.len;
      }

  -- bytes 32 to 47 of the entry changed
  module _ (s' : List ℕ) (O : OneSlot s (dirs s) s' a) (S' : Sound s') (K : EntryKept s s' a) (C : content s' a ≡ content s a) where
    kept-front : (i w : ℕ) → i + w ≤ 32 → part s' (a + i) w ≡ part s (a + i) w
    kept-front i w h =
        let high = entry-high s T a F in
        let l = O.len in
        sym (part-part s' a 32 i w (omega arith) h) ∙ ap (λ (x : List ℕ). part x i w) K.front ∙ part-part s a 32 i w (omega arith) h

    kept-start : part s' a 4 ≡ part s a 4
    kept-start = let z : a + 0 ≡ a = omega arith in rw z at (kept-front 0 4 (omega arith))

    own-kept : OwnKept s s' path
    unfolding entry_of
    own-kept =
        let d = A.home-in in
        let N = A.named in
        let now : is_directory (type_of s' a) ≡ false = rw K.type no-dir-file in
        record {
          slot = own-slot s s' path T A.good A.short A.there A.level d k N.low N.high O no-dir-file now S' (rw K.type N.typed) (K.name ∙ N.named);
          entry = own-entry s s' path T A.good A.short A.there A.level d k N.low N.high O no-dir-file now S' (rw K.type N.typed) (K.name ∙ N.named);
          size = K.size;
          blocks = K.blocks;
          contents = C;
        }

    entry-shown : (flags bytes : List ℕ) → part s' (a + 40) 4 ≡ flags → attributes s' a ≡ bytes
        → file_at s' path ≡ just (record { bytes = content s a; kind = part s a 4; created = part s (a + 16) 8; modified = part s (a + 24) 8; flags = flags; attributes = bytes })
    unfolding file_of
    entry-shown flags bytes p q = there-still s' O S' K.type K.name ∙ rw (C, p, q, kept-start, kept-front 16 8 (omega arith), kept-front 24 8 (omega arith))

  -- CLEAR
  abbrev cleared : List ℕ
  cleared = clear_attributes_at s a

  clear-only : OneSlot s (dirs s) cleared a
  clear-only = cleared-slot s T (home s path, A.level) A.home-in k A.named.low A.named.high A.named.typed

  clear-rest : EntryKept s cleared a
  clear-rest = cleared-entry s T (home s path, A.level) A.home-in k A.named.low A.named.high A.named.typed

  clear-same : content cleared a ≡ content s a
  clear-same = (cleared-content s T (home s path, A.level) A.home-in k A.named.low A.named.high A.named.typed).contents

  clear-right : Sound cleared
  clear-right = cleared-sound s T (home s path, A.level) A.home-in k A.named.low A.named.high A.named.typed

  clear-count : be32 cleared 20 + length (attributes s a) / 512 ≡ be32 s 20 + 0
  clear-count =
      let u = cleared-used s T (home s path, A.level) A.home-in k A.named.low A.named.high A.named.typed in
      rw second-length (omega arith)

  pub clear_kept : OwnKept s (clear_attributes_at s (entry_of is_file s path)) path
  unfolding entry_of
  clear_kept = own-kept cleared clear-only clear-right clear-rest clear-same

  pub clear-effect : Effect s (clear_attributes path)
  unfolding after subject made takes gives entry_of
  clear-effect =
      record {
        own = rw shown (unfold file_of in entry-shown cleared clear-only clear-right clear-rest clear-same (part s (a + 40) 4) []
            (cleared-flags s T (home s path, A.level) A.home-in k A.named.low A.named.high A.named.typed)
            (cleared-none s T (home s path, A.level) A.home-in k A.named.low A.named.high A.named.typed).1);
        others = λ other ne. other-shown s cleared T clear-only.len other (λ g. clear-untouched s path other ok g ne q);
        folders = folder-shown s cleared T (one_entry cleared clear-only (rw clear-rest.type no-dir-file));
        used = rw shown (unfold file_of in clear-count);
        size = clear-only.len;
      }

  -- CLEAR FLAGS
  abbrev flagless : List ℕ
  flagless = clear_flags_at s a

  flags-only : OneSlot s (dirs s) flagless a
  flags-only = flags-slot s T (home s path, A.level) A.home-in k A.named.low A.named.high A.named.typed

  flags-rest : EntryKept s flagless a
  flags-rest = flags-entry s T (home s path, A.level) A.home-in k A.named.low A.named.high A.named.typed

  flags-same : content flagless a ≡ content s a
  flags-same = (flags-content s T (home s path, A.level) A.home-in k A.named.low A.named.high A.named.typed).contents

  flags-right : Sound flagless
  flags-right = flags-sound s T (home s path, A.level) A.home-in k A.named.low A.named.high A.named.typed

  pub flags-kept : OwnKept s (clear_flags_at s (entry_of is_file s path)) path
  unfolding entry_of
  flags-kept = own-kept flagless flags-only flags-right flags-rest flags-same

  pub flags-effect : Effect s (clear_flags path)
  unfolding after subject made takes gives entry_of
  flags-effect =
      record {
        own = rw shown (unfold file_of in entry-shown flagless flags-only flags-right flags-rest flags-same (zeros 4) (attributes s a)
            (flags-zero s T (home s path, A.level) A.home-in k A.named.low A.named.high A.named.typed)
            (flags-attributes s T (home s path, A.level) A.home-in k A.named.low A.named.high A.named.typed).bytes);
        others = λ other ne. other-shown s flagless T flags-only.len other (λ g. flags-untouched s path other ok g ne q);
        folders = folder-shown s flagless T (one_entry flagless flags-only (rw flags-rest.type no-dir-file));
        used = let u = flags-used s T (home s path, A.level) A.home-in k A.named.low A.named.high A.named.typed in omega arith;
        size = flags-only.len;
      }

  -- they are 0, and every byte of the image but those four stays
  pub flags-number : be32 (clear_flags_at s (entry_of is_file s path)) (entry_of is_file s path + 40) ≡ 0
  unfolding entry_of
  flags-number =
      let z : a + 40 + 0 ≡ a + 40 = omega arith in
      let e = flags-zero s T (home s path, A.level) A.home-in k A.named.low A.named.high A.named.typed in
      rw z at (sym (be32-part flagless (a + 40) 4 0 (omega arith)) ∙ ap (λ (b : List ℕ). be32 b 0) e ∙ zeros-32 4 0)

  pub flags-bytes : (i : ℕ) → (i < entry_of is_file s path + 40) ⊎ (entry_of is_file s path + 44 ≤ i) → get_or (clear_flags_at s (entry_of is_file s path)) i 0 ≡ get_or s i 0
  unfolding entry_of
  flags-bytes i h =
      same_byte s flagless i 1 i (flags-beside s T (home s path, A.level) A.home-in k A.named.low A.named.high A.named.typed i 1 (⊎_elim (λ x. inl (omega arith)) (λ x. inr x) h))
      (omega arith) (omega arith)

  -- SET
  module _ (bytes : List ℕ) (r : set_attributes_refusal s path (length bytes) ≡ 0) where
    abbrev filled : List ℕ
    filled = set_attributes_at s a bytes

    R : SetGiven s a (length bytes)
    unfolding entry_of
    R = set_given s path (length bytes) r

    set-only : OneSlot s (dirs s) filled a
    set-only = set-slot s T (home s path, A.level) A.home-in k A.named.low A.named.high A.named.typed bytes R

    set_rest : EntryKept s filled a
    set_rest = set-entry s T (home s path, A.level) A.home-in k A.named.low A.named.high A.named.typed bytes R

    set_same : content filled a ≡ content s a
    set_same = (set-content s T (home s path, A.level) A.home-in k A.named.low A.named.high A.named.typed bytes R).contents

    set-right : Sound filled
    set-right = set-sound s T (home s path, A.level) A.home-in k A.named.low A.named.high A.named.typed bytes R

    set-count : be32 filled 20 + length (attributes s a) / 512 ≡ be32 s 20 + length bytes / 512
    set-count =
        let u = set-used s T (home s path, A.level) A.home-in k A.named.low A.named.high A.named.typed bytes R in
        rw second-length (omega arith)

    pub set-kept : OwnKept s (set_attributes_at s (entry_of is_file s path) bytes) path
    unfolding entry_of
    set-kept = own-kept filled set-only set-right set_rest set_same

    pub set-effect : Effect s (set_attributes path bytes)
    unfolding after subject made takes gives entry_of
    set-effect =
        record {
          own = rw shown (unfold file_of in entry-shown filled set-only set-right set_rest set_same (part s (a + 40) 4) bytes
              (set-flags s T (home s path, A.level) A.home-in k A.named.low A.named.high A.named.typed bytes R)
              (set-bytes s T (home s path, A.level) A.home-in k A.named.low A.named.high A.named.typed bytes R));
          others = λ other ne. other-shown s filled T set-only.len other (λ g. set-untouched s path other ok g ne bytes r);
          folders = folder-shown s filled T (one_entry filled set-only (rw set_rest.type no-dir-file));
          used = rw shown (unfold file_of in set-count);
          size = set-only.len;
        }

-- WRITE, of data of any length
module _ (s path : List ℕ) (ok : check s ≡ 0) (offset : ℕ) (bytes : List ℕ) (time : ℕ) (G : WriteGiven s path offset (length bytes)) where
  write-q : file_refusal s path ≡ 0
  write-q = at-accepted s path G.there

  abbrev write-A : At is_file s path
  write-A = file-at-path s path write-q

  abbrev write-a : ℕ
  write-a = slot_at (directory s (home s path)) (path_slot is_file s path)

  abbrev w : List ℕ
  w = write_at s write-a offset bytes time

  room : needed s write-a offset (length bytes) ≤ length (free_blocks (next s) (block_count s))
  unfolding entry_of
  room = G.room

  inside : offset ≤ size_of s write-a
  unfolding entry_of
  inside = G.within-size

  W : Written s w write-a offset bytes time
  W = written-file s (sound s ok) (home s path, write-A.level) write-A.home-in (path_slot is_file s path) write-A.named.low write-A.named.high write-A.named.typed offset bytes time room inside

  O : OneSlot s (dirs s) w write-a
  O = written-slot s (sound s ok) (home s path, write-A.level) write-A.home-in (path_slot is_file s path) write-A.named.low write-A.named.high write-A.named.typed offset bytes time room

  write-count : be32 w 20 + 0 ≡ be32 s 20 + (blocks_for (max (length (content s write-a)) (offset + length bytes)) - blocks_for (length (content s write-a)))
  unfolding needed new_size
  write-count =
      let u = written-used s (sound s ok) (home s path, write-A.level) write-A.home-in (path_slot is_file s path) write-A.named.low write-A.named.high write-A.named.typed offset bytes time room in
      let b = blocks_is s path ok write-q in
      rw (bytes-length s path ok write-q, ← b) (omega arith)

  write-flags : part w (write-a + 40) 4 ≡ part s (write-a + 40) 4
  write-flags =
      let high = entry-high s (sound s ok) write-a (F s path ok write-q) in
      let l = O.len in
      let z : write-a + 32 + 8 ≡ write-a + 40 = omega arith in
      rw z at (sym (part-part w (write-a + 32) 96 8 4 (omega arith) (omega arith)) ∙ ap (λ (x : List ℕ). part x 8 4) W.rest ∙ part-part s (write-a + 32) 96 8 4 (omega arith) (omega arith))

  write-sound : Sound w
  write-sound = written-sound s (sound s ok) (home s path, write-A.level) write-A.home-in (path_slot is_file s path) write-A.named.low write-A.named.high write-A.named.typed offset bytes time room

  write-attributes : attributes w write-a ≡ attributes s write-a
  write-attributes =
      (written-attributes s (sound s ok) (home s path, write-A.level) write-A.home-in (path_slot is_file s path) write-A.named.low write-A.named.high write-A.named.typed offset bytes time room).bytes

  pub written-blocks : file_blocks (write_at s (entry_of is_file s path) offset bytes time) (entry_of is_file s path) ≡ file_blocks s (entry_of is_file s path) ++ new_blocks s (entry_of is_file s path) offset (length bytes)
  unfolding entry_of
  written-blocks = W.blocks

  pub write-effect : Effect s (write path offset bytes time)
  unfolding after subject made takes gives entry_of
  write-effect =
      record {
        own = rw (shown s path ok write-q, there-still s path ok write-q w O write-sound W.type W.name) (unfold file_of in rw (W.contents, W.kind, W.created, W.modified, write-flags, write-attributes));
        others = λ other ne. other-shown s w (sound s ok) O.len other (λ g. write-untouched s path other ok g ne offset bytes time G);
        folders = folder-shown s w (sound s ok) (one_entry s path ok write-q w O (rw W.type (no-dir-file s path ok write-q)));
        used = rw (shown s path ok write-q) (unfold file_of in write-count);
        size = O.len;
      }

-- SHORTEN
module _ (s path : List ℕ) (ok : check s ≡ 0) (size time : ℕ) (G : ShortenGiven s path size) where
  abbrev short-A : At is_file s path
  short-A = file-at-path s path G.there

  abbrev short-a : ℕ
  short-a = slot_at (directory s (home s path)) (path_slot is_file s path)

  abbrev short : List ℕ
  short = shorten_at s short-a size time

  less : size ≤ size_of s short-a
  unfolding entry_of
  less = G.less

  short-file : Shortened s short short-a size time
  short-file = shortened-file s (sound s ok) (home s path, short-A.level) short-A.home-in (path_slot is_file s path) short-A.named.low short-A.named.high short-A.named.typed size time less

  short-only : OneSlot s (dirs s) short short-a
  short-only = shortened-slot s (sound s ok) (home s path, short-A.level) short-A.home-in (path_slot is_file s path) short-A.named.low short-A.named.high short-A.named.typed size time less

  short-right : Sound short
  short-right = shortened-sound s (sound s ok) (home s path, short-A.level) short-A.home-in (path_slot is_file s path) short-A.named.low short-A.named.high short-A.named.typed size time less

  short-attributes : attributes short short-a ≡ attributes s short-a
  short-attributes =
      (shortened-attributes s (sound s ok) (home s path, short-A.level) short-A.home-in (path_slot is_file s path) short-A.named.low short-A.named.high short-A.named.typed size time less).bytes

  short-count : be32 short 20 + (blocks_for (length (content s short-a)) - blocks_for size) ≡ be32 s 20 + 0
  short-count =
      let u = shortened-used s (sound s ok) (home s path, short-A.level) short-A.home-in (path_slot is_file s path) short-A.named.low short-A.named.high short-A.named.typed size time less in
      let b = blocks_is s path ok G.there in
      rw (bytes-length s path ok G.there, ← b) (omega arith)

  pub shorten-effect : Effect s (shorten path size time)
  unfolding after subject made takes gives entry_of
  shorten-effect =
      let K = short-file.entry in
      record {
        own = rw (shown s path ok G.there, there-still s path ok G.there short short-only short-right K.type K.name)
            (unfold file_of in rw (short-file.contents, K.kind, K.created, K.modified, K.flags, short-attributes));
        others = λ other ne. other-shown s short (sound s ok) short-only.len other (λ g. shorten-untouched s path other ok g ne size time G);
        folders = folder-shown s short (sound s ok) (one_entry s path ok G.there short short-only (rw K.type (no-dir-file s path ok G.there)));
        used = rw (shown s path ok G.there) (unfold file_of in short-count);
        size = short-only.len;
      }

  -- its blocks and their bytes
  pub shortened-path : Shortened s (shorten_at s (entry_of is_file s path) size time) (entry_of is_file s path) size time
  unfolding entry_of
  shortened-path = short-file

-- REPLACE: the file is shortened, then written
both-counted : (u t s old m count now : ℕ) → now ≡ m → ((m ≡ old) × (old ≤ count)) ⊎ ((m ≡ count) × (count ≤ old)) → t + (blocks_for old - blocks_for m) ≡ s + 0
    → u + 0 ≡ t + (blocks_for (max now (0 + count)) - blocks_for now) → u + (blocks_for old - blocks_for count) ≡ s + (blocks_for count - blocks_for old)
both-counted u t s old m count now e (inl q) f g = let a = q.0 in let b = q.1 in omega arith
both-counted u t s old m count now e (inr q) f g = let a = q.0 in let b = q.1 in omega arith

module _ (s path : List ℕ) (ok : check s ≡ 0) (bytes : List ℕ) (time : ℕ) (r : replace_refusal s path (length bytes) ≡ 0) where
  abbrev kept-size : ℕ
  kept-size = min (size_of s (entry_of is_file s path)) (length bytes)

  abbrev first-half : Change
  first-half = shorten path (min (size_of s (entry_of is_file s path)) (length bytes)) time

  abbrev second-half : Change
  second-half = write path 0 bytes time

  abbrev half : List ℕ
  half = shorten_at s (entry_of is_file s path) (min (size_of s (entry_of is_file s path)) (length bytes)) time

  found-file : file_refusal s path ≡ 0
  found-file = replace-there s path (length bytes) r

  one : Effect s first-half
  one = shorten-effect s path ok kept-size time (replace-shorten s path (length bytes) r)

  two : Effect half second-half
  two = write-effect half path (short-sound s path ok (length bytes) time r) 0 bytes time (replace-write s path ok (length bytes) time r)

  same-image : after half second-half ≡ after s (replace path bytes time)
  unfolding after replace_at
  same-image = ap (λ (x : ℕ). write_at half x 0 bytes time) (short-entry s path ok (length bytes) time r)

  abbrev was : File
  was = file_of s (slot_at (directory s (home s path)) (path_slot is_file s path))

  was-shown : file_at s path ≡ just was
  was-shown = shown s path ok found-file

  was-length : length was.bytes ≡ size_of s (entry_of is_file s path)
  unfolding file_of entry_of
  was-length = bytes-length s path ok found-file

  half-shown : file_at half path ≡ made first-half (just was)
  unfolding after subject
  half-shown = one.own ∙ ap (made first-half) was-shown

  size-either : ((kept-size ≡ length was.bytes) × (length was.bytes ≤ length bytes)) ⊎ ((kept-size ≡ length bytes) × (length bytes ≤ length was.bytes))
  size-either = rw was-length (min-either (size_of s (entry_of is_file s path)) (length bytes))

  front_length : length (take kept-size was.bytes) ≡ kept-size
  front_length = length-take kept-size was.bytes ∙ ⊎_elim (λ q. let a = q.0 in omega arith) (λ q. let a = q.0 in let b = q.1 in omega arith) size-either

  front_less : length (take kept-size was.bytes) ≤ length bytes
  front_less = rw front_length (⊎_elim (λ q. let a = q.0 in let b = q.1 in omega arith) (λ q. let a = q.0 in omega arith) size-either)

  replace-count : be32 (after half second-half) 20 + (blocks_for (length was.bytes) - blocks_for (length bytes)) ≡ be32 s 20 + (blocks_for (length bytes) - blocks_for (length was.bytes))
  unfolding after takes gives subject made
  replace-count =
      both-counted (be32 (after half second-half) 20) (be32 half 20) (be32 s 20) (length was.bytes) kept-size (length bytes) (length (take kept-size was.bytes)) front_length size-either
      (rw was-shown at one.used) (rw half-shown at two.used)

  pub replace-effect : Effect s (replace path bytes time)
  unfolding subject made takes gives
  replace-effect =
      record {
        own = ap (λ (x : List ℕ). file_at x path) (sym same-image) ∙ two.own ∙ ap (made second-half) half-shown ∙ rw (was-shown, splice-whole (take kept-size was.bytes) bytes front_less);
        others = λ other ne. ap (λ (x : List ℕ). file_at x other) (sym same-image) ∙ two.others other ne ∙ (unfold after in one.others other ne);
        folders = λ other. ap (λ (x : List ℕ). folder_at x other) (sym same-image) ∙ two.folders other ∙ (unfold after in one.folders other);
        used = rw (← same-image, was-shown) replace-count;
        size = rw (← same-image) (two.size ∙ (unfold after in one.size));
      }

-- ALL OF THEM
pub effect : (s : List ℕ) (c : Change) → of_file c ≡ true → check s ≡ 0 → refusal s c ≡ 0 → Effect s c
unfolding of_file refusal
effect s (create path type user group permissions flags time) f ok r = create-effect s path ok type user group permissions flags time r
effect s (write path offset bytes time) f ok r = write-effect s path ok offset bytes time (write-given s path offset (length bytes) r)
effect s (delete path) f ok r = delete-effect s path ok r
effect s (create_directory path type user group permissions flags time d) f ok r = absurd (true-not-false f refl)
effect s (delete_directory path) f ok r = absurd (true-not-false f refl)
effect s (set_attributes path bytes) f ok r = set-effect s path ok (set-path s path (length bytes) r) bytes r
effect s (clear_attributes path) f ok r = clear-effect s path ok r
effect s (clear_flags path) f ok r = flags-effect s path ok r
effect s (shorten path size time) f ok r = shorten-effect s path ok size time (shorten-given s path size r)
effect s (replace path bytes time) f ok r = replace-effect s path ok bytes time r
effect s (move path to) f ok r = absurd (true-not-false f refl)
