-- The theorems of the volume, over its definitions. `check s ≡ 0` says that the image s is sound, and `refusal s c ≡ 0` that the change c is
-- accepted on it; `after s c` is then the image after it, and `named s c` its named blocks. `file_at s path` and `folder_at s path` are what a path
-- shows: a file with its bytes, fields and attributes, a directory with its fields, or nothing (specs/Views). The proofs are in Laws.
use Prim.Native.Nat.{ℕ, ◌+◌, ◌-◌, ◌*◌, ◌/◌, ◌≤◌, ◌<◌, min}
use mathlib.Core.Path.{◌≡◌, refl, sym, ap, ◌∙◌}
use mathlib.Core.Bool.{true, false, ◌||◌}
use mathlib.Core.List.{List, [], ◌++◌}
use mathlib.Core.Logic.{◌≢◌, ◌⊎◌, inl}
use native.Mathlib.Omega.{arith}
use lib.ListN.{length, get_or, take}
use lib.Dec.{eqb}
use Rattle.layout.specs.Claims.{Inserted, LowestFree}
use Rattle.layout.specs.Limits.{max_levels}
use Rattle.layout.specs.Lists.{has, same, joined}
use Rattle.layout.specs.Bytes.{be32, part, splice, zeros, block}
use Rattle.layout.specs.Geometry.{block_count, blocks_for}
use Rattle.layout.specs.Table.{next, free_blocks}
use Rattle.layout.specs.Directory.{first_block, size_of, blocks_of, is_file, is_directory, is_empty, directory, dirs, file_blocks, attribute_blocks}
use Rattle.layout.specs.Check.{check}
use Rattle.layout.specs.Paths.{parts, path_slot, entry_of, file_refusal}
use Rattle.layout.specs.Looks.{lookup, lookup_refusal, read, look_in_place, read_attributes}
use Rattle.volume.specs.Entries.{taken}
use Rattle.volume.specs.Search.{lowest_free, Full, Exact, Renoted, Takeable, noted_full, searched}
use Rattle.volume.specs.Format.{format_refusal, formatted}
use Rattle.volume.specs.Write.{needed, new_blocks}
use Rattle.volume.specs.Delete.{all_blocks}
use Rattle.volume.specs.Attributes.{emptied}
use Rattle.volume.specs.Shorten.{tail_length}
use Rattle.volume.specs.Replace.{replace_at, replace_named, replace_refusal}
use Rattle.volume.specs.Change.{Change, create, write, create_directory, delete_directory, set_attributes, clear_attributes, clear_flags, shorten, replace, refusal, after, named, slot_given, move}
use Rattle.volume.specs.Claims.{NoRoom, NoRoomForSet, Blanked, Apart, Aside, fronts}
use Rattle.volume.specs.Views.{File, nothing, just, file_of, file_at, folder_at, SameFiles, NoNewFlags, subject, further, subjects, origin_of, made, made_folder, takes, gives, gives_folder}
use Rattle.volume.proofs.Laws.Framed.{frame}
use Rattle.volume.proofs.Laws.Blank.{blank}
use Rattle.volume.proofs.Laws.Format.{sound-format}
use Rattle.volume.proofs.Laws.Sound.{kept}
use Rattle.volume.proofs.Laws.Places.{file-at-path, write-given, set-path}
use Rattle.volume.proofs.Laws.Space.{refused-14, lacking-14, new-lowest, new-length}
use Rattle.volume.proofs.Laws.Room.{set-refused-14, set-lacking-14, set-taken, set-many, set-lowest-free, free-once-emptied}
use Rattle.volume.proofs.Laws.Views.{file-shown}
use Rattle.volume.proofs.Laws.Effects.{create-slot-found, written-blocks, shortened-path, set-kept, clear_kept, flags-kept, flags-number, flags-bytes}
use Rattle.volume.proofs.Laws.Shorten.{shorten-given, shorten-accepted}
use Rattle.volume.proofs.Laws.Replace.{replace-there, replace-shorten, replace-accepted, replace-names, short-entry}
use Rattle.volume.proofs.Laws.Arrived.{move-come, move-found as file-found}
use Rattle.volume.proofs.Laws.Acts.{acts, others-untouched, create-directory-found, create-directory-empty, create-directory-tree, delete-directory-tree}
use Rattle.volume.proofs.Laws.Shown.{read-shown, attributes-read, look-shown, not-shown, splice-long, lookup-kept, own-lookup, own_read, own-look, file-owner, chains-apart, directory-apart, directory-owner, write-path}
use Rattle.volume.proofs.Laws.Alike.{lookup-alike, read_alike, look-alike, attributes-alike}
use Rattle.volume.proofs.Laws.ShownFlags as shown-flags
use Rattle.volume.proofs.Laws.Notes as noted
use Rattle.volume.proofs.Laws.Orders as orders
use Rattle.volume.proofs.Laws.Orders.{not_in, aside-differ}
use Rattle.volume.proofs.Laws.Inside as inside
use Rattle.layout.proofs.Laws.Looks.{look-empty as empty-refused, look-empty-only as refused-empty}
use Rattle.layout.proofs.Laws.Sound.{sound}
use Rattle.layout.proofs.Laws.Lists.{has_in, has-eqb-in, false-has}
use Rattle.layout.proofs.Laws.Joins.{of_map}
use Rattle.layout.proofs.Laws.Names.{same-eq, same_refl}
use Rattle.layout.proofs.Laws.Bytes.{part-splice, splice-nil, splice-whole}
use Rattle.layout.proofs.Laws.Owners.{free-count as count-free}

-- Format's image is sound. (That a UUID has sixteen bytes is its type's.)
pub format-sound : (s : List ℕ) (d : ℕ) (uuid name : List ℕ) (time : ℕ) → length uuid ≡ 16 → format_refusal s d name ≡ 0 → check (formatted s d uuid name time) ≡ 0
unfolding formatted
format-sound s d uuid name time l r = rw r (sound-format s d uuid name time l r)

-- 14 comes exactly when no lower number applies and fewer blocks are free than needed (NoRoom).
pub no-room : (s path : List ℕ) (offset : ℕ) (bytes : List ℕ) (time : ℕ)
    → (refusal s (write path offset bytes time) ≡ 14 → NoRoom s path offset (length bytes)) × (NoRoom s path offset (length bytes) → refusal s (write path offset bytes time) ≡ 14)
unfolding refusal
no-room s path offset bytes time = (refused-14 s path offset (length bytes), lacking-14 s path offset (length bytes))

-- L3. By notes that are right the search gives the lowest free block; its answer does not depend on the entries of a block noted as full; and when a block
-- is taken, the notes are right if that of its own table block is made anew.
pub search-lowest : (notes : List ℕ) (v : ℕ → ℕ) (n : ℕ) → Exact v n notes → (a : ℕ) → searched notes v a n ≡ lowest_free v a n
search-lowest = noted.search-lowest

pub search-any-full : (notes : List ℕ) (v w : ℕ → ℕ) (a n : ℕ) → ((b : ℕ) → b < n → noted_full notes b ≡ false → w b ≡ v b) → searched notes w a n ≡ searched notes v a n
search-any-full = noted.search-any-full

pub notes-kept : (s : List ℕ) (n last b : ℕ) (notes notes' : List ℕ) → Takeable s n last b → Exact (next s) n notes → Renoted (next (taken s n last b)) n (b / 128) notes notes'
    → Exact (next (taken s n last b)) n notes'
notes-kept = noted.notes-kept

-- Blocks are named without notes (`marks::next_free`): nor does the lowest free block depend on the entries of a table block that is full.
pub naming-any-full : (v w : ℕ → ℕ) (a n : ℕ) → ((b : ℕ) → b < n → (w b ≡ v b) ⊎ (Full v n (b / 128) × Full w n (b / 128))) → lowest_free w a n ≡ lowest_free v a n
naming-any-full = noted.lowest-any-full

-- Look in place "hands back an empty part exactly if it refuses or i is not below the file's blocks", on any image.
pub look-empty : (s path : List ℕ) (i : ℕ) → (lookup_refusal s path ≢ 0) ⊎ (blocks_of s (entry_of is_file s path) ≤ i) → look_in_place s path i ≡ []
look-empty = empty-refused

pub look-empty-only : (s path : List ℕ) (i : ℕ) → look_in_place s path i ≡ [] → (lookup_refusal s path ≢ 0) ⊎ (blocks_of s (entry_of is_file s path) ≤ i)
look-empty-only = refused-empty

-- A sound image s.
module _ (s : List ℕ) (ok : check s ≡ 0) where
  -- The header counts the free blocks.
  pub free-count : length (free_blocks (next s) (block_count s)) ≡ be32 s 24
  free-count = count-free s (sound s ok)

  -- 14 of a set of attributes, exactly when no lower number applies and fewer blocks are free than needed, those of the old chain counted as free (NoRoomForSet).
  pub no-room-set : (path bytes : List ℕ) → (refusal s (set_attributes path bytes) ≡ 14 → NoRoomForSet s path (length bytes)) × (NoRoomForSet s path (length bytes) → refusal s (set_attributes path bytes) ≡ 14)
  unfolding refusal
  no-room-set path bytes = (set-refused-14 s path (length bytes) ok, set-lacking-14 s path (length bytes) ok)

  -- Read, read attributes and look in place give the bytes of the file that the path shows; where it shows none they refuse.
  module _ (path : List ℕ) (f : File) (shows : file_at s path ≡ just f) where
    pub read-content : (offset : ℕ) (buffer : List ℕ) → offset ≤ length f.bytes
        → read s path offset buffer
        ≡ record { number = 0; count = min (length buffer) (length f.bytes - offset); buffer = splice buffer 0 (part f.bytes offset (min (length buffer) (length f.bytes - offset))) }
    read-content = read-shown s path ok f shows

    pub attributes-content : (buffer : List ℕ)
        → read_attributes s path buffer
        ≡ record { number = 0; count = 512 * min (length f.attributes / 512) (length buffer / 512); buffer = splice buffer 0 (take (512 * min (length f.attributes / 512) (length buffer / 512)) f.attributes) }
    attributes-content = attributes-read s path ok f shows

    pub look-content : (i : ℕ) → 512 * i < length f.bytes → look_in_place s path i ≡ part f.bytes (512 * i) (min 512 (length f.bytes - 512 * i))
    look-content = look-shown s path ok f shows

  pub none-refused : (path : List ℕ) → file_at s path ≡ nothing → lookup_refusal s path ≢ 0
  unfolding lookup_refusal
  none-refused path q z = not-shown s path q (rw ok at z)

  -- No two files, no file and directory, and no two directories own one block; nor do a file's own chain and its attributes.
  module _ (path : List ℕ) (found : file_refusal s path ≡ 0) (b : ℕ) (mine : has eqb b (all_blocks s (entry_of is_file s path)) ≡ true) where
    pub one-owner : (other : List ℕ) → file_refusal s other ≡ 0 → has eqb b (all_blocks s (entry_of is_file s other)) ≡ true → path ≡ other
    one-owner other too i =
        file-owner s (sound s ok) path other (file-at-path s path found) (file-at-path s other too) b (has-eqb-in b (all_blocks s (entry_of is_file s path)) mine) (has-eqb-in b (all_blocks s (entry_of is_file s other)) i)

    pub no-directory : (front : ℕ) → has eqb front (fronts s) ≡ true → has eqb b (directory s front) ≡ false
    no-directory front i =
        let d = of_map (λ (x : ℕ × ℕ). x.0) front (dirs s) (has-eqb-in front (fronts s) i) in
        rw d.2 (false-has b (directory s d.0.0) (directory-apart s (sound s ok) path (file-at-path s path found) d.0 d.1 b (has-eqb-in b (all_blocks s (entry_of is_file s path)) mine)))

  pub one-chain : (path : List ℕ) → file_refusal s path ≡ 0 → (b : ℕ) → has eqb b (file_blocks s (entry_of is_file s path)) ≡ true → has eqb b (attribute_blocks s (entry_of is_file s path)) ≡ false
  one-chain path found b i = false-has b (attribute_blocks s (entry_of is_file s path)) (chains-apart s (sound s ok) path (file-at-path s path found) b (has-eqb-in b (file_blocks s (entry_of is_file s path)) i))

  pub one-directory : (front other : ℕ) → has eqb front (fronts s) ≡ true → has eqb other (fronts s) ≡ true → (b : ℕ) → has eqb b (directory s front) ≡ true → has eqb b (directory s other) ≡ true → front ≡ other
  one-directory front other i j b m k =
      let d = of_map (λ (x : ℕ × ℕ). x.0) front (dirs s) (has-eqb-in front (fronts s) i) in
      let e = of_map (λ (x : ℕ × ℕ). x.0) other (dirs s) (has-eqb-in other (fronts s) j) in
      d.2 ∙ directory-owner s (sound s ok) d.0 e.0 d.1 e.1 b (rw d.2 at (has-eqb-in b (directory s front) m)) (rw e.2 at (has-eqb-in b (directory s other) k)) ∙ sym e.2

  -- An accepted change c.
  module _ (c : Change) (r : refusal s c ≡ 0) where
    -- It keeps the image sound.
    pub change-sound : check (after s c) ≡ 0
    change-sound = kept s c ok r

    -- It keeps the length, and changes no byte outside its named blocks, which are blocks of the image.
    pub change-length : length (after s c) ≡ length s
    change-length = (frame s c ok r).agree.size

    pub change-frame : (i : ℕ) → has eqb (i / 512) (named s c) ≡ false → get_or (after s c) i 0 ≡ get_or s i 0
    change-frame = (frame s c ok r).agree.byte

    pub named-below : (b : ℕ) → has eqb b (named s c) ≡ true → b < block_count s
    named-below = (frame s c ok r).inside

    -- Every block that it freed holds only zeros; blocks that were free, and are still, hold what they held.
    pub freed-blank : Blanked s (after s c)
    freed-blank = blank s c ok r

    -- Of what its own path shows, the file and the directory, it makes what its rule says, a function of that alone (made, made_folder).
    pub own-file : file_at (after s c) (subject c) ≡ made c (file_at s (subject c))
    own-file = (acts s c ok r).own

    pub own-folder : folder_at (after s c) (subject c) ≡ made_folder c (folder_at s (subject c))
    own-folder = (acts s c ok r).folder

    -- It takes and gives back blocks in use as its rule says.
    pub blocks-in-use : be32 (after s c) 20 + (gives c (file_at s (subject c)) + gives_folder c (folder_at s (subject c))) ≡ be32 s 20 + takes c (file_at s (subject c))
    blocks-in-use = (acts s c ok r).used

    -- It makes no system flags but zero (NoNewFlags), and those of a file that is there before and after change by a clear alone (L11). With a file that
    -- is moved its flags go.
    pub no-new-flags : NoNewFlags s (after s c) (origin_of (subject c) (further c))
    no-new-flags = shown-flags.no-new-flags s c ok r

    pub flags-stay : (path : List ℕ) (f g : File) → file_at s path ≡ just g → file_at (after s c) path ≡ just f → c ≢ clear_flags path → f.flags ≡ g.flags
    flags-stay = shown-flags.flags-stay s c ok r

    -- Every other path shows what it showed, and lookup, read, look in place and read attributes answer what they answered.
    module _ (other : List ℕ) (aside : has same other (subjects c) ≡ false) where
      pub other-files : file_at (after s c) other ≡ file_at s other
      other-files = (acts s c ok r).others other (not_in other (subjects c) aside)

      pub other-folders : folder_at (after s c) other ≡ folder_at s other
      other-folders = (acts s c ok r).folders other (λ q. not_in other (subjects c) aside (inl q))

      pub others-lookup : lookup (after s c) other ≡ lookup s other
      others-lookup = lookup-kept s (after s c) other ok change-sound (others-untouched s c other ok r (not_in other (subjects c) aside))

      pub others-read : (offset : ℕ) (buffer : List ℕ) → read (after s c) other offset buffer ≡ read s other offset buffer
      others-read = read_alike (after s c) s other change-sound ok other-files

      pub others-look : (i : ℕ) → look_in_place (after s c) other i ≡ look_in_place s other i
      others-look = look-alike (after s c) s other change-sound ok other-files

      pub others-attributes : (buffer : List ℕ) → read_attributes (after s c) other buffer ≡ read_attributes s other buffer
      others-attributes = attributes-alike (after s c) s other change-sound ok other-files

  -- Two changes c and d of any kinds, on different paths, in either order (L13). If both, one right after the other, are accepted in both orders, then
  -- after either order every path shows the same file or directory, or nothing, and as many blocks are free (SameFiles); slots and block numbers may
  -- differ.
  module _ (c d : Change) (c-first : refusal s c ≡ 0) (d-second : refusal (after s c) d ≡ 0) (d-first : refusal s d ≡ 0) (c-second : refusal (after s d) c ≡ 0) (different : subject c ≢ subject d) where
    pub either_order : SameFiles (after (after s c) d) (after (after s d) c)
    either_order = orders.either_order s ok c d c-first d-second d-first c-second different

    -- L13 asks also that neither path is inside the other (Apart). That need not be asked: it follows.
    pub accepted-apart : Apart (subject c) (subject d)
    accepted-apart = inside.accepted-apart s ok c d c-first d-second d-first c-second different (subject c) (subject d) (inl refl) (inl refl)

    -- A move has two paths (N2). Of them, too, it need not be asked: no path of one change is a path of the other, or inside one.
    pub any-apart : (p q : List ℕ) → has same p (subjects c) ≡ true → has same q (subjects d) ≡ true → Apart p q
    any-apart p q i j =
        inside.accepted-apart s ok c d c-first d-second d-first c-second different p q (has_in same same-eq same_refl p (subjects c) i) (has_in same same-eq same_refl q (subjects d) j)

  -- The same with the list of paths of each change: no path of one is a path of the other (Aside).
  pub any_order : (c d : Change) → refusal s c ≡ 0 → refusal (after s c) d ≡ 0 → refusal s d ≡ 0 → refusal (after s d) c ≡ 0 → Aside (subjects c) (subjects d)
      → SameFiles (after (after s c) d) (after (after s d) c)
  any_order c d c-first d-second d-first c-second aside = either_order c d c-first d-second d-first c-second (aside-differ (further c) (further d) (subject c) (subject d) aside)

  -- An accepted write.
  module _ (path : List ℕ) (offset : ℕ) (bytes : List ℕ) (time : ℕ) (r : refusal s (write path offset bytes time) ≡ 0) where
    abbrev written : List ℕ
    written = after s (write path offset bytes time)

    abbrev e : ℕ
    e = entry_of is_file s path

    -- A read where the data was put gives the data.
    pub read_back : (buffer : List ℕ) → length buffer ≡ length bytes → read written path offset buffer ≡ record { number = 0; count = length bytes; buffer = bytes }
    unfolding subject made refusal
    read_back buffer l =
        let f : File = file_of s (entry_of is_file s path) in
        let g = write-path s path ok offset (length bytes) r in
        let shows = own-file (write path offset bytes time) r ∙ ap (made (write path offset bytes time)) (file-shown s path g.0) in
        let k = splice-long f.bytes offset bytes g.1 in
        let c : min (length buffer) (length (splice f.bytes offset bytes) - offset) ≡ length bytes = omega arith in
        read-shown written path (change-sound (write path offset bytes time) r) _ shows offset buffer (omega arith)
        ∙ rw (c, part-splice f.bytes offset bytes (length bytes) refl g.1, splice-whole buffer bytes (sym l))

    -- The file's attributes stay.
    pub write-attributes : (buffer : List ℕ) → read_attributes written path buffer ≡ read_attributes s path buffer
    unfolding subject made refusal
    write-attributes buffer =
        let shown = file-shown s path (write-path s path ok offset (length bytes) r).0 in
        let shows = own-file (write path offset bytes time) r ∙ ap (made (write path offset bytes time)) shown in
        attributes-read written path (change-sound (write path offset bytes time) r) _ shows buffer ∙ sym (attributes-read s path ok (file_of s (entry_of is_file s path)) shown buffer)

    -- The blocks taken are as many as needed, the lowest free ones in ascending order (LowestFree), and stand at the end of the file's chain.
    pub blocks-taken : file_blocks written e ≡ file_blocks s e ++ new_blocks s e offset (length bytes)
    unfolding refusal after
    blocks-taken = written-blocks s path ok offset bytes time (write-given s path offset (length bytes) r)

    pub count-taken : length (new_blocks s e offset (length bytes)) ≡ needed s e offset (length bytes)
    unfolding refusal
    count-taken = new-length s e offset (length bytes) (write-given s path offset (length bytes) r).room

    pub lowest-taken : LowestFree s (new_blocks s e offset (length bytes))
    lowest-taken = new-lowest s e offset (length bytes)

  -- An accepted shorten.
  module _ (path : List ℕ) (size time : ℕ) (r : refusal s (shorten path size time) ≡ 0) where
    abbrev shortened : List ℕ
    shortened = after s (shorten path size time)

    abbrev cut : ℕ
    cut = entry_of is_file s path

    found-shorten : file_refusal s path ≡ 0
    unfolding refusal
    found-shorten = (shorten-given s path size r).there

    -- The file's size is the given one, and a read gives the first bytes of what it showed.
    pub shorten-size : size_of shortened cut ≡ size
    unfolding refusal after
    shorten-size = (shortened-path s path ok size time (shorten-given s path size r)).entry.size_is

    pub shorten-read : (offset : ℕ) (buffer : List ℕ) → offset ≤ length (take size (file_of s cut).bytes) → read shortened path offset buffer
        ≡ record { number = 0; count = min (length buffer) (length (take size (file_of s cut).bytes) - offset); buffer = splice buffer 0 (part (take size (file_of s cut).bytes) offset (min (length buffer) (length (take size (file_of s cut).bytes) - offset))) }
    unfolding subject made
    shorten-read offset buffer h =
        read-shown shortened path (change-sound (shorten path size time) r) _ (own-file (shorten path size time) r ∙ ap (made (shorten path size time)) (file-shown s path found-shorten)) offset buffer h

    -- It keeps its first blocks. What they hold stays, but for the bytes behind the new end, which are zero if the size falls (tail_length).
    pub shorten-blocks : file_blocks shortened cut ≡ take (blocks_for size) (file_blocks s cut)
    unfolding refusal after
    shorten-blocks = (shortened-path s path ok size time (shorten-given s path size r)).blocks

    pub shorten-whole : joined (block shortened) (file_blocks shortened cut) ≡ splice (joined (block s) (take (blocks_for size) (file_blocks s cut))) size (zeros (tail_length (size_of s cut) size))
    unfolding refusal after
    shorten-whole = (shortened-path s path ok size time (shorten-given s path size r)).whole

    -- The file's attributes stay.
    pub shorten-attributes : (buffer : List ℕ) → read_attributes shortened path buffer ≡ read_attributes s path buffer
    unfolding subject made
    shorten-attributes buffer =
        let shown = file-shown s path found-shorten in
        attributes-read shortened path (change-sound (shorten path size time) r) _ (own-file (shorten path size time) r ∙ ap (made (shorten path size time)) shown) buffer
        ∙ sym (attributes-read s path ok (file_of s (entry_of is_file s path)) shown buffer)

  -- A replace is refused as a write at 0 is.
  pub replace-refused : (path bytes : List ℕ) (time : ℕ) → refusal s (replace path bytes time) ≡ refusal s (write path 0 bytes time)
  unfolding refusal replace_refusal
  replace-refused path bytes time = refl

  -- An accepted replace.
  module _ (path bytes : List ℕ) (time : ℕ) (r : refusal s (replace path bytes time) ≡ 0) where
    abbrev replaced : List ℕ
    replaced = after s (replace path bytes time)

    abbrev first-half : Change
    first-half = shorten path (min (size_of s (entry_of is_file s path)) (length bytes)) time

    abbrev second-half : Change
    second-half = write path 0 bytes time

    given-replace : replace_refusal s path (length bytes) ≡ 0
    unfolding refusal
    given-replace = r

    -- It is a shorten to the smaller size and then a write at 0: both are accepted, the image is the one that they leave, and the named blocks are those of both.
    pub replace-shortens : refusal s first-half ≡ 0
    unfolding refusal
    replace-shortens = shorten-accepted s path _ (replace-shorten s path (length bytes) given-replace)

    pub replace-writes : refusal (after s first-half) second-half ≡ 0
    unfolding refusal after
    replace-writes = replace-accepted s path ok (length bytes) time given-replace

    pub replace-both : replaced ≡ after (after s first-half) second-half
    unfolding after replace_at
    replace-both = rw (short-entry s path ok (length bytes) time given-replace)

    pub replace-named : named s (replace path bytes time) ≡ named s first-half ++ named (after s first-half) second-half
    unfolding after named replace_named
    replace-named = rw (short-entry s path ok (length bytes) time given-replace, replace-names s path ok (length bytes) time given-replace)

    -- A read gives the given bytes, all of them and no others.
    pub replace-read : (offset : ℕ) (buffer : List ℕ) → offset ≤ length bytes → read replaced path offset buffer
        ≡ record { number = 0; count = min (length buffer) (length bytes - offset); buffer = splice buffer 0 (part bytes offset (min (length buffer) (length bytes - offset))) }
    unfolding subject made
    replace-read offset buffer h =
        read-shown replaced path (change-sound (replace path bytes time) r) _
        (own-file (replace path bytes time) r ∙ ap (made (replace path bytes time)) (file-shown s path (replace-there s path (length bytes) given-replace))) offset buffer h

    -- The file's attributes stay.
    pub replace-attributes : (buffer : List ℕ) → read_attributes replaced path buffer ≡ read_attributes s path buffer
    unfolding subject made
    replace-attributes buffer =
        let shown = file-shown s path (replace-there s path (length bytes) given-replace) in
        attributes-read replaced path (change-sound (replace path bytes time) r) _ (own-file (replace path bytes time) r ∙ ap (made (replace path bytes time)) shown) buffer
        ∙ sym (attributes-read s path ok (file_of s (entry_of is_file s path)) shown buffer)

  -- An accepted create: the file is found in the slot that is answered.
  pub create-found : (path : List ℕ) (type user group permissions flags time : ℕ) (r : refusal s (create path type user group permissions flags time) ≡ 0)
      → path_slot is_file (after s (create path type user group permissions flags time)) path ≡ slot_given s (create path type user group permissions flags time)
  unfolding refusal after slot_given
  create-found path type user group permissions flags time r = create-slot-found s path ok type user group permissions flags time r

  -- An accepted move: the new path shows what the old one showed, and the file is found there in the slot that is answered. (The old path shows nothing:
  -- own-file.)
  module _ (path to : List ℕ) (r : refusal s (move path to) ≡ 0) where
    pub move-shown : file_at (after s (move path to)) to ≡ file_at s path
    unfolding refusal after
    move-shown = move-come s path to ok r

    pub move-found : path_slot is_file (after s (move path to)) to ≡ slot_given s (move path to)
    unfolding refusal after slot_given
    move-found = file-found s path to ok r

  -- An accepted create of a directory: it is found in the slot that is answered, it is empty, and the tree has just it more.
  module _ (path : List ℕ) (type user group permissions flags time d : ℕ) (r : refusal s (create_directory path type user group permissions flags time d) ≡ 0) where
    abbrev created : List ℕ
    created = after s (create_directory path type user group permissions flags time d)

    pub directory-found : path_slot is_directory created path ≡ slot_given s (create_directory path type user group permissions flags time d)
    unfolding refusal after slot_given
    directory-found = create-directory-found s path ok type user group permissions flags time d r

    pub directory-empty : is_empty created (first_block created (entry_of is_directory created path)) ≡ true
    unfolding refusal after
    directory-empty = create-directory-empty s path ok type user group permissions flags time d r

    pub tree-gains : Inserted (first_block created (entry_of is_directory created path), max_levels - length (parts path)) (dirs s) (dirs created)
    unfolding refusal after
    tree-gains = create-directory-tree s path ok type user group permissions flags time d r

  -- An accepted delete of a directory: the tree has just it less.
  pub tree-loses : (path : List ℕ) → refusal s (delete_directory path) ≡ 0
      → Inserted (first_block s (entry_of is_directory s path), max_levels - length (parts path)) (dirs (after s (delete_directory path))) (dirs s)
  unfolding refusal after
  tree-loses path r = delete-directory-tree s path ok r

  -- Once the old chain is freed, a block is free that was free or is one of the chain.
  pub emptied-free : (path : List ℕ) → file_refusal s path ≡ 0 → (b : ℕ) → b < block_count s
      → eqb (next (emptied s (entry_of is_file s path)) b) 0 ≡ eqb (next s b) 0 || has eqb b (attribute_blocks s (entry_of is_file s path))
  emptied-free path found = free-once-emptied s path ok found

  -- An accepted set of attributes.
  module _ (path bytes : List ℕ) (r : refusal s (set_attributes path bytes) ≡ 0) where
    abbrev attributed : List ℕ
    attributed = after s (set_attributes path bytes)

    abbrev holder : ℕ
    holder = entry_of is_file s path

    found-set : file_refusal s path ≡ 0
    unfolding refusal
    found-set = set-path s path (length bytes) r

    -- A read of the attributes gives the bytes set.
    pub attributes-back : (buffer : List ℕ) → read_attributes attributed path buffer
        ≡ record { number = 0; count = 512 * min (length bytes / 512) (length buffer / 512); buffer = splice buffer 0 (take (512 * min (length bytes / 512) (length buffer / 512)) bytes) }
    unfolding subject made
    attributes-back buffer =
        attributes-read attributed path (change-sound (set_attributes path bytes) r) _ (own-file (set_attributes path bytes) r ∙ ap (made (set_attributes path bytes)) (file-shown s path found-set)) buffer

    -- All other answers about the file stay.
    pub set-lookup : lookup attributed path ≡ lookup s path
    unfolding refusal after
    set-lookup = own-lookup s attributed path ok (change-sound (set_attributes path bytes) r) found-set (set-kept s path ok found-set bytes r)

    pub set-read : (offset : ℕ) (buffer : List ℕ) → read attributed path offset buffer ≡ read s path offset buffer
    unfolding refusal after
    set-read = own_read s attributed path ok (change-sound (set_attributes path bytes) r) found-set (set-kept s path ok found-set bytes r)

    pub set-look : (i : ℕ) → look_in_place attributed path i ≡ look_in_place s path i
    unfolding refusal after
    set-look = own-look s attributed path ok (change-sound (set_attributes path bytes) r) found-set (set-kept s path ok found-set bytes r)

    -- Its chain is then as many blocks as the bytes are, the lowest that are free once the old chain is freed, in ascending order (LowestFree).
    pub attributes-count : length (attribute_blocks attributed holder) ≡ length bytes / 512
    unfolding refusal after
    attributes-count = ap length (set-taken s path ok bytes r) ∙ set-many s path ok bytes r

    pub attributes-lowest : LowestFree (emptied s holder) (attribute_blocks attributed holder)
    unfolding refusal after
    attributes-lowest = rw (set-taken s path ok bytes r) (set-lowest-free s path ok bytes r)

  -- An accepted clear of attributes.
  module _ (path : List ℕ) (r : refusal s (clear_attributes path) ≡ 0) where
    abbrev cleared : List ℕ
    cleared = after s (clear_attributes path)

    found-clear : file_refusal s path ≡ 0
    unfolding refusal
    found-clear = r

    -- A read of the attributes gives none.
    pub attributes-none : (buffer : List ℕ) → read_attributes cleared path buffer ≡ record { number = 0; count = 0; buffer = buffer }
    unfolding subject made
    attributes-none buffer =
        let z : 512 * min (0 / 512) (length buffer / 512) ≡ 0 = omega arith in
        attributes-read cleared path (change-sound (clear_attributes path) r) _ (own-file (clear_attributes path) r ∙ ap (made (clear_attributes path)) (file-shown s path found-clear)) buffer
        ∙ rw (z, splice-nil buffer 0)

    -- All other answers about the file stay.
    pub clear-lookup : lookup cleared path ≡ lookup s path
    unfolding after
    clear-lookup = own-lookup s cleared path ok (change-sound (clear_attributes path) r) found-clear (clear_kept s path ok found-clear)

    pub clear-read : (offset : ℕ) (buffer : List ℕ) → read cleared path offset buffer ≡ read s path offset buffer
    unfolding after
    clear-read = own_read s cleared path ok (change-sound (clear_attributes path) r) found-clear (clear_kept s path ok found-clear)

    pub clear-look : (i : ℕ) → look_in_place cleared path i ≡ look_in_place s path i
    unfolding after
    clear-look = own-look s cleared path ok (change-sound (clear_attributes path) r) found-clear (clear_kept s path ok found-clear)

  -- An accepted clear of system flags (L11).
  module _ (path : List ℕ) (r : refusal s (clear_flags path) ≡ 0) where
    abbrev flagless : List ℕ
    flagless = after s (clear_flags path)

    found-flags : file_refusal s path ≡ 0
    unfolding refusal
    found-flags = r

    -- The file's flags are 0, and every other byte of the image stays: all else of the entry, the file's bytes and all other files.
    pub flags-cleared : be32 flagless (entry_of is_file s path + 40) ≡ 0
    unfolding after
    flags-cleared = flags-number s path ok found-flags

    pub flags-others : (i : ℕ) → (i < entry_of is_file s path + 40) ⊎ (entry_of is_file s path + 44 ≤ i) → get_or flagless i 0 ≡ get_or s i 0
    unfolding after
    flags-others = flags-bytes s path ok found-flags

    -- All answers about the file stay.
    pub flags-lookup : lookup flagless path ≡ lookup s path
    unfolding after
    flags-lookup = own-lookup s flagless path ok (change-sound (clear_flags path) r) found-flags (flags-kept s path ok found-flags)

    pub flags-read : (offset : ℕ) (buffer : List ℕ) → read flagless path offset buffer ≡ read s path offset buffer
    unfolding after
    flags-read = own_read s flagless path ok (change-sound (clear_flags path) r) found-flags (flags-kept s path ok found-flags)

    pub flags-look : (i : ℕ) → look_in_place flagless path i ≡ look_in_place s path i
    unfolding after
    flags-look = own-look s flagless path ok (change-sound (clear_flags path) r) found-flags (flags-kept s path ok found-flags)

    pub flags-attributes : (buffer : List ℕ) → read_attributes flagless path buffer ≡ read_attributes s path buffer
    unfolding subject made
    flags-attributes buffer =
        let shown = file-shown s path found-flags in
        attributes-read flagless path (change-sound (clear_flags path) r) _ (own-file (clear_flags path) r ∙ ap (made (clear_flags path)) shown) buffer
        ∙ sym (attributes-read s path ok (file_of s (entry_of is_file s path)) shown buffer)

-- Two sound images that show the same answer the same at every path: look up, but for the slot; read; look in place; read attributes.
module _ (s s' : List ℕ) (ok : check s ≡ 0) (ok' : check s' ≡ 0) (same : SameFiles s s') (path : List ℕ) where
  pub same-lookup : ((lookup s path).number ≡ (lookup s' path).number) × ((lookup s path).size ≡ (lookup s' path).size) × ((lookup s path).blocks ≡ (lookup s' path).blocks)
  same-lookup = lookup-alike s s' path ok ok' (same.files path)

  pub same_read : (offset : ℕ) (buffer : List ℕ) → read s path offset buffer ≡ read s' path offset buffer
  same_read = read_alike s s' path ok ok' (same.files path)

  pub same-look : (i : ℕ) → look_in_place s path i ≡ look_in_place s' path i
  same-look = look-alike s s' path ok ok' (same.files path)

  pub same-attributes : (buffer : List ℕ) → read_attributes s path buffer ≡ read_attributes s' path buffer
  same-attributes = attributes-alike s s' path ok ok' (same.files path)
