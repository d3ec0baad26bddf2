-- The theorems of the store, over its definitions. First of all changes, puts among them, in the words of the volume's theorems: `check s ≡ 0` says that the
-- image s is sound, `refusal s c ≡ 0` that the change c is accepted on it, `after s c` is the image after it, `named s c` its named blocks, and `file_at s path`,
-- `folder_at s path` are what a path shows. Then of the store alone, by what its two calls answer: a put on an image, and gets on the images before and after
-- it. The proofs are in Laws.
use Prim.Native.Nat.{ℕ, suc, ◌+◌, ◌/◌, ◌≤◌, ◌<◌}
use mathlib.Core.Path.{◌≡◌, refl, sym, ap, ◌∙◌}
use mathlib.Core.Bool.{Bool, true, false, ◌&&◌, cond}
use mathlib.Core.List.{List, ◌∷◌}
use mathlib.Core.Logic.{◌≢◌}
use lib.ListN.{length, get_or}
use lib.Dec.{eqb, leb}
use Rattle.layout.specs.Lists.{has, same}
use Rattle.layout.specs.Refusals.{require, first_of}
use Rattle.layout.specs.Directory.{slash}
use Rattle.layout.specs.Bytes.{be32, splice}
use Rattle.layout.specs.Geometry.{block_count}
use Rattle.layout.specs.Table.{next, free_blocks}
use Rattle.volume.specs.Create.{place_refusal}
use Rattle.volume.specs.Write.{needed}
use Rattle.layout.specs.Check.{check}
use Rattle.layout.specs.Looks.{lookup, read, look_in_place, read_attributes, is_root_path}
use Rattle.volume.specs.Claims.{Blanked, Aside}
use Rattle.volume.specs.Views.{File, just, file_at, folder_at, SameFiles, NoNewFlags, origin_of}
use Rattle.store.specs.Settings.{max_setting, Revision, encoded, held, revisions}
use Rattle.store.specs.Put.{serial_ok, root, front, path_of, address_refusal, is_there, stored, opened, entry_at, rewritten, form_refusal, put_image, put_revision, put_refusal}
use Rattle.store.specs.Get.{Which, the_latest, the_number, sought_refusal, get_refusal, get_in}
use Rattle.store.specs.Change.{Change, clear_flags, refusal, after, named, subject, further, subjects}
use Rattle.store.specs.Views.{made, made_folder, takes, gives, gives_folder}
use Rattle.store.specs.Claims.{Fits, Small, Bytes}
use Rattle.volume.proofs.Laws.Alike.{read_alike, look-alike, attributes-alike}
use Rattle.store.proofs.Laws.Form as form
use Rattle.store.proofs.Laws.Whole as whole
use Rattle.store.proofs.Laws.Sound.{kept}
use Rattle.store.proofs.Laws.Framed.{frame}
use Rattle.store.proofs.Laws.Blank.{blank}
use Rattle.volume.proofs.Laws.Orders.{not_in, aside-differ}
use Rattle.store.proofs.Laws.Orders as orders
use Rattle.store.proofs.Laws.Shown as shows
use Rattle.store.proofs.Laws.Serials.{answer-same}
use Rattle.store.proofs.Laws.Addresses as addresses
use Rattle.store.proofs.Laws.Gets as gets

-- A sound image s.
module _ (s : List ℕ) (ok : check s ≡ 0) where
  -- An accepted change c.
  module _ (c : Change) (r : refusal s c ≡ 0) where
    -- It keeps the image sound.
    pub change-sound : check (after s c) ≡ 0
    change-sound = kept s c ok r

    -- It keeps the length, and changes no byte outside its named blocks, which are blocks of the image.
    pub change-length : length (after s c) ≡ length s
    change-length = (frame s c ok r).agree.size

    pub change-frame : (i : ℕ) → has eqb (i / 512) (named s c) ≡ false → get_or (after s c) i 0 ≡ get_or s i 0
    change-frame = (frame s c ok r).agree.byte

    pub named-below : (b : ℕ) → has eqb b (named s c) ≡ true → b < block_count s
    named-below = (frame s c ok r).inside

    -- L7. Every block that it freed holds only zeros, and free blocks hold what they held (Blanked).
    pub freed-blank : Blanked s (after s c)
    freed-blank = blank s c ok r

    -- Of what its own path shows, the file and the directory, it makes what its rule says, a function of that alone (made, made_folder).
    pub own-file : file_at (after s c) (subject c) ≡ made c (file_at s (subject c))
    own-file = shows.own s c ok r

    pub own-folder : folder_at (after s c) (subject c) ≡ made_folder c (folder_at s (subject c))
    own-folder = shows.folder s c ok r

    -- It takes and gives back blocks in use as its rule says.
    pub blocks-in-use : be32 (after s c) 20 + (gives c (file_at s (subject c)) + gives_folder c (folder_at s (subject c))) ≡ be32 s 20 + takes c (file_at s (subject c))
    blocks-in-use = shows.used s c ok r

    -- L11. It makes no system flags but zero (NoNewFlags), and those of a file that is there before and after change by a clear alone.
    pub no-new-flags : NoNewFlags s (after s c) (origin_of (subject c) (further c))
    no-new-flags = shows.no-new-flags s c ok r

    pub flags-stay : (path : List ℕ) (f g : File) → file_at s path ≡ just g → file_at (after s c) path ≡ just f → c ≢ clear_flags path → f.flags ≡ g.flags
    flags-stay = shows.flags-stay s c ok r

    -- Every other path shows what it showed, and lookup, read, look in place and read attributes answer what they answered.
    module _ (other : List ℕ) (aside : has same other (subjects c) ≡ false) where
      pub other-files : file_at (after s c) other ≡ file_at s other
      other-files = shows.others s c ok r other (not_in other (subjects c) aside)

      pub other-folders : folder_at (after s c) other ≡ folder_at s other
      other-folders = shows.folders s c ok r other (not_in other (subjects c) aside)

      pub others-lookup : lookup (after s c) other ≡ lookup s other
      others-lookup = shows.others-lookup s c ok r other (not_in other (subjects c) aside)

      pub others-read : (offset : ℕ) (buffer : List ℕ) → read (after s c) other offset buffer ≡ read s other offset buffer
      others-read = read_alike (after s c) s other change-sound ok other-files

      pub others-look : (i : ℕ) → look_in_place (after s c) other i ≡ look_in_place s other i
      others-look = look-alike (after s c) s other change-sound ok other-files

      pub others-attributes : (buffer : List ℕ) → read_attributes (after s c) other buffer ≡ read_attributes s other buffer
      others-attributes = attributes-alike (after s c) s other change-sound ok other-files

  -- L13. Two changes on different paths, accepted one right after the other in both orders, leave the same files and free count either way.
  pub either_order : (c d : Change) → refusal s c ≡ 0 → refusal (after s c) d ≡ 0 → refusal s d ≡ 0 → refusal (after s d) c ≡ 0 → subject c ≢ subject d
      → SameFiles (after (after s c) d) (after (after s d) c)
  either_order = orders.either_order s ok

  -- The same with the list of paths of each change, of which a move has two: no path of one is a path of the other (Aside).
  pub any_order : (c d : Change) → refusal s c ≡ 0 → refusal (after s c) d ≡ 0 → refusal s d ≡ 0 → refusal (after s d) c ≡ 0 → Aside (subjects c) (subjects d)
      → SameFiles (after (after s c) d) (after (after s d) c)
  any_order c d rc rcd rd rdc aside = either_order c d rc rcd rd rdc (aside-differ (further c) (further d) (subject c) (subject d) aside)

-- THE FORM of a file: revisions that fit it (Fits, Small), written into a file of any size, are read back; and a file of the form, of bytes (Bytes), is what
-- its revisions are written as.
pub read_back : (rs : List Revision) (size : ℕ) → Fits rs → Small rs → revisions (encoded rs size) ≡ held rs
read_back = form.read_back

pub written-again : (c : List ℕ) (rs : List Revision) → Bytes c → revisions c ≡ held rs → encoded rs (length c) ≡ c
written-again = whole.written-again

-- PUT AND GET. An accepted put on a sound image: s' is the image after it, and m the number that it answers.
module _ (s directory serial : List ℕ) (time : ℕ) (bytes : List ℕ) (ok : check s ≡ 0) (r : put_refusal s directory serial time bytes ≡ 0) where
  abbrev s' : List ℕ
  s' = put_image s directory serial time bytes

  abbrev m : ℕ
  m = put_revision s directory serial

  -- The number is 1 where get found no file, and else one more than that of the latest.
  pub first-number : (size : ℕ) → get_refusal s directory serial the_latest size ≡ 10 → m ≡ 1
  first-number = gets.first-number s directory serial ok

  pub next-number : (buffer : List ℕ) → get_refusal s directory serial the_latest (length buffer) ≡ 0 → m ≡ suc (get_in s directory serial the_latest buffer).revision
  next-number = gets.next-number s directory serial

  -- The latest is then what was put, also when asked for by its number.
  pub get-latest : (buffer : List ℕ) → max_setting ≤ length buffer → get_in s' directory serial the_latest buffer ≡ record { number = 0; revision = m; size = length bytes; buffer = splice buffer 0 bytes }
  get-latest = gets.new-asked s directory serial time bytes ok r the_latest (gets.latest-asked s directory serial time bytes ok r)

  pub get-new : (buffer : List ℕ) → max_setting ≤ length buffer → get_in s' directory serial (the_number m) buffer ≡ record { number = 0; revision = m; size = length bytes; buffer = splice buffer 0 bytes }
  unfolding put_revision
  get-new = gets.new-asked s directory serial time bytes ok r (the_number m) refl

  -- A revision that stood, of the fifteen numbers before it, gives what it gave; older ones are dropped; and no other comes.
  pub get-standing : (x : ℕ) (buffer : List ℕ) → get_refusal s directory serial (the_number x) (length buffer) ≡ 0 → m < x + 16
      → get_in s' directory serial (the_number x) buffer ≡ get_in s directory serial (the_number x) buffer
  get-standing = gets.still-given s directory serial time bytes ok r

  pub get-dropped : (x : ℕ) (buffer : List ℕ) → max_setting ≤ length buffer → x + 16 ≤ m → get_in s' directory serial (the_number x) buffer ≡ record { number = 23; revision = 0; size = 0; buffer = buffer }
  get-dropped = gets.dropped s directory serial time bytes ok r

  pub get_none : (x : ℕ) (buffer : List ℕ) → max_setting ≤ length buffer → get_refusal s directory serial (the_number x) (length buffer) ≢ 0 → x ≢ m
      → get_in s' directory serial (the_number x) buffer ≡ record { number = 23; revision = 0; size = 0; buffer = buffer }
  get_none = gets.none-comes s directory serial time bytes ok r

  -- Every answer about another directory or another serial number stays.
  pub get-others : (folder other : List ℕ) → (folder ≡ directory → other ≢ serial) → (which : Which) (buffer : List ℕ) → get_in s' folder other which buffer ≡ get_in s folder other which buffer
  get-others = gets.others s directory serial time bytes ok r

-- Every answer stays after a change that is about another path.
pub get-stays : (s : List ℕ) (c : Change) (directory serial : List ℕ) → check s ≡ 0 → refusal s c ≡ 0 → has same (path_of directory serial) (subjects c) ≡ false
    → (which : Which) (buffer : List ℕ) → get_in (after s c) directory serial which buffer ≡ get_in s directory serial which buffer
get-stays s c directory serial ok r aside =
    answer-same s (after s c) directory serial (kept s c ok r ∙ sym ok) (shows.others s c ok r (path_of directory serial) (not_in (path_of directory serial) (subjects c) aside))

-- IN THE ROOT, L10: the path is `/` and the serial number, and of the refusals of directory and serial number only L10's 22 is left, so that every definition
-- with the root for its directory is L10's.
pub root-path : (serial : List ℕ) → path_of root serial ≡ slash ∷ serial
unfolding path_of front is_root_path
root-path serial = refl

pub root-address : (serial : List ℕ) (fits : Bool) → address_refusal root serial fits ≡ require (serial_ok serial && fits) 22 0
root-address = addresses.root-address

-- The refusals of a put and of a get in the root are so L10's, word for word.
pub root-put : (s serial : List ℕ) (time : ℕ) (bytes : List ℕ)
    → let t = opened s root serial time in
    let form = form_refusal (stored s root serial) in
    let place = place_refusal s (slash ∷ serial) in
    let room = require (leb (needed t (entry_at s root serial time) 0 (length (rewritten s root serial time bytes))) (length (free_blocks (next t) (block_count t)))) 14 0 in
    put_refusal s root serial time bytes ≡ require (serial_ok serial && leb (length bytes) max_setting) 22 (first_of (cond (is_there s root serial) form place) room)
unfolding put_refusal path_of front is_root_path
root-put s serial time bytes = addresses.root-rest serial (leb (length bytes) max_setting) _

pub root-get : (s serial : List ℕ) (which : Which) (size : ℕ)
    → get_refusal s root serial which size
    ≡ first_of (check s) (require (serial_ok serial && leb max_setting size) 22 (require (is_there s root serial) 10 (sought_refusal (stored s root serial) which)))
unfolding get_refusal
root-get s serial which size = ap (first_of (check s)) (addresses.root-rest serial (leb max_setting size) _)
