-- What the theorems of the salvage of a tree say of an image s that the call was given and the image w that it left.
use Rattle.std.specs.Prelude.{ℕ, ◌+◌, ◌-◌, ◌*◌, ◌/◌, ◌<◌, Bool, true, false, not, ◌||◌, List, [], ◌∷◌, ◌++◌, ◌⊎◌, ◌≢◌, ◌≡◌, eqb, get_or}
use Rattle.layout.specs.Lists.{interval, every, has, distinct, same}
use Rattle.layout.specs.Bytes.{part}
use Rattle.layout.specs.Geometry.{in_volume, root_block}
use Rattle.layout.specs.Table.{next}
use Rattle.layout.specs.Directory.{slot_at, type_of, first_block, self_of, attribute_size_of, is_free, is_file, is_directory, name_of, file_blocks, content, attribute_blocks, attributes, parent_of, name_ok}
use Rattle.layout.specs.Check.{slot_ok, all_chains, owned}
use Rattle.salvage.specs.Salvage.{claimable}

-- THE CODE of the slot at e
abbrev pub code_at : List ℕ → ℕ → ℕ
code_at codes e = get_or codes (e / 128) 0

-- THE BLOCKS IN USE: those of all chains of the tree, of directories, files and attributes
abbrev pub in_use : List ℕ → List ℕ
in_use w = owned (next w) (all_chains w)

-- no slot in use before slot k of the directory ds has this name
unfoldable pub name_new : List ℕ → List ℕ → ℕ → List ℕ → Bool
name_new w ds k name = every (λ j. is_free (type_of w (slot_at ds j)) || not (same (name_of w (slot_at ds j)) name)) (interval 1 (k - 1))

-- where a folder's entry leads, the first block has its own number, or the entry's name
unfoldable pub self_witness : List ℕ → ℕ → Bool
self_witness s e =
    let b = first_block s e in
    eqb (self_of s (512 * b)) b || same (part s (512 * b + 48) 80) (part s (e + 48) 80)

-- WHY CODE 2, of the entry at e, where `left` levels may come below its directory and the blocks cs are in use: a file whose chain leaves the volume, meets a block twice, or
-- meets one of cs; a folder below the eighth level, or whose first block is not in the volume or one of cs, or whose first block has neither its number nor its name
abbrev pub Cause : List ℕ → ℕ → ℕ → List ℕ → ℕ → Type 0
Cause s n left cs e =
    ((is_file (type_of s e) ≡ true) × (claimable n cs (file_blocks s e) ≡ false))
    ⊎ ((is_directory (type_of s e) ≡ true) × ((left ≡ 0) ⊎ ((claimable n cs (first_block s e ∷ []) ≡ false) ⊎ (self_witness s e ≡ false))))

-- the k bytes from a on are the same
abbrev pub Alike : List ℕ → List ℕ → ℕ → ℕ → Type 0
Alike s w a k = (i : ℕ) → i < k → get_or w (a + i) 0 ≡ get_or s (a + i) 0

-- A FILE THAT IS KEPT: its entry but for the attribute fields, its blocks and its content; and its attributes, unless it has none now
pub record FileKept (s w : List ℕ) (e : ℕ) : Type 0 where
  pub entry : Alike s w e 32
  pub name : Alike s w (e + 40) 88
  pub blocks : file_blocks w e ≡ file_blocks s e
  pub contents : content w e ≡ content s e
  pub second : (attribute_size_of w e ≡ 0) ⊎ (Alike s w (e + 32) 8 × (attributes w e ≡ attributes s e))

-- A FOLDER THAT IS KEPT: its entry but for the size in blocks
pub record FolderKept (s w : List ℕ) (e : ℕ) : Type 0 where
  pub front : Alike s w e 12
  pub back : Alike s w (e + 16) 112

-- A LOST FOLDER that was hung here: its entry has the name that its self entry has in s
pub record Hung (s w : List ℕ) (e : ℕ) : Type 0 where
  pub type : type_of w e ≡ 32
  pub name : part w (e + 48) 80 ≡ part s (512 * first_block w e + 48) 80

-- A WHOLE FILE in slot k of the directory ds, in the image s that was given: it meets stage 5; no slot in use before it has its name; its two chains stay in the volume and meet no block twice; and
-- of their blocks none is in use in w but by this file
pub record WholeFile (s w : List ℕ) (n : ℕ) (ds : List ℕ) (k : ℕ) : Type 0 where
  pub file : is_file (type_of s (slot_at ds k)) ≡ true
  pub form : slot_ok s (slot_at ds k) ≡ true
  pub name : name_new w ds k (name_of s (slot_at ds k)) ≡ true
  pub inside : every (in_volume n) (file_blocks s (slot_at ds k) ++ attribute_blocks s (slot_at ds k)) ≡ true
  pub once : distinct eqb (file_blocks s (slot_at ds k) ++ attribute_blocks s (slot_at ds k)) ≡ true
  pub alone : (x : ℕ) → has eqb x (file_blocks s (slot_at ds k) ++ attribute_blocks s (slot_at ds k)) ≡ true → has eqb x (in_use w) ≡ true
      → (is_file (type_of w (slot_at ds k)) ≡ true) × (has eqb x (file_blocks w (slot_at ds k) ++ attribute_blocks w (slot_at ds k)) ≡ true)

-- it has the same 128 bytes, content and attributes
pub record SameFile (s w : List ℕ) (e : ℕ) : Type 0 where
  pub entry : Alike s w e 128
  pub contents : content w e ≡ content s e
  pub seconds : attributes w e ≡ attributes s e

-- A FOLDER THAT STANDS in slot k of the directory ds, where `left` levels may come below ds: it meets stage 5; no slot in use before it has its name; its first block is in the volume, has its own number
-- or the folder's name, and is in use in w by this folder only
pub record StandingFolder (s w : List ℕ) (n left : ℕ) (ds : List ℕ) (k : ℕ) : Type 0 where
  pub folder : is_directory (type_of s (slot_at ds k)) ≡ true
  pub form : slot_ok s (slot_at ds k) ≡ true
  pub name : name_new w ds k (name_of s (slot_at ds k)) ≡ true
  pub level : left ≢ 0
  pub inside : in_volume n (first_block s (slot_at ds k)) ≡ true
  pub witness : self_witness s (slot_at ds k) ≡ true
  pub alone : has eqb (first_block s (slot_at ds k)) (in_use w) ≡ true → (is_directory (type_of w (slot_at ds k)) ≡ true) × (first_block w (slot_at ds k) ≡ first_block s (slot_at ds k))

-- A LOST FOLDER of the root at block b, by its self entry: the block is in use in s, begins with type 1, has its own number, the root as parent, and a good name
pub record LostFolder (s : List ℕ) (n b : ℕ) : Type 0 where
  pub low : root_block n < b
  pub high : b < n
  pub used : next s b ≢ 0
  pub type : type_of s (512 * b) ≡ 1
  pub self : self_of s (512 * b) ≡ b
  pub parent : parent_of s (512 * b) ≡ root_block n
  pub named : name_ok s (512 * b) ≡ true
