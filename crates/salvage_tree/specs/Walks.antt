-- What the contracts of private functions say. The blocks claimed are known by a mark for each block, so what a function does is said for every list of
-- blocks that the marks are those of; the codes are the front of the report.
use Rattle.std.specs.Prelude.{ℕ, suc, ◌+◌, ◌-◌, ◌*◌, ◌/◌, ◌%◌, ◌≤◌, ◌<◌, List, [], ◌∷◌, ◌++◌, Bool, true, false, not, ◌&&◌, ◌||◌, cond, ◌≡◌, eqb, ltb, length, get_or, take}
use Rattle.layout.specs.Lists.{within, interval, every, has, distinct, same}
use Rattle.layout.specs.Limits.{max_directory, max_levels}
use Rattle.layout.specs.Bytes.{part, splice}
use Rattle.layout.specs.Geometry.{signature, block_count, root_block, in_volume}
use Rattle.layout.specs.Table.{next}
use Rattle.layout.specs.Directory.{slot_at, slots, type_of, is_free, name_of, name_ok, first_block, self_of, parent_of, blocks_of, directory}
use Rattle.layout.specs.Check.{stage1, stage2}
use Rattle.layout.specs.Walks.Shapes.{Room}
use Rattle.salvage.specs.Walks.{MarksOf}
pub use Rattle.salvage.specs.Walks.{IsGood}
use Rattle.salvage_tree.specs.SalvageTree.{State, run, row_right, directory_blocks, put_directory, sized, take_file_at, take_slot, take_slots, witness, take_child, ones_put, blocks_freed, padding_put, freed_codes, rest, adopt, coded, tree_done, hung_at, hang, folders_hung, number, hung_over, salvaged}

abbrev pub st : List ℕ → List ℕ → List ℕ → State
st s cs codes = record { image = s; claimed = cs; codes = codes }

-- image, marks and codes are those of q
pub record Reached (q : State) (s m codes : List ℕ) : Type 0 where
  pub image : s ≡ q.image
  pub marks : MarksOf m q.claimed
  pub codes-are : codes ≡ q.codes

-- an image of n blocks, with its marks and a code for each slot
pub record Ready (s : List ℕ) (t n : ℕ) (m codes : List ℕ) : Type 0 where
  pub room : Room s t n m
  pub sized : length codes ≡ 4 * n

-- the first r of some numbers are the run from b on
pub record Ran (s : List ℕ) (n b : ℕ) (m : List ℕ) (r : ℕ) (blocks : List ℕ) : Type 0 where
  pub most : r ≤ max_directory
  pub size : length blocks ≡ max_directory
  pub below : (i : ℕ) → i < r → get_or blocks i 0 < n
  pub is : (cs : List ℕ) → MarksOf m cs → run s n cs max_directory b ≡ take r blocks

pub record RowGood (n b d : ℕ) (m : List ℕ) (r : Bool) : Type 0 where
  pub told : (cs : List ℕ) → MarksOf m cs → r ≡ every (λ x. in_volume n x && not (has eqb x cs)) (interval b d)
  pub below : r ≡ true → 0 < d → b + d ≤ n

pub record RowRight (s : List ℕ) (n b d : ℕ) (m : List ℕ) (r : Bool) : Type 0 where
  pub told : (cs : List ℕ) → MarksOf m cs → r ≡ row_right s n cs b d
  pub below : r ≡ true → (1 ≤ d) × (d ≤ max_directory) × (b + d ≤ n)

-- the choices after the first, of a directory whose run is given
unfoldable pub otherwise : List ℕ → ℕ → List ℕ → ℕ → ℕ → Bool → List ℕ → List ℕ
otherwise s n cs b d sure r = cond (row_right s n cs b d) (interval b d) (cond (sure && within 1 (length r) d) (take d r) r)

pub record ChoseOther (s : List ℕ) (n b d : ℕ) (sure : Bool) (m : List ℕ) (r : ℕ) (blocks : List ℕ) : Type 0 where
  pub most : r ≤ max_directory
  pub size : length blocks ≡ max_directory
  pub below : (i : ℕ) → i < r → get_or blocks i 0 < n
  pub is : (cs : List ℕ) → MarksOf m cs → otherwise s n cs b d sure (run s n cs max_directory b) ≡ take r blocks

-- the first r of some numbers are the blocks of a directory that begins at b and is said to have d
pub record Chose (s : List ℕ) (n b d : ℕ) (sure : Bool) (m : List ℕ) (r : ℕ) (blocks : List ℕ) : Type 0 where
  pub most : r ≤ max_directory
  pub size : length blocks ≡ max_directory
  pub below : (i : ℕ) → i < r → get_or blocks i 0 < n
  pub is : (cs : List ℕ) → MarksOf m cs → directory_blocks s n cs b d sure ≡ take r blocks

-- the blocks ds are marked too
pub record MarkedToo (ds m m' : List ℕ) : Type 0 where
  pub marks : (cs : List ℕ) → MarksOf m cs → MarksOf m' (cs ++ ds)

-- the blocks ds have the values of a chain of them
unfoldable pub links_from : List ℕ → ℕ → List ℕ → Bool
links_from s b [] = eqb (next s b) 1
links_from s b (c ∷ ds) = eqb (next s b) c && links_from s c ds

unfoldable pub links_right : List ℕ → List ℕ → Bool
links_right s [] = true
links_right s (b ∷ ds) = links_from s b ds

-- the self entry of block b is right
unfoldable pub self_right : List ℕ → ℕ → ℕ → ℕ → List ℕ → Bool
self_right s b parent d field =
    let e = 512 * b in
    eqb (type_of s e) 1 && (eqb (self_of s e) b && (eqb (parent_of s e) parent && (eqb (blocks_of s e) d && same (part s (e + 48) 80) field)))

-- the blocks of a directory, each of them once
pub record Own (n : ℕ) (ds : List ℕ) : Type 0 where
  pub some : 1 ≤ length ds
  pub few : length ds ≤ max_directory
  pub inside : every (in_volume n) ds ≡ true
  pub once : distinct eqb ds ≡ true
  pub below : (i : ℕ) → i < length ds → get_or ds i 0 < n

-- a directory put right
pub record PutDone (s ds : List ℕ) (parent : ℕ) (field m codes s' m' codes' : List ℕ) : Type 0 where
  pub reached : (cs : List ℕ) → MarksOf m cs → Reached (put_directory (st s cs codes) ds parent field) s' m' codes'

-- the entry at e has the size ds, and ds is put right as its directory
abbrev pub readied : ℕ → State → ℕ → List ℕ → State
readied parent p e ds = put_directory (sized p e (length ds)) ds parent (part p.image (e + 48) 80)

pub record Adopted (s : List ℕ) (parent e : ℕ) (ds m codes s' m' codes' : List ℕ) : Type 0 where
  pub reached : (cs : List ℕ) → MarksOf m cs → Reached (readied parent (st s cs codes) e ds) s' m' codes'

-- an entry is free or has another name
unfoldable pub other_than : List ℕ → ℕ → List ℕ → Bool
other_than s e name = is_free (type_of s e) || not (same (name_of s e) name)

-- a file that meets stage 5
pub record FileDone (s : List ℕ) (e : ℕ) (m codes s' m' codes' : List ℕ) : Type 0 where
  pub reached : (cs : List ℕ) → MarksOf m cs → Reached (take_file_at (st s cs codes) e) s' m' codes'

-- slot k of the directory ds: done, or (r) the entry of a child directory that is not touched yet
pub record EntryTaken (s ds : List ℕ) (k : ℕ) (m codes : List ℕ) (r : Bool) (s' m' codes' : List ℕ) : Type 0 where
  pub done : r ≡ false → (child : State → ℕ → State) (cs : List ℕ) → MarksOf m cs → Reached (take_slot child ds (st s cs codes) k) s' m' codes'
  pub same-image : r ≡ true → s' ≡ s
  pub same-marks : r ≡ true → m' ≡ m
  pub same_codes : r ≡ true → codes' ≡ codes
  pub left : r ≡ true → (child : State → ℕ → State) (cs : List ℕ) → take_slot child ds (st s cs codes) k ≡ child (st s cs codes) (slot_at ds k)

-- the blocks of the directory of the entry at e, by the marks of cs
abbrev pub child_blocks : List ℕ → ℕ → List ℕ → ℕ → List ℕ
child_blocks s n cs e = let b = first_block s e in directory_blocks s n cs b (blocks_of s e) (eqb (blocks_of s (512 * b)) (blocks_of s e))

-- the first r of some numbers, with a witness; none: there is no such directory
pub record Found (s : List ℕ) (n e : ℕ) (m : List ℕ) (r : ℕ) (blocks : List ℕ) : Type 0 where
  pub most : r ≤ max_directory
  pub size : length blocks ≡ max_directory
  pub none : r ≡ 0 → (cs : List ℕ) → MarksOf m cs → ltb 0 (length (child_blocks s n cs e)) && witness s e (child_blocks s n cs e) ≡ false
  pub own : 0 < r → Own n (take r blocks)
  pub is : 0 < r → (cs : List ℕ) → MarksOf m cs → child_blocks s n cs e ≡ take r blocks
  pub witnessed : 0 < r → witness s e (take r blocks) ≡ true
  pub first : 0 < r → first_block s e ≡ get_or (take r blocks) 0 0

-- the child directory of the entry at e is put right, or (r is 0) the entry is zeroed
pub record Entered (s : List ℕ) (n parent e : ℕ) (m codes : List ℕ) (r : ℕ) (blocks s' m' codes' : List ℕ) : Type 0 where
  pub most : r ≤ max_directory
  pub own : 0 < r → Own n (take r blocks)
  pub none : r ≡ 0 → (left : ℕ) (cs : List ℕ) → MarksOf m cs → Reached (take_child (suc left) parent (st s cs codes) e) s' m' codes'
  pub some : 0 < r → (left : ℕ) (cs : List ℕ) → MarksOf m cs → (cs' : List ℕ) × MarksOf m' cs' × (take_child (suc left) parent (st s cs codes) e ≡ take_slots (take_child left (get_or (take r blocks) 0 0)) (take r blocks) (st s' cs' codes') (slots (take r blocks)))

-- slot k of ds, and all slots from k on, with all below them
pub record SlotDone (s ds : List ℕ) (k left : ℕ) (m codes s' m' codes' : List ℕ) : Type 0 where
  pub reached : (cs : List ℕ) → MarksOf m cs → Reached (take_slot (take_child left (get_or ds 0 0)) ds (st s cs codes) k) s' m' codes'

pub record SlotsDone (s ds : List ℕ) (left : ℕ) (m codes s' m' codes' : List ℕ) : Type 0 where
  pub reached : (cs : List ℕ) → MarksOf m cs → Reached (take_slots (take_child left (get_or ds 0 0)) ds (st s cs codes) (slots ds)) s' m' codes'

-- THE REST. The codes of the blocks that are freed
pub record FreedNoted (s m : List ℕ) (a k : ℕ) (codes codes' : List ℕ) : Type 0 where
  pub is : (cs : List ℕ) → MarksOf m cs → codes' ≡ freed_codes s cs codes (interval a k)

-- an entry, and some, that nobody needs to free
pub record IsFree (s m : List ℕ) (b : ℕ) (r : Bool) : Type 0 where
  pub told : (cs : List ℕ) → MarksOf m cs → r ≡ has eqb b cs || eqb (next s b) 0

pub record AllFree (s m : List ℕ) (a k : ℕ) (r : Bool) : Type 0 where
  pub told : (cs : List ℕ) → MarksOf m cs → r ≡ every (λ b. has eqb b cs || eqb (next s b) 0) (interval a k)

unfoldable pub signed : List ℕ → List ℕ
signed s = cond (stage2 s) s (splice s 0 signature)

pub record BlocksPut (s m codes : List ℕ) (r : Bool) (s' codes' : List ℕ) : Type 0 where
  pub right : r ≡ same s (ones_put s)
  pub image : (cs : List ℕ) → MarksOf m cs → s' ≡ blocks_freed cs (ones_put s)
  pub codes-are : (cs : List ℕ) → MarksOf m cs → codes' ≡ freed_codes (ones_put s) cs codes (interval (root_block (block_count s)) (block_count s - root_block (block_count s)))

pub record PaddingPut (s m : List ℕ) (r : Bool) (s' : List ℕ) : Type 0 where
  pub right : (cs : List ℕ) → MarksOf m cs → r ≡ same s (padding_put cs s)
  pub image : (cs : List ℕ) → MarksOf m cs → s' ≡ padding_put cs s

pub record RestPut (s m codes s' codes' : List ℕ) : Type 0 where
  pub image : (cs : List ℕ) → MarksOf m cs → s' ≡ (rest (st s cs codes)).image
  pub codes-are : (cs : List ℕ) → MarksOf m cs → codes' ≡ (rest (st s cs codes)).codes

-- THE ROOT AND ALL BELOW IT
pub record RootDone (s m codes s' m' codes' : List ℕ) : Type 0 where
  pub reached : Reached (tree_done s) s' m' codes'

-- LOST FOLDERS: block b begins as one, but for the names and the room in the root
pub record LooksLost (s : List ℕ) (r b : ℕ) (m : List ℕ) (x : Bool) : Type 0 where
  pub told : (cs : List ℕ) → MarksOf m cs → x ≡ not (has eqb b cs) && (not (eqb (next s b) 0) && (eqb (type_of s (512 * b)) 1 && (eqb (self_of s (512 * b)) b && (eqb (parent_of s (512 * b)) r && name_ok s (512 * b)))))

unfoldable pub unnamed : List ℕ → ℕ → ℕ → Bool
unnamed s r e = let ds = directory s r in every (λ j. other_than s (slot_at ds j) (name_of s e)) (slots ds)

-- the folder at block b, hung in the entry at e
unfoldable pub hung_state : ℕ → State → ℕ → ℕ → State
hung_state r p e b =
    let s = p.image in
    let ds = directory_blocks s (block_count s) p.claimed b (blocks_of s (512 * b)) false in
    let q = adopt (take_child (max_levels - 1) b) r (st (hung_at s e b) p.claimed p.codes) e ds in
    st q.image q.claimed (coded q.codes e 6)

pub record HungIn (s : List ℕ) (r e b : ℕ) (m codes s' m' codes' : List ℕ) : Type 0 where
  pub reached : (cs : List ℕ) → MarksOf m cs → Reached (hung_state r (st s cs codes) e b) s' m' codes'

pub record HangDone (s : List ℕ) (r b : ℕ) (m codes s' m' codes' : List ℕ) : Type 0 where
  pub reached : (cs : List ℕ) → MarksOf m cs → Reached (hang r (st s cs codes) b) s' m' codes'

-- image, marks and codes after the root's slots, of some given image, and after the lost folders
pub record TreeTaken (s m codes : List ℕ) : Type 0 where
  pub given : List ℕ
  pub right : stage1 given ≡ true
  pub reached : Reached (tree_done given) s m codes

pub record FoldersDone (s m codes s' m' codes' : List ℕ) : Type 0 where
  pub reached : (o : List ℕ) → stage1 o ≡ true → Reached (tree_done o) s m codes → Reached (folders_hung o) s' m' codes'

-- THE COUNTS. Which slots of a block were not free, a bit for each; of all blocks; and of one slot
abbrev pub one : Bool → ℕ
one t = cond t 1 0

unfoldable pub used_bits : List ℕ → ℕ → ℕ
used_bits s b =
    let e = 512 * b in
    one (not (is_free (type_of s e))) + 2 * one (not (is_free (type_of s (e + 128)))) + 4 * one (not (is_free (type_of s (e + 256)))) + 8 * one (not (is_free (type_of s (e + 384))))

pub record UsedOf (s : List ℕ) (n : ℕ) (used : List ℕ) : Type 0 where
  pub at : (b : ℕ) → b < n → get_or used b 0 ≡ used_bits s b

unfoldable pub was_used : ℕ → ℕ → Bool
was_used x j = cond (eqb j 0) (eqb (x % 2) 1) (cond (eqb j 1) (eqb (x / 2 % 2) 1) (cond (eqb j 2) (eqb (x / 4 % 2) 1) (eqb (x / 8 % 2) 1)))

unfoldable pub hung_here : List ℕ → List ℕ → ℕ → Bool
hung_here codes used i = eqb (get_or codes i 0) 6 && was_used (get_or used (i / 4) 0) (i % 4)

-- AN ACCEPTED SALVAGE
pub record Answered (s : List ℕ) (zeroed freed : ℕ) (s' codes : List ℕ) : Type 0 where
  pub image : s' ≡ (salvaged s).image
  pub codes-are : codes ≡ (salvaged s).codes
  pub zeroed-are : zeroed ≡ number (λ c. eqb c 1 || eqb c 2) (salvaged s).codes + hung_over s (salvaged s).codes
  pub freed-are : freed ≡ number (λ c. eqb c 5) (salvaged s).codes
