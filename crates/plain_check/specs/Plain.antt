-- THE PLAIN CHECK (02, L12): "It keeps no record of owners: for each block it counts, by walking every chain afresh, how many chains hold it." Stages
-- 1 to 3 and 7, and the tests of one slot, are the first check's. The rest is here: one walk down the tree with a count of the directories met, and
-- two questions that are asked by walking the tree again from the root.
use Rattle.std.specs.Prelude.{ℕ, zero, suc, ◌+◌, ◌-◌, ◌*◌, List, [], ◌∷◌, Bool, true, false, not, ◌&&◌, ◌||◌, cond, length, eqb, leb, ltb, Result, Ok, Err}
use Rattle.layout.specs.Lists.{within, interval, every, same}
use Rattle.layout.specs.Refusals.{require, first_of}
use Rattle.layout.specs.Bytes.{part}
use Rattle.layout.specs.Limits.{max_directory, max_levels}
use Rattle.layout.specs.Geometry.{block_count, table_blocks, in_volume}
use Rattle.layout.specs.Table.{next, chain_ok}
use Rattle.layout.specs.Directory.{slot_at, slots, type_of, first_block, blocks_of, attribute_block_of, attribute_size_of, self_of, parent_of, is_file, is_directory, directory, root_of}
use Rattle.layout.specs.Check.{stage1, stage2, stage3, stage7, slot_ok, new_name}
use Rattle.plain_check.specs.declared.check.Stage.{Stage}
use Rattle.plain_check.specs.declared.check.Stage.TheVariants as stage

-- the number of a stage, and the number that an answer gives: of the stage that is not met, or 0
abbrev pub number_of : Stage → ℕ
number_of stage.Length = 1
number_of stage.Signature = 2
number_of stage.Numbers = 3
number_of stage.Directory = 4
number_of stage.Slot = 5
number_of stage.Chains = 6
number_of stage.Counts = 7

abbrev pub outcome : {T : Type 0} → Result T Stage → ℕ
outcome (Ok given) = 0
outcome (Err why) = number_of why

-- a test as a number, and the sum of what f gives for the elements of a list
abbrev pub one : Bool → ℕ
one true = 1
one false = 0

abbrev pub total : {A : Type 0} → (A → ℕ) → List A → ℕ
total f [] = 0
total f (x ∷ xs) = f x + total f xs

-- A CHAIN, walked for its k blocks from `first` and no further. Does it hold block b?
unfoldable pub holds : (ℕ → ℕ) → ℕ → ℕ → ℕ → Bool
holds v b first zero = false
holds v b first (suc k) = eqb b first || holds v b (v first) k

-- does the directory at block d hold block b?
unfoldable pub directory_holds : List ℕ → ℕ → ℕ → Bool
directory_holds s b d = holds (next s) b d (blocks_of s (512 * d))

-- STAGE 4 of the directory at block b, by itself, and of the child that the entry at e tells
unfoldable pub plain_directory_ok : List ℕ → ℕ → ℕ → ℕ → Bool
plain_directory_ok s n b parent =
    let e = 512 * b in
    in_volume n b && (eqb (type_of s e) 1 && (eqb (self_of s e) b && (eqb (parent_of s e) parent && (within 1 max_directory (blocks_of s e)
    && chain_ok (next s) n b (blocks_of s e)))))

unfoldable pub plain_child_ok : List ℕ → ℕ → ℕ → ℕ → Bool
plain_child_ok s n parent e =
    let b = first_block s e in
    plain_directory_ok s n b parent && (eqb (blocks_of s (512 * b)) (blocks_of s e) && same (part s (512 * b + 48) 80) (part s (e + 48) 80))

-- FIRST QUESTION: how many of the first c directories of the tree, in the order of the check, hold block b? The walk has a count: how many directories
-- are still to be met, and how many of those met hold the block. Where none is still to be met it goes no further down.
pub data Count : Type 0 where
  count : ℕ → ℕ → Count

abbrev pub held_of : Count → ℕ
held_of (count still held) = held

abbrev pub meet_one : Bool → (Count → Count) → Count → Count
meet_one here down (count zero held) = count zero held
meet_one here down (count (suc still) held) = down (count still (held + one here))

unfoldable pub meet_slots : (ℕ → Count → Count) → List ℕ → List ℕ → List ℕ → Count → Count
meet_slots child s ds [] c = c
meet_slots child s ds (k ∷ ks) c =
    let e = slot_at ds k in
    let down = child e c in
    meet_slots child s ds ks (cond (is_directory (type_of s e)) down c)

unfoldable pub meet : ℕ → List ℕ → ℕ → ℕ → Count → Count
meet zero s b d c = meet_one (directory_holds s b d) (λ c. c) c
meet (suc left) s b d c =
    let ds = directory s d in
    meet_one (directory_holds s b d) (meet_slots (λ e. meet left s b (first_block s e)) s ds (slots ds)) c

unfoldable pub held_before : List ℕ → ℕ → ℕ → ℕ
held_before s c b = held_of (meet max_levels s b (root_of s) (count c 0))

-- STAGES 4 AND 5, down the tree: "stage 4, the end slot, then each slot by stage 5 (of equal names the later fails), a child wholly before the next
-- slot; the first fault met gives 4 or 5." A tour is handed the number of directories met so far, and gives the fault, or 0 and their number then.
pub data Tour : Type 0 where
  toured : ℕ → ℕ → Tour

abbrev pub stop4 : Tour
stop4 = toured 4 0

abbrev pub stop5 : Tour
stop5 = toured 5 0

abbrev pub up_to : ℕ → Tour
up_to c = toured 0 c

-- the tour that an answer tells: the directories that were met, or the fault
abbrev pub tour_told : Result ℕ Stage → Tour
tour_told (Ok c) = up_to c
tour_told (Err why) = toured (number_of why) 0

abbrev pub asks : Bool → Tour → Tour → Tour
asks true stop rest = rest
asks false stop rest = stop

abbrev pub goes_on : Tour → (ℕ → Tour) → Tour
goes_on (toured zero c) rest = rest c
goes_on (toured (suc fault) c) rest = toured (suc fault) c

unfoldable pub tour_slots : (ℕ → ℕ → Tour) → List ℕ → List ℕ → List ℕ → ℕ → Tour
tour_slots child s ds [] c = up_to c
tour_slots child s ds (k ∷ ks) c =
    let e = slot_at ds k in
    let down = child e c in
    let rest = goes_on (cond (is_directory (type_of s e)) down (up_to c)) (tour_slots child s ds ks) in
    asks (slot_ok s e && new_name s ds k) stop5 rest

unfoldable pub tour_entries : (ℕ → ℕ → Tour) → List ℕ → List ℕ → ℕ → Tour
tour_entries child s ds c =
    let rest = tour_slots child s ds (slots ds) c in
    asks (eqb (type_of s (slot_at ds (4 * length ds - 1))) 0xFF) stop5 rest

-- a child: no ninth level, none of its blocks in a directory met before, and no more directories than blocks (which follows, and bounds the walks)
unfoldable pub tour_child : ℕ → List ℕ → ℕ → ℕ → ℕ → ℕ → Tour
tour_child zero s n parent e c = stop4
tour_child (suc left) s n parent e c =
    let b = first_block s e in
    let ds = directory s b in
    let rest = tour_entries (tour_child left s n b) s ds (suc c) in
    asks (plain_child_ok s n parent e && (ltb c n && every (λ x. eqb (held_before s c x) 0) ds)) stop4 rest

unfoldable pub tour_root : List ℕ → Tour
tour_root s =
    let n = block_count s in
    let b = root_of s in
    let rest = tour_entries (tour_child max_levels s n b) s (directory s b) 1 in
    asks (plain_directory_ok s n b b) stop4 rest

abbrev pub stop_of : Tour → ℕ
stop_of (toured fault c) = fault

-- SECOND QUESTION, asked of every chain of the tree: of the directories', the files' and their attributes'. `ask first k` is the number that it gives
-- for the chain of k blocks from `first`; the numbers are added up.
unfoldable pub ask_slot : (ℕ → ℕ → ℕ) → (ℕ → ℕ) → List ℕ → ℕ → ℕ
ask_slot ask child s e =
    let file = ask (first_block s e) (blocks_of s e) + ask (attribute_block_of s e) (attribute_size_of s e) in
    let down = child e in
    cond (is_file (type_of s e)) file 0 + cond (is_directory (type_of s e)) down 0

unfoldable pub ask_directory : (ℕ → ℕ → ℕ) → (ℕ → ℕ) → List ℕ → ℕ → ℕ
ask_directory ask child s d =
    let ds = directory s d in
    ask d (blocks_of s (512 * d)) + total (λ k. ask_slot ask child s (slot_at ds k)) (slots ds)

unfoldable pub ask_tree : (ℕ → ℕ → ℕ) → ℕ → List ℕ → ℕ → ℕ
ask_tree ask zero s d = ask_directory ask (λ e. 0) s d
ask_tree ask (suc left) s d = ask_directory ask (λ e. ask_tree ask left s (first_block s e)) s d

-- what is asked of a chain
pub data Question : Type 0 where
  Claims : Question
  Holds : ℕ → Question

-- how many blocks it claims, n + 1 more if it is wrong (not exactly k blocks, all above t and below n, the last with value 1),
-- or whether it holds block b
unfoldable pub answer : Question → List ℕ → ℕ → ℕ → ℕ → ℕ
answer Claims s n first k = k + (n + 1) * one (not (chain_ok (next s) n first k))
answer (Holds b) s n first k = one (holds (next s) b first k)

unfoldable pub claims : List ℕ → ℕ
claims s = ask_tree (answer Claims s (block_count s)) max_levels s (root_of s)

unfoldable pub holders : List ℕ → ℕ → ℕ
holders s b = ask_tree (answer (Holds b) s (block_count s)) max_levels s (root_of s)

-- STAGE 6: every chain is right, and together they claim at most n blocks (so that no walk along all of them takes more than n steps); entries 0 to t
-- are 1; every other block below n is held by one chain, or by none where its entry is 0; from n on the table's entries are 0
unfoldable pub counted : List ℕ → ℕ → Bool
counted s b = eqb (holders s b) (one (not (eqb (next s b) 0)))

unfoldable pub plain_stage6 : List ℕ → Bool
plain_stage6 s =
    let n = block_count s in
    let t = table_blocks n in
    leb (claims s) n && (every (λ b. eqb (next s b) 1) (interval 0 (t + 1))
    && (every (counted s) (interval (t + 1) (n - (t + 1))) && every (λ b. eqb (next s b) 0) (interval n (128 * t - n))))

unfoldable pub plain_check : List ℕ → ℕ
plain_check s =
    require (stage1 s) 1
    (require (stage2 s) 2
    (require (stage3 s) 3
    (first_of (stop_of (tour_root s))
    (require (plain_stage6 s) 6
    (require (stage7 s) 7 0)))))
