-- What the contracts of private functions say. The blocks claimed are known by a mark for each block; only which blocks are marked counts, so what a
-- function does is said for every list of blocks that the marks are those of.
use Rattle.std.specs.Prelude.{ℕ, ◌+◌, ◌≤◌, ◌<◌, List, [], ◌∷◌, ◌++◌, Bool, true, false, not, ◌&&◌, cond, ◌≡◌, eqb, length, get_or, set}
use Rattle.layout.specs.Lists.{interval, every, has}
use Rattle.layout.specs.Bytes.{part, splice}
use Rattle.layout.specs.Geometry.{in_volume}
use Rattle.layout.specs.Table.{chain, next}
use Rattle.layout.specs.Directory.{slot_at, type_of, is_directory, root_of, root, file_blocks}
use Rattle.layout.specs.Walks.Names.{Noted, SlotIn, fingerprint}
use Rattle.layout.specs.Walks.Shapes.{Room}
use Rattle.layout.specs.Walks.Slots.{entry_at}
use Rattle.salvage.specs.Salvage.{Progress, claimable, take_file, take_slot, free_at, in_turn, table_put, salvage_refusal, slots_done}

-- the blocks cs are marked in m, and no others
pub record MarksOf (m cs : List ℕ) : Type 0 where
  pub at : (x : ℕ) → eqb (get_or m x 0) 0 ≡ not (has eqb x cs)

-- a block that can be claimed
pub record IsGood (n : ℕ) (m : List ℕ) (b : ℕ) (r : Bool) : Type 0 where
  pub told : (cs : List ℕ) → MarksOf m cs → r ≡ in_volume n b && not (has eqb b cs)
  pub below : r ≡ true → b < n

-- the marks of some blocks taken back
unfoldable pub unmarked : List ℕ → List ℕ → List ℕ
unmarked m [] = m
unmarked m (b ∷ bs) = unmarked (set m b 0) bs

-- a walk along the k blocks from `first` on that marked r of them; where it stopped before the end, the chain cannot be claimed
pub record Walked (v : ℕ → ℕ) (n first k : ℕ) (m : List ℕ) (r : ℕ) (m' : List ℕ) : Type 0 where
  pub most : r ≤ k
  pub below : (i : ℕ) → i < r → get_or (chain v first r) i 0 < n
  pub marks : (cs : List ℕ) → MarksOf m cs → MarksOf m' (cs ++ chain v first r)
  pub good : (cs : List ℕ) → MarksOf m cs → claimable n cs (chain v first r) ≡ true
  pub stuck : r < k → (cs : List ℕ) → MarksOf m cs → claimable n cs (chain v first k) ≡ false

-- the k blocks from `first` on, claimed if they can be
pub record Claimed (v : ℕ → ℕ) (n first k : ℕ) (m : List ℕ) (r : Bool) (m' : List ℕ) : Type 0 where
  pub told : (cs : List ℕ) → MarksOf m cs → r ≡ claimable n cs (chain v first k)
  pub marks : (cs : List ℕ) → MarksOf m cs → MarksOf m' (cond r (cs ++ chain v first k) cs)
  pub below : r ≡ true → (i : ℕ) → i < k → get_or (chain v first k) i 0 < n

abbrev pub progress : List ℕ → List ℕ → List ℕ → Progress
progress s cs codes = record { image = s; claimed = cs; codes = codes }

-- image and marks are those of q, which has one code more
pub record Reached (codes : List ℕ) (q : Progress) (code : ℕ) (s m : List ℕ) : Type 0 where
  pub image : s ≡ q.image
  pub marks : MarksOf m q.claimed
  pub coded : q.codes ≡ codes ++ (code ∷ [])

-- the file at e, whose own chain is claimed
pub record FileTaken (s m : List ℕ) (e code : ℕ) (s' m' : List ℕ) : Type 0 where
  pub reached : (cs codes : List ℕ) → MarksOf m (cs ++ file_blocks s e) → Reached codes (take_file (progress s cs codes) e) code s' m'

-- slot k, in block b: the slots before it are right, ps has their fingerprints and its own, pl their blocks
pub record SlotGiven (s : List ℕ) (first d : ℕ) (ps pl : List ℕ) (b k : ℕ) : Type 0 where
  pub noted : Noted s (chain (next s) first d) ps pl k
  pub print : get_or ps k 0 ≡ fingerprint (part s (entry_at b k + 48) 80)
  pub slot : SlotIn s (chain (next s) first d) b k

pub record SlotTaken (s m ds : List ℕ) (k code : ℕ) (s' m' : List ℕ) : Type 0 where
  pub reached : (cs codes : List ℕ) → MarksOf m cs → Reached codes (take_slot ds (progress s cs codes) k) code s' m'

-- no slot from k to k + j − 1 has the type of a directory
unfoldable pub no_directory : List ℕ → List ℕ → ℕ → ℕ → Bool
no_directory s ds k j = every (λ x. not (is_directory (type_of s (slot_at ds x)))) (interval k j)

-- the refusal, and where it is 0 the root's blocks are marked
pub record Weighed (s : List ℕ) (size r : ℕ) (m : List ℕ) : Type 0 where
  pub number : r ≡ salvage_refusal s size
  pub marks : r ≡ 0 → MarksOf m (root s)

-- an accepted salvage, before the first slot; slot 0 has its code
pub record RootGiven (s : List ℕ) (t n first d : ℕ) (m report : List ℕ) : Type 0 where
  pub room : Room s t n m
  pub weighed : Weighed s (length report) 0 m
  pub begins : first ≡ root_of s
  pub size : d ≡ length (root s)
  pub self : get_or report 0 0 ≡ 0

-- after the last
pub record RootTaken (s report s' m' report' : List ℕ) : Type 0 where
  pub image : s' ≡ (slots_done s).image
  pub marks : MarksOf m' (slots_done s).claimed
  pub codes : report' ≡ splice report 0 (slots_done s).codes

-- the table's entries that are not claimed
pub record EntryFreed (s m : List ℕ) (b : ℕ) (s' : List ℕ) : Type 0 where
  pub freed : (cs : List ℕ) → MarksOf m cs → s' ≡ free_at cs s b

pub record EntriesFreed (s m : List ℕ) (a k : ℕ) (s' : List ℕ) : Type 0 where
  pub freed : (cs : List ℕ) → MarksOf m cs → s' ≡ in_turn (free_at cs) s (interval a k)

pub record TablePut (s m s' : List ℕ) : Type 0 where
  pub put : (cs : List ℕ) → MarksOf m cs → s' ≡ table_put s cs
