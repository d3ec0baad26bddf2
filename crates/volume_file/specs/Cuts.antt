-- WHAT A POWER CUT LEAVES (VOLUME-FILE.md, 3). Between two flushes some sectors are being written, in any order. After a cut each of these may hold anything at
-- all: what it held before, what was written, a mixture of both, or neither. No sector is asked to be written whole. The sectors that are not being written stay.
use Rattle.std.specs.Prelude.{ℕ, ◌+◌, ◌≤◌, ◌<◌, ◌≡◌, true, false, List, length}
use Rattle.layout.specs.Bytes.{block}
use Rattle.volume_file.specs.Format.{home_sectors, home_at, home_of, waits, count, address, file_refusal}
use Rattle.volume_file.specs.Save.{prepared, committed, replayed}

pub record Crash (Written : ℕ → Type 0) (d d' : List ℕ) : Type 0 where
  pub size : length d' ≡ length d
  pub kept : (s : ℕ) → (Written s → ⊥) → block d' s ≡ block d s

-- the sectors that the steps write: any of the log; the commit sector; the home sectors that the log names
abbrev pub LogSector : List ℕ → ℕ → Type 0
LogSector d s = 2 + home_sectors d ≤ s

abbrev pub CommitSector : ℕ → Type 0
CommitSector s = s ≡ 1

abbrev pub NamedSector : List ℕ → ℕ → Type 0
NamedSector d s = (j : ℕ) × (j < count d) × (s ≡ home_at (address (home_sectors d) d j))

-- what a cut of recovery leaves, and of recoveries that are each cut
pub data RecoveryCut (d d' : List ℕ) : Type 0 where
  replaying : Crash (NamedSector d) d d' → RecoveryCut d d'
  settling : waits d ≡ true → Crash CommitSector (replayed d) d' → RecoveryCut d d'

pub data RecoveryCuts : List ℕ → List ℕ → Type 0 where
  uncut : (d : List ℕ) → RecoveryCuts d d
  cut_again : {d e d' : List ℕ} → RecoveryCut d e → RecoveryCuts e d' → RecoveryCuts d d'

-- What a cut of a save leaves: while the log is written; while the commit sector is; and after the second flush, where it goes on as recovery does.
pub data Cut (d new d' : List ℕ) : Type 0 where
  logging : Crash (LogSector d) d d' → Cut d new d'
  committing : Crash CommitSector (prepared d new) d' → Cut d new d'
  finishing : RecoveryCut (committed d new) d' → Cut d new d'

-- a volume file whose log does not wait, and a new home that fits it
pub record Quiet (d : List ℕ) : Type 0 where
  pub ok : file_refusal d ≡ 0
  pub none : waits d ≡ false

abbrev pub Fits : List ℕ → List ℕ → Type 0
Fits d new = length new ≡ length (home_of d)
