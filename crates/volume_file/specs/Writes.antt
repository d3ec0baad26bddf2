-- WHAT A PROGRAM WRITES: the bytes of some places, from the file in memory to the one on the disk.
use Rattle.std.specs.Prelude.{ℕ, List, [], ◌∷◌, map}
use Rattle.layout.specs.Bytes.{part, splice}
use Rattle.layout.specs.Lists.{interval}
use Rattle.layout.specs.Looks.{Extent}
use Rattle.volume_file.specs.Answers.{PrepareAnswer, home_extent}

unfoldable pub written : (disk memory : List ℕ) → List Extent → List ℕ
written disk memory [] = disk
written disk memory (x ∷ xs) = written (splice disk x.start (part memory x.start x.size)) memory xs

-- the places of the steps: the two that `prepare` answers; the commit sector; and one for each of the k sectors of the log
abbrev pub log_places_of : PrepareAnswer → List Extent
log_places_of a =
    record { start = a.numbers_start; size = a.numbers_length } ∷ record { start = a.sectors_start; size = a.sectors_length } ∷ []

abbrev pub commit_place : List Extent
commit_place = record { start = 512; size = 512 } ∷ []

abbrev pub home_places : List ℕ → ℕ → List Extent
home_places d k = map (home_extent d) (interval 0 k)
