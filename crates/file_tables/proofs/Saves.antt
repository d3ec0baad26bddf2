-- The volume file (VOLUME-FILE.md): begin, a save, and recovery after each of its steps, on the smallest file with a sector of the program's own, worked out by
-- hand, and computed from the definitions.
use Prim.Native.Nat.{ℕ, ◌*◌}
use mathlib.Core.List.{List, [], ◌∷◌, ◌++◌, map}
use lib.ListN.{length, replicate, get_or, take}
use Rattle.layout.specs.Bytes.{part, splice}
use Rattle.layout.specs.Lists.{interval}
use Rattle.layout.specs.Looks.{Extent}
use Rattle.layout.specs.Walks.Entries.{all_zero}
use Rattle.samples.proofs.Rules.{rules}
use Rattle.samples.proofs.Samples.{AsExpected}
use Rattle.volume_file.specs.Format.{header_ok, home_sectors, file_size, home_of, image_of, journal_of, own_of, waits, log_count, count, address, rising, head_refusal, log_refusal, file_refusal}
use Rattle.volume_file.specs.Begin.{header_sector, begun, begin_refusal, after_begin}
use Rattle.volume_file.specs.Save.{flagged, differs, changes, filled, prepared, lengths_refusal, prepare_refusal, after_prepare, commit_refusal, after_commit, restored, replayed, recovered, after_recover}
use Rattle.volume_file.specs.Answers.{PartsAnswer, parts_of, PrepareAnswer, log_places, prepare_answer, RecoverAnswer, recover_answer, home_extent}

-- opens the definitions of a volume file, as rules does those below it
unfoldable file_rules : Unit {0}
unfolding header_ok home_sectors file_size home_of image_of journal_of own_of waits log_count count address rising head_refusal log_refusal file_refusal header_sector begun begin_refusal
    after_begin flagged differs changes filled prepared lengths_refusal prepare_refusal after_prepare commit_refusal after_commit restored replayed recovered after_recover
    parts_of log_places prepare_answer recover_answer home_extent all_zero
file_rules = tt

-- a sector of one byte
full : ℕ → List ℕ
full b = replicate 512 b

-- n = 3, m = 1, x = 1: h = 5, 13 sectors, 6,656 bytes. Home sectors 0 to 4 hold the bytes 10 to 14; the rest was 7.
memory : List ℕ
memory = replicate 1024 7 ++ (full 10 ++ (full 11 ++ (full 12 ++ (full 13 ++ (full 14 ++ replicate 3072 7)))))

file : List ℕ
file = after_begin memory 3 1 1

-- the parts that are saved: sector 1 of the image and the program's own are new
image : List ℕ
image = full 10 ++ (full 21 ++ full 12)

journal : List ℕ
journal = full 13

own : List ℕ
own = full 24

-- the file after steps 1 and 2, and after 3 and 4
one : List ℕ
one = after_prepare file image journal own

two : List ℕ
two = after_commit one

four : List ℕ
four = after_recover two

-- the first byte of each sector
firsts : List ℕ → List ℕ
firsts d = map (λ (s : ℕ). get_or d (512 * s) 0) (interval 0 13)

told : RecoverAnswer → List ℕ
told a = a.number ∷ a.waited ∷ a.sectors ∷ []

places : PrepareAnswer → List ℕ
places a = a.number ∷ a.sectors ∷ a.numbers_start ∷ a.numbers_length ∷ a.sectors_start ∷ a.sectors_length ∷ []

extents : PartsAnswer → List ℕ
extents a =
    a.number ∷ a.waits ∷ a.image_start ∷ a.image_length ∷ a.journal_start ∷ a.journal_length ∷ a.own_start ∷ a.own_length ∷ []

place : Extent → List ℕ
place x = x.start ∷ x.size ∷ []

-- Begin: the header is "BulgeVol", 0 1 0 0, 3, 1, 1 and zeros; nothing else changes but the commit sector. The parts stand at 1,024, 2,560 and 3,072.
pub beginning : List (List ℕ × List ℕ)
beginning =
    (take 25 file, 66 ∷ 117 ∷ 108 ∷ 103 ∷ 101 ∷ 86 ∷ 111 ∷ 108 ∷ 0 ∷ 1 ∷ 0 ∷ 0 ∷ 0 ∷ 0 ∷ 0 ∷ 3 ∷ 0 ∷ 0 ∷ 0 ∷ 1 ∷ 0 ∷ 0 ∷ 0 ∷ 1 ∷ 0 ∷ [])
    ∷ (firsts file, 66 ∷ 0 ∷ 10 ∷ 11 ∷ 12 ∷ 13 ∷ 14 ∷ 7 ∷ 7 ∷ 7 ∷ 7 ∷ 7 ∷ 7 ∷ [])
    ∷ (length file ∷ file_size 3 1 1 ∷ file_size 65536 131072 128 ∷ file_size 2 1 0 ∷ file_size 3 0 0 ∷ file_size 3 1 129 ∷ [], 6656 ∷ 6656 ∷ 202246144 ∷ 0 ∷ 0 ∷ 0 ∷ [])
    ∷ (extents (parts_of file), 0 ∷ 0 ∷ 1024 ∷ 1536 ∷ 2560 ∷ 512 ∷ 3072 ∷ 512 ∷ [])
    ∷ (begin_refusal memory 2 1 1 ∷ begin_refusal memory 3 1 0 ∷ file_refusal [] ∷ file_refusal memory ∷ file_refusal (take 6144 file) ∷ [], 2 ∷ 3 ∷ 1 ∷ 2 ∷ 3 ∷ [])
    ∷ []

-- Step 1: two sectors, 1 and 4; 512 bytes of numbers at 3,584 and 1,024 of sectors at 4,096. Step 2 sets the flag. Steps 3 and 4 write sectors 3 and 6 of the
-- file, and clear it.
pub saving : List (List ℕ × List ℕ)
saving =
    (places (prepare_answer file image journal own), 0 ∷ 2 ∷ 3584 ∷ 512 ∷ 4096 ∷ 1024 ∷ [])
    ∷ (part one 3584 13, 0 ∷ 0 ∷ 0 ∷ 2 ∷ 0 ∷ 0 ∷ 0 ∷ 1 ∷ 0 ∷ 0 ∷ 0 ∷ 4 ∷ 7 ∷ [])
    ∷ (firsts one, 66 ∷ 0 ∷ 10 ∷ 11 ∷ 12 ∷ 13 ∷ 14 ∷ 0 ∷ 21 ∷ 24 ∷ 7 ∷ 7 ∷ 7 ∷ [])
    ∷ (firsts two, 66 ∷ 1 ∷ 10 ∷ 11 ∷ 12 ∷ 13 ∷ 14 ∷ 0 ∷ 21 ∷ 24 ∷ 7 ∷ 7 ∷ 7 ∷ [])
    ∷ (told (recover_answer two), 0 ∷ 1 ∷ 2 ∷ [])
    ∷ (firsts four, 66 ∷ 0 ∷ 10 ∷ 21 ∷ 12 ∷ 13 ∷ 24 ∷ 0 ∷ 21 ∷ 24 ∷ 7 ∷ 7 ∷ 7 ∷ [])
    ∷ (place (home_extent four 0) ++ place (home_extent four 1) ++ place (home_extent four 5), 1536 ∷ 512 ∷ 3072 ∷ 512 ∷ 0 ∷ 0 ∷ [])
    ∷ []

-- Recovered after each step. After step 1, and with garbage in the whole log before it is complete, it is the old home. After step 2, with garbage in a home sector
-- that was being written, and with garbage behind the flag while step 4 writes it, it is the new one.
pub cuts : List (List ℕ × List ℕ)
cuts =
    (firsts (after_recover one), firsts one)
    ∷ (told (recover_answer one), 0 ∷ 0 ∷ 0 ∷ [])
    ∷ (part (firsts (after_recover (splice file 3584 (replicate 3072 99)))) 2 5, 10 ∷ 11 ∷ 12 ∷ 13 ∷ 14 ∷ [])
    ∷ (part (firsts (after_recover (splice two 3072 (full 99)))) 1 6, 0 ∷ 10 ∷ 21 ∷ 12 ∷ 13 ∷ 24 ∷ [])
    ∷ (part (firsts (after_recover (splice four 512 (1 ∷ replicate 511 99)))) 1 6, 0 ∷ 10 ∷ 21 ∷ 12 ∷ 13 ∷ 24 ∷ [])
    ∷ (part (firsts (after_recover (splice four 512 (full 99)))) 1 6, 99 ∷ 10 ∷ 21 ∷ 12 ∷ 13 ∷ 24 ∷ [])
    ∷ []

-- What is refused: a log that waits, 6; lengths, 7 to 9; more sectors than the home has, 4; addresses that do not rise, 5. Saved again, nothing differs.
pub refused : List (List ℕ × List ℕ)
refused =
    (prepare_refusal two image journal own ∷ commit_refusal two ∷ [], 6 ∷ 6 ∷ [])
    ∷ (prepare_refusal file (full 1) journal own ∷ prepare_refusal file image [] own ∷ prepare_refusal file image journal [] ∷ [], 7 ∷ 8 ∷ 9 ∷ [])
    ∷ (file_refusal (splice two 3587 (6 ∷ [])) ∷ file_refusal (splice two 3591 (4 ∷ [])) ∷ file_refusal (splice two 3595 (5 ∷ [])) ∷ [], 4 ∷ 5 ∷ 5 ∷ [])
    ∷ (commit_refusal (splice one 3587 (6 ∷ [])) ∷ commit_refusal (splice one 3591 (4 ∷ [])) ∷ commit_refusal one ∷ [], 4 ∷ 5 ∷ 0 ∷ [])
    ∷ (places (prepare_answer four image journal own), 0 ∷ 0 ∷ 3584 ∷ 512 ∷ 4096 ∷ 0 ∷ [])
    ∷ []

beginning-hold : AsExpected beginning
unfolding beginning memory file firsts extents full file_rules rules
beginning-hold = tt

saving-hold : AsExpected saving
unfolding saving memory file image journal own one two four firsts told places place full file_rules rules
saving-hold = tt

cuts-hold : AsExpected cuts
unfolding cuts memory file image journal own one two four firsts told full file_rules rules
cuts-hold = tt

refused-hold : AsExpected refused
unfolding refused memory file image journal own one two four places full file_rules rules
refused-hold = tt

pub file-cases : AsExpected beginning × AsExpected saving × AsExpected cuts × AsExpected refused
file-cases = (beginning-hold, saving-hold, cuts-hold, refused-hold)
