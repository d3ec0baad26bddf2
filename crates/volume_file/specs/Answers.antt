-- What the calls on a volume file answer: a refusal, 0 if there is none, and numbers, which are 0 where it is not. Places are offsets and lengths in bytes.
use Rattle.std.specs.Prelude.{ℕ, ◌+◌, ◌*◌, ◌&&◌, cond, Option, Some, None, List, ltb, length}
use Rattle.layout.specs.Refusals.{accept}
use Rattle.layout.specs.Bytes.{block}
use Rattle.layout.specs.Looks.{Extent}
use Rattle.volume_file.specs.Format.{image_sectors_of, journal_sectors_of, own_sectors_of, home_sectors, home_at, number_sectors, count_at, saved_at, address, waits, count, file_refusal}
use Rattle.volume_file.specs.Save.{home_with, changes, prepare_refusal}

-- THE PARTS of a file: whether its log waits (1) or not (0), and where image, journal and the program's own bytes stand
pub record PartsAnswer : Type 0 where
  pub number : ℕ
  pub waits : ℕ
  pub image_start : ℕ
  pub image_length : ℕ
  pub journal_start : ℕ
  pub journal_length : ℕ
  pub own_start : ℕ
  pub own_length : ℕ

unfoldable pub parts_of : List ℕ → PartsAnswer
parts_of d =
    let n = image_sectors_of (block d 0) in
    let m = journal_sectors_of (block d 0) in
    let x = own_sectors_of (block d 0) in
    let given : PartsAnswer = record {
      number = 0;
      waits = cond (waits d) 1 0;
      image_start = 1024;
      image_length = 512 * n;
      journal_start = 1024 + 512 * n;
      journal_length = 512 * m;
      own_start = 1024 + 512 * n + 512 * m;
      own_length = 512 * x;
    } in
    let refused : PartsAnswer = record {
      number = file_refusal d;
      waits = 0;
      image_start = 0;
      image_length = 0;
      journal_start = 0;
      journal_length = 0;
      own_start = 0;
      own_length = 0;
    } in
    accept (file_refusal d) given refused

-- STEP 1: how many sectors are in the log, and the two places that it writes: the numbers, and the sectors
pub record PrepareAnswer : Type 0 where
  pub number : ℕ
  pub sectors : ℕ
  pub numbers_start : ℕ
  pub numbers_length : ℕ
  pub sectors_start : ℕ
  pub sectors_length : ℕ

abbrev pub prepare_answered : (number sectors numbers_start numbers_length sectors_start sectors_length : ℕ) → PrepareAnswer
prepare_answered number k a b e f = record {
  number = number;
  sectors = k;
  numbers_start = a;
  numbers_length = b;
  sectors_start = e;
  sectors_length = f;
}

-- of a log of k sectors, in a file with h home sectors
unfoldable pub log_places : ℕ → ℕ → PrepareAnswer
log_places h k = prepare_answered 0 k (count_at h) (512 * number_sectors k) (512 * saved_at h 0) (512 * k)

unfoldable pub prepare_answer : (d image journal own : List ℕ) → PrepareAnswer
prepare_answer d image journal own =
    let refusal = prepare_refusal d image journal own in
    accept refusal (log_places (home_sectors d) (length (changes d (home_with image journal own)))) (prepare_answered refusal 0 0 0 0 0)

-- RECOVERY: whether the log waited (1) or not (0), and how many sectors step 3 wrote home
pub record RecoverAnswer : Type 0 where
  pub number : ℕ
  pub waited : ℕ
  pub sectors : ℕ

abbrev pub recover_answered : ℕ → ℕ → ℕ → RecoverAnswer
recover_answered number waited k = record { number = number; waited = waited; sectors = k }

unfoldable pub recover_answer : List ℕ → RecoverAnswer
recover_answer d =
    accept (file_refusal d) (cond (waits d) (recover_answered 0 1 (count d)) (recover_answered 0 0 0)) (recover_answered (file_refusal d) 0 0)

-- STEP 3 writes one place for each sector of the log: where the j-th one has its home; of length 0 where there is none
unfoldable pub home_extent : List ℕ → ℕ → Extent
home_extent d j =
    let h = home_sectors d in
    let a = address h d j in
    let found : Extent = record { start = 512 * home_at a; size = 512 } in
    let none : Extent = record { start = 0; size = 0 } in
    accept (file_refusal d) (cond (ltb j h && ltb a h) found none) none

-- of the home sector that the log names, if there is one
abbrev pub home_told : Option ℕ → Extent
home_told None = record { start = 0; size = 0 }
home_told (Some a) = record { start = 512 * home_at a; size = 512 }
