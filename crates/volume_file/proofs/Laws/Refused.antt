-- What is refused of what prepares a commit: by the file, by a log that waits, by the lengths; and where nothing is.
use Prim.Native.Nat.{ℕ, ◌*◌}
use mathlib.Core.List.{List}
use mathlib.Core.Bool.{true, false}
use mathlib.Core.Logic.{◌≢◌}
use mathlib.Core.Path.{◌≡◌, sym}
use lib.ListN.{length}
use borrow.Author.Tests.{ne_eqb, eq-eqb}
use Rattle.layout.specs.Bytes.{block}
use Rattle.layout.proofs.Laws.Tests.{first_of-refused}
use Rattle.volume_file.specs.Format.{image_sectors_of, journal_sectors_of, own_sectors_of, waits, file_refusal}
use Rattle.volume_file.specs.Save.{lengths_refusal, prepare_refusal}

-- what is refused: the lengths
module _ (head image journal own : List ℕ) where
  pub lengths-image : length image ≢ 512 * image_sectors_of head → lengths_refusal head image journal own ≡ 7
  unfolding lengths_refusal
  lengths-image ne = rw (ne_eqb (length image) (512 * image_sectors_of head) ne)

  module _ (im : length image ≡ 512 * image_sectors_of head) where
    pub lengths-journal : length journal ≢ 512 * journal_sectors_of head → lengths_refusal head image journal own ≡ 8
    unfolding lengths_refusal
    lengths-journal ne = rw (eq-eqb (length image) (512 * image_sectors_of head) im, ne_eqb (length journal) (512 * journal_sectors_of head) ne)

    module _ (jo : length journal ≡ 512 * journal_sectors_of head) where
      pub lengths-own : length own ≢ 512 * own_sectors_of head → lengths_refusal head image journal own ≡ 9
      unfolding lengths_refusal
      lengths-own ne =
          rw (eq-eqb (length image) (512 * image_sectors_of head) im, eq-eqb (length journal) (512 * journal_sectors_of head) jo, ne_eqb (length own) (512 * own_sectors_of head) ne)

      pub lengths-ok : length own ≡ 512 * own_sectors_of head → lengths_refusal head image journal own ≡ 0
      unfolding lengths_refusal
      lengths-ok ow =
          rw (eq-eqb (length image) (512 * image_sectors_of head) im, eq-eqb (length journal) (512 * journal_sectors_of head) jo, eq-eqb (length own) (512 * own_sectors_of head) ow)

-- the file, its log that waits, and the lengths
module _ (d image journal own : List ℕ) (number : ℕ) (is : number ≡ file_refusal d) where
  pub prepare-file : number ≢ 0 → number ≡ prepare_refusal d image journal own
  unfolding prepare_refusal
  prepare-file some = sym (rw (← is) (first_of-refused number _ some))

  module _ (z : number ≡ 0) where
    pub prepare-waits : waits d ≡ true → 6 ≡ prepare_refusal d image journal own
    unfolding prepare_refusal
    prepare-waits w = rw (← is, z, w)

    pub prepare-lengths : waits d ≡ false → (r : ℕ) → r ≡ lengths_refusal (block d 0) image journal own → r ≡ prepare_refusal d image journal own
    unfolding prepare_refusal
    prepare-lengths w r e = rw (← is, z, w, e)
