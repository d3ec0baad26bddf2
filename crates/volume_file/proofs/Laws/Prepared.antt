-- The log that a commit writes.
use Prim.Native.Nat.{ℕ, suc, ◌+◌, ◌*◌, ◌≤◌, ◌<◌}
use mathlib.Core.List.{List, [], ◌∷◌}
use mathlib.Core.Bool.{true}
use mathlib.Core.Logic.{◌⊎◌, inl, inr, ⊎_elim, ◌≢◌}
use mathlib.Core.Path.{◌≡◌, ap, ◌∙◌}
use native.Mathlib.Omega.{arith}
use lib.ListN.{length, get_or}
use borrow.Author.Tests.{not-false}
use Rattle.layout.specs.Bytes.{be32, bytes4, block, splice}
use Rattle.layout.specs.Lists.{interval, select, joined}
use Rattle.layout.proofs.Laws.Tests.{is_false}
use Rattle.layout.proofs.Laws.Lists.{In, get_d-in, select_in, select-ascends, select-all, select-split}
use Rattle.layout.proofs.Laws.Names.{same-eq}
use Rattle.layout.proofs.Laws.Bytes.{length-splice, length-bytes4, be32-splice, length-joined4, joined4-at, be32-same, part_same}
use Rattle.layout.proofs.Laws.Frames.{same-below, same_above, same-inside, same-be32}
use Rattle.layout.proofs.Laws.Files.{length-blocks, joined-block}
use Rattle.volume_file.specs.Format.{home_sectors, home_at, saved_at, number_sectors, count_at, address_at, address, waits, count}
use Rattle.volume_file.specs.Save.{differs, changes, filled, prepared, committed}
use Rattle.volume_file.proofs.Laws.Sectors.{sector-beside}
use Rattle.volume_file.proofs.Laws.Restored.{Rising, same_address, same-rising}
use Rattle.volume_file.proofs.Laws.Facts.{VolumeFile, small, same-sectors, same_number, count-some, flagged-length, flagged-other, flagged-waits}

in-index : (x : ℕ) (xs : List ℕ) → In x xs → (j : ℕ) × (j < length xs) × (x ≡ get_or xs j 0)
in-index x [] m = absurd m
in-index x (y ∷ ys) (inl e) = (0, omega arith, e)
in-index x (y ∷ ys) (inr m) = let (j, l, e) = in-index x ys m in (suc j, omega arith, e)

module _ {h : ℕ} {d : List ℕ} (new : List ℕ) (v : VolumeFile h d) (fits : length new ≡ 512 * h) where
  abbrev xs : List ℕ
  xs = changes d new

  abbrev k : ℕ
  k = length (changes d new)

  xs-is : xs ≡ select (differs d new) (interval 0 h)
  unfolding changes
  xs-is = rw v.sectors

  pub changes-few : k ≤ h
  changes-few = rw xs-is (omega (arith, select-split (differs d new) h 0))

  in-below : (x : ℕ) → In x xs → x < h
  in-below x m = let (a, b, e) = select_in (differs d new) 0 h x (rw xs-is at m) in omega arith

  changes-below : (j : ℕ) → j < k → get_or xs j 0 < h
  changes-below j l = in-below (get_or xs j 0) (get_d-in xs j 0 l)

  changes-apart : (i j : ℕ) → i < j → j < k → get_or xs i 0 < get_or xs j 0
  changes-apart i j l m = let n : j < length (select (differs d new) (interval 0 h)) = rw xs-is at m in rw xs-is (select-ascends (differs d new) h 0 i j l n)

  -- a home sector that is not among them is `new`'s already
  pub unchanged : (i : ℕ) → i < h → ((j : ℕ) → j < k → i ≢ get_or xs j 0) → block d (home_at i) ≡ block new i
  unfolding differs
  unchanged i l f = same-eq (block d (home_at i)) (block new i) (not-false _ (is_false (differs d new i) λ t.
      let (j, m, e) = in-index i xs (rw xs-is (select-all (differs d new) i h 0 t (omega arith) (omega arith))) in f j m e))

  abbrev J : List ℕ
  J = joined bytes4 xs

  abbrev S : List ℕ
  S = joined (block new) xs

  J-long : length J ≡ 4 * k
  J-long = length-joined4 xs

  inside : (x : ℕ) → In x xs → 512 * x + 512 ≤ length new
  inside x m = omega (arith, in-below x m, fits)

  S-long : length S ≡ 512 * k
  S-long = length-blocks new xs inside

  abbrev first : List ℕ
  first = splice d (address_at h 0) J

  first_fits : address_at h 0 + length J ≤ length d
  first_fits = omega (arith, J-long, v.size, changes-few)

  first-long : length first ≡ length d
  first-long = length-splice d (address_at h 0) J first_fits

  second_fits : 512 * saved_at h 0 + length S ≤ length first
  second_fits = omega (arith, S-long, first-long, v.size, changes-few)

  filled_is : filled d new ≡ splice first (512 * saved_at h 0) S
  unfolding filled
  filled_is = rw v.sectors

  filled-length : length (filled d new) ≡ length d
  filled-length = rw filled_is (length-splice first (512 * saved_at h 0) S second_fits ∙ first-long)

  -- header, commit sector and home stay
  filled-low : (s : ℕ) → s < 2 + h → block (filled d new) s ≡ block d s
  filled-low s l =
      rw filled_is
      (sector-beside first (512 * saved_at h 0) S s second_fits (inl (omega arith)) ∙ sector-beside d (address_at h 0) J s first_fits (inl (omega arith)))

  filled-address : (j : ℕ) → j < k → be32 (filled d new) (address_at h j) ≡ get_or xs j 0
  filled-address j l =
      let b : get_or xs j 0 < h = changes-below j l in
      let n = small v in
      rw filled_is
      (same-be32 first (splice first (512 * saved_at h 0) S) (address_at h 0) (4 * k) (address_at h j)
      (same-below first (512 * saved_at h 0) S second_fits (address_at h 0) (4 * k) (omega (arith, changes-few))) (omega arith) (omega arith)
      ∙ be32-same J first (4 * j) (address_at h j) (λ i g.
      let e : address_at h j + i ≡ address_at h 0 + 4 * j + i = omega arith in
      rw e (same-inside d (address_at h 0) J first_fits (4 * j) 4 (omega (arith, J-long)) i g))
      ∙ joined4-at xs j l (omega arith))

  filled-saved : (j : ℕ) → j < k → block (filled d new) (saved_at h j) ≡ block new (get_or xs j 0)
  filled-saved j l =
      rw filled_is
      (part_same S (splice first (512 * saved_at h 0) S) (512 * j) (512 * saved_at h j) 512
      (λ i g.
      let e : 512 * saved_at h j + i ≡ 512 * saved_at h 0 + 512 * j + i = omega arith in
      rw e (same-inside first (512 * saved_at h 0) S second_fits (512 * j) 512 (omega (arith, S-long)) i g))
      (omega (arith, S-long)) (omega (arith, length-splice first (512 * saved_at h 0) S second_fits, first-long, v.size, changes-few))
      ∙ joined-block new xs inside j l)

  -- with k
  four : length (bytes4 k) ≡ 4
  four = length-bytes4 k

  prepared-is : prepared d new ≡ splice (filled d new) (count_at h) (bytes4 k)
  unfolding prepared
  prepared-is = rw v.sectors

  count_fits : count_at h + length (bytes4 k) ≤ length (filled d new)
  count_fits = omega (arith, four, filled-length, v.size)

  pub prepared-length : length (prepared d new) ≡ length d
  prepared-length = rw prepared-is (length-splice (filled d new) (count_at h) (bytes4 k) count_fits ∙ filled-length)

  prepared-beside : (s : ℕ) → (s < 2 + h) ⊎ (saved_at h 0 ≤ s) → block (prepared d new) s ≡ block (filled d new) s
  prepared-beside s far =
      rw prepared-is (sector-beside (filled d new) (count_at h) (bytes4 k) s count_fits (⊎_elim (λ l. inl (omega arith)) (λ l. inr (omega (arith, four))) far))

  pub prepared-low : (s : ℕ) → s < 2 + h → block (prepared d new) s ≡ block d s
  prepared-low s l = prepared-beside s (inl l) ∙ filled-low s l

  pub prepared-number : be32 (prepared d new) (count_at h) ≡ k
  prepared-number = rw prepared-is (be32-splice (filled d new) (count_at h) k (omega (arith, count_fits, four)) (omega (arith, changes-few, small v)))

  prepared-address : (j : ℕ) → j < k → address h (prepared d new) j ≡ get_or xs j 0
  unfolding address
  prepared-address j l =
      rw prepared-is
      (same-be32 (filled d new) (splice (filled d new) (count_at h) (bytes4 k)) (address_at h j) 4 (address_at h j)
      (same_above (filled d new) (count_at h) (bytes4 k) count_fits (address_at h j) 4 (omega (arith, four))) (omega arith) (omega arith)
      ∙ filled-address j l)

  prepared-saved : (j : ℕ) → j < k → block (prepared d new) (saved_at h j) ≡ block new (get_or xs j 0)
  prepared-saved j l = prepared-beside (saved_at h j) (inr (omega arith)) ∙ filled-saved j l

  pub prepared-rising : Rising h (prepared d new) h k
  prepared-rising = record {
    below = λ j l. rw (prepared-address j l) (changes-below j l);
    apart = λ i j l m. let n : i < k = omega arith in rw (prepared-address i n, prepared-address j m) (changes-apart i j l m);
  }

  -- with the commit sector
  long : 1024 ≤ length (prepared d new)
  long = omega (arith, prepared-length, v.size)

  pub committed-other : (s : ℕ) → s ≢ 1 → block (committed d new) s ≡ block (prepared d new) s
  unfolding committed
  committed-other s ne = flagged-other (prepared d new) 1 long s ne

  pub committed-length : length (committed d new) ≡ length d
  unfolding committed
  committed-length = flagged-length (prepared d new) 1 long ∙ prepared-length

  pub committed-waits : waits (committed d new) ≡ true
  unfolding committed
  committed-waits = flagged-waits (prepared d new) 1 long

  pub committed-head : block (committed d new) 0 ≡ block d 0
  committed-head = committed-other 0 (λ e. omega arith) ∙ prepared-low 0 (omega arith)

  committed-sectors : home_sectors (committed d new) ≡ h
  committed-sectors = same-sectors d (committed d new) committed-head ∙ v.sectors

  pub committed-count : count (committed d new) ≡ k
  committed-count =
      count-some (committed d new) committed-waits ∙ ap (λ (x : ℕ). be32 (committed d new) (count_at x)) committed-sectors
      ∙ same_number (prepared d new) (committed d new) h (committed-other (2 + h) (λ e. omega arith)) ∙ prepared-number

  same-addresses : (j : ℕ) → address h (committed d new) j ≡ address h (prepared d new) j
  same-addresses = same_address h (prepared d new) (committed d new) (λ s m. committed-other s (λ e. omega arith))

  pub committed-file : VolumeFile h (committed d new)
  committed-file = record {
    sectors = committed-sectors;
    header = rw committed-head v.header;
    size = committed-length ∙ v.size;
    few = rw committed-count changes-few;
    rise = rw committed-count (same-rising h (prepared d new) (committed d new) h k same-addresses prepared-rising);
  }

  pub committed-address : (j : ℕ) → j < k → address h (committed d new) j ≡ get_or xs j 0
  committed-address j l = same-addresses j ∙ prepared-address j l

  pub committed-saved : (j : ℕ) → j < k → block (committed d new) (saved_at h j) ≡ block new (get_or xs j 0)
  committed-saved j l = committed-other (saved_at h j) (λ e. omega arith) ∙ prepared-saved j l

  pub committed-home : (i : ℕ) → i < h → block (committed d new) (home_at i) ≡ block d (home_at i)
  committed-home i l = committed-other (home_at i) (λ e. omega arith) ∙ prepared-low (home_at i) (omega arith)

  -- of the log, only as many sectors change as hold k + 1 numbers and k sectors
  pub prepared-numbers : (s : ℕ) → 2 + h + number_sectors k ≤ s → s < saved_at h 0 → block (prepared d new) s ≡ block d s
  prepared-numbers s l m =
      ap (λ (x : List ℕ). block x s) prepared-is ∙ sector-beside (filled d new) (count_at h) (bytes4 k) s count_fits (inr (omega (arith, four)))
      ∙ rw filled_is
      (sector-beside first (512 * saved_at h 0) S s second_fits (inl (omega arith))
      ∙ sector-beside d (address_at h 0) J s first_fits (inr (omega (arith, J-long))))

  pub prepared-rest : (s : ℕ) → saved_at h k ≤ s → block (prepared d new) s ≡ block d s
  prepared-rest s l =
      prepared-beside s (inr (omega arith))
      ∙ rw filled_is
      (sector-beside first (512 * saved_at h 0) S s second_fits (inr (omega (arith, S-long)))
      ∙ sector-beside d (address_at h 0) J s first_fits (inr (omega (arith, J-long, changes-few))))
