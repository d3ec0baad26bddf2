-- Writing the places that the calls answer makes the file on the disk the one in memory.
use Prim.Native.Nat.{ℕ, zero, suc, ◌+◌, ◌-◌, ◌*◌, ◌≤◌, ◌<◌}
use mathlib.Core.List.{List, ◌∷◌, map}
use mathlib.Core.Bool.{true}
use mathlib.Core.Logic.{◌⊎◌, inl, inr, ⊎_elim}
use mathlib.Core.Path.{◌≡◌, refl, sym, ap, ◌∙◌}
use native.Mathlib.Omega.{arith}
use lib.ListN.{length}
use Rattle.layout.specs.Bytes.{part, block, zeros, splice}
use Rattle.layout.specs.Lists.{interval}
use Rattle.layout.specs.Looks.{Extent}
use Rattle.layout.proofs.Laws.Tests.{lt-or-ge}
use Rattle.layout.proofs.Laws.Bytes.{length_part, length-splice, length-zeros, part_same, part-part, part-splice}
use Rattle.layout.proofs.Laws.Frames.{same-inside}
use Rattle.volume_file.specs.Format.{home_sectors, home_at, number_sectors, count_at, saved_at, file_sectors, address, waits, count, file_refusal}
use Rattle.volume_file.specs.Save.{home_with, flagged, changes, prepared, prepare_refusal, after_prepare, commit_refusal, after_commit, restored, replayed, recovered}
use Rattle.volume_file.specs.Answers.{prepare_answer, log_places, home_extent}
use Rattle.volume_file.specs.Writes.{written, log_places_of, commit_place, home_places}
use Rattle.volume_file.proofs.Laws.Sectors.{sectors-ext, sector-beside}
use Rattle.volume_file.proofs.Laws.Restored.{restored-in, same_address}
use Rattle.volume_file.proofs.Laws.Facts.{VolumeFile, file-facts, file-ok, flagged-other}
use Rattle.volume_file.proofs.Laws.Recovery.{recovered-waits, recovered-out, recovered-file, replayed-is, replayed-length}
use Rattle.volume_file.proofs.Laws.Prepared.{changes-few, prepared-length, prepared-low, prepared-numbers, prepared-rest}
use Rattle.volume_file.proofs.Laws.Parts.{together}
use Rattle.volume_file.proofs.Laws.Histories.{quiet-fits}
use Rattle.volume_file.proofs.Walks.Logging.{prepares, commit-long}
use Rattle.volume_file.proofs.Walks.Places.{place, home_found}

-- k sectors from sector a on, written from e onto d
module _ (d e : List ℕ) (a k : ℕ) (long : length e ≡ length d) (fits : 512 * (a + k) ≤ length d) where
  abbrev p : List ℕ
  p = part e (512 * a) (512 * k)

  p-long : length p ≡ 512 * k
  p-long = length_part e (512 * a) (512 * k) (omega (arith, long, fits))

  p-fits : 512 * a + length p ≤ length d
  p-fits = omega (arith, p-long, fits)

  place-long : length (splice d (512 * a) p) ≡ length d
  place-long = length-splice d (512 * a) p p-fits

  place_in : (j : ℕ) → j < k → block (splice d (512 * a) p) (a + j) ≡ block e (a + j)
  place_in j l =
      part_same p (splice d (512 * a) p) (512 * j) (512 * (a + j)) 512
      (λ i g. let q : 512 * (a + j) + i ≡ 512 * a + 512 * j + i = omega arith in rw q (same-inside d (512 * a) p p-fits (512 * j) 512 (omega (arith, p-long)) i g))
      (omega (arith, p-long)) (omega (arith, place-long, fits))
      ∙ part-part e (512 * a) (512 * k) (512 * j) 512 (omega (arith, long, fits)) (omega arith)
      ∙ ap (λ (o : ℕ). part e o 512) (let q : 512 * a + 512 * j ≡ 512 * (a + j) = omega arith in q)

  place_at : (s : ℕ) → a ≤ s → s < a + k → block (splice d (512 * a) p) s ≡ block e s
  place_at s l m = let q : s ≡ a + (s - a) = omega arith in rw q (place_in (s - a) (omega arith))

  -- a sector that is e's already, if it is not among them, is then e's
  place-or : (s : ℕ) → ((s < a) ⊎ (a + k ≤ s) → block d s ≡ block e s) → block (splice d (512 * a) p) s ≡ block e s
  place-or s f =
      ⊎_elim (λ (l : s < a). sector-beside d (512 * a) p s p-fits (inl (omega arith)) ∙ f (inl l))
      (λ (l : a ≤ s). ⊎_elim (λ (m : s < a + k). place_at s l m)
      (λ (m : a + k ≤ s). sector-beside d (512 * a) p s p-fits (inr (omega (arith, p-long))) ∙ f (inr m)) (lt-or-ge s (a + k))) (lt-or-ge s a)

-- STEP 1
module _ {h : ℕ} {d : List ℕ} (new : List ℕ) (v : VolumeFile h d) (fits : length new ≡ 512 * h) where
  abbrev k : ℕ
  k = length (changes d new)

  abbrev e : List ℕ
  e = prepared d new

  same-outside : (s : ℕ) → (s < saved_at h 0) ⊎ (saved_at h 0 + k ≤ s) → (s < 2 + h) ⊎ (2 + h + number_sectors k ≤ s) → block d s ≡ block e s
  same-outside s (inr l) m = sym (prepared-rest new v fits s (omega arith))
  same-outside s (inl l) (inl m) = sym (prepared-low new v fits s m)
  same-outside s (inl l) (inr m) = sym (prepared-numbers new v fits s m l)

  prepared-written : splice (splice d (count_at h) (part e (count_at h) (512 * number_sectors k))) (512 * saved_at h 0) (part e (512 * saved_at h 0) (512 * k)) ≡ e
  prepared-written =
      let few : k ≤ h = changes-few new v fits in
      let long : length e ≡ length d = prepared-length new v fits in
      let one : 512 * (2 + h + number_sectors k) ≤ length d = omega (arith, v.size, few) in
      let t : List ℕ = splice d (count_at h) (part e (count_at h) (512 * number_sectors k)) in
      let tl : length t ≡ length d = place-long d e (2 + h) (number_sectors k) long one in
      let le : length e ≡ length t = long ∙ sym tl in
      let two : 512 * (saved_at h 0 + k) ≤ length t = omega (arith, tl, v.size, few) in
      let u : List ℕ = splice t (512 * saved_at h 0) (part e (512 * saved_at h 0) (512 * k)) in
      let ul : length u ≡ length t = place-long t e (saved_at h 0) k le two in
      sectors-ext u e (file_sectors h) (ul ∙ tl ∙ v.size) (le ∙ sym ul) λ s l.
      place-or t e (saved_at h 0) k le two s (λ far. place-or d e (2 + h) (number_sectors k) long one s (λ away. same-outside s far away))

pub written-1 : (d image journal own : List ℕ) → prepare_refusal d image journal own ≡ 0
    → written d (after_prepare d image journal own) (log_places_of (prepare_answer d image journal own)) ≡ after_prepare d image journal own
unfolding written after_prepare prepare_answer log_places
written-1 d image journal own z =
    let q = (prepares d image journal own z).quiet in
    rw z (prepared-written (home_with image journal own) (file-facts d q.ok) (quiet-fits d (home_with image journal own) q (together d image journal own z)))

-- STEPS 2 and 4
flagged-written : (d : List ℕ) (b : ℕ) → 1024 ≤ length d → written d (flagged d b) commit_place ≡ flagged d b
unfolding written flagged
flagged-written d b l = ap (splice d 512) (part-splice d 512 (b ∷ zeros 511) 512 (omega (arith, length-zeros 511)) (omega arith))

pub written_2 : (d : List ℕ) → commit_refusal d ≡ 0 → written d (after_commit d) commit_place ≡ after_commit d
unfolding after_commit
written_2 d z = rw z (flagged-written d 1 (commit-long d 0 (sym z) refl))

module _ (d : List ℕ) (z : file_refusal d ≡ 0) (w : waits d ≡ true) where
  v : VolumeFile (home_sectors d) d
  v = file-facts d z

  long : 1024 ≤ length (replayed d)
  long = omega (arith, replayed-length v, v.size)

  pub written_4 : written (replayed d) (recovered d) commit_place ≡ recovered d
  written_4 = rw (recovered-waits d w) (flagged-written (replayed d) 0 long)

  -- STEP 3
  abbrev h : ℕ
  h = home_sectors d

  abbrev r : List ℕ
  r = recovered d

  named : (j : ℕ) → j < count d → home_extent r j ≡ place (512 * home_at (address h d j)) 512
  named j l =
      let f = recovered-file v in
      let b : address h d j < h = v.rise.below j l in
      let a : address h r j ≡ address h d j = same_address h d r (λ s m. recovered-out v s (inr m)) j in
      sym (home_found r 0 (sym (file-ok h r f)) refl h j (sym f.sectors) (omega (arith, l, v.few)) (address h d j) (sym a) b)

  home-sector : (j : ℕ) → j < count d → part r (512 * home_at (address h d j)) 512 ≡ block d (saved_at h j)
  home-sector j l =
      ap (λ (y : List ℕ). block y (home_at (address h d j))) (recovered-waits d w)
      ∙ flagged-other (replayed d) 0 long (home_at (address h d j)) (λ q. omega arith)
      ∙ ap (λ (y : List ℕ). block y (home_at (address h d j))) (replayed-is v)
      ∙ restored-in h d v.size (count d) v.few v.rise j l

  homes : (n i : ℕ) → i + n ≡ count d → written (restored h d i) r (map (home_extent r) (interval i n)) ≡ restored h d (i + n)
  unfolding written restored
  homes zero i q = ap (restored h d) (let y : i ≡ i + 0 = omega arith in y)
  homes (suc n) i q =
      let rest = map (home_extent r) (interval (suc i) n) in
      let l : i < count d = omega (arith, q) in
      ap (λ (y : Extent). written (splice (restored h d i) y.start (part r y.start y.size)) r rest) (named i l)
      ∙ ap (λ (y : List ℕ). written (splice (restored h d i) (512 * home_at (address h d i)) y) r rest) (home-sector i l)
      ∙ homes n (suc i) (omega (arith, q)) ∙ ap (restored h d) (let y : suc i + n ≡ i + suc n = omega arith in y)

  pub written-3 : written d r (home_places r (count d)) ≡ replayed d
  unfolding restored
  written-3 = homes (count d) 0 (omega arith) ∙ ap (restored h d) (let y : 0 + count d ≡ count d = omega arith in y) ∙ sym (replayed-is v)
