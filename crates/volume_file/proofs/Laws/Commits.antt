-- The log that `prepare` leaves is one that `commit` accepts.
use Prim.Native.Nat.{ℕ, ◌*◌}
use mathlib.Core.List.{List}
use mathlib.Core.Bool.{false}
use mathlib.Core.Path.{◌≡◌, refl, sym, ◌∙◌}
use native.Mathlib.Omega.{arith}
use lib.ListN.{length}
use Rattle.layout.specs.Bytes.{block}
use Rattle.volume_file.specs.Format.{home_sectors, waits, log_count}
use Rattle.volume_file.specs.Save.{home_with, flagged, changes, prepared, prepare_refusal, after_prepare, committed, commit_refusal, after_commit}
use Rattle.volume_file.proofs.Laws.Facts.{VolumeFile, head-ok, log-ok, file-facts, same-sectors, same-waits}
use Rattle.volume_file.proofs.Laws.Prepared.{changes-few, prepared-length, prepared-low, prepared-number, prepared-rising}
use Rattle.volume_file.proofs.Laws.Histories.{quiet-fits}
use Rattle.volume_file.proofs.Laws.Parts.{together}
use Rattle.volume_file.proofs.Walks.Logging.{prepares, commit-ok, commit-done}

module _ {h : ℕ} {d : List ℕ} (new : List ℕ) (v : VolumeFile h d) (fits : length new ≡ 512 * h) (z : waits d ≡ false) where
  abbrev e : List ℕ
  e = prepared d new

  head : block e 0 ≡ block d 0
  head = prepared-low new v fits 0 (omega arith)

  sectors : home_sectors e ≡ h
  sectors = same-sectors d e head ∙ v.sectors

  number : log_count e ≡ length (changes d new)
  unfolding log_count
  number = rw sectors (prepared-number new v fits)

  prepared-commits : 0 ≡ commit_refusal e
  prepared-commits =
      commit-ok e 0 (sym (head-ok e (record { header = rw head v.header; size = rw sectors (prepared-length new v fits ∙ v.size) }))) refl
      (length (changes d new)) 0 (sym number)
      (sym (log-ok e (length (changes d new)) (record { few = rw sectors (changes-few new v fits); rise = rw sectors (prepared-rising new v fits) }))) refl
      (same-waits d e (prepared-low new v fits 1 (omega arith)) ∙ z)

pub commit-accepts : (d image journal own : List ℕ) → prepare_refusal d image journal own ≡ 0
    → (commit_refusal (after_prepare d image journal own) ≡ 0) × (after_commit (after_prepare d image journal own) ≡ committed d (home_with image journal own))
unfolding after_prepare committed
commit-accepts d image journal own r =
    let q = (prepares d image journal own r).quiet in
    let new : List ℕ = home_with image journal own in
    let a = prepared-commits new (file-facts d q.ok) (quiet-fits d new q (together d image journal own r)) q.none in
    rw r (sym a, sym (commit-done (prepared d new) 0 a refl (flagged (prepared d new) 1) refl))
