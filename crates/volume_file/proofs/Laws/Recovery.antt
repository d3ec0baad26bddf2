-- Recovery: cut anywhere and begun again, it gives what it gives uncut.
use Prim.Native.Nat.{ℕ, ◌+◌, ◌≤◌, ◌<◌}
use mathlib.Core.Bool.{true, false}
use mathlib.Core.List.{List}
use mathlib.Core.Logic.{◌⊎◌, inl, inr, ⊎_elim, ◌≢◌}
use mathlib.Core.Path.{◌≡◌, refl, sym, ap, ◌∙◌}
use native.Mathlib.Omega.{arith}
use lib.ListN.{length}
use Rattle.layout.specs.Bytes.{block}
use Rattle.layout.proofs.Laws.Tests.{true-or-false}
use Rattle.volume_file.specs.Format.{home_sectors, home_at, address, waits, count}
use Rattle.volume_file.specs.Save.{flagged, restored, replayed, recovered}
use Rattle.volume_file.specs.Cuts.{Crash, CommitSector, RecoveryCut, replaying, settling, RecoveryCuts, uncut, cut_again}
use Rattle.volume_file.proofs.Laws.Restored.{Alike, alike-header, alike-high, alike-rising, alike-restored, alike-restored-length, restored-length, restored-out}
use Rattle.volume_file.proofs.Laws.Facts.{VolumeFile, same-sectors, same-waits, same_count, count_none, quiet-file, flagged-length, flagged-other, flagged-waits}

-- e is d but for the commit sector
beside-then : {d e f : List ℕ} → Crash CommitSector d e → Crash CommitSector e f → Crash CommitSector d f
beside-then a b = record { size = b.size ∙ a.size; kept = λ s n. b.kept s n ∙ a.kept s n }

beside_same : {d e : List ℕ} → e ≡ d → Crash CommitSector d e
beside_same q = record { size = ap length q; kept = λ s n. ap (λ (x : List ℕ). block x s) q }

pub recovered-waits : (d : List ℕ) → waits d ≡ true → recovered d ≡ flagged (replayed d) 0
unfolding recovered
recovered-waits d w = rw w

pub recovered-none : (d : List ℕ) → waits d ≡ false → recovered d ≡ d
unfolding recovered
recovered-none d w = rw w

module _ {h : ℕ} {d : List ℕ} (v : VolumeFile h d) where
  pub replayed-is : replayed d ≡ restored h d (count d)
  unfolding replayed
  replayed-is = rw v.sectors

  pub replayed-length : length (replayed d) ≡ length d
  replayed-length = rw replayed-is (restored-length h d v.size (count d) v.few v.rise)

  pub replayed-out : (s : ℕ) → ((j : ℕ) → j < count d → s ≢ home_at (address h d j)) → block (replayed d) s ≡ block d s
  replayed-out s f = rw replayed-is (restored-out h d v.size (count d) v.few v.rise s f)

  long : 1024 ≤ length (replayed d)
  long = omega (arith, replayed-length, v.size)

  -- recovered, it is a volume with nothing that waits
  pub recovered-quiet : waits (recovered d) ≡ false
  recovered-quiet = go (true-or-false (waits d))
    where
      go : (waits d ≡ true) ⊎ (waits d ≡ false) → waits (recovered d) ≡ false
      go (inl w) = ap waits (recovered-waits d w) ∙ flagged-waits (replayed d) 0 long
      go (inr w) = ap waits (recovered-none d w) ∙ w

  -- its header and its log stay
  pub recovered-out : (s : ℕ) → (s < 1) ⊎ (2 + h ≤ s) → block (recovered d) s ≡ block d s
  recovered-out s far = go (true-or-false (waits d))
    where
      go : (waits d ≡ true) ⊎ (waits d ≡ false) → block (recovered d) s ≡ block d s
      go (inl w) =
          ap (λ (x : List ℕ). block x s) (recovered-waits d w)
          ∙ flagged-other (replayed d) 0 long s (λ e. ⊎_elim (λ l. omega arith) (λ l. omega arith) far)
          ∙ replayed-out s (λ j l e. ⊎_elim (λ m. omega arith) (λ m. omega (arith, v.rise.below j l)) far)
      go (inr w) = ap (λ (x : List ℕ). block x s) (recovered-none d w)

  recovered-length : length (recovered d) ≡ length d
  recovered-length = go (true-or-false (waits d))
    where
      go : (waits d ≡ true) ⊎ (waits d ≡ false) → length (recovered d) ≡ length d
      go (inl w) = ap length (recovered-waits d w) ∙ flagged-length (replayed d) 0 long ∙ replayed-length
      go (inr w) = ap length (recovered-none d w)

  pub recovered-file : VolumeFile h (recovered d)
  recovered-file =
      let z = recovered-out 0 (inl (omega arith)) in
      quiet-file h (recovered d) (same-sectors d (recovered d) z ∙ v.sectors) (rw z v.header) (recovered-length ∙ v.size) recovered-quiet

-- what recovery makes of e is what it makes of d, but for the commit sector, in which nothing waits
pub record Recovers (h : ℕ) (d e : List ℕ) : Type 0 where
  pub volume : VolumeFile h e
  pub head : block e 0 ≡ block d 0
  pub same : Crash CommitSector (recovered d) (recovered e)

-- a file that is alike
module _ {h : ℕ} {d e : List ℕ} (v : VolumeFile h d) (a : Alike h d e (count d)) where
  same_head : block e 0 ≡ block d 0
  same_head = alike-header h d e (count d) v.size v.few v.rise a

  sectors : home_sectors e ≡ h
  sectors = same-sectors d e same_head ∙ v.sectors

  pub alike-waits : waits d ≡ true → waits e ≡ true → Recovers h d e
  alike-waits wd we =
      let n : count e ≡ count d = same_count h d e v.sectors sectors (alike-high h d e (count d) v.size v.few v.rise a (2 + h) (omega arith)) wd we in
      let ve : VolumeFile h e = record {
        sectors = sectors;
        header = rw same_head v.header;
        size = a.long ∙ v.size;
        few = rw n v.few;
        rise = rw n (alike-rising h d e (count d) v.size v.few v.rise a);
      } in
      let re : replayed e ≡ restored h e (count d) = replayed-is ve ∙ ap (restored h e) n in
      let l : length (replayed e) ≡ length (replayed d) = ap length re ∙ alike-restored-length h d e (count d) v.size v.few v.rise a ∙ sym (ap length (replayed-is v)) in
      record {
        volume = ve;
        head = same_head;
        same = rw (recovered-waits d wd, recovered-waits e we) (record {
          size = flagged-length (replayed e) 0 (long ve) ∙ l ∙ sym (flagged-length (replayed d) 0 (long v));
          kept = λ s n.
              flagged-other (replayed e) 0 (long ve) s n ∙ ap (λ (x : List ℕ). block x s) re
              ∙ alike-restored h d e (count d) v.size v.few v.rise a s n
              ∙ sym (flagged-other (replayed d) 0 (long v) s n ∙ ap (λ (x : List ℕ). block x s) (replayed-is v));
        });
      }

  alike-none : waits e ≡ false → Crash CommitSector (recovered d) e → Recovers h d e
  alike-none we x = record { volume = quiet-file h e sectors (rw same_head v.header) (a.long ∙ v.size) we; head = same_head; same = rw (recovered-none e we) x }

-- ONE CUT leaves a volume that recovers to the same file
pub one-cut : {h : ℕ} {d e : List ℕ} → VolumeFile h d → RecoveryCut d e → Recovers h d e
one-cut {h} {d} {e} v (replaying c) = go (true-or-false (waits d))
  where
    named : (s : ℕ) → ((j : ℕ) → j < count d → s ≢ home_at (address h d j)) → block e s ≡ block d s
    named s f = c.kept s (λ (j, l, q). f j l (q ∙ ap (λ (x : ℕ). home_at (address x d j)) v.sectors))

    a : Alike h d e (count d)
    a = record { long = c.size; others = λ s n f. named s f }

    w : waits e ≡ waits d
    w = same-waits d e (named 1 (λ j l q. omega arith))

    go : (waits d ≡ true) ⊎ (waits d ≡ false) → Recovers h d e
    go (inl x) = alike-waits v a x (w ∙ x)
    go (inr x) =
        alike-none v a (w ∙ x) (rw (recovered-none d x) (record { size = c.size; kept = λ s n. named s (λ j l q. omega (arith, count_none d x)) }))
one-cut {h} {d} {e} v (settling wd c) = go (true-or-false (waits e))
  where
    a : Alike h d e (count d)
    a = record { long = c.size ∙ replayed-length v; others = λ s n f. c.kept s n ∙ replayed-out v s f }

    go : (waits e ≡ true) ⊎ (waits e ≡ false) → Recovers h d e
    go (inl x) = alike-waits v a wd x
    go (inr x) = alike-none v a x (rw (recovered-waits d wd) (record {
      size = c.size ∙ sym (flagged-length (replayed d) 0 (long v));
      kept = λ s n. c.kept s n ∙ sym (flagged-other (replayed d) 0 (long v) s n);
    }))

-- and so do any number of them
pub many-cuts : {h : ℕ} {d e : List ℕ} → VolumeFile h d → RecoveryCuts d e → Recovers h d e
many-cuts v (uncut d) = record { volume = v; head = refl; same = beside_same refl }
many-cuts v (cut_again c cs) =
    let o = one-cut v c in
    let m = many-cuts o.volume cs in
    record { volume = m.volume; head = m.head ∙ o.head; same = beside-then o.same m.same }
