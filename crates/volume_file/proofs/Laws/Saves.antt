-- A commit, cut anywhere.
use Prim.Native.Nat.{ℕ, ◌+◌, ◌*◌, ◌<◌}
use mathlib.Core.List.{List}
use mathlib.Core.Bool.{true, false}
use Rattle.layout.proofs.Laws.Tests.{true-or-false}
use mathlib.Core.Logic.{◌⊎◌, inl, inr, ⊎_elim, ◌≢◌}
use mathlib.Core.Path.{◌≡◌, sym, ap, ◌∙◌}
use native.Mathlib.Omega.{arith}
use lib.ListN.{length, get_or}
use Rattle.layout.specs.Bytes.{part, block}
use Rattle.layout.proofs.Laws.Bytes.{length_part, part-part}
use Rattle.volume_file.specs.Format.{home_at, address, waits, count, home_of}
use Rattle.volume_file.specs.Save.{changes, replayed, prepared, committed, recovered}
use Rattle.volume_file.specs.Cuts.{Crash, LogSector, CommitSector, Cut, logging, committing, finishing}
use Rattle.volume_file.proofs.Laws.Sectors.{sectors-ext, among}
use Rattle.volume_file.proofs.Laws.Restored.{restored-in, Alike}
use Rattle.volume_file.proofs.Laws.Facts.{VolumeFile, same-sectors, same-waits, quiet-file, flagged-other}
use Rattle.volume_file.proofs.Laws.Recovery.{replayed-is, replayed-length, replayed-out, recovered-waits, recovered-none, recovered-file, Recovers, alike-waits, one-cut}
use Rattle.volume_file.proofs.Laws.Prepared.{unchanged, committed-head, prepared-length, prepared-low, committed-other, committed-length, committed-waits, committed-file, committed-count, committed-address, committed-saved, committed-home}

-- the home of a volume, by its sectors
module _ {h : ℕ} {d : List ℕ} (v : VolumeFile h d) where
  home-is : home_of d ≡ part d 1024 (512 * h)
  unfolding home_of
  home-is = rw v.sectors

  pub home-length : length (home_of d) ≡ 512 * h
  home-length = rw home-is (length_part d 1024 (512 * h) (omega (arith, v.size)))

  home-block : (i : ℕ) → i < h → block (home_of d) i ≡ block d (home_at i)
  home-block i l =
      rw home-is (part-part d 1024 (512 * h) (512 * i) 512 (omega (arith, v.size)) (omega arith)
      ∙ ap (λ (a : ℕ). part d a 512) (let e : 1024 + 512 * i ≡ 512 * home_at i = omega arith in e))

home-ext : {h : ℕ} {d e : List ℕ} → VolumeFile h d → VolumeFile h e → ((i : ℕ) → i < h → block e (home_at i) ≡ block d (home_at i)) → home_of e ≡ home_of d
home-ext {h} {d} {e} v w f =
    sectors-ext (home_of e) (home_of d) h (home-length w) (home-length v ∙ sym (home-length w)) λ i l. home-block w i l ∙ f i l ∙ sym (home-block v i l)

-- two volumes that differ in the commit sector alone have one home
pub beside-home : {h : ℕ} {d e : List ℕ} → VolumeFile h d → VolumeFile h e → Crash CommitSector d e → home_of e ≡ home_of d
beside-home v w x = home-ext v w (λ i l. x.kept (home_at i) (λ q. omega arith))

module _ {h : ℕ} {d : List ℕ} (new : List ℕ) (v : VolumeFile h d) (fits : length new ≡ 512 * h) where
  c : VolumeFile h (committed d new)
  c = committed-file new v fits

  -- WHAT IS COMMITTED IS RECOVERED
  pub home-new : home_of (recovered (committed d new)) ≡ new
  home-new =
      let w = recovered-file c in
      let s = c.size in
      sectors-ext (home_of (recovered (committed d new))) new h (home-length w) (fits ∙ sym (home-length w)) λ i l.
      home-block w i l
      ∙ ap (λ (x : List ℕ). block x (home_at i)) (recovered-waits (committed d new) (committed-waits new v fits))
      ∙ flagged-other (replayed (committed d new)) 0 (omega (arith, replayed-length c)) (home_at i) (λ e. omega arith)
      ∙ go i l (among (λ j. get_or (changes d new) j 0) i (length (changes d new)))
    where
      go : (i : ℕ) → i < h → ((j : ℕ) × (j < length (changes d new)) × (i ≡ get_or (changes d new) j 0)) ⊎ ((j : ℕ) → j < length (changes d new) → i ≢ get_or (changes d new) j 0)
          → block (replayed (committed d new)) (home_at i) ≡ block new i
      go i l (inl (j, m, q)) =
          let a : address h (committed d new) j ≡ i = committed-address new v fits j m ∙ sym q in
          let n : j < count (committed d new) = rw (committed-count new v fits) m in
          ap (block (replayed (committed d new))) (ap home_at (sym a))
          ∙ rw (replayed-is c) (restored-in h (committed d new) c.size (count (committed d new)) c.few c.rise j n)
          ∙ committed-saved new v fits j m ∙ ap (block new) (sym q)
      go i l (inr f) =
          replayed-out c (home_at i) (λ j m q.
          let n : j < length (changes d new) = rw (committed-count new v fits) at m in
          f j n (let a = committed-address new v fits j n in omega (arith, a, q)))
          ∙ committed-home new v fits i l ∙ unchanged new v fits i l f

  -- where nothing differs the home is the new one already
  pub home_same : length (changes d new) ≡ 0 → home_of d ≡ new
  home_same z =
      sectors-ext (home_of d) new h (home-length v) (fits ∙ sym (home-length v)) λ i l.
      home-block v i l ∙ unchanged new v fits i l (λ j m. absurd (omega (arith, m, z)))

  -- before the commit sector is written the file is as it was, but for its log
  module _ (z : waits d ≡ false) where
    pub record Old (e : List ℕ) : Type 0 where
      pub volume : VolumeFile h e
      pub head : block e 0 ≡ block d 0
      pub none : waits e ≡ false
      pub home : home_of e ≡ home_of d

    still : (e : List ℕ) → length e ≡ length d → block e 0 ≡ block d 0 → waits e ≡ false → ((i : ℕ) → i < h → block e (home_at i) ≡ block d (home_at i)) → Old e
    still e l hd n f =
        let w = quiet-file h e (same-sectors d e hd ∙ v.sectors) (rw hd v.header) (l ∙ v.size) n in
        record { volume = w; head = hd; none = n; home = home-ext v w f }

    pub logging-old : (e : List ℕ) → Crash (LogSector d) d e → Old e
    logging-old e x =
        let low : (s : ℕ) → s < 2 + h → block e s ≡ block d s = λ s l. x.kept s (λ m. omega (arith, v.sectors)) in
        still e x.size (low 0 (omega arith)) (same-waits d e (low 1 (omega arith)) ∙ z) (λ i l. low (home_at i) (omega arith))

    -- while it is written: old, or what is committed
    committing-either : (e : List ℕ) → Crash CommitSector (prepared d new) e → Old e ⊎ Recovers h (committed d new) e
    committing-either e x = go (true-or-false (waits e))
      where
        low : (s : ℕ) → s < 2 + h → s ≢ 1 → block e s ≡ block d s
        low s l n = x.kept s n ∙ prepared-low new v fits s l

        a : Alike h (committed d new) e (count (committed d new))
        a = record {
          long = x.size ∙ prepared-length new v fits ∙ sym (committed-length new v fits);
          others = λ s n f. x.kept s n ∙ sym (committed-other new v fits s n);
        }

        go : (waits e ≡ true) ⊎ (waits e ≡ false) → Old e ⊎ Recovers h (committed d new) e
        go (inl w) = inr (alike-waits c a (committed-waits new v fits) w)
        go (inr w) =
            inl (still e (x.size ∙ prepared-length new v fits) (low 0 (omega arith) (λ q. omega arith)) w (λ i l. low (home_at i) (omega arith) (λ q. omega arith)))

    -- what recovery makes of what is left
    pub recovers-new : (e : List ℕ) → Recovers h (committed d new) e → home_of (recovered e) ≡ new
    recovers-new e r = beside-home (recovered-file c) (recovered-file r.volume) r.same ∙ home-new

    pub record Either (e : List ℕ) : Type 0 where
      pub volume : VolumeFile h e
      pub head : block e 0 ≡ block d 0
      pub home : (home_of (recovered e) ≡ home_of d) ⊎ (home_of (recovered e) ≡ new)

    old-either : (e : List ℕ) → Old e → Either e
    old-either e o = record { volume = o.volume; head = o.head; home = inl (ap home_of (recovered-none e o.none) ∙ o.home) }

    new-either : (e : List ℕ) → Recovers h (committed d new) e → Either e
    new-either e r = record { volume = r.volume; head = r.head ∙ committed-head new v fits; home = inr (recovers-new e r) }

    pub cut-either : (e : List ℕ) → Cut d new e → Either e
    cut-either e (logging x) = old-either e (logging-old e x)
    cut-either e (committing x) = ⊎_elim (old-either e) (new-either e) (committing-either e x)
    cut-either e (finishing x) = new-either e (one-cut c x)
