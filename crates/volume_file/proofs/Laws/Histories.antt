-- Whole histories, save by save.
use Prim.Native.Nat.{ℕ, ◌*◌}
use mathlib.Core.List.{List}
use mathlib.Core.Logic.{◌⊎◌, inl, inr, ⊎_elim}
use mathlib.Core.Path.{◌≡◌, refl, ◌∙◌}
use native.Mathlib.Omega.{arith}
use lib.ListN.{length}
use Rattle.layout.specs.Bytes.{block}
use Rattle.volume_file.specs.Format.{home_sectors, home_of}
use Rattle.volume_file.specs.Save.{committed, recovered}
use Rattle.volume_file.specs.Cuts.{Cut, RecoveryCuts, Quiet, Fits}
use Rattle.volume_file.specs.History.{Event, Leads, still, after, after_cut, MayBe}
use Rattle.volume_file.proofs.Laws.Facts.{VolumeFile, file-facts, file-ok}
use Rattle.volume_file.proofs.Laws.Recovery.{recovered-out, recovered-file, recovered-quiet, many-cuts}
use Rattle.volume_file.proofs.Laws.Prepared.{committed-file, committed-head}
use Rattle.volume_file.proofs.Laws.Saves.{home-length, home-new, beside-home, cut-either}

pub quiet-fits : (d new : List ℕ) → Quiet d → Fits d new → length new ≡ 512 * home_sectors d
quiet-fits d new q f = f ∙ home-length (file-facts d q.ok)

pub quiet-again : {h : ℕ} {d : List ℕ} → VolumeFile h d → Quiet (recovered d)
quiet-again {h} {d} v = record { ok = file-ok h (recovered d) (recovered-file v); none = recovered-quiet v }

-- a save that is done, and one that is cut and recovered
module _ (d new : List ℕ) (q : Quiet d) (f : Fits d new) where
  v : VolumeFile (home_sectors d) d
  v = file-facts d q.ok

  pub save-done : Quiet (recovered (committed d new)) × (block (recovered (committed d new)) 0 ≡ block d 0) × (home_of (recovered (committed d new)) ≡ new)
  save-done =
      let g = quiet-fits d new q f in
      let w = committed-file new v g in
      (quiet-again w, recovered-out w 0 (inl (omega arith)) ∙ committed-head new v g, home-new new v g)

  pub save-cut : (d' d'' : List ℕ) → Cut d new d' → RecoveryCuts d' d''
      → Quiet (recovered d'') × (block (recovered d'') 0 ≡ block d 0) × ((home_of (recovered d'') ≡ home_of d) ⊎ (home_of (recovered d'') ≡ new))
  save-cut d' d'' x r =
      let b = cut-either new v (quiet-fits d new q f) q.none d' x in
      let m = many-cuts b.volume r in
      let homes = beside-home (recovered-file b.volume) (recovered-file m.volume) m.same in
      (quiet-again m.volume, recovered-out m.volume 0 (inl (omega arith)) ∙ m.head ∙ b.head, ⊎_elim (λ p. inl (homes ∙ p)) (λ p. inr (homes ∙ p)) b.home)

pub history : (d e : List ℕ) (es : List Event) (old : List ℕ) → Quiet d → home_of d ≡ old → Leads d es e
    → Quiet e × (block e 0 ≡ block d 0) × MayBe old es (home_of e)
history d _ _ old q o (still _) = (q, refl, o)
history d e _ old q o (after {new = new} {es = es} f l) =
    let s = save-done d new q f in
    let y = history (recovered (committed d new)) e es new s.0 s.2 l in
    (y.0, y.1 ∙ s.1, y.2)
history d e _ old q o (after_cut {d' = d'} {d'' = d''} {new = new} {es = es} f x r l) =
    let s = save-cut d new q f d' d'' x r in
    ⊎_elim
    (λ p. let y = history (recovered d'') e es old s.0 (p ∙ o) l in (y.0, y.1 ∙ s.1, inl y.2))
    (λ p. let y = history (recovered d'') e es new s.0 p l in (y.0, y.1 ∙ s.1, inr y.2))
    s.2
