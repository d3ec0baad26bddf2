-- The free blocks after a run (L7): what they hold, by the changes that stand.
use Prim.Native.Nat.{ℕ, ◌<◌, ◌/◌}
use mathlib.Core.Path.{◌≡◌, refl, sym, ap, ◌∙◌, subst}
use mathlib.Core.Bool.{Bool, true, false, cond, not, ◌||◌}
use mathlib.Core.List.{List, [], ◌∷◌}
use mathlib.Core.Logic.{◌≢◌}
use native.Mathlib.Decide.{ℕ_discrete}
use lib.Dec.{eqb}
use borrow.Author.Tests.{ne_eqb}
use Rattle.layout.specs.Bytes.{block, zeros}
use Rattle.layout.specs.Geometry.{block_count}
use Rattle.layout.specs.Table.{next}
use Rattle.store.specs.Change.{Change, after}
use Rattle.volume.specs.Claims.{Blanked}
use Rattle.journal.specs.Journal.{started}
use Rattle.journal.specs.Run.{State, change_refusal, after_change}
use Rattle.journal.specs.Replay.{replayed, standing, used_since, free_content, BlankTheorem}
use Rattle.store.proofs.Theorems.{change-length, freed-blank}
use Rattle.store.proofs.Laws.Sound.{KeptSound}
use Rattle.journal.proofs.Laws.Undo.{accepted}
use Rattle.journal.proofs.Laws.Runs.{Stand, run-theorem, run-stands}

-- a block in use now was used since the start
used-now : (start : State) (cs : List Change) (b : ℕ) → next (replayed start cs).image b ≢ 0 → used_since start cs b ≡ true
unfolding used_since replayed
used-now start [] b ne = rw (ne_eqb _ _ ne)
used-now start (c ∷ cs) b ne = rw (ne_eqb _ _ ne)

-- and one in use at the start too, whatever was changed since
used-first : (start : State) (cs : List Change) (b : ℕ) → next start.image b ≢ 0 → used_since start cs b ≡ true
unfolding used_since
used-first start [] b ne = rw (ne_eqb _ _ ne)
used-first start (c ∷ cs) b ne = or-true (not (eqb (next (replayed start (c ∷ cs)).image b) 0)) (used_since start cs b) (used-first start cs b ne)
  where
    or-true : (x y : Bool) → y ≡ true → (x || y) ≡ true
    or-true true y e = refl
    or-true false y e = e

pub used-blank : (start : State) (cs : List Change) (b : ℕ) → next start.image b ≢ 0 → free_content start cs b ≡ zeros 512
unfolding free_content
used-blank start cs b ne = rw (used-first start cs b ne)

-- an accepted change makes the image after it, of as many blocks
changed : (p : State) (c : Change) → change_refusal p c ≡ 0 → (after_change p c).image ≡ after p.image c
unfolding after_change
changed p c r = rw r

module _ (start : State) where
  same_blocks : (cs : List Change) → Stand start cs → block_count (replayed start cs).image ≡ block_count start.image
  unfolding Stand replayed
  same_blocks [] t = refl
  same_blocks (c ∷ cs) t =
      let p = replayed start cs in
      let A = accepted p c t.0 in
      ap block_count (changed p c t.0) ∙ ap (λ (k : ℕ). k / 512) (change-length p.image A.sound c A.allowed) ∙ same_blocks cs t.1

  -- one change more: a block that it freed is zero, one that was free before holds what it held
  module _ (c : Change) (cs : List Change) (ok : change_refusal (replayed start cs) c ≡ 0) (t : Stand start cs) where
    abbrev p : State
    p = replayed start cs

    step-held : (b : ℕ) → b < block_count start.image → (next p.image b ≡ 0 → block p.image b ≡ free_content start cs b) → next (after_change p c).image b ≡ 0
        → Dec (next p.image b ≡ 0) → block (after_change p c).image b ≡ free_content start cs b
    unfolding free_content
    step-held b h before z d =
        let A = accepted p c ok in
        let B = freed-blank p.image A.sound c A.allowed in
        let k : b < block_count p.image = subst (λ (m : ℕ). b < m) (sym (same_blocks cs t)) h in
        let w : next (after p.image c) b ≡ 0 = ap (λ (s : List ℕ). next s b) (sym (changed p c ok)) ∙ z in
        ap (λ (s : List ℕ). block s b) (changed p c ok) ∙ go k B w d
      where
        go : b < block_count p.image → Blanked p.image (after p.image c) → next (after p.image c) b ≡ 0 → Dec (next p.image b ≡ 0)
            → block (after p.image c) b ≡ cond (used_since start cs b) (zeros 512) (block start.image b)
        go k B w (yes free) = B.spared b k free w ∙ before free
        go k B w (no used) = B.freed b k used w ∙ rw (used-now start cs b used)

  free-held : (cs : List Change) → Stand start cs → (b : ℕ) → b < block_count start.image → next (replayed start cs).image b ≡ 0
      → block (replayed start cs).image b ≡ free_content start cs b
  unfolding Stand replayed free_content used_since
  free-held [] t b h z = rw z
  free-held (c ∷ cs) t b h z = rw z (step-held c cs t.0 t.1 b h (free-held cs t.1 b h) z (ℕ_discrete (next (replayed start cs).image b) 0))

pub blank-runs : KeptSound → BlankTheorem
blank-runs sound image size calls ok low high b h z =
    let start : State = record { image = image; journal = started size } in
    let e = (run-theorem sound image size calls ok low high).state in
    ap (λ (p : State). block p.image b) e ∙ free-held start (standing start [] calls) (run-stands sound image size calls ok low high) b h (ap (λ (p : State). next p.image b) (sym e) ∙ z)
