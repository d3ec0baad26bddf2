-- Two changes in either order (L13), on image and journal: from the store's theorem.
use Prim.Native.Nat.{ℕ}
use mathlib.Core.Path.{◌≡◌, ap, ◌∙◌, subst}
use mathlib.Core.List.{List}
use mathlib.Core.Logic.{◌≢◌}
use Rattle.volume.specs.Views.{SameFiles}
use Rattle.store.specs.Change.{Change, refusal, after, subject}
use Rattle.store.proofs.Theorems as store
use Rattle.journal.specs.Run.{State, change_refusal, after_change}
use Rattle.journal.proofs.Laws.Undo.{accepted}

-- an accepted change, then an accepted one
module _ (p : State) (c d : Change) (rc : change_refusal p c ≡ 0) (rd : change_refusal (after_change p c) d ≡ 0) where
  image-after : (q : State) (e : Change) → change_refusal q e ≡ 0 → (after_change q e).image ≡ after q.image e
  unfolding after_change
  image-after q e r = rw r

  second-allowed : refusal (after p.image c) d ≡ 0
  second-allowed = subst (λ (s : List ℕ). refusal s d ≡ 0) (image-after p c rc) (accepted (after_change p c) d rd).allowed

  both-images : (after_change (after_change p c) d).image ≡ after (after p.image c) d
  both-images = image-after (after_change p c) d rd ∙ ap (λ (s : List ℕ). after s d) (image-after p c rc)

pub either_order : (p : State) (c d : Change)
    → change_refusal p c ≡ 0 → change_refusal (after_change p c) d ≡ 0 → change_refusal p d ≡ 0 → change_refusal (after_change p d) c ≡ 0
    → subject c ≢ subject d → SameFiles (after_change (after_change p c) d).image (after_change (after_change p d) c).image
either_order p c d rc rcd rd rdc ne =
    let C = accepted p c rc in
    let D = accepted p d rd in
    rw (both-images p c d rc rcd, both-images p d c rd rdc)
    (store.either_order p.image C.sound c d C.allowed (second-allowed p c d rc rcd) D.allowed (second-allowed p d c rd rdc) ne)
