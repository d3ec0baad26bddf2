-- A MOVE BY WHAT PATHS SHOW: a delete and the coming of the entry. The new path shows what the old one showed, the old one nothing, and all others what they
-- showed.
use Prim.Native.Nat.{ℕ, ◌-◌}
use mathlib.Core.Path.{◌≡◌, refl, sym, ap, ◌∙◌}
use mathlib.Core.Bool.{true}
use mathlib.Core.List.{List}
use mathlib.Core.Logic.{inr, ◌≢◌}
use lib.ListN.{length}
use Rattle.layout.specs.Claims.{Untouched}
use Rattle.layout.specs.Limits.{max_levels}
use Rattle.layout.specs.Directory.{is_file}
use Rattle.layout.specs.Check.{check}
use Rattle.layout.specs.Paths.{parts, path_ok, leading, last_part, home, path_slot}
use Rattle.volume.specs.Move.{move_slot, move_refusal, move_image}
use Rattle.volume.specs.Change.{delete, refusal, after}
use Rattle.volume.specs.Views.{nothing, just, file_at, folder_at, subject, of_file, made}
use Rattle.volume.proofs.Laws.Moved.{MoveGiven, move-given, move-sound, paths-apart, without, slot_on, entry_on, Arrival, arrival}
use Rattle.volume.proofs.Laws.Content.{beside, no-file, by-depth, delete-untouched, untouched-then}
use Rattle.volume.proofs.Laws.Views.{file-shown, other-shown, OneEntry, folder-shown, own-slot, own-shown}
use Rattle.volume.proofs.Laws.Effects.{Effect, effect}
use Rattle.layout.proofs.Laws.Sound.{Sound, check-zero}
use Rattle.layout.proofs.Laws.Others.{untouched}
use Rattle.layout.proofs.Laws.Ways.{other_path}

module _ (s path to : List ℕ) (ok : check s ≡ 0) (r : move_refusal s path to ≡ 0) where
  G : MoveGiven s path to
  G = move-given s path to r

  A : Arrival s path to (move_image s path to)
  A = arrival s path to ok G

  abbrev s₁ : List ℕ
  s₁ = without s path

  abbrev s' : List ℕ
  s' = move_image s path to

  abbrev level : ℕ
  level = max_levels - length (leading (parts to))

  S' : Sound s'
  S' = move-sound s path to ok G

  -- the delete
  D : Effect s (delete path)
  unfolding refusal of_file
  D = effect s (delete path) refl ok G.from

  -- the file of another path than the new one
  come-untouched : (other : List ℕ) → path_ok other ≡ true → other ≢ to → Untouched s₁ s' other
  come-untouched other good ne = by-depth s₁ to other (check-zero s₁ A.rest) good ne s' λ v.
      let p = other_path s₁ A.rest to other G.good good G.short v A.there ne in
      untouched s₁ s' A.rest (home s₁ to, level) A.inside (slot_on s₁ to) A.k₁ A.k₂ A.only (rw A.was) A.now A.values A.stuff other
      (inr (no-file s₁ (entry_on s₁ to) (last_part (parts other)) A.was)) (beside s₁ s' (entry_on s₁ to) to other A.called p)

  pub move-untouched : (other : List ℕ) → path_ok other ≡ true → other ≢ path → other ≢ to → Untouched s (move_image s path to) other
  move-untouched other good p q = untouched-then s s₁ s' other (delete-untouched s path other ok good p G.from) (come-untouched other good q)

  come-shown : (other : List ℕ) → other ≢ to → file_at s' other ≡ file_at s₁ other
  come-shown other ne = other-shown s₁ s' A.rest A.only.len other (λ g. come-untouched other g ne)

  pub move-others : (other : List ℕ) → other ≢ path → other ≢ to → file_at (move_image s path to) other ≡ file_at s other
  unfolding after subject
  move-others other p q = come-shown other q ∙ D.others other p

  pub move-left : file_at (move_image s path to) path ≡ nothing
  unfolding after subject made
  move-left = come-shown path (paths-apart s path to ok G) ∙ D.own

  pub move-folders : (other : List ℕ) → folder_at (move_image s path to) other ≡ folder_at s other
  unfolding after
  move-folders other =
      let O : OneEntry s₁ s' = record { d = (home s₁ to, level); di = A.inside; k = slot_on s₁ to; k₁ = A.k₁; k₂ = A.k₂; only = A.only; was = rw A.was; now = A.now } in
      folder-shown s₁ s' A.rest O other ∙ D.folders other

  pub move-found : path_slot is_file (move_image s path to) to ≡ move_slot s path to
  move-found = own-slot s₁ s' to A.rest G.good G.short A.there level A.inside (slot_on s₁ to) A.k₁ A.k₂ A.only (rw A.was) A.now S' A.file A.called ∙ A.slot_is

  pub move-come : file_at (move_image s path to) to ≡ file_at s path
  move-come =
      own-shown s₁ s' to A.rest G.good G.short A.there level A.inside (slot_on s₁ to) A.k₁ A.k₂ A.only (rw A.was) A.now S' A.file A.called
      ∙ ap just A.view ∙ sym (file-shown s path G.from)
