use mathlib.Core.Path.{ap, ◌∙◌}
use mathlib.Core.List.{List, [], ◌∷◌}
use Prim.Native.Nat.{ℕ}
use Rattle.volume.specs.Walks.Marks.{marked}
use Rattle.volume.proofs.moving.move_named.Goals as goal

-- src/moving.rt:110:1
pub returns : goal.returns
unfolding marked
returns c =
    let a = c.args in
    c.mark-2.ensures ∙ ap (λ (x : List ℕ). marked x (a.found.block ∷ [])) c.mark.ensures
