use Prim.Native.Nat.{◌-◌}
use mathlib.Core.Path.{◌≡◌}
use lib.ListN.{length}
use Rattle.script.proofs.Walks.Running.{Midway}
use Rattle.journal.specs.Run.{state}
use Rattle.script.proofs.runner.execute.Given as goal

abbrev pub invariant-loop-at : goal.invariant-loop-at
invariant-loop-at l =
    Midway (state l.initial.image l.initial.journal) l.script l.initial.out l.image l.journal l.out l.at l.q × (length l.image ≡ length l.initial.image) × (length l.journal ≡ length l.initial.journal) ×
    (length l.out ≡ length l.initial.out)

abbrev pub decreases-loop-at : goal.decreases-loop-at
decreases-loop-at l = length l.script - l.at
