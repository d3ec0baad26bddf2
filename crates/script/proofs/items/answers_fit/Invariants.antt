use Prim.Native.Nat.{◌-◌}
use mathlib.Core.Path.{◌≡◌}
use mathlib.Core.Bool.{true}
use lib.Dec.{leb}
use lib.ListN.{length}
use Rattle.layout.specs.Lists.{every}
use Rattle.script.specs.Script.{item_ok, items_from, calls_of, calls_from, answers_size}
use Rattle.script.proofs.items.answers_fit.Given as goal

abbrev pub invariant-loop-at : goal.invariant-loop-at
invariant-loop-at l = (every (item_ok l.script) (items_from l.script l.at) ≡ true) × (leb (answers_size (calls_of l.script)) l.room ≡ leb (answers_size (calls_from l.script l.at)) l.left)

abbrev pub decreases-loop-at : goal.decreases-loop-at
decreases-loop-at l = length l.script - l.at
