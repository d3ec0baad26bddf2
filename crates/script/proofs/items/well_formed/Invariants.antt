use Prim.Native.Nat.{◌-◌, ◌≤◌}
use mathlib.Core.Path.{◌≡◌}
use lib.ListN.{length}
use Rattle.layout.specs.Lists.{every}
use Rattle.script.specs.Script.{item_ok, items_from}
use Rattle.script.proofs.items.well_formed.Given as goal

abbrev pub invariant-loop-at : goal.invariant-loop-at
invariant-loop-at l = (l.at ≤ length l.script) × (every (item_ok l.script) (items_from l.script 0) ≡ every (item_ok l.script) (items_from l.script l.at))

abbrev pub decreases-loop-at : goal.decreases-loop-at
decreases-loop-at l = length l.script - l.at
