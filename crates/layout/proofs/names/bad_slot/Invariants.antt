use Prim.Native.Nat.{◌-◌, ◌*◌, ◌≤◌}
use mathlib.Core.Path.{◌≡◌}
use Rattle.layout.specs.Table.{next, chain}
use Rattle.layout.specs.Walks.Slots.{Place}
use Rattle.layout.specs.Walks.Names.{bad_from, Noted, Filtered}
use Rattle.layout.proofs.names.bad_slot.Given as goal

abbrev pub invariant-loop-left : goal.invariant-loop-left
invariant-loop-left l =
    (1 ≤ l.k) × (Place (chain (next l.image) l.first l.d) l.d l.b l.k l.left) × (Noted l.image (chain (next l.image) l.first l.d) l.prints l.places l.k) × (Filtered l.image (chain (next l.image) l.first l.d) l.seen l.mark l.k)
    × (bad_from l.image (chain (next l.image) l.first l.d) 1 (4 * l.d - 2) ≡ bad_from l.image (chain (next l.image) l.first l.d) l.k l.left)

abbrev pub decreases-loop-left : goal.decreases-loop-left
decreases-loop-left l = l.left
