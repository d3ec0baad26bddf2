use mathlib.Core.Path.{◌≡◌}
use Prim.Native.Nat.{◌-◌, ◌*◌, ◌≤◌}
use Rattle.layout.specs.Lists.{within}
use Rattle.layout.specs.Table.{next, chain}
use Rattle.layout.specs.Walks.Slots.{Place, entry_named, slot_from}
use Rattle.layout.proofs.directory.find.Given as goal

abbrev pub invariant-loop-left : goal.invariant-loop-left
invariant-loop-left l = (Place (chain (next l.image) l.first l.d) l.d l.b l.k l.left) × (slot_from (entry_named (within l.lo l.hi) l.image l.name) (chain (next l.image) l.first l.d) 1 (4 * l.d - 2) ≡ slot_from (entry_named (within l.lo l.hi) l.image l.name) (chain (next l.image) l.first l.d) l.k l.left) × (1 ≤ l.k)

abbrev pub decreases-loop-left : goal.decreases-loop-left
decreases-loop-left l = l.left
