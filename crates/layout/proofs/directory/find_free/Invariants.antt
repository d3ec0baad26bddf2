use Rattle.std.proofs.Common.{◌≡◌, ◌-◌, ◌*◌}
use Rattle.layout.specs.Table.{next, chain}
use Rattle.layout.specs.Walks.Slots.{Place, slot_free, slot_from}
use Rattle.layout.proofs.directory.find_free.Given as goal

abbrev pub invariant-loop-slot : goal.invariant-loop-slot
invariant-loop-slot l =
    (Place (chain (next l.image) l.first l.d) l.d l.b l.slot (4 * l.d - 1 - l.slot)) × (slot_from (slot_free l.image) (chain (next l.image) l.first l.d) 1 (4 * l.d - 2) ≡ slot_from (slot_free l.image) (chain (next l.image) l.first l.d) l.slot (4 * l.d - 1 - l.slot))
