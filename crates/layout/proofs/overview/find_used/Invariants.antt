use Rattle.std.proofs.Common.{◌≡◌, ◌-◌, ◌*◌}
use Rattle.layout.specs.Table.{next, chain}
use Rattle.layout.specs.Walks.Slots.{Place, used_from}
use Rattle.layout.proofs.overview.find_used.Given as goal

abbrev pub invariant-loop-slot : goal.invariant-loop-slot
invariant-loop-slot l =
    (Place (chain (next l.image) l.first l.d) l.d l.b l.slot (4 * l.d - 1 - l.slot)) × (used_from l.start l.image (chain (next l.image) l.first l.d) 1 (4 * l.d - 2) ≡ used_from l.start l.image (chain (next l.image) l.first l.d) l.slot (4 * l.d - 1 - l.slot))
