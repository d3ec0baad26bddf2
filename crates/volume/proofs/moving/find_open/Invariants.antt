use Rattle.std.proofs.Common.{◌≡◌, ◌-◌, ◌*◌}
use Rattle.layout.specs.Table.{next, chain}
use Rattle.layout.specs.Walks.Slots.{Place, slot_from}
use Rattle.volume.specs.Walks.Moves.{slot_open}
use Rattle.volume.proofs.moving.find_open.Given as goal

abbrev pub invariant-loop-slot : goal.invariant-loop-slot
invariant-loop-slot l = record {
  place : Place (chain (next l.image) l.first l.d) l.d l.b l.slot (4 * l.d - 1 - l.slot);
  same : slot_from (slot_open l.image l.own) (chain (next l.image) l.first l.d) 1 (4 * l.d - 2) ≡ slot_from (slot_open l.image l.own) (chain (next l.image) l.first l.d) l.slot (4 * l.d - 1 - l.slot);
}
