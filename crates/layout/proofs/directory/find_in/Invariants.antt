use Rattle.std.proofs.Common.{◌≡◌, ◌-◌}
use Rattle.layout.specs.Lists.{within}
use Rattle.layout.specs.Walks.Slots.{entry_named, slot_in}
use Rattle.layout.proofs.directory.find_in.Given as goal

abbrev pub invariant-loop-at : goal.invariant-loop-at
invariant-loop-at l =
    slot_in (entry_named (within l.lo l.hi) l.image l.name) l.b l.k l.j ≡ slot_in (entry_named (within l.lo l.hi) l.image l.name) l.b l.at (l.at-end - l.at)
