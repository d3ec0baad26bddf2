use Rattle.std.proofs.Common.{◌-◌, ◌*◌}
use Rattle.salvage.proofs.Walks.Root.{Taking, InRange}
use Rattle.salvage.proofs.slots.take_slots.Given as goal

abbrev pub invariant-loop-k : goal.invariant-loop-k
invariant-loop-k l =
    (Taking l.initial.image l.root.n l.root.first l.root.d l.initial.report l.image l.marks l.notes.prints l.notes.places l.report l.b l.k (4 * l.root.d - 1 - l.k))
    × (InRange l.root.n l.root.d l.initial.report l.image l.b)
