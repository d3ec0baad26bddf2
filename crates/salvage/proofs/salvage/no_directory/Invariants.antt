use Rattle.std.proofs.Common.{◌≡◌, ◌-◌, ◌*◌}
use Rattle.layout.specs.Table.{next, chain}
use Rattle.layout.specs.Walks.Slots.{Place}
use Rattle.salvage.specs.Walks.{no_directory}
use Rattle.salvage.proofs.salvage.no_directory.Given as goal

abbrev pub invariant-loop-k : goal.invariant-loop-k
invariant-loop-k l =
    let ds = chain (next l.image) l.fn.root.first l.fn.root.d in
    let rest = 4 * l.fn.root.d - 1 - l.k in
    (Place ds l.fn.root.d l.b l.k rest) × (no_directory l.image ds 1 (4 * l.fn.root.d - 2) ≡ no_directory l.image ds l.k rest)
