use Prim.Native.Nat.{◌-◌, ◌*◌}
use Rattle.layout.specs.Table.{next, chain}
use Rattle.lister.specs.Text.{slot_lines}
use Rattle.lister.proofs.Pieces.{Pending}
use Rattle.layout.specs.Walks.Slots.{Place}
use Rattle.lister.proofs.listing.file_lines.Given as goal

abbrev pub invariant-loop-k : goal.invariant-loop-k
invariant-loop-k l = (Pending l.initial.out l.at (slot_lines l.image 1 (4 * l.d - 2)) l.out l.p (slot_lines l.image l.k (4 * l.d - 1 - l.k))) × (Place (chain (next l.image) l.first l.d) l.d l.b l.k (4 * l.d - 1 - l.k))
