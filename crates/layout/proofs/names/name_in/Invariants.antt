use Prim.Native.Nat.{◌-◌, ◌≤◌}
use mathlib.Core.Path.{◌≡◌}
use lib.ListN.{get_or}
use Rattle.layout.specs.Table.{next, chain}
use Rattle.layout.specs.Walks.Slots.{entry_at}
use Rattle.layout.specs.Walks.Names.{other_names}
use Rattle.layout.proofs.names.name_in.Given as goal

abbrev pub invariant-loop-i : goal.invariant-loop-i
invariant-loop-i l =
    (1 ≤ l.i) × (l.i ≤ l.k) × (l.p ≡ get_or l.prints l.k 0) ×
    (other_names l.image (chain (next l.image) l.first l.d) (entry_at l.b l.k) 1 (l.k - 1) ≡ other_names l.image (chain (next l.image) l.first l.d) (entry_at l.b l.k) l.i (l.k - l.i))

abbrev pub decreases-loop-i : goal.decreases-loop-i
decreases-loop-i l = l.k - l.i
