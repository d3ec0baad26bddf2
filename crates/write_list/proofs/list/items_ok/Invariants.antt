use Prim.Native.Nat.{◌-◌}
use lib.ListN.{length}
use Rattle.write_list.proofs.Laws.Turns.{Scanning}
use Rattle.write_list.proofs.list.items_ok.Given as goal

abbrev pub invariant-loop-at : goal.invariant-loop-at
invariant-loop-at l = Scanning l.list l.at

abbrev pub decreases-loop-at : goal.decreases-loop-at
decreases-loop-at l = length l.list - l.at
