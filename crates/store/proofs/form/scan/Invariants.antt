use lib.ListN.{length}
use Prim.Native.Nat.{◌-◌}
use Rattle.store.proofs.Walks.Records.{Scanning}
use Rattle.store.proofs.form.scan.Given as goal

abbrev pub invariant-loop-at : goal.invariant-loop-at
invariant-loop-at l = Scanning l.records l.at l.count l.last

abbrev pub decreases-loop-at : goal.decreases-loop-at
decreases-loop-at l = length l.records - l.at
