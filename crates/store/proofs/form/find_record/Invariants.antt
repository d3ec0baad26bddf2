use lib.ListN.{length}
use Prim.Native.Nat.{◌-◌}
use Rattle.store.proofs.Walks.Records.{Finding}
use Rattle.store.proofs.form.find_record.Given as goal

abbrev pub invariant-loop-at : goal.invariant-loop-at
invariant-loop-at l = Finding l.records l.x l.at

abbrev pub decreases-loop-at : goal.decreases-loop-at
decreases-loop-at l = length l.records - l.at
