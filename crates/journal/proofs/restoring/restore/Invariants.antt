-- What is left to put back, put back from here, gives what all gives from the start.
use Rattle.journal.proofs.Walks.Restores.{Restoring}
use Rattle.journal.proofs.restoring.restore.Given as goal

abbrev pub invariant-loop-i : goal.invariant-loop-i
invariant-loop-i l = Restoring l.initial.image l.journal l.n l.at l.k l.image l.i
