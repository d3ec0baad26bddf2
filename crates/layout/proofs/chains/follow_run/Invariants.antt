use Rattle.std.proofs.Common.{◌≡◌, ◌+◌, ◌-◌}
use Rattle.layout.specs.Walks.Stages.{follow_blocks}
use Rattle.layout.proofs.chains.follow_run.Given as goal

abbrev pub invariant-loop-b : goal.invariant-loop-b
invariant-loop-b l = follow_blocks l.image l.n l.dirs l.from l.k l.initial.marks ≡ follow_blocks l.image l.n l.dirs l.b (l.from + l.k - l.b) l.marks
