use Rattle.std.proofs.Common.{◌≡◌, ◌-◌, ◌≤◌}
use Rattle.layout.specs.Walks.Stages.{follow_blocks}
use Rattle.layout.proofs.chains.follow_blocks.Given as goal

abbrev pub invariant-loop-b : goal.invariant-loop-b
invariant-loop-b l = (l.b ≤ l.n) × (follow_blocks l.image l.n l.dirs 0 l.n l.initial.marks ≡ follow_blocks l.image l.n l.dirs l.b (l.n - l.b) l.marks)

abbrev pub decreases-loop-b : goal.decreases-loop-b
decreases-loop-b l = l.n - l.b
