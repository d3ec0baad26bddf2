use Rattle.std.proofs.Common.{◌≡◌, ◌-◌}
use Rattle.layout.specs.Walks.Stages.{follow_slots}
use Rattle.layout.proofs.chains.follow_block.Given as goal

abbrev pub invariant-loop-k : goal.invariant-loop-k
invariant-loop-k l = follow_slots l.image l.n l.b 0 4 l.initial.marks ≡ follow_slots l.image l.n l.b l.k (4 - l.k) l.marks
