use Rattle.std.proofs.Common.{◌-◌, ◌≤◌}
use Rattle.layout.specs.Walks.Entries.{Scanned, Clean}
use Rattle.layout.proofs.bytes.name_ok.Given as goal

abbrev pub invariant-loop-end : goal.invariant-loop-end
invariant-loop-end l = (l.end ≤ 80) × (Scanned l.field l.end l.count l.last × Clean l.field l.end l.clean)

abbrev pub decreases-loop-end : goal.decreases-loop-end
decreases-loop-end l = 80 - l.end
