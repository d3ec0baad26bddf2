use Rattle.std.proofs.Common.{◌≡◌, ◌-◌, ◌*◌, ◌≤◌}
use Rattle.layout.specs.Walks.Names.{sums, fingerprint}
use Rattle.layout.proofs.names.fingerprint.Given as goal

abbrev pub invariant-loop-i : goal.invariant-loop-i
invariant-loop-i l = (l.sum ≤ 4503685525667820 * l.i) × (fingerprint l.field ≡ sums l.field l.i (20 - l.i) l.sum)
