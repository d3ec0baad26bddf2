use Rattle.std.proofs.Common.{◌≡◌, ◌&&◌, eqb, length, drop}
use Rattle.layout.specs.Lists.{same}
use Rattle.layout.proofs.bytes.equal.Given as goal

abbrev pub invariant-loop-i : goal.invariant-loop-i
invariant-loop-i l = (length l.a ≡ length l.b) × (same l.a l.b ≡ eqb l.worst 0 && same (drop l.i l.a) (drop l.i l.b))
