use Rattle.std.proofs.Common.{◌≡◌, ◌&&◌, eqb, drop}
use Rattle.layout.specs.Walks.Entries.{all_zero}
use Rattle.layout.proofs.bytes.all_zero.Given as goal

abbrev pub invariant-loop-x : goal.invariant-loop-x
invariant-loop-x l = all_zero l.s ≡ eqb l.worst 0 && all_zero (drop l.x-index l.s)
