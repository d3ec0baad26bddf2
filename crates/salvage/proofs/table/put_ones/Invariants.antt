use Rattle.std.proofs.Common.{◌≡◌, ◌-◌, length}
use Rattle.layout.specs.Lists.{interval}
use Rattle.salvage.specs.Salvage.{one_at, in_turn}
use Rattle.salvage.proofs.table.put_ones.Given as goal

abbrev pub invariant-loop-b : goal.invariant-loop-b
invariant-loop-b l = (length l.image ≡ length l.initial.image) × (in_turn one_at l.initial.image (interval 0 l.k) ≡ in_turn one_at l.image (interval l.b (l.k - l.b)))
