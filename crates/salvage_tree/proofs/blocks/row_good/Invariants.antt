use Rattle.std.proofs.Common.{◌+◌, ◌-◌}
use Rattle.salvage_tree.proofs.Walks.Blocks.{Rowing}
use Rattle.salvage_tree.proofs.blocks.row_good.Given as goal

abbrev pub invariant-loop-i : goal.invariant-loop-i
invariant-loop-i l = Rowing l.n l.b l.d l.marks (l.b + l.i) (l.d - l.i)
