use Rattle.std.proofs.Common.{◌+◌, ◌-◌}
use Rattle.salvage_tree.proofs.Walks.Names.{Seeking}
use Rattle.salvage_tree.proofs.names.is_new.Given as goal

abbrev pub invariant-loop-k : goal.invariant-loop-k
invariant-loop-k l = Seeking l.image l.blocks l.name l.j l.k (l.j + 1 - l.k)
