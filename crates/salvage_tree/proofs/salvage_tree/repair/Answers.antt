use native.Mathlib.Omega.{arith}
use Rattle.salvage_tree.proofs.Walks.Lost.{tree-taken, all-repaired}
use Rattle.salvage_tree.proofs.Walks.Levels.{ready-again}
use Rattle.salvage_tree.proofs.salvage_tree.repair.Goals as goal

pub take_root-requires : goal.take_root-requires
take_root-requires c = c.requires

pub hang_each-requires : goal.hang_each-requires
hang_each-requires c = (ready-again _ _ _ _ _ _ _ _ c.requires.0 (omega arith) (omega arith) (omega arith), tree-taken _ _ _ _ _ _ _ _ c.requires.0 c.take_root.ensures)

pub put_rest-requires : goal.put_rest-requires
put_rest-requires c = ready-again _ _ _ _ _ _ _ _ c.requires.0 (omega arith) (omega arith) (omega arith)

pub returns : goal.returns
returns c =
    let g = all-repaired _ _ _ _ _ _ _ _ _ _ _ _ _ c.requires.0 c.take_root.ensures c.hang_each.ensures c.put_rest.ensures in
    record { bytes = g.0; codes = g.1 }
