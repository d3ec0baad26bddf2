use native.Mathlib.Omega.{arith}
use Rattle.std.proofs.Common.{refl}
use Rattle.layout.specs.Bytes.{zeros}
use Rattle.salvage_tree.proofs.Walks.Lost.{hung-steps}
use Rattle.salvage_tree.proofs.lost.put_hung.Goals as goal

pub set_byte-requires : goal.set_byte-requires
set_byte-requires c = omega (arith, c.requires)

pub clear_bytes-requires : goal.clear_bytes-requires
clear_bytes-requires c = (omega (arith, c.requires), omega arith)

pub clear_bytes-requires-2 : goal.clear_bytes-requires-2
clear_bytes-requires-2 c = (omega (arith, c.requires), omega arith)

pub returns : goal.returns
unfolding zeros
returns c = hung-steps _ _ _ _ _ _ _ _ _ _ c.requires.0 c.requires.1 refl c.copy_part.ensures c.copy_part-2.ensures c.set_byte.ensures c.clear_bytes.ensures c.clear_bytes-2.ensures
