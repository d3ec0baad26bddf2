use native.Mathlib.Omega.{arith}
use Rattle.layout.proofs.Walks.Shapes.{shape-block_count}
use Rattle.salvage_tree.proofs.Walks.Rest.{header-steps}
use Rattle.salvage_tree.proofs.rest.put_header.Goals as goal

pub put_counts-requires : goal.put_counts-requires
put_counts-requires c = let h = c.requires.0 in record { whole = omega (arith, h); low = h.low; high = h.high }

pub returns : goal.returns
returns c = header-steps _ _ _ _ _ _ _ _ (shape-block_count _ _ c.requires.0) c.requires.1 c.sign.ensures c.put_number.ensures c.put_number-2.ensures c.put_number-3.ensures c.put_counts.ensures
