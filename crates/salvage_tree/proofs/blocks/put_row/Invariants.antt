use mathlib.Core.Path.{◌≡◌}
use lib.ListN.{length, take}
use Rattle.layout.specs.Limits.{max_directory}
use Rattle.layout.specs.Lists.{interval}
use Rattle.salvage_tree.proofs.blocks.put_row.Given as goal

abbrev pub invariant-loop-k : goal.invariant-loop-k
invariant-loop-k l = (take l.k l.blocks ≡ interval l.b l.k) × (length l.blocks ≡ max_directory)
