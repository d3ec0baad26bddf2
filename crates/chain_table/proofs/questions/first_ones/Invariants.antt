use Prim.Native.Nat.{◌+◌, ◌-◌}
use mathlib.Core.Path.{◌≡◌}
use lib.ListN.{length}
use Rattle.layout.specs.Geometry.{table_blocks}
use Rattle.layout.specs.Table.{all_ones}
use Rattle.chain_table.specs.Numbers.{value_in}
use Rattle.chain_table.proofs.questions.first_ones.Given as goal

abbrev pub invariant-loop-b : goal.invariant-loop-b
invariant-loop-b l =
    (l.b-end ≡ table_blocks (length l.numbers) + 1) × (all_ones (value_in l.numbers) 0 (table_blocks (length l.numbers) + 1) ≡ all_ones (value_in l.numbers) l.b (l.b-end - l.b))
