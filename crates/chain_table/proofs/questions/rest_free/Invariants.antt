use Prim.Native.Nat.{◌+◌, ◌-◌}
use mathlib.Core.Path.{◌≡◌}
use lib.ListN.{length}
use Rattle.layout.specs.Geometry.{table_blocks}
use Rattle.layout.specs.Table.{rest_free}
use Rattle.chain_table.specs.Numbers.{value_in}
use Rattle.chain_table.proofs.questions.rest_free.Given as goal

abbrev pub invariant-loop-b : goal.invariant-loop-b
invariant-loop-b l = (l.n ≡ length l.numbers) × (rest_free (value_in l.numbers) l.marks (table_blocks l.n + 1) (l.n - (table_blocks l.n + 1)) ≡ rest_free (value_in l.numbers) l.marks l.b (l.n - l.b))
