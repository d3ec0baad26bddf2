-- What is asked from here on is what was asked from the first block on.
use Prim.Native.Nat.{◌-◌}
use mathlib.Core.Path.{◌≡◌}
use lib.ListN.{length}
use Rattle.layout.specs.Geometry.{table_blocks}
use Rattle.layout.specs.Table.{ends_after}
use Rattle.chain_table.specs.Numbers.{value_in}
use Rattle.chain_table.proofs.questions.ends_after.Given as goal

abbrev pub invariant-loop : goal.invariant-loop
invariant-loop l =
    (l.n ≡ length l.numbers) × (l.t ≡ table_blocks l.n) × (ends_after (value_in l.numbers) l.n l.first l.k ≡ ends_after (value_in l.numbers) l.n l.b (l.k - l.counter))
