use mathlib.Core.Path.{◌≡◌}
use lib.ListN.{length}
use Rattle.volume.specs.Search.{lowest_free}
use Rattle.chain_table.specs.Numbers.{value_in}
use Rattle.chain_table.proofs.questions.lowest_free.Given as goal

abbrev pub invariant-loop-b : goal.invariant-loop-b
invariant-loop-b l = (l.n ≡ length l.numbers) × (lowest_free (value_in l.numbers) l.from l.n ≡ lowest_free (value_in l.numbers) l.b l.n)
