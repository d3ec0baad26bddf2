-- So many blocks along the chain.
use Prim.Native.Nat.{◌<◌}
use mathlib.Core.Path.{◌≡◌}
use Rattle.layout.proofs.Laws.Chains.{nth}
use Rattle.chain_table.specs.Numbers.{value_in}
use Rattle.chain_table.proofs.questions.nth.Given as goal

abbrev pub invariant-loop : goal.invariant-loop
invariant-loop l = (l.i < l.k) × (l.b < 0x100000000) × (l.b ≡ nth (value_in l.numbers) l.counter l.first)
