use Prim.Native.Nat.{ℕ, ◌<◌}
use mathlib.Core.Path.{◌≡◌}
use lib.ListN.{length}
use Rattle.layout.proofs.Laws.Chains.{nth}
use Rattle.chain_table.specs.Numbers.{value_in}
use Rattle.chain_table.proofs.questions.chain.Given as goal

abbrev pub invariant-loop-block : goal.invariant-loop-block
invariant-loop-block l =
    (length l.blocks ≡ length l.initial.blocks) × (l.b ≡ nth (value_in l.numbers) l.block-index l.first) × (l.b < 0x100000000) × ((x : ℕ) → x < l.block-index → value_in l.blocks x ≡ nth (value_in l.numbers) x l.first)
