use Rattle.std.proofs.Common.{◌≡◌, ℕ, ◌<◌, get_or}
use Rattle.salvage_tree.specs.Walks.{used_bits}
use Rattle.salvage_tree.proofs.salvage_tree.note_used.Given as goal

abbrev pub invariant-loop-b : goal.invariant-loop-b
invariant-loop-b l = (x : ℕ) → x < l.b → get_or l.slots-items x 0 ≡ used_bits l.image x
