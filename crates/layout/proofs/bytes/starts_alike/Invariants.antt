use Rattle.std.proofs.Common.{◌≡◌, ◌+◌, ◌*◌, ◌≤◌, ◌<◌, ℕ, length, get_or}
use Rattle.layout.proofs.bytes.starts_alike.Given as goal

abbrev pub invariant-loop-i : goal.invariant-loop-i
invariant-loop-i l =
    ((j : ℕ) → j < 4 * l.i → j < length l.name → get_or l.field j 0 ≡ get_or l.name j 0)
    × ((j : ℕ) → length l.name ≤ j + 4 * l.i → j < length l.name → get_or l.field j 0 ≡ get_or l.name j 0)
