-- `tally` calls itself on a child directory: the falling number is the levels that are left. The loop falls by the entries that are left.
use Prim.Native.Nat.{◌+◌, ◌-◌, ◌*◌, ◌≤◌}
use mathlib.Core.List.{List}
use mathlib.Core.Path.{◌≡◌}
use Rattle.layout.specs.Directory.{blocks_of}
use Rattle.plain_check.specs.Plain.{Question}
use Rattle.plain_check.specs.Plain.{ask_tree, answer}
use Rattle.plain_check.specs.Walks.{word, Answers}
use Rattle.plain_check.proofs.Walks.Slots.{Place}
use Rattle.plain_check.proofs.Walks.Tallies.{Sofar, rest}
use Prim.Native.Nat.{ℕ}
use Rattle.plain_check.proofs.check.+tally.Given as goal

-- what holds at the head of the loop
pub record Inv (post : ℕ → ℕ → ℕ → Type 0) (s : List ℕ) (n levels d before end sum e k : ℕ) : Type 0 where
  pub low : 2 ≤ k
  pub few : end ≤ 4 * word
  pub whole : end ≡ 4 * blocks_of s (512 * d)
  pub place : Place s d e (k - 2)
  pub sums : (q : Question) → Answers post q s n → Sofar n (before + ask_tree (answer q s n) levels s d) sum (rest q s n d levels k end)

abbrev pub invariant-loop-k : goal.invariant-loop-k
invariant-loop-k g l = Inv (goal.F-post g l.ask) l.image l.n l.levels l.d l.before l.k-end l.sum l.e l.k

abbrev pub decreases-loop-k : goal.decreases-loop-k
decreases-loop-k g l = l.k-end - l.k

abbrev pub decreases-tally : goal.decreases-tally
decreases-tally g l = l.levels
