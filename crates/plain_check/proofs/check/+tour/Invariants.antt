-- `tour` calls itself on a child directory: the falling number is the levels that are left. The loop falls by the entries that are left.
use Prim.Native.Nat.{◌-◌, ◌*◌, ◌≤◌}
use mathlib.Core.Bool.{true}
use mathlib.Core.List.{List}
use mathlib.Core.Path.{◌≡◌}
use Rattle.layout.specs.Lists.{interval}
use Rattle.layout.specs.Directory.{slot_at, blocks_of, directory}
use Rattle.layout.specs.Check.{slot_ok}
use Rattle.plain_check.specs.Plain.{tour_slots, tour_entries, tour_child}
use Rattle.plain_check.specs.Walks.{word}
use Rattle.plain_check.proofs.Walks.Slots.{Place}
use Prim.Native.Nat.{ℕ, ◌<◌}
use Rattle.plain_check.proofs.check.+tour.Given as goal

-- what holds at the head of the loop
pub record Inv (s : List ℕ) (n levels d before end met e k : ℕ) : Type 0 where
  pub low : 2 ≤ k
  pub few : end ≤ 4 * word
  pub whole : end ≡ 4 * blocks_of s (512 * d)
  pub some : 1 ≤ met
  pub most : met ≤ n
  pub place : Place s d e (k - 2)
  pub right : (j : ℕ) → 1 ≤ j → j < k - 1 → slot_ok s (slot_at (directory s d) j) ≡ true
  pub equal : tour_entries (tour_child levels s n d) s (directory s d) before ≡ tour_slots (tour_child levels s n d) s (directory s d) (interval (k - 1) (end - k)) met

abbrev pub invariant-loop-k : goal.invariant-loop-k
invariant-loop-k l = Inv l.image l.n l.levels l.d l.before l.k-end l.met l.e l.k

abbrev pub decreases-loop-k : goal.decreases-loop-k
decreases-loop-k l = l.k-end - l.k

abbrev pub decreases-tour : goal.decreases-tour
decreases-tour l = l.levels
