-- `meet` calls itself on a child directory: the falling number is the levels that are left. The loop falls by the entries that are left.
use Prim.Native.Nat.{◌+◌, ◌-◌, ◌*◌, ◌≤◌}
use mathlib.Core.List.{List}
use mathlib.Core.Path.{◌≡◌}
use Rattle.layout.specs.Lists.{interval}
use Rattle.layout.specs.Directory.{blocks_of, directory}
use Rattle.plain_check.specs.Plain.{count, meet, meet_slots}
use Rattle.plain_check.specs.Walks.{word}
use Rattle.plain_check.proofs.Walks.Slots.{Place}
use Rattle.plain_check.proofs.Walks.Meets.{down}
use Prim.Native.Nat.{ℕ}
use Rattle.plain_check.proofs.check.+meet.Given as goal

-- what holds at the head of the loop
pub record Inv (s : List ℕ) (levels b d still before end more held e k : ℕ) : Type 0 where
  pub low : 2 ≤ k
  pub few : end ≤ 4 * word
  pub whole : end ≡ 4 * blocks_of s (512 * d)
  pub sums : more + held ≤ still + before
  pub place : Place s d e (k - 2)
  pub equal : meet levels s b d (count still before) ≡ meet_slots (down levels s b) s (directory s d) (interval (k - 1) (end - k)) (count more held)

abbrev pub invariant-loop-k : goal.invariant-loop-k
invariant-loop-k l = Inv l.image l.levels l.b l.d l.still l.before l.k-end l.more l.held l.e l.k

abbrev pub decreases-loop-k : goal.decreases-loop-k
decreases-loop-k l = l.k-end - l.k

abbrev pub decreases-meet : goal.decreases-meet
decreases-meet l = l.levels
