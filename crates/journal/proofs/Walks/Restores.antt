-- The turns of the loop that puts a record's bytes back, in plain terms.
use Prim.Native.Nat.{ℕ, ◌+◌, ◌-◌, ◌*◌, ◌≤◌, ◌<◌}
use mathlib.Core.Path.{◌≡◌, refl, sym, ◌∙◌}
use mathlib.Core.Bool.{true}
use mathlib.Core.List.{List, map}
use native.Mathlib.Omega.{arith}
use native.Mathlib.Nat.{sub-zero}
use borrow.Author.Tests.{ltb-true}
use lib.Dec.{ltb}
use lib.ListN.{length}
use Rattle.layout.specs.Lists.{interval, every}
use Rattle.layout.specs.Bytes.{splice}
use Rattle.journal.specs.Journal.{block_at, bytes_at, restored}
use Rattle.layout.proofs.Laws.Tests.{and_split}
use Rattle.layout.proofs.Laws.Lists.{interval-from}

-- what is left to put back, put back onto the image as it is now, gives what all gives
pub record Restoring (old j : List ℕ) (n at k : ℕ) (s : List ℕ) (i : ℕ) : Type 0 where
  pub within : i ≤ k
  pub long : length s ≡ length old
  pub below : every (λ b. ltb b n) (map (block_at j at) (interval i (k - i))) ≡ true
  pub whole : restored old j at (interval 0 k) ≡ restored s j at (interval i (k - i))

pub restore-start : (s j : List ℕ) (n at k : ℕ) → every (λ b. ltb b n) (map (block_at j at) (interval 0 k)) ≡ true → Restoring s j n at k s 0
restore-start s j n at k t = record { within = omega arith; long = refl; below = rw sub-zero t; whole = rw sub-zero }

module _ (old j : List ℕ) (n at k : ℕ) (s : List ℕ) (i : ℕ) (r : Restoring old j n at k s i) where
  split : i < k → (ltb (block_at j at i) n ≡ true) × (every (λ b. ltb b n) (map (block_at j at) (interval (i + 1) (k - (i + 1)))) ≡ true)
  split h = and_split (ltb (block_at j at i) n) _ (rw (interval-from k i h) at r.below)

  pub restore-below : i < k → block_at j at i < n
  restore-below h = ltb-true _ _ (split h).0

  pub restore-one : i < k → (t : List ℕ) → length t ≡ length s → t ≡ splice s (512 * block_at j at i) (bytes_at j at i) → Restoring old j n at k t (i + 1)
  unfolding restored
  restore-one h t l e = record { within = omega arith; long = l ∙ r.long; below = (split h).1; whole = r.whole ∙ rw (interval-from k i h, e) }

  pub restore-end : k ≤ i → s ≡ restored old j at (interval 0 k)
  unfolding restored
  restore-end h = let e : k - i ≡ 0 = omega arith in sym (r.whole ∙ rw e)
