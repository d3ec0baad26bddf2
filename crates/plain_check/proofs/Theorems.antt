-- THE THEOREM of the plain check (02, L12): "it gives the same number as the first check on every image, damaged ones included".
use Prim.Native.Nat.{ℕ, ◌≤◌, ◌+◌, ◌-◌, ◌*◌}
use mathlib.Core.Bool.{Bool, true, false, not}
use mathlib.Core.List.{List}
use mathlib.Core.Path.{◌≡◌, refl, ap}
use lib.Dec.{eqb}
use lib.ListN.{length}
use Rattle.layout.specs.Lists.{every, interval}
use Rattle.layout.specs.Limits.{min_blocks, max_blocks}
use Rattle.layout.specs.Refusals.{require, first_of}
use Rattle.layout.specs.Geometry.{block_count, table_blocks}
use Rattle.layout.specs.Table.{next, chain_ok}
use Rattle.layout.specs.Check.{stage1, stage2, stage3, stage6, stage7, check, visit_root, fault_of, all_chains}
use Rattle.layout.proofs.Laws.Tests.{and_split, within-split}
use Rattle.layout.proofs.Laws.Lists.{every-same}
use Rattle.plain_check.specs.Plain.{one, total, holds, answer, claims, holders, counted, tour_root, stop_of, plain_stage6, plain_check}
use Rattle.plain_check.proofs.Laws.Sums.{asked}
use Rattle.plain_check.proofs.Laws.Tours.{tour-visit}
use Rattle.plain_check.proofs.Laws.Holders.{tally, claim, table_counted}

stage1-least : (s : List ℕ) → stage1 s ≡ true → min_blocks ≤ block_count s
unfolding stage1
stage1-least s e = (within-split min_blocks max_blocks (block_count s) (and_split (eqb (length s) (512 * block_count s)) _ e).1).0

-- how many chains hold block b: as many as stand in the list of all chains
pub holders-tally : (s : List ℕ) (b : ℕ) → holders s b ≡ tally (next s) b (all_chains s)
unfolding holders answer
holders-tally s b = asked (λ first k. one (holds (next s) b first k)) s

claims-total : (s : List ℕ) → claims s ≡ total (claim (next s) (block_count s)) (all_chains s)
unfolding claims answer
claims-total s = asked (λ first k. k + (block_count s + 1) * one (not (chain_ok (next s) (block_count s) first k))) s

pub stage6-same : (s : List ℕ) → min_blocks ≤ block_count s → plain_stage6 s ≡ stage6 s
unfolding plain_stage6 stage6 counted
stage6-same s h =
    let n = block_count s in
    let t = table_blocks n in
    let e : every (λ b. eqb (holders s b) (one (not (eqb (next s b) 0)))) (interval (t + 1) (n - (t + 1)))
    ≡ every (λ b. eqb (tally (next s) b (all_chains s)) (one (not (eqb (next s b) 0)))) (interval (t + 1) (n - (t + 1))) =
    every-same _ _ (interval (t + 1) (n - (t + 1))) (λ b i. ap (λ (x : ℕ). eqb x (one (not (eqb (next s b) 0)))) (holders-tally s b)) in
    rw (claims-total s, e) (table_counted (next s) n h (all_chains s))

pub plain-is-check : (s : List ℕ) → plain_check s ≡ check s
unfolding plain_check check
plain-is-check s = go (stage1 s) refl
  where
    go : (t : Bool) → stage1 s ≡ t
        → require t 1 (require (stage2 s) 2 (require (stage3 s) 3 (first_of (stop_of (tour_root s)) (require (plain_stage6 s) 6 (require (stage7 s) 7 0)))))
        ≡ require t 1 (require (stage2 s) 2 (require (stage3 s) 3 (first_of (fault_of (visit_root s)) (require (stage6 s) 6 (require (stage7 s) 7 0)))))
    go true e = let h = stage1-least s e in rw (tour-visit s h, stage6-same s h)
    go false e = refl
