-- Blocks freed: other chains stay; and the steps that free a chain, each its first block.
use Prim.Native.Nat.{ℕ, zero, suc, ◌-◌, ◌*◌, ◌≤◌, ◌<◌}
use mathlib.Core.Path.{◌≡◌, refl, sym, ◌∙◌}
use mathlib.Core.Bool.{true}
use mathlib.Core.List.{List}
use mathlib.Core.Logic.{inl, inr, ⊎_elim, ◌≢◌}
use native.Mathlib.Omega.{arith}
use lib.ListN.{length}
use Rattle.layout.specs.Geometry.{block_count, table_blocks}
use Rattle.layout.specs.Table.{next, chain, chain_ok}
use Rattle.volume.specs.Entries.{released, freed}
use Rattle.volume.proofs.Laws.Table.{released-next, freed-size, freed-same, freed-at, freed-other, freed-used, freed-free}
use Rattle.layout.proofs.Laws.Lists.{In}
use Rattle.layout.proofs.Laws.Tests.{lt-or-gt}
use Rattle.layout.proofs.Laws.Frames.{same_then}
use Rattle.layout.proofs.Laws.Chains.{nth, nth-agree, chain-in, chain-agree, Chain, chain_ok-split, chain_ok-join, chain-used, rest-same}
use Rattle.layout.proofs.Laws.Tables.{table-popped}
use Rattle.layout.proofs.Laws.Sound.{Sound, blocks_of_all}
use Rattle.layout.proofs.Laws.Steps.{over, over-same, over-other, Midway, Staying, kept_above, dir-apart}

-- a chain that shares no block with those freed is the chain that it was
module _ (n : ℕ) (n₁ : 3 ≤ n) (bs s : List ℕ) (first k : ℕ) (len : length s ≡ 512 * n) (below : (q : ℕ) → In q bs → q < n) (above : (q : ℕ) → In q bs → table_blocks n < q)
    (right : chain_ok (next s) n first k ≡ true) (apart : (q : ℕ) → In q (chain (next s) first k) → In q bs → ⊥)
  where
    C : Chain (next s) n first k
    C = chain_ok-split (next s) n first k right

    same : (y : ℕ) → y < k → next (released s n bs) (nth (next s) y first) ≡ next s (nth (next s) y first)
    same y h =
        let q : ℕ = nth (next s) y first in
        released-next n n₁ bs s q len below above (omega (arith, C.below y h)) (apart q (chain-in (next s) first k q y h refl))

    at : (x : ℕ) → x ≤ k → nth (next (released s n bs)) x first ≡ nth (next s) x first
    at x h = nth-agree (next s) (next (released s n bs)) x first (λ y g. same y (omega arith))

    pub released-chain : chain (next (released s n bs)) first k ≡ chain (next s) first k
    released-chain = chain-agree (next s) (next (released s n bs)) first k same

    pub released-chained : chain_ok (next (released s n bs)) n first k ≡ true
    released-chained =
        chain_ok-join (next (released s n bs)) n first k
        (record { above = λ x h. rw (at x (omega arith)) (C.above x h); below = λ x h. rw (at x (omega arith)) (C.below x h); last = λ pos. rw (at k (omega arith)) (C.last pos) })

module _ (s : List ℕ) (S : Sound s) (ks : List (ℕ × ℕ)) (P : ℕ → Type 0) (f l : ℕ → ℕ) (k : ℕ) (St : Staying s ks P f l k) where
  abbrev n : ℕ
  n = block_count s

  -- the first block of the chain is freed
  module _ (t : List ℕ) (b c : ℕ) (I : Midway s ks P f l k t b (suc c)) where
    mine : Chain (next t) n b (suc c)
    mine = rw (over-same k b f, over-same k (suc c) l) at (I.table.right k St.owner)

    bn : b < n
    bn = mine.below 0 (omega arith)

    tb : table_blocks n < b
    tb = mine.above 0 (omega arith)

    whole : length t ≡ 512 * n
    whole = I.len ∙ S.whole

    used-b : next t b ≢ 0
    used-b = chain-used (next t) n b (suc c) mine S.least 0 (omega arith)

    away : (q : ℕ) → In q (blocks_of_all s ks) → q ≢ b
    away q i = dir-apart s S ks P f l k St t b (suc c) I q i 0 (omega arith)

    freed-step : Midway s ks P f l k (freed t n b) (next t b) c
    freed-step =
        record {
          len = freed-size n S.least t b whole bn tb ∙ I.len;
          head = same_then s t (freed t n b) 0 20 I.head (freed-same n S.least t b whole bn tb 0 20 (inl (omega arith)) (inl (omega arith)));
          tail = same_then s t (freed t n b) 28 4 I.tail (freed-same n S.least t b whole bn tb 28 4 (inr (omega arith)) (inl (omega arith)));
          kept = λ q i.
              let w = kept_above s S ks P f l k St q i in
              same_then s t (freed t n b) (512 * q) 512 (I.kept q i) (freed-same n S.least t b whole bn tb (512 * q) 512 (inr (omega arith))
              (inr (omega arith, ⊎_elim (λ p. inl (omega arith)) (λ p. inr (omega arith)) (lt-or-gt q b (away q i)))));
          values = λ q i. freed-other n S.least t b whole bn tb q (omega (arith, (kept_above s S ks P f l k St q i).1)) (away q i) ∙ I.values q i;
          table = table-popped n P (next t) (over k b f) (over k (suc c) l) I.table S.least k St.owner (next (freed t n b)) (over k (next t b) f) (over k c l)
              (λ j h ne. over-other k (next t b) f j ne ∙ sym (over-other k b f j ne)) (λ j h ne. over-other k c l j ne ∙ sym (over-other k (suc c) l j ne))
              (rw (over-same k (suc c) l) (omega arith)) (rw (over-same k b f) (freed-at n S.least t b whole bn tb)) (λ x h ne. freed-other n S.least t b whole bn tb x h (rw (over-same k b f) at ne))
              (rw (over-same k (next t b) f, over-same k b f)) (omega (arith, over-same k c l, over-same k (suc c) l));
          used = freed-used n S.least t b whole bn tb used-b I.used S.most;
          free = freed-free n S.least t b whole bn tb used-b I.used S.most;
        }

  -- then all of them
  pub released-steps : (c : ℕ) (t : List ℕ) (b : ℕ) → Midway s ks P f l k t b c → (z : ℕ) × Midway s ks P f l k (released t n (chain (next t) b c)) z 0
  unfolding released chain
  released-steps zero t b I = (b, I)
  released-steps (suc c) t b I =
      let e : suc c - 1 ≡ c = omega arith in
      let q : chain (next (freed t n b)) (next t b) c ≡ chain (next t) (next t b) c =
      rw e at (rest-same (next t) (next (freed t n b)) n b (suc c) (mine t b c I) S.least (omega arith) (λ x h ne. freed-other n S.least t b (whole t b c I) (bn t b c I) (tb t b c I) x (omega arith) ne)) in
      let r = released-steps c (freed t n b) (next t b) (freed-step t b c I) in
      (r.0, rw q at r.1)
