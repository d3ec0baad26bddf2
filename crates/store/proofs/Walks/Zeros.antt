-- Zeros along a chain: the turns of `zero_along`.
use Prim.Native.Nat.{ℕ, suc, ◌+◌, ◌-◌, ◌*◌, ◌≤◌, ◌<◌}
use mathlib.Core.Path.{◌≡◌, ap, ◌∙◌}
use mathlib.Core.Bool.{true, false, ◌&&◌}
use mathlib.Core.List.{List, ◌++◌}
use mathlib.Core.Logic.{◌⊎◌, inl, inr, ⊎_elim}
use native.Mathlib.Omega.{arith}
use lib.ListN.{length, take, drop}
use lib.Seq.{drop-append-add}
use Rattle.layout.specs.Bytes.{part}
use Rattle.layout.specs.Table.{next}
use Rattle.layout.specs.Walks.Entries.{all_zero}
use Rattle.layout.proofs.Laws.Bytes.{length_part, part-part}
use Rattle.layout.proofs.Laws.Chains.{nth}
use Rattle.layout.proofs.Walks.Names.{all_zero-append, all_zero-none}
use Rattle.layout.proofs.Walks.Content.{chain_bytes, chain_bytes-next, part-append}

-- a run along a chain: behind its first block, and with a part of that block
module _ (img : List ℕ) (n b left o rest : ℕ) (size : length img ≡ 512 * n) (some : 0 < left) (w : b < n) where
  abbrev x : List ℕ
  x = part img (512 * b) 512

  abbrev y : List ℕ
  y = chain_bytes img (next img b) (left - 1)

  x-long : length x ≡ 512
  x-long = length_part img (512 * b) 512 (omega arith)

  run-pass : 512 ≤ o → part (chain_bytes img b left) o rest ≡ part y (o - 512) rest
  run-pass far =
      let l = x-long in
      let e : o ≡ length x + (o - 512) = omega arith in
      ap (take rest) (ap (drop o) (chain_bytes-next img b left some) ∙ ap (λ (i : ℕ). drop i (x ++ y)) e ∙ drop-append-add x y (o - 512))

  run-split : (m : ℕ) → (o + m ≤ 512) × (m ≤ rest) × ((rest - m ≡ 0) ⊎ (o + m ≡ 512)) → part (chain_bytes img b left) o rest ≡ part img (512 * b + o) m ++ part y 0 (rest - m)
  run-split m f =
      let l = x-long in
      let g = f.0 in
      let h = f.1 in
      let s : rest ≡ m + (rest - m) = omega arith in
      let c : (rest - m ≡ 0) ⊎ (o + m ≡ length x) = ⊎_elim (λ u. inl u) (λ v. inr (omega arith)) f.2 in
      let z : part x o m ≡ part img (512 * b + o) m = part-part img (512 * b) 512 o m (omega arith) (omega arith) in
      ap (λ (q : List ℕ). take rest (drop o q)) (chain_bytes-next img b left some) ∙ ap (λ (i : ℕ). take i (drop o (x ++ y))) s
      ∙ part-append x y o m (rest - m) (omega arith) c ∙ rw z

-- what is left to look at is zero exactly if all is
pub record Zeroing (img : List ℕ) (n k first offset count b left o rest : ℕ) : Type 0 where
  pub enough : o + rest ≤ 512 * left
  pub inside : (i : ℕ) → i < left → nth (next img) i b < n
  pub whole : all_zero (part (chain_bytes img first k) offset count) ≡ all_zero (part (chain_bytes img b left) o rest)

module _ (img : List ℕ) (n k first offset count b left o rest : ℕ) (Z : Zeroing img n k first offset count b left o rest) where
  pub zeroing-here : 0 < rest → (0 < left) × (b < n)
  zeroing-here h = let e = Z.enough in let l : 0 < left = omega arith in (l, Z.inside 0 l)

  pub zeroing-end : rest ≡ 0 → all_zero (part (chain_bytes img first k) offset count) ≡ true
  zeroing-end z = Z.whole ∙ rw z all_zero-none

  module _ (size : length img ≡ 512 * n) (h : 0 < rest) where
    pub zeroing-pass : 512 ≤ o → Zeroing img n k first offset count (next img b) (left - 1) (o - 512) rest
    zeroing-pass far =
        let w = zeroing-here h in
        let e = Z.enough in
        record {
          enough = omega (arith, w.0);
          inside = λ i g. Z.inside (suc i) (omega (arith, w.0));
          whole = Z.whole ∙ ap all_zero (run-pass img n b left o rest size w.0 w.1 far);
        }

    module _ (m : ℕ) (f : (o + m ≤ 512) × (m ≤ rest) × ((rest - m ≡ 0) ⊎ (o + m ≡ 512))) where
      split : all_zero (part (chain_bytes img first k) offset count) ≡ all_zero (part img (512 * b + o) m) && all_zero (part (chain_bytes img (next img b) (left - 1)) 0 (rest - m))
      split =
          let w = zeroing-here h in
          Z.whole ∙ ap all_zero (run-split img n b left o rest size w.0 w.1 m f) ∙ all_zero-append (part img (512 * b + o) m) _

      pub zeroing-stop : all_zero (part img (512 * b + o) m) ≡ false → all_zero (part (chain_bytes img first k) offset count) ≡ false
      zeroing-stop q = split ∙ rw q

      pub zeroing-step : all_zero (part img (512 * b + o) m) ≡ true → Zeroing img n k first offset count (next img b) (left - 1) 0 (rest - m)
      zeroing-step q =
          let w = zeroing-here h in
          let e = Z.enough in
          let g = f.1 in
          record {
            enough = ⊎_elim (λ u. omega (arith, w.0)) (λ v. omega (arith, w.0)) f.2;
            inside = λ i g. Z.inside (suc i) (omega (arith, w.0));
            whole = split ∙ rw q;
          }
