-- Data put in two parts, and a change of other bytes before or after it.
use Prim.Native.Nat.{ℕ, suc, ◌+◌, ◌-◌, ◌*◌, ◌≤◌, ◌<◌}
use mathlib.Core.Path.{◌≡◌, refl, ap, ◌∙◌}
use mathlib.Core.List.{List, [], ◌∷◌, ◌++◌}
use mathlib.Core.Logic.{◌⊎◌, inl, inr, ⊎_elim}
use native.Mathlib.Omega.{arith}
use lib.ListN.{length, take, drop, length-drop, drop_of_length-le}
use lib.Seq.{take_all, take-nil, drop-nil, take-append-le, drop-append-le, take-append-add, drop-append-add}
use Rattle.layout.specs.Bytes.{bytes4, bytes8, splice}
use Rattle.volume.specs.Write.{put, set_file}
use Rattle.layout.proofs.Laws.Tests.{lt-or-ge}
use Rattle.layout.proofs.Laws.Lists.{In}
use Rattle.layout.proofs.Laws.Bytes.{length-splice, splice-nil, splice-append, length-bytes8, length-take-most}
use Rattle.layout.proofs.Laws.Splices.{splice-commutes, splice-over}

put-none : (bs s : List ℕ) (o : ℕ) → put s bs o [] ≡ s
unfolding put
put-none [] s o = refl
put-none (b ∷ bs) s o = rw (take-nil {A = ℕ} (512 - o), drop-nil {A = ℕ} (512 - o), splice-nil s (512 * b + o)) (put-none bs s (o - 512))

-- blocks behind those that the data fits into stay
pub put-fits : (bs cs s : List ℕ) (o : ℕ) (x : List ℕ) → o + length x ≤ 512 * length bs → put s (bs ++ cs) o x ≡ put s bs o x
unfolding put
put-fits [] cs s o [] h = put-none cs s o
put-fits [] cs s o (x ∷ xs) h = absurd (omega arith)
put-fits (b ∷ bs) cs s o x h = put-fits bs cs (splice s (512 * b + o) (take (512 - o) x)) (o - 512) (drop (512 - o) x) (omega (arith, length-drop (512 - o) x))

-- a splice of bytes beside a block, before or after one of bytes in the block
module _ (n : ℕ) (s : List ℕ) (len : length s ≡ 512 * n) (b : ℕ) (bn : b < n) (o : ℕ) (x : List ℕ) where
  abbrev w : List ℕ
  w = take (512 - o) x

  pub run_length : length (splice s (512 * b + o) (take (512 - o) x)) ≡ 512 * n
  run_length = go (lt-or-ge o 512)
    where
      go : (o < 512) ⊎ (512 ≤ o) → length (splice s (512 * b + o) w) ≡ 512 * n
      go (inl h) = length-splice s (512 * b + o) w (omega (arith, length-take-most (512 - o) x)) ∙ len
      go (inr h) = let z : 512 - o ≡ 0 = omega arith in rw (z, splice-nil s (512 * b + o)) len

  run-commutes : (at : ℕ) (p : List ℕ) → at + length p ≤ 512 * n → (at + length p ≤ 512 * b) ⊎ (512 * b + 512 ≤ at)
      → splice (splice s at p) (512 * b + o) (take (512 - o) x) ≡ splice (splice s (512 * b + o) (take (512 - o) x)) at p
  run-commutes at p fit apart = go (lt-or-ge o 512)
    where
      go : (o < 512) ⊎ (512 ≤ o) → splice (splice s at p) (512 * b + o) w ≡ splice (splice s (512 * b + o) w) at p
      go (inl h) =
          let l : length w ≤ 512 - o = length-take-most (512 - o) x in
          splice-commutes s at p (512 * b + o) w (omega arith) (omega arith) (⊎_elim (λ g. inl (omega arith)) (λ g. inr (omega arith)) apart)
      go (inr h) = let z : 512 - o ≡ 0 = omega arith in rw (z, splice-nil s (512 * b + o), splice-nil (splice s at p) (512 * b + o))

module _ (n : ℕ) where
  -- two runs of data, one after the other
  pub put-joined : (bs s : List ℕ) (o : ℕ) (x y : List ℕ) → length s ≡ 512 * n → ((q : ℕ) → In q bs → q < n) → put (put s bs o x) bs (o + length x) y ≡ put s bs o (x ++ y)
  unfolding put
  put-joined [] s o x y len h = refl
  put-joined (b ∷ bs) s o [] y len h = let e : o + 0 ≡ o = omega arith in rw (put-none (b ∷ bs) s o, e)
  put-joined (b ∷ bs) s o (c ∷ cs) y len h =
      go (c ∷ cs) (omega arith) (lt-or-ge (512 - o) (suc (length cs))) (λ u x lu. put-joined bs u (o - 512) x y lu (λ q i. h q (inr i)))
    where
      go : (x : List ℕ) → 0 < length x → (512 - o < length x) ⊎ (length x ≤ 512 - o)
          → ((u x : List ℕ) → length u ≡ 512 * n → put (put u bs (o - 512) x) bs (o - 512 + length x) y ≡ put u bs (o - 512) (x ++ y))
          → put (splice (put (splice s (512 * b + o) (take (512 - o) x)) bs (o - 512) (drop (512 - o) x)) (512 * b + (o + length x)) (take (512 - (o + length x)) y)) bs (o + length x - 512) (drop (512 - (o + length x)) y)
          ≡ put (splice s (512 * b + o) (take (512 - o) (x ++ y))) bs (o - 512) (drop (512 - o) (x ++ y))
      go x some (inl g) ih =
          let z : 512 - (o + length x) ≡ 0 = omega arith in
          let u : List ℕ = splice s (512 * b + o) (take (512 - o) x) in
          let l : length (drop (512 - o) x) ≡ length x - (512 - o) = length-drop (512 - o) x in
          let e : o + length x - 512 ≡ o - 512 + length (drop (512 - o) x) = omega arith in
          let t : take (512 - o) (x ++ y) ≡ take (512 - o) x = take-append-le (512 - o) x y (omega arith) in
          let d : drop (512 - o) (x ++ y) ≡ drop (512 - o) x ++ y = drop-append-le (512 - o) x y (omega arith) in
          rw (z, splice-nil (put u bs (o - 512) (drop (512 - o) x)) (512 * b + (o + length x)), t, d, e) (ih u (drop (512 - o) x) (run_length n s len b (h b (inl refl)) o x))
      go x some (inr g) ih =
          let k : ℕ = 512 - o - length x in
          let z : 512 - (o + length x) ≡ k = omega arith in
          let k₁ : 512 - o ≡ length x + k = omega arith in
          let e : o + length x - 512 ≡ o - 512 = omega arith in
          let a : 512 * b + (o + length x) ≡ 512 * b + o + length x = omega arith in
          let t : take (512 - o) (x ++ y) ≡ x ++ take k y = ap (λ (i : ℕ). take i (x ++ y)) k₁ ∙ take-append-add x y k in
          let d : drop (512 - o) (x ++ y) ≡ drop k y = ap (λ (i : ℕ). drop i (x ++ y)) k₁ ∙ drop-append-add x y k in
          let j : splice (splice s (512 * b + o) x) (512 * b + o + length x) (take k y) ≡ splice s (512 * b + o) (x ++ take k y) =
          splice-append s (512 * b + o) x (take k y) (omega (arith, h b (inl refl), length-take-most k y)) in
          let dx : drop (512 - o) x ≡ [] = drop_of_length-le x g in
          rw (t, d, take_all (512 - o) x g, dx, put-none bs (splice s (512 * b + o) x) (o - 512), z, e, a, j)

  -- bytes beside the blocks
  pub put-commutes : (bs s : List ℕ) (o : ℕ) (x : List ℕ) (at : ℕ) (p : List ℕ) → length s ≡ 512 * n → ((q : ℕ) → In q bs → q < n) → at + length p ≤ 512 * n
      → ((q : ℕ) → In q bs → (at + length p ≤ 512 * q) ⊎ (512 * q + 512 ≤ at)) → put (splice s at p) bs o x ≡ splice (put s bs o x) at p
  unfolding put
  put-commutes [] s o x at p len h fit apart = refl
  put-commutes (b ∷ bs) s o x at p len h fit apart =
      ap (λ (u : List ℕ). put u bs (o - 512) (drop (512 - o) x)) (run-commutes n s len b (h b (inl refl)) o x at p fit (apart b (inl refl)))
      ∙ put-commutes bs (splice s (512 * b + o) (take (512 - o) x)) (o - 512) (drop (512 - o) x) at p (run_length n s len b (h b (inl refl)) o x) (λ q i. h q (inr i)) fit (λ q i. apart q (inr i))

-- the numbers of an entry, set twice
pub set-file-again : (s : List ℕ) (e first size blocks first' size' blocks' time : ℕ) → e + 128 ≤ length s
    → set_file (set_file s e first size blocks time) e first' size' blocks' time ≡ set_file s e first' size' blocks' time
unfolding set_file bytes4
set-file-again s e first size blocks first' size' blocks' time fit =
    let p : List ℕ = bytes4 first ++ (bytes4 size ++ bytes4 blocks) in
    let q : List ℕ = bytes4 first' ++ (bytes4 size' ++ bytes4 blocks') in
    let t : List ℕ = bytes8 time in
    let lt : length t ≡ 8 = length-bytes8 time in
    let u : List ℕ = splice s (e + 4) p in
    let lp : length p ≡ 12 = refl in
    let lq : length q ≡ 12 = refl in
    let lu : length u ≡ length s = length-splice s (e + 4) p (omega arith) in
    let v : List ℕ = splice s (e + 4) q in
    let lv : length v ≡ length s = length-splice s (e + 4) q (omega arith) in
    let a : splice (splice u (e + 24) t) (e + 4) q ≡ splice (splice u (e + 4) q) (e + 24) t = splice-commutes u (e + 24) t (e + 4) q (omega arith) (omega arith) (inr (omega arith)) in
    let b : splice u (e + 4) q ≡ v = splice-over s (e + 4) p q refl (omega arith) in
    ap (λ (r : List ℕ). splice r (e + 24) t) (a ∙ ap (λ (r : List ℕ). splice r (e + 24) t) b) ∙ splice-over v (e + 24) t t refl (omega arith)
