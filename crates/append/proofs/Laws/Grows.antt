-- Blocks taken, and a change of other bytes before or after it.
use Prim.Native.Nat.{ℕ, zero, suc, ◌+◌, ◌-◌, ◌*◌, ◌≤◌, ◌<◌}
use mathlib.Core.Path.{◌≡◌, refl, sym, ap, ◌∙◌, subst}
use mathlib.Core.List.{List, [], ◌∷◌, ◌++◌}
use mathlib.Core.Logic.{◌⊎◌, inl, inr, ⊎_elim}
use native.Mathlib.Omega.{arith}
use lib.ListN.{length, take, drop}
use Rattle.layout.specs.Bytes.{be32, bytes4, zeros, splice}
use Rattle.layout.specs.Geometry.{table_blocks, root_block}
use Rattle.layout.specs.Table.{set_next}
use Rattle.volume.specs.Entries.{set_occupied, linked, taken, grown}
use Rattle.volume.specs.Write.{put}
use Rattle.layout.proofs.Laws.Tests.{lt-or-ge, lt-or-gt}
use Rattle.layout.proofs.Laws.Lists.{In}
use Rattle.layout.proofs.Laws.Frames.{same-be32, same_beside, set-next-length}
use Rattle.layout.proofs.Laws.Bytes.{splice-nil, length-zeros, length-take-most}
use Rattle.volume.proofs.Laws.Table.{cleared-length, taken-length, linked-length}
use Rattle.layout.proofs.Laws.Splices.{splice-commutes}
use Rattle.volume.proofs.Laws.Puts.{run_length}

module _ (n : ℕ) (n₁ : 3 ≤ n) where
  -- bytes behind the table
  module _ (at : ℕ) (p : List ℕ) (low : 512 * root_block n ≤ at) (fit : at + length p ≤ 512 * n) where
    entry-commutes : (s : List ℕ) (b v : ℕ) → length s ≡ 512 * n → b < n → set_next (splice s at p) b v ≡ splice (set_next s b v) at p
    unfolding set_next bytes4
    entry-commutes s b v len bn = splice-commutes s at p (512 + 4 * b) (bytes4 v) (omega arith) (omega arith) (inr (omega arith))

    link-commutes : (s : List ℕ) (a b : ℕ) → length s ≡ 512 * n → a < n → linked (splice s at p) a b ≡ splice (linked s a b) at p
    unfolding linked
    link-commutes s zero b len an = refl
    link-commutes s (suc a) b len an = entry-commutes s (suc a) b len an

    counts-commute : (s : List ℕ) (u : ℕ) → length s ≡ 512 * n → set_occupied (splice s at p) n u ≡ splice (set_occupied s n u) at p
    unfolding set_occupied bytes4
    counts-commute s u len = splice-commutes s at p 20 (bytes4 u ++ bytes4 (n - u)) (omega arith) (omega arith) (inr (omega arith))

    taken-commutes : (s : List ℕ) (a b : ℕ) → length s ≡ 512 * n → a < n → b < n → (at + length p ≤ 512 * b) ⊎ (512 * b + 512 ≤ at) → taken (splice s at p) n a b ≡ splice (taken s n a b) at p
    unfolding taken
    taken-commutes s a b len an bn apart =
        let lz : length (zeros 512) ≡ 512 = length-zeros 512 in
        let u : List ℕ = splice s (512 * b) (zeros 512) in
        let lu : length u ≡ 512 * n = cleared-length n n₁ s a b len an bn in
        let v : List ℕ = set_next u b 1 in
        let lv : length v ≡ 512 * n = set-next-length u b 1 (omega arith) ∙ lu in
        let w : List ℕ = linked v a b in
        let lw : length w ≡ 512 * n = linked-length v b a (omega arith) ∙ lv in
        let c₀ : be32 (splice s at p) 20 ≡ be32 s 20 = same-be32 s (splice s at p) 20 4 20 (same_beside s at p (omega arith) 20 4 (inl (omega arith))) (omega arith) (omega arith) in
        let c₁ : splice (splice s at p) (512 * b) (zeros 512) ≡ splice u at p =
        splice-commutes s at p (512 * b) (zeros 512) (omega arith) (omega arith) (⊎_elim (λ g. inl g) (λ g. inr (omega arith)) apart) in
        let c₂ : set_next (splice u at p) b 1 ≡ splice v at p = entry-commutes u b 1 lu bn in
        let c₃ : linked (splice v at p) a b ≡ splice w at p = link-commutes v a b lv an in
        rw (c₀, c₁, c₂, c₃) (counts-commute w (be32 s 20 + 1) lw)

    pub grown-commutes : (bs s : List ℕ) (a : ℕ) → length s ≡ 512 * n → a < n → ((q : ℕ) → In q bs → q < n)
        → ((q : ℕ) → In q bs → (at + length p ≤ 512 * q) ⊎ (512 * q + 512 ≤ at)) → grown (splice s at p) n a bs ≡ splice (grown s n a bs) at p
    unfolding grown
    grown-commutes [] s a len an h apart = refl
    grown-commutes (b ∷ bs) s a len an h apart =
        let bn = h b (inl refl) in
        ap (λ (u : List ℕ). grown u n b bs) (taken-commutes s a b len an bn (apart b (inl refl)))
        ∙ grown-commutes bs (taken s n a b) b (taken-length n n₁ s a b len an bn) bn (λ q i. h q (inr i)) (λ q i. apart q (inr i))

  -- data in other blocks
  pub grown-put : (bs cs s : List ℕ) (o : ℕ) (x : List ℕ) (a : ℕ) → length s ≡ 512 * n → a < n → ((q : ℕ) → In q bs → (table_blocks n < q) × (q < n)) → ((q : ℕ) → In q cs → q < n)
      → ((q : ℕ) → In q bs → In q cs → ⊥) → grown (put s bs o x) n a cs ≡ put (grown s n a cs) bs o x
  unfolding put
  grown-put [] cs s o x a len an h g far = refl
  grown-put (b ∷ bs) cs s o x a len an h g far =
      grown-put bs cs (splice s (512 * b + o) (take (512 - o) x)) (o - 512) (drop (512 - o) x) a (run_length n s len b (h b (inl refl)).1 o x) an (λ q i. h q (inr i)) g (λ q i j. far q (inr i) j)
      ∙ ap (λ (u : List ℕ). put u bs (o - 512) (drop (512 - o) x)) (go (lt-or-ge o 512))
    where
      go : (o < 512) ⊎ (512 ≤ o) → grown (splice s (512 * b + o) (take (512 - o) x)) n a cs ≡ splice (grown s n a cs) (512 * b + o) (take (512 - o) x)
      go (inl k) =
          let l : length (take (512 - o) x) ≤ 512 - o = length-take-most (512 - o) x in
          let w = h b (inl refl) in
          grown-commutes (512 * b + o) (take (512 - o) x) (omega (arith, w.0)) (omega (arith, w.1)) cs s a len an g
          (λ q i. ⊎_elim (λ j. inl (omega arith)) (λ j. inr (omega arith)) (lt-or-gt b q (λ e. far b (inl refl) (subst (λ (z : ℕ). In z cs) (sym e) i))))
      go (inr k) = let z : 512 - o ≡ 0 = omega arith in rw (z, splice-nil s (512 * b + o), splice-nil (grown s n a cs) (512 * b + o))
