-- A write and a second one at its end, on bytes alone: blocks are taken, data is put and the entry is set, and the order of these does not matter.
use Prim.Native.Nat.{ℕ, ◌+◌, ◌*◌, ◌≤◌, ◌<◌}
use mathlib.Core.Path.{◌≡◌, refl, sym, ap, ◌∙◌}
use mathlib.Core.Bool.{true}
use mathlib.Core.List.{List, ◌++◌, append_assoc}
use mathlib.Core.Logic.{◌⊎◌, inl, inr, ⊎_elim}
use native.Mathlib.Omega.{arith}
use lib.ListN.{length, get_or}
use lib.Dec.{eqb}
use Rattle.layout.specs.Bytes.{bytes4, bytes8, splice}
use Rattle.layout.specs.Lists.{last_or, distinct}
use Rattle.layout.specs.Geometry.{table_blocks, root_block}
use Rattle.volume.specs.Entries.{grown}
use Rattle.volume.specs.Write.{put, set_file}
use Rattle.layout.proofs.Laws.Lists.{In, in_left, in_right, last-in, last-append, distinct_apart}
use Rattle.layout.proofs.Laws.Tests.{eqb-self}
use Rattle.layout.proofs.Laws.Bytes.{length-splice, length-bytes8}
use Rattle.volume.proofs.Laws.Frame.{grown-length, put-length}
use borrow.Author.Tests.{eqb-true}
use Rattle.volume.proofs.Laws.Table.{grown-append}
use Rattle.volume.proofs.Laws.Puts.{put-fits, put-joined, put-commutes, set-file-again}
use Rattle.append.proofs.Laws.Grows.{grown-commutes, grown-put}

-- what a write leaves, by the blocks that the file has and those that it takes
abbrev pub wrote : List ℕ → ℕ → (old new : List ℕ) → ℕ → List ℕ → ℕ → ℕ → ℕ → List ℕ
wrote s n old new offset bytes e size time = set_file (put (grown s n (last_or 0 old) new) (old ++ new) offset bytes) e (get_or (old ++ new) 0 0) size (length (old ++ new)) time

module _ (n : ℕ) (n₁ : 3 ≤ n) (e : ℕ) (low : 512 * root_block n ≤ e) (high : e + 128 ≤ 512 * n) where
  -- an entry set before or after blocks are taken
  set_grown : (bs s : List ℕ) (a first size blocks time : ℕ) → length s ≡ 512 * n → a < n → ((q : ℕ) → In q bs → q < n)
      → ((q : ℕ) → In q bs → (e + 128 ≤ 512 * q) ⊎ (512 * q + 512 ≤ e)) → grown (set_file s e first size blocks time) n a bs ≡ set_file (grown s n a bs) e first size blocks time
  unfolding set_file bytes4
  set_grown bs s a first size blocks time len an below apart =
      let p : List ℕ = bytes4 first ++ (bytes4 size ++ bytes4 blocks) in
      let lp : length p ≡ 12 = refl in
      let t : List ℕ = bytes8 time in
      let lt : length t ≡ 8 = length-bytes8 time in
      let lu : length (splice s (e + 4) p) ≡ length s = length-splice s (e + 4) p (omega arith) in
      grown-commutes n n₁ (e + 24) t (omega arith) (omega arith) bs (splice s (e + 4) p) a (lu ∙ len) an below (λ q i. ⊎_elim (λ g. inl (omega arith)) (λ g. inr (omega arith)) (apart q i))
      ∙ ap (λ (r : List ℕ). splice r (e + 24) t)
      (grown-commutes n n₁ (e + 4) p (omega arith) (omega arith) bs s a len an below (λ q i. ⊎_elim (λ g. inl (omega arith)) (λ g. inr (omega arith)) (apart q i)))

  -- and before or after data is put
  set-put : (bs s : List ℕ) (o : ℕ) (x : List ℕ) (first size blocks time : ℕ) → length s ≡ 512 * n → ((q : ℕ) → In q bs → q < n)
      → ((q : ℕ) → In q bs → (e + 128 ≤ 512 * q) ⊎ (512 * q + 512 ≤ e)) → put (set_file s e first size blocks time) bs o x ≡ set_file (put s bs o x) e first size blocks time
  unfolding set_file bytes4
  set-put bs s o x first size blocks time len below apart =
      let p : List ℕ = bytes4 first ++ (bytes4 size ++ bytes4 blocks) in
      let lp : length p ≡ 12 = refl in
      let t : List ℕ = bytes8 time in
      let lt : length t ≡ 8 = length-bytes8 time in
      let lu : length (splice s (e + 4) p) ≡ length s = length-splice s (e + 4) p (omega arith) in
      put-commutes n bs (splice s (e + 4) p) o x (e + 24) t (lu ∙ len) below (omega arith) (λ q i. ⊎_elim (λ g. inl (omega arith)) (λ g. inr (omega arith)) (apart q i))
      ∙ ap (λ (r : List ℕ). splice r (e + 24) t)
      (put-commutes n bs s o x (e + 4) p len below (omega arith) (λ q i. ⊎_elim (λ g. inl (omega arith)) (λ g. inr (omega arith)) (apart q i)))

  module _ (s old new more : List ℕ) (len : length s ≡ 512 * n) (above : (q : ℕ) → In q ((old ++ new) ++ more) → table_blocks n < q) (below : (q : ℕ) → In q ((old ++ new) ++ more) → q < n)
      (once : distinct eqb ((old ++ new) ++ more) ≡ true) (apart : (q : ℕ) → In q ((old ++ new) ++ more) → (e + 128 ≤ 512 * q) ⊎ (512 * q + 512 ≤ e))
      (z : ℕ) (x y : List ℕ) (fits : z + length x ≤ 512 * length (old ++ new)) (size size' time : ℕ)
    where
      front : (q : ℕ) → In q (old ++ new) → In q ((old ++ new) ++ more)
      front q i = in_left q (old ++ new) more i

      back : (q : ℕ) → In q more → In q ((old ++ new) ++ more)
      back q i = in_right q (old ++ new) more i

      last-old : last_or 0 old < n
      last-old = ⊎_elim (λ h. omega arith) (λ i. below (last_or 0 old) (front (last_or 0 old) (in_left (last_or 0 old) old new i))) (last-in old 0)

      last-new : last_or 0 (old ++ new) < n
      last-new = ⊎_elim (λ h. omega arith) (λ i. below (last_or 0 (old ++ new)) (front (last_or 0 (old ++ new)) i)) (last-in (old ++ new) 0)

      abbrev G : List ℕ
      G = grown s n (last_or 0 old) new

      abbrev G' : List ℕ
      G' = grown s n (last_or 0 old) (new ++ more)

      lg : length G ≡ 512 * n
      lg = grown-length n n₁ new s (last_or 0 old) len last-old (λ q i. below q (front q (in_right q old new i)))

      abbrev P : List ℕ
      P = put G (old ++ new) z x

      lp : length P ≡ 512 * n
      lp = put-length n n₁ (old ++ new) G z x lg (λ q i. below q (front q i))

      grows : grown G n (last_or 0 (old ++ new)) more ≡ G'
      grows = ap (λ (a : ℕ). grown G n a more) (last-append old new 0) ∙ sym (grown-append n new more s (last_or 0 old))

      lg' : length G' ≡ 512 * n
      lg' = ap length (sym grows) ∙ grown-length n n₁ more G (last_or 0 (old ++ new)) lg last-new (λ q i. below q (back q i))

      puts : grown P n (last_or 0 (old ++ new)) more ≡ put G' ((old ++ new) ++ more) z x
      puts =
          grown-put n n₁ (old ++ new) more G z x (last_or 0 (old ++ new)) lg last-new (λ q i. (above q (front q i), below q (front q i))) (λ q i. below q (back q i))
          (λ q i j. distinct_apart eqb eqb-true eqb-self (old ++ new) more once q i j)
          ∙ ap (λ (u : List ℕ). put u (old ++ new) z x) grows ∙ sym (put-fits (old ++ new) more G' z x fits)

      abbrev Q : List ℕ
      Q = put G' ((old ++ new) ++ more) z x

      lq : length Q ≡ 512 * n
      lq = put-length n n₁ ((old ++ new) ++ more) G' z x lg' below

      abbrev R : List ℕ
      R = put G' ((old ++ new) ++ more) z (x ++ y)

      lr : length R ≡ 512 * n
      lr = put-length n n₁ ((old ++ new) ++ more) G' z (x ++ y) lg' below

      pub wrote-twice : wrote (wrote s n old new z x e size time) n (old ++ new) more (z + length x) y e size' time ≡ wrote s n old (new ++ more) z (x ++ y) e size' time
      wrote-twice =
          let first : ℕ = get_or (old ++ new) 0 0 in
          let first' : ℕ = get_or ((old ++ new) ++ more) 0 0 in
          let c : ℕ = length (old ++ new) in
          let c' : ℕ = length ((old ++ new) ++ more) in
          let a : grown (set_file P e first size c time) n (last_or 0 (old ++ new)) more ≡ set_file Q e first size c time =
          set_grown more P (last_or 0 (old ++ new)) first size c time lp last-new (λ q i. below q (back q i)) (λ q i. apart q (back q i)) ∙ ap (λ (u : List ℕ). set_file u e first size c time) puts in
          let b : put (set_file Q e first size c time) ((old ++ new) ++ more) (z + length x) y ≡ set_file R e first size c time =
          set-put ((old ++ new) ++ more) Q (z + length x) y first size c time lq below apart
          ∙ ap (λ (u : List ℕ). set_file u e first size c time) (put-joined n ((old ++ new) ++ more) G' z x y lg' below) in
          let d : set_file (set_file R e first size c time) e first' size' c' time ≡ set_file R e first' size' c' time = set-file-again R e first size c first' size' c' time (omega (arith, lr)) in
          ap (λ (u : List ℕ). set_file (put u ((old ++ new) ++ more) (z + length x) y) e first' size' c' time) a
          ∙ ap (λ (u : List ℕ). set_file u e first' size' c' time) b ∙ d
          ∙ ap (λ (bs : List ℕ). set_file (put G' bs z (x ++ y)) e (get_or bs 0 0) size' (length bs) time) (append_assoc old new more)
