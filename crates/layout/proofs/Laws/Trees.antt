-- The directories of a right tree: each by its self entry and chain, where its slots are, and that no slot is of two of them.
use Prim.Native.Nat.{ℕ, zero, suc, ◌+◌, ◌*◌, ◌/◌, ◌%◌, ◌≤◌, ◌<◌}
use mathlib.Core.Bool.{true}
use mathlib.Core.List.{List, [], ◌∷◌}
use mathlib.Core.Logic.{inl, inr, ⊎_elim, ◌≢◌}
use mathlib.Core.Path.{◌≡◌, refl, sym, ap, ◌∙◌, subst}
use native.Mathlib.Decide.{ℕ_discrete}
use native.Mathlib.Omega.{arith}
use lib.Dec.{eqb}
use lib.ListN.{length, get_or}
use borrow.Author.Tests.{eq-eqb, eqb-true}
use Rattle.layout.specs.Limits.{min_blocks, max_levels, max_directory}
use Rattle.layout.specs.Lists.{within}
use Rattle.layout.specs.Geometry.{table_blocks}
use Rattle.layout.specs.Table.{next, chain_ok}
use Rattle.layout.specs.Directory.{slot_at, type_of, self_of, parent_of, first_block, blocks_of, directory, root_of, children, below, dirs}
use Rattle.layout.specs.Check.{directory_ok, child_ok}
use Rattle.layout.proofs.Laws.Tests.{and_split, and-join, within-split, within-join, eqb-self, lt-or-gt}
use Rattle.layout.specs.Bytes.{part}
use Rattle.layout.proofs.Laws.Lists.{In}
use Rattle.layout.proofs.Laws.Names.{same-eq, same_refl}
use Rattle.layout.proofs.Laws.Chains.{nth, length-chain, get_d-chain, in-chain, chain-in, Chain, chain_ok-split, chain_ok-join, chain-distinct, chain-differ}
use Rattle.layout.proofs.Laws.Joins.{of-join, to-join, join_apart}
use Rattle.layout.proofs.Laws.Visits.{Tree, Rights, dir_blocks, blocks_in, below-is, under, child_ok-directory}

-- two pairs
pub pair_same : (d d' : ℕ × ℕ) → d.0 ≡ d'.0 → d.1 ≡ d'.1 → d ≡ d'
pair_same d d' p q = ap {B = ℕ × ℕ} (λ (x : ℕ). (x, d.1)) p ∙ ap {B = ℕ × ℕ} (λ (y : ℕ). (d'.0, y)) q

-- the blocks of a directory by its self entry
abbrev pub size_at : List ℕ → ℕ → ℕ
size_at s b = blocks_of s (512 * b)

-- stage 4 of a directory, as facts
pub record Directory (s : List ℕ) (n b p : ℕ) : Type 0 where
  pub self_type : type_of s (512 * b) ≡ 1
  pub self-block : self_of s (512 * b) ≡ b
  pub self-parent : parent_of s (512 * b) ≡ p
  pub d-least : 1 ≤ size_at s b
  pub d-most : size_at s b ≤ max_directory
  pub chained : Chain (next s) n b (size_at s b)

pub directory_ok-split : (s : List ℕ) (n b p : ℕ) → directory_ok s n b p ≡ true → Directory s n b p
unfolding directory_ok
directory_ok-split s n b p e =
    let a₁ = and_split (eqb (type_of s (512 * b)) 1) _ e in
    let a₂ = and_split (eqb (self_of s (512 * b)) b) _ a₁.1 in
    let a₃ = and_split (eqb (parent_of s (512 * b)) p) _ a₂.1 in
    let a₄ = and_split (within 1 max_directory (size_at s b)) _ a₃.1 in
    let a₅ = and_split (chain_ok (next s) n b (size_at s b)) _ a₄.1 in
    let w = within-split 1 max_directory (size_at s b) a₄.0 in
    record {
      self_type = eqb-true _ _ a₁.0;
      self-block = eqb-true _ _ a₂.0;
      self-parent = eqb-true _ _ a₃.0;
      d-least = w.0;
      d-most = w.1;
      chained = chain_ok-split (next s) n b (size_at s b) a₅.0;
    }

pub directory_ok-join : (s : List ℕ) (n b p : ℕ) → min_blocks ≤ n → Directory s n b p → directory_ok s n b p ≡ true
unfolding directory_ok directory
directory_ok-join s n b p h₃ D =
    and-join (eq-eqb _ _ D.self_type) (and-join (eq-eqb _ _ D.self-block) (and-join (eq-eqb _ _ D.self-parent)
    (and-join (within-join 1 max_directory (size_at s b) D.d-least D.d-most) (and-join (chain_ok-join (next s) n b (size_at s b) D.chained)
    (chain-distinct (next s) n b (size_at s b) D.chained h₃)))))

-- stage 4 of a child, by its entry
module _ (s : List ℕ) (n p e : ℕ) where
  pub child_ok-split : child_ok s n p e ≡ true
      → (directory_ok s n (first_block s e) p ≡ true) × (size_at s (first_block s e) ≡ blocks_of s e) × (part s (512 * first_block s e + 48) 80 ≡ part s (e + 48) 80)
  unfolding child_ok
  child_ok-split h =
      let a = and_split (directory_ok s n (first_block s e) p) _ h in
      let c = and_split (eqb (size_at s (first_block s e)) (blocks_of s e)) _ a.1 in
      (a.0, eqb-true _ _ c.0, same-eq _ _ c.1)

  pub child_ok-join : directory_ok s n (first_block s e) p ≡ true → size_at s (first_block s e) ≡ blocks_of s e → part s (512 * first_block s e + 48) 80 ≡ part s (e + 48) 80 → child_ok s n p e ≡ true
  unfolding child_ok
  child_ok-join a q r = and-join a (and-join (eq-eqb _ _ q) (rw r (same_refl (part s (e + 48) 80))))

-- its blocks
module _ (s : List ℕ) (b : ℕ) where
  pub length-directory : length (directory s b) ≡ size_at s b
  unfolding directory
  length-directory = length-chain (next s) b (size_at s b)

  pub get_d-directory : (i : ℕ) → i < size_at s b → get_or (directory s b) i 0 ≡ nth (next s) i b
  unfolding directory
  get_d-directory i h = get_d-chain (next s) b (size_at s b) i h

  pub in-directory : (q : ℕ) → In q (directory s b) → (x : ℕ) × (x < size_at s b) × (q ≡ nth (next s) x b)
  unfolding directory
  in-directory q i = in-chain (next s) b (size_at s b) q i

  pub directory-in : (x : ℕ) → x < size_at s b → In (nth (next s) x b) (directory s b)
  unfolding directory
  directory-in x h = chain-in (next s) b (size_at s b) (nth (next s) x b) x h refl

  -- slot k
  pub slot_at-is : (k : ℕ) → k < 4 * size_at s b → slot_at (directory s b) k ≡ 512 * nth (next s) (k / 4) b + 128 * (k % 4)
  unfolding slot_at
  slot_at-is k h = rw (get_d-directory (k / 4) (omega arith))

  pub slot_at-zero : 1 ≤ size_at s b → slot_at (directory s b) 0 ≡ 512 * b
  slot_at-zero h = omega (arith, slot_at-is 0 (omega arith))

-- every directory of the tree has met stage 4
module _ (s : List ℕ) (n : ℕ) where
  stage-four : (left b p : ℕ) → directory_ok s n b p ≡ true → Rights s n left b → (d : ℕ × ℕ) → In d (below s left b) → (q : ℕ) × (directory_ok s n d.0 q ≡ true)
  stage-four zero b p ok f d i = first (rw (below-is s zero b) at i)
    where
      first : In d ((b, zero) ∷ []) → (q : ℕ) × (directory_ok s n d.0 q ≡ true)
      first (inr x4) = elim x4 [ ]
      first (inl e) = (p, subst (λ (x : ℕ × ℕ). directory_ok s n x.0 p ≡ true) (sym e) ok)
  stage-four (suc left) b p ok f d i =
      first (λ e m. stage-four left (first_block s e) b (child_ok-directory s n b e ((f (b, suc left) (rw (below-is s (suc left) b) (inl refl))).child e m))
      (λ x j. f x (rw (below-is s (suc left) b) (inr (to-join (λ a. below s left (first_block s a)) (children s b) e x m j)))) d)
      (rw (below-is s (suc left) b) at i)
    where
      first : ((e : ℕ) → In e (children s b) → In d (below s left (first_block s e)) → (q : ℕ) × (directory_ok s n d.0 q ≡ true))
          → In d ((b, suc left) ∷ under s (suc left) b) → (q : ℕ) × (directory_ok s n d.0 q ≡ true)
      first g (inl e) = (p, subst (λ (x : ℕ × ℕ). directory_ok s n x.0 p ≡ true) (sym e) ok)
      first g (inr m) = let r = of-join (λ a. below s left (first_block s a)) (children s b) d m in g r.0 r.1 r.2

  pub in_tree : Tree s n → (d : ℕ × ℕ) → In d (dirs s) → (p : ℕ) × Directory s n d.0 p
  unfolding dirs
  in_tree T d i = let r = stage-four max_levels (root_of s) (root_of s) T.rooted T.local d i in (r.0, directory_ok-split s n d.0 r.0 r.1)

  pub root_in : In (root_of s, max_levels) (dirs s)
  unfolding dirs
  root_in = rw (below-is s max_levels (root_of s)) (inl refl)

  -- where the slots are: in blocks of the directory, and no two at one place
  module _ (T : Tree s n) (h₃ : min_blocks ≤ n) where
    pub dir-block : (d : ℕ × ℕ) → In d (dirs s) → (x : ℕ) → x < size_at s d.0 → In (nth (next s) x d.0) (dir_blocks s)
    dir-block d i x h = to-join (blocks_in s) (dirs s) d (nth (next s) x d.0) i (directory-in s d.0 x h)

    pub block-above : (q : ℕ) → In q (dir_blocks s) → (table_blocks n < q) × (q < n)
    block-above q i =
        let r = of-join (blocks_in s) (dirs s) q i in
        let x = in-directory s r.0.0 q r.2 in
        let c = (in_tree T r.0 r.1).1.chained in
        rw x.2 (c.above x.0 x.1, c.below x.0 x.1)

    pub same-dir : (d d' : ℕ × ℕ) → In d (dirs s) → In d' (dirs s) → (x y : ℕ) → x < size_at s d.0 → y < size_at s d'.0 → nth (next s) x d.0 ≡ nth (next s) y d'.0 → d ≡ d'
    same-dir d d' i j x y hx hy e = go (ℕ_discrete d.0 d'.0) (ℕ_discrete d.1 d'.1)
      where
        apart : d ≢ d' → ⊥
        apart ne =
            join_apart (blocks_in s) eqb eqb-true eqb-self (dirs s) T.once d d' i j ne (nth (next s) x d.0) (directory-in s d.0 x hx)
            (subst (λ (z : ℕ). In z (directory s d'.0)) (sym e) (directory-in s d'.0 y hy))

        go : Dec (d.0 ≡ d'.0) → Dec (d.1 ≡ d'.1) → d ≡ d'
        go (yes p) (yes q) = pair_same d d' p q
        go (no p) q = absurd (apart (λ z. p (ap (λ (w : ℕ × ℕ). w.0) z)))
        go (yes p) (no q) = absurd (apart (λ z. q (ap (λ (w : ℕ × ℕ). w.1) z)))

    pub same-slot-place : (d d' : ℕ × ℕ) → In d (dirs s) → In d' (dirs s) → (j k : ℕ) → j < 4 * size_at s d.0 → k < 4 * size_at s d'.0
        → slot_at (directory s d.0) j ≡ slot_at (directory s d'.0) k → (d ≡ d') × (j ≡ k)
    same-slot-place d d' i i' j k hj hk e = (same, at (ℕ_discrete (j / 4) (k / 4)))
      where
        q : nth (next s) (j / 4) d.0 ≡ nth (next s) (k / 4) d'.0
        q = omega (arith, slot_at-is s d.0 j hj, slot_at-is s d'.0 k hk)

        same : d ≡ d'
        same = same-dir d d' i i' (j / 4) (k / 4) (omega arith) (omega arith) q

        c : Chain (next s) n d.0 (size_at s d.0)
        c = (in_tree T d i).1.chained

        at : Dec (j / 4 ≡ k / 4) → j ≡ k
        at (yes p) = omega (arith, slot_at-is s d.0 j hj, slot_at-is s d'.0 k hk, q)
        at (no p) =
            let z : d.0 ≡ d'.0 = ap (λ (w : ℕ × ℕ). w.0) same in
            let r : nth (next s) (j / 4) d.0 ≡ nth (next s) (k / 4) d.0 = q ∙ ap (nth (next s) (k / 4)) (sym z) in
            let l : size_at s d.0 ≡ size_at s d'.0 = ap (size_at s) z in
            absurd (⊎_elim (λ lt. chain-differ (next s) n d.0 (size_at s d.0) c h₃ (j / 4) (k / 4) lt (omega arith) r)
            (λ lt. chain-differ (next s) n d.0 (size_at s d.0) c h₃ (k / 4) (j / 4) lt (omega arith) (sym r)) (lt-or-gt (j / 4) (k / 4) p))
