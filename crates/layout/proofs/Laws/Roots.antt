-- An image whose root directory is empty: its tree is the root alone.
use Prim.Native.Nat.{ℕ, ◌-◌, ◌*◌, ◌/◌, ◌≤◌}
use mathlib.Core.List.{List, [], ◌∷◌, append-nil}
use mathlib.Core.Logic.{◌⊎◌, inl, inr}
use mathlib.Core.Path.{◌≡◌, sym, ap, ◌∙◌, subst}
use native.Mathlib.Decide.{ℕ_discrete}
use native.Mathlib.Omega.{arith}
use Rattle.layout.specs.Limits.{min_blocks, max_levels}
use Rattle.layout.specs.Lists.{joined}
use Rattle.layout.specs.Table.{next}
use Rattle.layout.specs.Directory.{first_block, directory, root_of, below, dirs}
use Rattle.layout.proofs.Laws.Lists.{In}
use Rattle.layout.proofs.Laws.Tables.{Table, table-wider}
use Rattle.layout.proofs.Laws.Visits.{Local, Tree, blocks_in, dir_blocks, below-is, directory_ok-distinct}
use Rattle.layout.proofs.Laws.Trees.{Directory, directory_ok-join, directory-in}
use Rattle.layout.proofs.Laws.Sound.{held_at, Owner}
use Rattle.layout.proofs.Laws.Empties.{Empty, empty_leaf, empty-slots, empty-owner}

module _ (s : List ℕ) (n r : ℕ) (at : root_of s ≡ r) (D : Directory s n r r) (M : Empty s r) (least : min_blocks ≤ n) where
  pub root-alone : dirs s ≡ (r, max_levels) ∷ []
  unfolding dirs
  root-alone =
      rw at (below-is s max_levels r ∙ ap (λ (l : List (ℕ × ℕ)). (r, max_levels) ∷ l) (ap (joined (λ e. below s 7 (first_block s e))) (empty_leaf s r M)))

  pub root-blocks : dir_blocks s ≡ directory s r
  root-blocks = ap (joined (blocks_in s)) root-alone ∙ append-nil (directory s r)

  local : (d : ℕ × ℕ) → In d ((r, max_levels) ∷ []) → Local s n d.0 d.1
  local d (inr x') = elim x' [ ]
  local d (inl q) =
      let R = empty-slots s r M in
      subst (λ (w : ℕ × ℕ). Local s n w.0 w.1) (sym q)
      (record { end-type = R.end-type; slot = R.slot; name = R.name; child = λ a i. absurd (subst (In a) (empty_leaf s r M) i); deep = λ z. empty_leaf s r M })

  pub root-tree : Tree s n
  root-tree =
      record {
        rooted = rw at (directory_ok-join s n r r least D);
        local = rw root-alone local;
        once = rw root-blocks (directory_ok-distinct s n r r (directory_ok-join s n r r least D));
      }

  -- the self entry alone owns blocks
  pub root-table : Table n (λ a. a ≡ 512 * r) (next s) (first_block s) (held_at s) → Table n (Owner s) (next s) (first_block s) (held_at s)
  root-table T =
      table-wider n (λ a. a ≡ 512 * r) (Owner s) (next s) (first_block s) (held_at s) T
      (λ a q. inl (record { within-tree = let z : a / 512 ≡ r = omega arith in rw (root-blocks, z) (directory-in s r 0 M.least); aligned = omega arith }))
      (λ a A. other a A (ℕ_discrete a (512 * r)))
    where
      inside : (a : ℕ) → Owner s a → In (a / 512) (directory s r)
      inside a (inl E) = rw root-blocks at E.within-tree
      inside a (inr F) =
          let h = F.place in
          let z : (a - 28) / 512 ≡ a / 512 = omega arith in
          rw (root-blocks, z) at F.entry.within-tree

      other : (a : ℕ) → Owner s a → Dec (a ≡ 512 * r) → (a ≡ 512 * r) ⊎ (held_at s a ≡ 0)
      other a A (yes q) = inl q
      other a A (no ne) = inr (empty-owner s r M (dirs s) a A (inside a A) ne)
