-- Paths in a sound image: what a part leads to is a directory of the tree, one level lower; the slot of a name.
use Prim.Native.Nat.{ℕ, zero, suc, ◌-◌, ◌*◌, ◌≤◌, ◌<◌}
use mathlib.Core.Bool.{Bool, true, false, ◌&&◌, cond}
use mathlib.Core.List.{List, [], ◌∷◌}
use mathlib.Core.Logic.{◌≢◌}
use mathlib.Core.Path.{◌≡◌, refl, sym, ◌∙◌, subst}
use native.Mathlib.Omega.{arith}
use lib.Dec.{eqb}
use lib.ListN.{length}
use borrow.Author.Tests.{eq-eqb, eqb-false, ne_eqb, leb-true}
use Rattle.layout.specs.Limits.{max_levels}
use Rattle.layout.specs.Lists.{same}
use Rattle.layout.specs.Geometry.{block_count}
use Rattle.layout.specs.Directory.{slot_at, type_of, first_block, is_directory, name_of, slot_of, directory, root_of, dirs}
use Rattle.layout.specs.Paths.{parts, leading, last_part, shallow, child_of, resolve, home, path_slot}
use Rattle.layout.proofs.Laws.Tests.{and_split, and-join}
use Rattle.layout.proofs.Laws.Lists.{In, lowest-met, lowest-none}
use Rattle.layout.proofs.Laws.Names.{same-eq, same_refl}
use Rattle.layout.proofs.Laws.Trees.{size_at, length-directory, root_in}
use Rattle.layout.proofs.Laws.Slots.{children-in, child-below}

-- the slot of a name in the directory at b, among those of a type
module _ (type : ℕ → Bool) (s : List ℕ) (b : ℕ) (name : List ℕ) where
  abbrev at : ℕ → ℕ
  at k = slot_at (directory s b) k

  pub record Named (k : ℕ) : Type 0 where
    pub low : 1 ≤ k
    pub high : k < 4 * size_at s b - 1
    pub typed : type (type_of s (slot_at (directory s b) k)) ≡ true
    pub named : name_of s (slot_at (directory s b) k) ≡ name

  pub slot-named : slot_of type s (directory s b) name ≢ 0 → Named (slot_of type s (directory s b) name)
  unfolding slot_of
  slot-named ne =
      let r = lowest-met (λ k. type (type_of s (at k)) && same (name_of s (at k)) name) 1 (4 * length (directory s b) - 2) ne in
      let w = and_split (type (type_of s (at _))) _ r.2 in
      record { low = r.0; high = omega (arith, length-directory s b, r.0, r.1); typed = w.0; named = same-eq _ _ w.1 }

  pub slot-unnamed : slot_of type s (directory s b) name ≡ 0 → (k : ℕ) → Named k → ⊥
  unfolding slot_of
  slot-unnamed z k N =
      lowest-none (λ j. type (type_of s (at j)) && same (name_of s (at j)) name) 1 (4 * length (directory s b) - 2) (omega arith) z k N.low
      (let h = N.high in omega (arith, length-directory s b)) (and-join N.typed (rw N.named (same_refl name)))

-- one part
module _ (s : List ℕ) (b : ℕ) (name : List ℕ) where
  pub child-found : child_of s b name ≢ 0 → Named is_directory s b name (slot_of is_directory s (directory s b) name) × (child_of s b name ≡ first_block s (slot_at (directory s b) (slot_of is_directory s (directory s b) name)))
  unfolding child_of
  child-found ne = go (eqb (slot_of is_directory s (directory s b) name) 0) refl
    where
      k : ℕ
      k = slot_of is_directory s (directory s b) name

      go : (t : Bool) → eqb k 0 ≡ t → Named is_directory s b name k × (child_of s b name ≡ first_block s (slot_at (directory s b) k))
      go true q = absurd (ne (rw q))
      go false q = (slot-named is_directory s b name (eqb-false k 0 q), rw q)

  -- it is a directory of the tree, one level lower
  pub child-in-tree : (j : ℕ) → In (b, suc j) (dirs s) → child_of s b name ≢ 0 → In (child_of s b name, j) (dirs s)
  unfolding dirs
  child-in-tree j i ne =
      let c = child-found ne in
      rw c.1 (child-below s max_levels (root_of s) b j (slot_at (directory s b) (slot_of is_directory s (directory s b) name)) i
      (children-in s b (slot_of is_directory s (directory s b) name) c.0.low c.0.high c.0.typed))

-- some parts: one level for each
pub resolve-in-tree : (s : List ℕ) (ps : List (List ℕ)) (b left : ℕ) → In (b, left) (dirs s) → length ps ≤ left → resolve s b ps ≢ 0 → In (resolve s b ps, left - length ps) (dirs s)
unfolding resolve
resolve-in-tree s [] b left i h ne = let e : left - 0 ≡ left = omega arith in rw e i
resolve-in-tree s (p ∷ ps) b zero i h ne = absurd (omega arith)
resolve-in-tree s (p ∷ ps) b (suc left) i h ne = go (eqb (child_of s b p) 0) refl (resolve-in-tree s ps (child_of s b p) left) ne
  where
    go : (t : Bool) → eqb (child_of s b p) 0 ≡ t
        → (In (child_of s b p, left) (dirs s) → length ps ≤ left → resolve s (child_of s b p) ps ≢ 0 → In (resolve s (child_of s b p) ps, left - length ps) (dirs s))
        → cond t 0 (resolve s (child_of s b p) ps) ≢ 0 → In (cond t 0 (resolve s (child_of s b p) ps), suc left - suc (length ps)) (dirs s)
    go true q ih f = absurd (f refl)
    go false q ih f =
        let e : suc left - suc (length ps) ≡ left - length ps = omega arith in
        rw e (ih (child-in-tree s b p left i (eqb-false _ 0 q)) (omega arith) f)

-- WHERE A PATH LEADS: its last part is looked up in a directory of the tree
pub home-in-tree : (s path : List ℕ) → shallow (leading (parts path)) ≡ true → home s path ≢ 0 → In (home s path, max_levels - length (leading (parts path))) (dirs s)
unfolding home shallow
home-in-tree s path h ne =
    resolve-in-tree s (leading (parts path)) (root_of s) max_levels (root_in s (block_count s)) (leb-true _ _ h) ne

-- the slot that it names there
module _ (type : ℕ → Bool) (s path : List ℕ) (ne : path_slot type s path ≢ 0) where
  pub home_found : home s path ≢ 0
  unfolding path_slot
  home_found z = ne (rw (eq-eqb (home s path) 0 z))

  pub path-slot : path_slot type s path ≡ slot_of type s (directory s (home s path)) (last_part (parts path))
  unfolding path_slot
  path-slot = rw (ne_eqb (home s path) 0 home_found)

  pub path-named : Named type s (home s path) (last_part (parts path)) (path_slot type s path)
  path-named =
      subst (Named type s (home s path) (last_part (parts path))) (sym path-slot)
      (slot-named type s (home s path) (last_part (parts path)) (λ z. ne (path-slot ∙ z)))

  pub path-home : shallow (leading (parts path)) ≡ true → In (home s path, max_levels - length (leading (parts path))) (dirs s)
  path-home h = home-in-tree s path h home_found
