-- Stage 4, its tests joined.
use Prim.Native.Nat.{ℕ, ◌+◌, ◌*◌, ◌≤◌, ◌<◌}
use mathlib.Core.Bool.{Bool, true, false, ◌&&◌}
use mathlib.Core.List.{List}
use mathlib.Core.Path.{◌≡◌, refl, sym}
use native.Mathlib.Omega.{arith}
use lib.ListN.{length, get_or}
use lib.Dec.{eqb, leb, ltb}
use Rattle.layout.specs.Lists.{within}
use Rattle.layout.specs.Limits.{max_directory}
use Rattle.layout.specs.Bytes.{be32}
use Rattle.layout.specs.Geometry.{in_volume}
use Rattle.layout.specs.Table.{next, chain_ok}
use Rattle.layout.specs.Directory.{type_of, self_of, parent_of, first_block, blocks_of, directory}
use Rattle.layout.proofs.Laws.Tests.{and_split, within-split}
use Rattle.layout.proofs.Laws.Chains.{get_d-chain, chain_ok-split, in_volume-below}
use Rattle.plain_check.specs.Plain.{plain_directory_ok, plain_child_ok}
use Rattle.plain_check.specs.Walks.{same_field, new_from, Volume, Stands}
use Rattle.plain_check.proofs.Laws.Chains.{ok-volume}
use Rattle.plain_check.proofs.Walks.Names.{field-part}
use Rattle.plain_check.proofs.Walks.Tests.{and-false, regroup}

-- the tests in the code's order, where a right chain's first block is in the volume
four-order : (v t a p w c : Bool) → (w ≡ true → (v && c) ≡ c) → (((t && (a && p)) && w) && c) ≡ (v && (t && (a && (p && (w && c)))))
four-order v true true true true c f = sym (f refl)
four-order v true true true false c f = sym (and-false v)
four-order v true true false w c f = sym (and-false v)
four-order v true false p w c f = sym (and-false v)
four-order v false a p w c f = sym (and-false v)

module _ (s : List ℕ) (n b p : ℕ) where
  first-inside : (d : ℕ) → within 1 max_directory d ≡ true → (in_volume n b && chain_ok (next s) n b d) ≡ chain_ok (next s) n b d
  first-inside d w = go (chain_ok (next s) n b d) (ok-volume (next s) n b d (within-split 1 max_directory d w).0)
    where
      go : (t : Bool) → (t ≡ true → in_volume n b ≡ true) → (in_volume n b && t) ≡ t
      go true f = rw (f refl)
      go false f = and-false (in_volume n b)

  pub four-all : (type self parent d : ℕ) → type ≡ get_or s (512 * b) 0 → self ≡ be32 s (512 * b + 4) → parent ≡ be32 s (512 * b + 8) → d ≡ be32 s (512 * b + 12)
      → (((eqb type 1 && (eqb self b && eqb parent p)) && (leb 1 d && leb d max_directory)) && chain_ok (next s) n b d) ≡ plain_directory_ok s n b p
  unfolding plain_directory_ok
  four-all type self parent d et es ep ed =
      rw (← et, ← es, ← ep, ← ed)
      (four-order (in_volume n b) (eqb type 1) (eqb self b) (eqb parent p) (within 1 max_directory d) (chain_ok (next s) n b d) (first-inside d))

  -- what it gives
  module _ (e : true ≡ plain_directory_ok s n b p) where
    pub four_below : b < n
    unfolding plain_directory_ok
    four_below = in_volume-below n b (and_split (in_volume n b) _ (sym e)).0

    pub four-stands : Stands s n b
    unfolding plain_directory_ok directory
    four-stands =
        let a₀ = and_split (in_volume n b) _ (sym e) in
        let a₁ = and_split (eqb (type_of s (512 * b)) 1) _ a₀.1 in
        let a₂ = and_split (eqb (self_of s (512 * b)) b) _ a₁.1 in
        let a₃ = and_split (eqb (parent_of s (512 * b)) p) _ a₂.1 in
        let a₄ = and_split (within 1 max_directory (blocks_of s (512 * b))) _ a₃.1 in
        let w = within-split 1 max_directory (blocks_of s (512 * b)) a₄.0 in
        let c = chain_ok-split (next s) n b (blocks_of s (512 * b)) a₄.1 in
        record { some = w.0; few = w.1; below = λ i h. rw (get_d-chain (next s) b (blocks_of s (512 * b)) i h) (c.below i h) }

-- a child, by its entry
child-order : (d e f g l m : Bool) → (d ≡ true → f ≡ g) → (((d && (e && f)) && l) && m) ≡ ((d && (e && g)) && (l && m))
child-order true true f g l m q = rw (q refl) (regroup g l m)
child-order true false f g l m q = refl
child-order false e f g l m q = refl

pub child-all : (s : List ℕ) (n p e c b size told : ℕ) (d f : Bool) → d ≡ plain_directory_ok s n b p → f ≡ same_field s (512 * b) e → Volume s n → e + 128 ≤ length s → b ≡ be32 s (e + 4) → size ≡ be32 s (512 * b + 12) → told ≡ be32 s (e + 12)
    → (((d && (eqb size told && f)) && ltb c n) && new_from s c b size)
    ≡ (plain_child_ok s n p e && (ltb c n && new_from s c (first_block s e) (blocks_of s (512 * first_block s e))))
unfolding plain_child_ok
child-all s n p e c b size told d f ed ef v h eb es et =
    rw (ed, ef, ← eb, ← es, ← et)
    (child-order (plain_directory_ok s n b p) (eqb size told) (same_field s (512 * b) e) _ (ltb c n) (new_from s c b size)
    (λ t. let l = four_below s n b p (sym t) in field-part s (512 * b) e (omega (arith, l, v.whole)) h))
