-- One chain walked: what it holds, and the tests that the plain check may leave out or adds.
use Prim.Native.Nat.{ℕ, zero, suc, ◌≤◌, ◌*◌, ◌+◌}
use mathlib.Core.Bool.{Bool, true, false, ◌&&◌, ◌||◌}
use mathlib.Core.List.{List, [], ◌∷◌, ◌++◌}
use mathlib.Core.Path.{◌≡◌, refl, sym, ap, ◌∙◌}
use native.Mathlib.Omega.{arith}
use lib.Dec.{eqb}
use Rattle.layout.specs.Lists.{has, within, same}
use Rattle.layout.specs.Limits.{min_blocks, max_directory}
use Rattle.layout.specs.Bytes.{part}
use Rattle.layout.specs.Geometry.{in_volume}
use Rattle.layout.specs.Table.{next, chain, chain_ok, ends_after}
use Rattle.layout.specs.Directory.{type_of, self_of, parent_of, first_block, blocks_of, directory}
use Rattle.layout.specs.Check.{directory_ok, child_ok}
use Rattle.layout.proofs.Laws.Tests.{and_split, and-join, within-split}
use Rattle.layout.proofs.Laws.Chains.{chain_ok-split, chain-distinct}
use Rattle.plain_check.specs.Plain.{holds, directory_holds, plain_directory_ok, plain_child_ok}

pub holds_has : (v : ℕ → ℕ) (b first k : ℕ) → holds v b first k ≡ has eqb b (chain v first k)
unfolding holds chain
holds_has v b first zero = refl
holds_has v b first (suc k) = ap (λ (t : Bool). eqb b first || t) (holds_has v b (v first) k)

pub directory-has : (s : List ℕ) (b d : ℕ) → directory_holds s b d ≡ has eqb b (directory s d)
unfolding directory_holds directory
directory-has s b d = holds_has (next s) b d (blocks_of s (512 * d))

pub has-append : (b : ℕ) (xs ys : List ℕ) → has eqb b (xs ++ ys) ≡ (has eqb b xs || has eqb b ys)
has-append b [] ys = refl
has-append b (x ∷ xs) ys = ap (λ (t : Bool). eqb b x || t) (has-append b xs ys) ∙ or_assoc (eqb b x)
  where
    or_assoc : (t : Bool) → (t || (has eqb b xs || has eqb b ys)) ≡ ((t || has eqb b xs) || has eqb b ys)
    or_assoc true = refl
    or_assoc false = refl

-- two tests of which each gives the other are one
pub both_ways : (a b : Bool) → (a ≡ true → b ≡ true) → (b ≡ true → a ≡ true) → a ≡ b
both_ways true b f g = sym (f refl)
both_ways false true f g = g refl
both_ways false false f g = refl

pub ok-volume : (v : ℕ → ℕ) (n b k : ℕ) → 1 ≤ k → chain_ok v n b k ≡ true → in_volume n b ≡ true
unfolding chain_ok ends_after
ok-volume v n b zero h e = absurd (omega arith)
ok-volume v n b (suc k) h e = (and_split (in_volume n b) (ends_after v n (v b) k) e).0

-- a directory: its first block is in the volume, its blocks differ
pub directory-ok : (s : List ℕ) (n b p : ℕ) → min_blocks ≤ n → plain_directory_ok s n b p ≡ directory_ok s n b p
unfolding plain_directory_ok directory_ok directory
directory-ok s n b p h =
    both_ways _ _
    (λ e.
    let a₀ = and_split (in_volume n b) _ e in
    let a₁ = and_split (eqb (type_of s (512 * b)) 1) _ a₀.1 in
    let a₂ = and_split (eqb (self_of s (512 * b)) b) _ a₁.1 in
    let a₃ = and_split (eqb (parent_of s (512 * b)) p) _ a₂.1 in
    let a₄ = and_split (within 1 max_directory (blocks_of s (512 * b))) _ a₃.1 in
    and-join a₁.0 (and-join a₂.0 (and-join a₃.0 (and-join a₄.0 (and-join a₄.1
    (chain-distinct (next s) n b (blocks_of s (512 * b)) (chain_ok-split (next s) n b (blocks_of s (512 * b)) a₄.1) h))))))
    (λ e.
    let a₁ = and_split (eqb (type_of s (512 * b)) 1) _ e in
    let a₂ = and_split (eqb (self_of s (512 * b)) b) _ a₁.1 in
    let a₃ = and_split (eqb (parent_of s (512 * b)) p) _ a₂.1 in
    let a₄ = and_split (within 1 max_directory (blocks_of s (512 * b))) _ a₃.1 in
    let a₅ = and_split (chain_ok (next s) n b (blocks_of s (512 * b))) _ a₄.1 in
    let few = within-split 1 max_directory (blocks_of s (512 * b)) a₄.0 in
    and-join (ok-volume (next s) n b (blocks_of s (512 * b)) few.0 a₅.0) (and-join a₁.0 (and-join a₂.0 (and-join a₃.0 (and-join a₄.0 a₅.0)))))

pub child-ok : (s : List ℕ) (n p e : ℕ) → min_blocks ≤ n → plain_child_ok s n p e ≡ child_ok s n p e
unfolding plain_child_ok child_ok
child-ok s n p e h =
    ap (λ (t : Bool). t && (eqb (blocks_of s (512 * first_block s e)) (blocks_of s e) && same (part s (512 * first_block s e + 48) 80) (part s (e + 48) 80)))
    (directory-ok s n (first_block s e) p h)
