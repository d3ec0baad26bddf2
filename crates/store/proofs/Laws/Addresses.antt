-- Different directories and serial numbers have different paths; how long a path is; and the root.
use Prim.Native.Nat.{ℕ, suc, ◌+◌, ◌*◌, ◌≤◌}
use mathlib.Core.Path.{◌≡◌, refl, sym, ap, ◌∙◌}
use mathlib.Core.Bool.{Bool, true, false, ◌&&◌, cond}
use mathlib.Core.List.{List, [], ◌∷◌, ◌++◌}
use native.Mathlib.Omega.{arith}
use lib.ListN.{length, get_or, drop}
use lib.Dec.{eqb}
use Rattle.layout.specs.Limits.{max_name}
use Rattle.layout.specs.Lists.{within, every}
use Rattle.layout.specs.Refusals.{require, first_of}
use Rattle.layout.specs.Directory.{slash, good_name}
use Rattle.layout.specs.Looks.{is_root_path}
use Rattle.layout.specs.Paths.{longer, cut, parts, path_ok, shallow}
use Rattle.store.specs.Put.{serial_byte, serial_ok, root, directory_ok, front, path_of, address_refusal}
use Rattle.store.specs.Walks.Addresses.{Addressed, max_front}
use Rattle.layout.proofs.Laws.Tests.{and_split, within-split, true-not-false}
use Rattle.layout.proofs.Laws.Names.{same-eq}
use Rattle.store.proofs.Laws.Serials.{high, serial-letters, parts-good, below-path, below-some, path-leading, ways-few}

-- no byte of a serial number is a `/`
no_slash : (xs b y : List ℕ) → every serial_byte xs ≡ true → xs ≡ b ++ (slash ∷ y) → ⊥
no_slash [] [] y h q = let z = ap length q in omega arith
no_slash [] (c ∷ b) y h q = let z = ap length q in omega arith
no_slash (x ∷ xs) [] y h q = let z : x ≡ slash = ap (λ (l : List ℕ). get_or l 0 0) q in let g = high x (and_split (serial_byte x) _ h).0 in omega arith
no_slash (x ∷ xs) (c ∷ b) y h q = no_slash xs b y (and_split (serial_byte x) _ h).1 (ap (drop 1) q)

ends_same : (a b x y : List ℕ) → every serial_byte x ≡ true → every serial_byte y ≡ true → a ++ (slash ∷ x) ≡ b ++ (slash ∷ y) → (a ≡ b) × (x ≡ y)
ends_same [] [] x y h g q = (refl, ap (drop 1) q)
ends_same [] (c ∷ b) x y h g q = absurd (no_slash x b y h (ap (drop 1) q))
ends_same (c ∷ a) [] x y h g q = absurd (no_slash y a x g (sym (ap (drop 1) q)))
ends_same (c ∷ a) (d ∷ b) x y h g q =
    let z : c ≡ d = ap (λ (l : List ℕ). get_or l 0 0) q in
    let w = ends_same a b x y h g (ap (drop 1) q) in
    (rw (z, w.0), w.1)

not-empty : path_ok [] ≡ true → ⊥
unfolding path_ok parts
not-empty h = true-not-false h refl

pub is-root : (d : List ℕ) → is_root_path d ≡ true → d ≡ root
unfolding is_root_path
is-root d h = same-eq d root h

front_same : (d f : List ℕ) → directory_ok d ≡ true → directory_ok f ≡ true → front d ≡ front f → d ≡ f
unfolding front
front_same d f h g q = go (is_root_path d) refl (is_root_path f) refl q
  where
    go : (a : Bool) → is_root_path d ≡ a → (b : Bool) → is_root_path f ≡ b → cond a [] d ≡ cond b [] f → d ≡ f
    go true ea true eb e = is-root d ea ∙ sym (is-root f eb)
    go true ea false eb e = absurd (not-empty (let p = below-path f g eb in rw (← e) at p))
    go false ea true eb e = absurd (not-empty (let p = below-path d h ea in rw e at p))
    go false ea false eb e = e

pub path-same : (d x f y : List ℕ) → Addressed d x → Addressed f y → path_of d x ≡ path_of f y → (d ≡ f) × (x ≡ y)
unfolding path_of
path-same d x f y A B q =
    let w = ends_same (front d) (front f) x y (serial-letters x A.named) (serial-letters y B.named) q in
    (front_same d f A.folder B.folder w.0, w.1)

-- THE LENGTH: parts, and a `/` for each
total : List (List ℕ) → ℕ
total [] = 0
total (p ∷ ps) = suc (length p) + total ps

total-cut : (xs : List ℕ) → total (cut xs) ≡ suc (length xs)
unfolding total cut
total-cut [] = refl
total-cut (x ∷ xs) = go (eqb x slash) (cut xs) (total-cut xs)
  where
    go : (t : Bool) (ps : List (List ℕ)) → total ps ≡ suc (length xs) → total (cond t ([] ∷ ps) (longer x ps)) ≡ suc (suc (length xs))
    go true ps q = omega arith
    go false [] q = absurd (omega arith)
    go false (p ∷ ps) q = omega arith

total-good : (ps : List (List ℕ)) → every good_name ps ≡ true → total ps ≤ 81 * length ps
unfolding total good_name
total-good [] h = omega arith
total-good (p ∷ ps) h =
    let a = and_split (good_name p) _ h in
    let w = (within-split 1 max_name (length p) (and_split (within 1 max_name (length p)) _ a.0).0).1 in
    let ih = total-good ps a.1 in
    omega arith

total-parts : (path : List ℕ) → 1 ≤ length (parts path) → length path ≡ total (parts path)
unfolding parts
total-parts [] h = absurd (omega arith)
total-parts (x ∷ xs) h = go (eqb x slash) h
  where
    go : (t : Bool) → 1 ≤ length (cond t (cut xs) []) → suc (length xs) ≡ total (cond t (cut xs) [])
    go true l = sym (total-cut xs)
    go false l = absurd (omega arith)

pub front-short : (directory serial : List ℕ) → Addressed directory serial → length (front directory) ≤ max_front
unfolding front
front-short directory serial A = go (is_root_path directory) refl (ways-few directory serial A)
  where
    go : (t : Bool) → is_root_path directory ≡ t → length (cond t [] (parts directory)) ≤ 8 → length (cond t [] directory) ≤ max_front
    go true q few = omega arith
    go false q few =
        let p = below-path directory A.folder q in
        let l = total-parts directory (below-some directory A.folder q) in
        let g = total-good (parts directory) (parts-good directory p) in
        omega arith

-- THE ROOT
pub root-address : (serial : List ℕ) (fits : Bool) → address_refusal root serial fits ≡ require (serial_ok serial && fits) 22 0
unfolding address_refusal directory_ok shallow is_root_path
root-address serial fits = go (serial_ok serial) refl
  where
    go : (b : Bool) → serial_ok serial ≡ b → address_refusal root serial fits ≡ require (serial_ok serial && fits) 22 0
    go true q = rw (q, path-leading root refl serial q)
    go false q = rw q

-- 22 before the rest is the refusal with the rest inside
first-inside : (b : Bool) (rest : ℕ) → first_of (require b 22 0) rest ≡ require b 22 rest
first-inside true rest = refl
first-inside false rest = refl

pub root-rest : (serial : List ℕ) (fits : Bool) (rest : ℕ) → first_of (address_refusal root serial fits) rest ≡ require (serial_ok serial && fits) 22 rest
root-rest serial fits rest = ap (λ (k : ℕ). first_of k rest) (root-address serial fits) ∙ first-inside (serial_ok serial && fits) rest
