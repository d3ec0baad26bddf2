-- The other stages, their tests joined.
use Prim.Native.Nat.{ℕ, ◌+◌, ◌-◌, ◌*◌, ◌/◌, ◌≤◌, ◌<◌}
use mathlib.Core.Bool.{Bool, true, false, not, ◌&&◌}
use mathlib.Core.List.{List}
use mathlib.Core.Logic.{inl, inr}
use mathlib.Core.Path.{◌≡◌, refl, sym, ap, ◌∙◌}
use native.Mathlib.Omega.{arith}
use lib.Dec.{eqb, leb}
use lib.ListN.{length}
use borrow.Author.Tests.{eq-eqb, eqb-true, ne_eqb, leb-true, lt-leb}
use Rattle.layout.specs.Lists.{interval, every, within, select, keep}
use Rattle.layout.specs.Limits.{min_blocks, max_blocks, max_levels}
use Rattle.layout.specs.Bytes.{be32}
use Rattle.layout.specs.Geometry.{block_count, table_blocks, root_block}
use Rattle.layout.specs.Table.{next, occupied}
use Rattle.layout.specs.Directory.{directory}
use Rattle.layout.specs.Check.{stage1, stage2, stage3, stage7}
use Rattle.layout.proofs.Laws.Lists.{interval-next}
use Rattle.layout.proofs.Laws.Tests.{and_split, first_of-refused}
use Rattle.plain_check.specs.Plain.{Claims, Holds}
use Rattle.plain_check.specs.Plain.{one, plain_directory_ok, toured, tour_entries, tour_child, tour_root, stop_of, ask_tree, answer, claims, holders, counted, plain_stage6, plain_check}
use Rattle.plain_check.specs.Walks.{Volume, Upto}
use Rattle.plain_check.proofs.Walks.Tests.{and-false, one-few}

pub volume-count : (s : List ℕ) (n : ℕ) → Volume s n → block_count s ≡ n
volume-count s n v = omega arith

-- 1
module _ (s : List ℕ) where
  pub sized-volume : true ≡ stage1 s → Volume s (length s / 512)
  unfolding stage1
  sized-volume e =
      let a = and_split (eqb (length s) (512 * block_count s)) (within min_blocks max_blocks (block_count s)) (sym e) in
      let b = and_split (leb min_blocks (block_count s)) (leb (block_count s) max_blocks) a.1 in
      record { whole = eqb-true _ _ a.0; low = leb-true _ _ b.0; high = leb-true _ _ b.1 }

-- 3
pub numbered-all : (s : List ℕ) (n : ℕ) → Volume s n → (t : ℕ) → t ≡ table_blocks n → (x y w : ℕ) → x ≡ be32 s 12 → y ≡ be32 s 16 → w ≡ be32 s 28
    → (eqb x n && (eqb y t && eqb w (t + 1))) ≡ stage3 s
unfolding stage3
numbered-all s n v t et x y w ex ey ew = rw (volume-count s n v, et, ← ex, ← ey, ← ew)

-- 4 and 5, of the whole tree
module _ (s : List ℕ) (n root : ℕ) (v : Volume s n) (er : root ≡ root_block n) where
  pub root-refused : false ≡ plain_directory_ok s n root root → 4 ≡ stop_of (tour_root s)
  unfolding tour_root
  root-refused h = rw (volume-count s n v, ← er, ← h)

  pub root-toured : true ≡ plain_directory_ok s n root root → (fault met : ℕ) → toured fault met ≡ tour_entries (tour_child max_levels s n root) s (directory s root) 1
      → fault ≡ stop_of (tour_root s)
  unfolding tour_root
  root-toured h fault met e = rw (volume-count s n v, ← er, ← h, ← e)

-- 6: the entries of one value
module _ (s : List ℕ) (b x value : ℕ) (ex : x ≡ next s b) where
  pub value_not : (x ≡ value → ⊥) → false ≡ eqb (next s b) value
  value_not h = rw (← ex, ne_eqb x value h)

  pub value-is : x ≡ value → true ≡ eqb (next s b) value
  value-is h = rw (← ex, eq-eqb x value h)

-- a count that stops above n
upto-same : (n r x y : ℕ) → 1 ≤ n → y ≤ 1 → Upto n r (0 + x) → eqb r y ≡ eqb x y
upto-same n r x y l h (inl e) = let z : r ≡ x = omega arith in rw z
upto-same n r x y l h (inr w) = rw (ne_eqb r y (λ z. omega arith), ne_eqb x y (λ z. omega arith))

upto-few : (n r x : ℕ) → Upto n r (0 + x) → leb r n ≡ leb x n
upto-few n r x (inl e) = let z : r ≡ x = omega arith in rw z
upto-few n r x (inr w) = rw (lt-leb r n (omega arith), lt-leb x n (omega arith))

module _ (s : List ℕ) (n root : ℕ) (v : Volume s n) (er : root ≡ root_block n) where
  counted_is : (b held value : ℕ) → Upto n held (0 + ask_tree (answer (Holds b) s n) max_levels s root) → value ≡ next s b
      → eqb held (one (not (eqb value 0))) ≡ counted s b
  unfolding counted holders
  counted_is b held value eh ev =
      rw (volume-count s n v, ← er, ← ev) (upto-same n held _ (one (not (eqb value 0))) (omega (arith, v.low)) (one-few (not (eqb value 0))) eh)

  module _ (b held value : ℕ) (eh : Upto n held (0 + ask_tree (answer (Holds b) s n) max_levels s root)) (ev : value ≡ next s b) where
    pub counted-not : (held ≡ one (not (eqb value 0)) → ⊥) → false ≡ counted s b
    counted-not h = sym (ne_eqb held (one (not (eqb value 0))) h) ∙ counted_is b held value eh ev

    pub counted-so : held ≡ one (not (eqb value 0)) → true ≡ counted s b
    counted-so h = sym (eq-eqb held (one (not (eqb value 0))) h) ∙ counted_is b held value eh ev

  claims-are : (r : ℕ) → Upto n r (0 + ask_tree (answer Claims s n) max_levels s root) → leb r n ≡ leb (claims s) n
  unfolding claims
  claims-are r u = rw (volume-count s n v, ← er) (upto-few n r _ u)

six-order : (l o p c : Bool) → ((l && (o && p)) && c) ≡ (l && (o && (c && p)))
six-order true true true true = refl
six-order true true true false = refl
six-order true true false c = sym (and-false c)
six-order true false p c = refl
six-order false o p c = refl

pub six-all : (s : List ℕ) (n t : ℕ) → Volume s n → t ≡ table_blocks n → (r : ℕ) → Upto n r (0 + ask_tree (answer Claims s n) max_levels s (t + 1))
    → (ones padded all : Bool) → ones ≡ every (λ b. eqb (next s b) 1) (interval 0 (t + 1 - 0)) → padded ≡ every (λ b. eqb (next s b) 0) (interval n (128 * t - n))
    → all ≡ every (counted s) (interval (root_block n) (n - root_block n)) → ((leb r n && (ones && padded)) && all) ≡ plain_stage6 s
unfolding plain_stage6
six-all s n t v et r u ones padded all eo ep ea =
    let z : t + 1 - 0 ≡ t + 1 = omega arith in
    let o : ones ≡ every (λ b. eqb (next s b) 1) (interval 0 (table_blocks n + 1)) = rw (← et) (rw z at eo) in
    let p : padded ≡ every (λ b. eqb (next s b) 0) (interval n (128 * table_blocks n - n)) = rw (← et) ep in
    rw (volume-count s n v, claims-are s n (t + 1) v (ap (λ (x : ℕ). x + 1) et) r u, ← o, ← p, ← ea) (six-order (leb (claims s) n) ones padded all)

-- 7: the entries from b on that are not 0
abbrev pub used_from : List ℕ → ℕ → ℕ → ℕ
used_from s b n = length (select (λ x. not (eqb (next s x) 0)) (interval b (n - b)))

pub used_start : (s : List ℕ) (n : ℕ) → occupied (next s) n ≡ 0 + used_from s 0 n
unfolding occupied
used_start s n = let z : n - 0 ≡ n = omega arith in rw z (omega arith)

module _ (s : List ℕ) (b n : ℕ) where
  pub used-end : n ≤ b → used_from s b n ≡ 0
  used-end h = let z : n - b ≡ 0 = omega arith in rw z

  pub used-next : b < n → (value : ℕ) → value ≡ next s b → used_from s b n ≡ one (not (eqb value 0)) + used_from s (b + 1) n
  used-next h value ev =
      let z : n - b - 1 ≡ n - (b + 1) = omega arith in
      rw (interval-next b (n - b) (omega arith), z, ← ev) (kept (not (eqb value 0)))
    where
      kept : (t : Bool) → length (keep t b (select (λ x. not (eqb (next s x) 0)) (interval (b + 1) (n - (b + 1))))) ≡ one t + used_from s (b + 1) n
      kept true = omega arith
      kept false = omega arith

pub seven-all : (s : List ℕ) (n used x y : ℕ) → Volume s n → occupied (next s) n ≡ used → x ≡ be32 s 20 → y ≡ be32 s 24
    → (eqb x used && eqb y (n - used)) ≡ stage7 s
unfolding stage7
seven-all s n used x y v eu ex ey = rw (volume-count s n v, eu, ← ex, ← ey)

-- the number
module _ (s : List ℕ) where
  pub plain-1 : false ≡ stage1 s → 1 ≡ plain_check s
  unfolding plain_check
  plain-1 h = rw (← h)

  module _ (h₁ : true ≡ stage1 s) where
    pub plain-2 : false ≡ stage2 s → 2 ≡ plain_check s
    unfolding plain_check
    plain-2 h = rw (← h₁, ← h)

    module _ (h₂ : true ≡ stage2 s) where
      pub plain-3 : false ≡ stage3 s → 3 ≡ plain_check s
      unfolding plain_check
      plain-3 h = rw (← h₁, ← h₂, ← h)

      module _ (h₃ : true ≡ stage3 s) (fault : ℕ) (ef : fault ≡ stop_of (tour_root s)) where
        pub plain-tree : (fault ≡ 0 → ⊥) → fault ≡ plain_check s
        unfolding plain_check
        plain-tree h = rw (← h₁, ← h₂, ← h₃, ← ef) (sym (first_of-refused fault _ h))

        module _ (h₄ : fault ≡ 0) where
          none : 0 ≡ stop_of (tour_root s)
          none = sym h₄ ∙ ef

          pub plain-6 : false ≡ plain_stage6 s → 6 ≡ plain_check s
          unfolding plain_check
          plain-6 h = rw (← h₁, ← h₂, ← h₃, ← none, ← h)

          module _ (h₆ : true ≡ plain_stage6 s) where
            pub plain-7 : false ≡ stage7 s → 7 ≡ plain_check s
            unfolding plain_check
            plain-7 h = rw (← h₁, ← h₂, ← h₃, ← none, ← h₆, ← h)

            pub plain-0 : true ≡ stage7 s → 0 ≡ plain_check s
            unfolding plain_check
            plain-0 h = rw (← h₁, ← h₂, ← h₃, ← none, ← h₆, ← h)
