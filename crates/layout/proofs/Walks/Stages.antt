-- What the tests of each stage give, in the order in which the code takes them.
use Prim.Native.Nat.{ℕ, ◌+◌, ◌-◌, ◌*◌, ◌/◌, ◌≤◌, ◌<◌}
use mathlib.Core.Bool.{Bool, true, false}
use mathlib.Core.List.{List}
use mathlib.Core.Path.{◌≡◌, refl, sym, ap, ◌∙◌, subst}
use native.Mathlib.Omega.{arith}
use lib.Dec.{eqb, leb}
use lib.ListN.{length}
use lib.Seq.{take-take}
use borrow.Author.Tests.{eq-eqb, eqb-true, le-leb, leb-true, lt-leb, ne_eqb}
use Rattle.layout.specs.Limits.{min_blocks, max_blocks}
use Rattle.layout.specs.Lists.{within}
use Rattle.layout.specs.Refusals.{require, first_of}
use Rattle.layout.specs.Bytes.{be32, part, zeros}
use Rattle.layout.specs.Geometry.{block_count, table_blocks}
use Rattle.layout.specs.Table.{next, occupied}
use Rattle.layout.specs.Check.{stage1, stage2, stage3, visit_root, fault_of, stage6, stage7, check}
use Rattle.layout.specs.Walks.Chains.{count_used}
use Rattle.layout.specs.Walks.Shapes.{Shape}
use Rattle.layout.specs.Walks.Stages.{Seen, visited, walk_root, follow_table, header_ok, counts_ok, head_stage, table_stage, body_stage}
use Rattle.layout.proofs.Laws.Bytes.{be32-part}
use Rattle.layout.proofs.Laws.Tests.{and_split, first_of-refused}
use Rattle.layout.proofs.Laws.Visits.{Tree, dir_blocks, tree, visit-tree}
use Rattle.layout.proofs.Walks.Marks.{Marked}
use Rattle.layout.proofs.Walks.Owned.{stage6-tied}
use Rattle.layout.proofs.Walks.Used.{stage6-counted}
use Rattle.layout.proofs.Walks.Shapes.{shape-block_count}
use Rattle.layout.proofs.Walks.Tree.{visit-tied}

-- 1
module _ (s : List ℕ) where
  pub stage1-length : (length s ≡ 512 * (length s / 512) → ⊥) → stage1 s ≡ false
  unfolding stage1
  stage1-length h = rw (ne_eqb (length s) (512 * (length s / 512)) h)

  pub stage1-low : length s ≡ 512 * (length s / 512) → length s / 512 < min_blocks → stage1 s ≡ false
  unfolding stage1
  stage1-low e h = rw (eq-eqb (length s) (512 * (length s / 512)) e, lt-leb min_blocks (length s / 512) h)

  pub stage1-high : length s ≡ 512 * (length s / 512) → min_blocks ≤ length s / 512 → stage1 s ≡ leb (length s / 512) max_blocks
  unfolding stage1
  stage1-high e h = rw (eq-eqb (length s) (512 * (length s / 512)) e, le-leb min_blocks (length s / 512) h)

  pub stage1-shape : true ≡ stage1 s → Shape s (length s / 512)
  unfolding stage1
  stage1-shape e =
      let a = and_split (eqb (length s) (512 * block_count s)) (within min_blocks max_blocks (block_count s)) (sym e) in
      let b = and_split (leb min_blocks (block_count s)) (leb (block_count s) max_blocks) a.1 in
      record { whole = eqb-true _ _ a.0; low = leb-true _ _ b.0; high = leb-true _ _ b.1 }

  -- 2 and 3
  pub stage2-part : stage2 (part s 0 512) ≡ stage2 s
  unfolding stage2
  stage2-part = rw (take-take 12 512 s (omega arith))

  pub header_ok-part : (n : ℕ) → header_ok (part s 0 512) n ≡ header_ok s n
  unfolding header_ok
  header_ok-part n = rw (be32-part s 0 512 12 (omega arith), be32-part s 0 512 16 (omega arith), be32-part s 0 512 28 (omega arith))

  pub stage3-header : header_ok s (length s / 512) ≡ stage3 s
  unfolding header_ok stage3
  stage3-header = refl

module _ (h : List ℕ) (n x : ℕ) (ex : x ≡ be32 h 12) where
  pub header_ok-total : (x ≡ n → ⊥) → header_ok h n ≡ false
  unfolding header_ok
  header_ok-total z = rw (← ex, ne_eqb x n z)

  module _ (hx : x ≡ n) (y : ℕ) (ey : y ≡ be32 h 16) where
    pub header_ok-table : (y ≡ (n + 127) / 128 → ⊥) → header_ok h n ≡ false
    unfolding header_ok
    header_ok-table z = rw (← ex, eq-eqb x n hx, ← ey, ne_eqb y ((n + 127) / 128) z)

    pub header_ok-root : y ≡ (n + 127) / 128 → (w : ℕ) → w ≡ be32 h 28 → header_ok h n ≡ eqb w ((n + 127) / 128 + 1)
    unfolding header_ok
    header_ok-root z w ew = rw (← ex, eq-eqb x n hx, ← ey, eq-eqb y ((n + 127) / 128) z, ← ew)

-- 7
module _ (h : List ℕ) (n used x : ℕ) (ex : x ≡ be32 h 20) where
  pub counts_ok-used : (x ≡ used → ⊥) → counts_ok h n used ≡ false
  unfolding counts_ok
  counts_ok-used z = rw (← ex, ne_eqb x used z)

  pub counts_ok-free : x ≡ used → (y : ℕ) → y ≡ be32 h 24 → counts_ok h n used ≡ eqb y (n - used)
  unfolding counts_ok
  counts_ok-free z y ey = rw (← ex, eq-eqb x used z, ← ey)

pub stage7-counts : (s : List ℕ) (n used : ℕ) → Shape s n → used ≡ count_used (next s) 0 n → counts_ok (part s 0 512) n used ≡ stage7 s
unfolding counts_ok stage7 occupied count_used
stage7-counts s n used h e =
    let z : block_count s ≡ n = shape-block_count s n h in
    rw (be32-part s 0 512 20 (omega arith), be32-part s 0 512 24 (omega arith), e, z)

-- the two halves
module _ (s : List ℕ) where
  pub head_stage-1 : false ≡ stage1 s → head_stage s ≡ 1
  unfolding head_stage
  head_stage-1 h = rw (← h)

  module _ (h₁ : true ≡ stage1 s) where
    pub head_stage-2 : false ≡ stage2 s → head_stage s ≡ 2
    unfolding head_stage
    head_stage-2 h = rw (← h₁, ← h)

    module _ (h₂ : true ≡ stage2 s) where
      pub head_stage-3 : false ≡ stage3 s → head_stage s ≡ 3
      unfolding head_stage
      head_stage-3 h = rw (← h₁, ← h₂, ← h)

      pub head_stage-0 : true ≡ stage3 s → head_stage s ≡ 0
      unfolding head_stage
      head_stage-0 h = rw (← h₁, ← h₂, ← h)

  pub check-head : (r : ℕ) → r ≡ head_stage s → (r ≡ 0 → ⊥) → check s ≡ r
  unfolding check head_stage
  check-head r e h = go (stage1 s) (stage2 s) (stage3 s) (λ z. h (e ∙ z)) ∙ sym e
    where
      rest : ℕ
      rest = first_of (fault_of (visit_root s)) (require (stage6 s) 6 (require (stage7 s) 7 0))

      go : (a b c : Bool) → (require a 1 (require b 2 (require c 3 0)) ≡ 0 → ⊥)
          → require a 1 (require b 2 (require c 3 rest)) ≡ require a 1 (require b 2 (require c 3 0))
      go true true true z = absurd (z refl)
      go true true false z = refl
      go true false c z = refl
      go false b c z = refl

  pub check-body : head_stage s ≡ 0 → (check s ≡ body_stage s) × (true ≡ stage1 s)
  unfolding check head_stage table_stage body_stage
  check-body e = go (stage1 s) (stage2 s) (stage3 s) refl refl refl e
    where
      go : (a b c : Bool) → stage1 s ≡ a → stage2 s ≡ b → stage3 s ≡ c → require a 1 (require b 2 (require c 3 0)) ≡ 0
          → (check s ≡ body_stage s) × (true ≡ stage1 s)
      go true true true x y w z = (rw (x, y, w), sym x)
      go true true false x y w z = absurd (omega arith)
      go true false c x y w z = absurd (omega arith)
      go false b c x y w z = absurd (omega arith)

-- a visit, and a walk over the table, with marks that were all 0
pub visited-fresh : (s : List ℕ) (n : ℕ) (m₀ : List ℕ) {m₁ : List ℕ} → visited 0 m₁ ≡ walk_root s n m₀ → m₀ ≡ zeros (length m₀) → length m₁ ≡ length m₀ → visited 0 m₁ ≡ walk_root s n (zeros (length m₁))
visited-fresh s n m₀ {m₁} e f k = e ∙ ap (walk_root s n) (f ∙ ap zeros (sym k))

pub table-fresh : (s : List ℕ) (t n : ℕ) (ds m : List ℕ) {r : Bool} → r ≡ follow_table s t n ds m → t ≡ table_blocks n → m ≡ zeros (length m) → r ≡ follow_table s (table_blocks n) n ds (zeros (length m))
table-fresh s t n ds m e h f = e ∙ ap (λ (x : ℕ). follow_table s x n ds m) h ∙ ap (follow_table s (table_blocks n) n ds) f

-- the last four stages: the visit, then the table and the counts
module _ (s : List ℕ) (n : ℕ) (shape : Shape s n) (r : ℕ) (m : List ℕ) (size : ℕ) (room : n ≤ size) (given : visited r m ≡ walk_root s n (zeros size)) where
  met-fault : r ≡ fault_of (visit_root s)
  met-fault = ap (λ (w : Seen). w.why) given ∙ (visit-tied s n shape size room).why

  pub body_stage-fault : (r ≡ 0 → ⊥) → r ≡ body_stage s
  unfolding body_stage
  body_stage-fault h = met-fault ∙ sym (first_of-refused (fault_of (visit_root s)) (table_stage s) (λ z. h (met-fault ∙ z)))

  module _ (z : r ≡ 0) where
    table-tree : Tree s n
    table-tree = subst (Tree s) (shape-block_count s n shape) (tree s (sym met-fault ∙ z))

    dirs-marked : Marked m (dir_blocks s)
    dirs-marked =
        let q : n ≡ block_count s = sym (shape-block_count s n shape) in
        subst (λ (w : Seen). Marked w.marks (dir_blocks s)) (sym given) ((visit-tied s n shape size room).marks (dir_blocks s) (visit-tree s (subst (Tree s) q table-tree)))

    table-stage : (ok : Bool) (more : ℕ) → n ≤ more → ok ≡ follow_table s (table_blocks n) n m (zeros more) → ok ≡ stage6 s
    table-stage ok more enough e = e ∙ stage6-tied s n m shape table-tree dirs-marked more enough

    module _ (ok : Bool) (more : ℕ) (enough : n ≤ more) (e : ok ≡ follow_table s (table_blocks n) n m (zeros more)) where
      body-table : body_stage s ≡ require ok 6 (require (stage7 s) 7 0)
      unfolding body_stage table_stage
      body-table =
          let q : fault_of (visit_root s) ≡ 0 = sym met-fault ∙ z in
          rw (q, ← table-stage ok more enough e)

      pub body_stage-used : ok ≡ true → count_used (next s) 0 (128 * table_blocks n) ≡ count_used (next s) 0 n
      body_stage-used h = stage6-counted s n shape (sym (table-stage ok more enough e) ∙ h)

      pub body_stage-6 : ok ≡ false → 6 ≡ body_stage s
      body_stage-6 h = sym (body-table ∙ rw h)

      pub body_stage-7 : ok ≡ true → false ≡ stage7 s → 7 ≡ body_stage s
      body_stage-7 h g = sym (body-table ∙ rw (h, ← g))

      pub body_stage-0 : ok ≡ true → true ≡ stage7 s → 0 ≡ body_stage s
      body_stage-0 h g = sym (body-table ∙ rw (h, ← g))
