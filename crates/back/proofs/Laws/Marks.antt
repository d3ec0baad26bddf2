-- Marks: where records end; the records of a journal and those behind a mark, at the mark itself and before the last record.
use Prim.Native.Nat.{ℕ, zero, suc, ◌+◌, ◌≤◌, ◌<◌}
use mathlib.Core.Path.{◌≡◌, refl, sym, ap, ◌∙◌}
use mathlib.Core.Logic.{inl, inr, ⊎_elim}
use mathlib.Core.Bool.{Bool, true, false, cond}
use mathlib.Core.List.{List, [], ◌∷◌, ◌++◌, map}
use native.Mathlib.Omega.{arith}
use borrow.Author.Tests.{le-leb, leb-true, ltb-false}
use lib.Dec.{leb, ltb, eqb}
use lib.ListN.{length}
use Rattle.layout.specs.Lists.{has, keep, select}
use Rattle.layout.specs.Bytes.{be32}
use Rattle.journal.specs.Journal.{used, record_ok, records_from, records, well_formed, last_record, undone_journal}
use Rattle.layout.proofs.Laws.Lists.{In, in-elim, in_right, in-here, in-append, every_in, has-eqb-in, in-has-eqb}
use Rattle.layout.proofs.Laws.Joins.{select-none}
use Rattle.journal.proofs.Laws.Append.{fine, WellFormed, well}
use Rattle.back.specs.Marks.{marks, behind}
use Rattle.journal.proofs.Laws.Dropped.{records-between, Dropped, dropped}

-- records that are not empty and end within the used part u: each begins where the one before it ends, and the last one ends at u
module _ (size : ℕ → ℕ) (u : ℕ) where
  walked-ends : (fuel at : ℕ) → at ≤ u → u ≤ at + fuel → ((x : ℕ) → In x (records_from size u at fuel) → (1 ≤ size x) × (x + size x ≤ u))
      → records_from size u at fuel ++ (u ∷ []) ≡ at ∷ map (λ x. x + size x) (records_from size u at fuel)
  unfolding records_from
  walked-ends zero at h f each = let e : at ≡ u = omega arith in rw e
  walked-ends (suc fuel) at h f each = go (ltb at u) refl each (walked-ends fuel (at + size at))
    where
      go : (b : Bool) → ltb at u ≡ b → ((x : ℕ) → In x (cond b (at ∷ records_from size u (at + size at) fuel) []) → (1 ≤ size x) × (x + size x ≤ u))
          → (at + size at ≤ u → u ≤ at + size at + fuel → ((x : ℕ) → In x (records_from size u (at + size at) fuel) → (1 ≤ size x) × (x + size x ≤ u))
          → records_from size u (at + size at) fuel ++ (u ∷ []) ≡ (at + size at) ∷ map (λ x. x + size x) (records_from size u (at + size at) fuel))
          → cond b (at ∷ records_from size u (at + size at) fuel) [] ++ (u ∷ []) ≡ at ∷ map (λ x. x + size x) (cond b (at ∷ records_from size u (at + size at) fuel) [])
      go true e all more = let a = all at (inl refl) in ap (λ (xs : List ℕ). at ∷ xs) (more a.1 (omega (arith, a.0)) (λ x i. all x (inr i)))
      go false e all more = let l : u ≤ at = ltb-false at u e in let q : u ≡ at = omega arith in ap (λ (x : ℕ). x ∷ []) q

-- so the marks are 5 and where each record ends
pub marks-end : (j : List ℕ) (n : ℕ) → well_formed j n ≡ true → marks j ≡ 5 ∷ map (λ at. at + be32 j at) (records j)
unfolding marks records
marks-end j n t =
    let w = well j n t in
    walked-ends (be32 j) (used j) (used j) 5 w.used_low (omega arith)
    (λ x i. let f = fine j n x (every_in (record_ok j n) (records j) x w.recorded i) in (omega (arith, f.size), f.inside))

-- one number more at the end, which passes
select-snoc : (mark x : ℕ) → mark ≤ x → (xs : List ℕ) → length (select (leb mark) (xs ++ (x ∷ []))) ≡ suc (length (select (leb mark) xs))
select-snoc mark x h [] = rw (le-leb mark x h)
select-snoc mark x h (y ∷ ys) = go (leb mark y) (select-snoc mark x h ys)
  where
    go : (b : Bool) → length (select (leb mark) (ys ++ (x ∷ []))) ≡ suc (length (select (leb mark) ys))
        → length (keep b y (select (leb mark) (ys ++ (x ∷ [])))) ≡ suc (length (keep b y (select (leb mark) ys)))
    go true e = ap suc e
    go false e = e

-- over two lists, and where each passes
pub select-both : (p : ℕ → Bool) (xs ys : List ℕ) → length (select p (xs ++ ys)) ≡ length (select p xs) + length (select p ys)
select-both p [] ys = omega arith
select-both p (x ∷ xs) ys = go (p x) (select-both p xs ys)
  where
    go : (b : Bool) → length (select p (xs ++ ys)) ≡ length (select p xs) + length (select p ys)
        → length (keep b x (select p (xs ++ ys))) ≡ length (keep b x (select p xs)) + length (select p ys)
    go true e = omega arith
    go false e = e

pub select-each : (p : ℕ → Bool) (xs : List ℕ) → ((x : ℕ) → In x xs → p x ≡ true) → length (select p xs) ≡ length xs
select-each p [] f = refl
select-each p (x ∷ xs) f = rw (f x (inl refl)) (ap suc (select-each p xs (λ y m. f y (inr m))))

module _ (j : List ℕ) where
  -- every record begins at 5 or behind it, and before the used length
  pub record-between : (x : ℕ) → In x (records j) → (5 ≤ x) × (x < used j)
  unfolding records
  record-between x m = records-between (be32 j) (used j) (used j) 5 x m

  -- the used length is a mark, with no record behind it
  pub used-mark : has eqb (used j) (marks j) ≡ true
  unfolding marks
  used-mark = in-has-eqb (used j) (records j ++ (used j ∷ [])) (in_right (used j) (records j) (used j ∷ []) (in-here (used j) []))

  pub none-behind : (mark : ℕ) → used j ≤ mark → behind j mark ≡ 0
  unfolding behind
  none-behind mark h =
      ap (λ (xs : List ℕ). length xs)
      (select-none (leb mark) (records j) (λ x m t. let b = record-between x m in let a : mark ≤ x = leb-true mark x t in omega (arith, b.1)))

  -- a mark below the used length is where a record begins; one that is not below is the used length
  mark-in : (mark : ℕ) → has eqb mark (marks j) ≡ true → In mark (records j ++ (used j ∷ []))
  unfolding marks
  mark-in mark t = has-eqb-in mark (records j ++ (used j ∷ [])) t

  pub mark-record : (mark : ℕ) → has eqb mark (marks j) ≡ true → mark < used j → In mark (records j)
  mark-record mark t h =
      ⊎_elim (λ m. m) (λ m. in-elim mark (used j) [] m (λ e. absurd (omega arith)) (λ z. absurd z))
      (in-append mark (records j) (used j ∷ []) (mark-in mark t))

-- the last record taken back, which stands at a mark or behind it
module _ (n : ℕ) (j : List ℕ) (w : WellFormed j n) (mark : ℕ) (m : In mark (records j)) where
  gone : Dropped n j (undone_journal j)
  gone = dropped n j w mark m

  in-fewer : In mark (records (undone_journal j) ++ (last_record j ∷ []))
  in-fewer = rw gone.records-are at m

  pub mark-before : mark ≤ last_record j
  mark-before =
      ⊎_elim (λ i. let b = record-between (undone_journal j) mark i in omega (arith, b.1, gone.used-is))
      (λ i. in-elim mark (last_record j) [] i (λ e. omega arith) (λ z. absurd z))
      (in-append mark (records (undone_journal j)) (last_record j ∷ []) in-fewer)

  pub marks-fewer : marks (undone_journal j) ≡ records j
  unfolding marks
  marks-fewer = ap (λ (u : ℕ). records (undone_journal j) ++ (u ∷ [])) gone.used-is ∙ sym gone.records-are

  pub still-mark : has eqb mark (marks (undone_journal j)) ≡ true
  still-mark = rw marks-fewer (in-has-eqb mark (records j) m)

  pub one-behind : behind j mark ≡ suc (behind (undone_journal j) mark)
  unfolding behind
  one-behind = ap (λ (xs : List ℕ). length (select (leb mark) xs)) gone.records-are ∙ select-snoc mark (last_record j) mark-before (records (undone_journal j))
