-- A well-formed journal whose last record is taken back: it is well formed, its records are the others, and its used length is where that one began.
use Prim.Native.Nat.{ℕ, zero, suc, ◌+◌, ◌-◌, ◌*◌, ◌≤◌, ◌<◌}
use mathlib.Core.Path.{◌≡◌, refl, sym, ap, ◌∙◌}
use mathlib.Core.Logic.{◌⊎◌, inl, inr, ⊎_elim}
use mathlib.Core.Bool.{Bool, true, false, cond}
use mathlib.Core.List.{List, [], ◌∷◌, ◌++◌, map}
use native.Mathlib.Omega.{arith}
use borrow.Author.Tests.{lt-ltb, ltb-true}
use lib.Dec.{ltb}
use lib.ListN.{length, get_or}
use Rattle.layout.specs.Lists.{interval, every, last_or}
use Rattle.layout.specs.Bytes.{be32, bytes4, zeros, splice}
use Rattle.journal.specs.Journal.{used, copies, block_at, record_ok, records_from, records, last_record, undone_journal}
use Rattle.layout.proofs.Laws.Tests.{and_split, and-join, lt-or-ge}
use Rattle.layout.proofs.Laws.Lists.{In, in-elim, every_in, last-in, map-interval}
use Rattle.layout.proofs.Laws.Bytes.{be32-same, be32-splice, length-bytes4, length-zeros, length-splice, get_d-splice-before, get_d-splice-after}
use Rattle.journal.proofs.Laws.RecordWalk.{records-none, records-more}
use Rattle.journal.proofs.Laws.Append.{Fine, fine, fine-ok, WellFormed, copies-same}

-- the last of a list that has an element is in it
pub last_some : (xs : List ℕ) (x b : ℕ) → In x xs → In (last_or b xs) xs
last_some [] x b m = absurd m
last_some (y ∷ ys) x b m = ⊎_elim (λ e. inl e) (λ i. inr i) (last-in ys y)

-- a walk meets offsets from where it begins on, below the used length
module _ (size : ℕ → ℕ) (u : ℕ) where
  pub records-between : (fuel at x : ℕ) → In x (records_from size u at fuel) → (at ≤ x) × (x < u)
  unfolding records_from
  records-between zero at x m = absurd m
  records-between (suc fuel) at x m = go (ltb at u) refl m (records-between fuel (at + size at) x)
    where
      go : (b : Bool) → ltb at u ≡ b → In x (cond b (at ∷ records_from size u (at + size at) fuel) [])
          → (In x (records_from size u (at + size at) fuel) → (at + size at ≤ x) × (x < u)) → (at ≤ x) × (x < u)
      go true e n rest =
          in-elim x at (records_from size u (at + size at) fuel) n
          (λ d. let h : at < u = ltb-true at u e in (omega arith, omega arith))
          (λ i. let r = rest i in (omega (arith, r.0), r.1))
      go false e n rest = absurd n

-- what the test of a record in the old journal tells: it is not empty and ends within the used part u; and if it ends where the last one begins, or before, it has
-- the same length in the new journal and passes the new test
record Leaves (f g : ℕ → ℕ) (u l at : ℕ) (new : Bool) : Type 0 where
  some : 1 ≤ f at
  inside : at + f at ≤ u
  same : at + f at ≤ l → g at ≡ f at
  passes : at + f at ≤ l → new ≡ true

-- The lengths f of the old journal, whose last record begins at l, and g of the new one; p and q are the tests of a record in them.
module _ (f g : ℕ → ℕ) (u l : ℕ) (p q : ℕ → Bool) (leaves : (at : ℕ) → 5 ≤ at → p at ≡ true → Leaves f g u l at (q at)) where
  abbrev Fewer : ℕ → ℕ → ℕ → Type 0
  Fewer fuel at k = (records_from f u at fuel ≡ records_from g l at k ++ (l ∷ [])) × (every q (records_from g l at k) ≡ true) × (at ≤ l)

  fewer : (fuel at k d : ℕ) → 5 ≤ at → at < u → u ≤ at + fuel → l ≤ at + k → every p (records_from f u at fuel) ≡ true → last_or d (records_from f u at fuel) ≡ l
      → Fewer fuel at k
  unfolding records_from
  fewer zero at k d low h enough more w z = absurd (omega arith)
  fewer (suc fuel) at k d low h enough more w z = go (lt-or-ge (at + f at) u) (fewer fuel (at + f at) (k - 1) at)
    where
      e : records_from f u at (suc fuel) ≡ at ∷ records_from f u (at + f at) fuel
      e = rw (lt-ltb at u h)

      w₁ : (p at ≡ true) × (every p (records_from f u (at + f at) fuel) ≡ true)
      w₁ = and_split (p at) (every p (records_from f u (at + f at) fuel)) (ap (λ (r : List ℕ). every p r) (sym e) ∙ w)

      z₁ : last_or at (records_from f u (at + f at) fuel) ≡ l
      z₁ = ap (λ (r : List ℕ). last_or d r) (sym e) ∙ z

      st : Leaves f g u l at (q at)
      st = leaves at low w₁.0

      go : (at + f at < u) ⊎ (u ≤ at + f at)
          → (5 ≤ at + f at → at + f at < u → u ≤ at + f at + fuel → l ≤ at + f at + (k - 1) → every p (records_from f u (at + f at) fuel) ≡ true
          → last_or at (records_from f u (at + f at) fuel) ≡ l → Fewer fuel (at + f at) (k - 1))
          → Fewer (suc fuel) at k
      go (inl b) rest =
          let r = rest (omega arith) b (omega (arith, st.some)) (omega (arith, st.some)) w₁.1 z₁ in
          let s : g at ≡ f at = st.same r.2 in
          let i : at < l = omega (arith, st.some, r.2) in
          let eg : records_from g l at k ≡ at ∷ records_from g l (at + f at) (k - 1) =
          records-more g l at k i (omega arith) ∙ ap (λ (x : ℕ). at ∷ records_from g l (at + x) (k - 1)) s in (
            e ∙ ap (λ (x : List ℕ). at ∷ x) r.0 ∙ ap (λ (x : List ℕ). x ++ (l ∷ [])) (sym eg),
            ap (λ (x : List ℕ). every q x) eg ∙ and-join (st.passes r.2) r.1,
            omega arith,
          )
      go (inr b) rest =
          let n : records_from f u (at + f at) fuel ≡ [] = records-none f u (at + f at) fuel b in
          let a : at ≡ l = ap (λ (x : List ℕ). last_or at x) (sym n) ∙ z₁ in
          let eg : records_from g l at k ≡ [] = records-none g l at k (omega arith) in (
            e ∙ ap (λ (x : List ℕ). at ∷ x) n ∙ ap (λ (x : ℕ). x ∷ []) a ∙ ap (λ (x : List ℕ). x ++ (l ∷ [])) (sym eg),
            ap (λ (x : List ℕ). every q x) eg,
            omega arith,
          )

-- THE LAWS OF A JOURNAL `new` that is `old` with its last record taken back
pub record Dropped (n : ℕ) (old new : List ℕ) : Type 0 where
  pub long : length new ≡ length old
  pub well-formed : WellFormed new n
  pub used-is : used new ≡ last_record old
  pub records-are : records old ≡ records new ++ (last_record old ∷ [])
  pub low : 5 ≤ last_record old
  pub below : last_record old < used old

module _ (n : ℕ) (old : List ℕ) (w : WellFormed old n) (x : ℕ) (m : In x (records old)) where
  abbrev l : ℕ
  l = last_record old

  last-in-records : In l (records old)
  unfolding last_record
  last-in-records = last_some (records old) x 0 m

  between : (5 ≤ l) × (l < used old)
  unfolding records
  between = records-between (be32 old) (used old) (used old) 5 l last-in-records

  last-fine : Fine old n l
  last-fine = fine old n l (every_in (record_ok old n) (records old) l w.recorded last-in-records)

  abbrev cleared : List ℕ
  cleared = splice old (last_record old) (zeros (be32 old (last_record old)))

  abbrev new : List ℕ
  new = splice (splice old (last_record old) (zeros (be32 old (last_record old)))) 1 (bytes4 (last_record old))

  fits : l + length (zeros (be32 old l)) ≤ length old
  fits = omega (arith, length-zeros (be32 old l), last-fine.inside, w.used_high)

  cleared-long : length cleared ≡ length old
  cleared-long = length-splice old l (zeros (be32 old l)) fits

  room : 1 + length (bytes4 l) ≤ length cleared
  room = omega (arith, w.long, cleared-long, length-bytes4 l)

  new-long : length new ≡ length old
  new-long = length-splice cleared 1 (bytes4 l) room ∙ cleared-long

  used-new : used new ≡ l
  unfolding used
  used-new = be32-splice cleared 1 l (omega (arith, room, length-bytes4 l)) (omega (arith, w.short, w.used_high, between.1))

  version-new : get_or new 0 0 ≡ 1
  version-new =
      get_d-splice-before cleared 1 (bytes4 l) room 0 (omega arith)
      ∙ get_d-splice-before old l (zeros (be32 old l)) fits 0 (omega (arith, between.0)) ∙ w.version

  -- the numbers of the other records stay
  old-number : (at : ℕ) → 5 ≤ at → at + 4 ≤ l → be32 new at ≡ be32 old at
  old-number at h k = be32-same old new at at (λ i b.
      get_d-splice-after cleared 1 (bytes4 l) room (at + i) (omega (arith, length-bytes4 l))
      ∙ get_d-splice-before old l (zeros (be32 old l)) fits (at + i) (omega arith))

  stays : (at : ℕ) → 5 ≤ at → record_ok old n at ≡ true → Leaves (be32 old) (be32 new) (used old) l at (record_ok new n at)
  stays at h t =
      let f : Fine old n at = fine old n at t in
      let k : ℕ = copies old at in
      let z : be32 old at ≡ 4 + 516 * k = f.size in
      let o : at + be32 old at ≤ l → be32 new at ≡ be32 old at = λ i. old-number at h (omega arith) in
      record {
        some = omega arith;
        inside = f.inside;
        same = o;
        passes = λ i.
            let c : copies new at ≡ copies old at = copies-same new old at (o i) in
            let e : map (block_at new at) (interval 0 (copies new at)) ≡ map (block_at old at) (interval 0 (copies old at)) =
            rw c (map-interval (block_at new at) (block_at old at) k 0 (λ y b. old-number (at + 4 + 516 * y) (omega arith) (omega arith))) in
            fine-ok new n at (record
            { some = rw c f.some; size = rw (o i, c) z; inside = rw (o i, used-new) i; rises = rw e f.rises; below = rw e f.below });
      }

  walked : (records old ≡ records_from (be32 new) l 5 l ++ (l ∷ [])) × (every (record_ok new n) (records_from (be32 new) l 5 l) ≡ true) × (5 ≤ l)
  unfolding records last_record
  walked =
      fewer (be32 old) (be32 new) (used old) l (record_ok old n) (record_ok new n) stays (used old) 5 l 0 (omega arith) (omega (arith, between.0, between.1))
      (omega arith) (omega arith) w.recorded refl

  records-new : records new ≡ records_from (be32 new) l 5 l
  unfolding records
  records-new = rw used-new

  well-new : WellFormed new n
  well-new = record {
    long = omega (arith, new-long, w.long);
    short = omega (arith, new-long, w.short);
    version = version-new;
    used_low = rw used-new between.0;
    used_high = rw used-new (omega (arith, new-long, w.used_high, between.1));
    recorded = rw records-new walked.1;
  }

  pub dropped : Dropped n old (undone_journal old)
  unfolding undone_journal
  dropped = record {
    long = new-long;
    well-formed = well-new;
    used-is = used-new;
    records-are = walked.0 ∙ ap (λ (r : List ℕ). r ++ (last_record old ∷ [])) (sym records-new);
    low = between.0;
    below = between.1;
  }
