-- The outcomes of load and store: refused, with nothing changed, and done.
use Prim.Native.Nat.{ℕ, ◌+◌, ◌*◌, ◌≤◌}
use mathlib.Core.List.{List}
use mathlib.Core.Path.{◌≡◌, sym, ap, ◌∙◌}
use native.Mathlib.Omega.{arith}
use lib.ListN.{length}
use borrow.Author.Tests.{eq-eqb, ne_eqb, eqb-true}
use Rattle.layout.specs.Refusals.{accept}
use Rattle.layout.specs.Geometry.{block_count, table_blocks}
use Rattle.layout.specs.Table.{next}
use Rattle.layout.specs.Check.{check}
use Rattle.layout.proofs.Laws.Tests.{accept-refused, first_of-zero, first_of-refused, require-zero}
use Rattle.layout.proofs.Walks.Shapes.{sound-shape}
use Rattle.chain_table.specs.Numbers.{entries_of, stored}
use Rattle.chain_table.specs.Transfer.{table_refusal, load_table, store_table}

module _ (s : List ℕ) (count : ℕ) where
  pub refused-check : (check s ≡ 0 → ⊥) → check s ≡ table_refusal s count
  unfolding table_refusal
  refused-check h = sym (first_of-refused (check s) _ h)

  pub refused-length : check s ≡ 0 → (count ≡ block_count s → ⊥) → 21 ≡ table_refusal s count
  unfolding table_refusal
  refused-length e h = rw (e, ne_eqb count (block_count s) h)

  pub not-refused : check s ≡ 0 → count ≡ block_count s → 0 ≡ table_refusal s count
  unfolding table_refusal
  not-refused e h = rw (e, eq-eqb count (block_count s) h)

  -- what an accepted call has shown
  pub accepted : table_refusal s count ≡ 0 → (check s ≡ 0) × (count ≡ block_count s) × (512 * table_blocks count + 512 ≤ length s)
  unfolding table_refusal
  accepted e =
      let w = first_of-zero (check s) _ e in
      let n : count ≡ block_count s = eqb-true count (block_count s) (require-zero _ _ _ w.1).0 in
      let h = sound-shape s w.0 in
      (w.0, n, omega (arith, h.whole, h.low))

module _ (s xs : List ℕ) (number : ℕ) (e : number ≡ table_refusal s (length xs)) where
  pub fits : number ≡ 0 → 512 * table_blocks (length xs) + 512 ≤ length s
  fits z = (accepted s (length xs) (sym e ∙ z)).2

  pub load-not : (number ≡ 0 → ⊥) → (number ≡ (load_table s xs).number) × (xs ≡ (load_table s xs).numbers)
  unfolding load_table
  load-not h = (e, sym (accept-refused (table_refusal s (length xs)) (entries_of (next s) (block_count s)) xs (λ z. h (e ∙ z))))

  pub load-done : number ≡ 0 → (ys : List ℕ) → ys ≡ entries_of (next s) (length xs) → (0 ≡ (load_table s xs).number) × (ys ≡ (load_table s xs).numbers)
  unfolding load_table
  load-done z ys d =
      let r : table_refusal s (length xs) ≡ 0 = sym e ∙ z in
      (sym r, d ∙ ap (entries_of (next s)) (accepted s (length xs) r).1 ∙ sym (ap (λ (k : ℕ). accept k (entries_of (next s) (block_count s)) xs) r))

  pub store-not : (number ≡ 0 → ⊥) → (number ≡ (store_table s xs).number) × (s ≡ (store_table s xs).image)
  unfolding store_table
  store-not h = (e, sym (accept-refused (table_refusal s (length xs)) (stored s xs) s (λ z. h (e ∙ z))))

  pub store-done : number ≡ 0 → (t : List ℕ) → t ≡ stored s xs → (0 ≡ (store_table s xs).number) × (t ≡ (store_table s xs).image)
  unfolding store_table
  store-done z t d =
      let r : table_refusal s (length xs) ≡ 0 = sym e ∙ z in
      (sym r, d ∙ sym (ap (λ (k : ℕ). accept k (stored s xs) s) r))
