-- A store that changes nothing: of the image's own numbers, or refused, and no other.
use Prim.Native.Nat.{ℕ, ◌<◌}
use mathlib.Core.List.{List}
use mathlib.Core.Logic.{◌⊎◌, inl, inr}
use mathlib.Core.Path.{◌≡◌, ap, ◌∙◌, subst}
use native.Mathlib.Decide.{ℕ_discrete}
use native.Mathlib.Omega.{arith}
use lib.ListN.{length}
use Rattle.layout.specs.Refusals.{accept}
use Rattle.layout.specs.Geometry.{block_count}
use Rattle.layout.proofs.Laws.Tests.{accept-refused}
use Rattle.chain_table.specs.Numbers.{value_in, stored, Held, Own}
use Rattle.chain_table.specs.Transfer.{table_refusal, store_table}
use Rattle.chain_table.proofs.Laws.Numbers.{held-are, stored-own}
use Rattle.chain_table.proofs.Laws.Outcomes.{accepted}
use Rattle.chain_table.proofs.Laws.Stores.{store-held}

pub store-looks : (s xs : List ℕ) → Own s xs ⊎ (table_refusal s (length xs) ≡ 0 → ⊥) → (store_table s xs).image ≡ s
unfolding store_table
store-looks s xs (inl h) = go (ℕ_discrete (table_refusal s (length xs)) 0)
  where
    go : Dec (table_refusal s (length xs) ≡ 0) → accept (table_refusal s (length xs)) (stored s xs) s ≡ s
    go (yes e) = let a = accepted s (length xs) e in rw e (ap (stored s) (held-are h.held) ∙ stored-own s h.bytes (block_count s) (omega (arith, a.1, a.2)))
    go (no e) = accept-refused (table_refusal s (length xs)) (stored s xs) s e
store-looks s xs (inr e) = accept-refused (table_refusal s (length xs)) (stored s xs) s e

pub store-looks-only : (s xs : List ℕ) → ((b : ℕ) → value_in xs b < 0x100000000) → (store_table s xs).image ≡ s
    → Held s xs (block_count s) ⊎ (table_refusal s (length xs) ≡ 0 → ⊥)
store-looks-only s xs small same = go (ℕ_discrete (table_refusal s (length xs)) 0)
  where
    go : Dec (table_refusal s (length xs) ≡ 0) → Held s xs (block_count s) ⊎ (table_refusal s (length xs) ≡ 0 → ⊥)
    go (yes e) = inl (subst (λ (t : List ℕ). Held t xs (block_count s)) same (store-held s xs small e))
    go (no e) = inr e
