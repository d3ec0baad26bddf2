-- What a store leaves: the numbers as the entries, and every other byte.
use Prim.Native.Nat.{ℕ, ◌+◌, ◌*◌, ◌≤◌, ◌<◌}
use mathlib.Core.List.{List}
use mathlib.Core.Logic.{◌⊎◌, inl, inr}
use mathlib.Core.Path.{◌≡◌, refl, sym, ap, ◌∙◌, subst}
use native.Mathlib.Decide.{ℕ_discrete}
use native.Mathlib.Omega.{arith}
use lib.ListN.{length, get_or}
use Rattle.layout.specs.Lists.{joined}
use Rattle.layout.specs.Bytes.{bytes4, splice}
use Rattle.layout.specs.Geometry.{block_count}
use Rattle.layout.specs.Table.{next}
use Rattle.layout.proofs.Laws.Bytes.{be32-same, length-joined4, joined4-at, length-splice, get_d-splice-before, get_d-splice-inside, get_d-splice-after}
use Rattle.chain_table.specs.Numbers.{value_in, stored, Held}
use Rattle.chain_table.specs.Transfer.{table_refusal, store_table}
use Rattle.chain_table.proofs.Laws.Outcomes.{accepted, store-not, store-done}

module _ (s xs : List ℕ) (fits : 512 + 4 * length xs ≤ length s) where
  abbrev run : List ℕ
  run = joined bytes4 xs

  inside : 512 + length run ≤ length s
  inside = omega (arith, fits, length-joined4 xs)

  stored_at : (b : ℕ) → b < length xs → (i : ℕ) → i < 4 → get_or (splice s 512 run) (512 + 4 * b + i) 0 ≡ get_or run (4 * b + i) 0
  stored_at b h i g =
      let e : 512 + 4 * b + i ≡ 512 + (4 * b + i) = omega arith in
      ap (λ (j : ℕ). get_or (splice s 512 run) j 0) e ∙ get_d-splice-inside s 512 run inside (4 * b + i) (omega (arith, length-joined4 xs))

  stored-held : ((b : ℕ) → value_in xs b < 0x100000000) → Held (stored s xs) xs (length xs)
  unfolding stored next
  stored-held small =
      record { size = refl; same = λ b h. sym (be32-same run (splice s 512 run) (4 * b) (512 + 4 * b) (stored_at b h) ∙ joined4-at xs b h (small b)) }

  stored-length : length (stored s xs) ≡ length s
  unfolding stored
  stored-length = length-splice s 512 run inside

  stored-others : (i : ℕ) → (i < 512) ⊎ (512 + 4 * length xs ≤ i) → get_or (stored s xs) i 0 ≡ get_or s i 0
  unfolding stored
  stored-others i (inl h) = get_d-splice-before s 512 run inside i h
  stored-others i (inr h) = get_d-splice-after s 512 run inside i (omega (arith, length-joined4 xs))

-- of the call: refused, it leaves the image
module _ (s xs : List ℕ) where
  done : table_refusal s (length xs) ≡ 0 → stored s xs ≡ (store_table s xs).image
  done e = (store-done s xs 0 (sym e) refl (stored s xs) refl).1

  by-refusal : (P : List ℕ → Type 0) → P s → (table_refusal s (length xs) ≡ 0 → P (stored s xs)) → P (store_table s xs).image
  by-refusal P left made = go (ℕ_discrete (table_refusal s (length xs)) 0)
    where
      go : Dec (table_refusal s (length xs) ≡ 0) → P (store_table s xs).image
      go (yes e) = subst P (done e) (made e)
      go (no e) = subst P (store-not s xs (table_refusal s (length xs)) refl e).1 left

  pub store-held : ((b : ℕ) → value_in xs b < 0x100000000) → table_refusal s (length xs) ≡ 0 → Held (store_table s xs).image xs (block_count s)
  store-held small e =
      let a = accepted s (length xs) e in
      let h : Held (stored s xs) xs (length xs) = stored-held s xs (omega (arith, a.2)) small in
      subst (λ (n : ℕ). Held (store_table s xs).image xs n) a.1 (subst (λ (t : List ℕ). Held t xs (length xs)) (done e) h)

  pub store_length : length (store_table s xs).image ≡ length s
  store_length = by-refusal (λ t. length t ≡ length s) refl (λ e. stored-length s xs (omega (arith, (accepted s (length xs) e).2)))

  pub store-others : (i : ℕ) → (i < 512) ⊎ (512 + 4 * block_count s ≤ i) → get_or (store_table s xs).image i 0 ≡ get_or s i 0
  store-others i h =
      by-refusal (λ t. get_or t i 0 ≡ get_or s i 0) refl λ e.
      let a = accepted s (length xs) e in
      stored-others s xs (omega (arith, a.2)) i (subst (λ (n : ℕ). (i < 512) ⊎ (512 + 4 * n ≤ i)) (sym a.1) h)
