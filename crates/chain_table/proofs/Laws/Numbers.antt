-- Entries as a list of numbers, and numbers written where they stand.
use Prim.Native.Nat.{ℕ, zero, suc, ◌+◌, ◌*◌, ◌≤◌, ◌<◌}
use mathlib.Core.List.{List, [], ◌∷◌, map}
use mathlib.Core.Path.{◌≡◌, refl, sym, ap, ◌∙◌}
use native.Mathlib.Omega.{arith}
use lib.ListN.{length, get_or}
use lib.Seq.{ext_get_or}
use Rattle.layout.specs.Lists.{interval, joined}
use Rattle.layout.specs.Bytes.{be32, bytes4, splice}
use Rattle.layout.specs.Table.{next, chain}
use Rattle.layout.proofs.Laws.Bytes.{splice-ext, splice-nil, splice-append, length-joined4}
use Rattle.layout.proofs.Laws.Chains.{nth, length-chain, get_d-chain}
use Rattle.layout.proofs.Laws.Lists.{get_d-interval, length-interval}
use Rattle.chain_table.specs.Numbers.{value_in, entries_of, stored, Held}

length-map : (v : ℕ → ℕ) (xs : List ℕ) → length (map v xs) ≡ length xs
length-map v [] = refl
length-map v (x ∷ xs) = ap suc (length-map v xs)

get_d_map : (v : ℕ → ℕ) (xs : List ℕ) (i : ℕ) → i < length xs → get_or (map v xs) i 0 ≡ v (get_or xs i 0)
get_d_map v [] i h = absurd (omega arith)
get_d_map v (x ∷ xs) zero h = refl
get_d_map v (x ∷ xs) (suc i) h = get_d_map v xs i (omega arith)

module _ (v : ℕ → ℕ) (n : ℕ) where
  pub length-entries : length (entries_of v n) ≡ n
  unfolding entries_of
  length-entries = length-map v (interval 0 n) ∙ length-interval 0 n

  pub entries_at : (b : ℕ) → b < n → value_in (entries_of v n) b ≡ v b
  unfolding entries_of
  entries_at b h =
      let z : 0 + b ≡ b = omega arith in
      get_d_map v (interval 0 n) b (omega (arith, length-interval 0 n)) ∙ ap v (get_d-interval 0 n b h ∙ z)

  -- numbers that are the values are the entries
  pub entries-are : (xs : List ℕ) → length xs ≡ n → ((b : ℕ) → b < n → value_in xs b ≡ v b) → xs ≡ entries_of v n
  entries-are xs e f = ext_get_or 0 xs (entries_of v n) (e ∙ sym length-entries) λ i h. f i (omega arith) ∙ sym (entries_at i (omega arith))

-- a chain is the list of its positions
pub chain-entries : (v : ℕ → ℕ) (b k : ℕ) → entries_of (λ x. nth v x b) k ≡ chain v b k
chain-entries v b k =
    sym (entries-are (λ x. nth v x b) k (chain v b k) (length-chain v b k) (λ x h. get_d-chain v b k x h))

pub held-entries : (s : List ℕ) (n : ℕ) → Held s (entries_of (next s) n) n
held-entries s n = record { size = length-entries (next s) n; same = entries_at (next s) n }

pub held-are : {s xs : List ℕ} {n : ℕ} → Held s xs n → xs ≡ entries_of (next s) n
held-are {s} {xs} {n} h = entries-are (next s) n xs h.size h.same

-- numbers written where they stand change nothing
module _ (s : List ℕ) (bytes : (i : ℕ) → get_or s i 0 < 256) where
  same_bytes : (at : ℕ) → (i : ℕ) → i < 4 → get_or s (at + i) 0 ≡ get_or (bytes4 (be32 s at)) i 0
  unfolding be32 bytes4
  same_bytes at zero h = let z : at + 0 ≡ at = omega arith in rw z (omega (arith, bytes at, bytes (at + 1), bytes (at + 2), bytes (at + 3)))
  same_bytes at (suc zero) h = omega (arith, bytes at, bytes (at + 1), bytes (at + 2), bytes (at + 3))
  same_bytes at (suc (suc zero)) h = omega (arith, bytes at, bytes (at + 1), bytes (at + 2), bytes (at + 3))
  same_bytes at (suc (suc (suc zero))) h = omega (arith, bytes at, bytes (at + 1), bytes (at + 2), bytes (at + 3))
  same_bytes at (suc (suc (suc (suc i)))) h = absurd (omega arith)

  same_number : (at : ℕ) → at + 4 ≤ length s → splice s at (bytes4 (be32 s at)) ≡ s
  unfolding bytes4
  same_number at h = sym (splice-ext s s at (bytes4 (be32 s at)) h refl (λ i g. refl) (same_bytes at) (λ i g. refl))

  same_from : (k a : ℕ) → 512 + 4 * (a + k) ≤ length s → splice s (512 + 4 * a) (joined bytes4 (map (next s) (interval a k))) ≡ s
  unfolding next bytes4
  same_from zero a h = splice-nil s _
  same_from (suc k) a h =
      let p : List ℕ = bytes4 (next s a) in
      let q : List ℕ = joined bytes4 (map (next s) (interval (suc a) k)) in
      let m : length q ≡ 4 * k = length-joined4 (map (next s) (interval (suc a) k)) ∙ ap (λ (j : ℕ). 4 * j) (length-map (next s) (interval (suc a) k) ∙ length-interval (suc a) k) in
      let at : 512 + 4 * a + 4 ≡ 512 + 4 * suc a = omega arith in
      sym (splice-append s (512 + 4 * a) p q (omega arith))
      ∙ ap (λ (t : List ℕ). splice t (512 + 4 * a + 4) q) (same_number (512 + 4 * a) (omega arith))
      ∙ ap (λ (j : ℕ). splice s j q) at
      ∙ same_from k (suc a) (omega arith)

  pub stored-own : (n : ℕ) → 512 + 4 * n ≤ length s → stored s (entries_of (next s) n) ≡ s
  unfolding stored entries_of
  stored-own n h = same_from n 0 (omega arith)
