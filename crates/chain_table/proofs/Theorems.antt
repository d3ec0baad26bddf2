-- What is promised of the table held as numbers (FORMAT.md, 12): load then store changes no byte; a store stores; each question and change on the numbers
-- gives what the byte form gives, over any n.
use Prim.Native.Nat.{ℕ, ◌+◌, ◌-◌, ◌*◌, ◌≤◌, ◌<◌}
use mathlib.Core.Bool.{true, not, ◌&&◌, ◌||◌}
use mathlib.Core.List.{List}
use mathlib.Core.Logic.{◌⊎◌, inl, inr}
use mathlib.Core.Path.{◌≡◌, ap}
use native.Mathlib.Decide.{ℕ_discrete}
use native.Mathlib.Omega.{arith}
use lib.Dec.{eqb}
use lib.ListN.{length, get_or, set, get_or-eq_default}
use Rattle.layout.specs.Limits.{min_blocks}
use Rattle.layout.specs.Lists.{interval, every, has, last_or}
use Rattle.layout.specs.Geometry.{block_count, table_blocks}
use Rattle.layout.specs.Table.{next, set_next, chain, ends_after, chain_ok, free_blocks, occupied, all_ones, rest_free}
use Rattle.layout.specs.Check.{all_chains, owned, table_ok, stage6}
use Rattle.layout.proofs.Laws.Tests.{accept-refused}
use Rattle.volume.specs.Entries.{linked, taken, grown, freed, released}
use Rattle.volume.specs.Search.{lowest_free}
use Rattle.chain_table.specs.Numbers.{value_in, entries_of, Held, Own, linked_in, taken_in, grown_in, freed_in, released_in}
use Rattle.chain_table.specs.Transfer.{table_refusal, load_table, store_table}
use Rattle.chain_table.specs.Runs.{TableRunTheorem}
use Rattle.layout.proofs.Laws.Lists.{in-has-eqb}
use Rattle.layout.proofs.Laws.Values.{chain_same, ends_same, occupied-agree, ones-same, rest_free-same}
use Rattle.chain_table.proofs.Laws.Values.{chain-ok-same, free-same, lowest-same, owned-same, table-ok-same, rest-owned}
use Rattle.chain_table.proofs.Laws.Numbers.{held-entries}
use Rattle.chain_table.proofs.Laws.Looks.{store-looks as looks, store-looks-only as looks-only}
use Rattle.chain_table.proofs.Laws.Stores.{store-held as stores, store-others as others, store_length as long}
use Rattle.chain_table.proofs.Laws.Runs.{every-table-run as every-run}
use Rattle.chain_table.proofs.Laws.Changes.{held-set, held_link, held-take, held-free, held-grow, held-release}

-- an accepted load gives the entries of the image
pub load-held : (s xs : List ℕ) → (load_table s xs).number ≡ 0 → Held s (load_table s xs).numbers (block_count s)
unfolding load_table
load-held s xs e = rw e (held-entries s (block_count s))

-- A STORE STORES: accepted, it makes the numbers the entries of the image; numbers of 32 bits, as every run lent to a call has
pub store-held : (s xs : List ℕ) → ((b : ℕ) → value_in xs b < 0x100000000) → (store_table s xs).number ≡ 0 → Held (store_table s xs).image xs (block_count s)
unfolding store_table
store-held = stores

-- "writes the entries below n only": every other byte stays, and the length
pub store-others : (s xs : List ℕ) (i : ℕ) → (i < 512) ⊎ (512 + 4 * block_count s ≤ i) → get_or (store_table s xs).image i 0 ≡ get_or s i 0
store-others = others

pub store_length : (s xs : List ℕ) → length (store_table s xs).image ≡ length s
store_length = long

-- a store of the image's own numbers only looks, and so does one that is refused
pub store-looks : (s xs : List ℕ) → Own s xs ⊎ (table_refusal s (length xs) ≡ 0 → ⊥) → (store_table s xs).image ≡ s
store-looks = looks

-- and a store that changes no byte is one of these
pub store-looks-only : (s xs : List ℕ) → ((b : ℕ) → value_in xs b < 0x100000000) → (store_table s xs).image ≡ s
    → Held s xs (block_count s) ⊎ (table_refusal s (length xs) ≡ 0 → ⊥)
store-looks-only = looks-only

-- a refused load leaves the numbers, with which the store is refused too
load-refused : (s xs : List ℕ) → ((load_table s xs).number ≡ 0 → ⊥) → (store_table s (load_table s xs).numbers).image ≡ s
unfolding load_table
load-refused s xs e =
    rw (accept-refused (table_refusal s (length xs)) (entries_of (next s) (block_count s)) xs e) (store-looks s xs (inr e))

-- LOAD THEN STORE changes no byte, of a sound image and of any other
pub load_store : (s xs : List ℕ) → ((i : ℕ) → get_or s i 0 < 256) → (store_table s (load_table s xs).numbers).image ≡ s
load_store s xs bytes = go (ℕ_discrete (load_table s xs).number 0)
  where
    go : Dec ((load_table s xs).number ≡ 0) → (store_table s (load_table s xs).numbers).image ≡ s
    go (yes e) = store-looks s (load_table s xs).numbers (inl (record { bytes = bytes; held = load-held s xs e }))
    go (no e) = load-refused s xs e

-- IN A RUN a load, and a store of the image's own numbers or a refused one, is a call that only looks: image, whole journal and every answer are the replay's
pub every-table-run : TableRunTheorem
every-table-run = every-run

-- EVERY QUESTION on the numbers gives what the bytes give
module _ {s xs : List ℕ} {n : ℕ} (held : Held s xs n) where
  pub value_same : (b : ℕ) → b < n → value_in xs b ≡ next s b
  value_same = held.same

  -- of a chain whose blocks are below n, as all of a sound image are
  module _ (b k : ℕ) (below : (i : ℕ) → i < k → get_or (chain (next s) b k) i 0 < n) where
    pub chain-of-numbers : chain (value_in xs) b k ≡ chain (next s) b k
    chain-of-numbers = chain_same (value_in xs) (next s) n held.same b k below

    pub nth-of-numbers : (i : ℕ) → get_or (chain (value_in xs) b k) i 0 ≡ get_or (chain (next s) b k) i 0
    nth-of-numbers i = ap (λ (bs : List ℕ). get_or bs i 0) chain-of-numbers

    pub last-of-numbers : last_or 0 (chain (value_in xs) b k) ≡ last_or 0 (chain (next s) b k)
    last-of-numbers = ap (last_or 0) chain-of-numbers

  pub ends-of-numbers : (b k : ℕ) → ends_after (value_in xs) n b k ≡ ends_after (next s) n b k
  ends-of-numbers b k = ends_same (value_in xs) (next s) n held.same k b

  pub chain-ok-of-numbers : (b k : ℕ) → chain_ok (value_in xs) n b k ≡ chain_ok (next s) n b k
  chain-ok-of-numbers = chain-ok-same (value_in xs) (next s) n held.same

  pub occupied-of-numbers : occupied (value_in xs) n ≡ occupied (next s) n
  occupied-of-numbers = occupied-agree (value_in xs) (next s) n held.same

  pub free-blocks-of-numbers : free_blocks (value_in xs) n ≡ free_blocks (next s) n
  free-blocks-of-numbers = free-same (value_in xs) (next s) n held.same

  pub lowest-of-numbers : (a : ℕ) → lowest_free (value_in xs) a n ≡ lowest_free (next s) a n
  lowest-of-numbers = lowest-same (value_in xs) (next s) n held.same

  pub ones-of-numbers : (a k : ℕ) → a + k ≤ n → all_ones (value_in xs) a k ≡ all_ones (next s) a k
  ones-of-numbers = ones-same (value_in xs) (next s) n held.same

  pub rest-of-numbers : (m : List ℕ) (a k : ℕ) → a + k ≤ n → rest_free (value_in xs) m a k ≡ rest_free (next s) m a k
  rest-of-numbers = rest_free-same (value_in xs) (next s) n held.same

  -- the blocks of chains, where the chains are right
  pub owned-of-numbers : (cs : List (ℕ × ℕ)) → every (λ c. chain_ok (next s) n c.0 c.1) cs ≡ true → owned (value_in xs) cs ≡ owned (next s) cs
  owned-of-numbers = owned-same (value_in xs) (next s) n held.same

  -- STAGE 6 of any chains: what the numbers say, and that the table's entries from n on are 0. No number stands for these.
  pub table-ok-of-numbers : min_blocks ≤ n → (cs : List (ℕ × ℕ)) → table_ok (next s) n cs ≡ (table_ok (value_in xs) n cs && every (λ b. eqb (next s b) 0) (interval n (128 * table_blocks n - n)))
  table-ok-of-numbers low = table-ok-same (value_in xs) (next s) n held.same low (λ b h. get_or-eq_default xs 0 (omega (arith, held.size)))

-- stage 6 of an image, by its numbers and its own chains
pub stage6-of-numbers : (s xs : List ℕ) → Held s xs (block_count s) → min_blocks ≤ block_count s
    → stage6 s ≡ (table_ok (value_in xs) (block_count s) (all_chains s) && every (λ b. eqb (next s b) 0) (interval (block_count s) (128 * table_blocks (block_count s) - block_count s)))
unfolding stage6
stage6-of-numbers s xs held low = table-ok-of-numbers held low (all_chains s)

-- `rest_free` asks stage 6's last clause by marks: where the blocks os are marked, and no others, its answer is that clause's.
pub rest-of-owned : (v : ℕ → ℕ) (m os : List ℕ) → ((b : ℕ) → eqb (get_or m b 0) 0 ≡ not (has eqb b os)) → (a k : ℕ)
    → rest_free v m a k ≡ every (λ b. eqb (v b) 0 || has eqb b os) (interval a k)
rest-of-owned = rest-owned

-- EVERY CHANGE on the numbers leaves those of the bytes that are changed alike
module _ {s xs : List ℕ} {n : ℕ} (held : Held s xs n) (whole : length s ≡ 512 * n) (low : 3 ≤ n) where
  pub set-of-numbers : (b x : ℕ) → b < n → x < 0x100000000 → Held (set_next s b x) (set xs b x) n
  set-of-numbers = held-set held (omega arith)

  pub link-of-numbers : (last b : ℕ) → last < n → b < 0x100000000 → Held (linked s last b) (linked_in xs last b) n
  link-of-numbers = held_link held (omega arith)

  pub take-of-numbers : (last b : ℕ) → last < n → table_blocks n < b → b < n → b < 0x100000000 → Held (taken s n last b) (taken_in xs last b) n
  take-of-numbers last b l t h = held-take b held whole low t h last l

  pub free-of-numbers : (b : ℕ) → table_blocks n < b → b < n → Held (freed s n b) (freed_in xs b) n
  free-of-numbers b = held-free b held whole low

  -- the blocks of a list in turn, all in the volume
  module _ (bs : List ℕ) (inside : (b : ℕ) → has eqb b bs ≡ true → (table_blocks n < b) × (b < n)) where
    pub grow-of-numbers : n ≤ 0x100000000 → (last : ℕ) → last < n → Held (grown s n last bs) (grown_in xs last bs) n
    grow-of-numbers small last l = held-grow low small bs held whole last l (λ b i. inside b (in-has-eqb b bs i))

    pub release-of-numbers : Held (released s n bs) (released_in xs bs) n
    release-of-numbers = held-release low bs held whole (λ b i. inside b (in-has-eqb b bs i))
