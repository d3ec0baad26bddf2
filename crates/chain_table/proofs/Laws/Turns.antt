-- The turns of the loops, over plain variables.
use Prim.Native.Nat.{ℕ, suc, ◌+◌, ◌-◌, ◌*◌, ◌/◌, ◌%◌, ◌≤◌, ◌<◌, min}
use mathlib.Core.Bool.{true, false, not, ◌||◌}
use mathlib.Core.List.{List, ◌++◌}
use mathlib.Core.Logic.{⊎_elim, ◌≢◌}
use mathlib.Core.Path.{◌≡◌, refl, sym, ap, ◌∙◌}
use native.Mathlib.Nat.{eq-or-lt_of_le}
use native.Mathlib.Numerals.{add-one}
use native.Mathlib.Omega.{arith}
use lib.Dec.{eqb}
use lib.ListN.{length, get_or, set, drop, length-drop, take-append-drop, get_or-eq_default}
use lib.Seq.{drop-cons, drop-drop, drop-length, get_or-set_same, get_or-set_other}
use borrow.Author.Tests.{eq-eqb, ne_eqb}
use Rattle.std.specs.Int.{div_ceil}
use Rattle.layout.specs.Geometry.{table_blocks}
use Rattle.layout.specs.Lists.{joined}
use Rattle.layout.specs.Bytes.{bytes4, part, block, splice}
use Rattle.layout.specs.Table.{next, chain, occupied, rest_free}
use Rattle.layout.specs.Walks.Chains.{count_used, entry_in}
use Rattle.layout.proofs.Laws.Tests.{lt-or-ge}
use Rattle.layout.proofs.Laws.Bytes.{length_part, length-bytes4, splice-nil, splice-append, length-joined4, get_d-splice-before, get_d-splice-inside}
use Rattle.layout.proofs.Laws.Chains.{nth, length-chain}
use Rattle.layout.proofs.Laws.Lists.{interval-next, joined-append}
use Rattle.layout.proofs.Walks.Chains.{entry-in-block}
use Rattle.volume.specs.Search.{lowest_free}
use Rattle.volume.proofs.Laws.Notes.{first-none, first-here, first-skip}
use Rattle.chain_table.specs.Numbers.{value_in, entries_of, linked_in}
use Rattle.chain_table.proofs.Laws.Numbers.{length-entries, entries_at}

-- numbers filled in ascending order: those below i have their values, and one more
pub fill_more : (v : ℕ → ℕ) (xs : List ℕ) (i x : ℕ) → i < length xs → ((b : ℕ) → b < i → value_in xs b ≡ v b) → x ≡ v i
    → (b : ℕ) → b < i + 1 → value_in (set xs i x) b ≡ v b
fill_more v xs i x h f e b g =
    ⊎_elim (λ q. rw q (get_or-set_same xs i x 0 h ∙ e)) (λ q. get_or-set_other xs i b x 0 (λ z. omega arith) ∙ f b q)
    (let k : b ≤ i = omega arith in eq-or-lt_of_le k)

-- so many table blocks, rounded up
pub blocks-rounded : (n : ℕ) → div_ceil n 128 ≡ table_blocks n
blocks-rounded n = omega arith

-- before the last table block a whole one is done at a time
pub next-block : (b k n : ℕ) → b % 128 ≡ 0 → k ≡ min 128 (n - b) → b + k < n → (b + k) % 128 ≡ 0
next-block b k n e m h = let q : k ≡ 128 = omega arith in rw q (omega arith)

-- a table block's numbers loaded: those below b were there, and k more
module _ (s xs ys : List ℕ) (b k : ℕ) (whole : b % 128 ≡ 0) (few : k ≤ 128) (room : b + k ≤ length xs) where
  pub load-turn : (x : List ℕ) → x ≡ block s (1 + b / 128) → ys ≡ splice xs b (entries_of (entry_in x) k) → ((i : ℕ) → i < b → value_in xs i ≡ next s i)
      → (i : ℕ) → i < b + k → value_in ys i ≡ next s i
  load-turn x ex e f i h = ap (λ (l : List ℕ). get_or l i 0) e ∙ ⊎_elim (λ l. before l) (λ l. inside l) (lt-or-ge i b)
    where
      new : List ℕ
      new = entries_of (entry_in x) k

      fits : b + length new ≤ length xs
      fits = omega (arith, length-entries (entry_in x) k)

      before : i < b → get_or (splice xs b new) i 0 ≡ next s i
      before l = get_d-splice-before xs b new fits i l ∙ f i l

      inside : b ≤ i → get_or (splice xs b new) i 0 ≡ next s i
      inside l =
          let j : ℕ = i - b in
          let ei : i ≡ b + j = omega arith in
          let q : b / 128 ≡ i / 128 = omega arith in
          let r : j ≡ i % 128 = omega arith in
          ap (λ (y : ℕ). get_or (splice xs b new) y 0) ei
          ∙ get_d-splice-inside xs b new fits j (omega (arith, length-entries (entry_in x) k))
          ∙ entries_at (entry_in x) k j (omega arith)
          ∙ ap (λ (y : List ℕ). entry_in y j) (ex ∙ ap (λ (y : ℕ). block s (1 + y)) q)
          ∙ ap (entry_in (block s (1 + i / 128))) r
          ∙ entry-in-block s i

-- storing into a table block: what is left to write, from number b on
module _ (xs s : List ℕ) (b : ℕ) where
  pub store-end : b ≡ length xs → splice s (4 * b) (joined bytes4 (drop b xs)) ≡ s
  store-end e = rw (e, drop-length xs) (splice-nil s _)

  pub store-next : b < length xs → 4 * length xs ≤ length s → (t : List ℕ) → t ≡ splice s (4 * b) (bytes4 (get_or xs b 0))
      → splice s (4 * b) (joined bytes4 (drop b xs)) ≡ splice t (4 * (b + 1)) (joined bytes4 (drop (b + 1) xs))
  store-next h fits t e =
      let p : List ℕ = bytes4 (get_or xs b 0) in
      let q : List ℕ = joined bytes4 (drop (suc b) xs) in
      let l : length p ≡ 4 = length-bytes4 (get_or xs b 0) in
      let m : length q ≡ 4 * length (drop (suc b) xs) = length-joined4 (drop (suc b) xs) in
      let n : length (drop b xs) ≡ suc (length (drop (suc b) xs)) = ap length (drop-cons xs b 0 h) in
      let w : length (drop b xs) ≡ length xs - b = length-drop b xs in
      let at : 4 * b + length p ≡ 4 * (b + 1) = omega arith in
      ap (λ (l : List ℕ). splice s (4 * b) (joined bytes4 l)) (drop-cons xs b 0 h)
      ∙ sym (splice-append s (4 * b) p q (omega arith))
      ∙ ap (λ (j : ℕ). splice (splice s (4 * b) p) j q) at
      ∙ rw (← e, add-one b)

-- storing a table block's numbers: what is left to write, from number b on
module _ (xs s : List ℕ) (b : ℕ) where
  pub all-stored : b ≡ length xs → splice s (512 + 4 * b) (joined bytes4 (drop b xs)) ≡ s
  all-stored e = rw (e, drop-length xs) (splice-nil s _)

  pub store-turn : (k : ℕ) → b + k ≤ length xs → 512 + 4 * length xs ≤ length s → (t : List ℕ) → t ≡ splice s (512 + 4 * b) (joined bytes4 (part xs b k))
      → splice s (512 + 4 * b) (joined bytes4 (drop b xs)) ≡ splice t (512 + 4 * (b + k)) (joined bytes4 (drop (b + k) xs))
  store-turn k h fits t e =
      let p : List ℕ = joined bytes4 (part xs b k) in
      let q : List ℕ = joined bytes4 (drop (b + k) xs) in
      let l : length p ≡ 4 * k = length-joined4 (part xs b k) ∙ ap (λ (j : ℕ). 4 * j) (length_part xs b k h) in
      let m : length q ≡ 4 * (length xs - (b + k)) = length-joined4 (drop (b + k) xs) ∙ ap (λ (j : ℕ). 4 * j) (length-drop (b + k) xs) in
      let at : 512 + 4 * b + length p ≡ 512 + 4 * (b + k) = omega arith in
      let two : joined bytes4 (drop b xs) ≡ p ++ q =
      ap (joined bytes4) (sym (take-append-drop k (drop b xs)) ∙ ap (λ (r : List ℕ). part xs b k ++ r) (drop-drop k b xs)) ∙ joined-append bytes4 (part xs b k) (drop (b + k) xs) in
      ap (splice s (512 + 4 * b)) two
      ∙ sym (splice-append s (512 + 4 * b) p q (omega arith))
      ∙ ap (λ (j : ℕ). splice (splice s (512 + 4 * b) p) j q) at
      ∙ ap (λ (r : List ℕ). splice r (512 + 4 * (b + k)) q) (sym e)

-- along a chain
pub nth-next : (v : ℕ → ℕ) (k b : ℕ) → 0 < k → nth v k b ≡ nth v (k - 1) (v b)
nth-next v k b h = let e : k ≡ suc (k - 1) = omega arith in ap (λ (j : ℕ). nth v j b) e

pub nth-none : (v : ℕ → ℕ) (k b : ℕ) → k ≡ 0 → nth v k b ≡ b
nth-none v k b e = ap (λ (j : ℕ). nth v j b) e

pub nth_past : (v : ℕ → ℕ) (b k i : ℕ) → k ≤ i → get_or (chain v b k) i 0 ≡ 0
nth_past v b k i h = get_or-eq_default (chain v b k) 0 (omega (arith, length-chain v b k))

-- the entries from a on that are 0 or marked
pub free-or : (x y : ℕ) → x ≡ 0 → (eqb x 0 || not (eqb y 0)) ≡ true
free-or x y e = rw (eq-eqb x 0 e)

pub marked-or : (x y : ℕ) → (x ≡ 0 → ⊥) → (eqb x 0 || not (eqb y 0)) ≡ not (eqb y 0)
marked-or x y e = rw (ne_eqb x 0 e)

module _ (v : ℕ → ℕ) (m : List ℕ) (a n : ℕ) where
  rest-left : n - a - 1 ≡ n - (a + 1)
  rest-left = omega arith

  pub rest-next : a < n → true ≡ (eqb (v a) 0 || not (eqb (get_or m a 0) 0)) → rest_free v m a (n - a) ≡ rest_free v m (a + 1) (n - (a + 1))
  unfolding rest_free
  rest-next h e = rw (interval-next a (n - a) (omega arith), ← e, rest-left)

  pub rest-stop : a < n → false ≡ (eqb (v a) 0 || not (eqb (get_or m a 0) 0)) → rest_free v m a (n - a) ≡ false
  unfolding rest_free
  rest-stop h e = rw (interval-next a (n - a) (omega arith), ← e)

  pub rest_end : n ≤ a → rest_free v m a (n - a) ≡ true
  unfolding rest_free
  rest_end h = let e : n - a ≡ 0 = omega arith in rw e

-- the search from a on
module _ (v : ℕ → ℕ) (a n : ℕ) where
  pub search-next : a < n → v a ≢ 0 → lowest_free v a n ≡ lowest_free v (a + 1) n
  unfolding lowest_free
  search-next h z = first-skip (λ b. eqb (v b) 0) n a h (ne_eqb (v a) 0 z)

  pub search-here : a < n → v a ≡ 0 → lowest_free v a n ≡ a
  unfolding lowest_free
  search-here h z = first-here (λ b. eqb (v b) 0) n a h (eq-eqb (v a) 0 z)

  pub search-end : n ≤ a → lowest_free v a n ≡ n
  unfolding lowest_free
  search-end h = first-none (λ b. eqb (v b) 0) n a h

pub count-occupied : (v : ℕ → ℕ) (n : ℕ) → count_used v 0 n ≡ occupied v n
unfolding count_used occupied
count-occupied v n = refl

-- a link, with a block before it and without
module _ (xs : List ℕ) (last b : ℕ) where
  pub linked-none : last ≡ 0 → linked_in xs last b ≡ xs
  unfolding linked_in
  linked-none e = ap (λ (j : ℕ). linked_in xs j b) e

  pub linked-some : (last ≡ 0 → ⊥) → linked_in xs last b ≡ set xs last b
  unfolding linked_in
  linked-some h = let e : last ≡ suc (last - 1) = omega arith in ap (λ (j : ℕ). linked_in xs j b) e ∙ ap (λ (j : ℕ). set xs j b) (sym e)
