-- The refusals and the counts.
use Prim.Native.Nat.{ℕ, zero, suc, ◌+◌, ◌-◌, ◌*◌, ◌/◌, ◌%◌, ◌^◌, ◌≤◌, ◌<◌}
use mathlib.Core.Bool.{Bool, true, false, not, ◌&&◌, ◌||◌}
use mathlib.Core.List.{List, [], ◌∷◌, ◌++◌}
use mathlib.Core.Logic.{◌⊎◌, ⊎_elim}
use mathlib.Core.Path.{◌≡◌, refl, sym, ap, ◌∙◌}
use native.Mathlib.Decide.{ℕ_discrete}
use native.Mathlib.Omega.{arith}
use lib.Bits.{bit_and}
use lib.Dec.{eqb, leb}
use lib.ListN.{length, get_or, set, drop, take, replicate, length-set}
use lib.Seq.{drop-cons, drop-length, get_or-set_same, get_or-set_other}
use borrow.Author.Tests.{eq-eqb, ne_eqb, le-leb, lt-leb, leb-true}
use Rattle.std.specs.List.{filter, range_with_len}
use Rattle.std.proofs.lemmas.List.FromFn.{length-range_with_len}
use Rattle.std.proofs.lemmas.Nat.Bits.{shr_and_one, bit_at_lowest}
use Rattle.layout.specs.Lists.{within, interval, keep, select, same}
use Rattle.layout.specs.Limits.{min_blocks, max_blocks}
use Rattle.layout.specs.Bytes.{be32, zeros, splice}
use Rattle.layout.specs.Geometry.{signature, block_count, table_blocks}
use Rattle.layout.specs.Directory.{is_free, type_of}
use Rattle.layout.specs.Check.{stage1, stage2}
use Rattle.layout.specs.Walks.Slots.{entry_at}
use Rattle.layout.proofs.Laws.Tests.{is_false, within-join, within-split, require-zero, accept-refused}
use Rattle.layout.proofs.Laws.Lists.{interval-from, select-same}
use Rattle.layout.proofs.Laws.Joins.{select-agree}
use Rattle.layout.proofs.Laws.Bytes.{lent}
use Rattle.salvage_tree.specs.SalvageTree.{other_length, tree_refusal, number, hung_over, salvaged, TreeAnswer, salvage_tree}
use Rattle.salvage_tree.specs.Walks.{one, used_bits, UsedOf, was_used, hung_here, Answered}

-- A BIT FOR EACH SLOT
abbrev pub used_at : List ℕ → ℕ → ℕ → ℕ
used_at s b k = one (not (is_free (type_of s (entry_at b k))))

pub used-is : (s : List ℕ) (b x y z w : ℕ) → x ≡ used_at s b 0 → y ≡ used_at s b 1 → z ≡ used_at s b 2 → w ≡ used_at s b 3 → x + 2 * y + 4 * z + 8 * w ≡ used_bits s b
unfolding used_bits
used-is s b x y z w ex ey ez ew =
    let q : entry_at b 0 ≡ 512 * b = omega arith in
    rw (ex ∙ ap (λ (a : ℕ). one (not (is_free (type_of s a)))) q, ey, ez, ew)

-- all of them, when those of the blocks before b are told
pub record UsedUp (s : List ℕ) (n : ℕ) (used₀ used : List ℕ) (b left : ℕ) : Type 0 where
  pub sum : b + left ≡ n
  pub size : length used ≡ length used₀
  pub at : (x : ℕ) → x < b → get_or used x 0 ≡ used_bits s x

pub used_start : (s : List ℕ) (n : ℕ) (used : List ℕ) → UsedUp s n used used 0 n
used_start s n used = record { sum = omega arith; size = refl; at = λ x h. absurd (omega arith) }

pub used-more : {s : List ℕ} {n : ℕ} {used₀ used : List ℕ} {b left : ℕ} → UsedUp s n used₀ used b left → 0 < left → n ≤ length used₀ → (v : ℕ) → v ≡ used_bits s b → UsedUp s n used₀ (set used b v) (b + 1) (left - 1)
used-more {s} {n} {used₀} {used} {b} {left} w h l v e =
    record {
      sum = omega (arith, w.sum);
      size = length-set used b v ∙ w.size;
      at = λ x g. elim (ℕ_discrete x b) [
        | yes p ↦ rw (p, get_or-set_same used b v 0 (omega (arith, w.sum, w.size))) e
        | no p ↦ rw (get_or-set_other used b x v 0 p) (w.at x (omega arith))
      ];
    }

pub used-end : {s : List ℕ} {n : ℕ} {used₀ used : List ℕ} {b left : ℕ} → UsedUp s n used₀ used b left → left ≡ 0 → UsedOf s n used
used-end w e = record { at = λ x h. w.at x (omega (arith, w.sum)) }

-- ONE SLOT'S BIT, by its place in the block
module _ (x j : ℕ) where
  pub was-0 : j ≡ 0 → eqb (x % 2) 1 ≡ was_used x j
  unfolding was_used
  was-0 e = rw (eq-eqb j 0 e)

  pub was-1 : (j ≡ 0 → ⊥) → j ≡ 1 → eqb (x / 2 % 2) 1 ≡ was_used x j
  unfolding was_used
  was-1 a e = rw (ne_eqb j 0 a, eq-eqb j 1 e)

  pub was-2 : (j ≡ 0 → ⊥) → (j ≡ 1 → ⊥) → j ≡ 2 → eqb (x / 4 % 2) 1 ≡ was_used x j
  unfolding was_used
  was-2 a b e = rw (ne_eqb j 0 a, ne_eqb j 1 b, eq-eqb j 2 e)

  pub was-3 : (j ≡ 0 → ⊥) → (j ≡ 1 → ⊥) → (j ≡ 2 → ⊥) → eqb (x / 8 % 2) 1 ≡ was_used x j
  unfolding was_used
  was-3 a b c = rw (ne_eqb j 0 a, ne_eqb j 1 b, ne_eqb j 2 c)

pub was-bit : (x j : ℕ) → j < 4 → eqb (bit_and (x / 2 ^ j) 1) 1 ≡ was_used x j
was-bit x j h =
    let q : bit_and (x / 2 ^ j) 1 ≡ x / 2 ^ j % 2 = shr_and_one x j in
    rw q (elim (ℕ_discrete j 0) [
      | yes p ↦ rw p (ap (λ (y : ℕ). eqb y 1) (bit_at_lowest x) ∙ was-0 x 0 refl)
      | no a ↦ elim (ℕ_discrete j 1) [
        | yes p ↦ rw p (was-1 x 1 (λ z. omega arith) refl)
        | no b ↦ elim (ℕ_discrete j 2) [
          | yes p ↦ rw p (was-2 x 2 (λ z. omega arith) (λ z. omega arith) refl)
          | no d ↦ let p : j ≡ 3 = omega arith in rw p (was-3 x 3 (λ z. omega arith) (λ z. omega arith) (λ z. omega arith))
        ]
      ]
    ])

one-most : (t : Bool) → one t ≤ 1
one-most true = omega arith
one-most false = omega arith

bit-of : (t : Bool) (v : ℕ) → v ≡ one t → eqb v 1 ≡ t
bit-of true v e = eq-eqb v 1 e
bit-of false v e = ne_eqb v 1 (λ z. omega arith)

bits : (p q r t : Bool) → (x : ℕ) → x ≡ one p + 2 * one q + 4 * one r + 8 * one t → (x % 2 ≡ one p) × (x / 2 % 2 ≡ one q) × (x / 4 % 2 ≡ one r) × (x / 8 % 2 ≡ one t)
bits p q r t x e =
    let a = one-most p in
    let b = one-most q in
    let c = one-most r in
    let d = one-most t in
    go (one p) (one q) (one r) (one t) a b c d e
  where
    go : (a b c d : ℕ) → a ≤ 1 → b ≤ 1 → c ≤ 1 → d ≤ 1 → x ≡ a + 2 * b + 4 * c + 8 * d → (x % 2 ≡ a) × (x / 2 % 2 ≡ b) × (x / 4 % 2 ≡ c) × (x / 8 % 2 ≡ d)
    go a b c d ha hb hc hd e = (omega arith, omega arith, omega arith, omega arith)

pub was-is : (s : List ℕ) (n : ℕ) (used : List ℕ) (i : ℕ) → UsedOf s n used → i < 4 * n → was_used (get_or used (i / 4) 0) (i % 4) ≡ not (is_free (type_of s (128 * i)))
unfolding used_bits
was-is s n used i U h =
    let b : ℕ = i / 4 in
    let e = 512 * b in
    let w = bits (not (is_free (type_of s e))) (not (is_free (type_of s (e + 128)))) (not (is_free (type_of s (e + 256)))) (not (is_free (type_of s (e + 384)))) (get_or used b 0) (U.at b (omega arith)) in
    elim (ℕ_discrete (i % 4) 0) [
      | yes p ↦ sym (was-0 (get_or used b 0) (i % 4) p) ∙ bit-of _ _ w.0 ∙ (let q : 512 * (i / 4) ≡ 128 * i = omega arith in ap (λ (a : ℕ). not (is_free (type_of s a))) q)
      | no a ↦ elim (ℕ_discrete (i % 4) 1) [
        | yes p ↦ sym (was-1 (get_or used b 0) (i % 4) a p) ∙ bit-of _ _ w.1 ∙ (let q : 512 * (i / 4) + 128 ≡ 128 * i = omega arith in ap (λ (a : ℕ). not (is_free (type_of s a))) q)
        | no c ↦ elim (ℕ_discrete (i % 4) 2) [
          | yes p ↦ sym (was-2 (get_or used b 0) (i % 4) a c p) ∙ bit-of _ _ w.2 ∙ (let q : 512 * (i / 4) + 256 ≡ 128 * i = omega arith in ap (λ (a : ℕ). not (is_free (type_of s a))) q)
          | no d ↦ sym (was-3 (get_or used b 0) (i % 4) a c d) ∙ bit-of _ _ w.3 ∙ (let q : 512 * (i / 4) + 384 ≡ 128 * i = omega arith in ap (λ (a : ℕ). not (is_free (type_of s a))) q)
        ]
      ]
    ]

-- HOW MANY PASS
-- a list that passes a test, by the names of the library and of the definitions
filter-select : (p : ℕ → Bool) (xs : List ℕ) → filter p xs ≡ select p xs
filter-select p [] = refl
filter-select p (x ∷ xs) = go (p x) refl (filter-select p xs)
  where
    go : (t : Bool) → p x ≡ t → filter p xs ≡ select p xs → filter p (x ∷ xs) ≡ select p (x ∷ xs)
    go true e h = rw e (ap (λ (ys : List ℕ). x ∷ ys) h)
    go false e h = rw e h

select-few : (p : ℕ → Bool) (xs : List ℕ) → length (select p xs) ≤ length xs
select-few p [] = omega arith
select-few p (x ∷ xs) = go (p x) (select-few p xs)
  where
    go : (t : Bool) → length (select p xs) ≤ length xs → length (keep t x (select p xs)) ≤ suc (length xs)
    go true h = omega arith
    go false h = omega arith

pub counted : (p : ℕ → Bool) (xs : List ℕ) (n : ℕ) → n ≡ length (filter p xs) → (n ≡ length (select p xs)) × (n ≤ length xs)
counted p xs n e = let q : n ≡ length (select p xs) = e ∙ ap length (filter-select p xs) in (q, omega (arith, select-few p xs))

range-interval : (a k : ℕ) → range_with_len a k ≡ interval a k
range-interval a zero = refl
range-interval a (suc k) = let q : a + 1 ≡ suc a = omega arith in rw q (ap (λ (ys : List ℕ). a ∷ ys) (range-interval (suc a) k))

pub counted-range : (p : ℕ → Bool) (k n : ℕ) → n ≡ length (filter p (range_with_len 0 k)) → (n ≡ length (select p (interval 0 k))) × (n ≤ k)
counted-range p k n e = let w = counted p (range_with_len 0 k) n e in (w.0 ∙ ap (λ (xs : List ℕ). length (select p xs)) (range-interval 0 k), omega (arith, w.1, length-range_with_len 0 k))

-- the same, when those before i are counted: of the elements of a list, and of the numbers below n
keep-length : (p : ℕ → Bool) (x : ℕ) (xs : List ℕ) → length (select p (x ∷ xs)) ≡ one (p x) + length (select p xs)
keep-length p x xs = go (p x) refl
  where
    go : (t : Bool) → p x ≡ t → length (select p (x ∷ xs)) ≡ one (p x) + length (select p xs)
    go true e = rw e (omega arith)
    go false e = rw e (omega arith)

pub record Tally (p : ℕ → Bool) (xs : List ℕ) (count i : ℕ) : Type 0 where
  pub most : i ≤ length xs
  pub few : count ≤ i
  pub is : length (select p xs) ≡ count + length (select p (drop i xs))

pub tally-start : (p : ℕ → Bool) (xs : List ℕ) → Tally p xs 0 0
tally-start p xs = record { most = omega arith; few = omega arith; is = omega arith }

pub tally-more : (p : ℕ → Bool) (xs : List ℕ) (count i : ℕ) → Tally p xs count i → i < length xs → (v : ℕ) → (v ≡ one (p (get_or xs i 0))) × (v ≤ 1) → Tally p xs (count + v) (i + 1)
tally-more p xs count i w h v e =
    let q : i + 1 ≡ suc i = omega arith in
    let k : length (select p (drop i xs)) ≡ one (p (get_or xs i 0)) + length (select p (drop (suc i) xs)) = ap (λ (ys : List ℕ). length (select p ys)) (drop-cons xs i 0 h) ∙ keep-length p (get_or xs i 0) (drop (suc i) xs) in
    rw q (record { most = omega arith; few = omega (arith, w.few, e.1); is = omega (arith, w.is, k, e.0) })

pub tally-end : (p : ℕ → Bool) (xs : List ℕ) (count i : ℕ) → Tally p xs count i → length xs ≤ i → (count ≡ number p xs) × (count ≤ length xs)
unfolding number
tally-end p xs count i w h =
    let q : i ≡ length xs = omega (arith, w.most) in
    let k : length (select p (drop i xs)) ≡ 0 = ap (λ (j : ℕ). length (select p (drop j xs))) q ∙ ap (λ (ys : List ℕ). length (select p ys)) (drop-length xs) in
    (omega (arith, w.is, k), omega (arith, w.few))

pub record Over (p : ℕ → Bool) (n count i : ℕ) : Type 0 where
  pub most : i ≤ n
  pub few : count ≤ i
  pub is : length (select p (interval 0 n)) ≡ count + length (select p (interval i (n - i)))

pub over-start : (p : ℕ → Bool) (n : ℕ) → Over p n 0 0
over-start p n = let q : n - 0 ≡ n = omega arith in record { most = omega arith; few = omega arith; is = rw q (omega arith) }

pub over-more : (p : ℕ → Bool) (n count i : ℕ) → Over p n count i → i < n → (v : ℕ) → (v ≡ one (p i)) × (v ≤ 1) → Over p n (count + v) (i + 1)
over-more p n count i w h v e =
    let k : length (select p (interval i (n - i))) ≡ one (p i) + length (select p (interval (i + 1) (n - (i + 1)))) = ap (λ (ys : List ℕ). length (select p ys)) (interval-from n i h) ∙ keep-length p i (interval (i + 1) (n - (i + 1))) in
    record { most = omega arith; few = omega (arith, w.few, e.1); is = omega (arith, w.is, k, e.0) }

pub over-end : (p : ℕ → Bool) (n count i : ℕ) → Over p n count i → n ≤ i → (count ≡ length (select p (interval 0 n))) × (count ≤ n)
over-end p n count i w h =
    let q : n - i ≡ 0 = omega arith in
    let k : length (select p (interval i (n - i))) ≡ 0 = ap (λ (j : ℕ). length (select p (interval i j))) q in
    (omega (arith, w.is, k), omega (arith, w.few, w.most))

pub over-is : (s : List ℕ) (n : ℕ) (codes used : List ℕ) → UsedOf s n used → length codes ≡ 4 * n → length (select (hung_here codes used) (interval 0 (length codes))) ≡ hung_over s codes
unfolding hung_over hung_here
over-is s n codes used U l =
    ap length (select-same (λ i. eqb (get_or codes i 0) 6 && not (is_free (type_of s (128 * i)))) (λ i. eqb (get_or codes i 0) 6 && was_used (get_or used (i / 4) 0) (i % 4)) (length codes) 0
    (λ i g h. ap (λ (t : Bool). eqb (get_or codes i 0) 6 && t) (was-is s n used i U (omega arith))))

within-is : (lo x : ℕ) → within lo lo x ≡ eqb x lo
within-is lo x = elim (ℕ_discrete x lo) [
  | yes p ↦ within-join lo lo x (omega arith) (omega arith) ∙ sym (eq-eqb x lo p)
  | no p ↦ is_false _ (λ e. let w = within-split lo lo x e in p (omega arith)) ∙ sym (ne_eqb x lo p)
]

pub freed-number : (codes : List ℕ) → number (within 5 5) codes ≡ number (λ c. eqb c 5) codes
unfolding number
freed-number codes = ap length (select-agree (λ c. eqb c 5) (within 5 5) codes (λ x i. within-is 5 x))

pub zeroed-number : (codes : List ℕ) → number (within 1 2) codes ≡ number (λ c. eqb c 1 || eqb c 2) codes
unfolding number
zeroed-number codes = ap length (select-agree (λ c. eqb c 1 || eqb c 2) (within 1 2) codes (λ x i. two x))
  where
    two : (x : ℕ) → within 1 2 x ≡ eqb x 1 || eqb x 2
    two x = elim (ℕ_discrete x 1) [
      | yes p ↦ within-join 1 2 x (omega arith) (omega arith) ∙ rw (eq-eqb x 1 p)
      | no p ↦ elim (ℕ_discrete x 2) [
        | yes q ↦ within-join 1 2 x (omega arith) (omega arith) ∙ rw (ne_eqb x 1 p, eq-eqb x 2 q)
        | no q ↦ is_false _ (λ e. let w = within-split 1 2 x e in q (omega arith)) ∙ rw (ne_eqb x 1 p, ne_eqb x 2 q)
      ]
    ]

-- THE REFUSALS
module _ (s : List ℕ) (n : ℕ) (c : block_count s ≡ n) (x : Bool) (ex : x ≡ same (take 12 s) signature) where
  pub other-signed : x ≡ false → false ≡ other_length s
  unfolding other_length stage2
  other-signed z = rw (sym ex ∙ z)

  module _ (ok : x ≡ true) (m : ℕ) (em : m ≡ be32 s 12) where
    pub other-same : m ≡ n → false ≡ other_length s
    unfolding other_length stage2
    other-same z = rw (sym ex ∙ ok, c, ← em, eq-eqb m n z)

    module _ (ne : m ≡ n → ⊥) where
      pub other-range : (m < min_blocks) ⊎ (max_blocks < m) → false ≡ other_length s
      unfolding other_length stage2
      other-range o =
          let z : within min_blocks max_blocks m ≡ false = is_false _ (λ e. let w = within-split min_blocks max_blocks m e in ⊎_elim (λ p. omega arith) (λ p. omega arith) o) in
          rw (sym ex ∙ ok, c, ← em, ne_eqb m n ne, z)

      module _ (low : min_blocks ≤ m) (high : m ≤ max_blocks) (t : ℕ) (et : t ≡ table_blocks m) (u : ℕ) (eu : u ≡ be32 s 16) where
        pub other-table : (u ≡ t → ⊥) → false ≡ other_length s
        unfolding other_length stage2
        other-table z = rw (sym ex ∙ ok, c, ← em, ne_eqb m n ne, within-join min_blocks max_blocks m low high, ← eu, ← et, ne_eqb u t z)

        pub other-root : u ≡ t → (v : ℕ) → v ≡ be32 s 28 → eqb v (t + 1) ≡ other_length s
        unfolding other_length stage2
        other-root z v ev = rw (sym ex ∙ ok, c, ← em, ne_eqb m n ne, within-join min_blocks max_blocks m low high, ← eu, ← et, eq-eqb u t z, ← ev)

module _ (s : List ℕ) (size : ℕ) (x : Bool) (ex : x ≡ stage1 s) where
  pub refusal-1 : x ≡ false → 1 ≡ tree_refusal s size
  unfolding tree_refusal
  refusal-1 z = rw (sym ex ∙ z)

  module _ (ok : x ≡ true) (y : Bool) (ey : y ≡ other_length s) where
    pub refusal-3 : y ≡ true → 3 ≡ tree_refusal s size
    unfolding tree_refusal
    refusal-3 z = rw (sym ex ∙ ok, sym ey ∙ z)

    pub refusal-9 : y ≡ false → size < 4 * block_count s → 9 ≡ tree_refusal s size
    unfolding tree_refusal
    refusal-9 z h = rw (sym ex ∙ ok, sym ey ∙ z, lt-leb (4 * block_count s) size h)

    pub refusal-0 : y ≡ false → 4 * block_count s ≤ size → 0 ≡ tree_refusal s size
    unfolding tree_refusal
    refusal-0 z h = rw (sym ex ∙ ok, sym ey ∙ z, le-leb (4 * block_count s) size h)

pub refusal-fits : (s : List ℕ) (size : ℕ) → tree_refusal s size ≡ 0 → (stage1 s ≡ true) × (4 * block_count s ≤ size)
unfolding tree_refusal
refusal-fits s size e =
    let a = require-zero (stage1 s) 0 _ e in
    let b = require-zero (not (other_length s)) 2 _ a.1 in
    let d = require-zero (leb (4 * block_count s) size) 8 _ b.1 in
    (a.0, leb-true _ _ d.0)

-- THE ANSWER
pub cleared : (n : ℕ) (c c' : List ℕ) → c' ≡ replicate (length c) 0 → length c ≡ 4 * n → c' ≡ zeros (4 * n)
unfolding zeros
cleared n c c' e l = e ∙ ap (λ (k : ℕ). replicate k 0) l

pub zeros-are : (n : ℕ) → replicate n 0 ≡ zeros n
unfolding zeros
zeros-are n = refl

pub answered : (s : List ℕ) (n : ℕ) (used s' codes : List ℕ) → UsedOf s n used → length codes ≡ 4 * n → s' ≡ (salvaged s).image → codes ≡ (salvaged s).codes → (a b d : ℕ) → a ≡ number (within 1 2) codes
    → b ≡ length (select (hung_here codes used) (interval 0 (length codes))) → d ≡ number (within 5 5) codes → Answered s (a + b) d s' codes
answered s n used s' codes U l ei ec a b d ea eb ed =
    record {
      image = ei;
      codes-are = ec;
      zeroed-are = ap (λ (x : ℕ). x + b) (ea ∙ zeroed-number codes) ∙ ap (λ (x : ℕ). number (λ c. eqb c 1 || eqb c 2) codes + x) (eb ∙ over-is s n codes used U l) ∙ ap (λ (k : List ℕ). number (λ c. eqb c 1 || eqb c 2) k + hung_over s k) ec;
      freed-are = ed ∙ freed-number codes ∙ ap (number (λ c. eqb c 5)) ec;
    }

pub tree-refused : (s report : List ℕ) (why : ℕ) → why ≡ tree_refusal s (length report) → (why ≡ 0 → ⊥) → ◌≡◌ {A = TreeAnswer} (record { number = why; zeroed = 0; freed = 0; image = s; report = report }) (salvage_tree s report)
unfolding salvage_tree
tree-refused s report why e ne = rw e (sym (accept-refused (tree_refusal s (length report)) _ _ (λ z. ne (e ∙ z))))

tree-accepted : (s report : List ℕ) → tree_refusal s (length report) ≡ 0 → (a d : ℕ) (s' codes r' : List ℕ) → Answered s a d s' codes → r' ≡ splice report 0 codes
    → ◌≡◌ {A = TreeAnswer} (record { number = 0; zeroed = a; freed = d; image = s'; report = r' }) (salvage_tree s report)
unfolding salvage_tree
tree-accepted s report z a d s' codes r' A er = rw (z, A.zeroed-are, A.freed-are, A.image, er, A.codes-are)

-- the report, whose front was lent
pub tree_lent : (s report : List ℕ) → tree_refusal s (length report) ≡ 0 → (a d : ℕ) (s' codes : List ℕ) (k : ℕ) → Answered s a d s' codes → length codes ≡ k
    → ◌≡◌ {A = TreeAnswer} (record { number = 0; zeroed = a; freed = d; image = s'; report = codes ++ drop k report }) (salvage_tree s report)
tree_lent s report z a d s' codes k A l = tree-accepted s report z a d s' codes (codes ++ drop k report) A (lent report 0 k codes codes refl l)
