-- The turns of the scan: the numbers of one record, one record, and the records one after the other.
use Prim.Native.Nat.{ℕ, suc, ◌+◌, ◌-◌, ◌*◌, ◌≤◌, ◌<◌}
use mathlib.Core.Path.{◌≡◌, refl, sym, ap, ◌∙◌}
use mathlib.Core.Bool.{Bool, true, false, ◌&&◌, and-false}
use mathlib.Core.List.{List, map}
use native.Mathlib.Omega.{arith}
use native.Mathlib.Numerals.{add-one}
use borrow.Author.Tests.{lt-ltb, le-ltb, le-leb, lt-leb, eq-eqb, leb-true, eqb-true}
use lib.Dec.{ltb, leb, eqb}
use lib.ListN.{length, get_or}
use Rattle.layout.specs.Lists.{within, interval, every, last_or}
use Rattle.layout.specs.Bytes.{be32}
use Rattle.layout.specs.Limits.{min_journal, max_journal}
use Rattle.journal.specs.Journal.{used, copies, block_at, rising, record_ok, records_from, records, well_formed, last_record}
use Rattle.journal.specs.Walks.Scanning.{head_ok, Headed, blocks_rise, Scans}
use Rattle.layout.proofs.Laws.Tests.{and_split, is_false}
use Rattle.journal.proofs.Laws.Append.{Fine, fine}
use Rattle.journal.proofs.Laws.RecordWalk.{records-none, records-more}

-- the i-th number of a record of k blocks
module _ (j : List ℕ) (n at lo i k : ℕ) (h : i < k) where
  abbrev later : List ℕ
  later = map (block_at j at) (interval (suc i) (k - (i + 1)))

  numbers-one : blocks_rise j n at lo i (k - i)
      ≡ (leb lo (block_at j at i) && rising (suc (block_at j at i)) later) && (ltb (block_at j at i) n && every (λ b. ltb b n) later)
  unfolding blocks_rise
  numbers-one = let e : k - i ≡ suc (k - (i + 1)) = omega arith in ap (λ (x : ℕ). blocks_rise j n at lo i x) e

  pub numbers-low : block_at j at i < lo → blocks_rise j n at lo i (k - i) ≡ false
  numbers-low l = numbers-one ∙ rw (lt-leb _ _ l)

  pub numbers-high : lo ≤ block_at j at i → n ≤ block_at j at i → blocks_rise j n at lo i (k - i) ≡ false
  numbers-high l g = numbers-one ∙ rw (le-leb _ _ l, le-ltb _ _ g) (and-false (rising (suc (block_at j at i)) later))

  pub numbers-step : lo ≤ block_at j at i → block_at j at i < n → blocks_rise j n at lo i (k - i) ≡ blocks_rise j n at (block_at j at i + 1) (i + 1) (k - (i + 1))
  unfolding blocks_rise
  numbers-step l g = numbers-one ∙ rw (le-leb _ _ l, lt-ltb _ _ g, add-one (block_at j at i), add-one i)

pub numbers-end : (j : List ℕ) (n at lo i k : ℕ) → k ≤ i → blocks_rise j n at lo i (k - i) ≡ true
unfolding blocks_rise
numbers-end j n at lo i k h = let e : k - i ≡ 0 = omega arith in rw e

-- the record at an offset
pub record-bad : (j : List ℕ) (n at : ℕ) → (Fine j n at → ⊥) → record_ok j n at ≡ false
record-bad j n at f = is_false (record_ok j n at) (λ t. f (fine j n at t))

pub record-rest : (j : List ℕ) (n at : ℕ) → 520 ≤ be32 j at → be32 j at ≡ 4 + 516 * copies j at → at + be32 j at ≤ used j
    → record_ok j n at ≡ blocks_rise j n at 0 0 (copies j at)
unfolding record_ok blocks_rise
record-rest j n at a b c = rw (le-leb 1 (copies j at) (omega arith), eq-eqb (be32 j at) (4 + 516 * copies j at) b, le-leb (at + be32 j at) (used j) c)

pub record-size : (j : List ℕ) (n at : ℕ) → record_ok j n at ≡ true → (520 ≤ be32 j at) × (at + be32 j at ≤ used j)
record-size j n at t = let f : Fine j n at = fine j n at t in (omega (arith, f.some, f.size), f.inside)

-- what is left to scan from an offset on gives what the whole journal gives
pub record Scanning (j : List ℕ) (n last at : ℕ) : Type 0 where
  pub fuel : ℕ
  pub enough : used j ≤ at + fuel
  pub inside : at ≤ used j
  pub right : every (record_ok j n) (records j) ≡ every (record_ok j n) (records_from (be32 j) (used j) at fuel)
  pub found : last_record j ≡ last_or last (records_from (be32 j) (used j) at fuel)

pub scan-start : (j : List ℕ) (n : ℕ) → 5 ≤ used j → Scanning j n 0 5
unfolding records last_record
scan-start j n h = record { fuel = used j; enough = omega arith; inside = h; right = refl; found = refl }

module _ (j : List ℕ) (n last at : ℕ) (s : Scanning j n last at) where
  pub scan-bad : at < used j → record_ok j n at ≡ false → every (record_ok j n) (records j) ≡ false
  scan-bad h t = s.right ∙ rw (records-more (be32 j) (used j) at s.fuel h (omega arith), t)

  pub scan_step : at < used j → record_ok j n at ≡ true → Scanning j n at (at + be32 j at)
  scan_step h t =
      let f = record-size j n at t in
      let e = records-more (be32 j) (used j) at s.fuel h (omega arith) in
      record {
        fuel = s.fuel - 1;
        enough = omega arith;
        inside = f.1;
        right = s.right ∙ rw (e, t);
        found = s.found ∙ rw e;
      }

  pub scan-end : used j ≤ at → Scans j (every (record_ok j n) (records j)) true last
  scan-end h =
      let e = records-none (be32 j) (used j) at s.fuel h in
      record { well = sym (s.right ∙ rw e); found = sym (s.found ∙ rw e) }

pub scanned-last : (j : List ℕ) {right ok : Bool} {last : ℕ} → Scans j right ok last → ok ≡ true → last ≡ last_record j
scanned-last j s e = s.found ∙ rw e

-- the head and the records together
and-apart : (a b c d : Bool) → a && (b && (c && d)) ≡ (a && (b && c)) && d
and-apart true true c d = refl
and-apart true false c d = refl
and-apart false b c d = refl

pub head-well : (j : List ℕ) (n : ℕ) → well_formed j n ≡ head_ok j && every (record_ok j n) (records j)
unfolding head_ok well_formed
head-well j n = and-apart (within min_journal max_journal (length j)) (eqb (get_or j 0 0) 1) (within 5 (length j) (used j)) (every (record_ok j n) (records j))

pub head-facts : (j : List ℕ) → head_ok j ≡ true → Headed j (used j) 0 × (5 ≤ length j) × (get_or j 0 0 ≡ 1)
unfolding head_ok
head-facts j t =
    let a = and_split (within min_journal max_journal (length j)) _ t in
    let a' = and_split (leb min_journal (length j)) _ a.0 in
    let b = and_split (eqb (get_or j 0 0) 1) _ a.1 in
    let c = and_split (leb 5 (used j)) _ b.1 in (
      record { used-is = refl; low = leb-true _ _ c.0; high = leb-true _ _ c.1; short = leb-true _ _ a'.1; blocks = omega arith },
      leb-true _ _ a'.0,
      eqb-true _ _ b.0,
    )

pub head-rest : (j : List ℕ) → 5 ≤ length j → length j ≤ max_journal → get_or j 0 0 ≡ 1 → 5 ≤ used j → head_ok j ≡ leb (used j) (length j)
unfolding head_ok
head-rest j a b c d = rw (le-leb 5 (length j) a, le-leb (length j) max_journal b, eq-eqb (get_or j 0 0) 1 c, le-leb 5 (used j) d)
