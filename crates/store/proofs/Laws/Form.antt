-- The form of a file of the store: what is written reads back; what was read has the form; a revision added.
use Prim.Native.Nat.{ℕ, zero, suc, ◌+◌, ◌-◌, ◌*◌, ◌≤◌, ◌<◌}
use mathlib.Core.Path.{◌≡◌, refl, sym, ap, ◌∙◌}
use mathlib.Core.Bool.{true}
use mathlib.Core.List.{List, [], ◌∷◌, ◌++◌}
use mathlib.Core.Logic.{inl, inr}
use native.Mathlib.Omega.{arith}
use borrow.Author.Tests.{ne_eqb, leb-true, le-leb}
use lib.ListN.{length, get_or, take, drop, length-append}
use lib.Dec.{eqb, leb}
use lib.Seq.{take_at, drop_at, drop-drop}
use Rattle.layout.specs.Lists.{every, joined}
use Rattle.layout.specs.Bytes.{be32, bytes4, zeros, part}
use Rattle.store.specs.Settings.{max_setting, max_revisions, max_number, Revision, record_bytes, whole_file, encoded, held, records_in, numbers_ok, revisions}
use Rattle.store.specs.Claims.{Fits, Small}
use Rattle.layout.proofs.Laws.Bytes.{length-zeros, be32-at}
use Rattle.layout.proofs.Laws.Tests.{within-join}
use Rattle.layout.proofs.Laws.Lists.{In, every_in, in-every}

-- the claims by revision, and back
abbrev pub Short : List Revision → Type 0
Short rs = (r : Revision) → In r rs → length r.bytes ≤ 200

abbrev pub Low : List Revision → Type 0
Low rs = (r : Revision) → In r rs → r.number < 0x100000000

pub short-each : (rs : List Revision) → Fits rs → Short rs
short-each rs F r i = leb-true (length r.bytes) max_setting (every_in (λ q. leb (length q.bytes) max_setting) rs r F.short i)

pub fits-of : (rs : List Revision) → length rs ≤ 16 → Short rs → numbers_ok rs ≡ true → Fits rs
fits-of rs few short numbers = record { few = few; short = in-every (λ q. leb (length q.bytes) max_setting) rs (λ r i. le-leb (length r.bytes) max_setting (short r i)); numbers = numbers }

low-each : (rs : List Revision) → Small rs → Low rs
low-each rs small r i = let h = leb-true r.number max_number (every_in (λ q. leb q.number max_number) rs r small i) in omega arith

pub small_of : (rs : List Revision) → Low rs → Small rs
small_of rs low = in-every (λ q. leb q.number max_number) rs (λ r i. le-leb r.number max_number (let h = low r i in omega arith))

-- WRITTEN AND READ BACK
module _ (r : Revision) (rest : List ℕ) where
  abbrev xs : List ℕ
  xs = record_bytes r ++ rest

  record-first : get_or xs 0 0 ≡ length r.bytes
  unfolding record_bytes
  record-first = refl

  record-number : r.number < 0x100000000 → be32 xs 1 ≡ r.number
  unfolding record_bytes bytes4
  record-number h = be32-at xs 1 r.number (r.bytes ++ rest) refl h

  record-bytes : part xs 5 (length r.bytes) ≡ r.bytes
  unfolding record_bytes bytes4
  record-bytes = take_at r.bytes rest (length r.bytes) refl

  record-rest : drop (5 + length r.bytes) xs ≡ rest
  unfolding record_bytes bytes4
  record-rest = sym (drop-drop (length r.bytes) 5 xs) ∙ drop_at r.bytes rest (length r.bytes) refl

  record-length : length xs ≡ 5 + length r.bytes + length rest
  unfolding record_bytes bytes4
  record-length = let l = length-append r.bytes rest in omega arith

pub records-back : (rs : List Revision) (fuel : ℕ) → length rs ≤ fuel → Short rs → Low rs → records_in fuel (joined record_bytes rs) ≡ held rs
unfolding records_in
records-back [] zero h short small = refl
records-back [] (suc fuel) h short small = refl
records-back (r ∷ rs) zero h short small = absurd (omega arith)
records-back (r ∷ rs) (suc fuel) h short small =
    let rest : List ℕ = joined record_bytes rs in
    let l = record-length r rest in
    let s = short r (inl refl) in
    let more = records-back rs fuel (omega arith) (λ q i. short q (inr i)) (λ q i. small q (inr i)) in
    rw (
      ne_eqb (length (record_bytes r ++ rest)) 0 (λ z. omega arith),
      record-first r rest,
      le-leb (length r.bytes) max_setting s,
      le-leb (5 + length r.bytes) (length (record_bytes r ++ rest)) (omega arith),
      record-rest r rest,
      more,
      record-number r rest (small r (inl refl)),
      record-bytes r rest,
    )

zeros-zero : (k : ℕ) → every (λ x. eqb x 0) (zeros k) ≡ true
unfolding zeros
zeros-zero zero = refl
zeros-zero (suc k) = zeros-zero k

pub body-length : (rs : List Revision) → Short rs → length (joined record_bytes rs) ≤ 205 * length rs
body-length [] short = omega arith
body-length (r ∷ rs) short =
    let l = record-length r (joined record_bytes rs) in
    let s = short r (inl refl) in
    let more = body-length rs (λ q i. short q (inr i)) in
    omega arith

module _ (rs : List Revision) (size : ℕ) (F : Fits rs) (small : Small rs) where
  abbrev body : List ℕ
  body = joined record_bytes rs

  abbrev c : List ℕ
  c = encoded rs size

  body-few : length body ≤ 3280
  body-few = let f = F.few in let b = body-length rs (short-each rs F) in omega arith

  whole_length : length (whole_file rs) ≡ 5 + length body
  unfolding whole_file bytes4
  whole_length = omega arith

  pub encoded-length : length c ≡ length (whole_file rs) + (size - length (whole_file rs))
  unfolding encoded
  encoded-length = length-append (whole_file rs) _ ∙ ap (λ (x : ℕ). length (whole_file rs) + x) (length-zeros _)

  c-is : (rest : List ℕ) × (c ≡ 1 ∷ (bytes4 (5 + length body) ++ (body ++ rest))) × (rest ≡ zeros (size - length (whole_file rs)))
  unfolding encoded whole_file bytes4
  c-is = (zeros (size - length (whole_file rs)), refl, refl)

  c-size : be32 c 1 ≡ 5 + length body
  unfolding bytes4
  c-size = let f = body-few in be32-at c 1 (5 + length body) (body ++ c-is.0) (ap (drop 1) c-is.1) (omega arith)

  c-first : get_or c 0 0 ≡ 1
  c-first = ap (λ (x : List ℕ). get_or x 0 0) c-is.1

  c-after : drop 5 c ≡ body ++ c-is.0
  unfolding bytes4
  c-after = ap (drop 5) c-is.1

  c-body : part c 5 (length body) ≡ body
  c-body = ap (take (length body)) c-after ∙ take_at body c-is.0 (length body) refl

  c-zeros : drop (5 + length body) c ≡ c-is.0
  c-zeros = sym (drop-drop (length body) 5 c) ∙ ap (drop (length body)) c-after ∙ drop_at body c-is.0 (length body) refl

  pub read_back : revisions c ≡ held rs
  unfolding revisions
  read_back =
      let l = encoded-length in
      let w = whole_length in
      let m : 5 + length body - 5 ≡ length body = omega arith in
      let z : every (λ x. eqb x 0) c-is.0 ≡ true = rw c-is.2 (zeros-zero (size - length (whole_file rs))) in
      rw (c-size, c-first, within-join 5 (length c) (5 + length body) (omega arith) (omega arith), c-zeros, z, m, c-body, records-back rs max_revisions F.few (short-each rs F) (low-each rs small), F.numbers)
