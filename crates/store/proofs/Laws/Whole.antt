-- What a file of the store holds, written again, is the file: reading and writing undo each other (Form.read-back is the other way).
use Prim.Native.Nat.{ℕ, zero, suc, ◌+◌, ◌-◌, ◌*◌, ◌/◌, ◌%◌, ◌≤◌, ◌<◌}
use mathlib.Core.Path.{◌≡◌, refl, sym, ap, ◌∙◌}
use mathlib.Core.Bool.{true, ◌&&◌}
use mathlib.Core.List.{List, [], ◌∷◌, ◌++◌, append_assoc}
use mathlib.Core.Logic.{⊎_elim}
use native.Mathlib.Omega.{arith}
use borrow.Author.Tests.{eqb-true, leb-true}
use lib.ListN.{length, get_or, take, drop, length-take, length-drop, take-append-drop, get_or-eq_default}
use lib.Dec.{eqb, leb}
use lib.Seq.{drop-drop, get_or-drop, get_or-take}
use Rattle.layout.specs.Lists.{within, every, joined}
use Rattle.layout.specs.Bytes.{be32, bytes4, zeros, part}
use Rattle.store.specs.Settings.{max_setting, max_revisions, Revision, record_bytes, whole_file, encoded, broken, held, records_in, revisions}
use Rattle.store.specs.Claims.{Bytes}
use Rattle.store.proofs.Laws.Added.{not-broken, held-cond, held_none, held-before, held-numbered}
use Rattle.layout.proofs.Laws.Tests.{and_split, within-split, lt-or-ge}
use Rattle.layout.proofs.Laws.Bytes.{length-take-most}

bytes_back : (a b c d : ℕ) → a < 256 → b < 256 → c < 256 → d < 256 → bytes4 (a * 0x1000000 + b * 0x10000 + c * 0x100 + d) ≡ a ∷ b ∷ c ∷ d ∷ []
unfolding bytes4
bytes_back a b c d ha hb hc hd =
    let n : ℕ = a * 0x1000000 + b * 0x10000 + c * 0x100 + d in
    let p : (a * 0x1000000 + b * 0x10000 + c * 0x100 + d) / 0x1000000 % 256 ≡ a = omega arith in
    let q : (a * 0x1000000 + b * 0x10000 + c * 0x100 + d) / 0x10000 % 256 ≡ b = omega arith in
    let r : (a * 0x1000000 + b * 0x10000 + c * 0x100 + d) / 0x100 % 256 ≡ c = omega arith in
    let s : (a * 0x1000000 + b * 0x10000 + c * 0x100 + d) % 256 ≡ d = omega arith in
    rw (p, q, r, s)

-- the first five bytes, the fifth to the second a number
five : (xs : List ℕ) → Bytes xs → 5 ≤ length xs → get_or xs 0 0 ∷ (bytes4 (be32 xs 1) ++ drop 5 xs) ≡ xs
unfolding be32
five [] small h = absurd (omega arith)
five (a ∷ []) small h = absurd (omega arith)
five (a ∷ b ∷ []) small h = absurd (omega arith)
five (a ∷ b ∷ c ∷ []) small h = absurd (omega arith)
five (a ∷ b ∷ c ∷ d ∷ []) small h = absurd (omega arith)
five (a ∷ b ∷ c ∷ d ∷ e ∷ xs) small h = rw (bytes_back b c d e (small 1) (small 2) (small 3) (small 4))

pub bytes_drop : (n : ℕ) (xs : List ℕ) → Bytes xs → Bytes (drop n xs)
bytes_drop n xs small i = rw get_or-drop (small (n + i))

one-back : (xs : List ℕ) → Bytes xs → 5 + get_or xs 0 0 ≤ length xs
    → record_bytes (record { number = be32 xs 1; bytes = part xs 5 (get_or xs 0 0) }) ++ drop (5 + get_or xs 0 0) xs ≡ xs
unfolding record_bytes
one-back xs small h =
    let k : ℕ = get_or xs 0 0 in
    let l : length (part xs 5 (get_or xs 0 0)) ≡ get_or xs 0 0 = simp (length-take, length-drop) (omega arith) in
    let d : drop (5 + get_or xs 0 0) xs ≡ drop (get_or xs 0 0) (drop 5 xs) = sym (drop-drop (get_or xs 0 0) 5 xs) in
    rw (l, d, append_assoc (bytes4 (be32 xs 1)) (take (get_or xs 0 0) (drop 5 xs)) (drop (get_or xs 0 0) (drop 5 xs)), take-append-drop (get_or xs 0 0) (drop 5 xs)) (five xs small (omega arith))

no_length : (xs : List ℕ) → length xs ≡ 0 → xs ≡ []
no_length [] q = refl
no_length (x ∷ xs) q = absurd (omega arith)

pub records-whole : (fuel : ℕ) (xs : List ℕ) (rs : List Revision) → Bytes xs → records_in fuel xs ≡ held rs → joined record_bytes rs ≡ xs
unfolding records_in
records-whole zero xs rs small q =
    ⊎_elim (λ z. ap (joined record_bytes) z.0 ∙ sym (no_length xs (eqb-true _ _ z.1))) (λ z. absurd (not-broken rs z)) (held_none (eqb (length xs) 0) broken rs q)
records-whole (suc fuel) xs rs small q =
    ⊎_elim (λ z. ap (joined record_bytes) z.0 ∙ sym (no_length xs (eqb-true _ _ z.1))) (λ z.
    let w = held-cond (leb (get_or xs 0 0) max_setting && leb (5 + get_or xs 0 0) (length xs)) _ rs z in
    let s = leb-true (5 + get_or xs 0 0) (length xs) (and_split (leb (get_or xs 0 0) max_setting) _ w.0).1 in
    let b = held-before (record { number = be32 xs 1; bytes = part xs 5 (get_or xs 0 0) }) (records_in fuel (drop (5 + get_or xs 0 0) xs)) rs w.1 in
    let ih = records-whole fuel (drop (5 + get_or xs 0 0) xs) b.0 (bytes_drop (5 + get_or xs 0 0) xs small) b.1 in
    ap (joined record_bytes) b.2 ∙ ap (λ (ys : List ℕ). record_bytes (record { number = be32 xs 1; bytes = part xs 5 (get_or xs 0 0) }) ++ ys) ih ∙ one-back xs small s)
    (held_none (eqb (length xs) 0) _ rs q)

pub bytes_take : (n : ℕ) (xs : List ℕ) → Bytes xs → Bytes (take n xs)
bytes_take n xs small i = ⊎_elim (λ h. rw (get_or-take n xs i 0 h) (small i))
    (λ h. let z : get_or (take n xs) i 0 ≡ 0 = get_or-eq_default (take n xs) 0 (let l = length-take-most n xs in omega arith) in omega arith) (lt-or-ge i n)

all-zeros : (xs : List ℕ) → every (λ x. eqb x 0) xs ≡ true → xs ≡ zeros (length xs)
unfolding zeros
all-zeros [] h = refl
all-zeros (x ∷ xs) h = let a = and_split (eqb x 0) _ h in rw (← all-zeros xs a.1, eqb-true x 0 a.0)

module _ (c : List ℕ) (rs : List Revision) (small : Bytes c) (q : revisions c ≡ held rs) where
  abbrev size : ℕ
  size = be32 c 1

  abbrev tail : List ℕ
  tail = drop 5 c

  record Tested : Type 0 where
    first : get_or c 0 0 ≡ 1
    least : 5 ≤ size
    most : size ≤ length c
    ended : every (λ x. eqb x 0) (drop size c) ≡ true
    read : records_in max_revisions (part c 5 (size - 5)) ≡ held rs

  tested : Tested
  unfolding revisions
  tested =
      let a = held-cond (eqb (get_or c 0 0) 1 && (within 5 (length c) (be32 c 1) && every (λ x. eqb x 0) (drop (be32 c 1) c))) _ rs q in
      let b = and_split (eqb (get_or c 0 0) 1) _ a.0 in
      let d = and_split (within 5 (length c) (be32 c 1)) _ b.1 in
      let w = within-split 5 (length c) (be32 c 1) d.0 in
      record { first = eqb-true _ _ b.0; least = w.0; most = w.1; ended = d.1; read = (held-numbered (records_in max_revisions (part c 5 (be32 c 1 - 5))) rs a.1).0 }

  body_is : joined record_bytes rs ≡ take (size - 5) tail
  body_is = records-whole max_revisions (part c 5 (size - 5)) rs (bytes_take (size - 5) (drop 5 c) (bytes_drop 5 c small)) tested.read

  body-long : 5 + length (joined record_bytes rs) ≡ size
  body-long = let T = tested in let l = T.least in let m = T.most in rw body_is (simp (length-take, length-drop) (omega arith))

  whole_long : length (whole_file rs) ≡ size
  unfolding whole_file bytes4
  whole_long = let b = body-long in omega arith

  end_is : zeros (length c - length (whole_file rs)) ≡ drop (size - 5) tail
  end_is =
      let T = tested in
      let l = T.least in
      let m : 5 + (size - 5) ≡ size = omega arith in
      let d : drop (size - 5) tail ≡ drop size c = drop-drop (size - 5) 5 c ∙ ap (λ (k : ℕ). drop k c) m in
      rw (whole_long, d) (ap zeros (sym (length-drop size c)) ∙ sym (all-zeros (drop size c) T.ended))

  started : whole_file rs ++ drop (size - 5) tail ≡ c
  unfolding whole_file
  started =
      let T = tested in
      let l = T.least in
      let m = T.most in
      rw (body-long, append_assoc (bytes4 size) (joined record_bytes rs) (drop (size - 5) tail), body_is, take-append-drop (size - 5) tail)
      (ap (λ (x : ℕ). x ∷ (bytes4 size ++ tail)) (sym T.first) ∙ five c small (omega arith))

  pub written-again : encoded rs (length c) ≡ c
  unfolding encoded
  written-again = rw end_is started
