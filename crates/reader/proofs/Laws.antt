-- Each case of a read's answer, the position after it, and what accepted reads give.
use Prim.Native.Nat.{ℕ, zero, suc, ◌+◌, ◌-◌, ◌<◌, ◌≤◌, ◌^◌, min}
use mathlib.Core.Bool.{true}
use Rattle.std.specs.Prelude.{Result}
use mathlib.Core.List.{List, [], ◌∷◌, ◌++◌}
use mathlib.Core.Path.{◌≡◌, refl, sym, ap, ◌∙◌}
use native.Mathlib.Omega.{arith}
use lib.Dec.{leb, eqb}
use lib.ListN.{length, get_or, drop, length-drop, take-append-drop, drop_of_length-le}
use lib.Seq.{drop-drop, length-take-le}
use borrow.Author.Tests.{eqb-true, leb-true}
use Rattle.layout.specs.Refusals.{accept}
use Rattle.layout.specs.Lists.{every, joined}
use Rattle.layout.specs.Bytes.{part, splice}
use Rattle.layout.specs.Directory.{size_of, is_file, content}
use Rattle.layout.specs.Paths.{entry_of}
use Rattle.layout.specs.declared.refusal.Refusal.{Refusal}
use Rattle.layout.specs.Looks.{ReadAnswer, read, read_refusal, lookup_refusal}
use Rattle.layout.specs.Answers.{read_answer}
use Rattle.layout.proofs.Laws.Tests.{and_split, first_of-zero, accept-either}
use Rattle.layout.proofs.Laws.Bytes.{be32-small, part-splice}
use Rattle.layout.proofs.Laws.Sound.{sound}
use Rattle.layout.proofs.Laws.Files.{length-content}
use Rattle.layout.proofs.Laws.Looks.{lookup-sound, lookup-file}
use Rattle.reader.specs.Readings.{answers, given, last_count}

-- the answer of a read, by the case that it is
pub read-case : {v w : Result ℕ Refusal} (b : List ℕ) (a : ReadAnswer) → v ≡ w → read_answer v b ≡ a → read_answer w b ≡ a
read-case b a e h = ap (λ (x : Result ℕ Refusal). read_answer x b) (sym e) ∙ h

module _ (s path : List ℕ) where
  abbrev bytes : List ℕ
  bytes = content s (entry_of is_file s path)

  abbrev size : ℕ
  size = size_of s (entry_of is_file s path)

  -- where the read ends is a number of 64 bits, whatever the position
  pub place-fits : (position : ℕ) (buffer : List ℕ) → ((i : ℕ) → get_or s i 0 < 256) → position < 2 ^ 64 → position + (read s path position buffer).count < 2 ^ 64
  unfolding read
  place-fits position buffer small h =
      let z : position + 0 < 2 ^ 64 = omega arith in
      let g : position + min (length buffer) (size - position) < 2 ^ 64 = omega (arith, be32-small s (entry_of is_file s path + 8) small) in
      accept-either (λ (r : ReadAnswer). position + r.count < 2 ^ 64) (read_refusal s path position) _ _ g z

  -- what an accepted read has asked, and what it gives
  accepted : (position : ℕ) (buffer : List ℕ) → (read s path position buffer).number ≡ 0 → read_refusal s path position ≡ 0
  unfolding read
  accepted position buffer e = go (read_refusal s path position) _ _ refl e
    where
      go : (r : ℕ) (x y : ReadAnswer) → y.number ≡ r → (accept {A = ReadAnswer} r x y).number ≡ 0 → r ≡ 0
      go zero x y q e = refl
      go (suc r) x y q e = sym q ∙ e

  count-is : (position : ℕ) (buffer : List ℕ) → read_refusal s path position ≡ 0 → (read s path position buffer).count ≡ min (length buffer) (size - position)
  unfolding read
  count-is position buffer e = rw e

  buffer-is : (position : ℕ) (buffer : List ℕ) → read_refusal s path position ≡ 0
      → (read s path position buffer).buffer ≡ splice buffer 0 (part bytes position (min (length buffer) (size - position)))
  unfolding read
  buffer-is position buffer e = rw e

  all-bytes : (position : ℕ) → read_refusal s path position ≡ 0 → length bytes ≡ size
  unfolding read_refusal
  all-bytes position e =
      let l = (first_of-zero (lookup_refusal s path) _ e).0 in
      length-content s (sound s (lookup-sound s path l)) (entry_of is_file s path) (lookup-file s path l)

  given_is : (position : ℕ) (buffer : List ℕ) → read_refusal s path position ≡ 0
      → given (read s path position buffer) ≡ part bytes position (read s path position buffer).count
  given_is position buffer e =
      let k : ℕ = min (length buffer) (size - position) in
      let p : List ℕ = part bytes position k in
      let l : length p ≡ k = length-take-le k (drop position bytes) (simp length-drop (omega (arith, all-bytes position e))) in
      rw (buffer-is position buffer e, count-is position buffer e) (part-splice buffer 0 p k l (omega arith))

  -- the bytes from a position on: those of one read, and those from its end on
  bytes-from : (position k : ℕ) → part bytes position k ++ drop (position + k) bytes ≡ drop position bytes
  bytes-from position k = ap (λ (x : List ℕ). part bytes position k ++ x) (sym (drop-drop k position bytes)) ∙ take-append-drop k (drop position bytes)

  -- reads from a position on until one gives none; k is the count of the read before
  pub read-from : (bs : List (List ℕ)) (position k : ℕ) → (k ≡ 0 → length bytes ≤ position)
      → every (λ (b : List ℕ). leb 1 (length b)) bs ≡ true
      → every (λ (r : ReadAnswer). eqb r.number 0) (answers s path position bs) ≡ true
      → last_count k (answers s path position bs) ≡ 0
      → joined given (answers s path position bs) ≡ drop position bytes
  unfolding answers
  read-from [] position k end some ok last = sym (drop_of_length-le bytes (end last))
  read-from (b ∷ bs) position k end some ok last =
      let r : ReadAnswer = read s path position b in
      let some' = and_split (leb 1 (length b)) _ some in
      let ok' = and_split (eqb r.number 0) _ ok in
      let e = accepted position b (eqb-true _ _ ok'.0) in
      let long = leb-true 1 (length b) some'.0 in
      let rest = read-from bs (position + r.count) r.count
      (λ z. omega (arith, z, long, count-is position b e, all-bytes position e)) some'.1 ok'.1 last in
      ap (λ (x : List ℕ). given r ++ x) rest ∙ ap (λ (x : List ℕ). x ++ drop (position + r.count) bytes) (given_is position b e) ∙ bytes-from position r.count
