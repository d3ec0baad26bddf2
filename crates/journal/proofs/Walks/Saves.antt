-- The turns of the loops that save the marked blocks, in plain terms.
use Prim.Native.Nat.{ℕ, ◌+◌, ◌-◌, ◌*◌, ◌≤◌, ◌<◌}
use mathlib.Core.Path.{◌≡◌, refl, sym, ap, ◌∙◌}
use mathlib.Core.List.{List, [], ◌∷◌, ◌++◌, append-nil}
use native.Mathlib.Omega.{arith}
use native.Mathlib.Nat.{sub-zero}
use mathlib.Core.Bool.{true}
use lib.Dec.{ltb}
use lib.ListN.{length, get_or}
use Rattle.layout.specs.Lists.{every, joined}
use Rattle.layout.specs.Bytes.{bytes4, splice}
use Rattle.journal.specs.Journal.{used, record_bytes, added}
use Rattle.journal.specs.Walks.Saves.{Marks, marked_from}
use Rattle.layout.proofs.Laws.Lists.{joined-append}
use Rattle.layout.proofs.Laws.Bytes.{length-splice, length-bytes4, splice-nil, splice-append, splice-two}
use Rattle.journal.proofs.Laws.Records.{piece, length-pieces, length-record}
use Rattle.journal.proofs.Walks.Marked.{marked-skip, marked-take, marked-split, marked-parts, marked-done, marked-below}

-- a block's number and bytes, written one after the other
pub piece-made : (old bytes : List ℕ) (b : ℕ) → length old ≡ 516 → length bytes ≡ 512 → splice (splice old 0 (bytes4 b)) 4 bytes ≡ bytes4 b ++ bytes
piece-made old bytes b h g = let l = length-bytes4 b in splice-two old (bytes4 b) bytes 4 (omega arith) (omega arith)

pub marks-fewer : (s m : List ℕ) (n e : ℕ) → Marks s m n → e ≤ n → Marks s m e
marks-fewer s m n e k h = record { whole = omega (arith, k.whole); blocks = omega (arith, k.blocks); marks = omega (arith, k.marks) }

-- what is left to save of the blocks bs, the marked ones from b up to e, saved from here, gives what all gives from the start
pub record Saving (s m old bs : List ℕ) (at e : ℕ) (j : List ℕ) (p b : ℕ) : Type 0 where
  pub within : b ≤ e
  pub long : length j ≡ length old
  pub place : p + 516 * length (marked_from m b (e - b)) ≡ at + 516 * length bs
  pub whole : splice old at (joined (piece s) bs) ≡ splice j p (joined (piece s) (marked_from m b (e - b)))

pub save-start : (s m j : List ℕ) (at a e : ℕ) → a ≤ e → Saving s m j (marked_from m a (e - a)) at e j at a
save-start s m j at a e h = record { within = h; long = refl; place = refl; whole = refl }

pub save-all : (s m j : List ℕ) (at n : ℕ) → Saving s m j (marked_from m 0 n) at n j at 0
save-all s m j at n = record { within = omega arith; long = refl; place = rw sub-zero; whole = rw sub-zero }

no-elements : (xs : List ℕ) → length xs ≡ 0 → xs ≡ []
no-elements [] h = refl
no-elements (x ∷ xs) h = absurd (omega arith)

module _ (s m old bs : List ℕ) (at e : ℕ) (j : List ℕ) (p b : ℕ) (i : Saving s m old bs at e j p b)
    (k : Marks s m e) (fits : at + 516 * length bs ≤ length old) where
  -- the marked ones of the blocks from b up to c
  module _ (c : ℕ) (h : b ≤ c) (g : c ≤ e) where
    abbrev these : List ℕ
    these = marked_from m b (c - b)

    parts : length (marked_from m b (e - b)) ≡ length these + length (marked_from m c (e - c))
    parts = marked-parts m b c e h g

    pub save-room : p + 516 * length these ≤ length j
    save-room = omega (arith, parts, i.place, i.long, fits)

    pub save-more : (t : List ℕ) → t ≡ splice j p (joined (piece s) these) → (q : ℕ) → q ≡ p + 516 * length these → Saving s m old bs at e t q c
    save-more t is q to =
        let rest : List ℕ = marked_from m c (e - c) in
        let x : List ℕ = joined (piece s) these in
        let y : List ℕ = joined (piece s) rest in
        let lx : length x ≡ 516 * length these = length-pieces c s (omega (arith, k.whole)) (omega (arith, k.blocks)) these (marked-below m b c h) in
        let ly : length y ≡ 516 * length rest = length-pieces e s k.whole k.blocks rest (marked-below m c e g) in
        let z : q ≡ p + length x = omega (arith, lx, to) in
        let room : p + length x + length y ≤ length j = omega (arith, parts, i.place, i.long, fits, lx, ly) in
        record {
          within = g;
          long = ap length is ∙ length-splice j p x (omega arith) ∙ i.long;
          place = omega (arith, parts, i.place, to);
          whole = i.whole ∙ rw (marked-split m b c e h g, joined-append (piece s) these rest, z, is) (sym (splice-append j p x y room));
        }

    pub save-none : length these ≡ 0 → Saving s m old bs at e j p c
    save-none z = let n = no-elements these z in save-more j (rw n (sym (splice-nil j p))) p (omega (arith, z))

  -- the next block
  module _ (h : b < e) where
    pub save-skip : get_or m b 0 ≡ 0 → Saving s m old bs at e j p (b + 1)
    save-skip z = save-none (b + 1) (omega arith) (omega arith) (ap length (marked-skip m b (b + 1) (omega arith) z ∙ marked-done m (b + 1) (b + 1) (omega arith)))

    only : (get_or m b 0 ≡ 0 → ⊥) → marked_from m b (b + 1 - b) ≡ b ∷ []
    only z = marked-take m b (b + 1) (omega arith) z ∙ rw (marked-done m (b + 1) (b + 1) (omega arith))

    pub save-room-one : (get_or m b 0 ≡ 0 → ⊥) → p + 516 ≤ length j
    save-room-one z = omega (arith, save-room (b + 1) (omega arith) (omega arith), ap length (only z))

    pub save-one : (get_or m b 0 ≡ 0 → ⊥) → (t : List ℕ) → t ≡ splice j p (piece s b) → Saving s m old bs at e t (p + 516) (b + 1)
    save-one z t is = save-more (b + 1) (omega arith) (omega arith) t (rw (only z, append-nil (piece s b)) is) (p + 516) (omega (arith, ap length (only z)))

  pub save-place : e ≤ b → p ≡ at + 516 * length bs
  save-place h = omega (arith, i.place, ap length (marked-done m b e h))

  pub save-end : e ≤ b → j ≡ splice old at (joined (piece s) bs)
  save-end h = sym (i.whole ∙ rw (marked-done m b e h, splice-nil))

-- the record's length, its blocks and the new used length, written one after the other
pub record-made : (s m j : List ℕ) (n u size : ℕ) → Marks s m n → u ≡ used j → size ≡ 4 + 516 * length (marked_from m 0 n) → u + size ≤ length j
    → splice (splice (splice j u (bytes4 size)) (u + 4) (joined (piece s) (marked_from m 0 n))) 1 (bytes4 (u + size)) ≡ added j (record_bytes s (marked_from m 0 n))
unfolding added record_bytes
record-made s m j n u size k at-is size_is fits =
    let bs : List ℕ = marked_from m 0 n in
    let low : every (λ b. ltb b n) bs ≡ true = rw sub-zero at (marked-below m 0 n (omega arith)) in
    let long : length (record_bytes s bs) ≡ size = length-record n s k.whole k.blocks bs low ∙ sym size_is in
    let pieces : length (joined (piece s) bs) ≡ 516 * length bs = length-pieces n s k.whole k.blocks bs low in
    let four : length (bytes4 size) ≡ 4 = length-bytes4 size in
    let e : u + 4 ≡ u + length (bytes4 size) = omega arith in
    let one : splice (splice j u (bytes4 size)) (u + 4) (joined (piece s) bs) ≡ splice j u (bytes4 size ++ joined (piece s) bs) =
    rw e (splice-append j u (bytes4 size) (joined (piece s) bs) (omega arith)) in
    rw (one, long, ← at-is, ← size_is)
