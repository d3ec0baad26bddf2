-- The notes on the table as the code makes them, block by block, and the turns of the search by them.
use Prim.Native.Nat.{ℕ, ◌+◌, ◌-◌, ◌*◌, ◌/◌, ◌%◌, ◌≤◌, ◌<◌, min}
use mathlib.Core.Path.{◌≡◌, refl, sym, ap, subst, ◌∙◌}
use mathlib.Core.Bool.{false, not, ◌&&◌}
use mathlib.Core.List.{List}
use mathlib.Core.Logic.{◌⊎◌, inl, inr, ⊎_elim, ◌≢◌}
use native.Mathlib.Decide.{ℕ_discrete}
use native.Mathlib.Omega.{arith}
use lib.Dec.{eqb, ltb}
use mir.Val.{bool_byte}
use lib.ListN.{length, get_or, set, length-set}
use lib.Seq.{get_or-set_same, get_or-set_other}
use borrow.Author.Tests.{eq-eqb, ne_eqb, lt-ltb, le-ltb}
use Rattle.layout.specs.Bytes.{zeros, block}
use Rattle.layout.specs.Geometry.{table_blocks}
use Rattle.layout.specs.Table.{next}
use Rattle.layout.specs.Walks.Chains.{entry_in, count_used}
use Rattle.layout.proofs.Laws.Tests.{lt-or-ge}
use Rattle.layout.proofs.Laws.Bytes.{get_d-zeros}
use Rattle.layout.proofs.Walks.Chains.{entry-in-block, count_used-all, count_used-some}
use Rattle.volume.specs.Search.{Noted, Exact, Renoted, noted_full, searched}
use Rattle.volume.proofs.Laws.Notes.{first-is}

-- the note of k entries, by the count of those in use
module _ (v : ℕ → ℕ) (k used : ℕ) (few : k ≤ 128) (e : used ≡ count_used v 0 k) where
  pub note-full : k ≤ used → Noted v k 0 0
  note-full h = record { full = λ z b q l. count_used-all v k 0 (omega arith) b (omega arith) (omega arith); some = λ z. absurd (z refl) }

  pub note-some : used < k → Noted v k 0 1
  note-some h =
      record { full = λ z. absurd (omega arith); some = λ z. let r = count_used-some v k 0 (omega arith) in (r.0, omega arith, omega arith, r.3) }

  -- a test as a number: 1 if it is met, else 0
  pub note-is : (r : ℕ) → r ≡ bool_byte (ltb used k) → Noted v k 0 r
  note-is r q = go (lt-or-ge used k)
    where
      go : (used < k) ⊎ (k ≤ used) → Noted v k 0 r
      go (inl h) = subst (Noted v k 0) (sym (q ∙ ap bool_byte (lt-ltb used k h))) (note-some h)
      go (inr h) = subst (Noted v k 0) (sym (q ∙ ap bool_byte (le-ltb used k h))) (note-full h)

-- the note of a table block of the image, by its bytes
pub note-in-block : (s : List ℕ) (n i : ℕ) (x : List ℕ) (k r : ℕ) → x ≡ block s (1 + i) → 128 * i < n → k ≡ min 128 (n - 128 * i) → Noted (entry_in x) k 0 r → Noted (next s) n i r
note-in-block s n i x k r e h ek w =
    record {
      full = λ z b q l y. w.full z (b % 128) (omega arith) (omega arith) (entry b q ∙ y);
      some = λ z. found (w.some z);
    }
  where
    entry : (b : ℕ) → b / 128 ≡ i → entry_in x (b % 128) ≡ next s b
    entry b q = ap (λ (y : List ℕ). entry_in y (b % 128)) (e ∙ ap (λ (j : ℕ). block s (1 + j)) (sym q)) ∙ entry-in-block s b

    found : (c : ℕ) × (c / 128 ≡ 0) × (c < k) × (entry_in x c ≡ 0) → (b : ℕ) × (b / 128 ≡ i) × (b < n) × (next s b ≡ 0)
    found m =
        let c = m.0 in
        let q : (128 * i + c) / 128 ≡ i = omega (arith, m.1) in
        let d : (128 * i + c) % 128 ≡ c = omega (arith, m.1) in
        let l : 128 * i + c < n = omega (arith, m.2) in
        (128 * i + c, q, l, sym (entry (128 * i + c) q) ∙ ap (entry_in x) d ∙ m.3)

pub renoted : (v : ℕ → ℕ) (n i x : ℕ) (notes : List ℕ) → i < length notes → Noted v n i x → Renoted v n i notes (set notes i x)
renoted v n i x notes h w =
    record {
      size = length-set notes i x;
      here = subst (λ (y : ℕ). Noted v n i y) (sym (get_or-set_same notes i x 0 h)) w;
      others = λ j d. get_or-set_other notes i j x 0 d;
    }

-- the loop that makes all of them
pub record Noting (v : ℕ → ℕ) (n : ℕ) (notes : List ℕ) (i : ℕ) : Type 0 where
  pub done : (j : ℕ) → j < i → Noted v n j (get_or notes j 0)
  pub rest : (j : ℕ) → i ≤ j → get_or notes j 0 ≡ 0

pub noting : (v : ℕ → ℕ) (n : ℕ) (notes : List ℕ) → notes ≡ zeros (length notes) → Noting v n notes 0
noting v n notes e = record { done = λ j l. absurd (omega arith); rest = λ j l. ap (λ (xs : List ℕ). get_or xs j 0) e ∙ get_d-zeros (length notes) j }

module _ {v : ℕ → ℕ} {n : ℕ} {notes : List ℕ} {i : ℕ} (w : Noting v n notes i) where
  pub note-turn : (notes' : List ℕ) → Renoted v n i notes notes' → Noting v n notes' (i + 1)
  note-turn notes' new =
      record {
        done = λ j l. go j l (ℕ_discrete j i);
        rest = λ j l. new.others j (λ q. omega arith) ∙ w.rest j (omega arith);
      }
    where
      go : (j : ℕ) → j < i + 1 → Dec (j ≡ i) → Noted v n j (get_or notes' j 0)
      go j l (yes e) = subst (λ (y : ℕ). Noted v n y (get_or notes' y 0)) (sym e) new.here
      go j l (no d) = subst (λ (y : ℕ). Noted v n j y) (sym (new.others j d)) (w.done j (⊎_elim (λ h. h) (λ h. absurd (d (omega arith))) (lt-or-ge j i)))

  pub all_noted : i ≡ table_blocks n → n ≤ 128 * length notes → Exact v n notes
  all_noted e h = record { room = h; right = λ j l. ⊎_elim (λ k. w.done j (omega arith)) (λ k. past j k) (lt-or-ge j (table_blocks n)) }
    where
      past : (j : ℕ) → table_blocks n ≤ j → Noted v n j (get_or notes j 0)
      past j k =
          subst (λ (y : ℕ). Noted v n j y) (sym (w.rest j (omega arith)))
          (record { full = λ z b q l. absurd (omega arith); some = λ z. absurd (z refl) })

-- the search: no block before b is the answer
pub record Passed (notes : List ℕ) (v : ℕ → ℕ) (from b : ℕ) : Type 0 where
  pub low : from ≤ b
  pub before : (c : ℕ) → from ≤ c → c < b → (not (noted_full notes c) && eqb (v c) 0) ≡ false

pub passed_none : (notes : List ℕ) (v : ℕ → ℕ) (from : ℕ) → Passed notes v from from
passed_none notes v from = record { low = omega arith; before = λ c l u. absurd (omega arith) }

module _ {notes : List ℕ} {v : ℕ → ℕ} {from b : ℕ} (w : Passed notes v from b) where
  pub pass-block : get_or notes (b / 128) 0 ≡ 0 → Passed notes v from (128 * (b / 128) + 128)
  pass-block z = record { low = omega (arith, w.low); before = λ c l u. ⊎_elim (λ h. w.before c l h) (λ h. full c h u) (lt-or-ge c b) }
    where
      full : (c : ℕ) → b ≤ c → c < 128 * (b / 128) + 128 → (not (noted_full notes c) && eqb (v c) 0) ≡ false
      full c h u =
          let q : c / 128 ≡ b / 128 = omega arith in
          let e : get_or notes (c / 128) 0 ≡ 0 = ap (λ (i : ℕ). get_or notes i 0) q ∙ z in
          rw (eq-eqb (get_or notes (c / 128) 0) 0 e)

  pub pass-entry : get_or notes (b / 128) 0 ≢ 0 → v b ≢ 0 → Passed notes v from (b + 1)
  pass-entry z ne = record { low = omega (arith, w.low); before = λ c l u. go c l (ℕ_discrete c b) u }
    where
      used : (not (noted_full notes b) && eqb (v b) 0) ≡ false
      used = rw (ne_eqb (get_or notes (b / 128) 0) 0 z, ne_eqb (v b) 0 ne)

      go : (c : ℕ) → from ≤ c → Dec (c ≡ b) → c < b + 1 → (not (noted_full notes c) && eqb (v c) 0) ≡ false
      go c l (yes e) u = subst (λ (x : ℕ). (not (noted_full notes x) && eqb (v x) 0) ≡ false) (sym e) used
      go c l (no d) u = w.before c l (⊎_elim (λ h. h) (λ h. absurd (d (omega arith))) (lt-or-ge c b))

  module _ (n : ℕ) where
    pub found_here : b < n → get_or notes (b / 128) 0 ≢ 0 → v b ≡ 0 → b ≡ searched notes v from n
    unfolding searched
    found_here h z e =
        first-is (λ c. not (noted_full notes c) && eqb (v c) 0) n from b
        (record { high = omega arith; before = w.before; met = λ k. (w.low, rw (ne_eqb (get_or notes (b / 128) 0) 0 z, eq-eqb (v b) 0 e)) })

    pub found_none : n ≤ b → n ≡ searched notes v from n
    unfolding searched
    found_none h =
        first-is (λ c. not (noted_full notes c) && eqb (v c) 0) n from n
        (record { high = omega arith; before = λ c l u. w.before c l (omega arith); met = λ k. absurd (omega arith) })
