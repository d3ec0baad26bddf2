-- WHAT IS PUT RIGHT: the end slot's type, entries 0 to t, the entries that are not claimed, the counts.
use Prim.Native.Nat.{ℕ, zero, suc, ◌+◌, ◌-◌, ◌*◌, ◌≤◌, ◌<◌}
use mathlib.Core.Bool.{Bool, true, false, ◌||◌}
use mathlib.Core.List.{List, [], ◌∷◌}
use mathlib.Core.Logic.{◌⊎◌, inl, inr, ⊎_elim, ◌≢◌}
use mathlib.Core.Path.{◌≡◌, refl, sym, ap, ◌∙◌, subst}
use native.Mathlib.Nat.{eq-or-lt_of_le}
use native.Mathlib.Omega.{arith}
use lib.Dec.{eqb, ltb}
use lib.ListN.{length, get_or}
use borrow.Author.Tests.{eq-eqb, eqb-true, ltb-true, ltb-false}
use Rattle.layout.specs.Limits.{min_blocks, max_blocks}
use Rattle.layout.specs.Lists.{interval, has}
use Rattle.layout.specs.Bytes.{be32, zeros}
use Rattle.layout.specs.Geometry.{block_count, table_blocks, root_block}
use Rattle.layout.specs.Table.{next, set_next, occupied}
use Rattle.layout.specs.Directory.{type_of}
use Rattle.layout.specs.Check.{stage7}
use Rattle.volume.specs.Entries.{set_occupied}
use Rattle.layout.proofs.Laws.Tests.{and-join, or_split, true-not-false}
use Rattle.layout.proofs.Laws.Lists.{In, has-eqb-in, in-has-eqb}
use Rattle.layout.proofs.Laws.Bytes.{length-zeros, get_d-zeros, length-splice, get_d-splice-inside, splice-first}
use Rattle.layout.proofs.Laws.Frames.{Same, same_then, same_beside, same-be32, set-next-length, set-next-same, set-next-at, set-next-other}
use Rattle.layout.proofs.Laws.Counts.{occupied-same, occupied-most}
use Rattle.volume.proofs.Laws.Table.{set-occupied-length, set-occupied-same, set-occupied-next, set-occupied-used, set-occupied-free}
use Rattle.salvage.specs.Salvage.{end_at, end_right, end_put, one_at, blanked, free_at, in_turn, counts_put}
use Rattle.salvage.proofs.Laws.Walked.{by_cond}
use Rattle.salvage.proofs.Laws.Places.{Place, slot-low, slot-high}

-- the end slot
module _ (n : ℕ) (ds : List ℕ) (G : Place n ds) (s : List ℕ) (len : length s ≡ 512 * n) where
  end_fits : end_at ds + length {A = ℕ} (255 ∷ []) ≤ length s
  end_fits = omega (arith, slot-high n ds G (4 * length ds - 1) (omega (arith, G.some)), len)

  pub end-length : length (end_put s ds) ≡ length s
  unfolding end_put
  end-length = by_cond (λ x. length x ≡ length s) (end_right s ds) s _ (λ e. refl) (λ e. length-splice s (end_at ds) (255 ∷ []) end_fits)

  pub end_same : (a m : ℕ) → (a + m ≤ end_at ds) ⊎ (end_at ds + 1 ≤ a) → Same s (end_put s ds) a m
  unfolding end_put
  end_same a m h = by_cond (λ x. Same s x a m) (end_right s ds) s _ (λ e i l. refl) (λ e. same_beside s (end_at ds) (255 ∷ []) end_fits a m h)

  pub end-type : type_of (end_put s ds) (end_at ds) ≡ 255
  unfolding end_put end_right
  end-type = by_cond (λ x. type_of x (end_at ds) ≡ 255) (end_right s ds) s _ (λ e. eqb-true _ 255 e) (λ e. splice-first s (end_at ds) (255 ∷ []) end_fits (omega arith))

  pub end-next : (x : ℕ) → x < 128 * table_blocks n → next (end_put s ds) x ≡ next s x
  unfolding next
  end-next x l =
      let w = slot-low n ds G (4 * length ds - 1) (omega (arith, G.some)) in
      same-be32 s (end_put s ds) (512 + 4 * x) 4 (512 + 4 * x) (end_same (512 + 4 * x) 4 (inl (omega arith))) (omega arith) (omega arith)

-- entries 0 to t
module _ (n : ℕ) (h₃ : min_blocks ≤ n) where
  pub record Ones (s r : List ℕ) (a k : ℕ) : Type 0 where
    pub len : length r ≡ length s
    pub same : (i w : ℕ) → (i + w ≤ 512) ⊎ (512 * root_block n ≤ i) → Same s r i w
    pub ones : (x : ℕ) → a ≤ x → x < a + k → next r x ≡ 1
    pub others : (x : ℕ) → (x < a) ⊎ (a + k ≤ x) → next r x ≡ next s x

  module _ (s : List ℕ) (b : ℕ) (len : length s ≡ 512 * n) (hb : b ≤ table_blocks n) where
    one-fits : 512 + 4 * b + 4 ≤ length s
    one-fits = omega arith

    one-step : Ones s (one_at s b) b 1
    unfolding one_at
    one-step =
        record {
          len = by_cond (λ x. length x ≡ length s) (eqb (next s b) 1) s _ (λ e. refl) (λ e. set-next-length s b 1 one-fits);
          same = λ i w h. by_cond (λ x. Same s x i w) (eqb (next s b) 1) s _ (λ e j l. refl)
              (λ e. set-next-same s b 1 one-fits i w (⊎_elim (λ x. inl (omega arith)) (λ x. inr (omega arith)) h));
          ones = λ x h g. let q : x ≡ b = omega arith in
              rw q (by_cond (λ y. next y b ≡ 1) (eqb (next s b) 1) s _ (λ e. eqb-true _ 1 e) (λ e. set-next-at s b 1 one-fits (omega arith)));
          others = λ x h. by_cond (λ y. next y x ≡ next s x) (eqb (next s b) 1) s _ (λ e. refl)
              (λ e. set-next-other s b 1 one-fits x (λ q. ⊎_elim (λ z. omega arith) (λ z. omega arith) h));
        }

  pub ones-put : (k a : ℕ) (s : List ℕ) → length s ≡ 512 * n → a + k ≤ table_blocks n + 1 → Ones s (in_turn one_at s (interval a k)) a k
  unfolding in_turn
  ones-put zero a s len h = record { len = refl; same = λ i w g j l. refl; ones = λ x g l. absurd (omega arith); others = λ x g. refl }
  ones-put (suc k) a s len h =
      let O = one-step s a len (omega arith) in
      let R = ones-put k (suc a) (one_at s a) (O.len ∙ len) (omega arith) in
      let r = in_turn one_at (one_at s a) (interval (suc a) k) in
      record {
        len = R.len ∙ O.len;
        same = λ i w g. same_then s (one_at s a) r i w (O.same i w g) (R.same i w g);
        ones = λ x g l. ⊎_elim (λ e. R.others x (inl (omega arith)) ∙ O.ones x (omega arith) (omega arith)) (λ e. R.ones x e (omega arith)) (eq-or-lt_of_le g);
        others = λ x g. R.others x (⊎_elim (λ z. inl (omega arith)) (λ z. inr (omega arith)) g) ∙ O.others x (⊎_elim (λ z. inl z) (λ z. inr (omega arith)) g);
      }

  -- the entries that are not claimed
  module _ (cs : List ℕ) where
    pub record Frees (s r : List ℕ) (a k : ℕ) : Type 0 where
      pub len : length r ≡ length s
      pub same : (i w : ℕ) → (i + w ≤ 512) ⊎ (512 * root_block n ≤ i)
          → ((b : ℕ) → a ≤ b → b < a + k → b < n → (In b cs → ⊥) → next s b ≢ 0 → (i + w ≤ 512 * b) ⊎ (512 * b + 512 ≤ i)) → Same s r i w
      pub kept : (x : ℕ) → x < 128 * table_blocks n → In x cs → next r x ≡ next s x
      pub others : (x : ℕ) → x < 128 * table_blocks n → (x < a) ⊎ (a + k ≤ x) → next r x ≡ next s x
      pub free : (x : ℕ) → a ≤ x → x < a + k → (In x cs → ⊥) → next r x ≡ 0
      pub blank : (x : ℕ) → a ≤ x → x < a + k → x < n → (In x cs → ⊥) → next s x ≢ 0 → (i : ℕ) → i < 512 → get_or r (512 * x + i) 0 ≡ 0

    module _ (s : List ℕ) (b : ℕ) (len : length s ≡ 512 * n) (low : table_blocks n < b) (high : b < 128 * table_blocks n) where
      bn : block_count s ≡ n
      bn = omega arith

      blank-fits : b < n → 512 * b + length (zeros 512) ≤ length s
      blank-fits h = omega (arith, length-zeros 512)

      blank-length : length (blanked s b) ≡ length s
      unfolding blanked
      blank-length = by_cond (λ x. length x ≡ length s) (ltb b (block_count s)) _ s
          (λ e. length-splice s (512 * b) (zeros 512) (blank-fits (ltb-true b n (rw bn at e)))) (λ e. refl)

      blank-same : (i w : ℕ) → (b < n → (i + w ≤ 512 * b) ⊎ (512 * b + 512 ≤ i)) → Same s (blanked s b) i w
      unfolding blanked
      blank-same i w f = by_cond (λ x. Same s x i w) (ltb b (block_count s)) _ s
          (λ e. let l = ltb-true b n (rw bn at e) in same_beside s (512 * b) (zeros 512) (blank-fits l) i w (⊎_elim (λ x. inl x) (λ x. inr (omega (arith, length-zeros 512))) (f l)))
          (λ e j l. refl)

      blank-next : (x : ℕ) → x < 128 * table_blocks n → next (blanked s b) x ≡ next s x
      unfolding next
      blank-next x l = same-be32 s (blanked s b) (512 + 4 * x) 4 (512 + 4 * x) (blank-same (512 + 4 * x) 4 (λ g. inl (omega arith))) (omega arith) (omega arith)

      blank-zero : b < n → (i : ℕ) → i < 512 → get_or (blanked s b) (512 * b + i) 0 ≡ 0
      unfolding blanked
      blank-zero l i il = by_cond (λ x. get_or x (512 * b + i) 0 ≡ 0) (ltb b (block_count s)) _ s
          (λ e. get_d-splice-inside s (512 * b) (zeros 512) (blank-fits l) i (omega (arith, length-zeros 512)) ∙ get_d-zeros 512 i)
          (λ e. let g = ltb-false b n (rw bn at e) in absurd (omega arith))

      room : 512 + 4 * b + 4 ≤ length (blanked s b)
      room = omega (arith, blank-length)

      -- the entry is left only where it is claimed or 0
      left_alone : has eqb b cs || eqb (next s b) 0 ≡ true → In b cs ⊎ (next s b ≡ 0)
      left_alone e = ⊎_elim (λ x. inl (has-eqb-in b cs x)) (λ x. inr (eqb-true _ 0 x)) (or_split (has eqb b cs) _ e)

      not_left : has eqb b cs || eqb (next s b) 0 ≡ false → (In b cs → ⊥) × (next s b ≢ 0)
      not_left e = (λ i. true-not-false (rw (in-has-eqb b cs i)) e, λ z. true-not-false {a = has eqb b cs || eqb (next s b) 0} (rw z (or-t (has eqb b cs))) e)
        where
          or-t : (x : Bool) → x || true ≡ true
          or-t true = refl
          or-t false = refl

      free_step : Frees s (free_at cs s b) b 1
      unfolding free_at
      free_step =
          let test : Bool = has eqb b cs || eqb (next s b) 0 in
          let new : List ℕ = set_next (blanked s b) b 0 in
          record {
            len = by_cond (λ x. length x ≡ length s) test s new (λ e. refl) (λ e. set-next-length (blanked s b) b 0 room ∙ blank-length);
            same = λ i w h f. by_cond (λ x. Same s x i w) test s new (λ e j l. refl)
                (λ e. let o = not_left e in
                same_then s (blanked s b) new i w (blank-same i w (λ l. f b (omega arith) (omega arith) l o.0 o.1))
                (set-next-same (blanked s b) b 0 room i w (⊎_elim (λ x. inl (omega arith)) (λ x. inr (omega arith)) h)));
            kept = λ x l i. by_cond (λ y. next y x ≡ next s x) test s new (λ e. refl)
                (λ e. set-next-other (blanked s b) b 0 room x (λ q. (not_left e).0 (subst (λ (z : ℕ). In z cs) q i)) ∙ blank-next x l);
            others = λ x l h. by_cond (λ y. next y x ≡ next s x) test s new (λ e. refl)
                (λ e. set-next-other (blanked s b) b 0 room x (λ q. ⊎_elim (λ z. omega arith) (λ z. omega arith) h) ∙ blank-next x l);
            free = λ x h g o. let q : x ≡ b = omega arith in
                rw q (by_cond (λ y. next y b ≡ 0) test s new
                (λ e. ⊎_elim (λ i. absurd (o (subst (λ (z : ℕ). In z cs) (sym q) i))) (λ z. z) (left_alone e))
                (λ e. set-next-at (blanked s b) b 0 room (omega arith)));
            blank = λ x h g l o ne i il. let q : x ≡ b = omega arith in
                rw q (by_cond (λ y. get_or y (512 * b + i) 0 ≡ 0) test s new
                (λ e. absurd (⊎_elim (λ c. o (subst (λ (z : ℕ). In z cs) (sym q) c)) (λ z. ne (ap (next s) q ∙ z)) (left_alone e)))
                (λ e. set-next-same (blanked s b) b 0 room (512 * b) 512 (inr (omega arith)) i il ∙ blank-zero (omega arith) i il));
          }

    pub frees-put : (k a : ℕ) (s : List ℕ) → length s ≡ 512 * n → table_blocks n < a → a + k ≤ 128 * table_blocks n → Frees s (in_turn (free_at cs) s (interval a k)) a k
    unfolding in_turn
    frees-put zero a s len l h =
        record { len = refl; same = λ i w g f j q. refl; kept = λ x g i. refl; others = λ x g q. refl; free = λ x g q o. absurd (omega arith); blank = λ x g q z o ne i il. absurd (omega arith) }
    frees-put (suc k) a s len l h =
        let O = free_step s a len l (omega arith) in
        let R = frees-put k (suc a) (free_at cs s a) (O.len ∙ len) (omega arith) (omega arith) in
        let r = in_turn (free_at cs) (free_at cs s a) (interval (suc a) k) in
        record {
          len = R.len ∙ O.len;
          same = λ i w g f. same_then s (free_at cs s a) r i w (O.same i w g (λ b x y z o ne. f b (omega arith) (omega arith) z o ne))
              (R.same i w g (λ b x y z o ne. f b (omega arith) (omega arith) z o (λ q. ne (O.others b (omega arith) (inr (omega arith)) ∙ q))));
          kept = λ x g i. R.kept x g i ∙ O.kept x g i;
          others = λ x g q. R.others x g (⊎_elim (λ z. inl (omega arith)) (λ z. inr (omega arith)) q) ∙ O.others x g (⊎_elim (λ z. inl z) (λ z. inr (omega arith)) q);
          free = λ x g q o. ⊎_elim (λ e. R.others x (omega arith) (inl (omega arith)) ∙ O.free x (omega arith) (omega arith) o) (λ e. R.free x e (omega arith) o) (eq-or-lt_of_le g);
          blank = λ x g q z o ne i il. ⊎_elim
              (λ e. R.same (512 * x) 512 (inr (omega arith)) (λ b b₁ b₂ b₃ bo bne. inl (omega arith)) i il ∙ O.blank x (omega arith) (omega arith) z o ne i il)
              (λ e. R.blank x e (omega arith) z o (λ y. ne (sym (O.others x (omega arith) (inr (omega arith))) ∙ y)) i il) (eq-or-lt_of_le g);
        }

-- the counts
stage7-is : (t : List ℕ) (k : ℕ) → block_count t ≡ k → be32 t 20 ≡ occupied (next t) k → be32 t 24 ≡ k - occupied (next t) k → stage7 t ≡ true
unfolding stage7
stage7-is t k b p q = rw b (and-join (eq-eqb _ _ p) (eq-eqb _ _ q))

module _ (n : ℕ) (h₃ : min_blocks ≤ n) (h₄ : n ≤ max_blocks) (s : List ℕ) (len : length s ≡ 512 * n) where
  room₁ : 512 ≤ length s
  room₁ = omega arith

  pub counts-length : length (counts_put s) ≡ length s
  unfolding counts_put
  counts-length = by_cond (λ x. length x ≡ length s) (stage7 s) s _ (λ e. refl) (λ e. set-occupied-length s (block_count s) _ room₁)

  pub counts_same : (a m : ℕ) → (a + m ≤ 20) ⊎ (28 ≤ a) → Same s (counts_put s) a m
  unfolding counts_put
  counts_same a m h = by_cond (λ x. Same s x a m) (stage7 s) s _ (λ e i l. refl) (λ e. set-occupied-same s (block_count s) _ room₁ a m h)

  pub counts-next : (x : ℕ) → next (counts_put s) x ≡ next s x
  unfolding counts_put
  counts-next x = by_cond (λ y. next y x ≡ next s x) (stage7 s) s _ (λ e. refl) (λ e. set-occupied-next s (block_count s) _ room₁ x)

  counts-set : stage7 (set_occupied s n (occupied (next s) n)) ≡ true
  counts-set =
      let u = occupied (next s) n in
      let s' = set_occupied s n u in
      let b' : block_count s' ≡ n = omega (arith, set-occupied-length s n u room₁) in
      let q : occupied (next s') n ≡ occupied (next s) n = occupied-same (next s) (next s') n (λ x l. ap (λ (z : ℕ). eqb z 0) (set-occupied-next s n u room₁ x)) in
      let m = occupied-most (next s) n in
      stage7-is s' n b' (set-occupied-used s n u room₁ (omega arith) ∙ sym q) (set-occupied-free s n u room₁ (omega arith) ∙ ap (λ (z : ℕ). n - z) (sym q))

  pub counts-right : stage7 (counts_put s) ≡ true
  unfolding counts_put
  counts-right =
      let b : block_count s ≡ n = omega arith in
      by_cond (λ y. stage7 y ≡ true) (stage7 s) s _ (λ e. e) (λ e. subst (λ (k : ℕ). stage7 (set_occupied s k (occupied (next s) k)) ≡ true) (sym b) counts-set)
