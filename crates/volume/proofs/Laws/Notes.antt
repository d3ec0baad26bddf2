-- The notes on the table and the search by them: the lowest number that passes, right notes, what a take leaves of them.
use Prim.Native.Nat.{ℕ, zero, suc, ◌+◌, ◌-◌, ◌/◌, ◌≤◌, ◌<◌, min}
use mathlib.Core.Path.{◌≡◌, refl, sym, ap, subst, ◌∙◌}
use mathlib.Core.Bool.{Bool, true, false, not, ◌&&◌, ◌||◌}
use mathlib.Core.List.{List}
use mathlib.Core.Logic.{◌⊎◌, inl, inr, ⊎_elim, ◌≢◌}
use native.Mathlib.Decide.{ℕ_discrete}
use native.Mathlib.Omega.{arith}
use lib.Dec.{eqb}
use lib.ListN.{length, get_or}
use borrow.Author.Tests.{eq-eqb, ne_eqb, eqb-true}
use Rattle.layout.specs.Table.{next}
use Rattle.layout.proofs.Laws.Tests.{lt-or-ge, true-or-false}
use Rattle.layout.proofs.Laws.Lists.{interval-from, select-same}
use Rattle.volume.specs.Entries.{taken}
use Rattle.volume.specs.Search.{first_from, lowest_free, Full, Noted, Exact, Renoted, Takeable, noted_full, searched}
use Rattle.volume.specs.Walks.Searches.{First}
use Rattle.volume.proofs.Laws.Table.{taken-zeros}

-- the lowest number from a on that passes
module _ (p : ℕ → Bool) (n : ℕ) where
  pub first-none : (a : ℕ) → n ≤ a → first_from p a n ≡ n
  first-none a h = let e : n - a ≡ 0 = omega arith in rw e

  pub first-here : (a : ℕ) → a < n → p a ≡ true → first_from p a n ≡ a
  first-here a h e = rw (interval-from n a h, e)

  pub first-skip : (a : ℕ) → a < n → p a ≡ false → first_from p a n ≡ first_from p (a + 1) n
  first-skip a h e = rw (interval-from n a h, e)

  first_past : (j a : ℕ) → a + j ≤ n → ((b : ℕ) → a ≤ b → b < a + j → p b ≡ false) → first_from p a n ≡ first_from p (a + j) n
  first_past zero a h f = let e : a + 0 ≡ a = omega arith in rw e
  first_past (suc j) a h f =
      let e : a + suc j ≡ a + 1 + j = omega arith in
      first-skip a (omega arith) (f a (omega arith) (omega arith)) ∙ first_past j (a + 1) (omega arith) (λ b l u. f b (omega arith) (omega arith)) ∙ ap (λ (x : ℕ). first_from p x n) (sym e)

  pub first-is : (a r : ℕ) → First p a n r → r ≡ first_from p a n
  first-is a r f = ⊎_elim (λ h. below (lt-or-ge r n) h) (λ h. above (lt-or-ge r n) h) (lt-or-ge r a)
    where
      below : (r < n) ⊎ (n ≤ r) → r < a → r ≡ first_from p a n
      below (inl l) h = absurd (omega (arith, (f.met l).0))
      below (inr l) h = let e : r ≡ n = omega (arith, f.high) in e ∙ sym (first-none a (omega arith))

      above : (r < n) ⊎ (n ≤ r) → a ≤ r → r ≡ first_from p a n
      above w h =
          let e : a + (r - a) ≡ r = omega arith in
          sym (first_past (r - a) a (omega (arith, f.high)) (λ b l u. f.before b l (omega arith)) ∙ rw e (at w))
        where
          at : (r < n) ⊎ (n ≤ r) → first_from p r n ≡ r
          at (inl l) = first-here r l (f.met l).1
          at (inr l) = let e : n ≡ r = omega (arith, f.high) in first-none r l ∙ e

  pub first_of : (a : ℕ) → First p a n (first_from p a n)
  first_of a = from (n - a) a refl
    where
      none : (b : ℕ) → n ≤ b → First p b n (first_from p b n)
      none b h =
          subst (λ (r : ℕ). First p b n r) (sym (first-none b h))
          (record { high = omega arith; before = λ c l u. absurd (omega arith); met = λ g. absurd (omega arith) })

      from : (k b : ℕ) → n - b ≡ k → First p b n (first_from p b n)
      from zero b e = none b (omega arith)
      from (suc k) b e = go (from k (b + 1) (omega arith)) (true-or-false (p b))
        where
          go : First p (b + 1) n (first_from p (b + 1) n) → (p b ≡ true) ⊎ (p b ≡ false) → First p b n (first_from p b n)
          go rest (inl t) =
              subst (λ (r : ℕ). First p b n r) (sym (first-here b (omega arith) t))
              (record { high = omega arith; before = λ c l u. absurd (omega arith); met = λ g. (omega arith, t) })
          go rest (inr f) =
              subst (λ (r : ℕ). First p b n r) (sym (first-skip b (omega arith) f))
              (record {
                high = rest.high;
                before = λ c l u. ⊎_elim (λ h. rest.before c (omega arith) u) (λ h. let q : c ≡ b = omega arith in ap p q ∙ f) (lt-or-ge b c);
                met = λ g. (omega (arith, (rest.met g).0), (rest.met g).1);
              })

-- one of two tests passes
pub first_either : (p q : ℕ → Bool) (a n r t : ℕ) → First p a n r → First q a n t → First (λ b. p b || q b) a n (min r t)
first_either p q a n r t f g = ⊎_elim (λ h. left h) (λ h. right h) (lt-or-ge r t)
  where
    neither : (b : ℕ) → p b ≡ false → q b ≡ false → (p b || q b) ≡ false
    neither b e d = rw (e, d)

    left : r < t → First (λ b. p b || q b) a n (min r t)
    left h =
        let e : min r t ≡ r = omega arith in
        rw e (record {
          high = f.high;
          before = λ b l u. neither b (f.before b l u) (g.before b l (omega arith));
          met = λ k. ((f.met k).0, rw (f.met k).1);
        })

    either : (x y : Bool) → y ≡ true → (x || y) ≡ true
    either true y e = refl
    either false y e = e

    right : t ≤ r → First (λ b. p b || q b) a n (min r t)
    right h =
        let e : min r t ≡ t = omega arith in
        rw e (record {
          high = g.high;
          before = λ b l u. neither b (f.before b l (omega arith)) (g.before b l u);
          met = λ k. ((g.met k).0, either (p t) (q t) (g.met k).1);
        })

-- the same numbers pass
pub first-same : (p q : ℕ → Bool) (a n r : ℕ) → ((b : ℕ) → b < n → q b ≡ p b) → First p a n r → First q a n r
first-same p q a n r e f =
    record {
      high = f.high;
      before = λ b l u. e b (omega (arith, f.high)) ∙ f.before b l u;
      met = λ k. ((f.met k).0, e r k ∙ (f.met k).1);
    }

-- by right notes the search gives the lowest free block
module _ (notes : List ℕ) (v : ℕ → ℕ) (n : ℕ) (exact : Exact v n notes) where
  free-noted : (b : ℕ) → b < n → (not (noted_full notes b) && eqb (v b) 0) ≡ eqb (v b) 0
  free-noted b h = go (ℕ_discrete (get_or notes (b / 128) 0) 0)
    where
      go : Dec (get_or notes (b / 128) 0 ≡ 0) → (not (noted_full notes b) && eqb (v b) 0) ≡ eqb (v b) 0
      go (yes e) = rw (eq-eqb (get_or notes (b / 128) 0) 0 e, ne_eqb (v b) 0 ((exact.right (b / 128) (omega (arith, exact.room))).full e b refl h))
      go (no d) = rw (ne_eqb (get_or notes (b / 128) 0) 0 d)

  pub search-lowest : (a : ℕ) → searched notes v a n ≡ lowest_free v a n
  unfolding searched lowest_free
  search-lowest a =
      ap (λ (xs : List ℕ). get_or xs 0 n)
      (select-same (λ b. eqb (v b) 0) (λ b. not (noted_full notes b) && eqb (v b) 0) (n - a) a (λ b l u. free-noted b (omega arith)))

-- no matter what the entries of the blocks noted as full are
pub search-any-full : (notes : List ℕ) (v w : ℕ → ℕ) (a n : ℕ) → ((b : ℕ) → b < n → noted_full notes b ≡ false → w b ≡ v b) → searched notes w a n ≡ searched notes v a n
unfolding searched
search-any-full notes v w a n same =
    ap (λ (xs : List ℕ). get_or xs 0 n)
    (select-same (λ b. not (noted_full notes b) && eqb (v b) 0) (λ b. not (noted_full notes b) && eqb (w b) 0) (n - a) a
    (λ b l u. go b (noted_full notes b) (same b (omega arith))))
  where
    go : (b : ℕ) (t : Bool) → (t ≡ false → w b ≡ v b) → (not t && eqb (w b) 0) ≡ (not t && eqb (v b) 0)
    go b true f = refl
    go b false f = ap (λ (x : ℕ). eqb x 0) (f refl)

-- without notes: on two tables that agree outside table blocks that are full in both, the lowest free block is the same
pub lowest-any-full : (v w : ℕ → ℕ) (a n : ℕ) → ((b : ℕ) → b < n → (w b ≡ v b) ⊎ (Full v n (b / 128) × Full w n (b / 128))) → lowest_free w a n ≡ lowest_free v a n
unfolding lowest_free
lowest-any-full v w a n same =
    ap (λ (xs : List ℕ). get_or xs 0 n) (select-same (λ b. eqb (v b) 0) (λ b. eqb (w b) 0) (n - a) a (λ b l u. go b (omega arith) (same b (omega arith))))
  where
    go : (b : ℕ) → b < n → (w b ≡ v b) ⊎ (Full v n (b / 128) × Full w n (b / 128)) → eqb (w b) 0 ≡ eqb (v b) 0
    go b h (inl e) = ap (λ (x : ℕ). eqb x 0) e
    go b h (inr f) = ne_eqb (w b) 0 (f.1 b refl h) ∙ sym (ne_eqb (v b) 0 (f.0 b refl h))

-- note i was made anew, and in no other table block did an entry come to be 0 or cease to be
pub noted-anew : (v w : ℕ → ℕ) (n i : ℕ) (notes notes' : List ℕ) → Exact v n notes → ((b : ℕ) → b < n → b / 128 ≢ i → eqb (w b) 0 ≡ eqb (v b) 0)
    → Renoted w n i notes notes' → Exact w n notes'
noted-anew v w n i notes notes' exact same new =
    record { room = omega (arith, exact.room, new.size); right = λ j h. go j (omega (arith, new.size)) (ℕ_discrete j i) }
  where
    zero-too : (b : ℕ) → b < n → b / 128 ≢ i → (v b ≡ 0 → w b ≡ 0) × (w b ≡ 0 → v b ≡ 0)
    zero-too b h ne =
        let e = same b h ne in
        (λ z. eqb-true (w b) 0 (e ∙ eq-eqb (v b) 0 z), λ z. eqb-true (v b) 0 (sym e ∙ eq-eqb (w b) 0 z))

    go : (j : ℕ) → j < length notes → Dec (j ≡ i) → Noted w n j (get_or notes' j 0)
    go j h (yes e) = subst (λ (x : ℕ). Noted w n x (get_or notes' x 0)) (sym e) new.here
    go j h (no d) =
        let was = exact.right j h in
        subst (λ (x : ℕ). Noted w n j x) (sym (new.others j d))
        (record {
          full = λ z b q k e. was.full z b q k ((zero-too b k (λ x. d (sym q ∙ x))).1 e);
          some = λ z. let m = was.some z in (m.0, m.1, m.2, (zero-too m.0 m.2 (λ x. d (sym m.1 ∙ x))).0 m.3);
        })

-- a block is taken
pub notes-kept : (s : List ℕ) (n last b : ℕ) (notes notes' : List ℕ) → Takeable s n last b → Exact (next s) n notes → Renoted (next (taken s n last b)) n (b / 128) notes notes'
    → Exact (next (taken s n last b)) n notes'
notes-kept s n last b notes notes' t exact new =
    noted-anew (next s) (next (taken s n last b)) n (b / 128) notes notes' exact
    (λ x h ne.
    taken-zeros n t.low s last b t.whole t.inside t.below t.above t.free t.used t.high x h (λ e. ne (ap (λ (y : ℕ). y / 128) e)))
    new
