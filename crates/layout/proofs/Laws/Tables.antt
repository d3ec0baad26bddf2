-- A table of chains over the entries' values v, one for each number k that is P: from f k, of l k blocks. Stated by other functions; with one chain
-- changed, without its front block (delete), with a block at its end (write). In an image k is the offset of the entry that owns the chain.
use Prim.Native.Nat.{ℕ, zero, suc, ◌-◌, ◌*◌, ◌≤◌, ◌<◌}
use mathlib.Core.Logic.{◌⊎◌, inl, inr, ⊎_elim, ◌≢◌}
use mathlib.Core.Path.{◌≡◌, sym, ap, ◌∙◌, subst}
use native.Mathlib.Decide.{ℕ_discrete}
use native.Mathlib.Nat.{eq-or-lt_of_le}
use native.Mathlib.Omega.{arith}
use Rattle.layout.specs.Limits.{min_blocks}
use Rattle.layout.specs.Geometry.{table_blocks}
use Rattle.layout.proofs.Laws.Chains.{nth, nth-suc, nth-agree, Chain, chain-used, rest-nth, rest-chain}

-- THE TABLE: chains, each right, no block in two of them; entries 0 to t are 1; every other entry that is not 0 is of a chain.
pub record Table (n : ℕ) (P : ℕ → Type 0) (v f l : ℕ → ℕ) : Type 0 where
  pub right : (k : ℕ) → P k → Chain v n (f k) (l k)
  pub apart : (j k : ℕ) → P j → P k → j ≢ k → (x y : ℕ) → x < l j → y < l k → nth v x (f j) ≢ nth v y (f k)
  pub low : (b : ℕ) → b ≤ table_blocks n → v b ≡ 1
  pub high : (b : ℕ) → table_blocks n < b → b < 128 * table_blocks n → v b ≢ 0 → (k : ℕ) × (x : ℕ) × (P k) × (x < l k) × (b ≡ nth v x (f k))

-- the same chains, of equal numbers
pub table_of : (n : ℕ) (P Q : ℕ → Type 0) (v f l : ℕ → ℕ) → ((k : ℕ) → Q k → P k) → ((k : ℕ) → P k → Q k) → Table n P v f l → Table n Q v f l
table_of n P Q v f l to from T =
    record {
      right = λ k h. T.right k (to k h);
      apart = λ j k hj hk. T.apart j k (to j hj) (to k hk);
      low = T.low;
      high = λ b h a ne. let r = T.high b h a ne in (r.0, r.1, from r.0 r.2, r.3, r.4);
    }

-- with owners of no blocks more, and less
module _ (n : ℕ) (P Q : ℕ → Type 0) (v f l : ℕ → ℕ) (T : Table n P v f l) where
  pub table-wider : ((k : ℕ) → P k → Q k) → ((k : ℕ) → Q k → P k ⊎ (l k ≡ 0)) → Table n Q v f l
  table-wider sub more =
      record {
        right = λ k h. right_of k (more k h);
        apart = λ j k hj hk ne x y a b. apart_of j k ne x y a b (more j hj) (more k hk);
        low = T.low;
        high = λ b h a ne. let r = T.high b h a ne in (r.0, r.1, sub r.0 r.2, r.3, r.4);
      }
    where
      right_of : (k : ℕ) → P k ⊎ (l k ≡ 0) → Chain v n (f k) (l k)
      right_of k (inl h) = T.right k h
      right_of k (inr z) = record { above = λ x h. absurd (omega arith); below = λ x h. absurd (omega arith); last = λ h. absurd (omega arith) }

      apart_of : (j k : ℕ) → j ≢ k → (x y : ℕ) → x < l j → y < l k → P j ⊎ (l j ≡ 0) → P k ⊎ (l k ≡ 0) → nth v x (f j) ≢ nth v y (f k)
      apart_of j k ne x y a b (inl p) (inl q) = T.apart j k p q ne x y a b
      apart_of j k ne x y a b (inr z) q = absurd (omega arith)
      apart_of j k ne x y a b (inl p) (inr z) = absurd (omega arith)

  pub table-narrower : ((k : ℕ) → Q k → P k) → ((k : ℕ) → P k → Q k ⊎ (l k ≡ 0)) → Table n Q v f l
  table-narrower sub rest =
      record {
        right = λ k h. T.right k (sub k h);
        apart = λ j k hj hk. T.apart j k (sub j hj) (sub k hk);
        low = T.low;
        high = λ b h a ne. let r = T.high b h a ne in (r.0, r.1, ⊎_elim (λ q. q) (λ z. absurd (omega (arith, r.3))) (rest r.0 r.2), r.3, r.4);
      }

module _ (n : ℕ) (P : ℕ → Type 0) (v f l : ℕ → ℕ) (T : Table n P v f l) (h₃ : min_blocks ≤ n) where
  -- the same chains, by other functions
  module _ (w g q : ℕ → ℕ) (vs : (b : ℕ) → b < 128 * table_blocks n → w b ≡ v b) (ls : (k : ℕ) → P k → q k ≡ l k) (fs : (k : ℕ) → P k → 0 < l k → g k ≡ f k) where
    where-same : (k : ℕ) → P k → (x : ℕ) → x ≤ l k → 0 < l k → nth w x (g k) ≡ nth v x (f k)
    where-same k h x le pos =
        rw (fs k h pos) (nth-agree v w x (f k) (λ y b. vs (nth v y (f k)) (omega (arith, (T.right k h).below y (omega arith)))))

    pub table_same : Table n P w g q
    table_same =
        record {
          right = λ k h.
              let e = ls k h in
              record {
                above = λ x b. rw (where-same k h x (omega arith) (omega arith)) ((T.right k h).above x (omega arith));
                below = λ x b. rw (where-same k h x (omega arith) (omega arith)) ((T.right k h).below x (omega arith));
                last = λ b. rw (e, where-same k h (l k) (omega arith) (omega arith)) ((T.right k h).last (omega arith));
              };
          apart = λ j k hj hk ne x y a b.
              let e = ls j hj in
              let d = ls k hk in
              rw (where-same j hj x (omega arith) (omega arith), where-same k hk y (omega arith) (omega arith))
              (T.apart j k hj hk ne x y (omega arith) (omega arith));
          low = λ b h. vs b (omega arith) ∙ T.low b h;
          high = λ b h a ne.
              let r = T.high b h a (λ z. ne (vs b a ∙ z)) in
              let e = ls r.0 r.2 in
              (r.0, r.1, r.2, omega arith, r.4 ∙ sym (where-same r.0 r.2 r.1 (omega arith) (omega arith)));
        }

  -- where an old block of the table is: in the changed chain or in another
  pub table-owner : (k b : ℕ) → table_blocks n < b → b < 128 * table_blocks n → v b ≢ 0
      → ((y : ℕ) × (y < l k) × (b ≡ nth v y (f k))) ⊎ ((j : ℕ) × (x : ℕ) × (P j) × (j ≢ k) × (x < l j) × (b ≡ nth v x (f j)))
  table-owner k b h a ne = let r = T.high b h a ne in go r.0 r.1 r.2 r.3 r.4 (ℕ_discrete r.0 k)
    where
      go : (j x : ℕ) → P j → x < l j → b ≡ nth v x (f j) → Dec (j ≡ k)
          → ((y : ℕ) × (y < l k) × (b ≡ nth v y (f k))) ⊎ ((i : ℕ) × (z : ℕ) × (P i) × (i ≢ k) × (z < l i) × (b ≡ nth v z (f i)))
      go j x h₁ h₂ e (yes p) = inl (x, subst (λ (z : ℕ). x < l z) p h₂, e ∙ ap (λ (z : ℕ). nth v x (f z)) p)
      go j x h₁ h₂ e (no p) = inr (j, x, h₁, p, h₂, e)

  -- one chain changes, the others stay
  module _ (k : ℕ) (hk : P k) (w g q : ℕ → ℕ)
      (fs : (j : ℕ) → P j → j ≢ k → g j ≡ f j)
      (ls : (j : ℕ) → P j → j ≢ k → q j ≡ l j)
      (kept : (j : ℕ) → P j → j ≢ k → (x : ℕ) → x < l j → w (nth v x (f j)) ≡ v (nth v x (f j)))
      (mine : Chain w n (g k) (q k))
      (new : (j : ℕ) → P j → j ≢ k → (x y : ℕ) → x < l j → y < q k → nth v x (f j) ≢ nth w y (g k))
      (low : (b : ℕ) → b ≤ table_blocks n → w b ≡ 1)
      (rest : (b : ℕ) → table_blocks n < b → b < 128 * table_blocks n → w b ≢ 0
      → ((y : ℕ) × (y < q k) × (b ≡ nth w y (g k))) ⊎ ((j : ℕ) × (x : ℕ) × (P j) × (j ≢ k) × (x < l j) × (b ≡ nth v x (f j))))
    where
      there : (j : ℕ) → P j → j ≢ k → (x : ℕ) → x ≤ l j → nth w x (g j) ≡ nth v x (f j)
      there j h ne x le = rw (fs j h ne) (nth-agree v w x (f j) (λ y b. kept j h ne y (omega arith)))

      right-but : (j : ℕ) → P j → j ≢ k → Chain w n (g j) (q j)
      right-but j h ne =
          let e = ls j h ne in
          record {
            above = λ x b. rw (there j h ne x (omega arith)) ((T.right j h).above x (omega arith));
            below = λ x b. rw (there j h ne x (omega arith)) ((T.right j h).below x (omega arith));
            last = λ b. rw (e, there j h ne (l j) (omega arith)) ((T.right j h).last (omega arith));
          }

      mine-new : (j : ℕ) → P j → j ≢ k → (x y : ℕ) → x < q j → y < q k → nth w x (g j) ≢ nth w y (g k)
      mine-new j h ne x y a b = let e = ls j h ne in rw (there j h ne x (omega arith)) (new j h ne x y (omega arith) b)

      apart_but : (i j : ℕ) → P i → P j → i ≢ j → (x y : ℕ) → x < q i → y < q j → nth w x (g i) ≢ nth w y (g j)
      apart_but i j hi hj ne x y a b = go (ℕ_discrete i k) (ℕ_discrete j k)
        where
          go : Dec (i ≡ k) → Dec (j ≡ k) → nth w x (g i) ≢ nth w y (g j)
          go (yes p) (yes r) = absurd (ne (p ∙ sym r))
          go (yes p) (no r) = λ e. mine-new j hj r y x b (subst (λ (z : ℕ). x < q z) p a) (sym e ∙ ap (λ (z : ℕ). nth w x (g z)) p)
          go (no p) (yes r) = λ e. mine-new i hi p x y a (subst (λ (z : ℕ). y < q z) r b) (e ∙ ap (λ (z : ℕ). nth w y (g z)) r)
          go (no p) (no r) =
              let e = ls i hi p in
              let d = ls j hj r in
              rw (there i hi p x (omega arith), there j hj r y (omega arith)) (T.apart i j hi hj ne x y (omega arith) (omega arith))

      pub table-changed : Table n P w g q
      table-changed =
          record {
            right = λ j h. right-at j h (ℕ_discrete j k);
            apart = apart_but;
            low = low;
            high = λ b h a ne. ⊎_elim
                (λ r. (k, r.0, hk, r.1, r.2))
                (λ r. let e = ls r.0 r.2 r.3 in (r.0, r.1, r.2, omega arith, r.5 ∙ sym (there r.0 r.2 r.3 r.1 (omega arith))))
                (rest b h a ne);
          }
        where
          right-at : (j : ℕ) → P j → Dec (j ≡ k) → Chain w n (g j) (q j)
          right-at j h (yes p) = subst (λ (z : ℕ). Chain w n (g z) (q z)) (sym p) mine
          right-at j h (no p) = right-but j h p

module _ (n : ℕ) (P : ℕ → Type 0) (v f l : ℕ → ℕ) (T : Table n P v f l) (h₃ : min_blocks ≤ n) (k : ℕ) (hk : P k) (w g q : ℕ → ℕ)
    (fs : (j : ℕ) → P j → j ≢ k → g j ≡ f j) (ls : (j : ℕ) → P j → j ≢ k → q j ≡ l j)
  where
    pos-small : (j : ℕ) → P j → (x : ℕ) → x < l j → nth v x (f j) < 128 * table_blocks n
    pos-small j h x b = omega (arith, (T.right j h).below x b)

    -- the front block leaves
    module _ (pos : 0 < l k) (gone : w (f k) ≡ 0) (same : (b : ℕ) → b < 128 * table_blocks n → b ≢ f k → w b ≡ v b) (gk : g k ≡ v (f k)) (qk : q k ≡ l k - 1) where
      rest : (x : ℕ) → x < n → x ≢ f k → w x ≡ v x
      rest x h ne = same x (omega arith) ne

      shifted : (x : ℕ) → x ≤ q k → nth w x (g k) ≡ nth v (suc x) (f k)
      shifted x h = rw gk (rest-nth v w n (f k) (l k) (T.right k hk) h₃ pos rest x (omega arith))

      pub table-popped : Table n P w g q
      table-popped =
          table-changed n P v f l T h₃ k hk w g q fs ls
          (λ j h ne x b. same (nth v x (f j)) (pos-small j h x b) (T.apart j k h hk ne x 0 b pos))
          (rw (gk, qk) (rest-chain v w n (f k) (l k) (T.right k hk) h₃ pos rest))
          (λ j h ne x y a b. rw (shifted y (omega arith)) (T.apart j k h hk ne x (suc y) a (omega arith)))
          (λ b h. same b (omega arith) (λ e. omega (arith, (T.right k hk).above 0 pos)) ∙ T.low b h)
          (λ b h a ne.
          let other : b ≢ f k = λ e. ne (ap w e ∙ gone) in
          ⊎_elim (λ r. inl (front b other r.0 r.1 r.2)) (λ r. inr r) (table-owner n P v f l T h₃ k b h a (λ z. ne (same b a other ∙ z))))
        where
          front : (b : ℕ) → b ≢ f k → (y : ℕ) → y < l k → b ≡ nth v y (f k) → (x : ℕ) × (x < q k) × (b ≡ nth w x (g k))
          front b other zero h e = absurd (other e)
          front b other (suc y) h e = (y, omega arith, e ∙ sym (shifted y (omega arith)))

    -- a block b comes to the end
    module _ (b : ℕ) (hb : table_blocks n < b) (bn : b < n) (free : v b ≡ 0) (one : w b ≡ 1) (qk : q k ≡ suc (l k))
        (front : (x : ℕ) → x < l k → nth w x (g k) ≡ nth v x (f k)) (end : nth w (l k) (g k) ≡ b)
        (same : (c : ℕ) → c < 128 * table_blocks n → c ≢ b → ((x : ℕ) → x < l k → c ≢ nth v x (f k)) → w c ≡ v c)
      where
        new-not : (j : ℕ) → P j → (x : ℕ) → x < l j → nth v x (f j) ≢ b
        new-not j h x a e = chain-used v n (f j) (l j) (T.right j h) h₃ x a (ap v e ∙ free)

        at-end : (x : ℕ) → x < q k → (x < l k) ⊎ (x ≡ l k)
        at-end x a = ⊎_elim (λ e. inr (omega arith)) (λ p. inl (omega arith)) (eq-or-lt_of_le a)

        end-at : (x : ℕ) → x ≡ l k → nth w x (g k) ≡ b
        end-at x e = ap (λ (z : ℕ). nth w z (g k)) e ∙ end

        longer : Chain w n (g k) (q k)
        longer =
            record {
              above = λ x a. ⊎_elim (λ p. rw (front x p) ((T.right k hk).above x p)) (λ e. rw (end-at x e) hb) (at-end x a);
              below = λ x a. ⊎_elim (λ p. rw (front x p) ((T.right k hk).below x p)) (λ e. rw (end-at x e) bn) (at-end x a);
              last = λ a. rw qk (nth-suc w (l k) (g k) ∙ ap w end ∙ one);
            }

        pub table-pushed : Table n P w g q
        table-pushed =
            table-changed n P v f l T h₃ k hk w g q fs ls
            (λ j h ne x a. same (nth v x (f j)) (pos-small j h x a) (new-not j h x a) (λ y d. T.apart j k h hk ne x y a d))
            longer
            (λ j h ne x y a d. ⊎_elim (λ p. rw (front y p) (T.apart j k h hk ne x y a p)) (λ e. rw (end-at y e) (new-not j h x a)) (at-end y d))
            (λ c h. same c (omega arith) (λ e. omega arith) (λ x a e. omega (arith, (T.right k hk).above x a)) ∙ T.low c h)
            (λ c h a ne. rest c h a ne (ℕ_discrete c b) (ℕ_discrete (v c) 0))
          where
            Where : ℕ → Type 0
            Where c = ((y : ℕ) × (y < q k) × (c ≡ nth w y (g k))) ⊎ ((j : ℕ) × (x : ℕ) × (P j) × (j ≢ k) × (x < l j) × (c ≡ nth v x (f j)))

            rest : (c : ℕ) → table_blocks n < c → c < 128 * table_blocks n → w c ≢ 0 → Dec (c ≡ b) → Dec (v c ≡ 0) → Where c
            rest c h a ne (yes p) d = inl (l k, omega arith, p ∙ sym end)
            rest c h a ne (no p) (yes z) =
                absurd (ne (same c a p (λ x g e. chain-used v n (f k) (l k) (T.right k hk) h₃ x g (ap v (sym e) ∙ z)) ∙ z))
            rest c h a ne (no p) (no z) =
                ⊎_elim (λ r. inl (r.0, omega arith, r.2 ∙ sym (front r.0 r.1))) (λ r. inr r) (table-owner n P v f l T h₃ k c h a z)
