-- The blocks claimed, by their marks: a walk that marks, and takes its marks back where it fails, is the rule's test of the chain.
use Prim.Native.Nat.{ℕ, suc, ◌+◌, ◌-◌, ◌≤◌, ◌<◌}
use mathlib.Core.Bool.{Bool, true, false, not, cond, false≢true}
use mathlib.Core.List.{List, [], ◌∷◌, ◌++◌, append-nil, append_assoc}
use mathlib.Core.Logic.{◌⊎◌, inl, inr, ⊎_elim, ◌≢◌}
use mathlib.Core.Path.{◌≡◌, refl, sym, ap, ◌∙◌, subst}
use native.Mathlib.Decide.{ℕ_discrete}
use native.Mathlib.Omega.{arith}
use lib.Dec.{eqb}
use lib.ListN.{length, get_or, set, length-set}
use lib.Seq.{get_or-set_same, get_or-set_other}
use borrow.Author.Tests.{eq-eqb, ne_eqb, eqb-true, lt-ltb, not-true, not-false}
use Rattle.layout.specs.Lists.{has, last_or}
use Rattle.layout.specs.Geometry.{table_blocks, in_volume}
use Rattle.layout.specs.Table.{next, chain}
use Rattle.layout.specs.Walks.Shapes.{ChainBelow}
use Rattle.layout.proofs.Laws.Tests.{and_split, and-join, eqb-self, is_false, true-not-false}
use Rattle.layout.proofs.Laws.Lists.{In, in-elim, in-append, in_left, in_right, every_in, has-eqb-in, in-has-eqb, false-has, distinct_append, every_append}
use Rattle.layout.proofs.Laws.Chains.{nth, nth-suc, chain-none, chain-suc, chain_snoc, length-chain, get_d-chain, in-chain, chain-in, last_some, in_volume-split}
use Rattle.layout.proofs.Walks.Marks.{marked_more}
use Rattle.layout.proofs.Walks.Shapes.{run-rest}
use Rattle.salvage.specs.Salvage.{claimable, ends}
use Rattle.salvage.specs.Walks.{MarksOf, IsGood, Walked, Claimed, unmarked}
use Rattle.salvage.proofs.Laws.Walked.{Claimable, claimable-split, claimable-join}
use Rattle.salvage.proofs.Laws.Places.{index-apart}

marks-more : (m cs : List ℕ) (b : ℕ) → b < length m → MarksOf m cs → MarksOf (set m b 1) (cs ++ (b ∷ []))
marks-more m cs b h M = record { at = (marked_more m cs b h (record { at = M.at })).at }

-- a block that is not marked is not one of them, and one that is marked is
pub unmarked-out : (m cs : List ℕ) (b : ℕ) → MarksOf m cs → get_or m b 0 ≡ 0 → In b cs → ⊥
unmarked-out m cs b M z i =
    let e : not (has eqb b cs) ≡ true = sym (M.at b) ∙ eq-eqb (get_or m b 0) 0 z in
    true-not-false (in-has-eqb b cs i) (not-true _ e)

pub marked-in : (m cs : List ℕ) (b : ℕ) → MarksOf m cs → get_or m b 0 ≢ 0 → In b cs
marked-in m cs b M z =
    let e : not (has eqb b cs) ≡ false = sym (M.at b) ∙ ne_eqb (get_or m b 0) 0 z in
    has-eqb-in b cs (not-false _ e)

-- A GOOD BLOCK, by its tests
not-inside : (n b : ℕ) → (b ≤ table_blocks n) ⊎ (n ≤ b) → in_volume n b ≡ false
not-inside n b o = is_false (in_volume n b) (λ e. let i = in_volume-split n b e in ⊎_elim (λ p. omega arith) (λ p. omega arith) o)

inside : (n b : ℕ) → table_blocks n < b → b < n → in_volume n b ≡ true
unfolding in_volume
inside n b l h = and-join (lt-ltb _ _ l) (lt-ltb _ _ h)

pub good-outside : (n : ℕ) (m : List ℕ) (b : ℕ) → (b ≤ table_blocks n) ⊎ (n ≤ b) → IsGood n m b false
good-outside n m b o = record { told = λ cs M. rw (not-inside n b o); below = λ e. absurd (true-not-false e refl) }

pub good-marked : (n : ℕ) (m : List ℕ) (b : ℕ) → table_blocks n < b → b < n → IsGood n m b (eqb (get_or m b 0) 0)
good-marked n m b l h = record { told = λ cs M. rw (inside n b l h) (M.at b); below = λ e. h }

-- THE WALK, when `met` blocks are marked and b is the next
pub record Walking (v : ℕ → ℕ) (n first : ℕ) (m₀ m : List ℕ) (met b : ℕ) : Type 0 where
  pub here : b ≡ nth v met first
  pub sized : length m ≡ length m₀
  pub below : (i : ℕ) → i < met → nth v i first < n
  pub marks : (cs : List ℕ) → MarksOf m₀ cs → MarksOf m (cs ++ chain v first met)
  pub good : (cs : List ℕ) → MarksOf m₀ cs → Claimable n cs (chain v first met)

pub walking_start : (v : ℕ → ℕ) (n first : ℕ) (m : List ℕ) → Walking v n first m m 0 first
unfolding chain
walking_start v n first m =
    record {
      here = refl;
      sized = refl;
      below = λ i h. absurd (omega arith);
      marks = λ cs M. rw (append-nil cs) M;
      good = λ cs M. record { inside = refl; once = refl; fresh = λ x i j. j };
    }

module _ (v : ℕ → ℕ) (n first : ℕ) (m₀ m : List ℕ) (met b : ℕ) (w : Walking v n first m₀ m met b) where
  one_more : chain v first (suc met) ≡ chain v first met ++ (b ∷ [])
  one_more = chain_snoc v v first first met b (λ y h. refl) (sym w.here)

  pub walking-more : (c : ℕ) → IsGood n m b true → n ≤ length m → c ≡ v b → Walking v n first m₀ (set m b 1) (met + 1) c
  walking-more c G room e =
      let q : met + 1 ≡ suc met = omega arith in
      let high : b < n = G.below refl in
      rw (q, e)
      (record {
        here = ap v w.here ∙ sym (nth-suc v met first);
        sized = length-set m b 1 ∙ w.sized;
        below = λ i h. ⊎_elim (λ p. rw p (subst (λ (x : ℕ). x < n) w.here high)) (λ p. w.below i p) (last-or i h);
        marks = λ cs M. rw (one_more, ← append_assoc cs (chain v first met) (b ∷ [])) (marks-more m (cs ++ chain v first met) b (omega arith) (w.marks cs M));
        good = λ cs M. rw one_more (more cs M);
      })
    where
      last-or : (i : ℕ) → i < suc met → (i ≡ met) ⊎ (i < met)
      last-or i h = elim (ℕ_discrete i met) [ yes e ↦ inl e | no e ↦ inr (omega arith) ]

      more : (cs : List ℕ) → MarksOf m₀ cs → Claimable n cs (chain v first met ++ (b ∷ []))
      more cs M =
          let xs = chain v first met in
          let C = w.good cs M in
          let g = and_split (in_volume n b) _ (sym (G.told (cs ++ xs) (w.marks cs M))) in
          let out : In b (cs ++ xs) → ⊥ = λ i. true-not-false (in-has-eqb b (cs ++ xs) i) (not-true _ g.1) in
          record {
            inside = every_append (in_volume n) xs (b ∷ []) C.inside (and-join g.0 refl);
            once = distinct_append eqb eqb-true eqb-self xs (b ∷ []) C.once refl
                (λ x i j. in-elim x b [] j (λ p. out (in_right b cs xs (subst (λ (y : ℕ). In y xs) p i))) (λ o. o));
            fresh = λ x i j. ⊎_elim (λ o. C.fresh x i o) (λ o. in-elim x b [] o (λ p. out (in_left b cs xs (subst (λ (y : ℕ). In y cs) p i))) (λ o. o)) (in-append x xs (b ∷ []) j);
          }

  -- it stops at a block that cannot be claimed
  module _ (k : ℕ) (more : met < k) where
    stop : (cs : List ℕ) → (Claimable n cs (chain v first k) → ⊥) → claimable n cs (chain v first k) ≡ false
    stop cs f = is_false _ (λ e. f (claimable-split n cs (chain v first k) e))

    in_whole : In b (chain v first k)
    in_whole = chain-in v first k b met more w.here

    stuck-at : ((cs : List ℕ) → MarksOf m₀ cs → Claimable n cs (chain v first k) → ⊥) → Walked v n first k m₀ met m
    stuck-at f =
        record {
          most = omega arith;
          below = λ i h. rw (get_d-chain v first met i h) (w.below i h);
          marks = w.marks;
          good = λ cs M. claimable-join n cs (chain v first met) (w.good cs M);
          stuck = λ h cs M. stop cs (f cs M);
        }

    pub walked-outside : (b ≤ table_blocks n) ⊎ (n ≤ b) → Walked v n first k m₀ met m
    walked-outside o = stuck-at (λ cs M C.
        let i = in_volume-split n b (every_in (in_volume n) (chain v first k) b C.inside in_whole) in
        ⊎_elim (λ p. omega arith) (λ p. omega arith) o)

    pub walked-marked : get_or m b 0 ≢ 0 → Walked v n first k m₀ met m
    walked-marked ne = stuck-at (λ cs M C.
        ⊎_elim (λ i. C.fresh b i in_whole)
        (λ i. let x = in-chain v first met b i in
        index-apart (chain v first k) C.once x.0 met (rw (length-chain v first k) (omega (arith, x.1))) (rw (length-chain v first k) more) (λ p. omega (arith, x.1))
        (get_d-chain v first k x.0 (omega (arith, x.1)) ∙ sym x.2 ∙ w.here ∙ sym (get_d-chain v first k met more)))
        (in-append b cs (chain v first met) (marked-in m (cs ++ chain v first met) b (w.marks cs M) ne)))

    pub walked-stuck : IsGood n m b false → Walked v n first k m₀ met m
    walked-stuck G = stuck-at (λ cs M C.
        let i : in_volume n b ≡ true = every_in (in_volume n) (chain v first k) b C.inside in_whole in
        let met-before : not (has eqb b (cs ++ chain v first met)) ≡ false = rw i at (sym (G.told (cs ++ chain v first met) (w.marks cs M))) in
        ⊎_elim (λ i. C.fresh b i in_whole)
        (λ i. let x = in-chain v first met b i in
        index-apart (chain v first k) C.once x.0 met (rw (length-chain v first k) (omega (arith, x.1))) (rw (length-chain v first k) more) (λ p. omega (arith, x.1))
        (get_d-chain v first k x.0 (omega (arith, x.1)) ∙ sym x.2 ∙ w.here ∙ sym (get_d-chain v first k met more)))
        (in-append b cs (chain v first met) (has-eqb-in b (cs ++ chain v first met) (not-false _ met-before))))

  pub walked_all : (k : ℕ) → met ≡ k → Walked v n first k m₀ k m
  walked_all k e =
      rw (← e)
      (record {
        most = omega arith;
        below = λ i h. rw (get_d-chain v first met i h) (w.below i h);
        marks = w.marks;
        good = λ cs M. claimable-join n cs (chain v first met) (w.good cs M);
        stuck = λ h cs M. absurd (omega arith);
      })

-- THE MARKS TAKEN BACK
pub length-unmarked : (bs m : List ℕ) → length (unmarked m bs) ≡ length m
unfolding unmarked
length-unmarked [] m = refl
length-unmarked (b ∷ bs) m = length-unmarked bs (set m b 0) ∙ length-set m b 0

unmarked-at : (bs m : List ℕ) (x : ℕ) → ((y : ℕ) → In y bs → y < length m) → get_or (unmarked m bs) x 0 ≡ cond (has eqb x bs) 0 (get_or m x 0)
unfolding unmarked
unmarked-at [] m x h = refl
unmarked-at (b ∷ bs) m x h =
    unmarked-at bs (set m b 0) x (λ y i. rw length-set (h y (inr i)))
    ∙ elim (ℕ_discrete x b) [
      | yes e ↦ rw (eq-eqb x b e, e, get_or-set_same m b 0 0 (h b (inl refl))) (always (has eqb b bs))
      | no e ↦ rw (ne_eqb x b e, get_or-set_other m b x 0 0 e)
    ]
  where
    always : (t : Bool) → ◌≡◌ {A = ℕ} (cond t 0 0) 0
    always true = refl
    always false = refl

marks-back : (m cs bs : List ℕ) → ((y : ℕ) → In y bs → y < length m) → ((x : ℕ) → In x cs → In x bs → ⊥) → MarksOf m (cs ++ bs) → MarksOf (unmarked m bs) cs
marks-back m cs bs below fresh M = record { at = λ x. rw (unmarked-at bs m x below) (go x (has eqb x bs) refl) }
  where
    go : (x : ℕ) (t : Bool) → has eqb x bs ≡ t → eqb (cond t 0 (get_or m x 0)) 0 ≡ not (has eqb x cs)
    go x true e = sym (ap not (false-has x cs (λ i. fresh x i (has-eqb-in x bs e))))
    go x false e = M.at x ∙ ap not (both (has eqb x cs) refl)
      where
        out : In x bs → ⊥
        out i = true-not-false (in-has-eqb x bs i) e

        both : (u : Bool) → has eqb x cs ≡ u → has eqb x (cs ++ bs) ≡ u
        both true p = in-has-eqb x (cs ++ bs) (in_left x cs bs (has-eqb-in x cs p))
        both false p = false-has x (cs ++ bs) (λ i. ⊎_elim (λ j. true-not-false (in-has-eqb x cs j) p) out (in-append x cs bs i))

-- the loop that takes them back
pub record Unmarking (s : List ℕ) (n : ℕ) (goal m : List ℕ) (b left : ℕ) : Type 0 where
  pub run : ChainBelow s n b left
  pub size : n ≤ length m
  pub whole : goal ≡ unmarked m (chain (next s) b left)

module _ {s : List ℕ} {n : ℕ} {goal m : List ℕ} {b left : ℕ} (w : Unmarking s n goal m b left) where
  pub unmarking-end : left ≡ 0 → m ≡ goal
  unfolding unmarked
  unmarking-end e = sym (w.whole ∙ ap (unmarked m) (chain-none (next s) b left e))

  pub unmarking-size : length m ≡ length goal
  unmarking-size = sym (ap length w.whole ∙ length-unmarked (chain (next s) b left) m)

  pub unmarking-turn : (rest : ℕ) → rest + 1 ≡ left → (c : ℕ) → c ≡ next s b → Unmarking s n goal (set m b 0) c rest
  unfolding unmarked
  unmarking-turn rest r c e =
      let q : rest ≡ left - 1 = omega arith in
      let pos : 0 < left = omega arith in
      rw (q, e)
      (record {
        run = run-rest w.run pos;
        size = omega (arith, length-set m b 0, w.size);
        whole = w.whole ∙ ap (unmarked m) (chain-suc (next s) b left pos);
      })

-- A CHAIN CLAIMED, or left
module _ (v : ℕ → ℕ) (n first k : ℕ) (m : List ℕ) (r : ℕ) (m' : List ℕ) (w : Walked v n first k m r m') where
  pub claimed-all : r ≡ k → Claimed v n first k m true m'
  claimed-all e =
      record {
        told = λ cs M. sym (subst (λ (j : ℕ). claimable n cs (chain v first j) ≡ true) e (w.good cs M));
        marks = λ cs M. subst (λ (j : ℕ). MarksOf m' (cs ++ chain v first j)) e (w.marks cs M);
        below = λ t. subst (λ (j : ℕ). (i : ℕ) → i < j → get_or (chain v first j) i 0 < n) e w.below;
      }

  pub claimed-none : r ≢ k → n ≤ length m' → (m'' : List ℕ) → m'' ≡ unmarked m' (chain v first r) → Claimed v n first k m false m''
  claimed-none ne room m'' e =
      record {
        told = λ cs M. sym (w.stuck (omega (arith, w.most)) cs M);
        marks = λ cs M. rw e (marks-back m' cs (chain v first r)
            (λ y i. let x = in-chain v first r y i in let h = w.below x.0 x.1 in omega (arith, h, get_d-chain v first r x.0 x.1, x.2))
            (claimable-split n cs (chain v first r) (w.good cs M)).fresh (w.marks cs M));
        below = λ t. absurd (false≢true t);
      }

-- THE LAST VALUE of a chain of k blocks
module _ (s : List ℕ) (first k : ℕ) where
  pub ends-none : k ≡ 0 → true ≡ ends s (chain (next s) first k)
  unfolding ends
  ends-none e = rw (length-chain (next s) first k, e)

  module _ (ne : k ≡ 0 → ⊥) (last : ℕ) (el : last ≡ get_or (chain (next s) first k) (k - 1) 0) where
    pub last-is : last ≡ last_or 0 (chain (next s) first k)
    last-is = el ∙ sym (last_some (next s) first k (omega arith))

    ends_last : ends s (chain (next s) first k) ≡ eqb (next s last) 1
    unfolding ends
    ends_last = rw (length-chain (next s) first k, ne_eqb k 0 ne, ← last-is)

    module _ (v : ℕ) (ev : v ≡ next s last) where
      pub ends-right : v ≡ 1 → true ≡ ends s (chain (next s) first k)
      ends-right z = sym (ends_last ∙ eq-eqb _ 1 (sym ev ∙ z))

      pub ends-wrong : (v ≡ 1 → ⊥) → false ≡ ends s (chain (next s) first k)
      ends-wrong z = sym (ends_last ∙ ne_eqb _ 1 (λ e. z (ev ∙ e)))
