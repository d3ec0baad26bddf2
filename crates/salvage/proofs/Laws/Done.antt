-- THE INVARIANT: what holds of the image t and the claimed blocks cs when the slots 1 to m are done.
use Prim.Native.Nat.{ℕ, zero, suc, ◌+◌, ◌*◌, ◌≤◌, ◌<◌}
use mathlib.Core.Bool.{Bool, true, false, cond}
use mathlib.Core.List.{List, [], ◌∷◌, ◌++◌, append-nil, append_assoc}
use mathlib.Core.Logic.{◌⊎◌, inl, inr, ⊎_elim}
use mathlib.Core.Path.{◌≡◌, refl, sym, ap, ◌∙◌, subst}
use native.Mathlib.Nat.{eq-or-lt_of_le}
use native.Mathlib.Omega.{arith}
use lib.Dec.{eqb}
use lib.ListN.{length}
use borrow.Author.Tests.{eqb-true}
use Rattle.layout.specs.Lists.{interval, every, distinct, select, keep, joined}
use Rattle.layout.specs.Geometry.{in_volume}
use Rattle.layout.specs.Table.{next, chain, chain_ok}
use Rattle.layout.specs.Directory.{slot_at, type_of, first_block, blocks_of, attribute_block_of, attribute_size_of, is_file, is_directory, name_of, file_blocks, attribute_blocks}
use Rattle.layout.specs.Check.{slot_ok, new_name, file_chains, owned}
use Rattle.layout.proofs.Laws.Tests.{eqb-self}
use Rattle.layout.proofs.Laws.Lists.{In, in_left, in_right, joined_same, distinct_apart, every_append}
use Rattle.layout.proofs.Laws.Joins.{in-interval, interval-in, in-select, select_has, select-agree, join-append, to-join}
use Rattle.layout.proofs.Laws.Frames.{Same}
use Rattle.layout.proofs.Laws.Entries.{same-type, same-field, same_name, same-slot}
use Rattle.layout.proofs.Laws.Slots.{new_name-split, new_name-join}
use Rattle.salvage.proofs.Laws.Walked.{owned-stays, oks-stay}
use Rattle.salvage.proofs.Laws.Places.{Place, slot-high}

-- the chains of slot k, and those of the slots 1 to m
unfoldable pub chains_at : List ℕ → List ℕ → ℕ → List (ℕ × ℕ)
chains_at t ds k = cond (is_file (type_of t (slot_at ds k))) (file_chains t (slot_at ds k)) []

unfoldable pub files_to : List ℕ → List ℕ → ℕ → List (ℕ × ℕ)
files_to t ds m = joined (λ k. file_chains t (slot_at ds k)) (select (λ k. is_file (type_of t (slot_at ds k))) (interval 1 m))

abbrev pub right : List ℕ → ℕ → List (ℕ × ℕ) → Bool
right t n cs = every (λ c. chain_ok (next t) n c.0 c.1) cs

pub record Done (n : ℕ) (ds t cs : List ℕ) (m : ℕ) : Type 0 where
  pub whole : length t ≡ 512 * n
  pub claims : cs ≡ ds ++ owned (next t) (files_to t ds m)
  pub apart : distinct eqb cs ≡ true
  pub inside : every (in_volume n) cs ≡ true
  pub chained : right t n (files_to t ds m) ≡ true
  pub slot : (k : ℕ) → 1 ≤ k → k ≤ m → slot_ok t (slot_at ds k) ≡ true
  pub plain : (k : ℕ) → 1 ≤ k → k ≤ m → is_directory (type_of t (slot_at ds k)) ≡ false
  pub name : (k : ℕ) → 1 ≤ k → k ≤ m → new_name t ds k ≡ true

-- lists at their ends
interval-snoc : (k a : ℕ) → interval a (suc k) ≡ interval a k ++ ((a + k) ∷ [])
interval-snoc zero a = let e : a + 0 ≡ a = omega arith in rw e
interval-snoc (suc k) a = let e : a + suc k ≡ suc a + k = omega arith in rw e (ap (λ (r : List ℕ). a ∷ r) (interval-snoc k (suc a)))

select-append : (p : ℕ → Bool) (xs ys : List ℕ) → select p (xs ++ ys) ≡ select p xs ++ select p ys
select-append p [] ys = refl
select-append p (x ∷ xs) ys = go (p x) (select-append p xs ys)
  where
    go : (t : Bool) → select p (xs ++ ys) ≡ select p xs ++ select p ys → keep t x (select p (xs ++ ys)) ≡ keep t x (select p xs) ++ select p ys
    go true e = ap (λ (r : List ℕ). x ∷ r) e
    go false e = e

pub files-next : (t ds : List ℕ) (m : ℕ) → files_to t ds (suc m) ≡ files_to t ds m ++ chains_at t ds (suc m)
unfolding files_to chains_at
files-next t ds m =
    let p : ℕ → Bool = λ k. is_file (type_of t (slot_at ds k)) in
    let g : ℕ → List (ℕ × ℕ) = λ k. file_chains t (slot_at ds k) in
    ap (λ (r : List ℕ). joined g (select p r)) (interval-snoc m 1)
    ∙ ap (joined g) (select-append p (interval 1 m) ((1 + m) ∷ []))
    ∙ join-append g (select p (interval 1 m)) (select p ((1 + m) ∷ []))
    ∙ ap (λ (r : List (ℕ × ℕ)). joined g (select p (interval 1 m)) ++ r) (one (1 + m) (suc m) (omega arith))
  where
    one : (a b : ℕ) → a ≡ b → joined (λ k. file_chains t (slot_at ds k)) (select (λ k. is_file (type_of t (slot_at ds k))) (a ∷ []))
        ≡ cond (is_file (type_of t (slot_at ds b))) (file_chains t (slot_at ds b)) []
    one a b e = rw e (go (is_file (type_of t (slot_at ds b))))
      where
        go : (x : Bool) → joined (λ k. file_chains t (slot_at ds k)) (keep x b []) ≡ cond x (file_chains t (slot_at ds b)) []
        go true = append-nil (file_chains t (slot_at ds b))
        go false = refl

pub owned-append : (v : ℕ → ℕ) (xs ys : List (ℕ × ℕ)) → owned v (xs ++ ys) ≡ owned v xs ++ owned v ys
unfolding owned
owned-append v xs ys = join-append (λ c. chain v c.0 c.1) xs ys

module _ (n : ℕ) (ds : List ℕ) (G : Place n ds) (t cs : List ℕ) (m : ℕ) (D : Done n ds t cs m) (hm : m < 4 * length ds) where
  pub claimed-root : (x : ℕ) → In x ds → In x cs
  claimed-root x i = subst (In x) (sym D.claims) (in_left x ds (owned (next t) (files_to t ds m)) i)

  claimed-file : (x : ℕ) → In x (owned (next t) (files_to t ds m)) → In x cs
  claimed-file x i = subst (In x) (sym D.claims) (in_right x ds (owned (next t) (files_to t ds m)) i)

  -- the blocks of a kept file are claimed
  file-owned : (k : ℕ) → 1 ≤ k → k ≤ m → is_file (type_of t (slot_at ds k)) ≡ true → (x : ℕ)
      → In x (file_blocks t (slot_at ds k)) ⊎ In x (attribute_blocks t (slot_at ds k)) → In x (owned (next t) (files_to t ds m))
  unfolding files_to owned file_chains file_blocks attribute_blocks
  file-owned k h g f x i = ⊎_elim
      (λ b. to-join (λ c. chain (next t) c.0 c.1) (files_to t ds m) (first_block t (slot_at ds k), blocks_of t (slot_at ds k)) x (listed _ (inl refl)) b)
      (λ b. to-join (λ c. chain (next t) c.0 c.1) (files_to t ds m) (attribute_block_of t (slot_at ds k), attribute_size_of t (slot_at ds k)) x (listed _ (inr (inl refl))) b) i
    where
      listed : (c : ℕ × ℕ) → In c (file_chains t (slot_at ds k)) → In c (files_to t ds m)
      listed c j = to-join (λ k. file_chains t (slot_at ds k)) (select (λ k. is_file (type_of t (slot_at ds k))) (interval 1 m)) k c
          (select_has (λ k. is_file (type_of t (slot_at ds k))) (interval 1 m) k (interval-in m 1 k h (omega arith)) f) j

  pub file-claimed : (k : ℕ) → 1 ≤ k → k ≤ m → is_file (type_of t (slot_at ds k)) ≡ true → (x : ℕ)
      → In x (file_blocks t (slot_at ds k)) ⊎ In x (attribute_blocks t (slot_at ds k)) → In x cs
  file-claimed k h g f x i = claimed-file x (file-owned k h g f x i)

  -- and are not the root's
  pub file-not-root : (k : ℕ) → 1 ≤ k → k ≤ m → is_file (type_of t (slot_at ds k)) ≡ true → (x : ℕ)
      → In x (file_blocks t (slot_at ds k)) ⊎ In x (attribute_blocks t (slot_at ds k)) → In x ds → ⊥
  file-not-root k h g f x i j =
      distinct_apart eqb eqb-true eqb-self ds (owned (next t) (files_to t ds m)) (subst (λ (l : List ℕ). distinct eqb l ≡ true) D.claims D.apart) x j (file-owned k h g f x i)

  -- another image with the same entries in those slots, and the same values of the claimed blocks
  module _ (t' : List ℕ) (len : length t' ≡ length t) (kept : (j : ℕ) → 1 ≤ j → j ≤ m → Same t t' (slot_at ds j) 128) (values : (x : ℕ) → In x cs → next t' x ≡ next t x) where
    fits : (j : ℕ) → j ≤ m → slot_at ds j + 128 ≤ length t
    fits j h = omega (arith, slot-high n ds G j (omega arith), D.whole)

    module _ (j : ℕ) (h₁ : 1 ≤ j) (h : j ≤ m) where
      type-is : type_of t' (slot_at ds j) ≡ type_of t (slot_at ds j)
      type-is = same-type t t' (slot_at ds j) len (fits j h) (kept j h₁ h)

      name-is : name_of t' (slot_at ds j) ≡ name_of t (slot_at ds j)
      name-is = same_name t t' (slot_at ds j) len (fits j h) (kept j h₁ h)

      chains-is : file_chains t' (slot_at ds j) ≡ file_chains t (slot_at ds j)
      unfolding file_chains
      chains-is =
          let f = same-field t t' (slot_at ds j) len (fits j h) (kept j h₁ h) in
          rw (f 4 (omega arith), f 12 (omega arith), f 32 (omega arith), f 36 (omega arith))

    files-stay : files_to t' ds m ≡ files_to t ds m
    unfolding files_to
    files-stay =
        let p : ℕ → Bool = λ k. is_file (type_of t (slot_at ds k)) in
        ap (joined (λ k. file_chains t' (slot_at ds k))) (select-agree p (λ k. is_file (type_of t' (slot_at ds k))) (interval 1 m)
        (λ k i. let r = in-interval 1 m k i in ap is_file (type-is k r.0 (omega arith))))
        ∙ joined_same (λ k. file_chains t (slot_at ds k)) (λ k. file_chains t' (slot_at ds k)) (select p (interval 1 m))
        (λ k i. let w = in-select p (interval 1 m) k i in let r = in-interval 1 m k w.0 in chains-is k r.0 (omega arith))

    pub stays : Done n ds t' cs m
    stays =
        let v : (x : ℕ) → In x (owned (next t) (files_to t ds m)) → next t' x ≡ next t x = λ x i. values x (claimed-file x i) in
        record {
          whole = len ∙ D.whole;
          claims = D.claims ∙ ap (λ (r : List ℕ). ds ++ r) (sym (ap (owned (next t')) files-stay ∙ owned-stays (next t) (next t') (files_to t ds m) v));
          apart = D.apart;
          inside = D.inside;
          chained = ap (right t' n) files-stay ∙ oks-stay (next t) (next t') n (files_to t ds m) v ∙ D.chained;
          slot = λ k h g. same-slot t t' (slot_at ds k) len (fits k g) (kept k h g) ∙ D.slot k h g;
          plain = λ k h g. ap is_directory (type-is k h g) ∙ D.plain k h g;
          name = λ k h g. new_name-join t' ds k (λ u j j₁ l uj q.
              new_name-split t ds k (D.name k h g) (λ z. u (type-is k h g ∙ z)) j j₁ l (λ z. uj (type-is j j₁ (omega arith) ∙ z))
              (sym (name-is j j₁ (omega arith)) ∙ q ∙ name-is k h g));
        }

-- one slot more
module _ (n : ℕ) (ds t cs : List ℕ) (m : ℕ) (D : Done n ds t cs m) (new : List ℕ) where
  pub one_more : new ≡ owned (next t) (chains_at t ds (suc m)) → right t n (chains_at t ds (suc m)) ≡ true → distinct eqb (cs ++ new) ≡ true → every (in_volume n) new ≡ true
      → slot_ok t (slot_at ds (suc m)) ≡ true → is_directory (type_of t (slot_at ds (suc m))) ≡ false → new_name t ds (suc m) ≡ true → Done n ds t (cs ++ new) (suc m)
  one_more is ok d i s p w =
      let e = files-next t ds m in
      record {
        whole = D.whole;
        claims = ap (λ (r : List ℕ). r ++ new) D.claims ∙ append_assoc ds (owned (next t) (files_to t ds m)) new
            ∙ ap (λ (r : List ℕ). ds ++ r) (ap (λ (r : List ℕ). owned (next t) (files_to t ds m) ++ r) is ∙ sym (owned-append (next t) (files_to t ds m) (chains_at t ds (suc m))) ∙ ap (owned (next t)) (sym e));
        apart = d;
        inside = every_append (in_volume n) cs new D.inside i;
        chained = ap (right t n) e ∙ every_append (λ c. chain_ok (next t) n c.0 c.1) (files_to t ds m) (chains_at t ds (suc m)) D.chained ok;
        slot = λ k h g. up_to (λ k. slot_ok t (slot_at ds k) ≡ true) D.slot s k h g;
        plain = λ k h g. up_to (λ k. is_directory (type_of t (slot_at ds k)) ≡ false) D.plain p k h g;
        name = λ k h g. up_to (λ k. new_name t ds k ≡ true) D.name w k h g;
      }
    where
      up_to : (P : ℕ → Type 0) → ((k : ℕ) → 1 ≤ k → k ≤ m → P k) → P (suc m) → (k : ℕ) → 1 ≤ k → k ≤ suc m → P k
      up_to P f q k h g = ⊎_elim (λ e. subst P (sym e) q) (λ l. f k h (omega arith)) (eq-or-lt_of_le g)
