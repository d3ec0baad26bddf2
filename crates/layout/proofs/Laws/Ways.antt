-- One way to each directory: two lists of parts that lead to the same directory are the same.
use Prim.Native.Nat.{ℕ, zero, suc, ◌-◌, ◌≤◌}
use mathlib.Core.Bool.{Bool, true, false, cond}
use mathlib.Core.List.{List, [], ◌∷◌, ◌++◌}
use mathlib.Core.Logic.{◌⊎◌, inl, inr, ◌≢◌}
use mathlib.Core.Path.{◌≡◌, refl, sym, ap, ◌∙◌, subst}
use native.Mathlib.Decide.{ℕ_discrete}
use native.Mathlib.Omega.{arith}
use lib.Dec.{eqb, leb}
use lib.ListN.{length}
use borrow.Author.Tests.{eqb-true, eq-eqb, ne_eqb, leb-true}
use Rattle.layout.specs.Limits.{max_levels}
use Rattle.layout.specs.Lists.{distinct, joined}
use Rattle.layout.specs.Directory.{slot_at, first_block, is_directory, name_of, slot_of, slash, directory, root_of, children, below, dirs}
use Rattle.layout.specs.Paths.{cut, longer, parts, path_ok, leading, last_part, shallow, child_of, resolve, home}
use Rattle.layout.proofs.Laws.Tests.{and_split, eqb-self}
use Rattle.layout.proofs.Laws.Lists.{In, distinct-right, distinct_apart}
use Rattle.layout.proofs.Laws.Joins.{to-join, join-join, join_apart, join-part}
use Rattle.layout.proofs.Laws.Visits.{blocks_in, below-is}
use Rattle.layout.proofs.Laws.Trees.{directory-in}
use Rattle.layout.proofs.Laws.Sound.{Sound}
use Rattle.layout.proofs.Laws.Slots.{children-in, dir-least}
use Rattle.layout.proofs.Laws.Paths.{child-found}

module _ (s : List ℕ) where
  -- a part that leads on, by the entry of the child
  entry-to : ℕ → List ℕ → ℕ
  entry-to b p = slot_at (directory s b) (slot_of is_directory s (directory s b) p)

  step : (b : ℕ) (p : List ℕ) (ps : List (List ℕ)) → resolve s b (p ∷ ps) ≢ 0
      → In (entry-to b p) (children s b) × (name_of s (entry-to b p) ≡ p) × (child_of s b p ≡ first_block s (entry-to b p)) × (resolve s b (p ∷ ps) ≡ resolve s (first_block s (entry-to b p)) ps)
  unfolding resolve entry-to
  step b p ps ne = go (ℕ_discrete (child_of s b p) 0)
    where
      go : Dec (child_of s b p ≡ 0) → In (entry-to b p) (children s b) × (name_of s (entry-to b p) ≡ p) × (child_of s b p ≡ first_block s (entry-to b p)) × (resolve s b (p ∷ ps) ≡ resolve s (first_block s (entry-to b p)) ps)
      go (yes z) = absurd (ne (rw (eq-eqb _ 0 z)))
      go (no n) =
          let c = child-found s b p n in
          let N = c.0 in
          (children-in s b (slot_of is_directory s (directory s b) p) N.low N.high N.typed, N.named, c.1, (rw (ne_eqb (child_of s b p) 0 n) (ap (λ (x : ℕ). resolve s x ps) c.1)))

  -- what some parts lead to is below
  pub resolve-below : (ps : List (List ℕ)) (b left : ℕ) → length ps ≤ left → resolve s b ps ≢ 0 → In (resolve s b ps, left - length ps) (below s left b)
  resolve-below [] b left h ne = let e : left - 0 ≡ left = omega arith in rw (e, below-is s left b) (inl (unfold resolve in refl))
  resolve-below (p ∷ ps) b zero h ne = absurd (omega arith)
  resolve-below (p ∷ ps) b (suc left) h ne =
      let w = step b p ps ne in
      let e : suc left - suc (length ps) ≡ left - length ps = omega arith in
      rw (e, w.3, below-is s (suc left) b)
      (inr (to-join (λ a. below s left (first_block s a)) (children s b) (entry-to b p) _ w.0 (resolve-below ps (first_block s (entry-to b p)) left (omega arith) (λ z. ne (w.3 ∙ z)))))

  module _ (own : (d : ℕ × ℕ) → In d (dirs s) → In d.0 (directory s d.0)) where
    -- the directory itself is not met again below it
    not_back : (left b : ℕ) → ((d : ℕ × ℕ) → In d (below s left b) → In d (dirs s)) → distinct eqb (joined (blocks_in s) (below s left b)) ≡ true
        → (q : List ℕ) (qs : List (List ℕ)) → suc (length qs) ≤ left → resolve s b (q ∷ qs) ≢ 0 → resolve s b (q ∷ qs) ≡ b → ⊥
    not_back zero b sub once q qs h ne z = omega arith
    not_back (suc left) b sub once q qs h ne z =
        let w = step b q qs ne in
        let F : ℕ → List (ℕ × ℕ) = λ a. below s left (first_block s a) in
        let x : ℕ × ℕ = (resolve s (first_block s (entry-to b q)) qs, left - length qs) in
        let i : In x (F (entry-to b q)) = resolve-below qs (first_block s (entry-to b q)) left (omega arith) (λ y. ne (w.3 ∙ y)) in
        let m : In x (joined F (children s b)) = to-join F (children s b) (entry-to b q) x w.0 i in
        let o : In x.0 (directory s x.0) = own x (sub x (rw (below-is s (suc left) b) (inr m))) in
        let p : x.0 ≡ b = sym w.3 ∙ z in
        let here : In b (directory s b) = own (b, suc left) (sub (b, suc left) (rw (below-is s (suc left) b) (inl refl))) in
        distinct_apart eqb eqb-true eqb-self (directory s b) (joined (blocks_in s) (joined F (children s b))) (rw (below-is s (suc left) b) at once) b here
        (subst (λ (y : ℕ). In y (joined (blocks_in s) (joined F (children s b)))) p (to-join (blocks_in s) (joined F (children s b)) x x.0 m o))

    pub one_way : (ps qs : List (List ℕ)) (left b : ℕ) → ((d : ℕ × ℕ) → In d (below s left b) → In d (dirs s)) → distinct eqb (joined (blocks_in s) (below s left b)) ≡ true
        → length ps ≤ left → length qs ≤ left → resolve s b ps ≢ 0 → resolve s b ps ≡ resolve s b qs → ps ≡ qs
    one_way [] [] left b sub once h g ne z = refl
    one_way [] (q ∷ qs) left b sub once h g ne z =
        absurd (not_back left b sub once q qs g (λ y. ne (z ∙ y)) (sym z ∙ (unfold resolve in refl)))
    one_way (p ∷ ps) [] left b sub once h g ne z = absurd (not_back left b sub once p ps h ne (z ∙ (unfold resolve in refl)))
    one_way (p ∷ ps) (q ∷ qs) zero b sub once h g ne z = absurd (omega arith)
    one_way (p ∷ ps) (q ∷ qs) (suc left) b sub once h g ne z =
        let u = step b p ps ne in
        let v = step b q qs (λ y. ne (z ∙ y)) in
        go u v (ℕ_discrete (entry-to b p) (entry-to b q)) (one_way ps qs left (first_block s (entry-to b p)))
      where
        F : ℕ → List (ℕ × ℕ)
        F a = below s left (first_block s a)

        Step : List ℕ → List (List ℕ) → Type 0
        Step r rs = In (entry-to b r) (children s b) × (name_of s (entry-to b r) ≡ r) × (child_of s b r ≡ first_block s (entry-to b r)) × (resolve s b (r ∷ rs) ≡ resolve s (first_block s (entry-to b r)) rs)

        inside : (e : ℕ) → In e (children s b) → (d : ℕ × ℕ) → In d (F e) → In d (dirs s)
        inside e m d i = sub d (rw (below-is s (suc left) b) (inr (to-join F (children s b) e d m i)))

        kids-once : distinct eqb (joined (λ a. joined (blocks_in s) (F a)) (children s b)) ≡ true
        kids-once =
            rw (join-join (blocks_in s) F (children s b)) at
            (distinct-right eqb eqb-true eqb-self (directory s b) (joined (blocks_in s) (joined F (children s b))) (rw (below-is s (suc left) b) at once))

        hit : (r : List ℕ) (rs : List (List ℕ)) → length rs ≤ left → Step r rs → resolve s b (r ∷ rs) ≢ 0 → In (resolve s b (r ∷ rs)) (joined (blocks_in s) (F (entry-to b r)))
        hit r rs l w n =
            let x : ℕ × ℕ = (resolve s (first_block s (entry-to b r)) rs, left - length rs) in
            let i : In x (F (entry-to b r)) = resolve-below rs (first_block s (entry-to b r)) left l (λ y. n (w.3 ∙ y)) in
            rw w.3 (to-join (blocks_in s) (F (entry-to b r)) x x.0 i (own x (inside (entry-to b r) w.0 x i)))

        go : Step p ps → Step q qs → Dec (entry-to b p ≡ entry-to b q)
            → (((d : ℕ × ℕ) → In d (below s left (first_block s (entry-to b p))) → In d (dirs s)) → distinct eqb (joined (blocks_in s) (below s left (first_block s (entry-to b p)))) ≡ true
            → length ps ≤ left → length qs ≤ left → resolve s (first_block s (entry-to b p)) ps ≢ 0 → resolve s (first_block s (entry-to b p)) ps ≡ resolve s (first_block s (entry-to b p)) qs → ps ≡ qs)
            → (p ∷ ps) ≡ (q ∷ qs)
        go u v (yes e) ih =
            let n : p ≡ q = sym u.1 ∙ ap (name_of s) e ∙ v.1 in
            let r : ps ≡ qs = ih (inside (entry-to b p) u.0) (join-part (λ a. joined (blocks_in s) (F a)) eqb eqb-true eqb-self (children s b) kids-once (entry-to b p) u.0)
            (omega arith) (omega arith) (λ y. ne (u.3 ∙ y)) (sym u.3 ∙ z ∙ v.3 ∙ ap (λ (x : ℕ). resolve s (first_block s x) qs) (sym e)) in
            ap (λ (x : List ℕ). x ∷ ps) n ∙ ap (λ (x : List (List ℕ)). q ∷ x) r
        go u v (no n) ih =
            absurd (join_apart (λ a. joined (blocks_in s) (F a)) eqb eqb-true eqb-self (children s b) kids-once (entry-to b p) (entry-to b q) u.0 v.0 n (resolve s b (p ∷ ps))
            (hit p ps (omega arith) u ne) (subst (λ (x : ℕ). In x (joined (blocks_in s) (F (entry-to b q)))) (sym z) (hit q qs (omega arith) v (λ y. ne (z ∙ y)))))

-- two paths whose last parts are looked up in the same directory have the same parts before them
pub same_home : (s : List ℕ) → Sound s → (a b : List ℕ) → shallow (leading (parts a)) ≡ true → shallow (leading (parts b)) ≡ true → home s a ≢ 0 → home s a ≡ home s b → leading (parts a) ≡ leading (parts b)
unfolding home shallow dirs
same_home s S a b h g ne z =
    one_way s (λ d i. directory-in s d.0 0 (dir-least s S d i)) (leading (parts a)) (leading (parts b)) max_levels (root_of s) (λ d i. i) S.tree.once (leb-true _ _ h) (leb-true _ _ g) ne z

-- A path by its parts: they are joined again
join_parts : List (List ℕ) → List ℕ
join_parts [] = []
join_parts (p ∷ ps) = slash ∷ (p ++ join_parts ps)

cut-join : (xs : List ℕ) → join_parts (cut xs) ≡ slash ∷ xs
unfolding join_parts cut
cut-join [] = refl
cut-join (x ∷ xs) = go (eqb x slash) refl (cut xs) (cut-join xs)
  where
    go : (t : Bool) → eqb x slash ≡ t → (ps : List (List ℕ)) → join_parts ps ≡ slash ∷ xs → join_parts (cond t ([] ∷ ps) (longer x ps)) ≡ slash ∷ (x ∷ xs)
    go true q ps ih = rw (eqb-true x slash q) (ap (λ (l : List ℕ). slash ∷ l) ih)
    go false q [] ih = let z : ◌≡◌ {A = ℕ} 0 1 = cc in absurd (omega arith)
    go false q (p ∷ ps) ih = let z : p ++ join_parts ps ≡ xs = cc in ap (λ (l : List ℕ). slash ∷ (x ∷ l)) z

parts_join : (path : List ℕ) → 1 ≤ length (parts path) → join_parts (parts path) ≡ path
unfolding parts
parts_join [] h = absurd (omega arith)
parts_join (x ∷ xs) h = go (eqb x slash) refl h
  where
    go : (t : Bool) → eqb x slash ≡ t → 1 ≤ length (cond t (cut xs) []) → join_parts (cond t (cut xs) []) ≡ x ∷ xs
    go true q l = rw (eqb-true x slash q) (cut-join xs)
    go false q l = absurd (omega arith)

-- the parts by the last one and those before
last-back : (ps : List (List ℕ)) → 1 ≤ length ps → ps ≡ leading ps ++ (last_part ps ∷ [])
last-back [] h = absurd (omega arith)
last-back (p ∷ []) h = refl
last-back (p ∷ q ∷ ps) h = ap (λ (l : List (List ℕ)). p ∷ l) (last-back (q ∷ ps) (omega arith))

pub same-path : (a b : List ℕ) → path_ok a ≡ true → path_ok b ≡ true → leading (parts a) ≡ leading (parts b) → last_part (parts a) ≡ last_part (parts b) → a ≡ b
unfolding path_ok
same-path a b oka okb p q =
    let x = leb-true 1 (length (parts a)) (and_split (leb 1 (length (parts a))) _ oka).0 in
    let y = leb-true 1 (length (parts b)) (and_split (leb 1 (length (parts b))) _ okb).0 in
    let z : parts a ≡ parts b = last-back (parts a) x ∙ ap (λ (l : List (List ℕ)). l ++ (last_part (parts a) ∷ [])) p ∙ ap (λ (n : List ℕ). leading (parts b) ++ (n ∷ [])) q ∙ sym (last-back (parts b) y) in
    sym (parts_join a x) ∙ ap join_parts z ∙ parts_join b y

-- another path: in another directory, or with another last part
pub other_path : (s : List ℕ) → Sound s → (path other : List ℕ) → path_ok path ≡ true → path_ok other ≡ true → shallow (leading (parts path)) ≡ true → shallow (leading (parts other)) ≡ true
    → home s path ≢ 0 → other ≢ path → (home s other ≢ home s path) ⊎ (last_part (parts other) ≢ last_part (parts path))
other_path s S path other okp oko h g there ne = go (ℕ_discrete (home s other) (home s path))
  where
    go : Dec (home s other ≡ home s path) → (home s other ≢ home s path) ⊎ (last_part (parts other) ≢ last_part (parts path))
    go (no n) = inl n
    go (yes z) = inr (λ q. ne (same-path other path oko okp (same_home s S other path g h (λ y. there (sym z ∙ y)) z) q))
