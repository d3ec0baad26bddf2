-- A FINE ROOT IN A RIGHT TABLE IS SOUND: what the pass and the rest leave gives check 0.
use Prim.Native.Nat.{ℕ, zero, suc, ◌+◌, ◌-◌, ◌*◌, ◌/◌, ◌≤◌, ◌<◌}
use mathlib.Core.Bool.{Bool, true, false, ◌&&◌, ◌||◌, or-true}
use mathlib.Core.List.{List, [], ◌∷◌}
use mathlib.Core.Logic.{◌⊎◌, inl, inr, ◌≢◌}
use mathlib.Core.Path.{◌≡◌, refl, sym, ap, ◌∙◌, subst}
use native.Mathlib.Omega.{arith}
use lib.Dec.{eqb}
use lib.ListN.{length}
use borrow.Author.Tests.{eq-eqb}
use Rattle.layout.specs.Limits.{min_blocks, max_blocks, max_levels}
use Rattle.layout.specs.Lists.{has, select}
use Rattle.layout.specs.Geometry.{block_count, table_blocks}
use Rattle.layout.specs.Table.{all_ones, next, chain, chain_ok}
use Rattle.layout.specs.Directory.{slot_at, slots, type_of, first_block, is_file, name_of, files, directory, root_of, children, below, dirs}
use Rattle.layout.specs.Check.{slot_ok, stage1, stage2, stage3, stage6, stage7, directory_ok, child_ok, file_chains, chains, all_chains, owned, table_ok, check}
use Rattle.layout.proofs.Laws.Tests.{and-join, within-join, true-or-false, true-not-false}
use Rattle.layout.proofs.Laws.Lists.{In, in-every, interval-every, has-eqb-in, in-has-eqb}
use Rattle.layout.proofs.Laws.Joins.{of-join, in-interval, in-select}
use Rattle.layout.proofs.Laws.Slots.{in-children}
use Rattle.layout.proofs.Laws.Chains.{chain_ok-join, chain_ok-split, in-chain, chain-used}
use Rattle.layout.proofs.Laws.Visits.{Local, Tree, dir_blocks, below-is, under, visit-tree}
use Rattle.layout.proofs.Laws.Trees.{in-directory, directory_ok-split, child_ok-split, size_at, length-directory}
use Rattle.salvage_tree.specs.SalvageTree.{State}
use Rattle.salvage_tree.specs.Claims.{Hung, code_at, in_use, name_new}
use Rattle.salvage_tree.proofs.Laws.Counting.{count, count-in, in_count, count-once}
use Rattle.salvage_tree.proofs.Laws.Held.{held, all-held, dir-held}
use Rattle.salvage_tree.proofs.Laws.Fine.{EntryKept, Told, Over, SlotFine, Filled, ChildFine, slot-home}

pub record Ready (o : List ℕ) (q : State) (n : ℕ) : Type 0 where
  pub whole : length q.image ≡ 512 * n
  pub least : min_blocks ≤ n
  pub most : n ≤ max_blocks
  pub signed : stage2 q.image ≡ true
  pub numbered : stage3 q.image ≡ true
  pub rooted : directory_ok q.image n (root_of q.image) (root_of q.image) ≡ true
  pub filled : Filled o q n max_levels (ChildFine o q n max_levels (root_of q.image)) (directory q.image (root_of q.image))
  pub claims : (x : ℕ) → count x q.claimed ≡ held q.image max_levels (root_of q.image) x
  pub once : (x : ℕ) → count x q.claimed ≤ 1
  pub ones : (x : ℕ) → x ≤ table_blocks n → next q.image x ≡ 1
  pub free : (x : ℕ) → table_blocks n < x → x < 128 * table_blocks n → (In x q.claimed → ⊥) → next q.image x ≡ 0
  pub counted : stage7 q.image ≡ true

none : (es : List ℕ) → ((e : ℕ) → In e es → ⊥) → es ≡ []
none [] g = refl
none (e ∷ es) g = absurd (g e (inl refl))

module _ (o : List ℕ) (q : State) (n : ℕ) where
  abbrev w : List ℕ
  w = q.image

  record Right (d : ℕ × ℕ) : Type 0 where
    local : Local w n d.0 d.1
    kept : (k : ℕ) → In k (slots (directory w d.0)) → type_of w (slot_at (directory w d.0) k) ≢ 0 → EntryKept o w (slot_at (directory w d.0) k) ⊎ Hung o w (slot_at (directory w d.0) k)
    told : (k : ℕ) → In k (slots (directory w d.0)) → Told o n d.1 q (slot_at (directory w d.0) k)
    form : (k : ℕ) → In k (slots (directory w d.0)) → code_at q.codes (slot_at (directory w d.0) k) ≡ 1 → (slot_ok o (slot_at (directory w d.0) k) && name_new w (directory w d.0) k (name_of o (slot_at (directory w d.0) k))) ≡ false
    over : (k : ℕ) → In k (slots (directory w d.0)) → code_at q.codes (slot_at (directory w d.0) k) ≡ 6 → Over o w n d.1 q.claimed (directory w d.0) k
    high : (k : ℕ) → In k (slots (directory w d.0)) → slot_at (directory w d.0) k + 128 ≤ 512 * n
    chained : (c : ℕ × ℕ) → In c (chains w d.0) → chain_ok (next w) n c.0 c.1 ≡ true

  child-ok : (left b e : ℕ) → ChildFine o q n left b e → child_ok w n b e ≡ true
  unfolding ChildFine
  child-ok zero b e c = absurd c
  child-ok (suc left) b e c = c.0

  child-none : (b e : ℕ) → ChildFine o q n zero b e → ⊥
  unfolding ChildFine
  child-none b e c = c

  module _ (left b p : ℕ) (ok : directory_ok w n b p ≡ true) (F : Filled o q n left (ChildFine o q n left b) (directory w b)) where
    abbrev ds : List ℕ
    ds = directory w b

    fine : (k : ℕ) → In k (slots ds) → SlotFine o q n left (ChildFine o q n left b) ds k
    fine k i = let r = in-interval 1 (4 * length ds - 2) k i in F.slot k r.0 (omega arith)

    kid : (e : ℕ) → In e (children w b) → ChildFine o q n left b e
    kid e i =
        let r = in-children w b e i in
        subst (ChildFine o q n left b) (sym r.4) ((F.slot r.0 r.1 (omega (arith, length-directory w b, r.2))).child r.3)

    own-chain : chain_ok (next w) n b (length ds) ≡ true
    own-chain = rw (length-directory w b) (chain_ok-join (next w) n b (size_at w b) (directory_ok-split w n b p ok).chained)

    chain-right : (c : ℕ × ℕ) → In c (chains w b) → chain_ok (next w) n c.0 c.1 ≡ true
    unfolding chains files file_chains
    chain-right c (inl e) = subst (λ (z : ℕ × ℕ). chain_ok (next w) n z.0 z.1 ≡ true) (sym e) own-chain
    chain-right c (inr i) =
        let test : ℕ → Bool = λ k. is_file (type_of w (slot_at ds k)) in
        let r = of-join (λ k. file_chains w (slot_at ds k)) (select test (slots ds)) c i in
        let m = in-select test (slots ds) r.0 r.1 in
        two r.0 (fine r.0 m.0) m.1 r.2
      where
        two : (k : ℕ) → SlotFine o q n left (ChildFine o q n left b) (directory w b) k → is_file (type_of w (slot_at (directory w b) k)) ≡ true
            → In c (file_chains w (slot_at (directory w b) k)) → chain_ok (next w) n c.0 c.1 ≡ true
        two k f t (inr (inr x3)) = elim x3 [ ]
        two k f t (inl e) = subst (λ (z : ℕ × ℕ). chain_ok (next w) n z.0 z.1 ≡ true) (sym e) (f.first t)
        two k f t (inr (inl e)) = subst (λ (z : ℕ × ℕ). chain_ok (next w) n z.0 z.1 ≡ true) (sym e) (f.second t)

    high : (k : ℕ) → In k (slots ds) → slot_at ds k + 128 ≤ 512 * n
    high k i =
        let r = in-interval 1 (4 * length ds - 2) k i in
        let h = slot-home ds k (omega arith) in
        let x = slot_at ds k / 512 in
        let y = in-directory w b x h.0 in
        let below : x < n = rw y.2 ((directory_ok-split w n b p ok).chained.below y.0 y.1) in
        omega arith

    here : (left ≡ 0 → children w b ≡ []) → Right (b, left)
    here deep =
        record {
          local =
              record {
                end-type = F.end-type;
                slot = λ k i. (fine k i).ok;
                name = λ k i. (fine k i).name;
                child = λ e i. child-ok left b e (kid e i);
                deep = deep;
              };
          kept = λ k i. (fine k i).kept;
          told = λ k i. (fine k i).told;
          form = λ k i. (fine k i).form;
          over = λ k i. (fine k i).over;
          high = high;
          chained = chain-right;
        }

  all_right : (left b p : ℕ) → directory_ok w n b p ≡ true → Filled o q n left (ChildFine o q n left b) (directory w b) → (d : ℕ × ℕ) → In d (below w left b) → Right d
  unfolding ChildFine
  all_right zero b p ok F d i = first (here zero b p ok F (λ z. none (children w b) (λ e m. child-none b e (kid zero b p ok F e m)))) (rw (below-is w zero b) at i)
    where
      first : Right (b, zero) → In d ((b, zero) ∷ []) → Right d
      first h (inr x4) = elim x4 [ ]
      first h (inl e) = subst Right (sym e) h
  all_right (suc left) b p ok F d i =
      first (here (suc left) b p ok F (λ z. absurd (omega arith)))
      (λ e m. let c = kid (suc left) b p ok F e m in all_right left (first_block w e) b (child_ok-split w n b e c.0).0 c.1 d)
      (rw (below-is w (suc left) b) at i)
    where
      first : Right (b, suc left) → ((e : ℕ) → In e (children w b) → In d (below w left (first_block w e)) → Right d) → In d ((b, suc left) ∷ under w (suc left) b) → Right d
      first h g (inl e) = subst Right (sym e) h
      first h g (inr m) = let r = of-join (λ a. below w left (first_block w a)) (children w b) d m in g r.0 r.1 r.2

module _ (o : List ℕ) (q : State) (R : Ready o q (block_count q.image)) where
  abbrev im : List ℕ
  im = q.image

  abbrev cs : List ℕ
  cs = q.claimed

  abbrev n : ℕ
  n = block_count im

  right : (d : ℕ × ℕ) → In d (dirs im) → Right o q n d
  unfolding dirs
  right = all_right o q n max_levels (root_of im) (root_of im) R.rooted R.filled

  tree : Tree im n
  tree =
      record {
        rooted = R.rooted;
        local = λ d i. (right d i).local;
        once = count-once (dir_blocks im) (λ x. omega (arith, dir-held im x, R.claims x, R.once x));
      }

  os : List ℕ
  os = owned (next im) (all_chains im)

  six : stage6 im ≡ true
  unfolding stage6 table_ok all_ones all_chains os
  six =
      and-join (in-every (λ c. chain_ok (next im) n c.0 c.1) (all_chains im)
      (λ c i. let r = of-join (λ d. chains im d.0) (dirs im) c i in (right r.0 r.1).chained c r.2))
      (and-join (count-once (owned (next im) (all_chains im)) (λ x. omega (arith, all-held im x, R.claims x, R.once x)))
      (and-join (interval-every (λ b. eqb (next im b) 1) 0 (table_blocks n + 1) (λ b h g. eq-eqb (next im b) 1 (R.ones b (omega arith))))
      (interval-every (λ b. eqb (next im b) 0 || has eqb b (owned (next im) (all_chains im))) (table_blocks n + 1) (128 * table_blocks n - (table_blocks n + 1))
      (λ b h g. high b (omega arith) (omega arith) (true-or-false (has eqb b cs))))))
    where
      high : (b : ℕ) → table_blocks n < b → b < 128 * table_blocks n → (has eqb b cs ≡ true) ⊎ (has eqb b cs ≡ false) → (eqb (next im b) 0 || has eqb b (owned (next im) (all_chains im))) ≡ true
      high b h g (inl t) =
          let c = in_count b cs (has-eqb-in b cs t) in
          rw (in-has-eqb b (owned (next im) (all_chains im)) (count-in b (owned (next im) (all_chains im)) (omega (arith, all-held im b, R.claims b)))) (or-true (eqb (next im b) 0))
      high b h g (inr f) = rw (eq-eqb (next im b) 0 (R.free b h g (λ i. true-not-false (in-has-eqb b cs i) f)))

  pub ready-sound : check im ≡ 0
  unfolding check stage1
  ready-sound =
      let one : stage1 im ≡ true = and-join (eq-eqb _ _ R.whole) (within-join min_blocks max_blocks n R.least R.most) in
      rw (one, R.signed, R.numbered, visit-tree im tree, six, R.counted)

  -- every entry of the tree is as it was given
  pub ready-kept : (d : ℕ × ℕ) → In d (dirs im) → (k : ℕ) → In k (slots (directory im d.0)) → type_of im (slot_at (directory im d.0) k) ≢ 0 → EntryKept o im (slot_at (directory im d.0) k) ⊎ Hung o im (slot_at (directory im d.0) k)
  ready-kept d i = (right d i).kept

  -- the code of every slot, and its cause; the claimed blocks are those in use
  pub ready-told : (d : ℕ × ℕ) → In d (dirs im) → (k : ℕ) → In k (slots (directory im d.0)) → Told o n d.1 q (slot_at (directory im d.0) k)
  ready-told d i = (right d i).told

  pub ready-form : (d : ℕ × ℕ) → In d (dirs im) → (k : ℕ) → In k (slots (directory im d.0)) → code_at q.codes (slot_at (directory im d.0) k) ≡ 1
      → (slot_ok o (slot_at (directory im d.0) k) && name_new im (directory im d.0) k (name_of o (slot_at (directory im d.0) k))) ≡ false
  ready-form d i = (right d i).form

  pub ready-over : (d : ℕ × ℕ) → In d (dirs im) → (k : ℕ) → In k (slots (directory im d.0)) → code_at q.codes (slot_at (directory im d.0) k) ≡ 6 → Over o im n d.1 cs (directory im d.0) k
  ready-over d i = (right d i).over

  pub ready-high : (d : ℕ × ℕ) → In d (dirs im) → (k : ℕ) → In k (slots (directory im d.0)) → slot_at (directory im d.0) k + 128 ≤ 512 * n
  ready-high d i = (right d i).high

  pub ready-ok : (d : ℕ × ℕ) → In d (dirs im) → (k : ℕ) → In k (slots (directory im d.0)) → slot_ok im (slot_at (directory im d.0) k) ≡ true
  ready-ok d i = (right d i).local.slot

  pub ready-owned : (x : ℕ) → In x cs → In x (in_use im)
  ready-owned x i = let c = in_count x cs i in count-in x (owned (next im) (all_chains im)) (omega (arith, all-held im x, R.claims x))

  -- a claimed block is in use
  pub ready-used : (x : ℕ) → In x cs → next im x ≢ 0
  unfolding owned all_chains
  ready-used x i =
      let c = in_count x cs i in
      let m : In x (owned (next im) (all_chains im)) = count-in x (owned (next im) (all_chains im)) (omega (arith, all-held im x, R.claims x)) in
      let a = of-join (λ c. chain (next im) c.0 c.1) (all_chains im) x m in
      let d = of-join (λ d. chains im d.0) (dirs im) a.0 a.1 in
      let y = in-chain (next im) a.0.0 a.0.1 x a.2 in
      λ z. chain-used (next im) n a.0.0 a.0.1 (chain_ok-split (next im) n a.0.0 a.0.1 ((right d.0 d.1).chained a.0 d.2)) R.least y.0 y.1 (ap (next im) (sym y.2) ∙ z)
