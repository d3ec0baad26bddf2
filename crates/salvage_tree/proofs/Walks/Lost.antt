-- Lost folders: the tests in the code's order, one block, and all.
use Prim.Native.Nat.{ℕ, ◌+◌, ◌-◌, ◌*◌, ◌≤◌, ◌<◌}
use mathlib.Core.Bool.{Bool, true, false, not, ◌&&◌}
use mathlib.Core.List.{List, [], ◌∷◌}
use mathlib.Core.Path.{◌≡◌, refl, sym, ap, ◌∙◌, subst}
use native.Mathlib.Omega.{arith}
use lib.Dec.{eqb}
use lib.ListN.{length, get_or, take}
use lib.Seq.{take_all}
use borrow.Author.Tests.{eq-eqb, ne_eqb, eqb-true}
use Rattle.layout.specs.Lists.{interval, every, has}
use Rattle.layout.specs.Bytes.{be32, part, zeros, splice}
use Rattle.layout.specs.Table.{next, chain}
use Rattle.layout.specs.Directory.{slot_at, type_of, self_of, parent_of, blocks_of, name_of, name_ok, good_name, free_slot, directory, root_of}
use Rattle.layout.specs.Walks.Entries.{field_ok}
use Rattle.layout.specs.Walks.Slots.{Stands, entry_at}
use Rattle.layout.specs.Limits.{min_blocks, max_blocks}
use Rattle.layout.proofs.Walks.Shapes.{shape-block_count}
use Rattle.layout.proofs.Laws.Tests.{and_split, and-join, is_false, true-not-false, within-join}
use Rattle.layout.proofs.Laws.Lists.{in-has-eqb, false-has, interval-next}
use Rattle.layout.proofs.Walks.Entries.{name_ok-field}
use Rattle.salvage.specs.Walks.{MarksOf}
use Rattle.salvage.proofs.Walks.Claims.{unmarked-out, marked-in}
use Rattle.layout.specs.Geometry.{block_count, table_blocks}
use Rattle.layout.specs.Check.{stage1, directory_ok}
use Rattle.layout.specs.Walks.Shapes.{Shape, Blocks, DirectoryAt}
use Rattle.layout.proofs.Laws.Bytes.{length_part, length-zeros, splice-whole}
use Rattle.layout.proofs.Laws.Chains.{length-chain, get_d-chain}
use Rattle.layout.proofs.Laws.Trees.{directory_ok-split}
use Rattle.salvage_tree.specs.SalvageTree.{State, lost, hung_at, hang, hang_each, tree_done, folders_hung, rest, salvaged}
use Rattle.salvage_tree.specs.Walks.{st, Reached, Ready, LooksLost, other_than, unnamed, hung_state, HungIn, HangDone, TreeTaken, FoldersDone, RootDone, RestPut}
use Rattle.salvage_tree.proofs.Laws.Rest.{TreeIs, tree_is}
use Rattle.salvage_tree.proofs.Laws.Lost.{hang-is}
use Rattle.salvage_tree.proofs.Walks.Blocks.{some-marks}

module _ (s : List ℕ) (r b : ℕ) (m : List ℕ) where
  pub lost-marked : (get_or m b 0 ≡ 0 → ⊥) → LooksLost s r b m false
  lost-marked z = record { told = λ cs M. rw (in-has-eqb b cs (marked-in m cs b M z)) }

  module _ (clear : get_or m b 0 ≡ 0) (v : ℕ) (ev : v ≡ next s b) where
    fresh : (cs : List ℕ) → MarksOf m cs → has eqb b cs ≡ false
    fresh cs M = false-has b cs (unmarked-out m cs b M clear)

    pub lost-free : v ≡ 0 → LooksLost s r b m false
    lost-free z = record { told = λ cs M. rw (fresh cs M, ← ev, eq-eqb v 0 z) }

    module _ (used : v ≡ 0 → ⊥) (type : ℕ) (et : type ≡ type_of s (entry_at b 0)) where
      at_zero : entry_at b 0 ≡ 512 * b
      at_zero = omega arith

      type-is : type_of s (512 * b) ≡ type
      type-is = sym (et ∙ ap (λ (x : ℕ). type_of s x) at_zero)

      pub lost-type : (type ≡ 1 → ⊥) → LooksLost s r b m false
      lost-type z = record { told = λ cs M. rw (fresh cs M, ← ev, ne_eqb v 0 used, type-is, ne_eqb type 1 z) }

      module _ (q : type ≡ 1) (self : ℕ) (es : self ≡ be32 s (entry_at b 0 + 4)) where
        self-is : self_of s (512 * b) ≡ self
        self-is = sym (es ∙ ap (λ (x : ℕ). be32 s (x + 4)) at_zero)

        pub lost-self : (self ≡ b → ⊥) → LooksLost s r b m false
        lost-self z = record { told = λ cs M. rw (fresh cs M, ← ev, ne_eqb v 0 used, type-is, eq-eqb type 1 q, self-is, ne_eqb self b z) }

        module _ (y : self ≡ b) (up : ℕ) (ep : up ≡ be32 s (entry_at b 0 + 8)) where
          up_is : parent_of s (512 * b) ≡ up
          up_is = sym (ep ∙ ap (λ (x : ℕ). be32 s (x + 8)) at_zero)

          pub lost-parent : (up ≡ r → ⊥) → LooksLost s r b m false
          lost-parent z = record { told = λ cs M. rw (fresh cs M, ← ev, ne_eqb v 0 used, type-is, eq-eqb type 1 q, self-is, eq-eqb self b y, up_is, ne_eqb up r z) }

          pub lost-named : up ≡ r → (f : List ℕ) → f ≡ part s (entry_at b 0 + 48) 80 → (x : Bool) → x ≡ field_ok f → LooksLost s r b m x
          lost-named z f ef x ex =
              let n : x ≡ name_ok s (512 * b) = ex ∙ ap field_ok (ef ∙ ap (λ (a : ℕ). part s (a + 48) 80) at_zero) ∙ sym (name_ok-field s (512 * b)) in
              record { told = λ cs M. rw (fresh cs M, ← ev, ne_eqb v 0 used, type-is, eq-eqb type 1 q, self-is, eq-eqb self b y, up_is, eq-eqb up r z) n }

-- ONE BLOCK
module _ (s : List ℕ) (r b : ℕ) (cs codes : List ℕ) where
  abbrev six : Bool
  six = not (has eqb b cs) && (not (eqb (next s b) 0) && (eqb (type_of s (512 * b)) 1 && (eqb (self_of s (512 * b)) b && (eqb (parent_of s (512 * b)) r && name_ok s (512 * b)))))

  lost-split : lost (st s cs codes) r b ≡ true → (six ≡ true) × (unnamed s r (512 * b) ≡ true) × (not (eqb (free_slot s (directory s r)) 0) ≡ true)
  unfolding lost unnamed other_than
  lost-split e =
      let a₁ = and_split (not (has eqb b cs)) _ e in
      let a₂ = and_split (not (eqb (next s b) 0)) _ a₁.1 in
      let a₃ = and_split (eqb (type_of s (512 * b)) 1) _ a₂.1 in
      let a₄ = and_split (eqb (self_of s (512 * b)) b) _ a₃.1 in
      let a₅ = and_split (eqb (parent_of s (512 * b)) r) _ a₄.1 in
      let a₆ = and_split (name_ok s (512 * b)) _ a₅.1 in
      let a₇ = and_split (unnamed s r (512 * b)) (not (eqb (free_slot s (directory s r)) 0)) a₆.1 in
      (and-join a₁.0 (and-join a₂.0 (and-join a₃.0 (and-join a₄.0 (and-join a₅.0 a₆.0)))), a₇.0, a₇.1)

  lost-join : six ≡ true → unnamed s r (512 * b) ≡ true → not (eqb (free_slot s (directory s r)) 0) ≡ true → lost (st s cs codes) r b ≡ true
  unfolding lost unnamed other_than
  lost-join e u f =
      let a₁ = and_split (not (has eqb b cs)) _ e in
      let a₂ = and_split (not (eqb (next s b) 0)) _ a₁.1 in
      let a₃ = and_split (eqb (type_of s (512 * b)) 1) _ a₂.1 in
      let a₄ = and_split (eqb (self_of s (512 * b)) b) _ a₃.1 in
      let a₅ = and_split (eqb (parent_of s (512 * b)) r) _ a₄.1 in
      and-join a₁.0 (and-join a₂.0 (and-join a₃.0 (and-join a₄.0 (and-join a₅.0 (and-join a₅.1 (and-join u f))))))

  hang-none : (lost (st s cs codes) r b ≡ true → ⊥) → hang r (st s cs codes) b ≡ st s cs codes
  unfolding hang
  hang-none f = let z : lost (st s cs codes) r b ≡ false = is_false _ f in rw z

  hang-some : lost (st s cs codes) r b ≡ true → hang r (st s cs codes) b ≡ hung_state r (st s cs codes) (slot_at (directory s r) (free_slot s (directory s r))) b
  unfolding hang hung_state
  hang-some e = rw e

module _ (s : List ℕ) (r b : ℕ) (m codes : List ℕ) where
  left_as : ((cs : List ℕ) → MarksOf m cs → lost (st s cs codes) r b ≡ true → ⊥) → HangDone s r b m codes s m codes
  left_as f = record { reached = λ cs M. subst (λ (q : State). Reached q s m codes) (sym (hang-none s r b cs codes (f cs M))) (record { image = refl; marks = M; codes-are = refl }) }

  module _ (x : Bool) (L : LooksLost s r b m x) where
    pub hang-not : x ≡ false → HangDone s r b m codes s m codes
    hang-not z = left_as (λ cs M e. true-not-false (L.told cs M ∙ (lost-split s r b cs codes e).0) z)

    module _ (ok : x ≡ true) (u : Bool) (eu : u ≡ unnamed s r (512 * b)) where
      pub hang-named : u ≡ false → HangDone s r b m codes s m codes
      hang-named z = left_as (λ cs M e. true-not-false (eu ∙ (lost-split s r b cs codes e).1) z)

      module _ (new : u ≡ true) (n k at : ℕ) (S : Stands (directory s r) n (free_slot s (directory s r)) k at) where
        pub hang-full : k ≡ 0 → HangDone s r b m codes s m codes
        hang-full z = left_as (λ cs M e. let t = (lost-split s r b cs codes e).2 in true-not-false t (ap not (eq-eqb (free_slot s (directory s r)) 0 (sym S.slot ∙ z))))

        pub hang-done : (k ≡ 0 → ⊥) → (s' m' c' : List ℕ) → HungIn s r (entry_at at k) b m codes s' m' c' → HangDone s r b m codes s' m' c'
        hang-done ne s' m' c' H =
            record {
              reached = λ cs M.
                  let j = lost-join s r b cs codes (sym (L.told cs M) ∙ ok) (sym eu ∙ new) (ap not (ne_eqb (free_slot s (directory s r)) 0 (λ z. ne (S.slot ∙ z)))) in
                  let q : slot_at (directory s r) (free_slot s (directory s r)) ≡ entry_at at k = ap (slot_at (directory s r)) (sym S.slot) ∙ sym (S.block ne).1 in
                  subst (λ (p : State). Reached p s' m' c') (sym (hang-some s r b cs codes j ∙ ap (λ (e : ℕ). hung_state r (st s cs codes) e b) q)) (H.reached cs M);
            }

-- ALL BLOCKS
pub rooted-at : (s : List ℕ) (n r : ℕ) → Shape s n → directory_ok s n r r ≡ true → DirectoryAt s n r (blocks_of s (512 * r))
rooted-at s n r H e =
    let D = directory_ok-split s n r r e in
    let k : ℕ = blocks_of s (512 * r) in
    record {
      shape = H;
      blocks = record { some = D.d-least; few = D.d-most; size = length-chain (next s) r k; below = λ j h. rw (get_d-chain (next s) r k j h) (D.chained.below j h) };
    }

pub record HangingOn (o : List ℕ) (t n : ℕ) (s m codes : List ℕ) (b left : ℕ) : Type 0 where
  pub state : State
  pub tree : TreeIs o n (t + 1) state
  pub reached : Reached state s m codes
  pub is : folders_hung o ≡ hang_each (t + 1) state (interval b left)

pub record Hanging (t n : ℕ) (s₀ m₀ c₀ s m codes : List ℕ) (b left : ℕ) : Type 0 where
  pub sum : b + left ≡ n
  pub low : t + 1 < b
  pub long : length s ≡ length s₀
  pub marked : length m ≡ length m₀
  pub coded-all : length codes ≡ length c₀
  pub on : (o : List ℕ) → stage1 o ≡ true → Reached (tree_done o) s₀ m₀ c₀ → HangingOn o t n s m codes b left

pub hanging-start : (s : List ℕ) (t n : ℕ) (m codes : List ℕ) → Ready s t n m codes → Hanging t n s m codes s m codes (t + 2) (n - (t + 2))
unfolding folders_hung
hanging-start s t n m codes R =
    record {
      sum = omega (arith, R.room.table, R.room.shape.low);
      low = omega arith;
      long = refl;
      marked = refl;
      coded-all = refl;
      on = λ o ok K.
          let T = tree_is o ok in
          let l : length (tree_done o).image ≡ 512 * block_count o = T.inv.whole in
          let c : block_count o ≡ n = omega (arith, l, ap length K.image, R.room.shape.whole) in
          let r : root_of o ≡ t + 1 = omega (arith, c, R.room.table) in
          let r₂ : root_of o + 1 ≡ t + 2 = omega (arith, r) in
          record {
            state = tree_done o;
            tree = subst (λ (x : ℕ). TreeIs o n x (tree_done o)) r (subst (λ (x : ℕ). TreeIs o x (root_of o) (tree_done o)) c T);
            reached = K;
            is = rw (r₂, r, c);
          };
    }

module _ {t n : ℕ} {s₀ m₀ c₀ s m codes : List ℕ} {b left : ℕ} (w : Hanging t n s₀ m₀ c₀ s m codes b left) where
  pub hanging-more : t ≡ table_blocks n → (rest : ℕ) → rest + 1 ≡ left → (s' m' c' : List ℕ) → length s' ≡ length s → length m' ≡ length m → length c' ≡ length codes → HangDone s (t + 1) b m codes s' m' c' → Hanging t n s₀ m₀ c₀ s' m' c' (b + 1) rest
  unfolding hang_each
  hanging-more et rest r s' m' c' ls lm lc D =
      let h : 0 < left = omega arith in
      let e₁ : left - 1 ≡ rest = omega arith in
      record {
        sum = omega (arith, w.sum);
        low = omega (arith, w.low);
        long = ls ∙ w.long;
        marked = lm ∙ w.marked;
        coded-all = lc ∙ w.coded-all;
        on = λ o ok K.
            let G = w.on o ok K in
            let p = G.state in
            let e : st s p.claimed codes ≡ p = rw (G.reached.image, G.reached.codes-are) in
            record {
              state = hang (t + 1) p b;
              tree = hang-is o n (t + 1) p G.tree b (omega (arith, w.low, et)) (omega (arith, w.sum));
              reached = subst (λ (q : State). Reached (hang (t + 1) q b) s' m' c') e (D.reached p.claimed G.reached.marks);
              is = G.is ∙ ap (hang_each (t + 1) p) (interval-next b left h) ∙ ap (λ (x : ℕ). hang_each (t + 1) (hang (t + 1) p b) (interval (b + 1) x)) e₁;
            };
      }

  pub hanging-end : left ≡ 0 → FoldersDone s₀ m₀ c₀ s m codes
  unfolding hang_each
  hanging-end e =
      record {
        reached = λ o ok K.
            let G = w.on o ok K in
            subst (λ (q : State). Reached q s m codes) (sym (G.is ∙ ap (λ (j : ℕ). hang_each (t + 1) G.state (interval b j)) e)) G.reached;
      }

  pub hanging-root : (H : Shape s n) → TreeTaken s₀ m₀ c₀ → DirectoryAt s n (t + 1) (blocks_of s (512 * (t + 1)))
  hanging-root H T =
      let G = w.on T.given T.right T.reached in
      rooted-at s n (t + 1) H (subst (λ (x : List ℕ). directory_ok x n (t + 1) (t + 1) ≡ true) (sym G.reached.image) G.tree.rooted)

-- what the tests of a lost folder give
module _ (s : List ℕ) (r b : ℕ) (m : List ℕ) (x : Bool) (L : LooksLost s r b m x) (ok : x ≡ true) where
  pub lost-clear : get_or m b 0 ≡ 0
  lost-clear =
      let w = some-marks m in
      let a = and_split (not (has eqb b w.0)) (not (eqb (next s b) 0) && (eqb (type_of s (512 * b)) 1 && (eqb (self_of s (512 * b)) b && (eqb (parent_of s (512 * b)) r && name_ok s (512 * b))))) (sym (L.told w.0 w.1) ∙ ok) in
      eqb-true (get_or m b 0) 0 (w.1.at b ∙ a.0)

  pub lost-good : name_ok s (512 * b) ≡ true
  lost-good =
      let w = some-marks m in
      let a₁ = and_split (not (has eqb b w.0)) (not (eqb (next s b) 0) && (eqb (type_of s (512 * b)) 1 && (eqb (self_of s (512 * b)) b && (eqb (parent_of s (512 * b)) r && name_ok s (512 * b))))) (sym (L.told w.0 w.1) ∙ ok) in
      let a₂ = and_split (not (eqb (next s b) 0)) (eqb (type_of s (512 * b)) 1 && (eqb (self_of s (512 * b)) b && (eqb (parent_of s (512 * b)) r && name_ok s (512 * b)))) a₁.1 in
      let a₃ = and_split (eqb (type_of s (512 * b)) 1) (eqb (self_of s (512 * b)) b && (eqb (parent_of s (512 * b)) r && name_ok s (512 * b))) a₂.1 in
      let a₄ = and_split (eqb (self_of s (512 * b)) b) (eqb (parent_of s (512 * b)) r && name_ok s (512 * b)) a₃.1 in
      (and_split (eqb (parent_of s (512 * b)) r) (name_ok s (512 * b)) a₄.1).1

-- THE NAMES OF THE ROOT
module _ (s : List ℕ) (n r d : ℕ) (D : DirectoryAt s n r (blocks_of s (512 * r))) (ed : d ≡ be32 s (entry_at r 0 + 12)) where
  d-is : d ≡ blocks_of s (512 * r)
  d-is = let q : entry_at r 0 + 12 ≡ 512 * r + 12 = omega arith in ed ∙ ap (be32 s) q

  pub root-read : DirectoryAt s n r d
  root-read = subst (DirectoryAt s n r) (sym d-is) D

  module _ (xs : List ℕ) (e : take d xs ≡ chain (next s) r d) where
    lent_is : take d xs ≡ chain (next s) r d
    lent_is = e

    pub lent-blocks : Blocks n (length (take d xs)) (take d xs)
    lent-blocks =
        let B = root-read.blocks in
        let l : length (chain (next s) r d) ≡ d = B.size in
        subst (λ (ys : List ℕ). Blocks n (length ys) ys) (sym lent_is)
        (record { some = omega (arith, B.some, l); few = omega (arith, B.few, l); size = refl; below = λ i h. B.below i (omega (arith, l, h)) })

    pub lent-long : length (take d xs) ≡ d
    lent-long = ap length lent_is ∙ root-read.blocks.size

    pub unnamed-is : (b : ℕ) (name : List ℕ) → name ≡ name_of s (entry_at b 0) → (x : Bool) → x ≡ every (λ y. other_than s (slot_at (take d xs) y) name) (interval 1 (4 * d - 2)) → x ≡ unnamed s r (512 * b)
    unfolding unnamed directory
    unnamed-is b name en x ex =
        let q : entry_at b 0 ≡ 512 * b = omega arith in
        let l : length (chain (next s) r d) ≡ d = root-read.blocks.size in
        ex ∙ rw (lent_is, en, q, ← d-is, l)

pub good-self : (s : List ℕ) (b : ℕ) (name : List ℕ) → name ≡ name_of s (entry_at b 0) → name_ok s (512 * b) ≡ true → good_name name ≡ true
unfolding name_ok
good-self s b name en ok =
    let q : entry_at b 0 ≡ 512 * b = omega arith in
    subst (λ (x : List ℕ). good_name x ≡ true) (sym (en ∙ ap (name_of s) q)) (and_split (good_name (name_of s (512 * b))) _ ok).0

-- THE ENTRY WRITTEN
pub hung-steps : (s : List ℕ) (b at k : ℕ) (f f' s₁ s₂ s₃ s₄ : List ℕ) → 512 * at + 512 ≤ length s → 512 * b + 512 ≤ length s → f ≡ zeros 128 → f' ≡ splice f 0 (part s (512 * b) 128) → s₁ ≡ splice s (entry_at at k) (part f' 0 128)
    → s₂ ≡ splice s₁ (entry_at at k) (32 ∷ []) → s₃ ≡ splice s₂ (entry_at at k + 8) (zeros 4) → s₄ ≡ splice s₃ (entry_at at k + 32) (zeros 8) → s₄ ≡ hung_at s (entry_at at k) b
unfolding hung_at
hung-steps s b at k f f' s₁ s₂ s₃ s₄ ha hb ef ef' e₁ e₂ e₃ e₄ =
    let p : List ℕ = part s (512 * b) 128 in
    let lp : length p ≡ 128 = length_part s (512 * b) 128 (omega arith) in
    let q : f' ≡ p = ef' ∙ splice-whole f p (lp ∙ sym (ap length ef ∙ length-zeros 128)) in
    let r : part f' 0 128 ≡ p = ap (λ (x : List ℕ). part x 0 128) q ∙ take_all 128 p (omega (arith, lp)) in
    let i : s₁ ≡ splice s (entry_at at k) p = e₁ ∙ ap (splice s (entry_at at k)) r in
    let j : s₂ ≡ splice (splice s (entry_at at k) p) (entry_at at k) (32 ∷ []) = e₂ ∙ ap (λ (x : List ℕ). splice x (entry_at at k) (32 ∷ [])) i in
    e₄ ∙ ap (λ (x : List ℕ). splice x (entry_at at k + 32) (zeros 8)) (e₃ ∙ ap (λ (x : List ℕ). splice x (entry_at at k + 8) (zeros 4)) j)

-- THE STEPS TOGETHER
shape-right : (s : List ℕ) (n : ℕ) → Shape s n → stage1 s ≡ true
unfolding stage1
shape-right s n H =
    let c = shape-block_count s n H in
    rw c (and-join (eq-eqb (length s) (512 * n) H.whole) (within-join min_blocks max_blocks n H.low H.high))

pub tree-taken : (s : List ℕ) (t n : ℕ) (m codes s₁ m₁ c₁ : List ℕ) → Ready s t n m codes → RootDone s m codes s₁ m₁ c₁ → TreeTaken s₁ m₁ c₁
tree-taken s t n m codes s₁ m₁ c₁ R D = record { given = s; right = shape-right s n R.room.shape; reached = D.reached }

pub all-repaired : (s : List ℕ) (t n : ℕ) (m codes s₁ m₁ c₁ s₂ m₂ c₂ s₃ c₃ : List ℕ) → Ready s t n m codes → RootDone s m codes s₁ m₁ c₁ → FoldersDone s₁ m₁ c₁ s₂ m₂ c₂ → RestPut s₂ m₂ c₂ s₃ c₃
    → (s₃ ≡ (salvaged s).image) × (c₃ ≡ (salvaged s).codes)
unfolding salvaged
all-repaired s t n m codes s₁ m₁ c₁ s₂ m₂ c₂ s₃ c₃ R D F P =
    let K = F.reached s (shape-right s n R.room.shape) D.reached in
    let e : st s₂ (folders_hung s).claimed c₂ ≡ folders_hung s = rw (K.image, K.codes-are) in
    (P.image (folders_hung s).claimed K.marks ∙ ap (λ (p : State). (rest p).image) e, P.codes-are (folders_hung s).claimed K.marks ∙ ap (λ (p : State). (rest p).codes) e)
