-- The root, and lost folders.
use Prim.Native.Nat.{ℕ, ◌+◌, ◌-◌, ◌*◌, ◌<◌}
use mathlib.Core.Bool.{false}
use mathlib.Core.List.{List, []}
use mathlib.Core.Path.{◌≡◌, refl, sym, ap, ◌∙◌, subst}
use native.Mathlib.Omega.{arith}
use lib.Dec.{eqb}
use lib.ListN.{length, get_or, take, drop}
use borrow.Author.Tests.{eq-eqb}
use Rattle.layout.specs.Limits.{max_levels}
use Rattle.layout.specs.Bytes.{be32, part, zeros}
use Rattle.layout.specs.Geometry.{block_count, table_blocks, root_block}
use Rattle.layout.specs.Directory.{slots, blocks_of}
use Rattle.layout.specs.Walks.Shapes.{Shape}
use Rattle.layout.specs.Walks.Slots.{entry_at}
use Rattle.layout.proofs.Laws.Bytes.{get_d-zeros}
use Rattle.layout.proofs.Walks.Shapes.{shape-block_count}
use Rattle.salvage.specs.Walks.{MarksOf}
use Rattle.salvage_tree.specs.SalvageTree.{State, coded, put_directory, take_slots, take_child, adopt, directory_blocks, root_blocks_of, tree_done, hung_at}
use Rattle.salvage_tree.specs.Walks.{st, Reached, Chose, Own, PutDone, Adopted, readied, SlotsDone, RootDone, hung_state, HungIn}
use Rattle.salvage.proofs.Walks.Claims.{good-marked}
use Rattle.salvage_tree.proofs.Walks.Blocks.{chose-own, chose-first}
use Rattle.salvage_tree.proofs.Walks.Entries.{front, chose-some}

-- no block is claimed where no mark stands
pub no-marks : (m : List ℕ) → m ≡ zeros (length m) → MarksOf m []
no-marks m e = record { at = λ x. rw (ap (λ (l : List ℕ). get_or l x 0) e ∙ get_d-zeros (length m) x) refl }

reached-state : (q : State) (s m c : List ℕ) → Reached q s m c → st s q.claimed c ≡ q
reached-state q s m c R = rw (R.image, R.codes-are)

-- a good block is chosen first, and what is chosen is a directory's
module _ (s : List ℕ) (t n b said : ℕ) (m : List ℕ) (d : ℕ) (xs : List ℕ) (et : t ≡ table_blocks n) (low : t < b) (high : b < n) (clear : get_or m b 0 ≡ 0) (C : Chose s n b said false m d xs) where
  pub folder-some : 0 < d
  folder-some = chose-some s n b said false m d xs (eqb (get_or m b 0) 0) (good-marked n m b (omega arith) high) (eq-eqb (get_or m b 0) 0 clear) C

  pub folder-own : Own n (take (d - 0) (drop 0 xs))
  folder-own = subst (Own n) (sym (front d xs)) (chose-own s n b said false m d xs C folder-some)

  pub folder-first : get_or (take (d - 0) (drop 0 xs)) 0 0 ≡ b
  folder-first = ap (λ (ys : List ℕ). get_or ys 0 0) (front d xs) ∙ chose-first s n b said false m d xs C folder-some

  pub folder-is : (cs : List ℕ) → MarksOf m cs → directory_blocks s n cs b said false ≡ take (d - 0) (drop 0 xs)
  folder-is cs M = C.is cs M ∙ sym (front d xs)

-- THE ROOT
root-blocks : (s : List ℕ) (t n said : ℕ) (ds : List ℕ) → block_count s ≡ n → root_block (block_count s) ≡ t + 1 → said ≡ blocks_of s (512 * (t + 1)) → directory_blocks s n [] (t + 1) said false ≡ ds → root_blocks_of s ≡ ds
unfolding root_blocks_of
root-blocks s t n said ds c er es b = rw (er, c, ← es) b

root-same : (s : List ℕ) (t n : ℕ) (codes ds : List ℕ) → block_count s ≡ n → root_block (block_count s) ≡ t + 1 → root_blocks_of s ≡ ds → get_or ds 0 0 ≡ t + 1 → entry_at (t + 1) 0 ≡ 512 * (t + 1) → codes ≡ zeros (4 * n)
    → take_slots (take_child max_levels (get_or ds 0 0)) ds (put_directory (st s [] codes) ds (t + 1) (part s (entry_at (t + 1) 0 + 48) 80)) (slots ds) ≡ tree_done s
unfolding tree_done
root-same s t n codes ds c er eb f q ec = rw (f, q, ec, eb, er, c)

pub root-own : (s : List ℕ) (t n b said : ℕ) (m : List ℕ) (d : ℕ) (xs : List ℕ) → t ≡ table_blocks n → t < b → b < n → get_or m b 0 ≡ 0 → Chose s n b said false m d xs → Own n (take d xs)
root-own s t n b said m d xs et low high clear C = chose-own s n b said false m d xs C (folder-some s t n b said m d xs et low high clear C)

pub root-done : (s : List ℕ) (t n said : ℕ) (m codes : List ℕ) (d : ℕ) (xs : List ℕ) → Shape s n → t ≡ table_blocks n → m ≡ zeros (length m) → codes ≡ zeros (4 * n) → said ≡ be32 s (entry_at (t + 1) 0 + 12)
    → Chose s n (t + 1) said false m d xs → (s₁ m₁ c₁ s₂ m₂ c₂ : List ℕ) → PutDone s (take d xs) (t + 1) (part s (entry_at (t + 1) 0 + 48) 80) m codes s₁ m₁ c₁
    → SlotsDone s₁ (take d xs) max_levels m₁ c₁ s₂ m₂ c₂ → RootDone s m codes s₂ m₂ c₂
root-done s t n said m codes d xs H et em ec es C s₁ m₁ c₁ s₂ m₂ c₂ P D =
    let ds : List ℕ = take d xs in
    let c = shape-block_count s n H in
    let er : root_block (block_count s) ≡ t + 1 = omega (arith, c, et) in
    let M = no-marks m em in
    let z : get_or m (t + 1) 0 ≡ 0 = ap (λ (l : List ℕ). get_or l (t + 1) 0) em ∙ get_d-zeros (length m) (t + 1) in
    let hi : t + 1 < n = omega (arith, et, H.low) in
    let q : entry_at (t + 1) 0 ≡ 512 * (t + 1) = omega arith in
    let es' : said ≡ blocks_of s (512 * (t + 1)) = es ∙ ap (λ (x : ℕ). be32 s (x + 12)) q in
    let b : directory_blocks s n [] (t + 1) said false ≡ ds = C.is [] M in
    let f : get_or ds 0 0 ≡ t + 1 = chose-first s n (t + 1) said false m d xs C (folder-some s t n (t + 1) said m d xs et (omega arith) hi z C) in
    let R = P.reached [] M in
    let p₁ : State = put_directory (st s [] codes) ds (t + 1) (part s (entry_at (t + 1) 0 + 48) 80) in
    let S = D.reached p₁.claimed R.marks in
    record {
      reached = subst (λ (x : State). Reached x s₂ m₂ c₂)
          (ap (λ (p : State). take_slots (take_child max_levels (get_or ds 0 0)) ds p (slots ds)) (reached-state p₁ s₁ m₁ c₁ R) ∙ root-same s t n codes ds c er (root-blocks s t n said ds c er es' b) f q ec) S;
    }

-- A FOLDER HUNG
pub hung-in : (s : List ℕ) (t n b said : ℕ) (m codes : List ℕ) (d : ℕ) (xs : List ℕ) (e : ℕ) → Shape s n → t ≡ table_blocks n → t < b → b < n → get_or m b 0 ≡ 0 → said ≡ be32 s (entry_at b 0 + 12)
    → Chose s n b said false m d xs → (s₁ : List ℕ) → s₁ ≡ hung_at s e b → (s₂ m₂ c₂ s₃ m₃ c₃ c₄ : List ℕ) → Adopted s₁ (t + 1) e (take (d - 0) (drop 0 xs)) m codes s₂ m₂ c₂
    → SlotsDone s₂ (take (d - 0) (drop 0 xs)) 7 m₂ c₂ s₃ m₃ c₃ → c₄ ≡ coded c₃ e 6 → HungIn s (t + 1) e b m codes s₃ m₃ c₄
unfolding hung_state
hung-in s t n b said m codes d xs e H et lo hi z es C s₁ e₁ s₂ m₂ c₂ s₃ m₃ c₃ c₄ A D ec =
    let ds : List ℕ = take (d - 0) (drop 0 xs) in
    let c = shape-block_count s n H in
    let q : entry_at b 0 ≡ 512 * b = omega arith in
    let es' : blocks_of s (512 * b) ≡ said = sym (es ∙ ap (λ (x : ℕ). be32 s (x + 12)) q) in
    let f : get_or ds 0 0 ≡ b = folder-first s t n b said m d xs et lo hi z C in
    record {
      reached = λ cs M.
          let B : directory_blocks s n cs b said false ≡ ds = folder-is s t n b said m d xs et lo hi z C cs M in
          let R = A.reached cs M in
          let p₁ : State = readied (t + 1) (st s₁ cs codes) e ds in
          let S = D.reached p₁.claimed R.marks in
          let k : take_slots (take_child 7 (get_or ds 0 0)) ds (st s₂ p₁.claimed c₂) (slots ds) ≡ adopt (take_child (max_levels - 1) b) (t + 1) (st (hung_at s e b) cs codes) e ds
          = ap (λ (p : State). take_slots (take_child 7 (get_or ds 0 0)) ds p (slots ds)) (reached-state p₁ s₂ m₂ c₂ R) ∙ rw (f, e₁) in
          rw (c, es', B, ← k) (record { image = S.image; marks = S.marks; codes-are = ec ∙ ap (λ (l : List ℕ). coded l e 6) S.codes-are });
    }

pub no-mark : (m : List ℕ) (x : ℕ) → m ≡ zeros (length m) → get_or m x 0 ≡ 0
no-mark m x e = ap (λ (l : List ℕ). get_or l x 0) e ∙ get_d-zeros (length m) x
