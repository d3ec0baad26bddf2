-- The rest: codes of freed blocks, the table, the header, and whether anything of them was different.
use Prim.Native.Nat.{ℕ, zero, suc, ◌+◌, ◌-◌, ◌*◌, ◌/◌, ◌≤◌, ◌<◌}
use mathlib.Core.Bool.{Bool, true, false, cond, ◌&&◌, ◌||◌}
use mathlib.Core.List.{List, ◌++◌}
use mathlib.Core.Logic.{◌≢◌}
use mathlib.Core.Path.{◌≡◌, refl, sym, ap, ◌∙◌, subst}
use native.Mathlib.Omega.{arith}
use lib.Dec.{eqb}
use lib.ListN.{length, get_or, set, take, drop}
use borrow.Author.Tests.{eq-eqb, eqb-true}
use Rattle.std.specs.Prelude.{Result, Ok, Err}
use Rattle.std.specs.Result.{is_err}
use Rattle.std.specs.List.{list_all, range_with_len, starts_with}
use Rattle.layout.specs.declared.refusal.Refusal.{Refusal}
use Rattle.layout.specs.Reasons.{outcome}
use Rattle.layout.specs.Lists.{interval, every, has, same}
use Rattle.layout.specs.Limits.{min_blocks, max_blocks}
use Rattle.layout.specs.Bytes.{be32, splice}
use Rattle.layout.specs.Geometry.{signature, block_count, table_blocks, root_block}
use Rattle.layout.specs.Table.{next, all_ones}
use Rattle.layout.specs.Check.{stage1, stage2, stage3, stage7}
use Rattle.layout.specs.Walks.Shapes.{Shape}
use Rattle.layout.specs.Walks.Stages.{head_stage}
use Rattle.layout.proofs.Laws.Tests.{and_split, and-join, is_false, true-not-false, require-zero, within-join}
use Rattle.layout.proofs.Laws.Lists.{interval-next, interval-from, interval-every, in-has-eqb, false-has}
use Rattle.layout.proofs.Laws.Reasons.{reason}
use Rattle.layout.proofs.Laws.Names.{same-eq, same_refl}
use Rattle.layout.proofs.Walks.Shapes.{shape-block_count}
use Rattle.salvage.specs.Salvage.{one_at, free_at, in_turn, counts_put}
use Rattle.salvage.specs.Walks.{MarksOf, EntriesFreed}
use Rattle.salvage.proofs.Laws.Puts.{Ones, ones-put, Frees, frees-put}
use Rattle.salvage.proofs.Walks.Turns.{one_left, free-left, counts-left}
use Rattle.salvage.proofs.Walks.Claims.{unmarked-out, marked-in}
use Rattle.salvage_tree.specs.SalvageTree.{coded, put_number, ones_put, blocks_freed, padding_put, head_put, freed_codes, rest}
use Rattle.salvage_tree.specs.Walks.{FreedNoted, IsFree, AllFree, signed, BlocksPut, PaddingPut, RestPut}
use Rattle.salvage_tree.proofs.Laws.Rest.{HeadIs, head-is}
use Rattle.salvage_tree.proofs.Walks.Numbers.{both_ways, pointwise-same, same-turned, number-left, one_set}

-- what an answer says of its number
pub err-refused : {T : Type 0} (answer : Result T Refusal) → is_err answer ≡ true → outcome answer ≢ 0
err-refused (Ok given) e = absurd (true-not-false e refl)
err-refused (Err why) e = reason why

pub ok-accepted : {T : Type 0} (answer : Result T Refusal) → is_err answer ≡ false → outcome answer ≡ 0
ok-accepted (Ok given) e = refl
ok-accepted (Err why) e = absurd (true-not-false refl e)

shape-stage1 : (s : List ℕ) (n : ℕ) → Shape s n → stage1 s ≡ true
unfolding stage1
shape-stage1 s n H =
    let c = shape-block_count s n H in
    rw c (and-join (eq-eqb (length s) (512 * n) H.whole) (within-join min_blocks max_blocks n H.low H.high))

-- ENTRIES THAT NEED NOT BE FREED
module _ (s m : List ℕ) (b : ℕ) where
  pub free-marked : (get_or m b 0 ≡ 0 → ⊥) → IsFree s m b true
  free-marked z = record { told = λ cs M. rw (in-has-eqb b cs (marked-in m cs b M z)) }

  pub free-valued : get_or m b 0 ≡ 0 → (v : ℕ) → v ≡ next s b → IsFree s m b (eqb v 0)
  free-valued z v e = record { told = λ cs M. rw (false-has b cs (unmarked-out m cs b M z), e) }

pub free-told : (s m : List ℕ) (cs : List ℕ) → MarksOf m cs → (b : ℕ) (r : Bool) → IsFree s m b r → r ≡ has eqb b cs || eqb (next s b) 0
free-told s m cs M b r F = F.told cs M

-- those from a on, when those before b need not be freed
pub record Freed (s m : List ℕ) (a k b left : ℕ) : Type 0 where
  pub sum : b + left ≡ a + k
  pub told : (cs : List ℕ) → MarksOf m cs → every (λ x. has eqb x cs || eqb (next s x) 0) (interval a k) ≡ every (λ x. has eqb x cs || eqb (next s x) 0) (interval b left)

pub freed-start : (s m : List ℕ) (a k : ℕ) → Freed s m a k a k
freed-start s m a k = record { sum = refl; told = λ cs M. refl }

module _ {s m : List ℕ} {a k b left : ℕ} (w : Freed s m a k b left) where
  pub freed-not : 0 < left → (r : Bool) → IsFree s m b r → r ≡ false → AllFree s m a k false
  freed-not h r F z = record { told = λ cs M. sym (w.told cs M ∙ ap (every (λ x. has eqb x cs || eqb (next s x) 0)) (interval-next b left h) ∙ rw (sym (F.told cs M) ∙ z)) }

  pub freed-more : 0 < left → (r : Bool) → IsFree s m b r → r ≡ true → Freed s m a k (b + 1) (left - 1)
  freed-more h r F z = record { sum = omega (arith, w.sum); told = λ cs M. w.told cs M ∙ ap (every (λ x. has eqb x cs || eqb (next s x) 0)) (interval-next b left h) ∙ rw (sym (F.told cs M) ∙ z) }

  pub freed-all : left ≡ 0 → AllFree s m a k true
  freed-all e = record { told = λ cs M. sym (w.told cs M ∙ rw e) }

-- the test of a range, as the definitions say it
pub all-every : (p : ℕ → Bool) (a k : ℕ) → list_all p (range_with_len a k) ≡ every p (interval a k)
all-every p a zero = refl
all-every p a (suc k) = let q : a + 1 ≡ suc a = omega arith in rw q (ap (λ (t : Bool). p a && t) (all-every p (suc a) k))

-- THE CODES of freed blocks
module _ (s m : List ℕ) (b : ℕ) (codes : List ℕ) (r : Bool) (F : IsFree s m b r) where
  pub noted-free : r ≡ true → FreedNoted s m b 1 codes codes
  unfolding freed_codes
  noted-free z = record { is = λ cs M. rw (sym (F.told cs M) ∙ z) }

  pub noted-freed : r ≡ false → 4 * b < length codes → FreedNoted s m b 1 codes (set codes (4 * b) 5)
  unfolding freed_codes
  noted-freed z h = record { is = λ cs M. rw (sym (F.told cs M) ∙ z) (one_set codes (4 * b) 5 h) }

-- the codes of those from a to n, when those before b are done
pub record Noting (s m : List ℕ) (a n : ℕ) (codes₀ codes : List ℕ) (b : ℕ) : Type 0 where
  pub size : length codes ≡ length codes₀
  pub is : (cs : List ℕ) → MarksOf m cs → freed_codes s cs codes₀ (interval a (n - a)) ≡ freed_codes s cs codes (interval b (n - b))

pub noting-start : (s m : List ℕ) (a n : ℕ) (codes : List ℕ) → Noting s m a n codes codes a
noting-start s m a n codes = record { size = refl; is = λ cs M. refl }

module _ {s m : List ℕ} {a n : ℕ} {codes₀ codes : List ℕ} {b : ℕ} (w : Noting s m a n codes₀ codes b) where
  pub noting-more : b < n → (codes' : List ℕ) → length codes' ≡ length codes → FreedNoted s m b 1 codes codes' → Noting s m a n codes₀ codes' (b + 1)
  unfolding freed_codes
  noting-more h codes' l F =
      record {
        size = l ∙ w.size;
        is = λ cs M. w.is cs M ∙ ap (freed_codes s cs codes) (interval-from n b h) ∙ ap (λ (x : List ℕ). freed_codes s cs x (interval (b + 1) (n - (b + 1)))) (sym (F.is cs M));
      }

  pub noting-end : n ≤ b → FreedNoted s m a (n - a) codes₀ codes
  unfolding freed_codes
  noting-end h = let e : n - b ≡ 0 = omega arith in record { is = λ cs M. sym (w.is cs M ∙ ap (λ (j : ℕ). freed_codes s cs codes (interval b j)) e) }

-- WHETHER THE TABLE WAS RIGHT
ones-left : (k a : ℕ) (s : List ℕ) → all_ones (next s) a k ≡ true → in_turn one_at s (interval a k) ≡ s
unfolding all_ones in_turn
ones-left zero a s e = refl
ones-left (suc k) a s e =
    let w = and_split (eqb (next s a) 1) (every (λ b. eqb (next s b) 1) (interval (suc a) k)) e in
    ap (λ (u : List ℕ). in_turn one_at u (interval (suc a) k)) (one_left s a w.0) ∙ ones-left k (suc a) s w.1

frees-left : (cs : List ℕ) (k a : ℕ) (s : List ℕ) → every (λ b. has eqb b cs || eqb (next s b) 0) (interval a k) ≡ true → in_turn (free_at cs) s (interval a k) ≡ s
unfolding in_turn
frees-left cs zero a s e = refl
frees-left cs (suc k) a s e =
    let w = and_split (has eqb a cs || eqb (next s a) 0) (every (λ b. has eqb b cs || eqb (next s b) 0) (interval (suc a) k)) e in
    ap (λ (u : List ℕ). in_turn (free_at cs) u (interval (suc a) k)) (free-left s cs a w.0) ∙ frees-left cs k (suc a) s w.1

module _ (s : List ℕ) (n : ℕ) (H : Shape s n) where
  count : block_count s ≡ n
  count = shape-block_count s n H

  pub ones-flag : (t : ℕ) → t ≡ table_blocks n → (r : Bool) → r ≡ all_ones (next s) 0 (t + 1) → r ≡ same s (ones_put s)
  unfolding ones_put all_ones
  ones-flag t et r e =
      let q : all_ones (next s) 0 (t + 1) ≡ all_ones (next s) 0 (root_block (block_count s)) = rw (et, count) in
      e ∙ q ∙ both_ways _ _
      (λ z. subst (λ (u : List ℕ). same s u ≡ true) (sym (ones-left (root_block (block_count s)) 0 s z)) (same_refl s))
      (λ z. let O : Ones n H.low s (in_turn one_at s (interval 0 (root_block (block_count s)))) 0 (root_block (block_count s)) = ones-put n H.low (root_block (block_count s)) 0 s H.whole (omega (arith, count)) in
      interval-every (λ b. eqb (next s b) 1) 0 (root_block (block_count s)) (λ x l h. eq-eqb (next s x) 1 (ap (λ (u : List ℕ). next u x) (same-eq s _ z) ∙ O.ones x l h)))

  pub padding-flag : (m : List ℕ) (t : ℕ) → t ≡ table_blocks n → (r : Bool) → AllFree s m n (128 * t - n) r → (cs : List ℕ) → MarksOf m cs → r ≡ same s (padding_put cs s)
  unfolding padding_put
  padding-flag m t et r A cs M =
      let k : ℕ = 128 * table_blocks (block_count s) - block_count s in
      let q : every (λ b. has eqb b cs || eqb (next s b) 0) (interval n (128 * t - n)) ≡ every (λ b. has eqb b cs || eqb (next s b) 0) (interval (block_count s) k) = rw (et, count) in
      A.told cs M ∙ q ∙ both_ways _ _
      (λ z. subst (λ (u : List ℕ). same s u ≡ true) (sym (frees-left cs k (block_count s) s z)) (same_refl s))
      (λ z. let F : Frees n H.low cs s (in_turn (free_at cs) s (interval (block_count s) k)) (block_count s) k = frees-put n H.low cs k (block_count s) s H.whole (omega (arith, count, H.low)) (omega (arith, count, H.low)) in
      interval-every (λ b. has eqb b cs || eqb (next s b) 0) (block_count s) k
      (λ x l h. go x (has eqb x cs) refl (λ o. ap (λ (u : List ℕ). next u x) (same-eq s _ z) ∙ F.free x l h (λ i. true-not-false (in-has-eqb x cs i) o))))
    where
      go : (x : ℕ) (t : Bool) → has eqb x cs ≡ t → (has eqb x cs ≡ false → next s x ≡ 0) → has eqb x cs || eqb (next s x) 0 ≡ true
      go x true e f = rw e
      go x false e f = rw (e, eq-eqb (next s x) 0 (f e))

  -- and the header
  head-left : stage2 s ≡ true → stage3 s ≡ true → stage7 s ≡ true → s ≡ head_put s
  unfolding head_put stage3
  head-left a b c =
      let w₁ = and_split (eqb (be32 s 12) (block_count s)) _ b in
      let w₂ = and_split (eqb (be32 s 16) (table_blocks (block_count s))) _ w₁.1 in
      let q₁ : put_number s 12 (block_count s) ≡ s = sym (number-left s 12 (block_count s) (eqb-true _ _ w₁.0)) in
      let q₂ : put_number s 16 (table_blocks (block_count s)) ≡ s = sym (number-left s 16 (table_blocks (block_count s)) (eqb-true _ _ w₂.0)) in
      let q₃ : put_number s 28 (root_block (block_count s)) ≡ s = sym (number-left s 28 (root_block (block_count s)) (eqb-true _ _ w₂.1)) in
      rw (a, q₁, q₂, q₃, counts-left s c)

  W : HeadIs n s (head_put s)
  W = head-is n H.low H.high s H.whole

  pub head-bad : head_stage s ≢ 0 → false ≡ same s (head_put s)
  unfolding head_stage
  head-bad ne =
      sym (is_false _ (λ z. let q : s ≡ head_put s = same-eq s (head_put s) z in
      let a : stage2 s ≡ true = subst (λ (u : List ℕ). stage2 u ≡ true) (sym q) W.signed in
      let b : stage3 s ≡ true = subst (λ (u : List ℕ). stage3 u ≡ true) (sym q) W.numbered in
      ne (rw (one, a, b))))
    where
      one : stage1 s ≡ true
      one = shape-stage1 s n H

  pub head-counted : head_stage s ≡ 0 → (r : Bool) → r ≡ stage7 s → r ≡ same s (head_put s)
  unfolding head_stage
  head-counted e r er =
      let a = require-zero (stage1 s) 0 _ e in
      let b = require-zero (stage2 s) 1 _ a.1 in
      let c = require-zero (stage3 s) 2 _ b.1 in
      er ∙ both_ways _ _ (λ z. subst (λ (u : List ℕ). same s u ≡ true) (head-left b.0 c.0 z) (same_refl s)) (λ z. subst (λ (u : List ℕ). stage7 u ≡ true) (sym (same-eq s (head_put s) z)) W.counted)

-- THE HEADER WRITTEN
pub header-steps : (s : List ℕ) (t n : ℕ) (s₁ s₂ s₃ s₄ s₅ : List ℕ) → block_count s ≡ n → t ≡ table_blocks n → s₁ ≡ signed s → s₂ ≡ put_number s₁ 12 n → s₃ ≡ put_number s₂ 16 t → s₄ ≡ put_number s₃ 28 (t + 1) → s₅ ≡ counts_put s₄ → s₅ ≡ head_put s
unfolding head_put signed
header-steps s t n s₁ s₂ s₃ s₄ s₅ c et e₁ e₂ e₃ e₄ e₅ = rw (e₅, e₄, e₃, e₂, e₁, c, et)

-- ALL OF IT
module _ (s m codes : List ℕ) (n t : ℕ) (H : Shape s n) (et : t ≡ table_blocks n) where
  pub blocks-put : (r : Bool) → r ≡ all_ones (next s) 0 (t + 1) → (s₁ s₂ codes' : List ℕ) → s₁ ≡ in_turn one_at s (interval 0 (t + 1)) → FreedNoted s₁ m (t + 1) (n - (t + 1)) codes codes' → EntriesFreed s₁ m (t + 1) (n - (t + 1)) s₂ → BlocksPut s m codes r s₂ codes'
  unfolding ones_put blocks_freed
  blocks-put r er s₁ s₂ codes' e₁ F E =
      let c = shape-block_count s n H in
      let q : s₁ ≡ in_turn one_at s (interval 0 (root_block (block_count s))) = e₁ ∙ rw (et, c) in
      let l : length s₁ ≡ length s = ap length e₁ ∙ (ones-put n H.low (t + 1) 0 s H.whole (omega arith)).len in
      let d : block_count s₁ ≡ n = ap (λ (x : ℕ). x / 512) l ∙ c in
      record {
        right = ones-flag s n H t et r er;
        image = λ cs M. E.freed cs M ∙ (let z : in_turn (free_at cs) s₁ (interval (t + 1) (n - (t + 1))) ≡ in_turn (free_at cs) s₁ (interval (root_block (block_count s₁)) (block_count s₁ - root_block (block_count s₁))) = rw (d, et) in z) ∙ ap (blocks_freed cs) q;
        codes-are = λ cs M. F.is cs M ∙ (let z : freed_codes s₁ cs codes (interval (t + 1) (n - (t + 1))) ≡ freed_codes s₁ cs codes (interval (root_block (block_count s)) (block_count s - root_block (block_count s))) = rw (c, et) in z) ∙ ap (λ (u : List ℕ). freed_codes u cs codes (interval (root_block (block_count s)) (block_count s - root_block (block_count s)))) q;
      }

  pub padding-put : (r : Bool) → AllFree s m n (128 * t - n) r → (s' : List ℕ) → EntriesFreed s m n (128 * t - n) s' → PaddingPut s m r s'
  unfolding padding_put
  padding-put r A s' E =
      let c = shape-block_count s n H in
      record {
        right = λ cs M. padding-flag s n H m t et r A cs M;
        image = λ cs M. E.freed cs M ∙ (let z : in_turn (free_at cs) s (interval n (128 * t - n)) ≡ in_turn (free_at cs) s (interval (block_count s) (128 * table_blocks (block_count s) - block_count s)) = rw (c, et) in z);
      }

pub rest_put : (s m codes s₁ c₁ s₂ s₃ c₃ : List ℕ) (x y z : Bool) → BlocksPut s m codes x s₁ c₁ → PaddingPut s₁ m y s₂ → z ≡ same s₂ (head_put s₂) → s₃ ≡ head_put s₂ → c₃ ≡ coded c₁ (512 * 0 + 128 * 0) (cond (x && (y && z)) 0 3) → RestPut s m codes s₃ c₃
unfolding rest
rest_put s m codes s₁ c₁ s₂ s₃ c₃ x y z B P ez e₃ ec =
    record {
      image = λ cs M. e₃ ∙ ap head_put (P.image cs M ∙ ap (padding_put cs) (B.image cs M));
      codes-are = λ cs M.
          let b : s₁ ≡ blocks_freed cs (ones_put s) = B.image cs M in
          let p : s₂ ≡ padding_put cs (blocks_freed cs (ones_put s)) = P.image cs M ∙ ap (padding_put cs) b in
          let fy : y ≡ same (blocks_freed cs (ones_put s)) (padding_put cs (blocks_freed cs (ones_put s))) = P.right cs M ∙ rw b in
          let fz : z ≡ same (padding_put cs (blocks_freed cs (ones_put s))) (head_put (padding_put cs (blocks_freed cs (ones_put s)))) = ez ∙ rw p in
          ec ∙ rw (B.codes-are cs M, B.right, fy, fz);
    }

-- the signature
-- `starts_with` in the words of the definitions
pub begins-is : (s : List ℕ) → starts_with eqb s signature ≡ stage2 s
unfolding stage2
begins-is s = pointwise-same signature (take 12 s) ∙ same-turned signature (take 12 s)

module _ (s : List ℕ) (r : Bool) (e : r ≡ starts_with eqb s signature) where
  pub signed-left : r ≡ true → s ≡ signed s
  unfolding signed
  signed-left z = rw (sym (begins-is s) ∙ sym e ∙ z)

  pub signed-set : r ≡ false → signature ++ drop 12 s ≡ signed s
  unfolding signed splice
  signed-set z = rw (sym (begins-is s) ∙ sym e ∙ z)
