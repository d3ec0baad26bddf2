-- FROM THE SLOTS TO THE END: what the image w has of the image t of the slots, when all is put right.
use Prim.Native.Nat.{ℕ, suc, ◌+◌, ◌-◌, ◌*◌, ◌≤◌, ◌<◌}
use mathlib.Core.Bool.{true}
use mathlib.Core.List.{List}
use mathlib.Core.Logic.{◌⊎◌, inl, inr, ⊎_elim, ◌≢◌}
use mathlib.Core.Path.{◌≡◌, sym, ap, ◌∙◌, subst}
use native.Mathlib.Omega.{arith}
use lib.ListN.{length, get_or}
use Rattle.layout.specs.Lists.{interval}
use Rattle.layout.specs.Geometry.{block_count, table_blocks, root_block, in_volume}
use Rattle.layout.specs.Table.{next}
use Rattle.layout.specs.Directory.{slot_at, type_of}
use Rattle.layout.specs.Check.{stage7}
use Rattle.layout.proofs.Laws.Lists.{In, every_in}
use Rattle.layout.proofs.Laws.Frames.{Same, same_then, same-inner, same_byte}
use Rattle.layout.proofs.Laws.Chains.{in_volume-split}
use Rattle.salvage.specs.Salvage.{end_at, end_put, one_at, free_at, in_turn, table_put, counts_put}
use Rattle.salvage.proofs.Laws.Places.{Place, slot-low, slot-beside, slots_apart}
use Rattle.salvage.proofs.Laws.Done.{Done, stays, claimed-root}
use Rattle.salvage.proofs.Laws.Puts.{end-length, end_same, end-type, end-next, Ones, ones-put, Frees, frees-put, counts-length, counts_same, counts-next, counts-right}

abbrev pub last_one : List ℕ → List ℕ → List ℕ → List ℕ
last_one t ds cs = counts_put (table_put (end_put t ds) cs)

-- a block that is freed: not claimed, and its entry was not 0
pub record Freed (n : ℕ) (t cs : List ℕ) (b : ℕ) : Type 0 where
  pub above : table_blocks n < b
  pub below : b < n
  pub unclaimed : In b cs → ⊥
  pub used : next t b ≢ 0

pub record Final (n : ℕ) (ds t cs w : List ℕ) : Type 0 where
  pub len : length w ≡ length t
  pub head : Same t w 0 20
  pub tail : Same t w 28 484
  pub beside : (i k : ℕ) → 512 * root_block n ≤ i → (i + k ≤ end_at ds) ⊎ (end_at ds + 1 ≤ i)
      → ((b : ℕ) → Freed n t cs b → (i + k ≤ 512 * b) ⊎ (512 * b + 512 ≤ i)) → Same t w i k
  pub end : type_of w (end_at ds) ≡ 255
  pub kept : (x : ℕ) → In x cs → next w x ≡ next t x
  pub ones : (x : ℕ) → x ≤ table_blocks n → next w x ≡ 1
  pub free : (x : ℕ) → table_blocks n < x → x < 128 * table_blocks n → (In x cs → ⊥) → next w x ≡ 0
  pub blank : (b : ℕ) → Freed n t cs b → (i : ℕ) → i < 512 → get_or w (512 * b + i) 0 ≡ 0
  pub counts : stage7 w ≡ true

module _ (n : ℕ) (ds : List ℕ) (G : Place n ds) (t cs : List ℕ) (m : ℕ) (D : Done n ds t cs m) (hm : suc m ≡ 4 * length ds - 1) where
  abbrev u : List ℕ
  u = end_put t ds

  abbrev v₁ : List ℕ
  v₁ = in_turn one_at u (interval 0 (table_blocks n + 1))

  abbrev v₂ : List ℕ
  v₂ = in_turn (free_at cs) v₁ (interval (table_blocks n + 1) (128 * table_blocks n - (table_blocks n + 1)))

  len-u : length u ≡ 512 * n
  len-u = end-length n ds G t D.whole ∙ D.whole

  last-is : last_one t ds cs ≡ counts_put v₂
  unfolding table_put
  last-is = let b : block_count u ≡ n = omega (arith, len-u) in ap (λ (k : ℕ). counts_put (in_turn (free_at cs) (in_turn one_at u (interval 0 (table_blocks k + 1))) (interval (table_blocks k + 1) (128 * table_blocks k - (table_blocks k + 1))))) b

  O : Ones n G.least u v₁ 0 (table_blocks n + 1)
  O = ones-put n G.least (table_blocks n + 1) 0 u len-u (omega arith)

  len-v₁ : length v₁ ≡ 512 * n
  len-v₁ = O.len ∙ len-u

  F : Frees n G.least cs v₁ v₂ (table_blocks n + 1) (128 * table_blocks n - (table_blocks n + 1))
  F = frees-put n G.least cs (128 * table_blocks n - (table_blocks n + 1)) (table_blocks n + 1) v₁ len-v₁ (omega arith) (omega (arith, G.least))

  len-v₂ : length v₂ ≡ 512 * n
  len-v₂ = F.len ∙ len-v₁

  below-table : (x : ℕ) → In x cs → (table_blocks n < x) × (x < 128 * table_blocks n)
  below-table x i = let w = in_volume-split n x (every_in (in_volume n) cs x D.inside i) in (w.0, omega arith)

  end_low : 512 * root_block n ≤ end_at ds
  end_low = slot-low n ds G (4 * length ds - 1) (omega (arith, G.some))

  value₁ : (x : ℕ) → table_blocks n < x → x < 128 * table_blocks n → next v₁ x ≡ next t x
  value₁ x h l = O.others x (inr (omega arith)) ∙ end-next n ds G t D.whole x l

  beside₂ : (i k : ℕ) → 512 * root_block n ≤ i → (i + k ≤ end_at ds) ⊎ (end_at ds + 1 ≤ i)
      → ((b : ℕ) → Freed n t cs b → (i + k ≤ 512 * b) ⊎ (512 * b + 512 ≤ i)) → Same t v₂ i k
  beside₂ i k h e f =
      same_then t v₁ v₂ i k (same_then t u v₁ i k (end_same n ds G t D.whole i k e) (O.same i k (inr h)))
      (F.same i k (inr h) (λ b x y z o ne. f b (record { above = omega arith; below = z; unclaimed = o; used = λ q. ne (value₁ b (omega arith) (omega arith) ∙ q) })))

  front₂ : Same t v₂ 0 512
  front₂ =
      same_then t v₁ v₂ 0 512 (same_then t u v₁ 0 512 (end_same n ds G t D.whole 0 512 (inl (omega (arith, end_low)))) (O.same 0 512 (inl (omega arith))))
      (F.same 0 512 (inl (omega arith)) (λ b x y z o ne. inl (omega arith)))

  final-is : Final n ds t cs (counts_put v₂)
  final-is =
      let cl = counts-length n G.least G.most v₂ len-v₂ in
      let cs' = counts_same n G.least G.most v₂ len-v₂ in
      let cn = counts-next n G.least G.most v₂ len-v₂ in
      record {
        len = cl ∙ F.len ∙ O.len ∙ end-length n ds G t D.whole;
        head = same_then t v₂ (counts_put v₂) 0 20 (same-inner t v₂ 0 512 0 20 front₂ (omega arith) (omega arith)) (cs' 0 20 (inl (omega arith)));
        tail = same_then t v₂ (counts_put v₂) 28 484 (same-inner t v₂ 0 512 28 484 front₂ (omega arith) (omega arith)) (cs' 28 484 (inr (omega arith)));
        beside = λ i k h e f. same_then t v₂ (counts_put v₂) i k (beside₂ i k h e f) (cs' i k (inr (omega arith)));
        end = same_byte v₂ (counts_put v₂) (end_at ds) 1 (end_at ds) (cs' (end_at ds) 1 (inr (omega (arith, end_low)))) (omega arith) (omega arith)
            ∙ same_byte u v₂ (end_at ds) 1 (end_at ds) (same_then u v₁ v₂ (end_at ds) 1 (O.same (end_at ds) 1 (inr end_low)) (F.same (end_at ds) 1 (inr end_low) end-beside)) (omega arith) (omega arith)
            ∙ end-type n ds G t D.whole;
        kept = λ x i. let w = below-table x i in cn x ∙ F.kept x w.1 i ∙ value₁ x w.0 w.1;
        ones = λ x h. cn x ∙ F.others x (omega (arith, G.least)) (inl (omega arith)) ∙ O.ones x (omega arith) (omega arith);
        free = λ x h l o. cn x ∙ F.free x (omega arith) (omega arith) o;
        blank = λ b f i il.
            cs' (512 * b) 512 (inr (omega (arith, f.above))) i il
            ∙ F.blank b (omega (arith, f.above)) (omega (arith, f.above, f.below)) f.below f.unclaimed
            (λ z. f.used (sym (value₁ b f.above (omega (arith, f.below))) ∙ z)) i il;
        counts = counts-right n G.least G.most v₂ len-v₂;
      }
    where
      end-beside : (b : ℕ) → table_blocks n + 1 ≤ b → b < table_blocks n + 1 + (128 * table_blocks n - (table_blocks n + 1)) → b < n → (In b cs → ⊥) → next v₁ b ≢ 0 → (end_at ds + 1 ≤ 512 * b) ⊎ (512 * b + 512 ≤ end_at ds)
      end-beside b x y z o ne = ⊎_elim (λ l. inl (omega arith)) (λ l. inr l)
          (slot-beside n ds G (4 * length ds - 1) (omega (arith, G.some)) b (λ i. o (claimed-root n ds G t cs m D (omega (arith, G.some)) b i)))

  pub final : Final n ds t cs (last_one t ds cs)
  final = subst (Final n ds t cs) (sym last-is) final-is

  -- the slots but the end stay
  module _ (w : List ℕ) (E : Final n ds t cs w) where
    pub final-slot : (j : ℕ) → j ≤ m → Same t w (slot_at ds j) 128
    final-slot j h =
        E.beside (slot_at ds j) 128 (slot-low n ds G j (omega (arith, G.some)))
        (⊎_elim (λ l. inl (omega arith)) (λ l. inr (omega arith)) (slots_apart n ds G j (4 * length ds - 1) (omega (arith, G.some)) (omega (arith, G.some)) (λ q. omega (arith, G.some))))
        (λ b f. slot-beside n ds G j (omega (arith, G.some)) b (λ i. f.unclaimed (claimed-root n ds G t cs m D (omega (arith, G.some)) b i)))

    pub final-done : Done n ds w cs m
    final-done = stays n ds G t cs m D (omega (arith, G.some)) w E.len (λ j h l. final-slot j l) E.kept
