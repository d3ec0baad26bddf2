-- What is put right after the slots.
use Prim.Native.Nat.{ℕ, suc, ◌+◌, ◌-◌, ◌*◌, ◌/◌, ◌%◌, ◌≤◌, ◌<◌}
use mathlib.Core.Bool.{true, false, ◌||◌, or-true}
use mathlib.Core.List.{List, [], ◌∷◌}
use mathlib.Core.Path.{◌≡◌, sym, ap, ◌∙◌}
use native.Mathlib.Omega.{arith}
use lib.Dec.{eqb}
use lib.ListN.{length, get_or}
use borrow.Author.Tests.{eq-eqb, ne_eqb, lt-ltb, ltb-true}
use Rattle.layout.specs.Lists.{interval, has}
use Rattle.layout.specs.Bytes.{be32, zeros, splice}
use Rattle.layout.specs.Geometry.{block_count, table_blocks}
use Rattle.layout.specs.Table.{next, set_next, occupied}
use Rattle.layout.specs.Directory.{slot_at, type_of}
use Rattle.layout.specs.Check.{stage7}
use Rattle.layout.specs.Walks.Chains.{count_used}
use Rattle.layout.specs.Walks.Shapes.{Shape}
use Rattle.layout.specs.Walks.Slots.{entry_at}
use Rattle.volume.specs.Entries.{set_occupied}
use Rattle.layout.proofs.Laws.Tests.{is_false}
use Rattle.layout.proofs.Laws.Lists.{in-has-eqb, false-has}
use Rattle.layout.proofs.Walks.Shapes.{shape-block_count}
use Rattle.salvage.specs.Salvage.{end_at, end_right, end_put, one_at, free_at, in_turn, table_put, counts_put}
use Rattle.salvage.specs.Walks.{MarksOf, EntryFreed, EntriesFreed, TablePut}
use Rattle.salvage.proofs.Walks.Turns.{end-left, end-set, free-left, free-block, free-padding, counts-left, counts-new, turn_end, turn-next}
use Rattle.salvage.proofs.Walks.Claims.{unmarked-out, marked-in}

-- THE END SLOT is the last of the last block
module _ (s ds : List ℕ) (d b : ℕ) (size : length ds ≡ d) (some : 1 ≤ d) (last : b ≡ get_or ds (d - 1) 0) where
  end_is : end_at ds ≡ 512 * b + 384
  unfolding slot_at
  end_is =
      let q : (4 * length ds - 1) / 4 ≡ d - 1 = omega arith in
      let r : (4 * length ds - 1) % 4 ≡ 3 = omega arith in
      rw (q, r, ← last)

  module _ (type : ℕ) (et : type ≡ type_of s (entry_at b 3)) where
    pub end-right : type ≡ 255 → end_right s ds ≡ true
    unfolding end_right
    end-right z = rw end_is (eq-eqb _ 255 (sym et ∙ z))

    pub end-wrong : (type ≡ 255 → ⊥) → end_right s ds ≡ false
    unfolding end_right
    end-wrong z = rw end_is (ne_eqb _ 255 (λ e. z (et ∙ e)))

    pub end-stored : (type ≡ 255 → ⊥) → splice s (512 * b + 384) (255 ∷ []) ≡ end_put s ds
    end-stored z = ap (λ (x : ℕ). splice s x (255 ∷ [])) (sym end_is) ∙ sym (end-set s ds (end-wrong z))

    pub end_kept : type ≡ 255 → s ≡ end_put s ds
    end_kept z = sym (end-left s ds (end-right z))

-- AN ENTRY that is not claimed
module _ (s m : List ℕ) (n b : ℕ) (shape : Shape s n) where
  pub freed-marked : (get_or m b 0 ≡ 0 → ⊥) → EntryFreed s m b s
  freed-marked z = record { freed = λ cs M. sym (free-left s cs b (rw (in-has-eqb b cs (marked-in m cs b M z)))) }

  pub freed-free : next s b ≡ 0 → EntryFreed s m b s
  freed-free z = record { freed = λ cs M. sym (free-left s cs b (rw (eq-eqb (next s b) 0 z) (or-true (has eqb b cs)))) }

  module _ (clear : get_or m b 0 ≡ 0) (used : next s b ≡ 0 → ⊥) (s' : List ℕ) where
    lost : (cs : List ℕ) → MarksOf m cs → has eqb b cs || eqb (next s b) 0 ≡ false
    lost cs M = rw (false-has b cs (unmarked-out m cs b M clear), ne_eqb (next s b) 0 used)

    pub freed-padding : n ≤ b → s' ≡ set_next s b 0 → EntryFreed s m b s'
    freed-padding h e =
        let c = shape-block_count s n shape in
        record { freed = λ cs M. e ∙ sym (free-padding s cs b (lost cs M) (is_false _ (λ z. let y : b < block_count s = ltb-true _ _ z in omega arith))) }

    pub freed-block : b < n → s' ≡ set_next (splice s (512 * b) (zeros 512)) b 0 → EntryFreed s m b s'
    freed-block h e =
        let c = shape-block_count s n shape in
        record { freed = λ cs M. e ∙ sym (free-block s cs b (lost cs M) (lt-ltb b (block_count s) (omega arith))) }

-- THE LOOPS: each entry in turn; the image will be `goal`
module _ (f : List ℕ → ℕ → List ℕ) (s : List ℕ) (b left : ℕ) where
  pub turn_last : left ≡ 0 → in_turn f s (interval b left) ≡ s
  turn_last e = ap (λ (j : ℕ). in_turn f s (interval b j)) e ∙ turn_end f s b

  pub turn_more : (rest : ℕ) → rest + 1 ≡ left → (s' : List ℕ) → s' ≡ f s b → in_turn f s (interval b left) ≡ in_turn f s' (interval (b + 1) rest)
  turn_more rest r s' e =
      let q : left ≡ suc rest = omega arith in
      let w : suc b ≡ b + 1 = omega arith in
      ap (λ (j : ℕ). in_turn f s (interval b j)) q ∙ turn-next f s b rest ∙ rw (e, w)

-- the entries from b on are freed, for every list of blocks that the marks are those of
pub record Freeing (s₀ m : List ℕ) (a k : ℕ) (s : List ℕ) (b left : ℕ) : Type 0 where
  pub size : length s ≡ length s₀
  pub whole : (cs : List ℕ) → MarksOf m cs → in_turn (free_at cs) s₀ (interval a k) ≡ in_turn (free_at cs) s (interval b left)

module _ {s₀ m : List ℕ} {a k : ℕ} {s : List ℕ} {b left : ℕ} (F : Freeing s₀ m a k s b left) where
  pub freeing-end : left ≡ 0 → EntriesFreed s₀ m a k s
  freeing-end e = record { freed = λ cs M. sym (F.whole cs M ∙ turn_last (free_at cs) s b left e) }

  pub freeing-turn : (rest : ℕ) → rest + 1 ≡ left → (s' : List ℕ) → length s' ≡ length s → EntryFreed s m b s' → Freeing s₀ m a k s' (b + 1) rest
  freeing-turn rest r s' l E = record { size = l ∙ F.size; whole = λ cs M. F.whole cs M ∙ turn_more (free_at cs) s b left rest r s' (E.freed cs M) }

-- THE TABLE
pub table-put : (s m : List ℕ) (t n : ℕ) (s₁ s' : List ℕ) → Shape s n → t ≡ table_blocks n → s₁ ≡ in_turn one_at s (interval 0 (t + 1))
    → EntriesFreed s₁ m (t + 1) (128 * t - (t + 1)) s' → TablePut s m s'
unfolding table_put
table-put s m t n s₁ s' shape et e E =
    let c : t ≡ table_blocks (block_count s) = et ∙ ap table_blocks (sym (shape-block_count s n shape)) in
    record { put = λ cs M. rw (← c, ← e) (E.freed cs M) }

-- THE COUNTS
module _ (s : List ℕ) (n used : ℕ) (shape : Shape s n) (eu : used ≡ count_used (next s) 0 n) where
  used-is : occupied (next s) (block_count s) ≡ used
  unfolding occupied count_used
  used-is = ap (occupied (next s)) (shape-block_count s n shape) ∙ sym eu

  pub counts-wrong : (x : ℕ) → x ≡ be32 s 20 → (x ≡ used → ⊥) → eqb x used ≡ stage7 s
  unfolding stage7
  counts-wrong x ex ne = rw (used-is, ← ex, ne_eqb x used ne)

  pub counts-are : (x : ℕ) → x ≡ be32 s 20 → x ≡ used → (y : ℕ) → y ≡ be32 s 24 → eqb y (n - used) ≡ stage7 s
  unfolding stage7
  counts-are x ex e y ey = rw (used-is, shape-block_count s n shape, ← ex, eq-eqb x used e, ← ey)

  pub counts-stay : true ≡ stage7 s → s ≡ counts_put s
  counts-stay e = sym (counts-left s (sym e))

  pub counts-set : false ≡ stage7 s → (s' : List ℕ) → s' ≡ set_occupied s n used → s' ≡ counts_put s
  counts-set e s' q = q ∙ ap (λ (x : ℕ). set_occupied s n x) (sym used-is) ∙ ap (λ (x : ℕ). set_occupied s x (occupied (next s) (block_count s))) (sym (shape-block_count s n shape)) ∙ sym (counts-new s (sym e))
