-- A change in steps: while the chain of the owner e grows or shrinks, the directories ks stay, block and slot (Midway); when a slot has the new chains,
-- the image is sound again (midway_end). The chains of all other owners are given by f and l: those of s (midway_start), or those that the steps of an
-- earlier chain left (midway-then, staying-then), where both chains of a file change. For a file, ks are all directories and the owners P those of
-- their entries. A new directory's self entry is one owner
-- more, with no blocks at first; the self entry of a directory that goes is an owner, and that directory is not among ks.
use Prim.Native.Nat.{ℕ, ◌+◌, ◌-◌, ◌*◌, ◌/◌, ◌≤◌, ◌<◌}
use mathlib.Core.Path.{◌≡◌, refl, sym, ap, ◌∙◌, subst}
use mathlib.Core.Bool.{true, false, cond}
use mathlib.Core.List.{List}
use mathlib.Core.Logic.{◌⊎◌, inl, ◌≢◌, inr, ⊎_elim}
use native.Mathlib.Omega.{arith}
use native.Mathlib.Decide.{ℕ_discrete}
use borrow.Author.Tests.{eq-eqb, ne_eqb}
use lib.ListN.{length}
use lib.Dec.{eqb}
use Rattle.layout.specs.Bytes.{be32, splice}
use Rattle.layout.specs.Geometry.{block_count, table_blocks}
use Rattle.layout.specs.Table.{next, occupied}
use Rattle.layout.specs.Directory.{slot_at, type_of, first_block, is_directory, name_of, directory, dirs}
use Rattle.layout.specs.Check.{slot_ok}
use Rattle.layout.proofs.Laws.Tests.{lt-or-gt}
use Rattle.layout.proofs.Laws.Lists.{In}
use Rattle.layout.proofs.Laws.Joins.{of-join, to-join}
use Rattle.layout.proofs.Laws.Frames.{Same, same_then, same-inner, before-next, before-occupied, before-header, same-below, same_beside}
use Rattle.layout.proofs.Laws.Chains.{nth, nth-agree, chain-used}
use Rattle.layout.proofs.Laws.Tables.{Table, table_same}
use Rattle.layout.proofs.Laws.Visits.{blocks_in}
use Rattle.layout.proofs.Laws.Trees.{size_at, in_tree, in-directory, directory-in, block-above}
use Rattle.layout.proofs.Laws.Sound.{held_at, Sound, Entry, blocks_of_all, Owner}
use Rattle.layout.proofs.Laws.Slots.{slot-entry, entry-high, entry-low, entries-apart}
use Rattle.layout.proofs.Laws.Changed.{OneSlot, sound-again}
use Rattle.layout.proofs.Laws.Owners.{self-first, self-size, self-entry, owner-stays}
use Rattle.layout.proofs.Laws.Bytes.{length-splice}

-- f, but x at k
abbrev pub over : ℕ → ℕ → (ℕ → ℕ) → ℕ → ℕ
over k x f j = cond (eqb j k) x (f j)

pub over-same : (k x : ℕ) (f : ℕ → ℕ) → over k x f k ≡ x
over-same k x f = rw (eq-eqb k k refl)

pub over-other : (k x : ℕ) (f : ℕ → ℕ) (j : ℕ) → j ≢ k → over k x f j ≡ f j
over-other k x f j ne = rw (ne_eqb j k ne)

-- t stands between s and the end of a change: the directories ks are as they were, and the chain of the owner e is now the c blocks from b
pub record Midway (s : List ℕ) (ks : List (ℕ × ℕ)) (P : ℕ → Type 0) (f l : ℕ → ℕ) (e : ℕ) (t : List ℕ) (b c : ℕ) : Type 0 where
  pub len : length t ≡ length s
  pub head : Same s t 0 20
  pub tail : Same s t 28 4
  pub kept : (q : ℕ) → In q (blocks_of_all s ks) → Same s t (512 * q) 512
  pub values : (q : ℕ) → In q (blocks_of_all s ks) → next t q ≡ next s q
  pub table : Table (block_count s) P (next t) (over e b f) (over e c l)
  pub used : be32 t 20 ≡ occupied (next t) (block_count s)
  pub free : be32 t 24 ≡ block_count s - occupied (next t) (block_count s)

-- what is asked of a change: the directories that stay are of the tree, their self entries own blocks, and e is none of these
pub record Staying (s : List ℕ) (ks : List (ℕ × ℕ)) (P : ℕ → Type 0) (f l : ℕ → ℕ) (e : ℕ) : Type 0 where
  pub owner : P e
  pub of_tree : (d : ℕ × ℕ) → In d ks → In d (dirs s)
  pub selfs : (d : ℕ × ℕ) → In d ks → P (512 * d.0)
  pub apart : (d : ℕ × ℕ) → In d ks → 512 * d.0 ≢ e
  pub firsts : (d : ℕ × ℕ) → In d ks → f (512 * d.0) ≡ d.0
  pub sizes : (d : ℕ × ℕ) → In d ks → l (512 * d.0) ≡ size_at s d.0

module _ (s : List ℕ) (S : Sound s) (ks : List (ℕ × ℕ)) (P : ℕ → Type 0) (f l : ℕ → ℕ) (e : ℕ) (St : Staying s ks P f l e) where
  abbrev n : ℕ
  n = block_count s

  -- the directory blocks that stay are above the table, and not of the chain
  pub kept_above : (q : ℕ) → In q (blocks_of_all s ks) → (table_blocks n < q) × (q < n)
  kept_above q i =
      let r = of-join (blocks_in s) ks q i in
      block-above s n S.tree S.least q (to-join (blocks_in s) (dirs s) r.0 q (St.of_tree r.0 r.1) r.2)

  pub kept-used : (q : ℕ) → In q (blocks_of_all s ks) → next s q ≢ 0
  kept-used q i =
      let r = of-join (blocks_in s) ks q i in
      let x = in-directory s r.0.0 q r.2 in
      let D = in_tree s n S.tree r.0 (St.of_tree r.0 r.1) in
      rw x.2 (chain-used (next s) n r.0.0 (size_at s r.0.0) D.1.chained S.least x.0 x.1)

  pub dir-apart : (t : List ℕ) (b c : ℕ) → Midway s ks P f l e t b c → (q : ℕ) → In q (blocks_of_all s ks) → (y : ℕ) → y < c → q ≢ nth (next t) y b
  dir-apart t b c I q i y hy z =
      let r = of-join (blocks_in s) ks q i in
      let d = r.0 in
      let x = in-directory s d.0 q r.2 in
      let a : ℕ = 512 * d.0 in
      let ne : a ≢ e = St.apart d r.1 in
      let p : over e b f a ≡ d.0 = over-other e b f a ne ∙ St.firsts d r.1 in
      let w : over e c l a ≡ size_at s d.0 = over-other e c l a ne ∙ St.sizes d r.1 in
      let g : nth (next t) x.0 d.0 ≡ nth (next s) x.0 d.0 =
      nth-agree (next s) (next t) x.0 d.0 (λ j h. I.values (nth (next s) j d.0) (to-join (blocks_in s) ks d (nth (next s) j d.0) r.1 (directory-in s d.0 j (omega (arith, x.1))))) in
      I.table.apart a e (St.selfs d r.1) St.owner ne x.0 y (omega (arith, x.1)) (omega (arith, over-same e c l))
      (ap (nth (next t) x.0) p ∙ g ∙ sym x.2 ∙ z ∙ ap (nth (next t) y) (sym (over-same e b f)))

  -- bytes in a block that is none of the directories'
  module _ (t : List ℕ) (b c : ℕ) (I : Midway s ks P f l e t b c) (q : ℕ) (tq : table_blocks n < q) (qn : q < n)
      (far : In q (blocks_of_all s ks) → ⊥) (at : ℕ) (p : List ℕ) (h₁ : 512 * q ≤ at) (h₂ : at + length p ≤ 512 * q + 512)
    where
      fits : at + length p ≤ length t
      fits = omega (arith, I.len, S.whole)

      under : Same t (splice t at p) 0 (512 * (table_blocks n + 1))
      under = same-below t at p fits 0 (512 * (table_blocks n + 1)) (omega arith)

      entries : (x : ℕ) → x < 128 * table_blocks n → next (splice t at p) x ≡ next t x
      entries = before-next t (splice t at p) n under

      count : occupied (next (splice t at p)) n ≡ occupied (next t) n
      count = before-occupied t (splice t at p) n under

      header : (i : ℕ) → i + 4 ≤ 512 → be32 (splice t at p) i ≡ be32 t i
      header = before-header t (splice t at p) n under

      beside : (x : ℕ) → In x (blocks_of_all s ks) → (512 * x + 512 ≤ at) ⊎ (at + length p ≤ 512 * x)
      beside x i = ⊎_elim (λ lt. inl (omega arith)) (λ lt. inr (omega arith)) (lt-or-gt x q (λ z. far (subst (λ (w : ℕ). In w (blocks_of_all s ks)) z i)))

      pub bytes-step : Midway s ks P f l e (splice t at p) b c
      bytes-step =
          record {
            len = length-splice t at p fits ∙ I.len;
            head = same_then s t (splice t at p) 0 20 I.head (same-inner t (splice t at p) 0 (512 * (table_blocks n + 1)) 0 20 under (omega arith) (omega arith));
            tail = same_then s t (splice t at p) 28 4 I.tail (same-inner t (splice t at p) 0 (512 * (table_blocks n + 1)) 28 4 under (omega arith) (omega arith));
            kept = λ x i. same_then s t (splice t at p) (512 * x) 512 (I.kept x i) (same_beside t at p fits (512 * x) 512 (beside x i));
            values = λ x i. entries x (omega (arith, (kept_above x i).1)) ∙ I.values x i;
            table = table_same n P (next t) (over e b f) (over e c l) I.table S.least (next (splice t at p)) (over e b f) (over e c l) entries (λ j h. refl) (λ j h pos. refl);
            used = header 20 (omega arith) ∙ I.used ∙ sym count;
            free = header 24 (omega arith) ∙ I.free ∙ ap (λ (z : ℕ). n - z) (sym count);
          }

-- where a change of the chain of e begins
over-self : (e : ℕ) (g : ℕ → ℕ) (j : ℕ) → Dec (j ≡ e) → over e (g e) g j ≡ g j
over-self e g j (yes q) = subst (λ (z : ℕ). over e (g e) g z ≡ g z) (sym q) (over-same e (g e) g)
over-self e g j (no ne) = over-other e (g e) g j ne

module _ (s : List ℕ) (S : Sound s) (ks : List (ℕ × ℕ)) (e : ℕ) where
  pub midway-of : Midway s ks (Owner s) (first_block s) (held_at s) e s (first_block s e) (held_at s e)
  midway-of =
      record {
        len = refl;
        head = λ i h. refl;
        tail = λ i h. refl;
        kept = λ q g i h. refl;
        values = λ q h. refl;
        table = table_same (block_count s) (Owner s) (next s) (first_block s) (held_at s) S.table S.least (next s) (over e (first_block s e) (first_block s)) (over e (held_at s e) (held_at s))
            (λ b h. refl) (λ j h. over-self e (held_at s) j (ℕ_discrete j e)) (λ j h pos. over-self e (first_block s) j (ℕ_discrete j e));
        used = S.used-is;
        free = S.free-is;
      }

-- then a change of the chain of e₂
module _ (s : List ℕ) (S : Sound s) (ks : List (ℕ × ℕ)) (P : ℕ → Type 0) (f l : ℕ → ℕ) (e : ℕ) (St : Staying s ks P f l e) (b c e₂ : ℕ) where
  pub staying-then : P e₂ → ((d : ℕ × ℕ) → In d ks → 512 * d.0 ≢ e₂) → Staying s ks P (over e b f) (over e c l) e₂
  staying-then owner apart =
      record {
        owner = owner;
        of_tree = St.of_tree;
        selfs = St.selfs;
        apart = apart;
        firsts = λ d i. over-other e b f (512 * d.0) (St.apart d i) ∙ St.firsts d i;
        sizes = λ d i. over-other e c l (512 * d.0) (St.apart d i) ∙ St.sizes d i;
      }

  pub midway-then : (t : List ℕ) → Midway s ks P f l e t b c → Midway s ks P (over e b f) (over e c l) e₂ t (over e b f e₂) (over e c l e₂)
  midway-then t I =
      record {
        len = I.len;
        head = I.head;
        tail = I.tail;
        kept = I.kept;
        values = I.values;
        table = table_same (block_count s) P (next t) (over e b f) (over e c l) I.table S.least (next t) (over e₂ (over e b f e₂) (over e b f)) (over e₂ (over e c l e₂) (over e c l))
            (λ x h. refl) (λ j h. over-self e₂ (over e c l) j (ℕ_discrete j e₂)) (λ j h pos. over-self e₂ (over e b f) j (ℕ_discrete j e₂));
        used = I.used;
        free = I.free;
      }

-- a change of a file: all directories stay
module _ (s : List ℕ) (S : Sound s) (e : ℕ) (A : Owner s e) (no_self : (d : ℕ × ℕ) → In d (dirs s) → 512 * d.0 ≢ e) where
  pub staying : Staying s (dirs s) (Owner s) (first_block s) (held_at s) e
  staying =
      record {
        owner = A;
        of_tree = λ d i. i;
        selfs = λ d i. inl (self-entry s S d i);
        apart = no_self;
        firsts = λ d i. self-first s S d i;
        sizes = λ d i. self-size s S d i;
      }

  pub midway_start : Midway s (dirs s) (Owner s) (first_block s) (held_at s) e s (first_block s e) (held_at s e)
  midway_start = midway-of s S (dirs s) e

-- the slot is written, and the image is sound again: slot k of the directory d
module _ (s : List ℕ) (S : Sound s) (d : ℕ × ℕ) (di : In d (dirs s)) (k : ℕ) (k₁ : 1 ≤ k) (k₂ : k < 4 * size_at s d.0 - 1) where
  abbrev e' : ℕ
  e' = slot_at (directory s d.0) k

  mine : Entry s e'
  mine = slot-entry s S d di k (omega arith)

  module _ (f l : ℕ → ℕ) (a₀ : ℕ) (t : List ℕ) (b c : ℕ) (I : Midway s (dirs s) (Owner s) f l a₀ t b c) (t' : List ℕ) (len : length t' ≡ length t)
      (outside : (a w : ℕ) → (a + w ≤ e') ⊎ (e' + 128 ≤ a) → Same t t' a w)
    where
      before : Same t t' 0 (512 * (table_blocks (block_count s) + 1))
      before = outside 0 (512 * (table_blocks (block_count s) + 1)) (inl (omega (arith, entry-low s S e' mine)))

      entry_kept : (a : ℕ) → Entry s a → Same s t a 128
      entry_kept a E = let h = E.aligned in same-inner s t (512 * (a / 512)) 512 a 128 (I.kept (a / 512) E.within-tree) (omega arith) (omega arith)

      slot-values : (x : ℕ) → x < 128 * table_blocks (block_count s) → next t' x ≡ next t x
      slot-values = before-next t t' (block_count s) before

      pub one-slot : OneSlot s (dirs s) t' e'
      one-slot =
          record {
            len = len ∙ I.len;
            head = same_then s t t' 0 20 I.head (same-inner t t' 0 (512 * (table_blocks (block_count s) + 1)) 0 20 before (omega arith) (omega arith));
            tail = same_then s t t' 28 4 I.tail (same-inner t t' 0 (512 * (table_blocks (block_count s) + 1)) 28 4 before (omega arith) (omega arith));
            slots = λ a E ne. same_then s t t' a 128 (entry_kept a E) (outside a 128 (entries-apart s S a e' E mine ne));
            values = λ q i. slot-values q (omega (arith, (block-above s (block_count s) S.tree S.least q i).1)) ∙ I.values q i;
          }

      module _ (was : is_directory (type_of s e') ≡ false) (now : is_directory (type_of t' e') ≡ false) (ok : slot_ok t' e' ≡ true)
          (new : type_of t' e' ≢ 0 → (j : ℕ) → 1 ≤ j → j < 4 * size_at s d.0 - 1 → j ≢ k → type_of s (slot_at (directory s d.0) j) ≢ 0 → name_of t' e' ≢ name_of s (slot_at (directory s d.0) j))
          -- the table's chains are those of the slots
          (others : (a : ℕ) → Owner s a → a ≢ e' → a ≢ e' + 28 → (over a₀ c l a ≡ held_at s a) × (over a₀ b f a ≡ first_block s a))
          (own : (held_at t' e' ≡ over a₀ c l e') × (0 < over a₀ c l e' → first_block t' e' ≡ over a₀ b f e'))
          (second : (held_at t' (e' + 28) ≡ over a₀ c l (e' + 28)) × (0 < over a₀ c l (e' + 28) → first_block t' (e' + 28) ≡ over a₀ b f (e' + 28)))
        where
          chain-now : (a : ℕ) → Owner s a → Dec (a ≡ e') → Dec (a ≡ e' + 28) → (held_at t' a ≡ over a₀ c l a) × (0 < over a₀ c l a → first_block t' a ≡ over a₀ b f a)
          chain-now a A (yes q) r = subst (λ (z : ℕ). (held_at t' z ≡ over a₀ c l z) × (0 < over a₀ c l z → first_block t' z ≡ over a₀ b f z)) (sym q) own
          chain-now a A (no p) (yes q) = subst (λ (z : ℕ). (held_at t' z ≡ over a₀ c l z) × (0 < over a₀ c l z → first_block t' z ≡ over a₀ b f z)) (sym q) second
          chain-now a A (no p) (no q) =
              let w = owner-stays s t' (dirs s) e' one-slot.len (entry-high s S) one-slot.slots a A p q in
              let o = others a A p q in
              (w.0 ∙ sym o.0, λ pos. w.1 ∙ sym o.1)

          counted : occupied (next t') (block_count s) ≡ occupied (next t) (block_count s)
          counted = before-occupied t t' (block_count s) before

          pub midway_end : Sound t'
          midway_end =
              sound-again s t' S d di k k₁ k₂ one-slot was now ok new
              (table_same (block_count s) (Owner s) (next t) (over a₀ b f) (over a₀ c l) I.table S.least (next t') (first_block t') (held_at t') slot-values
              (λ a A. (chain-now a A (ℕ_discrete a e') (ℕ_discrete a (e' + 28))).0) (λ a A pos. (chain-now a A (ℕ_discrete a e') (ℕ_discrete a (e' + 28))).1 pos))
              (before-header t t' (block_count s) before 20 (omega arith) ∙ I.used ∙ sym counted)
              (before-header t t' (block_count s) before 24 (omega arith) ∙ I.free ∙ ap (λ (z : ℕ). block_count s - z) (sym counted))

  -- a change of a file's own chain alone: its attributes' chain is as before
  other_place : e' + 28 ≢ e'
  other_place q = omega arith

  pub midway-own : (t : List ℕ) (b c : ℕ) → Midway s (dirs s) (Owner s) (first_block s) (held_at s) e' t b c → (t' : List ℕ) → length t' ≡ length t
      → ((a w : ℕ) → (a + w ≤ e') ⊎ (e' + 128 ≤ a) → Same t t' a w) → is_directory (type_of s e') ≡ false → is_directory (type_of t' e') ≡ false → slot_ok t' e' ≡ true
      → (type_of t' e' ≢ 0 → (j : ℕ) → 1 ≤ j → j < 4 * size_at s d.0 - 1 → j ≢ k → type_of s (slot_at (directory s d.0) j) ≢ 0 → name_of t' e' ≢ name_of s (slot_at (directory s d.0) j))
      → (0 < c → first_block t' e' ≡ b) → held_at t' e' ≡ c
      → held_at t' (e' + 28) ≡ held_at s (e' + 28) → (0 < held_at s (e' + 28) → first_block t' (e' + 28) ≡ first_block s (e' + 28)) → Sound t'
  midway-own t b c I t' len outside was now ok new first blocks size start =
      midway_end (first_block s) (held_at s) e' t b c I t' len outside was now ok new
      (λ a A p q. (over-other e' c (held_at s) a p, over-other e' b (first_block s) a p))
      (blocks ∙ sym (over-same e' c (held_at s)), λ pos. first (rw (over-same e' c (held_at s)) at pos) ∙ sym (over-same e' b (first_block s))) (
        size ∙ sym (over-other e' c (held_at s) (e' + 28) other_place),
        λ pos. start (rw (over-other e' c (held_at s) (e' + 28) other_place) at pos) ∙ sym (over-other e' b (first_block s) (e' + 28) other_place),
      )
