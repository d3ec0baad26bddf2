-- An empty directory: slots 1 to 4d − 2 are free. It comes and goes in steps (Midway), as the chain of its self entry.
use Prim.Native.Nat.{ℕ, suc, ◌+◌, ◌-◌, ◌*◌, ◌/◌, ◌%◌, ◌≤◌, ◌<◌}
use mathlib.Core.Bool.{true, false}
use mathlib.Core.List.{List, [], map}
use mathlib.Core.Logic.{◌⊎◌, inl, inr, ⊎_elim, ◌≢◌}
use mathlib.Core.Path.{◌≡◌, refl, sym, ap, ◌∙◌, subst}
use native.Mathlib.Decide.{ℕ_discrete}
use native.Mathlib.Omega.{arith}
use lib.Dec.{eqb}
use lib.ListN.{length}
use Rattle.layout.specs.Claims.{Inserted}
use Rattle.layout.specs.Lists.{has}
use Rattle.layout.specs.Bytes.{be32, part}
use Rattle.layout.specs.Geometry.{block_count, table_blocks}
use Rattle.layout.specs.Table.{next, occupied}
use Rattle.layout.specs.Directory.{slot_at, slots, type_of, first_block, blocks_of, is_file, is_directory, name_of, directory, children, dirs}
use Rattle.layout.specs.Check.{slot_ok, child_ok}
use Rattle.layout.proofs.Laws.Tests.{within-split, true-not-false, lt-or-ge, true-or-false}
use Rattle.layout.proofs.Laws.Lists.{In, has-eqb-in, in-has-eqb}
use Rattle.layout.proofs.Laws.Joins.{select-none, of-join, to-join}
use Rattle.layout.proofs.Laws.Frames.{Same, same_then, same-inner, before-next, before-occupied, before-header}
use Rattle.layout.proofs.Laws.Chains.{nth, nth-agree}
use Rattle.layout.proofs.Laws.Tables.{Table, table_same, table-wider, table-narrower}
use Rattle.layout.proofs.Laws.Visits.{blocks_in, dir_blocks}
use Rattle.layout.proofs.Laws.Trees.{size_at, Directory, directory_ok-join, child_ok-join, length-directory, in-directory, directory-in, slot_at-is, slot_at-zero, block-above}
use Rattle.layout.proofs.Laws.Sound.{held_at, Sound, Entry, EntryIn, owns, own_held, Owner, OwnerIn, owner-map}
use Rattle.layout.proofs.Laws.Slots.{in-slots, new_name-join, slot-entry, entry-high, entry-low, entry-of-tree, entries-apart}
use Rattle.layout.proofs.Laws.Changed.{OneSlot, SlotsRight}
use Rattle.layout.proofs.Laws.Owners.{self-first, self-size, self-entry, self-held, none-held, none-second, directory-owns, owner-stays}
use Rattle.layout.proofs.Laws.Steps.{over, over-same, over-other, Midway, midway-of, Staying, dir-apart}
use Rattle.layout.proofs.Laws.Comes.{in-inserted, dirs-more, entry_more, entry_old, entry_new, sound_more}
use Rattle.layout.proofs.Laws.Goes.{gone-in, kept-apart, dirs-less, entry-left, entry_kept, entry-ks, sound-less}

pub record Empty (s : List ℕ) (b : ℕ) : Type 0 where
  pub least : 1 ≤ size_at s b
  pub self_type : type_of s (512 * b) ≡ 1
  pub end-type : type_of s (slot_at (directory s b) (4 * size_at s b - 1)) ≡ 255
  pub free : (k : ℕ) → 1 ≤ k → k < 4 * size_at s b - 1 → type_of s (slot_at (directory s b) k) ≡ 0

module _ (s : List ℕ) (b : ℕ) (M : Empty s b) where
  pub empty_leaf : children s b ≡ []
  unfolding children
  empty_leaf =
      ap (map (slot_at (directory s b))) (select-none (λ k. is_directory (type_of s (slot_at (directory s b) k))) (slots (directory s b))
      (λ k i t. let w = in-slots s b k i in let z = M.free k w.0 w.1 in let h = within-split 0x20 0x5F (type_of s (slot_at (directory s b) k)) t in omega arith))

  pub empty-slots : SlotsRight s b
  unfolding slot_ok
  empty-slots =
      record {
        end-type = rw (length-directory s b) M.end-type;
        slot = λ k i. let w = in-slots s b k i in rw (M.free k w.0 w.1);
        name = λ k i. let w = in-slots s b k i in new_name-join s (directory s b) k (λ u. absurd (u (M.free k w.0 w.1)));
      }

  -- an entry of its blocks is one of its slots
  pub block-slot : (a : ℕ) → In (a / 512) (directory s b) → a % 128 ≡ 0 → (k : ℕ) × (k < 4 * size_at s b) × (a ≡ slot_at (directory s b) k)
  block-slot a i h =
      let x = in-directory s b (a / 512) i in
      let k : ℕ = 4 * x.0 + a % 512 / 128 in
      let g : k < 4 * size_at s b = omega (arith, x.1) in
      let p : k / 4 ≡ x.0 = omega arith in
      let q : k % 4 ≡ a % 512 / 128 = omega arith in
      (k, g, sym (slot_at-is s b k g ∙ (rw (p, q, ← x.2) (omega arith))))

  -- of which its self entry alone owns blocks
  slot_owns : (k : ℕ) → k < 4 * size_at s b → is_file (type_of s (slot_at (directory s b) k)) ≡ false × ((k ≡ 0) ⊎ (owns (type_of s (slot_at (directory s b) k)) ≡ false))
  slot_owns k g = go (ℕ_discrete k 0) (lt-or-ge k (4 * size_at s b - 1))
    where
      go : Dec (k ≡ 0) → (k < 4 * size_at s b - 1) ⊎ (4 * size_at s b - 1 ≤ k) → is_file (type_of s (slot_at (directory s b) k)) ≡ false × ((k ≡ 0) ⊎ (owns (type_of s (slot_at (directory s b) k)) ≡ false))
      go (yes z) l = (rw (z, slot_at-zero s b M.least, M.self_type), inl z)
      go (no z) (inl l) = (rw (M.free k (omega arith) l), inr (rw (M.free k (omega arith) l)))
      go (no z) (inr l) =
          let y : k ≡ 4 * size_at s b - 1 = omega arith in
          (rw (y, M.end-type), inr (rw (y, M.end-type)))

  empty-held : (a : ℕ) → In (a / 512) (directory s b) → a % 128 ≡ 0 → a ≢ 512 * b → held_at s a ≡ 0
  empty-held a i h ne =
      let r = block-slot a i h in
      ⊎_elim (λ z. absurd (ne (r.2 ∙ ap (slot_at (directory s b)) z ∙ slot_at-zero s b M.least))) (λ z. none-held s a h (rw r.2 z)) (slot_owns r.0 r.1).1

  empty-second : (a : ℕ) → In (a / 512) (directory s b) → a % 128 ≡ 0 → held_at s (a + 28) ≡ 0
  empty-second a i h = let r = block-slot a i h in none-second s a h (rw r.2 (slot_owns r.0 r.1).0)

  pub empty-owner : (ks : List (ℕ × ℕ)) (a : ℕ) → OwnerIn s ks a → In (a / 512) (directory s b) → a ≢ 512 * b → held_at s a ≡ 0
  empty-owner ks a (inl E) i ne = empty-held a i E.aligned ne
  empty-owner ks a (inr F) i ne =
      let h = F.place in
      let q : a ≡ a - 28 + 28 = omega arith in
      let z : (a - 28) / 512 ≡ a / 512 = omega arith in
      ap (held_at s) q ∙ empty-second (a - 28) (rw z i) F.entry.aligned

-- A NEW DIRECTORY at block c, as the d blocks of its self entry's chain, with its entry in slot k of the directory b₀
pub OneMore : List ℕ → ℕ → ℕ → Type 0
OneMore s e₁ a = Owner s a ⊎ (a ≡ e₁)

-- a self entry's place is that of no second owner
pub self-owner : (s : List ℕ) (ks : List (ℕ × ℕ)) (b : ℕ) → (EntryIn s ks (512 * b) → ⊥) → OwnerIn s ks (512 * b) → ⊥
self-owner s ks b none (inl E) = none E
self-owner s ks b none (inr F) = omega (arith, F.place)

module _ (s : List ℕ) (S : Sound s) (e₁ : ℕ) (none : Owner s e₁ → ⊥) where
  pub staying-more : Staying s (dirs s) (OneMore s e₁) (first_block s) (held_at s) e₁
  unfolding OneMore
  staying-more =
      record {
        owner = inr refl;
        of_tree = λ d i. i;
        selfs = λ d i. inl (inl (self-entry s S d i));
        apart = λ d i q. none (subst (Owner s) q (inl (self-entry s S d i)));
        firsts = λ d i. self-first s S d i;
        sizes = λ d i. self-size s S d i;
      }

  -- it owns no block at first
  pub midway-open : (x : ℕ) → Midway s (dirs s) (OneMore s e₁) (first_block s) (held_at s) e₁ s x 0
  unfolding OneMore
  midway-open x =
      record {
        len = refl;
        head = λ i h. refl;
        tail = λ i h. refl;
        kept = λ q g i h. refl;
        values = λ q h. refl;
        table = table-wider (block_count s) (Owner s) (OneMore s e₁) (next s) (over e₁ x (first_block s)) (over e₁ 0 (held_at s))
            (table_same (block_count s) (Owner s) (next s) (first_block s) (held_at s) S.table S.least (next s) (over e₁ x (first_block s)) (over e₁ 0 (held_at s)) (λ b h. refl)
            (λ a E. over-other e₁ 0 (held_at s) a (λ q. none (subst (Owner s) q E))) (λ a E pos. over-other e₁ x (first_block s) a (λ q. none (subst (Owner s) q E))))
            (λ a E. inl E)
            (λ a E. ⊎_elim (λ F. inl F) (λ q. inr (ap (over e₁ 0 (held_at s)) q ∙ over-same e₁ 0 (held_at s))) E);
        used = S.used-is;
        free = S.free-is;
      }

module _ (s : List ℕ) (S : Sound s) (b₀ j : ℕ) (i₀ : In (b₀, suc j) (dirs s)) (k : ℕ) (k₁ : 1 ≤ k) (k₂ : k < 4 * size_at s b₀ - 1) where
  abbrev n : ℕ
  n = block_count s

  abbrev e : ℕ
  e = slot_at (directory s b₀) k

  mine : Entry s e
  mine = slot-entry s S (b₀, suc j) i₀ k (omega arith)

  -- the slot is written last
  module _ (ks : List (ℕ × ℕ)) (sub : (d : ℕ × ℕ) → In d ks → In d (dirs s)) (P : ℕ → Type 0) (f l : ℕ → ℕ) (e₁ : ℕ) (t : List ℕ) (b c : ℕ) (I : Midway s ks P f l e₁ t b c) (t' : List ℕ) (len : length t' ≡ length t)
      (outside : (a w : ℕ) → (a + w ≤ e) ⊎ (e + 128 ≤ a) → Same t t' a w)
    where
      before : Same t t' 0 (512 * (table_blocks n + 1))
      before = outside 0 (512 * (table_blocks n + 1)) (inl (omega (arith, entry-low s S e mine)))

      values : (x : ℕ) → x < 128 * table_blocks n → next t' x ≡ next t x
      values = before-next t t' n before

      pub last-slot : OneSlot s ks t' e
      last-slot =
          record {
            len = len ∙ I.len;
            head = same_then s t t' 0 20 I.head (same-inner t t' 0 (512 * (table_blocks n + 1)) 0 20 before (omega arith) (omega arith));
            tail = same_then s t t' 28 4 I.tail (same-inner t t' 0 (512 * (table_blocks n + 1)) 28 4 before (omega arith) (omega arith));
            slots = λ a E ne.
                let h = E.aligned in
                same_then s t t' a 128 (same-inner s t (512 * (a / 512)) 512 a 128 (I.kept (a / 512) E.within-tree) (omega arith) (omega arith))
                (outside a 128 (entries-apart s S a e (entry-of-tree s S ks sub a E) mine ne));
            values = λ q i.
                let r = of-join (blocks_in s) ks q i in
                let w = block-above s n S.tree S.least q (to-join (blocks_in s) (dirs s) r.0 q (sub r.0 r.1) r.2) in
                values q (omega arith) ∙ I.values q i;
          }

      count : occupied (next t') n ≡ occupied (next t) n
      count = before-occupied t t' n before

      used-last : be32 t' 20 ≡ occupied (next t') n
      used-last = before-header t t' n before 20 (omega arith) ∙ I.used ∙ sym count

      free-last : be32 t' 24 ≡ n - occupied (next t') n
      free-last = before-header t t' n before 24 (omega arith) ∙ I.free ∙ ap (λ (z : ℕ). n - z) (sym count)

  -- an owner of s that is not of the slot e, after it
  after-owner : (ks : List (ℕ × ℕ)) → ((d : ℕ × ℕ) → In d ks → In d (dirs s)) → (t' : List ℕ) → OneSlot s ks t' e → (a : ℕ) → OwnerIn s ks a → a ≢ e → a ≢ e + 28
      → (held_at t' a ≡ held_at s a) × (first_block t' a ≡ first_block s a)
  after-owner ks sub t' O = owner-stays s t' ks e O.len (λ a E. entry-high s S a (entry-of-tree s S ks sub a E)) O.slots

  -- A DIRECTORY IS MADE: its blocks stand, its slots are free, and slot k is its entry
  module _ (b₁ d : ℕ) (none : Entry s (512 * b₁) → ⊥) (t : List ℕ) (I : Midway s (dirs s) (OneMore s (512 * b₁)) (first_block s) (held_at s) (512 * b₁) t b₁ d) (t' : List ℕ) (len : length t' ≡ length t)
      (outside : (a w : ℕ) → (a + w ≤ e) ⊎ (e + 128 ≤ a) → Same t t' a w)
      (was : type_of s e ≡ 0) (now : is_directory (type_of t' e) ≡ true) (first : first_block t' e ≡ b₁) (many : blocks_of t' e ≡ d) (ok : slot_ok t' e ≡ true)
      (new : (x : ℕ) → 1 ≤ x → x < 4 * size_at s b₀ - 1 → x ≢ k → type_of s (slot_at (directory s b₀) x) ≢ 0 → name_of t' e ≢ name_of s (slot_at (directory s b₀) x))
      (D : Directory t' n b₁ b₀) (size : size_at t' b₁ ≡ d) (M : Empty t' b₁) (named : part t' (512 * b₁ + 48) 80 ≡ part t' (e + 48) 80)
    where
      abbrev P : ℕ → Type 0
      P = OneMore s (512 * b₁)

      all : (x : ℕ × ℕ) → In x (dirs s) → In x (dirs s)
      all x i = i

      none-owner : Owner s (512 * b₁) → ⊥
      none-owner = self-owner s (dirs s) b₁ none

      O : OneSlot s (dirs s) t' e
      O = last-slot (dirs s) all P (first_block s) (held_at s) (512 * b₁) t b₁ d I t' len outside

      not-dir : is_directory (type_of s e) ≡ false
      not-dir = rw was

      leaf : children t' (first_block t' e) ≡ []
      leaf = rw first (empty_leaf t' b₁ M)

      child : child_ok t' n b₀ e ≡ true
      child = child_ok-join t' n b₀ e (rw first (directory_ok-join t' n b₁ b₀ S.least D)) (rw (first, many) size) (rw first named)

      -- its blocks are none of the tree's
      fresh : (q : ℕ) → In q (directory t' (first_block t' e)) → In q (dir_blocks s) → ⊥
      fresh q i m =
          let x = in-directory t' b₁ q (rw first at i) in
          let z : nth (next t) x.0 b₁ ≡ nth (next t') x.0 b₁ =
          nth-agree (next t') (next t) x.0 b₁ (λ y h. sym (values (dirs s) all P (first_block s) (held_at s) (512 * b₁) t b₁ d I t' len outside (nth (next t') y b₁) (omega (arith, D.chained.below y (omega (arith, x.1)))))) in
          dir-apart s S (dirs s) P (first_block s) (held_at s) (512 * b₁) (staying-more s S (512 * b₁) none-owner) t b₁ d I q m x.0 (omega (arith, x.1, size)) (x.2 ∙ sym z)

      no-e : e ≢ 512 * b₁
      no-e q = none (subst (Entry s) q mine)

      -- the slot owns nothing, before and after
      dir-held : (a : ℕ) → (a ≡ e) ⊎ (a ≡ e + 28) → (held_at t' a ≡ 0) × (held_at s a ≡ 0)
      dir-held a w =
          let h = mine.aligned in
          let o = directory-owns (type_of t' e) now in
          ⊎_elim (λ q. (ap (held_at t') q ∙ none-held t' e h o.0, ap (held_at s) q ∙ none-held s e h (rw was)))
          (λ q. (ap (held_at t') q ∙ none-second t' e h o.1, ap (held_at s) q ∙ none-second s e h (rw was))) w

      chain-now : (a : ℕ) → P a → (held_at t' a ≡ over (512 * b₁) d (held_at s) a) × (0 < over (512 * b₁) d (held_at s) a → first_block t' a ≡ over (512 * b₁) b₁ (first_block s) a)
      unfolding OneMore
      chain-now a (inr q) = (
        ap (held_at t') q ∙ own_held t' (512 * b₁) (omega arith) ∙ self-held (type_of t' (512 * b₁)) (size_at t' b₁) D.self_type ∙ size
            ∙ sym (ap (over (512 * b₁) d (held_at s)) q ∙ over-same (512 * b₁) d (held_at s)),
        λ pos. ap (first_block t') q ∙ D.self-block ∙ sym (ap (over (512 * b₁) b₁ (first_block s)) q ∙ over-same (512 * b₁) b₁ (first_block s)),
      )
      chain-now a (inl A) = go (ℕ_discrete a e) (ℕ_discrete a (e + 28))
        where
          apart : a ≢ 512 * b₁
          apart q = none-owner (subst (Owner s) q A)

          out : over (512 * b₁) d (held_at s) a ≡ held_at s a
          out = over-other (512 * b₁) d (held_at s) a apart

          at_slot : (a ≡ e) ⊎ (a ≡ e + 28) → (held_at t' a ≡ over (512 * b₁) d (held_at s) a) × (0 < over (512 * b₁) d (held_at s) a → first_block t' a ≡ over (512 * b₁) b₁ (first_block s) a)
          at_slot w = let z = dir-held a w in (z.0 ∙ sym (out ∙ z.1), λ pos. absurd (omega (arith, out, z.1)))

          go : Dec (a ≡ e) → Dec (a ≡ e + 28) → (held_at t' a ≡ over (512 * b₁) d (held_at s) a) × (0 < over (512 * b₁) d (held_at s) a → first_block t' a ≡ over (512 * b₁) b₁ (first_block s) a)
          go (yes q) r = at_slot (inl q)
          go (no p) (yes q) = at_slot (inr q)
          go (no p) (no q) =
              let w = after-owner (dirs s) all t' O a A p q in
              (w.0 ∙ sym out, λ pos. w.1 ∙ sym (over-other (512 * b₁) b₁ (first_block s) a apart))

      -- an owner of the larger tree: an old one, or one of the new directory
      owner-more : (a : ℕ) → Owner t' a → Owner s a ⊎ In (a / 512) (directory t' (first_block t' e))
      owner-more a (inl E) = ⊎_elim (λ F. inl (inl F)) (λ m. inr m) (entry_more s t' S b₀ j i₀ k k₁ k₂ O not-dir now leaf a E)
      owner-more a (inr F) =
          let h = F.place in
          let z : (a - 28) / 512 ≡ a / 512 = omega arith in
          ⊎_elim (λ G. inl (inr (record { entry = G; place = h }))) (λ m. inr (rw z at m)) (entry_more s t' S b₀ j i₀ k k₁ k₂ O not-dir now leaf (a - 28) F.entry)

      table : Table n (Owner t') (next t') (first_block t') (held_at t')
      unfolding OneMore
      table =
          table-wider n P (Owner t') (next t') (first_block t') (held_at t')
          (table_same n P (next t) (over (512 * b₁) b₁ (first_block s)) (over (512 * b₁) d (held_at s)) I.table S.least (next t') (first_block t') (held_at t')
          (values (dirs s) all P (first_block s) (held_at s) (512 * b₁) t b₁ d I t' len outside) (λ a A. (chain-now a A).0) (λ a A. (chain-now a A).1))
          (λ a A. ⊎_elim (owner-map s t' (dirs s) (dirs t') (entry_old s t' S b₀ j i₀ k k₁ k₂ O not-dir now leaf) a)
          (λ q. inl (rw q (entry_new s t' S b₀ j i₀ k k₁ k₂ O not-dir now leaf (512 * b₁) (self_in q) (omega arith)))) A)
          (λ a A. ⊎_elim (λ F. inl (inl F)) (λ m. other a A m (ℕ_discrete a (512 * b₁))) (owner-more a A))
        where
          self_in : {a : ℕ} → a ≡ 512 * b₁ → In (512 * b₁ / 512) (directory t' (first_block t' e))
          self_in q = let z : 512 * b₁ / 512 ≡ b₁ = omega arith in rw (z, first) (directory-in t' b₁ 0 M.least)

          other : (a : ℕ) → Owner t' a → In (a / 512) (directory t' (first_block t' e)) → Dec (a ≡ 512 * b₁) → (Owner s a ⊎ (a ≡ 512 * b₁)) ⊎ (held_at t' a ≡ 0)
          other a A m (yes q) = inl (inr q)
          other a A m (no ne) = inr (empty-owner t' b₁ M (dirs t') a A (rw first at m) ne)

      pub directory-made : Sound t'
      directory-made =
          sound_more s t' S b₀ j i₀ k k₁ k₂ O not-dir now leaf ok (λ u. new) child (rw first (empty-slots t' b₁ M)) fresh table
          (used-last (dirs s) all P (first_block s) (held_at s) (512 * b₁) t b₁ d I t' len outside) (free-last (dirs s) all P (first_block s) (held_at s) (512 * b₁) t b₁ d I t' len outside)

      -- and the tree has it, with the level below its parent's
      pub made-dirs : Inserted (b₁, j) (dirs s) (dirs t')
      made-dirs = rw first at (dirs-more s t' S b₀ j i₀ k k₁ k₂ O not-dir now leaf)

  -- A DIRECTORY IS REMOVED: it is empty, the chain of its self entry is freed, and slot k is free. ks are the other directories.
  module _ (was : is_directory (type_of s e) ≡ true) (M : Empty s (first_block s e)) (ks : List (ℕ × ℕ)) (J : Inserted (first_block s e, j) ks (dirs s)) where
    abbrev c : ℕ
    c = first_block s e

    gone : In (c, j) (dirs s)
    gone = gone-in s s S b₀ j i₀ k k₁ k₂ was

    of-ks : (d : ℕ × ℕ) → In d ks → In d (dirs s)
    of-ks d i = in-inserted (c, j) ks (dirs s) J d i

    pub staying-less : Staying s ks (Owner s) (first_block s) (held_at s) (512 * c)
    staying-less =
        record {
          owner = inl (self-entry s S (c, j) gone);
          of_tree = of-ks;
          selfs = λ d i. inl (self-entry s S d (of-ks d i));
          firsts = λ d i. self-first s S d (of-ks d i);
          sizes = λ d i. self-size s S d (of-ks d i);
          apart = λ d i q.
              let z : d.0 ≡ c = omega arith in
              kept-apart s s S b₀ j i₀ k k₁ k₂ was ks J d i c (rw z (directory-in s c 0 M.least)) (directory-in s c 0 M.least);
        }

    -- where the freeing of its blocks begins
    pub midway-less : Midway s ks (Owner s) (first_block s) (held_at s) (512 * c) s c (size_at s c)
    midway-less = rw (self-first s S (c, j) gone, self-size s S (c, j) gone) at (midway-of s S ks (512 * c))

    module _ (t : List ℕ) (z : ℕ) (I : Midway s ks (Owner s) (first_block s) (held_at s) (512 * c) t z 0) (t' : List ℕ) (len : length t' ≡ length t)
        (outside : (a w : ℕ) → (a + w ≤ e) ⊎ (e + 128 ≤ a) → Same t t' a w) (now : type_of t' e ≡ 0)
      where
        gone-slot : OneSlot s ks t' e
        gone-slot = last-slot ks of-ks (Owner s) (first_block s) (held_at s) (512 * c) t z 0 I t' len outside

        no-dir : is_directory (type_of t' e) ≡ false
        no-dir = rw now

        free-ok : slot_ok t' e ≡ true
        unfolding slot_ok
        free-ok = rw now

        bare : children s c ≡ []
        bare = empty_leaf s c M

        -- an entry that stays is not of its blocks
        block_apart : (a : ℕ) → EntryIn s ks a → In (a / 512) (directory s c) → ⊥
        block_apart a E m =
            let r = of-join (blocks_in s) ks (a / 512) E.within-tree in
            kept-apart s s S b₀ j i₀ k k₁ k₂ was ks J r.0 r.1 (a / 512) r.2 m

        self-apart : (a : ℕ) → OwnerIn s ks a → a ≢ 512 * c
        self-apart a (inl E) q = block_apart a E (let y : a / 512 ≡ c = omega arith in rw y (directory-in s c 0 M.least))
        self-apart a (inr F) q = omega (arith, F.place)

        owner-kept : (a : ℕ) → Owner s a → (In (a / 512) (directory s c) → ⊥) → Owner t' a
        owner-kept a (inl E) f = inl (entry_kept s t' S b₀ j i₀ k k₁ k₂ was ks J gone-slot no-dir bare a E f)
        owner-kept a (inr F) f =
            let h = F.place in
            let y : (a - 28) / 512 ≡ a / 512 = omega arith in
            inr (record { entry = entry_kept s t' S b₀ j i₀ k k₁ k₂ was ks J gone-slot no-dir bare (a - 28) F.entry (λ m. f (rw y at m)); place = h })

        narrow : Table n (Owner t') (next t) (over (512 * c) z (first_block s)) (over (512 * c) 0 (held_at s))
        narrow =
            table-narrower n (Owner s) (Owner t') (next t) (over (512 * c) z (first_block s)) (over (512 * c) 0 (held_at s)) I.table
            (owner-map t' s (dirs t') (dirs s) (entry-left s t' S b₀ j i₀ k k₁ k₂ was ks J gone-slot no-dir bare))
            (λ a A. rest a A (true-or-false (has eqb (a / 512) (directory s c))) (ℕ_discrete a (512 * c)))
          where
            rest : (a : ℕ) → Owner s a → (has eqb (a / 512) (directory s c) ≡ true) ⊎ (has eqb (a / 512) (directory s c) ≡ false) → Dec (a ≡ 512 * c)
                → Owner t' a ⊎ (over (512 * c) 0 (held_at s) a ≡ 0)
            rest a A (inr h) y = inl (owner-kept a A (λ m. true-not-false (in-has-eqb (a / 512) (directory s c) m) h))
            rest a A (inl h) (yes q) = inr (ap (over (512 * c) 0 (held_at s)) q ∙ over-same (512 * c) 0 (held_at s))
            rest a A (inl h) (no q) = inr (over-other (512 * c) 0 (held_at s) a q ∙ empty-owner s c M (dirs s) a A (has-eqb-in (a / 512) (directory s c) h) q)

        -- the slot owns nothing, before and after
        slot-none : (a : ℕ) → (a ≡ e) ⊎ (a ≡ e + 28) → (held_at t' a ≡ 0) × (held_at s a ≡ 0)
        slot-none a w =
            let h = mine.aligned in
            let o = directory-owns (type_of s e) was in
            ⊎_elim (λ q. (ap (held_at t') q ∙ none-held t' e h (rw now), ap (held_at s) q ∙ none-held s e h o.0))
            (λ q. (ap (held_at t') q ∙ none-second t' e h (rw now), ap (held_at s) q ∙ none-second s e h o.1)) w

        left-chain : (a : ℕ) → Owner t' a → (held_at t' a ≡ over (512 * c) 0 (held_at s) a) × (0 < over (512 * c) 0 (held_at s) a → first_block t' a ≡ over (512 * c) z (first_block s) a)
        left-chain a A =
            let F = owner-map t' s (dirs t') ks (entry-ks s t' S b₀ j i₀ k k₁ k₂ was ks J gone-slot no-dir bare) a A in
            go F (over-other (512 * c) 0 (held_at s) a (self-apart a F)) (over-other (512 * c) z (first_block s) a (self-apart a F)) (ℕ_discrete a e) (ℕ_discrete a (e + 28))
          where
            go : OwnerIn s ks a → over (512 * c) 0 (held_at s) a ≡ held_at s a → over (512 * c) z (first_block s) a ≡ first_block s a → Dec (a ≡ e) → Dec (a ≡ e + 28)
                → (held_at t' a ≡ over (512 * c) 0 (held_at s) a) × (0 < over (512 * c) 0 (held_at s) a → first_block t' a ≡ over (512 * c) z (first_block s) a)
            go F o p (yes q) r = let w = slot-none a (inl q) in (w.0 ∙ sym (o ∙ w.1), λ pos. absurd (omega (arith, w.1)))
            go F o p (no x) (yes q) = let w = slot-none a (inr q) in (w.0 ∙ sym (o ∙ w.1), λ pos. absurd (omega (arith, w.1)))
            go F o p (no x) (no y) = let w = after-owner ks of-ks t' gone-slot a F x y in (w.0 ∙ sym o, λ pos. w.1 ∙ sym p)

        pub directory-removed : Sound t'
        directory-removed =
            sound-less s t' S b₀ j i₀ k k₁ k₂ was ks J gone-slot no-dir bare free-ok now
            (table_same n (Owner t') (next t) (over (512 * c) z (first_block s)) (over (512 * c) 0 (held_at s)) narrow S.least (next t') (first_block t') (held_at t')
            (values ks of-ks (Owner s) (first_block s) (held_at s) (512 * c) t z 0 I t' len outside) (λ a A. (left-chain a A).0) (λ a A. (left-chain a A).1))
            (used-last ks of-ks (Owner s) (first_block s) (held_at s) (512 * c) t z 0 I t' len outside) (free-last ks of-ks (Owner s) (first_block s) (held_at s) (512 * c) t z 0 I t' len outside)

        pub removed-dirs : Inserted (c, j) (dirs t') (dirs s)
        removed-dirs = dirs-less s t' S b₀ j i₀ k k₁ k₂ was ks J gone-slot no-dir bare
