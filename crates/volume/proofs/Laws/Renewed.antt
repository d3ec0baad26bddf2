-- The entry of a file set again, where its own chain changed: the image midway had the chain of c blocks from b. The image is sound then, and the entry's other bytes stay.
use Prim.Native.Nat.{ℕ, zero, suc, ◌+◌, ◌-◌, ◌*◌, ◌/◌, ◌≤◌, ◌<◌}
use mathlib.Core.Path.{◌≡◌, refl, sym, ◌∙◌}
use mathlib.Core.Bool.{true, false, or-true}
use mathlib.Core.List.{List}
use mathlib.Core.Logic.{◌⊎◌, inl, inr, ⊎_elim}
use native.Mathlib.Omega.{arith}
use native.Mathlib.Nat.{eq-or-lt_of_le}
use borrow.Author.Tests.{eq-eqb, ne_eqb}
use lib.ListN.{length}
use lib.Dec.{eqb}
use Rattle.layout.specs.Lists.{iff}
use Rattle.layout.specs.Bytes.{be32, bytes8, part}
use Rattle.layout.specs.Geometry.{block_count, table_blocks, blocks_for, root_block}
use Rattle.layout.specs.Table.{next}
use Rattle.layout.specs.Directory.{slot_at, type_of, first_block, size_of, blocks_of, is_free, is_file, is_directory, name_of, name_ok, directory, dirs}
use Rattle.layout.specs.Check.{no_attributes, attributes_ok, file_ok, slot_ok}
use Rattle.volume.specs.Write.{set_file}
use Rattle.volume.proofs.Laws.Entries.{set-file-length, set-file-same, set-file-created, set-file-modified, set-file-first, set-file-size, set-file-blocks}
use Rattle.layout.proofs.Laws.Tests.{and_split, and-join}
use Rattle.layout.proofs.Laws.Lists.{In}
use Rattle.layout.proofs.Laws.Frames.{Same, same_then, same-inner, same_byte, same-be32, same-part, before-next}
use Rattle.layout.proofs.Laws.Chains.{Chain}
use Rattle.layout.proofs.Laws.Trees.{size_at}
use Rattle.layout.proofs.Laws.Sound.{held_at, own_held, second-held, second-first, Sound, Entry, Owner}
use Rattle.layout.proofs.Laws.Slots.{slot-entry, entry-high, entry-low, names-differ}
use Rattle.layout.proofs.Laws.Files.{file-right}
use Rattle.layout.proofs.Laws.Owners.{file-held, file-no-dir, file-used-type}
use Rattle.layout.proofs.Laws.Changed.{OneSlot}
use Rattle.layout.proofs.Laws.Steps.{over-same, Midway, midway-own, one-slot}

-- what stays of the entry at e, whose numbers and modified time were set
pub record Renewed (s s' : List ℕ) (e first size blocks time : ℕ) : Type 0 where
  pub first-is : first_block s' e ≡ first
  pub size_is : size_of s' e ≡ size
  pub blocks_is : blocks_of s' e ≡ blocks
  -- type, user, group and permissions; time created; time modified; attributes, system flags, reserved and name
  pub kind : part s' e 4 ≡ part s e 4
  pub created : part s' (e + 16) 8 ≡ part s (e + 16) 8
  pub modified : part s' (e + 24) 8 ≡ bytes8 time
  pub rest : part s' (e + 32) 96 ≡ part s (e + 32) 96
  pub flags : part s' (e + 40) 4 ≡ part s (e + 40) 4
  pub type : type_of s' e ≡ type_of s e
  pub name : name_of s' e ≡ name_of s e
  pub attribute : be32 s' (e + 32) ≡ be32 s (e + 32)
  pub attribute-size : be32 s' (e + 36) ≡ be32 s (e + 36)

module _ (s : List ℕ) (S : Sound s) (d : ℕ × ℕ) (di : In d (dirs s)) (k : ℕ) (k₁ : 1 ≤ k) (k₂ : k < 4 * size_at s d.0 - 1) (file : is_file (type_of s (slot_at (directory s d.0) k)) ≡ true)
    (full : List ℕ) (b c : ℕ) (filled : Midway s (dirs s) (Owner s) (first_block s) (held_at s) (slot_at (directory s d.0) k) full b c)
    (first size time : ℕ) (starts : 0 < c → first ≡ b) (empty : c ≡ 0 → first ≡ 0) (needs : c ≡ blocks_for size) (few : c ≤ block_count s)
  where
    abbrev n : ℕ
    n = block_count s

    abbrev e : ℕ
    e = slot_at (directory s d.0) k

    abbrev done : List ℕ
    done = set_file full (slot_at (directory s d.0) k) first size c time

    mine : Entry s e
    mine = slot-entry s S d di k (omega arith)

    own : Chain (next full) n b c
    own = rw (over-same e b (first_block s), over-same e c (held_at s)) at (filled.table.right e (inl mine))

    pub renewed-small : first < 0x100000000
    renewed-small = ⊎_elim (λ q. omega (arith, empty (sym q))) (λ q. omega (arith, starts q, own.below 0 q, S.most)) (eq-or-lt_of_le {n = 0} {m = c} (omega arith))

    fits : e + 128 ≤ length full
    fits = omega (arith, filled.len, entry-high s S e mine)

    pub renewed-full : length done ≡ length full
    renewed-full = set-file-length full e first size c time fits

    pub renewed-length : length done ≡ length s
    renewed-length = renewed-full ∙ filled.len

    pub renewed-outside : (a w : ℕ) → (a + w ≤ slot_at (directory s d.0) k) ⊎ (slot_at (directory s d.0) k + 128 ≤ a) → Same full done a w
    renewed-outside a w h = set-file-same full e first size c time fits a w (⊎_elim (λ x. inl (omega arith)) (λ x. inr (omega arith)) h)

    -- the slot before it is set again
    slot_kept : Same s full e 128
    slot_kept = let h = mine.aligned in same-inner s full (512 * (e / 512)) 512 e 128 (filled.kept (e / 512) mine.within-tree) (omega arith) (omega arith)

    -- the other bytes of the slot
    slot_same : (a w : ℕ) → e ≤ a → a + w ≤ e + 128 → (a + w ≤ e + 4) ⊎ (e + 32 ≤ a) → Same s done a w
    slot_same a w h g o = same_then s full done a w (same-inner s full e 128 a w slot_kept h g) (set-file-same full e first size c time fits a w o)

    slot-part : (a w : ℕ) → e ≤ a → a + w ≤ e + 128 → (a + w ≤ e + 4) ⊎ (e + 32 ≤ a) → part done a w ≡ part s a w
    slot-part a w h g o = same-part s done a w a w (slot_same a w h g o) (omega arith) (omega arith) (omega (arith, entry-high s S e mine)) renewed-length

    field-done : part done (e + 48) 80 ≡ part s (e + 48) 80
    field-done = slot-part (e + 48) 80 (omega arith) (omega arith) (inr (omega arith))

    attribute-done : (i : ℕ) → 32 ≤ i → i + 4 ≤ 128 → be32 done (e + i) ≡ be32 s (e + i)
    attribute-done i h g = same-be32 s done (e + i) 4 (e + i) (slot_same (e + i) 4 (omega arith) (omega arith) (inr (omega arith))) (omega arith) (omega arith)

    pub renewed-entry : Renewed s done (slot_at (directory s d.0) k) first size c time
    unfolding name_of
    renewed-entry =
        record {
          first-is = set-file-first full e first size c time fits renewed-small;
          size_is = set-file-size full e first size c time fits (omega (arith, few, needs, S.most));
          blocks_is = set-file-blocks full e first size c time fits (omega (arith, few, S.most));
          kind = slot-part e 4 (omega arith) (omega arith) (inl (omega arith));
          created = same-part s done (e + 16) 8 (e + 16) 8
              (same_then s full done (e + 16) 8 (same-inner s full e 128 (e + 16) 8 slot_kept (omega arith) (omega arith)) (set-file-created full e first size c time fits))
              (omega arith) (omega arith) (omega (arith, entry-high s S e mine)) renewed-length;
          modified = set-file-modified full e first size c time fits;
          rest = slot-part (e + 32) 96 (omega arith) (omega arith) (inr (omega arith));
          flags = slot-part (e + 40) 4 (omega arith) (omega arith) (inr (omega arith));
          type = same_byte s done e 1 e (slot_same e 1 (omega arith) (omega arith) (inl (omega arith))) (omega arith) (omega arith);
          name = rw field-done;
          attribute = attribute-done 32 (omega arith) (omega arith);
          attribute-size = attribute-done 36 (omega arith) (omega arith);
        }

    -- the image is sound
    empty-exact : iff (eqb first 0) (eqb size 0) ≡ true
    empty-exact = go c refl
      where
        go : (x : ℕ) → c ≡ x → iff (eqb first 0) (eqb size 0) ≡ true
        go zero q = rw (eq-eqb first 0 (empty q), eq-eqb size 0 (omega (arith, needs)))
        go (suc x) q = rw (ne_eqb first 0 (λ o. omega (arith, starts (omega arith), own.above 0 (omega arith))), ne_eqb size 0 (λ o. omega (arith, needs)))

    slot-ok : slot_ok done e ≡ true
    unfolding slot_ok file_ok name_ok attributes_ok no_attributes
    slot-ok =
        let w = file-right s S d di k k₁ k₂ file in
        let a = and_split (name_ok s e) _ w in
        let g = and_split (attributes_ok s e) _ a.1 in
        let r = renewed-entry in
        rw (r.type, file, r.name, field-done, r.attribute, r.attribute-size, r.first-is, r.size_is, r.blocks_is)
        (rw (and-join a.0 (and-join g.0 (and-join (eq-eqb c (blocks_for size) needs) empty-exact))) (or-true (is_free (type_of s e))))

    no-dir : is_directory (type_of s e) ≡ false
    no-dir = file-no-dir (type_of s e) file

    pub renewed-sound : Sound (set_file full (slot_at (directory s d.0) k) first size c time)
    renewed-sound =
        let r = renewed-entry in
        midway-own s S d di k k₁ k₂ full b c filled done renewed-full renewed-outside no-dir (rw r.type no-dir) slot-ok
        (λ u j h g ne uj q. names-differ s S d di j k h k₁ g k₂ ne uj (file-used-type (type_of s e) file) (sym q ∙ r.name)) (λ pos. r.first-is ∙ starts pos)
        (own_held done e mine.aligned ∙ (rw (r.type, r.blocks_is) (file-held (type_of s e) c file)))
        (rw (second-held done e mine.aligned, second-held s e mine.aligned, r.type, r.attribute-size))
        (λ pos. rw (second-first done e, second-first s e) r.attribute)

    -- only this slot of the directories differs
    pub renewed-slot : OneSlot s (dirs s) (set_file full (slot_at (directory s d.0) k) first size c time) (slot_at (directory s d.0) k)
    renewed-slot = one-slot s S d di k k₁ k₂ (first_block s) (held_at s) e full b c filled done renewed-full renewed-outside

    -- the table and the counts are those of the image midway
    pub renewed-next : (y : ℕ) → y < 128 * table_blocks (block_count s) → next done y ≡ next full y
    renewed-next = before-next full done n (renewed-outside 0 (512 * root_block n) (inl (omega (arith, entry-low s S e mine))))

    pub renewed-count : (i : ℕ) → i + 4 ≤ 512 → be32 done i ≡ be32 full i
    renewed-count i h =
        same-be32 full done 0 512 i (renewed-outside 0 512 (inl (omega (arith, entry-low s S e mine)))) (omega arith) (omega arith)
