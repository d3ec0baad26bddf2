-- Bytes 32 to 47 of a file's entry changed, after steps that changed the chain of its attributes only: the entry's other bytes stay, and the image is sound.
-- Of these changes, the two attribute fields set.
use Prim.Native.Nat.{ℕ, ◌+◌, ◌-◌, ◌*◌, ◌/◌, ◌≤◌, ◌<◌}
use mathlib.Core.Path.{◌≡◌, sym, ◌∙◌, subst}
use mathlib.Core.Bool.{true}
use mathlib.Core.List.{List, ◌∷◌, ◌++◌, []}
use mathlib.Core.Logic.{◌⊎◌, inl, inr, ⊎_elim, ◌≢◌}
use native.Mathlib.Omega.{arith}
use lib.ListN.{length, length-append}
use Rattle.layout.specs.Bytes.{be32, bytes4, part}
use Rattle.layout.specs.Geometry.{block_count, table_blocks, root_block}
use Rattle.layout.specs.Table.{next}
use Rattle.layout.specs.Directory.{slot_at, type_of, first_block, size_of, blocks_of, attribute_block_of, attribute_size_of, is_file, name_of, name_ok, directory, dirs}
use Rattle.layout.specs.Check.{attributes_ok, file_ok}
use Rattle.volume.specs.Attributes.{set_attribute_fields}
use Rattle.volume.proofs.Laws.Unchanged.{slot-agree}
use Rattle.layout.proofs.Laws.Tests.{and_split, and-join}
use Rattle.layout.proofs.Laws.Lists.{In}
use Rattle.layout.proofs.Laws.Bytes.{length-splice, length-bytes4, be32-same, be32-bytes4}
use Rattle.layout.proofs.Laws.Frames.{Same, same_then, same-inner, same_beside, same-inside, same_byte, same-be32, same-part, before-next, Agree}
use Rattle.layout.proofs.Laws.Trees.{size_at}
use Rattle.layout.proofs.Laws.Sound.{Sound, Entry, Owner, held_at, own_held, second-held, second-first}
use Rattle.layout.proofs.Laws.Slots.{slot-entry, slot-ok, names-differ, entry-low, entry-high}
use Rattle.layout.proofs.Laws.Owners.{file-no-dir, file-used-type, file-slot-ok, slot-ok-file, second, second_holds, second-no-self}
use Rattle.layout.proofs.Laws.Files.{AttributeFields, attributes_ok-join}
use Rattle.layout.proofs.Laws.Changed.{OneSlot}
use Rattle.layout.proofs.Laws.Steps.{over-same, over-other, Midway, Staying, staying, midway_start, midway_end, one-slot}

-- t' is t but for bytes 32 to 47 of the entry at e: the attribute fields, the system flags and the reserved bytes
pub record Altered (t t' : List ℕ) (e : ℕ) : Type 0 where
  pub size : length t' ≡ length t
  pub beside : (a w : ℕ) → (a + w ≤ e + 32) ⊎ (e + 48 ≤ a) → Same t t' a w

-- the fields set: length, the bytes beside, the numbers
module _ (t : List ℕ) (e first size : ℕ) (fits : e + 128 ≤ length t) where
  abbrev numbers : List ℕ
  numbers = bytes4 first ++ bytes4 size

  fit-numbers : e + 32 + length numbers ≤ length t
  unfolding bytes4
  fit-numbers = omega arith

  pub fields-length : length (set_attribute_fields t e first size) ≡ length t
  unfolding set_attribute_fields
  fields-length = length-splice t (e + 32) numbers fit-numbers

  pub fields-same : (a w : ℕ) → (a + w ≤ e + 32) ⊎ (e + 40 ≤ a) → Same t (set_attribute_fields t e first size) a w
  unfolding set_attribute_fields bytes4
  fields-same a w h = same_beside t (e + 32) numbers fit-numbers a w (⊎_elim (λ x. inl x) (λ x. inr (omega arith)) h)

  fields-altered : Altered t (set_attribute_fields t e first size) e
  fields-altered = record { size = fields-length; beside = λ a w h. fields-same a w (⊎_elim (λ x. inl x) (λ x. inr (omega arith)) h) }

  number : (i : ℕ) → i + 4 ≤ 8 → be32 (set_attribute_fields t e first size) (e + 32 + i) ≡ be32 numbers i
  unfolding set_attribute_fields bytes4
  number i h = be32-same numbers (set_attribute_fields t e first size) i (e + 32 + i) (same-inside t (e + 32) numbers fit-numbers i 4 (omega arith))

  pub fields-first : first < 0x100000000 → attribute_block_of (set_attribute_fields t e first size) e ≡ first
  unfolding be32 bytes4
  fields-first h = (let q : e + 32 + 0 ≡ e + 32 = omega arith in rw q at (number 0 (omega arith))) ∙ be32-bytes4 first h

  pub fields-size : size < 0x100000000 → attribute_size_of (set_attribute_fields t e first size) e ≡ size
  unfolding be32 bytes4
  fields-size h = (let q : e + 32 + 4 ≡ e + 36 = omega arith in rw q at (number 4 (omega arith))) ∙ be32-bytes4 size h

-- what stays of the entry then (no time changes)
pub record EntryKept (s s' : List ℕ) (e : ℕ) : Type 0 where
  pub front : part s' e 32 ≡ part s e 32
  pub type : type_of s' e ≡ type_of s e
  pub name : name_of s' e ≡ name_of s e
  pub size : size_of s' e ≡ size_of s e
  pub blocks : blocks_of s' e ≡ blocks_of s e

-- the entry of a file
module _ (s : List ℕ) (S : Sound s) (e : ℕ) (E : Entry s e) (file : is_file (type_of s e) ≡ true) where
  pub second-staying : Staying s (dirs s) (Owner s) (first_block s) (held_at s) (e + 28)
  second-staying = staying s S (e + 28) (second s S e E file) (λ c i q. second-no-self s S e E file c i (sym q))

  pub second-start : Midway s (dirs s) (Owner s) (first_block s) (held_at s) (e + 28) s (attribute_block_of s e) (attribute_size_of s e)
  second-start =
      subst (λ (b : ℕ). Midway s (dirs s) (Owner s) (first_block s) (held_at s) (e + 28) s b (attribute_size_of s e)) (second-first s e)
      (subst (λ (c : ℕ). Midway s (dirs s) (Owner s) (first_block s) (held_at s) (e + 28) s (first_block s (e + 28)) c) (second_holds s S e E file)
      (midway_start s S (e + 28) (second s S e E file) (λ c i q. second-no-self s S e E file c i (sym q))))

  -- after the steps, the chain of its attributes is the c blocks from b
  module _ (t : List ℕ) (b c : ℕ) (I : Midway s (dirs s) (Owner s) (first_block s) (held_at s) (e + 28) t b c) where
    steps-kept : Same s t e 128
    steps-kept =
        let h = E.aligned in
        same-inner s t (512 * (e / 512)) 512 e 128 (I.kept (e / 512) E.within-tree) (omega arith) (omega arith)

    -- then bytes of the entry are changed
    module _ (t' : List ℕ) (A : Altered t t' e) where
      long : length t' ≡ length s
      long = A.size ∙ I.len

      front : Same s t' e 32
      front = same_then s t t' e 32 (same-inner s t e 128 e 32 steps-kept (omega arith) (omega arith)) (A.beside e 32 (inl (omega arith)))

      back : Same s t' (e + 48) 80
      back = same_then s t t' (e + 48) 80 (same-inner s t e 128 (e + 48) 80 steps-kept (omega arith) (omega arith)) (A.beside (e + 48) 80 (inr (omega arith)))

      pub altered-type : type_of t' e ≡ type_of s e
      altered-type = same_byte s t' e 32 e front (omega arith) (omega arith)

      pub altered-field : (i : ℕ) → i + 4 ≤ 32 → be32 t' (e + i) ≡ be32 s (e + i)
      altered-field i h = same-be32 s t' e 32 (e + i) front (omega arith) (omega arith)

      named-bytes : part t' (e + 48) 80 ≡ part s (e + 48) 80
      named-bytes = same-part s t' (e + 48) 80 (e + 48) 80 back (omega arith) (omega arith) (omega (arith, entry-high s S e E)) long

      altered-name : name_of t' e ≡ name_of s e
      unfolding name_of
      altered-name = rw named-bytes

      name-right : name_ok t' e ≡ name_ok s e
      unfolding name_ok
      name-right = rw (altered-name, named-bytes)

      pub altered-kept : EntryKept s t' e
      altered-kept =
          let h = entry-high s S e E in
          record {
            front = same-part s t' e 32 e 32 front (omega arith) (omega arith) (omega arith) long;
            type = altered-type;
            name = altered-name;
            size = altered-field 8 (omega arith);
            blocks = altered-field 12 (omega arith);
          }

      -- the table's entries stay
      pub altered-next : (y : ℕ) → y < 128 * table_blocks (block_count s) → next t' y ≡ next t y
      altered-next = before-next t t' (block_count s) (A.beside 0 (512 * root_block (block_count s)) (inl (omega (arith, entry-low s S e E))))

      altered-ok : AttributeFields (attribute_block_of t' e) (attribute_size_of t' e) → file_ok s e ≡ true → file_ok t' e ≡ true
      unfolding file_ok
      altered-ok right ok =
          let w = and_split (name_ok s e) _ ok in
          let v = and_split (attributes_ok s e) _ w.1 in
          and-join (name-right ∙ w.0) (and-join (attributes_ok-join t' e right)
          (rw (altered-field 4 (omega arith), altered-field 8 (omega arith), altered-field 12 (omega arith)) v.1))

      own_same : held_at t' e ≡ held_at s e
      own_same = rw (own_held t' e E.aligned, own_held s e E.aligned, altered-type, altered-field 12 (omega arith))

      second-same : held_at t' (e + 28) ≡ attribute_size_of t' e
      second-same = second-held t' e E.aligned ∙ (rw (altered-type, file))

    -- the two fields are set
    module _ (first : ℕ) where
      abbrev set : List ℕ
      set = set_attribute_fields t e first c

      fits : e + 128 ≤ length t
      fits = omega (arith, I.len, entry-high s S e E)

      updated : Altered t set e
      updated = fields-altered t e first c fits

      pub updated-type : type_of set e ≡ type_of s e
      updated-type = altered-type set updated

      pub updated-field : (i : ℕ) → i + 4 ≤ 32 → be32 set (e + i) ≡ be32 s (e + i)
      updated-field = altered-field set updated

      pub updated-kept : EntryKept s set e
      updated-kept = altered-kept set updated

      pub updated-next : (y : ℕ) → y < 128 * table_blocks (block_count s) → next set y ≡ next t y
      updated-next = altered-next set updated

      -- the flags stay, and only the entry's block is written
      pub updated-flags : part set (e + 40) 4 ≡ part s (e + 40) 4
      updated-flags =
          let h = entry-high s S e E in
          same-part s set (e + 40) 4 (e + 40) 4
          (same_then s t set (e + 40) 4 (same-inner s t e 128 (e + 40) 4 steps-kept (omega arith) (omega arith)) (fields-same t e first c fits (e + 40) 4 (inr (omega arith))))
          (omega arith) (omega arith) (omega arith) (long set updated)

      pub updated-agree : Agree t set (e / 512 ∷ [])
      unfolding set_attribute_fields
      updated-agree =
          let l : length (bytes4 first ++ bytes4 c) ≡ 8 = simp (length-append, length-bytes4) in
          slot-agree s S e E t (e + 32) (bytes4 first ++ bytes4 c) (I.len ∙ S.whole) (omega arith) (omega arith)

      module _ (small : first < 0x100000000) (right : AttributeFields first c) where
        few : c < 0x100000000
        few = ⊎_elim (λ w. omega arith) (λ w. omega arith) right

        pub updated-first : attribute_block_of set e ≡ first
        updated-first = fields-first t e first c fits small

        pub updated-size : attribute_size_of set e ≡ c
        updated-size = fields-size t e first c fits few

-- a file, in slot k of the directory d
module _ (s : List ℕ) (S : Sound s) (d : ℕ × ℕ) (di : In d (dirs s)) (k : ℕ) (k₁ : 1 ≤ k) (k₂ : k < 4 * size_at s d.0 - 1)
    (file : is_file (type_of s (slot_at (directory s d.0) k)) ≡ true)
    (t : List ℕ) (b c : ℕ) (I : Midway s (dirs s) (Owner s) (first_block s) (held_at s) (slot_at (directory s d.0) k + 28) t b c)
  where
    abbrev e : ℕ
    e = slot_at (directory s d.0) k

    E : Entry s e
    E = slot-entry s S d di k (omega arith)

    module _ (t' : List ℕ) (A : Altered t t' e) where
      outside : (a w : ℕ) → (a + w ≤ e) ⊎ (e + 128 ≤ a) → Same t t' a w
      outside a w h = A.beside a w (⊎_elim (λ x. inl (omega arith)) (λ x. inr (omega arith)) h)

      pub altered-slot : OneSlot s (dirs s) t' e
      altered-slot = one-slot s S d di k k₁ k₂ (first_block s) (held_at s) (e + 28) t b c I t' A.size outside

      pub altered-sound : AttributeFields (attribute_block_of t' e) (attribute_size_of t' e) → attribute_size_of t' e ≡ c → (0 < c → attribute_block_of t' e ≡ b) → Sound t'
      altered-sound right many starts =
          let type = altered-type s S e E file t b c I t' A in
          let now : is_file (type_of t' e) ≡ true = rw type file in
          let away : e ≢ e + 28 = λ q. omega arith in
          midway_end s S d di k k₁ k₂ (first_block s) (held_at s) (e + 28) t b c I t' A.size outside
          (file-no-dir (type_of s e) file) (file-no-dir (type_of t' e) now)
          (slot-ok-file t' e now (altered-ok s S e E file t b c I t' A right (file-slot-ok s e file (slot-ok s S d di k k₁ k₂))))
          (λ u j j₁ j₂ ne uj. rw (altered-name s S e E file t b c I t' A) (names-differ s S d di k j k₁ j₁ k₂ j₂ (λ q. ne (sym q)) (file-used-type (type_of s e) file) uj))
          (λ a O p q. (over-other (e + 28) c (held_at s) a q, over-other (e + 28) b (first_block s) a q)) (
            own_same s S e E file t b c I t' A ∙ sym (over-other (e + 28) c (held_at s) e away),
            λ pos. altered-field s S e E file t b c I t' A 4 (omega arith) ∙ sym (over-other (e + 28) b (first_block s) e away),
          ) (
            second-same s S e E file t b c I t' A ∙ many ∙ sym (over-same (e + 28) c (held_at s)),
            λ pos. second-first t' e ∙ starts (rw (over-same (e + 28) c (held_at s)) at pos) ∙ sym (over-same (e + 28) b (first_block s)),
          )

    module _ (first : ℕ) where
      abbrev changed : List ℕ
      changed = set_attribute_fields t e first c

      pub updated-slot : OneSlot s (dirs s) changed e
      updated-slot = altered-slot changed (updated s S e E file t b c I first)

      pub updated-sound : first < 0x100000000 → AttributeFields first c → (0 < c → first ≡ b) → Sound changed
      updated-sound small right starts =
          let p = updated-first s S e E file t b c I first small right in
          let q = updated-size s S e E file t b c I first small right in
          altered-sound changed (updated s S e E file t b c I first) (rw (p, q) right) q (λ pos. p ∙ starts pos)
