-- The system flags of a file cleared, the file in slot k of a directory of the tree: only their four bytes change, the image is sound, and every owner keeps its
-- blocks.
use Prim.Native.Nat.{ℕ, ◌+◌, ◌-◌, ◌*◌, ◌≤◌, ◌<◌}
use mathlib.Core.Path.{◌≡◌}
use mathlib.Core.Bool.{true}
use mathlib.Core.List.{List, []}
use mathlib.Core.Logic.{◌⊎◌, inl, inr, ⊎_elim, ◌≢◌}
use native.Mathlib.Omega.{arith}
use lib.ListN.{length}
use Rattle.layout.specs.Bytes.{be32, part, block, zeros}
use Rattle.layout.specs.Geometry.{block_count, table_blocks}
use Rattle.layout.specs.Table.{next}
use Rattle.layout.specs.Directory.{slot_at, type_of, attribute_block_of, attribute_size_of, is_file, name_ok, directory, dirs}
use Rattle.layout.specs.Check.{check, attributes_ok, file_ok}
use Rattle.layout.specs.Paths.{home, path_slot, entry_of, file_refusal}
use Rattle.layout.specs.Claims.{SameAttributes}
use Rattle.volume.specs.Entries.{entries_named, blocks_named}
use Rattle.volume.specs.Flags.{clear_flags_at, clear_flags_named}
use Rattle.volume.proofs.Laws.Places.{file-at-path}
use Rattle.volume.proofs.Laws.Fields.{Altered, EntryKept, second-start, altered-field, altered-kept, altered-next, altered-slot, altered-sound}
use Rattle.volume.proofs.Laws.Unchanged.{Bounded, entry-bounded, value-kept, block-kept, file-kept}
use Rattle.layout.proofs.Laws.Tests.{and_split}
use Rattle.layout.proofs.Laws.Bytes.{length-zeros, length-splice, part-splice}
use Rattle.layout.proofs.Laws.Lists.{In}
use Rattle.layout.proofs.Laws.Frames.{Same, same_beside, same-be32, agree_refl}
use Rattle.layout.proofs.Laws.Trees.{size_at}
use Rattle.layout.proofs.Laws.Sound.{Sound, Entry, Owner, sound, check-zero}
use Rattle.layout.proofs.Laws.Slots.{slot-entry, slot-ok, entry-low, entry-high}
use Rattle.layout.proofs.Laws.Files.{AttributeFields, attributes_ok-split}
use Rattle.layout.proofs.Laws.Owners.{blocks_at, file-slot-ok, second, second-blocks, second-no-self}
use Rattle.layout.proofs.Laws.Changed.{OneSlot}
use Rattle.layout.proofs.Laws.Others.{SameFile, same-attributes}

module _ (s : List ℕ) (S : Sound s) (d : ℕ × ℕ) (di : In d (dirs s)) (k : ℕ) (k₁ : 1 ≤ k) (k₂ : k < 4 * size_at s d.0 - 1)
    (file : is_file (type_of s (slot_at (directory s d.0) k)) ≡ true)
  where
    abbrev n : ℕ
    n = block_count s

    abbrev e : ℕ
    e = slot_at (directory s d.0) k

    E : Entry s e
    E = slot-entry s S d di k (omega arith)

    abbrev t : List ℕ
    t = clear_flags_at s e

    fits : e + 40 + length (zeros 4) ≤ length s
    fits = omega (arith, length-zeros 4, entry-high s S e E)

    -- every byte but those four
    pub flags-beside : (a w : ℕ) → (a + w ≤ e + 40) ⊎ (e + 44 ≤ a) → Same s (clear_flags_at s e) a w
    unfolding clear_flags_at
    flags-beside a w h = same_beside s (e + 40) (zeros 4) fits a w (⊎_elim (λ x. inl x) (λ x. inr (omega (arith, length-zeros 4))) h)

    altered : Altered s t e
    unfolding clear_flags_at
    altered = record { size = length-splice s (e + 40) (zeros 4) fits; beside = λ a w h. flags-beside a w (⊎_elim (λ x. inl (omega arith)) (λ x. inr (omega arith)) h) }

    pub flags-zero : part (clear_flags_at s e) (e + 40) 4 ≡ zeros 4
    unfolding clear_flags_at
    flags-zero = part-splice s (e + 40) (zeros 4) 4 (length-zeros 4) (omega (arith, fits))

    first-same : attribute_block_of t e ≡ attribute_block_of s e
    first-same = same-be32 s t (e + 32) 8 (e + 32) (flags-beside (e + 32) 8 (inl (omega arith))) (omega arith) (omega arith)

    size_same : attribute_size_of t e ≡ attribute_size_of s e
    size_same = same-be32 s t (e + 32) 8 (e + 36) (flags-beside (e + 32) 8 (inl (omega arith))) (omega arith) (omega arith)

    right : AttributeFields (attribute_block_of s e) (attribute_size_of s e)
    unfolding file_ok
    right = attributes_ok-split s e (and_split (attributes_ok s e) _ (and_split (name_ok s e) _ (file-slot-ok s e file (slot-ok s S d di k k₁ k₂))).1).0

    pub flags-sound : Sound (clear_flags_at s e)
    flags-sound = altered-sound s S d di k k₁ k₂ file s (attribute_block_of s e) (attribute_size_of s e) (second-start s S e E file) t altered (rw (first-same, size_same) right) size_same (λ pos. first-same)

    pub flags-slot : OneSlot s (dirs s) (clear_flags_at s e) e
    flags-slot = altered-slot s S d di k k₁ k₂ file s (attribute_block_of s e) (attribute_size_of s e) (second-start s S e E file) t altered

    pub flags-entry : EntryKept s (clear_flags_at s e) e
    flags-entry = altered-kept s S e E file s (attribute_block_of s e) (attribute_size_of s e) (second-start s S e E file) t altered

    flags-table : (y : ℕ) → y < 128 * table_blocks n → next (clear_flags_at s e) y ≡ next s y
    flags-table = altered-next s S e E file s (attribute_block_of s e) (attribute_size_of s e) (second-start s S e E file) t altered

    pub flags-bounded : Bounded s (clear_flags_at s e) (clear_flags_named e)
    unfolding clear_flags_at clear_flags_named blocks_named entries_named
    flags-bounded = entry-bounded s S e E s [] (agree_refl s []) (λ q i. absurd i) (e + 40) (zeros 4) (omega arith) (omega (arith, length-zeros 4))

    -- every owner that is no self entry keeps its blocks
    module _ (a : ℕ) (O : Owner s a) (no_self : (x : ℕ × ℕ) → In x (dirs s) → a ≢ 512 * x.0) where
      pub flags-next : (q : ℕ) → In q (blocks_at s a) → next (clear_flags_at s e) q ≡ next s q
      unfolding clear_flags_named blocks_named entries_named
      flags-next = value-kept s S e E [] t flags-bounded.agree (λ q i. absurd i) (λ y h ne. flags-table y h) a O no_self (λ q i j. j)

      pub flags-block : (q : ℕ) → In q (blocks_at s a) → block (clear_flags_at s e) q ≡ block s q
      unfolding clear_flags_named blocks_named entries_named
      flags-block = block-kept s S e E [] t flags-bounded.agree (λ q i. absurd i) (λ y h ne. flags-table y h) a O no_self (λ q i j. j)

    pub flags-content : SameFile s (clear_flags_at s e) e
    unfolding clear_flags_named blocks_named entries_named
    flags-content =
        let field = altered-field s S e E file s (attribute_block_of s e) (attribute_size_of s e) (second-start s S e E file) t altered in
        file-kept s S e E [] t flags-bounded.agree (λ q i. absurd i) (λ y h ne. flags-table y h) e E file flags-entry.type (field 4 (omega arith)) (field 12 (omega arith)) (field 8 (omega arith))
        (λ q i j. j)

    pub flags-attributes : SameAttributes s (clear_flags_at s e) e
    flags-attributes =
        same-attributes s t e E.aligned file flags-entry.type first-same size_same
        (λ q i. flags-next (e + 28) (second s S e E file) (second-no-self s S e E file) q (rw (second-blocks s S e E file) i))
        (λ q i. flags-block (e + 28) (second s S e E file) (second-no-self s S e E file) q (rw (second-blocks s S e E file) i))

    pub flags-used : be32 (clear_flags_at s e) 20 ≡ be32 s 20
    flags-used = same-be32 s t 0 28 20 (flags-beside 0 28 (inl (omega (arith, entry-low s S e E)))) (omega arith) (omega arith)

-- by paths
pub kept-flags : (s path : List ℕ) → check s ≡ 0 → file_refusal s path ≡ 0 → check (clear_flags_at s (entry_of is_file s path)) ≡ 0
unfolding entry_of
kept-flags s path ok r =
    let A = file-at-path s path r in
    let N = A.named in
    check-zero _ (flags-sound s (sound s ok) (home s path, A.level) A.home-in (path_slot is_file s path) N.low N.high N.typed)
