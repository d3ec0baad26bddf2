-- Create: the new entry; the image after it is sound.
use Prim.Native.Nat.{ℕ, ◌+◌, ◌-◌, ◌*◌, ◌≤◌, ◌<◌}
use mathlib.Core.Path.{◌≡◌, sym, ap, ◌∙◌, refl, subst}
use mathlib.Core.Bool.{true, false, or-true}
use mathlib.Core.List.{List}
use mathlib.Core.Logic.{inl, inr, ⊎_elim, ◌≢◌, ◌⊎◌}
use native.Mathlib.Omega.{arith}
use lib.ListN.{length}
use Rattle.layout.specs.Limits.{max_levels}
use Rattle.layout.specs.Bytes.{be32, bytes4, part, splice, block}
use Rattle.layout.specs.Directory.{slot_at, type_of, first_block, is_free, is_file, is_directory, padded, name_of, good_name, directory, dirs, free_slot}
use Rattle.layout.specs.Check.{no_attributes, attributes_ok, file_ok, slot_ok, check}
use Rattle.layout.specs.Paths.{parts, leading, last_part, home}
use Rattle.volume.specs.Entries.{entry_bytes}
use Rattle.volume.specs.Create.{create_refusal, create_image}
use Rattle.volume.proofs.Laws.Entries.{entry-type, entry_first, entry-size, entry-blocks, entry-attribute, entry-attribute-size, entry-named, entry_length}
use Rattle.volume.proofs.Laws.Places.{create-given, path-name, place_is, place-home, place-free, place-new}
use Rattle.layout.proofs.Laws.Bytes.{length-splice}
use Rattle.layout.proofs.Laws.Tests.{is_false, within-split}
use Rattle.layout.proofs.Laws.Names.{padded-length, name-is, name-ok}
use Rattle.layout.proofs.Laws.Lists.{In}
use Rattle.layout.proofs.Laws.Frames.{same_beside, Same, before-next}
use Rattle.layout.proofs.Laws.Trees.{size_at}
use Rattle.layout.proofs.Laws.Sound.{held_at, own_held, second-held, Sound, Entry, Owner, sound, check-zero}
use Rattle.layout.proofs.Laws.Slots.{slot-entry, right-dir, entry-high, entry-low}
use Rattle.layout.proofs.Laws.Owners.{blocks_at, file-held, none-held, none-second, entry-elsewhere, block-below, block-outside}
use Rattle.layout.proofs.Laws.Visits.{dir_blocks}
use Rattle.layout.proofs.Laws.Changed.{OneSlot}
use Rattle.layout.specs.Table.{next}
use Rattle.layout.specs.Geometry.{block_count, root_block}
use Rattle.layout.proofs.Laws.Steps.{midway_start, midway-own, one-slot}

-- a good name in a free slot k of a directory d of the tree, in which no slot has that name
module _ (s : List ℕ) (S : Sound s) (d : ℕ × ℕ) (di : In d (dirs s)) (k : ℕ) (k₁ : 1 ≤ k) (k₂ : k < 4 * size_at s d.0 - 1) (free : type_of s (slot_at (directory s d.0) k) ≡ 0)
    (name : List ℕ) (good : good_name name ≡ true)
    (none : (j : ℕ) → 1 ≤ j → j < 4 * size_at s d.0 - 1 → type_of s (slot_at (directory s d.0) j) ≢ 0 → name ≢ name_of s (slot_at (directory s d.0) j))
    (type user group permissions flags time : ℕ) (file : is_file type ≡ true)
  where
    abbrev e : ℕ
    e = slot_at (directory s d.0) k

    abbrev p : List ℕ
    p = entry_bytes type user group permissions 0 0 0 time flags name

    abbrev done : List ℕ
    done = splice s e p

    mine : Entry s e
    mine = slot-entry s S d di k (omega arith)

    fits : e + 128 ≤ length s
    fits = entry-high s S e mine

    eighty : length (padded name) ≡ 80
    eighty = padded-length name good

    long : length p ≡ 128
    long = entry_length name eighty type user group permissions 0 0 0 time flags

    outside : (a w : ℕ) → (a + w ≤ e) ⊎ (e + 128 ≤ a) → Same s done a w
    outside a w h = same_beside s e p (omega (arith, long, fits)) a w (⊎_elim (λ x. inl x) (λ x. inr (omega (arith, long))) h)

    done-type : type_of done e ≡ type
    done-type = entry-type name eighty type user group permissions 0 0 0 time flags s e fits

    field : part done (e + 48) 80 ≡ padded name
    field = entry-named name eighty type user group permissions 0 0 0 time flags s e fits

    slot-ok : slot_ok done e ≡ true
    unfolding slot_ok file_ok attributes_ok no_attributes be32 bytes4
    slot-ok =
        rw (
          name-ok name good done e field,
          done-type,
          file,
          entry_first name eighty type user group permissions 0 0 0 time flags s e fits,
          entry-size name eighty type user group permissions 0 0 0 time flags s e fits,
          entry-blocks name eighty type user group permissions 0 0 0 time flags s e fits,
          entry-attribute name eighty type user group permissions 0 0 0 time flags s e fits,
          entry-attribute-size name eighty type user group permissions 0 0 0 time flags s e fits,
        )
        (or-true (is_free type))

    no_self : (x : ℕ × ℕ) → In x (dirs s) → 512 * x.0 ≢ e
    no_self x i q = let z = (right-dir s S x i).1.self_type in let w : type_of s (512 * x.0) ≡ 0 = ap (type_of s) q ∙ free in omega arith

    no-dir : is_directory (type_of done e) ≡ false
    no-dir = rw done-type (is_false (is_directory type) (λ t. let a = within-split 0x20 0x5F type t in let b = within-split 0x60 0x9F type file in omega arith))

    held_none : held_at s e ≡ 0
    held_none = none-held s e mine.aligned (rw free)

    held_new : held_at done e ≡ held_at s e
    unfolding be32 bytes4
    held_new =
        own_held done e mine.aligned ∙ (rw (done-type, entry-blocks name eighty type user group permissions 0 0 0 time flags s e fits) (file-held type 0 file)) ∙ sym held_none

    second_none : held_at s (e + 28) ≡ 0
    second_none = none-second s e mine.aligned (rw free)

    second-new : held_at done (e + 28) ≡ held_at s (e + 28)
    unfolding be32 bytes4
    second-new =
        second-held done e mine.aligned ∙ (rw (done-type, file, entry-attribute-size name eighty type user group permissions 0 0 0 time flags s e fits)) ∙ sym second_none

    pub created-sound : Sound done
    created-sound =
        midway-own s S d di k k₁ k₂ s (first_block s e) (held_at s e) (midway_start s S e (inl mine) no_self) done (length-splice s e p (omega (arith, long, fits))) outside
        (rw free) no-dir slot-ok (λ u j h g ne used q. none j h g used (sym (name-is name good done e field) ∙ q)) (λ pos. absurd (omega (arith, held_none))) held_new
        second-new (λ pos. absurd (omega (arith, second_none)))

    -- every other entry stays, and every owner's blocks
    pub created-slot : OneSlot s (dirs s) done e
    created-slot =
        one-slot s S d di k k₁ k₂ (first_block s) (held_at s) e s (first_block s e) (held_at s e) (midway_start s S e (inl mine) no_self) done (length-splice s e p (omega (arith, long, fits))) outside

    pub created-no-dir : is_directory (type_of done e) ≡ false
    created-no-dir = no-dir

    pub created-name : name_of done e ≡ name
    created-name = name-is name good done e field

    module _ (a : ℕ) (A : Owner s a) (q : ℕ) (i : In q (blocks_at s a)) where
      pub created-next : next done q ≡ next s q
      created-next = before-next s done (block_count s) (outside 0 (512 * root_block (block_count s)) (inl (omega (arith, entry-low s S e mine)))) q (omega (arith, block-below s S a A q i))

      pub created-block : ((x : ℕ × ℕ) → In x (dirs s) → a ≢ 512 * x.0) → block done q ≡ block s q
      created-block apart =
          entry-elsewhere s S e mine s done refl (length-splice s e p (omega (arith, long, fits))) outside q (block-below s S a A q i)
          (λ z. block-outside s S a A apart q i (subst (λ (y : ℕ). In y (dir_blocks s)) z mine.within-tree))

pub kept-create : (s path : List ℕ) (type user group permissions flags time : ℕ) → check s ≡ 0 → create_refusal s path type flags ≡ 0
    → check (create_image s path type user group permissions flags time) ≡ 0
unfolding create_image
kept-create s path type user group permissions flags time c r =
    let G = create-given s path type flags r in
    let w = place-free s path G.placed in
    rw (place_is s path G.placed) (check-zero _ (created-sound s (sound s c) (home s path, max_levels - length (leading (parts path))) (place-home s path G.placed G.short)
    (free_slot s (directory s (home s path))) w.0 w.1 w.2 (last_part (parts path)) (path-name path G.good) (place-new s path G.placed) type user group permissions flags time G.file))
