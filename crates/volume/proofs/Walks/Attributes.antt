-- Attributes set and cleared, as the code does it: the refusals of a set, where a file's attributes are, the images step by step and the blocks named.
use Rattle.std.proofs.Common.{ℕ, ◌+◌, ◌*◌, ◌/◌, ◌%◌, ◌≤◌, ◌<◌, ◌≡◌, refl, sym, ap, ◌∙◌, subst, Bool, true, false, cond, ◌&&◌, true≢false, List, [], ◌∷◌, Option, Some, None, is_some, arith, eqb, leb, length, get_or, take}
use lib.ListN.{length-take}
use borrow.Author.Tests.{le-leb, lt-leb}
use Rattle.layout.specs.Limits.{max_attributes, max_blocks}
use Rattle.layout.specs.Refusals.{require, first_of}
use Rattle.layout.specs.Lists.{joined}
use Rattle.layout.specs.Bytes.{be32}
use Rattle.layout.specs.Geometry.{block_count}
use Rattle.layout.specs.Table.{next, chain, free_blocks, table_block_of, occupied, chain_ok}
use Rattle.layout.specs.Directory.{attribute_block_of, attribute_size_of, attribute_blocks, is_file}
use Rattle.layout.specs.Check.{check}
use Rattle.layout.specs.Paths.{parts, path_ok, entry_of, file_refusal}
use Rattle.layout.specs.Walks.Looks.{Located}
use Rattle.layout.specs.Walks.Paths.{good_parts}
use Rattle.layout.specs.Walks.Shapes.{Shape, ChainBelow}
use Rattle.layout.specs.Walks.Slots.{entry_at, SomeUnlessZero}
use Rattle.volume.specs.Entries.{grown, released, blocks_named}
use Rattle.volume.specs.Write.{put}
use Rattle.volume.specs.Attributes.{emptied, new_attributes, set_attribute_fields, set_attributes_at, clear_attributes_at, set_attributes_named, clear_attributes_named, set_attributes_refusal}
use Rattle.volume.specs.Walks.Marks.{marked}
use Rattle.volume.specs.Walks.Data.{Placed}
use Rattle.volume.specs.Walks.Searches.{without}
use Rattle.volume.specs.Walks.Attributes.{set_form_refusal, Fillable}
use Rattle.layout.proofs.Laws.Tests.{first_of-refused}
use Rattle.layout.proofs.Laws.Lists.{select-same}
use Rattle.layout.proofs.Laws.Files.{attributes-few}
use Rattle.layout.proofs.Laws.Looks.{path-file}
use Rattle.layout.proofs.Laws.Sound.{sound}
use Rattle.layout.proofs.Walks.Homes.{some-parts}
use Rattle.layout.proofs.Walks.Looks.{attributes-ok}
use Rattle.layout.proofs.Walks.Shapes.{sound-shape, sound-chain}
use Rattle.volume.proofs.Laws.Places.{SetGiven, set-path, set_given}
use Rattle.volume.proofs.Laws.Data.{begun-chain, begun-placed}
use Rattle.volume.proofs.Laws.Room.{room-is, room-growable, emptied-entry, set-many, set-first-small}
use Rattle.volume.proofs.Walks.Marks.{marked-both}
use Rattle.volume.proofs.Walks.WriteNamed.{marked-pairs}

-- whether it is a path, by the number of its parts
module _ (path : List ℕ) where
  pub no-parts : (r : Option ℕ) → SomeUnlessZero (good_parts path) r → is_some r ≡ false → path_ok path ≡ false
  unfolding good_parts
  no-parts None z h = go (path_ok path) refl z
    where
      go : (t : Bool) → path_ok path ≡ t → cond t (length (parts path)) 0 ≡ 0 → path_ok path ≡ false
      go true q z = absurd (omega (arith, some-parts path q))
      go false q z = q
  no-parts (Some k) z h = absurd (true≢false h)

  pub has-parts : (r : Option ℕ) → SomeUnlessZero (good_parts path) r → is_some r ≡ true → path_ok path ≡ true
  unfolding good_parts
  has-parts None z h = absurd (true≢false (sym h))
  has-parts (Some k) z h = go (path_ok path) refl z
    where
      go : (t : Bool) → path_ok path ≡ t → (k ≡ cond t (length (parts path)) 0) × (k ≡ 0 → ⊥) → path_ok path ≡ true
      go true q z = q
      go false q z = absurd (z.1 z.0)

-- the refusals by path and data alone
module _ (path : List ℕ) (count : ℕ) where
  pub set-bad-path : path_ok path ≡ false → 9 ≡ set_form_refusal path count
  unfolding set_form_refusal
  set-bad-path h = rw h

  module _ (good : path_ok path ≡ true) where
    pub set-bad-count : false ≡ leb 1 count && eqb (count % 512) 0 → 9 ≡ set_form_refusal path count
    unfolding set_form_refusal
    set-bad-count h = rw (good, ← h)

    module _ (blocks : true ≡ leb 1 count && eqb (count % 512) 0) where
      pub set_long : 512 * max_attributes < count → 20 ≡ set_form_refusal path count
      unfolding set_form_refusal
      set_long h = rw (good, ← blocks, lt-leb count (512 * max_attributes) h)

      pub set-short : count ≤ 512 * max_attributes → 0 ≡ set_form_refusal path count
      unfolding set_form_refusal
      set-short h = rw (good, ← blocks, le-leb count (512 * max_attributes) h)

  module _ (s : List ℕ) (r : ℕ) (e : r ≡ set_form_refusal path count) where
    pub set-form-refused : (r ≡ 0 → ⊥) → r ≡ set_attributes_refusal s path count
    unfolding set_form_refusal set_attributes_refusal
    set-form-refused h = e ∙ go (path_ok path && (leb 1 count && eqb (count % 512) 0)) (leb count (512 * max_attributes)) _ (λ z. h (e ∙ z))
      where
        go : (a b : Bool) (rest : ℕ) → (require a 9 (require b 20 0) ≡ 0 → ⊥) → require a 9 (require b 20 0) ≡ require a 9 (require b 20 rest)
        go true true rest z = absurd (z refl)
        go true false rest z = refl
        go false b rest z = refl

    module _ (fine : r ≡ 0) where
      by-file : set_attributes_refusal s path count
          ≡ first_of (file_refusal s path) (require (leb (count / 512) (length (free_blocks (next (emptied s (entry_of is_file s path))) (block_count s)))) 14 0)
      unfolding set_form_refusal set_attributes_refusal
      by-file = go (path_ok path && (leb 1 count && eqb (count % 512) 0)) (leb count (512 * max_attributes)) _ (sym e ∙ fine)
        where
          go : (a b : Bool) (rest : ℕ) → require a 9 (require b 20 0) ≡ 0 → require a 9 (require b 20 rest) ≡ rest
          go true true rest z = refl
          go true false rest z = absurd (omega arith)
          go false b rest z = absurd (omega arith)

      pub set-path-refused : (file_refusal s path ≡ 0 → ⊥) → file_refusal s path ≡ set_attributes_refusal s path count
      set-path-refused h = sym (by-file ∙ first_of-refused (file_refusal s path) _ h)

-- the entry at e stands in a slot of a block, and its attributes are the chain of `blocks` blocks from `first` on
pub record Attributed (s : List ℕ) (e slot block first blocks : ℕ) : Type 0 where
  pub place : entry_at block slot ≡ e
  pub inside : block < block_count s
  pub start : first ≡ attribute_block_of s e
  pub count : blocks ≡ attribute_size_of s e
  pub chained : chain_ok (next s) (block_count s) first blocks ≡ true

-- the attributes of a file that is there
module _ (s path : List ℕ) (ok : check s ≡ 0) (r : file_refusal s path ≡ 0) where
  pub attributed : {slot b first size blocks f k : ℕ} → Located is_file s path slot b first size blocks
      → (f ≡ attribute_block_of s (entry_at b slot)) × (k ≡ attribute_size_of s (entry_at b slot)) → Attributed s (entry_of is_file s path) slot b f k
  attributed l e =
      record {
        place = l.place;
        inside = l.inside;
        start = e.0 ∙ ap (λ (a : ℕ). attribute_block_of s a) l.place;
        count = e.1 ∙ ap (λ (a : ℕ). attribute_size_of s a) l.place;
        chained = attributes-ok l e r ok;
      }

  -- 14, by the header's count and that of the old blocks
  module _ (count : ℕ) {w : ℕ} (ew : w ≡ set_form_refusal path count) (fine : w ≡ 0) {free old : ℕ} (ef : free ≡ be32 s 24) (eo : old ≡ attribute_size_of s (entry_of is_file s path)) where
    decided : set_attributes_refusal s path count ≡ require (leb (count / 512) (free + old)) 14 0
    decided = by-file path count s w ew fine ∙ rw (r, room-is s path ok r, ← ef, ← eo)

    pub set_full : free + old < count / 512 → 14 ≡ set_attributes_refusal s path count
    set_full h = sym (decided ∙ rw (lt-leb (count / 512) (free + old) h))

    pub set-fine : count / 512 ≤ free + old → 0 ≡ set_attributes_refusal s path count
    set-fine h = sym (decided ∙ rw (le-leb (count / 512) (free + old) h))

    pub room_small : free + old ≤ max_blocks + max_attributes
    room_small = let S = sound s ok in omega (arith, S.free-is, S.most, attributes-few s (entry_of is_file s path) (path-file s path r ok).fields)

-- a file's attributes by the numbers found
module _ {s : List ℕ} {e slot b first blocks : ℕ} (a : Attributed s e slot b first blocks) where
  attributes-are : chain (next s) first blocks ≡ attribute_blocks s e
  unfolding attribute_blocks
  attributes-are = rw (a.start, a.count)

  attributes-in : e / 512 ≡ b
  attributes-in = rw (← a.place) (omega arith)

  emptied-is : released s (block_count s) (chain (next s) first blocks) ≡ emptied s e
  unfolding emptied
  emptied-is = ap (released s (block_count s)) attributes-are

  pub cleared-is : set_attribute_fields (released s (block_count s) (chain (next s) first blocks)) (entry_at b slot) 0 0 ≡ clear_attributes_at s (entry_at b slot)
  unfolding clear_attributes_at
  cleared-is = rw (a.place, emptied-is)

  pub cleared-named : (m : List ℕ) → marked (marked m (b ∷ [])) (blocks_named (chain (next s) first blocks)) ≡ marked m (clear_attributes_named s (entry_at b slot))
  unfolding marked clear_attributes_named
  cleared-named m = rw (a.place, attributes-are, attributes-in)

  module _ (ok : check s ≡ 0) where
    pub attributes-run : ChainBelow s (block_count s) first blocks
    attributes-run = sound-chain s ok first blocks a.chained

    pub attributes-freeable : (Shape s (block_count s)) × (chain_ok (next s) (block_count s) first blocks ≡ true) × (be32 s 20 ≡ occupied (next s) (block_count s))
    attributes-freeable = (sound-shape s ok, a.chained, (sound s ok).used-is)

-- an accepted set
module _ (s path : List ℕ) (count : ℕ) {slot b first blocks : ℕ} (ok : check s ≡ 0) (r : set_attributes_refusal s path count ≡ 0)
    (a : Attributed s (entry_of is_file s path) slot b first blocks)
  where
    abbrev e : ℕ
    e = entry_of is_file s path

    abbrev n : ℕ
    n = block_count s

    found : file_refusal s path ≡ 0
    found = set-path s path count r

    given : SetGiven s e count
    given = set_given s path count r

    -- the blocks that are free when the old chain is freed
    abbrev vacant : List ℕ
    vacant = free_blocks (without (next s) (chain (next s) first blocks)) n

    vacant-is : vacant ≡ free_blocks (next (emptied s e)) n
    unfolding free_blocks without
    vacant-is =
        select-same (λ x. eqb (next (emptied s e) x) 0) (λ x. eqb (without (next s) (chain (next s) first blocks) x) 0) n 0
        (λ x h l. rw (attributes-are a) (ap (λ (v : ℕ). eqb v 0) (sym (emptied-entry s path ok found x (omega arith)))))

    new_is : take (count / 512) vacant ≡ new_attributes s e count
    unfolding new_attributes
    new_is = ap (take (count / 512)) vacant-is

    pub vacant-enough : count / 512 ≤ length (free_blocks (without (next s) (chain (next s) first blocks)) (block_count s))
    vacant-enough = rw vacant-is given.room

    some : 0 < length (take (count / 512) vacant)
    some = omega (arith, length-take (count / 512) vacant, vacant-enough, given.some, given.blocks)

    pub set-named : (m : List ℕ)
        → marked (marked (marked (marked m (b ∷ [])) (blocks_named (chain (next s) first blocks))) (0 ∷ []))
        (joined (λ x. x ∷ table_block_of x ∷ []) (take (count / 512) (free_blocks (without (next s) (chain (next s) first blocks)) (block_count s))))
        ≡ marked m (set_attributes_named s (entry_at b slot) count)
    unfolding marked set_attributes_named
    set-named m =
        marked-pairs (take (count / 512) vacant) (marked (marked m (b ∷ [])) (blocks_named (chain (next s) first blocks))) some
        ∙ marked-both (chain (next s) first blocks) (take (count / 512) vacant) (marked m (b ∷ []))
        ∙ rw (a.place, new_is, attributes-are a, attributes-in a)

    -- the image without the old chain
    module _ (t : List ℕ) (et : t ≡ released s (block_count s) (chain (next s) first blocks)) where
      emptied-now : t ≡ emptied s e
      emptied-now = et ∙ emptied-is a

      pub set-fillable : Fillable t (block_count s) count
      set-fillable =
          record { some = given.some; whole = given.blocks; room = rw emptied-now (room-growable s path ok found (count / 512) given.room) }

-- filling blocks: the first by search, then a chain of them all
module _ {s : List ℕ} {n : ℕ} (bytes : List ℕ) (f : Fillable s n (length bytes)) where
  abbrev blocks-new : ℕ
  blocks-new = length bytes / 512

  abbrev fresh : List ℕ
  fresh = take (length bytes / 512) (free_blocks (next s) n)

  fill_one : 1 ≤ length bytes / 512
  fill_one = omega (arith, f.some, f.whole)

  module _ (t : List ℕ) (et : t ≡ grown s n 0 (take (length bytes / 512) (free_blocks (next s) n))) (b : ℕ) (eb : b ≡ get_or (take (length bytes / 512) (free_blocks (next s) n)) 0 0) where
    pub fill-placed : Placed t n b (length bytes / 512) 0 (length bytes)
    fill-placed =
        let q : 512 * blocks-new ≡ length bytes = omega (arith, f.whole) in
        rw (et, eb) (subst (λ (j : ℕ). Placed (grown s n 0 fresh) n (get_or fresh 0 0) blocks-new 0 j) q (begun-placed s n blocks-new f.room fill_one))

    pub fill-put : put t (chain (next t) b (length bytes / 512)) 0 bytes ≡ put (grown s n 0 (take (length bytes / 512) (free_blocks (next s) n))) (take (length bytes / 512) (free_blocks (next s) n)) 0 bytes
    fill-put = rw (et, eb, begun-chain s n blocks-new f.room fill_one)

-- the new chain filled, and the fields set
module _ (s path bytes : List ℕ) {slot b first blocks : ℕ} (ok : check s ≡ 0) (r : set_attributes_refusal s path (length bytes) ≡ 0)
    (a : Attributed s (entry_of is_file s path) slot b first blocks)
    (t : List ℕ) (et : t ≡ released s (block_count s) (chain (next s) first blocks))
    (start : ℕ) (es : start ≡ get_or (take (length bytes / 512) (free_blocks (next t) (block_count s))) 0 0)
    (u : List ℕ) (eu : u ≡ put (grown t (block_count s) 0 (take (length bytes / 512) (free_blocks (next t) (block_count s)))) (take (length bytes / 512) (free_blocks (next t) (block_count s))) 0 bytes)
  where
    now : t ≡ emptied s (entry_of is_file s path)
    now = et ∙ emptied-is a

    taken_is : take (length bytes / 512) (free_blocks (next t) (block_count s)) ≡ new_attributes s (entry_of is_file s path) (length bytes)
    unfolding new_attributes
    taken_is = rw now

    pub set-numbers : (start < 4294967296) × (length bytes / 512 < 4294967296)
    set-numbers = (rw (es, taken_is) (set-first-small s path ok bytes r), omega (arith, (set_given s path (length bytes) r).few))

    pub set-done : set_attribute_fields u (entry_at b slot) start (length bytes / 512) ≡ set_attributes_at s (entry_at b slot) bytes
    unfolding set_attributes_at
    set-done = rw (a.place, eu, es, taken_is, now, set-many s path ok bytes r)
