-- The attributes of a file, by its entry: its old chain freed, the room that this gives, and the blocks that a set takes, links and fills.
use Prim.Native.Nat.{ℕ, ◌+◌, ◌*◌, ◌/◌, ◌≤◌, ◌<◌}
use mathlib.Core.Path.{◌≡◌, sym, ap, ◌∙◌, subst}
use mathlib.Core.Bool.{true}
use mathlib.Core.List.{List, ◌++◌}
use mathlib.Core.Logic.{inr, ⊎_elim, ◌≢◌}
use native.Mathlib.Omega.{arith}
use lib.ListN.{length, get_or, take, length-take}
use lib.Dec.{eqb}
use Rattle.layout.specs.Lists.{distinct}
use Rattle.layout.specs.Bytes.{be32, block, zeros}
use Rattle.layout.specs.Geometry.{block_count, table_blocks}
use Rattle.layout.specs.Table.{next, chain, free_blocks, occupied}
use Rattle.layout.specs.Directory.{type_of, first_block, attribute_block_of, attribute_size_of, attribute_blocks, is_file, dirs}
use Rattle.layout.specs.Claims.{LowestFree}
use Rattle.layout.specs.Walks.Shapes.{Shape}
use Rattle.volume.specs.Entries.{grown, blocks_named, entries_named}
use Rattle.volume.specs.Write.{put, changed_entries}
use Rattle.volume.specs.Attributes.{emptied, new_attributes}
use Rattle.volume.specs.Walks.Searches.{Growable}
use Rattle.volume.proofs.Laws.Table.{released-next, released-at, released-zero, released-occupied, grown-next}
use Rattle.volume.proofs.Laws.Frame.{released-agree, grown-agree, grown-length, put-agree, written_in, blocks-in, blocks_more, blocks-entries, changed-first}
use Rattle.volume.proofs.Laws.Growth.{grown-new, put-steps}
use Rattle.volume.proofs.Laws.Release.{released-steps}
use Rattle.volume.proofs.Laws.Places.{SetGiven}
use Rattle.volume.proofs.Laws.Fields.{second-staying, second-start}
use Rattle.volume.proofs.Laws.Data.{put_next}
use Rattle.layout.proofs.Laws.Lists.{In, get_d-in, in_left, in_right, in-append}
use Rattle.layout.proofs.Laws.Frames.{Agree, agree_then}
use Rattle.layout.proofs.Laws.Chains.{chain-distinct}
use Rattle.layout.proofs.Laws.Files.{AttributeFields, length-attribute_blocks}
use Rattle.layout.proofs.Laws.Sound.{Sound, Entry, Owner, held_at}
use Rattle.layout.proofs.Laws.Visits.{dir_blocks}
use Rattle.layout.proofs.Laws.Owners.{blocks_at, second, second-blocks, second-no-self, Fresh, fresh-of, free_of, free-lowest, block-high, block-below, block-used, block_apart, block-outside}
use Rattle.layout.proofs.Laws.Counts.{occupied-most}
use Rattle.layout.proofs.Laws.Steps.{Midway, kept-used}

module _ (s : List ℕ) (S : Sound s) (e : ℕ) (E : Entry s e) (file : is_file (type_of s e) ≡ true) where
  abbrev n : ℕ
  n = block_count s

  abbrev A : Owner s (e + 28)
  A = second s S e E file

  abbrev Step : List ℕ → ℕ → ℕ → Type 0
  Step t b c = Midway s (dirs s) (Owner s) (first_block s) (held_at s) (e + 28) t b c

  -- the old chain
  abbrev old : List ℕ
  old = attribute_blocks s e

  in-old : (q : ℕ) → In q old → In q (blocks_at s (e + 28))
  in-old q i = rw (second-blocks s S e E file) i

  pub old_below : (q : ℕ) → In q (attribute_blocks s e) → q < n
  old_below q i = block-below s S (e + 28) A q (in-old q i)

  pub old-above : (q : ℕ) → In q (attribute_blocks s e) → table_blocks n < q
  old-above q i = block-high s S (e + 28) A q (in-old q i)

  pub old-used : (q : ℕ) → In q (attribute_blocks s e) → next s q ≢ 0
  old-used q i = block-used s S (e + 28) A q (in-old q i)

  pub old_apart : (a : ℕ) → Owner s a → a ≢ e + 28 → (q : ℕ) → In q (blocks_at s a) → In q (attribute_blocks s e) → ⊥
  old_apart a O ne q i j = block_apart s S (e + 28) A a O ne q i (in-old q j)

  pub old-outside : (q : ℕ) → In q (attribute_blocks s e) → In q (dir_blocks s) → ⊥
  old-outside q i = block-outside s S (e + 28) A (second-no-self s S e E file) q (in-old q i)

  pub old-once : distinct eqb (attribute_blocks s e) ≡ true
  old-once =
      subst (λ (bs : List ℕ). distinct eqb bs ≡ true) (second-blocks s S e E file)
      (chain-distinct (next s) n (first_block s (e + 28)) (held_at s (e + 28)) (S.table.right (e + 28) A) S.least)

  -- it is freed
  pub freeing : (z : ℕ) × Step (emptied s e) z 0
  unfolding emptied attribute_blocks
  freeing = released-steps s S (dirs s) (Owner s) (first_block s) (held_at s) (e + 28) (second-staying s S e E file) (attribute_size_of s e) s (attribute_block_of s e) (second-start s S e E file)

  pub emptied-length : length (emptied s e) ≡ 512 * n
  emptied-length = freeing.1.len ∙ S.whole

  pub emptied-agree : Agree s (emptied s e) (blocks_named (attribute_blocks s e))
  unfolding emptied
  emptied-agree = released-agree n S.least old s S.whole old_below

  pub emptied-next : (y : ℕ) → y < 128 * table_blocks n → (In y (attribute_blocks s e) → ⊥) → next (emptied s e) y ≡ next s y
  unfolding emptied
  emptied-next y h ne = released-next n S.least old s y S.whole old_below old-above h ne

  pub emptied-at : (q : ℕ) → In q (attribute_blocks s e) → next (emptied s e) q ≡ 0
  unfolding emptied
  emptied-at = released-at n S.least old s S.whole old_below old-above old-once

  pub emptied-zero : (q : ℕ) → In q (attribute_blocks s e) → block (emptied s e) q ≡ zeros 512
  unfolding emptied
  emptied-zero = released-zero n S.least old s S.whole old_below old-above old-once

  pub emptied-used : be32 s 20 ≡ attribute_size_of s e + be32 (emptied s e) 20
  unfolding emptied
  emptied-used =
      let l = length-attribute_blocks s e in
      let o = released-occupied n S.least old s S.whole old_below old-above old-used old-once in
      let u : be32 (emptied s e) 20 ≡ occupied (next (emptied s e)) n = freeing.1.used in
      let w = S.used-is in
      omega arith

  -- the room for a set: the free blocks that the header counts, and those of the old chain
  pub set_room : length (free_blocks (next (emptied s e)) n) ≡ be32 s 24 + attribute_size_of s e
  set_room =
      let u : be32 (emptied s e) 20 ≡ occupied (next (emptied s e)) n = freeing.1.used in
      let w = emptied-used in
      omega (arith, free_of (next (emptied s e)) n, S.used-is, S.free-is, occupied-most (next s) n)

  pub emptied-shape : Shape (emptied s e) n
  emptied-shape = record { whole = emptied-length; low = S.least; high = S.most }

  pub emptied-growable : (count : ℕ) → count ≤ length (free_blocks (next (emptied s e)) n) → Growable (emptied s e) n 0 count
  emptied-growable count room =
      let u : be32 (emptied s e) 20 ≡ occupied (next (emptied s e)) n = freeing.1.used in
      record {
        shape = emptied-shape;
        inside = omega (arith, S.least);
        used = λ pos. absurd (omega arith);
        low = λ b h z. omega (arith, freeing.1.table.low b h);
        enough = room;
        counted = omega (arith, free_of (next (emptied s e)) n, occupied-most (next (emptied s e)) n);
      }

  -- new blocks are taken, and the data is put
  module _ (bytes : List ℕ) (R : SetGiven s e (length bytes)) where
    abbrev new : List ℕ
    new = new_attributes s e (length bytes)

    abbrev larger : List ℕ
    larger = grown (emptied s e) n 0 new

    abbrev first : ℕ
    first = get_or new 0 0

    abbrev full : List ℕ
    full = put larger new 0 bytes

    -- the lowest that are free when the old ones are
    pub set-lowest : LowestFree (emptied s e) (new_attributes s e (length bytes))
    unfolding new_attributes
    set-lowest =
        let q : block_count (emptied s e) ≡ n = ap (λ (x : ℕ). x / 512) freeing.1.len in
        subst (λ (m : ℕ). LowestFree (emptied s e) (take (length bytes / 512) (free_blocks (next (emptied s e)) m))) q (free-lowest (emptied s e) (length bytes / 512))

    pub set-fresh : Fresh n (next (emptied s e)) (new_attributes s e (length bytes))
    unfolding new_attributes
    set-fresh = fresh-of (next (emptied s e)) n (λ b h z. omega (arith, freeing.1.table.low b h)) (length bytes / 512)

    pub set-length : length (new_attributes s e (length bytes)) ≡ length bytes / 512
    unfolding new_attributes
    set-length = let r = R.room in simp length-take (omega arith)

    some : 0 < length new
    some = omega (arith, set-length, R.some, R.blocks)

    pub set-bytes-fit : 512 * length (new_attributes s e (length bytes)) ≡ length bytes
    set-bytes-fit = let r = R.blocks in omega (arith, set-length)

    -- linked, they are the chain from the first of them on
    growing : Step larger first (length new) × (chain (next larger) first (length new) ≡ new)
    growing = grown-new s S (dirs s) (Owner s) (first_block s) (held_at s) (e + 28) (second-staying s S e E file) new (emptied s e) freeing.0 some freeing.1 set-fresh

    pub set-linked : Step larger first (length new)
    set-linked = growing.0

    pub set-chain : chain (next larger) first (length new) ≡ new
    set-chain = growing.1

    pub set-outside : (q : ℕ) → In q (new_attributes s e (length bytes)) → In q (dir_blocks s) → ⊥
    set-outside q i m =
        kept-used s S (dirs s) (Owner s) (first_block s) (held_at s) (e + 28) (second-staying s S e E file) q m (sym (freeing.1.values q m) ∙ set-fresh.empty q i)

    -- filled
    pub filling : Step full first (length new)
    filling =
        put-steps s S (dirs s) (Owner s) (first_block s) (held_at s) (e + 28) (second-staying s S e E file) new larger first (length new) 0 bytes set-linked
        (λ q i. (set-fresh.above q i, set-fresh.below q i, set-outside q i))

    first-in : In first new
    first-in = get_d-in new 0 0 some

    pub first_small : first < 0x100000000
    first_small = omega (arith, set-fresh.below first first-in, S.most)

    pub set-fields : AttributeFields first (length new)
    set-fields = inr ((λ z. omega (arith, set-fresh.above first first-in)), some, omega (arith, set-length, R.few))

    -- only the old and the new blocks are written to, and those that they name
    room : 0 < n
    room = omega (arith, S.least)

    pub larger-length : length larger ≡ 512 * n
    larger-length = grown-length n S.least new (emptied s e) 0 emptied-length room set-fresh.below

    pub later-agree : Agree (emptied s e) full (blocks_named new)
    later-agree =
        agree_then (grown-agree n S.least new (emptied s e) 0 emptied-length room set-fresh.below) (put-agree n S.least new larger 0 bytes larger-length set-fresh.below)
        (λ x i. ⊎_elim (blocks-in new x) (λ j. blocks-entries new x (subst (λ (bs : List ℕ). In x (entries_named bs)) (changed-first new) j)) (in-append x new (entries_named (changed_entries 0 new)) i))
        (λ x i. blocks-in new x (written_in new 0 (length bytes) x i))

    pub full-agree : Agree s full (blocks_named (old ++ new))
    full-agree = agree_then emptied-agree later-agree (blocks_more old (old ++ new) (λ x i. in_left x old new i)) (blocks_more new (old ++ new) (λ x i. in_right x old new i))

    pub both_below : (q : ℕ) → In q (old ++ new) → q < n
    both_below q i = ⊎_elim (old_below q) (set-fresh.below q) (in-append q old new i)

    pub both-apart : (a : ℕ) → Owner s a → a ≢ e + 28 → (q : ℕ) → In q (blocks_at s a) → In q (old ++ new) → ⊥
    both-apart a O ne q i m =
        ⊎_elim (old_apart a O ne q i)
        (λ j. block-used s S a O q i (sym (emptied-next q (omega (arith, block-below s S a O q i)) (old_apart a O ne q i)) ∙ set-fresh.empty q j)) (in-append q old new m)

    -- the table's entries
    pub full-next : (y : ℕ) → y < 128 * table_blocks n → next full y ≡ next larger y
    full-next = put_next n S.least new larger 0 bytes larger-length set-fresh.below set-fresh.above

    pub full-kept : (y : ℕ) → y < 128 * table_blocks n → (In y (old ++ new) → ⊥) → next full y ≡ next s y
    full-kept y h ne =
        full-next y h
        ∙ grown-next n S.least new (emptied s e) 0 y emptied-length room set-fresh.below set-fresh.above h (λ i. ne (in_right y old new i)) (λ pos z. omega arith)
        ∙ emptied-next y h (λ i. ne (in_left y old new i))
