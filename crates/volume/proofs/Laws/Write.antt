-- Write: blocks are taken, the data is put, the entry is set again. The image after it is sound; the file's content, blocks and entry are those
-- that the write asks for, and the other files stay.
use Prim.Native.Nat.{ℕ, ◌+◌, ◌-◌, ◌*◌, ◌≤◌, ◌<◌, max}
use mathlib.Core.Path.{◌≡◌, sym, ap, ◌∙◌, subst}
use mathlib.Core.Bool.{true}
use mathlib.Core.List.{List, ◌++◌}
use mathlib.Core.Logic.{◌⊎◌, inl, ⊎_elim, ◌≢◌}
use native.Mathlib.Omega.{arith}
use lib.ListN.{length, get_or, take, get_or-eq_default}
use lib.Dec.{eqb}
use lib.Seq.{take-append-le}
use Rattle.layout.specs.Lists.{last_or, distinct, joined}
use Rattle.layout.specs.Bytes.{be32, bytes8, part, splice, zeros, block}
use Rattle.layout.specs.Geometry.{block_count, table_blocks, blocks_for, root_block}
use Rattle.layout.specs.Table.{next, chain, free_blocks}
use Rattle.layout.specs.Directory.{slot_at, type_of, first_block, size_of, blocks_of, is_file, name_of, directory, dirs, file_blocks, content}
use Rattle.layout.specs.Paths.{home, path_slot, entry_of}
use Rattle.layout.specs.Check.{check}
use Rattle.volume.specs.Entries.{grown, entries_named}
use Rattle.volume.specs.Write.{new_size, needed, new_blocks, put, set_file, write_at, changed_entries}
use Rattle.volume.proofs.Laws.Places.{WriteGiven}
use Rattle.volume.proofs.Laws.Growth.{grown-steps, put-steps}
use Rattle.volume.proofs.Laws.Space.{new-fresh, new-length, all_above, all-below, last-below, all-length, all-size}
use Rattle.volume.proofs.Laws.Data.{put-outside, joined-put, grown-zero, put_next}
use Rattle.volume.proofs.Laws.Table.{grown-next, grown-used}
use Rattle.volume.proofs.Laws.Renewed.{Renewed, renewed-small, renewed-full, renewed-outside, renewed-entry, renewed-sound, renewed-slot, renewed-count}
use Rattle.volume.proofs.Laws.Frame.{entries-low, changed-below, grown-agree, grown-length}
use Rattle.layout.proofs.Laws.Bytes.{splice_cut}
use Rattle.layout.proofs.Laws.Lists.{In, in-append, joined-append, last-in, joined_same}
use Rattle.layout.proofs.Laws.Frames.{Same, before-next, Agree, agree-block}
use Rattle.layout.proofs.Laws.Chains.{nth, Chain, get_d-chain, in-chain, chain-agree, chain-distinct, chain-last, chain-start}
use Rattle.layout.proofs.Laws.Counts.{chain-most, occupied-most, occupied-same}
use Rattle.layout.proofs.Laws.Visits.{dir_blocks}
use Rattle.layout.proofs.Laws.Trees.{size_at}
use Rattle.layout.proofs.Laws.Sound.{held_at, Sound, Entry, Owner, sound, check-zero}
use Rattle.layout.proofs.Laws.Slots.{slot-entry, entry-low}
use Rattle.layout.proofs.Laws.Files.{file-in, length-file_blocks, length-blocks}
use Rattle.layout.proofs.Laws.Owners.{free-count, blocks_at, file-no-self, file-holds, file-blocks, second, second-blocks, second-no-self, file-above, file-below, file-used, entry-elsewhere, Fresh, block-high, block-below, block-used, block_apart, block-outside}
use Rattle.layout.proofs.Laws.Changed.{OneSlot}
use Rattle.layout.proofs.Laws.Steps.{over-same, Midway, Staying, staying, midway_start, dir-apart}
use Rattle.layout.specs.Claims.{SameAttributes}
use Rattle.layout.proofs.Laws.Others.{same-attributes}

-- what an accepted write makes of the entry at e, and of its file
pub record Written (s s' : List ℕ) (e offset : ℕ) (bytes : List ℕ) (time : ℕ) : Type 0 where
  pub contents : content s' e ≡ splice (content s e) offset bytes
  pub size : size_of s' e ≡ max (size_of s e) (offset + length bytes)
  pub blocks : file_blocks s' e ≡ file_blocks s e ++ new_blocks s e offset (length bytes)
  -- the bytes of its blocks, also those past the size: what is new is zero but for the data
  pub whole : joined (block s') (file_blocks s' e) ≡ splice (joined (block s) (file_blocks s e) ++ zeros (512 * length (new_blocks s e offset (length bytes)))) offset bytes
  -- type, user, group and permissions; time created; time modified; attributes, system flags, reserved and name
  pub kind : part s' e 4 ≡ part s e 4
  pub created : part s' (e + 16) 8 ≡ part s (e + 16) 8
  pub modified : part s' (e + 24) 8 ≡ bytes8 time
  pub rest : part s' (e + 32) 96 ≡ part s (e + 32) 96
  pub type : type_of s' e ≡ type_of s e
  pub name : name_of s' e ≡ name_of s e

module _ (s : List ℕ) (S : Sound s) (d : ℕ × ℕ) (di : In d (dirs s)) (k : ℕ) (k₁ : 1 ≤ k) (k₂ : k < 4 * size_at s d.0 - 1) (file : is_file (type_of s (slot_at (directory s d.0) k)) ≡ true) where
  abbrev n : ℕ
  n = block_count s

  abbrev e : ℕ
  e = slot_at (directory s d.0) k

  mine : Entry s e
  mine = slot-entry s S d di k (omega arith)

  no_self : (x : ℕ × ℕ) → In x (dirs s) → 512 * x.0 ≢ e
  no_self x i q = file-no-self s S e mine file x i (sym q)

  St : Staying s (dirs s) (Owner s) (first_block s) (held_at s) e
  St = staying s S e (inl mine) no_self

  module _ (offset : ℕ) (bytes : List ℕ) (time : ℕ) (room : needed s e offset (length bytes) ≤ length (free_blocks (next s) n)) where
    abbrev old : List ℕ
    old = file_blocks s e

    abbrev new : List ℕ
    new = new_blocks s e offset (length bytes)

    abbrev last : ℕ
    last = last_or 0 old

    abbrev larger : List ℕ
    larger = grown s n last new

    abbrev full : List ℕ
    full = put larger (old ++ new) offset bytes

    abbrev c : ℕ
    c = blocks_of s e + length new

    abbrev first : ℕ
    first = get_or (old ++ new) 0 0

    abbrev size : ℕ
    size = new_size s e offset (length bytes)

    abbrev done : List ℕ
    done = set_file full e first size c time

    -- the blocks of the file, old and new
    fresh : Fresh n (next s) new
    fresh = new-fresh s e offset (length bytes) S

    above : (q : ℕ) → In q (old ++ new) → table_blocks n < q
    above = all_above s S e mine file offset (length bytes)

    below : (q : ℕ) → In q (old ++ new) → q < n
    below = all-below s S e mine file offset (length bytes)

    last-small : last < n
    last-small = last-below s S e mine file offset (length bytes)

    last-old : 0 < last → In last old
    last-old pos = ⊎_elim (λ z. absurd (omega arith)) (λ i. i) (last-in old 0)

    length-is : length (old ++ new) ≡ c
    length-is = all-length s S e mine file offset (length bytes)

    size_is : c ≡ blocks_for size
    size_is = all-size s S e mine file offset (length bytes) (file-in s S d di k k₁ k₂ file).blocks room

    -- the steps: blocks are taken to the end of the chain, and the data is put
    at-start : Midway s (dirs s) (Owner s) (first_block s) (held_at s) e s (first_block s e) (blocks_of s e)
    at-start = subst (λ (x : ℕ). Midway s (dirs s) (Owner s) (first_block s) (held_at s) e s (first_block s e) x) (file-holds s S e mine file) (midway_start s S e (inl mine) no_self)

    grow : (z : ℕ) × Midway s (dirs s) (Owner s) (first_block s) (held_at s) e larger z c × (chain (next larger) z c ≡ old ++ new)
    unfolding file_blocks
    grow = grown-steps s S (dirs s) (Owner s) (first_block s) (held_at s) e St new s (first_block s e) (blocks_of s e) last at-start (chain-last (next s) (first_block s e) (blocks_of s e)) fresh

    larger-chain : Chain (next larger) n grow.0 c
    larger-chain = rw (over-same e grow.0 (first_block s), over-same e c (held_at s)) at (grow.1.table.right e (inl mine))

    -- not the directory's
    all-far : (q : ℕ) → In q (old ++ new) → In q (dir_blocks s) → ⊥
    all-far q i m =
        let r = in-chain (next larger) grow.0 c q (rw (← grow.2) at i) in
        dir-apart s S (dirs s) (Owner s) (first_block s) (held_at s) e St larger grow.0 c grow.1 q m r.0 r.1 r.2

    filled : Midway s (dirs s) (Owner s) (first_block s) (held_at s) e full grow.0 c
    filled = put-steps s S (dirs s) (Owner s) (first_block s) (held_at s) e St (old ++ new) larger grow.0 c offset bytes grow.1 (λ q i. (above q i, below q i, all-far q i))

    pub few : c ≤ n
    few = chain-most (next larger) n grow.0 c larger-chain S.least

    first-is : 0 < c → first ≡ grow.0
    first-is pos = rw (← grow.2) (get_d-chain (next larger) grow.0 c 0 pos)

    first-none : c ≡ 0 → first ≡ 0
    first-none q = get_or-eq_default (old ++ new) 0 (omega (arith, length-is))

    -- the blocks, old and new, are the chain from the first
    pub larger-blocks : chain (next larger) first c ≡ old ++ new
    larger-blocks = chain-start (next larger) c first grow.0 first-is ∙ grow.2

    -- the entry, set again, and the image is sound
    pub first_small : first < 0x100000000
    first_small = renewed-small s S d di k k₁ k₂ file full grow.0 c filled first size time first-is first-none size_is few

    long : length done ≡ length full
    long = renewed-full s S d di k k₁ k₂ file full grow.0 c filled first size time first-is first-none size_is few

    outside : (a w : ℕ) → (a + w ≤ e) ⊎ (e + 128 ≤ a) → Same full done a w
    outside = renewed-outside s S d di k k₁ k₂ file full grow.0 c filled first size time first-is first-none size_is few

    entry : Renewed s done e first size c time
    entry = renewed-entry s S d di k k₁ k₂ file full grow.0 c filled first size time first-is first-none size_is few

    write-is : write_at s e offset bytes time ≡ done
    unfolding write_at
    write-is = rw length-is

    pub written-sound : Sound (write_at s e offset bytes time)
    written-sound = rw write-is (renewed-sound s S d di k k₁ k₂ file full grow.0 c filled first size time first-is first-none size_is few)

    -- the others stay
    taken-agree : Agree s larger (new ++ entries_named (changed_entries last new))
    taken-agree = grown-agree n S.least new s last S.whole last-small fresh.below

    pub larger-length : length larger ≡ 512 * n
    larger-length = grown-length n S.least new s last S.whole last-small fresh.below

    -- growing leaves the blocks of the volume that it does not take
    larger-block : (q : ℕ) → table_blocks n < q → (In q new → ⊥) → block larger q ≡ block s q
    larger-block q high f = agree-block q taken-agree λ i.
        ⊎_elim f (λ j. omega (arith, entries-low n (changed_entries last new) (changed-below n last new last-small fresh.below) q j)) (in-append q new (entries_named (changed_entries last new)) i)

    -- the table is written by growing alone
    full-next : (y : ℕ) → y < 128 * table_blocks n → next full y ≡ next larger y
    full-next = put_next n S.least (old ++ new) larger offset bytes larger-length below above

    -- the blocks of another owner
    module _ (a : ℕ) (A : Owner s a) (ne : a ≢ e) (q : ℕ) (i : In q (blocks_at s a)) where
      not-old : In q old → ⊥
      not-old m = block_apart s S e (inl mine) a A ne q i (rw (file-blocks s S e mine file) m)

      not_new : In q new → ⊥
      not_new m = block-used s S a A q i (fresh.empty q m)

      next-kept : next full q ≡ next s q
      next-kept =
          full-next q (omega (arith, block-below s S a A q i))
          ∙ grown-next n S.least new s last q S.whole last-small fresh.below fresh.above (omega (arith, block-below s S a A q i)) not_new
          (λ pos o. not-old (subst (λ (z : ℕ). In z old) (sym o) (last-old pos)))

      data-kept : block full q ≡ block s q
      data-kept =
          put-outside n S.least q (old ++ new) larger offset bytes larger-length below (λ m. ⊎_elim not-old not_new (in-append q old new m))
          ∙ larger-block q (block-high s S a A q i) not_new

      pub written_next : next (write_at s e offset bytes time) q ≡ next s q
      written_next = rw write-is (before-next full done n (outside 0 (512 * root_block n) (inl (omega (arith, entry-low s S e mine)))) q (omega (arith, block-below s S a A q i)) ∙ next-kept)

      pub written-block : ((x : ℕ × ℕ) → In x (dirs s) → a ≢ 512 * x.0) → block (write_at s e offset bytes time) q ≡ block s q
      written-block apart =
          rw write-is (entry-elsewhere s S e mine full done filled.len long outside q (block-below s S a A q i)
          (λ z. block-outside s S a A apart q i (subst (λ (y : ℕ). In y (dir_blocks s)) z mine.within-tree)) ∙ data-kept)

    -- the file's attributes stay
    pub written-attributes : SameAttributes s (write_at s e offset bytes time) e
    written-attributes =
        same-attributes s (write_at s e offset bytes time) e mine.aligned file (rw write-is entry.type) (rw write-is entry.attribute) (rw write-is entry.attribute-size)
        (λ q i. written_next (e + 28) (second s S e mine file) (λ z. omega arith) q (rw (second-blocks s S e mine file) i))
        (λ q i. written-block (e + 28) (second s S e mine file) (λ z. omega arith) q (rw (second-blocks s S e mine file) i) (second-no-self s S e mine file))

    -- as many blocks more are in use as it takes
    pub written-used : be32 (write_at s e offset bytes time) 20 ≡ be32 s 20 + needed s e offset (length bytes)
    written-used =
        let few-used = occupied-most (next larger) n in
        let l = new-length s e offset (length bytes) room in
        let free = free-count s S in
        let f = S.free-is in
        let u = S.used-is in
        let w = grow.1.used in
        let m = S.most in
        let g = grown-used n S.least new s last S.whole last-small fresh.below (omega (arith, occupied-most (next s) n)) in
        rw write-is (renewed-count s S d di k k₁ k₂ file full grow.0 c filled first size time first-is first-none size_is few 20 (omega arith)
        ∙ filled.used ∙ occupied-same (next larger) (next full) n (λ y h. ap (λ (z : ℕ). eqb z 0) (full-next y (omega arith))) ∙ sym w ∙ g ∙ ap (λ (z : ℕ). be32 s 20 + z) l)

    -- only this slot of the directories differs
    pub written-slot : OneSlot s (dirs s) (write_at s e offset bytes time) e
    written-slot = rw write-is (renewed-slot s S d di k k₁ k₂ file full grow.0 c filled first size time first-is first-none size_is few)

    -- the file is as written
    done_next : (y : ℕ) → y < 128 * table_blocks n → next done y ≡ next larger y
    done_next y h = before-next full done n (outside 0 (512 * root_block n) (inl (omega (arith, entry-low s S e mine)))) y h ∙ full-next y h

    pub written-table : (y : ℕ) → y < 128 * table_blocks n → next (write_at s e offset bytes time) y ≡ next larger y
    written-table y h = rw write-is (done_next y h)

    done-blocks : file_blocks done e ≡ old ++ new
    unfolding file_blocks
    done-blocks =
        rw (entry.first-is, entry.blocks_is)
        (chain-start (next done) c first grow.0 first-is ∙ chain-agree (next larger) (next done) grow.0 c (λ y h. done_next (nth (next larger) y grow.0) (omega (arith, larger-chain.below y h))) ∙ grow.2)

    all-distinct : distinct eqb (old ++ new) ≡ true
    all-distinct = rw (← grow.2) (chain-distinct (next larger) n grow.0 c larger-chain S.least)

    done-joined : joined (block done) (old ++ new) ≡ splice (joined (block larger) (old ++ new)) offset bytes
    unfolding new_size
    done-joined =
        joined_same (block full) (block done) (old ++ new)
        (λ q i. entry-elsewhere s S e mine full done filled.len long outside q (below q i)
        (λ z. all-far q i (subst (λ (y : ℕ). In y (dir_blocks s)) z mine.within-tree)))
        ∙ joined-put n S.least (old ++ new) larger offset bytes larger-length below all-distinct (omega (arith, length-is, size_is))

    old-kept : joined (block larger) old ≡ joined (block s) old
    old-kept = joined_same (block s) (block larger) old
        (λ q i. larger-block q (file-above s S e mine file q i) (λ m. file-used s S e mine file q i (fresh.empty q m)))

    done-data : joined (block done) (file_blocks done e) ≡ splice (joined (block s) old ++ zeros (512 * length new)) offset bytes
    done-data =
        let z : joined (block larger) new ≡ zeros (512 * length new) = grown-zero n S.least new s last S.whole last-small fresh.below fresh.above fresh.distinct-all in
        rw (done-blocks, done-joined, joined-append (block larger) old new, old-kept, z)

    module _ (inside : offset ≤ size_of s e) where
      done-content : content done e ≡ splice (content s e) offset bytes
      unfolding content new_size
      done-content =
          let lo = length-blocks larger old (λ x m. omega (arith, larger-length, file-below s S e mine file x m)) in
          let la = length-blocks larger (old ++ new) (λ x m. omega (arith, larger-length, below x m)) in
          let ob = (file-in s S d di k k₁ k₂ file).blocks in
          let lc = length-file_blocks s e in
          let x : take (size_of s e) (joined (block larger) (old ++ new)) ≡ take (size_of s e) (joined (block s) old) =
          ap (take (size_of s e)) (joined-append (block larger) old new) ∙ take-append-le (size_of s e) (joined (block larger) old) (joined (block larger) new) (omega arith) ∙ ap (take (size_of s e)) old-kept in
          rw (entry.size_is, done-blocks, done-joined)
          (splice_cut (joined (block larger) (old ++ new)) (size_of s e) offset bytes inside (omega (arith, length-is)) ∙ ap (λ (r : List ℕ). splice r offset bytes) x)

      pub written-file : Written s (write_at s e offset bytes time) e offset bytes time
      unfolding new_size
      written-file =
          rw write-is (record {
            contents = done-content;
            size = entry.size_is;
            blocks = done-blocks;
            whole = done-data;
            kind = entry.kind;
            created = entry.created;
            modified = entry.modified;
            rest = entry.rest;
            type = entry.type;
            name = entry.name;
          })

pub kept-write : (s path : List ℕ) (offset : ℕ) (bytes : List ℕ) (time : ℕ) → check s ≡ 0 → WriteGiven s path offset (length bytes)
    → check (write_at s (entry_of is_file s path) offset bytes time) ≡ 0
unfolding entry_of
kept-write s path offset bytes time c G =
    let A = G.there in
    let N = A.named in
    check-zero _ (written-sound s (sound s c) (home s path, A.level) A.home-in (path_slot is_file s path) N.low N.high N.typed offset bytes time G.room)
