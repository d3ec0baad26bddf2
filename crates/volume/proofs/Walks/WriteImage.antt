-- A write, step by step: the blocks taken, the data put and the entry set again give write_at.
use Prim.Native.Nat.{ℕ, ◌+◌, ◌*◌, ◌≤◌, ◌<◌}
use mathlib.Core.Path.{◌≡◌, sym, ap, ◌∙◌, subst}
use mathlib.Core.Bool.{true}
use mathlib.Core.List.{List, ◌++◌}
use mathlib.Core.Logic.{⊎_elim}
use native.Mathlib.Omega.{arith}
use lib.ListN.{length, get_or, take}
use borrow.Author.Tests.{lt-ltb}
use Rattle.layout.specs.Lists.{last_or}
use Rattle.layout.specs.Bytes.{be32}
use Rattle.layout.specs.Geometry.{block_count, blocks_for, in_volume}
use Rattle.layout.specs.Table.{next, chain, free_blocks}
use Rattle.layout.specs.Directory.{type_of, blocks_of, is_file, file_blocks}
use Rattle.layout.specs.Check.{check}
use Rattle.layout.specs.Paths.{home, path_slot, entry_of, file_refusal}
use Rattle.layout.specs.Walks.Looks.{Located}
use Rattle.layout.specs.Walks.Slots.{entry_at}
use Rattle.volume.specs.Entries.{grown}
use Rattle.volume.specs.Write.{new_size, new_blocks, put, set_file, write_at, write_at_refusal}
use Rattle.volume.specs.Walks.Data.{Placed}
use Rattle.volume.specs.Walks.Searches.{Growable}
use Rattle.volume.specs.Walks.Targets.{Standing}
use Rattle.volume.specs.Walks.Writes.{start_of, Planned}
use Rattle.volume.proofs.Laws.Places.{At, WriteGiven, write-at-given}
use Rattle.volume.proofs.Laws.Framed.{at_entry}
use Rattle.volume.proofs.Walks.Write.{at_typed}
use Rattle.volume.proofs.Laws.Frame.{put-length}
use Rattle.volume.proofs.Laws.Space.{all_above, all-below, all-length, all-size, last-below}
use Rattle.volume.proofs.Laws.Write.{larger-blocks, larger-length, first_small, few}
use Rattle.layout.proofs.Laws.Tests.{and-join}
use Rattle.layout.proofs.Laws.Lists.{In, last-in, in-every}
use Rattle.layout.proofs.Laws.Counts.{occupied-most}
use Rattle.layout.proofs.Laws.Sound.{Sound, Entry, sound}
use Rattle.layout.proofs.Walks.Shapes.{sound-shape}
use Rattle.layout.proofs.Laws.Looks.{path-file}
use Rattle.layout.proofs.Laws.Owners.{file-used, free-count}

module _ {s : List ℕ} {slot b first was held : ℕ} (st : Standing s (file_refusal s) slot b first was held) (offset : ℕ) (bytes : List ℕ) (ok : check s ≡ 0)
    (r : write_at_refusal s (entry_at b slot) offset (length bytes) ≡ 0)
    {last taken size blocks : ℕ} (plan : Planned s (entry_at b slot) offset (length bytes) last taken held first size blocks)
  where
    abbrev path : List ℕ
    path = st.path

    abbrev e : ℕ
    e = entry_of is_file s st.path

    o : Located is_file s path slot b first was held
    o = st.located

    p : Planned s e offset (length bytes) last taken held first size blocks
    p = subst (λ (x : ℕ). Planned s x offset (length bytes) last taken held first size blocks) o.place plan

    abbrev n : ℕ
    n = block_count s

    abbrev old : List ℕ
    old = file_blocks s e

    abbrev new : List ℕ
    new = new_blocks s e offset (length bytes)

    abbrev larger : List ℕ
    larger = grown s n (last_or 0 old) new

    S : Sound s
    S = sound s ok

    given : WriteGiven s path offset (length bytes)
    given = write-at-given s path offset (length bytes) st.accepted (subst (λ (x : ℕ). write_at_refusal s x offset (length bytes) ≡ 0) o.place r)

    abbrev k : ℕ
    k = path_slot is_file s path

    A : At is_file s path
    A = given.there

    abbrev d : ℕ × ℕ
    d = (home s path, A.level)

    E : Entry s e
    E = at_entry s S is_file path A

    file : is_file (type_of s e) ≡ true
    file = at_typed is_file s path A

    counted : be32 s 20 + length (free_blocks (next s) n) ≡ n
    counted = omega (arith, free-count s S, S.used-is, S.free-is, occupied-most (next s) n)

    pub write-growable : Growable s n last taken
    unfolding entry_of
    write-growable =
        record {
          shape = sound-shape s ok;
          inside = rw p.behind (last-below s S e E file offset (length bytes));
          used = rw p.behind (λ pos. ⊎_elim (λ z. absurd (omega arith)) (λ i. file-used s S e E file (last_or 0 old) i) (last-in old 0));
          low = λ x h z. omega (arith, S.table.low x h);
          enough = omega (arith, p.taking, given.room);
          counted = omega (arith, counted, p.taking, given.room);
        }

    pub taken_is : grown s n last (take taken (free_blocks (next s) n)) ≡ larger
    unfolding new_blocks
    taken_is = rw (p.behind, p.taking)

    in-volume : (x : ℕ) → In x (old ++ new) → in_volume n x ≡ true
    unfolding entry_of in_volume
    in-volume x i =
        and-join (lt-ltb _ _ (all_above s S e E file offset (length bytes) x i)) (lt-ltb _ _ (all-below s S e E file offset (length bytes) x i))

    blocks_is : blocks ≡ blocks_of s e + length new
    unfolding entry_of
    blocks_is = p.number ∙ all-length s S e E file offset (length bytes)

    size_is : blocks ≡ blocks_for size
    unfolding entry_of
    size_is = blocks_is ∙ all-size s S e E file offset (length bytes) (path-file s path st.accepted ok).blocks given.room ∙ ap blocks_for (sym p.bytes)

    length-is : length larger ≡ 512 * n
    unfolding entry_of
    length-is = larger-length s S d A.home-in k A.named.low A.named.high A.named.typed offset bytes 0 given.room

    -- the image with the blocks taken, the first of which is x
    module _ (t : List ℕ) (et : t ≡ grown s n last (take taken (free_blocks (next s) n))) (x : ℕ) (ex : x ≡ get_or (take taken (free_blocks (next s) n)) 0 0)
        (start : ℕ) (es : start ≡ start_of held first x)
      where
        first-is : start ≡ get_or (old ++ new) 0 0
        unfolding new_blocks
        first-is = es ∙ p.start x (ex ∙ rw p.taking)

        chain-is : chain (next larger) start blocks ≡ old ++ new
        unfolding entry_of
        chain-is = rw (blocks_is, first-is) (larger-blocks s S d A.home-in k A.named.low A.named.high A.named.typed offset bytes 0 given.room)

        pub write-placed : Placed t n start blocks offset (length bytes)
        unfolding new_size
        write-placed =
            rw (et, taken_is)
            (record { whole = length-is; low = S.least; high = S.most; inside = rw chain-is (in-every (in_volume n) (old ++ new) in-volume); fits = omega (arith, size_is, p.bytes) })

        module _ (u : List ℕ) (eu : u ≡ put t (chain (next t) start blocks) offset bytes) where
          put_is : u ≡ put larger (old ++ new) offset bytes
          put_is = eu ∙ rw (et, taken_is, chain-is)

          pub write-settable : (512 * b + 512 ≤ length u) × (start < 4294967296) × (size < 4294967296) × (blocks < 4294967296)
          unfolding entry_of
          write-settable =
              let l : length u ≡ 512 * n = ap length put_is ∙ put-length n S.least (old ++ new) larger offset bytes length-is (all-below s S e E file offset (length bytes)) in
              let f : start < 4294967296 = rw first-is (first_small s S d A.home-in k A.named.low A.named.high A.named.typed offset bytes 0 given.room) in
              let m : blocks ≤ n = rw blocks_is (few s S d A.home-in k A.named.low A.named.high A.named.typed offset bytes 0 given.room) in
              (omega (arith, o.inside), f, omega (arith, size_is, S.most), omega (arith, S.most))

          pub write_done : (time : ℕ) → set_file u (entry_at b slot) start size blocks time ≡ write_at s (entry_at b slot) offset bytes time
          unfolding write_at
          write_done time = rw (put_is, o.place, first-is, p.bytes, p.number)
