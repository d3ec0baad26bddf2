-- What a write finds out on a sound image before it changes a byte.
use Prim.Native.Nat.{ℕ, zero, suc, ◌+◌, ◌-◌, ◌*◌, ◌≤◌, ◌<◌, max}
use mathlib.Core.Path.{◌≡◌, refl, sym, ap, ◌∙◌, subst}
use mathlib.Core.List.{List, ◌++◌}
use native.Mathlib.Omega.{arith}
use lib.ListN.{length, get_or}
use Rattle.layout.specs.Lists.{last_or}
use Rattle.layout.specs.Limits.{max_blocks}
use Rattle.layout.specs.Geometry.{block_count, blocks_for}
use Rattle.layout.specs.Table.{next, chain, free_blocks}
use Rattle.layout.specs.Directory.{is_file, file_blocks}
use Rattle.layout.specs.Check.{check}
use Rattle.layout.specs.Paths.{entry_of, file_refusal}
use Rattle.volume.specs.Write.{new_size, needed, new_blocks, write_at_refusal}
use Rattle.layout.specs.Walks.Looks.{Located}
use Rattle.layout.specs.Walks.Slots.{entry_at}
use Rattle.volume.specs.Walks.Targets.{Standing}
use Rattle.volume.specs.Walks.Writes.{start_of, Planned}
use Rattle.volume.proofs.Laws.Places.{WriteGiven, write-at-given}
use Rattle.volume.proofs.Laws.Framed.{at_entry}
use Rattle.volume.proofs.Laws.Space.{new-length, all-length}
use Rattle.layout.proofs.Walks.Looks.{located-chain}
use Rattle.volume.proofs.Walks.Write.{at_typed, blocks-for, blocks-most}
use Rattle.layout.proofs.Laws.Owners.{free-count}
use Rattle.layout.proofs.Laws.Sound.{sound}

-- the first block of a chain with blocks taken behind it
pub start-new : (held first b : ℕ) → held ≡ 0 → b ≡ start_of held first b
unfolding start_of
start-new held first b e = rw e

pub start-old : (held first b : ℕ) → (held ≡ 0 → ⊥) → first ≡ start_of held first b
unfolding start_of
start-old zero first b h = absurd (h refl)
start-old (suc held) first b h = refl

start_is : (v : ℕ → ℕ) (held first : ℕ) (new : List ℕ) (b : ℕ) → b ≡ get_or new 0 0 → start_of held first b ≡ get_or (chain v first held ++ new) 0 0
unfolding start_of chain
start_is v zero first new b e = e
start_is v (suc held) first new b e = refl

-- an accepted write to a file that was found, on a sound image
module _ {s : List ℕ} {slot b first size blocks : ℕ} (st : Standing s (file_refusal s) slot b first size blocks) (offset count : ℕ) (ok : check s ≡ 0)
    (r : write_at_refusal s (entry_at b slot) offset count ≡ 0)
  where
    abbrev path : List ℕ
    path = st.path

    abbrev e : ℕ
    e = entry_of is_file s st.path

    o : Located is_file s path slot b first size blocks
    o = st.located

    abbrev n : ℕ
    n = block_count s

    abbrev old : List ℕ
    old = file_blocks s e

    abbrev new : List ℕ
    new = new_blocks s e offset count

    given : WriteGiven s path offset count
    given = write-at-given s path offset count st.accepted (subst (λ (x : ℕ). write_at_refusal s x offset count ≡ 0) o.place r)

    -- there are no more free blocks than blocks
    room_most : length (free_blocks (next s) n) ≤ max_blocks
    room_most =
        let S = sound s ok in
        omega (arith, free-count s S, S.free-is, S.most)

    few : count < 4294967296
    unfolding needed new_size
    few =
        let h = given.room in
        let q = blocks-most o st.accepted ok in
        omega (arith, room_most, o.bytes, o.count)

    pub plan-sizes : (offset ≤ size) × (size ≤ 512 * max_blocks) × (count < 4294967296) × (blocks ≡ blocks_for size)
    plan-sizes =
        let z = blocks-for o st.accepted ok in
        let q = blocks-most o st.accepted ok in
        (omega (arith, o.bytes, given.within-size), omega arith, few, z)

    module _ (k : ℕ) (ek : k ≡ blocks_for (max size (offset + count)) - blocks) where
      pub need-is : k ≡ needed s (entry_of is_file s st.path) offset count
      unfolding needed new_size
      need-is = ek ∙ rw (← o.bytes, ← o.count)

      pub room-given : k ≤ length (free_blocks (next s) (block_count s))
      room-given = omega (arith, need-is, given.room)

      total : blocks + k ≡ length (old ++ new)
      total =
          let A = given.there in
          omega (arith, o.count, need-is, new-length s e offset count given.room, all-length s (sound s ok) e (at_entry s (sound s ok) is_file path A) (at_typed is_file s path A) offset count)

      at_path : (last end : ℕ) → last ≡ last_or 0 (chain (next s) first blocks) → end ≡ max size (offset + count)
          → Planned s e offset count last k blocks first end (blocks + k)
      unfolding new_size
      at_path last end el ee =
          record {
            behind = el ∙ ap (last_or 0) (located-chain o);
            taking = need-is;
            start = λ x q. rw (← located-chain o) (start_is (next s) blocks first new x q);
            bytes = ee ∙ rw (← o.bytes);
            number = total;
          }

      pub planned : (last end : ℕ) → last ≡ last_or 0 (chain (next s) first blocks) → end ≡ max size (offset + count)
          → Planned s (entry_at b slot) offset count last k blocks first end (blocks + k)
      planned last end el ee = subst (λ (x : ℕ). Planned s x offset count last k blocks first end (blocks + k)) (sym o.place) (at_path last end el ee)
