-- A write at a file's end and a second one at its new end are one write of the joined bytes.
use Prim.Native.Nat.{ℕ, ◌+◌, ◌-◌, ◌*◌, ◌/◌, ◌≤◌}
use mathlib.Core.Path.{◌≡◌, refl, sym, ap, ◌∙◌}
use mathlib.Core.List.{List, ◌++◌}
use native.Mathlib.Omega.{arith}
use lib.ListN.{length, take, length-append, length-drop}
use lib.Seq.{take-add}
use Rattle.layout.specs.Geometry.{block_count, blocks_for}
use Rattle.layout.specs.Table.{next, free_blocks}
use Rattle.layout.specs.Directory.{size_of, blocks_of, file_blocks}
use Rattle.volume.specs.Write.{new_size, needed, new_blocks, write_at}
use Rattle.layout.proofs.Laws.Files.{length-file_blocks}
use Rattle.append.proofs.Laws.Writes.{wrote, wrote-twice}
use Rattle.append.proofs.Laws.Ends.{Stands, Held, Ended, held, ended}

write-is : (s : List ℕ) (e offset : ℕ) (x : List ℕ) (time : ℕ)
    → write_at s e offset x time ≡ wrote s (block_count s) (file_blocks s e) (new_blocks s e offset (length x)) offset x e (new_size s e offset (length x)) time
unfolding write_at
write-is s e offset x time = refl

-- the size after a write at the end, and the blocks that it needs
size_is : (s : List ℕ) (e count : ℕ) → new_size s e (size_of s e) count ≡ size_of s e + count
unfolding new_size
size_is s e count = omega arith

pub needed-is : (s : List ℕ) (e count : ℕ) → blocks_of s e ≡ blocks_for (size_of s e) → needed s e (size_of s e) count ≡ blocks_for (size_of s e + count) - blocks_for (size_of s e)
unfolding needed
needed-is s e count b = rw (size_is s e count, b)

between : (a b c : ℕ) → a ≤ b → b ≤ c → c - a ≡ (b - a) + (c - b)
between a b c h g = omega arith

room-left : (j m f d : ℕ) → d ≡ f - j → j ≤ f → m ≤ d → j + m ≤ f
room-left j m f d e h g = omega arith

module _ (s path : List ℕ) (e : ℕ) (H : Stands s path e) (x : List ℕ) (time : ℕ) (room : needed s e (size_of s e) (length x) ≤ length (free_blocks (next s) (block_count s))) where
  abbrev n : ℕ
  n = block_count s

  abbrev z : ℕ
  z = size_of s e

  abbrev s' : List ℕ
  s' = write_at s e (size_of s e) x time

  abbrev old : List ℕ
  old = file_blocks s e

  abbrev new : List ℕ
  new = new_blocks s e (size_of s e) (length x)

  I : Ended s s' path e x
  I = ended s path e H x time room

  F : Held s n e old
  F = held s path e n old H refl refl

  count-is : block_count s' ≡ n
  count-is = ap (λ (l : ℕ). l / 512) I.len

  F' : Held s' n e (old ++ new)
  F' = held s' path e n (old ++ new) I.stands count-is I.blocks

  module _ (y : List ℕ) where
    abbrev more : List ℕ
    more = new_blocks s' e (size_of s' e) (length y)

    long : z + length (x ++ y) ≡ size_of s' e + length y
    long = omega (arith, length-append x y, I.size)

    -- the blocks needed are those that each needs
    needs : needed s e z (length (x ++ y)) ≡ needed s e z (length x) + needed s' e (size_of s' e) (length y)
    needs =
        needed-is s e (length (x ++ y)) F.count ∙ ap (λ (i : ℕ). blocks_for i - blocks_for z) long
        ∙ between (blocks_for z) (blocks_for (size_of s' e)) (blocks_for (size_of s' e + length y)) (omega (arith, I.size)) (omega arith)
        ∙ ap (λ (i : ℕ). (blocks_for i - blocks_for z) + (blocks_for (size_of s' e + length y) - blocks_for (size_of s' e))) I.size
        ∙ sym (ap (λ (i : ℕ). i + needed s' e (size_of s' e) (length y)) (needed-is s e (length x) F.count)
        ∙ ap (λ (i : ℕ). (blocks_for (z + length x) - blocks_for z) + i) (needed-is s' e (length y) F'.count))

    more-is : new_blocks s e z (length (x ++ y)) ≡ new ++ more
    unfolding new_blocks
    more-is =
        ap (λ (i : ℕ). take i (free_blocks (next s) n)) needs ∙ take-add (needed s e z (length x)) (needed s' e (size_of s' e) (length y)) (free_blocks (next s) n)
        ∙ sym (ap (λ (l : List ℕ). new ++ take (needed s' e (size_of s' e) (length y)) l) I.free)

    module _ (room' : needed s' e (size_of s' e) (length y) ≤ length (free_blocks (next s') (block_count s'))) where
      -- there is room for both
      pub room_joined : needed s e (size_of s e) (length (x ++ y)) ≤ length (free_blocks (next s) (block_count s))
      room_joined =
          let d : length (free_blocks (next s') (block_count s')) ≡ length (free_blocks (next s) n) - needed s e z (length x) =
          ap length I.free ∙ length-drop (needed s e z (length x)) (free_blocks (next s) n) in
          rw needs (room-left (needed s e z (length x)) (needed s' e (size_of s' e) (length y)) (length (free_blocks (next s) n)) (length (free_blocks (next s') (block_count s'))) d room room')

      I' : Ended s' (write_at s' e (size_of s' e) y time) path e y
      I' = ended s' path e I.stands y time room'

      F'' : Held (write_at s' e (size_of s' e) y time) n e ((old ++ new) ++ more)
      F'' = held (write_at s' e (size_of s' e) y time) path e n ((old ++ new) ++ more) I'.stands (ap (λ (l : ℕ). l / 512) I'.len ∙ count-is) (I'.blocks ∙ ap (λ (l : List ℕ). l ++ more) I.blocks)

      fits : z + length x ≤ 512 * length (old ++ new)
      fits = let l : length (old ++ new) ≡ blocks_of s' e = ap length (sym I.blocks) ∙ length-file_blocks s' e in omega (arith, F'.count, I.size)

      pub write-joined : write_at (write_at s e (size_of s e) x time) e (size_of (write_at s e (size_of s e) x time) e) y time ≡ write_at s e (size_of s e) (x ++ y) time
      write-joined =
          let size : ℕ = new_size s e z (length x) in
          let size' : ℕ = new_size s' e (size_of s' e) (length y) in
          let same : size' ≡ new_size s e z (length (x ++ y)) = size_is s' e (length y) ∙ sym long ∙ sym (size_is s e (length (x ++ y))) in
          write-is s' e (size_of s' e) y time
          ∙ ap (λ (m : ℕ). wrote s' m (file_blocks s' e) more (size_of s' e) y e size' time) count-is
          ∙ ap (λ (l : List ℕ). wrote s' n l more (size_of s' e) y e size' time) I.blocks
          ∙ ap (λ (i : ℕ). wrote s' n (old ++ new) more i y e size' time) I.size
          ∙ ap (λ (u : List ℕ). wrote u n (old ++ new) more (z + length x) y e size' time) (write-is s e z x time)
          ∙ wrote-twice n F.least e F.low F.high s old new more F.whole F''.above F''.below F''.once F''.apart z x y fits size size' time
          ∙ ap (λ (l : List ℕ). wrote s n old l z (x ++ y) e size' time) (sym more-is)
          ∙ ap (λ (i : ℕ). wrote s n old (new_blocks s e z (length (x ++ y))) z (x ++ y) e i time) same
          ∙ sym (write-is s e z (x ++ y) time)
