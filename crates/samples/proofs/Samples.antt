-- Sample images and calls for the tables.
use Prim.Native.Nat.{ℕ, ◌*◌, ◌%◌}
use mathlib.Core.List.{List, [], ◌∷◌, map}
use lib.ListN.{replicate}
use lib.Dec.{T}
use Rattle.layout.specs.Lists.{interval, every, same}
use Rattle.volume.specs.Format.{formatted}
use Rattle.store.specs.Change.{Change, create, write}
use Rattle.journal.specs.Run.{Answer, changed, undone, checked, found, filled, shown, got, described, entered}

-- in each row, what the definitions give is what is expected
abbrev pub AsExpected : List (List ℕ × List ℕ) → Type 0
AsExpected rows = T (every (λ row. same row.0 row.1) rows)

-- n blocks of bytes 7, before a format; a volume name; n blocks formatted with a root of d blocks
unfoldable pub blank : ℕ → List ℕ
blank n = replicate (512 * n) 7

unfoldable pub label : List ℕ
label = replicate 128 86

unfoldable pub formatted_as : ℕ → ℕ → List ℕ
formatted_as n d = formatted (blank n) d (interval 1 16) label 1000

-- data in which each place shows
unfoldable pub pattern : ℕ → List ℕ
pattern count = map (λ x. x % 251) (interval 0 count)

-- the path of a one-byte name in the root, that of "A" (65), a create of the file of such a path, and a write to "/A"
unfoldable pub in_root : ℕ → List ℕ
in_root x = 47 ∷ x ∷ []

unfoldable pub file_a : List ℕ
file_a = in_root 65

unfoldable pub create_file : ℕ → Change
create_file x = create (in_root x) 0x60 1 2 3 0 2000

unfoldable pub write_a : ℕ → ℕ → Change
write_a offset count = write file_a offset (pattern count) 3000

-- the numbers of an answer, with the bytes of a buffer or a part
unfoldable pub numbers : Answer → List ℕ
numbers (changed number slot size) = number ∷ slot ∷ size ∷ []
numbers (undone number size) = number ∷ size ∷ []
numbers (checked number) = number ∷ []
numbers (found a) = a.number ∷ a.slot ∷ a.size ∷ a.blocks ∷ []
numbers (filled a) = a.number ∷ a.count ∷ a.buffer
numbers (shown x bytes) = x.start ∷ x.size ∷ bytes
numbers (got a) = a.number ∷ a.revision ∷ a.size ∷ a.buffer
numbers (described a) = a.number ∷ a.blocks ∷ a.used ∷ a.free ∷ a.root_blocks ∷ a.buffer
numbers (entered a) =
    a.number ∷ a.slot ∷ a.type ∷ a.user ∷ a.group ∷ a.permissions ∷ a.first ∷ a.size ∷ a.blocks ∷ a.created ∷ a.modified ∷ a.attribute_block ∷ a.attribute_size ∷ a.flags ∷ a.buffer

-- opens them all, as rules does the definitions
unfoldable pub samples : Unit {0}
unfolding blank label formatted_as pattern in_root file_a create_file write_a numbers
samples = tt
