-- Two changes in either order (document 02, L13): what the theorem either-order leaves open, and that its premises are needed, proved by computing the
-- definitions. Every row has both orders, one after the other.
use Prim.Native.Nat.{ℕ}
use mathlib.Core.List.{List, [], ◌∷◌, ◌++◌}
use Rattle.layout.specs.Refusals.{accept}
use Rattle.layout.specs.Directory.{attribute_blocks, attributes}
use Rattle.layout.specs.Check.{no_attributes}
use Rattle.layout.specs.Looks.{lookup, read}
use Rattle.volume.specs.Delete.{all_blocks}
use Rattle.store.specs.Change.{Change, create, write, delete, create_directory, delete_directory, refusal, after}
use Rattle.journal.specs.Run.{found, filled}
use Rattle.samples.proofs.Rules.{rules}
use Rattle.samples.proofs.Samples.{AsExpected, formatted_as, pattern, in_root, file_a, create_file, write_a, numbers, samples}

-- n = 5, d = 1: root at block 2 with two slots, blocks 3 and 4 free
empty : List ℕ
empty = formatted_as 5 1

-- with files A (65) and B (66) of one block each: none is free
full : List ℕ
full = after (after (after (after empty (create_file 65)) (write_a 0 9)) (create_file 66)) (write (in_root 66) 0 (pattern 512) 3000)

-- directory D (68) of one block, and file A in it
folder : Change
folder = create_directory (in_root 68) 0x20 1 2 3 0 2000 1

inner : List ℕ
inner = in_root 68 ++ file_a

create_inner : Change
create_inner = create inner 0x60 1 2 3 0 2000

-- a byte written to A; one more written to the end of B
write_byte : ℕ → Change
write_byte x = write file_a 0 (x ∷ []) 5

grow_b : Change
grow_b = write (in_root 66) 512 (7 ∷ []) 5

-- a change made if it is accepted; both numbers of two
step : List ℕ → Change → List ℕ
step s c = accept (refusal s c) (after s c) s

in_order : List ℕ → Change → Change → List ℕ
in_order s c d = refusal s c ∷ refusal (step s c) d ∷ []

-- the numbers of c and then d, and of d and then c; look up, and a read of one byte, after either
refusals : List ℕ → Change → Change → List ℕ
refusals s c d = in_order s c d ++ in_order s d c

lookups : List ℕ → Change → Change → List ℕ → List ℕ
lookups s c d path = numbers (found (lookup (step (step s c) d) path)) ++ numbers (found (lookup (step (step s d) c) path))

reads : List ℕ → Change → Change → List ℕ → List ℕ
reads s c d path = numbers (filled (read (step (step s c) d) path 0 (9 ∷ []))) ++ numbers (filled (read (step (step s d) c) path 0 (9 ∷ [])))

-- Accepted in both orders: on different paths a file's slot may differ, 1 and 2; on one path the last write stands, 2 and 1.
pub accepted : List (List ℕ × List ℕ)
accepted =
    let none = empty in
    let both = full in
    (refusals none (create_file 65) (create_file 66), 0 ∷ 0 ∷ 0 ∷ 0 ∷ [])
    ∷ (lookups none (create_file 65) (create_file 66) file_a, 0 ∷ 1 ∷ 0 ∷ 0 ∷ 0 ∷ 2 ∷ 0 ∷ 0 ∷ [])
    ∷ (refusals both (write_byte 1) (write_byte 2), 0 ∷ 0 ∷ 0 ∷ 0 ∷ [])
    ∷ (reads both (write_byte 1) (write_byte 2) file_a, 0 ∷ 1 ∷ 2 ∷ 0 ∷ 1 ∷ 1 ∷ [])
    ∷ []

-- One path inside the other: accepted in one order only, and the file is found after that one only; or in neither, and the first of the two stands.
pub inside : List (List ℕ × List ℕ)
inside =
    let none = empty in
    let made = after none folder in
    (refusals none folder create_inner, 0 ∷ 0 ∷ 10 ∷ 0 ∷ [])
    ∷ (lookups none folder create_inner inner, 0 ∷ 1 ∷ 0 ∷ 0 ∷ 10 ∷ 0 ∷ 0 ∷ 0 ∷ [])
    ∷ (refusals made (delete_directory (in_root 68)) create_inner, 0 ∷ 10 ∷ 0 ∷ 18 ∷ [])
    ∷ (lookups made (delete_directory (in_root 68)) create_inner inner, 10 ∷ 0 ∷ 0 ∷ 0 ∷ 0 ∷ 1 ∷ 0 ∷ 0 ∷ [])
    ∷ []

-- Neither inside the other, accepted in one order only: a delete makes room for a write, and the file has 513 bytes or 512.
pub one_order : List (List ℕ × List ℕ)
one_order =
    let both = full in
    (refusals both (delete file_a) grow_b, 0 ∷ 0 ∷ 14 ∷ 0 ∷ [])
    ∷ (lookups both (delete file_a) grow_b (in_root 66), 0 ∷ 2 ∷ 513 ∷ 2 ∷ 0 ∷ 2 ∷ 512 ∷ 1 ∷ [])
    ∷ []

accepted-hold : AsExpected accepted
unfolding accepted refusals lookups reads in_order step write_byte empty full samples rules all_blocks attribute_blocks attributes no_attributes
accepted-hold = tt

inside-hold : AsExpected inside
unfolding inside refusals lookups in_order step folder inner create_inner empty samples rules all_blocks attribute_blocks attributes no_attributes
inside-hold = tt

one-order-holds : AsExpected one_order
unfolding one_order refusals lookups in_order step grow_b empty full samples rules all_blocks attribute_blocks attributes no_attributes
one-order-holds = tt

pub orders : AsExpected accepted × AsExpected inside × AsExpected one_order
orders = (accepted-hold, inside-hold, one-order-holds)
