-- The salvage of a tree (FORMAT.md, 18): for each code, each choice of a directory's blocks and each refusal an image, worked out by hand or by an independent program, and computed from the definitions.
use Prim.Native.Nat.{ℕ, zero, suc, ◌+◌, ◌-◌, ◌*◌}
use mathlib.Core.List.{List, [], ◌∷◌, ◌++◌, map}
use lib.ListN.{length, drop, replicate}
use lib.Dec.{T}
use Rattle.layout.specs.Lists.{every, same}
use Rattle.layout.specs.Bytes.{be32, bytes4, zeros, splice}
use Rattle.layout.specs.Geometry.{signature, in_volume}
use Rattle.layout.specs.Table.{next, set_next, chain, ends_after, chain_ok, occupied}
use Rattle.layout.specs.Directory.{slot_at, good_name, name_of, name_ok, free_slot, directory, file_blocks, attribute_blocks}
use Rattle.layout.specs.Check.{stage1, stage2, stage3, no_attributes, attributes_ok, file_ok, directory_entry_ok, slot_ok, new_name, stage7}
use Rattle.volume.specs.Entries.{set_occupied}
use Rattle.volume.specs.Attributes.{set_attribute_fields}
use Rattle.salvage.specs.Salvage.{claimable, ends, ended, take_file, one_at, blanked, free_at, in_turn, counts_put}
use Rattle.salvage_tree.specs.SalvageTree.{other_length, tree_refusal, coded, note, dropped, put_number, put_byte, put_field, put_value, run, ends_in, row_right, directory_blocks, lost, hung_at, hang, hang_each, folders_hung, hung_over, link_from, linked, self_put, put_directory, keep_file, take_file_at, take_slot, take_slots, witness, sized, take_child, root_blocks_of, tree_done, ones_put, blocks_freed, padding_put, head_put, freed_codes, rest, salvaged, number, salvage_tree}

-- opens the definitions
unfoldable rules : Unit {0}
unfolding be32 bytes4 zeros splice in_volume next set_next chain ends_after chain_ok occupied slot_at good_name name_of name_ok directory file_blocks attribute_blocks stage1 stage2 stage3 no_attributes attributes_ok file_ok directory_entry_ok slot_ok new_name stage7 set_occupied set_attribute_fields
    claimable ends ended take_file one_at blanked free_at in_turn counts_put other_length tree_refusal coded note dropped put_number put_byte put_field put_value run ends_in row_right directory_blocks lost hung_at hang hang_each folders_hung hung_over free_slot link_from linked self_put put_directory keep_file take_file_at take_slot take_slots witness sized take_child root_blocks_of tree_done ones_put blocks_freed padding_put head_put freed_codes rest salvaged number salvage_tree
rules = tt

-- in each row, what the definitions give is what is expected
abbrev AsExpected : List (List ℕ × List ℕ) → Type 0
AsExpected rows = T (every (λ row. same row.0 row.1) rows)

-- an entry, or a self entry: type, the numbers at 4, 8 and 12, the low bytes of both dates, and a name
unfoldable entry : ℕ → ℕ → ℕ → ℕ → ℕ → ℕ → List ℕ → List ℕ
entry type x y z created modified name =
    (type ∷ 0 ∷ 0 ∷ 0 ∷ []) ++ (bytes4 x ++ (bytes4 y ++ (bytes4 z ++ (bytes4 0 ++ (bytes4 created ++ (bytes4 0 ++ (bytes4 modified ++ (zeros 16 ++ (name ++ zeros (80 - length name))))))))))

-- bytes that are repeated
unfoldable times : ℕ → List ℕ → List ℕ
times zero w = []
times (suc k) w = w ++ times k w

unfoldable table : List ℕ → List ℕ
table [] = []
table (v ∷ vs) = bytes4 v ++ table vs

-- a volume of n blocks, one of them the table's: used blocks, the links of the blocks from 0 on, and bytes from block 2 on
unfoldable volume_of : ℕ → ℕ → List ℕ → List ℕ → List ℕ
volume_of n used links blocks =
    splice (splice (splice (splice (zeros (512 * n)) 0 signature) 12 (bytes4 n ++ (bytes4 1 ++ (bytes4 used ++ (bytes4 (n - used) ++ bytes4 2))))) 512 (table links)) 1024 blocks

-- a directory's one block: self entry, two slots, end
unfoldable full : List ℕ → List ℕ → List ℕ → List ℕ
full a b c = a ++ (b ++ (c ++ (0xFF ∷ zeros 127)))

-- n = 9: a folder a of the blocks 3 and 4 in slot 1 of the root (at 1,152), in it a file 1 of block 5 (at 1,664), and a file f of the blocks 6 and 7 in slot 2 of the root (at 1,280); block 8 is free
unfoldable s₀ : List ℕ
s₀ =
    volume_of 9 8 (1 ∷ 1 ∷ 1 ∷ 4 ∷ 1 ∷ 1 ∷ 7 ∷ 1 ∷ [])
    (full (entry 1 2 2 1 1 1 []) (entry 0x20 3 0 2 2 2 (97 ∷ [])) (entry 0x60 6 514 2 3 4 (102 ∷ []))
    ++ (entry 1 3 2 2 2 2 (97 ∷ []) ++ (entry 0x60 5 20 1 3 4 (49 ∷ []) ++ (zeros 256
    ++ (zeros 384 ++ (0xFF ∷ (zeros 127
    ++ (times 5 (47 ∷ 97 ∷ 47 ∷ 49 ∷ []) ++ (zeros 492
    ++ times 257 (47 ∷ 102 ∷ []))))))))))

-- the same without f, whose blocks are free and blank
unfoldable s₁ : List ℕ
s₁ =
    volume_of 9 6 (1 ∷ 1 ∷ 1 ∷ 4 ∷ 1 ∷ 1 ∷ [])
    (full (entry 1 2 2 1 1 1 []) (entry 0x20 3 0 2 2 2 (97 ∷ [])) (zeros 128)
    ++ (entry 1 3 2 2 2 2 (97 ∷ []) ++ (entry 0x60 5 20 1 3 4 (49 ∷ []) ++ (zeros 256
    ++ (zeros 384 ++ (0xFF ∷ (zeros 127
    ++ times 5 (47 ∷ 97 ∷ 47 ∷ 49 ∷ []))))))))

-- n = 8: two folders that no entry of the root names, of one name, the second with a file x of block 5
unfoldable s₂ : List ℕ → List ℕ
s₂ slots =
    volume_of 8 6 (1 ∷ 1 ∷ 1 ∷ 1 ∷ 1 ∷ 1 ∷ [])
    (entry 1 2 2 1 1 1 [] ++ (slots ++ (0xFF ∷ (zeros 127
    ++ (full (entry 1 3 2 1 2 2 (97 ∷ [])) (zeros 128) (zeros 128)
    ++ (full (entry 1 4 2 1 2 2 (97 ∷ [])) (entry 0x60 5 5 1 3 4 (120 ∷ [])) (zeros 128)
    ++ (47 ∷ 98 ∷ 47 ∷ 120 ∷ 47 ∷ [])))))))

-- n = 12: directories in each other, from block b on: k of them and a last one, with nothing in it
unfoldable nested : ℕ → ℕ → List ℕ
nested zero b = full (entry 1 b (b - 1) 1 2 2 ((46 + b) ∷ [])) (zeros 128) (zeros 128)
nested (suc k) b = full (entry 1 b (b - 1) 1 2 2 ((46 + b) ∷ [])) (entry 0x20 (b + 1) 0 1 2 2 ((47 + b) ∷ [])) (zeros 128) ++ nested k (b + 1)

unfoldable s₃ : ℕ → List ℕ → List ℕ
s₃ k links = volume_of 12 11 links (full (entry 1 2 2 1 2 2 []) (entry 0x20 3 0 1 2 2 (49 ∷ [])) (zeros 128) ++ nested k 3)

-- number, both counts, report and image after a salvage with a report of one byte more than 4n
unfoldable answered : ℕ → List ℕ → List ℕ
answered n s = let a = salvage_tree s (replicate (suc (4 * n)) 7) in a.number ∷ a.zeroed ∷ a.freed ∷ (a.report ++ a.image)

-- what is expected of an accepted one: both counts, the codes that are not 0 with their places, and the image
unfoldable codes_at : ℕ → List (ℕ × ℕ) → List ℕ
codes_at n [] = zeros (4 * n)
codes_at n (c ∷ cs) = splice (codes_at n cs) c.0 (c.1 ∷ [])

unfoldable done : ℕ → ℕ → ℕ → List (ℕ × ℕ) → List ℕ → List ℕ
done n zeroed freed codes s = 0 ∷ zeroed ∷ freed ∷ (codes_at n codes ++ (7 ∷ s))

-- bytes written, each at its place
unfoldable edit : List ℕ → List (ℕ × List ℕ) → List ℕ
edit s [] = s
edit s (e ∷ es) = edit (splice s e.0 e.1) es

-- opens them all
unfoldable samples : Unit {0}
unfolding entry times table volume_of full s₀ s₁ s₂ nested s₃ answered codes_at done edit
samples = tt

-- WHERE A DIRECTORY BEGINS: of a sound image nothing changes; the root's self entry is wiped; the folder's first 256 bytes are wiped (its end is the witness), so that its file is lost and block 5 is freed
pub heads : List (List ℕ × List ℕ)
heads =
    (answered 9 s₀, done 9 0 0 [] s₀)
    ∷ (answered 9 (edit s₀ ((1024, zeros 56) ∷ [])), done 9 0 0 ((8, 3) ∷ []) (edit s₀ ((1047, 0 ∷ []) ∷ (1055, 0 ∷ []) ∷ [])))
    ∷ (answered 9 (edit s₀ ((1536, zeros 256) ∷ [])), done 9 0 1 ((0, 3) ∷ (12, 3) ∷ (20, 5) ∷ []) (edit s₀ ((20, bytes4 7 ++ bytes4 2) ∷ (532, bytes4 0) ∷ (1559, 0 ∷ []) ∷ (1567, 0 ∷ []) ∷ (1664, zeros 128) ∷ (2560, zeros 20) ∷ [])))
    ∷ []

-- ITS BLOCKS: a chain that is cut is taken as a row, where the name is the witness; the first two of the run, where entry and self entry say so and no block ends; the whole run, where both sizes are wrong
pub choices : List (List ℕ × List ℕ)
choices =
    (answered 9 (edit s₀ ((524, bytes4 0) ∷ (1543, 9 ∷ []) ∷ [])), done 9 0 0 ((12, 3) ∷ []) s₀)
    ∷ (answered 9 (edit s₀ ((528, bytes4 8) ∷ (2432, 0 ∷ []) ∷ (4096, 120 ∷ 121 ∷ 122 ∷ []) ∷ [])), done 9 0 0 ((12, 3) ∷ (19, 3) ∷ []) (edit s₀ ((4096, 120 ∷ 121 ∷ 122 ∷ []) ∷ [])))
    ∷ (answered 9 (edit s₀ ((1167, 7 ∷ []) ∷ (1551, 9 ∷ []) ∷ [])), done 9 0 0 ((9, 3) ∷ (12, 3) ∷ []) s₀)
    ∷ []

-- NO DIRECTORY THERE: no witness, so that three blocks are freed; a directory at the ninth level
pub absent : List (List ℕ × List ℕ)
absent =
    (answered 9 (edit s₀ ((1543, 77 ∷ []) ∷ (1584, 122 ∷ 122 ∷ []) ∷ (2432, 0 ∷ []) ∷ [])), done 9 1 3 ((0, 3) ∷ (9, 2) ∷ (12, 5) ∷ (16, 5) ∷ (20, 5) ∷ []) (edit s₀ ((20, bytes4 5 ++ bytes4 4) ∷ (524, zeros 12) ∷ (1152, zeros 128) ∷ (1536, zeros 1044) ∷ [])))
    ∷ (answered 12 (s₃ 8 (replicate 12 1)), done 12 1 1 ((41, 2) ∷ (44, 5) ∷ []) (edit (s₃ 8 (replicate 11 1)) ((5248, zeros 128) ∷ (5632, zeros 512) ∷ [])))
    ∷ []

-- FILES. 3: the last value, with header, link 0 and a padding link wrong too. 2: it begins in the folder. 1: its name is that of the folder
pub files : List (List ℕ × List ℕ)
files =
    (answered 9 (edit s₀ ((0, zeros 32) ∷ (512, bytes4 0) ∷ (540, bytes4 3) ∷ (912, bytes4 5) ∷ [])), done 9 0 0 ((0, 3) ∷ (10, 3) ∷ []) s₀)
    ∷ (answered 9 (edit s₀ ((1284, bytes4 3) ∷ [])), done 9 1 2 ((0, 3) ∷ (10, 2) ∷ (24, 5) ∷ (28, 5) ∷ []) s₁)
    ∷ (answered 9 (edit s₀ ((1328, 97 ∷ []) ∷ [])), done 9 1 2 ((0, 3) ∷ (10, 1) ∷ (24, 5) ∷ (28, 5) ∷ []) s₁)
    ∷ []

-- ATTRIBUTES of f. 4: on its own last block, where its last value is wrong too. 3: block 8, whose value was 0
pub attributes : List (List ℕ × List ℕ)
attributes =
    (answered 9 (edit s₀ ((1312, bytes4 7 ++ bytes4 1) ∷ (540, bytes4 8) ∷ [])), done 9 0 0 ((10, 4) ∷ []) s₀)
    ∷ (answered 9 (edit s₀ ((1312, bytes4 8 ++ bytes4 1) ∷ [])), done 9 0 0 ((0, 3) ∷ (10, 3) ∷ []) (edit s₀ ((20, bytes4 9 ++ bytes4 0) ∷ (544, bytes4 1) ∷ (1312, bytes4 8 ++ bytes4 1) ∷ [])))
    ∷ []

-- LOST FOLDERS: its entry leads to the root, so that it is zeroed and the folder hung there; two of one name that no entry names, of which the second is freed with its file
pub lost-folders : List (List ℕ × List ℕ)
lost-folders =
    (answered 9 (edit s₀ ((1159, 2 ∷ []) ∷ [])), done 9 1 0 ((9, 6) ∷ []) s₀)
    ∷ (answered 8 (s₂ (zeros 256)), done 8 0 2 ((0, 3) ∷ (9, 6) ∷ (16, 5) ∷ (20, 5) ∷ []) (edit (s₂ (entry 0x20 3 0 1 2 2 (97 ∷ []) ++ zeros 128)) ((20, bytes4 4 ++ bytes4 4) ∷ (528, zeros 8) ∷ (2048, zeros 1024) ∷ [])))
    ∷ []

-- A LOST BLOCK; and the refusals, with a report of 35 and of 36 bytes: 9; a header of 8 blocks, which is whole: 3, and one whose root block is not that of 8 blocks: none; a byte too few: 1
pub refusals : List (List ℕ × List ℕ)
refusals =
    (answered 9 (edit s₀ ((544, bytes4 1) ∷ (4096, 97 ∷ 98 ∷ 99 ∷ []) ∷ [])), done 9 0 1 ((32, 5) ∷ []) s₀)
    ∷ (map (tree_refusal s₀) (35 ∷ 36 ∷ []), 9 ∷ 0 ∷ [])
    ∷ (answered 9 (edit s₀ ((12, bytes4 8) ∷ [])), 3 ∷ 0 ∷ 0 ∷ (replicate 37 7 ++ edit s₀ ((12, bytes4 8) ∷ [])))
    ∷ (map (λ s. tree_refusal s 35) (drop 1 s₀ ∷ edit s₀ ((12, bytes4 8) ∷ []) ∷ edit s₀ ((12, bytes4 8) ∷ (31, 3 ∷ []) ∷ []) ∷ []), 1 ∷ 3 ∷ 9 ∷ [])
    ∷ []

heads-hold : AsExpected heads
unfolding heads samples rules
heads-hold = tt

choices-hold : AsExpected choices
unfolding choices samples rules
choices-hold = tt

absent-hold : AsExpected absent
unfolding absent samples rules
absent-hold = tt

files-hold : AsExpected files
unfolding files samples rules
files-hold = tt

attributes-hold : AsExpected attributes
unfolding attributes samples rules
attributes-hold = tt

lost-hold : AsExpected lost-folders
unfolding lost-folders samples rules
lost-hold = tt

refusals-hold : AsExpected refusals
unfolding refusals samples rules
refusals-hold = tt
