-- Settings with a past (L10, N3), and the looks at a volume and its entries: records, files, answers and refusals worked out by hand, and computed from the
-- definitions.
use Prim.Native.Nat.{ℕ, ◌-◌, ◌*◌}
use mathlib.Core.List.{List, [], ◌∷◌, ◌++◌, map}
use lib.ListN.{length, drop, replicate}
use Rattle.layout.specs.Lists.{interval, joined}
use Rattle.layout.specs.Bytes.{be32, part}
use Rattle.layout.specs.Check.{check}
use Rattle.store.specs.Settings.{Revision, Found, broken, held, record_bytes, whole_file, encoded, records_in, revisions, latest, added}
use Rattle.store.specs.Put.{serial_ok, root, directory_ok, front, path_of, address_refusal, is_there, stored, opened, entry_at, rewritten, put_image, put_named, put_revision, put_refusal}
use Rattle.store.specs.Get.{the_latest, the_number, get_refusal, get_in}
use Rattle.store.specs.Change.{Change, put_in, put, write, create_directory, named, refusal, after}
use Rattle.journal.specs.Journal.{used, started, ascending}
use Rattle.journal.specs.Run.{change, get_settings_in, get_settings, show_volume, show_entry, State, step, answer, look_answer}
use Rattle.samples.proofs.Rules.{rules}
use Rattle.samples.proofs.Samples.{AsExpected, formatted_as, pattern, in_root, file_a, create_file, write_a, numbers, samples}

-- opens the store's definitions, as rules does those below it
unfoldable store_rules : Unit {0}
unfolding record_bytes whole_file encoded records_in revisions latest added serial_ok directory_ok front path_of address_refusal is_there stored opened entry_at rewritten put_image put_named put_revision put_refusal get_refusal get_in
store_rules = tt

-- the box "B7", its settings "abc" and then none
box : List ℕ
box = 66 ∷ 55 ∷ []

first : Change
first = put box 500 (97 ∷ 98 ∷ 99 ∷ [])

second : Change
second = put box 600 []

-- n = 8, d = 2: the file takes slot 1 of the root, at 1,152, and block 4. s₁ is the image after the first put, s₂ after both. (A table computes an image
-- once, in a `let`.)
-- The first put names the directory block 2, the new block 4, block 0 and the table block 1, so its record has 4 + 4 · 516 = 2,068 bytes; the second
-- takes no block and names 2 and 4: 1,036 bytes. The file has 5 + 5 + 3 bytes, then 5 more.
pub puts : List (List ℕ × List ℕ)
puts =
    let s₀ = formatted_as 8 2 in
    let s₁ = after s₀ first in
    let s₂ = after s₁ second in
    let p : State = record { image = s₀; journal = started 5200 } in
    let q = step p (change first) in
    (numbers (answer p (change first)) ++ ascending 8 (named s₀ first), 0 ∷ 1 ∷ 2068 ∷ 0 ∷ 1 ∷ 2 ∷ 4 ∷ [])
    ∷ (numbers (answer q (change second)) ++ ascending 8 (named s₁ second), 0 ∷ 2 ∷ 1036 ∷ 2 ∷ 4 ∷ [])
    ∷ (used q.journal ∷ used (step q (change second)).journal ∷ check s₁ ∷ check s₂ ∷ [], 2073 ∷ 3109 ∷ 0 ∷ 0 ∷ [])
    ∷ (map (be32 s₁) (1156 ∷ 1160 ∷ 1164 ∷ []) ++ map (be32 s₂) (1156 ∷ 1160 ∷ 1164 ∷ []), 4 ∷ 13 ∷ 1 ∷ 4 ∷ 18 ∷ 1 ∷ [])
    ∷ (part s₂ 2048 20, 1 ∷ 0 ∷ 0 ∷ 0 ∷ 18 ∷ 3 ∷ 0 ∷ 0 ∷ 0 ∷ 1 ∷ 97 ∷ 98 ∷ 99 ∷ 0 ∷ 0 ∷ 0 ∷ 0 ∷ 2 ∷ 0 ∷ 0 ∷ [])
    ∷ []

room : List ℕ
room = replicate 200 7

pub gets : List (List ℕ × List ℕ)
gets =
    let s₂ = after (after (formatted_as 8 2) first) second in
    (numbers (look_answer s₂ (get_settings box the_latest room)), 0 ∷ 2 ∷ 0 ∷ room)
    ∷ (numbers (look_answer s₂ (get_settings box (the_number 1) room)), 0 ∷ 1 ∷ 3 ∷ 97 ∷ 98 ∷ 99 ∷ replicate 197 7)
    -- no such revision; a buffer that is too short, before a serial number that has no file; a serial number that is none
    ∷ (numbers (look_answer s₂ (get_settings box (the_number 0) room)) ++ numbers (look_answer s₂ (get_settings box (the_number 3) room)), 23 ∷ 0 ∷ 0 ∷ room ++ (23 ∷ 0 ∷ 0 ∷ room))
    ∷ (
      map (get_refusal s₂ root (67 ∷ []) the_latest) (199 ∷ 200 ∷ []) ++ (get_refusal s₂ root (47 ∷ []) the_latest 200 ∷ get_refusal s₂ root [] the_latest 200 ∷ []),
      22 ∷ 10 ∷ 22 ∷ 22 ∷ [],
    )
    ∷ []

-- A file that is empty, one of a revision with the last number, a directory; a root of one block is full with two entries, and 2,048 bytes take the four free blocks.
pub refusals : List (List ℕ × List ℕ)
refusals =
    let s₀ = formatted_as 8 2 in
    let s₂ = after (after s₀ first) second in
    let empty = after s₀ (create_file 65) in
    let last = after empty (write file_a 0 (1 ∷ 0 ∷ 0 ∷ 0 ∷ 10 ∷ 0 ∷ 255 ∷ 255 ∷ 255 ∷ 255 ∷ []) 3000) in
    let small = after (after (formatted_as 6 1) (create_file 66)) (create_file 67) in
    (map (refusal s₂) (put [] 1 [] ∷ put (replicate 17 65) 1 [] ∷ put (47 ∷ []) 1 [] ∷ put box 1 (pattern 201) ∷ put box 1 (pattern 200) ∷ []), 22 ∷ 22 ∷ 22 ∷ 22 ∷ 0 ∷ [])
    ∷ (refusal empty (put (65 ∷ []) 1 []) ∷ get_refusal empty root (65 ∷ []) the_latest 200 ∷ [], 24 ∷ 24 ∷ [])
    ∷ (refusal last (put (65 ∷ []) 1 []) ∷ get_refusal last root (65 ∷ []) the_latest 200 ∷ get_refusal last root (65 ∷ []) (the_number 4294967295) 200 ∷ [], 25 ∷ 0 ∷ 0 ∷ [])
    ∷ (
      let t = after s₀ (create_directory (in_root 68) 0x20 0 0 0 0 1 1) in
          refusal t (put (68 ∷ []) 1 []) ∷ get_refusal t root (68 ∷ []) the_latest 200 ∷ [],
      11 ∷ 10 ∷ [],
    )
    ∷ (refusal small (put (65 ∷ []) 1 []) ∷ refusal (after empty (write_a 0 2048)) (put box 1 []) ∷ [], 13 ∷ 14 ∷ [])
    ∷ []

-- In a directory (N3): /D has one block, 4, and two slots; the first file in it takes slot 1, at 2,176, and block 5.
folder : List ℕ
folder = in_root 68

inside : Change
inside = put_in folder box 500 (97 ∷ 98 ∷ 99 ∷ [])

-- `/a` so many times, and then `/D`
deep : ℕ → List ℕ
deep k = joined (λ (i : ℕ). 47 ∷ 97 ∷ []) (interval 0 k) ++ folder

pub folders : List (List ℕ × List ℕ)
folders =
    let d₀ = after (formatted_as 8 2) (create_directory folder 0x20 0 0 0 0 1 1) in
    let d₁ = after d₀ inside in
    let p : State = record { image = d₀; journal = started 5200 } in
    (numbers (answer p (change inside)) ++ ascending 8 (named d₀ inside) ++ (check d₁ ∷ []), 0 ∷ 1 ∷ 2068 ∷ 0 ∷ 1 ∷ 4 ∷ 5 ∷ 0 ∷ [])
    ∷ (map (be32 d₁) (2180 ∷ 2184 ∷ 2188 ∷ []), 5 ∷ 13 ∷ 1 ∷ [])
    ∷ (numbers (look_answer d₁ (get_settings_in folder box the_latest room)), 0 ∷ 1 ∷ 3 ∷ 97 ∷ 98 ∷ 99 ∷ replicate 197 7)
    -- in the root, in no directory, in a file
    ∷ (map (λ (d : List ℕ). get_refusal d₁ d box the_latest 200) (root ∷ in_root 69 ∷ (folder ++ (47 ∷ box)) ∷ folder ∷ []), 10 ∷ 10 ∷ 10 ∷ 0 ∷ [])
    ∷ (map (λ (d : List ℕ). refusal d₁ (put_in d box 1 [])) (root ∷ in_root 69 ∷ (folder ++ (47 ∷ box)) ∷ folder ∷ []), 0 ∷ 10 ∷ 10 ∷ 0 ∷ [])
    -- no directory's path: nothing, no `/` before it, a `/` after it, two
    ∷ (map (λ (d : List ℕ). refusal d₁ (put_in d box 1 [])) ([] ∷ (68 ∷ []) ∷ (folder ++ root) ∷ (47 ∷ 47 ∷ []) ∷ []), 22 ∷ 22 ∷ 22 ∷ 22 ∷ [])
    -- eight directories and nine; 22 before 17
    ∷ (map (λ (k : ℕ). refusal d₁ (put_in (deep k) box 1 [])) (7 ∷ 8 ∷ []) ++ (refusal d₁ (put_in (deep 8) [] 1 []) ∷ []), 10 ∷ 17 ∷ 22 ∷ [])
    ∷ (map (λ (k : ℕ). get_refusal d₁ (deep k) box the_latest 200) (7 ∷ 8 ∷ []) ++ (get_refusal d₁ (deep 8) box the_latest 199 ∷ []), 10 ∷ 17 ∷ 22 ∷ [])
    -- the same serial number in the root: each has its own revisions
    ∷ (
      let t = after (after d₁ second) (put_in folder box 700 (100 ∷ [])) in
          numbers (look_answer t (get_settings_in folder box the_latest room)) ++ numbers (look_answer t (get_settings box the_latest room)),
      0 ∷ 2 ∷ 1 ∷ 100 ∷ replicate 199 7 ++ (0 ∷ 1 ∷ 0 ∷ room),
    )
    -- a second one fits /D, a third does not
    ∷ (let t = after d₁ (put_in folder (66 ∷ []) 1 []) in refusal t (put_in folder (67 ∷ []) 1 []) ∷ refusal t (put_in folder (66 ∷ []) 1 []) ∷ [], 13 ∷ 0 ∷ [])
    ∷ []

-- 16 revisions, the first of 200 bytes: with one more the first goes, and the file keeps its 285 bytes, 86 of records and zeros
sixteen : List Revision
sixteen = map (λ x. record { number = x; bytes = replicate (200 - 200 * (x - 1)) 9 }) (interval 1 16)

numbers_of : Found → List ℕ
numbers_of broken = []
numbers_of (held rs) = map (λ (r : Revision). r.number) rs

pub forms : List (List ℕ × List ℕ)
forms =
    let file = encoded (added sixteen (5 ∷ [])) 285 in
    (length (whole_file sixteen) ∷ length (whole_file (added sixteen (5 ∷ []))) ∷ length file ∷ [], 285 ∷ 86 ∷ 285 ∷ [])
    ∷ (numbers_of (revisions (encoded sixteen 300)) ++ numbers_of (revisions file), interval 1 16 ++ interval 2 16)
    ∷ (drop 80 file, 1 ∷ 0 ∷ 0 ∷ 0 ∷ 17 ∷ 5 ∷ replicate 199 0)
    -- not of the form: no revision, one byte behind the records, 17 revisions, numbers that do not rise
    ∷ (
      numbers_of (revisions (encoded [] 5)) ++ numbers_of (revisions (whole_file sixteen ++ (1 ∷ [])))
          ++ numbers_of (revisions (whole_file (map (λ x. record { number = x; bytes = [] }) (interval 1 17))))
          ++ numbers_of (revisions (whole_file (map (λ x. record { number = 7; bytes = [] }) (interval 0 2)))),
      [],
    )
    -- one revision, number 1, of one byte; not of the form with version 2, a length above the size, a data length past the end, number 0
    ∷ (numbers_of (revisions (1 ∷ 0 ∷ 0 ∷ 0 ∷ 11 ∷ 1 ∷ 0 ∷ 0 ∷ 0 ∷ 1 ∷ 9 ∷ [])), 1 ∷ [])
    ∷ (
      numbers_of (revisions (2 ∷ 0 ∷ 0 ∷ 0 ∷ 11 ∷ 1 ∷ 0 ∷ 0 ∷ 0 ∷ 1 ∷ 9 ∷ [])) ++ numbers_of (revisions (1 ∷ 0 ∷ 0 ∷ 0 ∷ 12 ∷ 1 ∷ 0 ∷ 0 ∷ 0 ∷ 1 ∷ 9 ∷ []))
          ++ numbers_of (revisions (1 ∷ 0 ∷ 0 ∷ 0 ∷ 11 ∷ 2 ∷ 0 ∷ 0 ∷ 0 ∷ 1 ∷ 9 ∷ [])) ++ numbers_of (revisions (1 ∷ 0 ∷ 0 ∷ 0 ∷ 11 ∷ 1 ∷ 0 ∷ 0 ∷ 0 ∷ 0 ∷ 9 ∷ [])),
      [],
    )
    -- data of 200 and of 201 bytes
    ∷ (
      numbers_of (revisions (1 ∷ 0 ∷ 0 ∷ 0 ∷ 210 ∷ 200 ∷ 0 ∷ 0 ∷ 0 ∷ 1 ∷ replicate 200 9)) ++ numbers_of (revisions (1 ∷ 0 ∷ 0 ∷ 0 ∷ 211 ∷ 201 ∷ 0 ∷ 0 ∷ 0 ∷ 1 ∷ replicate 201 9)),
      1 ∷ [],
    )
    ∷ []

-- The volume's numbers with the first bytes of its UUID; the entries of the root, by the slot to begin with.
pub overview : List (List ℕ × List ℕ)
overview =
    let s₁ = after (formatted_as 8 2) first in
    (numbers (look_answer s₁ (show_volume (7 ∷ 7 ∷ 7 ∷ []))), 0 ∷ 8 ∷ 5 ∷ 3 ∷ 2 ∷ 1 ∷ 2 ∷ 3 ∷ [])
    ∷ (numbers (look_answer s₁ (show_entry (47 ∷ []) 0 (7 ∷ 7 ∷ 7 ∷ []))), 0 ∷ 1 ∷ 0x60 ∷ 0 ∷ 0 ∷ 0 ∷ 4 ∷ 13 ∷ 1 ∷ 500 ∷ 500 ∷ 0 ∷ 0 ∷ 0 ∷ 66 ∷ 55 ∷ 0 ∷ [])
    ∷ (numbers (look_answer s₁ (show_entry (47 ∷ []) 2 (7 ∷ []))), 0 ∷ 0 ∷ 0 ∷ 0 ∷ 0 ∷ 0 ∷ 0 ∷ 0 ∷ 0 ∷ 0 ∷ 0 ∷ 0 ∷ 0 ∷ 0 ∷ 7 ∷ [])
    ∷ []

puts-hold : AsExpected puts
unfolding puts first second box samples store_rules rules
puts-hold = tt

gets-hold : AsExpected gets
unfolding gets room first second box samples store_rules rules
gets-hold = tt

refusals-hold : AsExpected refusals
unfolding refusals first second box samples store_rules rules
refusals-hold = tt

folders-hold : AsExpected folders
unfolding folders folder inside deep second room box samples store_rules rules
folders-hold = tt

forms-hold : AsExpected forms
unfolding forms sixteen numbers_of store_rules rules
forms-hold = tt

overview-holds : AsExpected overview
unfolding overview first box samples store_rules rules
overview-holds = tt

pub settings-cases : AsExpected puts × AsExpected gets × AsExpected refusals × AsExpected folders × AsExpected forms × AsExpected overview
settings-cases = (puts-hold, gets-hold, refusals-hold, folders-hold, forms-hold, overview-holds)
