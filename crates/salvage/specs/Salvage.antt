-- SALVAGE of a broken volume (FORMAT.md, 16), on any image, which goes through the paper's steps in their order; ds is the list of the root's blocks.
use Rattle.std.specs.Prelude.{ℕ, ◌+◌, ◌-◌, ◌*◌, List, [], ◌∷◌, ◌++◌, Bool, not, ◌&&◌, ◌||◌, cond, length, eqb, leb, ltb}
use Rattle.layout.specs.Lists.{interval, every, has, distinct, last_or}
use Rattle.layout.specs.Refusals.{require, accept}
use Rattle.layout.specs.Bytes.{zeros, splice}
use Rattle.layout.specs.Geometry.{block_count, table_blocks, in_volume}
use Rattle.layout.specs.Table.{next, set_next, occupied}
use Rattle.layout.specs.Directory.{slot_at, slots, type_of, is_free, is_directory, root_of, root, file_blocks, attribute_blocks}
use Rattle.layout.specs.Check.{stage1, stage2, stage3, stage7, directory_ok, slot_ok, new_name}
use Rattle.volume.specs.Entries.{set_occupied}
use Rattle.volume.specs.Attributes.{set_attribute_fields}

-- "Refusals: 1 to 4, then 9 for a report shorter than 4d bytes"; L4: "Salvage gives 5 if a root slot from 1 to 4d−2 has a directory type, and asks
-- stage 4 of the root only"
unfoldable pub salvage_refusal : List ℕ → ℕ → ℕ
salvage_refusal s size =
    let ds = root s in
    require (stage1 s) 1
    (require (stage2 s) 2
    (require (stage3 s) 3
    (require (directory_ok s (block_count s) (root_of s) (root_of s)) 4
    (require (every (λ k. not (is_directory (type_of s (slot_at ds k)))) (slots ds)) 5
    (require (leb (4 * length ds) size) 9 0)))))

-- What has come of the volume when some slots are done: the image, the blocks "claimed by the root or an earlier kept file", and the codes of the
-- slots from 0 on.
pub record Progress : Type 0 where
  pub image : List ℕ
  pub claimed : List ℕ
  pub codes : List ℕ

-- "Walk any other file's chain for its size in blocks": the blocks bs that it meets are good. Not so "if it meets a number outside t+1 to n−1, a block
-- repeated, or one claimed by the root or an earlier kept file".
unfoldable pub claimable : ℕ → List ℕ → List ℕ → Bool
claimable n claimed bs = every (in_volume n) bs && (distinct eqb bs && every (λ b. not (has eqb b claimed)) bs)

-- "set the last value to 1 if it isn't, code 3": of a chain of no blocks there is none
unfoldable pub ends : List ℕ → List ℕ → Bool
ends s bs = eqb (length bs) 0 || eqb (next s (last_or 0 bs)) 1

unfoldable pub ended : List ℕ → List ℕ → List ℕ
ended s bs = cond (ends s bs) s (set_next s (last_or 0 bs) 1)

-- "Otherwise claim those blocks": the entry at e is a file's whose own chain is good. L6: "Salvage walks a file's data chain first, then this one by
-- L1's rule, the file's data blocks claimed too; a bad attribute chain only clears both fields, code 4, over code 3 if both."
unfoldable pub take_file : Progress → ℕ → Progress
take_file p e =
    let s = p.image in
    let bs = file_blocks s e in
    let t = ended s bs in
    let xs = attribute_blocks t e in
    let code : ℕ = cond (ends s bs && ends t xs) 0 3 in
    let both : Progress = record { image = ended t xs; claimed = (p.claimed ++ bs) ++ xs; codes = p.codes ++ (code ∷ []) } in
    let first : Progress = record { image = set_attribute_fields t e 0 0; claimed = p.claimed ++ bs; codes = p.codes ++ (4 ∷ []) } in
    cond (claimable (block_count s) (p.claimed ++ bs) xs) both first

-- "Zero an entry"
unfoldable pub zero_entry : Progress → ℕ → ℕ → Progress
zero_entry p e code = record { image = splice p.image e (zeros 128); claimed = p.claimed; codes = p.codes ++ (code ∷ []) }

unfoldable pub skip : Progress → Progress
skip p = record { image = p.image; claimed = p.claimed; codes = p.codes ++ (0 ∷ []) }

-- Slot k: "Zero an entry that breaks stage 5 (for names: equal to one kept earlier), code 1." An entry that was not kept is free by now. Then the
-- walk; code 2.
unfoldable pub take_slot : List ℕ → Progress → ℕ → Progress
take_slot ds p k =
    let s = p.image in
    let e = slot_at ds k in
    let walked = cond (claimable (block_count s) p.claimed (file_blocks s e)) (take_file p e) (zero_entry p e 2) in
    let tested = cond (slot_ok s e && new_name s ds k) walked (zero_entry p e 1) in
    cond (is_free (type_of s e)) (skip p) tested

-- "take slots 1 to 4d−2 in ascending order, each finished before the next"
unfoldable pub take_slots : List ℕ → Progress → List ℕ → Progress
take_slots ds p [] = p
take_slots ds p (k ∷ ks) = take_slots ds (take_slot ds p k) ks

-- "Then put right the end slot's type (code 3 if changed)"
abbrev pub end_at : List ℕ → ℕ
end_at ds = slot_at ds (4 * length ds - 1)

unfoldable pub end_right : List ℕ → List ℕ → Bool
end_right s ds = eqb (type_of s (end_at ds)) 0xFF

unfoldable pub end_put : List ℕ → List ℕ → List ℕ
end_put s ds = cond (end_right s ds) s (splice s (end_at ds) (0xFF ∷ []))

-- "entries 0 to t"
unfoldable pub one_at : List ℕ → ℕ → List ℕ
one_at s b = cond (eqb (next s b) 1) s (set_next s b 1)

-- "unclaimed and padding entries"; L7: "Freeing a block now also zeroes its 512 bytes", of a block (b < n; the entries from n on are padding) that
-- wasn't free before
unfoldable pub blanked : List ℕ → ℕ → List ℕ
blanked s b = cond (ltb b (block_count s)) (splice s (512 * b) (zeros 512)) s

unfoldable pub free_at : List ℕ → List ℕ → ℕ → List ℕ
free_at claimed s b = cond (has eqb b claimed || eqb (next s b) 0) s (set_next (blanked s b) b 0)

-- each number of a list in turn
unfoldable pub in_turn : (List ℕ → ℕ → List ℕ) → List ℕ → List ℕ → List ℕ
in_turn f s [] = s
in_turn f s (b ∷ bs) = in_turn f (f s b) bs

unfoldable pub table_put : List ℕ → List ℕ → List ℕ
table_put s claimed =
    let t = table_blocks (block_count s) in
    in_turn (free_at claimed) (in_turn one_at s (interval 0 (t + 1))) (interval (t + 1) (128 * t - (t + 1)))

-- "and counts"
unfoldable pub counts_put : List ℕ → List ℕ
counts_put s = cond (stage7 s) s (set_occupied s (block_count s) (occupied (next s) (block_count s)))

-- All of it: the slots; what is put right; "one code per slot, 0 where nothing changed"
unfoldable pub slots_done : List ℕ → Progress
slots_done s =
    let ds = root s in
    take_slots ds (record { image = s; claimed = ds; codes = 0 ∷ [] }) (slots ds)

unfoldable pub salvage_image : List ℕ → List ℕ
salvage_image s =
    let p = slots_done s in
    counts_put (table_put (end_put p.image (root s)) p.claimed)

unfoldable pub salvage_codes : List ℕ → List ℕ
salvage_codes s =
    let p = slots_done s in
    p.codes ++ (cond (end_right p.image (root s)) 0 3 ∷ [])

-- THE CALL: "The first 4d bytes of a lent report get one code per slot"; the rest of the report stays
pub record SalvageAnswer : Type 0 where
  pub number : ℕ
  pub image : List ℕ
  pub report : List ℕ

unfoldable pub salvage : List ℕ → List ℕ → SalvageAnswer
salvage s report =
    let number = salvage_refusal s (length report) in
    let done : SalvageAnswer = record { number = 0; image = salvage_image s; report = splice report 0 (salvage_codes s) } in
    accept number done (record { number = number; image = s; report = report })
