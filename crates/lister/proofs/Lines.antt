-- The parts of the listing, by the code's steps.
use Prim.Native.Nat.{ℕ, ◌+◌, ◌*◌, ◌-◌, ◌<◌}
use mathlib.Core.Path.{◌≡◌, refl, sym, ap, ◌∙◌}
use mathlib.Core.Bool.{Bool, true, false, cond}
use mathlib.Core.List.{List, [], ◌∷◌, ◌++◌}
use lib.Dec.{leb}
use lib.ListN.{length, get_or, drop}
use lib.Seq.{drop-length}
use Rattle.layout.specs.Lists.{within, keep, joined}
use Rattle.layout.specs.Bytes.{be32, part}
use Rattle.layout.specs.Limits.{max_listed}
use Rattle.layout.specs.Refusals.{require}
use Rattle.layout.specs.Geometry.{block_count, root_block}
use Rattle.layout.specs.Table.{next, chain}
use Rattle.layout.specs.Directory.{slot_at, type_of, is_file, unpadded, name_of, files, root}
use Rattle.layout.specs.Check.{check}
use Rattle.layout.specs.Listing.{entry_line, decimal, printed, file_line, count_line, refused_line, listing}
use Rattle.lister.specs.Text.{slot_line, slot_lines}
use Rattle.layout.specs.Walks.Slots.{Place, entry_at}
use Rattle.layout.proofs.Laws.Tests.{require-zero, accept-refused}
use Rattle.layout.proofs.Walks.Homes.{root-at, root-chain}
use Rattle.layout.proofs.Walks.Names.{unpadded-end, unpadded-next}
use Rattle.layout.proofs.Walks.Slots.{place-entry}
use Rattle.layout.proofs.Laws.Lists.{interval-next}

-- the name in a field, from byte i on
module _ (f : List ℕ) (i : ℕ) where
  pub name-end : i ≡ length f → printed (unpadded (drop i f)) ≡ []
  unfolding printed
  name-end e = rw (e, drop-length)

  module _ (h : i < length f) where
    pub name-stop : get_or f i 0 ≡ 0 → printed (unpadded (drop i f)) ≡ []
    unfolding printed
    name-stop z = rw (unpadded-end f i h z)

    pub name-more : (x : ℕ) → x ≡ cond (within 0x21 0x7E (get_or f i 0)) (get_or f i 0) 63 → (get_or f i 0 ≡ 0 → ⊥) → printed (unpadded (drop i f)) ≡ (x ∷ []) ++ printed (unpadded (drop (i + 1) f))
    unfolding printed
    name-more x e z = rw (unpadded-next f i h z, e)

-- the lines of slots
pub entry-line : (s : List ℕ) (e k : ℕ) → e ≡ slot_at (root s) k → entry_line s e k ≡ file_line s k
unfolding file_line
entry-line s e k q = rw q

module _ (s : List ℕ) (e k ty : ℕ) (et : ty ≡ type_of s e) where
  pub slot-none : false ≡ is_file ty → slot_line s e k ≡ []
  unfolding slot_line
  slot-none h = rw (← et, ← h)

  pub slot-file : true ≡ is_file ty → slot_line s e k ≡ entry_line s e k
  unfolding slot_line
  slot-file h = rw (← et, ← h)

module _ (s : List ℕ) (k j : ℕ) where
  pub lines_end : j ≡ 0 → slot_lines s k j ≡ []
  unfolding slot_lines
  lines_end e = rw e

  lines_keep : (t : Bool) (xs : List ℕ) → joined (file_line s) (keep t k xs) ≡ cond t (file_line s k) [] ++ joined (file_line s) xs
  lines_keep true xs = refl
  lines_keep false xs = refl

  pub lines_more : (e : ℕ) → e ≡ slot_at (root s) k → 0 < j → slot_lines s k j ≡ slot_line s e k ++ slot_lines s (k + 1) (j - 1)
  unfolding slot_lines slot_line
  lines_more e q h = rw (interval-next k j h, entry-line s e k q, q) (lines_keep (is_file (type_of s (slot_at (root s) k))) _)

  pub lines-turn : (first d b : ℕ) → chain (next s) first d ≡ root s → Place (chain (next s) first d) d b k j → 0 < j → slot_lines s k j ≡ slot_line s (entry_at b k) k ++ slot_lines s (k + 1) (j - 1)
  lines-turn first d b e p h = lines_more (entry_at b k) (place-entry (chain (next s) first d) d b k j p ∙ ap (λ (ds : List ℕ). slot_at ds k) e) h

-- the pieces of the lines, as they are written
abbrev pub after_size : ℕ → List ℕ → List ℕ
after_size blocks name = ((32 ∷ []) ++ decimal blocks) ++ ((32 ∷ []) ++ (printed name ++ (10 ∷ [])))

abbrev pub after_slot : ℕ → ℕ → List ℕ → List ℕ
after_slot size blocks name = ((32 ∷ []) ++ decimal size) ++ after_size blocks name

pub entry-pieces : (s : List ℕ) (e k size blocks : ℕ) (field : List ℕ) → size ≡ be32 s (e + 8) → blocks ≡ be32 s (e + 12) → field ≡ part s (e + 48) 80
    → entry_line s e k ≡ decimal k ++ after_slot size blocks (unpadded field)
unfolding entry_line name_of
entry-pieces s e k size blocks field es eb ef = rw (es, eb, ef)

abbrev pub after_used : ℕ → List ℕ
after_used free = ((32 ∷ 102 ∷ 114 ∷ 101 ∷ 101 ∷ 32 ∷ []) ++ decimal free) ++ (10 ∷ [])

abbrev pub after_total : ℕ → ℕ → List ℕ
after_total used free = ((32 ∷ 117 ∷ 115 ∷ 101 ∷ 100 ∷ 32 ∷ []) ++ decimal used) ++ after_used free

pub count-pieces : (s : List ℕ) (used free : ℕ) → used ≡ be32 s 20 → free ≡ be32 s 24
    → count_line s ≡ ((98 ∷ 108 ∷ 111 ∷ 99 ∷ 107 ∷ 115 ∷ 32 ∷ []) ++ decimal (block_count s)) ++ after_total used free
unfolding count_line
count-pieces s used free eu ef = rw (eu, ef)

pub refused-pieces : (number : ℕ) → refused_line number ≡ ((114 ∷ 101 ∷ 102 ∷ 117 ∷ 115 ∷ 101 ∷ 100 ∷ 32 ∷ []) ++ decimal number) ++ (10 ∷ [])
unfolding refused_line
refused-pieces number = refl

pub list-pieces : (s : List ℕ) (e : check s ≡ 0) (d : ℕ) → d ≡ be32 s (entry_at (root_block (block_count s)) 0 + 12) → count_line s ++ joined (file_line s) (files s (root s)) ≡ count_line s ++ slot_lines s 1 (4 * d - 2)
unfolding files slot_lines
list-pieces s e d ed =
    let l : length (root s) ≡ d = ap length (sym (root-chain s e d ed)) ∙ (root-at s e d ed).blocks.size in
    rw l

-- the listing
module _ (s : List ℕ) (number : ℕ) (e : number ≡ require (leb (length s) max_listed) 1 (check s)) where
  pub refused-listing : (number ≡ 0 → ⊥) → refused_line number ≡ listing s
  unfolding listing
  refused-listing h = rw (← e) (sym (accept-refused number _ (refused_line number) h))

  module _ (z : number ≡ 0) where
    pub listed-sound : check s ≡ 0
    listed-sound = (require-zero (leb (length s) max_listed) 0 (check s) (sym e ∙ z)).1

    pub accepted-listing : count_line s ++ joined (file_line s) (files s (root s)) ≡ listing s
    unfolding listing
    accepted-listing = rw (← e, z)
