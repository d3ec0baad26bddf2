-- A volume file as plain facts, and its commit sector.
use Prim.Native.Nat.{ℕ, ◌+◌, ◌*◌, ◌≤◌}
use mathlib.Core.List.{List, ◌∷◌}
use mathlib.Core.Bool.{Bool, true, false, ◌&&◌}
use mathlib.Core.Logic.{◌≢◌}
use mathlib.Core.Path.{◌≡◌, refl, sym, ap, ◌∙◌}
use native.Mathlib.Omega.{arith}
use lib.Dec.{leb, eqb}
use lib.ListN.{length, get_or, take}
use borrow.Author.Tests.{leb-true, le-leb, eqb-true, eq-eqb}
use Rattle.layout.specs.Bytes.{be32, zeros, part, block}
use Rattle.layout.specs.Lists.{same, within}
use Rattle.layout.specs.Walks.Entries.{all_zero}
use Rattle.layout.proofs.Laws.Tests.{and_split, require-zero, first_of-zero, within-split}
use Rattle.layout.proofs.Laws.Bytes.{length-splice, length-zeros, get_d_part, splice-first}
use Rattle.volume_file.specs.Format.{file_signature, image_sectors_of, journal_sectors_of, own_sectors_of, sizes_ok, header_ok, home_sectors, file_sectors, count_at, waits, log_count, count, rising, head_refusal, log_refusal, file_refusal}
use Rattle.volume_file.specs.Save.{flagged}
use Rattle.volume_file.proofs.Laws.Sectors.{sector-other, sector-be32}
use Rattle.volume_file.proofs.Laws.Restored.{Rising, rising_none, rising-split, rising-join}

pub record VolumeFile (h : ℕ) (d : List ℕ) : Type 0 where
  pub sectors : home_sectors d ≡ h
  pub header : header_ok (block d 0) ≡ true
  pub size : length d ≡ 512 * file_sectors h
  pub few : count d ≤ h
  pub rise : Rising h d h (count d)

-- n, m and x in their ranges
pub sizes-split : (n m x : ℕ) → sizes_ok n m x ≡ true → (n ≤ 65536) × (1 ≤ m) × (m ≤ 131072) × (x ≤ 128)
sizes-split n m x ok =
    let a = and_split (within 3 65536 n) (within 1 131072 m && leb x 128) ok in
    let b = and_split (within 1 131072 m) (leb x 128) a.1 in
    let s = within-split 1 131072 m b.0 in
    ((within-split 3 65536 n a.0).1, s.0, s.1, leb-true _ _ b.1)

-- what header and length give, and a log of k sectors
pub record Head (d : List ℕ) : Type 0 where
  pub header : header_ok (block d 0) ≡ true
  pub size : length d ≡ 512 * file_sectors (home_sectors d)

pub head-facts : (d : List ℕ) → head_refusal d ≡ 0 → Head d
unfolding head_refusal
head-facts d e =
    let a = require-zero (leb 1024 (length d)) 0 _ e in
    let b = require-zero (header_ok (block d 0)) 1 _ a.1 in
    let f = require-zero (eqb (length d) (512 * file_sectors (home_sectors d))) 2 0 b.1 in
    record { header = b.0; size = eqb-true _ _ f.0 }

pub head-ok : (d : List ℕ) → Head d → head_refusal d ≡ 0
unfolding head_refusal
head-ok d v =
    let s = v.size in
    rw (le-leb 1024 (length d) (omega arith), v.header, eq-eqb (length d) (512 * file_sectors (home_sectors d)) v.size)

pub record Log (d : List ℕ) (k : ℕ) : Type 0 where
  pub few : k ≤ home_sectors d
  pub rise : Rising (home_sectors d) d (home_sectors d) k

log_facts : (d : List ℕ) (k : ℕ) → log_refusal d k ≡ 0 → Log d k
unfolding log_refusal
log_facts d k e =
    let h = home_sectors d in
    let g = require-zero (leb k h) 3 _ e in
    let i = require-zero (rising h d h k) 4 0 g.1 in
    record { few = leb-true _ _ g.0; rise = rising-split h d h k i.0 }

pub log-ok : (d : List ℕ) (k : ℕ) → Log d k → log_refusal d k ≡ 0
unfolding log_refusal
log-ok d k l = rw (le-leb k (home_sectors d) l.few, rising-join (home_sectors d) d (home_sectors d) k l.rise)

pub file-facts : (d : List ℕ) → file_refusal d ≡ 0 → VolumeFile (home_sectors d) d
unfolding file_refusal
file-facts d e =
    let a = first_of-zero (head_refusal d) (log_refusal d (count d)) e in
    let b = head-facts d a.0 in
    let l = log_facts d (count d) a.1 in
    record { sectors = refl; header = b.header; size = b.size; few = l.few; rise = l.rise }

file-head : {h : ℕ} {d : List ℕ} → VolumeFile h d → Head d
file-head v = record { header = v.header; size = rw v.sectors v.size }

pub file-ok : (h : ℕ) (d : List ℕ) → VolumeFile h d → file_refusal d ≡ 0
unfolding file_refusal
file-ok h d v =
    rw (head-ok d (file-head v)) (log-ok d (count d) (record { few = rw v.sectors v.few; rise = rw v.sectors v.rise }))

-- those of a header, so that h is at most 196,736
pub header-sizes : (d : List ℕ) → header_ok (block d 0) ≡ true
    → (image_sectors_of (block d 0) ≤ 65536) × (1 ≤ journal_sectors_of (block d 0)) × (journal_sectors_of (block d 0) ≤ 131072) × (own_sectors_of (block d 0) ≤ 128)
unfolding header_ok
header-sizes d e =
    let b : List ℕ = block d 0 in
    let sized = sizes_ok (image_sectors_of b) (journal_sectors_of b) (own_sectors_of b) in
    let s = and_split (same (take 12 b) file_signature) (sized && all_zero (part b 24 488)) e in
    sizes-split (image_sectors_of b) (journal_sectors_of b) (own_sectors_of b) (and_split sized (all_zero (part b 24 488)) s.1).0

pub header-small : (d : List ℕ) → header_ok (block d 0) ≡ true → home_sectors d ≤ 196736
unfolding home_sectors
header-small d e = let z = header-sizes d e in omega (arith, z.0, z.2, z.3)

pub small : {h : ℕ} {d : List ℕ} → VolumeFile h d → h ≤ 196736
small {h} {d} v = rw v.sectors at (header-small d v.header)

-- what waits, by the sectors that say it
pub same-sectors : (d e : List ℕ) → block e 0 ≡ block d 0 → home_sectors e ≡ home_sectors d
unfolding home_sectors
same-sectors d e q = rw q

pub same-waits : (d e : List ℕ) → block e 1 ≡ block d 1 → waits e ≡ waits d
unfolding waits
same-waits d e q = ap (λ (x : ℕ). eqb x 1) (sym (get_d_part e 512 512 0 (omega arith)) ∙ ap (λ (x : List ℕ). get_or x 0 0) q ∙ get_d_part d 512 512 0 (omega arith))

pub count_none : (d : List ℕ) → waits d ≡ false → count d ≡ 0
unfolding count
count_none d e = rw e

pub count-some : (d : List ℕ) → waits d ≡ true → count d ≡ be32 d (count_at (home_sectors d))
unfolding count log_count
count-some d e = rw e

pub same_number : (d e : List ℕ) (h : ℕ) → block e (2 + h) ≡ block d (2 + h) → be32 e (count_at h) ≡ be32 d (count_at h)
same_number d e h q = let z : 512 * (2 + h) + 0 ≡ count_at h = omega arith in rw z at (sector-be32 d e (2 + h) 0 (omega arith) q)

pub same_count : (h : ℕ) (d e : List ℕ) → home_sectors d ≡ h → home_sectors e ≡ h → block e (2 + h) ≡ block d (2 + h) → waits d ≡ true → waits e ≡ true → count e ≡ count d
same_count h d e hd he q wd we =
    count-some e we ∙ ap (λ (x : ℕ). be32 e (count_at x)) he ∙ same_number d e h q ∙ sym (count-some d wd ∙ ap (λ (x : ℕ). be32 d (count_at x)) hd)

-- a volume file where nothing waits, by its length and its header
pub quiet-file : (h : ℕ) (d : List ℕ) → home_sectors d ≡ h → header_ok (block d 0) ≡ true → length d ≡ 512 * file_sectors h → waits d ≡ false → VolumeFile h d
quiet-file h d hs hd size w =
    let z = count_none d w in record { sectors = hs; header = hd; size = size; few = rw z (omega arith); rise = rw z (rising_none h d h) }

-- the commit sector with the first byte b
abbrev flag : ℕ → List ℕ
flag b = b ∷ zeros 511

flag-long : (b : ℕ) → length (flag b) ≡ 512
flag-long b = omega (arith, length-zeros 511)

module _ (d : List ℕ) (b : ℕ) (l : 1024 ≤ length d) where
  pub flagged-length : length (flagged d b) ≡ length d
  unfolding flagged
  flagged-length = length-splice d 512 (flag b) (omega (arith, flag-long b))

  pub flagged-other : (s : ℕ) → s ≢ 1 → block (flagged d b) s ≡ block d s
  unfolding flagged
  flagged-other s ne = sector-other d 1 (flag b) s (omega arith) (flag-long b) ne

  pub flagged-waits : waits (flagged d b) ≡ eqb b 1
  unfolding waits flagged
  flagged-waits = ap (λ (x : ℕ). eqb x 1) (splice-first d 512 (flag b) (omega (arith, flag-long b)) (omega (arith, flag-long b)))

-- the tests of a header sector, as the code makes them
pub header-tests : (head : List ℕ) (n m x : ℕ) (signed sized clean : Bool) → signed ≡ same (take 12 head) file_signature → sized ≡ sizes_ok n m x → n ≡ image_sectors_of head → m ≡ journal_sectors_of head
    → x ≡ own_sectors_of head → clean ≡ all_zero (part head 24 488) → (signed && (sized && clean)) ≡ header_ok head
unfolding header_ok
header-tests head n m x signed sized clean es ez en em ex ec = rw (es, ez, en, em, ex, ec)
