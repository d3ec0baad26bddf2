-- A new volume file.
use Prim.Native.Nat.{ℕ, zero, suc, ◌+◌, ◌*◌, ◌≤◌, ◌<◌}
use mathlib.Core.Bool.{true, false}
use mathlib.Core.List.{List, ◌∷◌, ◌++◌}
use mathlib.Core.Logic.{◌≢◌}
use mathlib.Core.Path.{◌≡◌, refl, sym, ap, ◌∙◌}
use native.Mathlib.Omega.{arith}
use lib.Dec.{eqb}
use lib.ListN.{length, take, drop, replicate}
use lib.Seq.{take_all}
use borrow.Author.Tests.{eqb-true}
use Rattle.layout.specs.Bytes.{bytes4, zeros, part, block, splice}
use Rattle.layout.specs.Lists.{same}
use Rattle.layout.specs.Walks.Entries.{all_zero}
use Rattle.layout.proofs.Laws.Tests.{require-zero, accept-refused}
use Rattle.layout.proofs.Laws.Bytes.{length-splice, length-zeros, be32-at, splice-append, lent-zeros, part-splice, part_same}
use Rattle.layout.proofs.Laws.Frames.{same_above}
use Rattle.volume_file.specs.Format.{file_signature, image_sectors_of, journal_sectors_of, own_sectors_of, sizes_ok, header_ok, home_sectors, file_sectors, image_of, journal_of, own_of, waits}
use Rattle.volume_file.specs.Save.{flagged}
use Rattle.volume_file.specs.Begin.{header_sector, begun, begin_refusal, after_begin}
use Rattle.volume_file.specs.Cuts.{Quiet}
use Rattle.volume_file.proofs.Laws.Facts.{VolumeFile, sizes-split, quiet-file, file-ok, flagged-length, flagged-other, flagged-waits}

header-long : (n m x : ℕ) → length (header_sector n m x) ≡ 512
unfolding header_sector bytes4
header-long n m x = omega (arith, length-zeros 488)

header-n : (n m x : ℕ) → n < 0x100000000 → image_sectors_of (header_sector n m x) ≡ n
unfolding header_sector
header-n n m x l = be32-at (header_sector n m x) 12 n (bytes4 m ++ (bytes4 x ++ zeros 488)) refl l

header-m : (n m x : ℕ) → m < 0x100000000 → journal_sectors_of (header_sector n m x) ≡ m
unfolding header_sector bytes4
header-m n m x l = be32-at (header_sector n m x) 16 m (bytes4 x ++ zeros 488) refl l

header-x : (n m x : ℕ) → x < 0x100000000 → own_sectors_of (header_sector n m x) ≡ x
unfolding header_sector bytes4
header-x n m x l = be32-at (header_sector n m x) 20 x (zeros 488) refl l

zeros-zero : (k : ℕ) → all_zero (zeros k) ≡ true
unfolding zeros all_zero
zeros-zero zero = refl
zeros-zero (suc k) = zeros-zero k

header-signed : (n m x : ℕ) → same (take 12 (header_sector n m x)) file_signature ≡ true
unfolding header_sector
header-signed n m x = refl

header-zeros : (n m x : ℕ) → part (header_sector n m x) 24 488 ≡ zeros 488
unfolding header_sector bytes4
header-zeros n m x = take_all 488 (zeros 488) (omega (arith, length-zeros 488))

-- a header of sizes in their ranges is right, and says them
module _ (n m x : ℕ) (ok : sizes_ok n m x ≡ true) where
  header-says : (image_sectors_of (header_sector n m x) ≡ n) × (journal_sectors_of (header_sector n m x) ≡ m) × (own_sectors_of (header_sector n m x) ≡ x)
  header-says = let s = sizes-split n m x ok in (header-n n m x (omega (arith, s.0)), header-m n m x (omega (arith, s.2)), header-x n m x (omega (arith, s.3)))

  header-right : header_ok (header_sector n m x) ≡ true
  unfolding header_ok
  header-right =
      let s = header-says in
      let a : image_sectors_of (header_sector n m x) ≡ n = s.0 in
      let b : journal_sectors_of (header_sector n m x) ≡ m = s.1 in
      let c : own_sectors_of (header_sector n m x) ≡ x = s.2 in
      rw (header-signed n m x, a, b, c, ok, header-zeros n m x) (zeros-zero 488)

-- the header, written in five runs
pub header_made : (d t u v w ys : List ℕ) (n m x k : ℕ) → 1024 ≤ length d → t ≡ splice d 0 file_signature → u ≡ splice t 12 (bytes4 n) → v ≡ splice u 16 (bytes4 m)
    → w ≡ splice v 20 (bytes4 x) → ys ≡ replicate (length (part w 24 k)) 0 → k ≡ 488 → take 24 w ++ (ys ++ drop k (drop 24 w)) ≡ splice d 0 (header_sector n m x)
unfolding header_sector bytes4
header_made d t u v w ys n m x k l et eu ev ew y q =
    let p : List ℕ = file_signature ++ bytes4 n in
    let r : List ℕ = p ++ bytes4 m in
    let o : List ℕ = r ++ bytes4 x in
    let a : splice (splice d 0 file_signature) 12 (bytes4 n) ≡ splice d 0 p = splice-append d 0 file_signature (bytes4 n) (omega arith) in
    let b : splice (splice d 0 p) 16 (bytes4 m) ≡ splice d 0 r = splice-append d 0 p (bytes4 m) (omega arith) in
    let c : splice (splice d 0 r) 20 (bytes4 x) ≡ splice d 0 o = splice-append d 0 r (bytes4 x) (omega arith) in
    let f : v ≡ splice d 0 r = ev ∙ ap (λ (z : List ℕ). splice z 16 (bytes4 m)) (eu ∙ ap (λ (z : List ℕ). splice z 12 (bytes4 n)) et ∙ a) ∙ b in
    let e : w ≡ splice d 0 o = ew ∙ ap (λ (z : List ℕ). splice z 20 (bytes4 x)) f ∙ c in
    let lw : length w ≡ length d = ap length e ∙ length-splice d 0 o (omega arith) in
    lent-zeros w 24 488 k ys y q (omega arith) ∙ ap (λ (z : List ℕ). splice z 24 (zeros 488)) e ∙ splice-append d 0 o (zeros 488) (omega (arith, length-zeros 488))

module _ (d : List ℕ) (n m x : ℕ) where
  pub begin-sizes : sizes_ok n m x ≡ false → begin_refusal d n m x ≡ 2
  unfolding begin_refusal
  begin-sizes e = rw e

  pub begin-length : sizes_ok n m x ≡ true → eqb (length d) (512 * file_sectors (n + m + x)) ≡ false → begin_refusal d n m x ≡ 3
  unfolding begin_refusal
  begin-length e f = rw (e, f)

  pub begin-accepted : sizes_ok n m x ≡ true → eqb (length d) (512 * file_sectors (n + m + x)) ≡ true → begin_refusal d n m x ≡ 0
  unfolding begin_refusal
  begin-accepted e f = rw (e, f)

  pub record Begins : Type 0 where
    pub sizes : sizes_ok n m x ≡ true
    pub size : length d ≡ 512 * file_sectors (n + m + x)

  pub begins : begin_refusal d n m x ≡ 0 → Begins
  unfolding begin_refusal
  begins e =
      let a = require-zero (sizes_ok n m x) 1 _ e in
      let b = require-zero (eqb (length d) (512 * file_sectors (n + m + x))) 2 0 a.1 in
      record { sizes = a.0; size = eqb-true _ _ b.0 }

  pub begin-done : (number : ℕ) → number ≡ begin_refusal d n m x → number ≡ 0 → (t u : List ℕ) → t ≡ splice d 0 (header_sector n m x) → u ≡ flagged t 0
      → u ≡ after_begin d n m x
  unfolding begun after_begin
  begin-done number e z t u et eu = rw (← e, z, eu, et)

  pub begin-kept : (number : ℕ) → number ≡ begin_refusal d n m x → number ≢ 0 → d ≡ after_begin d n m x
  unfolding after_begin
  begin-kept number e some = rw (← e) (sym (accept-refused number (begun d n m x) d some))

  -- what is begun is a volume file whose log does not wait
  module _ (b : Begins) where
    long : 1024 ≤ length d
    long = omega (arith, b.size)

    abbrev headed : List ℕ
    headed = splice d 0 (header_sector n m x)

    fits : 0 + length (header_sector n m x) ≤ length d
    fits = omega (arith, header-long n m x, long)

    headed-length : length headed ≡ length d
    headed-length = length-splice d 0 (header_sector n m x) fits

    headed-long : 1024 ≤ length headed
    headed-long = omega (arith, headed-length, long)

    begun-length : length (begun d n m x) ≡ length d
    unfolding begun
    begun-length = flagged-length headed 0 headed-long ∙ headed-length

    begun-header : block (begun d n m x) 0 ≡ header_sector n m x
    unfolding begun
    begun-header = flagged-other headed 0 headed-long 0 (λ e. omega arith) ∙ part-splice d 0 (header_sector n m x) 512 (header-long n m x) (omega arith)

    begun-waits : waits (begun d n m x) ≡ false
    unfolding begun
    begun-waits = flagged-waits headed 0 headed-long

    begun-sizes : (image_sectors_of (block (begun d n m x) 0) ≡ n) × (journal_sectors_of (block (begun d n m x) 0) ≡ m) × (own_sectors_of (block (begun d n m x) 0) ≡ x)
    begun-sizes = let s = header-says n m x b.sizes in (rw begun-header s.0, rw begun-header s.1, rw begun-header s.2)

    begun-sectors : home_sectors (begun d n m x) ≡ n + m + x
    unfolding home_sectors
    begun-sectors =
        let s = begun-sizes in
        let e : image_sectors_of (block (begun d n m x) 0) ≡ n = s.0 in
        let f : journal_sectors_of (block (begun d n m x) 0) ≡ m = s.1 in
        let g : own_sectors_of (block (begun d n m x) 0) ≡ x = s.2 in
        rw (e, f, g)

    begun-file : VolumeFile (n + m + x) (begun d n m x)
    begun-file = quiet-file (n + m + x) (begun d n m x) begun-sectors (rw begun-header (header-right n m x b.sizes)) (begun-length ∙ b.size) begun-waits

    pub begun-quiet : Quiet (begun d n m x)
    begun-quiet = record { ok = file-ok (n + m + x) (begun d n m x) begun-file; none = begun-waits }

    -- and its home is what stood there
    begun-part : (at k : ℕ) → 1024 ≤ at → at + k ≤ length d → part (begun d n m x) at k ≡ part d at k
    unfolding begun flagged
    begun-part at k low high =
        part_same d (begun d n m x) at at k
        (λ i l. same_above headed 512 (0 ∷ zeros 511) (omega (arith, length-zeros 511, headed-long)) at k (omega (arith, length-zeros 511)) i l
        ∙ same_above d 0 (header_sector n m x) fits at k (omega (arith, header-long n m x)) i l)
        high (omega (arith, begun-length))

    pub begun-parts : (image_of (begun d n m x) ≡ part d 1024 (512 * n)) × (journal_of (begun d n m x) ≡ part d (1024 + 512 * n) (512 * m))
        × (own_of (begun d n m x) ≡ part d (1024 + 512 * n + 512 * m) (512 * x))
    unfolding image_of journal_of own_of
    begun-parts =
        let s = begun-sizes in
        let e : image_sectors_of (block (begun d n m x) 0) ≡ n = s.0 in
        let f : journal_sectors_of (block (begun d n m x) 0) ≡ m = s.1 in
        let g : own_sectors_of (block (begun d n m x) 0) ≡ x = s.2 in (
          rw e (begun-part 1024 (512 * n) (omega arith) (omega (arith, b.size))),
          rw (e, f) (begun-part (1024 + 512 * n) (512 * m) (omega arith) (omega (arith, b.size))),
          rw (e, f, g) (begun-part (1024 + 512 * n + 512 * m) (512 * x) (omega arith) (omega (arith, b.size))),
        )
