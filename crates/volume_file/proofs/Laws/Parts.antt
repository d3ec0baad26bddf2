-- The three parts of a home.
use Prim.Native.Nat.{ℕ, ◌+◌, ◌*◌, ◌≤◌}
use mathlib.Core.List.{List, [], ◌++◌}
use mathlib.Core.Path.{◌≡◌, sym, ap, ◌∙◌}
use native.Mathlib.Omega.{arith}
use lib.ListN.{length, take, drop, length-append}
use lib.Seq.{take_all, drop-append-add}
use Rattle.layout.specs.Limits.{min_journal, max_journal}
use Rattle.layout.specs.Bytes.{part, block}
use Rattle.layout.proofs.Laws.Bytes.{length_part, part-part, part-middle}
use Rattle.volume_file.specs.Format.{image_sectors_of, journal_sectors_of, own_sectors_of, home_sectors, file_sectors, home_of, image_of, journal_of, own_of}
use Rattle.volume_file.specs.Save.{home_with, prepare_refusal}
use Rattle.volume_file.specs.Cuts.{Quiet, Fits}
use Rattle.volume_file.proofs.Laws.Facts.{file-facts, header-sizes, same-sectors}
use Rattle.volume_file.proofs.Laws.Saves.{home-length}
use Rattle.volume_file.proofs.Walks.Logging.{prepares, all-together}

-- the last of three lists
part-last : (x y z : List ℕ) → part (x ++ (y ++ z)) (length x + length y) (length z) ≡ z
part-last x y z =
    let e : length y + 0 ≡ length y = omega arith in
    ap (take (length z)) (drop-append-add x (y ++ z) (length y) ∙ ap (λ (k : ℕ). drop k (y ++ z)) (sym e) ∙ drop-append-add y z 0)
    ∙ take_all (length z) z (omega arith)

-- what a file's home is made of
pub record Holds (d image journal own : List ℕ) : Type 0 where
  pub image-is : image_of d ≡ image
  pub journal-is : journal_of d ≡ journal
  pub own_is : own_of d ≡ own

module _ (d image journal own : List ℕ) (size : length d ≡ 512 * file_sectors (home_sectors d)) (home : home_of d ≡ home_with image journal own)
    (i : length image ≡ 512 * image_sectors_of (block d 0)) (j : length journal ≡ 512 * journal_sectors_of (block d 0)) (o : length own ≡ 512 * own_sectors_of (block d 0)) where
  abbrev n : ℕ
  n = image_sectors_of (block d 0)

  abbrev m : ℕ
  m = journal_sectors_of (block d 0)

  abbrev x : ℕ
  x = own_sectors_of (block d 0)

  sectors : home_sectors d ≡ n + m + x
  unfolding home_sectors
  sectors = omega arith

  inside : (at k : ℕ) → at + k ≤ 512 * home_sectors d → part (home_with image journal own) at k ≡ part d (1024 + at) k
  unfolding home_of
  inside at k l = ap (λ (y : List ℕ). part y at k) (sym home) ∙ part-part d 1024 (512 * home_sectors d) at k (omega (arith, size)) l

  pub holds : Holds d image journal own
  unfolding image_of journal_of own_of
  holds = record {
    image-is =
        sym (inside 0 (512 * n) (omega (arith, sectors))) ∙ ap (λ (k : ℕ). part (home_with image journal own) 0 k) (sym i)
        ∙ part-middle [] image (journal ++ own) 0 (omega arith);
    journal-is =
        sym (inside (512 * n) (512 * m) (omega (arith, sectors))) ∙ ap (λ (k : ℕ). part (home_with image journal own) (512 * n) k) (sym j)
        ∙ part-middle image journal own (512 * n) i;
    own_is =
        let e : 1024 + 512 * n + 512 * m ≡ 1024 + (512 * n + 512 * m) = omega arith in
        ap (λ (a : ℕ). part d a (512 * x)) e ∙ sym (inside (512 * n + 512 * m) (512 * x) (omega (arith, sectors)))
        ∙ ap (λ (k : ℕ). part (home_with image journal own) k (512 * x)) (let f : 512 * n + 512 * m ≡ length image + length journal = omega (arith, i, j) in f)
        ∙ ap (λ (k : ℕ). part (home_with image journal own) (length image + length journal) k) (sym o) ∙ part-last image journal own;
  }

-- what `prepare` accepts fits
pub together : (d image journal own : List ℕ) → prepare_refusal d image journal own ≡ 0 → Fits d (home_with image journal own)
together d image journal own e =
    let p = prepares d image journal own e in
    length-append image (journal ++ own) ∙ ap (λ (k : ℕ). length image + k) (length-append journal own)
    ∙ all-together d image journal own p ∙ sym (home-length (file-facts d p.quiet.ok))

-- a file with the header of one that accepts them, and with them as its home, holds them
pub accepted-held : (d e image journal own : List ℕ) → prepare_refusal d image journal own ≡ 0 → Quiet e → block e 0 ≡ block d 0 → home_of e ≡ home_with image journal own
    → Holds e image journal own
accepted-held d e image journal own a q h home =
    let p = prepares d image journal own a in
    holds e image journal own (file-facts e q.ok).size home (rw h p.image-long) (rw h p.journal-long) (rw h p.own-long)

-- a part of the home, by the home
module _ {d e : List ℕ} (q : Quiet d) (r : Quiet e) (head : block e 0 ≡ block d 0) (home : home_of e ≡ home_of d) where
  v : length d ≡ 512 * file_sectors (home_sectors d)
  v = (file-facts d q.ok).size

  w : length e ≡ 512 * file_sectors (home_sectors e)
  w = (file-facts e r.ok).size

  at_home : (at k : ℕ) → at + k ≤ 512 * home_sectors d → part e (1024 + at) k ≡ part d (1024 + at) k
  unfolding home_of
  at_home at k l =
      sym (part-part e 1024 (512 * home_sectors e) at k (omega (arith, w)) (omega (arith, same-sectors d e head)))
      ∙ ap (λ (y : List ℕ). part y at k) home ∙ part-part d 1024 (512 * home_sectors d) at k (omega (arith, v)) l

  -- two files with one header and one home have the same parts
  pub same-image : image_of e ≡ image_of d
  unfolding image_of home_sectors
  same-image = rw head (at_home 0 (512 * image_sectors_of (block d 0)) (omega arith))

  pub same-journal : journal_of e ≡ journal_of d
  unfolding journal_of home_sectors
  same-journal = rw head (at_home (512 * image_sectors_of (block d 0)) (512 * journal_sectors_of (block d 0)) (omega arith))

-- the journal of a file is one that can be started
pub journal-sized : {d : List ℕ} → Quiet d → (min_journal ≤ length (journal_of d)) × (length (journal_of d) ≤ max_journal)
unfolding journal_of home_sectors
journal-sized {d} q =
    let f = file-facts d q.ok in
    let s = header-sizes d f.header in
    let l = length_part d (1024 + 512 * image_sectors_of (block d 0)) (512 * journal_sectors_of (block d 0)) (omega (arith, f.size)) in
    (omega (arith, l, s.1), omega (arith, l, s.2))
