-- No listing is longer than max_listing.
use Prim.Native.Nat.{ℕ, zero, suc, ◌+◌, ◌*◌, ◌-◌, ◌≤◌}
use mathlib.Core.Path.{◌≡◌, refl, sym, subst}
use mathlib.Core.Bool.{Bool, true, false}
use mathlib.Core.List.{List, ◌++◌}
use native.Mathlib.Omega.{arith}
use lib.Dec.{leb}
use lib.ListN.{length, length-append, length-take, length-map}
use Rattle.layout.specs.Lists.{interval, select, keep, joined}
use Rattle.layout.specs.Bytes.{part, be32}
use Rattle.layout.specs.Limits.{max_listed}
use Rattle.layout.specs.Refusals.{require}
use Rattle.layout.specs.Geometry.{block_count, root_block}
use Rattle.layout.specs.Directory.{slot_at, type_of, is_file, size_of, blocks_of, name_of, files, root}
use Rattle.layout.specs.Check.{check}
use Rattle.layout.specs.Listing.{printed, entry_line, file_line, count_line, refused_line, listing}
use Rattle.lister.specs.Text.{max_listing}
use Rattle.lister.proofs.Digits.{decimal-short}
use Rattle.lister.proofs.Lines.{refused-listing, listed-sound, accepted-listing}
use Rattle.layout.specs.Walks.Slots.{entry_at}
use Rattle.layout.proofs.Walks.Homes.{root-at, root-chain}
use Rattle.layout.proofs.Laws.Names.{unpadded-most}

printed-short : (s : List ℕ) (e : ℕ) → length (printed (name_of s e)) ≤ 80
unfolding printed name_of
printed-short s e =
    let h : length (part s (e + 48) 80) ≤ 80 = simp length-take (omega arith) in
    simp length-map (omega (arith, unpadded-most (part s (e + 48) 80)))

file-short : (s : List ℕ) (k : ℕ) → length (file_line s k) ≤ 114
unfolding entry_line file_line
file-short s k =
    let e = slot_at (root s) k in
    simp length-append (omega (arith, decimal-short k, decimal-short (size_of s e), decimal-short (blocks_of s e), printed-short s e))

count-short : (s : List ℕ) → length (count_line s) ≤ 50
unfolding count_line
count-short s = simp length-append (omega (arith, decimal-short (block_count s), decimal-short (be32 s 20), decimal-short (be32 s 24)))

pub refused-short : (number : ℕ) → length (refused_line number) ≤ 50
unfolding refused_line
refused-short number = simp length-append (omega (arith, decimal-short number))

lines-short : (s : List ℕ) (p : ℕ → Bool) (a k : ℕ) → length (joined (file_line s) (select p (interval a k))) ≤ 114 * k
lines-short s p a zero = omega arith
lines-short s p a (suc k) = go (p a) (lines-short s p (suc a) k)
  where
    go : (t : Bool) → length (joined (file_line s) (select p (interval (suc a) k))) ≤ 114 * k → length (joined (file_line s) (keep t a (select p (interval (suc a) k)))) ≤ 114 * suc k
    go true h = simp length-append (omega (arith, file-short s a))
    go false h = omega arith

pub list-short : (s : List ℕ) → check s ≡ 0 → length (count_line s ++ joined (file_line s) (files s (root s))) ≤ max_listing
unfolding files
list-short s e =
    let d : ℕ = be32 s (entry_at (root_block (block_count s)) 0 + 12) in
    let b = (root-at s e d refl).blocks in
    let l : length (root s) ≤ 64 = rw (root-chain s e d refl) at (subst (λ (x : ℕ). x ≤ 64) (sym b.size) b.few) in
    simp length-append (omega (arith, count-short s, lines-short s (λ k. is_file (type_of s (slot_at (root s) k))) 1 (4 * length (root s) - 2)))

pub listing-short : (s : List ℕ) → length (listing s) ≤ max_listing
listing-short s = go (require (leb (length s) max_listed) 1 (check s)) refl
  where
    go : (x : ℕ) → x ≡ require (leb (length s) max_listed) 1 (check s) → length (listing s) ≤ max_listing
    go zero e = rw (← accepted-listing s zero e refl) (list-short s (listed-sound s zero e refl))
    go (suc x) e = let h : suc x ≡ 0 → ⊥ = λ z. omega arith in rw (← refused-listing s (suc x) e h) (omega (arith, refused-short (suc x)))
