-- A serial number byte by byte, the refusal of an address, and its path in an array of 665 bytes.
use Prim.Native.Nat.{ℕ, ◌+◌, ◌-◌, ◌≤◌, ◌<◌}
use mathlib.Core.Path.{◌≡◌, refl, sym, ap, ◌∙◌}
use mathlib.Core.Bool.{Bool, true, false, ◌&&◌, cond}
use mathlib.Core.List.{List, [], ◌∷◌, ◌++◌}
use native.Mathlib.Omega.{arith}
use native.Mathlib.Numerals.{add-one}
use borrow.Author.Tests.{lt-leb, le-leb}
use lib.ListN.{length, get_or, take, drop, set, length-append}
use lib.Seq.{drop-cons, drop-length, take_at, take_all}
use Rattle.std.specs.List.{list_all}
use Rattle.layout.specs.Lists.{within, every}
use Rattle.layout.specs.Bytes.{zeros, part, splice}
use Rattle.layout.specs.Directory.{slash}
use Rattle.layout.specs.Refusals.{require}
use Rattle.layout.specs.Check.{check}
use Rattle.layout.specs.Looks.{is_root_path}
use Rattle.layout.specs.Paths.{parts, path_ok, shallow}
use Rattle.layout.specs.Walks.Looks.{whole_refusal}
use Rattle.layout.specs.Walks.Paths.{good_parts, PathGiven}
use Rattle.store.specs.Put.{serial_byte, serial_ok, directory_ok, front, path_of, address_refusal}
use Rattle.store.specs.Walks.Addresses.{Addressed}
use Rattle.layout.proofs.Laws.Tests.{and_split, within-split}
use Rattle.layout.proofs.Laws.Bytes.{length-zeros, zeros-add, length-splice, splice-between, splice-append, splice-cons}
use Rattle.store.proofs.Laws.Serials.{path-leading, serial-path, serial-shallow}
use Rattle.store.proofs.Laws.Addresses.{is-root, front-short, root-address}

-- a test of every element, in the words of the library
pub all-every : (p : ℕ → Bool) (xs : List ℕ) → list_all p xs ≡ every p xs
all-every p [] = refl
all-every p (x ∷ xs) = ap (λ (t : Bool). p x && t) (all-every p xs)

module _ (serial : List ℕ) where
  pub serial_ok-empty : length serial < 1 → serial_ok serial ≡ false
  unfolding serial_ok
  serial_ok-empty h = rw (lt-leb 1 (length serial) h)

  pub serial_ok-long : 16 < length serial → serial_ok serial ≡ false
  unfolding serial_ok
  serial_ok-long h = rw (le-leb 1 (length serial) (omega arith), lt-leb (length serial) 16 h)

  pub serial_ok-bytes : 1 ≤ length serial → length serial ≤ 16 → serial_ok serial ≡ every serial_byte serial
  unfolding serial_ok
  serial_ok-bytes h g = rw (le-leb 1 (length serial) h, le-leb (length serial) 16 g)

  pub serial-most : serial_ok serial ≡ true → length serial ≤ 16
  unfolding serial_ok
  serial-most h = (within-split 1 16 (length serial) (and_split (within 1 16 (length serial)) _ h).0).1

  pub serial_bytes-stop : (i : ℕ) → i < length serial → serial_byte (get_or serial i 0) ≡ false → every serial_byte (drop i serial) ≡ false
  serial_bytes-stop i h z = rw (drop-cons serial i 0 h, z)

  pub serial_bytes-next : (i : ℕ) → i < length serial → serial_byte (get_or serial i 0) ≡ true → every serial_byte (drop i serial) ≡ every serial_byte (drop (i + 1) serial)
  serial_bytes-next i h z = rw (drop-cons serial i 0 h, z, add-one)

  pub serial_bytes-end : (i : ℕ) → i ≡ length serial → every serial_byte (drop i serial) ≡ true
  serial_bytes-end i e = rw (e, drop-length serial)

-- HOW MANY BYTES stand before the serial number's `/`
module _ (directory : List ℕ) where
  pub front-root : is_root_path directory ≡ true → 0 ≡ length (front directory)
  unfolding front
  front-root q = rw q

  pub front_below : is_root_path directory ≡ false → length directory ≡ length (front directory)
  unfolding front
  front_below q = rw q

  front-part : (k : ℕ) → k ≡ length (front directory) → take k directory ≡ front directory
  unfolding front
  front-part k e = go (is_root_path directory) refl k e
    where
      go : (t : Bool) → is_root_path directory ≡ t → (k : ℕ) → k ≡ length (cond t [] directory) → take k directory ≡ cond t [] directory
      go true q k e = rw e
      go false q k e = take_all k directory (omega arith)

-- THE REFUSAL of an address, test by test
none-fit : (a b : Bool) (rest : ℕ) → 22 ≡ require (a && (b && false)) 22 rest
none-fit true true rest = refl
none-fit true false rest = refl
none-fit false b rest = refl

none_named : (a f : Bool) (rest : ℕ) → 22 ≡ require (a && (false && f)) 22 rest
none_named true f rest = refl
none_named false f rest = refl

module _ (directory serial : List ℕ) (fits : Bool) where
  pub address-unfit : fits ≡ false → 22 ≡ address_refusal directory serial fits
  unfolding address_refusal
  address-unfit f = rw f (none-fit (directory_ok directory) (serial_ok serial) _)

  pub address_unnamed : serial_ok serial ≡ false → 22 ≡ address_refusal directory serial fits
  unfolding address_refusal
  address_unnamed q = rw q (none_named (directory_ok directory) fits _)

  module _ (f : fits ≡ true) (ok : serial_ok serial ≡ true) where
    pub address-root : is_root_path directory ≡ true → 0 ≡ address_refusal directory serial fits
    address-root q = sym (ap (λ (d : List ℕ). address_refusal d serial fits) (is-root directory q) ∙ root-address serial fits ∙ rw (ok, f))

    module _ (q : is_root_path directory ≡ false) where
      below-bad : path_ok directory ≡ false → address_refusal directory serial fits ≡ 22
      unfolding address_refusal directory_ok
      below-bad p = rw (q, p)

      below-good : path_ok directory ≡ true → address_refusal directory serial fits ≡ require (shallow (parts directory)) 17 0
      unfolding address_refusal
      below-good p =
          let d : directory_ok directory ≡ true = (unfold directory_ok in rw (q, p)) in
          rw (d, ok, f, path-leading directory d serial ok, q)

      pub address-form : (k : ℕ) → k ≡ whole_refusal directory → k ≡ 9 → 22 ≡ address_refusal directory serial fits
      unfolding whole_refusal
      address-form k e n = go (path_ok directory) refl (shallow (parts directory)) (sym e ∙ n)
        where
          go : (b : Bool) → path_ok directory ≡ b → (c : Bool) → require b 9 (require c 17 0) ≡ 9 → 22 ≡ address_refusal directory serial fits
          go false p c z = sym (below-bad p)
          go true p true z = absurd (omega arith)
          go true p false z = absurd (omega arith)

      pub address-levels : (k : ℕ) → k ≡ whole_refusal directory → (k ≡ 9 → ⊥) → k ≡ address_refusal directory serial fits
      unfolding whole_refusal
      address-levels k e n = go (path_ok directory) refl
        where
          go : (b : Bool) → path_ok directory ≡ b → k ≡ address_refusal directory serial fits
          go false p = absurd (n (e ∙ rw p))
          go true p = e ∙ rw p (sym (below-good p))

-- THE PATH in an array, and zeros behind it
pub path-size : (directory serial : List ℕ) → length (path_of directory serial) ≡ length (front directory) + 1 + length serial
unfolding path_of
path-size directory serial = let l = length-append (front directory) (slash ∷ serial) in omega arith

module _ (directory serial : List ℕ) (A : Addressed directory serial) where
  pub path-short : length (front directory) + 1 + length serial ≤ 665
  path-short = let a = front-short directory serial A in let b = serial-most serial A.named in omega arith

  pub path-begun : (l m : List ℕ) (k : ℕ) → k ≡ length (front directory) → l ≡ zeros 665 → m ≡ splice l 0 (part directory 0 k) → length m ≡ 665
  path-begun l m k e z q =
      let p = path-short in
      let n : length l ≡ 665 = ap length z ∙ length-zeros 665 in
      ap length (q ∙ ap (λ (x : List ℕ). splice l 0 x) (front-part directory k e)) ∙ length-splice l 0 (front directory) (omega arith) ∙ n

  pub path-stored : (r l m : List ℕ) (k : ℕ) → k ≡ length (front directory) → l ≡ zeros 665 → m ≡ splice l 0 (part directory 0 k) → r ≡ splice (set m k slash) (k + 1) (part serial 0 (length serial))
      → r ≡ path_of directory serial ++ zeros (665 - length (path_of directory serial))
  unfolding path_of
  path-stored r l m k e z q₀ q =
      let p = path-short in
      let n : length l ≡ 665 = ap length z ∙ length-zeros 665 in
      let size : length (front directory ++ (slash ∷ serial)) ≡ length (front directory) + 1 + length serial = (let h = length-append (front directory) (slash ∷ serial) in omega arith) in
      let n' : length (splice l 0 (front directory)) ≡ 665 = length-splice l 0 (front directory) (omega arith) ∙ n in
      let k' : k ≡ 0 + length (front directory) = omega arith in
      let whole : zeros 665 ≡ zeros (length (front directory ++ (slash ∷ serial))) ++ zeros (665 - length (front directory ++ (slash ∷ serial))) =
      (let e : 665 ≡ length (front directory ++ (slash ∷ serial)) + (665 - length (front directory ++ (slash ∷ serial))) = omega arith in ap zeros e ∙ zeros-add (length (front directory ++ (slash ∷ serial))) (665 - length (front directory ++ (slash ∷ serial)))) in
      q ∙ ap (λ (x : List ℕ). splice (set x k slash) (k + 1) (part serial 0 (length serial))) (q₀ ∙ ap (λ (x : List ℕ). splice l 0 x) (front-part directory k e))
      ∙ ap (λ (x : List ℕ). splice (set (splice l 0 (front directory)) k slash) (k + 1) x) (take_all (length serial) serial (omega arith))
      ∙ sym (splice-cons (splice l 0 (front directory)) k slash serial (omega arith))
      ∙ ap (λ (i : ℕ). splice (splice l 0 (front directory)) i (slash ∷ serial)) k'
      ∙ splice-append l 0 (front directory) (slash ∷ serial) (omega arith)
      ∙ ap (λ (x : List ℕ). splice x 0 (front directory ++ (slash ∷ serial))) (z ∙ whole)
      ∙ splice-between [] (zeros (length (front directory ++ (slash ∷ serial)))) (zeros (665 - length (front directory ++ (slash ∷ serial)))) (front directory ++ (slash ∷ serial)) 0 refl (length-zeros (length (front directory ++ (slash ∷ serial))))

  module _ (r : List ℕ) (q : r ≡ path_of directory serial ++ zeros (665 - length (path_of directory serial))) where
    pub path-long : length r ≡ 665
    path-long =
        let l = length-append (path_of directory serial) (zeros (665 - length (path_of directory serial))) in
        let z = length-zeros (665 - length (path_of directory serial)) in
        let s = path-size directory serial in
        let p = path-short in
        ap length q ∙ omega arith

    pub path-front : (k e : ℕ) → k ≡ length (front directory) → e ≡ k + 1 + length serial → take e r ≡ path_of directory serial
    path-front k e h g =
        let s = path-size directory serial in
        let n : e ≡ length (path_of directory serial) = omega arith in
        rw (q, n) (take_at (path_of directory serial) (zeros (665 - length (path_of directory serial))) (length (path_of directory serial)) refl)

    pub path-given : (s : List ℕ) (k e : ℕ) → check s ≡ 0 → k ≡ length (front directory) → e ≡ k + 1 + length serial → PathGiven s (take e r)
    path-given s k e ok h g = let z = path-front k e h g in record { sound = ok; good = rw z (serial-path directory serial A); few = rw z (serial-shallow directory serial A) }

-- the refusal of a path that is one is not 9
pub whole-right : (path : List ℕ) → (good_parts path ≡ 0 → ⊥) → whole_refusal path ≡ 9 → ⊥
unfolding whole_refusal good_parts
whole-right path h = go (path_ok path) (shallow (parts path)) refl h
  where
    go : (b t : Bool) → path_ok path ≡ b → (cond b (length (parts path)) 0 ≡ 0 → ⊥) → require b 9 (require t 17 0) ≡ 9 → ⊥
    go true true q n e = omega arith
    go true false q n e = omega arith
    go false t q n e = n refl
