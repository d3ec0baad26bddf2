-- The exits of what tells where things stand.
use Prim.Native.Nat.{ℕ, ◌+◌, ◌*◌, ◌≤◌, ◌<◌}
use mathlib.Core.List.{List}
use mathlib.Core.Bool.{Bool, true, false, cond}
use mathlib.Core.Logic.{◌≢◌}
use mathlib.Core.Path.{◌≡◌, refl, sym, ◌∙◌}
use native.Mathlib.Omega.{arith}
use lib.ListN.{length}
use lib.Dec.{ltb}
use borrow.Author.Tests.{lt-ltb, le-ltb, ltb-true}
use Rattle.std.specs.Bool.{then_some}
use Rattle.std.specs.Option.{IfSome}
use Rattle.layout.specs.Bytes.{block}
use Rattle.layout.specs.Looks.{Extent}
use Rattle.layout.proofs.Laws.Tests.{accept-refused}
use Rattle.volume_file.specs.Format.{image_sectors_of, journal_sectors_of, own_sectors_of, sizes_ok, home_sectors, home_at, address_at, file_sectors, file_size, address, waits, file_refusal}
use Rattle.volume_file.specs.Answers.{PartsAnswer, parts_of, home_extent, home_told}
use Rattle.volume_file.proofs.Laws.Facts.{VolumeFile, file-facts, header-sizes, small}

-- how long a file is
pub size_none : (n m x : ℕ) → sizes_ok n m x ≡ false → 0 ≡ file_size n m x
unfolding file_size
size_none n m x e = rw e

pub size-some : (n m x : ℕ) → sizes_ok n m x ≡ true → 512 * file_sectors (n + m + x) ≡ file_size n m x
unfolding file_size
size-some n m x e = rw e

-- places of no bytes, and of some
abbrev pub place : ℕ → ℕ → Extent
place start size = record { start = start; size = size }

abbrev pub parts_answered : (number w a b e f g i : ℕ) → PartsAnswer
parts_answered number w a b e f g i = record {
  number = number;
  waits = w;
  image_start = a;
  image_length = b;
  journal_start = e;
  journal_length = f;
  own_start = g;
  own_length = i;
}

module _ (d : List ℕ) (number : ℕ) (is : number ≡ file_refusal d) where
  pub parts-refused : number ≢ 0 → parts_answered number 0 0 0 0 0 0 0 ≡ parts_of d
  unfolding parts_of
  parts-refused some = rw (← is) (sym (accept-refused number _ (parts_answered number 0 0 0 0 0 0 0) some))

  pub home-refused : (j : ℕ) → number ≢ 0 → place 0 0 ≡ home_extent d j
  unfolding home_extent
  home-refused j some = rw (← is) (sym (accept-refused number _ (place 0 0) some))

  module _ (z : number ≡ 0) where
    given : VolumeFile (home_sectors d) d
    given = file-facts d (sym is ∙ z)

    pub given-long : 1024 ≤ length d
    given-long = omega (arith, given.size)

    pub given-sizes : (image_sectors_of (block d 0) ≤ 65536) × (1 ≤ journal_sectors_of (block d 0)) × (journal_sectors_of (block d 0) ≤ 131072) × (own_sectors_of (block d 0) ≤ 128)
    given-sizes = header-sizes d given.header

    pub parts-given : (n m x w : ℕ) (r : Bool) → n ≡ image_sectors_of (block d 0) → m ≡ journal_sectors_of (block d 0) → x ≡ own_sectors_of (block d 0) → r ≡ waits d → w ≡ cond r 1 0
        → parts_answered 0 w 1024 (512 * n) (1024 + 512 * n) (512 * m) (1024 + 512 * n + 512 * m) (512 * x) ≡ parts_of d
    unfolding parts_of
    parts-given n m x w r en em ex er ew = rw (← is, z, en, em, ex, ew, er)

    pub home-small : (h : ℕ) → h ≡ home_sectors d → h ≤ 196736
    home-small h hs = rw hs (small given)

    module _ (h j : ℕ) (hs : h ≡ home_sectors d) where
      pub home-beyond : h ≤ j → place 0 0 ≡ home_extent d j
      unfolding home_extent
      home-beyond l = rw (← is, z, ← hs, le-ltb j h l)

      module _ (below : j < h) where
        pub home-room : address_at h j + 4 ≤ length d
        home-room = omega (arith, given.size, hs)

        pub home-named : (a : ℕ) → a ≡ address h d j → home_told (then_some (ltb a h) a) ≡ home_extent d j
        unfolding home_extent
        home-named a e = rw (← is, z, ← hs, lt-ltb j h below, ← e) (go (ltb a h))
          where
            go : (b : Bool) → home_told (then_some b a) ≡ cond b (place (512 * home_at a) 512) (place 0 0)
            go true = refl
            go false = refl

        pub home-none : (a : ℕ) → a ≡ address h d j → h ≤ a → place 0 0 ≡ home_extent d j
        unfolding home_extent
        home-none a e l = rw (← is, z, ← hs, lt-ltb j h below, ← e, le-ltb a h l)

        pub home_found : (a : ℕ) → a ≡ address h d j → a < h → place (512 * home_at a) 512 ≡ home_extent d j
        unfolding home_extent
        home_found a e l = rw (← is, z, ← hs, lt-ltb j h below, ← e, lt-ltb a h l)

-- a number that is told only where it is below h
pub named-small : (a h n : ℕ) → h ≤ n → IfSome (then_some (ltb a h) a) (λ x. x ≤ n)
named-small a h n l = go (ltb a h) refl
  where
    go : (b : Bool) → ltb a h ≡ b → IfSome (then_some b a) (λ x. x ≤ n)
    go true e = let m : a < h = ltb-true a h e in omega arith
    go false e = tt
