-- The search for the place of a new entry, test by test.
use mathlib.Core.Path.{◌≡◌, refl, sym, ◌∙◌}
use mathlib.Core.Bool.{Bool, true, false, ◌&&◌}
use mathlib.Core.List.{List}
use Prim.Native.Nat.{ℕ, ◌*◌}
use lib.Dec.{eqb}
use borrow.Author.Tests.{eq-eqb, ne_eqb}
use Rattle.layout.specs.Refusals.{require, first_of}
use Rattle.layout.specs.Geometry.{block_count}
use Rattle.layout.specs.Directory.{blocks_of, is_used, free_slot, directory}
use Rattle.layout.specs.Walks.Shapes.{DirectoryAt}
use Rattle.std.specs.Prelude.{Option, Some, None}
use Rattle.std.specs.Option.{is_some}
use Rattle.layout.specs.declared.directory.Entry.{Entry}
use Rattle.layout.specs.declared.path.Spot.{Spot}
use Rattle.layout.specs.Paths.{home, path_slot}
use Rattle.layout.specs.Walks.Paths.{PathGiven, Spotted, SpottedAt}
use Rattle.layout.specs.Walks.Slots.{Stands, StandsAt}
use Rattle.layout.proofs.Laws.Tests.{require-zero, first_of-zero, true-not-false}
use Rattle.layout.proofs.Walks.Homes.{given-home}
use Rattle.volume.specs.Create.{place_refusal, create_slot, place}
use Rattle.volume.specs.Walks.Places.{brought_refusal, Searched}

-- refused by what is brought, 9, 17 or 26, whatever comes after
pub brought-first : (a b c : Bool) (rest : ℕ) → (c ≡ false → rest ≡ 26) → (first_of (require a 9 (require b 17 0)) (require c 26 0) ≡ 0 → ⊥)
    → first_of (require a 9 (require b 17 0)) (require c 26 0) ≡ require (a && true) 9 (require b 17 rest)
brought-first true true true rest f z = absurd (z refl)
brought-first true true false rest f z = sym (f refl)
brought-first true false c rest f z = refl
brought-first false b c rest f z = refl

pub brought-fine : (form flags r : ℕ) → r ≡ brought_refusal form flags → r ≡ 0 → (0 ≡ form) × (eqb flags 0 ≡ true)
unfolding brought_refusal
brought-fine form flags r e z = let a = first_of-zero form _ (sym e ∙ z) in (sym a.0, (require-zero (eqb flags 0) 25 0 a.1).0)

pub place-as : {s path : List ℕ} {refusal refusal' number h k b : ℕ} → refusal ≡ refusal' → Searched s path refusal number h k b → Searched s path refusal' number h k b
place-as e f = record { number_is = f.number_is ∙ e; vacant = f.vacant }

-- a path that leads to a directory, with an entry there of its name or none
module _ (type : ℕ → Bool) (s path : List ℕ) (spot : Spot) (p : SpottedAt type s path (Some spot)) where
  pub spotted-some : true ≡ is_some spot.entry → (k : ℕ) × (b : ℕ) × Spotted type s path spot.home k b × (k ≡ 0 → ⊥)
  spotted-some = go spot.entry p.2
    where
      go : (r : Option Entry) → StandsAt (directory s (home s path)) (block_count s) (path_slot type s path) r → true ≡ is_some r
          → (k : ℕ) × (b : ℕ) × Spotted type s path spot.home k b × (k ≡ 0 → ⊥)
      go (Some e) st t = (e.slot, e.block, record { there = p.0; stands = st.0 }, st.1)
      go None st t = absurd (true-not-false {a = true} refl t)

  pub spotted-free : false ≡ is_some spot.entry → Spotted type s path spot.home 0 0
  spotted-free = go spot.entry p.2
    where
      go : (r : Option Entry) → StandsAt (directory s (home s path)) (block_count s) (path_slot type s path) r → false ≡ is_some r → Spotted type s path spot.home 0 0
      go (Some e) st t = absurd (true-not-false {a = true} refl (sym t))
      go None st t = record { there = p.0; stands = st }

module _ {s path : List ℕ} {h k b : ℕ} (sp : Spotted is_used s path h k b) where
  pub home-none : h ≡ 0 → 10 ≡ place_refusal s path
  unfolding place_refusal
  home-none z = rw (← sp.there, eq-eqb h 0 z)

  module _ (ne : h ≡ 0 → ⊥) where
    pub name-taken : (k ≡ 0 → ⊥) → 11 ≡ place_refusal s path
    unfolding place_refusal
    name-taken t = rw (← sp.there, ne_eqb h 0 ne, ← sp.stands.slot, ne_eqb k 0 t)

    pub home_at : PathGiven s path → DirectoryAt s (block_count s) h (blocks_of s (512 * h))
    home_at G = rw sp.there (given-home s path G (λ z. ne (sp.there ∙ z)))

    module _ (z : k ≡ 0) {j a : ℕ} (st : Stands (directory s h) (block_count s) (free_slot s (directory s h)) j a) where
      pub slots-full : j ≡ 0 → 13 ≡ place_refusal s path
      unfolding place_refusal
      slots-full q = rw (← sp.there, ne_eqb h 0 ne, ← sp.stands.slot, eq-eqb k 0 z, ← st.slot, eq-eqb j 0 q)

      pub place_found : (j ≡ 0 → ⊥) → Searched s path (place_refusal s path) 0 h j a
      unfolding place_refusal place create_slot
      place_found q =
          let f = st.block q in
          record {
            number_is = rw (← sp.there, ne_eqb h 0 ne, ← sp.stands.slot, eq-eqb k 0 z, ← st.slot, ne_eqb j 0 q);
            vacant =
                λ w. record {
                  there = sp.there;
                  lowest = rw (← sp.there) st.slot;
                  low = st.low;
                  inside = f.0;
                  here = rw (← sp.there, ← st.slot) f.1;
                };
          }
