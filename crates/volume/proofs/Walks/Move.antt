-- What the code of a move tests and writes.
use Prim.Native.Nat.{ℕ, ◌+◌, ◌-◌, ◌*◌, ◌/◌, ◌≤◌, ◌<◌}
use mathlib.Core.Path.{◌≡◌, refl, sym, ap, ◌∙◌}
use mathlib.Core.Bool.{Bool, true, false, not, cond, ◌&&◌, ◌||◌, and-false, or-true, or-false}
use mathlib.Core.List.{List, [], ◌∷◌, ◌++◌, append_assoc}
use native.Mathlib.Omega.{arith}
use borrow.Author.Tests.{eq-eqb, ne_eqb, eqb-true, eqb-false}
use lib.Dec.{eqb}
use lib.ListN.{length, drop, length-append}
use Rattle.std.specs.Prelude.{Result, Ok, Err}
use Rattle.std.specs.Result.{result_eq}
use Rattle.layout.specs.declared.refusal.Refusal.{Refusal}
use Rattle.layout.specs.declared.refusal.Refusal.TheVariants as refusal
use Rattle.layout.specs.Reasons.{outcome}
use Rattle.layout.specs.contracts.refusal.RefusalPartialEq.TheImpl.{eq-value}
use Rattle.layout.specs.Refusals.{require, first_of}
use Rattle.layout.specs.Bytes.{part, splice, zeros}
use Rattle.layout.specs.Geometry.{block_count}
use Rattle.layout.specs.Directory.{slot_at, type_of, is_used, is_file, padded, directory}
use Rattle.layout.specs.Check.{check}
use Rattle.layout.specs.Paths.{parts, path_ok, leading, last_part, shallow, home, path_slot, entry_of}
use Rattle.layout.specs.Walks.Looks.{form_refusal}
use Rattle.layout.specs.Walks.Paths.{PathGiven, Spotted}
use Rattle.layout.specs.Walks.Slots.{Stands, slot_from, entry_at}
use Rattle.layout.proofs.Laws.Tests.{first_of-zero, first_of-refused, true-not-false}
use Rattle.layout.proofs.Laws.Bytes.{length-zeros, splice-append, splice-flat}
use Rattle.layout.proofs.Laws.Sound.{sound}
use Rattle.layout.proofs.Walks.Looks.{form-given}
use Rattle.layout.proofs.Walks.Shapes.{sound-shape}
use Rattle.volume.specs.Move.{open_slot, move_slot, move_place, move_refusal, renamed, move_image, move_named}
use Rattle.volume.specs.Walks.Marks.{marked}
use Rattle.volume.specs.Walks.Targets.{Moving}
use Rattle.volume.proofs.Walks.Slots.{drop-replicate}
use Rattle.volume.specs.Walks.Moves.{either_form, slot_open, Prepares}

-- THE FORMS of two paths
pub bad_argument : {T : Type 0} (same : T → T → Bool) (y : Result T Refusal) → result_eq same eq-value.it y (Err refusal.BadArgument) ≡ eqb (outcome y) 9
bad_argument same (Ok given) = refl
bad_argument same (Err refusal.BadLength) = refl
bad_argument same (Err refusal.BadSignature) = refl
bad_argument same (Err refusal.BadGeometry) = refl
bad_argument same (Err refusal.BadSelf) = refl
bad_argument same (Err refusal.BadSlot) = refl
bad_argument same (Err refusal.BadChains) = refl
bad_argument same (Err refusal.BadCounts) = refl
bad_argument same (Err refusal.BadJournal) = refl
bad_argument same (Err refusal.BadArgument) = refl
bad_argument same (Err refusal.NotFound) = refl
bad_argument same (Err refusal.NameTaken) = refl
bad_argument same (Err refusal.BadOffset) = refl
bad_argument same (Err refusal.DirectoryFull) = refl
bad_argument same (Err refusal.VolumeFull) = refl
bad_argument same (Err refusal.JournalFull) = refl
bad_argument same (Err refusal.NothingToUndo) = refl
bad_argument same (Err refusal.TooDeep) = refl
bad_argument same (Err refusal.NotEmpty) = refl
bad_argument same (Err refusal.BadList) = refl
bad_argument same (Err refusal.TooManyBlocks) = refl
bad_argument same (Err refusal.BadTableSize) = refl
bad_argument same (Err refusal.BadSettings) = refl
bad_argument same (Err refusal.NoRevision) = refl
bad_argument same (Err refusal.NotSettings) = refl
bad_argument same (Err refusal.RevisionsUsed) = refl
bad_argument same (Err refusal.BadFlags) = refl
bad_argument same (Err refusal.NoMark) = refl

pub either-nine : (x y : ℕ) → (eqb x 9 || eqb y 9) ≡ true → 9 ≡ either_form x y
unfolding either_form
either-nine x y t = rw t

-- as the code takes its tests: y is 9; x refuses; only y may
pub either-second-nine : (x y : ℕ) → eqb y 9 ≡ true → y ≡ either_form x y
unfolding either_form
either-second-nine x y t = rw (t, or-true (eqb x 9)) (eqb-true y 9 t)

pub either_first : (x y : ℕ) → eqb y 9 ≡ false → (x ≡ 0 → ⊥) → x ≡ either_form x y
unfolding either_form
either_first x y t ne = rw (t, or-false (eqb x 9)) (go (eqb x 9) refl)
  where
    go : (z : Bool) → eqb x 9 ≡ z → x ≡ cond z 9 (first_of x y)
    go true e = eqb-true x 9 e
    go false e = sym (first_of-refused x y ne)

pub either_second : (y : ℕ) → eqb y 9 ≡ false → y ≡ either_form 0 y
unfolding either_form
either_second y t = rw t

either-both : (a b c d : Bool) → either_form (require a 9 (require b 17 0)) (require c 9 (require d 17 0)) ≡ require (a && c) 9 (require (b && d) 17 0)
unfolding either_form
either-both false b c d = refl
either-both true true true true = refl
either-both true true true false = refl
either-both true true false d = refl
either-both true false true true = refl
either-both true false true false = refl
either-both true false false d = refl

either-zero : (x y : ℕ) → either_form x y ≡ 0 → (x ≡ 0) × (y ≡ 0)
unfolding either_form
either-zero x y z = first_of-zero x y (go (eqb x 9 || eqb y 9) z)
  where
    go : (t : Bool) → cond t 9 (first_of x y) ≡ 0 → first_of x y ≡ 0
    go true e = absurd (omega arith)
    go false e = e

form-first : (a b : Bool) (rest : ℕ) → (require a 9 (require b 17 0) ≡ 0 → ⊥) → require a 9 (require b 17 0) ≡ require a 9 (require b 17 rest)
form-first true true rest ne = absurd (ne refl)
form-first true false rest ne = refl
form-first false b rest ne = refl

-- THE REFUSALS, in the order of the code
none_of : (a b : Bool) (rest : ℕ) → (a || b) ≡ true → 10 ≡ require (not a && not b) 10 rest
none_of true b rest t = refl
none_of false true rest t = refl
none_of false false rest t = absurd (true-not-false {a = false} t refl)

neither : (a b : Bool) → (a || b) ≡ false → (a ≡ false) × (b ≡ false)
neither true b t = absurd (true-not-false {a = true} refl t)
neither false b t = (refl, t)

module _ (s path to : List ℕ) where
  module _ {x y r : ℕ} (p : x ≡ form_refusal path) (q : y ≡ form_refusal to) (e : r ≡ either_form x y) where
    pub refused-forms : (r ≡ 0 → ⊥) → r ≡ move_refusal s path to
    unfolding form_refusal move_refusal
    refused-forms ne =
        let z : r ≡ require (path_ok path && path_ok to) 9 (require (shallow (leading (parts path)) && shallow (leading (parts to))) 17 0) =
        e ∙ ap (λ (i : ℕ). either_form i y) p ∙ ap (either_form (form_refusal path)) q ∙ either-both (path_ok path) (shallow (leading (parts path))) (path_ok to) (shallow (leading (parts to))) in
        z ∙ form-first (path_ok path && path_ok to) (shallow (leading (parts path)) && shallow (leading (parts to)))
        (require (not (eqb (path_slot is_file s path) 0) && not (eqb (home s to) 0)) 10 (require (eqb (path_slot is_used s to) 0) 11 (require (not (eqb (move_slot s path to) 0)) 13 0)))
        (λ w. ne (z ∙ w))

    pub forms-fine : r ≡ 0 → check s ≡ 0 → PathGiven s path × PathGiven s to
    forms-fine z ok = let w = either-zero x y (sym e ∙ z) in (form-given s path ok (sym w.0 ∙ p), form-given s to ok (sym w.1 ∙ q))

  module _ (P : PathGiven s path) (Q : PathGiven s to) {h₀ k b h named m : ℕ} (f : Spotted is_file s path h₀ k b) (g : Spotted is_used s to h named m) where
    pub nothing-there : (eqb k 0 || eqb h 0) ≡ true → 10 ≡ move_refusal s path to
    unfolding move_refusal
    nothing-there t = rw (P.good, Q.good, P.few, Q.few, ← f.stands.slot, ← g.there) (none_of (eqb k 0) (eqb h 0) _ t)

    module _ (t : (eqb k 0 || eqb h 0) ≡ false) where
      pub home-there : h ≡ 0 → ⊥
      home-there = eqb-false h 0 (neither (eqb k 0) (eqb h 0) t).1

      -- where the entry begins is a number of 64 bits
      pub own-small : b < 65536
      own-small =
          let w = f.stands.block (eqb-false k 0 (neither (eqb k 0) (eqb h 0) t).0) in
          let l = w.0 in
          let m = (sound s P.sound).most in
          omega arith

  module _ (P : PathGiven s path) (Q : PathGiven s to) where
    pub no-file : path_slot is_file s path ≡ 0 → 10 ≡ move_refusal s path to
    unfolding move_refusal
    no-file z = rw (P.good, Q.good, P.few, Q.few, z)

    pub no-home : home s to ≡ 0 → 10 ≡ move_refusal s path to
    unfolding move_refusal
    no-home z = rw (P.good, Q.good, P.few, Q.few, z, and-false (not (eqb (path_slot is_file s path) 0)))

    module _ {k b : ℕ} (f : Stands (directory s (home s path)) (block_count s) (path_slot is_file s path) k b) (ne : k ≡ 0 → ⊥) where
      own_block : (b < block_count s) × (entry_at b k ≡ entry_of is_file s path)
      unfolding entry_of
      own_block = let w = f.block ne in (w.0, w.1 ∙ ap (slot_at (directory s (home s path))) f.slot)

      module _ {h named m : ℕ} (g : Spotted is_used s to h named m) (there : h ≡ 0 → ⊥) where
        pub is-taken : (named ≡ 0 → ⊥) → 11 ≡ move_refusal s path to
        unfolding move_refusal
        is-taken u = rw (P.good, Q.good, P.few, Q.few, ← f.slot, ← g.there, ne_eqb k 0 ne, ne_eqb h 0 there, ← g.stands.slot, ne_eqb named 0 u)

        module _ (z : named ≡ 0) {j a : ℕ} (st : Stands (directory s h) (block_count s) (open_slot s (directory s h) (entry_at b k)) j a) where
          slot_is : j ≡ move_slot s path to
          unfolding move_slot
          slot_is = st.slot ∙ rw (own_block.1, ← g.there)

          pub none_open : j ≡ 0 → 13 ≡ move_refusal s path to
          unfolding move_refusal
          none_open q =
              rw (P.good, Q.good, P.few, Q.few, ← f.slot, ← g.there, ne_eqb k 0 ne, ne_eqb h 0 there, ← g.stands.slot, eq-eqb named 0 z, ← slot_is, eq-eqb j 0 q)

          pub place-open : (j ≡ 0 → ⊥) → Prepares s path to 0 j a k b
          unfolding move_refusal move_place
          place-open q =
              let w = st.block q in
              record {
                number_is = rw (P.good, Q.good, P.few, Q.few, ← f.slot, ← g.there, ne_eqb k 0 ne, ne_eqb h 0 there, ← g.stands.slot, eq-eqb named 0 z, ← slot_is, ne_eqb j 0 q);
                moving =
                    λ y. record {
                      lowest = slot_is;
                      low = st.low;
                      inside = w.0;
                      here = rw (← g.there, ← slot_is) w.1;
                      old-inside = own_block.0;
                      old = own_block.1;
                    };
              }

-- THE SLOT, turn by turn
pub open-from : (s ds : List ℕ) (own d : ℕ) → length ds ≡ d → open_slot s ds own ≡ slot_from (slot_open s own) ds 1 (4 * d - 2)
unfolding open_slot slot_from
open-from s ds own d size = rw size

module _ (s : List ℕ) (e own type at : ℕ) (et : type ≡ type_of s e) (ea : at ≡ e) where
  pub slot-open : (x : Bool) → (eqb type 0 || eqb at own) ≡ x → x ≡ slot_open s own e
  slot-open x t = sym t ∙ rw (← et, ← ea)

-- WHAT IS WRITTEN
drop-zeros : (m k : ℕ) → drop k (zeros m) ≡ zeros (m - k)
unfolding zeros
drop-zeros m k = drop-replicate m k 0

pub renamed-written : (head name : List ℕ) → length head ≡ 48 → length name ≤ 80 → splice (splice (zeros 128) 0 head) 48 name ≡ head ++ padded name
renamed-written head name l h =
    let d : 0 + length head ≡ 48 = omega arith in
    let e : 128 - (0 + length (head ++ name)) ≡ 80 - length name = omega (arith, length-append head name) in
    (rw d at (splice-append (zeros 128) 0 head name (omega (arith, length-zeros 128)))) ∙ splice-flat (zeros 128) 0 (head ++ name)
    ∙ rw (drop-zeros 128 (0 + length (head ++ name)), e) (append_assoc head name (zeros (80 - length name)))

module _ {s path to : List ℕ} {slot block k b : ℕ} (M : Moving s path to slot block k b) where
  pub old-within : check s ≡ 0 → 512 * b + 512 ≤ length s
  old-within ok = let z = sound-shape s ok in let i = M.old-inside in omega arith

  pub new-within : check s ≡ 0 → 512 * block + 512 ≤ length s
  new-within ok = let z = sound-shape s ok in let i = M.inside in omega arith

  pub move-written : splice (splice s (entry_at b k) (zeros 128)) (entry_at block slot) (part s (entry_at b k) 48 ++ padded (last_part (parts to))) ≡ move_image s path to
  unfolding move_image renamed
  move-written = rw (M.old, M.here)

  pub move-marked : (m : List ℕ) → marked m (b ∷ block ∷ []) ≡ marked m (move_named s path to)
  unfolding move_named
  move-marked m =
      let x : entry_of is_file s path / 512 ≡ b = rw (← M.old) (omega arith) in
      let y : move_place s path to / 512 ≡ block = rw (← M.here) (omega arith) in
      rw (x, y)

pub length-renamed : (head name : List ℕ) → length head ≡ 48 → length name ≤ 80 → length (head ++ padded name) ≡ 128
length-renamed head name l h = simp (length-append, length-zeros) (omega arith)
