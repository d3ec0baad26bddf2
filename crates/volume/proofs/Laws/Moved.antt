-- Move, by the paths: what an accepted one has. The slot that it goes to is the lowest free one of the image without the file, which a delete leaves.
use Prim.Native.Nat.{ℕ, ◌+◌, ◌-◌, ◌*◌, ◌≤◌, ◌<◌}
use mathlib.Core.Path.{◌≡◌, refl, sym, ap, ◌∙◌, subst}
use mathlib.Core.Bool.{Bool, true, false, not, ◌&&◌, ◌||◌, or-true}
use mathlib.Core.List.{List}
use mathlib.Core.Logic.{◌⊎◌, inl, inr, ⊎_elim, ◌≢◌}
use native.Mathlib.Decide.{ℕ_discrete}
use native.Mathlib.Omega.{arith}
use borrow.Author.Tests.{ne_eqb, eqb-true, eqb-false, not-true}
use lib.ListN.{length, get_or}
use lib.Dec.{eqb}
use Rattle.layout.specs.Limits.{max_levels}
use Rattle.layout.specs.Lists.{same}
use Rattle.layout.specs.Bytes.{be32, block, splice, zeros}
use Rattle.layout.specs.Geometry.{block_count, table_blocks}
use Rattle.layout.specs.Table.{next}
use Rattle.layout.specs.Directory.{slot_at, slots, type_of, is_free, is_used, is_file, is_directory, name_of, good_name, directory, dirs, free_slot, slot_of}
use Rattle.layout.specs.Check.{check}
use Rattle.layout.specs.Paths.{parts, path_ok, leading, last_part, shallow, home, path_slot, entry_of, file_refusal}
use Rattle.volume.specs.Create.{place_refusal}
use Rattle.volume.specs.Delete.{delete_at}
use Rattle.volume.specs.Move.{open_slot, move_slot, move_place, move_refusal, renamed, move_image, move_named}
use Rattle.volume.specs.Views.{file_of}
use Rattle.volume.proofs.Laws.Places.{At, file-at-path, path-name, place-home, place-free, place-new}
use Rattle.volume.proofs.Laws.Unchanged.{Bounded}
use Rattle.volume.proofs.Laws.Delete.{deleted-sound, deleted-slot, deleted-type}
use Rattle.volume.proofs.Laws.Move.{moved_length, moved-next, moved-used, moved-agree, moved-file, moved-no-dir, moved-name, moved-slot, moved-sound, moved-values, moved-block, moved_view}
use Rattle.layout.proofs.Laws.Tests.{and_split, require-zero, is_false, eqb-self}
use Rattle.layout.proofs.Laws.Lists.{In}
use Rattle.layout.proofs.Laws.Joins.{select-agree}
use Rattle.layout.proofs.Laws.Names.{same-eq}
use Rattle.layout.proofs.Laws.Trees.{size_at}
use Rattle.layout.proofs.Laws.Sound.{Sound, Entry, Owner, sound, check-zero}
use Rattle.layout.proofs.Laws.Slots.{in-slots, slot-entry}
use Rattle.layout.proofs.Laws.Files.{entry-slot}
use Rattle.layout.proofs.Laws.Paths.{Named, slot-unnamed, path-named, home-in-tree}
use Rattle.layout.proofs.Laws.Changed.{OneSlot, blocks-stay, size-stays}
use Rattle.layout.proofs.Laws.Owners.{blocks_at, file-no-dir, file-used-type}
use Rattle.layout.proofs.Laws.Others.{other-type, home_same, path-same}

pub record MoveGiven (s path to : List ℕ) : Type 0 where
  pub from : file_refusal s path ≡ 0
  pub good : path_ok to ≡ true
  pub short : shallow (leading (parts to)) ≡ true
  pub there : home s to ≢ 0
  pub none : path_slot is_used s to ≡ 0
  pub some : move_slot s path to ≢ 0

pub move-given : (s path to : List ℕ) → move_refusal s path to ≡ 0 → MoveGiven s path to
unfolding move_refusal file_refusal
move-given s path to r =
    let a = require-zero (path_ok path && path_ok to) 8 _ r in
    let b = and_split (path_ok path) (path_ok to) a.0 in
    let c = require-zero (shallow (leading (parts path)) && shallow (leading (parts to))) 16 _ a.1 in
    let d = and_split (shallow (leading (parts path))) (shallow (leading (parts to))) c.0 in
    let f = require-zero (not (eqb (path_slot is_file s path) 0) && not (eqb (home s to) 0)) 9 _ c.1 in
    let g = and_split (not (eqb (path_slot is_file s path) 0)) (not (eqb (home s to) 0)) f.0 in
    let h = require-zero (eqb (path_slot is_used s to) 0) 10 _ f.1 in
    let i = require-zero (not (eqb (move_slot s path to) 0)) 12 _ h.1 in
    record {
      from = rw (b.0, d.0, g.0);
      good = b.1;
      short = d.1;
      there = eqb-false _ _ (not-true _ g.1);
      none = eqb-true _ _ h.0;
      some = eqb-false _ _ (not-true _ i.0);
    }

-- nothing is at `to`, of any type that is not 0
module _ (s path to : List ℕ) (G : MoveGiven s path to) where
  pub unnamed : slot_of is_used s (directory s (home s to)) (last_part (parts to)) ≡ 0
  unfolding path_slot
  unnamed = rw (ne_eqb (home s to) 0 G.there) at G.none

  pub move-vacant : (type : ℕ → Bool) → ((x : ℕ) → type x ≡ true → x ≢ 0) → path_slot type s to ≡ 0
  move-vacant type used = go (ℕ_discrete (path_slot type s to) 0)
    where
      go : Dec (path_slot type s to ≡ 0) → path_slot type s to ≡ 0
      go (yes z) = z
      go (no ne) =
          let M = path-named type s to ne in
          absurd (slot-unnamed is_used s (home s to) (last_part (parts to)) unnamed (path_slot type s to)
          (record { low = M.low; high = M.high; typed = rw (ne_eqb (type_of s (slot_at (directory s (home s to)) (path_slot type s to))) 0 (used _ M.typed)); named = M.named }))

-- the image without the file, and where the entry comes to in it
abbrev pub without : List ℕ → List ℕ → List ℕ
without s path = delete_at s (entry_of is_file s path)

abbrev pub slot_on : List ℕ → List ℕ → ℕ
slot_on t to = free_slot t (directory t (home t to))

abbrev pub entry_on : List ℕ → List ℕ → ℕ
entry_on t to = slot_at (directory t (home t to)) (free_slot t (directory t (home t to)))

pub record Arrival (s path to s' : List ℕ) : Type 0 where
  pub rest : Sound (without s path)
  pub there : home (without s path) to ≢ 0
  pub inside : In (home (without s path) to, max_levels - length (leading (parts to))) (dirs (without s path))
  pub k₁ : 1 ≤ slot_on (without s path) to
  pub k₂ : slot_on (without s path) to < 4 * size_at (without s path) (home (without s path) to) - 1
  pub only : OneSlot (without s path) (dirs (without s path)) s' (entry_on (without s path) to)
  pub was : type_of (without s path) (entry_on (without s path) to) ≡ 0
  pub now : is_directory (type_of s' (entry_on (without s path) to)) ≡ false
  pub file : is_file (type_of s' (entry_on (without s path) to)) ≡ true
  pub called : name_of s' (entry_on (without s path) to) ≡ last_part (parts to)
  pub values : (a : ℕ) → Owner (without s path) a → a ≢ entry_on (without s path) to → a ≢ entry_on (without s path) to + 28
      → ((x : ℕ × ℕ) → In x (dirs (without s path)) → a ≢ 512 * x.0) → (q : ℕ) → In q (blocks_at (without s path) a) → next s' q ≡ next (without s path) q
  pub stuff : (a : ℕ) → Owner (without s path) a → a ≢ entry_on (without s path) to → a ≢ entry_on (without s path) to + 28
      → ((x : ℕ × ℕ) → In x (dirs (without s path)) → a ≢ 512 * x.0) → (q : ℕ) → In q (blocks_at (without s path) a) → block s' q ≡ block (without s path) q
  pub view : file_of s' (entry_on (without s path) to) ≡ file_of s (entry_of is_file s path)
  pub slot_is : slot_on (without s path) to ≡ move_slot s path to

-- what is free, or not, or at `own`
or-none : (b : Bool) → (b || false) ≡ b
or-none true = refl
or-none false = refl

module _ (s path to : List ℕ) (ok : check s ≡ 0) (G : MoveGiven s path to) where
  T : Sound s
  T = sound s ok

  abbrev A : At is_file s path
  A = file-at-path s path G.from

  abbrev k : ℕ
  k = path_slot is_file s path

  abbrev d : ℕ × ℕ
  d = (home s path, A.level)

  abbrev e : ℕ
  e = slot_at (directory s (home s path)) k

  abbrev last : List ℕ
  last = last_part (parts to)

  N : Named is_file s (home s path) (last_part (parts path)) k
  N = A.named

  -- the image without the file
  abbrev s₁ : List ℕ
  s₁ = delete_at s e

  pub without-sound : Sound (delete_at s (slot_at (directory s (home s path)) (path_slot is_file s path)))
  without-sound = deleted-sound s T d A.home-in k N.low N.high N.typed

  O : OneSlot s (dirs s) s₁ e
  O = deleted-slot s T d A.home-in k N.low N.high N.typed

  was : is_directory (type_of s e) ≡ false
  was = file-no-dir (type_of s e) N.typed

  gone : type_of s₁ e ≡ 0
  gone = deleted-type s T d A.home-in k N.low N.high N.typed

  now : is_directory (type_of s₁ e) ≡ false
  now = rw gone

  pub home-is : home s₁ to ≡ home s to
  home-is = home_same s s₁ T d A.home-in k N.low N.high O was now to G.short

  abbrev h : ℕ × ℕ
  h = (home s to, max_levels - length (leading (parts to)))

  home-in : In h (dirs s)
  home-in = home-in-tree s to G.short G.there

  abbrev ds : List ℕ
  ds = directory s (home s to)

  blocks-are : directory s₁ (home s to) ≡ directory s (home s to)
  blocks-are = blocks-stay s s₁ T (dirs s) (λ x i. i) d A.home-in k N.low N.high O h home-in

  -- its lowest free slot is the one that the move takes
  free-is : free_slot s₁ (directory s₁ (home s₁ to)) ≡ move_slot s path to
  unfolding free_slot move_slot open_slot entry_of
  free-is =
      rw (home-is, blocks-are) (sym (ap (λ (l : List ℕ). get_or l 0 0) (select-agree (λ x. is_free (type_of s₁ (slot_at ds x))) (λ x. is_free (type_of s (slot_at ds x)) || eqb (slot_at ds x) e) (slots ds)
      (λ x m. let w = in-slots s (home s to) x m in at x (omega arith) (ℕ_discrete (slot_at ds x) e)))))
    where
      at : (x : ℕ) → x < 4 * size_at s (home s to) → Dec (slot_at ds x ≡ e) → (is_free (type_of s (slot_at ds x)) || eqb (slot_at ds x) e) ≡ is_free (type_of s₁ (slot_at ds x))
      at x l (yes q) = rw (q, eqb-self e, gone) (or-true (is_free (type_of s e)))
      at x l (no ne) =
          rw (ne_eqb (slot_at ds x) e ne, other-type s s₁ T d A.home-in k N.low N.high O (slot_at ds x) (slot-entry s T h home-in x l) ne)
          (or-none (is_free (type_of s (slot_at ds x))))

  none_is : path_slot is_used s₁ to ≡ 0
  none_is = path-same s s₁ T d A.home-in k N.low N.high O was now to G.short is_used (aside (ℕ_discrete (home s to) (home s path))) ∙ G.none
    where
      aside : Dec (home s to ≡ home s path) → (home s to ≢ home s path) ⊎ ((is_used (type_of s₁ e) && same (name_of s₁ e) last) ≡ (is_used (type_of s e) && same (name_of s e) last))
      aside (no ne) = inl ne
      aside (yes q) =
          inr (rw gone (sym (is_false _ (λ y. let z = and_split (is_used (type_of s e)) _ y in
          slot-unnamed is_used s (home s to) last (unnamed s path to G) k (subst (λ (b : ℕ). Named is_used s b last k) (sym q) (record { low = N.low; high = N.high; typed = z.0; named = same-eq _ _ z.1 }))))))

  -- so a file may be created there
  pub placed : place_refusal s₁ to ≡ 0
  unfolding place_refusal
  placed =
      let some : free_slot s₁ (directory s₁ (home s₁ to)) ≢ 0 = λ z. G.some (sym free-is ∙ z) in
      let there : home s₁ to ≢ 0 = λ z. G.there (sym home-is ∙ z) in
      rw (ne_eqb (home s₁ to) 0 there, none_is, ne_eqb (free_slot s₁ (directory s₁ (home s₁ to))) 0 some)

  -- the paths differ
  pub paths-apart : path ≢ to
  paths-apart q =
      let y : slot_of is_used s (directory s (home s path)) (last_part (parts path)) ≡ 0 = subst (λ (p : List ℕ). slot_of is_used s (directory s (home s p)) (last_part (parts p)) ≡ 0) (sym q) (unnamed s path to G) in
      slot-unnamed is_used s (home s path) (last_part (parts path)) y k
      (record { low = N.low; high = N.high; typed = rw (ne_eqb (type_of s e) 0 (file-used-type (type_of s e) N.typed)); named = N.named })

  -- THE PLACE
  abbrev j : ℕ
  j = free_slot s₁ (directory s₁ (home s₁ to))

  pub place_at : move_place s path to ≡ slot_at (directory s₁ (home s₁ to)) (free_slot s₁ (directory s₁ (home s₁ to)))
  unfolding move_place
  place_at = rw (free-is, home-is, blocks-are)

  abbrev c : ℕ × ℕ
  c = (home s₁ to, max_levels - length (leading (parts to)))

  pub place_in : In (home (delete_at s e) to, max_levels - length (leading (parts to))) (dirs (delete_at s e))
  place_in = place-home s₁ to placed G.short

  w : (1 ≤ j) × (j < 4 * size_at s₁ (home s₁ to) - 1) × (type_of s₁ (slot_at (directory s₁ (home s₁ to)) j) ≡ 0)
  w = place-free s₁ to placed

  name-good : good_name last ≡ true
  name-good = path-name to G.good

  pub move-is : move_image s path to ≡ splice (splice s (slot_at (directory s (home s path)) (path_slot is_file s path)) (zeros 128)) (slot_at (directory s₁ (home s₁ to)) (free_slot s₁ (directory s₁ (home s₁ to)))) (renamed s (slot_at (directory s (home s path)) (path_slot is_file s path)) (last_part (parts to)))
  unfolding move_image entry_of
  move-is = rw place_at

  new : (x : ℕ) → 1 ≤ x → x < 4 * size_at s₁ (home s₁ to) - 1 → type_of s₁ (slot_at (directory s₁ (home s₁ to)) x) ≢ 0 → last ≢ name_of s₁ (slot_at (directory s₁ (home s₁ to)) x)
  new = place-new s₁ to placed

  pub move-sound : Sound (move_image s path to)
  move-sound = rw move-is (moved-sound s T d A.home-in k N.low N.high N.typed c place_in j w.0 w.1 w.2 last name-good new)

  pub move-length : length (move_image s path to) ≡ length s
  move-length = rw move-is (moved_length s T d A.home-in k N.low N.high N.typed c place_in j w.0 w.1 w.2 last name-good new)

  pub move-next : (x : ℕ) → x < 128 * table_blocks (block_count s) → next (move_image s path to) x ≡ next s x
  move-next = rw move-is (moved-next s T d A.home-in k N.low N.high N.typed c place_in j w.0 w.1 w.2 last name-good new)

  pub move-used : be32 (move_image s path to) 20 ≡ be32 s 20
  move-used = rw move-is (moved-used s T d A.home-in k N.low N.high N.typed c place_in j w.0 w.1 w.2 last name-good new)

  -- the two slots stand in directory blocks, and no other block is written
  pub old-entry : Entry s (entry_of is_file s path)
  unfolding entry_of
  old-entry = let l = N.high in slot-entry s T d A.home-in k (omega arith)

  pub new-entry : Entry s (move_place s path to)
  unfolding move_place
  new-entry =
      let l = w.1 in
      let z = size-stays s s₁ T (dirs s) (λ x i. i) d A.home-in k N.low N.high O h home-in in
      let y : size_at s₁ (home s₁ to) ≡ size_at s₁ (home s to) = ap (size_at s₁) home-is in
      rw (← free-is) (slot-entry s T h home-in j (omega arith))

  pub move-bounded : Bounded s (move_image s path to) (move_named s path to)
  unfolding move_named
  move-bounded =
      record {
        agree = rw (move-is, place_at) (unfold entry_of in moved-agree s T d A.home-in k N.low N.high N.typed c place_in j w.0 w.1 w.2 last name-good new);
        inside = λ b i. ⊎_elim (λ q. rw q (entry-slot s T (entry_of is_file s path) old-entry).inside)
            (λ r. ⊎_elim (λ q. rw q (entry-slot s T (move_place s path to) new-entry).inside) (λ x. absurd x) r) i;
      }

  -- WHAT COMES to the image without the file: one entry, in the slot that is the lowest free one there
  pub arrival : Arrival s path to (move_image s path to)
  unfolding entry_of
  arrival =
      subst (Arrival s path to) (sym move-is) (record {
        rest = without-sound;
        there = λ z. G.there (sym home-is ∙ z);
        inside = place_in;
        k₁ = w.0;
        k₂ = w.1;
        only = moved-slot s T d A.home-in k N.low N.high N.typed c place_in j w.0 w.1 w.2 last name-good new;
        was = w.2;
        now = moved-no-dir s T d A.home-in k N.low N.high N.typed c place_in j w.0 w.1 w.2 last name-good new;
        file = moved-file s T d A.home-in k N.low N.high N.typed c place_in j w.0 w.1 w.2 last name-good new;
        called = moved-name s T d A.home-in k N.low N.high N.typed c place_in j w.0 w.1 w.2 last name-good new;
        values = moved-values s T d A.home-in k N.low N.high N.typed c place_in j w.0 w.1 w.2 last name-good new;
        stuff = moved-block s T d A.home-in k N.low N.high N.typed c place_in j w.0 w.1 w.2 last name-good new;
        view = moved_view s T d A.home-in k N.low N.high N.typed c place_in j w.0 w.1 w.2 last name-good new;
        slot_is = free-is;
      })

pub kept_move : (s path to : List ℕ) → check s ≡ 0 → move_refusal s path to ≡ 0 → check (move_image s path to) ≡ 0
kept_move s path to ok r = check-zero _ (move-sound s path to ok (move-given s path to r))
