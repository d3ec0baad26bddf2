-- THE VISIT WITH MARKS IS THE RULE'S VISIT: the same fault, and where there is none, just the directory blocks met are marked.
use Prim.Native.Nat.{ℕ, zero, suc, ◌+◌, ◌-◌, ◌*◌, ◌≤◌, ◌<◌}
use mathlib.Core.Bool.{Bool, true, false, not, cond, ◌&&◌, false≢true, and-true}
use mathlib.Core.List.{List, [], ◌∷◌, ◌++◌}
use mathlib.Core.Path.{◌≡◌, refl, sym, ap, ◌∙◌, subst}
use native.Mathlib.Omega.{arith}
use lib.Dec.{eqb, ltb}
use lib.ListN.{length}
use borrow.Author.Tests.{eq-eqb, ne_eqb, eqb-true, lt-ltb}
use Rattle.layout.specs.Limits.{max_levels, max_directory}
use Rattle.layout.specs.Lists.{within, interval, every, has, distinct, same}
use Rattle.layout.specs.Bytes.{part, zeros}
use Rattle.layout.specs.Geometry.{block_count, root_block}
use Rattle.layout.specs.Table.{next, chain, chain_ok}
use Rattle.layout.specs.Directory.{slot_at, type_of, self_of, parent_of, first_block, blocks_of, is_directory, directory}
use Rattle.layout.specs.Check.{directory_ok, child_ok, slot_ok, new_name, Visit, fault4, fault5, met, needs, and_then, visit_slots, visit_entries, visit_child, visit_root, fault_of}
use Rattle.layout.specs.Walks.Chains.{Walk, walked, follow}
use Rattle.layout.specs.Walks.Entries.{self_ok}
use Rattle.layout.specs.Walks.Shapes.{Shape}
use Rattle.layout.specs.Walks.Stages.{follow_directory, child_entry, follow_child, Seen, visited, walk_entry, walk_slots, walk_entries, walk_child, walk_root}
use Rattle.layout.proofs.Laws.Bytes.{length-zeros}
use Rattle.layout.proofs.Laws.Lists.{distinct-right}
use Rattle.layout.proofs.Laws.Tests.{and_split, and-join, eqb-self}
use Rattle.layout.proofs.Laws.Visits.{apart-join, apart-split, met-same, directory_ok-distinct}
use Rattle.layout.proofs.Laws.Trees.{directory_ok-split, length-directory}
use Rattle.layout.proofs.Walks.Marks.{Marked, marked-zeros, Tied, follow-tied}
use Rattle.layout.proofs.Walks.Shapes.{shape-block_count}

-- two tests that hold alike
pub both_ways : (a b : Bool) → (a ≡ true → b ≡ true) → (b ≡ true → a ≡ true) → a ≡ b
both_ways true true f g = refl
both_ways true false f g = sym (f refl)
both_ways false true f g = g refl
both_ways false false f g = refl

-- blocks met after others
apart-same : (bs ds : List ℕ) → distinct eqb bs ≡ true → distinct eqb (bs ++ ds) ≡ distinct eqb ds && every (λ x. not (has eqb x bs)) ds
apart-same bs ds d =
    both_ways (distinct eqb (bs ++ ds)) (distinct eqb ds && every (λ x. not (has eqb x bs)) ds)
    (λ e. and-join (distinct-right eqb eqb-true eqb-self bs ds e) (apart-split bs ds e))
    (λ e. let w = and_split (distinct eqb ds) (every (λ x. not (has eqb x bs)) ds) e in apart-join bs ds d w.0 w.1)

self-first : (a b c w x y z : Bool) → (a && (b && (c && w))) && (x && (y && z)) ≡ (a && (b && (c && (w && (x && y))))) && z
self-first true true true true true y z = refl
self-first true true true true false y z = refl
self-first true true true false x y z = refl
self-first true true false w x y z = refl
self-first true false c w x y z = refl
self-first false b c w x y z = refl

cond-ok : (t : Bool) (w : Walk) (m : List ℕ) → (cond t w (walked false m)).ok ≡ t && w.ok
cond-ok true w m = refl
cond-ok false w m = refl

cond-marks : (t : Bool) (w : Walk) (m os : List ℕ) → (w.ok ≡ true → Marked w.marks os) → (cond t w (walked false m)).ok ≡ true → Marked (cond t w (walked false m)).marks os
cond-marks true w m os f e = f e
cond-marks false w m os f e = absurd (false≢true e)

cond-sized : (t : Bool) (w : Walk) (m : List ℕ) (k : ℕ) → length w.marks ≡ k → length m ≡ k → length (cond t w (walked false m)).marks ≡ k
cond-sized true w m k e f = e
cond-sized false w m k e f = f

-- STAGE 4 of a directory and of a child, after the blocks bs
module _ (s : List ℕ) (n : ℕ) (m bs : List ℕ) (room : n ≤ length m) (g : Marked m bs) (once : distinct eqb bs ≡ true) where
  abbrev apart : ℕ → Bool
  apart b = every (λ x. not (has eqb x bs)) (directory s b)

  pub directory-tied : (b parent : ℕ) → Tied (follow_directory s n b parent m) (directory_ok s n b parent && apart b) (bs ++ directory s b) (length m)
  unfolding follow_directory directory_ok self_ok directory
  directory-tied b parent =
      let d : ℕ = blocks_of s (512 * b) in
      let ds : List ℕ = chain (next s) b d in
      let w = follow-tied (next s) n d b m bs room g once in
      let self : Bool = self_ok s (512 * b) b parent in
      record {
        ok = cond-ok self (follow (next s) n d b m) m ∙ ap (λ (t : Bool). self && t) (w.ok ∙ ap (λ (t : Bool). chain_ok (next s) n b d && t) (apart-same bs ds once))
            ∙ self-first (eqb (type_of s (512 * b)) 1) (eqb (self_of s (512 * b)) b) (eqb (parent_of s (512 * b)) parent) (within 1 max_directory d)
            (chain_ok (next s) n b d) (distinct eqb ds) (every (λ x. not (has eqb x bs)) ds);
        marks = cond-marks self (follow (next s) n d b m) m (bs ++ ds) w.marks;
        sized = cond-sized self (follow (next s) n d b m) m (length m) w.sized refl;
      }

  right-below : (b parent : ℕ) → directory_ok s n b parent ≡ true → b < n
  right-below b parent e = let D = directory_ok-split s n b parent e in D.chained.below 0 D.d-least

  child-same : (parent e : ℕ) → child_entry s n e && (directory_ok s n (first_block s e) parent && apart (first_block s e)) ≡ child_ok s n parent e && apart (first_block s e)
  unfolding child_entry child_ok
  child-same parent e =
      let b : ℕ = first_block s e in
      let ok : Bool = directory_ok s n b parent in
      let alike : Bool = eqb (blocks_of s (512 * b)) (blocks_of s e) && same (part s (512 * b + 48) 80) (part s (e + 48) 80) in
      both_ways ((ltb b n && alike) && (ok && apart b)) ((ok && alike) && apart b)
      (λ h. let u = and_split (ltb b n && alike) _ h in let v = and_split ok _ u.1 in and-join (and-join v.0 (and_split (ltb b n) _ u.0).1) v.1)
      (λ h. let u = and_split (ok && alike) _ h in let v = and_split ok _ u.0 in
      and-join (and-join (lt-ltb b n (right-below b parent v.0)) v.1) (and-join v.0 u.1))

  pub child-tied : (parent e : ℕ) → Tied (follow_child s n parent e m) (child_ok s n parent e && apart (first_block s e)) (bs ++ directory s (first_block s e)) (length m)
  unfolding follow_child
  child-tied parent e =
      let b : ℕ = first_block s e in
      let w = directory-tied b parent in
      let t : Bool = child_entry s n e in
      let f : Walk = follow_directory s n b parent m in
      record {
        ok = cond-ok t f m ∙ ap (λ (x : Bool). t && x) w.ok ∙ child-same parent e;
        marks = cond-marks t f m (bs ++ directory s b) w.marks;
        sized = cond-sized t f m (length m) w.sized refl;
      }

-- A VISIT: the fault that it gives, and the marks
pub record Ties (w : Seen) (v : Visit) (size : ℕ) : Type 0 where
  pub why : w.why ≡ fault_of v
  pub marks : (r : List ℕ) → v ≡ met r → Marked w.marks r
  pub once : (r : List ℕ) → v ≡ met r → distinct eqb r ≡ true
  pub sized : length w.marks ≡ size

no-met4 : (r : List ℕ) → fault4 ≡ met r → ⊥
no-met4 r e = let z : ◌≡◌ {A = ℕ} 0 1 = cc in omega arith

no-met5 : (r : List ℕ) → fault5 ≡ met r → ⊥
no-met5 r e = let z : ◌≡◌ {A = ℕ} 0 1 = cc in omega arith

module _ (size : ℕ) where
  four : (m : List ℕ) → length m ≡ size → Ties (visited 4 m) fault4 size
  four m l = record { why = refl; marks = λ r e. absurd (no-met4 r e); once = λ r e. absurd (no-met4 r e); sized = l }

  five : (m : List ℕ) → length m ≡ size → Ties (visited 5 m) fault5 size
  five m l = record { why = refl; marks = λ r e. absurd (no-met5 r e); once = λ r e. absurd (no-met5 r e); sized = l }

  none : (m bs : List ℕ) → Marked m bs → distinct eqb bs ≡ true → length m ≡ size → Ties (visited 0 m) (met bs) size
  none m bs g d l =
      record { why = refl; marks = λ r e. subst (Marked m) (met-same bs r e) g; once = λ r e. subst (λ (x : List ℕ). distinct eqb x ≡ true) (met-same bs r e) d; sized = l }

  -- what is known of every visit that follows
  abbrev After : (List ℕ → Seen) → (List ℕ → Visit) → Type 0
  After f g = (m bs : List ℕ) → Marked m bs → distinct eqb bs ≡ true → length m ≡ size → Ties (f m) (g bs) size

  then_tied : (w : Seen) (v : Visit) → Ties w v size → (f : List ℕ → Seen) (g : List ℕ → Visit) → After f g
      → Ties (cond (eqb w.why 0) (f w.marks) w) (and_then v g) size
  then_tied w fault4 t f g h =
      subst (λ (b : Bool). Ties (cond b (f w.marks) w) fault4 size) (sym (ne_eqb w.why 0 (λ z. let q = t.why in omega arith))) t
  then_tied w fault5 t f g h =
      subst (λ (b : Bool). Ties (cond b (f w.marks) w) fault5 size) (sym (ne_eqb w.why 0 (λ z. let q = t.why in omega arith))) t
  then_tied w (met r) t f g h =
      subst (λ (b : Bool). Ties (cond b (f w.marks) w) (g r) size) (sym (eq-eqb w.why 0 t.why)) (h w.marks r (t.marks r refl) (t.once r refl) t.sized)

  -- the slots of a directory
  module _ (down : ℕ → List ℕ → Seen) (child : ℕ → List ℕ → Visit) (law : (e : ℕ) → After (down e) (child e)) (s ds : List ℕ) where
    entry-tied : (e : ℕ) → After (walk_entry down s e) (λ bs. cond (is_directory (type_of s e)) (child e bs) (met bs))
    unfolding walk_entry
    entry-tied e m bs g d l = go (is_directory (type_of s e))
      where
        go : (t : Bool) → Ties (cond t (down e m) (visited 0 m)) (cond t (child e bs) (met bs)) size
        go true = law e m bs g d l
        go false = none m bs g d l

    slots-tied : (j k : ℕ) → After (walk_slots down s ds k j) (visit_slots child s ds (interval k j))
    unfolding walk_slots visit_slots
    slots-tied zero k m bs g d l = none m bs g d l
    slots-tied (suc j) k m bs g d l = go (slot_ok s (slot_at ds k) && new_name s ds k) (slots-tied j (k + 1))
      where
        go : (t : Bool) → After (walk_slots down s ds (k + 1) j) (visit_slots child s ds (interval (k + 1) j))
            → Ties (cond t (cond (eqb (walk_entry down s (slot_at ds k) m).why 0) (walk_slots down s ds (k + 1) j (walk_entry down s (slot_at ds k) m).marks) (walk_entry down s (slot_at ds k) m)) (visited 5 m))
            (needs t fault5 (and_then (cond (is_directory (type_of s (slot_at ds k))) (child (slot_at ds k) bs) (met bs)) (visit_slots child s ds (interval (suc k) j)))) size
        go true h =
            let e : k + 1 ≡ suc k = omega arith in
            then_tied (walk_entry down s (slot_at ds k) m) (cond (is_directory (type_of s (slot_at ds k))) (child (slot_at ds k) bs) (met bs)) (entry-tied (slot_at ds k) m bs g d l)
            (walk_slots down s ds (k + 1) j) (visit_slots child s ds (interval (suc k) j))
            (subst (λ (x : ℕ). After (walk_slots down s ds (k + 1) j) (visit_slots child s ds (interval x j))) e h)
        go false h = five m l

    entries-tied : (d : ℕ) → length ds ≡ d → After (walk_entries down s ds d) (visit_entries child s ds)
    unfolding walk_entries visit_entries
    entries-tied d size_is m bs g u l = rw size_is (go (eqb (type_of s (slot_at ds (4 * d - 1))) 0xFF))
      where
        go : (t : Bool) → Ties (cond t (walk_slots down s ds 1 (4 * d - 2) m) (visited 5 m)) (needs t fault5 (visit_slots child s ds (interval 1 (4 * d - 2)) bs)) size
        go true = slots-tied (4 * d - 2) 1 m bs g u l
        go false = five m l

  -- a directory whose stage 4 is that of a walk, and all below it
  staged : (w : Walk) (good : Bool) (os : List ℕ) → Tied w good os size → (good ≡ true → distinct eqb os ≡ true) → (f : List ℕ → Seen) (g : List ℕ → Visit) → After f g
      → Ties (cond w.ok (f w.marks) (visited 4 w.marks)) (needs good fault4 (g os)) size
  staged w good os t d f g h = go w.ok good refl t.ok
    where
      go : (a b : Bool) → w.ok ≡ a → w.ok ≡ good → Ties (cond a (f w.marks) (visited 4 w.marks)) (needs good fault4 (g os)) size
      go true b e q = let z : good ≡ true = sym q ∙ e in rw z (h w.marks os (t.marks e) (d z) t.sized)
      go false b e q = let z : good ≡ false = sym q ∙ e in rw z (four w.marks t.sized)

  module _ (s : List ℕ) (n : ℕ) (room : n ≤ size) where
    child-apart : (bs : List ℕ) → distinct eqb bs ≡ true → (parent e : ℕ) → (child_ok s n parent e && every (λ x. not (has eqb x bs)) (directory s (first_block s e))) ≡ true → distinct eqb (bs ++ directory s (first_block s e)) ≡ true
    unfolding child_ok directory_ok
    child-apart bs d parent e h =
        let u = and_split (child_ok s n parent e) _ h in
        let b : ℕ = first_block s e in
        let a = and_split (directory_ok s n b parent) _ u.0 in
        apart-join bs (directory s b) d (directory_ok-distinct s n b parent a.0) u.1

    children-tied : (left parent e : ℕ) → After (walk_child left s n parent e) (visit_child left s n parent e)
    unfolding walk_child visit_child
    children-tied zero parent e m bs g d l = four m l
    children-tied (suc left) parent e m bs g d l =
        let b : ℕ = first_block s e in
        staged (follow_child s n parent e m) (child_ok s n parent e && every (λ x. not (has eqb x bs)) (directory s b)) (bs ++ directory s b)
        (rw l at (child-tied s n m bs (omega arith) g d parent e)) (child-apart bs d parent e)
        (walk_entries (walk_child left s n b) s (directory s b) (blocks_of s (512 * b))) (visit_entries (visit_child left s n b) s (directory s b))
        (entries-tied (walk_child left s n b) (visit_child left s n b) (children-tied left b) s (directory s b) (blocks_of s (512 * b)) (length-directory s b))

-- none was met before
every-none : (ds : List ℕ) → every (λ x. not (has eqb x [])) ds ≡ true
every-none [] = refl
every-none (x ∷ xs) = every-none xs

-- THE LAW
module _ (s : List ℕ) (n : ℕ) (shape : Shape s n) (size : ℕ) (room : n ≤ size) where
  pub visit-tied : Ties (walk_root s n (zeros size)) (visit_root s) size
  unfolding walk_root visit_root
  visit-tied =
      let m : List ℕ = zeros size in
      let l : length m ≡ size = length-zeros size in
      let z : block_count s ≡ n = shape-block_count s n shape in
      let b : ℕ = root_block n in
      let ds : List ℕ = directory s b in
      let w = directory-tied s n m [] (omega arith) fresh refl b b in
      let good : directory_ok s n b b && every (λ x. not (has eqb x [])) ds ≡ directory_ok s n b b = rw (every-none ds) (and-true (directory_ok s n b b)) in
      rw z (staged size (follow_directory s n b b m) (directory_ok s n b b) ds (rw (good, l) at w) (directory_ok-distinct s n b b)
      (walk_entries (walk_child max_levels s n b) s ds (blocks_of s (512 * b))) (visit_entries (visit_child max_levels s n b) s ds)
      (entries-tied size (walk_child max_levels s n b) (visit_child max_levels s n b) (children-tied size s n room max_levels b) s ds (blocks_of s (512 * b)) (length-directory s b)))
    where
      fresh : Marked (zeros size) []
      fresh = marked-zeros size
