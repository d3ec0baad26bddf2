-- The form of a file by what stands in a room: what parse, load and find give.
use Prim.Native.Nat.{ℕ, ◌+◌, ◌-◌, ◌*◌, ◌≤◌, ◌<◌, min}
use mathlib.Core.Path.{◌≡◌, refl, sym, ap, ◌∙◌}
use mathlib.Core.Bool.{Bool, true, false, ◌&&◌, cond}
use mathlib.Core.List.{List, [], ◌++◌}
use mathlib.Core.Logic.{⊎_elim}
use native.Mathlib.Omega.{arith}
use borrow.Author.Tests.{eqb-true, eq-eqb, leb-true, le-leb, leb-false}
use lib.ListN.{length, get_or, take, drop}
use lib.Dec.{eqb, leb}
use lib.Seq.{get_or-take, length-take-le, take-add, drop_at}
use Rattle.layout.specs.Lists.{within, every}
use Rattle.layout.specs.Bytes.{be32, part}
use Rattle.layout.specs.Walks.Entries.{all_zero}
use Rattle.layout.specs.Walks.Shapes.{ChainBelow}
use Rattle.layout.proofs.Laws.Bytes.{length_part, part-part, part_same, be32-same, length-splice, get_d-splice-inside, lent}
use Rattle.layout.proofs.Laws.Tests.{and_split, true-not-false, lt-or-ge, within-split, within-join}
use Rattle.layout.proofs.Walks.Content.{chain_bytes, length-chain_bytes, below-nth}
use Rattle.store.specs.Settings.{max_revisions, Found, broken, held, records_in, numbered, revisions, latest}
use Rattle.std.specs.Prelude.{Option, None, Some, MatchOption, IsSome}
use Rattle.std.proofs.Common.{rules}
use Rattle.store.specs.declared.form.Form.{Form}
use Rattle.store.specs.Walks.Loads.{Loaded}
use Rattle.store.specs.Walks.Forms.{max_form, bytes_of, held_by, in_room, form_in, Counted, Summary, Parsed, Placed}
use Rattle.store.proofs.Laws.Added.{not-broken}
use Rattle.store.proofs.Walks.Records.{records-most}
use Rattle.layout.proofs.Walks.Names.{all_zero-every}

pub parsed-wrong : (found : Found) (room : List ℕ) (ok : Bool) (used count last oldest : ℕ) → ok ≡ false → found ≡ broken → Parsed found room ok used count last oldest
parsed-wrong found room ok used count last oldest e h = record { right = λ t. absurd (true-not-false t e); wrong = λ f. h }

-- the answer of load: what is of the form has one, and that says what was read
pub loaded-some : (found : Found) (room : List ℕ) (answer : Option Form) → Loaded found room answer → (found ≡ broken → ⊥) → IsSome answer
loaded-some found room None h n = absurd (n h)
loaded-some found room (Some f) h n = search rules

pub loaded-form : (found : Found) (room : List ℕ) (answer : Option Form) (f : Form) → answer ≡ Some f → Loaded found room answer → Parsed found room true f.used f.count f.last f.oldest
loaded-form found room answer f e h = rw e at h

-- before the first revision
pub none_in : (room : List ℕ) → in_room room 5 ≡ []
unfolding held_by records_in
none_in room = refl

pub summary-none : (room : List ℕ) → Summary room 5 0 0 0
unfolding held_by records_in latest
summary-none room =
    record { low = omega arith; high = omega arith; read = refl; many = refl; latest-is = refl; oldest-is = refl }

-- what parse gives: each refused exit, and the form
module _ (room : List ℕ) (size : ℕ) where
  abbrev sized : Bool
  sized = eqb (get_or room 0 0) 1 && (within 5 size (be32 room 1) && leb (be32 room 1) max_form)

  pub form-bad : (used : ℕ) → used ≡ be32 room 1 → (get_or room 0 0 ≡ 1 → 5 ≤ used → used ≤ size → used ≤ max_form → ⊥) → form_in room size ≡ broken
  unfolding form_in
  form-bad used e h = go sized refl
    where
      go : (t : Bool) → sized ≡ t → form_in room size ≡ broken
      go false q = rw q
      go true q =
          let a = and_split (eqb (get_or room 0 0) 1) _ q in
          let b = and_split (within 5 size (be32 room 1)) _ a.1 in
          let w = within-split 5 size (be32 room 1) b.0 in
          let l = leb-true (be32 room 1) max_form b.1 in
          absurd (h (eqb-true _ _ a.0) (rw e w.0) (rw e w.1) (rw e l))

  module _ (used : ℕ) (e : used ≡ be32 room 1) (v : get_or room 0 0 ≡ 1) (low : 5 ≤ used) (inside : used ≤ size) (high : used ≤ max_form) where
    form-read : form_in room size ≡ numbered (records_in max_revisions (part room 5 (used - 5)))
    unfolding form_in
    form-read = rw (← e, eq-eqb _ _ v, within-join 5 size used low inside, le-leb _ _ high)

    pub parse-right : (ok : Bool) (u count last oldest : ℕ) → length room ≡ max_form → Counted (part room 5 (used - 5)) ok u count last oldest
        → Parsed (form_in room size) room ok u count last oldest × (ok ≡ true → u ≡ be32 room 1)
    parse-right ok u count last oldest long C =
        let l : length (part room 5 (used - 5)) ≡ used - 5 = length_part room 5 (used - 5) (omega arith) in
        let same : ok ≡ true → u ≡ used = λ t. let k = C.used-is t in omega arith in (
          record {
            right = λ t. rw (same t) (form-read ∙ C.right t, record { low = low; high = high; read = C.read t; many = C.many t; latest-is = C.latest-is t; oldest-is = C.oldest-is t });
            wrong = λ f. form-read ∙ C.wrong f;
          },
          λ t. same t ∙ e,
        )

    pub parse-loaded : (answer : Option Form) → MatchOption answer (numbered (records_in max_revisions (part room 5 (used - 5))) ≡ broken) (λ f. Counted (part room 5 (used - 5)) true f.used f.count f.last f.oldest)
        → length room ≡ max_form → Loaded (form_in room size) room answer
    parse-loaded None h long = form-read ∙ h
    parse-loaded (Some f) C long = (parse-right true f.used f.count f.last f.oldest long C).0

-- a place among the records is one in the room
pub find-placed : (room : List ℕ) (used x : ℕ) (found : Bool) (at size : ℕ) → 5 ≤ used → used ≤ length room → Placed (in_room room used) (part room 5 (used - 5)) x found at size
    → Placed (in_room room used) room x found (at + 5) size
find-placed room used x found at size low high P =
    let l : length (part room 5 (used - 5)) ≡ used - 5 = length_part room 5 (used - 5) (omega arith) in
    let i = P.inside in
    let e : at + 5 ≡ 5 + at = omega arith in
    record {
      there = P.there;
      size_is = P.size_is;
      bytes-are = λ t. rw e (sym (part-part room 5 (used - 5) at size (omega arith) (omega arith)) ∙ P.bytes-are t);
      inside = omega arith;
      short = P.short;
    }

-- a room that has the first bytes of a file c
pub record Front (c room : List ℕ) (size : ℕ) : Type 0 where
  pub long : length c ≡ size
  pub room-long : length room ≡ max_form
  pub same : (i : ℕ) → i < size → i < max_form → get_or room i 0 ≡ get_or c i 0

cond_same : (t : Bool) (f : Found) → cond t f f ≡ f
cond_same true f = refl
cond_same false f = refl

module _ (c room : List ℕ) (size : ℕ) (F : Front c room size) where
  abbrev zeroed : Bool
  zeroed = every (λ x. eqb x 0) (drop (be32 room 1) c)

  short-form : size < 5 → revisions c ≡ broken
  unfolding revisions
  short-form h = go (eqb (get_or c 0 0) 1 && (within 5 (length c) (be32 c 1) && every (λ x. eqb x 0) (drop (be32 c 1) c))) refl
    where
      go : (t : Bool) → (eqb (get_or c 0 0) 1 && (within 5 (length c) (be32 c 1) && every (λ x. eqb x 0) (drop (be32 c 1) c))) ≡ t → revisions c ≡ broken
      go false q = rw q
      go true q =
          let a = and_split (eqb (get_or c 0 0) 1) _ q in
          let b = and_split (within 5 (length c) (be32 c 1)) _ a.1 in
          let w = within-split 5 (length c) (be32 c 1) b.0 in
          let l = F.long in
          absurd (few (be32 c 1) w.0 w.1)
        where
          few : (k : ℕ) → 5 ≤ k → k ≤ length c → ⊥
          few k a b = let l = F.long in omega arith

  module _ (some : 5 ≤ size) where
    first-same : get_or c 0 0 ≡ get_or room 0 0
    first-same = sym (F.same 0 (omega arith) (omega arith))

    used-same : be32 c 1 ≡ be32 room 1
    used-same = be32-same room c 1 1 (λ i h. sym (F.same (1 + i) (omega arith) (omega arith)))

    records-same : 5 ≤ be32 room 1 → be32 room 1 ≤ size → be32 room 1 ≤ max_form → part c 5 (be32 room 1 - 5) ≡ part room 5 (be32 room 1 - 5)
    records-same a b d =
        let l = F.long in
        let r = F.room-long in
        part_same room c 5 5 (be32 room 1 - 5) (λ i h. sym (F.same (5 + i) (omega arith) (omega arith))) (omega arith) (omega arith)

    too_long : max_form < be32 room 1 → be32 room 1 ≤ size → records_in max_revisions (part c 5 (be32 room 1 - 5)) ≡ broken
    too_long h b = go (records_in max_revisions (part c 5 (be32 room 1 - 5))) refl
      where
        go : (f : Found) → records_in max_revisions (part c 5 (be32 room 1 - 5)) ≡ f → f ≡ broken
        go broken q = refl
        go (held rs) q =
            let l = F.long in
            let m = records-most max_revisions (part c 5 (be32 room 1 - 5)) rs q in
            let k : length (part c 5 (be32 room 1 - 5)) ≡ be32 room 1 - 5 = length_part c 5 (be32 room 1 - 5) (omega arith) in
            absurd (omega arith)

    by_tests : (v w l : Bool) → eqb (get_or room 0 0) 1 ≡ v → within 5 size (be32 room 1) ≡ w → leb (be32 room 1) max_form ≡ l
        → cond (v && (w && zeroed)) (numbered (records_in max_revisions (part c 5 (be32 room 1 - 5)))) broken
        ≡ cond zeroed (cond (v && (w && l)) (numbered (records_in max_revisions (part room 5 (be32 room 1 - 5)))) broken) broken
    by_tests false w l p q r = sym (cond_same zeroed broken)
    by_tests true false l p q r = sym (cond_same zeroed broken)
    by_tests true true true p q r =
        let b = within-split 5 size (be32 room 1) q in
        ap (λ (xs : List ℕ). cond zeroed (numbered (records_in max_revisions xs)) broken) (records-same b.0 b.1 (leb-true _ _ r))
    by_tests true true false p q r =
        let b = within-split 5 size (be32 room 1) q in
        ap (λ (f : Found). cond zeroed (numbered f) broken) (too_long (leb-false _ _ r) b.1)

  pub front-form : revisions c ≡ cond zeroed (form_in room size) broken
  unfolding revisions form_in
  front-form = ⊎_elim
      (λ h. short-form h ∙ sym (ap (λ (f : Found). cond zeroed f broken) (form-bad room size (be32 room 1) refl (λ v a b d. omega arith)) ∙ cond_same zeroed broken))
      (λ h. whole h)
      (lt-or-ge size 5)
    where
      whole : 5 ≤ size → revisions c ≡ cond zeroed (form_in room size) broken
      whole h = rw (used-same h, first-same h, F.long) (by_tests h (eqb (get_or room 0 0) 1) (within 5 size (be32 room 1)) (leb (be32 room 1) max_form) refl refl refl)

-- the file of a chain, its first bytes read
module _ (img : List ℕ) (n first size blocks : ℕ) (B : ChainBelow img n first blocks) (fit : size ≤ 512 * blocks) where
  abbrev all : List ℕ
  all = chain_bytes img first blocks

  abbrev c : List ℕ
  c = bytes_of img first size blocks

  all-long : length all ≡ 512 * blocks
  all-long = length-chain_bytes img n first blocks B.shape.whole (below-nth img n first blocks B)

  file-long : length c ≡ size
  unfolding bytes_of
  file-long = let a = all-long in length-take-le size all (omega arith)

  pub file-front : (room ys : List ℕ) (m x : ℕ) → m ≡ min max_form size → x ≡ m → length room ≡ max_form → ys ≡ part all 0 (length (part room 0 x))
      → Front c (take 0 room ++ (ys ++ drop x (drop 0 room))) size
  unfolding bytes_of
  file-front room ys m x e f long q =
      let a = all-long in
      let k : length (part room 0 x) ≡ x = length_part room 0 x (omega arith) in
      let g : length (part all 0 x) ≡ x = length_part all 0 x (omega arith) in
      let h : 0 + length (part all 0 x) ≤ length room = omega arith in
      rw (lent room 0 x ys (part all 0 x) (q ∙ ap (part all 0) k) g) (record {
        long = file-long;
        room-long = length-splice room 0 (part all 0 x) h ∙ long;
        same = λ i s t.
            let z : 0 + i ≡ i = omega arith in
            (rw z at (get_d-splice-inside room 0 (part all 0 x) h i (omega arith))) ∙ get_or-take x all i 0 (omega arith) ∙ sym (get_or-take size all i 0 s);
      })

  pub zeros-behind : (used : ℕ) → used ≤ size → all_zero (part all used (size - used)) ≡ every (λ x. eqb x 0) (drop used c)
  unfolding bytes_of
  zeros-behind used h =
      let a = all-long in
      let s : used + (size - used) ≡ size = omega arith in
      let d : drop used (take size all) ≡ part all used (size - used) =
      ap (λ (k : ℕ). drop used (take k all)) (sym s) ∙ ap (drop used) (take-add used (size - used) all)
      ∙ drop_at (take used all) (take (size - used) (drop used all)) used (length-take-le used all (omega arith)) in
      all_zero-every (part all used (size - used)) ∙ ap (every (λ x. eqb x 0)) (sym d)

-- the three exits of load
pub load-wrong : (c room : List ℕ) (size : ℕ) → Front c room size → form_in room size ≡ broken → revisions c ≡ broken
load-wrong c room size F h =
    front-form c room size F ∙ ap (λ (x : Found). cond (every (λ x. eqb x 0) (drop (be32 room 1) c)) x broken) h
    ∙ cond_same (every (λ x. eqb x 0) (drop (be32 room 1) c)) broken

module _ (c room : List ℕ) (size : ℕ) (F : Front c room size) (ok : Bool) (used count last oldest : ℕ)
    (P : Parsed (form_in room size) room ok used count last oldest) (u : ok ≡ true → used ≡ be32 room 1) where
  module _ (t : ok ≡ true) where
    behind : (b : Bool) → every (λ x. eqb x 0) (drop used c) ≡ b → revisions c ≡ cond b (held (in_room room used)) broken
    behind b z =
        front-form c room size F ∙ ap (λ (x : Found). cond (every (λ x. eqb x 0) (drop (be32 room 1) c)) x broken) (P.right t).0
        ∙ ap (λ (k : ℕ). cond (every (λ x. eqb x 0) (drop k c)) (held (in_room room used)) broken) (sym (u t)) ∙ rw z

    pub load_inside : used ≤ size
    load_inside = ⊎_elim (λ h. absurd (in_size h)) (λ h. h) (lt-or-ge size used)
      where
        in_size : size < used → ⊥
        in_size h = not-broken (in_room room used) (sym (form-bad room size used (u t) (λ v a b d. omega arith)) ∙ (P.right t).0)

    pub load_cut : every (λ x. eqb x 0) (drop used c) ≡ false → revisions c ≡ broken
    load_cut z = behind false z

    pub load-right : every (λ x. eqb x 0) (drop used c) ≡ true → Parsed (revisions c) room ok used count last oldest
    load-right z = record { right = λ q. (behind true z, (P.right t).1); wrong = λ f. absurd (true-not-false t f) }
