-- The check's way through the tree, without its order: it meets no fault exactly if every directory of the tree is right by itself and no directory
-- block stands twice among them.
use Prim.Native.Nat.{ℕ, zero, suc, ◌-◌, ◌*◌}
use mathlib.Core.Bool.{Bool, true, false, not, ◌&&◌, cond}
use mathlib.Core.List.{List, [], ◌∷◌, ◌++◌, append_assoc, append-nil}
use mathlib.Core.Logic.{◌⊎◌, inl, inr, ⊎_elim}
use mathlib.Core.Path.{◌≡◌, refl, sym, ap, ◌∙◌, subst}
use native.Mathlib.Omega.{arith}
use lib.Dec.{eqb}
use lib.ListN.{length}
use borrow.Author.Tests.{eq-eqb, eqb-true, not-true}
use Rattle.layout.specs.Lists.{within, every, has, distinct, select, keep, joined}
use Rattle.layout.specs.Limits.{max_levels, max_directory}
use Rattle.layout.specs.Geometry.{block_count}
use Rattle.layout.specs.Table.{next, chain_ok}
use Rattle.layout.specs.Directory.{slot_at, slots, type_of, self_of, parent_of, first_block, blocks_of, is_directory, directory, root_of, children, below, dirs}
use Rattle.layout.specs.Check.{directory_ok, child_ok, slot_ok, new_name, Visit, fault4, fault5, met, needs, and_then, visit_slots, visit_entries, visit_child, visit_root, fault_of}
use Rattle.layout.proofs.Laws.Tests.{and_split, true-not-false, is_false, eqb-self}
use Rattle.layout.proofs.Laws.Lists.{In, every_in, in-every, in-has-eqb, has-eqb-in, distinct-left, distinct_append, distinct_apart}
use Rattle.layout.proofs.Laws.Joins.{in-select, select_has, of_map, to_map, of-join, to-join, join-map, join-join}

-- the directory blocks of the tree, by the directories (each a first block and the levels that may come below)
abbrev pub blocks_in : List ℕ → ℕ × ℕ → List ℕ
blocks_in s d = directory s d.0

-- ONE DIRECTORY, right by itself, and with each of its children as its entry says
pub record Local (s : List ℕ) (n b left : ℕ) : Type 0 where
  pub end-type : type_of s (slot_at (directory s b) (4 * length (directory s b) - 1)) ≡ 255
  pub slot : (k : ℕ) → In k (slots (directory s b)) → slot_ok s (slot_at (directory s b) k) ≡ true
  pub name : (k : ℕ) → In k (slots (directory s b)) → new_name s (directory s b) k ≡ true
  pub child : (e : ℕ) → In e (children s b) → child_ok s n b e ≡ true
  pub deep : left ≡ 0 → children s b ≡ []

-- visits taken apart
no-met4 : (r : List ℕ) → fault4 ≡ met r → ⊥
no-met4 r e = let z : ◌≡◌ {A = ℕ} 0 1 = cc in omega arith

no-met5 : (r : List ℕ) → fault5 ≡ met r → ⊥
no-met5 r e = let z : ◌≡◌ {A = ℕ} 0 1 = cc in omega arith

pub met-same : (a b : List ℕ) → met a ≡ met b → a ≡ b
met-same a b e = cc

needs-met : (b : Bool) (f v : Visit) (r : List ℕ) → (f ≡ met r → ⊥) → needs b f v ≡ met r → (b ≡ true) × (v ≡ met r)
needs-met true f v r no-f e = (refl, e)
needs-met false f v r no-f e = absurd (no-f e)

then-met : (v : Visit) (f : List ℕ → Visit) (r : List ℕ) → and_then v f ≡ met r → (m : List ℕ) × (v ≡ met m) × (f m ≡ met r)
then-met fault4 f r e = absurd (no-met4 r e)
then-met fault5 f r e = absurd (no-met5 r e)
then-met (met m) f r e = (m, refl, e)

-- the slots of a directory ds: what an accepted visit of a child gives (C, and D its blocks), and what is enough for one
module _ (child : ℕ → List ℕ → Visit) (s ds : List ℕ) (C : ℕ → Type 0) (D : ℕ → List ℕ) where
  abbrev dir_at : ℕ → Bool
  dir_at k = is_directory (type_of s (slot_at ds k))

  abbrev gained : List ℕ → List ℕ
  gained ks = joined (λ k. D (slot_at ds k)) (select dir_at ks)

  record Turn (k : ℕ) : Type 0 where
    ok : slot_ok s (slot_at ds k) ≡ true
    name : new_name s ds k ≡ true
    child-ok : dir_at k ≡ true → C (slot_at ds k)

  record Turns (ks bs r : List ℕ) : Type 0 where
    each : (k : ℕ) → In k ks → Turn k
    all : r ≡ bs ++ gained ks
    apart : distinct eqb r ≡ true

  module _ (out : (e : ℕ) (bs r : List ℕ) → distinct eqb bs ≡ true → child e bs ≡ met r → C e × (r ≡ bs ++ D e) × (distinct eqb r ≡ true)) where
    slots-met : (ks bs r : List ℕ) → distinct eqb bs ≡ true → visit_slots child s ds ks bs ≡ met r → Turns ks bs r
    unfolding visit_slots
    slots-met [] bs r d e = let q = met-same bs r e in record { each = λ k i. absurd i; all = sym q ∙ sym (append-nil bs); apart = rw q at d }
    slots-met (k ∷ ks) bs r d e =
        let a = slot_at ds k in
        let w = needs-met (slot_ok s a && new_name s ds k) fault5 _ r (no-met5 r) e in
        let u = and_split (slot_ok s a) (new_name s ds k) w.0 in
        let x = then-met (cond (dir_at k) (child a bs) (met bs)) (visit_slots child s ds ks) r w.1 in
        go (dir_at k) refl u.0 u.1 x.0 x.1 (λ dm. slots-met ks x.0 r dm x.2)
      where
        go : (t : Bool) → dir_at k ≡ t → slot_ok s (slot_at ds k) ≡ true → new_name s ds k ≡ true → (m : List ℕ) → cond t (child (slot_at ds k) bs) (met bs) ≡ met m
            → (distinct eqb m ≡ true → Turns ks m r) → Turns (k ∷ ks) bs r
        go true q o nm m y ih =
            let z = out (slot_at ds k) bs m d y in
            let t = ih z.2 in
            record {
              each = λ j i. ⊎_elim (λ p. subst Turn (sym p) (record { ok = o; name = nm; child-ok = λ c. z.0 })) (λ p. t.each j p) i;
              all = rw q (t.all ∙ ap (λ (l : List ℕ). l ++ gained ks) z.1 ∙ append_assoc bs (D (slot_at ds k)) (gained ks));
              apart = t.apart;
            }
        go false q o nm m y ih =
            let z : bs ≡ m = met-same bs m y in
            let t = ih (rw z at d) in
            record {
              each = λ j i. ⊎_elim (λ p. subst Turn (sym p) (record { ok = o; name = nm; child-ok = λ c. absurd (true-not-false c q) })) (λ p. t.each j p) i;
              all = rw q (t.all ∙ ap (λ (l : List ℕ). l ++ gained ks) (sym z));
              apart = t.apart;
            }

  module _ (enough : (e : ℕ) (bs : List ℕ) → C e → distinct eqb (bs ++ D e) ≡ true → child e bs ≡ met (bs ++ D e)) where
    met-slots : (ks bs : List ℕ) → ((k : ℕ) → In k ks → Turn k) → distinct eqb (bs ++ gained ks) ≡ true → visit_slots child s ds ks bs ≡ met (bs ++ gained ks)
    unfolding visit_slots
    met-slots [] bs f d = ap met (sym (append-nil bs))
    met-slots (k ∷ ks) bs f d =
        let t = f k (inl refl) in
        rw (t.ok, t.name) (go (dir_at k) refl (λ bs d. met-slots ks bs (λ j i. f j (inr i)) d))
      where
        go : (t : Bool) → dir_at k ≡ t → ((cs : List ℕ) → distinct eqb (cs ++ gained ks) ≡ true → visit_slots child s ds ks cs ≡ met (cs ++ gained ks))
            → and_then (cond t (child (slot_at ds k) bs) (met bs)) (visit_slots child s ds ks) ≡ met (bs ++ joined (λ j. D (slot_at ds j)) (keep t k (select dir_at ks)))
        go true q ih =
            let a = slot_at ds k in
            let e : bs ++ (D a ++ gained ks) ≡ (bs ++ D a) ++ gained ks = sym (append_assoc bs (D a) (gained ks)) in
            let d' : distinct eqb ((bs ++ D a) ++ gained ks) ≡ true = rw (q, e) at d in
            let y : child a bs ≡ met (bs ++ D a) = enough a bs ((f k (inl refl)).child-ok q) (distinct-left eqb eqb-true eqb-self (bs ++ D a) (gained ks) d') in
            rw (y, e) (ih (bs ++ D a) d')
        go false q ih = ih bs (rw q at d)

-- what stands below a directory, and all of it with the directory
abbrev pub under : List ℕ → ℕ → ℕ → List (ℕ × ℕ)
under s zero b = []
under s (suc left) b = joined (λ e. below s left (first_block s e)) (children s b)

pub below-is : (s : List ℕ) (left b : ℕ) → below s left b ≡ (b, left) ∷ under s left b
unfolding below
below-is s zero b = refl
below-is s (suc left) b = refl

-- different blocks after others
pub apart-join : (bs ds : List ℕ) → distinct eqb bs ≡ true → distinct eqb ds ≡ true → every (λ x. not (has eqb x bs)) ds ≡ true → distinct eqb (bs ++ ds) ≡ true
apart-join bs ds d e f =
    distinct_append eqb eqb-true eqb-self bs ds d e
    (λ x i j. true-not-false (in-has-eqb x bs i) (not-true _ (every_in (λ y. not (has eqb y bs)) ds x f j)))

pub apart-split : (bs ds : List ℕ) → distinct eqb (bs ++ ds) ≡ true → every (λ x. not (has eqb x bs)) ds ≡ true
apart-split bs ds d =
    in-every (λ x. not (has eqb x bs)) ds
    (λ x j. ap not (is_false (has eqb x bs) (λ h. distinct_apart eqb eqb-true eqb-self bs ds d x (has-eqb-in x bs h) j)))

-- a right directory has different blocks
pub directory_ok-distinct : (s : List ℕ) (n b p : ℕ) → directory_ok s n b p ≡ true → distinct eqb (directory s b) ≡ true
unfolding directory_ok
directory_ok-distinct s n b p e =
    let a₁ = and_split (eqb (type_of s (512 * b)) 1) _ e in
    let a₂ = and_split (eqb (self_of s (512 * b)) b) _ a₁.1 in
    let a₃ = and_split (eqb (parent_of s (512 * b)) p) _ a₂.1 in
    let a₄ = and_split (within 1 max_directory (blocks_of s (512 * b))) _ a₃.1 in
    (and_split (chain_ok (next s) n b (blocks_of s (512 * b))) _ a₄.1).1

pub child_ok-directory : (s : List ℕ) (n p e : ℕ) → child_ok s n p e ≡ true → directory_ok s n (first_block s e) p ≡ true
unfolding child_ok
child_ok-directory s n p e h = (and_split (directory_ok s n (first_block s e) p) _ h).0

module _ (s : List ℕ) (n : ℕ) where
  -- every directory from the one at b on is right, with `left` levels below it
  abbrev pub Rights : ℕ → ℕ → Type 0
  Rights left b = (d : ℕ × ℕ) → In d (below s left b) → Local s n d.0 d.1

  C : ℕ → ℕ → ℕ → Type 0
  C zero p e = ⊥
  C (suc left) p e = (child_ok s n p e ≡ true) × Rights left (first_block s e)

  D : ℕ → ℕ → List ℕ
  D zero e = []
  D (suc left) e = joined (blocks_in s) (below s left (first_block s e))

  abbrev sel : ℕ → List ℕ
  sel b = select (λ k. is_directory (type_of s (slot_at (directory s b) k))) (slots (directory s b))

  -- the blocks that the visits of the children gain
  gained-is : (left b : ℕ) → (left ≡ 0 → children s b ≡ []) → joined (λ k. D left (slot_at (directory s b) k)) (sel b) ≡ joined (blocks_in s) (under s left b)
  unfolding D children
  gained-is zero b none = sym (join-map (D zero) (slot_at (directory s b)) (sel b)) ∙ ap (joined (D zero)) (none refl)
  gained-is (suc left) b none =
      sym (join-map (D (suc left)) (slot_at (directory s b)) (sel b))
      ∙ sym (join-join (blocks_in s) (λ e. below s left (first_block s e)) (children s b))

  -- the entries of the directory at b, when the law of its children is known
  record Entered (left b : ℕ) (bs r : List ℕ) : Type 0 where
    rights : Rights left b
    all : r ≡ bs ++ joined (blocks_in s) (under s left b)
    apart : distinct eqb r ≡ true

  -- a child's entry is one of a slot
  child-slot : (b e : ℕ) → In e (children s b) → (k : ℕ) × In k (slots (directory s b)) × (is_directory (type_of s (slot_at (directory s b) k)) ≡ true) × (e ≡ slot_at (directory s b) k)
  unfolding children
  child-slot b e i =
      let r = of_map (slot_at (directory s b)) e (sel b) i in
      let w = in-select (λ k. is_directory (type_of s (slot_at (directory s b) k))) (slots (directory s b)) r.0 r.1 in
      (r.0, w.0, w.1, r.2)

  slot-child : (b k : ℕ) → In k (slots (directory s b)) → is_directory (type_of s (slot_at (directory s b) k)) ≡ true → In (slot_at (directory s b) k) (children s b)
  unfolding children
  slot-child b k i t =
      to_map (slot_at (directory s b)) k (sel b) (select_has (λ j. is_directory (type_of s (slot_at (directory s b) j))) (slots (directory s b)) k i t)

  in-below : (left b : ℕ) (d : ℕ × ℕ) → In d (below s left b) → (d ≡ (b, left)) ⊎ In d (under s left b)
  in-below left b d i = rw (below-is s left b) at i

  -- the children are right, and what is below them
  under-right : (left b : ℕ) → ((e : ℕ) → In e (children s b) → C left b e) → (d : ℕ × ℕ) → In d (under s left b) → Local s n d.0 d.1
  unfolding C
  under-right zero b f d i = absurd i
  under-right (suc left) b f d i =
      let r = of-join (λ e. below s left (first_block s e)) (children s b) d i in
      (f r.0 r.1).1 d r.2

  child-right : (left b : ℕ) → ((e : ℕ) → In e (children s b) → C left b e) → (e : ℕ) → In e (children s b) → child_ok s n b e ≡ true
  unfolding C
  child-right zero b f e i = absurd (f e i)
  child-right (suc left) b f e i = (f e i).0

  none_left : (left b : ℕ) → ((e : ℕ) → In e (children s b) → C left b e) → left ≡ 0 → children s b ≡ []
  unfolding C
  none_left zero b f z = none (children s b) f
    where
      none : (es : List ℕ) → ((e : ℕ) → In e es → ⊥) → es ≡ []
      none [] g = refl
      none (e ∷ es) g = absurd (g e (inl refl))
  none_left (suc left) b f z = absurd (omega arith)

  module _ (left b : ℕ)
      (law : (e : ℕ) (bs r : List ℕ) → distinct eqb bs ≡ true → visit_child left s n b e bs ≡ met r → C left b e × (r ≡ bs ++ D left e) × (distinct eqb r ≡ true))
    where
      entries-met : (bs r : List ℕ) → distinct eqb bs ≡ true → visit_entries (visit_child left s n b) s (directory s b) bs ≡ met r → Entered left b bs r
      unfolding visit_entries
      entries-met bs r d e =
          let ds = directory s b in
          let w = needs-met (eqb (type_of s (slot_at ds (4 * length ds - 1))) 255) fault5 _ r (no-met5 r) e in
          let t = slots-met (visit_child left s n b) s ds (C left b) (D left) law (slots ds) bs r d w.1 in
          let kids : (a : ℕ) → In a (children s b) → C left b a = λ a i. let x = child-slot b a i in subst (C left b) (sym x.3) ((t.each x.0 x.1).child-ok x.2) in
          let here : Local s n b left =
          record {
            end-type = eqb-true _ 255 w.0;
            slot = λ k i. (t.each k i).ok;
            name = λ k i. (t.each k i).name;
            child = child-right left b kids;
            deep = none_left left b kids;
          } in
          record {
            rights = λ x i. ⊎_elim (λ q. subst (λ (y : ℕ × ℕ). Local s n y.0 y.1) (sym q) here) (λ j. under-right left b kids x j) (in-below left b x i);
            all = t.all ∙ ap (λ (l : List ℕ). bs ++ l) (gained-is left b (none_left left b kids));
            apart = t.apart;
          }

  child-met : (left p e : ℕ) (bs r : List ℕ) → distinct eqb bs ≡ true → visit_child left s n p e bs ≡ met r → C left p e × (r ≡ bs ++ D left e) × (distinct eqb r ≡ true)
  unfolding visit_child C D
  child-met zero p e bs r d h = absurd (no-met4 r h)
  child-met (suc left) p e bs r d h =
      let b = first_block s e in
      let ds = directory s b in
      let w = needs-met (child_ok s n p e && every (λ x. not (has eqb x bs)) ds) fault4 _ r (no-met4 r) h in
      let u = and_split (child_ok s n p e) (every (λ x. not (has eqb x bs)) ds) w.0 in
      let d' = apart-join bs ds d (directory_ok-distinct s n b p (child_ok-directory s n p e u.0)) u.1 in
      let x = entries-met left b (child-met left b) (bs ++ ds) r d' w.1 in (
        (u.0, x.rights),
        x.all ∙ append_assoc bs ds (joined (blocks_in s) (under s left b)) ∙ ap (λ (l : List (ℕ × ℕ)). bs ++ joined (blocks_in s) l) (sym (below-is s left b)),
        x.apart,
      )

  -- and back
  right_child : (left b : ℕ) → Rights left b → (e : ℕ) → In e (children s b) → C left b e
  unfolding C
  right_child zero b f e i = let l = f (b, zero) (rw (below-is s zero b) (inl refl)) in subst (In e) (l.deep refl) i
  right_child (suc left) b f e i = (
    (f (b, suc left) (rw (below-is s (suc left) b) (inl refl))).child e i,
    λ d j. f d (rw (below-is s (suc left) b) (inr (to-join (λ a. below s left (first_block s a)) (children s b) e d i j))),
  )

  module _ (left b : ℕ) (law : (e : ℕ) (bs : List ℕ) → C left b e → distinct eqb (bs ++ D left e) ≡ true → visit_child left s n b e bs ≡ met (bs ++ D left e)) where
    met-entries : (bs : List ℕ) → Rights left b → distinct eqb (bs ++ joined (blocks_in s) (under s left b)) ≡ true
        → visit_entries (visit_child left s n b) s (directory s b) bs ≡ met (bs ++ joined (blocks_in s) (under s left b))
    unfolding visit_entries
    met-entries bs f d =
        let ds = directory s b in
        let l = f (b, left) (rw (below-is s left b) (inl refl)) in
        let g = gained-is left b l.deep in
        let t : (k : ℕ) → In k (slots ds) → Turn (visit_child left s n b) s ds (C left b) (D left) k =
        λ k i. record { ok = l.slot k i; name = l.name k i; child-ok = λ c. right_child left b f (slot_at ds k) (slot-child b k i c) } in
        rw (eq-eqb _ 255 l.end-type)
        (met-slots (visit_child left s n b) s ds (C left b) (D left) law (slots ds) bs t (rw g d) ∙ ap (λ (x : List ℕ). met (bs ++ x)) g)

  met-child : (left p e : ℕ) (bs : List ℕ) → C left p e → distinct eqb (bs ++ D left e) ≡ true → visit_child left s n p e bs ≡ met (bs ++ D left e)
  unfolding visit_child C D
  met-child zero p e bs c d = absurd c
  met-child (suc left) p e bs c d =
      let b = first_block s e in
      let ds = directory s b in
      let q : bs ++ joined (blocks_in s) (below s left b) ≡ (bs ++ ds) ++ joined (blocks_in s) (under s left b) =
      ap (λ (l : List (ℕ × ℕ)). bs ++ joined (blocks_in s) l) (below-is s left b) ∙ sym (append_assoc bs ds (joined (blocks_in s) (under s left b))) in
      let d' = rw q at d in
      rw (c.0, apart-split bs ds (distinct-left eqb eqb-true eqb-self (bs ++ ds) (joined (blocks_in s) (under s left b)) d'), q)
      (met-entries left b (met-child left b) (bs ++ ds) c.1 d')

-- THE LAW OF THE TREE
abbrev pub dir_blocks : List ℕ → List ℕ
dir_blocks s = joined (blocks_in s) (dirs s)

pub record Tree (s : List ℕ) (n : ℕ) : Type 0 where
  pub rooted : directory_ok s n (root_of s) (root_of s) ≡ true
  pub local : (d : ℕ × ℕ) → In d (dirs s) → Local s n d.0 d.1
  pub once : distinct eqb (dir_blocks s) ≡ true

-- a visit without a fault
visited : (v : Visit) → fault_of v ≡ 0 → (r : List ℕ) × (v ≡ met r)
visited fault4 e = absurd (omega arith)
visited fault5 e = absurd (omega arith)
visited (met r) e = (r, refl)

pub tree : (s : List ℕ) → fault_of (visit_root s) ≡ 0 → Tree s (block_count s)
unfolding visit_root dirs
tree s e =
    let n = block_count s in
    let b = root_of s in
    let v = visited (visit_root s) e in
    let w = needs-met (directory_ok s n b b) fault4 _ v.0 (no-met4 v.0) v.1 in
    let x = entries-met s n max_levels b (child-met s n max_levels b) (directory s b) v.0 (directory_ok-distinct s n b b w.0) w.1 in
    record { rooted = w.0; local = x.rights; once = rw (below-is s max_levels b) (rw x.all at x.apart) }

pub visit-tree : (s : List ℕ) → Tree s (block_count s) → visit_root s ≡ met (dir_blocks s)
unfolding visit_root dirs
visit-tree s t =
    let n = block_count s in
    let b = root_of s in
    rw (t.rooted, below-is s max_levels b) (met-entries s n max_levels b (met-child s n max_levels b) (directory s b) t.local (rw (below-is s max_levels b) at t.once))
