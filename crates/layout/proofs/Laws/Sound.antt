-- A SOUND IMAGE, as plain facts; `check s ≡ 0` gives them (sound), and they give it (check-zero).
use Prim.Native.Nat.{ℕ, zero, suc, ◌+◌, ◌-◌, ◌*◌, ◌/◌, ◌%◌, ◌≤◌, ◌<◌}
use mathlib.Core.Bool.{Bool, true, false, ◌&&◌, ◌||◌, cond, or-true, and_assoc}
use mathlib.Core.List.{List, [], ◌∷◌, ◌++◌, append-nil, append_assoc}
use mathlib.Core.Logic.{◌⊎◌, inl, inr, ⊎_elim, ◌≢◌}
use mathlib.Core.Path.{◌≡◌, refl, sym, ap, ◌∙◌}
use native.Mathlib.Decide.{ℕ_discrete}
use native.Mathlib.Omega.{arith}
use lib.Dec.{eqb}
use lib.ListN.{length}
use borrow.Author.Tests.{eq-eqb, eqb-true, ne_eqb}
use Rattle.layout.specs.Limits.{min_blocks, max_blocks}
use Rattle.layout.specs.Lists.{interval, every, has, distinct, select, keep, joined}
use Rattle.layout.specs.Bytes.{be32}
use Rattle.layout.specs.Geometry.{block_count, table_blocks}
use Rattle.layout.specs.Table.{next, chain, chain_ok, occupied, all_ones}
use Rattle.layout.specs.Directory.{slot_at, slots, type_of, first_block, blocks_of, is_free, is_file, is_directory, files, directory, dirs, attribute_block_of, attribute_size_of}
use Rattle.layout.specs.Check.{stage1, stage2, stage3, file_ok, directory_entry_ok, slot_ok, file_chains, chains, all_chains, owned, table_ok, stage6, stage7, visit_root, fault_of, check}
use Rattle.layout.proofs.Laws.Chains.{nth, in-chain, chain-in, chain_ok-split, chain_ok-join, chain-distinct}
use Rattle.layout.proofs.Laws.Lists.{In, every-same, every_in, in-every, every-interval, interval-every, has-eqb-in, in-has-eqb, joined_same}
use Rattle.layout.proofs.Laws.Joins.{of-join, to-join, join-join, join_apart, join-distinct}
use Rattle.layout.proofs.Laws.Tables.{Table}
use Rattle.layout.proofs.Laws.Tests.{and_split, and-join, or_split, require-zero, first_of-zero, within-split, within-join, eqb-self}
use Rattle.layout.proofs.Laws.Visits.{Local, Tree, dir_blocks, blocks_in, tree, visit-tree}
use Rattle.layout.proofs.Laws.Trees.{Directory, in_tree, length-directory, slot_at-zero}

-- WHO OWNS BLOCKS. An owner is named by the place four bytes before the number of its first block: e for the chain of the entry at e, e + 28 for its
-- attributes. A self entry owns the chain of its directory, a file its own and its attributes'; a free slot, an end slot and the entry of a child
-- directory own none (the child's self entry does).
abbrev pub owns : ℕ → Bool
owns type = eqb type 1 || is_file type

abbrev pub held : ℕ → ℕ → ℕ
held type b = cond (owns type) b 0

abbrev pub held_second : ℕ → ℕ → ℕ
held_second type b = cond (is_file type) b 0

held_by : List ℕ → ℕ → ℕ → ℕ
held_by s a zero = held (type_of s a) (blocks_of s a)
held_by s a (suc r) = held_second (type_of s (a - 28)) (be32 s (a + 8))

pub held_at : List ℕ → ℕ → ℕ
held_at s a = held_by s a (a % 128)

pub own_held : (s : List ℕ) (e : ℕ) → e % 128 ≡ 0 → held_at s e ≡ held (type_of s e) (blocks_of s e)
unfolding held_at held_by
own_held s e h = rw h

pub second-held : (s : List ℕ) (e : ℕ) → e % 128 ≡ 0 → held_at s (e + 28) ≡ held_second (type_of s e) (attribute_size_of s e)
unfolding held_at held_by
second-held s e h =
    let r : (e + 28) % 128 ≡ suc 27 = omega arith in
    let p : e + 28 - 28 ≡ e = omega arith in
    let q : e + 28 + 8 ≡ e + 36 = omega arith in
    rw (r, p, q)

pub second-first : (s : List ℕ) (e : ℕ) → first_block s (e + 28) ≡ attribute_block_of s e
second-first s e = let q : e + 28 + 4 ≡ e + 32 = omega arith in rw q

-- the blocks of some directories; e is where a slot begins, in a block of one of them, or of a directory of the tree
abbrev pub blocks_of_all : List ℕ → List (ℕ × ℕ) → List ℕ
blocks_of_all s ks = joined (blocks_in s) ks

pub record EntryIn (s : List ℕ) (ks : List (ℕ × ℕ)) (e : ℕ) : Type 0 where
  pub within-tree : In (e / 512) (blocks_of_all s ks)
  pub aligned : e % 128 ≡ 0

abbrev pub Entry : List ℕ → ℕ → Type 0
Entry s = EntryIn s (dirs s)

pub record SecondIn (s : List ℕ) (ks : List (ℕ × ℕ)) (a : ℕ) : Type 0 where
  pub entry : EntryIn s ks (a - 28)
  pub place : a % 128 ≡ 28

abbrev pub OwnerIn : List ℕ → List (ℕ × ℕ) → ℕ → Type 0
OwnerIn s ks a = EntryIn s ks a ⊎ SecondIn s ks a

abbrev pub Owner : List ℕ → ℕ → Type 0
Owner s = OwnerIn s (dirs s)

-- where entries go, owners go
pub owner-map : (s s' : List ℕ) (ks ks' : List (ℕ × ℕ)) → ((e : ℕ) → EntryIn s ks e → EntryIn s' ks' e) → (a : ℕ) → OwnerIn s ks a → OwnerIn s' ks' a
owner-map s s' ks ks' f a (inl E) = inl (f a E)
owner-map s s' ks ks' f a (inr F) = inr (record { entry = f (a - 28) F.entry; place = F.place })

-- the second owner of an entry
pub second-owner : (s : List ℕ) (ks : List (ℕ × ℕ)) (e : ℕ) → EntryIn s ks e → OwnerIn s ks (e + 28)
second-owner s ks e E =
    let p : e + 28 - 28 ≡ e = omega arith in
    inr (record { entry = rw p E; place = omega (arith, E.aligned) })

pub record Facts (s : List ℕ) (n : ℕ) : Type 0 where
  pub whole : length s ≡ 512 * n
  pub least : min_blocks ≤ n
  pub most : n ≤ max_blocks
  pub signed : stage2 s ≡ true
  pub numbered : stage3 s ≡ true
  pub tree : Tree s n
  pub table : Table n (Owner s) (next s) (first_block s) (held_at s)
  pub used-is : be32 s 20 ≡ occupied (next s) n
  pub free-is : be32 s 24 ≡ n - occupied (next s) n

abbrev pub Sound : List ℕ → Type 0
Sound s = Facts s (block_count s)

-- all slots of some blocks
unfoldable pub quad : ℕ → List ℕ
quad q = (512 * q) ∷ (512 * q + 128) ∷ (512 * q + 256) ∷ (512 * q + 384) ∷ []

quads-in : (bs : List ℕ) (e : ℕ) → In (e / 512) bs → e % 128 ≡ 0 → In e (joined quad bs)
unfolding quad
quads-in bs e i a = to-join quad bs (e / 512) e i (four (e / 128 % 4) refl)
  where
    four : (r : ℕ) → e / 128 % 4 ≡ r → In e (quad (e / 512))
    four zero p = inl (omega arith)
    four (suc zero) p = inr (inl (omega arith))
    four (suc (suc zero)) p = inr (inr (inl (omega arith)))
    four (suc (suc (suc r))) p = inr (inr (inr (inl (omega arith))))

in-quad : (q e : ℕ) → In e (quad q) → (e / 512 ≡ q) × (e % 128 ≡ 0)
unfolding quad
in-quad q e (inr (inr (inr (inr x4)))) = elim x4 [ ]
in-quad q e (inl p) = (omega arith, omega arith)
in-quad q e (inr (inl p)) = (omega arith, omega arith)
in-quad q e (inr (inr (inl p))) = (omega arith, omega arith)
in-quad q e (inr (inr (inr (inl p)))) = (omega arith, omega arith)

in-quads : (bs : List ℕ) (e : ℕ) → In e (joined quad bs) → In (e / 512) bs × (e % 128 ≡ 0)
in-quads bs e i =
    let r = of-join quad bs e i in
    let w = in-quad r.0 e r.2 in
    (rw w.0 r.1, w.1)

quad-distinct : (q : ℕ) → distinct eqb (quad q) ≡ true
unfolding quad
quad-distinct q =
    rw (
      ne_eqb (512 * q) (512 * q + 128) (λ e. omega arith),
      ne_eqb (512 * q) (512 * q + 256) (λ e. omega arith),
      ne_eqb (512 * q) (512 * q + 384) (λ e. omega arith),
      ne_eqb (512 * q + 128) (512 * q + 256) (λ e. omega arith),
      ne_eqb (512 * q + 128) (512 * q + 384) (λ e. omega arith),
      ne_eqb (512 * q + 256) (512 * q + 384) (λ e. omega arith),
    )

quads-distinct : (bs : List ℕ) → distinct eqb bs ≡ true → distinct eqb (joined quad bs) ≡ true
quads-distinct bs d =
    join-distinct quad bs d (λ q i. quad-distinct q) (λ x y i j ne b p q. ne (sym (in-quad x b p).0 ∙ (in-quad y b q).0))

-- the slots of a directory, by their numbers
shift : (q : ℕ) (ds : List ℕ) (k : ℕ) → slot_at (q ∷ ds) (4 + k) ≡ slot_at ds k
unfolding slot_at
shift q ds k =
    let e : (4 + k) / 4 ≡ suc (k / 4) = omega arith in
    let f : (4 + k) % 4 ≡ k % 4 = omega arith in
    rw (e, f)

first_slot : (q : ℕ) (ds : List ℕ) (j : ℕ) → j < 4 → slot_at (q ∷ ds) j ≡ 512 * q + 128 * j
unfolding slot_at
first_slot q ds j h =
    let a : j / 4 ≡ 0 = omega arith in
    let b : j % 4 ≡ j = omega arith in
    rw (a, b)

module _ {A : Type 0} (g : ℕ → List A) where
  shifts : (q : ℕ) (ds : List ℕ) (k a b : ℕ) → b ≡ 4 + a → joined (λ j. g (slot_at (q ∷ ds) j)) (interval b k) ≡ joined (λ j. g (slot_at ds j)) (interval a k)
  shifts q ds zero a b e = refl
  shifts q ds (suc k) a b e =
      let z : slot_at (q ∷ ds) b ≡ slot_at ds a = ap (slot_at (q ∷ ds)) e ∙ shift q ds a in
      rw z (ap (λ (r : List A). g (slot_at ds a) ++ r) (shifts q ds k (suc a) (suc b) (omega arith)))

  by_slots : (ds : List ℕ) → joined g (joined quad ds) ≡ joined (λ k. g (slot_at ds k)) (interval 0 (4 * length ds))
  unfolding quad
  by_slots [] = refl
  by_slots (q ∷ ds) =
      let e : 4 * length (q ∷ ds) ≡ suc (suc (suc (suc (4 * length ds)))) = omega arith in
      let z : slot_at (q ∷ ds) 0 ≡ 512 * q = omega (arith, first_slot q ds 0 (omega arith)) in
      rw (e, z, first_slot q ds 1 (omega arith), first_slot q ds 2 (omega arith), first_slot q ds 3 (omega arith), shifts q ds (4 * length ds) 0 4 refl, ← by_slots ds)

  -- what passes a test, by the whole list
  by-select : (p : ℕ → Bool) (xs : List ℕ) → joined g (select p xs) ≡ joined (λ x. cond (p x) (g x) []) xs
  by-select p [] = refl
  by-select p (x ∷ xs) = go (p x) (by-select p xs)
    where
      go : (t : Bool) → joined g (select p xs) ≡ joined (λ y. cond (p y) (g y) []) xs → joined g (keep t x (select p xs)) ≡ cond t (g x) [] ++ joined (λ y. cond (p y) (g y) []) xs
      go true e = ap (λ (r : List A). g x ++ r) e
      go false e = e

  by_end : (k a : ℕ) → joined g (interval a (suc k)) ≡ joined g (interval a k) ++ g (a + k)
  by_end zero a = let e : a + 0 ≡ a = omega arith in rw e (append-nil (g a))
  by_end (suc k) a =
      let e : a + suc k ≡ suc a + k = omega arith in
      rw e (ap (λ (r : List A). g a ++ r) (by_end k (suc a)) ∙ sym (append_assoc (g a) (joined g (interval (suc a) k)) (g (suc a + k))))

every-joined : {A B : Type 0} (p : B → Bool) (g : A → List B) (xs : List A) → every p (joined g xs) ≡ every (λ x. every p (g x)) xs
every-joined p g [] = refl
every-joined {A} {B} p g (x ∷ xs) = both (g x) ∙ ap (λ (t : Bool). every p (g x) && t) (every-joined p g xs)
  where
    both : (ys : List B) → every p (ys ++ joined g xs) ≡ every p ys && every p (joined g xs)
    both [] = refl
    both (y ∷ ys) = ap (λ (t : Bool). p y && t) (both ys) ∙ sym (and_assoc (p y) (every p ys) (every p (joined g xs)))

-- the chains of an entry, by its type: a file's two, a directory's own; and the two owners of an entry
unfoldable pub entry_chains : List ℕ → ℕ → List (ℕ × ℕ)
entry_chains s e = cond (is_file (type_of s e)) (file_chains s e) (cond (eqb (type_of s e) 1) ((first_block s e, blocks_of s e) ∷ []) [])

two : ℕ → List ℕ
two e = e ∷ (e + 28) ∷ []

-- a slot of stage 5
pub slot_ok-split : (s : List ℕ) (e : ℕ) → slot_ok s e ≡ true
    → (type_of s e ≡ 0) ⊎ (((is_file (type_of s e) ≡ true) × (file_ok s e ≡ true)) ⊎ ((is_directory (type_of s e) ≡ true) × (directory_entry_ok s e ≡ true)))
unfolding slot_ok
slot_ok-split s e w =
    ⊎_elim (λ a. inl (eqb-true (type_of s e) 0 a))
    (λ b. inr (⊎_elim (λ c. inl (and_split (is_file (type_of s e)) (file_ok s e) c)) (λ c. inr (and_split (is_directory (type_of s e)) (directory_entry_ok s e) c))
    (or_split (is_file (type_of s e) && file_ok s e) (is_directory (type_of s e) && directory_entry_ok s e) b)))
    (or_split (is_free (type_of s e)) (is_file (type_of s e) && file_ok s e || is_directory (type_of s e) && directory_entry_ok s e) w)

-- it is no self entry
not-self : (s : List ℕ) (e : ℕ) → slot_ok s e ≡ true → eqb (type_of s e) 1 ≡ false
not-self s e w = ne_eqb (type_of s e) 1 λ q. ⊎_elim
    (λ z. omega arith)
    (λ r. ⊎_elim (λ f. let h = within-split 0x60 0x9F (type_of s e) f.0 in omega arith) (λ f. let h = within-split 0x20 0x5F (type_of s e) f.0 in omega arith) r)
    (slot_ok-split s e w)

module _ (s : List ℕ) (n : ℕ) where
  -- of one directory
  module _ (b left p : ℕ) (L : Local s n b left) (D : Directory s n b p) where
    middle : joined (λ k. entry_chains s (slot_at (directory s b) k)) (slots (directory s b)) ≡ joined (λ k. file_chains s (slot_at (directory s b) k)) (files s (directory s b))
    unfolding entry_chains files
    middle =
        sym (by-select (λ k. file_chains s (slot_at (directory s b) k)) (λ k. is_file (type_of s (slot_at (directory s b) k))) (slots (directory s b))
        ∙ sym (joined_same _ _ (slots (directory s b)) (λ k i. rw (not-self s (slot_at (directory s b) k) (L.slot k i)))))

    first-is : entry_chains s (slot_at (directory s b) 0) ≡ (b, length (directory s b)) ∷ []
    unfolding entry_chains file_chains
    first-is = rw (slot_at-zero s b D.d-least, D.self_type, length-directory s b, D.self-block)

    last-is : entry_chains s (slot_at (directory s b) (4 * length (directory s b) - 1)) ≡ []
    unfolding entry_chains
    last-is = rw L.end-type

    chains-is : joined (entry_chains s) (joined quad (directory s b)) ≡ chains s b
    unfolding chains
    chains-is =
        let g : ℕ → List (ℕ × ℕ) = λ k. entry_chains s (slot_at (directory s b) k) in
        let m : ℕ = 4 * length (directory s b) - 2 in
        let e : 4 * length (directory s b) ≡ suc (suc m) = omega (arith, length-directory s b, D.d-least) in
        let z : 1 + m ≡ 4 * length (directory s b) - 1 = omega arith in
        by_slots (entry_chains s) (directory s b)
        ∙ ap (λ (x : ℕ). joined g (interval 0 x)) e
        ∙ ap (λ (r : List (ℕ × ℕ)). g 0 ++ r) (by_end g m 1 ∙ ap (λ (r : List (ℕ × ℕ)). joined g (interval 1 m) ++ r) (ap g z ∙ last-is) ∙ append-nil (joined g (interval 1 m)) ∙ middle)
        ∙ ap (λ (r : List (ℕ × ℕ)). r ++ joined (λ k. file_chains s (slot_at (directory s b) k)) (files s (directory s b))) first-is

  -- of the tree
  all-chains : Tree s n → all_chains s ≡ joined (entry_chains s) (joined quad (dir_blocks s))
  unfolding all_chains
  all-chains T =
      sym (ap (joined (entry_chains s)) (join-join quad (blocks_in s) (dirs s)) ∙ join-join (entry_chains s) (λ d. joined quad (blocks_in s d)) (dirs s)
      ∙ joined_same (λ d. chains s d.0) (λ d. joined (entry_chains s) (joined quad (blocks_in s d))) (dirs s)
      (λ d i. let r = in_tree s n T d i in chains-is d.0 d.1 r.0 (T.local d i) r.1))

module _ (s : List ℕ) (v : ℕ → ℕ) where
  abbrev pub chain_of : ℕ → List ℕ
  chain_of e = chain v (first_block s e) (held_at s e)

  module _ (es : List ℕ) (lined : (e : ℕ) → In e es → e % 128 ≡ 0) where
    owned-entries : owned v (joined (entry_chains s) es) ≡ joined chain_of (joined two es)
    unfolding owned chain file_chains entry_chains two
    owned-entries =
        join-join (λ c. chain v c.0 c.1) (entry_chains s) es
        ∙ joined_same (λ e. joined chain_of (two e)) (λ e. joined (λ c. chain v c.0 c.1) (entry_chains s e)) es
        (λ e i. rw (own_held s e (lined e i), second-held s e (lined e i), second-first s e) (one e (is_file (type_of s e)) (eqb (type_of s e) 1)))
        ∙ sym (join-join chain_of two es)
      where
        one : (e : ℕ) (f t : Bool) → joined (λ c. chain v c.0 c.1) (cond f (file_chains s e) (cond t ((first_block s e, blocks_of s e) ∷ []) []))
            ≡ chain v (first_block s e) (cond (t || f) (blocks_of s e) 0) ++ (chain v (attribute_block_of s e) (cond f (attribute_size_of s e) 0) ++ [])
        one e true true = refl
        one e true false = refl
        one e false true = refl
        one e false false = refl

    every-entries : (n : ℕ) → every (λ c. chain_ok v n c.0 c.1) (joined (entry_chains s) es) ≡ every (λ a. chain_ok v n (first_block s a) (held_at s a)) (joined two es)
    unfolding chain_ok file_chains entry_chains two
    every-entries n =
        every-joined (λ c. chain_ok v n c.0 c.1) (entry_chains s) es
        ∙ every-same (λ e. every (λ c. chain_ok v n c.0 c.1) (entry_chains s e)) (λ e. every (λ a. chain_ok v n (first_block s a) (held_at s a)) (two e)) es
        (λ e i. rw (own_held s e (lined e i), second-held s e (lined e i), second-first s e) (one e (is_file (type_of s e)) (eqb (type_of s e) 1)))
        ∙ sym (every-joined (λ a. chain_ok v n (first_block s a) (held_at s a)) two es)
      where
        one : (e : ℕ) (f t : Bool) → every (λ c. chain_ok v n c.0 c.1) (cond f (file_chains s e) (cond t ((first_block s e, blocks_of s e) ∷ []) []))
            ≡ chain_ok v n (first_block s e) (cond (t || f) (blocks_of s e) 0) && (chain_ok v n (attribute_block_of s e) (cond f (attribute_size_of s e) 0) && true)
        one e true true = refl
        one e true false = refl
        one e false true = refl
        one e false false = refl

-- the tests of stage 6 on the chains of a list of entries, and the table's facts
module _ (n : ℕ) (es : List ℕ) (P : ℕ → Type 0) (in-P : (e : ℕ) → In e es → P e) (P-in : (e : ℕ) → P e → In e es) (v f l : ℕ → ℕ) where
  abbrev blocks_on : ℕ → List ℕ
  blocks_on k = chain v (f k) (l k)

  to-table : every (λ k. chain_ok v n (f k) (l k)) es ≡ true → distinct eqb (joined blocks_on es) ≡ true
      → every (λ b. eqb (v b) 1) (interval 0 (table_blocks n + 1)) ≡ true
      → every (λ b. eqb (v b) 0 || has eqb b (joined blocks_on es)) (interval (table_blocks n + 1) (128 * table_blocks n - (table_blocks n + 1))) ≡ true
      → Table n P v f l
  to-table rs ds lo hi =
      record {
        right = λ k h. chain_ok-split v n (f k) (l k) (every_in (λ j. chain_ok v n (f j) (l j)) es k rs (P-in k h));
        apart = λ j k hj hk ne x y a b e.
            join_apart blocks_on eqb eqb-true eqb-self es ds j k (P-in j hj) (P-in k hk) ne (nth v x (f j)) (chain-in v (f j) (l j) _ x a refl) (chain-in v (f k) (l k) _ y b e);
        low = λ b h. eqb-true (v b) 1 (every-interval (λ c. eqb (v c) 1) 0 (table_blocks n + 1) lo b (omega arith) (omega arith));
        high = λ b h a ne. owner b ne (every-interval (λ c. eqb (v c) 0 || has eqb c (joined blocks_on es)) (table_blocks n + 1)
            (128 * table_blocks n - (table_blocks n + 1)) hi b (omega arith) (omega arith));
      }
    where
      owner : (b : ℕ) → v b ≢ 0 → (eqb (v b) 0 || has eqb b (joined blocks_on es)) ≡ true → (k : ℕ) × (x : ℕ) × P k × (x < l k) × (b ≡ nth v x (f k))
      owner b ne e =
          let i = ⊎_elim (λ z. absurd (ne (eqb-true (v b) 0 z))) (λ w. has-eqb-in b (joined blocks_on es) w) (or_split (eqb (v b) 0) (has eqb b (joined blocks_on es)) e) in
          let r = of-join blocks_on es b i in
          let c = in-chain v (f r.0) (l r.0) b r.2 in
          (r.0, c.0, in-P r.0 r.1, c.1, c.2)

  module _ (T : Table n P v f l) (h₃ : min_blocks ≤ n) where
    from-right : every (λ k. chain_ok v n (f k) (l k)) es ≡ true
    from-right = in-every (λ k. chain_ok v n (f k) (l k)) es (λ k i. chain_ok-join v n (f k) (l k) (T.right k (in-P k i)))

    from-distinct : distinct eqb es ≡ true → distinct eqb (joined blocks_on es) ≡ true
    from-distinct once =
        join-distinct blocks_on es once (λ j i. chain-distinct v n (f j) (l j) (T.right j (in-P j i)) h₃)
        (λ i j p q ne x a b.
        let c = in-chain v (f i) (l i) x a in
        let d = in-chain v (f j) (l j) x b in
        T.apart i j (in-P i p) (in-P j q) ne c.0 d.0 c.1 d.1 (sym c.2 ∙ d.2))

    from_low : every (λ b. eqb (v b) 1) (interval 0 (table_blocks n + 1)) ≡ true
    from_low = interval-every (λ b. eqb (v b) 1) 0 (table_blocks n + 1) (λ b h g. eq-eqb (v b) 1 (T.low b (omega arith)))

    from-high : every (λ b. eqb (v b) 0 || has eqb b (joined blocks_on es)) (interval (table_blocks n + 1) (128 * table_blocks n - (table_blocks n + 1))) ≡ true
    from-high =
        interval-every (λ b. eqb (v b) 0 || has eqb b (joined blocks_on es)) (table_blocks n + 1) (128 * table_blocks n - (table_blocks n + 1)) (λ b h g. at b h g (ℕ_discrete (v b) 0))
      where
        at : (b : ℕ) → table_blocks n + 1 ≤ b → b < table_blocks n + 1 + (128 * table_blocks n - (table_blocks n + 1)) → Dec (v b ≡ 0)
            → (eqb (v b) 0 || has eqb b (joined blocks_on es)) ≡ true
        at b h g (yes z) = rw (eq-eqb (v b) 0 z)
        at b h g (no z) =
            let r = T.high b (omega arith) (omega arith) z in
            rw (in-has-eqb b (joined blocks_on es) (to-join blocks_on es r.0 b (P-in r.0 r.2) (chain-in v (f r.0) (l r.0) b r.1 r.3 r.4)))
            (or-true (eqb (v b) 0))

-- the two owners of different entries differ
two-distinct : (es : List ℕ) → ((e : ℕ) → In e es → e % 128 ≡ 0) → distinct eqb es ≡ true → distinct eqb (joined two es) ≡ true
unfolding two
two-distinct es lined d =
    join-distinct two es d (λ e i. rw (ne_eqb e (e + 28) (λ q. omega arith))) (λ x y i j ne b p q. let h = lined x i in let g = lined y j in ne (go x y b h g p q))
  where
    go : (x y b : ℕ) → x % 128 ≡ 0 → y % 128 ≡ 0 → In b (two x) → In b (two y) → x ≡ y
    go x y b h g (inl p) (inr (inr x5)) = elim x5 [ ]
    go x y b h g (inr (inl p)) (inr (inr x8)) = elim x8 [ ]
    go x y b h g (inr (inr x7)) _ = elim x7 [ ]
    go x y b h g (inl p) (inl q) = omega arith
    go x y b h g (inl p) (inr (inl q)) = absurd (omega arith)
    go x y b h g (inr (inl p)) (inl q) = absurd (omega arith)
    go x y b h g (inr (inl p)) (inr (inl q)) = omega arith

-- STAGE 6 IN ANY ORDER: the entries of the directory blocks may be taken in any order of these blocks, as ascending: the test is the same. So code need
-- not go through the tree again: once its blocks are marked, it goes from marked block to marked block, and through the four slots of each.
unfoldable pub entry_chains_of : List ℕ → List ℕ → List (ℕ × ℕ)
entry_chains_of s bs = joined (entry_chains s) (joined quad bs)

module _ (s : List ℕ) (n : ℕ) (T : Tree s n) (least : min_blocks ≤ n) where
  module _ (bs : List ℕ) (once : distinct eqb bs ≡ true) (sub : (q : ℕ) → In q bs → In q (dir_blocks s)) (all : (q : ℕ) → In q (dir_blocks s) → In q bs) where
    lined-of : (e : ℕ) → In e (joined quad bs) → e % 128 ≡ 0
    lined-of e i = (in-quads bs e i).1

    entry_of : (e : ℕ) → In e (joined quad bs) → Entry s e
    entry_of e i = let w = in-quads bs e i in record { within-tree = sub (e / 512) w.0; aligned = w.1 }

    of_entry : (e : ℕ) → Entry s e → In e (joined quad bs)
    of_entry e E = quads-in bs e (all (e / 512) E.within-tree) E.aligned

    in-of : (a : ℕ) → In a (joined two (joined quad bs)) → Owner s a
    unfolding two
    in-of a i = let r = of-join two (joined quad bs) a i in go r.0 (entry_of r.0 r.1) r.2
      where
        go : (e : ℕ) → Entry s e → In a (two e) → Owner s a
        go e E (inr (inr x'')) = elim x'' [ ]
        go e E (inl q) = inl (rw q E)
        go e E (inr (inl q)) = rw q (second-owner s (dirs s) e E)

    of-in : (a : ℕ) → Owner s a → In a (joined two (joined quad bs))
    unfolding two
    of-in a (inl E) = to-join two (joined quad bs) a a (of_entry a E) (inl refl)
    of-in a (inr F) = let h = F.place in to-join two (joined quad bs) (a - 28) a (of_entry (a - 28) F.entry) (inr (inl (omega arith)))

    ok-table : table_ok (next s) n (entry_chains_of s bs) ≡ true → Table n (Owner s) (next s) (first_block s) (held_at s)
    unfolding table_ok all_ones entry_chains_of
    ok-table ok =
        let t = table_blocks n in
        let es = joined quad bs in
        let os = joined two es in
        let o = owned-entries s (next s) es lined-of in
        let six = and_split (every (λ x. chain_ok (next s) n x.0 x.1) (joined (entry_chains s) es)) _ ok in
        let r = and_split (distinct eqb (owned (next s) (joined (entry_chains s) es))) _ six.1 in
        let low = and_split (every (λ x. eqb (next s x) 1) (interval 0 (t + 1))) _ r.1 in
        to-table n os (Owner s) in-of of-in (next s) (first_block s) (held_at s) (sym (every-entries s (next s) es lined-of n) ∙ six.0) (rw o at r.0) low.0 (rw o at low.1)

    table-ok : Table n (Owner s) (next s) (first_block s) (held_at s) → table_ok (next s) n (entry_chains_of s bs) ≡ true
    unfolding table_ok all_ones entry_chains_of
    table-ok U =
        let es = joined quad bs in
        let os = joined two es in
        rw (owned-entries s (next s) es lined-of) (and-join
        (every-entries s (next s) es lined-of n ∙ from-right n os (Owner s) in-of of-in (next s) (first_block s) (held_at s) U least)
        (and-join (from-distinct n os (Owner s) in-of of-in (next s) (first_block s) (held_at s) U least (two-distinct es lined-of (quads-distinct bs once)))
        (and-join (from_low n os (Owner s) in-of of-in (next s) (first_block s) (held_at s) U least)
        (from-high n os (Owner s) in-of of-in (next s) (first_block s) (held_at s) U least))))

  tree-chains : all_chains s ≡ entry_chains_of s (dir_blocks s)
  tree-chains = all-chains s n T ∙ (unfold entry_chains_of in refl)

  -- by the directory blocks in the order of the tree, as the rule has them
  ok-tree : table_ok (next s) n (all_chains s) ≡ true → Table n (Owner s) (next s) (first_block s) (held_at s)
  ok-tree ok = ok-table (dir_blocks s) T.once (λ q i. i) (λ q i. i) (rw tree-chains at ok)

  tree-ok : Table n (Owner s) (next s) (first_block s) (held_at s) → table_ok (next s) n (all_chains s) ≡ true
  tree-ok U = rw tree-chains (table-ok (dir_blocks s) T.once (λ q i. i) (λ q i. i) U)

  pub any_order : (bs : List ℕ) → distinct eqb bs ≡ true → ((q : ℕ) → In q bs → In q (dir_blocks s)) → ((q : ℕ) → In q (dir_blocks s) → In q bs)
      → table_ok (next s) n (all_chains s) ≡ table_ok (next s) n (entry_chains_of s bs)
  any_order bs once sub all =
      both (table_ok (next s) n (all_chains s)) (table_ok (next s) n (entry_chains_of s bs)) (λ a. table-ok bs once sub all (ok-tree a)) (λ b. tree-ok (ok-table bs once sub all b))
    where
      both : (a b : Bool) → (a ≡ true → b ≡ true) → (b ≡ true → a ≡ true) → a ≡ b
      both true b f g = sym (f refl)
      both false true f g = g refl
      both false false f g = refl

-- CHECK TO FACTS
pub sound : (s : List ℕ) → check s ≡ 0 → Sound s
unfolding check stage1 stage6 stage7
sound s ok =
    let n = block_count s in
    let a = require-zero (stage1 s) 0 _ ok in
    let b = require-zero (stage2 s) 1 _ a.1 in
    let c = require-zero (stage3 s) 2 _ b.1 in
    let d = first_of-zero (fault_of (visit_root s)) _ c.1 in
    let f = require-zero (stage6 s) 5 _ d.1 in
    let g = require-zero (stage7 s) 6 _ f.1 in
    let one = and_split (eqb (length s) (512 * n)) _ a.0 in
    let size = within-split min_blocks max_blocks n one.1 in
    let T = tree s d.0 in
    let seven = and_split (eqb (be32 s 20) (occupied (next s) n)) _ g.0 in
    record {
      whole = eqb-true _ _ one.0;
      least = size.0;
      most = size.1;
      signed = b.0;
      numbered = c.0;
      tree = T;
      table = ok-tree s n T size.0 f.0;
      used-is = eqb-true _ _ seven.0;
      free-is = eqb-true _ _ seven.1;
    }

-- FACTS TO CHECK
pub check-zero : (s : List ℕ) → Sound s → check s ≡ 0
unfolding check stage1 stage6 stage7
check-zero s S =
    let n = block_count s in
    let one : stage1 s ≡ true = and-join (eq-eqb _ _ S.whole) (within-join min_blocks max_blocks n S.least S.most) in
    let six : stage6 s ≡ true = tree-ok s n S.tree S.least S.table in
    let seven : stage7 s ≡ true = and-join (eq-eqb _ _ S.used-is) (eq-eqb _ _ S.free-is) in
    rw (one, S.signed, S.numbered, visit-tree s S.tree, six, seven)
