-- Move, by the slots: the entry of a file is taken out and put, under another name, into a slot that is then free. It is read as a delete and the coming of
-- an entry: what a delete leaves is sound, and has the slot free; from there one slot changes, and the chains that the delete freed are again as they were.
use Prim.Native.Nat.{ℕ, ◌+◌, ◌-◌, ◌*◌, ◌/◌, ◌≤◌, ◌<◌}
use mathlib.Core.Path.{◌≡◌, refl, sym, ap, ◌∙◌, subst}
use mathlib.Core.Bool.{true, false, cond}
use mathlib.Core.List.{List, [], ◌∷◌, ◌++◌, append-nil}
use mathlib.Core.Logic.{◌⊎◌, inl, inr, ⊎_elim, ◌≢◌}
use native.Mathlib.Decide.{ℕ_discrete}
use native.Mathlib.Omega.{arith}
use borrow.Author.Tests.{eq-eqb, ne_eqb}
use lib.ListN.{length, get_or, take, length-append, get_or-append}
use lib.Dec.{eqb}
use Rattle.layout.specs.Bytes.{be32, part, splice, zeros, block}
use Rattle.layout.specs.Geometry.{block_count, table_blocks, root_block}
use Rattle.layout.specs.Table.{next, occupied}
use Rattle.layout.specs.Directory.{slot_at, type_of, first_block, size_of, blocks_of, attribute_block_of, attribute_size_of, is_file, is_directory, padded, name_of, name_ok, good_name, directory, dirs, file_blocks, content, attribute_blocks, attributes}
use Rattle.layout.specs.Check.{no_attributes, attributes_ok, file_ok, slot_ok}
use Rattle.volume.specs.Entries.{released}
use Rattle.volume.specs.Delete.{all_blocks, delete_at}
use Rattle.volume.specs.Move.{renamed}
use Rattle.volume.specs.Views.{file_of}
use Rattle.volume.proofs.Laws.Delete.{zeroed-length, zeroed-outside, deleted-sound, deleted-below, deleted-slot, deleted-type, deleted-next, deleted-block}
use Rattle.volume.proofs.Laws.Frame.{released-agree}
use Rattle.volume.proofs.Laws.Unchanged.{slot-agree}
use Rattle.layout.proofs.Laws.Tests.{and_split, and-join}
use Rattle.layout.proofs.Laws.Bytes.{length_part, get_d_part, get_d-zeros, length-zeros, length-splice, get_d-splice-inside, part_same, part-middle, be32-same}
use Rattle.layout.proofs.Laws.Lists.{In, joined_same, in-single}
use Rattle.layout.proofs.Laws.Names.{padded-length, name-is, name-ok}
use Rattle.layout.proofs.Laws.Frames.{Same, same_then, same_beside, same-inner, before-next, before-occupied, before-header, Agree, agree_then, agree-block}
use Rattle.layout.proofs.Laws.Entries.{same-type}
use Rattle.layout.proofs.Laws.Chains.{nth, chain-agree, chain-in}
use Rattle.layout.proofs.Laws.Tables.{Table, table_same, table_of}
use Rattle.layout.proofs.Laws.Visits.{dir_blocks}
use Rattle.layout.proofs.Laws.Trees.{size_at, block-above}
use Rattle.layout.proofs.Laws.Sound.{held_at, own_held, second-held, second-first, second-owner, Sound, Entry, Owner, owner-map}
use Rattle.layout.proofs.Laws.Slots.{slot-entry, slot-ok, entry-high, entry-low, entries-apart}
use Rattle.layout.proofs.Laws.Owners.{blocks_at, held-at, file-no-dir, file-slot-ok, slot-ok-file, none-held, none-second, owner-stays, second, file-below, file-blocks, second-blocks, file-no-self, second-no-self, block-below, block-outside}
use Rattle.layout.proofs.Laws.Changed.{OneSlot, kept, tree-stays, dir_blocks-same, sound-again}
use Rattle.layout.proofs.Laws.Others.{owner-blocks}

-- TWO OWNERS CHANGE PLACES in a table of chains
abbrev swap : ℕ → ℕ → ℕ → ℕ
swap x y a = cond (eqb a x) y (cond (eqb a y) x a)

swap-first : (x y : ℕ) → swap x y x ≡ y
swap-first x y = rw (eq-eqb x x refl)

swap-second : (x y : ℕ) → swap x y y ≡ x
swap-second x y = go (ℕ_discrete y x)
  where
    go : Dec (y ≡ x) → swap x y y ≡ x
    go (yes q) = rw (eq-eqb y x q) q
    go (no ne) = rw (ne_eqb y x ne, eq-eqb y y refl)

swap-other : (x y a : ℕ) → a ≢ x → a ≢ y → swap x y a ≡ a
swap-other x y a p q = rw (ne_eqb a x p, ne_eqb a y q)

module _ (x y : ℕ) where
  -- by the three cases
  swapped : (P : ℕ → ℕ → Type 0) → P x y → P y x → ((a : ℕ) → a ≢ x → a ≢ y → P a a) → (a : ℕ) → P a (swap x y a)
  swapped P one two rest a = go (ℕ_discrete a x) (ℕ_discrete a y)
    where
      go : Dec (a ≡ x) → Dec (a ≡ y) → P a (swap x y a)
      go (yes q) z = subst (λ (b : ℕ). P b (swap x y b)) (sym q) (subst (P x) (sym (swap-first x y)) one)
      go (no p) (yes q) = subst (λ (b : ℕ). P b (swap x y b)) (sym q) (subst (P y) (sym (swap-second x y)) two)
      go (no p) (no q) = subst (P a) (sym (swap-other x y a p q)) (rest a p q)

  swap-back : (a : ℕ) → swap x y (swap x y a) ≡ a
  swap-back = swapped (λ a b. swap x y b ≡ a) (swap-second x y) (swap-first x y) (swap-other x y)

  table-swapped : (n : ℕ) (P : ℕ → Type 0) (v f l : ℕ → ℕ) → P x → P y → Table n P v f l → Table n P v (λ a. f (swap x y a)) (λ a. l (swap x y a))
  table-swapped n P v f l hx hy T =
      record {
        right = λ k h. T.right (swap x y k) (goes k h);
        apart = λ j k hj hk ne. T.apart (swap x y j) (swap x y k) (goes j hj) (goes k hk) (λ q. ne (sym (swap-back j) ∙ ap (swap x y) q ∙ swap-back k));
        low = T.low;
        high = λ b h a ne. let r = T.high b h a ne in let q = swap-back r.0 in
            (swap x y r.0, r.1, goes r.0 r.2, subst (λ (k : ℕ). r.1 < l k) (sym q) r.3, r.4 ∙ ap (λ (k : ℕ). nth v r.1 (f k)) (sym q));
      }
    where
      goes : (k : ℕ) → P k → P (swap x y k)
      goes k = swapped (λ a b. P a → P b) (λ h. hy) (λ h. hx) (λ a p q h. h) k

-- bytes that two images share with a third
same_back : (s t u : List ℕ) (a w : ℕ) → Same s t a w → Same s u a w → Same t u a w
same_back s t u a w p q i h = q i h ∙ sym (p i h)

zeros-at : (t : List ℕ) (e : ℕ) → e + 128 ≤ length t → (i : ℕ) → i < 128 → get_or (splice t e (zeros 128)) (e + i) 0 ≡ 0
zeros-at t e fit i h = get_d-splice-inside t e (zeros 128) (omega (arith, length-zeros 128)) i (omega (arith, length-zeros 128)) ∙ get_d-zeros 128 i

-- a file, in slot k of the directory d
module _ (s : List ℕ) (S : Sound s) (d : ℕ × ℕ) (di : In d (dirs s)) (k : ℕ) (k₁ : 1 ≤ k) (k₂ : k < 4 * size_at s d.0 - 1)
    (file : is_file (type_of s (slot_at (directory s d.0) k)) ≡ true)
  where
    abbrev n : ℕ
    n = block_count s

    abbrev e : ℕ
    e = slot_at (directory s d.0) k

    abbrev s₁ : List ℕ
    s₁ = delete_at s e

    E : Entry s e
    E = slot-entry s S d di k (omega arith)

    -- without it
    S₁ : Sound s₁
    S₁ = deleted-sound s S d di k k₁ k₂ file

    O : OneSlot s (dirs s) s₁ e
    O = deleted-slot s S d di k k₁ k₂ file

    was-file : is_directory (type_of s e) ≡ false
    was-file = file-no-dir (type_of s e) file

    zero-type : type_of s₁ e ≡ 0
    zero-type = deleted-type s S d di k k₁ k₂ file

    now-none : is_directory (type_of s₁ e) ≡ false
    now-none = rw zero-type

    same_blocks : dir_blocks s₁ ≡ dir_blocks s
    same_blocks = dir_blocks-same s s₁ O.len (kept s s₁ S d di k k₁ k₂ O was-file now-none)

    same-dirs : dirs s₁ ≡ dirs s
    same-dirs = tree-stays s s₁ S d di k k₁ k₂ O was-file now-none

    entry-back : (a : ℕ) → Entry s₁ a → Entry s a
    entry-back a A = record { within-tree = rw same_blocks at A.within-tree; aligned = A.aligned }

    entry-on : (a : ℕ) → Entry s a → Entry s₁ a
    entry-on a A = record { within-tree = rw same_blocks A.within-tree; aligned = A.aligned }

    owner-back : (a : ℕ) → Owner s₁ a → Owner s a
    owner-back = owner-map s₁ s (dirs s₁) (dirs s) entry-back

    owner-on : (a : ℕ) → Owner s a → Owner s₁ a
    owner-on = owner-map s s₁ (dirs s) (dirs s₁) entry-on

    fit : e + 128 ≤ length s
    fit = entry-high s S e E

    abbrev half : List ℕ
    half = splice s e (zeros 128)

    -- the slot j of the directory c is free then, and no slot of c has the name
    module _ (c : ℕ × ℕ) (ci : In c (dirs s₁)) (j : ℕ) (j₁ : 1 ≤ j) (j₂ : j < 4 * size_at s₁ c.0 - 1) (free : type_of s₁ (slot_at (directory s₁ c.0) j) ≡ 0)
        (name : List ℕ) (good : good_name name ≡ true)
        (none : (x : ℕ) → 1 ≤ x → x < 4 * size_at s₁ c.0 - 1 → type_of s₁ (slot_at (directory s₁ c.0) x) ≢ 0 → name ≢ name_of s₁ (slot_at (directory s₁ c.0) x))
      where
        abbrev e' : ℕ
        e' = slot_at (directory s₁ c.0) j

        abbrev p : List ℕ
        p = renamed s e name

        abbrev done : List ℕ
        done = splice half e' p

        F₁ : Entry s₁ e'
        F₁ = slot-entry s₁ S₁ c ci j (omega arith)

        F : Entry s e'
        F = entry-back e' F₁

        fit' : e' + 128 ≤ length s
        fit' = entry-high s S e' F

        eighty : length (padded name) ≡ 80
        eighty = padded-length name good

        long : length p ≡ 128
        unfolding renamed
        long = length-append (part s e 48) (padded name) ∙ omega (arith, length_part s e 48 (omega (arith, fit)), eighty)

        half_length : length half ≡ length s
        half_length = zeroed-length s e fit

        fits : e' + length p ≤ length half
        fits = omega (arith, long, half_length, fit')

        pub moved_length : length done ≡ length s
        moved_length = length-splice half e' p fits ∙ half_length

        outside : (a w : ℕ) → (a + w ≤ e) ⊎ (e + 128 ≤ a) → (a + w ≤ e') ⊎ (e' + 128 ≤ a) → Same s done a w
        outside a w h g =
            same_then s half done a w (zeroed-outside s e fit a w h)
            (same_beside half e' p fits a w (⊎_elim (λ x. inl x) (λ x. inr (omega (arith, long))) g))

        -- the table and the header stay
        before : Same s done 0 (512 * root_block n)
        before = outside 0 (512 * root_block n) (inl (omega (arith, entry-low s S e E))) (inl (omega (arith, entry-low s S e' F)))

        pub moved-next : (x : ℕ) → x < 128 * table_blocks n → next done x ≡ next s x
        moved-next = before-next s done n before

        pub moved-used : be32 done 20 ≡ be32 s 20
        moved-used = before-header s done n before 20 (omega arith)

        pub moved-agree : Agree s done (e / 512 ∷ e' / 512 ∷ [])
        moved-agree =
            agree_then (slot-agree s S e E s e (zeros 128) S.whole (omega arith) (omega (arith, length-zeros 128)))
            (slot-agree s S e' F half e' p (half_length ∙ S.whole) (omega arith) (omega (arith, long)))
            (in-single (e / 512) (e / 512 ∷ e' / 512 ∷ []) (inl refl)) (in-single (e' / 512) (e / 512 ∷ e' / 512 ∷ []) (inr (inl refl)))

        -- a block that no directory has
        block-stays : (q : ℕ) → (In q (dir_blocks s) → ⊥) → block done q ≡ block s q
        block-stays q out = agree-block q moved-agree λ m. ⊎_elim
            (λ z. out (rw z E.within-tree))
            (λ r. ⊎_elim (λ z. out (rw z F.within-tree)) (λ x. x) r) m

        -- THE ENTRY: its bytes before the name, and its name
        byte : (i : ℕ) → i < 48 → get_or done (e' + i) 0 ≡ get_or s (e + i) 0
        unfolding renamed
        byte i h =
            let l = length_part s e 48 (omega (arith, fit)) in
            get_d-splice-inside half e' p fits i (omega (arith, long)) ∙ get_or-append (part s e 48) (padded name) 0 i (omega arith) ∙ get_d_part s e 48 i h

        inner : (a w : ℕ) → a + w ≤ 48 → (i : ℕ) → i < w → get_or done (e' + a + i) 0 ≡ get_or s (e + a + i) 0
        inner a w h i l =
            let x : e' + a + i ≡ e' + (a + i) = omega arith in
            let y : e + a + i ≡ e + (a + i) = omega arith in
            rw (x, y) (byte (a + i) (omega arith))

        pub moved-type : type_of done e' ≡ type_of s e
        moved-type = let x : e' + 0 ≡ e' = omega arith in let y : e + 0 ≡ e = omega arith in rw (x, y) at (byte 0 (omega arith))

        field : (a : ℕ) → a + 4 ≤ 48 → be32 done (e' + a) ≡ be32 s (e + a)
        field a h = be32-same s done (e + a) (e' + a) (inner a 4 h)

        fields : (a w : ℕ) → a + w ≤ 48 → part done (e' + a) w ≡ part s (e + a) w
        fields a w h = part_same s done (e + a) (e' + a) w (inner a w h) (omega (arith, fit)) (omega (arith, fit', moved_length))

        named-field : part done (e' + 48) 80 ≡ padded name
        unfolding renamed
        named-field =
            let l = length_part s e 48 (omega (arith, fit)) in
            let m : part p 48 80 ≡ padded name = subst (λ (w : ℕ). part p 48 w ≡ padded name) eighty
            (subst (λ (ys : List ℕ). part (part s e 48 ++ ys) 48 (length (padded name)) ≡ padded name) (append-nil (padded name)) (part-middle (part s e 48) (padded name) [] 48 l)) in
            part_same p done 48 (e' + 48) 80
            (λ i h. let x : e' + 48 + i ≡ e' + (48 + i) = omega arith in rw x (get_d-splice-inside half e' p fits (48 + i) (omega (arith, long))))
            (omega (arith, long)) (omega (arith, fit', moved_length)) ∙ m

        pub moved-name : name_of done e' ≡ name
        moved-name = name-is name good done e' named-field

        pub moved-file : is_file (type_of done e') ≡ true
        moved-file = rw moved-type file

        pub moved-no-dir : is_directory (type_of done e') ≡ false
        moved-no-dir = file-no-dir (type_of done e') moved-file

        moved_ok : slot_ok done e' ≡ true
        unfolding file_ok attributes_ok no_attributes
        moved_ok =
            slot-ok-file done e' moved-file (and-join (name-ok name good done e' named-field)
            (rw (field 32 (omega arith), field 36 (omega arith), field 12 (omega arith), field 8 (omega arith), field 4 (omega arith))
            (and_split (name_ok s e) _ (file-slot-ok s e file (slot-ok s S d di k k₁ k₂))).1))

        -- every other slot is as the delete left it
        freed-fit : e + 128 ≤ length (released s n (all_blocks s e))
        freed-fit = omega (arith, fit, (released-agree n S.least (all_blocks s e) s S.whole (deleted-below s S d di k k₁ k₂ file)).size)

        zeroed-both : e ≢ e' → Same s₁ done e 128
        unfolding delete_at
        zeroed-both ne =
            same_back half s₁ done e 128 (λ i h. zeros-at (released s n (all_blocks s e)) e freed-fit i h ∙ sym (zeros-at s e fit i h))
            (same_beside half e' p fits e 128 (⊎_elim (λ x. inl x) (λ x. inr (omega (arith, long))) (entries-apart s S e e' E F ne)))

        pub moved-slot : OneSlot s₁ (dirs s₁) done e'
        moved-slot =
            record {
              len = moved_length ∙ sym O.len;
              head = same_back s s₁ done 0 20 O.head (same-inner s done 0 (512 * root_block n) 0 20 before (omega arith) (omega arith));
              tail = same_back s s₁ done 28 4 O.tail (same-inner s done 0 (512 * root_block n) 28 4 before (omega arith) (omega arith));
              slots = λ a A ne. slot-at a (entry-back a A) ne (ℕ_discrete a e);
              values = λ q i. let m : In q (dir_blocks s) = rw same_blocks at i in
                  moved-next q (omega (arith, (block-above s n S.tree S.least q m).1)) ∙ sym (O.values q m);
            }
          where
            slot-at : (a : ℕ) → Entry s a → a ≢ e' → Dec (a ≡ e) → Same s₁ done a 128
            slot-at a A ne (yes q) = subst (λ (x : ℕ). Same s₁ done x 128) (sym q) (zeroed-both (λ z. ne (q ∙ z)))
            slot-at a A ne (no p) = same_back s s₁ done a 128 (O.slots a A p) (outside a 128 (entries-apart s S a e A E p) (entries-apart s S a e' A F ne))

        -- THE CHAINS: those of the old slot are now those of the new one
        abbrev Holds : ℕ → ℕ → Type 0
        Holds a b = (held_at done a ≡ held_at s b) × (0 < held_at s b → first_block done a ≡ first_block s b)

        own_new : Holds e' e
        own_new = (rw (own_held done e' F.aligned, own_held s e E.aligned, moved-type, field 12 (omega arith)), λ pos. field 4 (omega arith))

        second-new : Holds (e' + 28) (e + 28)
        second-new = (
          rw (second-held done e' F.aligned, second-held s e E.aligned, moved-type, field 36 (omega arith)),
          λ pos. second-first done e' ∙ field 32 (omega arith) ∙ sym (second-first s e),
        )

        -- where the slots differ, the old one is free then, as the new one was
        module _ (ne : e ≢ e') where
          old-free : type_of done e ≡ 0
          old-free = same-type s₁ done e moved-slot.len (omega (arith, fit, O.len)) (zeroed-both ne) ∙ zero-type

          new-free : type_of s e' ≡ 0
          new-free = sym (same-type s s₁ e' O.len fit' (O.slots e' F (λ q. ne (sym q)))) ∙ free

          own-none : Holds e e'
          own-none =
              let z : held_at s e' ≡ 0 = none-held s e' F.aligned (rw new-free) in
              (none-held done e E.aligned (rw old-free) ∙ sym z, λ pos. absurd (omega arith))

          second_none : Holds (e + 28) (e' + 28)
          second_none =
              let z : held_at s (e' + 28) ≡ 0 = none-second s e' F.aligned (rw new-free) in
              (none-second done e E.aligned (rw old-free) ∙ sym z, λ pos. absurd (omega arith))

        own_old : Dec (e ≡ e') → Holds e e'
        own_old (yes q) = subst (λ (x : ℕ). Holds x e') (sym q) (subst (Holds e') q own_new)
        own_old (no ne) = own-none ne

        second-old : Dec (e ≡ e') → Holds (e + 28) (e' + 28)
        second-old (yes q) = subst (λ (x : ℕ). Holds (x + 28) (e' + 28)) (sym q) (subst (λ (x : ℕ). Holds (e' + 28) (x + 28)) q second-new)
        second-old (no ne) = second_none ne

        -- of all other owners they stay
        module _ (a : ℕ) (A : Owner s a) (p₁ : a ≢ e) (p₂ : a ≢ e + 28) where
          stayed : (held_at s₁ a ≡ held_at s a) × (first_block s₁ a ≡ first_block s a)
          stayed = owner-stays s s₁ (dirs s) e O.len (entry-high s S) O.slots a A p₁ p₂

          held-still : a ≢ e' → a ≢ e' + 28 → Holds a a
          held-still q₁ q₂ =
              let w = owner-stays s₁ done (dirs s₁) e' moved-slot.len (entry-high s₁ S₁) moved-slot.slots a (owner-on a A) q₁ q₂ in
              (w.0 ∙ stayed.0, λ pos. w.1 ∙ stayed.1)

        both-held : (a : ℕ) → Owner s a → Holds a (swap e e' (swap (e + 28) (e' + 28) a))
        both-held =
            let h = E.aligned in
            let g = F.aligned in
            swapped (e + 28) (e' + 28) (λ a b. Owner s a → Holds a (swap e e' b))
            (λ A. subst (Holds (e + 28)) (sym (swap-other e e' (e' + 28) (λ z. omega arith) (λ z. omega arith))) (second-old (ℕ_discrete e e')))
            (λ A. subst (Holds (e' + 28)) (sym (swap-other e e' (e + 28) (λ z. omega arith) (λ z. omega arith))) second-new)
            (λ a q₁ q₂. swapped e e' (λ x y. x ≢ e + 28 → x ≢ e' + 28 → Owner s x → Holds x y)
            (λ r₁ r₂ A. own_old (ℕ_discrete e e')) (λ r₁ r₂ A. own_new) (λ x p₁ p₂ r₁ r₂ A. held-still x A p₁ r₁ p₂ r₂) a q₁ q₂)

        moved-table : Table n (Owner s₁) (next done) (first_block done) (held_at done)
        moved-table =
            table_of n (Owner s) (Owner s₁) (next done) (first_block done) (held_at done) owner-back owner-on
            (table_same n (Owner s) (next s) (λ a. first_block s (swap e e' (swap (e + 28) (e' + 28) a))) (λ a. held_at s (swap e e' (swap (e + 28) (e' + 28) a)))
            (table-swapped (e + 28) (e' + 28) n (Owner s) (next s) (λ a. first_block s (swap e e' a)) (λ a. held_at s (swap e e' a)) (second-owner s (dirs s) e E) (second-owner s (dirs s) e' F)
            (table-swapped e e' n (Owner s) (next s) (first_block s) (held_at s) (inl E) (inl F) S.table))
            S.least (next done) (first_block done) (held_at done) moved-next (λ a A. (both-held a A).0) (λ a A pos. (both-held a A).1 pos))

        in-use : be32 done 20 ≡ occupied (next done) n
        in-use = moved-used ∙ S.used-is ∙ sym (before-occupied s done n before)

        not-in-use : be32 done 24 ≡ n - occupied (next done) n
        not-in-use = before-header s done n before 24 (omega arith) ∙ S.free-is ∙ ap (λ (x : ℕ). n - x) (sym (before-occupied s done n before))

        pub moved-sound : Sound done
        moved-sound =
            sound-again s₁ done S₁ c ci j j₁ j₂ moved-slot (rw free) moved-no-dir moved_ok (λ u x h g ne used q. none x h g used (sym moved-name ∙ q))
            (subst (λ (l : ℕ). Table (l / 512) (Owner s₁) (next done) (first_block done) (held_at done)) (sym O.len) moved-table)
            (subst (λ (l : ℕ). be32 done 20 ≡ occupied (next done) (l / 512)) (sym O.len) in-use)
            (subst (λ (l : ℕ). be32 done 24 ≡ l / 512 - occupied (next done) (l / 512)) (sym O.len) not-in-use)

        -- every other owner's blocks are as the delete left them
        module _ (a : ℕ) (A : Owner s₁ a) (q₁ : a ≢ e') (q₂ : a ≢ e' + 28) (apart : (x : ℕ × ℕ) → In x (dirs s₁) → a ≢ 512 * x.0) (q : ℕ) (i : In q (blocks_at s₁ a)) where
          apart-here : (x : ℕ × ℕ) → In x (dirs s) → a ≢ 512 * x.0
          apart-here x m = apart x (rw same-dirs m)

          -- the old slot has none
          not_own : a ≢ e
          not_own z =
              let h : held_at s₁ a ≡ 0 = ap (held_at s₁) z ∙ none-held s₁ e E.aligned (rw zero-type) in
              omega (arith, (held-at s₁ S₁ a A q i).1)

          not-second : a ≢ e + 28
          not-second z =
              let h : held_at s₁ a ≡ 0 = ap (held_at s₁) z ∙ none-second s₁ e E.aligned (rw zero-type) in
              omega (arith, (held-at s₁ S₁ a A q i).1)

          held-here : In q (blocks_at s a)
          held-here =
              let w = stayed a (owner-back a A) not_own not-second in
              rw (owner-blocks s s₁ a w.0 w.1 (deleted-next s S d di k k₁ k₂ file a (owner-back a A) not_own not-second apart-here)) at i

          pub moved-values : next done q ≡ next s₁ q
          moved-values =
              moved-next q (omega (arith, block-below s S a (owner-back a A) q held-here))
              ∙ sym (deleted-next s S d di k k₁ k₂ file a (owner-back a A) not_own not-second apart-here q held-here)

          pub moved-block : block done q ≡ block s₁ q
          moved-block =
              block-stays q (block-outside s S a (owner-back a A) apart-here q held-here)
              ∙ sym (deleted-block s S d di k k₁ k₂ file a (owner-back a A) not_own not-second apart-here q held-here)

        -- THE FILE: its blocks, bytes, attributes and other fields are what they were
        own_in : (q : ℕ) → In q (file_blocks s e) → In q (blocks_at s e)
        own_in q i = rw (file-blocks s S e E file) i

        second-in : (q : ℕ) → In q (attribute_blocks s e) → In q (blocks_at s (e + 28))
        second-in q i = rw (second-blocks s S e E file) i

        pub moved-blocks : file_blocks done e' ≡ file_blocks s e
        unfolding file_blocks
        moved-blocks =
            rw (field 4 (omega arith), field 12 (omega arith)) (chain-agree (next s) (next done) (first_block s e) (blocks_of s e)
            (λ y h. moved-next (nth (next s) y (first_block s e))
            (omega (arith, file-below s S e E file (nth (next s) y (first_block s e)) (chain-in (next s) (first_block s e) (blocks_of s e) (nth (next s) y (first_block s e)) y h refl)))))

        pub moved-second : attribute_blocks done e' ≡ attribute_blocks s e
        unfolding attribute_blocks
        moved-second =
            rw (field 32 (omega arith), field 36 (omega arith)) (chain-agree (next s) (next done) (attribute_block_of s e) (attribute_size_of s e)
            (λ y h. moved-next (nth (next s) y (attribute_block_of s e))
            (omega (arith, block-below s S (e + 28) (second s S e E file) (nth (next s) y (attribute_block_of s e)) (second-in (nth (next s) y (attribute_block_of s e)) (chain-in (next s) (attribute_block_of s e) (attribute_size_of s e) (nth (next s) y (attribute_block_of s e)) y h refl))))))

        moved-content : content done e' ≡ content s e
        unfolding content
        moved-content =
            rw (field 8 (omega arith), moved-blocks) (ap (take (size_of s e)) (joined_same (block s) (block done) (file_blocks s e)
            (λ q i. block-stays q (block-outside s S e (inl E) (file-no-self s S e E file) q (own_in q i)))))

        moved-attributes : attributes done e' ≡ attributes s e
        unfolding attributes
        moved-attributes =
            rw moved-second (joined_same (block s) (block done) (attribute_blocks s e)
            (λ q i. block-stays q (block-outside s S (e + 28) (second s S e E file) (second-no-self s S e E file) q (second-in q i))))

        pub moved_view : file_of done e' ≡ file_of s e
        unfolding file_of
        moved_view =
            let x : e' + 0 ≡ e' = omega arith in
            let y : e + 0 ≡ e = omega arith in
            let kind : part done e' 4 ≡ part s e 4 = rw (x, y) at (fields 0 4 (omega arith)) in
            rw (moved-content, moved-attributes, kind, fields 16 8 (omega arith), fields 24 8 (omega arith), fields 40 4 (omega arith))
