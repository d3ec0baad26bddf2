-- The blocks of a sound image: those that its entries own (a self entry its directory's, a file its own and its attributes'), in the volume, in use and
-- of one owner only; the free ones.
use Prim.Native.Nat.{ℕ, ◌+◌, ◌-◌, ◌*◌, ◌/◌, ◌%◌, ◌≤◌, ◌<◌}
use mathlib.Core.Path.{◌≡◌, refl, sym, ap, ◌∙◌, subst}
use mathlib.Core.Bool.{true, false, or-true}
use mathlib.Core.List.{List, []}
use mathlib.Core.Logic.{◌⊎◌, inl, inr, ⊎_elim, ◌≢◌}
use native.Mathlib.Omega.{arith}
use native.Mathlib.Decide.{ℕ_discrete}
use borrow.Author.Tests.{eqb-true, eq-eqb, ne_eqb}
use lib.ListN.{length, take, drop, length-take, take-append-drop}
use lib.Dec.{eqb}
use lib.Seq.{get_or-take}
use Rattle.layout.specs.Bytes.{block, be32}
use Rattle.layout.specs.Lists.{interval, select, distinct}
use Rattle.layout.specs.Geometry.{block_count, table_blocks}
use Rattle.layout.specs.Table.{next, chain, chain_ok, free_blocks, occupied}
use Rattle.layout.specs.Directory.{type_of, first_block, blocks_of, attribute_block_of, attribute_size_of, is_free, is_file, is_directory, name_ok, dirs, file_blocks, attribute_blocks}
use Rattle.layout.specs.Check.{no_attributes, file_ok, directory_entry_ok, slot_ok}
use Rattle.layout.specs.Claims.{LowestFree}
use Rattle.layout.proofs.Laws.Tests.{lt-or-gt, lt-or-ge, within-split, is_false, true-not-false, and_split}
use Rattle.layout.proofs.Laws.Lists.{In, has-eqb-in, in-has-eqb, distinct-left, in_take, select_in, select-ascends, select-lowest, select-distinct, select-split}
use Rattle.layout.proofs.Laws.Chains.{nth, chain-none, chain-used, in-chain, chain_ok-join}
use Rattle.layout.proofs.Laws.Joins.{of-join}
use Rattle.layout.proofs.Laws.Frames.{Same, same-part}
use Rattle.layout.proofs.Laws.Entries.{same-type, same-field}
use Rattle.layout.proofs.Laws.Visits.{dir_blocks, blocks_in}
use Rattle.layout.proofs.Laws.Trees.{size_at, in-directory, slot_at-zero}
use Rattle.layout.proofs.Laws.Sound.{held, held_at, Sound, Entry, owns, own_held, second-held, second-first, second-owner, EntryIn, Owner, OwnerIn, slot_ok-split}
use Rattle.layout.proofs.Laws.Slots.{right-dir, dir-least, slot-entry}

-- what an entry holds, by its type
pub file-held : (type b : ℕ) → is_file type ≡ true → held type b ≡ b
file-held type b f = rw (f, or-true (eqb type 1))

pub free-held : (type b : ℕ) → type ≡ 0 → held type b ≡ 0
free-held type b e = rw e

pub self-held : (type b : ℕ) → type ≡ 1 → held type b ≡ b
self-held type b e = rw e

pub dir-none : (type b : ℕ) → is_directory type ≡ true → held type b ≡ 0
dir-none type b t =
    let w = within-split 0x20 0x5F type t in
    rw (ne_eqb type 1 (λ q. omega arith), is_false (is_file type) (λ f. let v = within-split 0x60 0x9F type f in omega arith))

-- the two owners of an entry that is free, an end, or of a directory
pub none-held : (s : List ℕ) (e : ℕ) → e % 128 ≡ 0 → owns (type_of s e) ≡ false → held_at s e ≡ 0
none-held s e h z = own_held s e h ∙ (rw z)

pub none-second : (s : List ℕ) (e : ℕ) → e % 128 ≡ 0 → is_file (type_of s e) ≡ false → held_at s (e + 28) ≡ 0
none-second s e h z = second-held s e h ∙ (rw z)

pub directory-owns : (type : ℕ) → is_directory type ≡ true → (owns type ≡ false) × (is_file type ≡ false)
directory-owns type t =
    let w = within-split 0x20 0x5F type t in
    let f : is_file type ≡ false = is_false (is_file type) (λ f. let v = within-split 0x60 0x9F type f in omega arith) in
    (rw (ne_eqb type 1 (λ q. omega arith), f), f)

-- a file has a type between 0x60 and 0x9F
pub file-no-dir : (type : ℕ) → is_file type ≡ true → is_directory type ≡ false
file-no-dir type f = is_false _ (λ t. let a = within-split 0x20 0x5F type t in let b = within-split 0x60 0x9F type f in omega arith)

pub file-used-type : (type : ℕ) → is_file type ≡ true → type ≢ 0
file-used-type type f z = let w = within-split 0x60 0x9F type f in omega arith

-- the slot of a file is right as a file, that of a directory as its entry
pub file-slot-ok : (s : List ℕ) (e : ℕ) → is_file (type_of s e) ≡ true → slot_ok s e ≡ true → file_ok s e ≡ true
file-slot-ok s e f ok =
    ⊎_elim (λ z. absurd (file-used-type (type_of s e) f z)) (λ r. ⊎_elim (λ w. w.1) (λ w. absurd (true-not-false w.0 (file-no-dir (type_of s e) f))) r) (slot_ok-split s e ok)

pub slot-ok-file : (s : List ℕ) (e : ℕ) → is_file (type_of s e) ≡ true → file_ok s e ≡ true → slot_ok s e ≡ true
unfolding slot_ok
slot-ok-file s e f ok = rw (f, ok) (or-true (is_free (type_of s e)))

pub directory-slot-ok : (s : List ℕ) (e : ℕ) → is_directory (type_of s e) ≡ true → slot_ok s e ≡ true → directory_entry_ok s e ≡ true
directory-slot-ok s e t ok =
    ⊎_elim (λ z. let w = within-split 0x20 0x5F (type_of s e) t in absurd (omega arith))
    (λ r. ⊎_elim (λ w. absurd (true-not-false t (file-no-dir (type_of s e) w.0))) (λ w. w.1) r) (slot_ok-split s e ok)

pub directory-attributes : (s : List ℕ) (e : ℕ) → directory_entry_ok s e ≡ true → (attribute_size_of s e ≡ 0) × (attribute_blocks s e ≡ [])
unfolding directory_entry_ok no_attributes attribute_blocks
directory-attributes s e ok =
    let a = and_split (name_ok s e) _ ok in
    let b = and_split (no_attributes s e) _ a.1 in
    let z = eqb-true (attribute_size_of s e) 0 (and_split (eqb (attribute_block_of s e) 0) _ b.0).1 in
    (z, chain-none (next s) (attribute_block_of s e) (attribute_size_of s e) z)

-- the blocks that the entry at a owns
abbrev pub blocks_at : List ℕ → ℕ → List ℕ
blocks_at s a = chain (next s) (first_block s a) (held_at s a)

module _ (s : List ℕ) (S : Sound s) where
  abbrev n : ℕ
  n = block_count s

  -- a directory's self entry owns its blocks
  module _ (d : ℕ × ℕ) (di : In d (dirs s)) where
    pub self-first : first_block s (512 * d.0) ≡ d.0
    self-first = (right-dir s S d di).1.self-block

    pub self-size : held_at s (512 * d.0) ≡ size_at s d.0
    self-size = own_held s (512 * d.0) (omega arith) ∙ self-held (type_of s (512 * d.0)) (size_at s d.0) (right-dir s S d di).1.self_type

    pub self-entry : Entry s (512 * d.0)
    self-entry = let h = dir-least s S d di in rw (slot_at-zero s d.0 h) at (slot-entry s S d di 0 (omega arith))

  -- block x of the owner a
  module _ (a : ℕ) (E : Owner s a) (x : ℕ) (g : x < held_at s a) where
    abbrev q : ℕ
    q = nth (next s) x (first_block s a)

    pub held-above : table_blocks n < q
    held-above = (S.table.right a E).above x g

    pub held_below : q < n
    held_below = (S.table.right a E).below x g

    pub held-used : next s q ≢ 0
    held-used = chain-used (next s) n (first_block s a) (held_at s a) (S.table.right a E) S.least x g

    pub held-apart : (c : ℕ) → Owner s c → a ≢ c → (y : ℕ) → y < held_at s c → q ≢ nth (next s) y (first_block s c)
    held-apart c F ne y h = S.table.apart a c E F ne x y g h

    -- it is no directory block, if the owner is no self entry
    pub tree_apart : ((d : ℕ × ℕ) → In d (dirs s) → a ≢ 512 * d.0) → In q (dir_blocks s) → ⊥
    tree_apart no_self i =
        let r = of-join (blocks_in s) (dirs s) q i in
        let y = in-directory s r.0.0 q r.2 in
        held-apart (512 * r.0.0) (inl (self-entry r.0 r.1)) (no_self r.0 r.1) y.0 (omega (arith, self-size r.0 r.1, y.1))
        (y.2 ∙ ap (nth (next s) y.0) (sym (self-first r.0 r.1)))

  -- an entry lies beside every block that is not its own
  pub entry-beside : (a : ℕ) → Entry s a → (q : ℕ) → a / 512 ≢ q → (512 * q + 512 ≤ a) ⊎ (a + 128 ≤ 512 * q)
  entry-beside a E q ne =
      let h = E.aligned in
      ⊎_elim (λ lt. inr (omega arith)) (λ lt. inl (omega arith)) (lt-or-gt (a / 512) q ne)

  pub entry-elsewhere : (a : ℕ) → Entry s a → (t t' : List ℕ) → length t ≡ length s → length t' ≡ length t → ((i w : ℕ) → (i + w ≤ a) ⊎ (a + 128 ≤ i) → Same t t' i w)
      → (q : ℕ) → q < n → a / 512 ≢ q → block t' q ≡ block t q
  entry-elsewhere a E t t' lt len outside q qn ne =
      same-part t t' (512 * q) 512 (512 * q) 512 (outside (512 * q) 512 (entry-beside a E q ne)) (omega arith) (omega arith) (omega (arith, S.whole)) len

  -- a block stands among the blocks of one owner only
  pub one-owner : (b a c : ℕ) → Owner s a → Owner s c → In b (blocks_at s a) → In b (blocks_at s c) → a ≡ c
  one-owner b a c E F p r = go (ℕ_discrete a c)
    where
      go : Dec (a ≡ c) → a ≡ c
      go (yes e) = e
      go (no ne) =
          let x = in-chain (next s) (first_block s a) (held_at s a) b p in
          let y = in-chain (next s) (first_block s c) (held_at s c) b r in
          absurd (S.table.apart a c E F ne x.0 y.0 x.1 y.1 (sym x.2 ∙ y.2))

  -- the blocks of an owner
  module _ (a : ℕ) (A : Owner s a) where
    pub held-at : (q : ℕ) → In q (blocks_at s a) → (x : ℕ) × (x < held_at s a) × (q ≡ nth (next s) x (first_block s a))
    held-at q i = in-chain (next s) (first_block s a) (held_at s a) q i

    pub block-high : (q : ℕ) → In q (blocks_at s a) → table_blocks n < q
    block-high q i = let r = held-at q i in rw r.2 (held-above a A r.0 r.1)

    pub block-below : (q : ℕ) → In q (blocks_at s a) → q < n
    block-below q i = let r = held-at q i in rw r.2 (held_below a A r.0 r.1)

    pub block-used : (q : ℕ) → In q (blocks_at s a) → next s q ≢ 0
    block-used q i = let r = held-at q i in rw r.2 (held-used a A r.0 r.1)

    pub block_apart : (c : ℕ) → Owner s c → c ≢ a → (q : ℕ) → In q (blocks_at s c) → In q (blocks_at s a) → ⊥
    block_apart c F ne q i j = ne (one-owner q c a F A i j)

    pub block-outside : ((d : ℕ × ℕ) → In d (dirs s) → a ≢ 512 * d.0) → (q : ℕ) → In q (blocks_at s a) → In q (dir_blocks s) → ⊥
    block-outside no_self q i = let r = held-at q i in rw r.2 (tree_apart a A r.0 r.1 no_self)

  -- a file: its own chain, and its attributes'
  module _ (e : ℕ) (E : Entry s e) (file : is_file (type_of s e) ≡ true) where
    pub file-holds : held_at s e ≡ blocks_of s e
    file-holds = own_held s e E.aligned ∙ file-held (type_of s e) (blocks_of s e) file

    pub second_holds : held_at s (e + 28) ≡ attribute_size_of s e
    second_holds = second-held s e E.aligned ∙ (rw file)

    pub file-blocks : blocks_at s e ≡ file_blocks s e
    unfolding file_blocks
    file-blocks = ap (chain (next s) (first_block s e)) file-holds

    pub second-blocks : blocks_at s (e + 28) ≡ attribute_blocks s e
    unfolding attribute_blocks
    second-blocks = rw (second-first s e, second_holds)

    pub second : Owner s (e + 28)
    second = second-owner s (dirs s) e E

    owned : (q : ℕ) → In q (file_blocks s e) → In q (blocks_at s e)
    owned q i = rw file-blocks i

    pub file-above : (q : ℕ) → In q (file_blocks s e) → table_blocks n < q
    file-above q i = block-high e (inl E) q (owned q i)

    pub file-below : (q : ℕ) → In q (file_blocks s e) → q < n
    file-below q i = block-below e (inl E) q (owned q i)

    pub file-used : (q : ℕ) → In q (file_blocks s e) → next s q ≢ 0
    file-used q i = block-used e (inl E) q (owned q i)

    pub file-apart : (c : ℕ) → Owner s c → c ≢ e → (q : ℕ) → In q (blocks_at s c) → In q (file_blocks s e) → ⊥
    file-apart c F ne q i j = block_apart e (inl E) c F ne q i (owned q j)

    pub file-chained : chain_ok (next s) n (first_block s e) (blocks_of s e) ≡ true
    file-chained = subst (λ (b : ℕ). chain_ok (next s) n (first_block s e) b ≡ true) file-holds (chain_ok-join (next s) n (first_block s e) (held_at s e) (S.table.right e (inl E)))

    -- a file is no self entry
    pub file-no-self : (d : ℕ × ℕ) → In d (dirs s) → e ≢ 512 * d.0
    file-no-self d di q =
        let z : type_of s e ≡ 1 = ap (type_of s) q ∙ (right-dir s S d di).1.self_type in
        let w = within-split 0x60 0x9F (type_of s e) file in
        omega arith

    -- its attributes' chain is right, and shares no block with its own
    pub second-chained : chain_ok (next s) n (attribute_block_of s e) (attribute_size_of s e) ≡ true
    second-chained = rw (← second_holds, ← second-first s e) (chain_ok-join (next s) n (first_block s (e + 28)) (held_at s (e + 28)) (S.table.right (e + 28) second))

    pub second-apart : (q : ℕ) → In q (attribute_blocks s e) → In q (file_blocks s e) → ⊥
    second-apart q i j = file-apart (e + 28) second (λ z. omega arith) q (rw second-blocks i) j

    pub second-no-self : (d : ℕ × ℕ) → In d (dirs s) → e + 28 ≢ 512 * d.0
    second-no-self d di q = omega (arith, E.aligned)

-- an owner whose entry's bytes stay
own-stays : (s s' : List ℕ) → length s' ≡ length s → (e : ℕ) → e % 128 ≡ 0 → e + 128 ≤ length s → Same s s' e 128 → (held_at s' e ≡ held_at s e) × (first_block s' e ≡ first_block s e)
own-stays s s' len e h fit kept =
    (rw (own_held s' e h, own_held s e h, same-type s s' e len fit kept, same-field s s' e len fit kept 12 (omega arith)), same-field s s' e len fit kept 4 (omega arith))

second-stays : (s s' : List ℕ) → length s' ≡ length s → (e : ℕ) → e % 128 ≡ 0 → e + 128 ≤ length s → Same s s' e 128
    → (held_at s' (e + 28) ≡ held_at s (e + 28)) × (first_block s' (e + 28) ≡ first_block s (e + 28))
second-stays s s' len e h fit kept = (
  rw (second-held s' e h, second-held s e h, same-type s s' e len fit kept, same-field s s' e len fit kept 36 (omega arith)),
  rw (second-first s' e, second-first s e) (same-field s s' e len fit kept 32 (omega arith)),
)

pub owner-stays : (s s' : List ℕ) (ks : List (ℕ × ℕ)) (e : ℕ) → length s' ≡ length s → ((a : ℕ) → EntryIn s ks a → a + 128 ≤ length s) → ((a : ℕ) → EntryIn s ks a → a ≢ e → Same s s' a 128)
    → (a : ℕ) → OwnerIn s ks a → a ≢ e → a ≢ e + 28 → (held_at s' a ≡ held_at s a) × (first_block s' a ≡ first_block s a)
owner-stays s s' ks e len fits kept a (inl E) n₁ n₂ = own-stays s s' len a E.aligned (fits a E) (kept a E n₁)
owner-stays s s' ks e len fits kept a (inr F) n₁ n₂ =
    let h = F.place in
    let q : a ≡ a - 28 + 28 = omega arith in
    let E = F.entry in
    rw q (second-stays s s' len (a - 28) E.aligned (fits (a - 28) E) (kept (a - 28) E (λ z. n₂ (omega arith))))

-- the blocks that are free and those in use are all
pub free_of : (v : ℕ → ℕ) (n : ℕ) → length (free_blocks v n) + occupied v n ≡ n
unfolding free_blocks occupied
free_of v n = select-split (λ b. eqb (v b) 0) n 0

-- the free blocks are as many as the header says
pub free-count : (s : List ℕ) → Sound s → length (free_blocks (next s) (block_count s)) ≡ be32 s 24
unfolding free_blocks occupied
free-count s S = let a = select-split (λ b. eqb (next s b) 0) (block_count s) 0 in let b = S.free-is in omega arith

-- different blocks of the volume that are free
pub record Fresh (n : ℕ) (v : ℕ → ℕ) (bs : List ℕ) : Type 0 where
  pub above : (x : ℕ) → In x bs → table_blocks n < x
  pub below : (x : ℕ) → In x bs → x < n
  pub empty : (x : ℕ) → In x bs → v x ≡ 0
  pub distinct-all : distinct eqb bs ≡ true

-- of any values that are 1 up to t
pub fresh-of : (v : ℕ → ℕ) (n : ℕ) → ((b : ℕ) → b ≤ table_blocks n → v b ≢ 0) → (j : ℕ) → Fresh n v (take j (free_blocks v n))
unfolding free_blocks
fresh-of v n low j =
    record {
      above = λ x i. high x (fact x i) (lt-or-ge (table_blocks n) x);
      below = λ x i. let w = fact x i in omega arith;
      empty = λ x i. eqb-true (v x) 0 (fact x i).2;
      distinct-all = distinct-left eqb eqb-true (λ x. eq-eqb x x refl) (take j all) (drop j all) (rw (take-append-drop j all) (select-distinct (λ b. eqb (v b) 0) 0 n));
    }
  where
    all : List ℕ
    all = select (λ b. eqb (v b) 0) (interval 0 n)

    fact : (x : ℕ) → In x (take j all) → (0 ≤ x) × (x < 0 + n) × (eqb (v x) 0 ≡ true)
    fact x i = select_in (λ b. eqb (v b) 0) 0 n x (in_take x j all i)

    high : (x : ℕ) → (0 ≤ x) × (x < 0 + n) × (eqb (v x) 0 ≡ true) → (table_blocks n < x) ⊎ (x ≤ table_blocks n) → table_blocks n < x
    high x w (inl h) = h
    high x w (inr h) = absurd (low x h (eqb-true (v x) 0 w.2))

pub free-fresh : (s : List ℕ) → Sound s → (j : ℕ) → Fresh (block_count s) (next s) (take j (free_blocks (next s) (block_count s)))
free-fresh s S j = fresh-of (next s) (block_count s) (λ b h z. omega (arith, S.table.low b h)) j

-- the first j free blocks are the lowest ones, in ascending order
pub free-lowest : (s : List ℕ) (j : ℕ) → LowestFree s (take j (free_blocks (next s) (block_count s)))
unfolding free_blocks
free-lowest s j =
    record {
      free = λ b i. let w = select_in (λ x. eqb (next s x) 0) 0 (block_count s) b (in_take b j all (has-eqb-in b (take j all) i)) in (omega arith, eqb-true (next s b) 0 w.2);
      rising = λ i k h g. let l = length-take j all in
          rw (get_or-take j all i 0 (omega arith), get_or-take j all k 0 (omega arith)) (select-ascends (λ x. eqb (next s x) 0) (block_count s) 0 i k h (omega arith));
      lowest = λ b c i lt z. in-has-eqb b (take j all) (select-lowest (λ x. eqb (next s x) 0) (block_count s) 0 j b c (has-eqb-in c (take j all) i) lt (omega arith) (eq-eqb (next s b) 0 z));
    }
  where
    all : List ℕ
    all = select (λ x. eqb (next s x) 0) (interval 0 (block_count s))
