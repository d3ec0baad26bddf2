-- A directory is created: its blocks are taken, its self entry and end type written, and a free slot is its entry. The image after it is sound, and the tree has
-- just this directory more.
use Prim.Native.Nat.{ℕ, suc, ◌+◌, ◌-◌, ◌*◌, ◌/◌, ◌%◌, ◌≤◌, ◌<◌}
use mathlib.Core.Path.{◌≡◌, sym, ap, ◌∙◌, refl, subst}
use mathlib.Core.Bool.{Bool, true, ◌&&◌, ◌||◌, or-true}
use mathlib.Core.List.{List, [], ◌∷◌}
use mathlib.Core.Logic.{inl, inr, ⊎_elim, ◌≢◌, ◌⊎◌}
use native.Mathlib.Decide.{ℕ_discrete}
use native.Mathlib.Omega.{arith}
use lib.ListN.{length, get_or, take}
use Rattle.layout.specs.Claims.{Inserted, Untouched}
use Rattle.layout.specs.Limits.{max_levels, max_directory}
use Rattle.layout.specs.Lists.{joined}
use Rattle.layout.specs.Bytes.{be32, bytes4, bytes8, part, block, zeros, splice}
use Rattle.layout.specs.Geometry.{block_count, table_blocks, root_block}
use Rattle.layout.specs.Table.{next, chain, free_blocks}
use Rattle.layout.specs.Directory.{slot_at, type_of, first_block, size_of, blocks_of, is_free, is_file, is_directory, padded, name_of, good_name, directory, dirs, free_slot}
use Rattle.layout.specs.Check.{no_attributes, file_ok, directory_entry_ok, slot_ok, check}
use Rattle.layout.specs.Paths.{parts, leading, last_part, home}
use Rattle.volume.specs.Entries.{entry_bytes, directory_made, grown, blocks_named}
use Rattle.volume.specs.Views.{folder_of}
use Rattle.volume.specs.Directories.{create_directory_refusal, new_directory_blocks, create_directory_image}
use Rattle.volume.proofs.Laws.Entries.{entry-type, entry_first, entry-size, entry-blocks, entry-attribute, entry-attribute-size, entry-named, entry_length}
use Rattle.volume.proofs.Laws.Places.{create-directory-given, path-levels, path-name, place_is, place-home, place-free, place-new}
use Rattle.volume.proofs.Laws.Taken.{taken-many, taken-far, taken_none, taken-no-owner, taken-midway, taken-chain}
use Rattle.volume.proofs.Laws.Data.{grown-zero}
use Rattle.layout.proofs.Laws.Bytes.{part_same, length-splice, splice-first, be32-bytes4, get_d_part, get_d-zeros}
use Rattle.layout.proofs.Laws.Tests.{lt-or-gt}
use Rattle.layout.proofs.Laws.Names.{padded-length, name-is, name-ok}
use Rattle.layout.proofs.Laws.Lists.{In, get_d-in}
use Rattle.layout.proofs.Laws.Frames.{Same, same_then, same_beside, same-below, same-inside, same-be32, before-next, Agree}
use Rattle.layout.proofs.Laws.Counts.{occupied-most}
use Rattle.layout.proofs.Laws.Entries.{same-type, same-field, same-name-field}
use Rattle.layout.proofs.Laws.Chains.{nth, get_d-chain, chain-agree, nth-agree, Chain, chain-differ}
use Rattle.layout.proofs.Laws.Visits.{dir_blocks}
use Rattle.layout.proofs.Laws.Trees.{size_at, Directory}
use Rattle.layout.proofs.Laws.Sound.{held_at, Sound, Entry, Owner, sound, check-zero}
use Rattle.layout.proofs.Laws.Slots.{slot-entry, right-dir, entry-high, entry-low}
use Rattle.layout.proofs.Laws.Files.{joined-block}
use Rattle.layout.proofs.Laws.Owners.{blocks_at, Fresh, free-fresh, entry-beside, block-used}
use Rattle.layout.proofs.Laws.Steps.{over-same, Midway, bytes-step}
use Rattle.layout.proofs.Laws.Empties.{Empty, OneMore, staying-more, last-slot, directory-made, made-dirs}
use Rattle.layout.proofs.Laws.Changed.{OneSlot}
use Rattle.layout.proofs.Laws.Newcomers.{newcomer-untouched}
use Rattle.volume.proofs.Laws.Unchanged.{value-kept, block-kept}
use Rattle.volume.proofs.Laws.Table.{grown-next, grown-used}

-- a free slot k of the directory b₀ of the tree, a good name that none has there, d blocks free
module _ (s : List ℕ) (S : Sound s) (b₀ j : ℕ) (i₀ : In (b₀, suc j) (dirs s)) (k : ℕ) (k₁ : 1 ≤ k) (k₂ : k < 4 * size_at s b₀ - 1) (free : type_of s (slot_at (directory s b₀) k) ≡ 0)
    (name : List ℕ) (good : good_name name ≡ true)
    (none : (i : ℕ) → 1 ≤ i → i < 4 * size_at s b₀ - 1 → type_of s (slot_at (directory s b₀) i) ≢ 0 → name ≢ name_of s (slot_at (directory s b₀) i))
    (type user group permissions flags time : ℕ) (dir : is_directory type ≡ true)
    (d : ℕ) (d₁ : 1 ≤ d) (d₂ : d ≤ max_directory) (room : d ≤ length (free_blocks (next s) (block_count s)))
  where
    abbrev n : ℕ
    n = block_count s

    abbrev e : ℕ
    e = slot_at (directory s b₀) k

    mine : Entry s e
    mine = slot-entry s S (b₀, suc j) i₀ k (omega arith)

    abbrev new : List ℕ
    new = take d (free_blocks (next s) n)

    F : Fresh n (next s) new
    F = free-fresh s S d

    many : length new ≡ d
    many = taken-many s S d d₁ room

    abbrev b₁ : ℕ
    b₁ = get_or new 0 0

    first-in : In b₁ new
    first-in = get_d-in new 0 0 (omega (arith, many))

    far : (x : ℕ) → In x new → In x (dir_blocks s) → ⊥
    far = taken-far s S d d₁ room

    none₁ : Entry s (512 * b₁) → ⊥
    none₁ = taken_none s S d d₁ room

    none₂ : Owner s (512 * b₁) → ⊥
    none₂ = taken-no-owner s S d d₁ room

    abbrev P : ℕ → Type 0
    P = OneMore s (512 * b₁)

    abbrev larger : List ℕ
    larger = grown s n 0 new

    -- the blocks are taken, as the chain of the new self entry
    I₁ : Midway s (dirs s) P (first_block s) (held_at s) (512 * b₁) larger b₁ d
    I₁ = taken-midway s S d d₁ room

    chained : chain (next larger) b₁ d ≡ new
    chained = taken-chain s S d d₁ room

    right₁ : Chain (next larger) n b₁ d
    right₁ = rw (over-same (512 * b₁) b₁ (first_block s), over-same (512 * b₁) d (held_at s)) at (I₁.table.right (512 * b₁) (staying-more s S (512 * b₁) none₂).owner)

    abbrev B : ℕ → ℕ
    B x = nth (next larger) x b₁

    at_new : (x : ℕ) → x < d → get_or new x 0 ≡ B x
    at_new x h = ap (λ (l : List ℕ). get_or l x 0) (sym chained) ∙ get_d-chain (next larger) b₁ d x h

    B-in : (x : ℕ) → x < d → In (B x) new
    B-in x h = rw (at_new x h) at (get_d-in new x 0 (omega (arith, many)))

    B-apart : (x y : ℕ) → x < d → y < d → x ≢ y → B x ≢ B y
    B-apart x y hx hy ne q = ⊎_elim
        (λ lt. chain-differ (next larger) n b₁ d right₁ S.least x y lt hy q)
        (λ lt. chain-differ (next larger) n b₁ d right₁ S.least y x lt hx (sym q)) (lt-or-gt x y ne)

    slot_is : (i : ℕ) → i < 4 * d → slot_at new i ≡ 512 * B (i / 4) + 128 * (i % 4)
    unfolding slot_at
    slot_is i h = rw (at_new (i / 4) (omega arith))

    long-larger : length larger ≡ 512 * n
    long-larger = I₁.len ∙ S.whole

    -- its blocks are zero
    zero-byte : (x i : ℕ) → x < d → i < 512 → get_or larger (512 * B x + i) 0 ≡ 0
    zero-byte x i h g =
        let z = grown-zero n S.least new s 0 S.whole (omega (arith, S.least)) F.below F.above F.distinct-all in
        let J : List ℕ = joined (block larger) new in
        sym (get_d_part larger (512 * B x) 512 i g) ∙ ap (λ (l : ℕ). get_or (block larger l) i 0) (sym (at_new x h))
        ∙ ap (λ (l : List ℕ). get_or l i 0) (sym (joined-block larger new (λ y m. omega (arith, F.below y m, long-larger)) x (omega (arith, many))))
        ∙ get_d_part J (512 * x) 512 i g ∙ ap (λ (l : List ℕ). get_or l (512 * x + i) 0) z ∙ get_d-zeros (512 * length new) (512 * x + i)

    -- the self entry
    eighty : length (padded name) ≡ 80
    eighty = padded-length name good

    abbrev p₁ : List ℕ
    p₁ = entry_bytes 1 0 0 0 b₁ b₀ (length new) time 0 name

    long₁ : length p₁ ≡ 128
    long₁ = entry_length name eighty 1 0 0 0 b₁ b₀ (length new) time 0

    b₁-below : b₁ < n
    b₁-below = F.below b₁ first-in

    abbrev t₁ : List ℕ
    t₁ = splice larger (512 * b₁) p₁

    fits₁ : 512 * b₁ + 128 ≤ length larger
    fits₁ = omega (arith, b₁-below, long-larger)

    I₂ : Midway s (dirs s) P (first_block s) (held_at s) (512 * b₁) t₁ b₁ d
    I₂ =
        bytes-step s S (dirs s) P (first_block s) (held_at s) (512 * b₁) (staying-more s S (512 * b₁) none₂) larger b₁ d I₁ b₁ (F.above b₁ first-in) b₁-below (far b₁ first-in) (512 * b₁) p₁ (omega arith) (omega (arith, long₁))

    -- the end type
    abbrev last : ℕ
    last = slot_at new (4 * length new - 1)

    last-is : last ≡ 512 * B (d - 1) + 384
    last-is =
        let q : (4 * d - 1) / 4 ≡ d - 1 = omega arith in
        let r : (4 * d - 1) % 4 ≡ 3 = omega arith in
        rw many (slot_is (4 * d - 1) (omega arith) ∙ (rw (q, r)))

    abbrev ends : List ℕ
    ends = 0xFF ∷ []

    abbrev made : List ℕ
    made = splice t₁ last ends

    made-is : directory_made larger new b₀ time name ≡ made
    unfolding directory_made
    made-is = refl

    last-in : In (B (d - 1)) new
    last-in = B-in (d - 1) (omega arith)

    one_byte : length ends ≡ 1
    one_byte = refl

    fits₂ : last + length ends ≤ length t₁
    fits₂ = omega (arith, last-is, F.below (B (d - 1)) last-in, I₂.len, S.whole, one_byte)

    I₃ : Midway s (dirs s) P (first_block s) (held_at s) (512 * b₁) made b₁ d
    I₃ =
        bytes-step s S (dirs s) P (first_block s) (held_at s) (512 * b₁) (staying-more s S (512 * b₁) none₂) t₁ b₁ d I₂ (B (d - 1)) (F.above (B (d - 1)) last-in) (F.below (B (d - 1)) last-in)
        (far (B (d - 1)) last-in) last ends (omega (arith, last-is)) (omega (arith, last-is, one_byte))

    -- the slot
    abbrev p₂ : List ℕ
    p₂ = entry_bytes type user group permissions b₁ 0 d time flags name

    long₂ : length p₂ ≡ 128
    long₂ = entry_length name eighty type user group permissions b₁ 0 d time flags

    abbrev t' : List ℕ
    t' = splice made e p₂

    fits₃ : e + 128 ≤ length made
    fits₃ = omega (arith, entry-high s S e mine, I₃.len)

    len' : length t' ≡ length made
    len' = length-splice made e p₂ (omega (arith, long₂, fits₃))

    outside : (a w : ℕ) → (a + w ≤ e) ⊎ (e + 128 ≤ a) → Same made t' a w
    outside a w h = same_beside made e p₂ (omega (arith, long₂, fits₃)) a w (⊎_elim (λ x. inl x) (λ x. inr (omega (arith, long₂))) h)

    -- bytes of the new blocks are not the slot's
    beside : (x i w : ℕ) → x < d → i + w ≤ 512 → Same made t' (512 * B x + i) w
    beside x i w h g =
        outside (512 * B x + i) w (⊎_elim (λ q. inl (omega arith)) (λ q. inr (omega arith))
        (entry-beside s S e mine (B x) (λ q. far (B x) (B-in x h) (subst (λ (y : ℕ). In y (dir_blocks s)) q mine.within-tree))))

    -- the table's entries stay after the blocks are taken
    abbrev R : ℕ
    R = 512 * root_block n

    same₃ : Same larger t' 0 R
    same₃ =
        let a = F.above b₁ first-in in
        let b = F.above (B (d - 1)) last-in in
        same_then larger made t' 0 R (same_then larger t₁ made 0 R (same-below larger (512 * b₁) p₁ (omega (arith, long₁, fits₁)) 0 R (omega arith)) (same-below t₁ last ends fits₂ 0 R (omega (arith, last-is))))
        (outside 0 R (inl (omega (arith, entry-low s S e mine))))

    pub made_table : (x : ℕ) → x < 128 * table_blocks n → next t' x ≡ next larger x
    made_table = before-next larger t' n same₃

    -- the self entry stays after it is written
    apart-end : (512 * b₁ + 128 ≤ last) ⊎ (last + length ends ≤ 512 * b₁)
    apart-end = go (ℕ_discrete (d - 1) 0)
      where
        go : Dec (d - 1 ≡ 0) → (512 * b₁ + 128 ≤ last) ⊎ (last + length ends ≤ 512 * b₁)
        go (yes z) = let q : B (d - 1) ≡ b₁ = ap B z in inl (omega (arith, last-is))
        go (no ne) = ⊎_elim (λ lt. inr (omega (arith, last-is, one_byte))) (λ lt. inl (omega (arith, last-is))) (lt-or-gt (B (d - 1)) (B 0) (B-apart (d - 1) 0 (omega arith) (omega arith) ne))

    self-same : Same t₁ t' (512 * b₁) 128
    self-same =
        let z : 512 * B 0 + 0 ≡ 512 * b₁ = omega arith in
        same_then t₁ made t' (512 * b₁) 128 (same_beside t₁ last ends fits₂ (512 * b₁) 128 apart-end) (rw z at (beside 0 0 128 (omega arith) (omega arith)))

    long-t₁ : length t₁ ≡ length larger
    long-t₁ = length-splice larger (512 * b₁) p₁ (omega (arith, long₁, fits₁))

    len₁ : length t' ≡ length t₁
    len₁ = len' ∙ length-splice t₁ last ends fits₂

    fit-self : 512 * b₁ + 128 ≤ length t₁
    fit-self = omega (arith, fits₁, long-t₁)

    small₀ : b₀ < 0x100000000
    small₀ = omega (arith, (right-dir s S (b₀, suc j) i₀).1.chained.below 0 (right-dir s S (b₀, suc j) i₀).1.d-least, S.most)

    self_type : type_of t' (512 * b₁) ≡ 1
    self_type = same-type t₁ t' (512 * b₁) len₁ fit-self self-same ∙ entry-type name eighty 1 0 0 0 b₁ b₀ (length new) time 0 larger (512 * b₁) fits₁

    self-block : first_block t' (512 * b₁) ≡ b₁
    self-block =
        same-field t₁ t' (512 * b₁) len₁ fit-self self-same 4 (omega arith) ∙ entry_first name eighty 1 0 0 0 b₁ b₀ (length new) time 0 larger (512 * b₁) fits₁
        ∙ be32-bytes4 b₁ (omega (arith, b₁-below, S.most))

    self-parent : size_of t' (512 * b₁) ≡ b₀
    self-parent =
        same-field t₁ t' (512 * b₁) len₁ fit-self self-same 8 (omega arith) ∙ entry-size name eighty 1 0 0 0 b₁ b₀ (length new) time 0 larger (512 * b₁) fits₁ ∙ be32-bytes4 b₀ small₀

    self-size : size_at t' b₁ ≡ d
    self-size =
        same-field t₁ t' (512 * b₁) len₁ fit-self self-same 12 (omega arith) ∙ entry-blocks name eighty 1 0 0 0 b₁ b₀ (length new) time 0 larger (512 * b₁) fits₁
        ∙ be32-bytes4 (length new) (omega (arith, many)) ∙ many

    self-name : part t' (512 * b₁ + 48) 80 ≡ padded name
    self-name = same-name-field t₁ t' (512 * b₁) len₁ fit-self self-same ∙ entry-named name eighty 1 0 0 0 b₁ b₀ (length new) time 0 larger (512 * b₁) fits₁

    -- its chain
    passed : (y : ℕ) → y < d → next t' (B y) ≡ next larger (B y)
    passed y h = made_table (B y) (omega (arith, right₁.below y h))

    nth-same : (x : ℕ) → x ≤ d → nth (next t') x b₁ ≡ B x
    nth-same x h = nth-agree (next larger) (next t') x b₁ (λ y l. passed y (omega arith))

    blocks-are : directory t' b₁ ≡ new
    unfolding directory
    blocks-are = rw self-size (chain-agree (next larger) (next t') b₁ d passed ∙ chained)

    right_new : Directory t' n b₁ b₀
    right_new =
        record {
          self_type = self_type;
          self-block = self-block;
          self-parent = self-parent;
          d-least = rw self-size d₁;
          d-most = rw self-size d₂;
          chained =
              rw self-size (record {
                above = λ x h. rw (nth-same x (omega arith)) (right₁.above x h);
                below = λ x h. rw (nth-same x (omega arith)) (right₁.below x h);
                last = λ h. nth-same d (omega arith) ∙ right₁.last h;
              });
        }

    -- its slots
    end-byte : get_or t' last 0 ≡ 255
    end-byte =
        let z : last ≡ 512 * B (d - 1) + 384 + 0 = omega (arith, last-is) in
        let w : get_or t' (512 * B (d - 1) + 384 + 0) 0 ≡ get_or made (512 * B (d - 1) + 384 + 0) 0 = beside (d - 1) 384 1 (omega arith) (omega arith) 0 (omega arith) in
        ap (λ (x : ℕ). get_or t' x 0) z ∙ w ∙ ap (λ (x : ℕ). get_or made x 0) (sym z) ∙ splice-first t₁ last ends fits₂ (omega (arith, one_byte))

    -- slot i between the self entry and the end
    module _ (i : ℕ) (i₁ : 1 ≤ i) (i₂ : i < 4 * d - 1) where
      abbrev x : ℕ
      x = i / 4

      abbrev a : ℕ
      a = 512 * B (i / 4) + 128 * (i % 4)

      not-self : (a + 1 ≤ 512 * b₁) ⊎ (512 * b₁ + length p₁ ≤ a)
      not-self = go (ℕ_discrete (i / 4) 0)
        where
          go : Dec (i / 4 ≡ 0) → (a + 1 ≤ 512 * b₁) ⊎ (512 * b₁ + length p₁ ≤ a)
          go (yes z) = let q : B (i / 4) ≡ b₁ = ap B z in inr (omega (arith, long₁))
          go (no ne) = ⊎_elim (λ lt. inl (omega arith)) (λ lt. inr (omega (arith, long₁))) (lt-or-gt (B (i / 4)) (B 0) (B-apart (i / 4) 0 (omega arith) (omega arith) ne))

      not_end : (a + 1 ≤ last) ⊎ (last + length ends ≤ a)
      not_end = go (ℕ_discrete (i / 4) (d - 1))
        where
          go : Dec (i / 4 ≡ d - 1) → (a + 1 ≤ last) ⊎ (last + length ends ≤ a)
          go (yes z) = let q : B (i / 4) ≡ B (d - 1) = ap B z in inl (omega (arith, last-is))
          go (no ne) = ⊎_elim (λ lt. inl (omega (arith, last-is))) (λ lt. inr (omega (arith, last-is, one_byte))) (lt-or-gt (B (i / 4)) (B (d - 1)) (B-apart (i / 4) (d - 1) (omega arith) (omega arith) ne))

      free-byte : get_or t' a 0 ≡ 0
      free-byte =
          let z : a ≡ a + 0 = omega arith in
          ap (λ (y : ℕ). get_or t' y 0) z
          ∙ beside (i / 4) (128 * (i % 4)) 1 (omega arith) (omega arith) 0 (omega arith)
          ∙ same_beside t₁ last ends fits₂ a 1 not_end 0 (omega arith)
          ∙ same_beside larger (512 * b₁) p₁ (omega (arith, long₁, fits₁)) a 1 not-self 0 (omega arith)
          ∙ ap (λ (y : ℕ). get_or larger y 0) (sym z)
          ∙ zero-byte (i / 4) (128 * (i % 4)) (omega arith) (omega arith)

    bare : Empty t' b₁
    bare =
        record {
          least = rw self-size d₁;
          self_type = self_type;
          end-type = rw (blocks-are, self-size) (ap (λ (y : ℕ). get_or t' (slot_at new (4 * y - 1)) 0) (sym many) ∙ end-byte);
          free = rw (blocks-are, self-size) (λ i h g. rw (slot_is i (omega arith)) (free-byte i h g));
        }

    -- the entry
    e-type : type_of t' e ≡ type
    e-type = entry-type name eighty type user group permissions b₁ 0 d time flags made e fits₃

    e-field : part t' (e + 48) 80 ≡ padded name
    e-field = entry-named name eighty type user group permissions b₁ 0 d time flags made e fits₃

    e-first : first_block t' e ≡ b₁
    e-first = entry_first name eighty type user group permissions b₁ 0 d time flags made e fits₃ ∙ be32-bytes4 b₁ (omega (arith, b₁-below, S.most))

    e-blocks : blocks_of t' e ≡ d
    e-blocks = entry-blocks name eighty type user group permissions b₁ 0 d time flags made e fits₃ ∙ be32-bytes4 d (omega arith)

    e-size : size_of t' e ≡ 0
    e-size = entry-size name eighty type user group permissions b₁ 0 d time flags made e fits₃ ∙ be32-bytes4 0 (omega arith)

    e-ok : slot_ok t' e ≡ true
    unfolding slot_ok directory_entry_ok no_attributes
    e-ok =
        rw (
          name-ok name good t' e e-field,
          e-type,
          dir,
          e-size,
          entry-attribute name eighty type user group permissions b₁ 0 d time flags made e fits₃,
          entry-attribute-size name eighty type user group permissions b₁ 0 d time flags made e fits₃,
        )
        (ap (λ (b : Bool). is_free type || b) (or-true (is_file type && file_ok t' e)) ∙ or-true (is_free type))

    pub made-sound : Sound t'
    made-sound =
        directory-made s S b₀ j i₀ k k₁ k₂ b₁ d none₁ made I₃ t' len' outside free (rw e-type dir) e-first e-blocks e-ok
        (λ x h g ne used q. none x h g used (sym (name-is name good t' e e-field) ∙ q)) right_new self-size bare (self-name ∙ sym e-field)

    -- the tree has just this directory more
    pub made-tree : Inserted (b₁, j) (dirs s) (dirs t')
    made-tree =
        made-dirs s S b₀ j i₀ k k₁ k₂ b₁ d none₁ made I₃ t' len' outside free (rw e-type dir) e-first e-blocks e-ok
        (λ x h g ne used q. none x h g used (sym (name-is name good t' e e-field) ∙ q)) right_new self-size bare (self-name ∙ sym e-field)

    -- the files of all paths stay
    pub made-slot : OneSlot s (dirs s) t' e
    made-slot = last-slot s S b₀ j i₀ k k₁ k₂ (dirs s) (λ x i. i) P (first_block s) (held_at s) (512 * b₁) made b₁ d I₃ t' len' outside

    -- the table's entries and the blocks of every owner stay
    made-values : (y : ℕ) → y < 128 * table_blocks n → (In y new → ⊥) → next t' y ≡ next s y
    made-values y h ne =
        made_table y h ∙ grown-next n S.least new s 0 y S.whole (omega (arith, S.least)) F.below F.above h ne (λ pos. absurd (omega arith))

    not_taken : (a : ℕ) → Owner s a → (q : ℕ) → In q (blocks_at s a) → In q new → ⊥
    not_taken a A q i m = block-used s S a A q i (F.empty q m)

    pub made-untouched : Agree s t' (e / 512 ∷ blocks_named new) → (other : List ℕ) → Untouched s t' other
    made-untouched G other =
        newcomer-untouched s t' S b₀ j i₀ k k₁ k₂ made-slot free (rw e-type dir) (rw e-first bare)
        (λ x h g ne used q. none x h g used (sym (name-is name good t' e e-field) ∙ q))
        (λ a A p r apart. value-kept s S e mine new t' G F.below made-values a A apart (not_taken a A))
        (λ a A p r apart. block-kept s S e mine new t' G F.below made-values a A apart (not_taken a A)) other

    -- what the new entry shows, and the blocks in use
    pub made-dir : is_directory (type_of t' e) ≡ true
    made-dir = rw e-type dir

    pub made-bare : Empty t' (first_block t' e)
    made-bare = rw e-first bare

    pub made-name : name_of t' e ≡ name
    made-name = name-is name good t' e e-field

    made-part : (i w : ℕ) → i + w ≤ 128 → part t' (e + i) w ≡ part p₂ i w
    made-part i w h =
        part_same p₂ t' i (e + i) w (same-inside made e p₂ (omega (arith, long₂, fits₃)) i w (omega (arith, long₂))) (omega (arith, long₂)) (omega (arith, fits₃, len'))

    pub made-folder : folder_of t' e ≡ record { kind = type ∷ user ∷ group ∷ permissions ∷ []; created = bytes8 time; modified = bytes8 time; flags = bytes4 flags; size = d }
    unfolding folder_of entry_bytes bytes4 bytes8 zeros
    made-folder =
        let z : e + 0 ≡ e = omega arith in
        let q : part t' e 4 ≡ type ∷ user ∷ group ∷ permissions ∷ [] = rw z at (made-part 0 4 (omega arith)) in
        rw (e-blocks, q, made-part 16 8 (omega arith), made-part 24 8 (omega arith), made-part 40 4 (omega arith))

    pub made-used : be32 t' 20 ≡ be32 s 20 + d
    made-used =
        let low = entry-low s S e mine in
        let above = F.above b₁ first-in in
        let l = last-is in
        let up = F.above (B (d - 1)) (B-in (d - 1) (omega arith)) in
        let few = occupied-most (next s) n in
        let u = S.used-is in
        let m = S.most in
        let g = grown-used n S.least new s 0 S.whole (omega (arith, S.least)) F.below (omega (arith, many)) in
        same-be32 made t' 0 28 20 (outside 0 28 (inl (omega arith))) (omega arith) (omega arith)
        ∙ same-be32 t₁ made 0 28 20 (same-below t₁ last ends fits₂ 0 28 (omega arith)) (omega arith) (omega arith)
        ∙ same-be32 larger t₁ 0 28 20 (same-below larger (512 * b₁) p₁ (omega (arith, long₁, fits₁)) 0 28 (omega arith)) (omega arith) (omega arith)
        ∙ g ∙ ap (λ (x : ℕ). be32 s 20 + x) many

    pub made-inserted : Inserted (first_block t' e, j) (dirs s) (dirs t')
    made-inserted = rw e-first made-tree

pub kept-create-directory : (s path : List ℕ) (type user group permissions flags time d : ℕ) → check s ≡ 0 → create_directory_refusal s path type flags d ≡ 0
    → check (create_directory_image s path type user group permissions flags time d) ≡ 0
unfolding create_directory_image new_directory_blocks directory_made
kept-create-directory s path type user group permissions flags time d c r =
    let G = create-directory-given s path type flags d r in
    let l = path-levels path G.good G.deep in
    let w = place-free s path G.placed in
    let home-in : In (home s path, suc (max_levels - suc (length (leading (parts path))))) (dirs s) = rw l.1 (place-home s path G.placed l.0) in
    rw (place_is s path G.placed) (check-zero _ (made-sound s (sound s c) (home s path) (max_levels - suc (length (leading (parts path)))) home-in
    (free_slot s (directory s (home s path))) w.0 w.1 w.2 (last_part (parts path)) (path-name path G.good) (place-new s path G.placed) type user group permissions flags time G.dir
    d G.least G.most G.room))
