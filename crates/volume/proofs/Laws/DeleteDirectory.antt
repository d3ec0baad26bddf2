-- Delete, of an empty directory: the image after it is sound, the tree has lost just this directory, and read backwards a directory comes.
use Prim.Native.Nat.{ℕ, suc, ◌+◌, ◌-◌, ◌*◌, ◌/◌, ◌≤◌, ◌<◌}
use mathlib.Core.Path.{◌≡◌, refl, sym, ap, ◌∙◌, subst}
use mathlib.Core.Bool.{true, false, not}
use mathlib.Core.List.{List, [], ◌∷◌, ◌++◌, append-nil}
use mathlib.Core.Logic.{inl, inr, ⊎_elim, ◌≢◌}
use native.Mathlib.Omega.{arith}
use lib.ListN.{length}
use lib.Dec.{eqb}
use borrow.Author.Tests.{eqb-true, eqb-false, not-true}
use Rattle.layout.specs.Claims.{Inserted, Untouched}
use Rattle.layout.specs.Limits.{max_levels}
use Rattle.layout.specs.Lists.{distinct}
use Rattle.layout.specs.Bytes.{be32, zeros, splice, block}
use Rattle.layout.specs.Geometry.{block_count, table_blocks, root_block}
use Rattle.layout.specs.Table.{next}
use Rattle.layout.specs.Directory.{slot_at, slots, type_of, first_block, blocks_of, is_free, is_directory, is_empty, name_of, directory, children, dirs, file_blocks, attribute_blocks}
use Rattle.layout.specs.Check.{check}
use Rattle.layout.specs.Paths.{parts, path_ok, leading, shallow, home, path_slot, entry_of, directory_refusal}
use Rattle.volume.specs.Entries.{released, blocks_named}
use Rattle.volume.specs.Delete.{all_blocks, delete_at}
use Rattle.volume.specs.Directories.{delete_directory_refusal}
use Rattle.volume.proofs.Laws.Release.{released-steps}
use Rattle.volume.proofs.Laws.Delete.{zeroed-length, zeroed-outside, zeroed-type}
use Rattle.volume.proofs.Laws.Places.{path-levels}
use Rattle.layout.proofs.Laws.Tests.{require-zero, first_of-zero, within-split}
use Rattle.layout.proofs.Laws.Lists.{In, every_in}
use Rattle.layout.proofs.Laws.Frames.{same-be32, before-next, Agree, agree-block}
use Rattle.layout.proofs.Laws.Trees.{size_at, Directory, child_ok-split, length-directory, in-directory, same-dir}
use Rattle.layout.proofs.Laws.Sound.{held_at, Sound, Entry, Owner, sound, check-zero}
use Rattle.layout.proofs.Laws.Slots.{slot-ok, slot-entry, slot-entry-in, slot-other, slots-in, children-in, right-dir, entry-high, entry-low, names-differ}
use Rattle.layout.proofs.Laws.Owners.{blocks_at, directory-slot-ok, directory-attributes, block-high, block-below, block-used, block-outside}
use Rattle.layout.proofs.Laws.Visits.{blocks_in, dir_blocks}
use Rattle.layout.proofs.Laws.Chains.{chain-used, chain-distinct}
use Rattle.layout.proofs.Laws.Changed.{OneSlot, blocks-stay, size-stays, type-stays, name-stays}
use Rattle.volume.proofs.Laws.Frame.{blocks-not}
use Rattle.volume.proofs.Laws.Table.{released-at, released-next, released-occupied}
use Rattle.layout.proofs.Laws.Spread.{split_at}
use Rattle.layout.proofs.Laws.Comes.{inserted-in, in-inserted}
use Rattle.layout.proofs.Laws.Joins.{of-join, to-join}
use Rattle.layout.proofs.Laws.Goes.{gone-in, dir-kept, entry-ks}
use Rattle.layout.proofs.Laws.Steps.{Midway}
use Rattle.layout.proofs.Laws.Empties.{Empty, empty_leaf, last-slot, staying-less, midway-less, directory-removed, removed-dirs}
use Rattle.layout.proofs.Laws.Paths.{path-named, path-home}
use Rattle.layout.proofs.Laws.Newcomers.{newcomer-untouched}

-- an empty directory, whose entry is slot k of the directory b₀
module _ (s : List ℕ) (S : Sound s) (b₀ j : ℕ) (i₀ : In (b₀, suc j) (dirs s)) (k : ℕ) (k₁ : 1 ≤ k) (k₂ : k < 4 * size_at s b₀ - 1)
    (was : is_directory (type_of s (slot_at (directory s b₀) k)) ≡ true) (bare : is_empty s (first_block s (slot_at (directory s b₀) k)) ≡ true)
  where
    abbrev e₀ : ℕ
    e₀ = slot_at (directory s b₀) k

    abbrev c : ℕ
    c = first_block s e₀

    gone : In (c, j) (dirs s)
    gone = gone-in s s S b₀ j i₀ k k₁ k₂ was

    empty : Empty s c
    unfolding is_empty
    empty =
        record {
          least = (right-dir s S (c, j) gone).1.d-least;
          self_type = (right-dir s S (c, j) gone).1.self_type;
          end-type = rw (length-directory s c) at (S.tree.local (c, j) gone).end-type;
          free = λ x h g. eqb-true _ 0 (every_in (λ i. is_free (type_of s (slot_at (directory s c) i))) (slots (directory s c)) x bare (slots-in s c x h g));
        }

    at : (ps : List (ℕ × ℕ)) × (qs : List (ℕ × ℕ)) × (dirs s ≡ ps ++ ((c, j) ∷ qs))
    at = split_at (c, j) (dirs s) gone

    abbrev ks : List (ℕ × ℕ)
    ks = at.0 ++ at.1

    cut : Inserted (c, j) ks (dirs s)
    cut = record { front = at.0; back = at.1; less-is = refl; more-is = at.2 }

    same_blocks : blocks_of s e₀ ≡ size_at s c
    same_blocks = sym (child_ok-split s (block_count s) b₀ e₀ ((S.tree.local (b₀, suc j) i₀).child e₀ (children-in s b₀ k k₁ k₂ was))).1

    -- its blocks: it has no attributes
    pub removed-attributes : attribute_blocks s (slot_at (directory s b₀) k) ≡ []
    removed-attributes = (directory-attributes s e₀ (directory-slot-ok s e₀ was (slot-ok s S (b₀, suc j) i₀ k k₁ k₂))).1

    own-blocks : all_blocks s e₀ ≡ directory s c
    unfolding all_blocks directory file_blocks
    own-blocks = rw removed-attributes (append-nil (file_blocks s e₀) ∙ rw same_blocks)

    abbrev smaller : List ℕ
    smaller = released s (block_count s) (all_blocks s e₀)

    released-all : (z : ℕ) × Midway s ks (Owner s) (first_block s) (held_at s) (512 * c) smaller z 0
    unfolding directory
    released-all =
        rw own-blocks
        (released-steps s S ks (Owner s) (first_block s) (held_at s) (512 * c) (staying-less s S b₀ j i₀ k k₁ k₂ was empty ks cut) (size_at s c) s c (midway-less s S b₀ j i₀ k k₁ k₂ was empty ks cut))

    room : e₀ + 128 ≤ length smaller
    room = omega (arith, entry-high s S e₀ (slot-entry s S (b₀, suc j) i₀ k (omega arith)), released-all.1.len)

    pub removed-sound : Sound (delete_at s e₀)
    unfolding delete_at
    removed-sound =
        directory-removed s S b₀ j i₀ k k₁ k₂ was empty ks cut smaller released-all.0 released-all.1 (delete_at s e₀) (zeroed-length smaller e₀ room) (zeroed-outside smaller e₀ room) (zeroed-type smaller e₀ room)

    -- the tree has lost just this directory
    pub removed-tree : Inserted (c, j) (dirs (delete_at s e₀)) (dirs s)
    unfolding delete_at
    removed-tree =
        removed-dirs s S b₀ j i₀ k k₁ k₂ was empty ks cut smaller released-all.0 released-all.1 (delete_at s e₀) (zeroed-length smaller e₀ room) (zeroed-outside smaller e₀ room) (zeroed-type smaller e₀ room)

    D : Directory s (block_count s) c (right-dir s S (c, j) gone).0
    D = (right-dir s S (c, j) gone).1

    within : (q : ℕ) → In q (all_blocks s e₀) → q < block_count s
    within q i = let x = in-directory s c q (rw own-blocks at i) in rw x.2 (D.chained.below x.0 x.1)

    beyond : (q : ℕ) → In q (all_blocks s e₀) → table_blocks (block_count s) < q
    beyond q i = let x = in-directory s c q (rw own-blocks at i) in rw x.2 (D.chained.above x.0 x.1)

    once : distinct eqb (all_blocks s e₀) ≡ true
    unfolding directory
    once = rw own-blocks (chain-distinct (next s) (block_count s) c (size_at s c) D.chained S.least)

    in-use : (q : ℕ) → In q (all_blocks s e₀) → next s q ≢ 0
    in-use q i = let y = in-directory s c q (rw own-blocks at i) in rw y.2 (chain-used (next s) (block_count s) c (size_at s c) D.chained S.least y.0 y.1)

    E₀ : Entry s e₀
    E₀ = slot-entry s S (b₀, suc j) i₀ k (omega arith)

    -- as many blocks less are in use as it has
    pub removed-used : be32 s 20 ≡ blocks_of s e₀ + be32 (delete_at s e₀) 20
    unfolding delete_at
    removed-used =
        let l : length (all_blocks s e₀) ≡ blocks_of s e₀ = ap length own-blocks ∙ length-directory s c ∙ sym same_blocks in
        let o = released-occupied (block_count s) S.least (all_blocks s e₀) s S.whole within beyond in-use once in
        let u = released-all.1.used in
        let w = S.used-is in
        let low = entry-low s S e₀ E₀ in
        let h : be32 (splice smaller e₀ (zeros 128)) 20 ≡ be32 smaller 20 = same-be32 smaller (splice smaller e₀ (zeros 128)) 0 28 20 (zeroed-outside smaller e₀ room 0 28 (inl (omega arith))) (omega arith) (omega arith) in
        omega arith

    -- READ BACKWARDS: s is the image after it with one empty directory more
    abbrev small : List ℕ
    small = delete_at s e₀

    sub : (d : ℕ × ℕ) → In d ks → In d (dirs s)
    sub d i = in-inserted (c, j) ks (dirs s) cut d i

    in-ks : In (b₀, suc j) ks
    in-ks = ⊎_elim (λ m. m) (λ q. absurd (let z : suc j ≡ j = ap (λ (w : ℕ × ℕ). w.1) q in omega arith)) (inserted-in (c, j) ks (dirs s) cut (b₀, suc j) i₀)

    leaf : children s c ≡ []
    leaf = empty_leaf s c empty

    O : OneSlot s ks small e₀
    unfolding delete_at
    O = last-slot s S b₀ j i₀ k k₁ k₂ ks sub (Owner s) (first_block s) (held_at s) (512 * c) smaller released-all.0 0 released-all.1 (delete_at s e₀) (zeroed-length smaller e₀ room) (zeroed-outside smaller e₀ room)

    pub removed-type : type_of (delete_at s e₀) e₀ ≡ 0
    unfolding delete_at
    removed-type = zeroed-type smaller e₀ room

    now : is_directory (type_of small e₀) ≡ false
    now = rw removed-type

    kept-dir : (d : ℕ × ℕ) → In d (dirs small) → In d ks
    kept-dir = dir-kept s small S b₀ j i₀ k k₁ k₂ was ks cut O now leaf

    blocks-kept : (d : ℕ × ℕ) → In d ks → directory small d.0 ≡ directory s d.0
    blocks-kept d di = blocks-stay s small S ks sub (b₀, suc j) in-ks k k₁ k₂ O d di

    pub small-dir : directory (delete_at s e₀) b₀ ≡ directory s b₀
    small-dir = blocks-kept (b₀, suc j) in-ks

    pub small_size : size_at (delete_at s e₀) b₀ ≡ size_at s b₀
    small_size = size-stays s small S ks sub (b₀, suc j) in-ks k k₁ k₂ O (b₀, suc j) in-ks

    pub small-in : In (b₀, suc j) (dirs (delete_at s e₀))
    small-in = ⊎_elim (λ m. m) (λ q. absurd (let z : suc j ≡ j = ap (λ (w : ℕ × ℕ). w.1) q in omega arith)) (inserted-in (c, j) (dirs small) (dirs s) removed-tree (b₀, suc j) i₀)

    back-slot : OneSlot small (dirs small) s e₀
    back-slot =
        record {
          len = sym O.len;
          head = λ i h. sym (O.head i h);
          tail = λ i h. sym (O.tail i h);
          slots = λ a E ne i h. sym (O.slots a (entry-ks s small S b₀ j i₀ k k₁ k₂ was ks cut O now leaf a E) ne i h);
          values = λ q i.
              let r = of-join (blocks_in small) (dirs small) q i in
              let m = kept-dir r.0 r.1 in
              sym (O.values q (to-join (blocks_in s) ks r.0 q m (subst (In q) (blocks-kept r.0 m) r.2)));
        }

    pub small_slot : OneSlot (delete_at s e₀) (dirs (delete_at s e₀)) s (slot_at (directory (delete_at s e₀) b₀) k)
    small_slot = rw small-dir back-slot

    -- the blocks of the owners that are left
    module _ (a : ℕ) (A : Owner small a) (q : ℕ) (i : In q (blocks_at small a)) where
      count_same : block_count small ≡ block_count s
      count_same = ap (λ (y : ℕ). y / 512) O.len

      below-n : q < block_count s
      below-n = rw count_same at (block-below small removed-sound a A q i)

      table_kept : next small q ≡ next smaller q
      unfolding delete_at
      table_kept =
          before-next smaller (splice smaller e₀ (zeros 128)) (block_count s) (zeroed-outside smaller e₀ room 0 (512 * root_block (block_count s)) (inl (omega (arith, entry-low s S e₀ E₀)))) q
          (let b = below-n in let m = S.least in omega arith)

      not-freed : In q (all_blocks s e₀) → ⊥
      not-freed m = block-used small removed-sound a A q i (table_kept ∙ released-at (block_count s) S.least (all_blocks s e₀) s S.whole within beyond once q m)

      back-value : next s q ≡ next small q
      back-value = sym (table_kept ∙ released-next (block_count s) S.least (all_blocks s e₀) s q S.whole within beyond (let b = below-n in let m = S.least in omega arith) not-freed)

      back-block : Agree s small (e₀ / 512 ∷ blocks_named (all_blocks s e₀)) → ((x : ℕ × ℕ) → In x (dirs small) → a ≢ 512 * x.0) → block s q ≡ block small q
      back-block G apart = sym (agree-block q G named-not)
        where
          named-not : In q (e₀ / 512 ∷ blocks_named (all_blocks s e₀)) → ⊥
          named-not (inl z) =
              block-outside small removed-sound a A apart q i (subst (λ (y : ℕ). In y (dir_blocks small)) (sym z) (subst (λ (y : ℕ). In (y / 512) (dir_blocks small)) (ap (λ (ds : List ℕ). slot_at ds k) small-dir)
              (slot-entry small removed-sound (b₀, suc j) small-in k (let w = small_size in omega arith)).within-tree))
          named-not (inr m) =
              blocks-not (block_count s) (all_blocks s e₀) within q (subst (λ (y : ℕ). table_blocks y < q) count_same (block-high small removed-sound a A q i)) not-freed m

    pub back-new : (x : ℕ) → 1 ≤ x → x < 4 * size_at (delete_at s e₀) b₀ - 1 → x ≢ k → type_of (delete_at s e₀) (slot_at (directory (delete_at s e₀) b₀) x) ≢ 0
        → name_of s (slot_at (directory (delete_at s e₀) b₀) k) ≢ name_of (delete_at s e₀) (slot_at (directory (delete_at s e₀) b₀) x)
    back-new x h g ne u q =
        let w = small_size in
        let p : slot_at (directory small b₀) x ≡ slot_at (directory s b₀) x = ap (λ (ds : List ℕ). slot_at ds x) small-dir in
        let p₀ : slot_at (directory small b₀) k ≡ e₀ = ap (λ (ds : List ℕ). slot_at ds k) small-dir in
        let away = slot-other s S (b₀, suc j) i₀ x (omega arith) (b₀, suc j) i₀ k (omega arith) (inr ne) in
        let E = slot-entry-in s S (b₀, suc j) i₀ x (omega arith) ks in-ks in
        let type = type-stays s small S ks sub (b₀, suc j) in-ks k k₁ k₂ O (slot_at (directory s b₀) x) E away in
        let name = name-stays s small S ks sub (b₀, suc j) in-ks k k₁ k₂ O (slot_at (directory s b₀) x) E away in
        names-differ s S (b₀, suc j) i₀ k x k₁ h k₂ (omega arith) (λ z. ne (sym z)) (λ z. let v = within-split 0x20 0x5F (type_of s e₀) was in omega arith)
        (λ z. u (ap (type_of small) p ∙ type ∙ z)) (ap (name_of s) (sym p₀) ∙ q ∙ ap (name_of small) p ∙ name)

    -- the file of every path is the one that was
    pub back-untouched : Agree s (delete_at s e₀) (e₀ / 512 ∷ blocks_named (all_blocks s e₀)) → (other : List ℕ) → Untouched (delete_at s e₀) s other
    back-untouched G other =
        newcomer-untouched small s removed-sound b₀ j small-in k k₁ (let w = small_size in omega arith) small_slot (rw small-dir removed-type) (rw small-dir was) (rw small-dir empty) back-new
        (λ a A p r apart q i. back-value a A q i) (λ a A p r apart q i. back-block a A q i G apart) other

    -- two directories do not begin at one block
    pub not_itself : b₀ ≢ first_block s (slot_at (directory s b₀) k)
    not_itself z =
        let w = same-dir s (block_count s) S.tree S.least (b₀, suc j) (c, j) i₀ gone 0 0 (right-dir s S (b₀, suc j) i₀).1.d-least D.d-least z in
        let l : suc j ≡ j = ap (λ (v : ℕ × ℕ). v.1) w in
        omega arith

    pub back-empty : Empty s (first_block s (slot_at (directory s b₀) k))
    back-empty = empty

pub kept-delete-directory : (s path : List ℕ) → check s ≡ 0 → delete_directory_refusal s path ≡ 0 → check (delete_at s (entry_of is_directory s path)) ≡ 0
unfolding delete_directory_refusal directory_refusal entry_of
kept-delete-directory s path c r =
    let z = first_of-zero (directory_refusal s path) _ r in
    let a = require-zero (path_ok path) 8 _ z.0 in
    let b = require-zero (shallow (parts path)) 16 _ a.1 in
    let f = require-zero (not (eqb (path_slot is_directory s path) 0)) 9 _ b.1 in
    let g = require-zero (is_empty s (first_block s (entry_of is_directory s path))) 17 _ z.1 in
    let ne = eqb-false _ _ (not-true _ f.0) in
    let N = path-named is_directory s path ne in
    let l = path-levels path a.0 b.0 in
    let i : In (home s path, suc (max_levels - suc (length (leading (parts path))))) (dirs s) = rw l.1 (path-home is_directory s path ne l.0) in
    check-zero _ (removed-sound s (sound s c) (home s path) (max_levels - suc (length (leading (parts path)))) i (path_slot is_directory s path) N.low N.high N.typed g.0)
