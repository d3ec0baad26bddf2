-- WHAT A CHANGE OF A FILE LEAVES TO OTHER PATHS AND MAKES OF ITS OWN, by what the paths show.
use Prim.Native.Nat.{ℕ, zero, suc, ◌+◌, ◌-◌, ◌*◌, ◌≤◌, ◌<◌}
use mathlib.Core.Path.{◌≡◌, refl, sym, ap, ◌∙◌, subst}
use mathlib.Core.Bool.{Bool, true, false}
use mathlib.Core.List.{List}
use mathlib.Core.Logic.{inr, ◌≢◌}
use native.Mathlib.Omega.{arith}
use native.Mathlib.Decide.{ℕ_discrete}
use borrow.Author.Tests.{eq-eqb, ne_eqb}
use lib.ListN.{length}
use Rattle.layout.specs.Claims.{Untouched, Reached}
use Rattle.layout.specs.Limits.{max_levels}
use Rattle.layout.specs.Bytes.{be32, part}
use Rattle.layout.specs.Directory.{slot_at, type_of, blocks_of, is_file, is_directory, name_of, directory, dirs, slot_of, content, attributes}
use Rattle.layout.specs.Paths.{parts, path_ok, leading, last_part, shallow, home, path_slot, entry_of, file_refusal, directory_refusal}
use Rattle.volume.specs.Views.{File, Maybe, nothing, just, file_of, folder_of, file_at, folder_at}
use Rattle.volume.proofs.Laws.Places.{path-levels}
use Rattle.layout.proofs.Laws.Bytes.{part-part, be32-part}
use Rattle.layout.proofs.Laws.Tests.{true-not-false}
use Rattle.layout.proofs.Laws.Lists.{In}
use Rattle.layout.proofs.Laws.Trees.{size_at}
use Rattle.layout.proofs.Laws.Sound.{Sound}
use Rattle.layout.proofs.Laws.Slots.{slot-entry, entry-high, names-differ}
use Rattle.layout.proofs.Laws.Paths.{Named, path-named, path-home, slot-named, slot-unnamed}
use Rattle.layout.proofs.Laws.Changed.{OneSlot, blocks-stay, size-stays, tree-stays}
use Rattle.layout.proofs.Laws.Owners.{file-used-type}
use Rattle.layout.proofs.Laws.Others.{reached-entry, path-same, entry-same, home_same, other-bytes, other-type, other-name}

-- equal entries show the same fields
module _ (s s' : List ℕ) (e : ℕ) (high : e + 128 ≤ length s) (len : length s' ≡ length s) (bytes : part s' e 128 ≡ part s e 128) where
  pub part_of : (i w : ℕ) → i + w ≤ 128 → part s' (e + i) w ≡ part s (e + i) w
  part_of i w h = sym (part-part s' e 128 i w (omega arith) h) ∙ ap (λ (b : List ℕ). part b i w) bytes ∙ part-part s e 128 i w high h

  pub start_of : part s' e 4 ≡ part s e 4
  start_of = let z : e + 0 ≡ e = omega arith in rw z at (part_of 0 4 (omega arith))

  pub same-file-of : content s' e ≡ content s e → attributes s' e ≡ attributes s e → file_of s' e ≡ file_of s e
  unfolding file_of
  same-file-of p q = rw (p, q, start_of, part_of 16 8 (omega arith), part_of 24 8 (omega arith), part_of 40 4 (omega arith))

  pub same-folder-of : folder_of s' e ≡ folder_of s e
  unfolding folder_of
  same-folder-of =
      let n : blocks_of s' e ≡ blocks_of s e = sym (be32-part s' e 128 12 (omega arith)) ∙ ap (λ (b : List ℕ). be32 b 12) bytes ∙ be32-part s e 128 12 (omega arith) in
      rw (n, start_of, part_of 16 8 (omega arith), part_of 24 8 (omega arith), part_of 40 4 (omega arith))

-- what an accepted path shows
pub file-shown : (s path : List ℕ) → file_refusal s path ≡ 0 → file_at s path ≡ just (file_of s (entry_of is_file s path))
unfolding file_at
file-shown s path r = rw r

-- something is not nothing
pub not-nothing : {A : Type 0} (x : A) → ◌≡◌ {A = Maybe A} (just x) nothing → ⊥
not-nothing {A} x e = true-not-false {a = is (just x)} refl (ap is e)
  where
    is : Maybe A → Bool
    is nothing = false
    is (just y) = true

pub shown-accepted : (s path : List ℕ) (f : File) → file_at s path ≡ just f → file_refusal s path ≡ 0
unfolding file_at
shown-accepted s path f q = go (file_refusal s path) refl
  where
    go : (k : ℕ) → file_refusal s path ≡ k → file_refusal s path ≡ 0
    go zero z = z
    go (suc k) z = absurd (not-nothing f (sym (rw z at q)))

pub none-shown : (s path : List ℕ) → path_slot is_file s path ≡ 0 → file_at s path ≡ nothing
unfolding file_at file_refusal
none-shown s path z = go (path_ok path) refl (shallow (leading (parts path))) refl
  where
    go : (g : Bool) → path_ok path ≡ g → (w : Bool) → shallow (leading (parts path)) ≡ w → file_at s path ≡ nothing
    go false q w v = rw q
    go true q false v = rw (q, v)
    go true q true v = rw (q, v, eq-eqb (path_slot is_file s path) 0 z)

-- A FILE OF ANOTHER PATH
pub other-shown : (s s' : List ℕ) → Sound s → length s' ≡ length s → (other : List ℕ) → (path_ok other ≡ true → Untouched s s' other) → file_at s' other ≡ file_at s other
unfolding file_at file_refusal
other-shown s s' S len other U = go (path_ok other) refl (shallow (leading (parts other))) refl (ℕ_discrete (path_slot is_file s other) 0)
  where
    go : (g : Bool) → path_ok other ≡ g → (w : Bool) → shallow (leading (parts other)) ≡ w → Dec (path_slot is_file s other ≡ 0) → file_at s' other ≡ file_at s other
    go false q w v z = rw q
    go true q false v z = rw (q, v)
    go true q true v (yes z) = rw (q, v, (U q).slot v, eq-eqb (path_slot is_file s other) 0 z)
    go true q true v (no ne) =
        let r : Reached s other = (v, ne) in
        let e : ℕ = entry_of is_file s other in
        let same = same-file-of s s' (entry_of is_file s other) (entry-high s S (entry_of is_file s other) (reached-entry s S other r)) len ((U q).bytes r) ((U q).contents r) ((U q).second r).bytes in
        rw (q, v, (U q).slot v, (U q).entry r, ne_eqb (path_slot is_file s other) 0 ne, same)

-- ONE ENTRY that is no directory's, before or after, changes
pub record OneEntry (s s' : List ℕ) : Type 0 where
  pub d : ℕ × ℕ
  pub di : In d (dirs s)
  pub k : ℕ
  pub k₁ : 1 ≤ k
  pub k₂ : k < 4 * size_at s d.0 - 1
  pub only : OneSlot s (dirs s) s' (slot_at (directory s d.0) k)
  pub was : is_directory (type_of s (slot_at (directory s d.0) k)) ≡ false
  pub now : is_directory (type_of s' (slot_at (directory s d.0) k)) ≡ false

-- then every path shows the directory that it showed
module _ (s s' : List ℕ) (S : Sound s) (O : OneEntry s s') (path : List ℕ) where
  folder-same : shallow (leading (parts path)) ≡ true → path_slot is_directory s path ≢ 0 → folder_of s' (entry_of is_directory s path) ≡ folder_of s (entry_of is_directory s path)
  unfolding entry_of
  folder-same low ne =
      let N = path-named is_directory s path ne in
      let h = N.high in
      let a : ℕ = slot_at (directory s (home s path)) (path_slot is_directory s path) in
      let E = slot-entry s S (home s path, max_levels - length (leading (parts path))) (path-home is_directory s path ne low) (path_slot is_directory s path) (omega arith) in
      same-folder-of s s' a (entry-high s S a E) O.only.len (other-bytes s s' S O.d O.di O.k O.k₁ O.k₂ O.only a E
      (λ p. true-not-false {a = is_directory (type_of s (slot_at (directory s O.d.0) O.k))} (subst (λ (x : ℕ). is_directory (type_of s x) ≡ true) p N.typed) O.was))

  pub folder-shown : folder_at s' path ≡ folder_at s path
  unfolding folder_at directory_refusal
  folder-shown = go (path_ok path) refl (shallow (parts path)) refl (ℕ_discrete (path_slot is_directory s path) 0)
    where
      slot_same : shallow (leading (parts path)) ≡ true → path_slot is_directory s' path ≡ path_slot is_directory s path
      slot_same low = path-same s s' S O.d O.di O.k O.k₁ O.k₂ O.only O.was O.now path low is_directory (inr (rw (O.was, O.now)))

      go : (g : Bool) → path_ok path ≡ g → (w : Bool) → shallow (parts path) ≡ w → Dec (path_slot is_directory s path ≡ 0) → folder_at s' path ≡ folder_at s path
      go false q w v z = rw q
      go true q false v z = rw (q, v)
      go true q true v (yes z) = rw (q, v, slot_same (path-levels path q v).0, eq-eqb (path_slot is_directory s path) 0 z)
      go true q true v (no ne) =
          let low = (path-levels path q v).0 in
          rw (
            q,
            v,
            slot_same low,
            ne_eqb (path_slot is_directory s path) 0 ne,
            entry-same s s' S O.d O.di O.k O.k₁ O.k₂ O.only O.was O.now path low is_directory (inr (rw (O.was, O.now))) ne,
            folder-same low ne,
          )

-- THE ENTRY OF THE PATH ITSELF, in slot k of the directory that it leads to
module _ (s s' path : List ℕ) (S : Sound s) (good : path_ok path ≡ true) (low : shallow (leading (parts path)) ≡ true) (there : home s path ≢ 0) (level : ℕ) (di : In (home s path, level) (dirs s))
    (k : ℕ) (k₁ : 1 ≤ k) (k₂ : k < 4 * size_at s (home s path) - 1)
    (O : OneSlot s (dirs s) s' (slot_at (directory s (home s path)) k))
    (was : is_directory (type_of s (slot_at (directory s (home s path)) k)) ≡ false) (now : is_directory (type_of s' (slot_at (directory s (home s path)) k)) ≡ false)
  where
    abbrev b : ℕ
    b = home s path

    abbrev e : ℕ
    e = slot_at (directory s (home s path)) k

    abbrev name : List ℕ
    name = last_part (parts path)

    home-is : home s' path ≡ b
    home-is = home_same s s' S (b, level) di k k₁ k₂ O was now path low

    blocks-are : directory s' b ≡ directory s b
    blocks-are = blocks-stay s s' S (dirs s) (λ x i. i) (b, level) di k k₁ k₂ O (b, level) di

    size_is : size_at s' b ≡ size_at s b
    size_is = size-stays s s' S (dirs s) (λ x i. i) (b, level) di k k₁ k₂ O (b, level) di

    -- a slot of that name, after
    record Is (j : ℕ) : Type 0 where
      least : 1 ≤ j
      most : j < 4 * size_at s b - 1
      file : is_file (type_of s' (slot_at (directory s b) j)) ≡ true
      called : name_of s' (slot_at (directory s b) j) ≡ name

    found-is : slot_of is_file s' (directory s' b) name ≢ 0 → Is (slot_of is_file s' (directory s' b) name)
    found-is ne =
        let N = slot-named is_file s' b name ne in
        let h = N.high in
        let q = size_is in
        let j : ℕ = slot_of is_file s' (directory s' b) name in
        record { least = N.low; most = omega arith; file = subst (λ (ds : List ℕ). is_file (type_of s' (slot_at ds j)) ≡ true) blocks-are N.typed; called = subst (λ (ds : List ℕ). name_of s' (slot_at ds j) ≡ name) blocks-are N.named }

    slot_is : path_slot is_file s' path ≡ slot_of is_file s' (directory s' b) name
    unfolding path_slot
    slot_is = rw (home-is, ne_eqb (home s path) 0 there)

    -- it is freed: the path shows nothing
    module _ (zero-type : type_of s' e ≡ 0) (file : is_file (type_of s e) ≡ true) (named : name_of s e ≡ name) where
      gone : Dec (slot_of is_file s' (directory s' b) name ≡ 0) → slot_of is_file s' (directory s' b) name ≡ 0
      gone (yes z) = z
      gone (no ne) = absurd (at (found-is ne) (ℕ_discrete (slot_at (directory s b) (slot_of is_file s' (directory s' b) name)) e))
        where
          at : Is (slot_of is_file s' (directory s' b) name) → Dec (slot_at (directory s b) (slot_of is_file s' (directory s' b) name) ≡ e) → ⊥
          at I (yes q) = file-used-type (type_of s' e) (rw q at I.file) zero-type
          at I (no away) =
              let j : ℕ = slot_of is_file s' (directory s' b) name in
              let a : ℕ = slot_at (directory s b) j in
              let h = I.most in
              let E = slot-entry s S (b, level) di j (omega arith) in
              let type = other-type s s' S (b, level) di k k₁ k₂ O a E away in
              let called = other-name s s' S (b, level) di k k₁ k₂ O a E away in
              names-differ s S (b, level) di j k I.least k₁ I.most k₂ (λ q. away (ap (slot_at (directory s b)) q))
              (λ z. file-used-type (type_of s' a) I.file (type ∙ z)) (file-used-type (type_of s e) file) (sym called ∙ I.called ∙ sym named)

      pub own-gone : file_at s' path ≡ nothing
      own-gone = none-shown s' path (slot_is ∙ gone (ℕ_discrete (slot_of is_file s' (directory s' b) name) 0))

    -- it is a file of that name: the path shows it
    module _ (S' : Sound s') (file : is_file (type_of s' e) ≡ true) (named : name_of s' e ≡ name) where
      di' : In (b, level) (dirs s')
      di' = rw (tree-stays s s' S (b, level) di k k₁ k₂ O was now) di

      mine : Named is_file s' b name k
      mine = let q = size_is in record { low = k₁; high = omega arith; typed = rw blocks-are file; named = rw blocks-are named }

      is-k : slot_of is_file s' (directory s' b) name ≡ k
      is-k = go (ℕ_discrete (slot_of is_file s' (directory s' b) name) k)
        where
          go : Dec (slot_of is_file s' (directory s' b) name ≡ k) → slot_of is_file s' (directory s' b) name ≡ k
          go (yes q) = q
          go (no away) =
              let some : slot_of is_file s' (directory s' b) name ≢ 0 = λ z. slot-unnamed is_file s' b name z k mine in
              let N = slot-named is_file s' b name some in
              absurd (names-differ s' S' (b, level) di' (slot_of is_file s' (directory s' b) name) k N.low k₁ N.high mine.high away
              (file-used-type _ N.typed) (file-used-type _ mine.typed) (N.named ∙ sym mine.named))

      pub own-slot : path_slot is_file s' path ≡ k
      own-slot = slot_is ∙ is-k

      pub own-entry : entry_of is_file s' path ≡ e
      unfolding entry_of
      own-entry = rw (own-slot, home-is, blocks-are)

      own-refusal : file_refusal s' path ≡ 0
      unfolding file_refusal
      own-refusal = rw (good, low, own-slot, ne_eqb k 0 (λ z. omega arith))

      pub own-shown : file_at s' path ≡ just (file_of s' e)
      own-shown = file-shown s' path own-refusal ∙ ap (λ (x : ℕ). just (file_of s' x)) own-entry
