-- A DIRECTORY COMES: what its own path and every other path show then. The same read backwards is a directory that goes.
use Prim.Native.Nat.{ℕ, suc, ◌-◌, ◌*◌, ◌≤◌, ◌<◌}
use mathlib.Core.Path.{◌≡◌, refl, sym, ◌∙◌}
use mathlib.Core.Bool.{Bool, true, false}
use mathlib.Core.List.{List}
use mathlib.Core.Logic.{◌⊎◌, inl, inr, ⊎_elim, ◌≢◌}
use native.Mathlib.Omega.{arith}
use native.Mathlib.Decide.{ℕ_discrete}
use borrow.Author.Tests.{eq-eqb, ne_eqb}
use Rattle.layout.specs.Directory.{slot_at, type_of, first_block, is_directory, name_of, directory, dirs}
use Rattle.layout.specs.Paths.{parts, path_ok, leading, last_part, shallow, home, path_slot, entry_of, directory_refusal}
use Rattle.volume.specs.Views.{nothing, just, folder_of, folder_at}
use Rattle.volume.proofs.Laws.Places.{path-levels}
use Rattle.volume.proofs.Laws.Views.{same-folder-of}
use Rattle.layout.proofs.Laws.Lists.{In}
use Rattle.layout.proofs.Laws.Trees.{size_at}
use Rattle.layout.proofs.Laws.Sound.{Sound}
use Rattle.layout.proofs.Laws.Slots.{entry-high}
use Rattle.layout.proofs.Laws.Changed.{OneSlot}
use Rattle.layout.proofs.Laws.Empties.{Empty}
use Rattle.layout.proofs.Laws.Ways.{other_path}
use Rattle.layout.proofs.Laws.Newcomers.{folder-slot, folder-entry, folder-in, folder-bytes, folder-none, folder-own-slot, folder-own}

-- s' has one directory more than s, empty, in slot k of the directory that the path leads to
pub record Comes (s s' path : List ℕ) : Type 0 where
  pub good : path_ok path ≡ true
  pub deep : shallow (parts path) ≡ true
  pub there : home s path ≢ 0
  pub j : ℕ
  pub inside : In (home s path, suc j) (dirs s)
  pub k : ℕ
  pub k₁ : 1 ≤ k
  pub k₂ : k < 4 * size_at s (home s path) - 1
  pub only : OneSlot s (dirs s) s' (slot_at (directory s (home s path)) k)
  pub was : type_of s (slot_at (directory s (home s path)) k) ≡ 0
  pub now : is_directory (type_of s' (slot_at (directory s (home s path)) k)) ≡ true
  pub bare : Empty s' (first_block s' (slot_at (directory s (home s path)) k))
  pub new : (x : ℕ) → 1 ≤ x → x < 4 * size_at s (home s path) - 1 → x ≢ k → type_of s (slot_at (directory s (home s path)) x) ≢ 0
      → name_of s' (slot_at (directory s (home s path)) k) ≢ name_of s (slot_at (directory s (home s path)) x)
  pub called : name_of s' (slot_at (directory s (home s path)) k) ≡ last_part (parts path)

no-folder-shown : (s path : List ℕ) → path_slot is_directory s path ≡ 0 → folder_at s path ≡ nothing
unfolding folder_at directory_refusal
no-folder-shown s path z = go (path_ok path) refl (shallow (parts path)) refl
  where
    go : (g : Bool) → path_ok path ≡ g → (w : Bool) → shallow (parts path) ≡ w → folder_at s path ≡ nothing
    go false q w v = rw q
    go true q false v = rw (q, v)
    go true q true v = rw (q, v, eq-eqb (path_slot is_directory s path) 0 z)

module _ (s s' path : List ℕ) (S : Sound s) (C : Comes s s' path) where
  low : shallow (leading (parts path)) ≡ true
  low = (path-levels path C.good C.deep).0

  pub came-before : folder_at s path ≡ nothing
  came-before =
      no-folder-shown s path (folder-none s s' S (home s path) C.j C.inside C.k C.k₁ C.k₂ C.only C.was C.now C.bare C.new path low refl C.there C.called)

  pub came-slot : path_slot is_directory s' path ≡ C.k
  came-slot = folder-own-slot s s' S (home s path) C.j C.inside C.k C.k₁ C.k₂ C.only C.was C.now C.bare C.new path low refl C.there C.called

  pub came-entry : entry_of is_directory s' path ≡ slot_at (directory s (home s path)) C.k
  came-entry = folder-own s s' S (home s path) C.j C.inside C.k C.k₁ C.k₂ C.only C.was C.now C.bare C.new path low refl C.there C.called

  pub came-after : folder_at s' path ≡ just (folder_of s' (slot_at (directory s (home s path)) C.k))
  unfolding folder_at directory_refusal
  came-after =
      let k₁ = C.k₁ in
      rw (C.good, C.deep, came-slot, ne_eqb C.k 0 (λ z. omega arith), came-entry)

  module _ (other : List ℕ) (ne : other ≢ path) where
    apart : path_ok other ≡ true → shallow (leading (parts other)) ≡ true → (home s other ≢ home s path) ⊎ (name_of s' (slot_at (directory s (home s path)) C.k) ≢ last_part (parts other))
    apart g h = ⊎_elim (λ x. inl x) (λ x. inr (λ q. x (sym q ∙ C.called))) (other_path s S path other C.good g low h C.there ne)

    pub came-others : folder_at s' other ≡ folder_at s other
    unfolding folder_at directory_refusal
    came-others = go (path_ok other) refl (shallow (parts other)) refl (ℕ_discrete (path_slot is_directory s other) 0)
      where
        go : (g : Bool) → path_ok other ≡ g → (w : Bool) → shallow (parts other) ≡ w → Dec (path_slot is_directory s other ≡ 0) → folder_at s' other ≡ folder_at s other
        go false q w v z = rw q
        go true q false v z = rw (q, v)
        go true q true v (yes z) =
            let h = (path-levels other q v).0 in
            let slot = folder-slot s s' S (home s path) C.j C.inside C.k C.k₁ C.k₂ C.only C.was C.now C.bare C.new other h (apart q h) in
            rw (q, v, slot, eq-eqb (path_slot is_directory s other) 0 z)
        go true q true v (no some) =
            let h = (path-levels other q v).0 in
            let slot = folder-slot s s' S (home s path) C.j C.inside C.k C.k₁ C.k₂ C.only C.was C.now C.bare C.new other h (apart q h) in
            let entry = folder-entry s s' S (home s path) C.j C.inside C.k C.k₁ C.k₂ C.only C.was C.now C.bare C.new other h (apart q h) some in
            let E = folder-in s s' S (home s path) C.j C.inside C.k C.k₁ C.k₂ C.only C.was C.now C.bare C.new other h (apart q h) some in
            let bytes = folder-bytes s s' S (home s path) C.j C.inside C.k C.k₁ C.k₂ C.only C.was C.now C.bare C.new other h (apart q h) some in
            let same = same-folder-of s s' (entry_of is_directory s other) (entry-high s S (entry_of is_directory s other) E) C.only.len bytes in
            rw (q, v, slot, ne_eqb (path_slot is_directory s other) 0 some, entry, same)
