-- THE SYSTEM FLAGS THAT PATHS SHOW (L11): no accepted change makes any but zero, and those of a file change by a clear alone.
use Prim.Native.Nat.{ℕ}
use mathlib.Core.Path.{◌≡◌, refl, sym, ap, ◌∙◌}
use mathlib.Core.List.{List}
use mathlib.Core.Logic.{◌⊎◌, inl, inr, ⊎_elim, ◌≢◌}
use Rattle.layout.specs.Lists.{has, same}
use Rattle.layout.specs.Bytes.{bytes4, zeros}
use Rattle.layout.specs.Directory.{slot_at, type_of, is_file, directory}
use Rattle.layout.specs.Check.{check}
use Rattle.layout.specs.Paths.{home, path_slot, file_refusal}
use Rattle.volume.specs.Create.{place_refusal}
use Rattle.volume.specs.Change.{Change, create, write, delete, create_directory, delete_directory, set_attributes, clear_attributes, clear_flags, shorten, replace, refusal, after, move}
use Rattle.volume.specs.Views.{File, Folder, Maybe, nothing, just, file_at, folder_at, flags_in, folder_flags_in, NoNewFlags, subject, made, made_folder, further, origin_of}
use Rattle.volume.proofs.Laws.Places.{create-given, create-directory-given, file-at-path, place-new}
use Rattle.volume.proofs.Laws.Views.{not-nothing, shown-accepted}
use Rattle.volume.proofs.Laws.Acts.{acts}
use Rattle.volume.proofs.Laws.Orders.{in-or-not}
use Rattle.layout.proofs.Laws.Tests.{is_false}
use Rattle.layout.proofs.Laws.Lists.{In, has_in, in-has}
use Rattle.layout.proofs.Laws.Names.{same-eq, same_refl, same_or_not}
use Rattle.layout.proofs.Laws.Owners.{file-used-type}

none : (flags : ℕ) → flags ≡ 0 → bytes4 flags ≡ zeros 4
unfolding bytes4 zeros
none flags e = rw e

module _ (s : List ℕ) where
  -- of what its own path shows
  made-flags : (c : Change) (m : Maybe File) → refusal s c ≡ 0 → (flags_in (made c m) ≡ zeros 4) ⊎ (flags_in (made c m) ≡ flags_in m)
  unfolding refusal made
  made-flags (create path type user group permissions flags time) m r = inl (none flags (create-given s path type flags r).flagless)
  made-flags (write path offset bytes time) nothing r = inl refl
  made-flags (write path offset bytes time) (just f) r = inr refl
  made-flags (delete path) m r = inl refl
  made-flags (create_directory path type user group permissions flags time d) m r = inr refl
  made-flags (delete_directory path) m r = inr refl
  made-flags (set_attributes path bytes) nothing r = inl refl
  made-flags (set_attributes path bytes) (just f) r = inr refl
  made-flags (clear_attributes path) nothing r = inl refl
  made-flags (clear_attributes path) (just f) r = inr refl
  made-flags (clear_flags path) nothing r = inl refl
  made-flags (clear_flags path) (just f) r = inl refl
  made-flags (shorten path size time) nothing r = inl refl
  made-flags (shorten path size time) (just f) r = inr refl
  made-flags (replace path bytes time) nothing r = inl refl
  made-flags (replace path bytes time) (just f) r = inr refl
  made-flags (move path to) m r = inl refl

  folder-flags : (c : Change) (m : Maybe Folder) → refusal s c ≡ 0 → (folder_flags_in (made_folder c m) ≡ zeros 4) ⊎ (folder_flags_in (made_folder c m) ≡ folder_flags_in m)
  unfolding refusal made_folder
  folder-flags (create path type user group permissions flags time) m r = inr refl
  folder-flags (write path offset bytes time) m r = inr refl
  folder-flags (delete path) m r = inr refl
  folder-flags (create_directory path type user group permissions flags time d) m r = inl (none flags (create-directory-given s path type flags d r).flagless)
  folder-flags (delete_directory path) m r = inl refl
  folder-flags (set_attributes path bytes) m r = inr refl
  folder-flags (clear_attributes path) m r = inr refl
  folder-flags (clear_flags path) m r = inr refl
  folder-flags (shorten path size time) m r = inr refl
  folder-flags (replace path bytes time) m r = inr refl
  folder-flags (move path to) m r = inr refl

  -- where there is a file, no create is accepted
  file-no-place : (path : List ℕ) → file_refusal s path ≡ 0 → place_refusal s path ≡ 0 → ⊥
  file-no-place path q r =
      let N = (file-at-path s path q).named in
      place-new s path r (path_slot is_file s path) N.low N.high (file-used-type (type_of s (slot_at (directory s (home s path)) (path_slot is_file s path))) N.typed) (sym N.named)

  -- a change other than a clear keeps those of its file
  made-stay : (c : Change) (f g : File) → refusal s c ≡ 0 → file_at s (subject c) ≡ just g → made c (just g) ≡ just f → c ≢ clear_flags (subject c) → f.flags ≡ g.flags
  unfolding refusal made subject
  made-stay (create path type user group permissions flags time) f g r q m ne = absurd (file-no-place path (shown-accepted s path g q) (create-given s path type flags r).placed)
  made-stay (write path offset bytes time) f g r q m ne = ap flags_in (sym m)
  made-stay (delete path) f g r q m ne = absurd (not-nothing f (sym m))
  made-stay (create_directory path type user group permissions flags time d) f g r q m ne = ap flags_in (sym m)
  made-stay (delete_directory path) f g r q m ne = ap flags_in (sym m)
  made-stay (set_attributes path bytes) f g r q m ne = ap flags_in (sym m)
  made-stay (clear_attributes path) f g r q m ne = ap flags_in (sym m)
  made-stay (clear_flags path) f g r q m ne = absurd (ne refl)
  made-stay (shorten path size time) f g r q m ne = ap flags_in (sym m)
  made-stay (replace path bytes time) f g r q m ne = ap flags_in (sym m)
  made-stay (move path to) f g r q m ne = absurd (not-nothing f (sym m))

  module _ (c : Change) (ok : check s ≡ 0) (r : refusal s c ≡ 0) where
    -- where a move has brought a file, those that it had
    file-flags-at : (path : List ℕ) → (path ≡ subject c) ⊎ (path ≢ subject c) → In path (further c) ⊎ (In path (further c) → ⊥)
        → (flags_in (file_at (after s c) path) ≡ zeros 4) ⊎ (flags_in (file_at (after s c) path) ≡ flags_in (file_at s (origin_of (subject c) (further c) path)))
    file-flags-at path w (inl i) = inr (rw (in-has same same-eq same_refl path (further c) i) (ap flags_in ((acts s c ok r).arrived path i)))
    file-flags-at path (inl e) (inr out) =
        rw (is_false (has same path (further c)) (λ z. out (has_in same same-eq same_refl path (further c) z))) (rw (e, (acts s c ok r).own) (made-flags c (file_at s (subject c)) r))
    file-flags-at path (inr ne) (inr out) =
        rw (is_false (has same path (further c)) (λ z. out (has_in same same-eq same_refl path (further c) z))) (inr (ap flags_in ((acts s c ok r).others path (λ i. ⊎_elim ne out i))))

    folder-flags-at : (path : List ℕ) → (path ≡ subject c) ⊎ (path ≢ subject c) → (folder_flags_in (folder_at (after s c) path) ≡ zeros 4) ⊎ (folder_flags_in (folder_at (after s c) path) ≡ folder_flags_in (folder_at s path))
    folder-flags-at path (inl e) = rw (e, (acts s c ok r).folder) (folder-flags c (folder_at s (subject c)) r)
    folder-flags-at path (inr ne) = inr (ap folder_flags_in ((acts s c ok r).folders path ne))

    pub no-new-flags : NoNewFlags s (after s c) (origin_of (subject c) (further c))
    no-new-flags = record { files = λ path. file-flags-at path (same_or_not path (subject c)) (in-or-not path (further c)); folders = λ path. folder-flags-at path (same_or_not path (subject c)) }

    pub flags-stay : (path : List ℕ) (f g : File) → file_at s path ≡ just g → file_at (after s c) path ≡ just f → c ≢ clear_flags path → f.flags ≡ g.flags
    flags-stay path f g was now ne = go (same_or_not path (subject c)) (in-or-not path (further c))
      where
        go : (path ≡ subject c) ⊎ (path ≢ subject c) → In path (further c) ⊎ (In path (further c) → ⊥) → f.flags ≡ g.flags
        go w (inl i) = absurd (not-nothing g (sym was ∙ (acts s c ok r).vacant path i))
        go (inl e) (inr out) =
            let q : file_at s (subject c) ≡ just g = rw e at was in
            made-stay c f g r q (ap (made c) (sym q) ∙ sym (acts s c ok r).own ∙ (rw e at now)) (λ z. ne (z ∙ ap clear_flags (sym e)))
        go (inr n) (inr out) = ap flags_in (sym now ∙ (acts s c ok r).others path (λ i. ⊎_elim n out i) ∙ was)
