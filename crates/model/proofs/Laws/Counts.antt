-- PLACES: the folder that a path is in, opened; whether it has a place left (13), by its names; and the same of a move, whose own place counts too.
use Prim.Native.Nat.{ℕ, ◌+◌, ◌-◌, ◌*◌, ◌≤◌, ◌<◌}
use mathlib.Core.Path.{◌≡◌, refl, sym, ap, ◌∙◌, subst}
use mathlib.Core.Bool.{Bool, true, false, not, ◌||◌, or-true}
use mathlib.Core.List.{List, [], ◌∷◌}
use mathlib.Core.Logic.{inl, ◌≢◌}
use native.Mathlib.Omega.{arith}
use native.Mathlib.Decide.{ℕ_discrete}
use borrow.Author.Tests.{eqb-true, ne_eqb, eq-eqb}
use lib.ListN.{length, get_or}
use lib.Dec.{eqb, ltb}
use Rattle.layout.specs.Lists.{same}
use Rattle.layout.specs.Directory.{slot_at, type_of, first_block, is_free, is_file, is_directory, directory, root_of, free_slot, is_empty}
use Rattle.layout.specs.Check.{check}
use Rattle.layout.specs.Paths.{parts, path_ok, leading, shallow, resolve, home, path_slot, entry_of, file_refusal, directory_refusal}
use Rattle.layout.proofs.Laws.Tests.{and_split, is_false, true-not-false}
use Rattle.layout.proofs.Laws.Lists.{lowest-none, select-same}
use Rattle.layout.proofs.Laws.Names.{same-eq, same_refl}
use Rattle.layout.proofs.Laws.Slots.{slot-other}
use Rattle.layout.proofs.Laws.Trees.{size_at, length-directory}
use Rattle.layout.proofs.Laws.Sound.{sound}
use Rattle.layout.proofs.Laws.Ways.{same_home}
use Rattle.volume.specs.Move.{open_slot, move_slot}
use Rattle.volume.proofs.Laws.Places.{At, file-at-path}
use Rattle.model.specs.Model.{Model}
use Rattle.model.specs.Looks.{no_file}
use Rattle.model.specs.Refusals.{parent_of, in_folder, no_folder}
use Rattle.model.specs.Listing.{Lists, folder_blocks, room_for, goal, leads_on, stays_in}
use Rattle.model.specs.Refines.{Shows, names_in, has_place, place_in, is_bare}
use Rattle.model.proofs.Laws.Nodes.{is_shown_folder}
use Rattle.model.proofs.Laws.Trees.{outer-shown, folder-accepted}
use Rattle.model.proofs.Laws.Looks.{number-shown}
use Rattle.model.proofs.Laws.Parents.{joins, parent, folder-of, home-root, home-shown}
use Rattle.model.proofs.Laws.Refusals.{folder-number}
use Rattle.model.proofs.Laws.Folders.{Opened, root_opened, folder-opened, folder-size, listed, place-counted, empty-counted}

no-parts : parts [] ≡ []
unfolding parts
no-parts = refl

bare-is : (s path : List ℕ) → is_bare s path ≡ is_empty s (first_block s (entry_of is_directory s path))
unfolding is_bare
bare-is s path = refl

place_is : (s path : List ℕ) → has_place s path ≡ not (eqb (free_slot s (directory s (home s path))) 0)
unfolding has_place
place_is s path = refl

or-none : (a : Bool) → (a || false) ≡ a
or-none true = refl
or-none false = refl

module _ (s : List ℕ) (m : Model) (S : Shows s m) (ok : check s ≡ 0) where
  root-blocks : size_at s (root_of s) ≡ m.root_size
  root-blocks = sym (length-directory s (root_of s)) ∙ S.root_size

  -- A FOLDER REMOVED, or not: 18
  pub bare-counted : (path : List ℕ) → no_folder m path ≡ 0 → (names : List (List ℕ)) × Lists m path names × (is_bare s path ≡ eqb (length names) 0)
  bare-counted path z =
      let r : directory_refusal s path ≡ 0 = folder-number s m S ok path ∙ z in
      let F = folder-opened s m S ok path r in (
        names_in s (first_block s (entry_of is_directory s path)),
        listed s m S ok path (first_block s (entry_of is_directory s path)) F,
        bare-is s path ∙ empty-counted s m S ok path (first_block s (entry_of is_directory s path)) F,
      )

  -- THE FOLDER OF A PATH
  module _ (path : List ℕ) (good : path_ok path ≡ true) (low : shallow (leading (parts path)) ≡ true) where
    none_above : leading (parts path) ≡ [] → parts (parent_of path) ≡ []
    none_above e = ap (λ (l : List (List ℕ)). parts (joins l)) e ∙ no-parts

    pub parent-cuts : parts (parent_of path) ≡ leading (parts path)
    parent-cuts = go (leading (parts path)) refl
      where
        go : (l : List (List ℕ)) → leading (parts path) ≡ l → parts (parent_of path) ≡ leading (parts path)
        go [] e = none_above e ∙ sym e
        go (p ∷ ps) e = (parent s m S ok path good low p ps e).cuts

    module _ (there : home s path ≢ 0) where
      record Above : Type 0 where
        opened : Opened s (parent_of path) (home s path)
        sized : size_at s (home s path) ≡ folder_blocks m (parent_of path)

      in-root : leading (parts path) ≡ [] → Above
      in-root e =
          let h = home-root s m S ok path good low e in
          let p : parent_of path ≡ [] = rw e in
          record {
            opened = rw (h, p) (root_opened s);
            sized = rw (h, p) root-blocks;
          }

      in-folder : (p : List ℕ) (ps : List (List ℕ)) → leading (parts path) ≡ p ∷ ps → Above
      unfolding home
      in-folder p ps e =
          let P = parent s m S ok path good low p ps e in
          let f = outer-shown s m S path (parent_of path) good low there P.fine P.inside P.differs in
          let r = folder-accepted s (parent_of path) (ap is_shown_folder (S.folders (parent_of path)) ∙ folder-of (m.at (parent_of path)) f) in
          let F = folder-opened s m S ok (parent_of path) r in
          let z : home s path ≡ first_block s (entry_of is_directory s (parent_of path)) = ap (resolve s (root_of s)) (sym P.cuts) ∙ F.leads in
          record {
            opened = subst (Opened s (parent_of path)) (sym z) F;
            sized = ap (size_at s) z ∙ folder-size s m S ok (parent_of path) r;
          }

      above : Above
      above = go (leading (parts path)) refl
        where
          go : (l : List (List ℕ)) → leading (parts path) ≡ l → Above
          go [] e = in-root e
          go (p ∷ ps) e = in-folder p ps e

      -- 13
      pub place-counts : (names : List (List ℕ)) × Lists m (parent_of path) names × (has_place s path ≡ room_for m (parent_of path) names)
      place-counts = (
        names_in s (home s path),
        listed s m S ok (parent_of path) (home s path) above.opened,
        place_is s path ∙ place-counted s m S ok (parent_of path) (home s path) above.opened ∙ ap (λ (k : ℕ). ltb (length (names_in s (home s path))) (4 * k - 2)) above.sized,
      )

  led : (path : List ℕ) → path_ok path ≡ true → shallow (leading (parts path)) ≡ true → in_folder m path ≡ true → home s path ≢ 0
  led path good low h z = true-not-false (home-shown s m S ok path good low ∙ h) (ap not (eq-eqb (home s path) 0 z))

  -- A MOVE
  module _ (path to : List ℕ) (from : file_refusal s path ≡ 0) (good : path_ok to ≡ true) (low : shallow (leading (parts to)) ≡ true) (there : home s to ≢ 0) where
    A : At is_file s path
    A = file-at-path s path from

    abbrev own : ℕ
    own = entry_of is_file s path

    abbrev ds : List ℕ
    ds = directory s (home s to)

    within : home s path ≡ home s to → not (eqb (move_slot s path to) 0) ≡ true
    unfolding move_slot open_slot entry_of
    within e = go (ℕ_discrete (move_slot s path to) 0)
      where
        test : ℕ → Bool
        test k = is_free (type_of s (slot_at (directory s (home s to)) k)) || eqb (slot_at (directory s (home s to)) k) (slot_at (directory s (home s path)) (path_slot is_file s path))

        met : test (path_slot is_file s path) ≡ true
        met =
            let q : slot_at (directory s (home s to)) (path_slot is_file s path) ≡ slot_at (directory s (home s path)) (path_slot is_file s path) = ap (λ (b : ℕ). slot_at (directory s b) (path_slot is_file s path)) (sym e) in
            rw (eq-eqb _ _ q) (or-true (is_free (type_of s (slot_at (directory s (home s to)) (path_slot is_file s path)))))

        go : Dec (move_slot s path to ≡ 0) → not (eqb (move_slot s path to) 0) ≡ true
        go (no ne) = rw (ne_eqb (move_slot s path to) 0 ne)
        go (yes z) =
            let h : path_slot is_file s path < 4 * size_at s (home s to) - 1 = subst (λ (b : ℕ). path_slot is_file s path < 4 * size_at s b - 1) e A.named.high in
            absurd (lowest-none test 1 (4 * length ds - 2) (omega arith) z (path_slot is_file s path) A.named.low (let l = length-directory s (home s to) in omega arith) met)

    to-above : Above to good low there
    to-above = above to good low there

    each : home s path ≢ home s to → (k : ℕ) → 1 ≤ k → k < 1 + (4 * length (directory s (home s to)) - 2)
        → (is_free (type_of s (slot_at (directory s (home s to)) k)) || eqb (slot_at (directory s (home s to)) k) (slot_at (directory s (home s path)) (path_slot is_file s path))) ≡ is_free (type_of s (slot_at (directory s (home s to)) k))
    each ne k h u =
        let l = length-directory s (home s to) in
        let g = A.named.high in
        let o = slot-other s (sound s ok) (home s to, to-above.opened.level) to-above.opened.inside k (omega arith) (home s path, A.level) A.home-in (path_slot is_file s path) (omega arith)
        (inl (λ z. ne (sym (ap (λ (d : ℕ × ℕ). d.0) z)))) in
        rw (ne_eqb _ _ o) (or-none (is_free (type_of s (slot_at (directory s (home s to)) k))))

    across : home s path ≢ home s to → move_slot s path to ≡ free_slot s ds
    unfolding move_slot open_slot free_slot entry_of
    across ne =
        ap (λ (l : List ℕ). get_or l 0 0)
        (select-same (λ k. is_free (type_of s (slot_at (directory s (home s to)) k)))
        (λ k. is_free (type_of s (slot_at (directory s (home s to)) k)) || eqb (slot_at (directory s (home s to)) k) (slot_at (directory s (home s path)) (path_slot is_file s path)))
        (4 * length (directory s (home s to)) - 2) 1 (each ne))

    pub move-counts : (names : List (List ℕ)) × Lists m (parent_of to) names × (not (eqb (move_slot s path to) 0) ≡ same (parent_of path) (parent_of to) || room_for m (parent_of to) names)
    move-counts = let w = place-counts to good low there in (w.0, w.1, go w.0 w.2 (ℕ_discrete (home s path) (home s to)))
      where
        go : (names : List (List ℕ)) → has_place s to ≡ room_for m (parent_of to) names → Dec (home s path ≡ home s to) → not (eqb (move_slot s path to) 0) ≡ same (parent_of path) (parent_of to) || room_for m (parent_of to) names
        go names h (yes e) =
            let l = same_home s (sound s ok) path to A.short low A.there e in
            let q : parent_of path ≡ parent_of to = rw l in
            within e ∙ rw (q, same_refl (parent_of to))
        go names h (no ne) =
            let f : same (parent_of path) (parent_of to) ≡ false =
            is_false (same (parent_of path) (parent_of to))
            (λ t. ne (unfold home in
            ap (resolve s (root_of s)) (sym (parent-cuts path A.good A.short) ∙ ap parts (same-eq _ _ t) ∙ parent-cuts to good low))) in
            ap (λ (k : ℕ). not (eqb k 0)) (across ne) ∙ sym (place_is s to) ∙ h ∙ rw f

  -- ANY CHANGE
  pub places : (path : List ℕ) (tos : List (List ℕ)) → leads_on m path tos ≡ true
      → let at = parent_of (goal path tos) in
      (names : List (List ℕ)) × Lists m at names × (place_in s path tos ≡ stays_in path tos || room_for m at names)
  places path [] h =
      let a = and_split (path_ok path) _ h in
      let b = and_split (shallow (leading (parts path))) _ a.1 in
      place-counts path a.0 b.0 (led path a.0 b.0 b.1)
  places path (to ∷ tos) h =
      let f = and_split (eqb (no_file m path) 0) _ h in
      let a = and_split (path_ok to) _ f.1 in
      let b = and_split (shallow (leading (parts to))) _ a.1 in
      move-counts path to (number-shown s m S ok path ∙ eqb-true _ _ f.0) a.0 b.0 (led to a.0 b.0 b.1)
