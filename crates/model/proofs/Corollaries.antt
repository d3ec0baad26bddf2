-- What follows from the model, where the volume and the store have laws about images: two changes in either order, and a folder removed.
use Prim.Native.Nat.{ℕ}
use mathlib.Core.Path.{◌≡◌, refl, sym, ap, ◌∙◌, subst}
use mathlib.Core.Bool.{Bool, true, false, false≢true}
use mathlib.Core.List.{List}
use mathlib.Core.Logic.{⊎_elim, ◌≢◌}
use Rattle.layout.specs.Check.{check}
use Rattle.layout.specs.Paths.{directory_refusal}
use Rattle.layout.specs.Claims.{is_inside}
use Rattle.volume.specs.Directories.{delete_directory_refusal}
use Rattle.volume.specs.Change as changes
use Rattle.volume.specs.Change.{delete_directory}
use Rattle.volume.specs.Views as views
use Rattle.volume.specs.Views.{SameFiles}
use Rattle.store.specs.Change.{Change, plain, refusal, after, subject, further}
use Rattle.layout.proofs.Laws.Tests.{first_of-zero}
use Rattle.volume.proofs.Laws.Places.{directory-at-path}
use Rattle.store.proofs.Theorems.{change-sound}
use Rattle.journal.specs.Run.{State, change_refusal, after_change}
use Rattle.model.specs.Model.{Model, becomes, step, shows_nothing, shows_folder}
use Rattle.model.specs.Refines.{as_file, as_folder, Shows, Alike}
use Rattle.model.specs.Orders.{Clerk, creates, writes, deletes, asks, path_of}
use Rattle.model.proofs.Laws.Models.{own_at, other_at, either-order-model}
use Rattle.model.proofs.Laws.Steps.{refines, allowed}
use Rattle.model.proofs.Laws.Trees.{shows-tree}
use Rattle.model.proofs.Laws.Runs.{accepted}

same-shown : (s s' : List ℕ) (m n : Model) → Shows s m → Shows s' n → Alike m n → SameFiles s s'
same-shown s s' m n S T A =
    record {
      files = λ path. S.files path ∙ ap as_file (A.at path) ∙ sym (T.files path);
      folders = λ path. S.folders path ∙ ap as_folder (A.at path) ∙ sym (T.folders path);
      free = S.free ∙ A.free ∙ sym T.free;
    }

-- L13: no law about orders of images is needed
pub either_order : (s : List ℕ) (m : Model) → Shows s m → check s ≡ 0 → (c d : Change) → refusal s c ≡ 0 → refusal (after s c) d ≡ 0 → refusal s d ≡ 0 → refusal (after s d) c ≡ 0
    → subject c ≢ subject d → SameFiles (after (after s c) d) (after (after s d) c)
either_order s m S ok c d rc rcd rd rdc ne =
    let C = refines s m S ok c rc in
    let D = refines s m S ok d rd in
    let okc = change-sound s ok c rc in
    let okd = change-sound s ok d rd in
    same-shown _ _ _ _ (refines (after s c) (step m c) C okc d rcd) (refines (after s d) (step m d) D okd c rdc)
    (either-order-model m c d ne (allowed s m S ok c rc) (allowed (after s c) (step m c) C okc d rcd) (allowed s m S ok d rd) (allowed (after s d) (step m d) D okd c rdc))

-- the same from an image and a journal, and in the words of the request
pub journal-order : (p : State) (m : Model) → Shows p.image m → (c d : Change)
    → change_refusal p c ≡ 0 → change_refusal (after_change p c) d ≡ 0 → change_refusal p d ≡ 0 → change_refusal (after_change p d) c ≡ 0
    → subject c ≢ subject d → SameFiles (after_change (after_change p c) d).image (after_change (after_change p d) c).image
journal-order p m S c d rc rcd rd rdc ne =
    let a = accepted p c rc in
    let b = accepted (after_change p c) d rcd in
    let e = accepted p d rd in
    let f = accepted (after_change p d) c rdc in
    let x : refusal (after p.image c) d ≡ 0 = subst (λ (s : List ℕ). refusal s d ≡ 0) a.2 b.1 in
    let y : refusal (after p.image d) c ≡ 0 = subst (λ (s : List ℕ). refusal s c ≡ 0) e.2 f.1 in
    let u : (after_change (after_change p c) d).image ≡ after (after p.image c) d = b.2 ∙ ap (λ (s : List ℕ). after s d) a.2 in
    let v : (after_change (after_change p d) c).image ≡ after (after p.image d) c = f.2 ∙ ap (λ (s : List ℕ). after s c) e.2 in
    rw (u, v) (either_order p.image m S a.0 c d a.1 x e.1 y ne)

asks-about : (c : Clerk) → subject (asks c) ≡ path_of c
unfolding subject views.subject
asks-about (creates path type user group permissions flags time) = refl
asks-about (writes path offset bytes time) = refl
asks-about (deletes path) = refl

pub clerks : (p : State) (m : Model) → Shows p.image m → (c d : Clerk) → path_of c ≢ path_of d → is_inside (path_of c) (path_of d) ≡ false → is_inside (path_of d) (path_of c) ≡ false
    → change_refusal p (asks c) ≡ 0 → change_refusal (after_change p (asks c)) (asks d) ≡ 0 → change_refusal p (asks d) ≡ 0 → change_refusal (after_change p (asks d)) (asks c) ≡ 0
    → SameFiles (after_change (after_change p (asks c)) (asks d)).image (after_change (after_change p (asks d)) (asks c)).image
clerks p m S c d ne out in-it rc rcd rd rdc = journal-order p m S (asks c) (asks d) rc rcd rd rdc (λ z. ne (sym (asks-about c) ∙ z ∙ asks-about d))

-- A FOLDER REMOVED had nothing inside
pub removed-bare : (s : List ℕ) (m : Model) → Shows s m → check s ≡ 0 → (path : List ℕ) → refusal s (plain (delete_directory path)) ≡ 0
    → (other : List ℕ) → is_inside other path ≡ true → other ≢ path → shows_nothing (m.at other) ≡ true
unfolding refusal changes.refusal delete_directory_refusal becomes subject views.subject further views.further
removed-bare s m S ok path r other inside ne = go (shows_nothing (m.at other)) refl
  where
    c : Change
    c = plain (delete_directory path)

    go : (t : Bool) → shows_nothing (m.at other) ≡ t → shows_nothing (m.at other) ≡ true
    go true e = e
    go false e =
        let A = directory-at-path s path (first_of-zero (directory_refusal s path) _ r).0 in
        let fits = allowed s m S ok (plain (delete_directory path)) r in
        let gone : shows_folder ((step m (plain (delete_directory path))).at path) ≡ false = ap shows_folder (own_at m (plain (delete_directory path)) fits) in
        let k : (step m (plain (delete_directory path))).at other ≡ m.at other = other_at m (plain (delete_directory path)) fits other (λ i. ⊎_elim ne (λ x. x) i) in
        let f = shows-tree (after s (plain (delete_directory path))) (step m (plain (delete_directory path))) (refines s m S ok (plain (delete_directory path)) r) other path A.good inside ne (ap shows_nothing k ∙ e) in
        absurd (false≢true (sym gone ∙ f))
