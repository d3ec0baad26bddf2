-- TWO CHANGES IN EITHER ORDER (L13): they leave the same files. No pair of kinds is looked at: only that each change makes of what its own path shows a
-- function of that, leaves what other paths show, and may bring the file to a further path, where there was nothing. If both are accepted in both orders
-- and their first paths differ, no further path of one is a path of the other.
use Prim.Native.Nat.{ℕ, ◌+◌, ◌-◌}
use mathlib.Core.Path.{◌≡◌, refl, sym, ap, ◌∙◌, subst}
use mathlib.Core.Bool.{Bool, true, false}
use mathlib.Core.List.{List, [], ◌∷◌}
use mathlib.Core.Logic.{◌⊎◌, inl, inr, ⊎_elim, ◌≢◌}
use native.Mathlib.Omega.{arith}
use borrow.Author.Tests.{eq-eqb}
use lib.ListN.{length}
use Rattle.layout.specs.Lists.{has, same}
use Rattle.layout.specs.Bytes.{be32}
use Rattle.layout.specs.Geometry.{block_count}
use Rattle.layout.specs.Directory.{is_directory}
use Rattle.layout.specs.Check.{check}
use Rattle.layout.specs.Paths.{parts, path_ok, shallow, path_slot, entry_of, directory_refusal}
use Rattle.volume.specs.Directories.{delete_directory_refusal}
use Rattle.volume.specs.Change.{Change, create, write, delete, create_directory, delete_directory, set_attributes, clear_attributes, clear_flags, shorten, replace, refusal, after, move}
use Rattle.volume.specs.Claims.{Aside}
use Rattle.volume.specs.Views.{File, Folder, Maybe, nothing, folder_of, file_at, folder_at, SameFiles, subject, further, subjects, made, made_folder, takes, gives, gives_folder}
use Rattle.volume.proofs.Laws.Sound.{kept}
use Rattle.volume.proofs.Laws.Places.{set-path}
use Rattle.volume.proofs.Laws.Shorten.{shorten-given}
use Rattle.volume.proofs.Laws.Replace.{replace-there}
use Rattle.volume.proofs.Laws.Moved.{move-given, move-vacant}
use Rattle.volume.proofs.Laws.Views.{not-nothing}
use Rattle.volume.proofs.Laws.Shown.{not-shown, write-path}
use Rattle.volume.proofs.Laws.Acts.{acts}
use Rattle.layout.proofs.Laws.Tests.{first_of-zero, true-not-false}
use Rattle.layout.proofs.Laws.Inside.{directory-used-type}
use Rattle.layout.proofs.Laws.Lists.{In, in-has}
use Rattle.layout.proofs.Laws.Names.{same-eq, same_refl, same_or_not}
use Rattle.layout.proofs.Laws.Sound.{sound}

-- what a path shows, file and directory
abbrev pub Shown : Type 0
Shown = Maybe File × Maybe Folder

unfoldable pub shown : List ℕ → List ℕ → Shown
shown s path = (file_at s path, folder_at s path)

abbrev pub none : Shown
none = (nothing, nothing)

-- a change by what it does: its path, what it makes of what that shows, and the blocks that it takes and gives back then; and the further paths, that it
-- brings the file to which its path showed
pub record Action : Type 0 where
  pub path : List ℕ
  pub tos : List (List ℕ)
  pub makes : Shown → Shown
  pub takes : Shown → ℕ
  pub gives : Shown → ℕ

-- it was done to s, which left s': its path shows something before or after it; nothing is at a further path, and a file then comes there
pub record Done (c : Action) (s s' : List ℕ) : Type 0 where
  pub alive : shown s c.path ≡ none → shown s' c.path ≡ none → ⊥
  pub vacant : (to : List ℕ) → In to c.tos → shown s to ≡ none
  pub brings : (to : List ℕ) → In to c.tos → (shown s c.path).0 ≢ nothing
  pub own : shown s' c.path ≡ c.makes (shown s c.path)
  pub arrived : (to : List ℕ) → In to c.tos → shown s' to ≡ ((shown s c.path).0, (shown s to).1)
  pub others : (other : List ℕ) → (In other (c.path ∷ c.tos) → ⊥) → shown s' other ≡ shown s other
  pub used : be32 s' 20 + c.gives (shown s c.path) ≡ be32 s 20 + c.takes (shown s c.path)
  pub size : length s' ≡ length s
  pub sound : check s' ≡ 0

-- nothing is in both lists
abbrev pub Disjoint : List (List ℕ) → List (List ℕ) → Type 0
Disjoint ps qs = (p : List ℕ) → In p ps → In p qs → ⊥

pub in-or-not : (p : List ℕ) (ps : List (List ℕ)) → In p ps ⊎ (In p ps → ⊥)
in-or-not p [] = inr (λ i. i)
in-or-not p (q ∷ ps) = go (same_or_not p q) (in-or-not p ps)
  where
    go : (p ≡ q) ⊎ (p ≢ q) → In p ps ⊎ (In p ps → ⊥) → In p (q ∷ ps) ⊎ (In p (q ∷ ps) → ⊥)
    go (inl e) r = inl (inl e)
    go (inr ne) (inl i) = inl (inr i)
    go (inr ne) (inr out) = inr (λ i. ⊎_elim ne out i)

-- one order, by what the paths show before both
module _ (c d : Action) (ne : Disjoint (c.path ∷ c.tos) (d.path ∷ d.tos)) (s a x : List ℕ) (C : Done c s a) (D : Done d a x) where
  before : (p : List ℕ) → In p (d.path ∷ d.tos) → shown a p ≡ shown s p
  before p i = C.others p (λ j. ne p j i)

  since : (p : List ℕ) → In p (c.path ∷ c.tos) → shown x p ≡ shown a p
  since p i = D.others p (λ j. ne p i j)

  still : shown a d.path ≡ shown s d.path
  still = before d.path (inl refl)

  first-path : shown x c.path ≡ c.makes (shown s c.path)
  first-path = since c.path (inl refl) ∙ C.own

  first_to : (p : List ℕ) → In p c.tos → shown x p ≡ ((shown s c.path).0, (shown s p).1)
  first_to p i = since p (inr i) ∙ C.arrived p i

  second-path : shown x d.path ≡ d.makes (shown s d.path)
  second-path = D.own ∙ ap d.makes still

  second-to : (p : List ℕ) → In p d.tos → shown x p ≡ ((shown s d.path).0, (shown s p).1)
  second-to p i = D.arrived p i ∙ rw (still, before p (inr i))

  other-paths : (path : List ℕ) → (In path (c.path ∷ c.tos) → ⊥) → (In path (d.path ∷ d.tos) → ⊥) → shown x path ≡ shown s path
  other-paths path n m = D.others path m ∙ C.others path n

  both_used : be32 x 20 + (c.gives (shown s c.path) + d.gives (shown s d.path)) ≡ be32 s 20 + (c.takes (shown s c.path) + d.takes (shown s d.path))
  both_used = let u = C.used in let w = rw still at D.used in omega arith

  both-size : length x ≡ length s
  both-size = D.size ∙ C.size

free-is : (s : List ℕ) → check s ≡ 0 → be32 s 24 ≡ block_count s - be32 s 20
free-is s ok = let u = (sound s ok).used-is in let f = (sound s ok).free-is in omega arith

-- both orders
module _ (c d : Action) (differ : c.path ≢ d.path) (s a x b y : List ℕ) (C : Done c s a) (CD : Done d a x) (D : Done d s b) (DC : Done c b y) where
  -- a further path of one is no path of the other: nothing is there when the one is accepted, before the other and after it
  pub no-common : Disjoint (c.path ∷ c.tos) (d.path ∷ d.tos)
  no-common p (inl e) (inl f) = differ (sym e ∙ f)
  no-common p (inl e) (inr j) = C.alive (subst (λ (q : List ℕ). shown s q ≡ none) e (D.vacant p j)) (subst (λ (q : List ℕ). shown a q ≡ none) e (CD.vacant p j))
  no-common p (inr i) (inl f) = D.alive (subst (λ (q : List ℕ). shown s q ≡ none) f (C.vacant p i)) (subst (λ (q : List ℕ). shown b q ≡ none) f (DC.vacant p i))
  no-common p (inr i) (inr j) = C.brings p i (ap (λ (m : Shown). m.0) (sym (C.arrived p i) ∙ CD.vacant p j))

  en : Disjoint (d.path ∷ d.tos) (c.path ∷ c.tos)
  en p i j = no-common p j i

  all-paths : (path : List ℕ) → In path (c.path ∷ c.tos) ⊎ (In path (c.path ∷ c.tos) → ⊥) → In path (d.path ∷ d.tos) ⊎ (In path (d.path ∷ d.tos) → ⊥) → shown x path ≡ shown y path
  all-paths path (inl (inl z)) w = rw z (first-path c d no-common s a x C CD ∙ sym (second-path d c en s b y D DC))
  all-paths path (inl (inr i)) w = first_to c d no-common s a x C CD path i ∙ sym (second-to d c en s b y D DC path i)
  all-paths path (inr n) (inl (inl z)) = rw z (second-path c d no-common s a x C CD ∙ sym (first-path d c en s b y D DC))
  all-paths path (inr n) (inl (inr i)) = second-to c d no-common s a x C CD path i ∙ sym (first_to d c en s b y D DC path i)
  all-paths path (inr n) (inr m) = other-paths c d no-common s a x C CD path n m ∙ sym (other-paths d c en s b y D DC path m n)

  shows : (path : List ℕ) → shown x path ≡ shown y path
  shows path = all-paths path (in-or-not path (c.path ∷ c.tos)) (in-or-not path (d.path ∷ d.tos))

  pub same-files : SameFiles x y
  unfolding shown
  same-files =
      record {
        files = λ path. ap (λ (m : Shown). m.0) (shows path);
        folders = λ path. ap (λ (m : Shown). m.1) (shows path);
        free =
            let u = both_used c d no-common s a x C CD in
            let w = both_used d c en s b y D DC in
            let l = both-size c d no-common s a x C CD in
            let m = both-size d c en s b y D DC in
            let same-used : be32 x 20 ≡ be32 y 20 = omega arith in
            free-is x CD.sound ∙ rw (same-used, l ∙ sym m) (sym (free-is y DC.sound));
      }

-- the same by tests: a path that is none of a list; and two lists of paths, none of one in the other, have first paths that differ
pub not_in : (p : List ℕ) (ps : List (List ℕ)) → has same p ps ≡ false → In p ps → ⊥
not_in p ps f i = true-not-false {a = has same p ps} (in-has same same-eq same_refl p ps i) f

pub aside-differ : (ps qs : List (List ℕ)) (p q : List ℕ) → Aside (p ∷ ps) (q ∷ qs) → p ≢ q
aside-differ ps qs p q aside e = not_in p (q ∷ qs) (aside p (in-has same same-eq same_refl p (p ∷ ps) (inl refl))) (inl e)

-- the volume's changes
abbrev pub action : Change → Action
action c =
    record {
      path = subject c;
      tos = further c;
      makes = λ m. (made c m.0, made_folder c m.1);
      takes = λ m. takes c m.0;
      gives = λ m. gives c m.0 + gives_folder c m.1;
    }

-- where there is no directory, none is shown
no-folder : (s path : List ℕ) → path_slot is_directory s path ≡ 0 → folder_at s path ≡ nothing
unfolding folder_at directory_refusal
no-folder s path z = go (path_ok path) refl (shallow (parts path)) refl
  where
    go : (g : Bool) → path_ok path ≡ g → (w : Bool) → shallow (parts path) ≡ w → folder_at s path ≡ nothing
    go false q w v = rw q
    go true q false v = rw (q, v)
    go true q true v = rw (q, v, eq-eqb (path_slot is_directory s path) 0 z)

pub folder-there : (s path : List ℕ) → directory_refusal s path ≡ 0 → folder_at s path ≢ nothing
unfolding folder_at
folder-there s path r q = not-nothing (folder_of s (entry_of is_directory s path)) (rw r at q)

-- an accepted change is about something that its path shows before, or after
lively : (s : List ℕ) (c : Change) → check s ≡ 0 → refusal s c ≡ 0 → file_at s (subject c) ≡ nothing → folder_at s (subject c) ≡ nothing
    → made c (file_at s (subject c)) ≡ nothing → made_folder c (folder_at s (subject c)) ≡ nothing → ⊥
unfolding refusal subject made made_folder delete_directory_refusal
lively s (create path type user group permissions flags time) ok r f d now g = not-nothing _ now
lively s (write path offset bytes time) ok r f d now g = not-shown s path f (write-path s path ok offset (length bytes) r).0
lively s (delete path) ok r f d now g = not-shown s path f r
lively s (create_directory path type user group permissions flags time size) ok r f d now g = not-nothing _ g
lively s (delete_directory path) ok r f d now g = folder-there s path (first_of-zero (directory_refusal s path) _ r).0 d
lively s (set_attributes path bytes) ok r f d now g = not-shown s path f (set-path s path (length bytes) r)
lively s (clear_attributes path) ok r f d now g = not-shown s path f r
lively s (clear_flags path) ok r f d now g = not-shown s path f r
lively s (shorten path size time) ok r f d now g = not-shown s path f (shorten-given s path size r).there
lively s (replace path bytes time) ok r f d now g = not-shown s path f (replace-there s path (length bytes) r)
lively s (move path to) ok r f d now g = not-shown s path f (move-given s path to r).from

-- a change with a further path has a file at its first, and no directory is at the further one
carries : (s : List ℕ) (c : Change) → refusal s c ≡ 0 → (to : List ℕ) → In to (further c) → (file_at s (subject c) ≢ nothing) × (folder_at s to ≡ nothing)
unfolding refusal subject further
carries s (create path type user group permissions flags time) r p i = absurd i
carries s (write path offset bytes time) r p i = absurd i
carries s (delete path) r p i = absurd i
carries s (create_directory path type user group permissions flags time d) r p i = absurd i
carries s (delete_directory path) r p i = absurd i
carries s (set_attributes path bytes) r p i = absurd i
carries s (clear_attributes path) r p i = absurd i
carries s (clear_flags path) r p i = absurd i
carries s (shorten path size time) r p i = absurd i
carries s (replace path bytes time) r p i = absurd i
carries s (move path to) r p (inl q) =
    let G = move-given s path to r in
    ((λ z. not-shown s path z G.from), ap (folder_at s) q ∙ no-folder s to (move-vacant s path to G is_directory directory-used-type))
carries s (move path to) r p (inr i) = absurd i

pub done : (s : List ℕ) (c : Change) → check s ≡ 0 → refusal s c ≡ 0 → Done (action c) s (after s c)
unfolding shown
done s c ok r =
    let A = acts s c ok r in
    record {
      alive = λ was now. lively s c ok r (ap (λ (m : Shown). m.0) was) (ap (λ (m : Shown). m.1) was)
          (sym A.own ∙ ap (λ (m : Shown). m.0) now) (sym A.folder ∙ ap (λ (m : Shown). m.1) now);
      vacant = λ to i. rw (A.vacant to i, (carries s c r to i).1);
      brings = λ to i. (carries s c r to i).0;
      own = rw (A.own, A.folder);
      arrived = λ to i. rw (A.arrived to i, A.kept to i);
      others = λ other ne. rw (A.others other ne, A.folders other (λ q. ne (inl q)));
      used = A.used;
      size = A.size;
      sound = kept s c ok r;
    }

module _ (s : List ℕ) (ok : check s ≡ 0) (c d : Change) (rc : refusal s c ≡ 0) (rcd : refusal (after s c) d ≡ 0) (rd : refusal s d ≡ 0) (rdc : refusal (after s d) c ≡ 0) (ne : subject c ≢ subject d) where
  pub either_order : SameFiles (after (after s c) d) (after (after s d) c)
  either_order =
      same-files (action c) (action d) ne s (after s c) (after (after s c) d) (after s d) (after (after s d) c)
      (done s c ok rc) (done (after s c) d (kept s c ok rc) rcd) (done s d ok rd) (done (after s d) c (kept s d ok rd) rdc)

  pub none-common : Disjoint (subjects c) (subjects d)
  none-common =
      no-common (action c) (action d) ne s (after s c) (after (after s c) d) (after s d) (after (after s d) c)
      (done s c ok rc) (done (after s c) d (kept s c ok rc) rcd) (done s d ok rd) (done (after s d) c (kept s d ok rd) rdc)
