-- One path inside the other (L13): two changes on such paths are not both accepted in both orders.
use Prim.Native.Nat.{ℕ}
use mathlib.Core.Path.{◌≡◌, sym, subst}
use mathlib.Core.Bool.{true, false}
use mathlib.Core.List.{List}
use mathlib.Core.Logic.{inl, inr, ⊎_elim, ◌≢◌}
use borrow.Author.Tests.{ne_eqb}
use lib.ListN.{length}
use Rattle.layout.specs.Claims.{is_inside}
use Rattle.layout.specs.Directory.{slot_at, type_of, is_file, is_directory, directory}
use Rattle.layout.specs.Check.{check}
use Rattle.layout.specs.Paths.{parts, path_ok, last_part, shallow, home, path_slot, directory_refusal}
use Rattle.volume.specs.Create.{place_refusal}
use Rattle.volume.specs.Directories.{delete_directory_refusal}
use Rattle.volume.specs.Change.{Change, create, write, delete, create_directory, delete_directory, set_attributes, clear_attributes, clear_flags, shorten, replace, refusal, after, move}
use Rattle.volume.specs.Claims.{Apart}
use Rattle.volume.specs.Views.{subject, further, subjects, made_folder}
use Rattle.volume.proofs.Laws.Places.{create-given, create-directory-given, At, file-at-path, directory-at-path, place-there, place-new, write-given, set-path}
use Rattle.volume.proofs.Laws.Shorten.{shorten-given}
use Rattle.volume.proofs.Laws.Replace.{replace-there}
use Rattle.volume.proofs.Laws.Moved.{move-given, move-vacant}
use Rattle.volume.proofs.Laws.Acts.{acts}
use Rattle.volume.proofs.Laws.Orders.{folder-there, none-common}
use Rattle.layout.proofs.Laws.Tests.{is_false, require-zero, first_of-zero}
use Rattle.layout.proofs.Laws.Lists.{In}
use Rattle.layout.proofs.Laws.Paths.{path-named}
use Rattle.layout.proofs.Laws.Inside.{outer-directory, directory-used-type, one-kind}
use Rattle.layout.proofs.Laws.Sound.{Sound, sound}

-- what an accepted change has of its path
led : (s : List ℕ) (c : Change) → refusal s c ≡ 0 → (path_ok (subject c) ≡ true) × (home s (subject c) ≢ 0)
unfolding refusal subject delete_directory_refusal
led s (create path type user group permissions flags time) r = let G = create-given s path type flags r in (G.good, place-there s path G.placed)
led s (write path offset bytes time) r = let A = (write-given s path offset (length bytes) r).there in (A.good, A.there)
led s (delete path) r = let A = file-at-path s path r in (A.good, A.there)
led s (create_directory path type user group permissions flags time d) r = let G = create-directory-given s path type flags d r in (G.good, place-there s path G.placed)
led s (delete_directory path) r = let A = directory-at-path s path (first_of-zero (directory_refusal s path) _ r).0 in (A.good, A.there)
led s (set_attributes path bytes) r = let A = file-at-path s path (set-path s path (length bytes) r) in (A.good, A.there)
led s (clear_attributes path) r = let A = file-at-path s path r in (A.good, A.there)
led s (clear_flags path) r = let A = file-at-path s path r in (A.good, A.there)
led s (shorten path size time) r = let A = file-at-path s path (shorten-given s path size r).there in (A.good, A.there)
led s (replace path bytes time) r = let A = file-at-path s path (replace-there s path (length bytes) r) in (A.good, A.there)
led s (move path to) r = let A = file-at-path s path (move-given s path to r).from in (A.good, A.there)

-- and of a further one, at which there is no directory
led-further : (s : List ℕ) (c : Change) → refusal s c ≡ 0 → (p : List ℕ) → In p (further c) → (path_ok p ≡ true) × (home s p ≢ 0) × (path_slot is_directory s p ≡ 0)
unfolding refusal further
led-further s (create path type user group permissions flags time) r p i = absurd i
led-further s (write path offset bytes time) r p i = absurd i
led-further s (delete path) r p i = absurd i
led-further s (create_directory path type user group permissions flags time d) r p i = absurd i
led-further s (delete_directory path) r p i = absurd i
led-further s (set_attributes path bytes) r p i = absurd i
led-further s (clear_attributes path) r p i = absurd i
led-further s (clear_flags path) r p i = absurd i
led-further s (shorten path size time) r p i = absurd i
led-further s (replace path bytes time) r p i = absurd i
led-further s (move path to) r p i = let G = move-given s path to r in ⊎_elim (λ q. rw q (G.good, G.there, move-vacant s path to G is_directory directory-used-type)) (λ x. absurd x) i

led-any : (s : List ℕ) (c : Change) → refusal s c ≡ 0 → (p : List ℕ) → In p (subjects c) → (path_ok p ≡ true) × (home s p ≢ 0)
led-any s c r p (inl q) = rw q (led s c r)
led-any s c r p (inr i) = let x = led-further s c r p i in (x.0, x.1)

-- where there is a directory, no file is
directory-no-file : (s : List ℕ) → Sound s → (path : List ℕ) → At is_file s path → path_slot is_directory s path ≢ 0 → ⊥
directory-no-file s S path A ne =
    one-kind s S (home s path, A.level) A.home-in (last_part (parts path)) (path_slot is_file s path) (path_slot is_directory s path) A.named (path-named is_directory s path ne)

-- nor is there a place
directory-no-place : (s path : List ℕ) → place_refusal s path ≡ 0 → path_slot is_directory s path ≢ 0 → ⊥
directory-no-place s path r ne =
    let N = path-named is_directory s path ne in
    place-new s path r (path_slot is_directory s path) N.low N.high (directory-used-type (type_of s (slot_at (directory s (home s path)) (path_slot is_directory s path))) N.typed) (sym N.named)

-- and a delete takes it away
deleted-none : (s path : List ℕ) → check s ≡ 0 → (r : refusal s (delete_directory path) ≡ 0) → path_slot is_directory (after s (delete_directory path)) path ≢ 0 → ⊥
unfolding refusal subject made_folder directory_refusal delete_directory_refusal
deleted-none s path ok r ne =
    let a = require-zero (path_ok path) 8 _ (first_of-zero (directory_refusal s path) _ r).0 in
    let b = require-zero (shallow (parts path)) 16 _ a.1 in
    folder-there (after s (delete_directory path)) path (rw (a.0, b.0, ne_eqb (path_slot is_directory (after s (delete_directory path)) path) 0 ne)) (acts s (delete_directory path) ok r).folder

-- so a change of a path is not accepted where the path is a directory, before the change and after it
blocked : (s : List ℕ) → check s ≡ 0 → (c : Change) → refusal s c ≡ 0 → path_slot is_directory s (subject c) ≢ 0 → path_slot is_directory (after s c) (subject c) ≢ 0 → ⊥
unfolding refusal subject
blocked s ok (create path type user group permissions flags time) r was now = directory-no-place s path (create-given s path type flags r).placed was
blocked s ok (write path offset bytes time) r was now = directory-no-file s (sound s ok) path (write-given s path offset (length bytes) r).there was
blocked s ok (delete path) r was now = directory-no-file s (sound s ok) path (file-at-path s path r) was
blocked s ok (create_directory path type user group permissions flags time d) r was now = directory-no-place s path (create-directory-given s path type flags d r).placed was
blocked s ok (delete_directory path) r was now = deleted-none s path ok r now
blocked s ok (set_attributes path bytes) r was now = directory-no-file s (sound s ok) path (file-at-path s path (set-path s path (length bytes) r)) was
blocked s ok (clear_attributes path) r was now = directory-no-file s (sound s ok) path (file-at-path s path r) was
blocked s ok (clear_flags path) r was now = directory-no-file s (sound s ok) path (file-at-path s path r) was
blocked s ok (shorten path size time) r was now = directory-no-file s (sound s ok) path (file-at-path s path (shorten-given s path size r).there) was
blocked s ok (replace path bytes time) r was now = directory-no-file s (sound s ok) path (file-at-path s path (replace-there s path (length bytes) r)) was
blocked s ok (move path to) r was now = directory-no-file s (sound s ok) path (file-at-path s path (move-given s path to r).from) was

blocked-any : (s : List ℕ) → check s ≡ 0 → (c : Change) → refusal s c ≡ 0 → (p : List ℕ) → In p (subjects c) → path_slot is_directory s p ≢ 0 → path_slot is_directory (after s c) p ≢ 0 → ⊥
blocked-any s ok c r p (inl q) was now = blocked s ok c r (rw q at was) (rw q at now)
blocked-any s ok c r p (inr i) was now = was (led-further s c r p i).2

-- d is accepted before c and after it: none of its paths is inside one of c's
outside : (s : List ℕ) → check s ≡ 0 → (c d : Change) → refusal s c ≡ 0 → refusal s d ≡ 0 → refusal (after s c) d ≡ 0
    → (p q : List ℕ) → In p (subjects c) → In q (subjects d) → q ≢ p → is_inside q p ≡ false
outside s ok c d rc rd rcd p q i j ne =
    is_false (is_inside q p) (λ x.
    let g = led-any s d rd q j in
    let h = led-any (after s c) d rcd q j in
    let f = (led-any s c rc p i).0 in
    blocked-any s ok c rc p i (outer-directory s q p g.0 f ne g.1 x) (outer-directory (after s c) q p h.0 f ne h.1 x))

pub accepted-apart : (s : List ℕ) → check s ≡ 0 → (c d : Change) → refusal s c ≡ 0 → refusal (after s c) d ≡ 0 → refusal s d ≡ 0 → refusal (after s d) c ≡ 0
    → subject c ≢ subject d → (p q : List ℕ) → In p (subjects c) → In q (subjects d) → Apart p q
accepted-apart s ok c d rc rcd rd rdc different p q i j =
    let ne : p ≢ q = λ z. none-common s ok c d rc rcd rd rdc different p i (subst (λ (x : List ℕ). In x (subjects d)) (sym z) j) in
    record { differ = ne; outside = outside s ok d c rd rc rdc q p j i ne; around = outside s ok c d rc rd rcd p q i j (λ z. ne (sym z)) }
