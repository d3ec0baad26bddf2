-- Two changes in either order (L13), puts among them: a put, too, makes of what its own path shows a function of that, and leaves what other paths show.
use Prim.Native.Nat.{ℕ, ◌+◌}
use mathlib.Core.Path.{◌≡◌, sym, ap, ◌∙◌}
use mathlib.Core.List.{List}
use mathlib.Core.Logic.{inl, ◌≢◌}
use Rattle.layout.specs.Directory.{size_of}
use Rattle.layout.specs.Check.{check}
use Rattle.volume.specs.Change as changes
use Rattle.volume.specs.Views as views
use Rattle.volume.specs.Views.{File, Maybe, nothing, just, file_of, file_at, SameFiles}
use Rattle.store.specs.Put.{path_of, opened, entry_at, rewritten, put_image, put_refusal}
use Rattle.store.specs.Change.{Change, plain, put_in, refusal, after, subject, further}
use Rattle.store.specs.Views.{length_in, opened_in, write_in, made, made_folder, takes, gives, gives_folder}
use Rattle.volume.proofs.Laws.Views.{not-nothing, file-shown}
use Rattle.volume.proofs.Laws.Effects.{content-length}
use Rattle.volume.proofs.Laws.Orders as volume
use Rattle.volume.proofs.Laws.Orders.{Action, Done, Shown, shown, same-files}
use Rattle.store.proofs.Laws.Serials.{there-shown, absent-shown, stored-view}
use Rattle.store.proofs.Laws.Put.{by-opened, created, put-serial, opened-sound, opened-accepted, opened-used, put-effect, put-sound, put-others, put-folders, put-length}
use Rattle.store.proofs.Laws.Sound.{kept}

-- any change by what it does
abbrev pub action : Change → Action
action c =
    record {
      path = subject c;
      tos = further c;
      makes = λ m. (made c m.0, made_folder c m.1);
      takes = λ m. takes c m.0;
      gives = λ m. gives c m.0 + gives_folder c m.1;
    }

module _ (s directory serial : List ℕ) (time : ℕ) (bytes : List ℕ) (ok : check s ≡ 0) (r : put_refusal s directory serial time bytes ≡ 0) where
  abbrev t : List ℕ
  t = opened s directory serial time

  abbrev path : List ℕ
  path = path_of directory serial

  abbrev was : Maybe File
  was = file_at s (path_of directory serial)

  opened_view : file_at t path ≡ opened_in directory serial time was
  unfolding changes.after views.subject
  opened_view = by-opened s directory serial time bytes ok r (λ x. file_at x path ≡ opened_in directory serial time was)
      (λ q. rw (there-shown s directory serial (put-serial s directory serial time bytes ok r) q))
      (λ q c. (created s directory serial time bytes ok r c).own ∙ rw (absent-shown s directory serial (put-serial s directory serial time bytes ok r) q))

  size-view : size_of t (entry_at s directory serial time) ≡ length_in (opened_in directory serial time was)
  unfolding entry_at file_of
  size-view =
      let q = opened-accepted s directory serial time bytes ok r in
      sym (content-length t path (opened-sound s directory serial time bytes ok r) q) ∙ sym (ap length_in (file-shown t path q)) ∙ ap length_in opened_view

  whole-view : changes.write path 0 (rewritten s directory serial time bytes) time ≡ write_in directory serial time bytes was
  unfolding rewritten
  whole-view = rw (size-view, stored-view s directory serial (put-serial s directory serial time bytes ok r))

  pub put-own : file_at (put_image s directory serial time bytes) path ≡ made (put_in directory serial time bytes) was
  unfolding changes.after views.subject put_image entry_at made
  put-own = rw ((put-effect s directory serial time bytes ok r).own, whole-view, opened_view)

  -- after a put there is a file
  put_some : (m : Maybe File) → made (put_in directory serial time bytes) m ≢ nothing
  unfolding made views.made
  put_some nothing q = not-nothing _ q
  put_some (just f) q = not-nothing _ q

  put-done : Done (action (put_in directory serial time bytes)) s (put_image s directory serial time bytes)
  unfolding shown changes.after views.subject views.gives put_image entry_at subject further made_folder takes gives gives_folder
  put-done =
      let W = put-effect s directory serial time bytes ok r in
      record {
        own = rw (put-own, put-folders s directory serial time bytes ok r path);
        alive = λ q now. put_some was (sym put-own ∙ ap (λ (m : Shown). m.0) now);
        vacant = λ to i. absurd i;
        brings = λ to i. absurd i;
        arrived = λ to i. absurd i;
        others = λ other ne. rw (put-others s directory serial time bytes ok r other (λ q. ne (inl q)), put-folders s directory serial time bytes ok r other);
        used = W.used ∙ rw (opened-used s directory serial time bytes ok r, whole-view, opened_view);
        size = put-length s directory serial time bytes ok r;
        sound = put-sound s directory serial time bytes ok r;
      }

pub done : (s : List ℕ) (c : Change) → check s ≡ 0 → refusal s c ≡ 0 → Done (action c) s (after s c)
unfolding refusal after subject further made made_folder takes gives gives_folder
done s (plain c) ok r = volume.done s c ok r
done s (put_in directory serial time bytes) ok r = put-done s directory serial time bytes ok r

pub either_order : (s : List ℕ) → check s ≡ 0 → (c d : Change) → refusal s c ≡ 0 → refusal (after s c) d ≡ 0 → refusal s d ≡ 0 → refusal (after s d) c ≡ 0
    → subject c ≢ subject d → SameFiles (after (after s c) d) (after (after s d) c)
either_order s ok c d rc rcd rd rdc ne =
    same-files (action c) (action d) ne s (after s c) (after (after s c) d) (after s d) (after (after s d) c)
    (done s c ok rc) (done (after s c) d (kept s c ok rc) rcd) (done s d ok rd) (done (after s d) c (kept s d ok rd) rdc)
