-- The soundness law: an accepted change keeps an image sound.
use Prim.Native.Nat.{ℕ}
use mathlib.Core.Path.{◌≡◌}
use mathlib.Core.List.{List}
use lib.ListN.{length}
use Rattle.layout.specs.Check.{check}
use Rattle.volume.specs.Change.{Change, create, write, delete, create_directory, delete_directory, set_attributes, clear_attributes, clear_flags, shorten, replace, refusal, after, move}
use Rattle.volume.proofs.Laws.Places.{write-given}
use Rattle.volume.proofs.Laws.Create.{kept-create}
use Rattle.volume.proofs.Laws.Write.{kept-write}
use Rattle.volume.proofs.Laws.Delete.{kept-delete}
use Rattle.volume.proofs.Laws.SetClear.{kept_set, kept-clear}
use Rattle.volume.proofs.Laws.Flags.{kept-flags}
use Rattle.volume.proofs.Laws.Shorten.{kept-shorten}
use Rattle.volume.proofs.Laws.Replace.{kept-replace}
use Rattle.volume.proofs.Laws.Moved.{kept_move}
use Rattle.volume.proofs.Laws.DeleteDirectory.{kept-delete-directory}
use Rattle.volume.proofs.Laws.CreateDirectory.{kept-create-directory}

abbrev pub KeptSound : Type 0
KeptSound = (s : List ℕ) (c : Change) → check s ≡ 0 → refusal s c ≡ 0 → check (after s c) ≡ 0

pub kept : KeptSound
unfolding refusal after
kept s (create path type user group permissions flags time) ok r = kept-create s path type user group permissions flags time ok r
kept s (write path offset bytes time) ok r = kept-write s path offset bytes time ok (write-given s path offset (length bytes) r)
kept s (delete path) ok r = kept-delete s path ok r
kept s (create_directory path type user group permissions flags time d) ok r = kept-create-directory s path type user group permissions flags time d ok r
kept s (delete_directory path) ok r = kept-delete-directory s path ok r
kept s (set_attributes path bytes) ok r = kept_set s path bytes ok r
kept s (clear_attributes path) ok r = kept-clear s path ok r
kept s (clear_flags path) ok r = kept-flags s path ok r
kept s (shorten path size time) ok r = kept-shorten s path size time ok r
kept s (replace path bytes time) ok r = kept-replace s path bytes time ok r
kept s (move path to) ok r = kept_move s path to ok r
