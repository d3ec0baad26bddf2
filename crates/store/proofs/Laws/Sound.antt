-- The soundness law: an accepted change, a put too, keeps an image sound.
use Prim.Native.Nat.{ℕ}
use mathlib.Core.Path.{◌≡◌}
use mathlib.Core.List.{List}
use Rattle.layout.specs.Check.{check}
use Rattle.store.specs.Change.{Change, plain, put_in, refusal, after}
use Rattle.volume.proofs.Laws.Sound as volume
use Rattle.store.proofs.Laws.Put.{put-sound}

abbrev pub KeptSound : Type 0
KeptSound = (s : List ℕ) (c : Change) → check s ≡ 0 → refusal s c ≡ 0 → check (after s c) ≡ 0

pub kept : KeptSound
unfolding refusal after
kept s (plain c) ok r = volume.kept s c ok r
kept s (put_in directory serial time bytes) ok r = put-sound s directory serial time bytes ok r
