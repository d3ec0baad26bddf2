-- What a change is about: the cases of `Target` that are used in common.
use Prim.Native.Nat.{ℕ, ◌<◌}
use mathlib.Core.Path.{◌≡◌, refl, ◌∙◌}
use mathlib.Core.Bool.{Bool}
use mathlib.Core.List.{List}
use Rattle.std.specs.Prelude.{Result, Ok, Err}
use Rattle.layout.specs.declared.file.File.{File}
use Rattle.layout.specs.declared.refusal.Refusal.{Refusal}
use Rattle.layout.specs.Walks.Looks.{Located, Opened}
use Rattle.volume.specs.declared.change.Change as code
use Rattle.volume.specs.declared.change.Change.TheVariants as kinds
use Rattle.volume.specs.Asked.{asked}
use Rattle.volume.specs.Change.{Change, refusal, slot_given}
use Rattle.volume.specs.Move.{move_refusal}
use Rattle.volume.specs.Walks.Places.{Vacant, SearchedFor}
use Rattle.volume.specs.Walks.Moves.{PreparesFor}
use Rattle.volume.specs.Walks.Targets.{Target, Moving, PreparedFor, answered}

module _ (s path bytes : List ℕ) (slot block first size blocks : ℕ) where
  pub target-low : (what : code.Change) → Target s (asked what path bytes) slot block first size blocks → slot < 256
  unfolding Target
  target-low (kinds.Create given) t = t.low
  target-low (kinds.Write offset time) t = t.low
  target-low kinds.Delete t = t.low
  target-low (kinds.CreateDirectory given d) t = t.low
  target-low kinds.DeleteDirectory t = t.low
  target-low kinds.SetAttributes t = t.low
  target-low kinds.ClearAttributes t = t.low
  target-low kinds.ClearFlags t = t.low
  target-low (kinds.Shorten length time) t = t.low
  target-low (kinds.Replace time) t = t.low
  target-low kinds.Move t = t.low

  pub target-slot : (what : code.Change) → Target s (asked what path bytes) slot block first size blocks → answered what slot ≡ slot_given s (asked what path bytes)
  unfolding Target answered slot_given
  target-slot (kinds.Create given) t = t.lowest
  target-slot (kinds.Write offset time) t = refl
  target-slot kinds.Delete t = refl
  target-slot (kinds.CreateDirectory given d) t = t.lowest
  target-slot kinds.DeleteDirectory t = refl
  target-slot kinds.SetAttributes t = refl
  target-slot kinds.ClearAttributes t = refl
  target-slot kinds.ClearFlags t = refl
  target-slot (kinds.Shorten length time) t = refl
  target-slot (kinds.Replace time) t = refl
  target-slot kinds.Move t = t.lowest

-- the answers that prepare a change: an entry, the place of a new one, and where the entry of a move goes
module _ (s : List ℕ) (c : Change) where
  pub prepared-entry : (type : ℕ → Bool) (path : List ℕ) (n : ℕ) → n ≡ refusal s c
      → ((slot block first size blocks : ℕ) → Located type s path slot block first size blocks → Target s c slot block first size blocks) → (r : Result File Refusal)
      → Opened type s path n r → PreparedFor s c r
  prepared-entry type path n e t (Ok f) o = record { number_is = o.number_is ∙ e; target = λ z. t f.slot f.block f.first f.size f.blocks (o.file z) }
  prepared-entry type path n e t (Err why) o = o ∙ e

  pub prepared-place : (path : List ℕ) (n : ℕ) → n ≡ refusal s c → ((slot block first size blocks : ℕ) → Vacant s path first slot block → Target s c slot block first size blocks)
      → (r : Result File Refusal) → SearchedFor s path n r → PreparedFor s c r
  prepared-place path n e t (Ok f) o = record { number_is = o.number_is ∙ e; target = λ z. t f.slot f.block f.first f.size f.blocks (o.vacant z) }
  prepared-place path n e t (Err why) o = o ∙ e

  pub prepared-move : (path to : List ℕ) → move_refusal s path to ≡ refusal s c
      → ((slot block first size blocks : ℕ) → Moving s path to slot block first size → Target s c slot block first size blocks) → (r : Result File Refusal)
      → PreparesFor s path to r → PreparedFor s c r
  prepared-move path to e t (Ok f) o = record { number_is = o.number_is ∙ e; target = λ z. t f.slot f.block f.first f.size f.blocks (o.moving z) }
  prepared-move path to e t (Err why) o = o ∙ e
