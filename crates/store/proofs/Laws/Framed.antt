-- The frame law of an accepted change, a put too: it changes no byte outside its named blocks, and these are blocks of the volume.
use Prim.Native.Nat.{ℕ, ◌/◌, ◌<◌}
use mathlib.Core.Path.{◌≡◌, refl, subst}
use mathlib.Core.Bool.{true}
use mathlib.Core.List.{List, [], ◌∷◌}
use mathlib.Core.Logic.{inl}
use lib.ListN.{length}
use lib.Dec.{eqb}
use Rattle.layout.specs.Lists.{has}
use Rattle.layout.specs.Geometry.{block_count}
use Rattle.layout.specs.Directory.{is_file}
use Rattle.layout.specs.Check.{check}
use Rattle.layout.specs.Paths.{entry_of}
use Rattle.volume.specs.Create.{create_refusal, create_image, create_named, place}
use Rattle.volume.specs.Write.{write_named}
use Rattle.volume.specs.Change as volume
use Rattle.store.specs.Put.{path_of, opened, entry_at, rewritten, put_image, put_named, put_refusal}
use Rattle.store.specs.Change.{Change, plain, put_in, refusal, after, named}
use Rattle.volume.proofs.Laws.Framed as frames
use Rattle.volume.proofs.Laws.Effects.{create-entry}
use Rattle.store.proofs.Laws.Put.{opened-sound, opened-length, by-opened, put-given}
use Rattle.layout.proofs.Laws.Lists.{In, in-single}
use Rattle.layout.proofs.Laws.Frames.{Agree, agree_refl, agree_then}
use Rattle.layout.proofs.Laws.Sound.{sound}

pub record Framed (s : List ℕ) (c : Change) : Type 0 where
  pub agree : Agree s (after s c) (named s c)
  pub inside : (b : ℕ) → has eqb b (named s c) ≡ true → b < block_count s
  -- there is a named block
  pub one : ℕ
  pub listed : has eqb one (named s c) ≡ true

module _ (s directory serial : List ℕ) (time : ℕ) (bytes : List ℕ) (ok : check s ≡ 0) (r : put_refusal s directory serial time bytes ≡ 0) where
  abbrev t : List ℕ
  t = opened s directory serial time

  abbrev path : List ℕ
  path = path_of directory serial

  abbrev whole : List ℕ
  whole = rewritten s directory serial time bytes

  module _ (c : create_refusal s path 0x60 0 ≡ 0) where
    made-agree : Agree s (create_image s path 0x60 0 0 0 0 time) (place s path / 512 ∷ [])
    unfolding volume.after volume.named create_named
    made-agree = (frames.create-framed s (sound s ok) path 0x60 0 0 0 0 time c).agree

    made : Agree s (create_image s path 0x60 0 0 0 0 time) (entry_of is_file (create_image s path 0x60 0 0 0 0 time) path / 512 ∷ [])
    made = rw (create-entry s path ok 0x60 0 0 0 0 time c) made-agree

  -- making the file changes its entry's block alone
  pub opened-agree : Agree s t (entry_of is_file t path / 512 ∷ [])
  opened-agree = by-opened s directory serial time bytes ok r (λ x. Agree s x (entry_of is_file x path / 512 ∷ [])) (λ q. agree_refl s _) (λ q c. made c)

  F : frames.Framed t (volume.write path 0 whole time)
  F = frames.write-framed t (sound t (opened-sound s directory serial time bytes ok r)) path 0 whole time (put-given s directory serial time bytes ok r)

  first-named : (x : ℕ) → In x (entry_of is_file t path / 512 ∷ []) → In x (write_named t (entry_of is_file t path) 0 (length whole))
  unfolding write_named
  first-named = in-single (entry_of is_file t path / 512) (write_named t (entry_of is_file t path) 0 (length whole)) (inl refl)

  put-framed : Framed s (put_in directory serial time bytes)
  unfolding after named put_image put_named entry_at volume.after volume.named
  put-framed =
      record {
        agree = agree_then opened-agree F.agree first-named (λ x i. i);
        inside = λ b i. subst (λ (k : ℕ). b < k / 512) (opened-length s directory serial time bytes ok r) (F.inside b i);
        one = F.one;
        listed = F.listed;
      }

pub frame : (s : List ℕ) (c : Change) → check s ≡ 0 → refusal s c ≡ 0 → Framed s c
unfolding refusal after named
frame s (plain c) ok r = let f = frames.frame s c ok r in record { agree = f.agree; inside = f.inside; one = f.one; listed = f.listed }
frame s (put_in directory serial time bytes) ok r = put-framed s directory serial time bytes ok r
