-- The blocks that are free after a change (L7), a put too: those that it freed hold only zeros, those that were free before hold what they held.
use Prim.Native.Nat.{ℕ, ◌/◌, ◌<◌}
use mathlib.Core.Path.{◌≡◌, refl, sym, ap, ◌∙◌}
use mathlib.Core.List.{List}
use mathlib.Core.Logic.{⊎_elim}
use native.Mathlib.Omega.{arith}
use Rattle.layout.specs.Geometry.{block_count}
use Rattle.layout.specs.Table.{next}
use Rattle.layout.specs.Directory.{is_file}
use Rattle.layout.specs.Check.{check}
use Rattle.layout.specs.Paths.{entry_of}
use Rattle.volume.specs.Change as changes
use Rattle.volume.specs.Claims.{Blanked}
use Rattle.store.specs.Put.{path_of, opened, entry_at, rewritten, put_image, put_refusal}
use Rattle.store.specs.Change.{Change, plain, put_in, refusal, after}
use Rattle.volume.proofs.Laws.Blank as volume
use Rattle.volume.proofs.Laws.Framed.{at_entry}
use Rattle.store.proofs.Laws.Put.{by-opened, opened-sound, opened-length, put-given}
use Rattle.store.proofs.Laws.Framed.{opened-agree}
use Rattle.layout.proofs.Laws.Frames.{agree-next}
use Rattle.layout.proofs.Laws.Sound.{Sound, Entry, sound}
use Rattle.layout.proofs.Laws.Slots.{entry-low}

-- a change that leaves the table, then another
blanked-then : (s t u : List ℕ) → block_count t ≡ block_count s → ((b : ℕ) → b < block_count s → next t b ≡ next s b) → Blanked s t → Blanked t u → Blanked s u
blanked-then s t u n same B C =
    record {
      freed = λ b h used z. C.freed b (rw n h) (λ e. used (sym (same b h) ∙ e)) z;
      spared = λ b h free z. C.spared b (rw n h) (same b h ∙ free) z ∙ B.spared b h free (same b h ∙ free);
    }

module _ (s directory serial : List ℕ) (time : ℕ) (bytes : List ℕ) (ok : check s ≡ 0) (r : put_refusal s directory serial time bytes ≡ 0) where
  abbrev t : List ℕ
  t = opened s directory serial time

  abbrev path : List ℕ
  path = path_of directory serial

  T : Sound t
  T = sound t (opened-sound s directory serial time bytes ok r)

  E : Entry t (entry_of is_file t path)
  E = at_entry t T is_file path (put-given s directory serial time bytes ok r).there

  blocks-same : block_count t ≡ block_count s
  blocks-same = ap (λ (k : ℕ). k / 512) (opened-length s directory serial time bytes ok r)

  table_same : (b : ℕ) → b < block_count s → next t b ≡ next s b
  table_same b h =
      let n : b < block_count t = rw blocks-same h in
      agree-next b (opened-agree s directory serial time bytes ok r) (λ m. ⊎_elim (λ q. omega (arith, T.least, entry-low t T (entry_of is_file t path) E)) (λ i. i) m)

  opened-blanked : Blanked s t
  unfolding changes.refusal changes.after
  opened-blanked = by-opened s directory serial time bytes ok r (λ x. Blanked s x)
      (λ q. record { freed = λ b h used z. absurd (used z); spared = λ b h free z. refl })
      (λ q c. volume.blank s (changes.create path 0x60 0 0 0 0 time) ok c)

  put-blanked : Blanked s (put_image s directory serial time bytes)
  unfolding put_image entry_at
  put-blanked =
      blanked-then s t (put_image s directory serial time bytes) blocks-same table_same opened-blanked
      (volume.write-blanked t (opened-sound s directory serial time bytes ok r) path 0 (rewritten s directory serial time bytes) time (put-given s directory serial time bytes ok r))

pub blank : (s : List ℕ) (c : Change) → check s ≡ 0 → refusal s c ≡ 0 → Blanked s (after s c)
unfolding refusal after
blank s (plain c) ok r = volume.blank s c ok r
blank s (put_in directory serial time bytes) ok r = put-blanked s directory serial time bytes ok r
