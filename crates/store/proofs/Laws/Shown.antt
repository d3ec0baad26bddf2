-- WHAT PATHS SHOW AFTER ANY CHANGE, a put too: its own what the change makes of it, all others what they showed; and the system flags (L11).
use Prim.Native.Nat.{ℕ, ◌+◌}
use mathlib.Core.Path.{◌≡◌, refl, sym, ap, ◌∙◌}
use mathlib.Core.List.{List}
use mathlib.Core.Logic.{◌⊎◌, inl, inr, ⊎_elim, ◌≢◌}
use Rattle.layout.specs.Bytes.{be32, bytes4, zeros}
use Rattle.layout.specs.Check.{check}
use Rattle.layout.specs.Looks.{lookup}
use Rattle.volume.specs.Change as changes
use Rattle.volume.specs.Views as views
use Rattle.volume.specs.Views.{File, Maybe, nothing, just, file_at, folder_at, flags_in, folder_flags_in, NoNewFlags, origin_of}
use Rattle.store.specs.Put.{path_of, opened, entry_at, rewritten, put_image, put_refusal}
use Rattle.store.specs.Change.{Change, plain, put_in, clear_flags, refusal, after, subject, further, subjects}
use Rattle.store.specs.Views.{made, made_folder, takes, gives, gives_folder}
use Rattle.volume.proofs.Laws.Content.{write-untouched}
use Rattle.volume.proofs.Laws.Acts.{others-untouched}
use Rattle.volume.proofs.Laws.Shown.{lookup-kept}
use Rattle.volume.proofs.Laws.Orders.{Shown, shown}
use Rattle.volume.proofs.Theorems as volume
use Rattle.store.proofs.Laws.Put.{by-opened, opened-sound, put-given, put-sound, put-others, put-folders}
use Rattle.store.proofs.Laws.Orders.{put-own, done}
use Rattle.layout.proofs.Laws.Lists.{In}
use Rattle.layout.proofs.Laws.Names.{same_or_not}

module _ (s : List ℕ) (c : Change) (ok : check s ≡ 0) (r : refusal s c ≡ 0) where
  pub own : file_at (after s c) (subject c) ≡ made c (file_at s (subject c))
  unfolding shown
  own = ap (λ (m : Shown). m.0) (done s c ok r).own

  pub folder : folder_at (after s c) (subject c) ≡ made_folder c (folder_at s (subject c))
  unfolding shown
  folder = ap (λ (m : Shown). m.1) (done s c ok r).own

  pub others : (other : List ℕ) → (In other (subjects c) → ⊥) → file_at (after s c) other ≡ file_at s other
  unfolding shown
  others other ne = ap (λ (m : Shown). m.0) ((done s c ok r).others other ne)

  pub folders : (other : List ℕ) → (In other (subjects c) → ⊥) → folder_at (after s c) other ≡ folder_at s other
  unfolding shown
  folders other ne = ap (λ (m : Shown). m.1) ((done s c ok r).others other ne)

  pub used : be32 (after s c) 20 + (gives c (file_at s (subject c)) + gives_folder c (folder_at s (subject c))) ≡ be32 s 20 + takes c (file_at s (subject c))
  unfolding shown
  used = (done s c ok r).used

-- of the file that a put's path shows
put-flags : (directory serial : List ℕ) (time : ℕ) (bytes : List ℕ) (m : Maybe File)
    → (flags_in (made (put_in directory serial time bytes) m) ≡ zeros 4) ⊎ (flags_in (made (put_in directory serial time bytes) m) ≡ flags_in m)
unfolding made views.made bytes4 zeros
put-flags directory serial time bytes nothing = inl refl
put-flags directory serial time bytes (just f) = inr refl

put-stay : (directory serial : List ℕ) (time : ℕ) (bytes : List ℕ) (g : File) → flags_in (made (put_in directory serial time bytes) (just g)) ≡ g.flags
unfolding made views.made
put-stay directory serial time bytes g = refl

-- look up, the slot too
plain-lookup : (s : List ℕ) (c : changes.Change) → check s ≡ 0 → changes.refusal s c ≡ 0 → (other : List ℕ) → (In other (views.subjects c) → ⊥) → lookup (changes.after s c) other ≡ lookup s other
plain-lookup s c ok r other ne = lookup-kept s (changes.after s c) other ok (volume.change-sound s ok c r) (others-untouched s c other ok r ne)

module _ (s directory serial : List ℕ) (time : ℕ) (bytes : List ℕ) (ok : check s ≡ 0) (r : put_refusal s directory serial time bytes ≡ 0) where
  abbrev t : List ℕ
  t = opened s directory serial time

  abbrev path : List ℕ
  path = path_of directory serial

  abbrev s' : List ℕ
  s' = put_image s directory serial time bytes

  -- as of the create and of the write
  opened-lookup : (other : List ℕ) → other ≢ path → lookup t other ≡ lookup s other
  unfolding changes.refusal changes.after views.subject views.further
  opened-lookup other ne = by-opened s directory serial time bytes ok r (λ x. lookup x other ≡ lookup s other) (λ q. refl) (λ q c. plain-lookup s (changes.create path 0x60 0 0 0 0 time) ok c other (λ i. ⊎_elim ne (λ x. x) i))

  put-lookup : (other : List ℕ) → other ≢ path → lookup s' other ≡ lookup s other
  unfolding put_image entry_at
  put-lookup other ne =
      let ok' = opened-sound s directory serial time bytes ok r in
      lookup-kept t s' other ok' (put-sound s directory serial time bytes ok r)
      (λ good. write-untouched t path other ok' good ne 0 (rewritten s directory serial time bytes) time (put-given s directory serial time bytes ok r)) ∙ opened-lookup other ne

  put-flags-at : (other : List ℕ) → (other ≡ path) ⊎ (other ≢ path) → (flags_in (file_at s' other) ≡ zeros 4) ⊎ (flags_in (file_at s' other) ≡ flags_in (file_at s other))
  put-flags-at other (inl e) = rw (e, put-own s directory serial time bytes ok r) (put-flags directory serial time bytes (file_at s path))
  put-flags-at other (inr ne) = inr (ap flags_in (put-others s directory serial time bytes ok r other ne))

  put-no-new : NoNewFlags s s' (λ other. other)
  put-no-new = record { files = λ other. put-flags-at other (same_or_not other path); folders = λ other. inr (ap folder_flags_in (put-folders s directory serial time bytes ok r other)) }

  put-flags-stay : (other : List ℕ) (f g : File) → file_at s other ≡ just g → file_at s' other ≡ just f → f.flags ≡ g.flags
  put-flags-stay other f g was now = go (same_or_not other path)
    where
      go : (other ≡ path) ⊎ (other ≢ path) → f.flags ≡ g.flags
      go (inl e) =
          let q : file_at s path ≡ just g = rw e at was in
          let p : file_at s' path ≡ just f = rw e at now in
          ap flags_in (sym p ∙ put-own s directory serial time bytes ok r ∙ ap (made (put_in directory serial time bytes)) q) ∙ put-stay directory serial time bytes g
      go (inr ne) = ap flags_in (sym now ∙ put-others s directory serial time bytes ok r other ne ∙ was)

pub others-lookup : (s : List ℕ) (c : Change) → check s ≡ 0 → refusal s c ≡ 0 → (other : List ℕ) → (In other (subjects c) → ⊥) → lookup (after s c) other ≡ lookup s other
unfolding refusal after subject further
others-lookup s (plain c) ok r other ne = plain-lookup s c ok r other ne
others-lookup s (put_in directory serial time bytes) ok r other ne = put-lookup s directory serial time bytes ok r other (λ q. ne (inl q))

pub no-new-flags : (s : List ℕ) (c : Change) → check s ≡ 0 → refusal s c ≡ 0 → NoNewFlags s (after s c) (origin_of (subject c) (further c))
unfolding refusal after subject further
no-new-flags s (plain c) ok r = volume.no-new-flags s ok c r
no-new-flags s (put_in directory serial time bytes) ok r = put-no-new s directory serial time bytes ok r

pub flags-stay : (s : List ℕ) (c : Change) → check s ≡ 0 → refusal s c ≡ 0
    → (path : List ℕ) (f g : File) → file_at s path ≡ just g → file_at (after s c) path ≡ just f → c ≢ clear_flags path → f.flags ≡ g.flags
unfolding refusal after
flags-stay s (plain c) ok r path f g was now ne = volume.flags-stay s ok c r path f g was now (λ z. ne (ap plain z))
flags-stay s (put_in directory serial time bytes) ok r path f g was now ne = put-flags-stay s directory serial time bytes ok r path f g was now
