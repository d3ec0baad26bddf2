-- AN ACCEPTED PUT: the image after it is sound; what every path shows then; the revisions that its file holds.
use Prim.Native.Nat.{ℕ, ◌-◌, ◌≤◌, ◌<◌}
use mathlib.Core.Path.{◌≡◌, refl, sym, ap, ◌∙◌}
use mathlib.Core.Bool.{Bool, true, false, cond}
use mathlib.Core.List.{List, []}
use mathlib.Core.Logic.{◌≢◌}
use native.Mathlib.Omega.{arith}
use borrow.Author.Tests.{leb-true, ltb-true}
use lib.ListN.{length, length-append}
use lib.Dec.{leb, ltb}
use Rattle.layout.specs.Bytes.{be32, zeros}
use Rattle.layout.proofs.Laws.Bytes.{length-zeros}
use Rattle.layout.proofs.Laws.Splices.{splice-whole}
use Rattle.layout.specs.Geometry.{block_count}
use Rattle.layout.specs.Table.{next, free_blocks}
use Rattle.layout.specs.Directory.{size_of, is_file, content}
use Rattle.layout.specs.Check.{check}
use Rattle.layout.specs.Paths.{entry_of, file_refusal}
use Rattle.volume.specs.Create.{place_refusal, new_refusal, create_refusal, create_image}
use Rattle.volume.specs.Write.{needed}
use Rattle.volume.specs.Change.{create, write, after}
use Rattle.volume.specs.Views.{File, Maybe, file_of, file_at, folder_at, subject, made, takes, gives}
use Rattle.store.specs.Settings.{max_setting, max_number, Revision, whole_file, encoded, Found, broken, held, revisions, latest, added}
use Rattle.store.specs.Put.{path_of, address_refusal, is_there, stored, opened, entry_at, held_in, rewritten, put_image, form_refusal, put_refusal}
use Rattle.store.specs.Views.{stored_in}
use Rattle.store.specs.Walks.Addresses.{Addressed}
use Rattle.volume.proofs.Laws.Places.{WriteGiven, file-at-path}
use Rattle.volume.proofs.Laws.Views.{file-shown, shown-accepted}
use Rattle.volume.proofs.Laws.Effects.{Effect, create-effect, write-effect, content-length}
use Rattle.volume.proofs.Laws.Create.{kept-create}
use Rattle.volume.proofs.Laws.Write.{kept-write}
use Rattle.store.proofs.Laws.Form.{read_back}
use Rattle.store.proofs.Laws.Added.{read_fits, Stored, stored-none, stored-fits, added-fits, added-small}
use Rattle.store.proofs.Laws.Serials.{addressed, serial-path, serial-shallow, there-accepted, is_in, there-view, stored-view}
use Rattle.layout.proofs.Laws.Tests.{require-zero, first_of-zero}

-- a file that a put accepts holds revisions, and a number is left for one more
pub form-held : (x : Found) → form_refusal x ≡ 0 → (x ≡ held (held_in x)) × (latest (held_in x) < max_number)
form-held broken q = absurd (omega arith)
form-held (held ys) q = (refl, ltb-true _ _ (require-zero (ltb (latest ys) max_number) 24 _ q).0)

module _ (s directory serial : List ℕ) (time : ℕ) (bytes : List ℕ) (ok : check s ≡ 0) (r : put_refusal s directory serial time bytes ≡ 0) where
  abbrev path : List ℕ
  path = path_of directory serial

  abbrev t : List ℕ
  t = opened s directory serial time

  abbrev e : ℕ
  e = entry_at s directory serial time

  abbrev whole : List ℕ
  whole = rewritten s directory serial time bytes

  abbrev rs : List Revision
  rs = held_in (stored s directory serial)

  record Given : Type 0 where
    named-right : Addressed directory serial
    short : length bytes ≤ 200
    right : cond (is_there s directory serial) (form_refusal (stored s directory serial)) (place_refusal s path) ≡ 0
    room : needed t e 0 (length whole) ≤ length (free_blocks (next t) (block_count t))

  given : Given
  unfolding put_refusal
  given =
      let a = first_of-zero (address_refusal directory serial (leb (length bytes) max_setting)) _ r in
      let b = addressed directory serial (leb (length bytes) max_setting) a.0 in
      let c = first_of-zero (cond (is_there s directory serial) (form_refusal (stored s directory serial)) (place_refusal s path)) _ a.1 in
      let d = require-zero (leb (needed t e 0 (length whole)) (length (free_blocks (next t) (block_count t)))) 13 _ c.1 in
      record { named-right = b.0; short = leb-true _ _ b.1; right = c.0; room = leb-true _ _ d.0 }

  pub put-serial : Addressed directory serial
  put-serial = given.named-right

  -- THE FILE IS THERE, OR IS MADE
  abbrev new : List ℕ
  new = create_image s path 0x60 0 0 0 0 time

  pub by-opened : (P : List ℕ → Type 0) → (is_there s directory serial ≡ true → P s) → (is_there s directory serial ≡ false → create_refusal s path 0x60 0 ≡ 0 → P (create_image s path 0x60 0 0 0 0 time)) → P t
  unfolding opened create_refusal new_refusal
  by-opened P was made = go (is_there s directory serial) refl
    where
      go : (b : Bool) → is_there s directory serial ≡ b → P (cond (is_there s directory serial) s new)
      go true q = rw q (was q)
      go false q = rw q (made q (rw (serial-path directory serial put-serial, serial-shallow directory serial put-serial) (rw q at given.right)))

  pub created : create_refusal s path 0x60 0 ≡ 0 → Effect s (create path 0x60 0 0 0 0 time)
  created c = create-effect s path ok 0x60 0 0 0 0 time c

  pub opened-sound : check t ≡ 0
  opened-sound = by-opened (λ x. check x ≡ 0) (λ q. ok) (λ q c. kept-create s path 0x60 0 0 0 0 time ok c)

  pub opened-accepted : file_refusal t path ≡ 0
  unfolding after subject made
  opened-accepted = by-opened (λ x. file_refusal x path ≡ 0) (λ q. there-accepted s directory serial put-serial q) (λ q c. shown-accepted new path _ (created c).own)

  pub opened-others : (other : List ℕ) → other ≢ path → file_at t other ≡ file_at s other
  unfolding after subject
  opened-others other ne = by-opened (λ x. file_at x other ≡ file_at s other) (λ q. refl) (λ q c. (created c).others other ne)

  pub opened-folders : (other : List ℕ) → folder_at t other ≡ folder_at s other
  unfolding after
  opened-folders other = by-opened (λ x. folder_at x other ≡ folder_at s other) (λ q. refl) (λ q c. (created c).folders other)

  pub opened-used : be32 t 20 ≡ be32 s 20
  unfolding after takes gives
  opened-used = by-opened (λ x. be32 x 20 ≡ be32 s 20) (λ q. refl) (λ q c. let u = (created c).used in omega arith)

  pub opened-length : length t ≡ length s
  unfolding after
  opened-length = by-opened (λ x. length x ≡ length s) (λ q. refl) (λ q c. (created c).size)

  -- THE WRITE
  pub put-given : WriteGiven t path 0 (length whole)
  unfolding entry_at
  put-given = record { there = file-at-path t path opened-accepted; within-size = omega arith; room = given.room }

  pub put-sound : check (put_image s directory serial time bytes) ≡ 0
  unfolding put_image entry_at
  put-sound = kept-write t path 0 whole time opened-sound put-given

  pub put-effect : Effect t (write path 0 whole time)
  put-effect = write-effect t path opened-sound 0 whole time put-given

  pub put-others : (other : List ℕ) → other ≢ path → file_at (put_image s directory serial time bytes) other ≡ file_at s other
  unfolding put_image entry_at after subject
  put-others other ne = put-effect.others other ne ∙ opened-others other ne

  pub put-folders : (other : List ℕ) → folder_at (put_image s directory serial time bytes) other ≡ folder_at s other
  unfolding put_image entry_at after
  put-folders other = put-effect.folders other ∙ opened-folders other

  pub put-length : length (put_image s directory serial time bytes) ≡ length s
  unfolding put_image entry_at after
  put-length = put-effect.size ∙ opened-length

  -- the file is as rewritten
  enough : length (content t (entry_of is_file t path)) ≤ length whole
  unfolding rewritten encoded entry_at
  enough =
      let l = content-length t path opened-sound opened-accepted in
      let k = length-append (whole_file (added rs bytes)) (zeros (size_of t (entry_of is_file t path) - length (whole_file (added rs bytes)))) in
      let z = length-zeros (size_of t (entry_of is_file t path) - length (whole_file (added rs bytes))) in
      omega arith

  pub put-shown : stored_in (file_at (put_image s directory serial time bytes) path) ≡ revisions whole
  unfolding put_image entry_at after subject made file_of
  put-shown =
      ap stored_in put-effect.own ∙ ap (λ (x : Maybe File). stored_in (made (write path 0 whole time) x)) (file-shown t path opened-accepted)
      ∙ ap revisions (splice-whole (content t (entry_of is_file t path)) whole enough)

  pub put-there : is_there (put_image s directory serial time bytes) directory serial ≡ true
  unfolding put_image entry_at after subject made
  put-there =
      there-view (put_image s directory serial time bytes) directory serial put-serial ∙ ap is_in put-effect.own ∙ ap (λ (x : Maybe File). is_in (made (write path 0 whole time) x)) (file-shown t path opened-accepted)

  -- what stood before
  stood : Stored rs × (latest rs < max_number) × (stored s directory serial ≡ held rs)
  stood = go (is_there s directory serial) refl
    where
      go : (b : Bool) → is_there s directory serial ≡ b → Stored rs × (latest rs < max_number) × (stored s directory serial ≡ held rs)
      go true q =
          let f = form-held (stored s directory serial) (rw q at given.right) in
          let c : stored s directory serial ≡ revisions (content s (entry_of is_file s path)) = (unfold stored in rw q) in
          (stored-fits rs (read_fits (content s (entry_of is_file s path)) rs (sym c ∙ f.0)), f.1, f.0)
      go false q = let z : stored s directory serial ≡ held [] = (unfold stored in rw q) in rw z (stored-none, (unfold latest in omega arith), refl)

  pub put-stored-before : Stored rs
  put-stored-before = stood.0

  pub put-latest-before : latest rs < max_number
  put-latest-before = stood.1

  pub put-form : stored s directory serial ≡ held rs
  put-form = stood.2

  pub put-short : length bytes ≤ 200
  put-short = given.short

  -- THE REVISIONS THEN
  pub put-stored : stored (put_image s directory serial time bytes) directory serial ≡ held (added rs bytes)
  unfolding rewritten
  put-stored =
      stored-view (put_image s directory serial time bytes) directory serial put-serial ∙ put-shown
      ∙ read_back (added rs bytes) (size_of t e) (added-fits rs bytes put-stored-before put-short) (added-small rs bytes put-stored-before put-latest-before)
