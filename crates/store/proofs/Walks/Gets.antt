-- Each exit of a get.
use Prim.Native.Nat.{ℕ, ◌*◌, ◌≤◌}
use mathlib.Core.Path.{◌≡◌, refl, sym, ap, ◌∙◌}
use mathlib.Core.Bool.{Bool, true, false, not}
use mathlib.Core.List.{List}
use native.Mathlib.Omega.{arith}
use lib.ListN.{length}
use lib.Dec.{eqb, leb}
use Rattle.std.specs.Prelude.{Option, None, Some}
use Rattle.std.specs.Option.{unwrap_or}
use Rattle.layout.specs.Refusals.{require}
use Rattle.layout.specs.Bytes.{splice}
use Rattle.layout.specs.Directory.{is_file, file_blocks, content}
use Rattle.layout.specs.Check.{check}
use Rattle.layout.specs.Paths.{path_slot, entry_of, file_refusal}
use Rattle.layout.specs.Walks.Looks.{Located}
use Rattle.layout.proofs.Laws.Looks.{path-file}
use Rattle.layout.proofs.Laws.Tests.{is_false, first_of-refused, accept-refused}
use Rattle.store.specs.Settings.{max_setting, Revision, Found, broken, held, revisions, latest}
use Rattle.store.specs.Put.{path_of, address_refusal, is_there, stored}
use Rattle.store.specs.Get.{Which, wanted, stands, data_of, GetAnswer, got_answer, get_refusal, get_in}
use Rattle.store.specs.Walks.Forms.{bytes_of, sought}
use Rattle.store.specs.Walks.Loads.{asked_revision}
use Rattle.store.specs.Walks.Addresses.{Addressed}
use Rattle.store.proofs.Laws.Serials.{addressed, serial-path, serial-shallow, there-accepted}

pub wanted-is : (revision : Option ℕ) (rs : List Revision) (last x : ℕ) → last ≡ latest rs → x ≡ unwrap_or revision last → x ≡ wanted rs (asked_revision revision)
wanted-is None rs last x e q = q ∙ e
wanted-is (Some revision) rs last x e q = q

-- of a file that is there
module _ (found : Found) (w : Which) (buffer : List ℕ) where
  pub sought-broken : found ≡ broken → got_answer 24 0 0 buffer ≡ sought found w buffer
  unfolding sought
  sought-broken e = rw e

  module _ (rs : List Revision) (e : found ≡ held rs) (x : ℕ) (q : x ≡ wanted rs w) where
    pub sought-missing : stands x rs ≡ false → got_answer 23 0 0 buffer ≡ sought found w buffer
    unfolding sought
    sought-missing f = let g : stands (wanted rs w) rs ≡ false = rw (← q) f in rw (e, g)

    pub sought-found : (size : ℕ) (t : List ℕ) → stands x rs ≡ true → size ≡ length (data_of x rs) → t ≡ splice buffer 0 (data_of x rs)
        → got_answer 0 x size t ≡ sought found w buffer
    unfolding sought
    sought-found size t s l b = let g : stands (wanted rs w) rs ≡ true = rw (← q) s in rw (l, b, q, e, g)

-- of an image
module _ (s directory serial : List ℕ) (w : Which) (buffer : List ℕ) where
  refusing : (k : ℕ) → k ≡ get_refusal s directory serial w (length buffer) → (k ≡ 0 → ⊥) → got_answer k 0 0 buffer ≡ get_in s directory serial w buffer
  unfolding get_in
  refusing k e n = sym (accept-refused (get_refusal s directory serial w (length buffer)) _ _ (λ z. n (e ∙ z)) ∙ ap (λ (j : ℕ). got_answer j 0 0 buffer) (sym e))

  pub got-check : (k : ℕ) → k ≡ check s → (k ≡ 0 → ⊥) → got_answer k 0 0 buffer ≡ get_in s directory serial w buffer
  unfolding get_refusal
  got-check k e n = refusing k (rw (← e) (sym (first_of-refused k _ n))) n

  module _ (ok : check s ≡ 0) where
    pub got-address : (k : ℕ) → k ≡ address_refusal directory serial (leb max_setting (length buffer)) → (k ≡ 0 → ⊥) → got_answer k 0 0 buffer ≡ get_in s directory serial w buffer
    unfolding get_refusal
    got-address k e n = refusing k (rw (ok, ← e) (sym (first_of-refused k _ n))) n

    module _ (a : address_refusal directory serial (leb max_setting (length buffer)) ≡ 0) where
      t : Addressed directory serial
      t = (addressed directory serial (leb max_setting (length buffer)) a).0

      pub got-none : (file_refusal s (path_of directory serial) ≡ 0 → ⊥) → got_answer 10 0 0 buffer ≡ get_in s directory serial w buffer
      unfolding get_refusal
      got-none n =
          let f : is_there s directory serial ≡ false = is_false (is_there s directory serial) (λ q. n (there-accepted s directory serial t q)) in
          refusing 10 (rw (ok, a, f)) (λ z. omega arith)

      there : file_refusal s (path_of directory serial) ≡ 0 → is_there s directory serial ≡ true
      unfolding file_refusal is_there
      there z = go (not (eqb (path_slot is_file s (path_of directory serial)) 0)) (rw (serial-path directory serial t, serial-shallow directory serial t) at z)
        where
          go : (b : Bool) → require b 10 0 ≡ 0 → b ≡ true
          go true z = refl
          go false z = absurd (omega arith)

      pub got-file : file_refusal s (path_of directory serial) ≡ 0 → (c : List ℕ) → c ≡ content s (entry_of is_file s (path_of directory serial)) → sought (revisions c) w buffer ≡ get_in s directory serial w buffer
      unfolding sought get_in get_refusal stored
      got-file z c e = rw (e, ok, a, there z)

-- the file of an entry that was found
module _ {s path : List ℕ} {slot b first size blocks : ℕ} (l : Located is_file s path slot b first size blocks) where
  pub located-bytes : bytes_of s first size blocks ≡ content s (entry_of is_file s path)
  unfolding bytes_of content file_blocks
  located-bytes = rw (l.start, l.bytes, l.count)

  pub located_fits : file_refusal s path ≡ 0 → check s ≡ 0 → size ≤ 512 * blocks
  located_fits r ok =
      let f = (path-file s path r ok).blocks in
      let a = l.bytes in
      let c = l.count in
      omega arith

-- an answer that is a refusal
pub answer-refused : (k number revision length : ℕ) (buffer : List ℕ) (a : GetAnswer) → (number ≡ k) × (revision ≡ 0) × (length ≡ 0) → got_answer k 0 0 buffer ≡ a
    → got_answer number revision length buffer ≡ a
answer-refused k number revision length buffer a e q = rw (e.0, e.1, e.2) q
