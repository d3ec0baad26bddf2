-- What the looks answer on a sound image that shows a model.
use Prim.Native.Nat.{ℕ, zero, suc, ◌-◌, ◌*◌, ◌/◌, ◌≤◌, ◌<◌, min}
use mathlib.Core.Path.{◌≡◌, refl, sym, ap, ◌∙◌}
use mathlib.Core.Bool.{Bool, true, false, not}
use mathlib.Core.List.{List, [], ◌∷◌}
use mathlib.Core.Logic.{◌⊎◌, inl, inr}
use native.Mathlib.Omega.{arith}
use native.Mathlib.Nat.{suc-ne-zero}
use lib.ListN.{length, take, drop, length-take, length-drop}
use lib.Dec.{eqb, leb}
use Rattle.layout.specs.Bytes.{part}
use Rattle.layout.specs.Geometry.{blocks_for}
use Rattle.layout.specs.Directory.{size_of, blocks_of, attribute_size_of, is_file, content, attributes}
use Rattle.layout.specs.Check.{check}
use Rattle.layout.specs.Paths.{parts, path_ok, leading, shallow, path_slot, entry_of, file_refusal}
use Rattle.layout.specs.Looks.{lookup_refusal, lookup, read_refusal, read, look_in_place, read_attributes}
use Rattle.volume.specs.Views as views
use Rattle.volume.specs.Views.{file_at, file_of}
use Rattle.store.specs.Settings.{max_setting}
use Rattle.store.specs.Put.{path_of, address_refusal, is_there, stored}
use Rattle.store.specs.Get.{Which, get_refusal, get_in}
use Rattle.store.specs.Views.{stored_in}
use Rattle.layout.proofs.Laws.Looks.{lookup-file, look-content, look-empty}
use Rattle.layout.proofs.Laws.Tests.{lt-or-ge}
use Rattle.layout.proofs.Laws.Sound.{sound}
use Rattle.layout.proofs.Laws.Files.{length-attributes}
use Rattle.volume.proofs.Laws.Views.{file-shown}
use Rattle.volume.proofs.Laws.Effects.{content-length}
use Rattle.store.proofs.Laws.Serials.{is_in, addressed, there-view, stored-view}
use Rattle.model.specs.Model.{Node, nothing, file, folder, Model, settings, shows_file}
use Rattle.model.specs.Looks.{bytes_in, attributes_in, no_file, read_in, read_attributes_in, settings_in}
use Rattle.model.specs.Refines.{as_file, Shows}
use Rattle.model.proofs.Laws.Nodes.{is_shown, settings-of, is-in}

-- a node by the file that it is
bytes_of : views.Maybe views.File → List ℕ
bytes_of views.nothing = []
bytes_of (views.just f) = f.bytes

attributes_of : views.Maybe views.File → List ℕ
attributes_of views.nothing = []
attributes_of (views.just f) = f.attributes

is-file : (x : Node) → shows_file x ≡ is_shown (as_file x)
is-file nothing = refl
is-file (file f) = refl
is-file (folder d) = refl

bytes-of : (x : Node) → bytes_in x ≡ bytes_of (as_file x)
unfolding bytes_of
bytes-of nothing = refl
bytes-of (file f) = refl
bytes-of (folder d) = refl

attributes-of : (x : Node) → attributes_in x ≡ attributes_of (as_file x)
unfolding attributes_of
attributes-of nothing = refl
attributes-of (file f) = refl
attributes-of (folder d) = refl

-- lists cut short
pub take_min : (l : List ℕ) (k : ℕ) → take (min k (length l)) l ≡ take k l
take_min [] zero = refl
take_min [] (suc k) = let q : min (suc k) 0 ≡ 0 = omega arith in ap (λ (n : ℕ). take n []) q
take_min (x ∷ l) zero = let q : min 0 (suc (length l)) ≡ 0 = omega arith in ap (λ (n : ℕ). take n (x ∷ l)) q
take_min (x ∷ l) (suc k) =
    let q : min (suc k) (suc (length l)) ≡ suc (min k (length l)) = omega arith in
    ap (λ (n : ℕ). take n (x ∷ l)) q ∙ ap (λ (r : List ℕ). x ∷ r) (take_min l k)

pub part-min : (l : List ℕ) (at k : ℕ) → part l at (min k (length l - at)) ≡ part l at k
part-min l at k = ap (λ (n : ℕ). take (min k n) (drop at l)) (sym (length-drop at l)) ∙ take_min (drop at l) k

part_count : (l : List ℕ) (at k : ℕ) → length (part l at k) ≡ min k (length l - at)
part_count l at k = length-take k (drop at l) ∙ ap (min k) (length-drop at l)

none-long : (l : List ℕ) → length l ≡ 0 → l ≡ []
none-long [] h = refl
none-long (x ∷ l) h = absurd (suc-ne-zero (length l) h)

past : (l : List ℕ) (at k : ℕ) → length l ≤ at → part l at k ≡ []
past l at k h = none-long (part l at k) (let c = part_count l at k in omega arith)

module _ (s : List ℕ) (m : Model) (S : Shows s m) (ok : check s ≡ 0) (path : List ℕ) where
  abbrev e : ℕ
  e = entry_of is_file s path

  -- the same numbers
  pub number-shown : file_refusal s path ≡ no_file m path
  unfolding file_refusal no_file file_at
  number-shown = go (path_ok path) refl (shallow (leading (parts path))) refl (not (eqb (path_slot is_file s path) 0)) refl
    where
      shown-at : (t : Bool) → path_ok path ≡ true → shallow (leading (parts path)) ≡ true → not (eqb (path_slot is_file s path) 0) ≡ t → is_shown (file_at s path) ≡ t
      shown-at true q v u = rw (q, v, u)
      shown-at false q v u = rw (q, v, u)

      go : (g : Bool) → path_ok path ≡ g → (w : Bool) → shallow (leading (parts path)) ≡ w → (t : Bool) → not (eqb (path_slot is_file s path) 0) ≡ t → file_refusal s path ≡ no_file m path
      go false q w v t u = rw q
      go true q false v t u = rw (q, v)
      go true q true v t u =
          let same : shows_file (m.at path) ≡ t = is-file (m.at path) ∙ ap is_shown (sym (S.files path)) ∙ shown-at t q v u in
          rw (q, v, u, same)

  -- a file is shown, or none: then the model has none, and the number is not 0
  pub record Both : Type 0 where
    pub found : file_refusal s path ≡ 0
    pub looked : lookup_refusal s path ≡ 0
    pub none : no_file m path ≡ 0
    pub bytes : bytes_in (m.at path) ≡ content s (entry_of is_file s path)
    pub long : length (bytes_in (m.at path)) ≡ size_of s (entry_of is_file s path)
    pub more : attributes_in (m.at path) ≡ attributes s (entry_of is_file s path)

  pub record Neither : Type 0 where
    pub number : ℕ
    pub refused : lookup_refusal s path ≡ suc number
    pub none : no_file m path ≡ suc number
    pub bytes : bytes_in (m.at path) ≡ []

  pub either : Both ⊎ Neither
  unfolding bytes_of attributes_of file_of lookup_refusal
  either = go (file_refusal s path) refl
    where
      go : (k : ℕ) → file_refusal s path ≡ k → Both ⊎ Neither
      go zero r =
          let q : as_file (m.at path) ≡ views.just (file_of s (entry_of is_file s path)) = sym (S.files path) ∙ file-shown s path r in
          let b : bytes_in (m.at path) ≡ content s (entry_of is_file s path) = bytes-of (m.at path) ∙ ap bytes_of q in
          inl (record {
            found = r;
            looked = rw (ok, r);
            none = sym number-shown ∙ r;
            bytes = b;
            long = ap length b ∙ content-length s path ok r;
            more = attributes-of (m.at path) ∙ ap attributes_of q;
          })
      go (suc k) r =
          let z : file_at s path ≡ views.nothing = (unfold file_at in rw r) in
          inr (record { number = k; refused = rw (ok, r); none = sym number-shown ∙ r; bytes = bytes-of (m.at path) ∙ ap bytes_of (sym (S.files path) ∙ z) })

  pub lookup-model : ((lookup s path).number ≡ no_file m path) × ((lookup s path).size ≡ length (bytes_in (m.at path))) × ((lookup s path).blocks ≡ blocks_for (length (bytes_in (m.at path))))
  unfolding lookup
  lookup-model = go either
    where
      go : Both ⊎ Neither → ((lookup s path).number ≡ no_file m path) × ((lookup s path).size ≡ length (bytes_in (m.at path))) × ((lookup s path).blocks ≡ blocks_for (length (bytes_in (m.at path))))
      go (inl B) = (rw (B.looked, B.none), rw B.looked (sym B.long), rw (B.looked, B.long) (lookup-file s path B.looked).blocks)
      go (inr N) = (rw (N.refused, N.none), rw (N.refused, N.bytes), rw (N.refused, N.bytes))

  pub read-model : (offset : ℕ) (buffer : List ℕ) → read s path offset buffer ≡ read_in m path offset buffer
  unfolding read read_refusal read_in
  read-model offset buffer = go either
    where
      go : Both ⊎ Neither → read s path offset buffer ≡ read_in m path offset buffer
      go (inl B) =
          let c : length (part (bytes_in (m.at path)) offset (length buffer)) ≡ min (length buffer) (size_of s e - offset) = part_count (bytes_in (m.at path)) offset (length buffer) ∙ rw B.long in
          let d : part (bytes_in (m.at path)) offset (length buffer) ≡ part (content s e) offset (min (length buffer) (size_of s e - offset)) =
          sym (part-min (bytes_in (m.at path)) offset (length buffer)) ∙ rw (B.long, B.bytes) in
          rw (B.looked, B.none, B.long, c, d)
      go (inr N) = rw (N.refused, N.none)

  pub look-model : (i : ℕ) → look_in_place s path i ≡ part (bytes_in (m.at path)) (512 * i) 512
  look-model i = go either
    where
      go : Both ⊎ Neither → look_in_place s path i ≡ part (bytes_in (m.at path)) (512 * i) 512
      go (inl B) = at (lt-or-ge i (blocks_of s e))
        where
          at : (i < blocks_of s e) ⊎ (blocks_of s e ≤ i) → look_in_place s path i ≡ part (bytes_in (m.at path)) (512 * i) 512
          at (inl h) = look-content s path i B.looked h ∙ rw (sym B.long, sym B.bytes) (part-min (bytes_in (m.at path)) (512 * i) 512)
          at (inr h) =
              let b = (lookup-file s path B.looked).blocks in
              let l = B.long in
              look-empty s path i (inr h) ∙ sym (past (bytes_in (m.at path)) (512 * i) 512 (omega arith))
      go (inr N) = look-empty s path i (inl (λ z. suc-ne-zero N.number (sym N.refused ∙ z))) ∙ rw N.bytes (sym (past [] (512 * i) 512 (omega arith)))

  pub attributes-model : (buffer : List ℕ) → read_attributes s path buffer ≡ read_attributes_in m path buffer
  unfolding read_attributes read_attributes_in
  attributes-model buffer = go either
    where
      go : Both ⊎ Neither → read_attributes s path buffer ≡ read_attributes_in m path buffer
      go (inl B) =
          let l = length-attributes s (sound s ok) e (lookup-file s path B.looked) in
          let n : 512 * min (attribute_size_of s e) (length buffer / 512) ≡ min (512 * (length buffer / 512)) (length (attributes s e)) = omega arith in
          let c : length (take (512 * (length buffer / 512)) (attributes s e)) ≡ 512 * min (attribute_size_of s e) (length buffer / 512) = length-take (512 * (length buffer / 512)) (attributes s e) ∙ sym n in
          let d : take (512 * (length buffer / 512)) (attributes s e) ≡ take (512 * min (attribute_size_of s e) (length buffer / 512)) (attributes s e) =
          sym (take_min (attributes s e) (512 * (length buffer / 512))) ∙ ap (λ (k : ℕ). take k (attributes s e)) (sym n) in
          rw (B.looked, B.none, B.more, c, d)
      go (inr N) = rw (N.refused, N.none)

pub get-model : (s : List ℕ) (m : Model) → Shows s m → check s ≡ 0 → (directory serial : List ℕ) (which : Which) (buffer : List ℕ) → get_in s directory serial which buffer ≡ settings_in m directory serial which buffer
unfolding get_in get_refusal settings_in
get-model s m S ok directory serial which buffer = go (address_refusal directory serial (leb max_setting (length buffer))) refl
  where
    go : (k : ℕ) → address_refusal directory serial (leb max_setting (length buffer)) ≡ k → get_in s directory serial which buffer ≡ settings_in m directory serial which buffer
    go zero z =
        let good = (addressed directory serial _ z).0 in
        let x : Node = m.at (path_of directory serial) in
        let a : is_there s directory serial ≡ shows_file (m.at (path_of directory serial)) = there-view s directory serial good ∙ ap is_in (S.files (path_of directory serial)) ∙ sym (is-in (m.at (path_of directory serial))) in
        let b : stored s directory serial ≡ settings (m.at (path_of directory serial)) = stored-view s directory serial good ∙ ap stored_in (S.files (path_of directory serial)) ∙ sym (settings-of (m.at (path_of directory serial))) in
        rw (ok, z, a, b)
    go (suc k) bad = rw (ok, bad)
