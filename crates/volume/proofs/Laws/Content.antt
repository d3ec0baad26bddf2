-- Changes of files by paths: the files of all other paths stay, and every answer about them.
use Prim.Native.Nat.{ℕ, suc, ◌+◌, ◌-◌, ◌*◌, min}
use mathlib.Core.Path.{◌≡◌, refl, sym, ◌∙◌, subst}
use mathlib.Core.Bool.{Bool, true, false, ◌&&◌}
use mathlib.Core.List.{List}
use mathlib.Core.Logic.{◌⊎◌, inl, inr, ◌≢◌}
use lib.ListN.{length}
use Rattle.layout.specs.Limits.{max_levels}
use Rattle.layout.specs.Lists.{same}
use Rattle.layout.specs.Bytes.{block}
use Rattle.layout.specs.Table.{next}
use Rattle.layout.specs.Directory.{slot_at, type_of, size_of, is_file, name_of, directory, dirs, free_slot}
use Rattle.layout.specs.Check.{check}
use Rattle.layout.specs.Paths.{parts, path_ok, leading, last_part, shallow, home, path_slot, entry_of, file_refusal}
use Rattle.volume.specs.Create.{create_refusal, create_image}
use Rattle.volume.specs.Write.{write_at}
use Rattle.volume.specs.Delete.{delete_at}
use Rattle.volume.specs.Attributes.{set_attributes_at, clear_attributes_at, set_attributes_refusal}
use Rattle.volume.specs.Flags.{clear_flags_at}
use Rattle.volume.specs.Shorten.{shorten_at}
use Rattle.volume.specs.Replace.{replace_refusal, replace_at}
use Rattle.volume.specs.Entries.{directory_made}
use Rattle.volume.specs.Directories.{create_directory_refusal, new_directory_blocks, create_directory_image, create_directory_named}
use Rattle.volume.specs.Change.{create_directory, refusal, after, named}
use Rattle.volume.proofs.Laws.CreateDirectory.{made-untouched}
use Rattle.volume.proofs.Laws.Framed.{frame}
use Rattle.volume.proofs.Laws.Places.{At, create-given, create-directory-given, path-levels, file-at-path, WriteGiven, set-path, set_given, path-name, place_is, place-home, place-free, place-new, place-there}
use Rattle.volume.proofs.Laws.Write.{written-file, written-slot, written_next, written-block}
use Rattle.volume.proofs.Laws.Delete.{deleted-slot, deleted-type, deleted-next, deleted-block}
use Rattle.volume.proofs.Laws.SetClear.{cleared-slot, cleared-entry, cleared-next, cleared-block, set-slot, set-entry, set-next, set-block}
use Rattle.volume.proofs.Laws.Flags.{flags-slot, flags-entry, flags-next, flags-block}
use Rattle.volume.proofs.Laws.Shorten.{ShortenGiven, shortened-slot, shortened-file, shortened-value, shortened-block}
use Rattle.volume.proofs.Laws.Replace.{replace-shorten, replace-write, short-sound, short-entry}
use Rattle.volume.proofs.Laws.Create.{created-slot, created-no-dir, created-name, created-next, created-block}
use Rattle.layout.proofs.Laws.Tests.{and_split, is_false, true-not-false}
use Rattle.layout.proofs.Laws.Names.{same-eq}
use Rattle.layout.proofs.Laws.Lists.{In}
use Rattle.layout.proofs.Laws.Sound.{Sound, Owner, sound}
use Rattle.layout.proofs.Laws.Changed.{OneSlot}
use Rattle.layout.proofs.Laws.Paths.{Named}
use Rattle.layout.proofs.Laws.Owners.{blocks_at, file-no-dir}
use Rattle.layout.specs.Claims.{Reached, Untouched}
use Rattle.layout.proofs.Laws.Others.{untouched}
use Rattle.layout.proofs.Laws.Ways.{other_path}

-- a path of more than 8 directories names no file
deep-untouched : (s s' other : List ℕ) → shallow (leading (parts other)) ≡ false → Untouched s s' other
deep-untouched s s' other f =
    record {
      slot = λ h. absurd (true-not-false h f);
      entry = λ r. absurd (true-not-false r.0 f);
      bytes = λ r. absurd (true-not-false r.0 f);
      blocks = λ r. absurd (true-not-false r.0 f);
      contents = λ r. absurd (true-not-false r.0 f);
      second = λ r. absurd (true-not-false r.0 f);
    }

-- the entry of a path is no file of another path's name
pub beside : (s t : List ℕ) (e : ℕ) (path other : List ℕ) → name_of t e ≡ last_part (parts path) → (home s other ≢ home s path) ⊎ (last_part (parts other) ≢ last_part (parts path))
    → (home s other ≢ home s path) ⊎ ((is_file (type_of t e) && same (name_of t e) (last_part (parts other))) ≡ false)
beside s t e path other q (inl ne) = inl ne
beside s t e path other q (inr ne) = inr (is_false _ (λ y. ne (sym (same-eq (name_of t e) (last_part (parts other)) (and_split (is_file (type_of t e)) _ y).1) ∙ q)))

pub no-file : (t : List ℕ) (e : ℕ) (name : List ℕ) → type_of t e ≡ 0 → (is_file (type_of t e) && same (name_of t e) name) ≡ false
no-file t e name z = rw z

module _ (s path other : List ℕ) (ok : check s ≡ 0) (good : path_ok other ≡ true) (ne : other ≢ path) where
  S : Sound s
  S = sound s ok

  pub by-depth : (s' : List ℕ) → (shallow (leading (parts other)) ≡ true → Untouched s s' other) → Untouched s s' other
  by-depth s' f = go (shallow (leading (parts other))) refl
    where
      go : (w : Bool) → shallow (leading (parts other)) ≡ w → Untouched s s' other
      go true v = f v
      go false v = deep-untouched s s' other v

  abbrev e : ℕ
  e = slot_at (directory s (home s path)) (path_slot is_file s path)

  -- a change of a file that keeps the type and the name of its entry, and the blocks of other owners
  entry-untouched : (A : At is_file s path) (s' : List ℕ) → OneSlot s (dirs s) s' e → type_of s' e ≡ type_of s e → name_of s' e ≡ name_of s e
      → ((a : ℕ) → Owner s a → a ≢ e → a ≢ e + 28 → ((x : ℕ × ℕ) → In x (dirs s) → a ≢ 512 * x.0) → (q : ℕ) → In q (blocks_at s a) → next s' q ≡ next s q)
      → ((a : ℕ) → Owner s a → a ≢ e → a ≢ e + 28 → ((x : ℕ × ℕ) → In x (dirs s) → a ≢ 512 * x.0) → (q : ℕ) → In q (blocks_at s a) → block s' q ≡ block s q)
      → Untouched s s' other
  entry-untouched A s' O type name values bytes = by-depth s' λ v.
      let N = A.named in
      let p = other_path s S path other A.good good A.short v A.there ne in
      untouched s s' S (home s path, A.level) A.home-in (path_slot is_file s path) N.low N.high O
      (file-no-dir (type_of s e) N.typed) (rw type (file-no-dir (type_of s e) N.typed)) values bytes
      other (beside s s e path other N.named p) (beside s s' e path other (name ∙ N.named) p)

  pub write-untouched : (offset : ℕ) (bytes : List ℕ) (time : ℕ) → WriteGiven s path offset (length bytes) → Untouched s (write_at s (entry_of is_file s path) offset bytes time) other
  unfolding entry_of
  write-untouched offset bytes time G =
      let A = G.there in
      let N = A.named in
      let d : ℕ × ℕ = (home s path, A.level) in
      let k : ℕ = path_slot is_file s path in
      let W = written-file s S d A.home-in k N.low N.high N.typed offset bytes time G.room G.within-size in
      entry-untouched A (write_at s e offset bytes time)
      (written-slot s S d A.home-in k N.low N.high N.typed offset bytes time G.room) W.type W.name
      (λ a O p q no_self x i. written_next s S d A.home-in k N.low N.high N.typed offset bytes time G.room a O p x i)
      (λ a O p q no_self x i. written-block s S d A.home-in k N.low N.high N.typed offset bytes time G.room a O p x i no_self)

  pub delete-untouched : file_refusal s path ≡ 0 → Untouched s (delete_at s (entry_of is_file s path)) other
  unfolding entry_of
  delete-untouched r = by-depth (delete_at s (entry_of is_file s path)) λ v.
      let A = file-at-path s path r in
      let N = A.named in
      let d : ℕ × ℕ = (home s path, A.level) in
      let k : ℕ = path_slot is_file s path in
      let e : ℕ = slot_at (directory s (home s path)) k in
      let z = deleted-type s S d A.home-in k N.low N.high N.typed in
      let p = other_path s S path other A.good good A.short v A.there ne in
      untouched s (delete_at s e) S d A.home-in k N.low N.high
      (deleted-slot s S d A.home-in k N.low N.high N.typed)
      (file-no-dir (type_of s e) N.typed) (rw z)
      (deleted-next s S d A.home-in k N.low N.high N.typed)
      (deleted-block s S d A.home-in k N.low N.high N.typed)
      other (beside s s e path other N.named p) (inr (no-file (delete_at s e) e (last_part (parts other)) z))

  pub create-untouched : (type user group permissions flags time : ℕ) → create_refusal s path type flags ≡ 0 → Untouched s (create_image s path type user group permissions flags time) other
  unfolding create_image
  create-untouched type user group permissions flags time r = by-depth (create_image s path type user group permissions flags time) λ v.
      let G = create-given s path type flags r in
      let w = place-free s path G.placed in
      let d : ℕ × ℕ = (home s path, max_levels - length (leading (parts path))) in
      let di = place-home s path G.placed G.short in
      let k : ℕ = free_slot s (directory s (home s path)) in
      let e : ℕ = slot_at (directory s (home s path)) k in
      let name : List ℕ = last_part (parts path) in
      let gn = path-name path G.good in
      let new = place-new s path G.placed in
      let p = other_path s S path other G.good good G.short v (place-there s path G.placed) ne in
      rw (place_is s path G.placed)
      (untouched s _ S d di k w.0 w.1
      (created-slot s S d di k w.0 w.1 w.2 name gn new type user group permissions flags time G.file)
      (rw w.2) (created-no-dir s S d di k w.0 w.1 w.2 name gn new type user group permissions flags time G.file)
      (λ x O p₁ q₁ no_self y i. created-next s S d di k w.0 w.1 w.2 name gn new type user group permissions flags time G.file x O y i)
      (λ x O p₁ q₁ no_self y i. created-block s S d di k w.0 w.1 w.2 name gn new type user group permissions flags time G.file x O y i no_self)
      other (inr (no-file s e (last_part (parts other)) w.2))
      (beside s _ e path other (created-name s S d di k w.0 w.1 w.2 name gn new type user group permissions flags time G.file) p))

  pub set-untouched : (bytes : List ℕ) → set_attributes_refusal s path (length bytes) ≡ 0 → Untouched s (set_attributes_at s (entry_of is_file s path) bytes) other
  unfolding entry_of
  set-untouched bytes r =
      let A = file-at-path s path (set-path s path (length bytes) r) in
      let R = set_given s path (length bytes) r in
      let N = A.named in
      let d : ℕ × ℕ = (home s path, A.level) in
      let k : ℕ = path_slot is_file s path in
      let K = set-entry s S d A.home-in k N.low N.high N.typed bytes R in
      entry-untouched A (set_attributes_at s e bytes)
      (set-slot s S d A.home-in k N.low N.high N.typed bytes R) K.type K.name
      (λ a O p q. set-next s S d A.home-in k N.low N.high N.typed bytes R a O q)
      (λ a O p q. set-block s S d A.home-in k N.low N.high N.typed bytes R a O q)

  -- the clears
  module _ (r : file_refusal s path ≡ 0) where
    abbrev A : At is_file s path
    A = file-at-path s path r

    abbrev d : ℕ × ℕ
    d = (home s path, A.level)

    abbrev k : ℕ
    k = path_slot is_file s path

    abbrev N : Named is_file s (home s path) (last_part (parts path)) k
    N = A.named

    pub clear-untouched : Untouched s (clear_attributes_at s (entry_of is_file s path)) other
    unfolding entry_of
    clear-untouched =
        let K = cleared-entry s S d A.home-in k N.low N.high N.typed in
        entry-untouched A (clear_attributes_at s e)
        (cleared-slot s S d A.home-in k N.low N.high N.typed) K.type K.name
        (λ a O p q. cleared-next s S d A.home-in k N.low N.high N.typed a O q)
        (λ a O p q. cleared-block s S d A.home-in k N.low N.high N.typed a O q)

    pub flags-untouched : Untouched s (clear_flags_at s (entry_of is_file s path)) other
    unfolding entry_of
    flags-untouched =
        let K = flags-entry s S d A.home-in k N.low N.high N.typed in
        entry-untouched A (clear_flags_at s e)
        (flags-slot s S d A.home-in k N.low N.high N.typed) K.type K.name
        (λ a O p q. flags-next s S d A.home-in k N.low N.high N.typed a O)
        (λ a O p q. flags-block s S d A.home-in k N.low N.high N.typed a O)

-- a shorten, and a replace
pub shorten-untouched : (s path other : List ℕ) → check s ≡ 0 → path_ok other ≡ true → other ≢ path → (size time : ℕ) → ShortenGiven s path size
    → Untouched s (shorten_at s (entry_of is_file s path) size time) other
unfolding entry_of
shorten-untouched s path other ok good ne size time G =
    let A = file-at-path s path G.there in
    let N = A.named in
    let d : ℕ × ℕ = (home s path, A.level) in
    let k : ℕ = path_slot is_file s path in
    let K = (shortened-file s (sound s ok) d A.home-in k N.low N.high N.typed size time G.less).entry in
    entry-untouched s path other ok good ne A (shorten_at s (slot_at (directory s (home s path)) k) size time)
    (shortened-slot s (sound s ok) d A.home-in k N.low N.high N.typed size time G.less) K.type K.name
    (λ a O p q no_self x i. shortened-value s (sound s ok) d A.home-in k N.low N.high N.typed size time G.less a O p x i)
    (λ a O p q no_self x i. shortened-block s (sound s ok) d A.home-in k N.low N.high N.typed size time G.less a O p x i no_self)

-- a change, then another
pub untouched-then : (s t u other : List ℕ) → Untouched s t other → Untouched t u other → Untouched s u other
untouched-then s t u other U W =
    record {
      slot = λ h. W.slot h ∙ U.slot h;
      entry = λ r. W.entry (on r) ∙ U.entry r;
      bytes = λ r. (rw (U.entry r) at (W.bytes (on r))) ∙ U.bytes r;
      blocks = λ r. (rw (U.entry r) at (W.blocks (on r))) ∙ U.blocks r;
      contents = λ r. (rw (U.entry r) at (W.contents (on r))) ∙ U.contents r;
      second = λ r. let A = U.second r in let B = rw (U.entry r) at (W.second (on r)) in
          record { size = B.size ∙ A.size; blocks = B.blocks ∙ A.blocks; bytes = B.bytes ∙ A.bytes };
    }
  where
    on : Reached s other → Reached t other
    on r = (r.0, λ z. r.1 (sym (U.slot r.0) ∙ z))

pub replace-untouched : (s path other : List ℕ) → check s ≡ 0 → path_ok other ≡ true → other ≢ path → (bytes : List ℕ) (time : ℕ) → replace_refusal s path (length bytes) ≡ 0
    → Untouched s (replace_at s (entry_of is_file s path) bytes time) other
unfolding replace_at
replace-untouched s path other ok good ne bytes time r =
    let e : ℕ = entry_of is_file s path in
    let m : ℕ = min (size_of s e) (length bytes) in
    let t : List ℕ = shorten_at s e m time in
    untouched-then s t (write_at t e 0 bytes time) other (shorten-untouched s path other ok good ne m time (replace-shorten s path (length bytes) r))
    (subst (λ (x : ℕ). Untouched t (write_at t x 0 bytes time) other) (short-entry s path ok (length bytes) time r)
    (write-untouched t path other (short-sound s path ok (length bytes) time r) good ne 0 bytes time (replace-write s path ok (length bytes) time r)))

-- a directory created: the file of every path stays
pub create-directory-untouched : (s path other : List ℕ) → check s ≡ 0 → (type user group permissions flags time d : ℕ) → create_directory_refusal s path type flags d ≡ 0
    → Untouched s (create_directory_image s path type user group permissions flags time d) other
unfolding create_directory_image new_directory_blocks directory_made create_directory_named after named
create-directory-untouched s path other c type user group permissions flags time d r =
    let G = create-directory-given s path type flags d r in
    let l = path-levels path G.good G.deep in
    let w = place-free s path G.placed in
    let home-in : In (home s path, suc (max_levels - suc (length (leading (parts path))))) (dirs s) = rw l.1 (place-home s path G.placed l.0) in
    let framed = (frame s (create_directory path type user group permissions flags time d) c (unfold refusal in r)).agree in
    rw (place_is s path G.placed) (made-untouched s (sound s c) (home s path) (max_levels - suc (length (leading (parts path)))) home-in
    (free_slot s (directory s (home s path))) w.0 w.1 w.2 (last_part (parts path)) (path-name path G.good) (place-new s path G.placed) type user group permissions flags time G.dir
    d G.least G.most G.room (rw (place_is s path G.placed) at framed) other)
