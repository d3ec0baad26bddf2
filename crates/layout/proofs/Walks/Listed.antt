-- What the volume's numbers and a directory's entries are, in the order in which the code takes its tests.
use Prim.Native.Nat.{ℕ, suc, ◌+◌, ◌-◌, ◌*◌, ◌≤◌, ◌<◌, min}
use mathlib.Core.Bool.{Bool, true, false, not, ◌&&◌}
use mathlib.Core.List.{List, [], ◌∷◌}
use mathlib.Core.Path.{◌≡◌, refl, sym, ap, ◌∙◌, subst}
use native.Mathlib.Omega.{arith}
use lib.Dec.{eqb, leb}
use lib.ListN.{length, get_or}
use borrow.Author.Tests.{eq-eqb, ne_eqb, eqb-false, not-true, le-leb, lt-leb, leb-true}
use Rattle.layout.specs.declared.refusal.Refusal.{Refusal}
use Rattle.layout.specs.Reasons.{number_of}
use Rattle.layout.specs.Limits.{max_levels}
use Rattle.layout.specs.Bytes.{be32, be64, part, splice}
use Rattle.layout.specs.Geometry.{block_count}
use Rattle.layout.specs.Table.{next, chain}
use Rattle.layout.specs.Directory.{slot_at, type_of, first_block, is_used, is_directory, slash, directory, root_of, dirs}
use Rattle.layout.specs.Check.{check}
use Rattle.layout.specs.Paths.{parts, path_ok, leading, shallow, home, path_slot, entry_of, directory_refusal}
use Rattle.layout.specs.Looks.{VolumeAnswer, EntryAnswer, volume_info, is_root_path, listed_refusal, listed_block, used_slot, no_entry, entry_fields, next_entry}
use Rattle.layout.specs.Walks.Looks.{Opens, Lists}
use Rattle.layout.specs.Walks.Slots.{Stands, entry_at, used_from}
use Rattle.layout.proofs.Laws.Reasons.{reason}
use Rattle.layout.proofs.Laws.Bytes.{be32-part}
use Rattle.layout.proofs.Laws.Lists.{In, interval-next}
use Rattle.layout.proofs.Laws.Paths.{path-named, path-home}
use Rattle.layout.proofs.Laws.Slots.{children-in, child-below}
use Rattle.layout.proofs.Laws.Tests.{first_of-refused, accept-refused, require-zero}
use Rattle.layout.proofs.Laws.Trees.{root_in, length-directory}
use Rattle.layout.proofs.Walks.Homes.{some-parts, sound-directory}
use Rattle.layout.proofs.Walks.Paths.{directory-is, length-leading}
use Rattle.layout.proofs.Walks.Visits.{self-number, at-below}

pub be64-part : (s : List ℕ) (at n k : ℕ) → k + 8 ≤ n → be64 (part s at n) k ≡ be64 s (at + k)
unfolding be64
be64-part s at n k fits =
    let e : at + (k + 4) ≡ at + k + 4 = omega arith in
    rw (be32-part s at n k (omega arith), be32-part s at n (k + 4) (omega arith), e)

pub root_below : (s : List ℕ) → check s ≡ 0 → root_of s < block_count s
root_below s ok = at-below (sound-directory s ok (root_of s, max_levels) (root_in s (block_count s)))

-- the volume
module _ (s : List ℕ) where
  pub info-refused : (r : ℕ) (buffer : List ℕ) → r ≡ check s → (r ≡ 0 → ⊥) → record { number = r; blocks = 0; used = 0; free = 0; root_blocks = 0; buffer = buffer } ≡ volume_info s buffer
  unfolding volume_info
  info-refused r buffer e h = rw (← e) (sym (accept-refused r _ _ h))

  pub info-numbers : check s ≡ 0 → (n used free d : ℕ) → n ≡ block_count s → used ≡ be32 s 20 → free ≡ be32 s 24 → d ≡ be32 s (entry_at (root_of s) 0 + 12)
      → record { number = 0; blocks = n; used = used; free = free; root_blocks = d; buffer = [] } ≡ volume_info s []
  unfolding volume_info splice
  info-numbers ok n used free d en eu ef ed = rw (ok, length-directory s (root_of s), en, eu, ef, self-number s (root_of s) d 12 ed)

  pub info-given : check s ≡ 0 → {number n used free d : ℕ} → record { number = number; blocks = n; used = used; free = free; root_blocks = d; buffer = [] } ≡ volume_info s []
      → (buffer : List ℕ) (count : ℕ) (after : List ℕ) → count ≡ min (length buffer) 144 → after ≡ splice buffer 0 (part s (512 * 0 + 112) count)
      → record { number = number; blocks = n; used = used; free = free; root_blocks = d; buffer = after } ≡ volume_info s buffer
  unfolding volume_info
  info-given ok e buffer count after ec ea =
      ap (λ (v : VolumeAnswer). record { number = v.number; blocks = v.blocks; used = v.used; free = v.free; root_blocks = v.root_blocks; buffer = after }) e
      ∙ rw (ok, ea, ec)

-- the path of the root
pub root-path-long : (path : List ℕ) → (length path ≡ 1 → ⊥) → false ≡ is_root_path path
unfolding is_root_path
root-path-long [] h = refl
root-path-long (x ∷ []) h = absurd (h refl)
root-path-long (x ∷ y ∷ ys) h = go (eqb x slash)
  where
    go : (t : Bool) → false ≡ t && false
    go true = refl
    go false = refl

pub root-path-one : (path : List ℕ) → length path ≡ 1 → eqb (get_or path 0 0) slash ≡ is_root_path path
unfolding is_root_path
root-path-one [] h = absurd (omega arith)
root-path-one (x ∷ []) h = go (eqb x slash)
  where
    go : (t : Bool) → t ≡ t && true
    go true = refl
    go false = refl
root-path-one (x ∷ y ∷ ys) h = absurd (omega arith)

-- the directory of a path: it is one of the tree
pub path-child : (s path : List ℕ) → directory_refusal s path ≡ 0 → (left : ℕ) × In (first_block s (entry_of is_directory s path), left) (dirs s)
unfolding directory_refusal entry_of shallow dirs
path-child s path z =
    let a = require-zero (path_ok path) 8 _ z in
    let b = require-zero (shallow (parts path)) 16 _ a.1 in
    let f = require-zero _ 9 _ b.1 in
    let ne = eqb-false _ _ (not-true _ f.0) in
    let N = path-named is_directory s path ne in
    let h = leb-true (length (parts path)) max_levels b.0 in
    let l = length-leading (parts path) (omega (arith, some-parts path a.0)) in
    let few = le-leb (length (leading (parts path))) max_levels (omega arith) in
    let left : ℕ = max_levels - suc (length (leading (parts path))) in
    let e : max_levels - length (leading (parts path)) ≡ suc left = omega arith in
    let i = subst (λ (j : ℕ). In (home s path, j) (dirs s)) e (path-home is_directory s path ne few) in
    (left, child-below s max_levels (root_of s) (home s path) left _ i (children-in s (home s path) (path_slot is_directory s path) N.low N.high N.typed))

module _ (s path : List ℕ) where
  pub lists-refused : (r : ℕ) → r ≡ check s → (r ≡ 0 → ⊥) → Lists s path r 0
  unfolding listed_refusal
  lists-refused r e h = record { number_is = rw (← e) (sym (first_of-refused r _ h)); start = λ z. absurd (h z); there = λ z. absurd (h z) }

  pub lists-why : (why : Refusal) → number_of why ≡ listed_refusal s path → Lists s path (number_of why) 0
  lists-why why e = record { number_is = e; start = λ z. absurd (reason why z); there = λ z. absurd (reason why z) }

  module _ (ok : check s ≡ 0) where
    pub lists-root : true ≡ is_root_path path → (b : ℕ) → b ≡ root_of s → Lists s path 0 b
    unfolding listed_refusal listed_block
    lists-root t b e =
        record {
          number_is = rw (ok, ← t);
          start = λ z. rw (← t) e;
          there = λ z. rw e (sound-directory s ok (root_of s, max_levels) (root_in s (block_count s)));
        }

    pub lists-path : false ≡ is_root_path path → {number slot b first size blocks : ℕ} → Opens is_directory s path (directory_refusal s path) number slot b first size blocks
        → Lists s path number first
    unfolding listed_refusal listed_block
    lists-path t o =
        record {
          number_is = rw (ok, ← t) o.number_is;
          start = λ z. rw (← t) (o.file z).start;
          there = λ z. let i = path-child s path (sym o.number_is ∙ z) in rw (o.file z).start (sound-directory s ok (first_block s (entry_of is_directory s path), i.0) i.1);
        }

-- the slots from `start` on that are not free
pub used_low : (k start : ℕ) (t : Bool) → k < start → false ≡ leb start k && t
used_low k start t h = rw (lt-leb start k h)

pub used-type : (s : List ℕ) (e type k start : ℕ) → type ≡ type_of s e → start ≤ k → not (eqb type 0) ≡ leb start k && is_used (type_of s e)
used-type s e type k start et h = rw (le-leb start k h, ← et)

module _ (start : ℕ) (s ds : List ℕ) (k j : ℕ) where
  pub used_from-end : j ≡ 0 → used_from start s ds k j ≡ 0
  unfolding used_from
  used_from-end e = rw e

  pub used_from-here : (e : ℕ) → e ≡ slot_at ds k → 0 < j → true ≡ leb start k && is_used (type_of s e) → used_from start s ds k j ≡ k
  unfolding used_from
  used_from-here e q h t = rw (interval-next k j h, ← q, ← t)

  pub used_from-next : (e : ℕ) → e ≡ slot_at ds k → 0 < j → false ≡ leb start k && is_used (type_of s e) → used_from start s ds k j ≡ used_from start s ds (k + 1) (j - 1)
  unfolding used_from
  used_from-next e q h t = rw (interval-next k j h, ← q, ← t)

pub used_slot-from : (s ds : List ℕ) (start d : ℕ) → length ds ≡ d → used_slot s ds start ≡ used_from start s ds 1 (4 * d - 2)
unfolding used_slot used_from
used_slot-from s ds start d size = rw size

pub used-read : (s : List ℕ) (n b d start : ℕ) → d ≡ be32 s (entry_at b 0 + 12) → (k at : ℕ) → Stands (chain (next s) b d) n (used_slot s (chain (next s) b d) start) k at
    → Stands (directory s b) n (used_slot s (directory s b) start) k at
used-read s n b d start ed k at st = rw (directory-is s b d ed) at st

-- an entry of a directory
abbrev pub buffered : EntryAnswer → List ℕ → EntryAnswer
buffered a buffer = record {
  number = a.number;
  slot = a.slot;
  type = a.type;
  user = a.user;
  group = a.group;
  permissions = a.permissions;
  first = a.first;
  size = a.size;
  blocks = a.blocks;
  created = a.created;
  modified = a.modified;
  attribute_block = a.attribute_block;
  attribute_size = a.attribute_size;
  flags = a.flags;
  buffer = buffer;
}

module _ (s path : List ℕ) (start : ℕ) (buffer : List ℕ) {number first : ℕ} (l : Lists s path number first) (a : EntryAnswer) where
  pub entry-refused : (number ≡ 0 → ⊥) → a ≡ no_entry number [] → buffered a buffer ≡ next_entry s path start buffer
  unfolding next_entry no_entry
  entry-refused h e = ap (λ (x : EntryAnswer). buffered x buffer) e ∙ rw (← l.number_is) (sym (accept-refused number _ _ h))

  module _ (z : number ≡ 0) {k b : ℕ} (st : Stands (directory s first) (block_count s) (used_slot s (directory s first) start) k b) where
    slot_is : k ≡ used_slot s (directory s (listed_block s path)) start
    slot_is = st.slot ∙ ap (λ (x : ℕ). used_slot s (directory s x) start) (l.start z)

    accepted : listed_refusal s path ≡ 0
    accepted = sym l.number_is ∙ z

    pub entry-none : k ≡ 0 → a ≡ no_entry 0 [] → buffered a buffer ≡ next_entry s path start buffer
    unfolding next_entry no_entry
    entry-none h e = ap (λ (x : EntryAnswer). buffered x buffer) e ∙ rw (accepted, ← slot_is, eq-eqb k 0 h)

    pub entry-given : (k ≡ 0 → ⊥) → a ≡ entry_fields s k (entry_at b k) [] → (count o : ℕ) (after : List ℕ) → count ≡ min (length buffer) 80
        → 512 * b + o ≡ entry_at b k + 48 → after ≡ splice buffer 0 (part s (512 * b + o) count) → buffered a after ≡ next_entry s path start buffer
    unfolding next_entry entry_fields
    entry-given h e count o after ec eo ea =
        let p : entry_at b k ≡ slot_at (directory s (listed_block s path)) k = (st.block h).1 ∙ ap (λ (x : ℕ). slot_at (directory s x) k) (l.start z) in
        ap (λ (x : EntryAnswer). buffered x after) e ∙ rw (accepted, ← slot_is, ne_eqb k 0 h, ← p, ea, eo, ec)
