-- Replace, as the code does it: what its shorten and its write ask, and what they leave.
use Prim.Native.Nat.{ℕ, min}
use mathlib.Core.Path.{◌≡◌, sym, ap, ◌∙◌, subst}
use mathlib.Core.List.{List}
use native.Mathlib.Omega.{arith}
use borrow.Author.Tests.{le-leb}
use lib.ListN.{length, get_or, take}
use Rattle.layout.specs.Geometry.{block_count, blocks_for}
use Rattle.layout.specs.Table.{next, free_blocks}
use Rattle.layout.specs.Directory.{size_of, is_file, file_blocks}
use Rattle.layout.specs.Check.{check}
use Rattle.layout.specs.Paths.{entry_of, file_refusal}
use Rattle.layout.specs.Walks.Looks.{Located}
use Rattle.layout.specs.Walks.Slots.{entry_at}
use Rattle.volume.specs.Write.{needed, write_at_refusal, write_at, write_named}
use Rattle.volume.specs.Shorten.{shorten_at, shorten_named, shorten_refusal}
use Rattle.volume.specs.Replace.{replace_refusal, replace_at, replace_named}
use Rattle.volume.specs.Walks.Marks.{marked}
use Rattle.volume.specs.Walks.Targets.{Standing}
use Rattle.volume.proofs.Laws.Places.{write-at}
use Rattle.volume.proofs.Laws.Shorten.{shorten-accepted}
use Rattle.volume.proofs.Laws.Replace.{replace-there, replace-shorten, replace-write, short-sound, short-count, short-slot, short-entry, short-accepted, short-first, short-size, short-many}
use Rattle.volume.proofs.Walks.Marks.{marked_append}

module _ {s : List ℕ} {slot b first old blocks : ℕ} (count : ℕ) (ok : check s ≡ 0) (st : Standing s (λ path. replace_refusal s path count) slot b first old blocks) (m : ℕ) (em : m ≡ min old count) where
  abbrev e : ℕ
  e = entry_of is_file s st.path

  o : Located is_file s st.path slot b first old blocks
  o = st.located

  size_is : m ≡ min (size_of s e) count
  size_is = em ∙ rw o.bytes

  -- the shorten
  pub replace-shortens : Standing s (λ path. shorten_refusal s path m) slot b first old blocks
  replace-shortens = record { path = st.path; accepted = rw size_is (shorten-accepted s st.path _ (replace-shorten s st.path count st.accepted)); located = o }

  -- the write, before it and after it
  pub replace-writes : (Standing s (file_refusal s) slot b first old blocks) × (write_at_refusal s (entry_at b slot) 0 count ≡ 0)
  unfolding replace_refusal
  replace-writes = (record { path = st.path; accepted = replace-there s st.path count st.accepted; located = o }, rw o.place (write-at s st.path 0 count st.accepted).1)

  module _ (time : ℕ) (t : List ℕ) (et : t ≡ shorten_at s (entry_at b slot) m time) (start : ℕ) (es : start ≡ get_or (take (blocks_for m) (file_blocks s (entry_at b slot))) 0 0) where
    abbrev u : List ℕ
    u = shorten_at s (entry_of is_file s st.path) (min (size_of s (entry_of is_file s st.path)) count) time

    now-is : u ≡ t
    now-is = sym (et ∙ rw (o.place, size_is))

    entry-same : entry_of is_file u st.path ≡ e
    entry-same = short-entry s st.path ok count time st.accepted

    standing : Standing u (file_refusal u) slot b start m (blocks_for m)
    standing =
        record {
          path = st.path;
          accepted = short-accepted s st.path ok count time st.accepted;
          located =
              record {
                found = o.found ∙ sym (short-slot s st.path ok count time st.accepted);
                low = o.low;
                inside = rw (short-count s st.path ok count time st.accepted) o.inside;
                place = o.place ∙ sym entry-same;
                start = rw entry-same (es ∙ rw (o.place, size_is) (sym (short-first s st.path ok count time st.accepted)));
                bytes = rw entry-same (size_is ∙ sym (short-size s st.path ok count time st.accepted));
                count = rw entry-same (ap blocks_for size_is ∙ sym (short-many s st.path ok count time st.accepted));
              };
        }

    writable : write_at_refusal u e 0 count ≡ 0
    unfolding write_at_refusal
    writable =
        let room = rw entry-same at (replace-write s st.path ok count time st.accepted).room in
        rw (le-leb 0 (size_of u e) (omega arith), le-leb (needed u e 0 count) (length (free_blocks (next u) (block_count u))) room)

    pub replace-sound : check t ≡ 0
    replace-sound = subst (λ (x : List ℕ). check x ≡ 0) now-is (short-sound s st.path ok count time st.accepted)

    pub replace-standing : Standing t (file_refusal t) slot b start m (blocks_for m)
    replace-standing = subst (λ (x : List ℕ). Standing x (file_refusal x) slot b start m (blocks_for m)) now-is standing

    pub replace-writable : write_at_refusal t (entry_at b slot) 0 count ≡ 0
    replace-writable = rw o.place (subst (λ (x : List ℕ). write_at_refusal x e 0 count ≡ 0) now-is writable)

  pub replace-marked : (marks : List ℕ) → marked (marked marks (shorten_named s (entry_at b slot) m)) (write_named s (entry_at b slot) 0 count) ≡ marked marks (replace_named s (entry_at b slot) count)
  unfolding replace_named
  replace-marked marks = sym (marked_append (shorten_named s (entry_at b slot) m) (write_named s (entry_at b slot) 0 count) marks) ∙ rw (size_is, o.place)

pub replace-done : {s : List ℕ} {slot b first old blocks : ℕ} (bytes : List ℕ) → Standing s (λ path. replace_refusal s path (length bytes)) slot b first old blocks → (m time : ℕ) → m ≡ min old (length bytes)
    → (t : List ℕ) → t ≡ shorten_at s (entry_at b slot) m time → write_at t (entry_at b slot) 0 bytes time ≡ replace_at s (entry_at b slot) bytes time
unfolding replace_at
replace-done bytes st m time em t et = rw (et, em, st.located.bytes, st.located.place)
