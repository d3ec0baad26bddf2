-- Shorten, as the code does it: its refusals, where the chain is cut, the steps of the change, and the blocks named.
use Prim.Native.Nat.{ℕ, zero, suc, ◌+◌, ◌-◌, ◌*◌, ◌/◌, ◌%◌, ◌≤◌, ◌<◌}
use mathlib.Core.Path.{◌≡◌, refl, sym, ap, ◌∙◌}
use mathlib.Core.Bool.{true}
use mathlib.Core.List.{List, [], ◌∷◌, ◌++◌}
use mathlib.Core.Logic.{inr, inl, ⊎_elim}
use native.Mathlib.Omega.{arith}
use borrow.Author.Tests.{le-leb, lt-leb, lt-ltb}
use lib.ListN.{length, get_or, take, drop, length-take}
use lib.Seq.{take_all, take-nil, drop-nil}
use Rattle.layout.specs.Limits.{max_blocks}
use Rattle.layout.specs.Lists.{last_or}
use Rattle.layout.specs.Bytes.{be32, splice, zeros}
use Rattle.layout.specs.Geometry.{block_count, blocks_for}
use Rattle.layout.specs.Table.{next, chain, chain_ok, occupied, table_block_of}
use Rattle.layout.specs.Directory.{is_file, file_blocks}
use Rattle.layout.specs.Check.{check}
use Rattle.layout.specs.Paths.{entry_of, file_refusal}
use Rattle.layout.specs.Walks.Looks.{Located}
use Rattle.layout.specs.Walks.Shapes.{Shape, ChainBelow}
use Rattle.layout.specs.Walks.Slots.{entry_at}
use Rattle.volume.specs.Entries.{linked, released, entries_named, blocks_named}
use Rattle.volume.specs.Write.{put, set_file, written, changed_entries}
use Rattle.volume.specs.Shorten.{cut_off, tail_length, shorten_at, shorten_named, shorten_refusal}
use Rattle.volume.specs.Walks.Cuts.{CutAt, end_blocks}
use Rattle.volume.specs.Walks.Marks.{marked}
use Rattle.volume.specs.Walks.Targets.{Standing}
use Rattle.layout.proofs.Laws.Tests.{first_of-refused}
use Rattle.layout.proofs.Laws.Bytes.{length-zeros, zeros-none, splice-nil, part-rest}
use Rattle.layout.proofs.Laws.Lists.{In, in_take, last-in}
use Rattle.layout.proofs.Laws.Chains.{nth, nth-suc, nth-add, length-chain, get_d-chain, chain-none, chain-part, last_some, chain-below, Chain, chain_ok-split, chain_ok-join}
use Rattle.layout.proofs.Laws.Sound.{sound}
use Rattle.layout.proofs.Walks.Looks.{located-block, located-chain, located-ok}
use Rattle.layout.proofs.Walks.Shapes.{sound-shape, sound-chain}
use Rattle.volume.proofs.Laws.Frame.{changed-first}
use Rattle.volume.proofs.Laws.Shorten.{ShortenGiven, shorten-given, tail-fits}
use Rattle.volume.proofs.Walks.Marks.{marked_append}
use Rattle.volume.proofs.Walks.Write.{blocks-for, blocks-most}
use Rattle.volume.proofs.Walks.WriteNamed.{grown-marks, marked-pairs}

-- the refusals, in the order of the code
module _ (s path : List ℕ) (size : ℕ) where
  pub shorten-missing : (file_refusal s path ≡ 0 → ⊥) → file_refusal s path ≡ shorten_refusal s path size
  unfolding shorten_refusal
  shorten-missing h = sym (first_of-refused (file_refusal s path) _ h)

  module _ (z : file_refusal s path ≡ 0) {slot b first old blocks : ℕ} (o : Located is_file s path slot b first old blocks) where
    pub shorten-above : old < size → 12 ≡ shorten_refusal s path size
    unfolding shorten_refusal
    shorten-above h = rw (z, ← o.bytes, lt-leb size old h)

    pub shorten-fine : size ≤ old → 0 ≡ shorten_refusal s path size
    unfolding shorten_refusal
    shorten-fine h = rw (z, ← o.bytes, le-leb size old h)

-- a block of a chain has an entry in the table
pub entry-inside : {s : List ℕ} {n first k : ℕ} → ChainBelow s n first k → (i b : ℕ) → b ≡ get_or (chain (next s) first k) i 0 → i < k → 512 * table_block_of b + 512 ≤ length s
entry-inside r i b e h = let x = r.below i h in let w = r.shape.whole in let l = r.shape.low in omega arith

-- where a chain is cut
module _ (v : ℕ → ℕ) (first k j : ℕ) where
  pub cut-none : j ≡ 0 → CutAt v first k j 0 0 first
  cut-none e = let z : k - 0 ≡ k = omega arith in rw e (record { begins = refl; before = refl; behind = rw z; chained = λ n h. rw z h })

  module _ (some : j ≡ 0 → ⊥) (le : j ≤ k) (last rest : ℕ) (el : last ≡ get_or (chain v first k) (j - 1) 0) (er : rest ≡ v last) where
    front : take j (chain v first k) ≡ chain v first j
    front = chain-part v 0 first k j (omega arith)

    last-is : last ≡ nth v (j - 1) first
    last-is = el ∙ get_d-chain v first k (j - 1) (omega arith)

    rest-is : rest ≡ nth v j first
    rest-is = let z : suc (j - 1) ≡ j = omega arith in er ∙ ap v last-is ∙ sym (nth-suc v (j - 1) first) ∙ ap (λ (x : ℕ). nth v x first) z

    after : (x : ℕ) → nth v x rest ≡ nth v (j + x) first
    after x = ap (nth v x) rest-is ∙ sym (nth-add v j x first)

    still : (n : ℕ) → Chain v n first k → Chain v n rest (k - j)
    still n C =
        let z : j + (k - j) ≡ k = omega arith in
        record {
          above = λ x h. rw (after x) (C.above (j + x) (omega arith));
          below = λ x h. rw (after x) (C.below (j + x) (omega arith));
          last = λ h. after (k - j) ∙ ap (λ (x : ℕ). nth v x first) z ∙ C.last (omega arith);
        }

    pub cut-some : CutAt v first k j first last rest
    cut-some =
        record {
          begins = rw front (sym (get_d-chain v first j 0 (omega arith)));
          before = last-is ∙ sym (get_d-chain v first j (j - 1) (omega arith)) ∙ sym (ap (last_or 0) front ∙ last_some v first j (omega arith));
          behind = ap (λ (x : ℕ). chain v x (k - j)) rest-is ∙ sym (chain-part v j first k (k - j) (omega arith))
              ∙ ap (λ (w : ℕ). take (w - j) (drop j (chain v first k))) (sym (length-chain v first k)) ∙ part-rest (chain v first k) j;
          chained = λ n h. chain_ok-join v n rest (k - j) (still n (chain_ok-split v n first k h));
        }

-- how many bytes become 0
pub tail-some : (old size : ℕ) → size < old → 512 * blocks_for size - size ≡ tail_length old size
unfolding tail_length
tail-some old size h = rw (lt-ltb size old h)

-- bytes put within the last of some blocks
put_last : (bs s : List ℕ) (a o : ℕ) (bytes : List ℕ) → 0 < length bytes → 512 * length bs ≤ o + 511 → o + length bytes ≤ 512 * length bs → put s bs o bytes ≡ splice s (512 * last_or a bs + o % 512) bytes
unfolding put
put_last [] s a o bytes pos near fit = absurd (omega arith)
put_last (b ∷ []) s a o bytes pos near fit =
    let e : o % 512 ≡ o = omega arith in
    rw (e, take_all (512 - o) bytes (omega arith))
put_last (b ∷ c ∷ bs) s a o bytes pos near fit =
    let z : 512 - o ≡ 0 = omega arith in
    let e : o % 512 ≡ (o - 512) % 512 = omega arith in
    rw (z, splice-nil s (512 * b + o), e) (put_last (c ∷ bs) s b (o - 512) bytes pos (omega arith) (omega arith))

put-none : (bs s : List ℕ) (o : ℕ) → put s bs o [] ≡ s
unfolding put
put-none [] s o = refl
put-none (b ∷ bs) s o = rw (take-nil {A = ℕ} (512 - o), drop-nil {A = ℕ} (512 - o), splice-nil s (512 * b + o)) (put-none bs s (o - 512))

written_last : (bs : List ℕ) (a o c : ℕ) → 512 * length bs ≤ o + 511 → o + suc c ≤ 512 * length bs → written bs o (suc c) ≡ last_or a bs ∷ []
unfolding written
written_last [] a o c near fit = absurd (omega arith)
written_last (b ∷ []) a o c near fit =
    let d : o / 512 ≡ 0 = omega arith in
    let w : blocks_for (o % 512 + suc c) ≡ 1 = omega arith in
    rw (d, w)
written_last (b ∷ x ∷ bs) a o c near fit =
    let d : o / 512 ≡ suc ((o - 512) / 512) = omega arith in
    let m : o % 512 ≡ (o - 512) % 512 = omega arith in
    rw (d, m) (written_last (x ∷ bs) b (o - 512) c (omega arith) (omega arith))

-- the zeros behind the new end, in the last of the blocks that stay
module _ (bs s : List ℕ) (size tail : ℕ) (many : length bs ≡ blocks_for size) (fit : size + tail ≤ 512 * blocks_for size) where
  pub put-tail : put s bs size (zeros tail) ≡ splice s (512 * last_or 0 bs + size % 512) (zeros tail)
  put-tail = go tail refl
    where
      go : (t : ℕ) → tail ≡ t → put s bs size (zeros tail) ≡ splice s (512 * last_or 0 bs + size % 512) (zeros tail)
      go zero e = rw (e, zeros-none) (put-none bs s size ∙ sym (splice-nil s (512 * last_or 0 bs + size % 512)))
      go (suc t) e = let l = length-zeros tail in put_last bs s 0 size (zeros tail) (omega arith) (omega arith) (omega arith)

  pub written-tail : end_blocks (last_or 0 bs) tail ≡ written bs size tail
  unfolding end_blocks written
  written-tail = go tail refl
    where
      go : (t : ℕ) → tail ≡ t → end_blocks (last_or 0 bs) tail ≡ written bs size tail
      go zero e = rw e
      go (suc t) e = rw e (sym (written_last bs 0 size t (omega arith) (omega arith)))

-- cutting
module _ (s : List ℕ) (n last rest k : ℕ) where
  pub cut-nothing : k ≡ 0 → s ≡ cut_off s n last (chain (next s) rest k)
  unfolding cut_off
  cut-nothing e = rw (chain-none (next s) rest k e)

  pub cut-done : (k ≡ 0 → ⊥) → linked (released s n (chain (next s) rest k)) last 1 ≡ cut_off s n last (chain (next s) rest k)
  unfolding cut_off chain
  cut-done ne = let e : k ≡ suc (k - 1) = omega arith in rw e

-- its marks
module _ (v : ℕ → ℕ) (b k last : ℕ) (m : List ℕ) where
  pub cut-unmarked : k ≡ 0 → m ≡ marked m (chain v b k ++ entries_named (changed_entries last (chain v b k)))
  unfolding marked entries_named changed_entries
  cut-unmarked e = rw (chain-none v b k e)

  some : (k ≡ 0 → ⊥) → 0 < length (chain v b k)
  some ne = rw (length-chain v b k) (omega arith)

  pub cut-first : (k ≡ 0 → ⊥) → last ≡ 0 → marked m (blocks_named (chain v b k)) ≡ marked m (chain v b k ++ entries_named (changed_entries last (chain v b k)))
  unfolding blocks_named
  cut-first ne e = rw (e, changed-first (chain v b k))

  pub cut-behind : (k ≡ 0 → ⊥) → (last ≡ 0 → ⊥)
      → marked (marked m (blocks_named (chain v b k))) (table_block_of last ∷ []) ≡ marked m (chain v b k ++ entries_named (changed_entries last (chain v b k)))
  cut-behind ne nz =
      ap (λ (x : List ℕ). marked x (table_block_of last ∷ [])) (sym (marked-pairs (chain v b k) m (some ne)))
      ∙ grown-marks last (chain v b k) (table_block_of last ∷ []) m (some ne) only (λ l. inl refl)
    where
      only : (x : ℕ) → In x (table_block_of last ∷ []) → (x ≡ table_block_of last) × (0 < last)
      only x (inr x'') = elim x'' [ ]
      only x (inl e) = (e, omega arith)

pub end_none : (last tail : ℕ) (m : List ℕ) → tail ≡ 0 → m ≡ marked m (end_blocks last tail)
unfolding end_blocks marked
end_none last tail m e = rw e

pub end-some : (last tail : ℕ) (m : List ℕ) → (tail ≡ 0 → ⊥) → marked m (last ∷ []) ≡ marked m (end_blocks last tail)
unfolding end_blocks
end-some last tail m ne = let e : tail ≡ suc (tail - 1) = omega arith in rw e

-- an accepted shorten of a file that was found
module _ {s : List ℕ} {slot b first old blocks : ℕ} (size : ℕ) (ok : check s ≡ 0) (st : Standing s (λ path. shorten_refusal s path size) slot b first old blocks) where
  abbrev e : ℕ
  e = entry_of is_file s st.path

  o : Located is_file s st.path slot b first old blocks
  o = st.located

  given : ShortenGiven s st.path size
  given = shorten-given s st.path size st.accepted

  pub shorten-sizes : (size ≤ old) × (old ≤ 512 * max_blocks) × (blocks ≡ blocks_for old)
  shorten-sizes =
      let z = blocks-for o given.there ok in
      let q = blocks-most o given.there ok in
      (omega (arith, o.bytes, given.less), omega arith, z)

  pub shorten-fewer : blocks_for size ≤ blocks
  shorten-fewer = let z = shorten-sizes in omega (arith, z.0, z.2)

  pub shorten-run : ChainBelow s (block_count s) first blocks
  shorten-run = sound-chain s ok first blocks (located-ok o given.there ok)

  module _ {start last rest : ℕ} (C : CutAt (next s) first blocks (blocks_for size) start last rest) where
    kept_in : (q : ℕ) → In q (take (blocks_for size) (chain (next s) first blocks)) → q < block_count s
    kept_in q i = chain-below (next s) (block_count s) first blocks q (located-ok o given.there ok) (in_take q (blocks_for size) (chain (next s) first blocks) i)

    pub last-inside : last < block_count s
    last-inside = ⊎_elim (λ z. omega (arith, C.before, (sound-shape s ok).low)) (λ i. rw C.before (kept_in _ i)) (last-in (take (blocks_for size) (chain (next s) first blocks)) 0)

    pub start-inside : start < block_count s
    start-inside = rw C.begins (go (take (blocks_for size) (chain (next s) first blocks)) kept_in)
      where
        go : (xs : List ℕ) → ((q : ℕ) → In q xs → q < block_count s) → get_or xs 0 0 < block_count s
        go [] f = omega (arith, (sound-shape s ok).low)
        go (x ∷ xs) f = f x (inl refl)

    rest_ok : chain_ok (next s) (block_count s) rest (blocks - blocks_for size) ≡ true
    rest_ok = C.chained (block_count s) (located-ok o given.there ok)

    pub cut-freeable : (Shape s (block_count s)) × (last < block_count s) × (chain_ok (next s) (block_count s) rest (blocks - blocks_for size) ≡ true) × (be32 s 20 ≡ occupied (next s) (block_count s))
    cut-freeable = (sound-shape s ok, last-inside, rest_ok, (sound s ok).used-is)

    pub rest-run : ChainBelow s (block_count s) rest (blocks - blocks_for size)
    rest-run = sound-chain s ok rest (blocks - blocks_for size) rest_ok

    kept-many : length (take (blocks_for size) (chain (next s) first blocks)) ≡ blocks_for size
    kept-many = length-take (blocks_for size) (chain (next s) first blocks) ∙ (let f = shorten-fewer in let l = length-chain (next s) first blocks in omega arith)

    pub start-given : start ≡ get_or (take (blocks_for size) (file_blocks s (entry_at b slot))) 0 0
    start-given = C.begins ∙ rw (o.place, located-chain o)

    module _ {tail : ℕ} (et : tail ≡ tail_length old size) where
      tail-inside : size + tail ≤ 512 * blocks_for size
      tail-inside = rw et (tail-fits old size)

      pub tail-short : size % 512 + tail ≤ 512
      tail-short = let h = tail-inside in omega arith

      pub shorten-done : (time : ℕ)
          → set_file (splice (cut_off s (block_count s) last (chain (next s) rest (blocks - blocks_for size))) (512 * last + size % 512) (zeros tail)) (entry_at b slot) start size (blocks_for size) time
          ≡ shorten_at s (entry_at b slot) size time
      unfolding shorten_at
      shorten-done time =
          rw (
            C.behind,
            C.before,
            C.begins,
            ← put-tail (take (blocks_for size) (chain (next s) first blocks)) (cut_off s (block_count s) (last_or 0 (take (blocks_for size) (chain (next s) first blocks)))
                (drop (blocks_for size) (chain (next s) first blocks))) size tail kept-many tail-inside,
          )
          (rw (o.place, ← located-chain o, ← o.bytes, kept-many, et))

      pub shorten-marked : (m : List ℕ)
          → marked (marked (marked m (b ∷ [])) (end_blocks last tail)) (chain (next s) rest (blocks - blocks_for size) ++ entries_named (changed_entries last (chain (next s) rest (blocks - blocks_for size))))
          ≡ marked m (shorten_named s (entry_at b slot) size)
      unfolding shorten_named marked
      shorten-marked m =
          rw (C.behind, C.before, written-tail (take (blocks_for size) (chain (next s) first blocks)) s size tail kept-many tail-inside)
          (sym (marked_append (written (take (blocks_for size) (chain (next s) first blocks)) size tail)
          (drop (blocks_for size) (chain (next s) first blocks) ++ entries_named (changed_entries (last_or 0 (take (blocks_for size) (chain (next s) first blocks))) (drop (blocks_for size) (chain (next s) first blocks))))
          (marked m (b ∷ []))) ∙ rw (o.place, ← located-chain o, ← o.bytes, located-block o, et))
