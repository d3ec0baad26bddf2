-- What a change leaves that writes to the block of one entry e, to some blocks bs and to their table entries: every file whose blocks are not among bs.
use Prim.Native.Nat.{ℕ, ◌+◌, ◌*◌, ◌/◌, ◌≤◌, ◌<◌}
use mathlib.Core.Path.{◌≡◌, refl, ◌∙◌}
use mathlib.Core.Bool.{true}
use mathlib.Core.List.{List, ◌∷◌, [], ◌++◌}
use mathlib.Core.Logic.{inl, inr, ⊎_elim, ◌≢◌}
use native.Mathlib.Omega.{arith}
use lib.ListN.{length, length-append}
use Rattle.layout.specs.Bytes.{bytes4, bytes8, block, splice}
use Rattle.layout.specs.Geometry.{block_count, table_blocks}
use Rattle.layout.specs.Table.{next}
use Rattle.layout.specs.Directory.{type_of, first_block, size_of, blocks_of, is_file, dirs}
use Rattle.volume.specs.Entries.{blocks_named}
use Rattle.volume.specs.Write.{set_file}
use Rattle.volume.proofs.Laws.Frame.{blocks-below, blocks-not}
use Rattle.layout.proofs.Laws.Bytes.{length-bytes4, length-bytes8}
use Rattle.layout.proofs.Laws.Lists.{In, in-single}
use Rattle.layout.proofs.Laws.Frames.{Agree, agree_then, agree-block, splice-agree}
use Rattle.layout.proofs.Laws.Sound.{Sound, Entry, Owner}
use Rattle.layout.proofs.Laws.Files.{Slot, entry-slot}
use Rattle.layout.proofs.Laws.Owners.{blocks_at, file-blocks, file-no-self, block-high, block-below, block-outside}
use Rattle.layout.proofs.Laws.Others.{SameFile, same-file}

-- the frame of a change: its named blocks, all of the image
pub record Bounded (s s' ns : List ℕ) : Type 0 where
  pub agree : Agree s s' ns
  pub inside : (b : ℕ) → In b ns → b < block_count s

module _ (s : List ℕ) (S : Sound s) (e : ℕ) (E : Entry s e) where
  abbrev n : ℕ
  n = block_count s

  -- bytes of the entry
  pub slot-agree : (t : List ℕ) (at : ℕ) (p : List ℕ) → length t ≡ 512 * n → e ≤ at → at + length p ≤ e + 128 → Agree t (splice t at p) (e / 512 ∷ [])
  slot-agree t at p len low high =
      let b : Slot s e = entry-slot s S e E in
      splice-agree t (e / 512) at p (omega (arith, b.inside, b.aligned)) (omega arith) (omega (arith, b.aligned))

  pub file-agree : (t : List ℕ) (first size blocks time : ℕ) → length t ≡ 512 * n → Agree t (set_file t e first size blocks time) (e / 512 ∷ [])
  unfolding set_file
  file-agree t first size blocks time len =
      let p : List ℕ = bytes4 first ++ (bytes4 size ++ bytes4 blocks) in
      let lp : length p ≡ 12 = simp (length-append, length-bytes4) in
      let lt : length (bytes8 time) ≡ 8 = length-bytes8 time in
      let a = slot-agree t (e + 4) p len (omega arith) (omega arith) in
      agree_then a (slot-agree (splice t (e + 4) p) (e + 24) (bytes8 time) (a.size ∙ len) (omega arith) (omega arith)) (λ x i. i) (λ x i. i)

  -- a change that writes to blocks bs and what they name, then to the entry
  pub entry-bounded : (t bs : List ℕ) → Agree s t (blocks_named bs) → ((q : ℕ) → In q bs → q < n) → (at : ℕ) (p : List ℕ) → e ≤ at → at + length p ≤ e + 128
      → Bounded s (splice t at p) (e / 512 ∷ blocks_named bs)
  entry-bounded t bs within below at p low high =
      record {
        agree = agree_then within (slot-agree t at p (within.size ∙ S.whole) low high) (λ x i. inr i) (in-single (e / 512) (e / 512 ∷ blocks_named bs) (inl refl));
        inside = λ b i. ⊎_elim (λ q. rw q (entry-slot s S e E).inside) (blocks-below n bs below S.least b) i;
      }

  module _ (bs s' : List ℕ) (framed : Agree s s' (e / 512 ∷ blocks_named bs)) (below : (q : ℕ) → In q bs → q < n)
      (values : (y : ℕ) → y < 128 * table_blocks n → (In y bs → ⊥) → next s' y ≡ next s y)
    where
      -- an owner that is no self entry, and whose blocks are not among bs
      module _ (a : ℕ) (A : Owner s a) (no_self : (d : ℕ × ℕ) → In d (dirs s) → a ≢ 512 * d.0) (apart : (q : ℕ) → In q (blocks_at s a) → In q bs → ⊥) where
        pub value-kept : (q : ℕ) → In q (blocks_at s a) → next s' q ≡ next s q
        value-kept q i = values q (omega (arith, block-below s S a A q i)) (apart q i)

        outside : (q : ℕ) → In q (blocks_at s a) → In q (e / 512 ∷ blocks_named bs) → ⊥
        outside q i (inl z) = block-outside s S a A no_self q i (rw z E.within-tree)
        outside q i (inr m) = blocks-not n bs below q (block-high s S a A q i) (apart q i) m

        pub block-kept : (q : ℕ) → In q (blocks_at s a) → block s' q ≡ block s q
        block-kept q i = agree-block q framed (outside q i)

      -- a file
      module _ (c : ℕ) (C : Entry s c) (file : is_file (type_of s c) ≡ true) (type : type_of s' c ≡ type_of s c) where
        pub file-kept : first_block s' c ≡ first_block s c → blocks_of s' c ≡ blocks_of s c → size_of s' c ≡ size_of s c → ((q : ℕ) → In q (blocks_at s c) → In q bs → ⊥) → SameFile s s' c
        file-kept p q r apart =
            same-file s s' c C.aligned file type p q r
            (λ x i. value-kept c (inl C) (file-no-self s S c C file) apart x (rw (file-blocks s S c C file) i))
            (λ x i. block-kept c (inl C) (file-no-self s S c C file) apart x (rw (file-blocks s S c C file) i))
