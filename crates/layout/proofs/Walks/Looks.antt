-- What looking up, opening and reading a file give.
use Prim.Native.Nat.{ℕ, ◌+◌, ◌-◌, ◌*◌, ◌/◌, ◌≤◌, ◌<◌, min}
use mathlib.Core.Bool.{Bool, true, false}
use mathlib.Core.List.{List, ◌++◌}
use mathlib.Core.Path.{◌≡◌, refl, sym, ap, ◌∙◌}
use native.Mathlib.Omega.{arith}
use lib.Dec.{leb}
use lib.ListN.{length, get_or, take, drop, length-drop, length-take}
use borrow.Author.Tests.{eq-eqb, le-leb, leb-true, lt-leb, ne_eqb}
use Rattle.layout.specs.Limits.{max_blocks, max_levels}
use Rattle.layout.specs.declared.refusal.Refusal.{Refusal}
use Rattle.layout.specs.Reasons.{number_of}
use Rattle.layout.specs.Refusals.{require}
use Rattle.layout.specs.Bytes.{be32, part, splice}
use Rattle.layout.specs.Limits.{max_blocks}
use Rattle.layout.specs.Geometry.{block_count, blocks_for}
use Rattle.layout.specs.Table.{next, chain, chain_ok}
use Rattle.layout.specs.Directory.{slot_at, first_block, size_of, blocks_of, attribute_block_of, attribute_size_of, is_file, is_directory, directory, file_blocks, content, attribute_blocks, attributes}
use Rattle.layout.specs.Check.{check}
use Rattle.layout.specs.Paths.{parts, path_ok, leading, shallow, home, entry_of, file_refusal, directory_refusal}
use Rattle.layout.specs.Looks.{lookup_refusal, lookup, read_refusal, read, extent_of, read_attributes}
use Rattle.layout.specs.Walks.Looks.{form_refusal, whole_refusal, found_refusal, Located, NoFile, Opens}
use Rattle.layout.specs.Walks.Paths.{good_parts, PathGiven, Spotted}
use Rattle.layout.specs.Walks.Shapes.{ChainBelow}
use Rattle.layout.specs.Walks.Slots.{entry_at}
use Rattle.layout.proofs.Laws.Bytes.{part-part, lent}
use Rattle.layout.proofs.Laws.Chains.{chain_ok-split}
use Rattle.layout.proofs.Laws.Counts.{chain-most}
use Rattle.layout.proofs.Laws.Looks.{path-file, lookup-sound, lookup-path, lookup-file, extent-refused, extent-past, extent-found}
use Rattle.layout.proofs.Laws.Reasons.{reason}
use Rattle.layout.proofs.Laws.Tests.{first_of-refused, accept-refused, require-zero}
use Rattle.layout.proofs.Walks.Content.{chain_bytes, length-chain_bytes, below-nth}
use Rattle.layout.proofs.Walks.Homes.{some-parts}
use Rattle.layout.proofs.Walks.Paths.{length-leading}
use Rattle.layout.proofs.Walks.Shapes.{sound-chain}

-- the refusals of a path by itself
module _ (path : List ℕ) (r : ℕ) (e : r ≡ good_parts path) where
  count-good : (t : Bool) → path_ok path ≡ t → (r ≡ 0 → ⊥) → (path_ok path ≡ true) × (r ≡ length (parts path))
  unfolding good_parts
  count-good true q h = (q, e ∙ rw q)
  count-good false q h = absurd (h (e ∙ rw q))

  count-bad : (t : Bool) → path_ok path ≡ t → r ≡ 0 → path_ok path ≡ false
  unfolding good_parts
  count-bad true q h = let z : length (parts path) ≡ 0 = sym (e ∙ rw q) ∙ h in absurd (omega (arith, some-parts path q))
  count-bad false q h = q

  pub form-bad : r ≡ 0 → 9 ≡ form_refusal path
  unfolding form_refusal
  form-bad h = rw (count-bad (path_ok path) refl h)

  module _ (h : r ≡ 0 → ⊥) where
    levels : length (leading (parts path)) + 1 ≡ r
    levels = let g = count-good (path_ok path) refl h in length-leading (parts path) (omega (arith, some-parts path g.0)) ∙ sym g.1

    pub form-deep : max_levels < r - 1 → 17 ≡ form_refusal path
    unfolding form_refusal shallow
    form-deep l = rw ((count-good (path_ok path) refl h).0, lt-leb (length (leading (parts path))) max_levels (omega (arith, levels)))

    pub form-fine : r - 1 ≤ max_levels → 0 ≡ form_refusal path
    unfolding form_refusal shallow
    form-fine l = rw ((count-good (path_ok path) refl h).0, le-leb (length (leading (parts path))) max_levels (omega (arith, levels)))

  module _ (h : r ≡ 0 → ⊥) where
    pub whole-deep : max_levels < r → 17 ≡ whole_refusal path
    unfolding whole_refusal shallow
    whole-deep l =
        let g = count-good (path_ok path) refl h in
        rw (g.0, lt-leb (length (parts path)) max_levels (omega (arith, g.1)))

    pub whole-fine : r ≤ max_levels → 0 ≡ whole_refusal path
    unfolding whole_refusal shallow
    whole-fine l =
        let g = count-good (path_ok path) refl h in
        rw (g.0, le-leb (length (parts path)) max_levels (omega (arith, g.1)))

  pub whole-bad : r ≡ 0 → 9 ≡ whole_refusal path
  unfolding whole_refusal
  whole-bad h = rw (count-bad (path_ok path) refl h)

-- opening an entry, in the order in which the code takes its tests
module _ (type : ℕ → Bool) (s path : List ℕ) where
  pub opens-refused : {refusal number slot b first size blocks : ℕ} → number ≡ refusal → (number ≡ 0 → ⊥) → NoFile slot b first size blocks
      → Opens type s path refusal number slot b first size blocks
  opens-refused e h z = record { number_is = e; file = λ q. absurd (h q); none = λ q. z }

  pub opens-why : {refusal : ℕ} (why : Refusal) → number_of why ≡ refusal → Opens type s path refusal (number_of why) 0 0 0 0 0
  opens-why why e = opens-refused e (reason why) (record { no_slot = refl; no_block = refl; no-first = refl; no_size = refl; no_blocks = refl })

  pub opens_as : {refusal refusal' number slot b first size blocks : ℕ} → refusal ≡ refusal' → Opens type s path refusal number slot b first size blocks
      → Opens type s path refusal' number slot b first size blocks
  opens_as e o = record { number_is = o.number_is ∙ e; file = o.file; none = o.none }

  module _ {h k b : ℕ} (sp : Spotted type s path h k b) where
    pub path-none : k ≡ 0 → 10 ≡ found_refusal type s path
    unfolding found_refusal
    path-none z = rw (← sp.stands.slot, eq-eqb k 0 z)

    pub opens-found : (k ≡ 0 → ⊥) → {first size blocks : ℕ} → first ≡ be32 s (entry_at b k + 4) → size ≡ be32 s (entry_at b k + 8)
        → blocks ≡ be32 s (entry_at b k + 12) → Opens type s path (found_refusal type s path) 0 k b first size blocks
    unfolding found_refusal entry_of
    opens-found z p q t =
        let st = sp.stands in
        let here : entry_at b k ≡ entry_of type s path = (st.block z).1 ∙ ap (slot_at (directory s (home s path))) st.slot in
        record {
          number_is = rw (← st.slot, ne_eqb k 0 z);
          file =
              λ w. record {
                found = st.slot;
                low = st.low;
                inside = (st.block z).0;
                place = here;
                start = p ∙ ap (λ (e : ℕ). first_block s e) here;
                bytes = q ∙ ap (λ (e : ℕ). size_of s e) here;
                count = t ∙ ap (λ (e : ℕ). blocks_of s e) here;
              };
          none = λ w. absurd (w refl);
        }

-- a path's form and what is found
module _ (s path : List ℕ) where
  refused-first : (a b : Bool) (rest : ℕ) → (require a 9 (require b 17 0) ≡ 0 → ⊥) → require a 9 (require b 17 0) ≡ require a 9 (require b 17 rest)
  refused-first true true rest z = absurd (z refl)
  refused-first true false rest z = refl
  refused-first false b rest z = refl

  pub form-refused : (r : ℕ) → r ≡ form_refusal path → (r ≡ 0 → ⊥) → r ≡ file_refusal s path
  unfolding form_refusal file_refusal
  form-refused r e h = e ∙ refused-first (path_ok path) (shallow (leading (parts path))) _ (λ z. h (e ∙ z))

  pub whole-refused : (r : ℕ) → r ≡ whole_refusal path → (r ≡ 0 → ⊥) → r ≡ directory_refusal s path
  unfolding whole_refusal directory_refusal
  whole-refused r e h = e ∙ refused-first (path_ok path) (shallow (parts path)) _ (λ z. h (e ∙ z))

  pub form-given : check s ≡ 0 → 0 ≡ form_refusal path → PathGiven s path
  unfolding form_refusal
  form-given ok e =
      let a = require-zero (path_ok path) 8 _ (sym e) in
      record { sound = ok; good = a.0; few = (require-zero (shallow (leading (parts path))) 16 0 a.1).0 }

  whole-facts : 0 ≡ whole_refusal path → (path_ok path ≡ true) × (shallow (parts path) ≡ true)
  unfolding whole_refusal
  whole-facts e =
      let a = require-zero (path_ok path) 8 _ (sym e) in
      (a.0, (require-zero (shallow (parts path)) 16 0 a.1).0)

  pub whole-given : check s ≡ 0 → 0 ≡ whole_refusal path → PathGiven s path
  unfolding shallow
  whole-given ok e =
      let a = whole-facts e in
      let l = length-leading (parts path) (omega (arith, some-parts path a.0)) in
      let h = leb-true (length (parts path)) max_levels a.1 in
      record { sound = ok; good = a.0; few = le-leb (length (leading (parts path))) max_levels (omega arith) }

  pub file-found : 0 ≡ form_refusal path → found_refusal is_file s path ≡ file_refusal s path
  unfolding form_refusal found_refusal file_refusal
  file-found e =
      let a = require-zero (path_ok path) 8 _ (sym e) in
      rw (a.0, (require-zero (shallow (leading (parts path))) 16 0 a.1).0)

  pub directory-found : 0 ≡ whole_refusal path → found_refusal is_directory s path ≡ directory_refusal s path
  unfolding found_refusal directory_refusal
  directory-found e = let a = whole-facts e in rw (a.0, a.1)

  pub lookup_refusal-check : (r : ℕ) → r ≡ check s → (r ≡ 0 → ⊥) → r ≡ lookup_refusal s path
  unfolding lookup_refusal
  lookup_refusal-check r e h = rw (← e) (sym (first_of-refused r (file_refusal s path) h))

  pub lookup_refusal-sound : check s ≡ 0 → file_refusal s path ≡ lookup_refusal s path
  unfolding lookup_refusal
  lookup_refusal-sound e = rw e

  pub opens-checked : check s ≡ 0 → {number slot b first size blocks : ℕ} → Opens is_file s path (file_refusal s path) number slot b first size blocks
      → Opens is_file s path (lookup_refusal s path) number slot b first size blocks
  unfolding lookup_refusal
  opens-checked e o = record { number_is = rw e o.number_is; file = o.file; none = o.none }

-- the file of an accepted path on a sound image, by the numbers found
module _ {s path : List ℕ} {slot b first size blocks : ℕ} (l : Located is_file s path slot b first size blocks) where
  pub located-block : entry_of is_file s path / 512 ≡ b
  located-block = rw (← l.place) (omega arith)

  pub located-chain : chain (next s) first blocks ≡ file_blocks s (entry_of is_file s path)
  unfolding file_blocks
  located-chain = rw (l.start, l.count)

  module _ (r : file_refusal s path ≡ 0) (ok : check s ≡ 0) where
    pub located-ok : chain_ok (next s) (block_count s) first blocks ≡ true
    located-ok = rw (l.start, l.count) (path-file s path r ok).chained

    pub located-below : ChainBelow s (block_count s) first blocks
    located-below = sound-chain s ok first blocks located-ok

  -- and its attributes' chain
  module _ {f k : ℕ} (e : (f ≡ attribute_block_of s (entry_at b slot)) × (k ≡ attribute_size_of s (entry_at b slot))) where
    attributes-first : f ≡ attribute_block_of s (entry_of is_file s path)
    attributes-first = e.0 ∙ ap (λ (a : ℕ). attribute_block_of s a) l.place

    pub attributes-blocks : k ≡ attribute_size_of s (entry_of is_file s path)
    attributes-blocks = e.1 ∙ ap (λ (a : ℕ). attribute_size_of s a) l.place

    pub attributes-chain : chain (next s) f k ≡ attribute_blocks s (entry_of is_file s path)
    unfolding attribute_blocks
    attributes-chain = rw (attributes-first, attributes-blocks)

    module _ (r : file_refusal s path ≡ 0) (ok : check s ≡ 0) where
      pub attributes-ok : chain_ok (next s) (block_count s) f k ≡ true
      attributes-ok = rw (attributes-first, attributes-blocks) (path-file s path r ok).second

      pub attributes-below : ChainBelow s (block_count s) f k
      attributes-below = sound-chain s ok f k attributes-ok

-- the buffer after the part of it that was lent is filled from a chain
lent-chain : (s : List ℕ) (n first blocks : ℕ) → ChainBelow s n first blocks → (offset : ℕ) (buffer : List ℕ) (count k : ℕ) (ys : List ℕ) → offset + count ≤ 512 * blocks
    → count ≤ length buffer → k ≡ count → ys ≡ take (length (take k buffer)) (drop offset (chain_bytes s first blocks))
    → ys ++ drop k buffer ≡ splice buffer 0 (take count (drop offset (chain_bytes s first blocks)))
lent-chain s n first blocks r offset buffer count k ys h g ek ey =
    let l = length-chain_bytes s n first blocks r.shape.whole (below-nth s n first blocks r) in
    let lk : length (take k buffer) ≡ count = simp length-take (omega arith) in
    let f : List ℕ = take count (drop offset (chain_bytes s first blocks)) in
    let lf : length f ≡ k = simp (length-take, length-drop) (omega arith) in
    lent buffer 0 k ys f (ey ∙ ap (λ (j : ℕ). take j (drop offset (chain_bytes s first blocks))) lk) lf

-- a file that was opened
module _ {s path : List ℕ} {number slot b first size blocks : ℕ} (o : Opens is_file s path (lookup_refusal s path) number slot b first size blocks) where
  pub lookup-refused : (number ≡ 0 → ⊥) → record { number = number; slot = 0; size = 0; blocks = 0 } ≡ lookup s path
  unfolding lookup
  lookup-refused h =
      sym (accept-refused (lookup_refusal s path) _ _ (λ q. h (o.number_is ∙ q)) ∙ rw (← o.number_is))

  pub opened-extent-refused : (i : ℕ) → (number ≡ 0 → ⊥) → extent_of s path i ≡ record { start = 0; size = 0 }
  opened-extent-refused i h = extent-refused s path i (λ q. h (o.number_is ∙ q))

  pub read-refused : (offset : ℕ) (buffer : List ℕ) → (number ≡ 0 → ⊥) → read s path offset buffer ≡ record { number = number; count = 0; buffer = buffer }
  unfolding read read_refusal
  read-refused offset buffer h = rw (← o.number_is, first_of-refused number (require (leb offset (size_of s (entry_of is_file s path))) 12 0) h) (accept-refused number _ _ h)

  pub attributes-refused : (buffer : List ℕ) → (number ≡ 0 → ⊥) → read_attributes s path buffer ≡ record { number = number; count = 0; buffer = buffer }
  unfolding read_attributes
  attributes-refused buffer h = rw (← o.number_is) (accept-refused number _ _ h)

  module _ (z : number ≡ 0) where
    accepted : lookup_refusal s path ≡ 0
    accepted = sym o.number_is ∙ z

    loc : Located is_file s path slot b first size blocks
    loc = o.file z

    pub lookup-opened : record { number = 0; slot = slot; size = size; blocks = blocks } ≡ lookup s path
    unfolding lookup
    lookup-opened = rw (accepted, loc.found, loc.bytes, loc.count)

    pub opened-blocks : blocks ≡ (size + 511) / 512
    opened-blocks = loc.count ∙ (lookup-file s path accepted).blocks ∙ ap blocks_for (sym loc.bytes)

    pub opened-chain : ChainBelow s (block_count s) first blocks
    opened-chain = located-below loc (lookup-path s path accepted) (lookup-sound s path accepted)

    pub opened-small : (blocks ≤ max_blocks) × (size ≤ 512 * max_blocks)
    opened-small =
        let c = chain_ok-split (next s) (block_count s) first blocks (located-ok loc (lookup-path s path accepted) (lookup-sound s path accepted)) in
        let r = opened-chain.shape in
        let m = chain-most (next s) (block_count s) first blocks c r.low in
        let q = opened-blocks in
        (omega (arith, m, r.high), omega (arith, m, q, r.high))

    pub opened-extent-past : (i : ℕ) → blocks ≤ i → extent_of s path i ≡ record { start = 0; size = 0 }
    opened-extent-past i h = extent-past s path i (rw (← loc.count) h)

    pub opened-extent : (i b k : ℕ) → i < blocks → b ≡ get_or (chain (next s) first blocks) i 0 → k ≡ min 512 (size - 512 * i)
        → extent_of s path i ≡ record { start = 512 * b; size = k }
    unfolding file_blocks
    opened-extent i b k l eb ek = extent-found s path i accepted (rw (← loc.count) l) ∙ rw (← loc.start, ← loc.count, ← loc.bytes, eb, ek)

    pub read_past : (offset : ℕ) (buffer : List ℕ) → size < offset → read s path offset buffer ≡ record { number = 12; count = 0; buffer = buffer }
    unfolding read read_refusal
    read_past offset buffer h = rw (accepted, ← loc.bytes, lt-leb offset size h)

    content-is : content s (entry_of is_file s path) ≡ take size (chain_bytes s first blocks)
    unfolding content file_blocks
    content-is = rw (← loc.bytes, ← loc.start, ← loc.count)

    pub read_done : (offset : ℕ) (buffer : List ℕ) (count : ℕ) → offset ≤ size → count ≡ min (length buffer) (size - offset)
        → read s path offset buffer ≡ record { number = 0; count = count; buffer = splice buffer 0 (take count (drop offset (chain_bytes s first blocks))) }
    unfolding read read_refusal
    read_done offset buffer count h e =
        let r = opened-chain in
        let q = opened-blocks in
        let l = length-chain_bytes s (block_count s) first blocks r.shape.whole (below-nth s (block_count s) first blocks r) in
        let zz : 0 + offset ≡ offset = omega arith in
        let c : part (take size (chain_bytes s first blocks)) offset count ≡ part (chain_bytes s first blocks) offset count =
        part-part (chain_bytes s first blocks) 0 size offset count (omega arith) (omega arith) ∙ ap (λ (j : ℕ). part (chain_bytes s first blocks) j count) zz in
        rw (accepted, ← loc.bytes, le-leb offset size h, ← e, content-is, c)

    -- the buffer after the part that was lent is filled
    pub read-fills : (offset : ℕ) (buffer : List ℕ) (count k : ℕ) (ys : List ℕ) → offset ≤ size → count ≡ min (length buffer) (size - offset) → k ≡ count
        → ys ≡ take (length (take k buffer)) (drop offset (chain_bytes s first blocks))
        → record { number = 0; count = count; buffer = ys ++ drop k buffer } ≡ read s path offset buffer
    read-fills offset buffer count k ys h e ek ey =
        let q = opened-blocks in
        ap (λ (x : List ℕ). record { number = 0; count = count; buffer = x })
        (lent-chain s (block_count s) first blocks opened-chain offset buffer count k ys (omega arith) (omega arith) ek ey)
        ∙ sym (read_done offset buffer count h e)

    pub read-room : (offset : ℕ) (buffer : List ℕ) (count k : ℕ) → offset ≤ size → count ≡ min (length buffer) (size - offset) → k ≡ count
        → offset + length (take k buffer) ≤ 512 * blocks
    read-room offset buffer count k h e ek =
        let q = opened-blocks in
        simp length-take (omega arith)

    -- and its attributes, by the numbers of their chain
    module _ {f k : ℕ} (e : (f ≡ attribute_block_of s (entry_at b slot)) × (k ≡ attribute_size_of s (entry_at b slot))) where
      pub opened-attributes : ChainBelow s (block_count s) f k
      opened-attributes = attributes-below loc e (lookup-path s path accepted) (lookup-sound s path accepted)

      pub attributes-fill : (buffer : List ℕ) (count j : ℕ) (ys : List ℕ) → count ≡ 512 * min k (length buffer / 512) → j ≡ count
          → ys ≡ take (length (take j buffer)) (drop 0 (chain_bytes s f k)) → record { number = 0; count = count; buffer = ys ++ drop j buffer } ≡ read_attributes s path buffer
      unfolding read_attributes attributes
      attributes-fill buffer count j ys ec ej ey =
          ap (λ (x : List ℕ). record { number = 0; count = count; buffer = x })
          (lent-chain s (block_count s) f k opened-attributes 0 buffer count j ys (omega arith) (omega arith) ej ey)
          ∙ rw (accepted, ← attributes-blocks loc e, ← attributes-chain loc e, ← ec)

      pub attributes-room : (buffer : List ℕ) (count j : ℕ) → count ≡ 512 * min k (length buffer / 512) → j ≡ count → 0 + length (take j buffer) ≤ 512 * k
      attributes-room buffer count j ec ej = simp length-take (omega arith)
