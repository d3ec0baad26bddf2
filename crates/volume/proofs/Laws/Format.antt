-- Format: its image is sound. The image is built in layers, from zeros to the end slot; each layer leaves what the others wrote.
use Prim.Native.Nat.{ℕ, zero, suc, ◌+◌, ◌-◌, ◌*◌, ◌/◌, ◌%◌, ◌≤◌, ◌<◌}
use mathlib.Core.Path.{◌≡◌, refl, sym, ap, ◌∙◌}
use mathlib.Core.Bool.{true, ◌&&◌}
use mathlib.Core.List.{List, ◌∷◌, ◌++◌, []}
use mathlib.Core.Logic.{⊎_elim, ◌≢◌}
use native.Mathlib.Omega.{arith}
use borrow.Author.Tests.{eqb-true, eq-eqb, leb-true}
use lib.ListN.{length, get_or, replicate, length-append, length-replicate, get_or-replicate, get_or-append}
use lib.Seq.{ext_get_or, get_or-append-add}
use lib.Dec.{eqb, leb}
use Rattle.layout.specs.Lists.{within, interval, joined}
use Rattle.layout.specs.Bytes.{be32, bytes4, zeros, splice}
use Rattle.layout.specs.Limits.{max_blocks}
use Rattle.layout.specs.Geometry.{signature, block_count, table_blocks, root_block}
use Rattle.layout.specs.Table.{next, chain, occupied}
use Rattle.layout.specs.Directory.{slot_at, type_of, first_block, self_of, parent_of, blocks_of, padded, directory, root_of}
use Rattle.layout.specs.Check.{stage1, stage2, stage3, check}
use Rattle.volume.specs.Entries.{entry_bytes, directory_made}
use Rattle.volume.specs.Format.{format_refusal, first_entries, header_bytes, format_image}
use Rattle.volume.proofs.Laws.Entries.{entry-type, entry_first, entry-size, entry-blocks, entry_length}
use Rattle.layout.proofs.Laws.Bytes.{length-splice, length-zeros, be32-same, part_same, be32-bytes4, get_d-zeros, length-joined4, joined4-at, zeros-32, splice-first}
use Rattle.layout.proofs.Laws.Tests.{and_split, and-join, lt-or-ge, require-zero, within-split}
use Rattle.layout.proofs.Laws.Names.{same_refl}
use Rattle.layout.proofs.Laws.Frames.{Same, same_then, same-be32, same_byte, same-below, same_above, same-inside}
use Rattle.layout.proofs.Laws.Chains.{nth, nth-suc, Chain, length-chain, get_d-chain}
use Rattle.layout.proofs.Laws.Tables.{Table}
use Rattle.layout.proofs.Laws.Counts.{occupied-front}
use Rattle.layout.specs.Walks.Shapes.{Shape}
use Rattle.layout.proofs.Walks.Stages.{stage1-shape}
use Rattle.layout.proofs.Laws.Trees.{size_at, Directory}
use Rattle.layout.proofs.Laws.Sound.{held_at, own_held, Facts, Sound, check-zero}
use Rattle.layout.proofs.Laws.Empties.{Empty}
use Rattle.layout.proofs.Laws.Roots.{root-tree, root-table}
use Rattle.layout.proofs.Laws.Lists.{length-interval, get_d-interval}

abbrev ones : ℕ → List ℕ
ones k = replicate k 1

length-ones : (k : ℕ) → length (ones k) ≡ k
length-ones k = length-replicate k 1

-- the values of the first entries
module _ (n d : ℕ) (d₁ : 1 ≤ d) where
  abbrev r : ℕ
  r = root_block n

  pub entries-length : length (first_entries n d) ≡ r + d
  unfolding first_entries
  entries-length = simp (length-append, length-replicate, length-interval) (omega arith)

  pub entry-low : (b : ℕ) → b < r → get_or (first_entries n d) b 0 ≡ 1
  unfolding first_entries
  entry-low b h = get_or-append (ones r) _ 0 b (omega (arith, length-ones r)) ∙ get_or-replicate r b 1 0 h

  from-root : (i : ℕ) → get_or (first_entries n d) (r + i) 0 ≡ get_or (interval (r + 1) (d - 1) ++ (1 ∷ [])) i 0
  unfolding first_entries
  from-root i = let e : r + i ≡ length (ones r) + i = omega (arith, length-ones r) in rw e (get_or-append-add (ones r) (interval (r + 1) (d - 1) ++ (1 ∷ [])) i 0)

  pub entry-mid : (i : ℕ) → i < d - 1 → get_or (first_entries n d) (r + i) 0 ≡ r + i + 1
  entry-mid i h =
      from-root i ∙ get_or-append (interval (r + 1) (d - 1)) (1 ∷ []) 0 i (omega (arith, length-interval (r + 1) (d - 1))) ∙ get_d-interval (r + 1) (d - 1) i h ∙ omega arith

  pub entry-end : get_or (first_entries n d) (r + (d - 1)) 0 ≡ 1
  entry-end =
      from-root (d - 1) ∙ (let e : d - 1 ≡ length (interval (r + 1) (d - 1)) + 0 = omega (arith, length-interval (r + 1) (d - 1)) in
      ap (λ (i : ℕ). get_or (interval (r + 1) (d - 1) ++ (1 ∷ [])) i 0) e ∙ get_or-append-add (interval (r + 1) (d - 1)) (1 ∷ []) 0 0)

module _ (n d : ℕ) (uuid name : List ℕ) (time : ℕ) (n₁ : 3 ≤ n) (n₂ : n ≤ max_blocks) (d₁ : 1 ≤ d) (d₂ : d ≤ 64) (room : root_block n + d ≤ n)
    (uuid-16 : length uuid ≡ 16) (name-128 : length name ≡ 128)
  where
    abbrev blank : List ℕ
    blank = zeros (512 * n)

    abbrev header : List ℕ
    header = header_bytes n (root_block n + d)

    abbrev headed : List ℕ
    headed = splice blank 0 header

    abbrev titled : List ℕ
    titled = splice headed 112 (uuid ++ name)

    abbrev entries : List ℕ
    entries = joined bytes4 (first_entries n d)

    abbrev tabled : List ℕ
    tabled = splice titled 512 entries

    abbrev self : List ℕ
    self = entry_bytes 1 0 0 0 (root_block n) (root_block n) d time 0 []

    abbrev begun : List ℕ
    begun = splice tabled (512 * root_block n) self

    abbrev ds : List ℕ
    ds = interval (root_block n) d

    abbrev done : List ℕ
    done = splice begun (slot_at ds (4 * d - 1)) (0xFF ∷ [])

    slot_of : (k : ℕ) → k < 4 * d → slot_at ds k ≡ 512 * (root_block n + k / 4) + 128 * (k % 4)
    unfolding slot_at
    slot_of k h = rw (get_d-interval (root_block n) d (k / 4) (omega arith))

    format-is : format_image n d uuid name time ≡ done
    unfolding format_image directory_made
    format-is = let z : root_block n + 0 ≡ root_block n = omega arith in rw (get_d-interval (root_block n) d 0 (omega arith), length-interval (root_block n) d, z)

    -- lengths
    header-length : length header ≡ 32
    unfolding header_bytes bytes4
    header-length = refl

    fit-headed : 0 + length header ≤ length blank
    fit-headed = omega (arith, length-zeros (512 * n), header-length)

    headed-length : length headed ≡ 512 * n
    headed-length = length-splice blank 0 header fit-headed ∙ length-zeros (512 * n)

    fit-titled : 112 + length (uuid ++ name) ≤ length headed
    fit-titled = omega (arith, headed-length, length-append uuid name)

    titled-length : length titled ≡ 512 * n
    titled-length = length-splice headed 112 (uuid ++ name) fit-titled ∙ headed-length

    entries-size : length entries ≡ 4 * (root_block n + d)
    entries-size = length-joined4 (first_entries n d) ∙ ap (λ (x : ℕ). 4 * x) (entries-length n d d₁)

    fit-tabled : 512 + length entries ≤ length titled
    fit-tabled = omega (arith, titled-length, entries-size)

    tabled-length : length tabled ≡ 512 * n
    tabled-length = length-splice titled 512 entries fit-tabled ∙ titled-length

    eighty : length (padded []) ≡ 80
    eighty = length-zeros 80

    self-length : length self ≡ 128
    self-length = entry_length [] eighty 1 0 0 0 (root_block n) (root_block n) d time 0

    fit-begun : 512 * root_block n + length self ≤ length tabled
    fit-begun = omega (arith, tabled-length, self-length)

    begun-length : length begun ≡ 512 * n
    begun-length = length-splice tabled (512 * root_block n) self fit-begun ∙ tabled-length

    end-at : slot_at ds (4 * d - 1) ≡ 512 * (root_block n + (d - 1)) + 384
    end-at = omega (arith, slot_of (4 * d - 1) (omega arith))

    fit-done : slot_at ds (4 * d - 1) + 1 ≤ length begun
    fit-done = omega (arith, begun-length, end-at)

    done-length : length done ≡ 512 * n
    done-length = length-splice begun (slot_at ds (4 * d - 1)) (0xFF ∷ []) fit-done ∙ begun-length

    -- what stays from layer to layer
    from-begun : (a w : ℕ) → a + w ≤ slot_at ds (4 * d - 1) → Same begun done a w
    from-begun a w h = same-below begun (slot_at ds (4 * d - 1)) (0xFF ∷ []) fit-done a w h

    from-tabled : (a w : ℕ) → a + w ≤ 512 * root_block n → Same tabled done a w
    from-tabled a w h = same_then tabled begun done a w (same-below tabled (512 * root_block n) self fit-begun a w h) (from-begun a w (omega (arith, end-at)))

    from-headed : (a w : ℕ) → a + w ≤ 112 → Same headed done a w
    from-headed a w h =
        same_then headed titled done a w (same-below headed 112 (uuid ++ name) fit-titled a w h) (same_then titled tabled done a w (same-below titled 512 entries fit-tabled a w (omega arith)) (from-tabled a w (omega arith)))

    zero-tabled : (a w : ℕ) → 512 + length entries ≤ a → Same blank tabled a w
    zero-tabled a w h =
        same_then blank headed tabled a w (same_above blank 0 header fit-headed a w (omega (arith, header-length)))
        (same_then headed titled tabled a w (same_above headed 112 (uuid ++ name) fit-titled a w (omega (arith, length-append uuid name))) (same_above titled 512 entries fit-tabled a w h))

    -- the header
    head_at : (i w : ℕ) → i + w ≤ 32 → (j : ℕ) → j < w → get_or done (i + j) 0 ≡ get_or header (i + j) 0
    head_at i w h j g =
        let z : 0 + i + j ≡ i + j = omega arith in
        from-headed i w (omega arith) j g ∙ (rw z at (same-inside blank 0 header fit-headed i w (omega (arith, header-length)) j g))

    head-32 : (i : ℕ) → i + 4 ≤ 32 → be32 done i ≡ be32 header i
    head-32 i h = be32-same header done i i (head_at i 4 h)

    signed : stage2 done ≡ true
    unfolding stage2 header_bytes bytes4
    signed = rw (part_same header done 0 0 12 (head_at 0 12 (omega arith)) (omega (arith, header-length)) (omega (arith, done-length))) (same_refl signature)

    -- (shut, so that the numbers in it stay names)
    total : be32 done 12 ≡ n
    unfolding header_bytes be32 bytes4
    total = head-32 12 (omega arith) ∙ be32-bytes4 n (omega arith)

    tables : be32 done 16 ≡ table_blocks n
    unfolding header_bytes be32 bytes4
    tables = head-32 16 (omega arith) ∙ be32-bytes4 (table_blocks n) (omega arith)

    in-use : be32 done 20 ≡ root_block n + d
    unfolding header_bytes be32 bytes4
    in-use = head-32 20 (omega arith) ∙ be32-bytes4 (root_block n + d) (omega arith)

    not-used : be32 done 24 ≡ n - (root_block n + d)
    unfolding header_bytes be32 bytes4
    not-used = head-32 24 (omega arith) ∙ be32-bytes4 (n - (root_block n + d)) (omega arith)

    rooted : be32 done 28 ≡ root_block n
    unfolding header_bytes be32 bytes4
    rooted = head-32 28 (omega arith) ∙ be32-bytes4 (root_block n) (omega arith)

    done-count : block_count done ≡ n
    done-count = omega (arith, done-length)

    numbered : stage3 done ≡ true
    unfolding stage3
    numbered = rw done-count (and-join (eq-eqb _ _ total) (and-join (eq-eqb _ _ tables) (eq-eqb _ _ rooted)))

    -- the table
    value : (b : ℕ) → b < root_block n + d → get_or (first_entries n d) b 0 < 0x100000000 → next done b ≡ get_or (first_entries n d) b 0
    unfolding next
    value b h g =
        same-be32 tabled done (512 + 4 * b) 4 (512 + 4 * b) (from-tabled (512 + 4 * b) 4 (omega arith)) (omega arith) (omega arith)
        ∙ be32-same entries tabled (4 * b) (512 + 4 * b) (same-inside titled 512 entries fit-tabled (4 * b) 4 (omega (arith, entries-size))) ∙ joined4-at (first_entries n d) b (omega (arith, entries-length n d d₁)) g

    value_low : (b : ℕ) → b < root_block n → next done b ≡ 1
    value_low b h = let e = entry-low n d d₁ b h in value b (omega arith) (omega arith) ∙ e

    value_mid : (i : ℕ) → i < d - 1 → next done (root_block n + i) ≡ root_block n + i + 1
    value_mid i h = let e = entry-mid n d d₁ i h in value (root_block n + i) (omega arith) (omega arith) ∙ e

    value-end : next done (root_block n + (d - 1)) ≡ 1
    value-end = let e = entry-end n d d₁ in value (root_block n + (d - 1)) (omega arith) (omega arith) ∙ e

    value-zero : (b : ℕ) → root_block n + d ≤ b → b < 128 * table_blocks n → next done b ≡ 0
    unfolding next
    value-zero b h g =
        same-be32 blank done (512 + 4 * b) 4 (512 + 4 * b)
        (same_then blank tabled done (512 + 4 * b) 4 (zero-tabled (512 + 4 * b) 4 (omega (arith, entries-size))) (from-tabled (512 + 4 * b) 4 (omega arith))) (omega arith) (omega arith)
        ∙ zeros-32 (512 * n) (512 + 4 * b)

    along : (x : ℕ) → x < d → nth (next done) x (root_block n) ≡ root_block n + x
    along zero h = omega arith
    along (suc x) h = nth-suc (next done) x (root_block n) ∙ ap (next done) (along x (omega arith)) ∙ value_mid x (omega arith) ∙ omega arith

    ends : nth (next done) d (root_block n) ≡ 1
    ends =
        let e : d ≡ suc (d - 1) = omega arith in
        ap (λ (x : ℕ). nth (next done) x (root_block n)) e ∙ nth-suc (next done) (d - 1) (root_block n) ∙ ap (next done) (along (d - 1) (omega arith)) ∙ value-end

    -- the slots
    slot-first : slot_at ds 0 ≡ 512 * root_block n
    slot-first = omega (arith, slot_of 0 (omega arith))

    fits-self : 512 * root_block n + 128 ≤ length tabled
    fits-self = omega (arith, fit-begun, self-length)

    self_in : Same begun done (512 * root_block n) 128
    self_in = from-begun (512 * root_block n) 128 (omega (arith, end-at))

    self_type : type_of done (512 * root_block n) ≡ 1
    self_type =
        same_byte begun done (512 * root_block n) 128 (512 * root_block n) self_in (omega arith) (omega arith)
        ∙ entry-type [] eighty 1 0 0 0 (root_block n) (root_block n) d time 0 tabled (512 * root_block n) fits-self

    self-field : (i : ℕ) → i + 4 ≤ 128 → be32 done (512 * root_block n + i) ≡ be32 begun (512 * root_block n + i)
    self-field i h = same-be32 begun done (512 * root_block n) 128 (512 * root_block n + i) self_in (omega arith) (omega arith)

    self-block : self_of done (512 * root_block n) ≡ root_block n
    self-block = self-field 4 (omega arith) ∙ entry_first [] eighty 1 0 0 0 (root_block n) (root_block n) d time 0 tabled (512 * root_block n) fits-self ∙ be32-bytes4 (root_block n) (omega arith)

    self-parent : parent_of done (512 * root_block n) ≡ root_block n
    self-parent = self-field 8 (omega arith) ∙ entry-size [] eighty 1 0 0 0 (root_block n) (root_block n) d time 0 tabled (512 * root_block n) fits-self ∙ be32-bytes4 (root_block n) (omega arith)

    self-blocks : blocks_of done (512 * root_block n) ≡ d
    self-blocks = self-field 12 (omega arith) ∙ entry-blocks [] eighty 1 0 0 0 (root_block n) (root_block n) d time 0 tabled (512 * root_block n) fits-self ∙ be32-bytes4 d (omega arith)

    free-type : (k : ℕ) → 1 ≤ k → k < 4 * d - 1 → type_of done (slot_at ds k) ≡ 0
    free-type k h g =
        let e = slot_of k (omega arith) in
        same_byte blank done (slot_at ds k) 1 (slot_at ds k)
        (same_then blank tabled done (slot_at ds k) 1 (zero-tabled (slot_at ds k) 1 (omega (arith, entries-size)))
        (same_then tabled begun done (slot_at ds k) 1 (same_above tabled (512 * root_block n) self fit-begun (slot_at ds k) 1 (omega (arith, self-length))) (from-begun (slot_at ds k) 1 (omega (arith, end-at)))))
        (omega arith) (omega arith)
        ∙ get_d-zeros (512 * n) (slot_at ds k)

    end-type : type_of done (slot_at ds (4 * d - 1)) ≡ 255
    end-type = splice-first begun (slot_at ds (4 * d - 1)) (0xFF ∷ []) fit-done (omega arith)

    root-first : first_block done (512 * root_block n) ≡ root_block n
    root-first = self-block

    root-held : held_at done (512 * root_block n) ≡ d
    root-held = own_held done (512 * root_block n) (omega arith) ∙ (rw self_type self-blocks)

    table : Table n (λ a. a ≡ 512 * root_block n) (next done) (first_block done) (held_at done)
    table =
        record {
          right = λ k q. rw (q, root-first, root-held) right;
          apart = λ j k hj hk ne x y a b. absurd (ne (hj ∙ sym hk));
          low = λ b h. value_low b (omega arith);
          high = λ b h a ne. ⊎_elim
              (λ p. (512 * root_block n, b - root_block n, refl, omega (arith, root-held), sym (ap (nth (next done) (b - root_block n)) root-first ∙ along (b - root_block n) (omega arith) ∙ omega arith)))
              (λ p. absurd (ne (value-zero b p a))) (lt-or-ge b (root_block n + d));
        }
      where
        right : Chain (next done) n (root_block n) d
        right =
            record {
              above = λ x g. omega (arith, along x g);
              below = λ x g. omega (arith, along x g);
              last = λ g. ends;
            }

    counted : occupied (next done) n ≡ root_block n + d
    counted = occupied-front (next done) n (root_block n + d) room nonzero (λ b h g. value-zero b h (omega arith))
      where
        nonzero : (b : ℕ) → b < root_block n + d → next done b ≢ 0
        nonzero b h e = ⊎_elim
            (λ p. omega (arith, value_low b p))
            (λ p.
            let i : ℕ = b - root_block n in
            let q : root_block n + i ≡ b = omega arith in
            ⊎_elim (λ g. omega (arith, value_mid i g, ap (next done) q)) (λ g. let o : root_block n + (d - 1) ≡ b = omega arith in omega (arith, value-end, ap (next done) o)) (lt-or-ge i (d - 1)))
            (lt-or-ge b (root_block n))

    done-size : size_at done (root_block n) ≡ d
    done-size = self-blocks

    done-root : directory done (root_block n) ≡ ds
    unfolding directory
    done-root =
        rw done-size
        (ext_get_or 0 (chain (next done) (root_block n) d) ds (length-chain (next done) (root_block n) d ∙ sym (length-interval (root_block n) d))
        λ i h. let g : i < d = omega (arith, length-chain (next done) (root_block n) d) in get_d-chain (next done) (root_block n) d i g ∙ along i g ∙ sym (get_d-interval (root_block n) d i g))

    right-root : Directory done n (root_block n) (root_block n)
    right-root =
        record {
          self_type = self_type;
          self-block = self-block;
          self-parent = self-parent;
          d-least = rw done-size d₁;
          d-most = rw done-size d₂;
          chained = rw done-size (rw (root-first, root-held) at (table.right (512 * root_block n) refl));
        }

    bare : Empty done (root_block n)
    bare =
        record {
          least = rw done-size d₁;
          self_type = self_type;
          end-type = rw (done-root, done-size) end-type;
          free = rw (done-root, done-size) free-type;
        }

    root-at : root_of done ≡ root_block n
    root-at = ap root_block done-count

    facts : Facts done n
    facts =
        record {
          whole = done-length;
          least = n₁;
          most = n₂;
          signed = signed;
          numbered = numbered;
          tree = root-tree done n (root_block n) root-at right-root bare n₁;
          table = root-table done n (root_block n) root-at right-root bare n₁ table;
          used-is = in-use ∙ sym counted;
          free-is = not-used ∙ ap (λ (x : ℕ). n - x) (sym counted);
        }

    formatted-sound : Sound (format_image n d uuid name time)
    formatted-sound = rw format-is (rw done-count facts)

-- what an accepted format has
pub record FormatGiven (s : List ℕ) (d : ℕ) (name : List ℕ) : Type 0 where
  pub shape : Shape s (block_count s)
  pub some : 1 ≤ d
  pub few : d ≤ 64
  pub label : length name ≡ 128
  pub room : root_block (block_count s) + d ≤ block_count s

pub format-given : (s : List ℕ) (d : ℕ) (name : List ℕ) → format_refusal s d name ≡ 0 → FormatGiven s d name
unfolding format_refusal
format-given s d name r =
    let a = require-zero (stage1 s) 0 _ r in
    let c = require-zero (within 1 64 d && eqb (length name) 128) 8 _ a.1 in
    let e = and_split (within 1 64 d) (eqb (length name) 128) c.0 in
    let f = within-split 1 64 d e.0 in
    let g = require-zero (leb (root_block (block_count s) + d) (block_count s)) 13 _ c.1 in
    record { shape = stage1-shape s (sym a.0); some = f.0; few = f.1; label = eqb-true _ _ e.1; room = leb-true _ _ g.0 }

pub sound-format : (s : List ℕ) (d : ℕ) (uuid name : List ℕ) (time : ℕ) → length uuid ≡ 16 → format_refusal s d name ≡ 0
    → check (format_image (block_count s) d uuid name time) ≡ 0
sound-format s d uuid name time u r =
    let g = format-given s d name r in
    check-zero _ (formatted-sound (block_count s) d uuid name time g.shape.low g.shape.high g.some g.few g.room u g.label)
