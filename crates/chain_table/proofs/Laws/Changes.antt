-- A change of the table made in the bytes and in the numbers: the numbers stay those of the image. All rest on one entry set in both.
use Prim.Native.Nat.{ℕ, zero, suc, ◌+◌, ◌*◌, ◌≤◌, ◌<◌}
use mathlib.Core.List.{List, [], ◌∷◌}
use mathlib.Core.Logic.{inl, inr}
use mathlib.Core.Path.{◌≡◌, refl, sym, ◌∙◌}
use native.Mathlib.Decide.{ℕ_discrete}
use native.Mathlib.Omega.{arith}
use lib.ListN.{length, set, length-set}
use lib.Seq.{get_or-set_same, get_or-set_other}
use Rattle.layout.specs.Bytes.{zeros, splice}
use Rattle.layout.specs.Geometry.{table_blocks, root_block}
use Rattle.layout.specs.Table.{next, set_next}
use Rattle.volume.specs.Entries.{set_occupied, linked, taken, grown, freed, released}
use Rattle.layout.proofs.Laws.Bytes.{length-zeros}
use Rattle.layout.proofs.Laws.Lists.{In}
use Rattle.layout.proofs.Laws.Frames.{same-below, before-next, set-next-length, set-next-at, set-next-other}
use Rattle.volume.proofs.Laws.Table.{set-occupied-next, linked-length, cleared-length, taken-length, freed-size}
use Rattle.chain_table.specs.Numbers.{value_in, Held, linked_in, taken_in, grown_in, freed_in, released_in}

-- bytes that leave the entries below n
pub held-still : {s s' xs : List ℕ} {n : ℕ} → Held s xs n → ((b : ℕ) → b < n → next s' b ≡ next s b) → Held s' xs n
held-still h f = record { size = h.size; same = λ b l. h.same b l ∙ sym (f b l) }

module _ {s xs : List ℕ} {n : ℕ} (held : Held s xs n) (fits : 512 + 4 * n ≤ length s) where
  pub held-set : (b x : ℕ) → b < n → x < 0x100000000 → Held (set_next s b x) (set xs b x) n
  held-set b x h small = record { size = length-set xs b x ∙ held.size; same = λ c l. go c l (ℕ_discrete c b) }
    where
      go : (c : ℕ) → c < n → Dec (c ≡ b) → value_in (set xs b x) c ≡ next (set_next s b x) c
      go c l (yes e) = rw e (get_or-set_same xs b x 0 (omega (arith, held.size)) ∙ sym (set-next-at s b x (omega arith) small))
      go c l (no ne) = get_or-set_other xs b c x 0 ne ∙ held.same c l ∙ sym (set-next-other s b x (omega arith) c ne)

  pub held_link : (last b : ℕ) → last < n → b < 0x100000000 → Held (linked s last b) (linked_in xs last b) n
  unfolding linked linked_in
  held_link zero b h small = held
  held_link (suc last) b h small = held-set (suc last) b h small

  held-counts : (u : ℕ) → Held (set_occupied s n u) xs n
  held-counts u = held-still held (λ b h. set-occupied-next s n u (omega arith) b)

-- a block that is taken or freed is zeroed, lies above the table, and its entry is set
module _ {s xs : List ℕ} {n : ℕ} (b : ℕ) (held : Held s xs n) (whole : length s ≡ 512 * n) (low : 3 ≤ n) (t : table_blocks n < b) (h : b < n) where
  abbrev z : List ℕ
  z = splice s (512 * b) (zeros 512)

  size : (x : ℕ) → length (set_next z b x) ≡ 512 * n
  size x = let k : length z ≡ 512 * n = cleared-length n low s b b whole h h in set-next-length z b x (omega arith) ∙ k

  ended : (x : ℕ) → x < 0x100000000 → Held (set_next z b x) (set xs b x) n
  ended x small =
      let k : length z ≡ 512 * n = cleared-length n low s b b whole h h in
      let zeroed : Held z xs n = held-still held (λ c g. before-next s z n (same-below s (512 * b) (zeros 512) (omega (arith, length-zeros 512)) 0 (512 * root_block n) (omega arith)) c (omega arith)) in
      held-set zeroed (omega arith) b x h small

  pub held-free : Held (freed s n b) (freed_in xs b) n
  unfolding freed freed_in
  held-free = held-counts (ended 0 (omega arith)) (omega (arith, size 0)) _

  pub held-take : (last : ℕ) → last < n → b < 0x100000000 → Held (taken s n last b) (taken_in xs last b) n
  unfolding taken taken_in
  held-take last l small =
      let i = size 1 in
      held-counts (held_link (ended 1 (omega arith)) (omega arith) last b l small) (omega (arith, linked-length (set_next z b 1) b last (omega arith))) _

-- the blocks of a list, one after the other
module _ {n : ℕ} (low : 3 ≤ n) where
  pub held-release : (bs : List ℕ) {s xs : List ℕ} → Held s xs n → length s ≡ 512 * n → ((b : ℕ) → In b bs → (table_blocks n < b) × (b < n))
      → Held (released s n bs) (released_in xs bs) n
  unfolding released released_in
  held-release [] held whole inside = held
  held-release (b ∷ bs) {s} held whole inside =
      let i = inside b (inl refl) in
      held-release bs (held-free b held whole low i.0 i.1) (freed-size n low s b whole i.1 i.0 ∙ whole) (λ x h. inside x (inr h))

  pub held-grow : n ≤ 0x100000000 → (bs : List ℕ) {s xs : List ℕ} → Held s xs n → length s ≡ 512 * n → (last : ℕ) → last < n
      → ((b : ℕ) → In b bs → (table_blocks n < b) × (b < n)) → Held (grown s n last bs) (grown_in xs last bs) n
  unfolding grown grown_in
  held-grow small [] held whole last l inside = held
  held-grow small (b ∷ bs) {s} held whole last l inside =
      let i = inside b (inl refl) in
      held-grow small bs (held-take b held whole low i.0 i.1 last l (omega arith)) (taken-length n low s last b whole l i.1) b i.1 (λ x h. inside x (inr h))
