-- The loops over a directory's slots: the way from slot to slot, and the clauses of what each loop gives.
use Prim.Native.Nat.{ℕ, suc, ◌+◌, ◌-◌, ◌*◌, ◌/◌, ◌%◌, ◌≤◌, ◌<◌}
use mathlib.Core.Bool.{Bool, true, false, cond, and-false}
use mathlib.Core.List.{List}
use mathlib.Core.Logic.{◌≢◌}
use mathlib.Core.Path.{◌≡◌, refl, sym, ap, ◌∙◌}
use native.Mathlib.Omega.{arith}
use lib.Dec.{eqb}
use lib.ListN.{length, get_or}
use borrow.Author.Tests.{eqb-false, eqb-true, eq-eqb, ne_eqb}
use Rattle.layout.specs.Lists.{interval, same, lowest}
use Rattle.layout.specs.Bytes.{be32, part, block}
use Rattle.layout.specs.Table.{next, chain}
use Rattle.layout.specs.Directory.{slot_at, type_of, blocks_of, good_name, slot_of, free_slot}
use Rattle.layout.specs.Walks.Chains.{walked, follow}
use Rattle.layout.specs.Walks.Entries.{self_ok}
use Rattle.layout.specs.Walks.Names.{may_hold}
use Rattle.layout.specs.Walks.Shapes.{Blocks}
use Rattle.layout.specs.Walks.Slots.{Place, entry_at, slot_block, entry_named, slot_free, slot_from, slot_in, all_free, Stands}
use Rattle.layout.specs.Walks.Stages.{follow_directory}
use Rattle.layout.proofs.Laws.Chains.{chain_next}
use Rattle.layout.proofs.Laws.Entries.{named-in-part}
use Rattle.layout.proofs.Laws.Lists.{interval-next, lowest-met, lowest-none, lowest-skip, lowest-first, select-same}
use Rattle.layout.proofs.Laws.Tests.{is_false}
use Rattle.layout.proofs.Walks.Names.{may_hold-none}

pub place-below : (n : ℕ) (ds : List ℕ) (d b k j : ℕ) → Blocks n d ds → Place ds d b k j → b < n
place-below n ds d b k j bs p = rw p.here (bs.below (k / 4) (omega arith))

pub entry-slot : (ds : List ℕ) (b k : ℕ) → b ≡ get_or ds (k / 4) 0 → entry_at b k ≡ slot_at ds k
unfolding slot_at
entry-slot ds b k e = rw e

pub place-entry : (ds : List ℕ) (d b k j : ℕ) → Place ds d b k j → entry_at b k ≡ slot_at ds k
place-entry ds d b k j p = entry-slot ds b k p.here

-- m slots on, within the block or to the first of the next one
pub place-on : (v : ℕ → ℕ) (f d b k j m r : ℕ) → Place (chain v f d) d b k j → 0 < m → m ≤ j → k % 4 + m ≤ 4 → r ≡ slot_block v b (k + m)
    → Place (chain v f d) d r (k + m) (j - m)
unfolding slot_block
place-on v f d b k j m r p h g one w = rw w (go (eqb ((k + m) % 4) 0) refl)
  where
    go : (t : Bool) → eqb ((k + m) % 4) 0 ≡ t → Place (chain v f d) d (cond (eqb ((k + m) % 4) 0) (v b) b) (k + m) (j - m)
    go true e =
        let z : (k + m) % 4 ≡ 0 = eqb-true _ _ e in
        let q : (k + m) / 4 ≡ suc (k / 4) = omega arith in
        rw e (record { here = rw (q, p.here) (sym (chain_next v f d (k / 4) (omega (arith, p.left)))); left = omega (arith, p.left) })
    go false e =
        let z : (k + m) % 4 ≡ 0 → ⊥ = eqb-false _ _ e in
        let q : (k + m) / 4 ≡ k / 4 = omega arith in
        rw e (record { here = rw q p.here; left = omega (arith, p.left) })

pub place-then : (v : ℕ → ℕ) (f d b k j r : ℕ) → Place (chain v f d) d b k j → 0 < j → r ≡ slot_block v b (k + 1) → Place (chain v f d) d r (k + 1) (j - 1)
place-then v f d b k j r p h e = place-on v f d b k j 1 r p (omega arith) h (omega arith) e

pub place-first : (v : ℕ → ℕ) (f d : ℕ) → 1 ≤ d → Place (chain v f d) d f 1 (4 * d - 2)
unfolding chain
place-first v f d h =
    let e : d ≡ suc (d - 1) = omega arith in
    record { here = ap (λ (x : ℕ). get_or (chain v f x) 0 0) (sym e); left = omega arith }

-- a directory's self entry and chain
module _ (s : List ℕ) (n b parent : ℕ) (m : List ℕ) where
  pub follow_directory-refused : false ≡ self_ok s (512 * b) b parent → follow_directory s n b parent m ≡ walked false m
  unfolding follow_directory
  follow_directory-refused h = rw (← h)

  pub follow_directory-chain : true ≡ self_ok s (512 * b) b parent → (d : ℕ) → d ≡ be32 s (entry_at b 0 + 12)
      → follow_directory s n b parent m ≡ follow (next s) n d b m
  unfolding follow_directory
  follow_directory-chain h d e =
      let z : d ≡ blocks_of s (512 * b) = e ∙ ap (λ (j : ℕ). be32 s j) (omega arith) in
      rw (← h, ← z)

-- the slots from k on are free
module _ (s ds : List ℕ) (k j e type : ℕ) (at : e ≡ slot_at ds k) (et : type ≡ type_of s e) where
  pub all_free-next : 0 < j → type ≡ 0 → all_free s ds k j ≡ all_free s ds (k + 1) (j - 1)
  unfolding all_free
  all_free-next h z = rw (interval-next k j h, ← at, ← et, eq-eqb type 0 z)

  pub all_free-stop : 0 < j → (type ≡ 0 → ⊥) → all_free s ds k j ≡ false
  unfolding all_free
  all_free-stop h z = rw (interval-next k j h, ← at, ← et, ne_eqb type 0 z)

pub all_free-end : (s ds : List ℕ) (k j : ℕ) → j ≡ 0 → all_free s ds k j ≡ true
unfolding all_free
all_free-end s ds k j e = rw e

-- the search for a slot whose entry passes a test
module _ (test : ℕ → Bool) (ds : List ℕ) (k j : ℕ) where
  pub slot_from-end : j ≡ 0 → slot_from test ds k j ≡ 0
  unfolding slot_from
  slot_from-end e = rw e

  pub slot_from-here : (e : ℕ) → e ≡ slot_at ds k → 0 < j → true ≡ test e → slot_from test ds k j ≡ k
  unfolding slot_from
  slot_from-here e q h t = rw (interval-next k j h, ← q, ← t)

  pub slot_from-next : (e : ℕ) → e ≡ slot_at ds k → 0 < j → false ≡ test e → slot_from test ds k j ≡ slot_from test ds (k + 1) (j - 1)
  unfolding slot_from
  slot_from-next e q h t = rw (interval-next k j h, ← q, ← t)

-- the search in one block: of the j slots from k on, which are in block b, none passes, or the lowest that does is given
module _ (test : ℕ → Bool) (ds : List ℕ) (d b k left j : ℕ) (p : Place ds d b k left) (one : k % 4 + j ≤ 4) (h : j ≤ left) (low : 1 ≤ k) where
  place-within : (x : ℕ) → k ≤ x → x < k + j → Place ds d b x (left - (x - k))
  place-within x g l = let q : x / 4 ≡ k / 4 = omega arith in record { here = rw q p.here; left = omega (arith, p.left) }

  entry-within : (x : ℕ) → k ≤ x → x < k + j → test (slot_at ds x) ≡ test (entry_at b x)
  entry-within x g l = ap test (sym (place-entry ds d b x (left - (x - k)) (place-within x g l)))

  slot_in-same : lowest (λ x. test (slot_at ds x)) (interval k j) ≡ slot_in test b k j
  slot_in-same = ap (λ (l : List ℕ). get_or l 0 0) (select-same (λ x. test (entry_at b x)) (λ x. test (slot_at ds x)) j k entry-within)

  pub slot_from-skip : slot_in test b k j ≡ 0 → slot_from test ds k left ≡ slot_from test ds (k + j) (left - j)
  unfolding slot_from
  slot_from-skip z =
      lowest-skip (λ x. test (slot_at ds x)) j k left h
      (λ i g l. is_false _ (λ t. lowest-none (λ x. test (slot_at ds x)) k j low (slot_in-same ∙ z) i g l t))

  pub slot_from-in : slot_in test b k j ≢ 0 → (slot_from test ds k left ≡ slot_in test b k j) × Place ds d b (slot_in test b k j) (left - (slot_in test b k j - k)) × (1 ≤ slot_in test b k j)
  unfolding slot_from
  slot_from-in ne =
      let m = lowest-met (λ x. test (entry_at b x)) k j ne in (
        lowest-first (λ x. test (slot_at ds x)) j k left h (λ z. ne (sym slot_in-same ∙ z)) ∙ slot_in-same,
        place-within (slot_in test b k j) m.0 m.1,
        omega (arith, m.0),
      )

pub slot_of-from : (type : ℕ → Bool) (s ds name : List ℕ) (d : ℕ) → length ds ≡ d → slot_of type s ds name ≡ slot_from (entry_named type s name) ds 1 (4 * d - 2)
unfolding slot_of slot_from
slot_of-from type s ds name d size = rw size

pub free_slot-from : (s ds : List ℕ) (d : ℕ) → length ds ≡ d → free_slot s ds ≡ slot_from (slot_free s) ds 1 (4 * d - 2)
unfolding free_slot slot_from
free_slot-from s ds d size = rw size

module _ (s : List ℕ) (e type : ℕ) (et : type ≡ type_of s e) where
  pub type-free : type ≡ 0 → true ≡ slot_free s e
  type-free z = rw (← et, eq-eqb type 0 z)

  pub type-used : (type ≡ 0 → ⊥) → false ≡ slot_free s e
  type-used z = rw (← et, ne_eqb type 0 z)

pub stands_here : (ds : List ℕ) (n d x b k j : ℕ) → Blocks n d ds → Place ds d b k j → 1 ≤ k → x ≡ k → Stands ds n x k b
stands_here ds n d x b k j bs p h e =
    record { slot = sym e; low = omega arith; block = λ z. (place-below n ds d b k j bs p, place-entry ds d b k j p); none = λ z. absurd (omega arith) }

-- the slot r that a search in one block gives
pub stands-in : (test : ℕ → Bool) (ds : List ℕ) (n d x b k left j r : ℕ) → Blocks n d ds → Place ds d b k left → k % 4 + j ≤ 4 → j ≤ left → 1 ≤ k
    → r ≡ slot_in test b k j → r ≢ 0 → x ≡ slot_from test ds k left → Stands ds n x r b
stands-in test ds n d x b k left j r bs p one h low e ne q =
    let m = slot_from-in test ds d b k left j p one h low (λ z. ne (e ∙ z)) in
    rw e (stands_here ds n d x b (slot_in test b k j) _ bs m.1 m.2 (q ∙ m.0))

-- where a block cannot hold a name, none of its entries has it
pub none-in-block : (type : ℕ → Bool) (s name : List ℕ) (b x : ℕ) → 512 * b + 512 ≤ length s → good_name name ≡ true → false ≡ may_hold (block s b) name
    → entry_named type s name (entry_at b x) ≡ false
none-in-block type s name b x h good m =
    let o : ℕ = 128 * (x % 4) in
    sym (named-in-part s (512 * b) 512 o h (omega arith) type (λ y. same y name)) ∙ rw (may_hold-none (part s (512 * b) 512) name (x % 4) good m (omega arith), and-false)

pub stands-none : (ds : List ℕ) (n x : ℕ) → x ≡ 0 → Stands ds n x 0 0
stands-none ds n x e = record { slot = sym e; low = omega arith; block = λ z. absurd (z refl); none = λ z. refl }
