-- The items of a list, one after the other.
use Prim.Native.Nat.{ℕ, ◌+◌, ◌-◌, ◌≤◌, ◌<◌}
use mathlib.Core.Path.{◌≡◌, refl}
use mathlib.Core.Bool.{true, false}
use mathlib.Core.List.{List, [], ◌∷◌}
use native.Mathlib.Omega.{arith}
use borrow.Author.Tests.{le-leb, lt-leb, leb-true}
use lib.Dec.{leb}
use lib.ListN.{length}
use Rattle.layout.specs.Bytes.{be32}
use Rattle.journal.specs.Journal.{records_from}
use Rattle.journal.proofs.Laws.RecordWalk.{records-none, records-more}
use Rattle.layout.proofs.Laws.Tests.{and_split}
use Rattle.write_list.specs.List.{item_size, path_length, item_ok, items}

-- an item of the form, and ways to miss it
module _ (l : List ℕ) (at : ℕ) where
  pub record Item : Type 0 where
    pub ends : at + item_size l at ≤ length l
    pub room : 18 + path_length l at ≤ item_size l at

  pub item : item_ok l at ≡ true → Item
  unfolding item_ok
  item t = let a = and_split (leb (at + item_size l at) (length l)) _ t in record { ends = leb-true _ _ a.0; room = leb-true _ _ a.1 }

  pub item-rest : at + item_size l at ≤ length l → item_ok l at ≡ leb (18 + path_length l at) (item_size l at)
  unfolding item_ok
  item-rest h = rw (le-leb _ _ h)

  pub item-cut : length l < at + item_size l at → item_ok l at ≡ false
  unfolding item_ok
  item-cut h = rw (lt-leb _ _ h)

-- what is left of a list from an offset on tells whether all items are right, and gives the writes that are left
pub record Ahead (l : List ℕ) (at : ℕ) : Type 0 where
  pub fuel : ℕ
  pub enough : length l ≤ at + fuel
  pub inside : at ≤ length l

abbrev pub left : (l : List ℕ) {at : ℕ} → Ahead l at → List ℕ
left l {at} a = records_from (be32 l) (length l) at a.fuel

module _ (l : List ℕ) where
  pub ahead-start : 5 ≤ length l → Ahead l 5
  ahead-start h = record { fuel = length l; enough = omega arith; inside = h }

  pub left-start : (h : 5 ≤ length l) → items l ≡ left l (ahead-start h)
  unfolding items ahead-start
  left-start h = refl

  module _ {at : ℕ} (a : Ahead l at) where
    pub left_end : length l ≤ at → left l a ≡ []
    left_end h = records-none (be32 l) (length l) at a.fuel h

    module _ (h : at < length l) where
      pub ahead-next : Item l at → Ahead l (at + be32 l at)
      ahead-next i = record { fuel = a.fuel - 1; enough = omega (arith, a.enough, i.room); inside = i.ends }

      pub left-next : (i : Item l at) → left l a ≡ at ∷ left l (ahead-next i)
      unfolding ahead-next
      left-next i = records-more (be32 l) (length l) at a.fuel h (omega (arith, a.enough))

      pub left-first : left l a ≡ at ∷ records_from (be32 l) (length l) (at + be32 l at) (a.fuel - 1)
      left-first = records-more (be32 l) (length l) at a.fuel h (omega (arith, a.enough))
