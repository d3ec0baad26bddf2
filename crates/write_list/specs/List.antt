-- A list of writes in one call (FORMAT.md, 15): "version byte 1, 4-byte length of all, then the items". "An item is one write: its length (4, counting itself),
-- time (8), offset (4), path length (2), path, data."
use Rattle.std.specs.Prelude.{ℕ, suc, ◌+◌, ◌-◌, ◌*◌, List, [], ◌∷◌, map, Bool, ◌&&◌, length, get_or, eqb, leb}
use Rattle.layout.specs.Lists.{within, every}
use Rattle.layout.specs.Refusals.{require, first_of, accept}
use Rattle.layout.specs.Bytes.{be32, be64, part}
use Rattle.layout.specs.Geometry.{block_count}
use Rattle.layout.specs.Check.{check}
use Rattle.store.specs.Change.{Change, write}
use Rattle.journal.specs.Journal.{records_from, well_formed}
use Rattle.journal.specs.Run.{State, change_refusal, after_change}

-- "a list of at most 65,536 bytes"
abbrev pub max_list : ℕ
max_list = 65536

-- Of the item at an offset: its length, that of its path, its path and its data.
abbrev pub item_size : List ℕ → ℕ → ℕ
item_size l at = be32 l at

unfoldable pub path_length : List ℕ → ℕ → ℕ
path_length l at = get_or l (at + 16) 0 * 256 + get_or l (at + 17) 0

unfoldable pub path_at : List ℕ → ℕ → List ℕ
path_at l at = part l (at + 18) (path_length l at)

unfoldable pub data_at : List ℕ → ℕ → List ℕ
data_at l at = part l (at + 18 + path_length l at) (item_size l at - (18 + path_length l at))

abbrev pub write_at : List ℕ → ℕ → Change
write_at l at = write (path_at l at) (be32 l (at + 12)) (data_at l at) (be64 l (at + 4))

-- "Lengths must fill list and items exactly": an item ends within the list and has room for its path, its data are the rest of it, and the next one
-- begins where it ends; the length of all is that of the bytes handed over.
unfoldable pub item_ok : List ℕ → ℕ → Bool
item_ok l at = leb (at + item_size l at) (length l) && leb (18 + path_length l at) (item_size l at)

unfoldable pub items : List ℕ → List ℕ
items l = records_from (be32 l) (length l) 5 (length l)

unfoldable pub list_ok : List ℕ → Bool
list_ok l = within 5 max_list (length l) && (eqb (get_or l 0 0) 1 && (eqb (be32 l 1) (length l) && every (item_ok l) (items l)))

unfoldable pub writes : List ℕ → List Change
writes l = map (write_at l) (items l)

-- What changes made one by one leave, until the first refusal: image and journal, the number that stopped them, or 0, and how many were done.
pub record Listed : Type 0 where
  pub state : State
  pub number : ℕ
  pub done : ℕ

abbrev pub listed : State → ℕ → ℕ → Listed
listed p number done = record { state = p; number = number; done = done }

unfoldable pub one_by_one : State → ℕ → List Change → Listed
one_by_one p done [] = listed p 0 done
one_by_one p done (c ∷ cs) = accept (change_refusal p c) (one_by_one (after_change p c) (suc done) cs) (listed p (change_refusal p c) done)

-- 1 to 8; "19 for a list not of this form, weighed after 8 and before any item is done"
unfoldable pub list_refusal : State → List ℕ → ℕ
list_refusal p l =
    first_of (check p.image)
    (require (well_formed p.journal (block_count p.image)) 8
    (require (list_ok l) 19 0))

-- "The outcome is that of the calls made one by one until the first refusal; earlier ones stand, .. and the answer says how many were done and the refusal
-- that stopped it."
unfoldable pub write_list : State → List ℕ → Listed
write_list p l = accept (list_refusal p l) (one_by_one p 0 (writes l)) (listed p (list_refusal p l) 0)
