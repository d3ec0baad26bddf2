-- The names of a directory's slots: by stage 5, compared by a fingerprint of each; in a search, by the last bytes of the name.
use Rattle.std.specs.Prelude.{ℕ, zero, suc, ◌+◌, ◌-◌, ◌*◌, ◌%◌, ◌≤◌, ◌<◌, Bool, true, not, cond, ◌&&◌, ◌||◌, List, ◌≡◌, length, get_or, eqb, ltb}
use Rattle.layout.specs.Limits.{max_slots}
use Rattle.layout.specs.Lists.{interval, every, same}
use Rattle.layout.specs.Bytes.{part}
use Rattle.layout.specs.Directory.{slot_at, type_of, is_free, name_of}
use Rattle.layout.specs.Check.{slot_ok, new_name}
use Rattle.layout.specs.Walks.Chains.{le32}
use Rattle.layout.specs.Walks.Slots.{entry_at}

-- the k words from word i on, each by its weight, added to a
unfoldable pub sums : List ℕ → ℕ → ℕ → ℕ → ℕ
sums f i zero a = a
sums f i (suc k) a = sums f (i + 1) k (a + (1048576 + i) * le32 f (4 * i))

-- the fingerprint of a field of 80 bytes: what tells most names apart without comparing their bytes
unfoldable pub fingerprint : List ℕ → ℕ
fingerprint f = sums f 0 20 0

-- the entry at x is free or has another name than the one at e; so do the j slots from i on
unfoldable pub other_name : List ℕ → ℕ → ℕ → Bool
other_name s e x = is_free (type_of s x) || not (same (name_of s x) (name_of s e))

unfoldable pub other_names : List ℕ → List ℕ → ℕ → ℕ → ℕ → Bool
other_names s ds e i j = every (λ k. other_name s e (slot_at ds k)) (interval i j)

-- the first of the j slots from k on that is not right or not new, or the one after them
unfoldable pub bad_from : List ℕ → List ℕ → ℕ → ℕ → ℕ
bad_from s ds k zero = k
bad_from s ds k (suc j) = cond (slot_ok s (slot_at ds k) && new_name s ds k) (bad_from s ds (k + 1) j) k

-- slot k of the directory ds is in block b
pub record SlotIn (s ds : List ℕ) (b k : ℕ) : Type 0 where
  pub low : 1 ≤ k
  pub high : k < max_slots
  pub inside : 512 * b + 512 ≤ length s
  pub place : entry_at b k ≡ slot_at ds k

-- a right entry that is not free
pub record Used (s : List ℕ) (e : ℕ) : Type 0 where
  pub right : slot_ok s e ≡ true
  pub used : type_of s e ≡ 0 → ⊥

-- the slots 1 to k − 1 of a directory are right; `places` has the block of each, `prints` the fingerprint of each that is not free. At k = 1 both may
-- hold anything
pub record Noted (s ds prints places : List ℕ) (k : ℕ) : Type 0 where
  pub prints-room : length prints ≡ max_slots
  pub places-room : length places ≡ max_slots
  pub right : (i : ℕ) → 1 ≤ i → i < k → slot_ok s (slot_at ds i) ≡ true
  pub place : (i : ℕ) → 1 ≤ i → i < k → SlotIn s ds (get_or places i 0) i
  pub print : (i : ℕ) → 1 ≤ i → i < k → (type_of s (slot_at ds i) ≡ 0 → ⊥) → get_or prints i 0 ≡ fingerprint (part s (slot_at ds i + 48) 80)

-- the places of the filter, and where a fingerprint is marked in it
abbrev pub filter_size : ℕ
filter_size = 4093

abbrev pub filter_place : List ℕ → ℕ → ℕ
filter_place s e = fingerprint (part s (e + 48) 80) % filter_size

-- `seen` has the directory's mark for each of the slots 1 to k − 1 that is not free. More such marks do no harm, so that at k = 1 it may hold anything
pub record Filtered (s ds seen : List ℕ) (mark k : ℕ) : Type 0 where
  pub room : length seen ≡ filter_size
  pub each : (i : ℕ) → 1 ≤ i → i < k → (type_of s (slot_at ds i) ≡ 0 → ⊥) → get_or seen (filter_place s (slot_at ds i)) 0 ≡ mark

-- the room that a directory's slots are noted in
pub record NoteRoom (prints places seen : List ℕ) : Type 0 where
  pub prints-room : length prints ≡ max_slots
  pub places-room : length places ≡ max_slots
  pub seen-room : length seen ≡ filter_size

-- r is the first index from `from` on at which p stands, or `end`
pub record Nearest (ps : List ℕ) (p from end r : ℕ) : Type 0 where
  pub low : from ≤ r
  pub high : r ≤ end
  pub before : (i : ℕ) → from ≤ i → i < r → get_or ps i 0 ≡ p → ⊥
  pub here : r < end → get_or ps r 0 ≡ p

-- the last four bytes of a name as a number, 0 for a shorter one
unfoldable pub ending : List ℕ → ℕ
ending name = cond (ltb (length name) 4) 0 (le32 name (length name - 4))

-- one of the four entries of a block has w at `at`
unfoldable pub some_has : List ℕ → ℕ → ℕ → Bool
some_has s at w = eqb (le32 s at) w || (eqb (le32 s (at + 128)) w || (eqb (le32 s (at + 256)) w || eqb (le32 s (at + 384)) w))

-- one of the four entries of a block may have the name: its ending stands in the name's field, or it is too short to have one
unfoldable pub may_hold : List ℕ → List ℕ → Bool
may_hold s name = ltb (length name) 4 || some_has s (44 + length name) (ending name)
