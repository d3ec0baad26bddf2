-- Fingerprints of names: the loops that take and compare them, that different fingerprints mean different names, what is noted of the slots, and the
-- first slot that stage 5 refuses.
use Prim.Native.Nat.{ℕ, zero, suc, ◌+◌, ◌-◌, ◌*◌, ◌/◌, ◌≤◌, ◌<◌, ◌%◌}
use mathlib.Core.Bool.{Bool, true, false, not, ◌&&◌, ◌||◌, cond, false≢true}
use mathlib.Core.List.{List}
use mathlib.Core.Path.{◌≡◌, refl, sym, ap, ◌∙◌}
use mathlib.Core.Logic.{⊎_elim}
use native.Mathlib.Decide.{ℕ_discrete}
use native.Mathlib.Nat.{add-zero, sub-zero, le_trans, mul-le-mul_left, mul-le-mul_right}
use native.Mathlib.Omega.{arith}
use lib.ListN.{length, get_or, set, length-set}
use lib.Seq.{get_or-set_same, get_or-set_other}
use borrow.Author.Tests.{eq-eqb, ne_eqb}
use Rattle.layout.specs.Lists.{same}
use Rattle.layout.specs.Limits.{max_slots}
use Rattle.layout.specs.Bytes.{part}
use Rattle.layout.specs.Table.{next, chain}
use Rattle.layout.specs.Directory.{slot_at, type_of, is_free, good_name, padded, name_of, name_ok}
use Rattle.layout.specs.Check.{slot_ok, file_ok, directory_entry_ok, new_name}
use Rattle.layout.specs.Walks.Chains.{le32}
use Rattle.layout.specs.Walks.Shapes.{DirectoryAt}
use Rattle.layout.specs.Walks.Slots.{Place, entry_at}
use Rattle.layout.specs.Walks.Names.{sums, fingerprint, other_name, other_names, bad_from, filter_size, filter_place, SlotIn, Used, Noted, Filtered, Nearest}
use Rattle.layout.proofs.Laws.Bytes.{length_part, part-in-block}
use Rattle.layout.proofs.Laws.Lists.{interval-next}
use Rattle.layout.proofs.Laws.Names.{same-eq, same_refl}
use Rattle.layout.proofs.Laws.Sound.{slot_ok-split}
use Rattle.layout.proofs.Laws.Tests.{below_more, and_split, true-not-false}
use Rattle.layout.proofs.Walks.Slots.{place-below, place-entry}

-- the sum of a field
module _ (f : List ℕ) (i k a : ℕ) where
  pub sums-end : k ≡ 0 → sums f i k a ≡ a
  unfolding sums
  sums-end e = rw e

  pub sums_next : 0 < k → (w : ℕ) → w ≡ le32 f (4 * i) → sums f i k a ≡ sums f (i + 1) (k - 1) (a + (1048576 + i) * w)
  unfolding sums
  sums_next h w ew =
      let e : k ≡ suc (k - 1) = omega arith in
      ap (λ (j : ℕ). sums f i j a) e ∙ rw ew

pub fingerprint-start : (f : List ℕ) → fingerprint f ≡ sums f 0 20 0
unfolding fingerprint
fingerprint-start f = refl

-- a word by its weight
pub weighed : (i w : ℕ) → i ≤ 20 → w ≤ 4294967295 → (1048576 + i) * w ≤ 4503685525667820
weighed i w h g = le_trans (mul-le-mul_right w (omega arith)) (le_trans (mul-le-mul_left 1048596 g) (omega arith))

-- the slot that a loop is at
pub slot-in : (s : List ℕ) (n first d b k j : ℕ) → DirectoryAt s n first d → Place (chain (next s) first d) d b k j → 1 ≤ k → 0 < j
    → SlotIn s (chain (next s) first d) b k
slot-in s n first d b k j at p h g =
    let l = place-below n (chain (next s) first d) d b k j at.blocks p in
    let w = at.shape.whole in
    record { low = h; high = omega (arith, p.left, at.blocks.few); inside = omega arith; place = place-entry (chain (next s) first d) d b k j p }

-- the block of a slot lies in the image
pub slot-inside : (s : List ℕ) (n first d b k : ℕ) → DirectoryAt s n first d → k < 4 * d → b ≡ get_or (chain (next s) first d) (k / 4) 0
    → 512 * b + 512 ≤ length s
slot-inside s n first d b k at h e =
    let l = at.blocks.below (k / 4) (omega arith) in
    let w = at.shape.whole in
    omega arith

-- a name's field, in its block; it is 80 bytes
pub field-in-block : (s : List ℕ) (b k x : ℕ) → 512 * b + 512 ≤ length s → x ≡ 512
    → part (part s (512 * b) x) (128 * (k % 4) + 48) 80 ≡ part s (entry_at b k + 48) 80
field-in-block s b k x h e =
    let o : 512 * b + (128 * (k % 4) + 48) ≡ entry_at b k + 48 = omega arith in
    part-in-block s b x (128 * (k % 4) + 48) 80 h e (omega arith) ∙ ap (λ (j : ℕ). part s j 80) o

pub field-long : (s : List ℕ) (b k : ℕ) (f : List ℕ) → f ≡ part s (entry_at b k + 48) 80 → 512 * b + 512 ≤ length s → length f ≡ 80
field-long s b k f e h = ap length e ∙ length_part s (entry_at b k + 48) 80 (omega arith)

-- the field of a right entry is its name and zeros
field-good : (s : List ℕ) (e : ℕ) → slot_ok s e ≡ true → (type_of s e ≡ 0 → ⊥) → name_ok s e ≡ true
unfolding file_ok directory_entry_ok
field-good s e ok used =
    ⊎_elim (λ free. absurd (used free))
    (λ f. ⊎_elim (λ g. (and_split (name_ok s e) _ g.1).0) (λ g. (and_split (name_ok s e) _ g.1).0) f) (slot_ok-split s e ok)

field-padded : (s : List ℕ) (e : ℕ) → slot_ok s e ≡ true → (type_of s e ≡ 0 → ⊥) → part s (e + 48) 80 ≡ padded (name_of s e)
unfolding name_ok
field-padded s e ok used = same-eq _ _ (and_split (good_name (name_of s e)) (same (part s (e + 48) 80) (padded (name_of s e))) (field-good s e ok used)).1

-- right names are equal exactly if their fields are
same-fields : (s : List ℕ) (e e' : ℕ) → slot_ok s e ≡ true → (type_of s e ≡ 0 → ⊥) → slot_ok s e' ≡ true → (type_of s e' ≡ 0 → ⊥)
    → same (name_of s e') (name_of s e) ≡ true → part s (e' + 48) 80 ≡ part s (e + 48) 80
same-fields s e e' ok used ok' used' t =
    field-padded s e' ok' used' ∙ ap padded {x = name_of s e'} {y = name_of s e} (same-eq _ _ t) ∙ sym (field-padded s e ok used)

module _ (s : List ℕ) (e x : ℕ) (mine : Used s e) (ok : slot_ok s x ≡ true) where
  pub names-free : type_of s x ≡ 0 → false ≡ not (other_name s e x)
  unfolding other_name
  names-free h = rw (eq-eqb _ 0 h)

  pub names-compared : (type_of s x ≡ 0 → ⊥) → same (part s (x + 48) 80) (part s (e + 48) 80) ≡ not (other_name s e x)
  unfolding other_name name_of
  names-compared used = go (same (name_of s x) (name_of s e)) refl (same (part s (x + 48) 80) (part s (e + 48) 80)) refl
    where
      go : (t : Bool) → same (name_of s x) (name_of s e) ≡ t → (u : Bool) → same (part s (x + 48) 80) (part s (e + 48) 80) ≡ u
          → same (part s (x + 48) 80) (part s (e + 48) 80) ≡ not (is_free (type_of s x) || not (same (name_of s x) (name_of s e)))
      go true a u b = rw (ne_eqb (type_of s x) 0 used, a, same-fields s e x mine.right mine.used ok used a) (same_refl (part s (e + 48) 80))
      go false a true b =
          absurd (false≢true (sym a ∙ rw (same-eq (part s (x + 48) 80) (part s (e + 48) 80) b) (same_refl (name_of s e))))
      go false a false b = rw (ne_eqb (type_of s x) 0 used, a, b)

  -- different fingerprints, different names
  pub fingerprints-apart : ((type_of s x ≡ 0 → ⊥) → fingerprint (part s (x + 48) 80) ≡ fingerprint (part s (e + 48) 80) → ⊥) → other_name s e x ≡ true
  unfolding other_name
  fingerprints-apart differ = go (is_free (type_of s x)) refl
    where
      other : (t : Bool) → same (name_of s x) (name_of s e) ≡ t → (type_of s x ≡ 0 → ⊥) → not t ≡ true
      other true q used = absurd (differ used (ap fingerprint (same-fields s e x mine.right mine.used ok used q)))
      other false q used = refl

      go : (t : Bool) → is_free (type_of s x) ≡ t → (t || not (same (name_of s x) (name_of s e))) ≡ true
      go true f = refl
      go false f = other (same (name_of s x) (name_of s e)) refl (λ z. true-not-false (eq-eqb _ 0 z) f)

-- the answer of a test that is asked the other way
pub said-no : (b : Bool) → false ≡ not b → b ≡ true
said-no true e = refl
said-no false e = absurd (false≢true e)

pub said-yes : (b : Bool) → true ≡ not b → b ≡ false
said-yes true e = absurd (false≢true (sym e))
said-yes false e = refl

-- slots of another name are passed over
module _ (s ds : List ℕ) (e : ℕ) where
  pub others-end : (i j : ℕ) → j ≡ 0 → other_names s ds e i j ≡ true
  unfolding other_names
  others-end i j h = rw h

  module _ (i j x : ℕ) (at : x ≡ slot_at ds i) (h : 0 < j) where
    pub others-next : other_name s e x ≡ true → other_names s ds e i j ≡ other_names s ds e (i + 1) (j - 1)
    unfolding other_names
    others-next t = rw (interval-next i j h, ← at, t)

    pub others-stop : other_name s e x ≡ false → other_names s ds e i j ≡ false
    unfolding other_names
    others-stop t = rw (interval-next i j h, ← at, t)

  others-skip : (m i j : ℕ) → m ≤ j → ((x : ℕ) → i ≤ x → x < i + m → other_name s e (slot_at ds x) ≡ true) → other_names s ds e i j ≡ other_names s ds e (i + m) (j - m)
  others-skip zero i j h f = rw (add-zero i, sub-zero j)
  others-skip (suc m) i j h f =
      let step = others-next i j (slot_at ds i) refl (omega arith) (f i (omega arith) (omega arith)) in
      let rest = others-skip m (i + 1) (j - 1) (omega arith) (λ x l g. f x (omega arith) (omega arith)) in
      let p : i + 1 + m ≡ i + suc m = omega arith in
      let q : j - 1 - m ≡ j - suc m = omega arith in
      step ∙ rest ∙ rw (p, q)

-- the slots before k that have not the fingerprint of the entry at e
module _ (s ds ps pl : List ℕ) (k : ℕ) (noted : Noted s ds ps pl k) (e : ℕ) (mine : Used s e) where
  -- from one slot to the next that has it
  pub others-nearest : (p x r : ℕ) → p ≡ fingerprint (part s (e + 48) 80) → 1 ≤ x → x ≤ k → Nearest ps p x k r
      → other_names s ds e x (k - x) ≡ other_names s ds e r (k - r)
  others-nearest p x r ep h g near =
      let a : x + (r - x) ≡ r = omega (arith, near.low) in
      let b : k - x - (r - x) ≡ k - r = omega (arith, near.low, near.high) in
      others-skip s ds e (r - x) x (k - x) (omega (arith, near.low, near.high)) (λ y l u.
      fingerprints-apart s e (slot_at ds y) mine (noted.right y (omega arith) (omega (arith, near.high)))
      (λ used z. near.before y l (omega arith) (noted.print y (omega arith) (omega (arith, near.high)) used ∙ z ∙ sym ep)))
      ∙ rw (a, b)

  -- no mark, no such slot
  pub others-unmarked : (seen : List ℕ) (mark p : ℕ) → Filtered s ds seen mark k → 1 ≤ k → p ≡ fingerprint (part s (e + 48) 80) → (get_or seen (p % filter_size) 0 ≡ mark → ⊥)
      → other_names s ds e 1 (k - 1) ≡ true
  others-unmarked seen mark p marks h ep none =
      others-skip s ds e (k - 1) 1 (k - 1) (omega arith) (λ y l u.
      fingerprints-apart s e (slot_at ds y) mine (noted.right y l (omega arith))
      (λ used z. none (ap (λ (q : ℕ). get_or seen (q % filter_size) 0) (ep ∙ sym z) ∙ marks.each y l (omega arith) used)))
      ∙ others-end s ds e (1 + (k - 1)) (k - 1 - (k - 1)) (omega arith)

-- a new name
module _ (s ds : List ℕ) (b k : ℕ) (here : SlotIn s ds b k) (type : ℕ) (et : type ≡ type_of s (entry_at b k)) where
  pub new_name-free : type ≡ 0 → true ≡ new_name s ds k
  unfolding new_name
  new_name-free h = rw (← here.place, ← et, eq-eqb type 0 h)

  pub new_name-used : (type ≡ 0 → ⊥) → (r : Bool) → r ≡ not (other_names s ds (entry_at b k) 1 (k - 1)) → not r ≡ new_name s ds k
  unfolding new_name other_names other_name
  new_name-used h r er =
      rw (er, ← here.place, ← et, ne_eqb type 0 h) (turn (other_names s ds (entry_at b k) 1 (k - 1)))
    where
      turn : (b : Bool) → not (not b) ≡ b
      turn true = refl
      turn false = refl

-- nothing is noted
pub noted-none : (s ds ps pl : List ℕ) → length ps ≡ max_slots → length pl ≡ max_slots → Noted s ds ps pl 1
noted-none s ds ps pl e f =
    record {
      prints-room = e;
      places-room = f;
      right = λ i h l. absurd (omega arith);
      place = λ i h l. absurd (omega arith);
      print = λ i h l. absurd (omega arith);
    }

pub filtered-none : (s ds seen : List ℕ) (mark : ℕ) → length seen ≡ filter_size → Filtered s ds seen mark 1
filtered-none s ds seen mark e = record { room = e; each = λ i h l. absurd (omega arith) }

-- slot k, in block b, is noted: what stood below it stays
module _ (s ds : List ℕ) (b k : ℕ) (here : SlotIn s ds b k) (ok : slot_ok s (entry_at b k) ≡ true) where
  right : slot_ok s (slot_at ds k) ≡ true
  right = rw (← here.place) ok

  module _ (ps pl : List ℕ) (noted : Noted s ds ps pl k) where
    placed : SlotIn s ds (get_or (set pl k b) k 0) k
    placed = rw (get_or-set_same pl k b 0 (omega (arith, noted.places-room, here.high))) here

    pub noted-kept : (p : ℕ) → Noted s ds (set ps k p) (set pl k b) k
    noted-kept p =
        record {
          prints-room = length-set ps k p ∙ noted.prints-room;
          places-room = length-set pl k b ∙ noted.places-room;
          right = noted.right;
          place = λ i h l. rw (get_or-set_other pl k i b 0 (λ z. absurd (omega arith))) (noted.place i h l);
          print = λ i h l t. get_or-set_other ps k i p 0 (λ z. absurd (omega arith)) ∙ noted.print i h l t;
        }

    noted_more : (qs : List ℕ) → Noted s ds qs (set pl k b) k → ((type_of s (slot_at ds k) ≡ 0 → ⊥) → get_or qs k 0 ≡ fingerprint (part s (slot_at ds k + 48) 80))
        → Noted s ds qs (set pl k b) (k + 1)
    noted_more qs g print =
        record {
          prints-room = g.prints-room;
          places-room = g.places-room;
          right = below_more (λ i. slot_ok s (slot_at ds i) ≡ true) 1 k g.right right;
          place = below_more (λ i. SlotIn s ds (get_or (set pl k b) i 0) i) 1 k g.place placed;
          print = below_more (λ i. (type_of s (slot_at ds i) ≡ 0 → ⊥) → get_or qs i 0 ≡ fingerprint (part s (slot_at ds i + 48) 80)) 1 k g.print print;
        }

    pub noted-free : (type : ℕ) → type ≡ type_of s (entry_at b k) → type ≡ 0 → Noted s ds ps (set pl k b) (k + 1)
    noted-free type et z =
        noted_more ps
        record {
          prints-room = noted.prints-room;
          places-room = length-set pl k b ∙ noted.places-room;
          right = noted.right;
          place = λ i h l. rw (get_or-set_other pl k i b 0 (λ z. absurd (omega arith))) (noted.place i h l);
          print = noted.print;
        }
        (λ used. absurd (used (rw (← here.place, ← et) z)))

    module _ (p : ℕ) (ep : p ≡ fingerprint (part s (entry_at b k + 48) 80)) where
      pub noted-own : get_or (set ps k p) k 0 ≡ fingerprint (part s (entry_at b k + 48) 80)
      noted-own = get_or-set_same ps k p 0 (omega (arith, noted.prints-room, here.high)) ∙ ep

      pub noted-used : Noted s ds (set ps k p) (set pl k b) (k + 1)
      noted-used = noted_more (set ps k p) (noted-kept p) (λ used. rw (← here.place) noted-own)

  module _ (seen : List ℕ) (mark : ℕ) (marks : Filtered s ds seen mark k) where
    filtered-more : (zs : List ℕ) → Filtered s ds zs mark k → ((type_of s (slot_at ds k) ≡ 0 → ⊥) → get_or zs (filter_place s (slot_at ds k)) 0 ≡ mark) → Filtered s ds zs mark (k + 1)
    filtered-more zs g f =
        record {
          room = g.room;
          each = below_more (λ i. (type_of s (slot_at ds i) ≡ 0 → ⊥) → get_or zs (filter_place s (slot_at ds i)) 0 ≡ mark) 1 k g.each f;
        }

    pub filtered-free : (type : ℕ) → type ≡ type_of s (entry_at b k) → type ≡ 0 → Filtered s ds seen mark (k + 1)
    filtered-free type et z = filtered-more seen marks (λ used. absurd (used (rw (← here.place, ← et) z)))

    module _ (p : ℕ) (ep : p ≡ fingerprint (part s (entry_at b k + 48) 80)) where
      own-place : filter_place s (slot_at ds k) ≡ p % filter_size
      own-place = ap (λ (q : ℕ). q % filter_size) (rw (← here.place) (sym ep))

      pub filtered-marked : get_or seen (p % filter_size) 0 ≡ mark → Filtered s ds seen mark (k + 1)
      filtered-marked f = filtered-more seen marks (λ used. rw own-place f)

      pub filtered-new : Filtered s ds (set seen (p % filter_size) mark) mark (k + 1)
      filtered-new =
          filtered-more (set seen (p % filter_size) mark)
          record {
            room = length-set seen (p % filter_size) mark ∙ marks.room;
            each = λ i h l used. kept (filter_place s (slot_at ds i)) (marks.each i h l used) (ℕ_discrete (filter_place s (slot_at ds i)) (p % filter_size));
          }
          (λ used. rw own-place own-mark)
        where
          own-mark : get_or (set seen (p % filter_size) mark) (p % filter_size) 0 ≡ mark
          own-mark = get_or-set_same seen (p % filter_size) mark 0 (omega (arith, marks.room))

          kept : (x : ℕ) → get_or seen x 0 ≡ mark → Dec (x ≡ p % filter_size) → get_or (set seen (p % filter_size) mark) x 0 ≡ mark
          kept x f (yes e) = rw e own-mark
          kept x f (no e) = get_or-set_other seen (p % filter_size) x mark 0 e ∙ f

-- the first slot that stage 5 refuses
module _ (s ds : List ℕ) (k j : ℕ) where
  pub bad_from-end : j ≡ 0 → k ≡ bad_from s ds k j
  unfolding bad_from
  bad_from-end e = rw e

  bad-suc : 0 < j → bad_from s ds k j ≡ cond (slot_ok s (slot_at ds k) && new_name s ds k) (bad_from s ds (k + 1) (j - 1)) k
  unfolding bad_from
  bad-suc h =
      let e : j ≡ suc (j - 1) = omega arith in
      ap (λ (i : ℕ). bad_from s ds k i) e

  module _ (e : ℕ) (at : e ≡ slot_at ds k) (h : 0 < j) where
    pub bad_from-wrong : false ≡ slot_ok s e → bad_from s ds k j ≡ k
    bad_from-wrong t = bad-suc h ∙ rw (← at, ← t)

    module _ (ok : true ≡ slot_ok s e) where
      pub bad_from-taken : false ≡ new_name s ds k → bad_from s ds k j ≡ k
      bad_from-taken t = bad-suc h ∙ rw (← at, ← ok, ← t)

      pub bad_from-next : true ≡ new_name s ds k → bad_from s ds k j ≡ bad_from s ds (k + 1) (j - 1)
      bad_from-next t = bad-suc h ∙ rw (← at, ← ok, ← t)
