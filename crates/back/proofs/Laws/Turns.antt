-- The turns of the loops from record to record, and of the loop that takes records back; the exits of the calls.
use Prim.Native.Nat.{ℕ, zero, suc, ◌+◌, ◌-◌, ◌≤◌, ◌<◌}
use mathlib.Core.Path.{◌≡◌, refl, sym, ap, subst, ◌∙◌}
use mathlib.Core.Logic.{◌⊎◌, inl, inr}
use mathlib.Core.Bool.{Bool, true, false, ◌||◌}
use mathlib.Core.List.{List, [], ◌∷◌, ◌++◌, map, append_assoc}
use native.Mathlib.Omega.{arith}
use native.Mathlib.Numerals.{add-one}
use borrow.Author.Tests.{eq-eqb, ne_eqb, le-leb}
use lib.Dec.{eqb, leb}
use lib.ListN.{length, get_or, take, set, length-append, length-set}
use lib.Seq.{take-suc, take-suc-set, take-append_seam}
use Rattle.layout.specs.Lists.{has, every, select, last_or}
use Rattle.layout.specs.Bytes.{be32}
use Rattle.layout.specs.Limits.{max_journal}
use Rattle.layout.specs.Refusals.{require}
use Rattle.layout.specs.Geometry.{block_count}
use Rattle.layout.specs.Check.{check}
use Rattle.journal.specs.Journal.{used, record_ok, records_from, records, well_formed, last_record, undone_image, undone_journal}
use Rattle.journal.specs.Run.{State, state}
use Rattle.journal.specs.Walks.Changes.{Ready, ready_refusal}
use Rattle.journal.specs.Walks.Undoing.{Last}
use Rattle.layout.proofs.Laws.Tests.{and_split, accept-refused, lt-or-ge}
use Rattle.layout.proofs.Laws.Lists.{In, in-elim, in-here, in_right, has-eqb-in, in-has-eqb, last_snoc}
use Rattle.layout.proofs.Laws.Sound.{sound}
use Rattle.journal.proofs.Laws.RecordWalk.{records-none, records-more}
use Rattle.journal.proofs.Laws.Append.{WellFormed, well, well-ok}
use Rattle.journal.proofs.Walks.Scanning.{record-size}
use Rattle.journal.proofs.Walks.Undoing.{unready}
use Rattle.back.specs.Marks.{marks, behind, last_length, info, info_refusal, journal_info}
use Rattle.back.specs.UndoTo.{without_last, back_by, backed, back_refusal, undo_to}
use Rattle.back.specs.Walks.Right.{Right, Whole, Noted}
use Rattle.journal.proofs.Laws.Dropped.{records-between, Dropped, dropped}
use Rattle.back.proofs.Laws.Marks.{select-both, select-each, none-behind, mark-record, record-between, still-mark, one-behind}

pub right-ready : {s j : List ℕ} → Ready s j → Right j
right-ready {s} w = record { blocks = block_count s; well-formed = w.well-formed }

pub right-head : (j : List ℕ) (r : Right j) → WellFormed j r.blocks
right-head j r = well j r.blocks r.well-formed

-- the records from an offset on, all right
pub record Ahead (j : List ℕ) (at : ℕ) : Type 0 where
  pub blocks : ℕ
  pub fuel : ℕ
  pub enough : used j ≤ at + fuel
  pub inside : at ≤ used j
  pub whole : WellFormed j blocks
  pub right : every (record_ok j blocks) (records_from (be32 j) (used j) at fuel) ≡ true

abbrev pub left : (j : List ℕ) {at : ℕ} → Ahead j at → List ℕ
left j {at} a = records_from (be32 j) (used j) at a.fuel

module _ (j : List ℕ) where
  pub ahead-start : Right j → Ahead j 5
  unfolding records
  ahead-start r =
      let w = well j r.blocks r.well-formed in
      record { blocks = r.blocks; fuel = used j; enough = omega arith; inside = w.used_low; whole = w; right = w.recorded }

  pub left-start : (r : Right j) → records j ≡ left j (ahead-start r)
  unfolding records ahead-start
  left-start r = refl

  module _ {at : ℕ} (a : Ahead j at) where
    pub left_end : used j ≤ at → left j a ≡ []
    left_end h = records-none (be32 j) (used j) at a.fuel h

    module _ (h : at < used j) where
      pub left-first : left j a ≡ at ∷ records_from (be32 j) (used j) (at + be32 j at) (a.fuel - 1)
      left-first = records-more (be32 j) (used j) at a.fuel h (omega (arith, a.enough))

      split : (record_ok j a.blocks at ≡ true) × (every (record_ok j a.blocks) (records_from (be32 j) (used j) (at + be32 j at) (a.fuel - 1)) ≡ true)
      split = and_split (record_ok j a.blocks at) _ (ap (λ (xs : List ℕ). every (record_ok j a.blocks) xs) (sym left-first) ∙ a.right)

      -- the record here has at least 520 bytes, and ends within the used part
      pub ahead-size : (520 ≤ be32 j at) × (at + be32 j at ≤ used j)
      ahead-size = record-size j a.blocks at split.0

      pub ahead-next : Ahead j (at + be32 j at)
      ahead-next = record {
        blocks = a.blocks;
        fuel = a.fuel - 1;
        enough = omega (arith, a.enough, ahead-size.0);
        inside = ahead-size.1;
        whole = a.whole;
        right = split.1;
      }

      pub left-next : left j a ≡ at ∷ left j ahead-next
      unfolding ahead-next
      left-next = left-first

-- the tally: so many records so far, and the length of the last one
pub record Tallying (j : List ℕ) (count last at : ℕ) : Type 0 where
  pub ahead : Ahead j at
  pub few : count ≤ at
  pub counted : length (records j) ≡ count + length (left j ahead)
  pub found : last_length j ≡ last_or last (map (be32 j) (left j ahead))

pub tally-start : (j : List ℕ) → Right j → Tallying j 0 0 5
unfolding last_length
tally-start j r = record {
  ahead = ahead-start j r;
  few = omega arith;
  counted = ap (λ (xs : List ℕ). length xs) (left-start j r) ∙ omega arith;
  found = ap (λ (xs : List ℕ). last_or 0 (map (be32 j) xs)) (left-start j r);
}

module _ (j : List ℕ) (count last at : ℕ) (t : Tallying j count last at) where
  pub tally-next : at < used j → (size : ℕ) → size ≡ be32 j at → Tallying j (count + 1) size (at + size)
  tally-next h size e =
      let n = left-next j t.ahead h in
      rw e (record {
        ahead = ahead-next j t.ahead h;
        few = omega (arith, t.few, (ahead-size j t.ahead h).0);
        counted = t.counted ∙ ap (λ (xs : List ℕ). count + length xs) n ∙ omega arith;
        found = t.found ∙ ap (λ (xs : List ℕ). last_or last (map (be32 j) xs)) n;
      })

  pub tally-count : used j ≤ at → count ≡ length (records j)
  tally-count h = sym (t.counted ∙ ap (λ (xs : List ℕ). count + length xs) (left_end j t.ahead h) ∙ omega arith)

  pub tally-last : used j ≤ at → last ≡ last_length j
  tally-last h = sym (t.found ∙ ap (λ (xs : List ℕ). last_or last (map (be32 j) xs)) (left_end j t.ahead h))

-- the search for a mark: it is one of the journal's exactly if it is ahead
pub record Searching (j : List ℕ) (mark at : ℕ) : Type 0 where
  pub ahead : Ahead j at
  pub same : has eqb mark (marks j) ≡ has eqb mark (left j ahead ++ (used j ∷ []))

pub search-start : (j : List ℕ) (mark : ℕ) → Right j → Searching j mark 5
unfolding marks
search-start j mark r = record { ahead = ahead-start j r; same = ap (λ (xs : List ℕ). has eqb mark (xs ++ (used j ∷ []))) (left-start j r) }

or-none : (a : Bool) → a || false ≡ a
or-none true = refl
or-none false = refl

module _ (j : List ℕ) (mark at : ℕ) (s : Searching j mark at) where
  pub search-met : at < used j → mark ≡ at → has eqb mark (marks j) ≡ true
  search-met h e = s.same ∙ rw (left-next j s.ahead h, eq-eqb mark at e)

  pub search-next : at < used j → (mark ≡ at → ⊥) → (size : ℕ) → size ≡ be32 j at → Searching j mark (at + size)
  search-next h d size e = rw e (record { ahead = ahead-next j s.ahead h; same = s.same ∙ rw (left-next j s.ahead h, ne_eqb mark at d) })

  pub search-end : used j ≤ at → has eqb mark (marks j) ≡ eqb mark (used j)
  search-end h = s.same ∙ rw (left_end j s.ahead h) (or-none (eqb mark (used j)))

-- a record reached from the first one: what stands before it, and what is ahead
record Reaching (j : List ℕ) (at : ℕ) : Type 0 where
  ahead : Ahead j at
  front : List ℕ
  whole : records j ≡ front ++ left j ahead

append-none : (xs : List ℕ) → xs ++ [] ≡ xs
append-none [] = refl
append-none (x ∷ xs) = ap (λ (l : List ℕ). x ∷ l) (append-none xs)

module _ (j : List ℕ) where
  reach-next : (at : ℕ) (r : Reaching j at) → at < used j → Reaching j (at + be32 j at)
  reach-next at r h = record {
    ahead = ahead-next j r.ahead h;
    front = r.front ++ (at ∷ []);
    whole = r.whole ∙ ap (λ (l : List ℕ). r.front ++ l) (left-next j r.ahead h) ∙ sym (append_assoc r.front (at ∷ []) (left j (ahead-next j r.ahead h)));
  }

  reach : (k at mark : ℕ) (r : Reaching j at) → used j ≤ at + k → In mark (left j r.ahead) → Reaching j mark
  unfolding reach-next ahead-next
  reach zero at mark r h m = absurd (rw (left_end j r.ahead (omega arith)) at m)
  reach (suc k) at mark r h m = go (lt-or-ge at (used j)) (reach k)
    where
      go : (at < used j) ⊎ (used j ≤ at) → ((at' mark' : ℕ) (r' : Reaching j at') → used j ≤ at' + k → In mark' (left j r'.ahead) → Reaching j mark') → Reaching j mark
      go (inl b) rest =
          in-elim mark at (left j (ahead-next j r.ahead b)) (rw (left-next j r.ahead b) at m)
          (λ d. subst (λ (x : ℕ). Reaching j x) (sym d) r)
          (λ n. rest (at + be32 j at) mark (reach-next at r b) (omega (arith, (ahead-size j r.ahead b).0)) n)
      go (inr b) rest = absurd (rw (left_end j r.ahead b) at m)

  reach-mark : (mark : ℕ) → Right j → has eqb mark (records j) ≡ true → Reaching j mark
  reach-mark mark r t =
      reach (used j) 5 mark (record { ahead = ahead-start j r; front = []; whole = left-start j r }) (omega arith)
      (rw (left-start j r) at (has-eqb-in mark (records j) t))

-- noting offsets from a mark on: the first i numbers, and what is ahead, are the last records
pub record Noting (j : List ℕ) (mark : ℕ) (offsets : List ℕ) (i at : ℕ) : Type 0 where
  pub ahead : Ahead j at
  pub front : List ℕ
  pub whole : records j ≡ front ++ (take i offsets ++ left j ahead)
  pub fits : i ≤ length offsets
  pub few : i + length (left j ahead) ≤ behind j mark
  pub some : used j ≤ at → 1 ≤ i

pub note-start : (j : List ℕ) (mark : ℕ) (offsets : List ℕ) → Right j → has eqb mark (records j) ≡ true → Noting j mark offsets 0 mark
unfolding behind
note-start j mark offsets r t =
    let m = reach-mark j mark r t in
    let xs = left j m.ahead in
    let b : behind j mark ≡ length (select (leb mark) m.front) + length (select (leb mark) xs) =
    ap (λ (l : List ℕ). length (select (leb mark) l)) m.whole ∙ select-both (leb mark) m.front xs in
    let c : length (select (leb mark) xs) ≡ length xs =
    select-each (leb mark) xs (λ x i. le-leb mark x (records-between (be32 j) (used j) m.ahead.fuel mark x i).0) in
    record {
      ahead = m.ahead;
      front = m.front;
      whole = m.whole;
      fits = omega arith;
      few = omega (arith, b, c);
      some = λ h. absurd (let e = record-between j mark (has-eqb-in mark (records j) t) in omega (arith, e.1));
    }

module _ (j : List ℕ) (mark : ℕ) (offsets : List ℕ) (i at : ℕ) (n : Noting j mark offsets i at) where
  pub note-again : at < used j → Noting j mark offsets 0 at
  note-again h = record {
    ahead = n.ahead;
    front = n.front ++ take i offsets;
    whole = n.whole ∙ sym (append_assoc n.front (take i offsets) (left j n.ahead));
    fits = omega arith;
    few = omega (arith, n.few);
    some = λ g. absurd (omega arith);
  }

  pub note-more : at < used j → i < length offsets → (size : ℕ) → size ≡ be32 j at → Noting j mark (set offsets i at) (i + 1) (at + size)
  note-more h g size e =
      let l = left-next j n.ahead h in
      let next = left j (ahead-next j n.ahead h) in
      let k : length (left j n.ahead) ≡ suc (length next) = ap (λ (xs : List ℕ). length xs) l in
      let t : take (i + 1) (set offsets i at) ≡ take i offsets ++ (at ∷ []) = rw (add-one i) (take-suc-set offsets i at g) in
      rw e (record {
        ahead = ahead-next j n.ahead h;
        front = n.front;
        whole =
            n.whole ∙ ap (λ (xs : List ℕ). n.front ++ (take i offsets ++ xs)) l
            ∙ ap (λ (xs : List ℕ). n.front ++ xs) (sym (append_assoc (take i offsets) (at ∷ []) next) ∙ ap (λ (xs : List ℕ). xs ++ next) (sym t));
        fits = simp length-set (omega arith);
        few = omega (arith, n.few, k);
        some = λ z. omega arith;
      })

  pub note-end : used j ≤ at → Noted j offsets i
  note-end h = record {
    front = n.front;
    whole = n.whole ∙ ap (λ (xs : List ℕ). n.front ++ (take i offsets ++ xs)) (left_end j n.ahead h) ∙ ap (λ (xs : List ℕ). n.front ++ xs) (append-none (take i offsets));
    fits = n.fits;
  }

  pub note-count : used j ≤ at → (1 ≤ i) × (i ≤ behind j mark)
  note-count h = (n.some h, omega (arith, n.few))

-- two lists with one element more each
snoc-same : (xs ys : List ℕ) (x y : ℕ) → xs ++ (x ∷ []) ≡ ys ++ (y ∷ []) → xs ≡ ys
snoc-same xs ys x y e =
    let a : length xs + 1 ≡ length ys + 1 = sym (length-append xs (x ∷ [])) ∙ ap (λ (l : List ℕ). length l) e ∙ length-append ys (y ∷ []) in
    let b : length xs ≡ length ys = omega arith in
    sym (take-append_seam xs (x ∷ [])) ∙ ap (λ (l : List ℕ). take (length xs) l) e ∙ ap (λ (k : ℕ). take k (ys ++ (y ∷ []))) b ∙ take-append_seam ys (y ∷ [])

-- the noted records are taken back, from the last on: what is left to take back from here gives what all gives
pub record Taking (p₀ : State) (offsets : List ℕ) (count : ℕ) (p : State) (togo : ℕ) : Type 0 where
  pub good : Whole p.image p.journal
  pub noted : Noted p.journal offsets togo
  pub outcome : back_by p₀ count ≡ back_by p togo

pub take-start : (p : State) (offsets : List ℕ) (count : ℕ) → Whole p.image p.journal → Noted p.journal offsets count → Taking p offsets count p count
take-start p offsets count g n = record { good = g; noted = n; outcome = refl }

module _ (p₀ : State) (offsets : List ℕ) (count : ℕ) (p : State) (togo : ℕ) (t : Taking p₀ offsets count p togo) where
  module _ (h : 0 < togo) where
    abbrev here : ℕ
    here = get_or offsets (togo - 1) 0

    abbrev earlier : List ℕ
    earlier = t.noted.front ++ take (togo - 1) offsets

    with-last : records p.journal ≡ earlier ++ (here ∷ [])
    with-last =
        let e : togo ≡ suc (togo - 1) = omega arith in
        t.noted.whole
        ∙ ap (λ (k : ℕ). t.noted.front ++ take k offsets) e
        ∙ ap (λ (xs : List ℕ). t.noted.front ++ xs) (take-suc offsets (togo - 1) 0 (omega (arith, t.noted.fits)))
        ∙ sym (append_assoc t.noted.front (take (togo - 1) offsets) (here ∷ []))

    last-is : last_record p.journal ≡ here
    unfolding last_record
    last-is = ap (λ (xs : List ℕ). last_or 0 xs) with-last ∙ last_snoc earlier 0 here

    in-records : In here (records p.journal)
    in-records = rw with-last (in_right here earlier (here ∷ []) (in-here here []))

    gone : Dropped (block_count p.image) p.journal (undone_journal p.journal)
    gone = dropped (block_count p.image) p.journal (well p.journal (block_count p.image) t.good.well-formed) here in-records

    pub take_last : (at : ℕ) → at ≡ get_or offsets (togo - 1) 0 → Last p.image p.journal at
    take_last at e = record {
      whole = t.good.whole;
      blocks = t.good.blocks;
      well-formed = t.good.well-formed;
      last = e ∙ sym last-is;
      some = λ z. omega (arith, gone.low, last-is);
    }

    pub take_next : (s j : List ℕ) → length s ≡ length p.image → s ≡ undone_image p.image p.journal → j ≡ undone_journal p.journal
        → Taking p₀ offsets count (state s j) (togo - 1)
    unfolding back_by without_last
    take_next s j l i k =
        let e : togo ≡ suc (togo - 1) = omega arith in
        record {
          good = record {
            whole = rw l t.good.whole;
            blocks = rw l t.good.blocks;
            well-formed = rw (l, k) (well-ok (undone_journal p.journal) (block_count p.image) gone.well-formed);
          };
          noted = record {
            front = t.noted.front;
            whole = rw k (snoc-same (records (undone_journal p.journal)) earlier (last_record p.journal) here (sym gone.records-are ∙ with-last));
            fits = omega (arith, t.noted.fits);
          };
          outcome = t.outcome ∙ ap (back_by p) e ∙ rw (i, k);
        }

  pub take-end : togo ≤ 0 → p ≡ back_by p₀ count
  unfolding back_by
  take-end h = let z : togo ≡ 0 = omega arith in sym (t.outcome ∙ ap (back_by p) z)

-- the records behind a mark, so many of them taken back: the rule in two parts, and what stays
pub back-add : (m k : ℕ) (p : State) → back_by p (m + k) ≡ back_by (back_by p k) m
unfolding back_by
back-add m zero p = let e : m + 0 ≡ m = omega arith in ap (back_by p) e
back-add m (suc k) p = let e : m + suc k ≡ suc (m + k) = omega arith in ap (back_by p) e ∙ back-add m k (without_last p)

record Marked (n mark : ℕ) (j : List ℕ) : Type 0 where
  well-formed : WellFormed j n
  is-mark : has eqb mark (marks j) ≡ true

record Many (n mark k : ℕ) (j i : List ℕ) : Type 0 where
  marked : Marked n mark i
  count : k + behind i mark ≡ behind j mark
  lower : k + used i ≤ used j

-- one record taken back, and then k
one : (n mark k : ℕ) (p : State) → Marked n mark p.journal → In mark (records p.journal) → suc k ≤ behind p.journal mark
    → (Marked n mark (without_last p).journal → k ≤ behind (without_last p).journal mark → Many n mark k (without_last p).journal (back_by (without_last p) k).journal)
    → Many n mark (suc k) p.journal (back_by (without_last p) k).journal
unfolding without_last
one n mark k p m i h rest =
    let j = p.journal in
    let d = dropped n j m.well-formed mark i in
    let b : behind j mark ≡ suc (behind (undone_journal j) mark) = one-behind n j m.well-formed mark i in
    let r = rest (record { well-formed = d.well-formed; is-mark = still-mark n j m.well-formed mark i }) (omega (arith, b)) in
    record { marked = r.marked; count = omega (arith, b, r.count); lower = omega (arith, r.lower, d.used-is, d.below) }

many : (n mark k : ℕ) (p : State) → Marked n mark p.journal → k ≤ behind p.journal mark → Many n mark k p.journal (back_by p k).journal
unfolding back_by
many n mark zero p m h = record { marked = m; count = omega arith; lower = omega arith }
many n mark (suc k) p m h = go (lt-or-ge mark (used p.journal)) (many n mark k (without_last p))
  where
    go : (mark < used p.journal) ⊎ (used p.journal ≤ mark)
        → (Marked n mark (without_last p).journal → k ≤ behind (without_last p).journal mark → Many n mark k (without_last p).journal (back_by (without_last p) k).journal)
        → Many n mark (suc k) p.journal (back_by (without_last p) k).journal
    go (inl b) rest = one n mark k p m (mark-record p.journal mark m.is-mark b) h rest
    go (inr b) rest = absurd (let z = none-behind p.journal mark b in omega (arith, z))

-- midway: records are taken back from here on, so many are done
pub record Going (p₀ : State) (mark : ℕ) (p : State) (u done : ℕ) : Type 0 where
  pub used-is : u ≡ used p.journal
  pub good : Whole p.image p.journal
  pub is-mark : has eqb mark (marks p.journal) ≡ true
  pub few : done + u ≤ max_journal
  pub count : done + behind p.journal mark ≡ behind p₀.journal mark
  pub outcome : back_by p₀ (behind p₀.journal mark) ≡ back_by p (behind p.journal mark)

pub go-start : (p : State) (mark u : ℕ) → Ready p.image p.journal → has eqb mark (marks p.journal) ≡ true → u ≡ used p.journal → Going p mark p u 0
go-start p mark u r t e =
    let z = sound p.image r.sound in
    let w = well p.journal (block_count p.image) r.well-formed in
    record {
      used-is = e;
      good = record { whole = z.whole; blocks = z.most; well-formed = r.well-formed };
      is-mark = t;
      few = omega (arith, w.used_high, w.short);
      count = omega arith;
      outcome = refl;
    }

module _ (p₀ : State) (mark : ℕ) (p : State) (u done : ℕ) (g : Going p₀ mark p u done) where
  pub go_right : Right p.journal
  go_right = record { blocks = block_count p.image; well-formed = g.good.well-formed }

  pub go-record : mark < u → has eqb mark (records p.journal) ≡ true
  go-record h = in-has-eqb mark (records p.journal) (mark-record p.journal mark g.is-mark (rw g.used-is at h))

  module _ (count : ℕ) (h : count ≤ behind p.journal mark) (q : State) (e : q ≡ back_by p count) where
    taken : Many (block_count p.image) mark count p.journal q.journal
    taken =
        rw e
        (many (block_count p.image) mark count p
        (record { well-formed = well p.journal (block_count p.image) g.good.well-formed; is-mark = g.is-mark }) h)

    pub go-lower : (v : ℕ) → v ≡ used q.journal → count + v ≤ u
    go-lower v f = omega (arith, taken.lower, g.used-is)

    pub go-next : (v : ℕ) → v ≡ used q.journal → length q.image ≡ length p.image → Going p₀ mark q v (done + count)
    go-next v f l =
        let m = taken in
        let b : behind p.journal mark ≡ behind q.journal mark + count = omega (arith, m.count) in
        record {
          used-is = f;
          good = record {
            whole = rw l g.good.whole;
            blocks = rw l g.good.blocks;
            well-formed = rw l (well-ok q.journal (block_count p.image) m.marked.well-formed);
          };
          is-mark = m.marked.is-mark;
          few = omega (arith, g.few, go-lower v f);
          count = omega (arith, g.count, m.count);
          outcome = g.outcome ∙ ap (back_by p) b ∙ back-add (behind q.journal mark) count p ∙ ap (λ (x : State). back_by x (behind q.journal mark)) (sym e);
        }

  pub go-end : u ≤ mark → backed p 0 done ≡ backed (back_by p₀ (behind p₀.journal mark)) 0 (behind p₀.journal mark)
  unfolding back_by
  go-end h =
      let z : behind p.journal mark ≡ 0 = none-behind p.journal mark (rw g.used-is at h) in
      let c : done ≡ behind p₀.journal mark = omega (arith, g.count, z) in
      let o : p ≡ back_by p₀ (behind p₀.journal mark) = sym (g.outcome ∙ ap (back_by p) z) in
      ap (λ (q : State). backed q 0 done) o ∙ ap (λ (k : ℕ). backed (back_by p₀ (behind p₀.journal mark)) 0 k) c

-- the exits of undo to a mark
module _ (p : State) (mark : ℕ) where
  refused : (k : ℕ) → back_refusal p mark ≡ k → (k ≡ 0 → ⊥) → backed p k 0 ≡ undo_to p mark
  unfolding undo_to
  refused k e n = rw e (sym (accept-refused k _ (backed p k 0) n))

  pub back-unready : (k : ℕ) → k ≡ ready_refusal p → (k ≡ 0 → ⊥) → backed p k 0 ≡ undo_to p mark
  unfolding ready_refusal back_refusal
  back-unready k e n = refused k (unready (check p.image) (require (has eqb mark (marks p.journal)) 27 0) (well_formed p.journal (block_count p.image)) k e n) n

  module _ (w : Ready p.image p.journal) where
    pub back-unmarked : has eqb mark (marks p.journal) ≡ false → backed p 27 0 ≡ undo_to p mark
    unfolding back_refusal
    back-unmarked f = refused 27 (rw (w.sound, w.well-formed, f)) (λ e. omega arith)

    pub back_done : has eqb mark (marks p.journal) ≡ true → backed (back_by p (behind p.journal mark)) 0 (behind p.journal mark) ≡ undo_to p mark
    unfolding back_refusal undo_to
    back_done t = rw (w.sound, w.well-formed, t)

-- the exits of an info
module _ (p : State) where
  pub info-unready : (k : ℕ) → k ≡ ready_refusal p → (k ≡ 0 → ⊥) → info k 0 0 0 ≡ journal_info p
  unfolding ready_refusal info_refusal journal_info
  info-unready k e n = rw (← e) (sym (accept-refused k _ (info k 0 0 0) n))

  pub info-ready : Ready p.image p.journal → (u k last : ℕ) → u ≡ used p.journal → k ≡ length (records p.journal) → last ≡ last_length p.journal
      → info 0 u k last ≡ journal_info p
  unfolding info_refusal journal_info
  info-ready w u k last a b c = rw (w.sound, w.well-formed, a, b, c)
