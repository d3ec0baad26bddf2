-- The turns of the two loops over a list's items, and the exits of the calls.
use Prim.Native.Nat.{ℕ, ◌+◌, ◌≤◌, ◌<◌}
use mathlib.Core.Path.{◌≡◌, sym, ◌∙◌}
use mathlib.Core.Bool.{true, false}
use mathlib.Core.List.{List, map}
use native.Mathlib.Omega.{arith}
use native.Mathlib.Numerals.{add-one}
use borrow.Author.Tests.{le-leb, lt-leb, leb-true, eq-eqb, ne_eqb}
use lib.Dec.{leb, eqb}
use lib.ListN.{length, get_or}
use Rattle.layout.specs.Lists.{within, every}
use Rattle.layout.specs.Bytes.{be32}
use Rattle.layout.specs.Refusals.{require}
use Rattle.layout.specs.Geometry.{block_count}
use Rattle.layout.specs.Check.{check}
use Rattle.journal.specs.Journal.{well_formed}
use Rattle.layout.proofs.Laws.Tests.{and_split, accept-refused}
use Rattle.store.proofs.Theorems.{change-sound}
use Rattle.journal.specs.Run.{State, change_refusal, after_change}
use Rattle.journal.specs.Walks.Changes.{Ready, ready_refusal}
use Rattle.journal.proofs.Laws.Undo.{ready-again}
use Rattle.journal.proofs.Walks.Undoing.{unready}
use Rattle.write_list.specs.List.{max_list, write_at, item_ok, items, list_ok, writes, listed, one_by_one, list_refusal, write_list}
use Rattle.write_list.proofs.Laws.Items.{item, Ahead, left, ahead-start, ahead-next, left-start, left-next, left-first, left_end}

-- from an offset on, the items are right if all are
pub record Scanning (l : List ℕ) (at : ℕ) : Type 0 where
  pub ahead : Ahead l at
  pub right : every (item_ok l) (items l) ≡ every (item_ok l) (left l ahead)

pub scan-start : (l : List ℕ) → 5 ≤ length l → Scanning l 5
scan-start l h = record { ahead = ahead-start l h; right = rw (left-start l h) }

module _ (l : List ℕ) (at : ℕ) (s : Scanning l at) where
  pub scan-bad : at < length l → item_ok l at ≡ false → every (item_ok l) (items l) ≡ false
  scan-bad h t = s.right ∙ rw (left-first l s.ahead h, t)

  pub scan_step : at < length l → item_ok l at ≡ true → Scanning l (at + be32 l at)
  scan_step h t =
      let i = item l at t in
      record { ahead = ahead-next l s.ahead h i; right = s.right ∙ rw (left-next l s.ahead h i, t) }

  pub scan-end : length l ≤ at → every (item_ok l) (items l) ≡ true
  scan-end h = s.right ∙ rw (left_end l s.ahead h)

-- the exits of the test of a list
module _ (l : List ℕ) where
  pub list-short : length l < 5 → list_ok l ≡ false
  unfolding list_ok
  list-short h = rw (lt-leb _ _ h)

  pub list-long : 5 ≤ length l → max_list < length l → list_ok l ≡ false
  unfolding list_ok
  list-long a h = rw (le-leb _ _ a, lt-leb _ _ h)

  module _ (a : 5 ≤ length l) (b : length l ≤ max_list) where
    pub list-version : (get_or l 0 0 ≡ 1 → ⊥) → list_ok l ≡ false
    unfolding list_ok
    list-version h = rw (le-leb _ _ a, le-leb _ _ b, ne_eqb _ _ h)

    pub list_length : get_or l 0 0 ≡ 1 → (be32 l 1 ≡ length l → ⊥) → list_ok l ≡ false
    unfolding list_ok
    list_length v h = rw (le-leb _ _ a, le-leb _ _ b, eq-eqb _ _ v, ne_eqb _ _ h)

    pub list-items : get_or l 0 0 ≡ 1 → be32 l 1 ≡ length l → list_ok l ≡ every (item_ok l) (items l)
    unfolding list_ok
    list-items v e = rw (le-leb _ _ a, le-leb _ _ b, eq-eqb _ _ v, eq-eqb _ _ e)

  pub record Form : Type 0 where
    pub low : 5 ≤ length l
    pub high : length l ≤ max_list
    pub right : every (item_ok l) (items l) ≡ true

  pub form : list_ok l ≡ true → Form
  unfolding list_ok
  form t =
      let a = and_split (within 5 max_list (length l)) _ t in
      let a' = and_split (leb 5 (length l)) _ a.0 in
      let b = and_split (eqb (get_or l 0 0) 1) _ a.1 in
      let c = and_split (eqb (be32 l 1) (length l)) _ b.1 in
      record { low = leb-true _ _ a'.0; high = leb-true _ _ a'.1; right = c.1 }

-- midway: what is left to do from here on, with so many done, gives what the whole list gives
pub record Midway (p₀ : State) (l : List ℕ) (p : State) (done at : ℕ) : Type 0 where
  pub ahead : Ahead l at
  pub right : every (item_ok l) (left l ahead) ≡ true
  pub ready : Ready p.image p.journal
  pub few : done ≤ at
  pub outcome : one_by_one p₀ 0 (writes l) ≡ one_by_one p done (map (write_at l) (left l ahead))

pub write-start : (p : State) (l : List ℕ) → Ready p.image p.journal → list_ok l ≡ true → Midway p l p 0 5
unfolding writes
write-start p l w t =
    let f = form l t in
    record {
      ahead = ahead-start l f.low;
      right = rw (← left-start l f.low) f.right;
      ready = w;
      few = omega arith;
      outcome = rw (left-start l f.low);
    }

module _ (p₀ : State) (l : List ℕ) (p : State) (done at : ℕ) (m : Midway p₀ l p done at) where
  module _ (h : at < length l) where
    pub write-item : item_ok l at ≡ true
    write-item = (and_split (item_ok l at) _ (rw (left-first l m.ahead h) at m.right)).0

    module _ (q : State) (d : q ≡ after_change p (write_at l at)) (k : ℕ) (e : k ≡ change_refusal p (write_at l at)) where
      pub write-stop : (k ≡ 0 → ⊥) → listed q k done ≡ one_by_one p₀ 0 (writes l)
      unfolding one_by_one after_change
      write-stop n =
          let same : q ≡ p = d ∙ rw (← e) (accept-refused k _ p n) in
          rw same (sym (m.outcome ∙ rw (left-first l m.ahead h, ← e) (accept-refused k _ (listed p k done) n)))

      pub write-more : k ≡ 0 → (size : ℕ) → size ≡ be32 l at → Midway p₀ l q (done + 1) (at + size)
      unfolding one_by_one
      write-more z size f =
          let i = item l at write-item in
          let n = left-next l m.ahead h i in
          let r : change_refusal p (write_at l at) ≡ 0 = sym e ∙ z in
          rw (d, f) (record {
            ahead = ahead-next l m.ahead h i;
            right = (and_split (item_ok l at) _ (rw n at m.right)).1;
            ready = ready-again (λ s c ok a. change-sound s ok c a) p (write_at l at) r;
            few = omega (arith, m.few, i.room);
            outcome = m.outcome ∙ rw (n, r, add-one done);
          })

  pub write-end : length l ≤ at → listed p 0 done ≡ one_by_one p₀ 0 (writes l)
  unfolding one_by_one
  write-end h = sym (m.outcome ∙ rw (left_end l m.ahead h))

-- the exits of the call
module _ (p : State) (l : List ℕ) where
  refused : (k : ℕ) → list_refusal p l ≡ k → (k ≡ 0 → ⊥) → listed p k 0 ≡ write_list p l
  unfolding write_list
  refused k e n = rw e (sym (accept-refused k _ (listed p k 0) n))

  pub list-unready : (k : ℕ) → k ≡ ready_refusal p → (k ≡ 0 → ⊥) → listed p k 0 ≡ write_list p l
  unfolding ready_refusal list_refusal
  list-unready k e n = refused k (unready (check p.image) (require (list_ok l) 19 0) (well_formed p.journal (block_count p.image)) k e n) n

  module _ (w : Ready p.image p.journal) where
    pub list-malformed : list_ok l ≡ false → listed p 19 0 ≡ write_list p l
    unfolding list_refusal
    list-malformed f = refused 19 (rw (w.sound, w.well-formed, f)) (λ e. omega arith)

    pub list_done : list_ok l ≡ true → one_by_one p 0 (writes l) ≡ write_list p l
    unfolding list_refusal write_list
    list_done t = rw (w.sound, w.well-formed, t)
