-- The laws of one call of a run: an accepted change keeps what every run keeps (RunInvariant), and undo takes it back, byte for byte; at the start
-- undo gives 16. From the soundness law and the frame law of the changes.
use Prim.Native.Nat.{ℕ, ◌+◌, ◌-◌, ◌≤◌}
use mathlib.Core.Path.{◌≡◌, refl, ◌∙◌}
use mathlib.Core.Bool.{true}
use mathlib.Core.List.{List, []}
use native.Mathlib.Omega.{arith}
use borrow.Author.Tests.{leb-true, ne_eqb}
use lib.Dec.{leb}
use lib.ListN.{length}
use Rattle.layout.specs.Geometry.{block_count}
use Rattle.layout.specs.Check.{check}
use Rattle.store.specs.Change.{Change, refusal, after, named}
use Rattle.journal.specs.Journal.{used, started, records_from, records, well_formed, ascending, added, last_record, undone_image, Shaped}
use Rattle.journal.specs.Run.{State, undone, record_of, change_refusal, after_change, undo_refusal, after_undo, undo_answer}
use Rattle.journal.specs.Replay.{RunInvariant}
use Rattle.journal.specs.Walks.Changes.{Ready}
use Rattle.layout.specs.Limits.{min_journal, max_journal}
use Rattle.store.proofs.Laws.Framed.{Framed, frame}
use Rattle.store.proofs.Laws.Sound.{KeptSound}
use Rattle.layout.proofs.Laws.Tests.{require-zero, first_of-zero}
use Rattle.layout.proofs.Laws.Lists.{in_some, has-eqb-in}
use Rattle.layout.proofs.Laws.Sound.{Sound, sound}
use Rattle.journal.proofs.Laws.Ascending.{ascending-below, ascending-rising, ascending-all}
use Rattle.journal.proofs.Laws.Restore.{puts_back, agree-ascending}
use Rattle.journal.proofs.Laws.Shape.{used-filled, version-filled, started-filled, length-started}
use Rattle.journal.proofs.Laws.Append.{well, well-ok, Appended, appended}

-- what an accepted change has asked
pub record Accepted (p : State) (c : Change) : Type 0 where
  pub sound : check p.image ≡ 0
  pub well-formed : well_formed p.journal (block_count p.image) ≡ true
  pub allowed : refusal p.image c ≡ 0
  pub fits : used p.journal + length (record_of p c) ≤ length p.journal

pub accepted : (p : State) (c : Change) → change_refusal p c ≡ 0 → Accepted p c
unfolding change_refusal
accepted p c e =
    let a = first_of-zero (check p.image) _ e in
    let b = require-zero (well_formed p.journal (block_count p.image)) 7 _ a.1 in
    let d = first_of-zero (refusal p.image c) _ b.1 in
    let f = require-zero (leb (used p.journal + length (record_of p c)) (length p.journal)) 14 0 d.1 in
    record { sound = a.0; well-formed = b.0; allowed = d.0; fits = leb-true _ _ f.0 }

module _ (kept-sound : KeptSound) (p : State) (c : Change) (ok : change_refusal p c ≡ 0) where
  acc : Accepted p c
  acc = accepted p c ok

  framed : Framed p.image c
  framed = frame p.image c acc.sound acc.allowed

  sz : Sound p.image
  sz = sound p.image acc.sound

  -- the blocks of the record, and the journal with it
  abbrev bs : List ℕ
  bs = ascending (block_count p.image) (named p.image c)

  abbrev new : List ℕ
  new = added p.journal (record_of p c)

  laws : Appended (block_count p.image) p.image bs p.journal new
  unfolding record_of
  laws =
      let k = block_count p.image in
      let ns = named p.image c in
      let in-record = ascending-all k ns framed.one (has-eqb-in framed.one ns framed.listed) (framed.inside framed.one framed.listed) in
      appended k p.image (omega (arith, sz.whole)) sz.most bs (ascending-below k ns) (ascending-rising k ns) (in_some framed.one bs in-record)
      p.journal (well p.journal k acc.well-formed) acc.fits

  abbrev q : State
  q = record { image = after p.image c; journal = new }

  after_is : after_change p c ≡ q
  unfolding after_change
  after_is = rw ok

  blocks-stay : block_count (after p.image c) ≡ block_count p.image
  blocks-stay = rw framed.agree.size

  well-new : well_formed new (block_count (after p.image c)) ≡ true
  well-new = rw blocks-stay (well-ok new (block_count p.image) laws.well-formed)

  sound-new : check (after p.image c) ≡ 0
  sound-new = kept-sound p.image c acc.sound acc.allowed

  -- the refusals 1 to 8 are passed again, whatever stands past the used part of the journal
  pub ready-again : Ready (after_change p c).image (after_change p c).journal
  ready-again = rw after_is (record { sound = sound-new; well-formed = well-new })

  pub kept : {n size : ℕ} → RunInvariant n size p → RunInvariant n size (after_change p c)
  kept {n} {size} m =
      let k : RunInvariant n size q = record
      { sound = sound-new; blocks = blocks-stay ∙ m.blocks; well-formed = well-new; long = laws.long ∙ m.long; shaped = laws.shaped m.shaped } in
      rw after_is k

  undo-ok : undo_refusal q ≡ 0
  unfolding undo_refusal
  undo-ok = rw (sound-new, well-new, ne_eqb (last_record new) 0 laws.some)

  image-back : undone_image (after p.image c) new ≡ p.image
  image-back =
      let k = block_count p.image in
      let ns = named p.image c in
      laws.image-back (after p.image c)
      ∙ puts_back k p.image sz.whole bs (after p.image c) (ascending-below k ns)
      (agree-ascending k p.image (after p.image c) ns sz.whole framed.agree)

  pub undone-image : (after_undo (after_change p c)).image ≡ p.image
  unfolding after_undo
  undone-image = rw (after_is, undo-ok, image-back)

  pub back : Shaped p.journal → after_undo (after_change p c) ≡ p
  unfolding after_undo
  back m = rw (after_is, undo-ok, image-back, laws.journal-back m)

  pub undone-length : undo_answer (after_change p c) ≡ undone 0 (length (record_of p c))
  unfolding undo_answer record_of
  undone-length = rw (after_is, undo-ok, laws.size)

-- a journal just started, where there is nothing to undo
module _ (s : List ℕ) (size : ℕ) (sound : check s ≡ 0) (low : min_journal ≤ size) (high : size ≤ max_journal) where
  used_start : used (started size) ≡ 5
  used_start = rw started-filled (used-filled 5 [] (size - 5) (omega arith))

  records-start : records (started size) ≡ []
  unfolding records records_from
  records-start = rw used_start

  well-start : well_formed (started size) (block_count s) ≡ true
  well-start = well-ok (started size) (block_count s) (record {
    long = omega (arith, length-started size low);
    short = omega (arith, length-started size low);
    version = rw started-filled (version-filled 5 [] (size - 5));
    used_low = rw used_start (omega arith);
    used_high = rw used_start (omega (arith, length-started size low));
    recorded = rw records-start;
  })

  pub first : RunInvariant (block_count s) size (record { image = s; journal = started size })
  first = record {
    sound = sound;
    blocks = refl;
    well-formed = well-start;
    long = length-started size low;
    shaped = record { body = []; room = size - 5; shape = started-filled size };
  }

  refused : undo_refusal (record { image = s; journal = started size }) ≡ 16
  unfolding undo_refusal last_record
  refused = rw (sound, well-start, records-start)

  pub none : after_undo (record { image = s; journal = started size }) ≡ record { image = s; journal = started size }
  unfolding after_undo
  none = rw refused

  pub undone-none : undo_answer (record { image = s; journal = started size }) ≡ undone 16 0
  unfolding undo_answer
  undone-none = rw refused
