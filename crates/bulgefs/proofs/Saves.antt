-- A life of a volume file, event by event.
use Prim.Native.Nat.{ℕ, ◌+◌, ◌*◌, ◌≤◌}
use mathlib.Core.List.{List, [], ◌∷◌, ◌++◌}
use mathlib.Core.Logic.{inl, inr, ⊎_elim}
use mathlib.Core.Path.{◌≡◌, refl, sym, ap, subst, ◌∙◌}
use native.Mathlib.Omega.{arith}
use lib.ListN.{length}
use Rattle.layout.specs.Bytes.{block}
use Rattle.layout.specs.Limits.{min_journal, max_journal}
use Rattle.layout.specs.Geometry.{block_count}
use Rattle.layout.proofs.Laws.Bytes.{length_part}
use Rattle.layout.proofs.Laws.Sound.{sound}
use Rattle.journal.specs.Journal.{started}
use Rattle.journal.specs.Run.{Call, State, state, run}
use Rattle.journal.specs.Replay.{RunInvariant}
use Rattle.journal.proofs.Theorems.{run-keeps}
use Rattle.journal.specs.Kinds.{Kind, KindCall, step_of, run_of, FitsRun, AllFit, as_calls, standing_of, one_of}
use Rattle.back.specs.UndoTo.{backed, undo_to as undoToMark}
use Rattle.volume_file.specs.Format.{image_sectors_of, journal_sectors_of, own_sectors_of, home_sectors, image_of, journal_of, own_of, home_of}
use Rattle.volume_file.proofs.Laws.Facts.{file-facts}
use Rattle.volume_file.proofs.Laws.Refused.{prepare-lengths, lengths-ok}
use Rattle.volume_file.specs.Save.{home_with, changes, prepare_refusal, committed, recovered}
use Rattle.volume_file.specs.Cuts.{Quiet, Cut, RecoveryCuts}
use Rattle.volume_file.proofs.Laws.Parts.{accepted-held, same-image, same-journal, journal-sized}
use Rattle.volume_file.proofs.Theorems.{prepare-accepts, nothing-to-save, whole-save, cut-save}
use Rattle.bulgefs.specs.Runs.{kind_of, EveryRunTheorem, EveryStartTheorem}
use Rattle.bulgefs.specs.Saves.{pair_of, Begun, Life, begins, calls, saves, finds, cut, off, OneOf, BackToBegin, Kept}

abbrev K : Kind
K = one_of kind_of

-- a run with one call more
run-snoc : (cs : List (KindCall K)) (c : KindCall K) (p : State) → run_of p (cs ++ (c ∷ [])) ≡ step_of (run_of p cs) c
unfolding run_of
run-snoc [] c p = refl
run-snoc (x ∷ xs) c p = run-snoc xs c (step_of p x)

fit-snoc : (cs : List (KindCall K)) (c : KindCall K) (p : State) → AllFit p cs → FitsRun (run_of p cs) c → AllFit p (cs ++ (c ∷ []))
unfolding run_of AllFit
fit-snoc [] c p f g = (g, tt)
fit-snoc (x ∷ xs) c p f g = (f.0, fit-snoc xs c (step_of p x) f.1 g)

-- a pair that a run reaches
record Reach (start q : State) : Type 0 where
  pub made : List (KindCall K)
  pub fit : AllFit start made
  pub is : q ≡ run_of start made

reach-start : (start : State) → Reach start start
unfolding run_of AllFit
reach-start start = record { made = []; fit = tt; is = refl }

reach_step : (start q : State) (c : KindCall K) → FitsRun q c → Reach start q → Reach start (step_of q c)
reach_step start q c f r = record {
  made = r.made ++ (c ∷ []);
  fit = fit-snoc r.made c start r.fit (subst (λ (s : State). FitsRun s c) r.is f);
  is = ap (λ (s : State). step_of s c) r.is ∙ sym (run-snoc r.made c start);
}

-- what holds after every event
record Good (start : State) (head : List ℕ) (p : State) (file : List ℕ) (saved : List State) : Type 0 where
  pub quiet : Quiet file
  pub header : block file 0 ≡ head
  pub whole : OneOf (pair_of file) saved
  pub reached : Reach start p
  pub all : (q : State) → OneOf q saved → Reach start q

-- two pairs by their parts
pair_same : (p q : State) → p.image ≡ q.image → p.journal ≡ q.journal → p ≡ q
pair_same p q e f = ap (λ (x : List ℕ). state x p.journal) e ∙ ap (λ (x : List ℕ). state q.image x) f

module _ {start : State} {head : List ℕ} {p : State} {file : List ℕ} {saved : List State} (g : Good start head p file saved) where
  after_call : (c : KindCall K) → FitsRun p c → Good start head (step_of p c) file saved
  after_call c f = record { quiet = g.quiet; header = g.header; whole = g.whole; reached = reach_step start p c f g.reached; all = g.all }

  after-off : Good start head (pair_of file) file saved
  after-off = record { quiet = g.quiet; header = g.header; whole = g.whole; reached = g.all (pair_of file) g.whole; all = g.all }

  module _ (own : List ℕ) (ok : prepare_refusal file p.image p.journal own ≡ 0) where
    abbrev new : List ℕ
    new = home_with p.image p.journal own

    -- a file with the same header and the new home holds the pair
    held : (e : List ℕ) → Quiet e → block e 0 ≡ block file 0 → home_of e ≡ new → pair_of e ≡ p
    held e q h n = let a = accepted-held file e p.image p.journal own ok q h n in pair_same (pair_of e) p a.image-is a.journal-is

    after-save : Good start head p (recovered (committed file new)) (p ∷ [])
    after-save =
        let a = prepare-accepts file p.image p.journal own ok in
        let w = whole-save file new a.0 a.1 in
        record {
          quiet = w.0;
          header = w.1 ∙ g.header;
          whole = inl (held (recovered (committed file new)) w.0 w.1 w.2);
          reached = g.reached;
          all = λ q m. ⊎_elim (λ (i : q ≡ p). subst (Reach start) (sym i) g.reached) (λ (z : ⊥). absurd z) m;
        }

    after-find : length (changes file new) ≡ 0 → Good start head p file (p ∷ [])
    after-find z =
        let a = prepare-accepts file p.image p.journal own ok in
        record {
          quiet = g.quiet;
          header = g.header;
          whole = inl (held file a.0 refl (nothing-to-save file new a.0 a.1 z));
          reached = g.reached;
          all = λ q m. ⊎_elim (λ (i : q ≡ p). subst (Reach start) (sym i) g.reached) (λ (z : ⊥). absurd z) m;
        }

    after-cut : (left found : List ℕ) → Cut file new left → RecoveryCuts left found → Good start head (pair_of (recovered found)) (recovered found) (p ∷ saved)
    after-cut left found x y =
        let a = prepare-accepts file p.image p.journal own ok in
        let w = cut-save file new a.0 a.1 left found x y in
        let e : List ℕ = recovered found in
        let old : home_of e ≡ home_of file → pair_of e ≡ pair_of file = λ h.
        pair_same (pair_of e) (pair_of file) (same-image a.0 w.0 w.1 h) (same-journal a.0 w.0 w.1 h) in
        let one : OneOf (pair_of e) (p ∷ saved) = ⊎_elim
        (λ (h : home_of e ≡ home_of file). inr (subst (λ (q : State). OneOf q saved) (sym (old h)) g.whole))
        (λ (h : home_of e ≡ new). inl (held e w.0 w.1 h)) w.2 in
        let more : (q : State) → OneOf q (p ∷ saved) → Reach start q = λ q m.
        ⊎_elim (λ (i : q ≡ p). subst (Reach start) (sym i) g.reached) (λ (i : OneOf q saved). g.all q i) m in
        record { quiet = w.0; header = w.1 ∙ g.header; whole = one; reached = more (pair_of e) one; all = more }

good : (begun : List ℕ) → Quiet begun → (p : State) (file : List ℕ) (saved : List State) → Life begun p file saved → Good (pair_of begun) (block begun 0) p file saved
good begun b _ _ _ begins = record {
  quiet = b;
  header = refl;
  whole = inl refl;
  reached = reach-start (pair_of begun);
  all = λ q m. ⊎_elim (λ (e : q ≡ pair_of begun). subst (Reach (pair_of begun)) (sym e) (reach-start (pair_of begun))) (λ (z : ⊥). absurd z) m;
}
good begun b _ file saved (calls {p = p} l c f) = after_call (good begun b p file saved l) c f
good begun b _ _ _ (saves {p = p} {file = file} {saved = saved} l own ok) = after-save (good begun b p file saved l) own ok
good begun b _ file _ (finds {p = p} {saved = saved} l own ok z) = after-find (good begun b p file saved l) own ok z
good begun b _ _ _ (cut {p = p} {file = file} {saved = saved} l own ok {left = left} {found = found} x y) =
    after-cut (good begun b p file saved l) own ok left found x y
good begun b _ file saved (off {p = p} l) = after-off (good begun b p file saved l)

-- and so every pair of a life leads back to its beginning
module _ (again : EveryStartTheorem) (begun : List ℕ) (b : Begun begun) where
  sized : (min_journal ≤ length (journal_of begun)) × (length (journal_of begun) ≤ max_journal)
  sized = journal-sized b.quiet

  abbrev fresh : State
  fresh = record { image = image_of begun; journal = started (length (journal_of begun)) }

  is-fresh : pair_of begun ≡ fresh
  is-fresh = ap (λ (j : List ℕ). state (image_of begun) j) b.fresh

  reach-back : (q : State) → Reach (pair_of begun) q → BackToBegin begun q
  reach-back q r =
      let k : ℕ = length (standing_of fresh [] r.made) in
      let f : AllFit fresh r.made = subst (λ (s : State). AllFit s r.made) is-fresh r.fit in
      let e : undoToMark (run_of fresh r.made) 5 ≡ backed fresh 0 k = again (image_of begun) (length (journal_of begun)) r.made b.sound sized.0 sized.1 f in
      (k, ap (λ (s : State). undoToMark s 5) (r.is ∙ ap (λ (s : State). run_of s r.made) is-fresh) ∙ e ∙ ap (λ (s : State). backed s 0 k) (sym is-fresh))

  pub life-kept : (p : State) (file : List ℕ) (saved : List State) → Life begun p file saved → Kept begun p file saved
  life-kept p file saved l =
      let g = good begun b.quiet p file saved l in
      record {
        quiet = g.quiet;
        whole = g.whole;
        back = reach-back (pair_of file) (g.all (pair_of file) g.whole);
        saved-back = λ q m. reach-back q (g.all q m);
        memory-back = reach-back p g.reached;
      }

  -- the parts of the beginning fill their sectors
  parts-long : (length (image_of begun) ≡ 512 * image_sectors_of (block begun 0)) × (length (journal_of begun) ≡ 512 * journal_sectors_of (block begun 0))
      × (length (own_of begun) ≡ 512 * own_sectors_of (block begun 0))
  unfolding image_of journal_of own_of home_sectors
  parts-long =
      let f = file-facts begun b.quiet.ok in
      let n = image_sectors_of (block begun 0) in
      let m = journal_sectors_of (block begun 0) in
      let x = own_sectors_of (block begun 0) in (
        length_part begun 1024 (512 * n) (omega (arith, f.size)),
        length_part begun (1024 + 512 * n) (512 * m) (omega (arith, f.size)),
        length_part begun (1024 + 512 * n + 512 * m) (512 * x) (omega (arith, f.size)),
      )

  -- and a run keeps their lengths
  module _ (runs : EveryRunTheorem) where
    reach-long : (q : State) → Reach (pair_of begun) q → (length q.image ≡ length (image_of begun)) × (length q.journal ≡ length (journal_of begun))
    reach-long q r =
        let size : ℕ = length (journal_of begun) in
        let f : AllFit fresh r.made = subst (λ (s : State). AllFit s r.made) is-fresh r.fit in
        let made : List Call = as_calls fresh r.made in
        let e : q ≡ run fresh made = r.is ∙ ap (λ (s : State). run_of s r.made) is-fresh ∙ (runs (image_of begun) size r.made b.sound sized.0 sized.1 f).as-calls in
        let i : RunInvariant (block_count (image_of begun)) size q =
        subst (RunInvariant (block_count (image_of begun)) size) (sym e) (run-keeps (image_of begun) size made b.sound sized.0 sized.1) in
        let k : block_count q.image ≡ block_count (image_of begun) = i.blocks in
        ((sound q.image i.sound).whole ∙ ap (λ (n : ℕ). 512 * n) k ∙ sym (sound (image_of begun) b.sound).whole, i.long)

    pub accepted : (p : State) (file : List ℕ) (saved : List State) → Life begun p file saved
        → (own : List ℕ) → length own ≡ length (own_of begun) → prepare_refusal file p.image p.journal own ≡ 0
    accepted p file saved l own o =
        let g = good begun b.quiet p file saved l in
        let a = reach-long p g.reached in
        let s = parts-long in
        let i : length p.image ≡ 512 * image_sectors_of (block file 0) = rw g.header (a.0 ∙ s.0) in
        let j : length p.journal ≡ 512 * journal_sectors_of (block file 0) = rw g.header (a.1 ∙ s.1) in
        let x : length own ≡ 512 * own_sectors_of (block file 0) = rw g.header (o ∙ s.2) in
        sym (prepare-lengths file p.image p.journal own 0 (sym g.quiet.ok) refl g.quiet.none 0 (sym (lengths-ok (block file 0) p.image p.journal own i j x)))
