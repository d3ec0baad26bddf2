-- What is promised of a volume file, whenever power fails.
use Prim.Native.Nat.{ℕ, ◌+◌, ◌*◌, ◌<◌, ◌≤◌}
use mathlib.Core.Bool.{true}
use mathlib.Core.Path.{◌≡◌, refl, sym, ap, ◌∙◌}
use mathlib.Core.Logic.{◌⊎◌, inl, inr, ⊎_elim}
use mathlib.Core.List.{List}
use native.Mathlib.Omega.{arith}
use lib.ListN.{length, get_or}
use Rattle.layout.specs.Bytes.{part, block}
use Rattle.layout.proofs.Laws.Tests.{lt-or-ge}
use Rattle.volume_file.specs.Format.{home_sectors, home_of, image_of, journal_of, own_of, waits, count, number_sectors, saved_at, file_refusal}
use Rattle.volume_file.specs.Save.{home_with, changes, prepared, prepare_refusal, after_prepare, committed, commit_refusal, after_commit, replayed, recovered}
use Rattle.volume_file.specs.Answers.{prepare_answer}
use Rattle.volume_file.specs.Writes.{written, log_places_of, commit_place, home_places}
use Rattle.volume_file.specs.Cuts.{Crash, LogSector, CommitSector, NamedSector, RecoveryCut, RecoveryCuts, Cut, Quiet, Fits}
use Rattle.volume_file.specs.Begin.{begun, begin_refusal}
use Rattle.volume_file.specs.History.{HistoryTheorem}
use Rattle.volume_file.proofs.Laws.Sectors.{sector-mixed}
use Rattle.volume_file.proofs.Laws.Facts.{file-facts, file-ok, flagged-length, flagged-other}
use Rattle.volume_file.proofs.Laws.Recovery.{recovered-none, recovered-waits, recovered-out, recovered-file, replayed-length, replayed-out, one-cut, many-cuts}
use Rattle.volume_file.proofs.Laws.Prepared.{prepared-length, prepared-low, prepared-numbers, prepared-rest, committed-file, committed-other, committed-length}
use Rattle.volume_file.proofs.Laws.Saves.{home_same, beside-home, logging-old, recovers-new, cut-either}
use Rattle.volume_file.proofs.Laws.Histories.{quiet-fits, quiet-again, save-done, save-cut, history}
use Rattle.volume_file.proofs.Laws.Begins.{begins, begun-quiet, begun-parts}
use Rattle.volume_file.proofs.Walks.Logging.{prepares}
use Rattle.volume_file.proofs.Laws.Parts.{together}
use Rattle.volume_file.proofs.Laws.Written as places
use Rattle.volume_file.proofs.Laws.Commits as commits

-- ALL OR NOTHING. Whatever a cut of a save leaves is a volume file with the same header, and recovered it has the old home or the new one.
pub all-or-nothing : (d new d' : List ℕ) → Quiet d → Fits d new → Cut d new d'
    → (file_refusal d' ≡ 0) × (block d' 0 ≡ block d 0) × ((home_of (recovered d') ≡ home_of d) ⊎ (home_of (recovered d') ≡ new))
all-or-nothing d new d' q f x =
    let e = cut-either new (file-facts d q.ok) (quiet-fits d new q f) q.none d' x in
    (file-ok _ d' e.volume, e.head, e.home)

-- Before the commit sector is being written it is the old one, and after the flush behind that the new one.
pub old-before : (d new d' : List ℕ) → Quiet d → Fits d new → Crash (LogSector d) d d' → home_of (recovered d') ≡ home_of d
old-before d new d' q f x =
    let o = logging-old new (file-facts d q.ok) (quiet-fits d new q f) q.none d' x in
    ap home_of (recovered-none d' o.none) ∙ o.home

pub new-after : (d new d' : List ℕ) → Quiet d → Fits d new → RecoveryCut (committed d new) d' → home_of (recovered d') ≡ new
new-after d new d' q f x =
    let v = file-facts d q.ok in
    let g = quiet-fits d new q f in
    recovers-new new v g q.none d' (one-cut (committed-file new v g) x)

-- RECOVERY cut anywhere, any number of times, and run again is never refused, and gives what it gives uncut: every sector but the commit sector, in which
-- nothing waits, and so the same home.
pub recovered-again : (d d' : List ℕ) → file_refusal d ≡ 0 → RecoveryCuts d d'
    → (file_refusal d' ≡ 0) × Crash CommitSector (recovered d) (recovered d') × (home_of (recovered d') ≡ home_of (recovered d))
recovered-again d d' ok x =
    let v = file-facts d ok in
    let m = many-cuts v x in
    (file-ok _ d' m.volume, m.same, beside-home (recovered-file v) (recovered-file m.volume) m.same)

-- It leaves a file whose log does not wait, and its header and its log as they were; where nothing waits it changes nothing.
pub recovered-is-quiet : (d : List ℕ) → file_refusal d ≡ 0 → Quiet (recovered d)
recovered-is-quiet d ok = quiet-again (file-facts d ok)

pub header-stays : (d : List ℕ) → file_refusal d ≡ 0 → block (recovered d) 0 ≡ block d 0
header-stays d ok = recovered-out (file-facts d ok) 0 (inl (omega arith))

pub log-stays : (d : List ℕ) (s : ℕ) → file_refusal d ≡ 0 → LogSector d s → block (recovered d) s ≡ block d s
log-stays d s ok l = recovered-out (file-facts d ok) s (inr l)

pub quiet-stays : (d : List ℕ) → Quiet d → recovered d ≡ d
quiet-stays d q = recovered-none d q.none

-- A WHOLE SAVE leaves a file whose log does not wait, with the same header and the new home. One that is cut, and recovered by recoveries of which each but
-- the last may be cut too, leaves such a file with the old home or the new one.
pub whole-save : (d new : List ℕ) → Quiet d → Fits d new
    → Quiet (recovered (committed d new)) × (block (recovered (committed d new)) 0 ≡ block d 0) × (home_of (recovered (committed d new)) ≡ new)
whole-save = save-done

pub cut-save : (d new : List ℕ) → Quiet d → Fits d new → (d' d'' : List ℕ) → Cut d new d' → RecoveryCuts d' d''
    → Quiet (recovered d'') × (block (recovered d'') 0 ≡ block d 0) × ((home_of (recovered d'') ≡ home_of d) ⊎ (home_of (recovered d'') ≡ new))
cut-save = save-cut

-- Where `prepare` finds no sector that differs the home is the new one already, and nothing has to be written.
pub nothing-to-save : (d new : List ℕ) → Quiet d → Fits d new → length (changes d new) ≡ 0 → home_of d ≡ new
nothing-to-save d new q f = home_same new (file-facts d q.ok) (quiet-fits d new q f)

-- What `prepare` accepts is a file whose log does not wait, and a new home that fits it.
pub prepare-accepts : (d image journal own : List ℕ) → prepare_refusal d image journal own ≡ 0 → Quiet d × Fits d (home_with image journal own)
prepare-accepts d image journal own e =
    let p = prepares d image journal own e in
    (p.quiet, together d image journal own e)

-- A NEW FILE has a log that does not wait, and its three parts are what stood there.
pub new-file : (d : List ℕ) (n m x : ℕ) → begin_refusal d n m x ≡ 0
    → Quiet (begun d n m x) × (image_of (begun d n m x) ≡ part d 1024 (512 * n)) × (journal_of (begun d n m x) ≡ part d (1024 + 512 * n) (512 * m))
    × (own_of (begun d n m x) ≡ part d (1024 + 512 * n + 512 * m) (512 * x))
new-file d n m x e = let b = begins d n m x e in let p = begun-parts d n m x b in (begun-quiet d n m x b, p.0, p.1, p.2)

-- EVERY HISTORY of saves, each done or cut and followed by recovery, cut or not, leaves the home of the last save that was done, or that of one that was
-- cut since.
pub every-history : HistoryTheorem
every-history d e es q l = history d e es (home_of d) q refl l

-- WHAT EACH STEP WRITES: it changes no other sector than those that a cut of it may spoil. Of the log, those of k + 1 numbers and of k sectors are enough.
pub step-1 : (d new : List ℕ) → Quiet d → Fits d new → Crash (LogSector d) d (prepared d new)
step-1 d new q f =
    let v = file-facts d q.ok in
    let g = quiet-fits d new q f in
    record { size = prepared-length new v g; kept = λ s n. prepared-low new v g s (below s n) }
  where
    below : (s : ℕ) → (LogSector d s → ⊥) → s < 2 + home_sectors d
    below s n = ⊎_elim (λ l. l) (λ l. absurd (n l)) (lt-or-ge s (2 + home_sectors d))

pub step-1-log : (d new : List ℕ) (s : ℕ) → Quiet d → Fits d new
    → ((2 + home_sectors d + number_sectors (length (changes d new)) ≤ s) × (s < saved_at (home_sectors d) 0)) ⊎ (saved_at (home_sectors d) (length (changes d new)) ≤ s)
    → block (prepared d new) s ≡ block d s
step-1-log d new s q f (inl (l, m)) = prepared-numbers new (file-facts d q.ok) (quiet-fits d new q f) s l m
step-1-log d new s q f (inr l) = prepared-rest new (file-facts d q.ok) (quiet-fits d new q f) s l

pub step-2 : (d new : List ℕ) → Quiet d → Fits d new → Crash CommitSector (prepared d new) (committed d new)
step-2 d new q f =
    let v = file-facts d q.ok in
    let g = quiet-fits d new q f in
    record { size = committed-length new v g ∙ sym (prepared-length new v g); kept = committed-other new v g }

pub step-3 : (d : List ℕ) → file_refusal d ≡ 0 → Crash (NamedSector d) d (replayed d)
step-3 d ok = let v = file-facts d ok in record { size = replayed-length v; kept = λ s n. replayed-out v s (λ j l e. n (j, l, e)) }

pub step-4 : (d : List ℕ) → file_refusal d ≡ 0 → waits d ≡ true → Crash CommitSector (replayed d) (recovered d)
step-4 d ok w =
    let v = file-facts d ok in
    let l : 1024 ≤ length (replayed d) = omega (arith, replayed-length v, v.size) in
    rw (recovered-waits d w) (record { size = flagged-length (replayed d) 0 l; kept = flagged-other (replayed d) 0 l })

-- WHAT THE CALLER WRITES IS ENOUGH: where the file on the disk is the one in memory before a step, and the places that the calls answer are written from
-- memory, it is the one in memory after the step. Step 3 leaves `replayed`, and step 4 what recovery gave.
pub written-1 : (d image journal own : List ℕ) → prepare_refusal d image journal own ≡ 0
    → written d (after_prepare d image journal own) (log_places_of (prepare_answer d image journal own)) ≡ after_prepare d image journal own
written-1 = places.written-1

pub written_2 : (d : List ℕ) → commit_refusal d ≡ 0 → written d (after_commit d) commit_place ≡ after_commit d
written_2 = places.written_2

pub written-3 : (d : List ℕ) → file_refusal d ≡ 0 → waits d ≡ true → written d (recovered d) (home_places (recovered d) (count d)) ≡ replayed d
written-3 = places.written-3

pub written_4 : (d : List ℕ) → file_refusal d ≡ 0 → waits d ≡ true → written (replayed d) (recovered d) commit_place ≡ recovered d
written_4 = places.written_4

-- What `prepare` leaves `commit` accepts, and it leaves what the theorems above call committed.
pub commit-accepts : (d image journal own : List ℕ) → prepare_refusal d image journal own ≡ 0
    → (commit_refusal (after_prepare d image journal own) ≡ 0) × (after_commit (after_prepare d image journal own) ≡ committed d (home_with image journal own))
commit-accepts = commits.commit-accepts

-- Two milder models are covered. Sectors are written whole or not at all, from d to e; or each byte of the file is that of d or of e, in whatever pages the
-- writes were made.
pub whole-sectors : (Written : ℕ → Type 0) (d e d' : List ℕ) → Crash Written d e → length d' ≡ length d
    → ((s : ℕ) → (block d' s ≡ block d s) ⊎ (block d' s ≡ block e s)) → Crash Written d d'
whole-sectors Written d e d' c l f = record { size = l; kept = λ s n. ⊎_elim (λ q. q) (λ q. q ∙ c.kept s n) (f s) }

pub mixed-bytes : (Written : ℕ → Type 0) (d e d' : List ℕ) → Crash Written d e → length d' ≡ length d
    → ((i : ℕ) → (get_or d' i 0 ≡ get_or d i 0) ⊎ (get_or d' i 0 ≡ get_or e i 0)) → Crash Written d d'
mixed-bytes Written d e d' c l f = record { size = l; kept = λ s n. sector-mixed d e d' s l (c.kept s n) f }
