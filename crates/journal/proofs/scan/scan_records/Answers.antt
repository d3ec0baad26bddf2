use mathlib.Core.Path.{sym, ◌∙◌}
use native.Mathlib.Omega.{arith}
use Rattle.journal.proofs.Walks.Scanning.{record-size, scan-start, scan-bad, scan_step, scan-end}
use Rattle.journal.proofs.scan.scan_records.Goals as goal

pub loop-at-init : goal.loop-at-init
loop-at-init c = (scan-start _ _ (omega arith), tt, omega arith)

pub record_ok-requires : goal.record_ok-requires
record_ok-requires c = (c.requires, omega arith)

pub returns-then-not-record_ok : goal.returns-then-not-record_ok
returns-then-not-record_ok c =
    let l = c.loop-at in
    scan-bad _ _ _ _ l.invariant.0 (omega arith) (sym c.record_ok.ensures ∙ c.if-not-record_ok.true)

pub get32-requires : goal.get32-requires
get32-requires c =
    let f = record-size _ _ _ (sym c.record_ok.ensures ∙ c.if-not-record_ok.false) in
    omega arith

pub overflow_add-at : goal.overflow_add-at
overflow_add-at c =
    let f = record-size _ _ _ (sym c.record_ok.ensures ∙ c.if-not-record_ok.false) in
    omega (arith, c.get32.ensures)

pub loop-at-smaller : goal.loop-at-smaller
loop-at-smaller c =
    let f = record-size _ _ _ (sym c.record_ok.ensures ∙ c.if-not-record_ok.false) in
    omega (arith, c.get32.ensures)

pub loop-at-preserved : goal.loop-at-preserved
loop-at-preserved c =
    (rw c.get32.ensures (scan_step _ _ _ _ c.loop-at.invariant.0 (omega arith) (sym c.record_ok.ensures ∙ c.if-not-record_ok.false)), λ z. omega arith, omega arith)

pub returns : goal.returns
returns c =
    let l = c.loop-at in
    let s = scan-end _ _ _ _ l.invariant.0 (omega arith) in
    (sym s.well, record { found = s.found; some = l.invariant.1 })
