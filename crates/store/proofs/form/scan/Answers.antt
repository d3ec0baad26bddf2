use Rattle.std.proofs.Common.{refl, sym, ap, ℕ, ◌+◌, arith}
use borrow.Author.Tests.{not-true, not-false}
use Rattle.store.proofs.Walks.Records.{at_some, scan-start, scan-none, scan-wrong, scan-full, scan_step, scan-empty, scan-nonempty, scan-right}
use Rattle.store.proofs.form.scan.Goals as goal
use Rattle.store.proofs.form.scan.Goals.{then-not-follows-via-then-not-follows, then-not-follows-via-else-not-follows+then-count-eq-MAX_REVISIONS}

pub loop-at-init : goal.loop-at-init
loop-at-init c = scan-start _

pub returns-in_err-size : goal.returns-in_err-size
returns-in_err-size c = rw c.from_residual.ensures (scan-none _ _ _ _ c.loop-at.invariant 0 (sym c.in_err-size.ensures) refl (omega arith))

pub get32-number-requires : goal.get32-number-requires
get32-number-requires c = let a = at_some _ _ _ c.in_ok-size.ensures.0 c.in_ok-size.ensures.1 in omega (arith, a.inside, a.length-is)

pub returns-then-not-follows : goal.returns-then-not-follows
returns-then-not-follows c =
    let a = at_some _ _ _ c.in_ok-size.ensures.0 c.in_ok-size.ensures.1 in
    elim c.then-not-follows.branch [
      | then-not-follows-via-then-not-follows w ↦ scan-wrong _ _ _ _ c.loop-at.invariant _ a _ c.get32-number.ensures _ c.follows.ensures (not-true _ w.if-not-follows.true-raw)
      | then-not-follows-via-else-not-follows+then-count-eq-MAX_REVISIONS w ↦ scan-full _ _ _ _ c.loop-at.invariant _ a w.if-count-eq-MAX_REVISIONS.true
    ]

pub overflow_add-at-in-loop-at : goal.overflow_add-at-in-loop-at
overflow_add-at-in-loop-at c = let a = at_some _ _ _ c.in_ok-size.ensures.0 c.in_ok-size.ensures.1 in omega (arith, a.inside, c.requires)

pub loop-at-preserved : goal.loop-at-preserved
loop-at-preserved c =
    let a = at_some _ _ _ c.in_ok-size.ensures.0 c.in_ok-size.ensures.1 in
    scan_step _ _ _ _ c.loop-at.invariant _ a _ c.get32-number.ensures _ c.follows.ensures (not-false _ c.if-not-follows.false-raw) c.if-count-eq-MAX_REVISIONS.false

pub returns-then-count-eq0 : goal.returns-then-count-eq0
returns-then-count-eq0 c = scan-empty _ _ _ _ c.loop-at.invariant (omega arith) c.if-count-eq0.true

pub bounds-records-0 : goal.bounds-records-0
bounds-records-0 c = scan-nonempty _ _ _ _ c.loop-at.invariant (omega arith) c.if-count-eq0.false

pub returns : goal.returns
returns c = scan-right _ _ _ _ c.loop-at.invariant (omega arith) c.if-count-eq0.false _ _ refl (ap (λ (k : ℕ). 5 + k) c.from.ensures)
