use mathlib.Core.Path.{sym, ◌∙◌}
use native.Mathlib.Omega.{arith}
use Rattle.journal.specs.Journal.{used}
use Rattle.journal.proofs.Walks.Scanning.{head-facts, head-well}
use Rattle.journal.proofs.scan.scan.Goals as goal

pub returns-then-not-head_ok : goal.returns-then-not-head_ok
returns-then-not-head_ok c =
    head-well _ _ ∙ rw (sym c.head_ok.ensures ∙ c.if-not-head_ok.true)

pub get32-used-requires : goal.get32-used-requires
get32-used-requires c =
    (head-facts _ (sym c.head_ok.ensures ∙ c.if-not-head_ok.false)).1

pub scan_records-requires : goal.scan_records-requires
unfolding used
scan_records-requires c =
    let h = (head-facts _ (sym c.head_ok.ensures ∙ c.if-not-head_ok.false)).0 in
    let g = c.get32-used.ensures in
    record { used-is = g; low = omega arith; high = omega arith; short = h.short; blocks = c.requires }

pub returns : goal.returns
returns c =
    rw (head-well c.args.journal.now c.args.n, sym c.head_ok.ensures ∙ c.if-not-head_ok.false) c.scan_records.ensures
