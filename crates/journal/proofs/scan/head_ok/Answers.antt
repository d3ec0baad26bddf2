use mathlib.Core.Path.{sym, ◌∙◌}
use native.Mathlib.Omega.{arith}
use borrow.Author.Tests.{lt-leb}
use Rattle.journal.specs.Journal.{used}
use Rattle.journal.proofs.Walks.Scanning.{head-facts, head-rest}
use Rattle.layout.proofs.Laws.Tests.{is_false}
use Rattle.journal.proofs.scan.head_ok.Goals as goal

pub returns-then-journal-lt-MIN_JOURNAL : goal.returns-then-journal-lt-MIN_JOURNAL
returns-then-journal-lt-MIN_JOURNAL c = sym (is_false _ (λ t. let f = head-facts _ t in grind arith))

pub returns-then-used-ge5 : goal.returns-then-used-ge5
unfolding used
returns-then-used-ge5 c =
    let j = c.args.journal.now in
    rw c.get32-used.ensures (sym (head-rest j (omega arith) (omega arith) c.if-journal-ne1.false (omega arith)))

pub returns-else-used-ge5 : goal.returns-else-used-ge5
unfolding used
returns-else-used-ge5 c = lt-leb _ _ c.if-used-ge5.false ∙ sym (is_false _ (λ t. let f = head-facts _ t in omega arith))
