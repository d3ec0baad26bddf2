use Rattle.std.proofs.Common.{sym, ◌∙◌, arith}
use Rattle.volume.proofs.Walks.Notes.{passed_none, pass-block, pass-entry, found_here, found_none}
use Rattle.volume.proofs.notes.search.Goals as goal

pub loop-b-init : goal.loop-b-init
loop-b-init c = passed_none _ _ _

pub loop-b-preserved-then-notes-i-eq0 : goal.loop-b-preserved-then-notes-i-eq0
loop-b-preserved-then-notes-i-eq0 c = pass-block c.loop-b.invariant c.if-notes-i-eq0.true

pub returns-then-entry-eq0 : goal.returns-then-entry-eq0
returns-then-entry-eq0 c = found_here c.loop-b.invariant _ c.loop-b-test.true c.if-notes-i-eq0.false (sym c.entry.ensures ∙ c.if-entry-eq0.true)

pub loop-b-preserved : goal.loop-b-preserved
loop-b-preserved c = pass-entry c.loop-b.invariant c.if-notes-i-eq0.false (λ z. c.if-entry-eq0.false (c.entry.ensures ∙ z))

pub returns : goal.returns
returns c = found_none c.loop-b.invariant _ (omega arith)
