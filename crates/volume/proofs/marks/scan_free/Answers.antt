use Rattle.std.proofs.Common.{sym, ◌∙◌, arith}
use Rattle.layout.specs.Table.{next}
use Rattle.volume.proofs.Walks.Vacant.{in-use-none, in-use-entry, free-here, free-behind, free-nowhere}
use Rattle.volume.proofs.marks.scan_free.Goals as goal

pub loop-b-init : goal.loop-b-init
loop-b-init c = in-use-none _ _

pub returns-then-entry-eq0 : goal.returns-then-entry-eq0
returns-then-entry-eq0 c =
    free-behind c.loop-b.invariant _ _ (free-here (next c.args.image.now) _ _ c.loop-b-test.true (sym c.entry.ensures ∙ c.if-entry-eq0.true))

pub loop-b-preserved : goal.loop-b-preserved
loop-b-preserved c = in-use-entry c.loop-b.invariant (λ z. c.if-entry-eq0.false (c.entry.ensures ∙ z))

pub returns : goal.returns
returns c = free-nowhere c.loop-b.invariant _ (omega arith)
