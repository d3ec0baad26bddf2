use Rattle.std.proofs.Common.{sym, ◌∙◌, rules}
use Rattle.layout.specs.Table.{table_block_of}
use Rattle.volume.proofs.Walks.Marks.{entries_none, entries-start}
use Rattle.volume.proofs.marks.mark_entries.Goals as goal

pub returns-then-k-eq0 : goal.returns-then-k-eq0
returns-then-k-eq0 c = sym (entries_none _ _ _ _ c.if-k-eq0.true)

pub returns : goal.returns
returns c = c.mark_each.ensures table_block_of (λ b r h e. search rules) ∙ rw c.mark.ensures (sym (entries-start _ _ _ _ c.if-k-eq0.false))
