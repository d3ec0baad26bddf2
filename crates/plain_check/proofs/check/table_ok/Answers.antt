use mathlib.Core.Path.{refl, ◌∙◌}
use Rattle.std.proofs.Common.{rules, arith}
use Rattle.plain_check.specs.Plain.{Claims}
use Rattle.plain_check.proofs.Walks.Tests.{taken, left}
use Rattle.plain_check.proofs.Walks.Stages.{six-all}
use Rattle.plain_check.proofs.check.table_ok.Goals as goal

pub table_blocks-t-requires : goal.table_blocks-t-requires
table_blocks-t-requires c = c.requires.high

pub overflow_add-t : goal.overflow_add-t
overflow_add-t c = omega (arith, c.table_blocks-t.ensures, c.requires.high)

pub overflow_add-t-2 : goal.overflow_add-t-2
overflow_add-t-2 c = omega (arith, c.table_blocks-t.ensures, c.requires.high)

pub entries_are-requires : goal.entries_are-requires
entries_are-requires c = omega (arith, c.table_blocks-t.ensures, c.requires.high)

pub overflow_mul-t : goal.overflow_mul-t
overflow_mul-t c = omega (arith, c.table_blocks-t.ensures, c.requires.high)

pub entries_are-requires-2 : goal.entries_are-requires-2
entries_are-requires-2 c = omega (arith, c.table_blocks-t.ensures, c.requires.high)

pub all_counted-requires : goal.all_counted-requires
all_counted-requires c = c.requires

pub returns-then-claimed-n : goal.returns-then-claimed-n
returns-then-claimed-n c = taken _ _ _ (six-all c.args.image.now c.args.n _ c.requires c.table_blocks-t.ensures _ (c.tally-claimed.ensures Claims (λ first k r h l p. search rules)) _ _ _ c.entries_are.ensures c.entries_are-2.ensures c.all_counted.ensures) c.if-claimed-n.true

pub returns-else-claimed-n : goal.returns-else-claimed-n
returns-else-claimed-n c = c.if-claimed-n.false ∙ left _ _ _ (six-all c.args.image.now c.args.n _ c.requires c.table_blocks-t.ensures _ (c.tally-claimed.ensures Claims (λ first k r h l p. search rules)) _ _ _ c.entries_are.ensures c.entries_are-2.ensures refl) c.if-claimed-n.false
