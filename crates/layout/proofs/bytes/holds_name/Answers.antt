use Rattle.std.proofs.Common.{sym, ◌∙◌, arith}
use Rattle.std.proofs.lemmas.Bool.{eqb-true, eqb-false}
use Rattle.layout.proofs.Laws.Names.{good_name-length}
use Rattle.layout.proofs.Walks.Names.{holds-begins, holds-longer}
use Rattle.layout.proofs.bytes.holds_name.Goals as goal

pub begins-requires : goal.begins-requires
begins-requires c = omega (arith, c.requires.0, good_name-length _ c.requires.1)

pub returns-then-ends_at : goal.returns-then-ends_at
returns-then-ends_at c = c.begins.ensures ∙ holds-begins _ _ c.requires.1 (eqb-true _ 0 (sym c.ends_at.ensures ∙ c.if-ends_at.true))

pub returns-else-ends_at : goal.returns-else-ends_at
returns-else-ends_at c = c.if-ends_at.false ∙ sym (holds-longer c.args.field.now c.args.name.now (eqb-false _ 0 (sym c.ends_at.ensures ∙ c.if-ends_at.false)))
