use mathlib.Core.Path.{sym, ◌∙◌}
use Rattle.layout.specs.Walks.Slots.{entry_at}
use Rattle.layout.proofs.Walks.Fingerprints.{names-free, names-compared}
use Rattle.layout.proofs.names.same_names.Goals as goal

pub returns-then-type_at-eq0 : goal.returns-then-type_at-eq0
returns-then-type_at-eq0 c =
    names-free c.args.image.now (entry_at c.args.b c.args.k) (entry_at c.args.c c.args.i) c.requires.2 c.requires.3 (sym c.type_at.ensures ∙ c.if-type_at-eq0.true)

pub returns : goal.returns
returns c =
    c.equal.ensures ∙ rw (c.field_at.ensures, c.field_at-2.ensures)
    (names-compared c.args.image.now (entry_at c.args.b c.args.k) (entry_at c.args.c c.args.i) c.requires.2 c.requires.3 (λ z. c.if-type_at-eq0.false (c.type_at.ensures ∙ z)))
