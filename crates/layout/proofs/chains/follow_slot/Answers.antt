use Rattle.std.proofs.Common.{◌∙◌, sym, ap, arith, Bool, not}
use Rattle.std.proofs.lemmas.Bool.{ne_eqb}
use Rattle.layout.specs.Walks.Chains.{walked}
use Rattle.layout.proofs.Walks.Owned.{follow_slot-file, follow_slot-none, follow_slot-self}
use Rattle.layout.proofs.chains.follow_slot.Goals as goal

pub returns-then-is_file : goal.returns-then-is_file
returns-then-is_file c = c.follow_file.ensures ∙ follow_slot-file _ _ _ _ _ c.type_at-ty.ensures (sym c.if-is_file.true ∙ c.is_file.ensures)

pub returns-then-ty-ne1 : goal.returns-then-ty-ne1
returns-then-ty-ne1 c =
    ap (λ (t : Bool). walked (not t) c.args.marks.now) (ne_eqb _ 1 c.if-ty-ne1.true)
    ∙ follow_slot-none _ _ _ _ _ c.type_at-ty.ensures (sym c.if-is_file.false ∙ c.is_file.ensures) c.if-ty-ne1.true

pub returns-else-ty-ne1 : goal.returns-else-ty-ne1
returns-else-ty-ne1 c = c.follow_own.ensures ∙ follow_slot-self _ _ _ _ _ c.type_at-ty.ensures (sym c.if-is_file.false ∙ c.is_file.ensures) (omega arith)
