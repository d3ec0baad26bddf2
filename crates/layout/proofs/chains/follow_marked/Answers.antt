use Rattle.std.proofs.Common.{◌∙◌, ap, Bool}
use Rattle.std.proofs.lemmas.Bool.{eq-eqb}
use Rattle.layout.specs.Walks.Chains.{walked}
use Rattle.layout.proofs.Walks.Owned.{follow_blocks-other, follow_blocks-marked}
use Rattle.layout.proofs.chains.follow_marked.Goals as goal

pub returns-then-dirs-b-eq0 : goal.returns-then-dirs-b-eq0
returns-then-dirs-b-eq0 c =
    ap (λ (t : Bool). walked t c.args.marks.now) (eq-eqb _ 0 c.if-dirs-b-eq0.true)
    ∙ follow_blocks-other _ _ c.args.dirs.now _ _ c.if-dirs-b-eq0.true

pub returns-else-dirs-b-eq0 : goal.returns-else-dirs-b-eq0
returns-else-dirs-b-eq0 c = c.follow_block.ensures ∙ follow_blocks-marked _ _ c.args.dirs.now _ _ c.if-dirs-b-eq0.false
