use Rattle.std.proofs.Common.{◌≡◌, ◌∙◌, ◌+◌, ◌-◌, sym, arith}
use Rattle.layout.proofs.Walks.Owned.{follow_blocks-end, follow_blocks-next, follow_blocks-stop}
use Rattle.layout.proofs.chains.follow_run.Goals as goal

pub returns-then-not-follow_marked : goal.returns-then-not-follow_marked
returns-then-not-follow_marked c =
    sym (c.loop-b.invariant ∙ follow_blocks-stop _ _ _ _ _ _ 1 (omega arith) _ (rw c.if-not-follow_marked.true at c.follow_marked.ensures))

pub loop-b-preserved : goal.loop-b-preserved
loop-b-preserved c =
    let d : c.args.from + c.args.k - c.loop-b.b - 1 ≡ c.args.from + c.args.k - (c.loop-b.b + 1) = omega arith in
    c.loop-b.invariant ∙ follow_blocks-next _ _ _ _ _ _ 1 (omega arith) _ (rw c.if-not-follow_marked.false at c.follow_marked.ensures) ∙ rw d

pub returns : goal.returns
returns c = sym (c.loop-b.invariant ∙ follow_blocks-end _ _ _ _ _ _ (omega arith))
