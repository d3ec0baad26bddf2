use Rattle.std.proofs.Common.{◌≡◌, ◌∙◌, ◌+◌, ◌-◌, sym, arith}
use Rattle.layout.proofs.Walks.Owned.{follow_blocks-end, follow_blocks-next, follow_blocks-stop}
use Rattle.layout.proofs.chains.follow_blocks.Goals as goal

pub returns-then-not-follow_group : goal.returns-then-not-follow_group
returns-then-not-follow_group c =
    let l = c.loop-b in
    sym (l.invariant.1 ∙ follow_blocks-stop _ _ _ _ _ _ c.min-k.result (omega arith) _ (rw c.if-not-follow_group.true at c.follow_group.ensures))

pub loop-b-preserved : goal.loop-b-preserved
loop-b-preserved c =
    let l = c.loop-b in
    let k = c.min-k.result in
    let d : c.args.n - l.b - k ≡ c.args.n - (l.b + k) = omega arith in
    (omega arith, l.invariant.1 ∙ follow_blocks-next _ _ _ _ _ _ k (omega arith) _ (rw c.if-not-follow_group.false at c.follow_group.ensures) ∙ rw d)

pub returns : goal.returns
returns c = sym (c.loop-b.invariant.1 ∙ follow_blocks-end _ _ _ _ _ _ (omega arith))
