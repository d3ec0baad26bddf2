use Rattle.std.proofs.Common.{◌≡◌, ◌∙◌, ◌+◌, ◌-◌, sym, arith}
use Rattle.layout.proofs.Walks.Owned.{follow_slots-end, follow_slots-next, follow_slots-stop}
use Rattle.layout.proofs.chains.follow_block.Goals as goal

pub returns-then-not-follow_slot : goal.returns-then-not-follow_slot
returns-then-not-follow_slot c =
    sym (c.loop-k.invariant ∙ follow_slots-stop _ _ _ _ _ _ (omega arith) _ (rw c.if-not-follow_slot.true at c.follow_slot.ensures))

pub loop-k-preserved : goal.loop-k-preserved
loop-k-preserved c =
    let d : 4 - c.loop-k.k - 1 ≡ 4 - (c.loop-k.k + 1) = omega arith in
    c.loop-k.invariant ∙ follow_slots-next _ _ _ _ _ _ (omega arith) _ (rw c.if-not-follow_slot.false at c.follow_slot.ensures) ∙ rw d

pub returns : goal.returns
returns c = sym (c.loop-k.invariant ∙ follow_slots-end _ _ _ _ _ _ (omega arith))
