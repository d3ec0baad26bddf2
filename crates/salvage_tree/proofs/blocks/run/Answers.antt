use Rattle.std.proofs.Common.{◌≡◌, ℕ, refl, subst, arith}
use Rattle.salvage_tree.specs.Walks.{Ran}
use Rattle.salvage_tree.proofs.Walks.Blocks.{running-start, running_more, ran-bad, ran-met, ran-all}
use Rattle.salvage_tree.proofs.blocks.run.Goals as goal
use Rattle.salvage_tree.proofs.blocks.run.Goals.{then-not-is_good-via-then-not-is_good, then-not-is_good-via-else-not-is_good+then-is_met}

pub loop-k-init : goal.loop-k-init
loop-k-init c = running-start _ _ _ _ _ c.requires.1

pub is_good-requires : goal.is_good-requires
is_good-requires c = (c.requires.0.table, omega (arith, c.requires.0))

pub returns-then-not-is_good : goal.returns-then-not-is_good
returns-then-not-is_good c =
    elim c.then-not-is_good.branch [
      | then-not-is_good-via-then-not-is_good w ↦ ran-bad c.loop-k.invariant _ w.if-not-is_good.ensures refl
      | then-not-is_good-via-else-not-is_good+then-is_met w ↦ ran-met c.loop-k.invariant _ w.is_met.ensures w.if-is_met.true
    ]

pub entry-c-requires : goal.entry-c-requires
entry-c-requires c = let g = c.is_good.ensures.below c.if-not-is_good.false in omega (arith, c.requires.0, g)

pub loop-k-preserved : goal.loop-k-preserved
loop-k-preserved c = running_more c.loop-k.invariant (omega arith) _ c.is_good.ensures c.if-not-is_good.false _ c.is_met.ensures c.if-is_met.false _ c.entry-c.ensures

pub returns : goal.returns
returns c =
    let a = c.args in
    let e : c.loop-k.k ≡ 64 = omega arith in
    subst (λ (x : ℕ). Ran a.image.now a.n a.b a.marks.now x c.loop-k.blocks) e (ran-all c.loop-k.invariant e)
