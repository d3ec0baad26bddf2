use Rattle.std.proofs.Common.{◌≡◌, ◌+◌, ◌-◌, arith}
use Rattle.salvage_tree.proofs.Walks.Blocks.{rowing_start, row-bad, row_more, row-all}
use Rattle.salvage_tree.proofs.blocks.row_good.Goals as goal

pub loop-i-init : goal.loop-i-init
loop-i-init c =
    let p : c.args.b + 0 ≡ c.args.b = omega arith in
    let q : c.args.d - 0 ≡ c.args.d = omega arith in
    rw (p, q) (rowing_start _ _ _ _)

pub returns-then-not-is_good : goal.returns-then-not-is_good
returns-then-not-is_good c = row-bad c.loop-i.invariant (omega arith) _ c.is_good.ensures c.if-not-is_good.true

pub loop-i-preserved : goal.loop-i-preserved
loop-i-preserved c = row_more c.loop-i.invariant _ _ (omega arith) (omega arith) _ c.is_good.ensures c.if-not-is_good.false

pub returns : goal.returns
returns c = row-all c.loop-i.invariant (omega arith)
