use Rattle.std.proofs.Common.{◌≡◌, refl, ◌∙◌, arith}
use Rattle.volume_file.specs.Save.{restored}
use Rattle.volume_file.proofs.Walks.Turns.{restore-below, restore-turn}
use Rattle.volume_file.proofs.recovery.restore.Goals as goal

pub loop-j-init : goal.loop-j-init
unfolding restored
loop-j-init c = refl

pub restore_one-requires : goal.restore_one-requires
restore_one-requires c =
    let l = c.loop-j in
    let p = c.requires in
    (p.0, omega arith, omega arith, restore-below _ _ _ p.1 p.2 p.3 l.j _ l.invariant (omega arith))

pub loop-j-preserved : goal.loop-j-preserved
loop-j-preserved c =
    let l = c.loop-j in
    let p = c.requires in
    restore-turn _ _ _ p.1 p.2 p.3 l.j _ l.invariant (omega arith) _ c.restore_one.ensures

pub returns : goal.returns
returns c =
    let e : c.loop-j.j ≡ c.args.k = omega arith in
    c.loop-j.invariant ∙ rw e
