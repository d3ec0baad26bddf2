use native.Mathlib.Omega.{arith}
use Prim.Native.Nat.{◌-◌}
use mathlib.Core.Path.{refl}
use Rattle.salvage_tree.proofs.Walks.Puts.{writing_start, writing-on, writing-end, linked_long}
use Rattle.salvage_tree.proofs.put.link.Goals as goal

pub loop-i-init : goal.loop-i-init
loop-i-init c = writing_start _ _ c.requires.1.some (linked_long _ _ _ c.requires.0 c.requires.1)

pub put_value-requires : goal.put_value-requires
put_value-requires c =
    let g = c.requires.1.below (c.loop-i.i - 1) (omega (arith, c.loop-i.invariant.some, c.loop-i.invariant.most)) in
    let h = c.requires.1.below c.loop-i.i (omega arith) in
    (omega (arith, g, c.loop-i.invariant.here, c.requires.0, c.loop-i.invariant.long, linked_long _ _ _ c.requires.0 c.requires.1), omega (arith, h, c.requires.0.high))

pub loop-i-preserved : goal.loop-i-preserved
loop-i-preserved c = writing-on c.loop-i.invariant (omega arith) _ refl _ (omega arith) c.put_value.ensures

pub put_value-requires-2 : goal.put_value-requires-2
put_value-requires-2 c =
    let g = c.requires.1.below (c.loop-i.i - 1) (omega (arith, c.loop-i.invariant.some, c.loop-i.invariant.most)) in
    (omega (arith, g, c.loop-i.invariant.here, c.requires.0, c.loop-i.invariant.long, linked_long _ _ _ c.requires.0 c.requires.1), omega arith)

pub returns : goal.returns
returns c = writing-end c.loop-i.invariant (omega (arith, c.loop-i.invariant.most)) _ c.put_value-2.ensures
