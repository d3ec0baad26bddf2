use native.Mathlib.Omega.{arith}
use Prim.Native.Nat.{◌-◌}
use Rattle.salvage_tree.proofs.Walks.Puts.{links-start, links-wrong, links-on, links_end}
use Rattle.salvage_tree.proofs.put.links_right.Goals as goal

pub loop-i-init : goal.loop-i-init
loop-i-init c = links-start _ _ c.requires.1.some

pub entry-requires : goal.entry-requires
entry-requires c = let g = c.requires.1.below (c.loop-i.i - 1) (omega (arith, c.loop-i.invariant.some, c.loop-i.invariant.most)) in omega (arith, g, c.loop-i.invariant.here, c.requires.0)

pub returns-then-entry-blocks : goal.returns-then-entry-blocks
returns-then-entry-blocks c = links-wrong c.loop-i.invariant (omega arith) _ c.entry.ensures c.if-entry-blocks.true

pub loop-i-preserved : goal.loop-i-preserved
loop-i-preserved c = links-on c.loop-i.invariant (omega arith) _ c.entry.ensures c.if-entry-blocks.false

pub entry-requires-2 : goal.entry-requires-2
entry-requires-2 c = let g = c.requires.1.below (c.loop-i.i - 1) (omega (arith, c.loop-i.invariant.some, c.loop-i.invariant.most)) in omega (arith, g, c.loop-i.invariant.here, c.requires.0)

pub returns : goal.returns
returns c = links_end c.loop-i.invariant (omega (arith, c.loop-i.invariant.most)) _ c.entry-2.ensures
