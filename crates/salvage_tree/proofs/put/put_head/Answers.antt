use native.Mathlib.Omega.{arith}
use mathlib.Core.Path.{ap, ◌∙◌}
use mathlib.Core.List.{List}
use Prim.Native.Nat.{ℕ}
use lib.ListN.{length, get_or}
use Rattle.salvage_tree.specs.Walks.{self_right}
use Rattle.salvage_tree.proofs.Walks.Puts.{head-put, head_bytes}
use Rattle.salvage_tree.proofs.put.put_head.Goals as goal

pub bounds-blocks-0 : goal.bounds-blocks-0
bounds-blocks-0 c = omega (arith, c.requires.1.some)

pub links_right-chained-requires : goal.links_right-chained-requires
links_right-chained-requires c = (c.requires.0, c.requires.1)

pub link-requires : goal.link-requires
link-requires c = (c.requires.0, c.requires.1)

pub self_right-named-requires : goal.self_right-named-requires
self_right-named-requires c = let g = c.requires.1.below 0 c.requires.1.some in (omega (arith, g, c.requires.0), c.requires.3)

pub put_self-requires : goal.put_self-requires
put_self-requires c = let g = c.requires.1.below 0 c.requires.1.some in (omega (arith, g, c.requires.0), omega (arith, g, c.requires.0.high), omega (arith, c.requires.2, c.requires.0.high), c.requires.1.few, c.requires.3)

pub returns : goal.returns
returns c = let e = head_bytes _ _ _ _ _ _ c.link.ensures c.put_self.ensures in record { right = head-put _ _ _ _ _ c.requires.0 c.requires.1 c.requires.2 c.requires.3 _ _ c.links_right-chained.ensures (c.self_right-named.ensures ∙ ap (λ (x : List ℕ). self_right x (get_or c.args.blocks.now 0 0) c.args.parent (length c.args.blocks.now) c.args.field.now) c.link.ensures) _ e; bytes = e }
