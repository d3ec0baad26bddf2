use Rattle.std.proofs.Common.{◌≡◌, ◌+◌, ◌-◌, ◌/◌, refl, arith}
use Rattle.salvage_tree.proofs.Walks.Names.{seeking-start, seeking-more, sought-here, sought-none}
use Rattle.salvage_tree.proofs.names.is_new.Goals as goal

pub loop-k-init : goal.loop-k-init
loop-k-init c = let e : c.args.j + 1 - 1 ≡ c.args.j = omega arith in rw e (seeking-start _ _ _ _)

pub has_name-requires : goal.has_name-requires
has_name-requires c = let g = c.requires.1.below (c.loop-k.k / 4) (omega (arith, c.requires.2)) in (omega (arith, g, c.requires.0), c.requires.3)

pub returns-then-has_name : goal.returns-then-has_name
returns-then-has_name c = sought-here c.loop-k.invariant (omega arith) _ refl _ c.has_name.ensures c.if-has_name.true

pub loop-k-preserved : goal.loop-k-preserved
loop-k-preserved c = seeking-more c.loop-k.invariant (omega arith) _ refl _ c.has_name.ensures c.if-has_name.false _ (omega arith)

pub returns : goal.returns
returns c = sought-none c.loop-k.invariant (omega arith)
