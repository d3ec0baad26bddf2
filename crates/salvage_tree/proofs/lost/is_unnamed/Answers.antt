use native.Mathlib.Omega.{arith}
use mathlib.Core.Path.{ap, ◌∙◌}
use lib.ListN.{length}
use Rattle.layout.proofs.Laws.Bytes.{length-zeros}
use Rattle.salvage_tree.proofs.Walks.Lost.{root-read, lent-blocks, lent-long, unnamed-is, good-self}
use Rattle.salvage_tree.proofs.lost.is_unnamed.Goals as goal

pub number_at-d-requires : goal.number_at-d-requires
number_at-d-requires c = (omega (arith, c.requires.0.shape, c.requires.2), omega arith)

pub read_blocks-requires : goal.read_blocks-requires
read_blocks-requires c = (root-read _ _ _ _ c.requires.0 c.number_at-d.ensures, ap length c.no_blocks-blocks.ensures ∙ length-zeros 64)

pub overflow_mul-d : goal.overflow_mul-d
overflow_mul-d c = let B = (root-read _ _ _ _ c.requires.0 c.number_at-d.ensures).blocks.few in omega (arith, B)

pub overflow_sub-d : goal.overflow_sub-d
overflow_sub-d c = let B = (root-read _ _ _ _ c.requires.0 c.number_at-d.ensures).blocks.some in omega (arith, B)

pub name_at-requires : goal.name_at-requires
name_at-requires c = omega (arith, c.requires.0.shape, c.requires.1)

pub is_new-requires : goal.is_new-requires
is_new-requires c =
    let D = c.requires.0 in let B = (root-read _ _ _ _ D c.number_at-d.ensures).blocks.some in let l = lent-long _ _ _ _ D c.number_at-d.ensures _ c.read_blocks.ensures in
    (D.shape, lent-blocks _ _ _ _ D c.number_at-d.ensures _ c.read_blocks.ensures, omega (arith, l, B), good-self _ _ _ c.name_at.ensures c.requires.3)

pub returns : goal.returns
returns c = unnamed-is _ _ _ _ c.requires.0 c.number_at-d.ensures _ c.read_blocks.ensures _ _ c.name_at.ensures _ c.is_new.ensures
