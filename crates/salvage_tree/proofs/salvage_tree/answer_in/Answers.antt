use Rattle.std.proofs.Common.{arith}
use Rattle.layout.proofs.Laws.Bytes.{zeros-own}
use Rattle.salvage_tree.proofs.Walks.Counts.{zeros-are}
use Rattle.salvage_tree.proofs.salvage_tree.answer_in.Goals as goal

pub whole_as_slice-answer : goal.whole_as_slice-answer
whole_as_slice-answer g c = omega (arith, c.requires.0)

pub whole_as_slice-answer-2 : goal.whole_as_slice-answer-2
whole_as_slice-answer-2 g c = omega (arith, c.requires.0)

pub answer-requires : goal.answer-requires
answer-requires g c = let z = zeros-own _ g.row.SIZE (zeros-are g.row.SIZE) in (c.requires.1, omega (arith, z.0, c.requires.2), z.1, omega (arith, z.0, c.requires.1, c.requires.2), c.requires.3)
