use native.Mathlib.Omega.{arith}
use Rattle.salvage_tree.proofs.Walks.Puts.{sized-is}
use Rattle.salvage_tree.proofs.put.put_size.Goals as goal

pub number_at-requires : goal.number_at-requires
number_at-requires c = (c.requires.0, omega arith)

pub overflow_mul-b : goal.overflow_mul-b
overflow_mul-b c = omega (arith, c.requires.0)

pub overflow_mul-i : goal.overflow_mul-i
overflow_mul-i c = omega arith

pub overflow_add-b : goal.overflow_add-b
overflow_add-b c = omega (arith, c.requires.0)

pub overflow_add-b-2 : goal.overflow_add-b-2
overflow_add-b-2 c = omega (arith, c.requires.0)

pub put_number-requires : goal.put_number-requires
put_number-requires c = (omega (arith, c.requires.0), omega (arith, c.requires.2))

pub note-requires : goal.note-requires
note-requires c = (omega (arith, c.requires.1), omega arith)

pub returns : goal.returns
returns c =
    let g = sized-is _ _ _ _ _ _ c.number_at.ensures c.requires.0 c.requires.2 _ _ c.put_number.ensures c.note.ensures in
    record { bytes = g.0; codes = g.1 }
