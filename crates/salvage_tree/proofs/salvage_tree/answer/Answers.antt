use Rattle.std.proofs.Common.{◌≡◌, ◌*◌, arith}
use Rattle.layout.specs.Bytes.{zeros}
use Rattle.salvage_tree.proofs.Walks.Counts.{cleared, answered}
use Rattle.salvage_tree.proofs.salvage_tree.answer.Goals as goal

pub note_used-requires : goal.note_used-requires
note_used-requires c = (c.requires.0, c.requires.3)

pub table_blocks-t-requires : goal.table_blocks-t-requires
table_blocks-t-requires c = c.requires.0.high

pub repair-requires : goal.repair-requires
repair-requires c =
    let z : c.fill.new.self ≡ zeros (4 * c.args.n) = cleared c.args.n c.args.codes.now _ (c.fill.ensures.after (λ y e. e)) c.requires.4 in
    (record { room = record { shape = c.requires.0; table = c.table_blocks-t.ensures; marks = omega (arith, c.requires.1, c.table_blocks-t.ensures) }; sized = omega (arith, c.requires.4) }, c.requires.2, z)

pub count_codes-requires : goal.count_codes-requires
count_codes-requires c = omega (arith, c.requires.4, c.requires.0.high)

pub count_over-requires : goal.count_over-requires
count_over-requires c = (omega (arith, c.requires.4, c.requires.3), omega (arith, c.requires.4, c.requires.0.high))

pub overflow_add-zeroed : goal.overflow_add-zeroed
overflow_add-zeroed c = omega (arith, c.count_codes.ensures.1, c.count_over.ensures.1, c.requires.4, c.requires.0.high)

pub count_codes-freed-requires : goal.count_codes-freed-requires
count_codes-freed-requires c = omega (arith, c.requires.4, c.requires.0.high)

pub returns : goal.returns
returns c = answered _ _ _ _ _ c.note_used.ensures (omega (arith, c.requires.4)) c.repair.ensures.bytes c.repair.ensures.codes _ _ _ c.count_codes.ensures.0 c.count_over.ensures.0 c.count_codes-freed.ensures.0
