use native.Mathlib.Omega.{arith}
use Rattle.layout.specs.Walks.Slots.{entry_at}
use Rattle.layout.proofs.Walks.Shapes.{shape-block_count}
use Rattle.salvage_tree.proofs.Walks.Entries.{file-lost, file-kept, below_as}
use Rattle.salvage_tree.proofs.slots.take_file.Goals as goal

pub number_at-first-requires : goal.number_at-first-requires
number_at-first-requires c = (omega (arith, c.requires.0.room.shape, c.requires.1), omega arith)

pub number_at-blocks-requires : goal.number_at-blocks-requires
number_at-blocks-requires c = (omega (arith, c.requires.0.room.shape, c.requires.1), omega arith)

pub claim-requires : goal.claim-requires
claim-requires c = c.requires.0.room

pub drop_slot-requires : goal.drop_slot-requires
drop_slot-requires c = (omega (arith, c.requires.0.room.shape, c.requires.1), omega (arith, c.requires.0.sized, c.requires.1))

pub returns-then-not-claim : goal.returns-then-not-claim
returns-then-not-claim c = file-lost _ _ _ _ (entry_at c.args.b c.args.k) _ _ (shape-block_count _ _ c.requires.0.room.shape) c.number_at-first.ensures c.number_at-blocks.ensures _ _ c.claim.ensures c.if-not-claim.true _ _ c.drop_slot.ensures.bytes c.drop_slot.ensures.codes

pub take_file-code-requires : goal.take_file-code-requires
take_file-code-requires c =
    let h = c.requires.0.room.shape in
    (record { shape = h; table = c.requires.0.room.table; marks = omega (arith, c.requires.0.room.marks) }, c.requires.1, below_as _ _ _ _ _ h c.number_at-first.ensures c.number_at-blocks.ensures (c.claim.ensures.below c.if-not-claim.false))

pub put_code-requires : goal.put_code-requires
put_code-requires c = omega (arith, c.requires.0.sized, c.requires.1)

pub returns : goal.returns
returns c = file-kept _ _ _ _ (entry_at c.args.b c.args.k) _ _ (shape-block_count _ _ c.requires.0.room.shape) c.number_at-first.ensures c.number_at-blocks.ensures _ _ c.claim.ensures c.if-not-claim.false _ _ _ _ c.take_file-code.ensures c.put_code.ensures
