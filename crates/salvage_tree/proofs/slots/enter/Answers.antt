use Rattle.std.proofs.Common.{refl, arith}
use Rattle.layout.specs.Walks.Slots.{entry_at}
use Rattle.layout.proofs.Walks.Shapes.{shape-block_count}
use Rattle.salvage_tree.proofs.Walks.Entries.{entered-none, entered-some}
use Rattle.salvage_tree.proofs.slots.enter.Goals as goal

pub find_blocks-requires : goal.find_blocks-requires
find_blocks-requires c = (c.requires.0.room, c.requires.2, c.requires.3)

pub drop_slot-requires : goal.drop_slot-requires
drop_slot-requires c = (omega (arith, c.requires.0.room.shape, c.requires.2), omega (arith, c.requires.0.sized, c.requires.2))

pub returns-in_default-clause-entered : goal.returns-in_default-clause-entered
returns-in_default-clause-entered c = entered-none _ _ _ (entry_at c.args.b c.args.k) _ _ _ _ (shape-block_count _ _ c.requires.0.room.shape) c.in_default.ensures.found refl _ _ c.drop_slot.ensures.bytes c.drop_slot.ensures.codes

pub returns-clause-entered : goal.returns-clause-entered
returns-clause-entered c = entered-some _ _ _ (entry_at c.args.b c.args.k) _ _ _ _ (shape-block_count _ _ c.requires.0.room.shape) c.in-Some.ensures.found c.in-Some.ensures.some _ _ _ c.adopt.ensures
