use native.Mathlib.Omega.{arith}
use mathlib.Core.Path.{refl, ap, ◌∙◌}
use lib.ListN.{length}
use Rattle.layout.specs.Walks.Slots.{entry_at}
use Rattle.layout.proofs.Laws.Bytes.{length-zeros}
use Rattle.salvage_tree.proofs.Walks.Folders.{folder-own, hung-in}
use Rattle.salvage_tree.proofs.Walks.Levels.{ready-again}
use Rattle.salvage_tree.proofs.lost.hang_at.Goals as goal

pub number_at-said-requires : goal.number_at-said-requires
number_at-said-requires c = (omega (arith, c.requires.0.room.shape, c.requires.2), omega arith)

pub choose-d-requires : goal.choose-d-requires
choose-d-requires c = (c.requires.0.room, ap length c.no_blocks-own.ensures ∙ length-zeros 64)

pub put_hung-requires : goal.put_hung-requires
put_hung-requires c = (omega (arith, c.requires.0.room.shape, c.requires.4), omega (arith, c.requires.0.room.shape, c.requires.2))

pub overflow_add-t : goal.overflow_add-t
overflow_add-t c = omega (arith, c.requires.0.room.shape.high, c.requires.1, c.requires.2)

pub adopt-requires : goal.adopt-requires
adopt-requires c = (ready-again _ _ _ _ _ _ _ _ c.requires.0 (omega arith) refl refl, folder-own _ _ _ _ _ _ _ _ c.requires.0.room.table c.requires.1 c.requires.2 c.requires.3 c.choose-d.ensures, omega (arith, c.requires.1, c.requires.2), c.requires.4)

pub take_slots-requires : goal.take_slots-requires
take_slots-requires c = (ready-again _ _ _ _ _ _ _ _ c.requires.0 (omega arith) (omega arith) (omega arith), folder-own _ _ _ _ _ _ _ _ c.requires.0.room.table c.requires.1 c.requires.2 c.requires.3 c.choose-d.ensures, omega arith)

pub put_code-requires : goal.put_code-requires
put_code-requires c = omega (arith, c.requires.0.sized, c.requires.4)

pub returns : goal.returns
returns c = hung-in _ _ _ _ _ _ _ _ _ (entry_at c.args.at c.args.k) c.requires.0.room.shape c.requires.0.room.table c.requires.1 c.requires.2 c.requires.3 c.number_at-said.ensures c.choose-d.ensures _ c.put_hung.ensures _ _ _ _ _ _ _ c.adopt.ensures c.take_slots.ensures c.put_code.ensures
