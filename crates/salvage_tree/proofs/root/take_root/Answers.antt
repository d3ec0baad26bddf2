use native.Mathlib.Omega.{arith}
use mathlib.Core.Path.{ap, ◌∙◌}
use lib.ListN.{length}
use Rattle.layout.proofs.Laws.Bytes.{length-zeros}
use Rattle.salvage_tree.proofs.Walks.Folders.{root-own, root-done, no-mark}
use Rattle.salvage_tree.proofs.Walks.Levels.{ready-again}
use Rattle.salvage_tree.proofs.root.take_root.Goals as goal

pub slice_bounds-own-end : goal.slice_bounds-own-end
slice_bounds-own-end c = omega (arith, c.choose-d.ensures.most)

pub overflow_add-root : goal.overflow_add-root
overflow_add-root c = omega (arith, c.requires.0.room)

pub number_at-said-requires : goal.number_at-said-requires
number_at-said-requires c = (omega (arith, c.requires.0.room), omega arith)

pub choose-d-requires : goal.choose-d-requires
choose-d-requires c = (c.requires.0.room, ap length c.no_blocks-own.ensures ∙ length-zeros 64)

pub put_named-requires : goal.put_named-requires
put_named-requires c = (c.requires.0, root-own _ _ _ _ _ _ _ _ c.requires.0.room.table (omega arith) (omega (arith, c.requires.0.room)) (no-mark _ _ c.requires.1) c.choose-d.ensures, omega (arith, c.requires.0.room), omega (arith, c.requires.0.room))

pub take_slots-requires : goal.take_slots-requires
take_slots-requires c = (ready-again _ _ _ _ _ _ _ _ c.requires.0 (omega arith) (omega arith) (omega arith), root-own _ _ _ _ _ _ _ _ c.requires.0.room.table (omega arith) (omega (arith, c.requires.0.room)) (no-mark _ _ c.requires.1) c.choose-d.ensures, omega arith)

pub returns : goal.returns
returns c = root-done _ _ _ _ _ _ _ _ c.requires.0.room.shape c.requires.0.room.table c.requires.1 c.requires.2 c.number_at-said.ensures c.choose-d.ensures _ _ _ _ _ _ c.put_named.ensures c.take_slots.ensures
