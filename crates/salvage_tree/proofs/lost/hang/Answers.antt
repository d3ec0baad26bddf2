use Rattle.std.proofs.Common.{refl, arith}
use Rattle.salvage_tree.proofs.Walks.Lost.{hang-not, hang-named, hang-full, hang-done, lost-clear, lost-good}
use Rattle.salvage_tree.proofs.lost.hang.Goals as goal
use Rattle.salvage_tree.proofs.lost.hang.Goals.{then-not-looks_lost-via-then-not-looks_lost, then-not-looks_lost-via-else-not-looks_lost+then-not-is_unnamed}

pub looks_lost-requires : goal.looks_lost-requires
looks_lost-requires c = (c.requires.0.room, c.requires.2)

pub overflow_add-root : goal.overflow_add-root
overflow_add-root c = omega (arith, c.requires.0.room.shape.high, c.requires.1, c.requires.2)

pub is_unnamed-requires : goal.is_unnamed-requires
is_unnamed-requires c = (c.requires.3, c.requires.2, omega (arith, c.requires.1, c.requires.2), lost-good _ _ _ _ _ c.looks_lost.ensures (c.if-not-looks_lost.false))

pub free_slot-requires : goal.free_slot-requires
free_slot-requires c = c.requires.3

pub hang_at-requires : goal.hang_at-requires
hang_at-requires c = (c.requires.0, c.requires.1, c.requires.2, lost-clear _ _ _ _ _ c.looks_lost.ensures (c.if-not-looks_lost.false), (c.in-Some.ensures.0.block c.in-Some.ensures.1).0)

pub returns-then-not-looks_lost : goal.returns-then-not-looks_lost
returns-then-not-looks_lost c =
    elim c.then-not-looks_lost.branch [
      | then-not-looks_lost-via-then-not-looks_lost w ↦ hang-not _ _ _ _ _ _ c.looks_lost.ensures w.if-not-looks_lost.true
      | then-not-looks_lost-via-else-not-looks_lost+then-not-is_unnamed w ↦ hang-named _ _ _ _ _ _ c.looks_lost.ensures w.if-not-looks_lost.false _ w.is_unnamed.ensures w.if-not-is_unnamed.true
    ]

pub returns-in-Some : goal.returns-in-Some
returns-in-Some c = hang-done _ _ _ _ _ _ c.looks_lost.ensures c.if-not-looks_lost.false _ c.is_unnamed.ensures c.if-not-is_unnamed.false _ _ _ c.in-Some.ensures.0 c.in-Some.ensures.1 _ _ _ c.hang_at.ensures

pub returns-in_default : goal.returns-in_default
returns-in_default c = hang-full _ _ _ _ _ _ c.looks_lost.ensures c.if-not-looks_lost.false _ c.is_unnamed.ensures c.if-not-is_unnamed.false _ _ _ c.in_default.ensures refl
