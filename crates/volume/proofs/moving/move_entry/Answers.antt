use mathlib.Core.Path.{◌∙◌}
use native.Mathlib.Omega.{arith}
use Rattle.layout.specs.Walks.Slots.{entry_at}
use Rattle.layout.proofs.Laws.Bytes.{length_part}
use Rattle.volume.proofs.Walks.Create.{name-short}
use Rattle.volume.proofs.moving.move_entry.Goals as goal

-- src/moving.rt:172:5
pub put_moved-requires : goal.put_moved-requires
put_moved-requires c =
    let a = c.args in
    let p = c.requires in
    (omega (arith, c.clear_slot, p), rw c.copy_head.ensures (length_part a.image.now (entry_at a.found.size a.found.first) 48 (omega (arith, p))), name-short a.to.now _ p.2 c.last_part.ensures)

-- src/moving.rt:165:1
pub returns : goal.returns
returns c = c.put_moved.ensures ∙ rw (c.last_part.ensures, c.copy_head.ensures, c.clear_slot.ensures)
