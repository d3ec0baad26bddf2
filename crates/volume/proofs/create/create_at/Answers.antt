use mathlib.Core.Path.{◌∙◌}
use native.Mathlib.Omega.{arith}
use Rattle.volume.proofs.Walks.Create.{name-short, vacant-inside, create-written}
use Rattle.volume.proofs.create.create_at.Goals as goal

pub put_slot-requires : goal.put_slot-requires
put_slot-requires c =
    let p = c.requires in
    (vacant-inside p.2 p.0, name-short c.args.path.now _ p.1 c.last_part.ensures)

pub overflow_cast-result : goal.overflow_cast-result
overflow_cast-result c = omega (arith, c.requires.2.low)

pub returns : goal.returns
returns c = let a = c.args in
    let v = c.requires.2 in record { slot = v.lowest; bytes = c.put_slot.ensures ∙ create-written v a.given.kind a.given.user a.given.group a.given.permissions a.given.flags a.given.time _ c.last_part.ensures }
