use mathlib.Core.Path.{◌∙◌}
use native.Mathlib.Omega.{arith}
use Rattle.layout.proofs.Walks.Looks.{located-below}
use Rattle.layout.proofs.Walks.Shapes.{sound-shape}
use Rattle.volume.proofs.Walks.Plan.{plan-sizes, room-given}
use Rattle.volume.proofs.Walks.WriteNamed.{last_under, write-named}
use Rattle.volume.proofs.write.write_at_named.Goals as goal

pub plan_write-p-requires : goal.plan_write-p-requires
plan_write-p-requires c = let p = c.requires in (p.0, p.1, p.2)

pub mark-requires : goal.mark-requires
mark-requires c =
    let p = c.requires in
    let h = sound-shape c.args.image.now p.0 in
    omega (arith, p.1.located.inside, p.3)

pub mark_written-requires : goal.mark_written-requires
mark_written-requires c =
    let p = c.requires in
    (located-below p.1.located p.1.accepted p.0, (plan-sizes p.1 _ _ p.0 p.2).2, omega (arith, p.3))

pub mark_grown-requires : goal.mark_grown-requires
mark_grown-requires c =
    let p = c.requires in (
      sound-shape _ p.0,
      rw c.plan_write-p.ensures.last (last_under (located-below p.1.located p.1.accepted p.0)),
      room-given p.1 _ _ p.0 p.2 _ c.plan_write-p.ensures.taken,
      omega (arith, p.3),
    )

pub returns : goal.returns
returns c =
    let p = c.requires in
    c.mark_grown.ensures ∙ rw (c.mark_written.ensures, c.mark.ensures)
    (write-named p.1 _ _ p.0 p.2 _ c.plan_write-p.ensures.taken _ _ c.plan_write-p.ensures.last)
