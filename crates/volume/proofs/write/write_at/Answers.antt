use mathlib.Core.Path.{◌∙◌}
use Rattle.volume.proofs.Walks.WriteImage.{write-growable, write-placed, write-settable, write_done}
use Rattle.volume.proofs.write.write_at.Goals as goal

pub plan_write-p-requires : goal.plan_write-p-requires
plan_write-p-requires c = c.requires

pub grow-taken-requires : goal.grow-taken-requires
grow-taken-requires c =
    let p = c.requires in
    write-growable p.1 _ c.args.bytes.now p.0 p.2 c.plan_write-p.ensures.plan

pub put_data-requires : goal.put_data-requires
put_data-requires c =
    let p = c.requires in
    let grow = c.grow-taken.ensures in
    write-placed p.1 _ c.args.bytes.now p.0 p.2 c.plan_write-p.ensures.plan _ grow.bytes _ grow.first _ c.start_block-start.ensures

pub set_file-requires : goal.set_file-requires
set_file-requires c =
    let p = c.requires in
    let grow = c.grow-taken.ensures in
    write-settable p.1 _ c.args.bytes.now p.0 p.2 c.plan_write-p.ensures.plan _ grow.bytes _ grow.first _ c.start_block-start.ensures _ c.put_data.ensures

pub returns : goal.returns
returns c =
    let p = c.requires in
    let grow = c.grow-taken.ensures in
    c.set_file.ensures
    ∙ write_done p.1 _ c.args.bytes.now p.0 p.2 c.plan_write-p.ensures.plan _ grow.bytes _ grow.first _ c.start_block-start.ensures _ c.put_data.ensures _
