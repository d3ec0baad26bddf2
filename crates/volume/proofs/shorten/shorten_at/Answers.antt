use mathlib.Core.Path.{◌∙◌}
use native.Mathlib.Omega.{arith}
use Rattle.layout.proofs.Walks.Shapes.{sound-shape}
use Rattle.volume.proofs.Walks.Shorten.{shorten-sizes, last-inside, start-inside, cut-freeable, start-given, tail-short, shorten-done}
use Rattle.volume.proofs.shorten.shorten_at.Goals as goal

pub plan_shorten-p-requires : goal.plan_shorten-p-requires
plan_shorten-p-requires c = (c.requires.0, c.requires.1)

pub cut-requires : goal.cut-requires
cut-requires c =
    let p = c.requires in
    rw c.plan_shorten-p.ensures.gone (cut-freeable _ p.0 p.1 c.plan_shorten-p.ensures.cut)

pub clear_tail-requires : goal.clear_tail-requires
clear_tail-requires c =
    let p = c.requires in
    let h = sound-shape c.args.image.now p.0 in
    (omega (arith, last-inside _ p.0 p.1 c.plan_shorten-p.ensures.cut), tail-short _ p.0 p.1 c.plan_shorten-p.ensures.cut c.plan_shorten-p.ensures.tail)

pub set_file-requires : goal.set_file-requires
set_file-requires c =
    let p = c.requires in
    let h = sound-shape c.args.image.now p.0 in
    let z = shorten-sizes _ p.0 p.1 in
    (omega (arith, p.1.located.inside), omega (arith, start-inside _ p.0 p.1 c.plan_shorten-p.ensures.cut), omega (arith, z.0, z.1), omega (arith, z.0, z.1, c.plan_shorten-p.ensures.kept))

pub returns : goal.returns
returns c = let p = c.requires in
    let cut = c.plan_shorten-p.ensures.cut in record { first = start-given _ p.0 p.1 cut; bytes = c.set_file.ensures ∙ rw (c.clear_tail.ensures, c.cut.ensures, c.plan_shorten-p.ensures.gone, c.plan_shorten-p.ensures.kept) (shorten-done _ p.0 p.1 cut c.plan_shorten-p.ensures.tail _) }
