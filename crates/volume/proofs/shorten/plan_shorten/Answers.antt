use Rattle.std.proofs.Common.{◌≡◌, arith}
use Rattle.layout.specs.Geometry.{blocks_for}
use Rattle.volume.proofs.Walks.Shorten.{shorten-sizes, shorten-fewer, shorten-run}
use Rattle.volume.proofs.shorten.plan_shorten.Goals as goal

pub overflow_sub-result : goal.overflow_sub-result
overflow_sub-result c =
    let p = c.requires in
    omega (arith, shorten-fewer _ p.0 p.1, c.div_ceil-kept.ensures)

pub find_cut-requires : goal.find_cut-requires
find_cut-requires c =
    let p = c.requires in
    (shorten-run _ p.0 p.1, omega (arith, shorten-fewer _ p.0 p.1, c.div_ceil-kept.ensures))

pub tail_length-requires : goal.tail_length-requires
tail_length-requires c =
    let p = c.requires in
    let z = shorten-sizes _ p.0 p.1 in
    omega (arith, z.0, z.1)

pub returns : goal.returns
returns c =
    let e : c.div_ceil-kept.result ≡ blocks_for c.args.size = omega (arith, c.div_ceil-kept.ensures) in
    record { kept = e; gone = rw e; cut = rw e at c.find_cut.ensures; tail = c.tail_length.ensures }
