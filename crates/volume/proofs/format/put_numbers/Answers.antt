use Rattle.std.proofs.Common.{refl, sym, ◌∙◌, arith}
use Rattle.std.proofs.Math.Seq.{length-take-le}
use Rattle.layout.specs.Geometry.{signature}
use Rattle.layout.proofs.Laws.Bytes.{lent}
use Rattle.volume.proofs.Walks.Format.{header-written}
use Rattle.volume.proofs.format.put_numbers.Goals as goal

pub copy-requires : goal.copy-requires
copy-requires c = sym (length-take-le 12 c.args.block.now (omega (arith, c.requires.0)))

pub slice_bounds-copy-end-3 : goal.slice_bounds-copy-end-3
slice_bounds-copy-end-3 c = sym (length-take-le 12 c.args.block.now (omega (arith, c.requires.0)))

pub returns : goal.returns
returns c =
    let a = c.args in
    let e = lent a.block.now 0 12 _ signature c.copy.ensures refl in
    c.put32-5.ensures ∙ rw (c.put32-4.ensures, c.put32-3.ensures, c.put32-2.ensures, c.put32.ensures, e, c.table_blocks-t.ensures)
    (header-written a.block.now a.n a.used c.requires.0)
