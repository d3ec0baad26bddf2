use Rattle.std.proofs.Common.{take, sym, arith}
use Rattle.std.proofs.Math.Seq.{length-take-le}
use Rattle.lister.proofs.Bounds.{listing-short}
use Rattle.lister.proofs.main.Goals as goal

pub slice_bounds-out-end : goal.slice_bounds-out-end
slice_bounds-out-end c = omega (arith, listing-short (take c.read_full-got.result c.read_full-got.new.buf), c.render-count.ensures.1, c.render-count.auto.out)

pub slice_bounds-write_all-end : goal.slice_bounds-write_all-end
slice_bounds-write_all-end c = sym (length-take-le c.render-count.result c.render-count.new.out (omega (arith, listing-short (take c.read_full-got.result c.read_full-got.new.buf), c.render-count.ensures.1, c.render-count.auto.out)))
