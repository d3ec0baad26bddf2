use Rattle.std.proofs.Common.{◌≡◌, ◌+◌, ◌%◌, sym, ap, ◌∙◌, arith}
use Rattle.layout.specs.Geometry.{blocks_for}
use Rattle.volume.specs.Walks.Marks.{marked}
use Rattle.volume.proofs.Walks.WriteNamed.{written_none, written-some}
use Rattle.volume.proofs.write.mark_written.Goals as goal

pub returns-then-count-eq0 : goal.returns-then-count-eq0
returns-then-count-eq0 c = sym (written_none _ _ _ _ c.if-count-eq0.true)

pub returns : goal.returns
returns c =
    let e : c.div_ceil.result ≡ blocks_for (c.args.offset % 512 + c.args.count) = omega (arith, c.div_ceil.ensures) in
    c.mark_part.ensures ∙ rw e (ap (marked _) (written-some _ _ _ c.if-count-eq0.false))
