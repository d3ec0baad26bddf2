use Rattle.std.proofs.Common.{◌≡◌, ◌*◌, ◌-◌, sym, ◌∙◌, arith}
use Rattle.layout.specs.Geometry.{blocks_for}
use Rattle.volume.proofs.Laws.Shorten.{tail_none}
use Rattle.volume.proofs.Walks.Shorten.{tail-some}
use Rattle.volume.proofs.shorten.tail_length.Goals as goal

pub returns-then-size-old : goal.returns-then-size-old
returns-then-size-old c =
    let e : c.div_ceil.result * 512 - c.args.size ≡ 512 * blocks_for c.args.size - c.args.size = omega (arith, c.div_ceil.ensures) in
    e ∙ tail-some _ _ c.if-size-old.true

pub returns-else-size-old : goal.returns-else-size-old
returns-else-size-old c = sym (tail_none _ _ c.if-size-old.false)
