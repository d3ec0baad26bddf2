use Rattle.std.proofs.Common.{◌≡◌, ◌+◌, ◌-◌, ◌*◌, ◌%◌, ◌∙◌, arith}
use Rattle.layout.proofs.Laws.Bytes.{part-part}
use Rattle.volume.proofs.moving.copy_head.Goals as goal

pub returns : goal.returns
returns c =
    let a = c.args in
    let o = 128 * (a.k % 4) in
    let z : o + 48 - o ≡ 48 = omega arith in
    c.copy.ensures ∙ rw (z, c.block.ensures.bytes) (part-part a.image.now (512 * a.b) 512 o 48 c.requires.0 (omega arith))
