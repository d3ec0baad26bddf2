use Rattle.std.proofs.Common.{◌+◌, ◌-◌, ◌*◌, length, arith}
use Rattle.layout.proofs.Laws.Bytes.{lent}
use Rattle.volume.proofs.data.put_part.Goals as goal

pub returns : goal.returns
returns c =
    let a = c.args in
    lent a.image.now (512 * a.b + a.o) (512 * a.b + a.o + length a.bytes.now - (512 * a.b + a.o)) _ a.bytes.now c.copy.ensures (omega arith)
