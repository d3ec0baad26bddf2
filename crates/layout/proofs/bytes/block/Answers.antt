use Rattle.std.proofs.Common.{◌+◌, ◌-◌, ◌*◌, ◌≡◌, arith}
use Rattle.layout.proofs.bytes.block.Goals as goal

pub returns-clause-bytes : goal.returns-clause-bytes
returns-clause-bytes c =
    let e : 512 * c.args.b + 512 - 512 * c.args.b ≡ 512 = omega arith in
    rw e
