use Prim.Native.Nat.{◌*◌, ◌+◌, ◌-◌}
use mathlib.Core.List.{[], ◌∷◌}
use native.Mathlib.Omega.{arith}
use Rattle.layout.proofs.Laws.Bytes.{lent-part}
use Rattle.volume.proofs.file.end_block.Goals as goal

pub returns : goal.returns
returns c =
    let put-end = c.put_end in
    let a = c.args in
    lent-part a.image.now (512 * a.b) ((512 * a.b + 512) - 512 * a.b) 384 (0xFF ∷ []) _ put-end.ensures (omega arith) (omega arith)
