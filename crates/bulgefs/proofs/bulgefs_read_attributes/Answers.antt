use Rattle.std.proofs.Common.{ℕ, ◌≡◌, ap, arith}
use Rattle.layout.specs.Looks.{ReadAnswer}
use Rattle.layout.proofs.Laws.Looks.{attributes-small}
use Rattle.bulgefs.proofs.bulgefs_read_attributes.Goals as goal

pub overflow_cast-result : goal.overflow_cast-result
overflow_cast-result c =
    let a = c.args in
    let e = ap (λ (x : ReadAnswer). x.count) c.in-Ok.ensures in
    omega (arith, e, attributes-small a.image.now a.path.now a.buffer.now)
