use Rattle.std.proofs.Common.{ℕ, ◌≡◌, ap, arith}
use Rattle.layout.specs.Looks.{ReadAnswer}
use Rattle.layout.proofs.Laws.Looks.{count_small}
use Rattle.bulgefs.proofs.bulgefs_read_next.Goals as goal

pub overflow_cast-result : goal.overflow_cast-result
overflow_cast-result c =
    let a = c.args in
    let e = ap (λ (x : ReadAnswer). x.count) c.in-Ok.ensures.answer in
    omega (arith, e, count_small a.image.now a.path.now a.position.now a.buffer.now (λ i. omega (arith, c.type_inv.image i)))

pub returns-in-Err-clause-position : goal.returns-in-Err-clause-position
returns-in-Err-clause-position c = omega arith
