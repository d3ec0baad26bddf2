use Rattle.std.proofs.Common.{◌-◌, length, refl, arith}
use Rattle.layout.proofs.Laws.Bytes.{lent-zeros}
use Rattle.store.proofs.form.clear_from.Goals as goal

pub returns : goal.returns
returns c =
    let a = c.args in
    lent-zeros a.room.now a.at (length a.room.now - a.at) _ _ (c.fill.ensures.after (λ y e. e)) refl (omega arith)
