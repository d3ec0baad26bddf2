use mathlib.Core.Path.{ap, ◌∙◌}
use Prim.Native.Nat.{ℕ, ◌+◌, ◌-◌}
use native.Mathlib.Omega.{arith}
use mathlib.Core.List.{List}
use Rattle.layout.specs.Bytes.{bytes4, splice}
use Rattle.layout.proofs.Laws.Bytes.{lent-zeros}
use Rattle.journal.proofs.restoring.drop_record.Goals as goal

pub returns : goal.returns
returns c =
    let put32 = c.put32 in
    let fill = c.fill in
    let a = c.args in
    put32.ensures ∙ ap (λ (x : List ℕ). splice x 1 (bytes4 a.at))
    (lent-zeros a.journal.now a.at a.size (a.at + a.size - a.at) _ (fill.ensures.after (λ y e. e)) (omega arith) (omega arith))
