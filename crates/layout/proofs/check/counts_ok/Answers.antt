use Prim.Native.Nat.{ℕ}
use mathlib.Core.List.{List}
use mathlib.Core.Path.{ap, ◌∙◌}
use native.Mathlib.Omega.{arith}
use Rattle.layout.specs.Table.{next}
use Rattle.layout.specs.Walks.Stages.{counts_ok}
use Rattle.layout.proofs.Walks.Stages.{stage7-counts}
use Rattle.layout.proofs.Walks.Used.{count_used-most}
use Rattle.layout.proofs.check.counts_ok.Goals as goal

pub counted-requires : goal.counted-requires
counted-requires c =
    (omega arith, omega (arith, c.requires.1, count_used-most (next c.args.image.now) c.args.n))

pub returns : goal.returns
returns c =
    let a = c.args in
    c.counted.ensures ∙ ap (λ (h : List ℕ). counts_ok h a.n a.used) c.block.ensures.bytes
    ∙ stage7-counts a.image.now a.n a.used c.requires.0 c.requires.1
