use Prim.Native.Nat.{ℕ, ◌+◌}
use mathlib.Core.Path.{ap, ◌∙◌}
use native.Mathlib.Omega.{arith}
use lib.ListN.{length}
use Rattle.layout.specs.Walks.Names.{some_has}
use Rattle.layout.proofs.Laws.Names.{good_name-length}
use Rattle.layout.proofs.Walks.Names.{may_hold-short, may_hold-some}
use Rattle.layout.proofs.directory.may_hold.Goals as goal

pub returns-then-name-lt4 : goal.returns-then-name-lt4
returns-then-name-lt4 c = may_hold-short _ _ (omega arith)

pub some_has-requires : goal.some_has-requires
some_has-requires c = omega (arith, c.requires.0, good_name-length _ c.requires.1)

pub returns : goal.returns
returns c =
    c.some_has.ensures
    ∙ ap (λ (x : ℕ). some_has c.args.block.now (44 + length c.args.name.now) x) c.requires.2
    ∙ may_hold-some c.args.block.now c.args.name.now (omega arith)
