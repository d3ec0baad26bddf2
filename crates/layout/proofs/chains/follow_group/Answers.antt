use Rattle.std.proofs.Common.{◌∙◌, ◌+◌, ◌-◌, sym, ap, arith, Bool}
use Rattle.layout.specs.Walks.Chains.{walked}
use Rattle.layout.proofs.Walks.Owned.{follow_blocks-none}
use Rattle.layout.proofs.chains.follow_group.Goals as goal

pub returns-then-all_zero : goal.returns-then-all_zero
returns-then-all_zero c =
    let a = c.args in
    ap (λ (t : Bool). walked t a.marks.now) c.if-all_zero.true
    ∙ follow_blocks-none a.image.now a.n a.dirs.now a.from a.marks.now a.k (a.from + a.k - a.from) (omega arith) (sym c.if-all_zero.true ∙ c.all_zero.ensures)
