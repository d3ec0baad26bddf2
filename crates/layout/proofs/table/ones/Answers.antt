use Rattle.std.proofs.Common.{◌∙◌, ap, refl, arith, rules, ℕ, eqb}
use Rattle.std.proofs.lemmas.Iterator.{YieldsList-from_range}
use Rattle.std.proofs.lemmas.Iterator.Search.{all_from_yields_List}
use borrow.Author.Tests.{tests}
use Rattle.layout.specs.Lists.{every}
use Rattle.layout.specs.Table.{next, all_ones}
use Rattle.layout.proofs.Laws.Lists.{list_all-every, range-interval}
use Rattle.layout.proofs.table.ones.Goals as goal

pub returns : goal.returns
unfolding all_ones
returns c =
    let a = c.args in
    let one = λ (b : ℕ). eqb (next a.image.now b) 1 in
    all_from_yields_List one _ _ _ c.all.ensures.ran (YieldsList-from_range 0 a.k a.k refl (omega arith)) (λ x b q k. search (rules, tests))
    ∙ list_all-every one _ ∙ ap (every one) (range-interval a.k 0)
