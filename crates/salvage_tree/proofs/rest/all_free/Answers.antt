use Rattle.std.proofs.Common.{rules, tests, ◌-◌, ◌||◌, eqb, refl, ◌∙◌}
use Rattle.std.proofs.lemmas.Iterator.{YieldsList-from_range}
use Rattle.std.proofs.lemmas.Iterator.Search.{all_from_yields_List}
use Rattle.layout.specs.Lists.{has}
use Rattle.layout.specs.Table.{next}
use Rattle.salvage_tree.proofs.Walks.Rest.{all-every, free-told}
use Rattle.salvage_tree.proofs.rest.all_free.Goals as goal

pub returns : goal.returns
returns c =
    let a = c.args in
    record { told = λ cs M. all_from_yields_List (λ b. has eqb b cs || eqb (next a.image.now b) 0) _ _ _ c.all.ensures.ran (YieldsList-from_range a.n a.end (a.end - a.n) refl refl) (λ x b q k. search (rules, tests, free-told a.image.now a.marks.now cs M)) ∙ all-every _ a.n (a.end - a.n) }
