use Rattle.std.proofs.Common.{sym, ap, ◌∙◌, arith, rules}
use Rattle.std.proofs.lemmas.List.{map-id}
use Rattle.layout.specs.Table.{next}
use Rattle.volume.specs.Walks.Marks.{marked}
use Rattle.volume.proofs.Walks.WriteNamed.{part-past-marked, part-below, part-most}
use Rattle.volume.proofs.marks.mark_part.Goals as goal

pub returns-then-k-j : goal.returns-then-k-j
returns-then-k-j c =
    let a = c.args in
    sym (part-past-marked (next a.image.now) a.first a.k a.j a.w _ c.if-k-j.true)

pub mark_each-requires-clause-chain : goal.mark_each-requires-clause-chain
mark_each-requires-clause-chain c = part-below c.requires.0 _ _ c.nth-b.ensures (omega arith) _ (omega arith)

pub returns : goal.returns
returns c =
    c.mark_each.ensures (λ b. b) (λ b r h e. search rules) ∙ rw map-id (ap (marked _) (part-most c.requires.0 _ _ c.nth-b.ensures (omega arith) _ _ (omega arith) c.min.ensures))
