use Rattle.std.proofs.Common.{ℕ, List, ap, ◌∙◌, arith}
use Rattle.std.proofs.lemmas.Result.{err_from_is_err_and}
use Rattle.layout.specs.Reasons.{number_of}
use Rattle.layout.specs.Walks.Stages.{walk_root}
use Rattle.layout.proofs.Laws.Reasons.{reason}
use Rattle.layout.proofs.Walks.Stages.{body_stage-fault, visited-fresh}
use Rattle.layout.proofs.check.marked_body.Goals as goal

pub returns-in_err-visit : goal.returns-in_err-visit
returns-in_err-visit c =
    let a = c.args in
    let p = c.requires in
    let why = c.in_err-visit.field-0.0 in
    let q = err_from_is_err_and c.from_residual.result c.from_residual.ensures.1 in
    rw (q.1, q.2)
    (body_stage-fault a.image.now a.n p.0 (number_of why) _ _ (omega (arith, p.1)) (c.in_err-visit.ensures ∙ ap (λ (m : List ℕ). walk_root a.image.now a.n m) p.2) (reason why))

pub tables-requires : goal.tables-requires
tables-requires c =
    let t = c.table_blocks-t.ensures in
    let a = c.args in
    let p = c.requires in
    (record { shape = p.0; table = t; marks = omega (arith, t, p.1) }, visited-fresh a.image.now a.n a.dirs.now c.in_ok-visit.ensures p.2 (omega arith), omega (arith, t, p.3), p.4)
