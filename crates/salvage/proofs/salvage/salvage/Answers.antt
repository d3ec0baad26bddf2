use Rattle.std.proofs.Common.{sym, arith}
use Rattle.std.proofs.lemmas.Result.{err_from_is_err_and}
use Rattle.layout.specs.Reasons.{number_of}
use Rattle.layout.proofs.Laws.Reasons.{reason}
use Rattle.layout.proofs.Walks.Stages.{stage1-shape}
use Rattle.salvage.proofs.Walks.Refusals.{head-right, head-wrong, refused}
use Rattle.salvage.proofs.salvage.salvage.Goals as goal

pub returns-in_err-head : goal.returns-in_err-head
returns-in_err-head c =
    let a = c.args in
    let why = c.in_err-head.field-0.0 in
    let q = err_from_is_err_and c.from_residual.result c.from_residual.ensures.1 in
    rw (q.1, q.2)
    (refused a.image.now a.report.now (number_of why) (head-wrong a.image.now _ (number_of why) c.in_err-head.ensures (reason why)) (reason why))

pub marked_body-requires : goal.marked_body-requires
marked_body-requires c =
    let s = c.args.image.now in
    let e = sym c.in_ok-head.ensures in
    (stage1-shape s (sym (head-right s e).0), e, omega arith, omega arith)

pub marked_body-requires-2 : goal.marked_body-requires-2
marked_body-requires-2 c =
    let s = c.args.image.now in
    let e = sym c.in_ok-head.ensures in
    let shape = stage1-shape s (sym (head-right s e).0) in
    (shape, e, omega (arith, shape), omega arith)
