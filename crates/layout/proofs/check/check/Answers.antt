use Rattle.std.proofs.Common.{sym, ◌∙◌, arith}
use Rattle.std.proofs.lemmas.Result.{err_from_is_err_and}
use Rattle.layout.specs.Reasons.{number_of}
use Rattle.layout.proofs.Laws.Reasons.{reason}
use Rattle.layout.proofs.Walks.Stages.{stage1-shape, check-head, check-body}
use Rattle.layout.proofs.check.check.Goals as goal

pub returns-in_err-head : goal.returns-in_err-head
returns-in_err-head c =
    let why = c.in_err-head.field-0.0 in
    let q = err_from_is_err_and c.from_residual.result c.from_residual.ensures.1 in
    rw (q.1, q.2) (sym (check-head c.args.image.now (number_of why) c.in_err-head.ensures (reason why)))

pub body-requires : goal.body-requires
body-requires c =
    let s = c.args.image.now in
    let h = stage1-shape s (check-body s (sym c.in_ok-head.ensures)).1 in
    (h, omega (arith, h), omega arith)

pub body-requires-then-n-le-SMALL_BLOCKS : goal.body-requires-then-n-le-SMALL_BLOCKS
body-requires-then-n-le-SMALL_BLOCKS c =
    let s = c.args.image.now in
    let h = stage1-shape s (check-body s (sym c.in_ok-head.ensures)).1 in
    (h, omega (arith, h), omega arith)

pub body-requires-else-n-le-SMALL_BLOCKS : goal.body-requires-else-n-le-SMALL_BLOCKS
body-requires-else-n-le-SMALL_BLOCKS c =
    let s = c.args.image.now in
    let h = stage1-shape s (check-body s (sym c.in_ok-head.ensures)).1 in
    (h, omega (arith, h), omega arith)

pub returns-then-n-le-TINY_BLOCKS : goal.returns-then-n-le-TINY_BLOCKS
returns-then-n-le-TINY_BLOCKS c = c.body.ensures ∙ sym (check-body c.args.image.now (sym c.in_ok-head.ensures)).0

pub returns-then-n-le-SMALL_BLOCKS : goal.returns-then-n-le-SMALL_BLOCKS
returns-then-n-le-SMALL_BLOCKS c = c.body-then-n-le-SMALL_BLOCKS.ensures ∙ sym (check-body c.args.image.now (sym c.in_ok-head.ensures)).0

pub returns-else-n-le-SMALL_BLOCKS : goal.returns-else-n-le-SMALL_BLOCKS
returns-else-n-le-SMALL_BLOCKS c = c.body-else-n-le-SMALL_BLOCKS.ensures ∙ sym (check-body c.args.image.now (sym c.in_ok-head.ensures)).0
