use Rattle.std.proofs.Common.{arith}
use Rattle.std.proofs.lemmas.Result.{err_from_is_err_and}
use Rattle.layout.specs.Reasons.{number_of}
use Rattle.layout.proofs.Laws.Reasons.{reason}
use Rattle.salvage.proofs.Walks.Refusals.{refused, accepted}
use Rattle.salvage.proofs.salvage.body.Goals as goal

pub table_blocks-t-requires : goal.table_blocks-t-requires
table_blocks-t-requires c = omega (arith, c.requires.0)

pub refusal-requires : goal.refusal-requires
refusal-requires c =
    let table-blocks = c.table_blocks-t in
    let p = c.requires in
    (record { shape = p.0; table = table-blocks.ensures; marks = omega (arith, table-blocks.ensures, p.2) }, p.1, p.3)

pub returns-in_err-refusal : goal.returns-in_err-refusal
returns-in_err-refusal c =
    let why = c.in_err-refusal.field-0.0 in
    let q = err_from_is_err_and c.from_residual.result c.from_residual.ensures.1 in
    rw (q.1, q.2) (refused c.args.image.now c.args.report.now (number_of why) c.in_err-refusal.ensures.number (reason why))

pub repair-requires : goal.repair-requires
repair-requires c =
    let table-blocks = c.table_blocks-t in
    let p = c.requires in
    (record { shape = p.0; table = table-blocks.ensures; marks = omega (arith, table-blocks.ensures, p.2) }, c.in_ok-refusal.ensures)

pub returns : goal.returns
returns c =
    let repair = c.repair in
    let a = c.args in
    accepted a.image.now a.report.now _ _ c.in_ok-refusal.ensures.number repair.ensures.bytes repair.ensures.codes
