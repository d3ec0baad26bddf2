use Rattle.std.proofs.Common.{refl}
use Rattle.std.proofs.lemmas.Result.{err_from_is_err_and}
use Rattle.layout.specs.Reasons.{number_of}
use Rattle.layout.proofs.Laws.Reasons.{reason}
use Rattle.chain_table.proofs.Laws.Outcomes.{fits, load-not, load-done}
use Rattle.chain_table.proofs.transfer.load_table.Goals as goal

pub returns-in_err-refusal-clause-number : goal.returns-in_err-refusal-clause-number
returns-in_err-refusal-clause-number c =
    let a = c.args in
    let why = c.in_err-refusal.field-0.0 in
    let q = err_from_is_err_and c.from_residual.result c.from_residual.ensures.1 in
    rw (q.1, q.2) (load-not a.image.now a.numbers.now (number_of why) c.in_err-refusal.ensures (reason why)).0

pub returns-in_err-refusal-clause-numbers : goal.returns-in_err-refusal-clause-numbers
returns-in_err-refusal-clause-numbers c =
    let a = c.args in
    let why = c.in_err-refusal.field-0.0 in
    (load-not a.image.now a.numbers.now (number_of why) c.in_err-refusal.ensures (reason why)).1

pub load-requires : goal.load-requires
load-requires c = fits c.args.image.now c.args.numbers.now 0 c.in_ok-refusal.ensures refl

pub returns-clause-number : goal.returns-clause-number
returns-clause-number c = (load-done _ _ 0 c.in_ok-refusal.ensures refl _ c.load.ensures).0

pub returns-clause-numbers : goal.returns-clause-numbers
returns-clause-numbers c = (load-done _ _ 0 c.in_ok-refusal.ensures refl _ c.load.ensures).1
