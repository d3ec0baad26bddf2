use Rattle.std.proofs.Common.{◌*◌, ◌/◌, length, sym, arith, length-take}
use Rattle.std.proofs.lemmas.Result.{err_from_is_err_and}
use Rattle.layout.specs.Reasons.{number_of}
use Rattle.layout.proofs.Laws.Reasons.{reason}
use Rattle.layout.proofs.Walks.Stages.{stage1-shape}
use Rattle.salvage_tree.proofs.Walks.Counts.{refusal-fits, tree-refused, tree_lent}
use Rattle.salvage_tree.proofs.salvage_tree.salvage_tree.Goals as goal

pub returns-in_err-refusal : goal.returns-in_err-refusal
returns-in_err-refusal c =
    let why = c.in_err-refusal.field-0.0 in
    let q = err_from_is_err_and c.from_residual.result c.from_residual.ensures.1 in
    rw (q.1, q.2) (tree-refused c.args.image.now c.args.report.now (number_of why) c.in_err-refusal.ensures (reason why))

pub overflow_mul-n : goal.overflow_mul-n
overflow_mul-n c = let f = refusal-fits _ _ (sym c.in_ok-refusal.ensures) in omega (arith, f.1)

pub slice_bounds-accepted-end : goal.slice_bounds-accepted-end
slice_bounds-accepted-end c = let f = refusal-fits _ _ (sym c.in_ok-refusal.ensures) in omega (arith, f.1)

pub slice_bounds-accepted-end-2 : goal.slice_bounds-accepted-end-2
slice_bounds-accepted-end-2 c = let f = refusal-fits _ _ (sym c.in_ok-refusal.ensures) in omega (arith, f.1, length-take (4 * (length c.args.image.now / 512)) c.args.report.now)

pub accepted-requires : goal.accepted-requires
accepted-requires c = let f = refusal-fits _ _ (sym c.in_ok-refusal.ensures) in (stage1-shape _ (sym f.0), simp length-take (omega (arith, f.1)))

pub returns : goal.returns
returns c =
    let f = refusal-fits _ _ (sym c.in_ok-refusal.ensures) in
    let e = 4 * (length c.args.image.now / 512) in
    tree_lent _ _ (sym c.in_ok-refusal.ensures) _ _ _ _ e c.accepted.ensures (omega (arith, f.1, length-take e c.args.report.now))
