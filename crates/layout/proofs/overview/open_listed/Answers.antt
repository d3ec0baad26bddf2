use Rattle.std.proofs.Common.{sym, ◌∙◌, arith}
use Rattle.std.proofs.lemmas.Result.{err_from_is_err_and}
use Rattle.layout.specs.Directory.{is_directory}
use Rattle.layout.specs.Reasons.{number_of}
use Rattle.layout.proofs.Laws.Reasons.{reason}
use Rattle.layout.proofs.Walks.Listed.{lists-refused, lists-root, lists-path}
use Rattle.layout.proofs.Walks.Looks.{opens-why}
use Rattle.layout.proofs.Walks.Shapes.{sound-shape}
use Rattle.layout.proofs.overview.open_listed.Goals as goal

pub returns-in_err-check : goal.returns-in_err-check
returns-in_err-check c =
    let a = c.args in
    let why = c.in_err-check.field-0.0 in
    let q = err_from_is_err_and c.from_residual.result c.from_residual.ensures.1 in
    rw (q.1, q.2) (lists-refused a.image.now a.path.now (number_of why) c.in_err-check.ensures (reason why)).number_is

pub root_block-requires : goal.root_block-requires
root_block-requires c = omega (arith, sound-shape c.args.image.now (sym c.in_ok-check.ensures))

pub returns-then-is_root_path : goal.returns-then-is_root_path
returns-then-is_root_path c =
    let a = c.args in
    lists-root a.image.now a.path.now (sym c.in_ok-check.ensures) (sym c.if-is_root_path.true ∙ c.is_root_path.ensures) _ c.root_block.ensures

pub open_directory-requires : goal.open_directory-requires
open_directory-requires c = sym c.in_ok-check.ensures

pub returns-in_err-directory : goal.returns-in_err-directory
returns-in_err-directory c =
    let a = c.args in
    let why = c.in_err-directory.field-0.0 in
    let q = err_from_is_err_and c.from_residual-in_err-directory.result c.from_residual-in_err-directory.ensures.1 in
    rw (q.1, q.2) (lists-path a.image.now a.path.now (sym c.in_ok-check.ensures) (sym c.if-is_root_path.false ∙ c.is_root_path.ensures)
    (opens-why is_directory a.image.now a.path.now why c.in_err-directory.ensures)).number_is

pub returns : goal.returns
returns c =
    let a = c.args in
    lists-path a.image.now a.path.now (sym c.in_ok-check.ensures) (sym c.if-is_root_path.false ∙ c.is_root_path.ensures) c.in_ok-directory.ensures
