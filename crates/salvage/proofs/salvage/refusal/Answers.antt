use Rattle.std.proofs.Common.{sym, ◌∙◌, arith}
use Rattle.layout.proofs.Walks.Visits.{directory-at}
use Rattle.salvage.proofs.Walks.Refusals.{weighed-root, weighed-directory, weighed-short, weighed-none}
use Rattle.salvage.proofs.salvage.refusal.Goals as goal

pub returns-then-not-directory_ok : goal.returns-then-not-directory_ok
returns-then-not-directory_ok c =
    let p = c.requires in
    weighed-root _ _ _ _ _ _ _ _ p.0 p.1 p.2 c.root_at-root.ensures.given.2 c.directory_ok.ensures c.if-not-directory_ok.true

pub no_directory-requires : goal.no_directory-requires
no_directory-requires c =
    rw c.root_at-root.ensures.given.1
    (directory-at _ _ _ _ _ _ _ c.requires.0.shape (rw c.if-not-directory_ok.false at c.directory_ok.ensures) c.root_at-root.ensures.size)

pub returns-then-not-no_directory : goal.returns-then-not-no_directory
returns-then-not-no_directory c =
    let p = c.requires in
    weighed-directory _ _ _ _ _ _ _ _ p.0 p.1 p.2 c.root_at-root.ensures.given.2 c.directory_ok.ensures c.if-not-directory_ok.false _ c.root_at-root.ensures.size (sym c.if-not-no_directory.true ∙ c.no_directory.ensures)

pub overflow_mul-root : goal.overflow_mul-root
overflow_mul-root c =
    let D = directory-at c.args.image.now c.args.n _ _ _ _ _ c.requires.0.shape (rw c.if-not-directory_ok.false at c.directory_ok.ensures) c.root_at-root.ensures.size in
    omega (arith, D.blocks.few)

pub returns-then-size-root : goal.returns-then-size-root
returns-then-size-root c =
    let p = c.requires in
    weighed-short _ _ _ _ _ _ _ _ p.0 p.1 p.2 c.root_at-root.ensures.given.2 c.directory_ok.ensures c.if-not-directory_ok.false _ c.root_at-root.ensures.size (sym c.if-not-no_directory.false ∙ c.no_directory.ensures) c.if-size-root.true

pub returns : goal.returns
returns c =
    let p = c.requires in
    weighed-none _ _ _ _ _ _ _ _ p.0 p.1 p.2 c.root_at-root.ensures.given.2 c.directory_ok.ensures c.if-not-directory_ok.false _ c.root_at-root.ensures.size (sym c.if-not-no_directory.false ∙ c.no_directory.ensures) (omega arith)
