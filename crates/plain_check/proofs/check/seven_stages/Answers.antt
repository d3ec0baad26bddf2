use mathlib.Core.Path.{refl, sym, ◌∙◌}
use Rattle.std.proofs.lemmas.Result.{err_from_is_err_and}
use Rattle.plain_check.proofs.Laws.Reasons.{some_number}
use native.Mathlib.Omega.{arith}
use Rattle.plain_check.proofs.Theorems.{plain-is-check}
use Rattle.plain_check.proofs.Walks.Stage4.{four-stands}
use Rattle.plain_check.proofs.Walks.Stages.{sized-volume, root-refused, root-toured, plain-1, plain-2, plain-3, plain-tree, plain-6, plain-7, plain-0}
use Rattle.plain_check.proofs.check.seven_stages.Goals as goal

pub returns-then-not-sized : goal.returns-then-not-sized
returns-then-not-sized c = plain-1 _ (sym c.if-not-sized.true ∙ c.sized.ensures) ∙ plain-is-check _

pub signed-requires : goal.signed-requires
signed-requires c = omega (arith, sized-volume c.args.image.now (sym c.if-not-sized.false ∙ c.sized.ensures))

pub returns-then-not-signed : goal.returns-then-not-signed
returns-then-not-signed c = plain-2 _ (sym c.if-not-sized.false ∙ c.sized.ensures) (sym c.if-not-signed.true ∙ c.signed.ensures) ∙ plain-is-check _

pub numbered-requires : goal.numbered-requires
numbered-requires c = sized-volume c.args.image.now (sym c.if-not-sized.false ∙ c.sized.ensures)

pub returns-then-not-numbered : goal.returns-then-not-numbered
returns-then-not-numbered c = plain-3 _ (sym c.if-not-sized.false ∙ c.sized.ensures) (sym c.if-not-signed.false ∙ c.signed.ensures) (sym c.if-not-numbered.true ∙ c.numbered.ensures) ∙ plain-is-check _

pub root_block-root-requires : goal.root_block-root-requires
root_block-root-requires c = (sized-volume c.args.image.now (sym c.if-not-sized.false ∙ c.sized.ensures)).high

pub directory_ok-requires : goal.directory_ok-requires
directory_ok-requires c = ((sized-volume c.args.image.now (sym c.if-not-sized.false ∙ c.sized.ensures)).high, omega (arith, sized-volume c.args.image.now (sym c.if-not-sized.false ∙ c.sized.ensures), c.root_block-root.ensures))

pub returns-then-not-directory_ok : goal.returns-then-not-directory_ok
returns-then-not-directory_ok c = plain-tree _ (sym c.if-not-sized.false ∙ c.sized.ensures) (sym c.if-not-signed.false ∙ c.signed.ensures) (sym c.if-not-numbered.false ∙ c.numbered.ensures) 4 (root-refused _ _ _ (sized-volume c.args.image.now (sym c.if-not-sized.false ∙ c.sized.ensures)) c.root_block-root.ensures (sym c.if-not-directory_ok.true ∙ c.directory_ok.ensures)) (λ z. omega arith) ∙ plain-is-check _

pub tour-requires : goal.tour-requires
tour-requires c = (sized-volume c.args.image.now (sym c.if-not-sized.false ∙ c.sized.ensures), four-stands _ _ _ _ (sym c.if-not-directory_ok.false ∙ c.directory_ok.ensures), omega arith, omega (arith, sized-volume c.args.image.now (sym c.if-not-sized.false ∙ c.sized.ensures)))

pub returns-in_err-tour : goal.returns-in_err-tour
returns-in_err-tour c =
    let p = err_from_is_err_and c.from_residual.result c.from_residual.ensures.1 in
    rw (p.1, p.2) (plain-tree _ (sym c.if-not-sized.false ∙ c.sized.ensures) (sym c.if-not-signed.false ∙ c.signed.ensures) (sym c.if-not-numbered.false ∙ c.numbered.ensures) _ (root-toured _ _ _ (sized-volume c.args.image.now (sym c.if-not-sized.false ∙ c.sized.ensures)) c.root_block-root.ensures (sym c.if-not-directory_ok.false ∙ c.directory_ok.ensures) _ _ c.in_err-tour.ensures.equal) (some_number _) ∙ plain-is-check _)

pub table_ok-requires : goal.table_ok-requires
table_ok-requires c = sized-volume c.args.image.now (sym c.if-not-sized.false ∙ c.sized.ensures)

pub returns-then-not-table_ok : goal.returns-then-not-table_ok
returns-then-not-table_ok c = plain-6 _ (sym c.if-not-sized.false ∙ c.sized.ensures) (sym c.if-not-signed.false ∙ c.signed.ensures) (sym c.if-not-numbered.false ∙ c.numbered.ensures) _ (root-toured _ _ _ (sized-volume c.args.image.now (sym c.if-not-sized.false ∙ c.sized.ensures)) c.root_block-root.ensures (sym c.if-not-directory_ok.false ∙ c.directory_ok.ensures) _ _ c.in_ok-tour.ensures.equal) refl (sym c.if-not-table_ok.true ∙ c.table_ok.ensures) ∙ plain-is-check _

pub counts_ok-requires : goal.counts_ok-requires
counts_ok-requires c = sized-volume c.args.image.now (sym c.if-not-sized.false ∙ c.sized.ensures)

pub returns-then-not-counts_ok : goal.returns-then-not-counts_ok
returns-then-not-counts_ok c = plain-7 _ (sym c.if-not-sized.false ∙ c.sized.ensures) (sym c.if-not-signed.false ∙ c.signed.ensures) (sym c.if-not-numbered.false ∙ c.numbered.ensures) _ (root-toured _ _ _ (sized-volume c.args.image.now (sym c.if-not-sized.false ∙ c.sized.ensures)) c.root_block-root.ensures (sym c.if-not-directory_ok.false ∙ c.directory_ok.ensures) _ _ c.in_ok-tour.ensures.equal) refl (sym c.if-not-table_ok.false ∙ c.table_ok.ensures) (sym c.if-not-counts_ok.true ∙ c.counts_ok.ensures) ∙ plain-is-check _

pub returns : goal.returns
returns c = plain-0 _ (sym c.if-not-sized.false ∙ c.sized.ensures) (sym c.if-not-signed.false ∙ c.signed.ensures) (sym c.if-not-numbered.false ∙ c.numbered.ensures) _ (root-toured _ _ _ (sized-volume c.args.image.now (sym c.if-not-sized.false ∙ c.sized.ensures)) c.root_block-root.ensures (sym c.if-not-directory_ok.false ∙ c.directory_ok.ensures) _ _ c.in_ok-tour.ensures.equal) refl (sym c.if-not-table_ok.false ∙ c.table_ok.ensures) (sym c.if-not-counts_ok.false ∙ c.counts_ok.ensures) ∙ plain-is-check _
