use Rattle.std.proofs.Common.{sym, ◌∙◌, arith}
use Rattle.volume.proofs.Walks.Attributes.{no-parts, has-parts, set-bad-path, set-bad-count, set_long, set-short}
use Rattle.volume.proofs.attributes.form_refusal.Goals.{then-is_none-via-then-is_none, then-is_none-via-else-is_none+then-not-whole_blocks}
use Rattle.volume.proofs.attributes.form_refusal.Goals as goal

pub returns-then-is_none : goal.returns-then-is_none
returns-then-is_none c =
    let a = c.args in
    let parts = c.path_parts in
    elim c.then-is_none.branch [
      | then-is_none-via-then-is_none w ↦ set-bad-path a.path.now a.count (no-parts a.path.now parts.result parts.ensures w.if-is_none.ensures)
      | then-is_none-via-else-is_none+then-not-whole_blocks w ↦ set-bad-count a.path.now a.count (has-parts a.path.now parts.result parts.ensures w.if-is_none.ensures) (sym w.if-not-whole_blocks.true ∙ w.whole_blocks.ensures)
    ]

pub returns-then-count : goal.returns-then-count
returns-then-count c =
    let parts = c.path_parts in
    set_long _ _ (has-parts c.args.path.now parts.result parts.ensures c.if-is_none.ensures) (sym c.if-not-whole_blocks.false ∙ c.whole_blocks.ensures) (omega arith)

pub returns : goal.returns
returns c =
    let parts = c.path_parts in
    set-short _ _ (has-parts c.args.path.now parts.result parts.ensures c.if-is_none.ensures) (sym c.if-not-whole_blocks.false ∙ c.whole_blocks.ensures) (omega arith)
