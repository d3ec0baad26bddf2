use Rattle.std.proofs.Common.{sym, ◌∙◌, arith}
use Rattle.layout.proofs.Laws.Reasons.{reason}
use Rattle.layout.proofs.Walks.Shapes.{sound-shape}
use Rattle.layout.proofs.Walks.Listed.{info-refused, info-given}
use Rattle.layout.proofs.overview.info.Goals as goal

pub returns-in-Err : goal.returns-in-Err
returns-in-Err c = info-refused c.args.image.now _ c.args.buffer.now (c.number.ensures ∙ c.in-Err.ensures) (λ z. reason c.in-Err.why (sym c.number.ensures ∙ z))

pub copy_block-requires : goal.copy_block-requires
copy_block-requires c =
    let h = sound-shape c.args.image.now (sym c.in_default.ensures) in
    (omega (arith, h), omega arith, omega arith)

pub returns : goal.returns
returns c =
    let a = c.args in
    info-given a.image.now (sym c.in_default.ensures) c.volume_numbers-numbers.ensures a.buffer.now _ _ c.min-count.ensures c.copy_block.ensures
