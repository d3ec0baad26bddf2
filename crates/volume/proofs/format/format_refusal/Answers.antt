use Rattle.std.proofs.Common.{sym, ◌∙◌, arith}
use Rattle.layout.proofs.Walks.Stages.{stage1-shape}
use Rattle.volume.proofs.Walks.Format.{refused-length, refused_none, refused-many, refused-label, refused-room, not-refused}
use Rattle.volume.proofs.format.format_refusal.Goals.{then-d-lt1-via-then-d-lt1, then-d-lt1-via-else-d-lt1+then-d-gt-MAX_DIRECTORY, then-d-lt1-via-else-d-lt1+else-d-gt-MAX_DIRECTORY+then-name-ne128}
use Rattle.volume.proofs.format.format_refusal.Goals as goal

pub returns-then-not-sized : goal.returns-then-not-sized
returns-then-not-sized c =
    let a = c.args in
    refused-length a.image.now a.d a.name.now (sym c.if-not-sized.true ∙ c.sized.ensures)

pub returns-then-d-lt1 : goal.returns-then-d-lt1
returns-then-d-lt1 c =
    let a = c.args in
    let whole = sym c.if-not-sized.false ∙ c.sized.ensures in
    elim c.then-d-lt1.branch [
      | then-d-lt1-via-then-d-lt1 w ↦ refused_none a.image.now a.d a.name.now whole w.if-d-lt1.true
      | then-d-lt1-via-else-d-lt1+then-d-gt-MAX_DIRECTORY w ↦ refused-many a.image.now a.d a.name.now whole w.if-d-lt1.false w.if-d-gt-MAX_DIRECTORY.true
      | then-d-lt1-via-else-d-lt1+else-d-gt-MAX_DIRECTORY+then-name-ne128 w ↦ refused-label a.image.now a.d a.name.now whole w.if-d-lt1.false w.if-d-gt-MAX_DIRECTORY.false w.if-name-ne128.true
    ]

pub root_block-root-requires : goal.root_block-root-requires
root_block-root-requires c = omega (arith, stage1-shape c.args.image.now (sym c.if-not-sized.false ∙ c.sized.ensures))

pub returns-then-n-root : goal.returns-then-n-root
returns-then-n-root c =
    let a = c.args in
    refused-room a.image.now a.d a.name.now (sym c.if-not-sized.false ∙ c.sized.ensures) c.if-d-lt1.false c.if-d-gt-MAX_DIRECTORY.false c.if-name-ne128.false (omega arith)

pub returns : goal.returns
returns c =
    let a = c.args in
    not-refused a.image.now a.d a.name.now (sym c.if-not-sized.false ∙ c.sized.ensures) c.if-d-lt1.false c.if-d-gt-MAX_DIRECTORY.false c.if-name-ne128.false (omega arith)
