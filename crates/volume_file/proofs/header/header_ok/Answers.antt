use Rattle.std.proofs.Common.{refl, sym, ◌∙◌}
use Rattle.volume_file.proofs.Laws.Facts.{header-tests}
use Rattle.volume_file.proofs.header.header_ok.Goals as goal
use Rattle.volume_file.proofs.header.header_ok.Goals.{then-signed, else-signed}

pub returns-then-in_range : goal.returns-then-in_range
returns-then-in_range c =
    elim c.if-signed.branch [
      | then-signed w ↦ let t = w.told.ensures in
          rw (w.if-signed.true, sym w.value-is ∙ c.if-in_range.true) at (header-tests c.args.head.now _ _ _ _ _ _ c.equal-signed.ensures w.in_range.ensures t.image t.journal t.own (rw c.requires at c.all_zero.ensures))
      | else-signed w ↦ cc
    ]

pub returns-else-in_range : goal.returns-else-in_range
returns-else-in_range c =
    elim c.if-signed.branch [
      | then-signed w ↦ let t = w.told.ensures in
          c.if-in_range.false ∙ rw (w.if-signed.true, sym w.value-is ∙ c.if-in_range.false) at (header-tests c.args.head.now _ _ _ _ _ _ c.equal-signed.ensures w.in_range.ensures t.image t.journal t.own refl)
      | else-signed w ↦ c.if-in_range.false ∙ rw w.if-signed.false at (header-tests c.args.head.now _ _ _ _ _ _ c.equal-signed.ensures refl refl refl refl refl)
    ]
