use Rattle.std.proofs.Common.{sym, ◌∙◌, arith}
use Rattle.volume_file.proofs.Laws.Refused.{lengths-image, lengths-journal, lengths-own, lengths-ok}
use Rattle.volume_file.proofs.saving.fits.Goals as goal

pub returns-then-home-sizes : goal.returns-then-home-sizes
returns-then-home-sizes c = sym (lengths-image _ _ _ _ (λ z. c.if-home-sizes.true (z ∙ omega arith)))

pub returns-then-home-sizes-2 : goal.returns-then-home-sizes-2
returns-then-home-sizes-2 c = sym (lengths-journal _ _ _ _ (omega arith) (λ z. c.if-home-sizes-2.true (z ∙ omega arith)))

pub returns-then-home-sizes-3 : goal.returns-then-home-sizes-3
returns-then-home-sizes-3 c = sym (lengths-own _ _ _ _ (omega arith) (omega arith) (λ z. c.if-home-sizes-3.true (z ∙ omega arith)))

pub returns : goal.returns
returns c = sym (lengths-ok _ _ _ _ (omega arith) (omega arith) (omega arith))
