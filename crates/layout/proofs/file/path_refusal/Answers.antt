use Rattle.std.proofs.Common.{refl, sym}
use Rattle.layout.proofs.Walks.Looks.{form-bad, form-deep, form-fine}
use Rattle.layout.proofs.file.path_refusal.Goals as goal

pub returns-in_default : goal.returns-in_default
returns-in_default c = form-bad _ 0 (sym c.in_default.ensures) refl

pub returns-then-parts-gt-MAX_LEVELS : goal.returns-then-parts-gt-MAX_LEVELS
returns-then-parts-gt-MAX_LEVELS c = let e = c.in-Some.ensures in form-deep _ _ e.0 e.1 c.if-parts-gt-MAX_LEVELS.true

pub returns : goal.returns
returns c = let e = c.in-Some.ensures in form-fine _ _ e.0 e.1 c.if-parts-gt-MAX_LEVELS.false
