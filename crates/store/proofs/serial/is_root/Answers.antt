use Rattle.std.proofs.Common.{◌≡◌, ◌≢◌, get_or, sym, ◌∙◌, arith}
use borrow.Author.Tests.{eq-eqb, ne_eqb}
use Rattle.layout.proofs.Walks.Listed.{root-path-long, root-path-one}
use Rattle.store.proofs.serial.is_root.Goals as goal

pub returns-in-47 : goal.returns-in-47
returns-in-47 c = let e : get_or c.args.directory.now 0 0 ≡ 47 = omega arith in sym (eq-eqb _ _ e) ∙ root-path-one _ (omega arith)

pub returns-in_default : goal.returns-in_default
returns-in_default c = root-path-long _ (λ h. omega arith)

pub returns-in_default-2 : goal.returns-in_default-2
returns-in_default-2 c = let e : get_or c.args.directory.now 0 0 ≢ 47 = λ h. omega arith in sym (ne_eqb _ _ e) ∙ root-path-one _ (omega arith)

pub returns-in_default-3 : goal.returns-in_default-3
returns-in_default-3 c = root-path-long _ (λ h. omega arith)
