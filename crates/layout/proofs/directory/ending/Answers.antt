use mathlib.Core.Path.{◌∙◌}
use native.Mathlib.Omega.{arith}
use Rattle.layout.proofs.Walks.Names.{ending-short, ending-word}
use Rattle.layout.proofs.directory.ending.Goals as goal

pub returns-then-name-lt4 : goal.returns-then-name-lt4
returns-then-name-lt4 c = ending-short c.args.name.now (omega arith)

pub returns : goal.returns
returns c = c.word.ensures ∙ ending-word c.args.name.now (omega arith)
