use Rattle.std.proofs.Common.{◌∙◌}
use Rattle.script.specs.Script.{encoded}
use Rattle.journal.specs.Run.{look_answer}
use Rattle.script.proofs.Walks.Encoding.{numbers-alone}
use Rattle.script.proofs.answers.check.Goals as goal

pub returns : goal.returns
unfolding encoded look_answer
returns c = c.put_numbers.ensures ∙ numbers-alone _ _ _ _ _ c.requires ∙ rw (c.outcome.ensures, c.check.ensures)
