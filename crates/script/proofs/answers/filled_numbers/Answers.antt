use Rattle.std.proofs.Common.{arith}
use Rattle.script.proofs.answers.filled_numbers.Goals as goal

pub overflow_cast-result : goal.overflow_cast-result
overflow_cast-result c = let h = rw c.in-Ok.is at c.requires in omega arith
