use native.Mathlib.Omega.{arith}
use Rattle.write_list.specs.List.{path_length}
use Rattle.write_list.proofs.list.path_length.Goals as goal

pub returns : goal.returns
unfolding path_length
returns c = (omega arith, omega arith)
