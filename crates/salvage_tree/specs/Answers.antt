-- The answer of a salvage: this paper's number and counts for an accepted and for a refused call, which zeroed and freed nothing, and the image and the report
-- after it.
use Rattle.std.specs.Prelude.{List, ℕ, Result, Ok, Err}
use Rattle.layout.specs.declared.refusal.Refusal.{Refusal}
use Rattle.layout.specs.Reasons.{number_of}
use Rattle.salvage_tree.specs.declared.salvage_tree.Counts.{Counts}
use Rattle.salvage_tree.specs.SalvageTree.{TreeAnswer}

abbrev pub tree_answer : Result Counts Refusal → List ℕ → List ℕ → TreeAnswer
tree_answer (Ok done) image report = record { number = 0; zeroed = done.zeroed; freed = done.freed; image = image; report = report }
tree_answer (Err why) image report = record { number = number_of why; zeroed = 0; freed = 0; image = image; report = report }
