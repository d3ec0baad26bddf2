-- The invariant: the first b words stand at 512. One more word extends the splice (words_more).
use Rattle.std.proofs.Common.{◌≡◌, take}
use Rattle.layout.specs.Lists.{joined}
use Rattle.layout.specs.Bytes.{bytes4, splice}
use Rattle.volume.specs.Format.{first_entries}
use Rattle.volume.proofs.format.put_table.Given as goal

abbrev pub invariant-loop-b : goal.invariant-loop-b
invariant-loop-b l = l.image ≡ splice l.initial.image 512 (joined bytes4 (take l.b (first_entries l.n l.d)))
