use Rattle.layout.specs.Walks.Names.{some_has}
use Rattle.layout.proofs.directory.some_has.Goals as goal

pub returns : goal.returns
unfolding some_has
returns c = rw (← c.word-a.ensures, ← c.word-b.ensures, ← c.word-c.ensures, ← c.word-d.ensures)
