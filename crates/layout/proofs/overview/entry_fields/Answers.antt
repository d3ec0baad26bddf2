use Rattle.layout.specs.Looks.{entry_fields}
use Rattle.layout.proofs.overview.entry_fields.Goals as goal

pub returns : goal.returns
unfolding entry_fields
returns c =
    rw (c.word_at-6.ensures, c.word_at-5.ensures, c.word_at-4.ensures, c.word_at-3.ensures, c.word_at-2.ensures, c.time_at-2.ensures, c.time_at.ensures, c.word_at.ensures, c.byte_at-3.ensures, c.byte_at-2.ensures, c.byte_at.ensures, c.type_at.ensures)
