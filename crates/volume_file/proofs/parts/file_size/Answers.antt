use Rattle.std.proofs.Common.{sym, ◌∙◌}
use Rattle.volume_file.proofs.Walks.Places.{size_none, size-some}
use Rattle.volume_file.proofs.parts.file_size.Goals as goal

pub returns-then-not-in_range : goal.returns-then-not-in_range
returns-then-not-in_range c = size_none _ _ _ (sym c.in_range.ensures ∙ c.if-not-in_range.true)

pub returns : goal.returns
returns c = rw (c.file_length.ensures, c.home.ensures) (size-some _ _ _ (sym c.in_range.ensures ∙ c.if-not-in_range.false))
