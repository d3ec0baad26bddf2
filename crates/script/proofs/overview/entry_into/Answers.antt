use mathlib.Core.Path.{sym, ap, ◌∙◌}
use lib.ListN.{length}
use Rattle.script.proofs.Walks.Scripts.{length-data}
use Rattle.script.proofs.overview.entry_into.Goals as goal

pub copy-requires : goal.copy-requires
copy-requires c = ap length c.data_of.ensures ∙ length-data _ _ c.requires.0 ∙ sym c.requires.1

pub returns : goal.returns
returns c = c.next_entry.ensures ∙ rw (c.copy.ensures, c.data_of.ensures, c.name_of-name.ensures, c.get64-start.ensures)
