use mathlib.Core.Path.{◌∙◌}
use Rattle.volume.specs.Entries.{freed}
use Rattle.volume.proofs.table.free_block.Goals as goal

pub returns : goal.returns
unfolding freed
returns c =
    let set-counts = c.set_counts in
    let set-entry = c.set_entry in
    let clear-block = c.clear_block in
    let header-number = c.header_number-used in
    set-counts.ensures ∙ rw (set-entry.ensures, clear-block.ensures, header-number.ensures)
