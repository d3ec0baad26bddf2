use mathlib.Core.Path.{◌∙◌}
use Rattle.volume.specs.Entries.{taken}
use Rattle.volume.proofs.table.take_block.Goals as goal

pub returns : goal.returns
unfolding taken
returns c =
    let set-counts = c.set_counts in
    let link = c.link in
    let set-entry = c.set_entry in
    let clear-block = c.clear_block in
    let header-number = c.header_number-used in
    set-counts.ensures ∙ rw (link.ensures, set-entry.ensures, clear-block.ensures, header-number.ensures)
