use mathlib.Core.Path.{◌∙◌}
use Rattle.volume.proofs.Walks.Attributes.{fill-placed, fill-put}
use Rattle.volume.proofs.attributes.fill_blocks.Goals as goal

pub put_data-requires : goal.put_data-requires
put_data-requires c =
    let grow = c.grow-first in
    fill-placed c.args.bytes.now c.requires _ grow.ensures.bytes _ grow.ensures.first

pub returns : goal.returns
returns c = let grow = c.grow-first in record { first = grow.ensures.first; bytes = c.put_data.ensures ∙ fill-put c.args.bytes.now c.requires _ grow.ensures.bytes _ grow.ensures.first }
