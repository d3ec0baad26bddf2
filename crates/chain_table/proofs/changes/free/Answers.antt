use Rattle.chain_table.specs.Numbers.{freed_in}
use Rattle.chain_table.proofs.changes.free.Goals as goal

pub returns : goal.returns
unfolding freed_in
returns c = c.set.ensures
