use native.Mathlib.Omega.{arith}
use Rattle.layout.specs.Bytes.{bytes4}
use Rattle.volume.specs.Entries.{set_occupied}
use Rattle.layout.proofs.Laws.Bytes.{lent-header}
use Rattle.volume.proofs.table.set_counts.Goals as goal

pub returns : goal.returns
unfolding set_occupied bytes4
returns c =
    let put-counts = c.put_counts in
    let a = c.args in
    lent-header a.image.now 512 20 _ _ put-counts.ensures (omega arith) (omega arith)
