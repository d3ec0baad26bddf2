use Rattle.std.proofs.Common.{sym, arith}
use Rattle.volume.proofs.Walks.Format.{entry-chain, entry-last}
use Rattle.volume.proofs.Laws.Format.{entry-low}
use Rattle.volume.proofs.format.first_entry.Goals as goal
use Rattle.volume.proofs.format.first_entry.Goals.{else-root-b-via-then-root-b+else-b-root, else-root-b-via-else-root-b}

pub returns-then-b-root : goal.returns-then-b-root
returns-then-b-root c =
    let a = c.args in
    entry-chain a.n a.d a.b c.requires.1 (omega arith) (omega arith)

pub returns-else-root-b : goal.returns-else-root-b
returns-else-root-b c =
    let a = c.args in
    elim c.else-root-b.branch [
      | else-root-b-via-then-root-b+else-b-root w ↦ entry-last a.n a.d a.b c.requires.1 (omega arith)
      | else-root-b-via-else-root-b w ↦ sym (entry-low a.n a.d c.requires.1 a.b (omega arith))
    ]
