-- A load and a store that only looks change nothing, and with that the theorem over runs with them.
use mathlib.Core.List.{List}
use mathlib.Core.Path.{refl, ap}
use Prim.Native.Nat.{ℕ}
use Rattle.journal.specs.Run.{state, run}
use Rattle.journal.specs.Replay.{standing}
use Rattle.journal.specs.Kinds.{StandsFor}
use Rattle.journal.specs.Back.{TellsRight}
use Rattle.journal.proofs.Theorems.{every-kind-run}
use Rattle.chain_table.specs.Runs.{load, store, table_step, OnlyLooks, transfers, transfer_tell, TableRunTheorem}
use Rattle.chain_table.proofs.Laws.Looks.{store-looks}

pub transfers-stand : StandsFor transfers
unfolding table_step OnlyLooks run
transfers-stand p m (load xs) o = refl
transfers-stand p m (store xs) o = ap (λ (s : List ℕ). state s p.journal) (store-looks p.image xs o)

pub every-table-run : TableRunTheorem
every-table-run = every-kind-run transfers transfers-stand

-- the count by the answers
pub transfers-told : TellsRight transfers transfer_tell
unfolding standing
transfers-told start changes c = refl
