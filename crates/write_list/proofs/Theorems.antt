-- What is promised of a list of writes (FORMAT.md, 15), on any image, journal and list.
use Prim.Native.Nat.{ℕ}
use mathlib.Core.List.{List, map}
use mathlib.Core.Path.{◌≡◌}
use lib.ListN.{take}
use Rattle.journal.specs.Run.{State, change, run}
use Rattle.write_list.specs.List.{writes, write_list}
use Rattle.write_list.specs.Runs.{ListRunTheorem}
use Rattle.write_list.proofs.Laws.Runs as runs

-- Image and journal are those of the writes made one by one, as many as were done.
pub list-run : (p : State) (l : List ℕ) → (write_list p l).state ≡ run p (map change (take (write_list p l).done (writes l)))
list-run = runs.list-run

-- DEMAND 3 over runs with lists: image and whole journal are those of the run with the items done as writes and of the replay, every answer the replay's.
pub every-list-run : ListRunTheorem
every-list-run = runs.every-list-run
