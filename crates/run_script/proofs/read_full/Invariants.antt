-- By the room that is left in the buffer.
use Rattle.std.specs.Prelude.{length, ◌-◌, ◌≤◌}
use Rattle.run_script.proofs.read_full.Given as goal

abbrev pub invariant-loop-done : goal.invariant-loop-done
invariant-loop-done g l = l.done ≤ length l.initial.buf

abbrev pub decreases-loop-done : goal.decreases-loop-done
decreases-loop-done g l = length l.initial.buf - l.done
