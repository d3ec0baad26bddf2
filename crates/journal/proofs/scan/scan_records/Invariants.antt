-- What the records from here on give is what all give; a right record has at least 520 bytes, so the scan moves on. No record begins at 0.
use Rattle.std.specs.Prelude.{◌-◌, ◌≤◌, ◌≢◌, unwrap_or, IfSome}
use Rattle.journal.proofs.Walks.Scanning.{Scanning}
use Rattle.journal.proofs.scan.scan_records.Given as goal

abbrev pub invariant-loop-at : goal.invariant-loop-at
invariant-loop-at l = Scanning l.journal l.n (unwrap_or l.last 0) l.at × IfSome l.last (λ at. at ≢ 0) × (5 ≤ l.at)

abbrev pub decreases-loop-at : goal.decreases-loop-at
decreases-loop-at l = l.used - l.at
