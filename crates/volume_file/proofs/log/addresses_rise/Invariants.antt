use Rattle.std.proofs.Common.{◌≡◌, ◌≤◌, ◌-◌}
use Rattle.volume_file.specs.Format.{rising}
use Rattle.volume_file.proofs.log.addresses_rise.Given as goal

abbrev pub invariant-loop-i : goal.invariant-loop-i
invariant-loop-i l = (l.limit ≤ l.h) × (rising l.h l.file l.h l.k ≡ rising l.h l.file l.limit (l.k - l.i))
