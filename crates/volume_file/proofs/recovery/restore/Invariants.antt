use Rattle.std.proofs.Common.{◌≡◌}
use Rattle.volume_file.specs.Save.{restored}
use Rattle.volume_file.proofs.recovery.restore.Given as goal

abbrev pub invariant-loop-j : goal.invariant-loop-j
invariant-loop-j l = l.file ≡ restored l.h l.initial.file l.j
