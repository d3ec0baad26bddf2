use Rattle.volume_file.specs.Save.{home_with}
use Rattle.volume_file.proofs.Walks.Logging.{Logging}
use Rattle.volume_file.proofs.saving.fill_log.Given as goal

abbrev pub invariant-loop-i : goal.invariant-loop-i
invariant-loop-i l = Logging l.initial.file (home_with l.home.image.now l.home.journal.now l.home.own.now) l.h l.file l.k l.i
