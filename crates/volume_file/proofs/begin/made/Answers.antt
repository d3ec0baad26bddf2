use Rattle.std.proofs.Common.{refl, sym, arith}
use Rattle.volume_file.proofs.Laws.Begins.{begins, begin-kept, begin-done}
use Rattle.volume_file.proofs.Laws.Reasons.{some_number}
use Rattle.volume_file.proofs.begin.made.Goals as goal

pub returns-in_err-fits-clause-file : goal.returns-in_err-fits-clause-file
returns-in_err-fits-clause-file c = begin-kept _ _ _ _ _ c.in_err-fits.ensures (some_number _)

pub write_header-requires : goal.write_header-requires
write_header-requires c = let b = begins _ _ _ _ (sym c.in_ok-fits.ensures) in omega (arith, b.size)

pub set_flag-requires : goal.set_flag-requires
set_flag-requires c = let b = begins _ _ _ _ (sym c.in_ok-fits.ensures) in omega (arith, b.size)

pub returns-clause-file : goal.returns-clause-file
returns-clause-file c = begin-done _ _ _ _ _ c.in_ok-fits.ensures refl _ _ c.write_header.ensures c.set_flag.ensures
