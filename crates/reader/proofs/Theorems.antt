-- THE THEOREM OF THE READER (FORMAT.md, 7.3), for readers.
use native.Mathlib.Omega.{arith}
use Rattle.reader.specs.Readings.{WholeFileTheorem}
use Rattle.reader.proofs.Laws.{read-from}

-- "With nothing written to the image between, the reader's answers, taken into buffers of one byte or more until it gives none, joined are the file's bytes."
pub whole-file : WholeFileTheorem
whole-file s path buffers some ok last = read-from s path buffers 0 1 (λ z. absurd (omega (arith, z))) some ok last
