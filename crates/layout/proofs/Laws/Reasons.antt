-- A refusal's number is not 0: an answer with the number 0 is an accepted one.
use Rattle.std.proofs.Common.{◌≡◌, arith}
use Rattle.layout.specs.declared.refusal.Refusal.{Refusal}
use Rattle.layout.specs.declared.refusal.Refusal.TheVariants as refusal
use Rattle.layout.specs.Reasons.{number_of}

pub reason : (why : Refusal) → number_of why ≡ 0 → ⊥
reason refusal.BadLength z = omega arith
reason refusal.BadSignature z = omega arith
reason refusal.BadGeometry z = omega arith
reason refusal.BadSelf z = omega arith
reason refusal.BadSlot z = omega arith
reason refusal.BadChains z = omega arith
reason refusal.BadCounts z = omega arith
reason refusal.BadJournal z = omega arith
reason refusal.BadArgument z = omega arith
reason refusal.NotFound z = omega arith
reason refusal.NameTaken z = omega arith
reason refusal.BadOffset z = omega arith
reason refusal.DirectoryFull z = omega arith
reason refusal.VolumeFull z = omega arith
reason refusal.JournalFull z = omega arith
reason refusal.NothingToUndo z = omega arith
reason refusal.TooDeep z = omega arith
reason refusal.NotEmpty z = omega arith
reason refusal.BadList z = omega arith
reason refusal.TooManyBlocks z = omega arith
reason refusal.BadTableSize z = omega arith
reason refusal.BadSettings z = omega arith
reason refusal.NoRevision z = omega arith
reason refusal.NotSettings z = omega arith
reason refusal.RevisionsUsed z = omega arith
reason refusal.BadFlags z = omega arith
reason refusal.NoMark z = omega arith
