-- The reasons of a refusal by their numbers (FORMAT.md, 6.3), and the number that an answer gives: 0 where the call is accepted.
use Rattle.std.specs.Prelude.{ℕ, Result, Ok, Err}
use Rattle.layout.specs.declared.refusal.Refusal.{Refusal}
use Rattle.layout.specs.declared.refusal.Refusal.TheVariants as refusal

abbrev pub number_of : Refusal → ℕ
number_of refusal.BadLength = 1
number_of refusal.BadSignature = 2
number_of refusal.BadGeometry = 3
number_of refusal.BadSelf = 4
number_of refusal.BadSlot = 5
number_of refusal.BadChains = 6
number_of refusal.BadCounts = 7
number_of refusal.BadJournal = 8
number_of refusal.BadArgument = 9
number_of refusal.NotFound = 10
number_of refusal.NameTaken = 11
number_of refusal.BadOffset = 12
number_of refusal.DirectoryFull = 13
number_of refusal.VolumeFull = 14
number_of refusal.JournalFull = 15
number_of refusal.NothingToUndo = 16
number_of refusal.TooDeep = 17
number_of refusal.NotEmpty = 18
number_of refusal.BadList = 19
number_of refusal.TooManyBlocks = 20
number_of refusal.BadTableSize = 21
number_of refusal.BadSettings = 22
number_of refusal.NoRevision = 23
number_of refusal.NotSettings = 24
number_of refusal.RevisionsUsed = 25
number_of refusal.BadFlags = 26
number_of refusal.NoMark = 27

abbrev pub outcome : {T : Type 0} → Result T Refusal → ℕ
outcome (Ok given) = 0
outcome (Err why) = number_of why
