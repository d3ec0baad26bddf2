-- Runs of all calls (FORMAT.md, 11): the calls of `Run`, and beside them lists of writes, appends, read on, loads and stores of the table, infos of
-- the journal and undos to a mark, in any order. Format, journal start
-- and salvage are no calls of a run, which begins with what they leave. The plain check answers what the check does, and is the same look.
use Rattle.std.specs.Prelude.{ℕ, ◌+◌, List, [], ◌∷◌}
use Rattle.layout.specs.Looks.{ReadAnswer, read}
use Rattle.journal.specs.Run.{look, read_file}
use Rattle.journal.specs.Kinds.{Kind, KindRunTheorem, one_of}
use Rattle.journal.specs.Back.{Tell, KindCountTheorem}
use Rattle.write_list.specs.Runs.{lists, list_tell}
use Rattle.append.specs.Runs.{pieces, piece_tell}
use Rattle.chain_table.specs.Runs.{transfers, transfer_tell}
use Rattle.back.specs.Runs.{infos, backs, info_tell, back_tell, ToldTheorem, ToStartTheorem, ToMarkTheorem, NeverBelowTheorem}

-- Read on (FORMAT.md, 7.3): "the reader answers as 01's read at its place, which moves on by the count". The place is the caller's, and the next one part of the answer.
pub record Reading : Type 0 where
  pub path : List ℕ
  pub position : ℕ
  pub buffer : List ℕ

pub record ReadingAnswer : Type 0 where
  pub answer : ReadAnswer
  pub next : ℕ

abbrev pub readings : Kind
readings = record {
  Further = Reading;
  Reply = ReadingAnswer;
  after = λ p r. p;
  reply = λ p r. let a : ReadAnswer = read p.image r.path r.position r.buffer in record { answer = a; next = r.position + a.count };
  calls = λ p r. look (read_file r.path r.position r.buffer) ∷ [];
  Fits = λ p r. Unit {0};
}

-- the kinds of further calls
pub data FurtherKind : Type 0 where
  list : FurtherKind
  append : FurtherKind
  read_on : FurtherKind
  table : FurtherKind
  journal_info : FurtherKind
  undo_to : FurtherKind

abbrev pub kind_of : FurtherKind → Kind
kind_of list = lists
kind_of append = pieces
kind_of read_on = readings
kind_of table = transfers
kind_of journal_info = infos
kind_of undo_to = backs

-- DEMAND 3 over every run of calls; only a store of other numbers than the image's own ends one
abbrev pub EveryRunTheorem : Type 0
EveryRunTheorem = KindRunTheorem (one_of kind_of)

-- how a program counts the changes that stand by the answers of each kind: after every such run as many undos give image and whole journal of the start
abbrev pub tell_of : (i : FurtherKind) → Tell (kind_of i)
tell_of list = list_tell
tell_of append = piece_tell
tell_of read_on = λ k r. k
tell_of table = transfer_tell
tell_of journal_info = info_tell
tell_of undo_to = back_tell

abbrev pub EveryCountTheorem : Type 0
EveryCountTheorem = KindCountTheorem (one_of kind_of) (λ k r. tell_of r.0 k r.1)

-- After every such run, an info answers 0 and as many records as changes stand
abbrev pub EveryInfoTheorem : Type 0
EveryInfoTheorem = ToldTheorem (one_of kind_of)

-- After every such run, one undo to the mark 5 gives image and whole journal of the start, and one to the mark of a moment those of the moment
abbrev pub EveryStartTheorem : Type 0
EveryStartTheorem = ToStartTheorem (one_of kind_of)

abbrev pub EveryMarkTheorem : Type 0
EveryMarkTheorem = ToMarkTheorem (one_of kind_of)

abbrev pub EveryNeverBelowTheorem : Type 0
EveryNeverBelowTheorem = NeverBelowTheorem (one_of kind_of)
