-- Runs in which lists are written too (FORMAT.md, 15): "each item done is a change of its own, and the list call is none". So a list call is, in a run, the
-- writes that it does, and the replay gets each of them.
use Rattle.std.specs.Prelude.{ℕ, ◌+◌, List, map, take}
use Rattle.journal.specs.Run.{change}
use Rattle.journal.specs.Kinds.{Kind, FreeRunTheorem}
use Rattle.journal.specs.Back.{Tell}
use Rattle.write_list.specs.List.{writes, write_list}

-- what a list answers
pub record Stopped : Type 0 where
  pub number : ℕ
  pub done : ℕ

-- the lists, as bytes; none ends a run
abbrev pub lists : Kind
lists = record {
  Further = List ℕ;
  Reply = Stopped;
  after = λ p l. (write_list p l).state;
  reply = λ p l. record { number = (write_list p l).number; done = (write_list p l).done };
  calls = λ p l. map change (take (write_list p l).done (writes l));
  Fits = λ p l. Unit {0};
}

abbrev pub ListRunTheorem : Type 0
ListRunTheorem = FreeRunTheorem lists

-- how a program counts the changes that stand: as many more as were done
abbrev pub list_tell : Tell lists
list_tell k r = k + r.done
