use Rattle.std.proofs.Common.{◌≡◌, true, false}
use Rattle.plain_check.specs.Walks.{file_answer}
use Rattle.plain_check.proofs.check.ask_file.Goals as goal

pub returns-then-not-is_file-clause-equal : goal.returns-then-not-is_file-clause-equal
unfolding file_answer
returns-then-not-is_file-clause-equal g c = λ q n a.
    let t : c.is_file.result ≡ false = c.if-not-is_file.true in
    rw (← c.byte.ensures.0, ← c.is_file.ensures, t)

pub returns-clause-equal : goal.returns-clause-equal
unfolding file_answer
returns-clause-equal g c = λ q n a.
    let t : c.is_file.result ≡ true = c.if-not-is_file.false in
    rw (← c.byte.ensures.0, ← c.is_file.ensures, t, ← c.number.ensures.0, ← c.number-2.ensures.0, ← c.number-3.ensures.0, ← c.number-4.ensures.0, a _ _ _ c.number.ensures.1 c.number-2.ensures.1 c.ask-a.ensures, a _ _ _ c.number-3.ensures.1 c.number-4.ensures.1 c.ask.ensures)
