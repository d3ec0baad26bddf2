use Rattle.std.proofs.Common.{◌<◌, length, sym, ◌∙◌, arith, rules, tests}
use Rattle.std.proofs.lemmas.Iterator.{YieldsList-from_slice}
use Rattle.std.proofs.lemmas.Iterator.Search.{all_from_yields_List}
use borrow.Author.Tests.{lt-leb, le-ltb}
use Rattle.store.specs.Put.{serial_byte}
use Rattle.store.proofs.Walks.Serials.{serial_ok-bytes, serial_ok-empty, serial_ok-long, all-every}
use Rattle.store.proofs.serial.serial_ok.Goals as goal
use Rattle.store.proofs.serial.serial_ok.Goals.{then-serial-gt0, else-serial-gt0}

pub returns-then-serial-le-MAX_SERIAL : goal.returns-then-serial-le-MAX_SERIAL
returns-then-serial-le-MAX_SERIAL c =
    let s = c.args.serial.now in
    all_from_yields_List serial_byte _ _ _ c.all.ensures.ran (YieldsList-from_slice s (cc)) (λ x b q k. search (rules, tests))
    ∙ all-every serial_byte s ∙ sym (serial_ok-bytes s (omega arith) (omega arith))

pub returns-else-serial-le-MAX_SERIAL : goal.returns-else-serial-le-MAX_SERIAL
returns-else-serial-le-MAX_SERIAL c = elim c.if-serial-gt0.branch [
  | then-serial-gt0 w ↦ let h : 16 < length c.args.serial.now = omega arith in w.t-3-is ∙ lt-leb _ _ h ∙ sym (serial_ok-long _ h)
  | else-serial-gt0 w ↦ w.t-3-is ∙ le-ltb _ _ w.if-serial-gt0.false ∙ sym (serial_ok-empty _ (omega arith))
]
