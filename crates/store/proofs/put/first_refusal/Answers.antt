use Rattle.std.proofs.Common.{refl, arith}
use Rattle.std.proofs.lemmas.Result.{err_from_is_err_and}
use Rattle.layout.specs.Reasons.{number_of}
use Rattle.layout.proofs.Laws.Reasons.{reason}
use Rattle.layout.proofs.Walks.Shapes.{sound-shape}
use Rattle.store.specs.Put.{path_of}
use Rattle.store.proofs.Walks.Prepares.{searched-why, first-refused, first-none, first-place}
use Rattle.store.proofs.put.first_refusal.Goals as goal

pub returns-in_err-place-clause-place : goal.returns-in_err-place-clause-place
returns-in_err-place-clause-place c =
    let a = c.args in
    let path = path_of a.directory.now a.serial.now in
    let why = c.in_err-place.field-0.0 in
    let q = err_from_is_err_and c.from_residual.result c.from_residual.ensures.1 in
    rw (q.1, q.2) (first-refused a.image.now path c.requires.0 (searched-why a.image.now path _ why c.in_err-place.ensures) (reason why) (number_of why) 0 0 0 refl).number_is

pub header_number-requires : goal.header_number-requires
header_number-requires c = let h = sound-shape _ c.requires.0 in (omega (arith, h.whole, h.low), omega arith)

pub returns-then-header_number-lt1-clause-place : goal.returns-then-header_number-lt1-clause-place
returns-then-header_number-lt1-clause-place c = (first-none _ _ c.requires.0 c.in_ok-place.ensures refl _ c.header_number.ensures c.if-header_number-lt1.true 14 0 0 0 refl).number_is

pub returns-clause-place : goal.returns-clause-place
returns-clause-place c = first-place _ _ c.requires.0 c.in_ok-place.ensures refl _ c.header_number.ensures c.if-header_number-lt1.false
