use Rattle.std.proofs.Common.{◌≡◌, refl, arith}
use Rattle.volume_file.specs.Format.{home_sectors, file_refusal}
use Rattle.volume_file.proofs.Laws.Reasons.{none-refused, some-accepted}
use Rattle.volume_file.proofs.Walks.Places.{home-refused, home-beyond, home-small, home-room, home-named, named-small}
use Rattle.volume_file.proofs.parts.home_sector.Goals as goal

pub returns-in_err-h-clause-sector : goal.returns-in_err-h-clause-sector
returns-in_err-h-clause-sector c = rw c.from_residual.ensures (home-refused _ _ c.accepted.ensures.number _ (none-refused _ c.in_err-h.ensures.value))

pub returns-then-h-index-clause-sector : goal.returns-then-h-index-clause-sector
returns-then-h-index-clause-sector c =
    let r = some-accepted _ _ c.in_ok-h.ensures.value in
    let n : 0 ≡ file_refusal c.args.file.now = rw r at c.accepted.ensures.number in
    let s : c.in_ok-h.h ≡ home_sectors c.args.file.now = rw r at c.accepted.ensures.home in
    home-beyond _ _ n refl _ _ s c.if-h-index.true

pub address-a-requires : goal.address-a-requires
address-a-requires c =
    let r = some-accepted _ _ c.in_ok-h.ensures.value in
    let n : 0 ≡ file_refusal c.args.file.now = rw r at c.accepted.ensures.number in
    let s : c.in_ok-h.h ≡ home_sectors c.args.file.now = rw r at c.accepted.ensures.home in
    let b = home-small _ _ n refl _ s in
    (b, omega (arith, b), home-room _ _ n refl _ _ s c.if-h-index.false)

pub returns-clause-sector : goal.returns-clause-sector
returns-clause-sector c =
    let r = some-accepted _ _ c.in_ok-h.ensures.value in
    let n : 0 ≡ file_refusal c.args.file.now = rw r at c.accepted.ensures.number in
    let s : c.in_ok-h.h ≡ home_sectors c.args.file.now = rw r at c.accepted.ensures.home in
    rw c.then_some.ensures (home-named _ _ n refl _ _ s c.if-h-index.false _ c.address-a.ensures)

pub returns-clause-small : goal.returns-clause-small
returns-clause-small c =
    let r = some-accepted _ _ c.in_ok-h.ensures.value in
    let n : 0 ≡ file_refusal c.args.file.now = rw r at c.accepted.ensures.number in
    let s : c.in_ok-h.h ≡ home_sectors c.args.file.now = rw r at c.accepted.ensures.home in
    rw c.then_some.ensures (named-small _ _ _ (home-small _ _ n refl _ s))
