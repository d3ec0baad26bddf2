use Rattle.std.proofs.Common.{◌≡◌, ℕ, ◌/◌, arith}
use Rattle.std.proofs.Math.Numerals.{add-one, add-two, add-three, add-four, add_five, add_six, add_seven}
use Rattle.std.specs.Int.{to_be_bytes, w64}
use Rattle.layout.specs.Bytes.{bytes4, bytes8}
use Rattle.layout.proofs.Laws.Bytes.{sets-splice}
use Rattle.volume.proofs.number.put64.Goals as goal

eight_bytes : (v : ℕ) → to_be_bytes w64 v ≡ bytes8 v
unfolding bytes8 bytes4
eight_bytes v =
    let a : v / 0x100000000000000 ≡ v / 0x100000000 / 0x1000000 = omega arith in
    let b : v / 0x1000000000000 ≡ v / 0x100000000 / 0x10000 = omega arith in
    let d : v / 0x10000000000 ≡ v / 0x100000000 / 0x100 = omega arith in
    rw (a, b, d)

pub returns : goal.returns
returns c =
    let at = c.args.at in
    rw (c.to_be_bytes.ensures, ← eight_bytes c.args.v, add-one at, add-two at, add-three at, add-four at, add_five at, add_six at, add_seven at)
    (sets-splice c.args.s.now at (to_be_bytes w64 c.args.v) (omega arith))
