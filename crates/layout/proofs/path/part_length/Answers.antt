use mathlib.Core.Path.{◌≡◌, refl}
use native.Mathlib.Omega.{arith}
use lib.ListN.{length, drop}
use lib.Seq.{drop-length}
use Rattle.layout.specs.Walks.Paths.{first_length}
use Rattle.layout.proofs.Walks.Paths.{first-here, first_next}
use Rattle.layout.proofs.path.part_length.Goals as goal

pub loop-i-init : goal.loop-i-init
loop-i-init c = (omega arith, refl, omega arith)

pub bounds-rest-i : goal.bounds-rest-i
bounds-rest-i c = omega arith

pub returns-then-rest-i-eq47 : goal.returns-then-rest-i-eq47
returns-then-rest-i-eq47 c =
    let e = first-here c.args.rest.now c.loop-i.i (omega arith) c.if-rest-i-eq47.true in
    (omega (arith, e, c.loop-i.invariant.2), omega arith)

pub overflow_step-i : goal.overflow_step-i
overflow_step-i c = omega arith

pub loop-i-smaller : goal.loop-i-smaller
loop-i-smaller c = omega arith

pub loop-i-preserved : goal.loop-i-preserved
loop-i-preserved c =
    let e = first_next c.args.rest.now c.loop-i.i (omega arith) c.if-rest-i-eq47.false in
    (omega arith, refl, omega (arith, e, c.loop-i.invariant.2))

pub returns : goal.returns
unfolding first_length
returns c =
    let e : c.loop-i.i ≡ length c.args.rest.now = omega arith in
    let d : first_length (drop c.loop-i.i c.args.rest.now) ≡ 0 = rw (e, drop-length c.args.rest.now) in
    (omega (arith, d, c.loop-i.invariant.2), omega arith)
