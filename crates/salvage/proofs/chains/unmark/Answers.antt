use Rattle.std.proofs.Common.{◌≡◌, ◌-◌, arith, refl}
use Rattle.layout.proofs.Walks.Shapes.{run-first}
use Rattle.salvage.proofs.Walks.Claims.{unmarking-end, unmarking-turn}
use Rattle.salvage.proofs.chains.unmark.Goals as goal

pub loop-init : goal.loop-init
loop-init c = let e : c.args.k - 0 ≡ c.args.k = omega arith in rw e (record { run = c.requires.0; size = c.requires.1; whole = refl })

pub bounds-marks-b : goal.bounds-marks-b
bounds-marks-b c = omega (arith, run-first c.loop.invariant.run (omega arith), c.loop.invariant.size)

pub entry-b-requires : goal.entry-b-requires
entry-b-requires c = omega (arith, run-first c.loop.invariant.run (omega arith), c.requires.0.shape)

pub loop-preserved : goal.loop-preserved
loop-preserved c = unmarking-turn c.loop.invariant _ (omega arith) _ c.entry-b.ensures

pub returns : goal.returns
returns c = unmarking-end c.loop.invariant (omega arith)
