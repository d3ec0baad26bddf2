use Prim.Native.Nat.{◌+◌, ◌-◌}
use mathlib.Core.Path.{◌≡◌, ap}
use native.Mathlib.Omega.{arith}
use native.Mathlib.Nat.{sub-zero}
use lib.ListN.{length}
use Rattle.layout.specs.Walks.Chains.{count_used}
use Rattle.layout.proofs.Walks.Chains.{count_used-end, count_used-free, count_used-used}
use Rattle.chain_table.specs.Numbers.{value_in}
use Rattle.chain_table.proofs.Laws.Turns.{count-occupied}
use Rattle.chain_table.proofs.questions.count_used.Goals as goal
use Rattle.chain_table.proofs.questions.count_used.Goals.{then-number-ne0, else-number-ne0}

pub loop-number-init : goal.loop-number-init
loop-number-init c = (omega arith, rw sub-zero (omega arith))

pub loop-number-preserved : goal.loop-number-preserved
loop-number-preserved c =
    let l = c.loop-number in
    let r = c.args.numbers.now in
    let i = l.number-index in
    let rest : length r - i - 1 ≡ length r - (i + 1) = omega arith in
    let next = ap (count_used (value_in r) (i + 1)) rest in
    elim c.if-number-ne0.branch [
      | then-number-ne0 w ↦
          let e = count_used-used (value_in r) i (length r - i) (omega arith) w.if-number-ne0.true in
          (omega arith, omega (arith, e, next, l.invariant.1))
      | else-number-ne0 w ↦
          let e = count_used-free (value_in r) i (length r - i) (omega arith) w.if-number-ne0.false in
          (omega arith, omega (arith, e, next, l.invariant.1))
    ]

pub returns : goal.returns
returns c =
    let l = c.loop-number in
    let r = c.args.numbers.now in
    let e = count_used-end (value_in r) l.number-index (length r - l.number-index) (omega arith) in
    omega (arith, e, l.invariant.1, count-occupied (value_in r) (length r))
