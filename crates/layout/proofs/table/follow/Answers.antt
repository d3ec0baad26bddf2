use Rattle.std.proofs.Common.{◌≡◌, ◌∙◌, ◌+◌, ◌-◌, sym, arith}
use Rattle.layout.proofs.Walks.Chains.{walk_end, walk-next, walk-low, walk-high, walk-marked, follow-none, follow-walk}
use Rattle.layout.proofs.table.follow.Goals as goal
use Rattle.layout.proofs.table.follow.Goals.{then-b-t-via-then-b-t, then-b-t-via-else-b-t+then-n-b, then-b-t-via-else-b-t+else-n-b+then-marks-b-ne0}

pub returns-then-k-eq0 : goal.returns-then-k-eq0
returns-then-k-eq0 c = sym (follow-none _ _ _ _ _ c.if-k-eq0.true)

pub loop-init : goal.loop-init
loop-init c =
    let e : c.args.k - 0 ≡ c.args.k = omega arith in
    follow-walk _ _ _ _ _ c.if-k-eq0.false ∙ rw e

pub returns-then-b-t : goal.returns-then-b-t
returns-then-b-t c =
    let e = c.loop.invariant in
    elim c.then-b-t.branch [
      | then-b-t-via-then-b-t w ↦ sym (e ∙ walk-low _ _ _ _ _ (omega arith) (omega arith))
      | then-b-t-via-else-b-t+then-n-b w ↦ sym (e ∙ walk-high _ _ _ _ _ (omega arith) (omega arith) (omega arith))
      | then-b-t-via-else-b-t+else-n-b+then-marks-b-ne0 w ↦
          sym (e ∙ walk-marked _ _ _ _ _ (omega arith) (omega arith) (omega arith) w.if-marks-b-ne0.true)
    ]

pub loop-preserved : goal.loop-preserved
loop-preserved c =
    let l = c.loop in
    let d : c.args.k - l.counter - 1 ≡ c.args.k - (l.counter + 1) = omega arith in
    l.invariant ∙ walk-next _ _ _ _ _ (omega arith) (omega arith) (omega arith) c.if-marks-b-ne0.false ∙ rw (d, c.entry-b.ensures)

pub returns : goal.returns
returns c = sym (c.loop.invariant ∙ walk_end _ _ _ _ _ (omega arith))
