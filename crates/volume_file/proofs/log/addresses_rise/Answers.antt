use Rattle.std.proofs.Common.{sym, ◌∙◌, ◌≡◌, ◌+◌, ◌-◌, arith}
use Rattle.volume_file.proofs.Walks.Turns.{rising-no, rising-yes, rising-end}
use Rattle.volume_file.proofs.log.addresses_rise.Goals as goal

pub returns-then-limit-x : goal.returns-then-limit-x
returns-then-limit-x c = sym (c.loop-i.invariant.1 ∙ rising-no _ _ _ _ _ (omega arith) c.address-x.ensures (omega arith))

pub loop-i-preserved : goal.loop-i-preserved
loop-i-preserved c =
    let w = c.loop-i in
    let e : c.args.k - (w.i + 1) ≡ c.args.k - w.i - 1 = omega arith in
    (omega arith, rw e (w.invariant.1 ∙ rising-yes _ _ _ _ _ (omega arith) c.address-x.ensures (omega arith)))

pub returns : goal.returns
returns c = sym (c.loop-i.invariant.1 ∙ rising-end _ _ _ _ (omega arith))
