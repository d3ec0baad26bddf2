use Rattle.std.proofs.Common.{◌≡◌, ◌∙◌, ◌+◌, ◌-◌, sym, arith}
use Rattle.layout.proofs.Walks.Fingerprints.{fingerprint-start, sums-end, sums_next, weighed}
use Rattle.layout.proofs.names.fingerprint.Goals as goal

pub loop-i-init : goal.loop-i-init
loop-i-init c = (omega arith, fingerprint-start _)

pub overflow_mul-sum : goal.overflow_mul-sum
overflow_mul-sum c = omega (arith, weighed c.loop-i.i c.word.result (omega arith) (omega arith))

pub overflow_add-sum-in-loop-i : goal.overflow_add-sum-in-loop-i
overflow_add-sum-in-loop-i c = omega (arith, weighed c.loop-i.i c.word.result (omega arith) (omega arith))

pub loop-i-preserved : goal.loop-i-preserved
loop-i-preserved c =
    let l = c.loop-i in
    let w = weighed l.i c.word.result (omega arith) (omega arith) in
    let d : 20 - l.i - 1 ≡ 20 - (l.i + 1) = omega arith in
    (omega arith, l.invariant.1 ∙ sums_next _ _ _ _ (omega arith) _ c.word.ensures ∙ rw d)

pub returns : goal.returns
returns c =
    let l = c.loop-i in
    sym (l.invariant.1 ∙ sums-end _ _ _ _ (omega arith))
