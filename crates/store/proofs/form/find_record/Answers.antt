use Rattle.std.proofs.Common.{◌≡◌, ◌+◌, ◌-◌, refl, sym, ap, length, arith}
use Rattle.store.proofs.Walks.Records.{find-start, find-fits, find-found, find-step, find-end}
use Rattle.store.proofs.form.find_record.Goals as goal

pub loop-at-init : goal.loop-at-init
loop-at-init c = find-start _ _ c.requires

pub get32-requires : goal.get32-requires
get32-requires c = omega (arith, (find-fits _ _ _ c.loop-at.invariant (omega arith) _ c.from.ensures).0)

pub slice_bounds-result-end : goal.slice_bounds-result-end
slice_bounds-result-end c = omega (arith, (find-fits _ _ _ c.loop-at.invariant (omega arith) _ c.from.ensures).0)

pub returns-then-get32-x : goal.returns-then-get32-x
returns-then-get32-x c =
    let p = find-found _ _ _ c.loop-at.invariant (omega arith) _ c.from.ensures _ c.get32.ensures c.if-get32-x.true in
    let a = c.loop-at.at in
    let e : a + 5 + c.from.result - (a + 5) ≡ c.from.result = omega arith in
    rw e (sym p.there, p.bytes-are refl, omega (arith, ap length (p.bytes-are refl), p.size_is refl, p.short))

pub loop-at-preserved : goal.loop-at-preserved
loop-at-preserved c = find-step _ _ _ c.loop-at.invariant (omega arith) _ c.from.ensures _ c.get32.ensures c.if-get32-x.false

pub returns : goal.returns
returns c = sym (find-end _ _ _ c.loop-at.invariant (omega arith)).there
