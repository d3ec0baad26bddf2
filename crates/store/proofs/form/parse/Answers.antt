use Rattle.std.proofs.Common.{arith}
use Rattle.store.proofs.Walks.Rooms.{form-bad, parse-loaded}
use Rattle.store.proofs.form.parse.Goals as goal

pub returns-then-room-ne1-clause-form : goal.returns-then-room-ne1-clause-form
returns-then-room-ne1-clause-form c = form-bad _ _ _ c.get32-used.ensures (λ v a d e. omega arith)

pub returns-clause-form : goal.returns-clause-form
returns-clause-form c = parse-loaded _ _ _ c.get32-used.ensures c.if-room-ne1.false c.if-used-lt5.false c.if-size-used.false c.if-used-gt-MAX_FORM.false _ c.scan.ensures c.requires
