use Rattle.std.proofs.Common.{[], ◌∷◌, refl, arith}
use Rattle.lister.proofs.Pieces.{begin, room, more, finish}
use Rattle.lister.proofs.Lines.{name-end, name-stop, name-more}
use Rattle.lister.proofs.text.put_name.Goals as goal

pub loop-x-init : goal.loop-x-init
loop-x-init c = begin c.args.out.now _ _ _ c.requires refl

pub shape_of-out-then-x-eq0 : goal.shape_of-out-then-x-eq0
shape_of-out-then-x-eq0 c = c.loop-x.invariant.size

pub returns-then-x-eq0 : goal.returns-then-x-eq0
returns-then-x-eq0 c = finish c.loop-x.invariant (name-stop c.args.field.now c.loop-x.x-index (omega arith) c.if-x-eq0.true)

pub put_byte-p-requires : goal.put_byte-p-requires
put_byte-p-requires c = room c.loop-x.invariant (c.shown.result ∷ []) _ (name-more c.args.field.now c.loop-x.x-index (omega arith) c.shown.result c.shown.ensures c.if-x-eq0.false)

pub loop-x-preserved : goal.loop-x-preserved
loop-x-preserved c = more c.loop-x.invariant c.put_byte-p.ensures _ (name-more c.args.field.now c.loop-x.x-index (omega arith) c.shown.result c.shown.ensures c.if-x-eq0.false)

pub shape_of-out : goal.shape_of-out
shape_of-out c = c.loop-x.invariant.size

pub returns : goal.returns
returns c = finish c.loop-x.invariant (name-end c.args.field.now c.loop-x.x-index (omega arith))
