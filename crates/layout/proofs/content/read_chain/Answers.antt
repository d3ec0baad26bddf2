use mathlib.Core.Path.{refl, ◌∙◌}
use native.Mathlib.Omega.{arith}
use Rattle.layout.proofs.Walks.Content.{below-nth, least-cases, reading-here, reading-pass, reading_step, reading-end}
use Rattle.layout.proofs.content.read_chain.Goals as goal
use Rattle.layout.proofs.content.read_chain.Goals.{then-o-ge512, else-o-ge512}

pub loop-rest-init : goal.loop-rest-init
loop-rest-init c = record { long = refl; place = omega arith; enough = omega arith; inside = below-nth _ _ _ _ c.requires.0; whole = refl }

pub overflow_sub-o-else-o-ge512 : goal.overflow_sub-o-else-o-ge512
overflow_sub-o-else-o-ge512 c = omega arith

pub copy_block-requires : goal.copy_block-requires
copy_block-requires c =
    let l = c.loop-rest in
    let p = c.requires in
    let h = reading-here _ _ _ _ _ _ _ _ _ _ _ _ p.0.shape.whole l.invariant (omega arith) in
    let f = least-cases _ _ _ (omega arith) c.min-m.ensures in
    (omega arith, omega arith, omega arith)

pub overflow_add-p : goal.overflow_add-p
overflow_add-p c = omega arith

pub overflow_sub-rest : goal.overflow_sub-rest
overflow_sub-rest c = omega arith

pub entry-b-requires : goal.entry-b-requires
entry-b-requires c =
    let h = reading-here _ _ _ _ _ _ _ _ _ _ _ _ c.requires.0.shape.whole c.loop-rest.invariant
    (omega arith) in
    omega arith

pub overflow_sub-left : goal.overflow_sub-left
overflow_sub-left c = omega arith

pub loop-rest-smaller : goal.loop-rest-smaller
loop-rest-smaller c = omega arith

pub loop-rest-preserved : goal.loop-rest-preserved
loop-rest-preserved c =
    let i = c.loop-rest.invariant in
    let s = c.requires.0.shape.whole in
    elim c.if-o-ge512.branch [
      | then-o-ge512 w ↦ rw (w.buf-is, w.o-is, w.p-is, w.rest-is, c.entry-b.ensures) (reading-pass _ _ _ _ _ _ _ _ _ _ _ _ s i (omega arith) w.if-o-ge512.true)
      | else-o-ge512 w ↦ rw (w.buf-is ∙ w.copy_block.ensures, w.o-is, w.p-is, w.rest-is, c.entry-b.ensures)
          (reading_step _ _ _ _ _ _ _ _ _ _ _ _ s _ (least-cases _ _ _ w.if-o-ge512.false w.min-m.ensures) i (omega arith))
    ]

pub shape_of-buf : goal.shape_of-buf
shape_of-buf c = c.loop-rest.invariant.long

pub returns : goal.returns
returns c =
    reading-end _ _ _ _ _ _ _ _ _ _ _ _ c.requires.0.shape.whole c.loop-rest.invariant (omega arith)
    (below-nth _ _ _ _ c.requires.0) c.requires.1
