use Rattle.std.proofs.Common.{sym, ◌∙◌, ◌+◌, ◌*◌, ◌-◌, ⊎_elim, length, arith}
use Rattle.layout.proofs.Laws.Tests.{lt-or-ge}
use Rattle.layout.proofs.Walks.Names.{begins-apart, begins-all, word-bytes}
use Rattle.layout.proofs.bytes.starts_alike.Goals as goal
use Rattle.layout.proofs.bytes.starts_alike.Goals.{then-word-via-then-word, then-word-via-else-word+then-word-2}

pub loop-i-init : goal.loop-i-init
loop-i-init c = (λ j h k. absurd (omega arith), λ j h k. absurd (omega arith))

pub returns-then-word : goal.returns-then-word
returns-then-word c =
    let apart = begins-apart c.args.field.now c.args.name.now c.requires.0 in
    elim c.then-word.branch [
      | then-word-via-then-word w ↦ sym (apart _ (omega arith) (λ e. w.if-word.true (c.word.ensures ∙ e ∙ sym c.word-in-loop-i.ensures)))
      | then-word-via-else-word+then-word-2 w ↦ sym (apart _ (omega arith) (λ e. w.if-word-2.true (w.word-else-word.ensures ∙ e ∙ sym w.word-else-word-2.ensures)))
    ]

pub loop-i-preserved : goal.loop-i-preserved
loop-i-preserved c =
    let a = c.args in
    let l = c.loop-i in
    let alike = word-bytes a.field.now a.name.now (λ i. omega (arith, c.type_inv.field i)) (λ i. omega (arith, c.type_inv.name i)) in
    let last = alike (length a.name.now - 4 * l.i - 4) (sym c.word.ensures ∙ c.if-word.false ∙ c.word-in-loop-i.ensures) in
    let first = alike (4 * l.i) (sym c.word-else-word.ensures ∙ c.if-word-2.false ∙ c.word-else-word-2.ensures) in (
      λ j h k. ⊎_elim (λ q. l.invariant.0 j q k) (λ q. first j q (omega arith)) (lt-or-ge j (4 * l.i)),
      λ j h k. ⊎_elim (λ q. last j (omega arith) (omega arith)) (λ q. l.invariant.1 j (omega arith) k) (lt-or-ge (j + 4 * l.i) (length a.name.now)),
    )

pub returns : goal.returns
returns c =
    let a = c.args in
    let l = c.loop-i in
    sym (begins-all a.field.now a.name.now c.requires.0
    (λ j k. ⊎_elim (λ q. l.invariant.0 j q k) (λ q. l.invariant.1 j (omega arith) k) (lt-or-ge j (4 * l.i))))
