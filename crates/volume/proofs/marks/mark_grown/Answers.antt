use mathlib.Core.Path.{sym, ◌∙◌}
use native.Mathlib.Omega.{arith}
use Rattle.layout.specs.Table.{chain}
use Rattle.volume.specs.Walks.Searches.{without}
use Rattle.volume.proofs.Walks.WriteNamed.{grown-none, grown-first, grown-behind}
use Rattle.volume.proofs.marks.mark_grown.Goals as goal

pub returns-then-count-eq0 : goal.returns-then-count-eq0
returns-then-count-eq0 c = sym (grown-none _ _ _ _ c.if-count-eq0.true)

pub mark_free-requires : goal.mark_free-requires
unfolding chain without
mark_free-requires c =
    let p = c.requires in
    (record { shape = p.0; below = λ i h. absurd (omega arith) }, p.2, omega (arith, p.3))

pub returns-then-last-eq0 : goal.returns-then-last-eq0
unfolding chain without
returns-then-last-eq0 c =
    let mark-free = c.mark_free in
    let mark = c.mark in
    let if1 = c.if-count-eq0 in
    let p = c.requires in
    mark-free.ensures ∙ rw mark.ensures (grown-first _ _ _ _ p.2 if1.false c.if-last-eq0.true)

pub returns : goal.returns
unfolding chain without
returns c =
    let mark2 = c.mark-2 in
    let if2 = c.if-last-eq0 in
    let mark-free = c.mark_free in
    let mark = c.mark in
    let if1 = c.if-count-eq0 in
    let p = c.requires in
    mark2.ensures ∙ rw (mark-free.ensures, mark.ensures) (grown-behind _ _ _ _ p.2 if1.false if2.false)
