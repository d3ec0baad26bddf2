use Rattle.std.proofs.Common.{ℕ, List, ◌≡◌, arith}
use Rattle.std.proofs.lemmas.Bool.{ne_eqb}
use Rattle.layout.specs.Walks.Entries.{Scanned, Clean}
use Rattle.layout.proofs.Walks.Names.{field_ok-gap, field_ok-slash, field_ok-count}
use Rattle.layout.proofs.bytes.name_ok.Goals as goal
use Rattle.layout.proofs.bytes.name_ok.Goals.{then-count-last, else-count-last}

whole : (f : List ℕ) (i count last clean : ℕ) → i ≡ 80 → Scanned f i count last × Clean f i clean → Scanned f 80 count last × Clean f 80 clean
whole f i count last clean e g = rw (← e) g

pub returns-then-clean-eq80 : goal.returns-then-clean-eq80
returns-then-clean-eq80 c =
    let l = c.loop-end in
    let g = whole _ _ l.count l.last l.clean (omega arith) l.invariant.1 in
    field_ok-count _ c.requires _ _ _ g.0 g.1 c.if-clean-eq80.true.0 c.if-clean-eq80.true.1

pub returns-else-clean-eq80 : goal.returns-else-clean-eq80
returns-else-clean-eq80 c =
    let l = c.loop-end in
    let g = whole _ _ l.count l.last l.clean (omega arith) l.invariant.1 in
    elim c.if-count-last.branch [
      | then-count-last w ↦
          let ne : l.clean ≡ 80 → ⊥ = grind arith in
          let a = ne_eqb l.clean 80 ne in
          let b = field_ok-slash _ c.requires _ _ _ g.0 g.1 ne in
          cc
      | else-count-last w ↦
          let a = ne_eqb l.count l.last w.if-count-last.false in
          let b = field_ok-gap _ c.requires _ _ _ g.0 g.1 w.if-count-last.false in
          cc
    ]
