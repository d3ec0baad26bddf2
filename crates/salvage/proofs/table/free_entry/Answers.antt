use Rattle.std.proofs.Common.{sym, ap, ◌∙◌, ℕ, List, ◌≡◌}
use Rattle.layout.specs.Table.{next, set_next}
use Rattle.salvage.proofs.Walks.Table.{freed-marked, freed-free, freed-padding, freed-block}
use Rattle.salvage.proofs.table.free_entry.Goals as goal
use Rattle.salvage.proofs.table.free_entry.Goals.{then-marks-b-ne0-via-then-marks-b-ne0, then-marks-b-ne0-via-else-marks-b-ne0+then-entry-eq0, then-b-n, else-b-n}

pub returns-then-marks-b-ne0 : goal.returns-then-marks-b-ne0
returns-then-marks-b-ne0 c =
    let a = c.args in
    elim c.then-marks-b-ne0.branch [
      | then-marks-b-ne0-via-then-marks-b-ne0 w ↦ freed-marked a.image.now a.marks.now a.n a.b c.requires.0 w.if-marks-b-ne0.true
      | then-marks-b-ne0-via-else-marks-b-ne0+then-entry-eq0 w ↦ freed-free a.image.now a.marks.now a.n a.b c.requires.0 (sym w.entry.ensures ∙ w.if-entry-eq0.true)
    ]

pub returns : goal.returns
returns c =
    let a = c.args in
    let used : next a.image.now a.b ≡ 0 → ⊥ = λ z. c.if-entry-eq0.false (c.entry.ensures ∙ z) in
    let put : (x : List ℕ) → c.if-b-n.image ≡ x → c.set_entry.new.image ≡ set_next x a.b 0 = λ x e. c.set_entry.ensures ∙ ap (λ (y : List ℕ). set_next y a.b 0) e in
    elim c.if-b-n.branch [
      | then-b-n w ↦ freed-block a.image.now a.marks.now a.n a.b c.requires.0 c.if-marks-b-ne0.false used _ w.if-b-n.true (put _ (w.image-is ∙ w.clear_block.ensures))
      | else-b-n w ↦ freed-padding a.image.now a.marks.now a.n a.b c.requires.0 c.if-marks-b-ne0.false used _ w.if-b-n.false (put _ w.image-is)
    ]
