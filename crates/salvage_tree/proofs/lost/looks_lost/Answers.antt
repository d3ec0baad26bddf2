use Rattle.std.proofs.Common.{arith}
use Rattle.layout.proofs.Walks.Fingerprints.{field-long}
use Rattle.salvage_tree.proofs.Walks.Lost.{lost-marked, lost-free, lost-type, lost-self, lost-parent, lost-named}
use Rattle.salvage_tree.proofs.lost.looks_lost.Goals as goal
use Rattle.salvage_tree.proofs.lost.looks_lost.Goals.{then-marks-b-ne0-via-then-marks-b-ne0, then-marks-b-ne0-via-else-marks-b-ne0+then-entry-eq0, then-type_at-ne1-via-then-type_at-ne1, then-type_at-ne1-via-else-type_at-ne1+then-number_at-b, then-type_at-ne1-via-else-type_at-ne1+else-number_at-b+then-number_at-t}

pub returns-then-marks-b-ne0 : goal.returns-then-marks-b-ne0
returns-then-marks-b-ne0 c =
    elim c.then-marks-b-ne0.branch [
      | then-marks-b-ne0-via-then-marks-b-ne0 w ↦ lost-marked _ _ _ _ w.if-marks-b-ne0.true
      | then-marks-b-ne0-via-else-marks-b-ne0+then-entry-eq0 w ↦ lost-free _ _ _ _ w.if-marks-b-ne0.false _ w.entry.ensures w.if-entry-eq0.true
    ]

pub returns-then-type_at-ne1 : goal.returns-then-type_at-ne1
returns-then-type_at-ne1 c =
    let m = c.if-marks-b-ne0.false in
    let e = c.if-entry-eq0.false in
    elim c.then-type_at-ne1.branch [
      | then-type_at-ne1-via-then-type_at-ne1 w ↦ lost-type _ _ _ _ m _ c.entry.ensures e _ c.type_at.ensures w.if-type_at-ne1.true
      | then-type_at-ne1-via-else-type_at-ne1+then-number_at-b w ↦ lost-self _ _ _ _ m _ c.entry.ensures e _ c.type_at.ensures w.if-type_at-ne1.false _ w.number_at.ensures w.if-number_at-b.true
      | then-type_at-ne1-via-else-type_at-ne1+else-number_at-b+then-number_at-t w ↦
          lost-parent _ _ _ _ m _ c.entry.ensures e _ c.type_at.ensures w.if-type_at-ne1.false _ w.number_at.ensures w.if-number_at-b.false _ w.number_at-else-number_at-b.ensures w.if-number_at-t.true
    ]

pub name_ok-requires : goal.name_ok-requires
name_ok-requires c = field-long c.args.image.now c.args.b 0 _ c.field_at.ensures (omega (arith, c.requires))

pub returns : goal.returns
returns c = lost-named _ _ _ _ c.if-marks-b-ne0.false _ c.entry.ensures c.if-entry-eq0.false _ c.type_at.ensures c.if-type_at-ne1.false _ c.number_at.ensures c.if-number_at-b.false _ c.number_at-else-number_at-b.ensures c.if-number_at-t.false _ c.field_at.ensures _ c.name_ok.ensures
