use Rattle.std.proofs.Common.{refl, arith}
use Rattle.layout.proofs.Laws.Reasons.{reason}
use Rattle.layout.proofs.Walks.Listed.{lists-why, entry-refused, entry-none, entry-given}
use Rattle.layout.proofs.overview.next_entry.Goals as goal

pub returns-in-Err : goal.returns-in-Err
returns-in-Err c =
    let a = c.args in
    let why = c.in-Err.why in
    entry-refused a.image.now a.path.now a.start a.buffer.now (lists-why a.image.now a.path.now why c.in-Err.ensures) _ (reason why) (rw c.number.ensures at c.no_entry.ensures)

pub used_slot-requires : goal.used_slot-requires
used_slot-requires c = c.in-Ok.ensures.there refl

pub returns-in_default : goal.returns-in_default
returns-in_default c =
    let a = c.args in
    entry-none a.image.now a.path.now a.start a.buffer.now c.in-Ok.ensures _ refl c.in_default.ensures refl c.no_entry-in_default.ensures

pub entry_fields-fields-requires : goal.entry_fields-fields-requires
entry_fields-fields-requires c =
    let D = c.in-Ok.ensures.there refl in
    let st = c.in-Some.ensures in
    let h = (st.0.block st.1).0 in
    (omega (arith, h, D.shape), st.0.low)

pub copy_block-requires : goal.copy_block-requires
copy_block-requires c =
    let D = c.in-Ok.ensures.there refl in
    let st = c.in-Some.ensures in
    let h = (st.0.block st.1).0 in
    (omega (arith, h, D.shape), omega arith, omega arith)

pub returns : goal.returns
returns c =
    let a = c.args in
    let st = c.in-Some.ensures in
    entry-given a.image.now a.path.now a.start a.buffer.now c.in-Ok.ensures _ refl st.0 st.1
    c.entry_fields-fields.ensures _ _ _ c.min-count.ensures (omega arith) c.copy_block.ensures
