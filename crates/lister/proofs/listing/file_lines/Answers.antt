use Rattle.std.proofs.Common.{◌≡◌, ◌+◌, ◌-◌, ◌*◌, refl, arith}
use Rattle.layout.specs.Table.{next}
use Rattle.layout.specs.Walks.Slots.{entry_at}
use Rattle.layout.proofs.Walks.Slots.{place-below, place-then, place-first}
use Rattle.lister.specs.Text.{slot_line, slot_lines}
use Rattle.lister.proofs.Pieces.{begin, room, more, finish}
use Rattle.lister.proofs.Lines.{lines_end, lines-turn}
use Rattle.lister.proofs.listing.file_lines.Goals as goal

pub loop-k-init : goal.loop-k-init
loop-k-init c =
    let a = c.args in
    let p = c.requires in
    let q : 4 * a.d - 1 - 1 ≡ 4 * a.d - 2 = omega arith in
    rw q (begin a.out.now _ _ _ p.2 refl, place-first (next a.image.now) a.first a.d (omega arith))

pub slot_line-p-requires : goal.slot_line-p-requires
slot_line-p-requires c =
    let l = c.loop-k in
    let a = c.args in
    let p = c.requires in
    let h = place-below _ _ _ _ _ _ p.0.blocks l.invariant.1 in (
      omega arith,
      room l.invariant.0 (slot_line a.image.now (entry_at l.b l.k) l.k) (slot_lines a.image.now (l.k + 1) (4 * a.d - 1 - l.k - 1))
          (lines-turn a.image.now l.k (4 * a.d - 1 - l.k) a.first a.d l.b p.1 l.invariant.1 (omega arith)),
    )

pub following-b-requires : goal.following-b-requires
following-b-requires c =
    let h = place-below _ _ _ _ _ _ c.requires.0.blocks c.loop-k.invariant.1 in
    omega arith

pub loop-k-preserved : goal.loop-k-preserved
loop-k-preserved c =
    let l = c.loop-k in
    let a = c.args in
    let q : 4 * a.d - 1 - (l.k + 1) ≡ 4 * a.d - 1 - l.k - 1 = omega arith in
    rw q (
      more l.invariant.0 c.slot_line-p.ensures _ (lines-turn a.image.now l.k (4 * a.d - 1 - l.k) a.first a.d l.b c.requires.1 l.invariant.1 (omega arith)),
      place-then _ _ _ _ _ _ _ l.invariant.1 (omega arith) c.following-b.ensures,
    )

pub shape_of-out : goal.shape_of-out
shape_of-out c = c.loop-k.invariant.0.size

pub returns : goal.returns
returns c = finish c.loop-k.invariant.0 (lines_end c.args.image.now c.loop-k.k (4 * c.args.d - 1 - c.loop-k.k) (omega arith))
