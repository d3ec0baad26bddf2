use mathlib.Core.Path.{◌≡◌, refl, sym, ap, ◌∙◌}
use lib.Seq.{length-take-le}
use native.Mathlib.Omega.{arith}
use mathlib.Core.List.{List}
use Prim.Native.Nat.{ℕ}
use lib.ListN.{length}
use Rattle.layout.specs.Walks.Slots.{entry_at}
use Rattle.volume.specs.Write.{write_at, write_at_refusal}
use Rattle.layout.proofs.Laws.Bytes.{length-zeros}
use Rattle.store.proofs.Walks.Rooms.{summary-none}
use Rattle.store.proofs.Walks.Refusals.{first-length}
use Rattle.store.proofs.Walks.Firsts.{first-used, first-front}
use Rattle.store.specs.Walks.Forms.{max_form}
use Rattle.store.proofs.put.put_first.Goals as goal

pub rewrite-used-requires : goal.rewrite-used-requires
rewrite-used-requires c =
    let n = c.no_records.ensures in
    (rw (n.0, n.1, n.2, n.3) (summary-none c.empty_room-old.result), omega (arith, n.2), c.requires.2, ap length c.empty_room-old.ensures ∙ length-zeros max_form, ap length c.empty_room-new.ensures ∙ length-zeros max_form)

pub slice_bounds-new-end : goal.slice_bounds-new-end
slice_bounds-new-end c =
    let r = c.rewrite-used in
    let u = first-used c.empty_room-old.result c.args.bytes.now _ _ r.result c.no_records.ensures.0 r.ensures.bytes r.ensures.size in
    let s = c.requires.2 in
    let k = r.auto.new in
    let l : length c.empty_room-new.result ≡ max_form = ap length c.empty_room-new.ensures ∙ length-zeros max_form in
    omega arith

pub slice_bounds-write_at-end : goal.slice_bounds-write_at-end
slice_bounds-write_at-end c =
    let r = c.rewrite-used in
    let u = first-used c.empty_room-old.result c.args.bytes.now _ _ r.result c.no_records.ensures.0 r.ensures.bytes r.ensures.size in
    let s = c.requires.2 in
    let k = r.auto.new in
    let l : length c.empty_room-new.result ≡ max_form = ap length c.empty_room-new.ensures ∙ length-zeros max_form in
    sym (length-take-le _ _ (omega arith))

pub write_at-requires : goal.write_at-requires
write_at-requires c =
    let a = c.args in
    let p = c.requires in
    let r = c.rewrite-used in
    let f = first-front c.empty_room-old.result a.bytes.now _ _ r.result c.no_records.ensures.0 r.ensures.bytes r.ensures.size r.result refl in
    (p.0, p.1, ap (λ (x : List ℕ). write_at_refusal a.image.now (entry_at a.found.block a.found.slot) 0 (length x)) f ∙ ap (λ (k : ℕ). write_at_refusal a.image.now (entry_at a.found.block a.found.slot) 0 k) (first-length a.bytes.now) ∙ p.3)

pub returns : goal.returns
returns c =
    let a = c.args in
    let r = c.rewrite-used in
    c.write_at.ensures ∙ ap (λ (x : List ℕ). write_at a.image.now (entry_at a.found.block a.found.slot) 0 x a.time) (first-front c.empty_room-old.result a.bytes.now _ _ r.result c.no_records.ensures.0 r.ensures.bytes r.ensures.size r.result refl)
