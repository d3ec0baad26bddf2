use mathlib.Core.Path.{◌≡◌, refl, sym, ◌∙◌}
use mathlib.Core.Bool.{true, false}
use Rattle.lister.proofs.Pieces.{begin, last, finish}
use Rattle.lister.proofs.Lines.{slot-none, slot-file}
use Rattle.layout.specs.Walks.Slots.{entry_at}
use Rattle.lister.proofs.listing.slot_line.Goals as goal

pub returns-then-not-is_file : goal.returns-then-not-is_file
returns-then-not-is_file c =
    let type_at = c.type_at in
    let a = c.args in
    let p = c.requires in
    let t : c.is_file.result ≡ false = c.if-not-is_file.true in
    finish (begin a.out.now _ _ _ p.1 refl)
    (slot-none a.image.now (entry_at a.b a.k) a.k _ type_at.ensures (sym t ∙ c.is_file.ensures))

pub entry_line-requires : goal.entry_line-requires
entry_line-requires c =
    let is-file = c.is_file in
    let type_at = c.type_at in
    let a = c.args in
    let p = c.requires in
    let t : is-file.result ≡ true = c.if-not-is_file.false in
    (p.0, (begin a.out.now _ _ _ p.1 (slot-file a.image.now (entry_at a.b a.k) a.k _ type_at.ensures (sym t ∙ is-file.ensures))).fits)

pub returns : goal.returns
returns c =
    let entry-line = c.entry_line in
    let if1 = c.if-not-is_file in
    let is-file = c.is_file in
    let type_at = c.type_at in
    let a = c.args in
    let p = c.requires in
    let t : is-file.result ≡ true = if1.false in
    last (begin a.out.now _ _ _ p.1 (slot-file a.image.now (entry_at a.b a.k) a.k _ type_at.ensures (sym t ∙ is-file.ensures)))
    entry-line.ensures refl
