use mathlib.Core.Bool.{true, false}
use mathlib.Core.Path.{◌≡◌, refl, sym, ◌∙◌}
use native.Mathlib.Omega.{arith}
use Rattle.layout.specs.Table.{next, chain}
use Rattle.layout.specs.Walks.Slots.{entry_at}
use Rattle.layout.proofs.Walks.Shapes.{shape-block_count}
use Rattle.salvage.proofs.Walks.Slots.{claimed-as, taken_free, taken-broken, taken-lost, taken-file}
use Rattle.salvage.proofs.slots.take_slot.Goals as goal

pub returns-then-type_at-eq0 : goal.returns-then-type_at-eq0
returns-then-type_at-eq0 c =
    let type_at = c.type_at in
    let a = c.args in
    let p = c.requires in
    taken_free a.image.now a.marks.now (chain (next a.image.now) a.root.first a.root.d) a.root.n (entry_at a.b a.k) a.k p.2.slot.place (shape-block_count _ _ p.0.shape) (sym type_at.ensures ∙ c.if-type_at-eq0.true)

pub slot_right-requires : goal.slot_right-requires
slot_right-requires c =
    let if1 = c.if-type_at-eq0 in
    let type_at = c.type_at in
    let p = c.requires in
    (p.2, λ z. if1.false (type_at.ensures ∙ z))

pub returns-then-not-slot_right : goal.returns-then-not-slot_right
returns-then-not-slot_right c =
    let clear-slot = c.clear_slot in
    let if2 = c.if-not-slot_right in
    let slot-right = c.slot_right in
    let if1 = c.if-type_at-eq0 in
    let type_at = c.type_at in
    let a = c.args in
    let p = c.requires in
    let t : slot-right.result ≡ false = if2.true in
    taken-broken a.image.now a.marks.now (chain (next a.image.now) a.root.first a.root.d) a.root.n (entry_at a.b a.k) a.k p.2.slot.place (shape-block_count _ _ p.0.shape) (λ z. if1.false (type_at.ensures ∙ z)) _
    (sym t ∙ slot-right.ensures) clear-slot.ensures

pub clear_slot-requires-then-not-claim : goal.clear_slot-requires-then-not-claim
clear_slot-requires-then-not-claim c = let p = c.requires in omega (arith, p.1, p.0.shape.whole)

pub returns-then-not-claim : goal.returns-then-not-claim
returns-then-not-claim c =
    let clear-slot2 = c.clear_slot-then-not-claim in
    let if3 = c.if-not-claim in
    let claim = c.claim in
    let number-at2 = c.number_at-blocks in
    let number_at = c.number_at-file in
    let if2 = c.if-not-slot_right in
    let slot-right = c.slot_right in
    let if1 = c.if-type_at-eq0 in
    let type_at = c.type_at in
    let a = c.args in
    let p = c.requires in
    let t : slot-right.result ≡ true = if2.false in
    taken-lost a.image.now a.marks.now (chain (next a.image.now) a.root.first a.root.d) a.root.n (entry_at a.b a.k) a.k p.2.slot.place (shape-block_count _ _ p.0.shape) (λ z. if1.false (type_at.ensures ∙ z)) _
    (sym t ∙ slot-right.ensures) _ (claimed-as claim.ensures number_at.ensures number-at2.ensures if3.true) clear-slot2.ensures

pub take_file-requires : goal.take_file-requires
take_file-requires c =
    let if3 = c.if-not-claim in
    let claim = c.claim in
    let number-at2 = c.number_at-blocks in
    let number_at = c.number_at-file in
    let p = c.requires in
    let C = claimed-as claim.ensures number_at.ensures number-at2.ensures if3.false in
    (record { shape = p.0.shape; table = p.0.table; marks = omega (arith, p.0) }, p.1, record { shape = p.0.shape; below = C.below refl })

pub returns : goal.returns
returns c =
    let take-file = c.take_file in
    let if3 = c.if-not-claim in
    let claim = c.claim in
    let number-at2 = c.number_at-blocks in
    let number_at = c.number_at-file in
    let if2 = c.if-not-slot_right in
    let slot-right = c.slot_right in
    let if1 = c.if-type_at-eq0 in
    let type_at = c.type_at in
    let a = c.args in
    let p = c.requires in
    let t : slot-right.result ≡ true = if2.false in
    taken-file a.image.now a.marks.now (chain (next a.image.now) a.root.first a.root.d) a.root.n (entry_at a.b a.k) a.k p.2.slot.place (shape-block_count _ _ p.0.shape) (λ z. if1.false (type_at.ensures ∙ z)) _
    (sym t ∙ slot-right.ensures) _ _ _ (claimed-as claim.ensures number_at.ensures number-at2.ensures if3.false) take-file.ensures
