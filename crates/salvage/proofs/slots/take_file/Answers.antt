use mathlib.Core.Path.{refl}
use native.Mathlib.Omega.{arith}
use Rattle.layout.specs.Walks.Slots.{entry_at}
use Rattle.layout.proofs.Walks.Shapes.{shape-block_count}
use Rattle.salvage.proofs.Walks.Slots.{claimed-as, file-cleared, file-kept}
use Rattle.salvage.proofs.slots.take_file.Goals as goal

pub end_chain-own-requires : goal.end_chain-own-requires
end_chain-own-requires c =
    let number-at2 = c.number_at-blocks in
    let number_at = c.number_at-first in
    let p = c.requires in
    rw (number_at.ensures, number-at2.ensures) p.2

pub returns-then-not-claim : goal.returns-then-not-claim
returns-then-not-claim c =
    let set-attribute-fields = c.set_attribute_fields in
    let if1 = c.if-not-claim in
    let claim = c.claim in
    let attribute-chain = c.attribute_chain-c in
    let end-chain = c.end_chain-own in
    let number-at2 = c.number_at-blocks in
    let number_at = c.number_at-first in
    let a = c.args in
    let p = c.requires in
    let k = attribute-chain.ensures in
    file-cleared a.image.now a.marks.now a.n (entry_at a.b a.k) (shape-block_count _ _ p.0.shape) _ _ number_at.ensures number-at2.ensures _ end-chain.ensures.bytes _ _
    (claimed-as claim.ensures k.0 k.1 if1.true) set-attribute-fields.ensures

pub end_chain-second-requires : goal.end_chain-second-requires
end_chain-second-requires c =
    let if1 = c.if-not-claim in
    let claim = c.claim in
    let p = c.requires in
    let h = p.0.shape in
    record { shape = record { whole = omega (arith, h); low = h.low; high = h.high }; below = claim.ensures.below if1.false }

pub returns : goal.returns
returns c =
    let end-chain2 = c.end_chain-second in
    let if1 = c.if-not-claim in
    let claim = c.claim in
    let attribute-chain = c.attribute_chain-c in
    let end-chain = c.end_chain-own in
    let number-at2 = c.number_at-blocks in
    let number_at = c.number_at-first in
    let a = c.args in
    let p = c.requires in
    let k = attribute-chain.ensures in
    file-kept a.image.now a.marks.now a.n (entry_at a.b a.k) (shape-block_count _ _ p.0.shape) _ _ number_at.ensures number-at2.ensures _ end-chain.ensures.bytes _ _
    _ _ k (claimed-as claim.ensures refl refl if1.false) end-chain2.ensures.bytes _ _ end-chain.ensures.right end-chain2.ensures.right _ c.file_code.ensures
