use Rattle.std.proofs.Common.{refl, arith}
use Rattle.std.proofs.lemmas.Grind.{common_steps}
use Rattle.layout.specs.Walks.Slots.{entry_at}
use Rattle.salvage_tree.proofs.Walks.Entries.{witness-is}
use Rattle.salvage_tree.proofs.slots.is_witnessed.Goals as goal

pub returns-then-own_name : goal.returns-then-own_name
returns-then-own_name c =
    let w = witness-is c.args.image.now (entry_at c.args.b c.args.k) c.args.blocks.now c.requires.1.some _ refl c.requires.3 _ c.number_at.ensures _ _ c.field_at.ensures c.field_at-2.ensures _ c.eq-own_name.ensures _ c.number_at-2.ensures _ refl _ c.type_at-ended.ensures in
    grind (arith, common_steps)

pub returns-then-own_size : goal.returns-then-own_size
returns-then-own_size c =
    let w = witness-is c.args.image.now (entry_at c.args.b c.args.k) c.args.blocks.now c.requires.1.some _ refl c.requires.3 _ c.number_at.ensures _ _ c.field_at.ensures c.field_at-2.ensures _ c.eq-own_name.ensures _ c.number_at-2.ensures _ refl _ c.type_at-ended.ensures in
    grind (arith, common_steps)

pub returns-else-own_size : goal.returns-else-own_size
returns-else-own_size c =
    let w = witness-is c.args.image.now (entry_at c.args.b c.args.k) c.args.blocks.now c.requires.1.some _ refl c.requires.3 _ c.number_at.ensures _ _ c.field_at.ensures c.field_at-2.ensures _ c.eq-own_name.ensures _ c.number_at-2.ensures _ refl _ c.type_at-ended.ensures in
    grind (arith, common_steps)
