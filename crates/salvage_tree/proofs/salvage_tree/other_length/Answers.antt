use Rattle.std.proofs.Common.{◌≡◌, arith, ◌∙◌}
use Rattle.std.proofs.lemmas.Grind.{common_steps}
use Rattle.layout.specs.Check.{stage2}
use Rattle.layout.proofs.Walks.Shapes.{shape-block_count}
use Rattle.salvage_tree.specs.SalvageTree.{other_length}
use Rattle.salvage_tree.proofs.Walks.Rest.{begins-is}
use Rattle.salvage_tree.proofs.salvage_tree.other_length.Goals as goal

pub returns-then-header_number-table_blocks : goal.returns-then-header_number-table_blocks
unfolding other_length
returns-then-header_number-table_blocks c =
    let g : c.starts_with.result ≡ stage2 c.args.image.now = c.starts_with.ensures.value ∙ begins-is c.args.image.now in
    let q = shape-block_count _ _ c.requires in
    grind (arith, common_steps)

pub returns-else-header_number-table_blocks : goal.returns-else-header_number-table_blocks
unfolding other_length
returns-else-header_number-table_blocks c =
    let g : c.starts_with.result ≡ stage2 c.args.image.now = c.starts_with.ensures.value ∙ begins-is c.args.image.now in
    let q = shape-block_count _ _ c.requires in
    grind (arith, common_steps)
