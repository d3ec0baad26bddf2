use native.Mathlib.Omega.{arith}
use Prim.Native.Nat.{◌-◌}
use mathlib.Core.Path.{sym, ap, ◌∙◌}
use mathlib.Core.Bool.{Bool, cond}
use Rattle.layout.specs.Table.{next, chain}
use Rattle.salvage.proofs.Walks.Table.{end-right, end-wrong, end-stored, end_kept}
use Rattle.salvage.proofs.table.put_end.Goals as goal

pub type_at-requires : goal.type_at-requires
type_at-requires c =
    let nth = c.nth-b in
    let p = c.requires in
    let a = c.args in
    omega (arith, nth.ensures, p.blocks.below (a.root.d - 1) (omega (arith, p.blocks.some)), p.shape)

pub returns-then-type_at : goal.returns-then-type_at
returns-then-type_at c = let type_at = c.type_at in
    let nth = c.nth-b in
    let a = c.args in
    let p = c.requires in
    let ds = chain (next a.image.now) a.root.first a.root.d in record { code = ap (λ (t : Bool). cond t 0 3) (sym (end-right a.image.now ds a.root.d _ p.blocks.size p.blocks.some nth.ensures _ type_at.ensures c.if-type_at.true)); bytes = end_kept a.image.now ds a.root.d _ p.blocks.size p.blocks.some nth.ensures _ type_at.ensures c.if-type_at.true }

pub end_block-requires : goal.end_block-requires
end_block-requires c =
    let nth = c.nth-b in
    let p = c.requires in
    let a = c.args in
    omega (arith, nth.ensures, p.blocks.below (a.root.d - 1) (omega (arith, p.blocks.some)), p.shape)

pub returns : goal.returns
returns c = let end-block = c.end_block in
    let if1 = c.if-type_at in
    let type_at = c.type_at in
    let nth = c.nth-b in
    let a = c.args in
    let p = c.requires in
    let ds = chain (next a.image.now) a.root.first a.root.d in record { code = ap (λ (t : Bool). cond t 0 3) (sym (end-wrong a.image.now ds a.root.d _ p.blocks.size p.blocks.some nth.ensures _ type_at.ensures if1.false)); bytes = end-block.ensures ∙ end-stored a.image.now ds a.root.d _ p.blocks.size p.blocks.some nth.ensures _ type_at.ensures if1.false }
