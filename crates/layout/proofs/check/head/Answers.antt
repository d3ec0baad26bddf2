use Rattle.std.proofs.Common.{List, ℕ, sym, ap, ◌∙◌, arith}
use Rattle.layout.specs.Geometry.{block_count}
use Rattle.layout.specs.Check.{stage2}
use Rattle.layout.specs.Walks.Stages.{header_ok}
use Rattle.layout.proofs.Walks.Stages.{stage1-shape, stage2-part, header_ok-part, stage3-header, head_stage-1, head_stage-2, head_stage-3, head_stage-0}
use Rattle.layout.proofs.check.head.Goals as goal

pub returns-then-not-sized : goal.returns-then-not-sized
returns-then-not-sized c = sym (head_stage-1 c.args.image.now (sym c.if-not-sized.true ∙ c.sized.ensures))

pub block-header-requires : goal.block-header-requires
block-header-requires c = omega (arith, stage1-shape c.args.image.now (sym c.if-not-sized.false ∙ c.sized.ensures))

pub returns-then-not-signed : goal.returns-then-not-signed
returns-then-not-signed c =
    let s = c.args.image.now in
    sym (head_stage-2 s (sym c.if-not-sized.false ∙ c.sized.ensures) (sym c.if-not-signed.true ∙ c.signed.ensures ∙ ap stage2 c.block-header.ensures.bytes ∙ stage2-part s))

pub numbered-requires : goal.numbered-requires
numbered-requires c =
    let h = stage1-shape c.args.image.now (sym c.if-not-sized.false ∙ c.sized.ensures) in
    (omega arith, omega arith)

pub returns-then-not-numbered : goal.returns-then-not-numbered
returns-then-not-numbered c =
    let s = c.args.image.now in
    let b = c.block-header.ensures.bytes in
    sym (head_stage-3 s (sym c.if-not-sized.false ∙ c.sized.ensures) (sym c.if-not-signed.false ∙ c.signed.ensures ∙ ap stage2 b ∙ stage2-part s)
    (sym c.if-not-numbered.true ∙ c.numbered.ensures ∙ ap (λ (h : List ℕ). header_ok h (block_count s)) b ∙ header_ok-part s _ ∙ stage3-header s))

pub returns : goal.returns
returns c =
    let s = c.args.image.now in
    let b = c.block-header.ensures.bytes in
    sym (head_stage-0 s (sym c.if-not-sized.false ∙ c.sized.ensures) (sym c.if-not-signed.false ∙ c.signed.ensures ∙ ap stage2 b ∙ stage2-part s)
    (sym c.if-not-numbered.false ∙ c.numbered.ensures ∙ ap (λ (h : List ℕ). header_ok h (block_count s)) b ∙ header_ok-part s _ ∙ stage3-header s))
