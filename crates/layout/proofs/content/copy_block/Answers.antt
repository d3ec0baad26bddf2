use Prim.Native.Nat.{ℕ}
use mathlib.Core.List.{List}
use mathlib.Core.Path.{refl, ap, ◌∙◌}
use Rattle.layout.specs.Bytes.{part, splice}
use Rattle.layout.proofs.Laws.Bytes.{part-in-block}
use Rattle.layout.proofs.content.copy_block.Goals as goal

pub returns : goal.returns
returns c =
    let copy = c.copy_part in
    let block = c.block in
    let a = c.args in
    copy.ensures ∙ ap (λ (s : List ℕ). splice a.buf.now a.p (part s a.o a.m)) block.ensures.bytes
    ∙ ap (splice a.buf.now a.p) (part-in-block a.img.now a.b 512 a.o a.m c.requires.0 refl c.requires.1)
