use mathlib.Core.Path.{ap, ◌∙◌}
use mathlib.Core.List.{List}
use Prim.Native.Nat.{ℕ}
use Rattle.layout.specs.Bytes.{splice}
use Rattle.layout.proofs.Laws.Bytes.{lent}
use Rattle.journal.proofs.Walks.Saves.{piece-made}
use Rattle.journal.proofs.recording.save_block.Goals as goal

pub returns : goal.returns
returns c =
    let put32 = c.put32 in
    let a = c.args in
    let p = c.requires in
    let h = p in
    lent put32.new.s 4 512 _ a.block.now c.copy.ensures h.0
    ∙ ap (λ (x : List ℕ). splice x 4 a.block.now) put32.ensures ∙ piece-made a.piece.now a.block.now a.b h.1 h.0
