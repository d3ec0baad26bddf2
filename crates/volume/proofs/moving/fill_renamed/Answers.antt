use Rattle.std.proofs.Common.{◌≡◌, ℕ, ◌+◌, ◌-◌, List, length, ap, ◌∙◌, arith}
use Rattle.std.proofs.Math.ListN.{replicate}
use Rattle.layout.specs.Bytes.{zeros, splice}
use Rattle.layout.proofs.Laws.Bytes.{lent}
use Rattle.volume.proofs.Walks.Move.{renamed-written}
use Rattle.volume.proofs.moving.fill_renamed.Goals as goal

pub returns : goal.returns
unfolding zeros
returns c =
    let a = c.args in
    let p = c.requires in
    let name = a.name.now in
    let z : c.fill.new.self ≡ zeros 128 = c.fill.ensures.after (λ y h. h) ∙ ap (λ (n : ℕ). replicate n 0) p.0 in
    lent _ 48 (48 + length name - 48) _ name c.copy-2.ensures (omega arith)
    ∙ ap (λ (x : List ℕ). splice x 48 name) (lent _ 0 48 _ a.head.now c.copy.ensures p.1 ∙ ap (λ (x : List ℕ). splice x 0 a.head.now) z)
    ∙ renamed-written a.head.now name p.1 p.2
