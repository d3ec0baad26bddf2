-- The slot is zeros with eight runs written over them, which is the entry by computation (entry-written).
use Rattle.std.proofs.Common.{◌≡◌, ℕ, [], ◌∷◌, ◌+◌, ◌-◌, List, length, refl, ap, ◌∙◌, arith}
use Rattle.std.proofs.Math.ListN.{replicate}
use Rattle.layout.specs.Bytes.{splice}
use Rattle.layout.proofs.Laws.Bytes.{lent}
use Rattle.volume.proofs.Walks.Slots.{entry-written}
use Rattle.volume.proofs.slot.fill_entry.Goals as goal

pub returns : goal.returns
returns c =
    let f = c.args.f in
    let name = c.args.name.now in
    let four : List ℕ = f.kind ∷ f.user ∷ f.group ∷ f.permissions ∷ [] in
    let z : c.fill.new.self ≡ replicate 128 0 = c.fill.ensures.after (λ y h. h) ∙ ap (λ (n : ℕ). replicate n 0) c.requires.0 in
    let e = lent _ 0 4 _ four c.copy.ensures refl ∙ ap (λ (x : List ℕ). splice x 0 four) z in
    lent _ 48 (48 + length name - 48) _ name c.copy-2.ensures (omega arith)
    ∙ rw (c.put32-4.ensures, c.put64-2.ensures, c.put64.ensures, c.put32-3.ensures, c.put32-2.ensures, c.put32.ensures, e)
    (entry-written f.kind f.user f.group f.permissions f.first f.size f.blocks f.time f.flags name)
