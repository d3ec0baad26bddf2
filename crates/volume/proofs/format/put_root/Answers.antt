-- Two parts of the image in turn, each a splice in the image (lent-part).
use mathlib.Core.Path.{ap, ◌∙◌}
use mathlib.Core.List.{List, [], ◌∷◌}
use Prim.Native.Nat.{ℕ, ◌+◌, ◌-◌, ◌*◌}
use native.Mathlib.Nat.{add-zero}
use native.Mathlib.Omega.{arith}
use lib.ListN.{length}
use Rattle.layout.specs.Bytes.{splice}
use Rattle.volume.specs.Entries.{entry_bytes}
use Rattle.volume.proofs.Walks.Slots.{length-entry}
use Rattle.volume.proofs.Walks.Format.{directory-written}
use Rattle.layout.proofs.Laws.Bytes.{length-splice, lent-part}
use Rattle.volume.proofs.format.put_root.Goals as goal

pub returns : goal.returns
returns c =
    let put-end = c.put_end in
    let put-entry = c.put_entry in
    let a = c.args in
    let p' = c.requires in
    let s = a.image.now in
    let at : ℕ = 512 * a.root in
    let last : ℕ = at + 512 * (a.d - 1) in
    let p : List ℕ = entry_bytes 1 0 0 0 a.root a.root a.d a.time 0 [] in
    let h = length-entry 1 0 0 0 a.root a.root a.d a.time 0 [] (omega arith) in
    let e = lent-part s at (at + 512 - at) 0 p put-entry.new.block put-entry.ensures (omega arith) (omega arith) ∙ ap (λ (x : ℕ). splice s x p) (add-zero at) in
    let l = ap length e ∙ length-splice s at p (omega arith) in
    lent-part _ last (last + 512 - last) 384 (0xFF ∷ []) put-end.new.block put-end.ensures (omega arith) (omega arith)
    ∙ ap (λ (x : List ℕ). splice x (last + 384) (0xFF ∷ [])) e
    ∙ directory-written s a.root a.d a.time p'.1
