use mathlib.Core.Path.{sym, ◌∙◌, ap}
use Prim.Native.Nat.{ℕ, ◌+◌}
use borrow.Author.Tests.{ne_eqb}
use Rattle.script.proofs.Walks.Scripts.{room-read, room-look-in-place, room-plain}
use Rattle.script.proofs.items.plain_size.Goals as goal

pub returns-then-fills : goal.returns-then-fills
returns-then-fills c =
    let get32 = c.get32 in
    let a = c.args in
    let p = c.requires in
    let fills = c.fills in
    let if1 = c.if-fills in
    ap (λ (x : ℕ). 16 + x) get32.ensures ∙ sym (room-read a.script.now a.at p.0 (sym fills.ensures ∙ if1.true))

pub returns-then-script-at-eq4 : goal.returns-then-script-at-eq4
returns-then-script-at-eq4 c =
    let a = c.args in
    let if2 = c.if-script-at-eq4 in
    sym (room-look-in-place a.script.now a.at if2.true)

pub returns : goal.returns
returns c =
    let a = c.args in
    let fills = c.fills in
    let if1 = c.if-fills in
    let if2 = c.if-script-at-eq4 in
    sym (room-plain a.script.now a.at c.requires.1 (sym fills.ensures ∙ if1.false) (ne_eqb _ _ if2.false))
