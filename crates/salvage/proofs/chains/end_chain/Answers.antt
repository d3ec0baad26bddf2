use native.Mathlib.Omega.{arith}
use mathlib.Core.Path.{sym, ap, ◌∙◌}
use Rattle.salvage.proofs.Walks.Turns.{ended-left, ended-set}
use Prim.Native.Nat.{ℕ, ◌-◌}
use Rattle.layout.specs.Table.{set_next}
use Rattle.salvage.proofs.Walks.Claims.{ends-none, ends-right, ends-wrong, last-is}
use Rattle.salvage.proofs.chains.end_chain.Goals as goal

pub returns-then-k-eq0 : goal.returns-then-k-eq0
returns-then-k-eq0 c = let a = c.args in
    let e = ends-none a.image.now a.first a.k c.if-k-eq0.true in record { right = e; bytes = sym (ended-left _ _ (sym e)) }

pub entry-requires : goal.entry-requires
entry-requires c =
    let nth = c.nth-last in
    let p = c.requires in
    let a = c.args in
    omega (arith, nth.ensures, p.below (a.k - 1) (omega arith), p.shape)

pub returns-then-entry-eq1 : goal.returns-then-entry-eq1
returns-then-entry-eq1 c = let entry = c.entry in
    let nth = c.nth-last in
    let if1 = c.if-k-eq0 in
    let a = c.args in
    let e = ends-right a.image.now a.first a.k if1.false _ nth.ensures _ entry.ensures c.if-entry-eq1.true in record { right = e; bytes = sym (ended-left _ _ (sym e)) }

pub set_entry-requires : goal.set_entry-requires
set_entry-requires c =
    let nth = c.nth-last in
    let p = c.requires in
    let a = c.args in
    omega (arith, nth.ensures, p.below (a.k - 1) (omega arith), p.shape)

pub returns : goal.returns
returns c = let set-entry = c.set_entry in
    let if2 = c.if-entry-eq1 in
    let entry = c.entry in
    let nth = c.nth-last in
    let if1 = c.if-k-eq0 in
    let a = c.args in
    let e = ends-wrong a.image.now a.first a.k if1.false _ nth.ensures _ entry.ensures if2.false in record { right = e; bytes = set-entry.ensures ∙ ap (λ (x : ℕ). set_next a.image.now x 1) (last-is a.image.now a.first a.k if1.false _ nth.ensures) ∙ sym (ended-set _ _ (sym e)) }
