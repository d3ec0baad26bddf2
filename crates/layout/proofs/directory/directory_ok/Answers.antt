use Prim.Native.Nat.{ℕ, ◌*◌}
use mathlib.Core.Bool.{true, false}
use mathlib.Core.List.{List}
use mathlib.Core.Path.{◌≡◌, sym, ap, ◌∙◌}
use native.Mathlib.Omega.{arith}
use borrow.Author.Tests.{not-true, not-false}
use Rattle.layout.specs.Walks.Entries.{self_ok}
use Rattle.layout.proofs.Walks.Entries.{self_ok-in-part}
use Rattle.layout.proofs.Walks.Slots.{follow_directory-refused, follow_directory-chain}
use Rattle.layout.proofs.directory.directory_ok.Goals as goal

pub returns-then-not-self_ok : goal.returns-then-not-self_ok
returns-then-not-self_ok c =
    let block = c.block in
    let a = c.args in
    let t : c.self_ok.result ≡ false = not-true _ c.if-not-self_ok.true-raw in
    sym (follow_directory-refused a.image.now a.n a.b a.parent _
    (sym t ∙ c.self_ok.ensures ∙ ap (λ (s : List ℕ). self_ok s 0 a.b a.parent) block.ensures.bytes
    ∙ self_ok-in-part a.image.now (512 * a.b) 512 a.b a.parent (omega arith)))

pub returns : goal.returns
returns c =
    let follow = c.follow in
    let number_at = c.number_at-d in
    let self-ok = c.self_ok in
    let block = c.block in
    let a = c.args in
    let t : self-ok.result ≡ true = not-false _ c.if-not-self_ok.false-raw in
    follow.ensures ∙ sym (follow_directory-chain a.image.now a.n a.b a.parent _
    (sym t ∙ self-ok.ensures ∙ ap (λ (s : List ℕ). self_ok s 0 a.b a.parent) block.ensures.bytes
    ∙ self_ok-in-part a.image.now (512 * a.b) 512 a.b a.parent (omega arith)) _ number_at.ensures)
