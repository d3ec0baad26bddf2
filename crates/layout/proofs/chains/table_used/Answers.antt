use Prim.Native.Nat.{ℕ, ◌+◌}
use mathlib.Core.Bool.{true, false}
use mathlib.Core.Path.{◌≡◌, refl, sym, ◌∙◌}
use native.Mathlib.Omega.{arith}
use borrow.Author.Tests.{not-true, not-false}
use Rattle.layout.proofs.Walks.Owned.{follow_table-chains, follow_table-ones, follow_table-other, follow_table-all}
use Rattle.layout.proofs.chains.table_used.Goals as goal

low : (t k : ℕ) → t + 1 + k ≡ 0 → ⊥
low t k z = omega arith

pub returns-then-not-follow_blocks : goal.returns-then-not-follow_blocks
returns-then-not-follow_blocks c =
    let a = c.args in
    let r : c.follow_blocks.result ≡ false = not-true _ c.if-not-follow_blocks.true-raw in
    record {
      none = λ z. follow_table-chains a.image.now a.t a.n a.dirs.now a.marks.now _ (rw r at c.follow_blocks.ensures);
      some = λ h. absurd (h refl);
    }

pub returns-then-not-ones : goal.returns-then-not-ones
returns-then-not-ones c =
    let a = c.args in
    let r : c.follow_blocks.result ≡ true = not-false _ c.if-not-follow_blocks.false-raw in
    let u : c.ones.result ≡ false = not-true _ c.if-not-ones.true-raw in
    record {
      none = λ z. follow_table-ones a.image.now a.t a.n a.dirs.now a.marks.now _ (rw r at c.follow_blocks.ensures) (sym u ∙ c.ones.ensures);
      some = λ h. absurd (h refl);
    }

pub returns-then-count_used-used : goal.returns-then-count_used-used
returns-then-count_used-used c =
    let a = c.args in
    let k = c.count_set in
    let r : c.follow_blocks.result ≡ true = not-false _ c.if-not-follow_blocks.false-raw in
    let u : c.ones.result ≡ true = not-false _ c.if-not-ones.false-raw in
    record {
      none = λ z. follow_table-other a.image.now a.t a.n a.dirs.now a.marks.now _ (rw r at c.follow_blocks.ensures) (sym u ∙ c.ones.ensures) _ c.count_used.ensures.0 _ k.ensures.0 c.if-count_used-used.true;
      some = λ h. absurd (h refl);
    }

pub returns : goal.returns
returns c =
    let a = c.args in
    let k = c.count_set in
    let r : c.follow_blocks.result ≡ true = not-false _ c.if-not-follow_blocks.false-raw in
    let u : c.ones.result ≡ true = not-false _ c.if-not-ones.false-raw in
    let all = follow_table-all a.image.now a.t a.n a.dirs.now a.marks.now _ (rw r at c.follow_blocks.ensures) (sym u ∙ c.ones.ensures) _ c.count_used.ensures.0 _ k.ensures.0 c.if-count_used-used.false in
    record {
      none = λ z. absurd (low a.t k.result z);
      some = λ h. (all, sym c.if-count_used-used.false ∙ c.count_used.ensures.0);
    }
