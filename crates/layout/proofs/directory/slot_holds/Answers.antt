use Prim.Native.Nat.{ℕ, ◌+◌}
use mathlib.Core.Bool.{true, false}
use mathlib.Core.List.{List}
use mathlib.Core.Path.{◌≡◌, sym, ap, ◌∙◌}
use native.Mathlib.Omega.{arith}
use lib.ListN.{length}
use borrow.Author.Tests.{not-true, not-false}
use Rattle.layout.specs.Lists.{within, same}
use Rattle.layout.specs.Directory.{unpadded}
use Rattle.layout.proofs.Laws.Bytes.{length_part}
use Rattle.layout.proofs.Walks.Entries.{test-other, test-named}
use Rattle.layout.proofs.directory.slot_holds.Goals as goal

pub returns-then-not-is_within : goal.returns-then-not-is_within
returns-then-not-is_within c =
    let a = c.args in
    let t : c.is_within.result ≡ false = not-true _ c.if-not-is_within.true-raw in
    test-other a.block.now a.o (within a.lo a.hi) (λ x. same x a.name.now) (sym t ∙ c.is_within.ensures)

pub holds_name-requires : goal.holds_name-requires
holds_name-requires c =
    let p = c.requires in
    (ap length c.field_of.ensures ∙ length_part _ (c.args.o + 48) 80 (omega arith), p.1)

pub returns : goal.returns
returns c =
    let a = c.args in
    let t : c.is_within.result ≡ true = not-false _ c.if-not-is_within.false-raw in
    c.holds_name.ensures
    ∙ ap (λ (f : List ℕ). same (unpadded f) a.name.now) c.field_of.ensures
    ∙ test-named a.block.now a.o (within a.lo a.hi) (λ x. same x a.name.now) (sym t ∙ c.is_within.ensures)
