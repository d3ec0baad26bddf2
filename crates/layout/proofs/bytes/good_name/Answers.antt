use Rattle.std.proofs.Common.{◌≡◌, ◌<◌, ◌∙◌, sym, ap, arith, rules, not, length}
use Rattle.std.proofs.lemmas.Bool.{eqb-true, eqb-false, lt-leb}
use Rattle.std.proofs.lemmas.Iterator.{YieldsList-from_slice}
use Rattle.std.proofs.lemmas.Iterator.Search.{all_from_yields_List}
use borrow.Author.Tests.{tests}
use Rattle.layout.specs.Directory.{name_byte}
use Rattle.layout.proofs.Laws.Lists.{list_all-every}
use Rattle.layout.proofs.Walks.Names.{good_name-empty, good_name-long, good_name-bytes}
use Rattle.layout.proofs.bytes.good_name.Goals as goal
use Rattle.layout.proofs.bytes.good_name.Goals.{then-not-is_empty, else-not-is_empty}

pub returns-then-name-le-MAX_NAME : goal.returns-then-name-le-MAX_NAME
returns-then-name-le-MAX_NAME c =
    let name = c.args.name.now in
    let t = c.if-name-le-MAX_NAME.true in
    let some : length name ≡ 0 → ⊥ = eqb-false _ 0 (sym c.is_empty.ensures ∙ t.0) in
    all_from_yields_List name_byte _ _ _ c.all.ensures.ran (YieldsList-from_slice name cc) (λ x b q k. search (rules, tests))
    ∙ list_all-every name_byte name ∙ sym (good_name-bytes name (omega arith) t.1)

pub returns-else-name-le-MAX_NAME : goal.returns-else-name-le-MAX_NAME
returns-else-name-le-MAX_NAME c =
    let name = c.args.name.now in
    elim c.if-not-is_empty.branch [
      | then-not-is_empty w ↦
          let long : 80 < length name = grind arith in
          let a = lt-leb (length name) 80 long in
          let b = good_name-long name long in
          cc
      | else-not-is_empty w ↦
          let a = ap not w.if-not-is_empty.false in
          let empty : length name ≡ 0 = eqb-true _ 0 (sym c.is_empty.ensures ∙ w.if-not-is_empty.false) in
          let b = good_name-empty name (omega arith) in
          cc
    ]
