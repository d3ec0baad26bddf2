use Rattle.std.proofs.Common.{refl, sym, ◌∙◌, arith}
use borrow.Author.Tests.{not-true, not-false}
use Rattle.store.proofs.Walks.Rooms.{file-front, zeros-behind, load-wrong, load_inside, load_cut, load-right}
use Rattle.store.proofs.load.load.Goals as goal

pub returns-in_err-form : goal.returns-in_err-form
returns-in_err-form c =
    let p = c.requires in
    let m = c.min-m in
    let F = file-front _ _ _ _ _ p.0 p.1 _ _ m.result _ m.ensures refl p.2 c.read_chain.ensures in
    rw c.from_residual.ensures (load-wrong _ _ _ F c.in_err-form.ensures.form)

pub overflow_sub-size : goal.overflow_sub-size
overflow_sub-size c =
    let p = c.requires in
    let m = c.min-m in
    let F = file-front _ _ _ _ _ p.0 p.1 _ _ m.result _ m.ensures refl p.2 c.read_chain.ensures in
    let f = c.in_ok-form.ensures in
    load_inside _ _ _ F _ _ _ _ _ f.form (λ t. f.used) refl

pub zero_along-requires : goal.zero_along-requires
zero_along-requires c =
    let p = c.requires in
    let m = c.min-m in
    let F = file-front _ _ _ _ _ p.0 p.1 _ _ m.result _ m.ensures refl p.2 c.read_chain.ensures in
    let f = c.in_ok-form.ensures in
    let i = load_inside _ _ _ F _ _ _ _ _ f.form (λ t. f.used) refl in
    (p.0, omega (arith, i, p.1))

pub returns-then-not-zero_along : goal.returns-then-not-zero_along
returns-then-not-zero_along c =
    let p = c.requires in
    let m = c.min-m in
    let F = file-front _ _ _ _ _ p.0 p.1 _ _ m.result _ m.ensures refl p.2 c.read_chain.ensures in
    let f = c.in_ok-form.ensures in
    let i = load_inside _ _ _ F _ _ _ _ _ f.form (λ t. f.used) refl in
    load_cut _ _ _ F _ _ _ _ _ f.form (λ t. f.used) refl (sym (zeros-behind _ _ _ _ _ p.0 p.1 _ i) ∙ sym c.zero_along.ensures ∙ not-true _ c.if-not-zero_along.true-raw)

pub returns : goal.returns
returns c =
    let p = c.requires in
    let m = c.min-m in
    let F = file-front _ _ _ _ _ p.0 p.1 _ _ m.result _ m.ensures refl p.2 c.read_chain.ensures in
    let f = c.in_ok-form.ensures in
    let i = load_inside _ _ _ F _ _ _ _ _ f.form (λ t. f.used) refl in
    load-right _ _ _ F _ _ _ _ _ f.form (λ t. f.used) refl (sym (zeros-behind _ _ _ _ _ p.0 p.1 _ i) ∙ sym c.zero_along.ensures ∙ not-false _ c.if-not-zero_along.false-raw)
