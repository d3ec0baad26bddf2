use Rattle.std.proofs.Common.{◌<◌, max, ap, refl, ◌∙◌, arith}
use Rattle.store.specs.Settings.{max_number}
use Rattle.store.proofs.Walks.Rooms.{parsed-wrong}
use Rattle.store.proofs.Walks.Rewriting.{oldest-most}
use Rattle.store.proofs.Walks.Puts.{file-below, file-inside, weighed-form, weighed-last, weighed-size}
use Rattle.store.proofs.put.weigh_in.Goals as goal

pub load-requires : goal.load-requires
load-requires c = let p = c.requires in (file-below p.1 p.0, file-inside p.1 p.0, p.3)

pub returns-in_default : goal.returns-in_default
returns-in_default c =
    let p = c.requires in
    (weighed-form p.1 p.0 c.load.new.room _ 0 0 0 0 (parsed-wrong _ _ _ _ _ _ _ refl c.in_default.ensures) refl c.args.bytes.now 24 0 refl).number_is

pub returns-then-form : goal.returns-then-form
returns-then-form c =
    let p = c.requires in
    (weighed-last p.1 p.0 _ _ _ _ _ _ c.in-Some.ensures refl c.if-form.true c.args.bytes.now 25 0 refl).number_is

pub length_after-used-requires : goal.length_after-used-requires
length_after-used-requires c =
    let p = c.requires in
    let s = (c.in-Some.ensures.right refl).1 in
    (oldest-most _ _ _ _ _ (λ i. omega (arith, c.slice_known-2-1.given i)) (c.load.auto.room ∙ p.3) s, s.high, p.2)

pub returns : goal.returns
returns c =
    let p = c.requires in
    let low : c.in-Some.form.last < max_number = omega (arith, c.if-form.false) in
    weighed-size p.1 p.0 _ _ _ _ _ _ c.in-Some.ensures refl _ p.2 (λ i. omega (arith, c.slice_known-2-1.given i)) (c.load.auto.room ∙ p.3) low _ (c.max.ensures ∙ ap (max c.args.found.size) c.length_after-used.ensures)
