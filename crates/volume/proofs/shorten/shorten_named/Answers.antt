use mathlib.Core.Path.{◌∙◌}
use native.Mathlib.Omega.{arith}
use Rattle.volume.proofs.Walks.Shorten.{last-inside, rest-run, shorten-marked}
use Rattle.volume.proofs.shorten.shorten_named.Goals as goal

pub plan_shorten-p-requires : goal.plan_shorten-p-requires
plan_shorten-p-requires c = (c.requires.0, c.requires.1)

pub mark-requires : goal.mark-requires
mark-requires c =
    let p = c.requires in
    omega (arith, p.1.located.inside, p.2)

pub mark_tail-requires : goal.mark_tail-requires
mark_tail-requires c =
    let p = c.requires in
    omega (arith, last-inside _ p.0 p.1 c.plan_shorten-p.ensures.cut, p.2)

pub mark_cut-requires : goal.mark_cut-requires
mark_cut-requires c =
    let p = c.requires in
    let cut = c.plan_shorten-p.ensures.cut in
    (rw c.plan_shorten-p.ensures.gone (rest-run _ p.0 p.1 cut), last-inside _ p.0 p.1 cut, omega (arith, p.2))

pub returns : goal.returns
returns c =
    let p = c.requires in
    c.mark_cut.ensures ∙ rw (c.mark_tail.ensures, c.mark.ensures, c.plan_shorten-p.ensures.gone) (shorten-marked _ p.0 p.1 c.plan_shorten-p.ensures.cut c.plan_shorten-p.ensures.tail _)
