use Rattle.std.proofs.Common.{ap, ◌∙◌, None, Some, arith}
use Rattle.layout.specs.Lists.{within}
use Rattle.layout.specs.Directory.{good_name}
use Rattle.layout.proofs.Walks.Homes.{given-home, path-last, path-there}
use Rattle.layout.proofs.Walks.Paths.{directory-is}
use Rattle.layout.proofs.Walks.Visits.{self-number, at-below}
use Rattle.layout.proofs.path.follow_path.Goals as goal

pub number_at-d-requires : goal.number_at-d-requires
number_at-d-requires c =
    let a = c.args in
    let e = c.in_ok-home.ensures in
    let D = given-home a.image.now a.path.now c.requires (λ z. e.1 (e.0 ∙ z)) in
    let h = at-below D in
    (omega (arith, h, e.0, D.shape), omega arith)

pub find-requires : goal.find-requires
find-requires c =
    let a = c.args in
    let p = c.requires in
    let e = c.in_ok-home.ensures in
    let D = given-home a.image.now a.path.now p (λ z. e.1 (e.0 ∙ z)) in
    let d = self-number a.image.now c.in_ok-home.home _ 12 c.number_at-d.ensures in
    let g = ap good_name c.last_part.ensures ∙ path-last a.path.now p.good in
    (rw (← e.0, ← d) at D, g)

pub returns-in-None : goal.returns-in-None
returns-in-None c =
    let a = c.args in
    let e = c.in_ok-home.ensures in
    let q = directory-is a.image.now c.in_ok-home.home _ c.number_at-d.ensures in
    (e.0, e.1, path-there a.image.now a.path.now c.requires (within a.lo a.hi) _ e.0 e.1 _ c.last_part.result.now q c.last_part.ensures None c.in-None.ensures)

pub returns-in-Some : goal.returns-in-Some
returns-in-Some c =
    let a = c.args in
    let e = c.in_ok-home.ensures in
    let q = directory-is a.image.now c.in_ok-home.home _ c.number_at-d.ensures in
    (e.0, e.1, path-there a.image.now a.path.now c.requires (within a.lo a.hi) _ e.0 e.1 _ c.last_part.result.now q c.last_part.ensures (Some c.in-Some.field-0) c.in-Some.ensures)
