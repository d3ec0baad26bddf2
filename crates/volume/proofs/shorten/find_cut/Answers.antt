use native.Mathlib.Omega.{arith}
use Rattle.volume.proofs.Walks.Shorten.{cut-none, cut-some, entry-inside}
use Rattle.volume.proofs.shorten.find_cut.Goals as goal

pub returns-then-j-eq0 : goal.returns-then-j-eq0
returns-then-j-eq0 c = cut-none _ _ _ _ c.if-j-eq0.true

pub entry-rest-requires : goal.entry-rest-requires
entry-rest-requires c =
    let p = c.requires in
    entry-inside p.0 _ _ c.nth-last.ensures (omega (arith, p.1))

pub returns : goal.returns
returns c = cut-some _ _ _ _ c.if-j-eq0.false c.requires.1 _ _ c.nth-last.ensures c.entry-rest.ensures
