use Rattle.std.proofs.Common.{Option, refl, sym, subst}
use Rattle.layout.specs.Lists.{within}
use Rattle.layout.specs.Geometry.{block_count}
use Rattle.layout.specs.Directory.{directory}
use Rattle.layout.specs.Paths.{home, path_slot}
use Rattle.layout.specs.Walks.Slots.{StandsAt}
use Rattle.layout.specs.declared.directory.Entry.{Entry}
use Rattle.layout.proofs.Walks.Homes.{spotted-none}
use Rattle.layout.proofs.path.find_path.Goals as goal

pub returns-in_err-follow_path : goal.returns-in_err-follow_path
returns-in_err-follow_path c =
    let a = c.args in
    let type = within a.lo a.hi in
    subst (λ (r : Option Entry). StandsAt (directory a.image.now (home a.image.now a.path.now)) (block_count a.image.now) (path_slot type a.image.now a.path.now) r)
    (sym c.from_residual.ensures) (spotted-none a.image.now a.path.now c.requires type 0 (sym c.in_err-follow_path.ensures) refl).stands

pub returns : goal.returns
returns c = c.in_ok-follow_path.ensures.2
