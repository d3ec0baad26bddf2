use Rattle.std.proofs.Common.{ap, ◌∙◌}
use Rattle.layout.specs.Lists.{same}
use Rattle.layout.specs.Looks.{is_root_path}
use Rattle.layout.proofs.Laws.Lists.{pointwise-same}
use Rattle.layout.proofs.overview.is_root_path.Goals as goal

pub returns : goal.returns
unfolding is_root_path
returns c = let p = c.args.path.now in c.eq.ensures ∙ pointwise-same p c.as_slice.result.now ∙ ap (same p) c.as_slice.ensures
