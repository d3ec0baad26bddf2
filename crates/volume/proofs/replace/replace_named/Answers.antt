use mathlib.Core.Path.{◌∙◌}
use native.Mathlib.Omega.{arith}
use Rattle.volume.proofs.Walks.Replace.{replace-shortens, replace-writes, replace-marked}
use Rattle.volume.proofs.replace.replace_named.Goals as goal

pub shorten_named-requires : goal.shorten_named-requires
shorten_named-requires c =
    let p = c.requires in
    (p.0, replace-shortens _ p.0 p.1 _ c.min-size.ensures, omega (arith, p.2))

pub write_at_named-requires : goal.write_at_named-requires
write_at_named-requires c =
    let p = c.requires in
    let w = replace-writes _ p.0 p.1 _ c.min-size.ensures in
    (p.0, w.0, w.1, omega (arith, p.2))

pub returns : goal.returns
returns c =
    let p = c.requires in
    c.write_at_named.ensures ∙ rw c.shorten_named.ensures (replace-marked _ p.0 p.1 _ c.min-size.ensures _)
