use Rattle.std.proofs.Common.{◌≡◌, ◌∙◌, arith}
use Rattle.layout.specs.Geometry.{blocks_for}
use Rattle.volume.proofs.Walks.Replace.{replace-shortens, replace-sound, replace-standing, replace-writable, replace-done}
use Rattle.volume.proofs.replace.replace_at.Goals as goal

pub shorten_at-start-requires : goal.shorten_at-start-requires
shorten_at-start-requires c =
    let p = c.requires in
    (p.0, replace-shortens _ p.0 p.1 _ c.min-size.ensures)

pub write_at-requires : goal.write_at-requires
write_at-requires c =
    let p = c.requires in
    let e = c.shorten_at-start.ensures in
    let k : c.div_ceil.result ≡ blocks_for c.min-size.result = omega (arith, c.div_ceil.ensures) in
    rw k (replace-sound _ p.0 p.1 _ c.min-size.ensures _ _ e.bytes _ e.first, replace-standing _ p.0 p.1 _ c.min-size.ensures _ _ e.bytes _ e.first, replace-writable _ p.0 p.1 _ c.min-size.ensures _ _ e.bytes _ e.first)

pub returns : goal.returns
returns c = c.write_at.ensures ∙ replace-done _ c.requires.1 _ _ c.min-size.ensures _ c.shorten_at-start.ensures.bytes
