use Rattle.std.proofs.Common.{◌≡◌, ◌+◌, ◌-◌, length, refl, ap, ◌∙◌, arith}
use Rattle.layout.specs.Bytes.{splice}
use Rattle.layout.proofs.Laws.Bytes.{put_mid-splice}
use Rattle.lister.proofs.text.put_bytes.Goals as goal

pub returns : goal.returns
returns c =
    let a = c.args in
    let l : length c.copy_from_slice.new.self ≡ a.at + length a.bytes.now - a.at = omega (arith, ap length c.copy_from_slice.ensures.after) in
    record { buffer = put_mid-splice a.out.now a.at _ _ l ∙ ap (splice a.out.now a.at) c.copy_from_slice.ensures.after; offset = refl }
