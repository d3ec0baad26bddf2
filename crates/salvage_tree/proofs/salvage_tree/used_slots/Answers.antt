use Rattle.std.proofs.Common.{◌≡◌, rules}
use Rattle.salvage_tree.proofs.Walks.Counts.{used_at, used-is}
use Rattle.salvage_tree.proofs.salvage_tree.used_slots.Goals as goal

pub returns : goal.returns
returns c =
    let s = c.args.image.now in
    let b = c.args.b in
    let x : c.used.result ≡ used_at s b 0 = search rules in
    let y : c.used-2.result ≡ used_at s b 1 = search rules in
    let z : c.used-3.result ≡ used_at s b 2 = search rules in
    let w : c.used-4.result ≡ used_at s b 3 = search rules in
    used-is _ _ _ _ _ _ x y z w
