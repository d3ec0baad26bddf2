use Rattle.std.proofs.Common.{◌≡◌, ◌+◌, ◌++◌, length, drop, arith, refl, ap, sym, ◌∙◌}
use Rattle.layout.specs.Bytes.{splice}
use Rattle.layout.proofs.Laws.Bytes.{splice-flat}
use Rattle.store.proofs.Walks.Gets.{wanted-is, sought-broken, sought-missing, sought-found}
use Rattle.store.proofs.get.get_from.Goals as goal

pub returns-in_default : goal.returns-in_default
returns-in_default c = sought-broken _ _ _ c.in_default.ensures

pub find-requires : goal.find-requires
find-requires c =
    let t = c.in-Some.ensures.right refl in
    (t.1.low, omega (arith, t.1.high, c.requires.2), t.1.read)

pub returns-in_default-find : goal.returns-in_default-find
returns-in_default-find c =
    let t = c.in-Some.ensures.right refl in
    let q = wanted-is c.args.revision _ _ _ t.1.latest-is c.unwrap_or-x.ensures in
    sought-missing _ _ _ _ t.0 _ q c.in_default-find.ensures

pub returns : goal.returns
returns c =
    let t = c.in-Some.ensures.right refl in
    let q = wanted-is c.args.revision _ _ _ t.1.latest-is c.unwrap_or-x.ensures in
    let f = c.in-Some-find.ensures in
    let b = c.in-Some-find.bytes.now in
    let s = c.args.buffer.now in
    let z : 0 + length b ≡ length b = omega arith in
    let e : c.copy.new.dst ++ drop (length b) s ≡ splice s 0 b = rw c.copy.ensures (rw z at (sym (splice-flat s 0 b))) in
    sought-found _ _ _ _ t.0 _ q _ _ f.0 (ap length f.1) (e ∙ ap (splice s 0) f.1)
