use Rattle.std.proofs.Common.{ℕ, ◌≡◌, sym, ap, ◌∙◌, subst, arith}
use Rattle.layout.specs.Paths.{cut}
use Rattle.layout.specs.Walks.Slots.{SomeUnlessZero}
use Rattle.layout.proofs.Laws.Bytes.{part-rest}
use Rattle.layout.proofs.Walks.Shapes.{sound-shape}
use Rattle.layout.proofs.Walks.Homes.{path-some, path-rest, path_names, given-along, home-is}
use Rattle.layout.proofs.path.home.Goals as goal

pub root_block-root-requires : goal.root_block-root-requires
root_block-root-requires c = omega (arith, sound-shape c.args.image.now c.requires.sound)

pub slice_bounds-resolve-count : goal.slice_bounds-resolve-count
slice_bounds-resolve-count c = path-some c.args.path.now c.requires.good

pub slice_bounds-resolve-start : goal.slice_bounds-resolve-start
slice_bounds-resolve-start c = let h = path-some c.args.path.now c.requires.good in omega (arith, h)

pub resolve-requires : goal.resolve-requires
resolve-requires c =
    let a = c.args in
    let p = c.requires in
    let q : _ ≡ _ = path-rest a.path.now p.good ∙ ap cut (sym (part-rest a.path.now 1)) in
    (rw c.root_block-root.ensures (rw q at (given-along a.image.now a.path.now p)), rw q at (path_names a.path.now p.good))

pub returns : goal.returns
returns c =
    let a = c.args in
    let p = c.requires in
    let q = path-rest a.path.now p.good ∙ ap cut (sym (part-rest a.path.now 1)) in
    subst (λ (x : ℕ). SomeUnlessZero x c.resolve.result) (rw c.root_block-root.ensures (home-is a.image.now a.path.now _ q))
    (c.resolve.ensures.some (λ z. omega (arith, c.root_block-root.ensures)))
