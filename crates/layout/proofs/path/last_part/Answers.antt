use Prim.Native.Nat.{ℕ, ◌+◌}
use mathlib.Core.List.{List}
use mathlib.Core.Path.{◌≡◌, sym, ap, ◌∙◌}
use native.Mathlib.Omega.{arith}
use lib.ListN.{length, drop, length-drop}
use lib.Seq.{drop-drop}
use Rattle.layout.specs.Paths.{cut, last_part}
use Rattle.layout.proofs.Laws.Bytes.{part-rest}
use Rattle.layout.proofs.Walks.Homes.{path-some, path-rest}
use Rattle.layout.proofs.path.last_part.Goals as goal

pub slice_bounds-last_start-count : goal.slice_bounds-last_start-count
slice_bounds-last_start-count c = path-some c.args.path.now c.requires

pub slice_bounds-last_start-start : goal.slice_bounds-last_start-start
slice_bounds-last_start-start c = let h = path-some c.args.path.now c.requires in omega (arith, h)

pub slice_bounds-result-count : goal.slice_bounds-result-count
slice_bounds-result-count c =
    let h = path-some c.args.path.now c.requires in
    let q = ap length (part-rest c.args.path.now 1) ∙ length-drop 1 c.args.path.now in
    let k = c.last_start-k.ensures.1 in
    omega (arith, h, q, k)

pub slice_bounds-result-start : goal.slice_bounds-result-start
slice_bounds-result-start c =
    let h = path-some c.args.path.now c.requires in
    let q = ap length (part-rest c.args.path.now 1) ∙ length-drop 1 c.args.path.now in
    let k = c.last_start-k.ensures.1 in
    omega (arith, h, q, k)

pub returns : goal.returns
returns c =
    let p = c.args.path.now in
    let k = c.last_start-k.result in
    let q = part-rest p 1 in
    let e : 1 + k ≡ k + 1 = omega arith in
    part-rest p (k + 1) ∙ ap (λ (j : ℕ). drop j p) (sym e) ∙ sym (drop-drop k 1 p) ∙ ap (drop k) (sym q) ∙ c.last_start-k.ensures.0 ∙ ap (λ (l : List ℕ). last_part (cut l)) q ∙ ap last_part (sym (path-rest p c.requires))
