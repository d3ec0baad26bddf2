use Prim.Native.Nat.{◌-◌, ◌+◌}
use mathlib.Core.Bool.{not}
use mathlib.Core.Path.{◌≡◌, refl, sym, ap, ◌∙◌}
use native.Mathlib.Omega.{arith}
use lib.ListN.{get_or}
use Rattle.layout.specs.Table.{next, chain}
use Rattle.layout.specs.Walks.Slots.{entry_at}
use Rattle.layout.specs.Walks.Names.{other_names}
use Rattle.layout.proofs.Walks.Fingerprints.{others-nearest, others-end, others-next, others-stop, said-no, said-yes}
use Rattle.layout.proofs.names.name_in.Goals as goal

pub offset_bounds-prints-k : goal.offset_bounds-prints-k
offset_bounds-prints-k c = omega arith

pub bounds-prints-k : goal.bounds-prints-k
bounds-prints-k c = omega arith

pub nearest-i-requires : goal.nearest-i-requires
nearest-i-requires c = (omega arith, omega arith)

pub loop-i-init : goal.loop-i-init
loop-i-init c =
    let r = c.nearest-i.ensures in
    let e = entry_at c.args.b c.args.k in
    (r.low, r.high, refl, others-nearest _ _ _ _ _ c.requires.0 e c.requires.2 _ 1 _ c.requires.3 (omega arith) c.requires.1.low r)

pub offset_bounds-places-i : goal.offset_bounds-places-i
offset_bounds-places-i c = omega arith

pub bounds-places-i : goal.bounds-places-i
bounds-places-i c = omega arith

pub same_names-requires : goal.same_names-requires
same_names-requires c =
    let l = c.loop-i in
    let p = c.requires in
    let q = p.0.place l.i l.invariant.0 (omega arith) in
    (p.1.inside, q.inside, p.2, rw q.place (p.0.right l.i l.invariant.0 (omega arith)))

pub returns-then-same_names : goal.returns-then-same_names
returns-then-same_names c =
    let l = c.loop-i in
    let q = c.requires.0.place l.i l.invariant.0 (omega arith) in
    let e = entry_at (get_or c.args.places.now l.i 0) l.i in
    sym (ap not (l.invariant.3 ∙ others-stop _ _ _ l.i _ e q.place (omega arith) (said-yes _ (sym c.if-same_names.true ∙ c.same_names.ensures))))

pub overflow_add-i : goal.overflow_add-i
overflow_add-i c = omega arith

pub nearest-i-requires-in-loop-i : goal.nearest-i-requires-in-loop-i
nearest-i-requires-in-loop-i c = (omega arith, omega arith)

pub loop-i-smaller : goal.loop-i-smaller
loop-i-smaller c = let r = c.nearest-i-in-loop-i.ensures in omega arith

pub loop-i-preserved : goal.loop-i-preserved
loop-i-preserved c =
    let l = c.loop-i in
    let r = c.nearest-i-in-loop-i.ensures in
    let a = c.args in
    let q = c.requires.0.place l.i l.invariant.0 (omega arith) in
    let e = entry_at (get_or a.places.now l.i 0) l.i in
    let ds = chain (next a.image.now) a.first a.d in
    let j : a.k - l.i - 1 ≡ a.k - (l.i + 1) = omega arith in (
      omega (arith, r.low),
      r.high,
      l.invariant.2,
      l.invariant.3
          ∙ others-next _ _ _ l.i _ e q.place (omega arith) (said-no _ (sym c.if-same_names.false ∙ c.same_names.ensures))
          ∙ ap (other_names a.image.now ds (entry_at a.b a.k) (l.i + 1)) j
          ∙ others-nearest _ _ _ _ _ c.requires.0 _ c.requires.2 _ (l.i + 1) _ (l.invariant.2 ∙ c.requires.3) (omega arith) (omega arith) r,
    )

pub returns : goal.returns
returns c =
    let l = c.loop-i in
    sym (ap not (l.invariant.3 ∙ others-end _ _ _ l.i _ (omega arith)))
