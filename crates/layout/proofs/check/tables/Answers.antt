use Prim.Native.Nat.{ℕ, ◌*◌}
use mathlib.Core.Bool.{true, false}
use mathlib.Core.Path.{refl, sym, ap, ◌∙◌}
use native.Mathlib.Omega.{arith}
use Rattle.layout.specs.Table.{next}
use Rattle.layout.specs.Walks.Chains.{count_used}
use Rattle.layout.proofs.Walks.Stages.{body_stage-6, body_stage-7, body_stage-0, body_stage-used, table-fresh}
use Rattle.layout.proofs.check.tables.Goals as goal

pub table_used-used-requires : goal.table_used-used-requires
table_used-used-requires c =
    let p = c.requires in
    (record { shape = p.0.shape; table = p.0.table; marks = p.2 }, omega (arith, p.0.marks, p.0.table))

pub returns-then-used-eq0 : goal.returns-then-used-eq0
returns-then-used-eq0 c =
    let w = c.table_used-used.ensures in
    body_stage-6 c.args.image.now c.args.n c.requires.0.shape 0 c.args.dirs.now _ (omega (arith, c.requires.0.marks, c.requires.0.table)) c.requires.1 refl false _ (omega (arith, c.requires.2, c.requires.0.table))
    (table-fresh c.args.image.now c.args.t c.args.n c.args.dirs.now c.args.marks.now (w.none c.if-used-eq0.true) c.requires.0.table c.requires.3) refl

pub counts_ok-requires : goal.counts_ok-requires
counts_ok-requires c =
    let w = c.table_used-used.ensures.some c.if-used-eq0.false in (
      c.requires.0.shape,
      w.1 ∙ ap (λ (t : ℕ). count_used (next c.args.image.now) 0 (128 * t)) c.requires.0.table ∙ body_stage-used c.args.image.now c.args.n c.requires.0.shape 0 c.args.dirs.now _ (omega (arith, c.requires.0.marks, c.requires.0.table)) c.requires.1 refl true _ (omega (arith, c.requires.2, c.requires.0.table))
          (table-fresh c.args.image.now c.args.t c.args.n c.args.dirs.now c.args.marks.now w.0 c.requires.0.table c.requires.3) refl,
    )

pub returns-then-not-counts_ok : goal.returns-then-not-counts_ok
returns-then-not-counts_ok c =
    let w = c.table_used-used.ensures.some c.if-used-eq0.false in
    let u = c.if-not-counts_ok.true in
    body_stage-7 c.args.image.now c.args.n c.requires.0.shape 0 c.args.dirs.now _ (omega (arith, c.requires.0.marks, c.requires.0.table)) c.requires.1 refl true _ (omega (arith, c.requires.2, c.requires.0.table))
    (table-fresh c.args.image.now c.args.t c.args.n c.args.dirs.now c.args.marks.now w.0 c.requires.0.table c.requires.3) refl (sym u ∙ c.counts_ok.ensures)

pub returns : goal.returns
returns c =
    let w = c.table_used-used.ensures.some c.if-used-eq0.false in
    let u = c.if-not-counts_ok.false in
    body_stage-0 c.args.image.now c.args.n c.requires.0.shape 0 c.args.dirs.now _ (omega (arith, c.requires.0.marks, c.requires.0.table)) c.requires.1 refl true _ (omega (arith, c.requires.2, c.requires.0.table))
    (table-fresh c.args.image.now c.args.t c.args.n c.args.dirs.now c.args.marks.now w.0 c.requires.0.table c.requires.3) refl (sym u ∙ c.counts_ok.ensures)
