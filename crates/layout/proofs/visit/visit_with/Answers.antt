use Prim.Native.Nat.{◌+◌}
use mathlib.Core.Path.{sym, ◌∙◌}
use native.Mathlib.Omega.{arith}
use Rattle.layout.proofs.Walks.Visits.{walk_root-refused, walk_root-down, directory-at}
use Rattle.layout.proofs.visit.visit_with.Goals as goal

pub overflow_add-root : goal.overflow_add-root
overflow_add-root c = let p = c.requires.0 in omega arith

pub directory_ok-requires : goal.directory_ok-requires
directory_ok-requires c = let p = c.requires.0 in (p, omega (arith, p.shape, p.table))

pub returns-then-not-directory_ok : goal.returns-then-not-directory_ok
returns-then-not-directory_ok c =
    let a = c.args in
    let p = c.requires.0 in
    let t = c.if-not-directory_ok.true in
    sym (walk_root-refused a.image.now a.n a.marks.now _ (rw (t, p.table) at c.directory_ok.ensures))

pub number_at-d-requires : goal.number_at-d-requires
number_at-d-requires c = let p = c.requires.0 in (omega (arith, p.shape, p.table), omega arith)

pub directory_check-requires : goal.directory_check-requires
directory_check-requires c =
    let a = c.args in
    let p = c.requires.0 in
    let t = c.if-not-directory_ok.false in (
      record { shape = p.shape; table = p.table; marks = omega arith },
      directory-at a.image.now a.n (a.t + 1) (a.t + 1) a.marks.now _ _ p.shape (rw t at c.directory_ok.ensures) c.number_at-d.ensures,
      omega arith,
      c.requires.1,
    )

pub shape_of-prints : goal.shape_of-prints
shape_of-prints c = omega arith

pub shape_of-places : goal.shape_of-places
shape_of-places c = omega arith

pub shape_of-seen : goal.shape_of-seen
shape_of-seen c = omega arith

pub shape_of-marks : goal.shape_of-marks
shape_of-marks c = omega arith

pub returns : goal.returns
returns c =
    let a = c.args in
    let p = c.requires.0 in
    let t = c.if-not-directory_ok.false in
    rw p.table at c.directory_check.ensures
    ∙ sym (walk_root-down a.image.now a.n a.marks.now _ (rw (t, p.table) at c.directory_ok.ensures) _ (rw p.table at c.number_at-d.ensures))
