use Rattle.std.proofs.Common.{◌≡◌, ◌+◌, ◌-◌, ◌*◌, refl, sym, ◌∙◌, arith}
use Rattle.std.proofs.lemmas.Result.{err_from_is_err_and}
use Rattle.layout.specs.Reasons.{number_of}
use Rattle.layout.specs.Table.{next}
use Rattle.layout.specs.Walks.Slots.{entry_at}
use Rattle.layout.specs.Walks.Stages.{walk_child}
use Rattle.layout.proofs.Laws.Reasons.{reason}
use Rattle.layout.proofs.Walks.Slots.{place-below, place-entry, place-then, place-first}
use Rattle.layout.proofs.Walks.Visits.{walk_entry-other, walk_entry-child, walk_slots-end, walk_slots-bad, bad-next, walk_slots-next, walk_slots-stop, walk_entries-end, walk_entries-slots, walk_child-none, walk_child-refused, walk_child-down, follow_child-right, directory-at}
use Rattle.layout.proofs.visit.+directory_check_entry_check.Goals as goal

pub directory_check-returns-then-end_type : goal.directory_check-returns-then-end_type
directory_check-returns-then-end_type t c = sym (walk_entries-end _ _ _ _ _ _ c.end_type.ensures c.if-end_type.true)

pub directory_check-loop-k-init : goal.directory_check-loop-k-init
directory_check-loop-k-init t c =
    let a = c.args in
    let p = c.requires in
    let e : 4 * a.d - 2 ≡ 4 * a.d - 1 - 1 = omega arith in (
      refl,
      rw e at (place-first (next a.image.now) a.b a.d p.1.blocks.some),
      rw e at c.bad_slot-bad.ensures,
      rw e,
      record { prints-room = omega (arith, p.3.prints-room); places-room = omega (arith, p.3.places-room); seen-room = omega (arith, p.3.seen-room) },
    )

pub directory_check-returns-then-k-bad : goal.directory_check-returns-then-k-bad
directory_check-returns-then-k-bad t c =
    let l = c.loop-k in
    sym (walk_entries-slots _ _ _ _ _ _ c.end_type.ensures (omega (arith, c.if-end_type.false)) ∙ l.invariant.3
    ∙ walk_slots-bad _ _ _ _ _ _ (omega arith) _ l.invariant.2 c.if-k-bad.true)

pub directory_check-entry_check-requires : goal.directory_check-entry_check-requires
directory_check-entry_check-requires t c =
    let l = c.loop-k in
    let p = c.requires in
    (omega arith, (record { shape = p.0.shape; table = p.0.table; marks = omega (arith, l.invariant.0, p.0.marks) }, place-below _ _ _ _ _ _ p.1.blocks l.invariant.1, p.2, l.invariant.4))

pub directory_check-returns-in_err-entry_check : goal.directory_check-returns-in_err-entry_check
directory_check-returns-in_err-entry_check t c =
    let l = c.loop-k in
    let why = c.in_err-entry_check.field-0.0 in
    let p = err_from_is_err_and c.from_residual.result c.from_residual.ensures.1 in
    rw (p.1, p.2)
    (sym (walk_entries-slots _ _ _ _ _ _ c.end_type.ensures (omega (arith, c.if-end_type.false)) ∙ l.invariant.3
    ∙ walk_slots-stop _ _ _ _ _ _ (omega arith) _ l.invariant.2 c.if-k-bad.false (entry_at l.at l.k) (place-entry _ _ _ _ _ l.invariant.1) (number_of why) _ c.in_err-entry_check.ensures (reason why)))

pub directory_check-loop-k-preserved : goal.directory_check-loop-k-preserved
directory_check-loop-k-preserved t c =
    let l = c.loop-k in
    let a = c.args in
    let e : 4 * a.d - 1 - l.k - 1 ≡ 4 * a.d - 1 - (l.k + 1) = omega arith in (
      omega arith,
      rw e at (place-then _ _ _ _ _ _ _ l.invariant.1 (omega arith) c.following-at.ensures),
      rw e at (bad-next (walk_child a.left a.image.now a.n a.b) _ _ _ _ l.marks (omega arith) _ l.invariant.2 c.if-k-bad.false),
      l.invariant.3 ∙ rw e at (walk_slots-next _ _ _ _ _ _ (omega arith) _ l.invariant.2 c.if-k-bad.false (entry_at l.at l.k) (place-entry _ _ _ _ _ l.invariant.1) 0 _ c.in_ok-entry_check.ensures refl),
      record { prints-room = omega (arith, l.invariant.4.prints-room); places-room = omega (arith, l.invariant.4.places-room); seen-room = omega (arith, l.invariant.4.seen-room) },
    )

pub directory_check-returns : goal.directory_check-returns
directory_check-returns t c =
    let l = c.loop-k in
    sym (walk_entries-slots _ _ _ _ _ _ c.end_type.ensures (omega (arith, c.if-end_type.false)) ∙ l.invariant.3 ∙ walk_slots-end _ _ _ _ _ _ (omega arith))

pub entry_check-returns-then-not-is_directory : goal.entry_check-returns-then-not-is_directory
entry_check-returns-then-not-is_directory t c = walk_entry-other _ _ _ _ _ c.type_at.ensures (sym c.if-not-is_directory.true ∙ c.is_directory.ensures)

pub entry_check-returns-then-left-eq0 : goal.entry_check-returns-then-left-eq0
entry_check-returns-then-left-eq0 t c =
    let a = c.args in
    sym (walk_child-none _ _ _ _ _ _ c.if-left-eq0.true) ∙ walk_entry-child (walk_child a.left a.image.now a.n a.b) _ _ _ _ c.type_at.ensures (sym c.if-not-is_directory.false ∙ c.is_directory.ensures)

pub entry_check-returns-then-not-child_ok : goal.entry_check-returns-then-not-child_ok
entry_check-returns-then-not-child_ok t c =
    let a = c.args in
    sym (walk_child-refused a.left _ _ a.b _ _ (omega (arith, c.if-left-eq0.false)) _ (rw c.if-not-child_ok.true at c.child_ok.ensures))
    ∙ walk_entry-child (walk_child a.left a.image.now a.n a.b) _ _ _ _ c.type_at.ensures (sym c.if-not-is_directory.false ∙ c.is_directory.ensures)

pub entry_check-number_at-d-requires : goal.entry_check-number_at-d-requires
entry_check-number_at-d-requires t c =
    let a = c.args in
    let r = follow_child-right a.image.now _ a.b _ a.marks.now _ (rw c.if-not-child_ok.false at c.child_ok.ensures) in
    let h = r.inside in
    let w = c.requires.0.shape in
    (omega (arith, h, w, c.number_at-child.ensures), omega arith)

pub entry_check-directory_check-requires : goal.entry_check-directory_check-requires
entry_check-directory_check-requires t c =
    let a = c.args in
    let p = c.requires in
    let r = follow_child-right a.image.now _ a.b _ a.marks.now _ (rw c.if-not-child_ok.false at c.child_ok.ensures) in
    let e = c.number_at-child.ensures in (
      omega (arith, c.if-left-eq0.false, c.requires.0),
      (
        record { shape = p.0.shape; table = p.0.table; marks = omega arith },
        directory-at a.image.now a.n c.number_at-child.result a.b a.marks.now _ _ p.0.shape (rw (← e) at r.stage) c.number_at-d.ensures,
        omega arith,
        p.3,
      ),
    )

pub entry_check-returns : goal.entry_check-returns
entry_check-returns t c =
    let a = c.args in
    c.directory_check.ensures
    ∙ sym (walk_child-down a.left _ _ a.b _ _ (omega (arith, c.if-left-eq0.false)) _ (rw c.if-not-child_ok.false at c.child_ok.ensures) _ _ c.number_at-child.ensures c.number_at-d.ensures)
    ∙ walk_entry-child (walk_child a.left a.image.now a.n a.b) _ _ _ _ c.type_at.ensures (sym c.if-not-is_directory.false ∙ c.is_directory.ensures)
