use Rattle.std.proofs.Common.{refl, sym}
use Rattle.std.proofs.lemmas.Result.{err_from_is_err_and}
use Rattle.layout.specs.Directory.{is_used}
use Rattle.layout.proofs.Laws.Reasons.{reason}
use Rattle.volume.proofs.Walks.Places.{home_at, spotted-some, spotted-free}
use Rattle.volume.proofs.Walks.Move.{refused-forms, forms-fine, no-file, no-home, is-taken, none_open, place-open}
use Rattle.volume.proofs.moving.move_refusal.Goals as goal

pub returns-in_err-either_form : goal.returns-in_err-either_form
returns-in_err-either_form c =
    let a = c.args in
    let why = c.in_err-either_form.field-0.0 in
    let q = err_from_is_err_and c.from_residual.result c.from_residual.ensures.1 in
    rw (q.1, q.2) (refused-forms a.image.now a.path.now a.to.now c.path_refusal.ensures c.path_refusal-2.ensures c.in_err-either_form.ensures (reason why))

pub find_path-requires : goal.find_path-requires
find_path-requires c =
    let a = c.args in
    (forms-fine a.image.now a.path.now a.to.now c.path_refusal.ensures c.path_refusal-2.ensures c.in_ok-either_form.ensures refl c.requires).0

pub returns-in_default : goal.returns-in_default
returns-in_default c =
    let a = c.args in
    let g = forms-fine a.image.now a.path.now a.to.now c.path_refusal.ensures c.path_refusal-2.ensures c.in_ok-either_form.ensures refl c.requires in
    no-file a.image.now a.path.now a.to.now g.0 g.1 (sym c.in_default.ensures.slot)

pub follow_used-requires : goal.follow_used-requires
follow_used-requires c =
    let a = c.args in
    (forms-fine a.image.now a.path.now a.to.now c.path_refusal.ensures c.path_refusal-2.ensures c.in_ok-either_form.ensures refl c.requires).1

pub returns-in_default-follow_used : goal.returns-in_default-follow_used
returns-in_default-follow_used c =
    let a = c.args in
    let g = forms-fine a.image.now a.path.now a.to.now c.path_refusal.ensures c.path_refusal-2.ensures c.in_ok-either_form.ensures refl c.requires in
    no-home a.image.now a.path.now a.to.now g.0 g.1 c.in_default-follow_used.ensures

pub returns-then-is_some : goal.returns-then-is_some
returns-then-is_some c =
    let a = c.args in
    let g = forms-fine a.image.now a.path.now a.to.now c.path_refusal.ensures c.path_refusal-2.ensures c.in_ok-either_form.ensures refl c.requires in
    let own = c.in-Some.ensures in
    let e = c.in-Some-follow_used.ensures in
    let t = spotted-some is_used _ _ c.in-Some-follow_used.spot e c.if-is_some.ensures in
    is-taken a.image.now a.path.now a.to.now g.0 g.1 own.0 own.1 t.2 e.1 t.3

pub open_slot-requires : goal.open_slot-requires
open_slot-requires c =
    let a = c.args in
    let g = forms-fine a.image.now a.path.now a.to.now c.path_refusal.ensures c.path_refusal-2.ensures c.in_ok-either_form.ensures refl c.requires in
    let e = c.in-Some-follow_used.ensures in
    home_at (spotted-free is_used _ _ c.in-Some-follow_used.spot e c.if-is_some.ensures) e.1 g.1

pub returns-in_default-open_slot : goal.returns-in_default-open_slot
returns-in_default-open_slot c =
    let a = c.args in
    let g = forms-fine a.image.now a.path.now a.to.now c.path_refusal.ensures c.path_refusal-2.ensures c.in_ok-either_form.ensures refl c.requires in
    let own = c.in-Some.ensures in
    let e = c.in-Some-follow_used.ensures in
    let free = spotted-free is_used _ _ c.in-Some-follow_used.spot e c.if-is_some.ensures in
    none_open a.image.now a.path.now a.to.now g.0 g.1 own.0 own.1 free e.1 refl c.in_default-open_slot.ensures refl

pub returns : goal.returns
returns c =
    let a = c.args in
    let g = forms-fine a.image.now a.path.now a.to.now c.path_refusal.ensures c.path_refusal-2.ensures c.in_ok-either_form.ensures refl c.requires in
    let own = c.in-Some.ensures in
    let e = c.in-Some-follow_used.ensures in
    let free = spotted-free is_used _ _ c.in-Some-follow_used.spot e c.if-is_some.ensures in
    let slot = c.in-Some-open_slot.ensures in
    place-open a.image.now a.path.now a.to.now g.0 g.1 own.0 own.1 free e.1 refl slot.0 slot.1
