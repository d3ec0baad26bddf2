use Rattle.std.proofs.Common.{◌≡◌, ℕ, ◌+◌, ◌-◌, ◌*◌, set, refl, ap, arith}
use Rattle.salvage.proofs.Walks.Root.{taking-start, taking-range, taking-given, taking-turn, taking-end, root-size}
use Rattle.salvage.proofs.slots.take_slots.Goals as goal

pub overflow_mul-k-end : goal.overflow_mul-k-end
overflow_mul-k-end c = omega (arith, root-size c.requires)

pub overflow_sub-k-end : goal.overflow_sub-k-end
overflow_sub-k-end c = omega (arith, root-size c.requires)

pub loop-k-init : goal.loop-k-init
loop-k-init c =
    let e : 4 * c.args.root.d - 1 - 1 ≡ 4 * c.args.root.d - 2 = omega arith in
    let T = taking-start c.requires _ _ refl refl in
    (rw e T, taking-range c.requires T)

pub take_slot-requires : goal.take_slot-requires
take_slot-requires c =
    let R = c.requires in
    let l = c.loop-k in
    (record { shape = l.invariant.1.shape; table = R.room.table; marks = omega (arith, R.room) }, l.invariant.1.below, taking-given R l.invariant.0 (omega arith) _ _ (ap (λ (x : ℕ). set l.notes.prints l.k x) c.fingerprint_at.ensures) refl)

pub loop-k-preserved : goal.loop-k-preserved
loop-k-preserved c =
    let R = c.requires in
    let l = c.loop-k in
    let T = taking-turn R l.invariant.0 (omega arith) c.take_slot.ensures _ _ _ _ refl (ap (λ (x : ℕ). set (set l.notes.prints l.k c.fingerprint_at.result) l.k x) c.fingerprint_at-in-loop-k.ensures) refl
    _ c.following-b.ensures (4 * c.args.root.d - 1 - (l.k + 1)) (omega arith) in
    (T, taking-range R T)

pub returns : goal.returns
returns c = taking-end c.requires c.loop-k.invariant.0 (omega arith)
