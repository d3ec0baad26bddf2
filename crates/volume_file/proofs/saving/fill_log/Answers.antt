use Rattle.std.proofs.Common.{sym, ◌∙◌, arith}
use Rattle.volume_file.proofs.Walks.Logging.{together-long, log-start, log-test, log-skip, log-room, log-take, log-count, log-few, log-end}
use Rattle.volume_file.proofs.saving.fill_log.Goals as goal

pub loop-i-init : goal.loop-i-init
loop-i-init c = log-start _ _ _

pub changed-requires : goal.changed-requires
changed-requires c = (c.requires.0, omega arith, c.loop-i.invariant.long ∙ c.requires.1, c.requires.2)

pub loop-i-preserved-then-not-changed : goal.loop-i-preserved-then-not-changed
loop-i-preserved-then-not-changed c =
    let p = c.requires in
    let l = c.loop-i in
    let f = together-long _ _ _ _ p.0 in
    let t = sym (log-test _ _ _ _ _ _ l.invariant (omega arith) p.1 f _ c.changed.ensures) ∙ c.if-not-changed.true in
    log-skip _ _ _ _ _ _ l.invariant (omega arith) p.1 f t

pub log_one-requires : goal.log_one-requires
log_one-requires c =
    let p = c.requires in
    let l = c.loop-i in
    let f = together-long _ _ _ _ p.0 in
    let t = sym (log-test _ _ _ _ _ _ l.invariant (omega arith) p.1 f _ c.changed.ensures) ∙ c.if-not-changed.false in
    (c.sector_of.ensures.size, log-room _ _ _ _ _ _ l.invariant (omega arith) p.1 f t, omega arith, l.invariant.long ∙ p.1, p.2)

pub overflow_add-k : goal.overflow_add-k
overflow_add-k c =
    let p = c.requires in
    let l = c.loop-i in
    let f = together-long _ _ _ _ p.0 in
    let t = sym (log-test _ _ _ _ _ _ l.invariant (omega arith) p.1 f _ c.changed.ensures) ∙ c.if-not-changed.false in
    omega (arith, log-room _ _ _ _ _ _ l.invariant (omega arith) p.1 f t)

pub loop-i-preserved : goal.loop-i-preserved
loop-i-preserved c =
    let p = c.requires in
    let l = c.loop-i in
    let f = together-long _ _ _ _ p.0 in
    let t = sym (log-test _ _ _ _ _ _ l.invariant (omega arith) p.1 f _ c.changed.ensures) ∙ c.if-not-changed.false in
    log-take _ _ _ _ _ _ l.invariant (omega arith) p.1 f t _ _ c.sector_of.ensures.bytes c.log_one.ensures

pub returns : goal.returns
returns c =
    let l = c.loop-i in
    let p = c.requires in
    record { count = log-count _ _ _ _ _ _ l.invariant (omega arith) p.3; file = log-end _ _ _ _ _ _ l.invariant (omega arith) p.3; few = log-few _ _ _ _ _ _ l.invariant (omega arith) p.3 }
