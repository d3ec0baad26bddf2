use Rattle.std.proofs.Common.{arith}
use Rattle.salvage.proofs.Walks.Refusals.{steps-room, steps-given, steps-length, steps-root, steps-image, steps-report}
use Rattle.salvage.proofs.salvage.repair.Goals as goal

pub bounds-report-0 : goal.bounds-report-0
bounds-report-0 c =
    let r = c.root_at-root.ensures in
    omega (arith, steps-room c.args.report.now c.requires.0 c.requires.1 r.given.2 r.size)

pub take_slots-requires : goal.take_slots-requires
take_slots-requires c =
    let r = c.root_at-root.ensures in
    rw (r.given.0, r.given.1) (steps-given c.args.report.now c.requires.0 c.requires.1 r.given.2 r.size)

pub put_end-requires : goal.put_end-requires
put_end-requires c =
    let r = c.root_at-root.ensures in
    rw r.given.1 (steps-root c.args.report.now c.requires.0 c.requires.1 r.given.2 r.size c.take_slots.ensures)

pub overflow_mul-report : goal.overflow_mul-report
overflow_mul-report c =
    let r = c.root_at-root.ensures in
    omega (arith, steps-room c.args.report.now c.requires.0 c.requires.1 r.given.2 r.size)

pub overflow_sub-report : goal.overflow_sub-report
overflow_sub-report c =
    let r = c.root_at-root.ensures in
    omega (arith, steps-room c.args.report.now c.requires.0 c.requires.1 r.given.2 r.size)

pub bounds-report-root : goal.bounds-report-root
bounds-report-root c =
    let r = c.root_at-root.ensures in
    omega (arith, steps-room c.args.report.now c.requires.0 c.requires.1 r.given.2 r.size, steps-length c.args.report.now c.requires.0 c.requires.1 r.given.2 r.size c.take_slots.ensures)

pub put_table-requires : goal.put_table-requires
put_table-requires c =
    let p = c.requires.0 in
    record { shape = record { whole = omega (arith, p.shape); low = p.shape.low; high = p.shape.high }; table = p.table; marks = omega (arith, p) }

pub put_counts-requires : goal.put_counts-requires
put_counts-requires c =
    let p = c.requires.0 in
    record { whole = omega (arith, p.shape); low = p.shape.low; high = p.shape.high }

pub returns : goal.returns
returns c =
    let r = c.root_at-root.ensures in
    let T = c.take_slots.ensures in
    record {
      bytes = steps-image c.args.report.now c.requires.0 c.requires.1 r.given.2 r.size T _ _ _ c.put_end.ensures.bytes c.put_table.ensures c.put_counts.ensures;
      codes = steps-report c.args.report.now c.requires.0 c.requires.1 r.given.2 r.size T _ c.put_end.ensures.code;
    }
