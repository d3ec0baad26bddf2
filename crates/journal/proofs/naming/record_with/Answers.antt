use Prim.Native.Nat.{ℕ}
use lib.ListN.{replicate, length-replicate}
use mathlib.Core.Path.{refl}
use native.Mathlib.Omega.{arith}
use Rattle.layout.specs.Bytes.{zeros}
use Rattle.layout.proofs.Laws.Bytes.{zeros-own}
use Rattle.journal.proofs.Walks.Changes.{recorded-named}
use Rattle.journal.proofs.naming.record_with.Goals as goal

pub whole_as_slice-mark_named : goal.whole_as_slice-mark_named
whole_as_slice-mark_named g c = omega (arith, c.requires.4)

pub mark_named-requires : goal.mark_named-requires
mark_named-requires g c =
    let p = c.requires in
    (p.0.sound, p.1, p.2, rw (length-replicate {A = ℕ} g.row.N 0) p.3)

pub shared_whole_as_slice-record_marked : goal.shared_whole_as_slice-record_marked
shared_whole_as_slice-record_marked g c = omega (arith, c.requires.4)

pub returns : goal.returns
unfolding zeros
returns g c =
    let p = c.requires in
    let r = c.record_marked.ensures in
    let f = zeros-own (replicate g.row.N 0) g.row.N refl in
    record { recorded = recorded-named _ _ _ _ _ p.0 f.1 (omega (arith, f.0, p.3)) c.mark_named.ensures _ _ r.recorded; some = r.some }
