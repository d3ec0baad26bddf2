use mathlib.Core.Path.{ap, ◌∙◌}
use native.Mathlib.Omega.{arith}
use mathlib.Core.List.{List, ◌++◌}
use Prim.Native.Nat.{ℕ}
use lib.ListN.{take}
use Rattle.layout.specs.Geometry.{block_count}
use Rattle.layout.specs.Table.{next, free_blocks}
use Rattle.volume.specs.Entries.{entries_named}
use Rattle.volume.specs.Write.{changed_entries}
use Rattle.volume.specs.Walks.Marks.{marked}
use Rattle.layout.proofs.Walks.Shapes.{sound-shape}
use Rattle.store.proofs.Walks.Firsts.{first-room, first-named}
use Rattle.store.proofs.Walks.Prepares.{target-absent, target-standing, target-short, target-given, target-named}
use Rattle.store.proofs.put.put_named.Goals as goal

pub mark-requires : goal.mark-requires
mark-requires c =
    let p = c.requires in
    let v = (p.2.place (target-absent p.2 c.if-found-eq0.true)).0 in
    omega (arith, v.inside, p.3)

pub mark_grown-requires : goal.mark_grown-requires
mark_grown-requires c =
    let p = c.requires in
    let h = sound-shape _ p.0 in
    (h, omega (arith, h.low), first-room _ _ _ _ _ p.0 p.1 (target-absent p.2 c.if-found-eq0.true), omega (arith, p.3, c.mark.auto.marks))

pub returns-then-found-eq0 : goal.returns-then-found-eq0
returns-then-found-eq0 c =
    let p = c.requires in
    let a = c.args in
    let none = target-absent p.2 c.if-found-eq0.true in
    let free = take 1 (free_blocks (next a.image.now) (block_count a.image.now)) in
    c.mark_grown.ensures ∙ ap (λ (m : List ℕ). marked m (free ++ entries_named (changed_entries 0 free))) c.mark.ensures
    ∙ first-named a.image.now a.directory.now a.serial.now a.time a.bytes.now p.0 p.1 none _ _ _ (p.2.place none).0 a.marks.now

pub more_named-requires : goal.more_named-requires
more_named-requires c =
    let p = c.requires in
    let a = c.args in
    let some = c.if-found-eq0.false in
    (p.0, target-standing p.2 a.time a.bytes.now p.0 p.1 some, target-short p.2 a.time a.bytes.now p.0 p.1 some, target-given p.2 a.time a.bytes.now p.0 p.1 some, p.3)

pub returns : goal.returns
returns c =
    let p = c.requires in
    let a = c.args in
    c.more_named.ensures ∙ ap (λ (bs : List ℕ). marked a.marks.now bs) (target-named p.2 a.time a.bytes.now p.0 p.1 c.if-found-eq0.false)
