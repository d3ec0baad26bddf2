use mathlib.Core.Path.{ap, ◌∙◌}
use Prim.Native.Nat.{ℕ, ◌-◌, ◌/◌}
use native.Mathlib.Omega.{arith}
use Rattle.journal.specs.Journal.{copies}
use Rattle.journal.proofs.Walks.Undoing.{last-well, last-fine, last-saved, last-image, last-journal}
use Rattle.journal.proofs.restoring.take_back.Goals as goal

pub get32-size-requires : goal.get32-size-requires
get32-size-requires c =
    let w = last-well _ _ _ c.requires in
    let f = last-fine _ _ _ c.requires in
    omega (arith, w.used_high, f.some, f.size, f.inside)

pub overflow_sub-k : goal.overflow_sub-k
overflow_sub-k c =
    let f = last-fine _ _ _ c.requires in
    omega (arith, f.some, f.size, c.get32-size.ensures)

pub restore-requires : goal.restore-requires
unfolding copies
restore-requires c = last-saved _ _ _ c.requires _ (rw c.get32-size.ensures)

pub drop_record-requires : goal.drop_record-requires
drop_record-requires c =
    let w = last-well _ _ _ c.requires in
    let f = last-fine _ _ _ c.requires in
    (w.long, omega (arith, w.used_high, f.inside, c.get32-size.ensures), w.short)

pub returns : goal.returns
unfolding copies
returns c =
    let drop-record = c.drop_record in
    let restore = c.restore in
    let get32 = c.get32-size in
    let p = c.requires in record {
      size = get32.ensures ∙ rw p.last;
      image = restore.ensures ∙ last-image _ _ _ (p) _ (ap (λ (x : ℕ). (x - 4) / 516) get32.ensures);
      journal = drop-record.ensures ∙ last-journal _ _ _ (p) _ get32.ensures;
    }
