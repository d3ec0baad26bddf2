use mathlib.Core.Path.{◌∙◌}
use native.Mathlib.Omega.{arith}
use Rattle.journal.specs.Journal.{used}
use Rattle.journal.proofs.Walks.Saves.{record-made}
use Rattle.journal.proofs.recording.add_record.Goals as goal

pub put32-requires : goal.put32-requires
unfolding used
put32-requires c = omega (arith, c.requires, c.get32-at.ensures)

pub save_blocks-requires : goal.save_blocks-requires
unfolding used
save_blocks-requires c =
    let get32 = c.get32-at in
    let p = c.requires in
    (p.marks.0, omega (arith, p, get32.ensures))

pub overflow_cast-end : goal.overflow_cast-end
unfolding used
overflow_cast-end c =
    let get32 = c.get32-at in
    let p = c.requires in
    omega (arith, p, get32.ensures)

pub returns : goal.returns
unfolding used
returns c =
    let put322 = c.put32-2 in
    let save-blocks = c.save_blocks in
    let put32 = c.put32 in
    let get32 = c.get32-at in
    let a = c.args in
    let p = c.requires in
    put322.ensures ∙ rw (save-blocks.ensures, put32.ensures)
    (record-made a.image.now a.marks.now a.journal.now a.n _ a.size p.marks.0 get32.ensures p.marks.1 (omega (arith, p, get32.ensures)))
