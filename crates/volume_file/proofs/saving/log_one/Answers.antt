use Rattle.std.proofs.Common.{ℕ, ◌*◌, ◌+◌, ◌-◌, ◌∙◌, arith}
use Rattle.layout.proofs.Laws.Bytes.{lent}
use Rattle.volume_file.proofs.saving.log_one.Goals as goal

pub returns : goal.returns
returns c =
    let a = c.args in
    let s : ℕ = 512 * c.saved_at-s.result in
    lent _ s (s + 512 - s) _ a.sector.now c.copy.ensures (c.requires.0 ∙ omega arith) ∙ rw (c.put32.ensures, c.address_at.ensures, c.saved_at-s.ensures)
