use Rattle.std.proofs.Common.{ℕ, ◌*◌, ◌+◌, ◌≤◌, length, refl, ◌∙◌, arith}
use Rattle.volume_file.proofs.Walks.Turns.{copied}
use Rattle.volume_file.proofs.recovery.restore_one.Goals as goal

pub returns : goal.returns
returns c =
    let d = c.args.file.now in
    let from : ℕ = 512 * c.saved_at-from.result in
    let l : from + 512 ≤ length d = omega arith in
    c.copy_within.ensures.after ∙ copied d from _ _ refl l ∙ rw (c.address-x.ensures, c.saved_at-from.ensures)
