use mathlib.Core.Path.{◌∙◌}
use native.Mathlib.Omega.{arith}
use Rattle.volume.proofs.Walks.Lent.{file-words}
use Rattle.volume.proofs.file.put_file.Goals as goal

pub returns : goal.returns
returns c =
    let put64 = c.put64 in
    let put323 = c.put32-3 in
    let put322 = c.put32-2 in
    let put32 = c.put32 in
    put64.ensures ∙ rw (put323.ensures, put322.ensures, put32.ensures) (file-words _ _ _ _ _ _ (omega arith))
