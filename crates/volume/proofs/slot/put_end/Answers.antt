use mathlib.Core.Path.{sym, ◌∙◌}
use mathlib.Core.List.{[]}
use native.Mathlib.Omega.{arith}
use Rattle.layout.proofs.Laws.Bytes.{splice-cons, splice-nil}
use Rattle.volume.proofs.slot.put_end.Goals as goal

pub returns : goal.returns
returns c = sym (splice-cons c.args.block.now 384 0xFF [] (omega arith) ∙ splice-nil _ _)
