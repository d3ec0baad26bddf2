use Rattle.std.proofs.Common.{sym, ◌∙◌, arith}
use Rattle.store.proofs.Walks.Serials.{front-root, front_below}
use Rattle.store.proofs.serial.front_length.Goals as goal

pub returns-then-is_root : goal.returns-then-is_root
returns-then-is_root c = (front-root _ (sym c.is_root.ensures ∙ c.if-is_root.true), omega arith)

pub returns-else-is_root : goal.returns-else-is_root
returns-else-is_root c = (front_below _ (sym c.is_root.ensures ∙ c.if-is_root.false), omega arith)
