use Rattle.std.proofs.Common.{◌++◌, ◌∙◌, arith}
use Rattle.volume_file.proofs.Walks.Logging.{pair_left, middle-right, own-right}
use Rattle.volume_file.proofs.saving.sector_of.Goals as goal

pub returns-then-i-n-clause-bytes : goal.returns-then-i-n-clause-bytes
returns-then-i-n-clause-bytes c = let h = c.args.home.now in c.block.ensures.bytes ∙ pair_left h.image.now (h.journal.now ++ h.own.now) c.args.i (omega arith)

pub returns-then-i-n-2-clause-bytes : goal.returns-then-i-n-2-clause-bytes
returns-then-i-n-2-clause-bytes c = let h = c.args.home.now in c.block-then-i-n-2.ensures.bytes ∙ middle-right h.image.now h.journal.now h.own.now _ c.args.i c.requires.image (omega arith) (omega arith)

pub returns-clause-bytes : goal.returns-clause-bytes
returns-clause-bytes c = let h = c.args.home.now in c.block-2.ensures.bytes ∙ own-right h.image.now h.journal.now h.own.now _ _ c.args.i c.requires.image c.requires.journal (omega arith)
