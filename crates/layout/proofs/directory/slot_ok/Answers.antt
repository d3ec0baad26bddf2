use mathlib.Core.Path.{sym, ◌∙◌}
use Rattle.layout.proofs.Walks.Entries.{slot_ok-free, slot_ok-file, slot_ok-directory, slot_ok-other}
use Rattle.layout.proofs.directory.slot_ok.Goals as goal

pub returns-then-block-o-eq0 : goal.returns-then-block-o-eq0
returns-then-block-o-eq0 c = slot_ok-free c.args.block.now c.args.o c.if-block-o-eq0.true

pub returns-then-is_file : goal.returns-then-is_file
returns-then-is_file c = c.file_ok.ensures ∙ slot_ok-file c.args.block.now c.args.o c.if-block-o-eq0.false (sym c.if-is_file.true ∙ c.is_file.ensures)

pub returns-then-is_directory : goal.returns-then-is_directory
returns-then-is_directory c = c.directory_entry_ok.ensures ∙ slot_ok-directory c.args.block.now c.args.o c.if-block-o-eq0.false (sym c.if-is_file.false ∙ c.is_file.ensures) (sym c.if-is_directory.true ∙ c.is_directory.ensures)

pub returns : goal.returns
returns c = slot_ok-other c.args.block.now c.args.o c.if-block-o-eq0.false (sym c.if-is_file.false ∙ c.is_file.ensures) (sym c.if-is_directory.false ∙ c.is_directory.ensures)
