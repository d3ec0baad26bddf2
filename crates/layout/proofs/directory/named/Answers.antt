use mathlib.Core.Path.{sym, ap, ◌∙◌}
use Prim.Native.Nat.{◌+◌}
use native.Mathlib.Omega.{arith}
use Rattle.layout.specs.Walks.Entries.{field_ok}
use Rattle.layout.proofs.Laws.Bytes.{length_part}
use Rattle.layout.proofs.Walks.Entries.{name_ok-field}
use lib.ListN.{length}
use Rattle.layout.proofs.directory.named.Goals as goal

pub name_ok-requires : goal.name_ok-requires
name_ok-requires c = ap length c.field_of.ensures ∙ length_part _ (c.args.o + 48) 80 (omega arith)

pub returns : goal.returns
returns c = c.name_ok.ensures ∙ ap field_ok c.field_of.ensures ∙ sym (name_ok-field _ _)
