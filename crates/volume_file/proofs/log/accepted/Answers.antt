use Rattle.std.proofs.Common.{sym, ◌∙◌, arith}
use Rattle.volume_file.proofs.Walks.Turns.{refused-count, refused-addresses, accepted-log}
use Rattle.volume_file.proofs.log.accepted.Goals as goal

pub returns-then-h-k : goal.returns-then-h-k
returns-then-h-k c = sym (refused-count _ _ _ c.requires.2 (omega arith))

pub returns-then-not-addresses_rise : goal.returns-then-not-addresses_rise
returns-then-not-addresses_rise c = sym (refused-addresses _ _ _ c.requires.2 (omega arith) (sym c.addresses_rise.ensures ∙ c.if-not-addresses_rise.true))

pub returns : goal.returns
returns c = sym (accepted-log _ _ _ c.requires.2 (omega arith) (sym c.addresses_rise.ensures ∙ c.if-not-addresses_rise.false))
