use native.Mathlib.Omega.{arith}
use Rattle.layout.proofs.Walks.Entries.{attributes_ok-none, attributes_ok-empty, attributes_ok-size}
use Rattle.layout.proofs.directory.attributes_ok.Goals as goal

pub returns-then-get32-eq0 : goal.returns-then-get32-eq0
returns-then-get32-eq0 c = attributes_ok-none _ _ _ _ c.get32-size.ensures c.get32.ensures c.if-get32-eq0.true

pub returns-then-size-lt1 : goal.returns-then-size-lt1
returns-then-size-lt1 c = attributes_ok-empty _ _ _ _ c.get32-size.ensures c.get32.ensures c.if-get32-eq0.false c.if-size-lt1.true

pub returns : goal.returns
returns c = attributes_ok-size _ _ _ _ c.get32-size.ensures c.get32.ensures c.if-get32-eq0.false (omega arith)
