use Prim.Native.Nat.{◌%◌}
use borrow.Author.Tests.{eq-eqb, ne_eqb}
use Rattle.layout.specs.Walks.Slots.{slot_block}
use Rattle.layout.proofs.directory.following.Goals as goal

pub returns-then-k-eq0 : goal.returns-then-k-eq0
unfolding slot_block
returns-then-k-eq0 c = rw (eq-eqb (c.args.k % 4) 0 c.if-k-eq0.true) c.entry.ensures

pub returns : goal.returns
unfolding slot_block
returns c = rw (ne_eqb (c.args.k % 4) 0 c.if-k-eq0.false)
