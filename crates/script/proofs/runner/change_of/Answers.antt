use mathlib.Core.Path.{◌∙◌}
use borrow.Author.Tests.{ne_eqb}
use Rattle.script.specs.Script.{change_at}
use Rattle.script.proofs.runner.change_of.Goals as goal

pub returns-then-op-eq5 : goal.returns-then-op-eq5
unfolding change_at
returns-then-op-eq5 c = c.file_of.ensures ∙ rw (c.if-op-eq5.true, c.get64-time.ensures)

pub returns-then-op-eq6 : goal.returns-then-op-eq6
unfolding change_at
returns-then-op-eq6 c = rw (c.if-op-eq6.true, c.get64-time.ensures, c.get64.ensures)

pub returns-then-op-eq9 : goal.returns-then-op-eq9
unfolding change_at
returns-then-op-eq9 c = c.directory_of.ensures ∙ rw (c.if-op-eq9.true, c.get64-time.ensures)

pub returns-then-op-eq10 : goal.returns-then-op-eq10
unfolding change_at
returns-then-op-eq10 c = rw c.if-op-eq10.true

pub returns-then-op-eq11 : goal.returns-then-op-eq11
unfolding change_at
returns-then-op-eq11 c = rw c.if-op-eq11.true

pub returns-then-op-eq12 : goal.returns-then-op-eq12
unfolding change_at
returns-then-op-eq12 c = rw c.if-op-eq12.true

pub returns-then-op-eq14 : goal.returns-then-op-eq14
unfolding change_at
returns-then-op-eq14 c = rw c.if-op-eq14.true

pub returns-then-op-eq18 : goal.returns-then-op-eq18
unfolding change_at
returns-then-op-eq18 c = rw (c.if-op-eq18.true, c.get64-time.ensures)

-- none of the ops above
pub returns : goal.returns
unfolding change_at
returns c =
    c.renew_of.ensures ∙ rw (ne_eqb _ 5 c.if-op-eq5.false, ne_eqb _ 6 c.if-op-eq6.false, ne_eqb _ 9 c.if-op-eq9.false, ne_eqb _ 10 c.if-op-eq10.false, ne_eqb _ 11 c.if-op-eq11.false, ne_eqb _ 12 c.if-op-eq12.false, ne_eqb _ 14 c.if-op-eq14.false, ne_eqb _ 18 c.if-op-eq18.false, ne_eqb _ 21 c.requires.1)
