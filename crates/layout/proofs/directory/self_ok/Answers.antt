use mathlib.Core.Path.{sym}
use Rattle.layout.proofs.Walks.Entries.{self_ok-type, self_ok-block, self_ok-parent, self_ok-none, self_ok-size}
use Rattle.layout.proofs.directory.self_ok.Goals as goal

pub returns-then-block-ne1 : goal.returns-then-block-ne1
returns-then-block-ne1 c =
    sym (self_ok-type c.args.block.now c.args.b c.args.parent
    c.if-block-ne1.true)

pub returns-then-get32-b : goal.returns-then-get32-b
returns-then-get32-b c =
    sym (self_ok-block c.args.block.now c.args.b
    c.args.parent c.if-block-ne1.false _ c.get32.ensures c.if-get32-b.true)

pub returns-then-get32-parent : goal.returns-then-get32-parent
returns-then-get32-parent c =
    sym (self_ok-parent c.args.block.now
    c.args.b c.args.parent
    c.if-block-ne1.false _ c.get32.ensures c.if-get32-b.false _ c.get32-2.ensures
    c.if-get32-parent.true)

pub returns-then-d-lt1 : goal.returns-then-d-lt1
returns-then-d-lt1 c =
    sym (self_ok-none c.args.block.now
    c.args.b
    c.args.parent c.if-block-ne1.false _
    c.get32.ensures c.if-get32-b.false _ c.get32-2.ensures
    c.if-get32-parent.false _ c.get32-d.ensures c.if-d-lt1.true)

pub returns : goal.returns
returns c =
    sym (self_ok-size c.args.block.now
    c.args.b
    c.args.parent c.if-block-ne1.false _
    c.get32.ensures c.if-get32-b.false _ c.get32-2.ensures
    c.if-get32-parent.false _ c.get32-d.ensures c.if-d-lt1.false)
