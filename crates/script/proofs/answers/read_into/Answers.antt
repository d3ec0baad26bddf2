use Rattle.std.proofs.Common.{◌∙◌, sym, ap, length}
use borrow.Author.Tests.{eq-eqb, ne_eqb}
use Rattle.script.specs.Walks.Scripts.{filled_at}
use Rattle.script.proofs.Walks.Scripts.{length-data}
use Rattle.script.proofs.answers.read_into.Goals as goal

pub copy-requires : goal.copy-requires
copy-requires c =
    let p = c.requires in
    ap length c.data_of-before.ensures ∙ length-data _ _ p.0 ∙ sym p.1

pub returns-then-script-at-eq13 : goal.returns-then-script-at-eq13
unfolding filled_at
returns-then-script-at-eq13 c =
    let read-attributes = c.read_attributes in
    let copy = c.copy in
    let data_of = c.data_of-before in
    let name-of = c.name_of-name in
    read-attributes.ensures ∙ rw (copy.ensures, data_of.ensures, name-of.ensures, eq-eqb _ 13 c.if-script-at-eq13.true)

pub returns : goal.returns
unfolding filled_at
returns c =
    let read = c.read in
    let get64 = c.get64-offset in
    let copy = c.copy in
    let data_of = c.data_of-before in
    let name-of = c.name_of-name in
    read.ensures ∙ rw (copy.ensures, data_of.ensures, name-of.ensures, get64.ensures, ne_eqb _ 13 c.if-script-at-eq13.false)
