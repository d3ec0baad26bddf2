use Rattle.std.proofs.Common.{sym, ◌∙◌, rules}
use Rattle.std.proofs.lemmas.List.{map-id}
use Rattle.volume.specs.Entries.{blocks_named}
use Rattle.volume.proofs.Walks.Marks.{marked_append}
use Rattle.volume.proofs.marks.mark_freed.Goals as goal

pub returns : goal.returns
unfolding blocks_named
returns c =
    c.mark_entries.ensures ∙ rw (c.mark_each.ensures (λ b. b) (λ b r h e. search rules), map-id) (sym (marked_append _ _ _))
