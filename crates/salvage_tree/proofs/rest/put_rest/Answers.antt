use Rattle.std.proofs.Common.{◌≡◌, ◌&&◌, arith}
use Rattle.std.proofs.lemmas.Grind.{common_steps}
use Rattle.salvage_tree.proofs.Walks.Rest.{rest_put}
use Rattle.salvage_tree.proofs.rest.put_rest.Goals as goal

pub put_padding-padded-requires : goal.put_padding-padded-requires
put_padding-padded-requires c = let h = c.requires.room.shape in record { shape = record { whole = omega (arith, h); low = h.low; high = h.high }; table = c.requires.room.table; marks = c.requires.room.marks }

pub head_right-head-requires : goal.head_right-head-requires
head_right-head-requires c = let h = c.requires.room.shape in record { whole = omega (arith, h); low = h.low; high = h.high }

pub put_header-requires : goal.put_header-requires
put_header-requires c = let h = c.requires.room.shape in (record { whole = omega (arith, h); low = h.low; high = h.high }, c.requires.room.table)

pub note-requires : goal.note-requires
note-requires c = (omega (arith, c.requires.sized, c.requires.room.shape), omega arith)

pub returns : goal.returns
returns c =
    let q : c.if-padded.note ≡ c.put_blocks-ones.result && (c.put_padding-padded.result && c.head_right-head.result) = grind (arith, common_steps) in
    rest_put _ _ _ _ _ _ _ _ _ _ _ c.put_blocks-ones.ensures c.put_padding-padded.ensures c.head_right-head.ensures c.put_header.ensures (rw q at c.note.ensures)
