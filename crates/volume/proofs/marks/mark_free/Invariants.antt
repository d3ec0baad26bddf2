use Rattle.std.proofs.Common.{[], ◌∷◌, take, ◌-◌}
use Rattle.layout.specs.Lists.{joined}
use Rattle.layout.specs.Table.{next, chain, free_blocks, table_block_of}
use Rattle.volume.specs.Walks.Marks.{marked}
use Rattle.volume.specs.Walks.Searches.{without}
use Rattle.volume.proofs.Walks.Grow.{MarkingFree}
use Rattle.volume.proofs.marks.mark_free.Given as goal

abbrev pub invariant-loop : goal.invariant-loop
invariant-loop l =
    let v = without (next l.image) (chain (next l.image) l.first l.k) in
    MarkingFree v l.n (marked l.initial.marks (joined (λ x. x ∷ table_block_of x ∷ []) (take l.count (free_blocks v l.n)))) l.marks l.from (l.count - l.counter)
