use Rattle.std.proofs.Common.{◌≡◌, ℕ, ◌+◌, ◌*◌, List, length, sym, ap, ◌∙◌, arith}
use Rattle.layout.specs.Bytes.{bytes4, splice}
use Rattle.layout.specs.Geometry.{root_block}
use Rattle.layout.specs.Table.{set_next}
use Rattle.volume.specs.Format.{first_entries}
use Rattle.volume.proofs.Walks.Format.{words_more, words-all}
use Rattle.layout.proofs.Laws.Bytes.{splice-nil}
use Rattle.volume.proofs.Laws.Format.{entries-length}
use Rattle.volume.proofs.format.put_table.Goals as goal

pub loop-b-init : goal.loop-b-init
loop-b-init c = sym (splice-nil _ 512)

pub loop-b-preserved : goal.loop-b-preserved
unfolding set_next
loop-b-preserved c =
    let l = c.loop-b in
    let a = c.args in
    let xs : List ℕ = first_entries a.n a.d in
    let k : length xs ≡ root_block a.n + a.d = entries-length a.n a.d c.requires.1 in
    c.set_entry.ensures ∙ ap (λ (x : List ℕ). splice x (512 + 4 * l.b) (bytes4 c.first_entry.result)) l.invariant
    ∙ words_more a.image.now xs (omega arith) l.b _ (omega arith) c.first_entry.ensures

pub returns : goal.returns
returns c =
    let a = c.args in
    let k : length (first_entries a.n a.d) ≡ root_block a.n + a.d = entries-length a.n a.d c.requires.1 in
    c.loop-b.invariant ∙ ap (splice a.image.now 512) (words-all (first_entries a.n a.d) c.loop-b.b (omega arith))
