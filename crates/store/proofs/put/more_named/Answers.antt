use mathlib.Core.Path.{ap, ◌∙◌}
use Prim.Native.Nat.{ℕ}
use native.Mathlib.Omega.{arith}
use Rattle.layout.specs.Walks.Slots.{entry_at}
use Rattle.volume.specs.Write.{write_named}
use Rattle.volume.specs.Walks.Marks.{marked}
use Rattle.std.specs.Prelude.{Result}
use Rattle.std.proofs.Common.{refl, subst}
use Rattle.layout.specs.declared.refusal.Refusal.{Refusal}
use Rattle.store.specs.Walks.Puts.{WeighedFor}
use Rattle.store.proofs.Walks.Puts.{file-small, file-blocks, spare-accepted, spare-named}
use Rattle.store.proofs.Walks.Prepares.{weighed-ok, more-weighed}
use Rattle.store.proofs.put.more_named.Goals as goal

-- src/put.rt:138:8
pub overflow_add-found : goal.overflow_add-found
overflow_add-found c = let p = c.requires in let z = file-small p.1 p.0 in omega arith

pub overflow_add-found-2 : goal.overflow_add-found-2
overflow_add-found-2 c = let p = c.requires in let z = file-small p.1 p.0 in let y = p.2 in omega arith

pub overflow_mul-found : goal.overflow_mul-found
overflow_mul-found c = let p = c.requires in let z = file-blocks p.1 p.0 in omega arith

pub write_at_named-requires : goal.write_at_named-requires
write_at_named-requires c = let p = c.requires in (p.0, p.1, spare-accepted p.1 p.0 (λ i. omega (arith, c.shared_slice_known-1.given i)) _ p.3, p.4)

pub returns-then-found-bytes : goal.returns-then-found-bytes
returns-then-found-bytes c =
    let p = c.requires in
    let a = c.args in
    c.write_at_named.ensures ∙ ap (marked a.marks.now) (spare-named p.1 p.0 (λ i. omega (arith, c.shared_slice_known-1.given i)) _ p.3 c.if-found-bytes.true)

pub unwrap-size-requires : goal.unwrap-size-requires
unwrap-size-requires c = let a = c.args in weighed-ok a.image.now (entry_at a.found.block a.found.slot) a.bytes.now c.weigh.result c.weigh.ensures c.requires.3

pub write_at_named-requires-2 : goal.write_at_named-requires-2
write_at_named-requires-2 c =
    let a = c.args in
    let p = c.requires in
    let w = subst (λ (r : Result ℕ Refusal). WeighedFor a.image.now (entry_at a.found.block a.found.slot) a.bytes.now r) c.unwrap-size.ensures c.weigh.ensures in
    (p.0, p.1, (more-weighed w p.3).1, p.4)

pub returns : goal.returns
returns c =
    let a = c.args in
    let w = subst (λ (r : Result ℕ Refusal). WeighedFor a.image.now (entry_at a.found.block a.found.slot) a.bytes.now r) c.unwrap-size.ensures c.weigh.ensures in
    c.write_at_named-2.ensures ∙ ap (λ (k : ℕ). marked a.marks.now (write_named a.image.now (entry_at a.found.block a.found.slot) 0 k)) (w.size_is refl)
