use mathlib.Core.Path.{refl}
use native.Mathlib.Omega.{arith}
use Rattle.store.proofs.Walks.Rewriting.{keeps, rewritten-bytes, rewritten-length}
use Rattle.store.proofs.form.rewrite.Goals as goal

pub overflow_add-from : goal.overflow_add-from
overflow_add-from c =
    let p = c.requires in
    let k = keeps _ _ _ _ _ (λ i. omega (arith, c.shared_slice_known-1.given i)) p.3 p.0 _ c.dropped-from.ensures in
    omega (arith, k.0, p.0.high)

pub overflow_sub-kept : goal.overflow_sub-kept
overflow_sub-kept c =
    let p = c.requires in
    let k = keeps _ _ _ _ _ (λ i. omega (arith, c.shared_slice_known-1.given i)) p.3 p.0 _ c.dropped-from.ensures in
    k.0

pub copy_part-requires : goal.copy_part-requires
copy_part-requires c =
    let p = c.requires in
    let k = keeps _ _ _ _ _ (λ i. omega (arith, c.shared_slice_known-1.given i)) p.3 p.0 _ c.dropped-from.ensures in
    (omega (arith, k.0, p.0.high, p.3), omega (arith, k.1, p.4))

pub put_record-requires : goal.put_record-requires
put_record-requires c =
    let p = c.requires in
    let k = keeps _ _ _ _ _ (λ i. omega (arith, c.shared_slice_known-1.given i)) p.3 p.0 _ c.dropped-from.ensures in
    (omega (arith, k.1, p.2, p.4), p.2)

pub clear_from-requires : goal.clear_from-requires
clear_from-requires c =
    let p = c.requires in
    let k = keeps _ _ _ _ _ (λ i. omega (arith, c.shared_slice_known-1.given i)) p.3 p.0 _ c.dropped-from.ensures in
    omega (arith, k.1, p.2, p.4)

pub returns : goal.returns
returns c = let p = c.requires in
    let x = c.dropped-from in
    let e₁ = c.put_start.ensures in
    let e₂ = c.copy_part.ensures in
    let e₃ = c.put_record.ensures in
    let e₄ = c.clear_from.ensures in record { bytes = rewritten-bytes _ _ _ _ _ (λ i. omega (arith, c.shared_slice_known-1.given i)) p.3 p.0 _ p.2 _ _ _ _ _ _ _ x.ensures refl p.4 _ refl e₁ e₂ e₃ e₄; size = rewritten-length _ _ _ _ _ (λ i. omega (arith, c.shared_slice_known-1.given i)) p.3 p.0 _ p.2 _ _ _ _ _ _ _ x.ensures refl p.4 _ refl e₁ e₂ e₃ e₄ }
