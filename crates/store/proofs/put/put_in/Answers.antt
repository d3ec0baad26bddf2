use Rattle.std.proofs.Common.{◌≡◌, max, ◌∙◌, refl, sym, arith}
use lib.Seq.{length-take-le}
use Rattle.layout.proofs.Laws.Tests.{true-not-false}
use Rattle.store.specs.Settings.{revisions}
use Rattle.store.specs.Walks.Forms.{bytes_of}
use Rattle.store.proofs.Walks.Rooms.{parsed-wrong, loaded-some, loaded-form}
use Rattle.store.proofs.Walks.Puts.{file-below, file-inside, more-right, more-summary, more-low, more-fits, more-accepted, more-image, more-number}
use Rattle.store.proofs.put.put_in.Goals as goal

pub load-requires : goal.load-requires
load-requires c = let p = c.requires in (file-below p.1 p.0, file-inside p.1 p.0, p.4)

pub unwrap-form-requires : goal.unwrap-form-requires
unwrap-form-requires c =
    let p = c.requires in
    loaded-some _ _ c.load.result c.load.ensures (λ h. true-not-false (more-right p.1 p.0 c.load.new.room _ 0 0 0 0 (parsed-wrong _ _ _ _ _ _ _ refl h) _ p.3) refl)

pub rewrite-used-requires : goal.rewrite-used-requires
rewrite-used-requires c =
    let p = c.requires in
    let a = c.args in
    let P = loaded-form (revisions (bytes_of a.image.now a.found.first a.found.size a.found.blocks)) c.load.new.room c.load.result c.unwrap-form.result c.unwrap-form.ensures c.load.ensures in
    (more-summary p.1 p.0 _ _ _ _ _ _ P _ p.3, more-low p.1 p.0 _ _ _ _ _ _ P _ p.3, p.2, c.load.auto.room ∙ p.4, p.5)

pub slice_bounds-write_at-end : goal.slice_bounds-write_at-end
slice_bounds-write_at-end c =
    let p = c.requires in
    let a = c.args in
    let P = loaded-form (revisions (bytes_of a.image.now a.found.first a.found.size a.found.blocks)) c.load.new.room c.load.result c.unwrap-form.result c.unwrap-form.ensures c.load.ensures in
    let w = c.rewrite-used.ensures in
    let k : c.max-k.result ≡ max c.unwrap-form.result.used c.rewrite-used.result = c.max-k.ensures in
    let f = more-fits p.1 p.0 _ _ _ _ _ _ P refl _ p.2 (λ i. omega (arith, c.slice_known-4-1.given i)) (c.load.auto.room ∙ p.4) (λ i. omega (arith, c.slice_known-1.given i)) _ _ _ w.bytes w.size k in
    omega (arith, f, k)

pub slice_bounds-write_at-end-2 : goal.slice_bounds-write_at-end-2
slice_bounds-write_at-end-2 c =
    let p = c.requires in
    let a = c.args in
    let P = loaded-form (revisions (bytes_of a.image.now a.found.first a.found.size a.found.blocks)) c.load.new.room c.load.result c.unwrap-form.result c.unwrap-form.ensures c.load.ensures in
    let w = c.rewrite-used.ensures in
    let k : c.max-k.result ≡ max c.unwrap-form.result.used c.rewrite-used.result = c.max-k.ensures in
    let f = more-fits p.1 p.0 _ _ _ _ _ _ P refl _ p.2 (λ i. omega (arith, c.slice_known-4-1.given i)) (c.load.auto.room ∙ p.4) (λ i. omega (arith, c.slice_known-1.given i)) _ _ _ w.bytes w.size k in
    sym (length-take-le _ _ (omega (arith, f, k)))

pub write_at-requires : goal.write_at-requires
write_at-requires c =
    let p = c.requires in
    let a = c.args in
    let P = loaded-form (revisions (bytes_of a.image.now a.found.first a.found.size a.found.blocks)) c.load.new.room c.load.result c.unwrap-form.result c.unwrap-form.ensures c.load.ensures in
    let w = c.rewrite-used.ensures in
    let k : c.max-k.result ≡ max c.unwrap-form.result.used c.rewrite-used.result = c.max-k.ensures in
    (p.0, p.1, more-accepted p.1 p.0 _ _ _ _ _ _ P refl _ p.2 (λ i. omega (arith, c.slice_known-4-1.given i)) (c.load.auto.room ∙ p.4) (λ i. omega (arith, c.slice_known-1.given i)) _ _ _ w.bytes w.size k p.3)

pub overflow_add-result : goal.overflow_add-result
overflow_add-result c =
    let p = c.requires in
    let a = c.args in
    let P = loaded-form (revisions (bytes_of a.image.now a.found.first a.found.size a.found.blocks)) c.load.new.room c.load.result c.unwrap-form.result c.unwrap-form.ensures c.load.ensures in
    omega (arith, more-low p.1 p.0 _ _ _ _ _ _ P _ p.3)

pub returns-clause-revision : goal.returns-clause-revision
returns-clause-revision c =
    let p = c.requires in
    let a = c.args in
    let P = loaded-form (revisions (bytes_of a.image.now a.found.first a.found.size a.found.blocks)) c.load.new.room c.load.result c.unwrap-form.result c.unwrap-form.ensures c.load.ensures in
    more-number p.1 p.0 _ _ _ _ _ _ P refl

pub returns-clause-bytes : goal.returns-clause-bytes
returns-clause-bytes c =
    let p = c.requires in
    let a = c.args in
    let P = loaded-form (revisions (bytes_of a.image.now a.found.first a.found.size a.found.blocks)) c.load.new.room c.load.result c.unwrap-form.result c.unwrap-form.ensures c.load.ensures in
    let w = c.rewrite-used.ensures in
    let k : c.max-k.result ≡ max c.unwrap-form.result.used c.rewrite-used.result = c.max-k.ensures in
    c.write_at.ensures ∙ more-image p.1 p.0 _ _ _ _ _ _ P refl _ p.2 (λ i. omega (arith, c.slice_known-4-1.given i)) (c.load.auto.room ∙ p.4) (λ i. omega (arith, c.slice_known-1.given i)) _ _ _ w.bytes w.size k _
