use Rattle.std.proofs.Common.{refl, sym, ap, ◌∙◌, arith}
use Rattle.layout.specs.Directory.{is_file}
use Rattle.layout.specs.Looks.{Extent}
use Rattle.layout.proofs.Laws.Reasons.{reason}
use Rattle.layout.proofs.Walks.Looks.{opens-why, opened-blocks, opened-chain, opened-extent-refused, opened-extent-past, opened-extent}
use Rattle.layout.proofs.reading.extent_in_place.Goals as goal

pub returns-in_default : goal.returns-in_default
returns-in_default c =
    let a = c.args in
    let why = c.in_default.field-0 in
    let e = opened-extent-refused (opens-why is_file a.image.now a.path.now why c.in_default.ensures) a.index (reason why) in
    let none = c.no_extent.ensures in
    (none.0 ∙ sym (ap (λ (x : Extent). x.start) e), none.1 ∙ sym (ap (λ (x : Extent). x.size) e), omega (arith, none))

pub returns-then-file-index : goal.returns-then-file-index
returns-then-file-index c =
    let e = opened-extent-past c.in-Ok.ensures refl c.args.index c.if-file-index.true in
    let none = c.no_extent-then-file-index.ensures in
    (none.0 ∙ sym (ap (λ (x : Extent). x.start) e), none.1 ∙ sym (ap (λ (x : Extent). x.size) e), omega (arith, none))

pub nth-b-requires : goal.nth-b-requires
nth-b-requires c = (opened-chain c.in-Ok.ensures refl, omega arith)

pub overflow_mul-result : goal.overflow_mul-result
overflow_mul-result c =
    let r = opened-chain c.in-Ok.ensures refl in
    let h = r.below c.args.index (omega arith) in
    let e = c.nth-b.ensures in
    omega arith

pub overflow_mul-index : goal.overflow_mul-index
overflow_mul-index c = let q = opened-blocks c.in-Ok.ensures refl in omega arith

pub overflow_sub-file : goal.overflow_sub-file
overflow_sub-file c = let q = opened-blocks c.in-Ok.ensures refl in omega arith

pub returns : goal.returns
returns c =
    let r = opened-chain c.in-Ok.ensures refl in
    let h = r.below c.args.index (omega arith) in
    let e = c.nth-b.ensures in
    let x = opened-extent c.in-Ok.ensures refl c.args.index c.nth-b.result c.min.result (omega arith) e (omega (arith, c.min.ensures)) in
    (sym (ap (λ (y : Extent). y.start) x), sym (ap (λ (y : Extent). y.size) x), omega arith)
