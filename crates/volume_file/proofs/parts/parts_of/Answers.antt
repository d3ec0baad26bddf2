use Rattle.std.proofs.Common.{◌≡◌, Bool, true, false, cond, refl, ◌∙◌, arith}
use mir.Val.{bool_byte}
use Rattle.volume_file.proofs.Laws.Reasons.{some_number}
use Rattle.volume_file.proofs.Walks.Places.{given-long, given-sizes, parts-refused, parts-given}
use Rattle.volume_file.proofs.parts.parts_of.Goals as goal

-- a test as a number
one : (test : Bool) → bool_byte test ≡ cond test 1 0
one true = refl
one false = refl

pub returns-in-Err : goal.returns-in-Err
returns-in-Err c =
    let (n, (w, (a, (b, (d, (e, (f, g))))))) = c.default.ensures in
    rw (c.number.ensures, w, a, b, d, e, f, g) (parts-refused _ _ c.in-Err.ensures.number (some_number _))

pub block-requires : goal.block-requires
block-requires c = omega (arith, given-long _ _ c.in_default.ensures.number refl)

pub log_waits-requires : goal.log_waits-requires
log_waits-requires c = given-long _ _ c.in_default.ensures.number refl

pub overflow_mul-n : goal.overflow_mul-n
overflow_mul-n c =
    let t = rw c.block.ensures.bytes at c.told-sizes.ensures.image in
    omega (arith, t, (given-sizes _ _ c.in_default.ensures.number refl).0)

pub overflow_mul-m : goal.overflow_mul-m
overflow_mul-m c =
    let t = rw c.block.ensures.bytes at c.told-sizes.ensures.journal in
    omega (arith, t, (given-sizes _ _ c.in_default.ensures.number refl).2)

pub overflow_add-result : goal.overflow_add-result
overflow_add-result c =
    let t = rw c.block.ensures.bytes at c.told-sizes.ensures.image in
    omega (arith, t, (given-sizes _ _ c.in_default.ensures.number refl).0)

pub overflow_add-result-2 : goal.overflow_add-result-2
overflow_add-result-2 c =
    let t = rw c.block.ensures.bytes at c.told-sizes.ensures.image in
    omega (arith, t, (given-sizes _ _ c.in_default.ensures.number refl).0)

pub overflow_add-result-3 : goal.overflow_add-result-3
overflow_add-result-3 c =
    let s = given-sizes _ _ c.in_default.ensures.number refl in
    let t = rw c.block.ensures.bytes at c.told-sizes.ensures.image in
    let u = rw c.block.ensures.bytes at c.told-sizes.ensures.journal in
    omega (arith, t, u, s.0, s.2)

pub overflow_mul-result : goal.overflow_mul-result
overflow_mul-result c =
    let t = rw c.block.ensures.bytes at c.told-sizes.ensures.own in
    omega (arith, t, (given-sizes _ _ c.in_default.ensures.number refl).3)

pub returns : goal.returns
returns c =
    let b = c.block.ensures.bytes in
    let t = c.told-sizes.ensures in
    parts-given _ _ c.in_default.ensures.number refl _ _ _ _ _ (rw b at t.image) (rw b at t.journal) (rw b at t.own) c.log_waits.ensures (c.from.ensures ∙ one c.log_waits.result)
