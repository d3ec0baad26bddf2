use Rattle.std.proofs.Common.{refl, sym, ◌∙◌, arith}
use Rattle.std.proofs.lemmas.Result.{err_from_is_err_and}
use Rattle.layout.specs.Directory.{is_file}
use Rattle.layout.specs.Reasons.{number_of}
use Rattle.layout.proofs.Laws.Reasons.{reason}
use Rattle.layout.proofs.Walks.Shapes.{sound-shape}
use Rattle.layout.proofs.Walks.Looks.{attributes-blocks, opens_as}
use Rattle.volume.proofs.Walks.Attributes.{set-form-refused, set-path-refused, set_full, set-fine, room_small}
use Rattle.volume.proofs.attributes.set_attributes_refusal.Goals as goal

pub returns-in_err-form_refusal : goal.returns-in_err-form_refusal
returns-in_err-form_refusal c =
    let a = c.args in
    let why = c.in_err-form_refusal.field-0.0 in
    let q = err_from_is_err_and c.from_residual.result c.from_residual.ensures.1 in
    rw (q.1, q.2) (set-form-refused a.path.now a.count a.image.now (number_of why) c.in_err-form_refusal.ensures (reason why))

pub returns-in_err-file : goal.returns-in_err-file
returns-in_err-file c =
    let a = c.args in
    let why = c.in_err-file.field-0.0 in
    let e = c.in_err-file.ensures in
    let q = err_from_is_err_and c.from_residual-in_err-file.result c.from_residual-in_err-file.ensures.1 in
    rw (q.1, q.2) (e ∙ set-path-refused a.path.now a.count a.image.now 0 c.in_ok-form_refusal.ensures refl (λ z. reason why (e ∙ z)))

pub attribute_chain-old-requires : goal.attribute_chain-old-requires
attribute_chain-old-requires c =
    let h = sound-shape c.args.image.now c.requires in
    omega (arith, (c.in_ok-file.ensures.file refl).inside)

pub header_number-requires : goal.header_number-requires
header_number-requires c =
    let h = sound-shape c.args.image.now c.requires in
    (omega arith, omega arith)

pub overflow_add-header_number : goal.overflow_add-header_number
overflow_add-header_number c =
    let o = c.in_ok-file.ensures in
    let a = c.args in
    omega (arith, room_small a.image.now a.path.now c.requires (sym o.number_is) a.count c.in_ok-form_refusal.ensures refl c.header_number.ensures (attributes-blocks (o.file refl) c.attribute_chain-old.ensures))

pub returns-then-header_number-old : goal.returns-then-header_number-old
returns-then-header_number-old c =
    let o = c.in_ok-file.ensures in
    let a = c.args in
    set_full a.image.now a.path.now c.requires (sym o.number_is) a.count c.in_ok-form_refusal.ensures refl c.header_number.ensures (attributes-blocks (o.file refl) c.attribute_chain-old.ensures) c.if-header_number-old.true

pub returns : goal.returns
returns c =
    let o = c.in_ok-file.ensures in
    let z = sym o.number_is in
    let a = c.args in
    opens_as is_file _ _ (z ∙ set-fine a.image.now a.path.now c.requires z a.count c.in_ok-form_refusal.ensures refl c.header_number.ensures (attributes-blocks (o.file refl) c.attribute_chain-old.ensures) c.if-header_number-old.false) o
