-- Each step is one splice of the rule; an accepted call gives every bound by format-given.
use Rattle.std.proofs.Common.{refl, sym, ◌∙◌, arith}
use Rattle.std.proofs.lemmas.Result.{err_from_is_err_and}
use Rattle.layout.specs.Geometry.{block_count}
use Rattle.layout.specs.Reasons.{number_of}
use Rattle.layout.proofs.Laws.Reasons.{reason}
use Rattle.volume.proofs.Walks.Format.{formatted-not, formatted-done, image-written}
use Rattle.volume.proofs.Laws.Format.{format-given}
use Rattle.volume.proofs.format.format.Goals as goal

pub returns-in_err-format_refusal : goal.returns-in_err-format_refusal
returns-in_err-format_refusal c =
    let a = c.args in
    let why = c.in_err-format_refusal.field-0.0 in
    let q = err_from_is_err_and c.from_residual.result c.from_residual.ensures.1 in record {
      number = rw (q.1, q.2) c.in_err-format_refusal.ensures;
      bytes = formatted-not a.image.now a.d a.uuid a.name.now a.time (number_of why) c.in_err-format_refusal.ensures (reason why);
    }

pub overflow_cast-n : goal.overflow_cast-n
overflow_cast-n c =
    let a = c.args in
    let g = format-given a.image.now a.d a.name.now (sym c.in_ok-format_refusal.ensures) in
    omega arith

pub overflow_cast-n-2 : goal.overflow_cast-n-2
overflow_cast-n-2 c =
    let a = c.args in
    let g = format-given a.image.now a.d a.name.now (sym c.in_ok-format_refusal.ensures) in
    omega arith

pub root_block-root-requires : goal.root_block-root-requires
root_block-root-requires c =
    let a = c.args in
    let g = format-given a.image.now a.d a.name.now (sym c.in_ok-format_refusal.ensures) in
    omega arith

pub overflow_cast-root : goal.overflow_cast-root
overflow_cast-root c =
    let a = c.args in
    let g = format-given a.image.now a.d a.name.now (sym c.in_ok-format_refusal.ensures) in
    omega arith

pub overflow_add-used : goal.overflow_add-used
overflow_add-used c =
    let a = c.args in
    let g = format-given a.image.now a.d a.name.now (sym c.in_ok-format_refusal.ensures) in
    omega arith

pub put_header-requires : goal.put_header-requires
put_header-requires c =
    let a = c.args in
    let g = format-given a.image.now a.d a.name.now (sym c.in_ok-format_refusal.ensures) in
    (omega arith, omega arith, omega arith, g.label)

pub put_table-requires : goal.put_table-requires
put_table-requires c =
    let a = c.args in
    let g = format-given a.image.now a.d a.name.now (sym c.in_ok-format_refusal.ensures) in
    (omega arith, g.some, g.few, omega arith)

pub put_root-requires : goal.put_root-requires
put_root-requires c =
    let a = c.args in
    let g = format-given a.image.now a.d a.name.now (sym c.in_ok-format_refusal.ensures) in
    (omega arith, g.some, g.few, omega arith)

pub returns : goal.returns
returns c = let put-root = c.put_root in
    let put-table = c.put_table in
    let put-header = c.put_header in
    let a = c.args in
    let root-block = c.root_block-root in
    let s = a.image.now in
    let r = c.in_ok-format_refusal.ensures in
    let g = format-given s a.d a.name.now (sym r) in record {
      number = r;
      bytes = put-root.ensures ∙ rw (put-table.ensures, put-header.ensures, c.fill.ensures.after (λ y h. h), root-block.ensures)
          (image-written s (block_count s) a.d a.uuid a.name.now a.time g.shape.whole)
          ∙ formatted-done s a.d a.uuid a.name.now a.time 0 r refl;
    }
