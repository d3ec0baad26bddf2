use Rattle.std.proofs.Common.{refl, sym, ◌∙◌, arith}
use Rattle.std.proofs.lemmas.Result.{err_from_is_err_and}
use Rattle.layout.specs.Directory.{is_file}
use Rattle.layout.proofs.Laws.Reasons.{reason}
use Rattle.layout.proofs.Walks.Looks.{opens_as}
use Rattle.volume.proofs.Walks.Write.{data-long, path-refused, by-entry}
use Rattle.volume.proofs.write.write_refusal.Goals as goal

pub returns-then-count-gt-MAX_DATA : goal.returns-then-count-gt-MAX_DATA
returns-then-count-gt-MAX_DATA c = data-long _ _ _ _ c.if-count-gt-MAX_DATA.true

pub returns-in_err-file : goal.returns-in_err-file
returns-in_err-file c =
    let a = c.args in
    let why = c.in_err-file.field-0.0 in
    let e = c.in_err-file.ensures in
    let q = err_from_is_err_and c.from_residual.result c.from_residual.ensures.1 in
    rw (q.1, q.2) (e ∙ path-refused a.image.now a.path.now a.offset a.count (omega arith) (λ z. reason why (e ∙ z)))

pub write_at_refusal-requires : goal.write_at_refusal-requires
write_at_refusal-requires c =
    let o = c.in_ok-file.ensures in
    (c.requires, record { path = c.args.path.now; accepted = sym o.number_is; located = o.file refl }, omega arith)

pub returns-in_err-write_at_refusal : goal.returns-in_err-write_at_refusal
returns-in_err-write_at_refusal c =
    let a = c.args in
    let o = c.in_ok-file.ensures in
    let q = err_from_is_err_and c.from_residual-in_err-write_at_refusal.result c.from_residual-in_err-write_at_refusal.ensures.1 in
    rw (q.1, q.2) (c.in_err-write_at_refusal.ensures ∙ by-entry a.image.now a.path.now a.offset a.count (omega arith) (sym o.number_is) (o.file refl))

pub returns : goal.returns
returns c =
    let o = c.in_ok-file.ensures in
    let found = sym o.number_is in
    opens_as is_file _ _ (found ∙ c.in_ok-write_at_refusal.ensures ∙ by-entry _ _ _ _ (omega arith) found (o.file refl)) o
