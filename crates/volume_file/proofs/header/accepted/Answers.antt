use Rattle.std.proofs.Common.{◌≡◌, ◌*◌, true, sym, ◌∙◌, arith, eq-eqb}
use borrow.Author.Tests.{ne_eqb}
use Rattle.layout.specs.Bytes.{block}
use Rattle.volume_file.specs.Format.{header_ok, home_sectors, file_sectors}
use Rattle.volume_file.proofs.Laws.Facts.{header-small}
use Rattle.volume_file.proofs.Walks.Turns.{refused-short, refused-header, refused-length, accepted-head}
use Rattle.volume_file.proofs.header.accepted.Goals as goal

pub returns-then-file-lt1024-clause-number : goal.returns-then-file-lt1024-clause-number
returns-then-file-lt1024-clause-number c = sym (refused-short _ (omega arith))

pub returns-then-not-header_ok-clause-number : goal.returns-then-not-header_ok-clause-number
returns-then-not-header_ok-clause-number c = sym (refused-header _ (omega arith) (rw c.block.ensures.bytes at (sym c.header_ok.ensures ∙ c.if-not-header_ok.true)))

pub file_length-requires : goal.file_length-requires
file_length-requires c =
    let s = c.args.file.now in
    omega (arith, c.home_sectors-h.ensures, header-small s (rw c.block.ensures.bytes at (sym c.header_ok.ensures ∙ c.if-not-header_ok.false)))

pub returns-then-file-file_length-clause-number : goal.returns-then-file-file_length-clause-number
returns-then-file-file_length-clause-number c =
    let s = c.args.file.now in
    let e : c.file_length.result ≡ 512 * file_sectors (home_sectors s) = rw (← c.home_sectors-h.ensures) c.file_length.ensures in
    let h : header_ok (block s 0) ≡ true = rw c.block.ensures.bytes at (sym c.header_ok.ensures ∙ c.if-not-header_ok.false) in
    sym (refused-length s (omega arith) h (ne_eqb _ _ (λ z. c.if-file-file_length.true (z ∙ sym e))))

pub returns-clause-number : goal.returns-clause-number
returns-clause-number c =
    let s = c.args.file.now in
    let e : c.file_length.result ≡ 512 * file_sectors (home_sectors s) = rw (← c.home_sectors-h.ensures) c.file_length.ensures in
    let h : header_ok (block s 0) ≡ true = rw c.block.ensures.bytes at (sym c.header_ok.ensures ∙ c.if-not-header_ok.false) in
    sym (accepted-head s (omega arith) h (eq-eqb _ _ (c.if-file-file_length.false ∙ e)))
