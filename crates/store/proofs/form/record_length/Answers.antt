use Rattle.std.proofs.Common.{◌≡◌, ℕ, ◌+◌, get_or, sym, ap, ◌∙◌, arith}
use Rattle.store.proofs.Walks.Records.{length-long, length_cut, length-right}
use Rattle.store.proofs.form.record_length.Goals as goal
use Rattle.store.proofs.form.record_length.Goals.{then-size-gt-MAX_SETTING-via-then-size-gt-MAX_SETTING, then-size-gt-MAX_SETTING-via-else-size-gt-MAX_SETTING+then-records-at}

pub returns-then-size-gt-MAX_SETTING : goal.returns-then-size-gt-MAX_SETTING
returns-then-size-gt-MAX_SETTING c = elim c.then-size-gt-MAX_SETTING.branch [
  | then-size-gt-MAX_SETTING-via-then-size-gt-MAX_SETTING w ↦ length-long _ _ (omega arith)
  | then-size-gt-MAX_SETTING-via-else-size-gt-MAX_SETTING+then-records-at w ↦ length_cut _ _ (omega arith) (omega arith)
]

pub returns : goal.returns
returns c =
    let e : c.from-size.result ≡ get_or c.args.records.now c.args.at 0 = c.from-size.ensures in
    (ap (λ (k : ℕ). 5 + k) e ∙ sym (length-right _ _ (omega arith) (omega arith)), omega arith)
