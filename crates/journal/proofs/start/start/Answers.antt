use mathlib.Core.Path.{◌≡◌, refl, ap, ◌∙◌}
use mathlib.Core.List.{List}
use Prim.Native.Nat.{ℕ, ◌≤◌}
use mathlib.Core.Logic.{inl, inr}
use native.Mathlib.Omega.{arith}
use lib.ListN.{length, set, replicate, length-set, length-replicate}
use Rattle.layout.specs.Bytes.{bytes4, splice}
use Rattle.journal.specs.Journal.{started}
use Rattle.journal.proofs.Walks.Starts.{start-short, start-long, start_fits, start-stored}
use Rattle.journal.proofs.Laws.Shape.{length-started}
use Rattle.journal.proofs.start.start.Goals as goal

-- the journal that is left
made : (j a b : List ℕ) → 5 ≤ length j → a ≡ replicate (length j) 0 → b ≡ splice (set a 0 1) 1 (bytes4 5) → b ≡ started (length j)
made j a b h e f = f ∙ rw e (start-stored (length j) h)

pub returns-then-journal-lt-MIN_JOURNAL : goal.returns-then-journal-lt-MIN_JOURNAL
returns-then-journal-lt-MIN_JOURNAL c =
    elim c.then-journal-lt-MIN_JOURNAL.either [
      | inl short ↦ rw (start-short _ short) (record { number = refl; bytes = refl })
      | inr long ↦ rw (start-long _ long.1) (record { number = refl; bytes = refl })
    ]

pub put32-requires : goal.put32-requires
put32-requires c =
    let j = c.args.journal.now in
    let l = ap length (c.fill.ensures.after (λ y e. e)) ∙ length-replicate {A = ℕ} (length j) 0 in
    omega (arith, l, length-set {A = ℕ} c.fill.new.self 0 1)

pub shape_of-journal : goal.shape_of-journal
shape_of-journal c =
    let put32 = c.put32 in
    let fill = c.fill in
    let if1 = c.if-journal-lt-MIN_JOURNAL in
    let a = c.args in
    let j = a.journal.now in
    ap length (made j _ _ if1.false (fill.ensures.after (λ y e. e)) put32.ensures) ∙ length-started (length j) if1.false

pub returns : goal.returns
returns c =
    let put32 = c.put32 in
    let fill = c.fill in
    let if2 = c.if-journal-gt-MAX_JOURNAL in
    let if1 = c.if-journal-lt-MIN_JOURNAL in
    let a = c.args in
    let j = a.journal.now in
    rw (start_fits j if1.false if2.false) (record { number = refl; bytes = made j _ _ if1.false (fill.ensures.after (λ y e. e)) put32.ensures })
