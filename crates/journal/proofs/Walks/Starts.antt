-- Starting a journal: the refusal by the length, and the bytes that the stores leave.
use Prim.Native.Nat.{ℕ, suc, ◌-◌, ◌≤◌, ◌<◌}
use mathlib.Core.Path.{◌≡◌, refl, ap, ◌∙◌}
use mathlib.Core.Bool.{and-false}
use mathlib.Core.List.{List, ◌∷◌, ◌++◌}
use native.Mathlib.Omega.{arith}
use borrow.Author.Tests.{le-leb, lt-leb}
use lib.Dec.{leb}
use lib.ListN.{length, set, replicate}
use Rattle.layout.specs.Bytes.{bytes4, zeros, splice}
use Rattle.layout.specs.Limits.{max_journal}
use Rattle.journal.specs.Journal.{started, start_refusal}

pub start-short : (j : List ℕ) → length j < 5 → start_refusal j ≡ 8
unfolding start_refusal
start-short j h = rw (lt-leb 5 (length j) h)

pub start-long : (j : List ℕ) → max_journal < length j → start_refusal j ≡ 8
unfolding start_refusal
start-long j h = rw (lt-leb (length j) max_journal h, and-false (leb 5 (length j)))

pub start_fits : (j : List ℕ) → 5 ≤ length j → length j ≤ max_journal → start_refusal j ≡ 0
unfolding start_refusal
start_fits j h g = rw (le-leb 5 (length j) h, le-leb (length j) max_journal g)

stored : (r : ℕ) → splice (set (replicate (suc (suc (suc (suc (suc r))))) 0) 0 1) 1 (bytes4 5) ≡ 1 ∷ (bytes4 5 ++ zeros r)
unfolding splice bytes4 zeros
stored r = refl

pub start-stored : (size : ℕ) → 5 ≤ size → splice (set (replicate size 0) 0 1) 1 (bytes4 5) ≡ started size
unfolding started
start-stored size h =
    let e : size ≡ suc (suc (suc (suc (suc (size - 5))))) = omega arith in
    ap (λ (x : ℕ). splice (set (replicate x 0) 0 1) 1 (bytes4 5)) e ∙ stored (size - 5)
