-- Text that is written piece by piece.
use Prim.Native.Nat.{ℕ, ◌+◌, ◌≤◌}
use mathlib.Core.Path.{◌≡◌, refl, sym, ap, ◌∙◌}
use mathlib.Core.List.{List, [], ◌++◌}
use native.Mathlib.Omega.{arith}
use lib.ListN.{length, length-append}
use Rattle.layout.specs.Bytes.{splice}
use Rattle.lister.specs.Text.{TextPut}
use Rattle.layout.proofs.Laws.Bytes.{length-splice, splice-append, splice-nil}

-- Of a text that goes over `before` at `at`, the rest is still to be written, at p: the buffer is now `after`.
pub record Pending (before : List ℕ) (at : ℕ) (whole after : List ℕ) (p : ℕ) (rest : List ℕ) : Type 0 where
  pub same : splice after p rest ≡ splice before at whole
  pub offset : p + length rest ≡ at + length whole
  pub size : length after ≡ length before
  pub fits : p + length rest ≤ length after

pub begin : (s : List ℕ) (at : ℕ) (w r : List ℕ) → at + length w ≤ length s → w ≡ r → Pending s at w s at r
begin s at w r h e = record { same = rw e; offset = rw e; size = refl; fits = rw e at h }

module _ {s : List ℕ} {at : ℕ} {w t : List ℕ} {p : ℕ} {r : List ℕ} (l : Pending s at w t p r) where
  pub room : (x y : List ℕ) → r ≡ x ++ y → p + length x ≤ length t
  room x y e = omega (arith, l.fits, simp length-append at (ap length e))

  pub more : {x t' : List ℕ} {p' : ℕ} → TextPut t p x t' p' → (y : List ℕ) → r ≡ x ++ y → Pending s at w t' p' y
  more {x} {t'} {p'} h y e =
      let n : length r ≡ length x + length y = simp length-append at (ap length e) in
      let f : p + length x + length y ≤ length t = omega (arith, l.fits) in
      let z : length t' ≡ length t = ap length h.buffer ∙ length-splice t p x (omega arith) in
      record {
        same = rw (h.buffer, h.offset) (splice-append t p x y f ∙ ap (splice t p) (sym e) ∙ l.same);
        offset = omega (arith, h.offset, l.offset);
        size = z ∙ l.size;
        fits = omega (arith, h.offset);
      }

  pub last : {x t' : List ℕ} {p' : ℕ} → TextPut t p x t' p' → r ≡ x → TextPut s at w t' p'
  last h e = record { buffer = h.buffer ∙ ap (splice t p) (sym e) ∙ l.same; offset = h.offset ∙ ap (λ (z : List ℕ). p + length z) (sym e) ∙ l.offset }

  pub finish : r ≡ [] → TextPut s at w t p
  finish e = record { buffer = sym (ap (splice t p) e ∙ splice-nil t p) ∙ l.same; offset = omega (arith, l.offset, ap length e) }

-- a text at the start of a buffer
pub at-start : {s x t : List ℕ} {n : ℕ} → TextPut s 0 x t n → (y : List ℕ) → x ≡ y → (t ≡ splice s 0 y) × (n ≡ length y)
at-start {s} h y e = (h.buffer ∙ ap (splice s 0) e, omega (arith, h.offset, ap length e))
