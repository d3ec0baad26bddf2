-- A file by its sectors.
use Prim.Native.Nat.{ℕ, zero, suc, ◌+◌, ◌*◌, ◌/◌, ◌%◌, ◌≤◌, ◌<◌}
use mathlib.Core.List.{List}
use mathlib.Core.Logic.{◌⊎◌, inl, inr, ⊎_elim, ◌≢◌}
use mathlib.Core.Path.{◌≡◌, sym, ap, ◌∙◌}
use native.Mathlib.Omega.{arith}
use native.Mathlib.Decide.{ℕ_discrete}
use lib.ListN.{length, get_or, length-take, length-drop}
use lib.Seq.{ext_get_or}
use Rattle.layout.specs.Bytes.{be32, block, splice}
use Rattle.layout.proofs.Laws.Bytes.{get_d_part, be32-part, part-splice, length-splice}
use Rattle.layout.proofs.Laws.Frames.{same_beside, agree-block, splice-agree}

-- two disks with the same sectors are one
pub sectors-ext : (d e : List ℕ) (k : ℕ) → length d ≡ 512 * k → length e ≡ length d → ((i : ℕ) → i < k → block d i ≡ block e i) → d ≡ e
sectors-ext d e k l m f = ext_get_or 0 d e (sym m) λ i g.
    let q : i ≡ 512 * (i / 512) + i % 512 = omega arith in
    let r : i % 512 < 512 = omega arith in
    rw q
    (sym (get_d_part d (512 * (i / 512)) 512 (i % 512) r) ∙ ap (λ (x : List ℕ). get_or x (i % 512) 0) (f (i / 512) (omega arith))
    ∙ get_d_part e (512 * (i / 512)) 512 (i % 512) r)

-- a number in a sector that two disks share
pub sector-be32 : (d e : List ℕ) (s o : ℕ) → o + 4 ≤ 512 → block e s ≡ block d s → be32 e (512 * s + o) ≡ be32 d (512 * s + o)
sector-be32 d e s o h q = sym (be32-part e (512 * s) 512 o h) ∙ ap (λ (x : List ℕ). be32 x o) q ∙ be32-part d (512 * s) 512 o h

-- a sector beside what was written, and the one that was
pub sector-beside : (d : List ℕ) (at : ℕ) (p : List ℕ) (s : ℕ) → at + length p ≤ length d → (512 * s + 512 ≤ at) ⊎ (at + length p ≤ 512 * s)
    → block (splice d at p) s ≡ block d s
sector-beside d at p s fits apart =
    ext_get_or 0 (block (splice d at p) s) (block d s) (simp (length-take, length-drop, length-splice d at p fits)) λ i g.
    let l : i < 512 = omega (arith, simp length-take at g) in
    get_d_part (splice d at p) (512 * s) 512 i l ∙ same_beside d at p fits (512 * s) 512 apart i l ∙ sym (get_d_part d (512 * s) 512 i l)

pub sector-other : (d : List ℕ) (b : ℕ) (p : List ℕ) (s : ℕ) → 512 * b + 512 ≤ length d → length p ≡ 512 → s ≢ b → block (splice d (512 * b) p) s ≡ block d s
sector-other d b p s h l ne =
    agree-block s (splice-agree d b (512 * b) p (omega arith) (omega arith) (omega arith)) λ m. ⊎_elim (λ (e : s ≡ b). ne e) (λ (z : ⊥). z) m

pub sector-same : (d : List ℕ) (b : ℕ) (p : List ℕ) → 512 * b ≤ length d → length p ≡ 512 → block (splice d (512 * b) p) b ≡ p
sector-same d b p h l = part-splice d (512 * b) p 512 l h

-- a sector that two disks share, of a third whose bytes are each of one of them
pub sector-mixed : (d e d' : List ℕ) (s : ℕ) → length d' ≡ length d → block e s ≡ block d s
    → ((i : ℕ) → (get_or d' i 0 ≡ get_or d i 0) ⊎ (get_or d' i 0 ≡ get_or e i 0)) → block d' s ≡ block d s
sector-mixed d e d' s l q f =
    ext_get_or 0 (block d' s) (block d s) (simp (length-take, length-drop, l)) λ i g.
    let m : i < 512 = omega (arith, simp length-take at g) in
    get_d_part d' (512 * s) 512 i m
    ∙ ⊎_elim (λ x. x ∙ sym (get_d_part d (512 * s) 512 i m))
    (λ x. x ∙ sym (get_d_part e (512 * s) 512 i m) ∙ ap (λ (z : List ℕ). get_or z i 0) q) (f (512 * s + i))

-- a number is among the first k values of f, or is not
pub among : (f : ℕ → ℕ) (s k : ℕ) → ((j : ℕ) × (j < k) × (s ≡ f j)) ⊎ ((j : ℕ) → j < k → s ≢ f j)
among f s zero = inr (λ j h e. omega arith)
among f s (suc k) = go (ℕ_discrete s (f k)) (among f s k)
  where
    go : Dec (s ≡ f k) → ((j : ℕ) × (j < k) × (s ≡ f j)) ⊎ ((j : ℕ) → j < k → s ≢ f j)
        → ((j : ℕ) × (j < suc k) × (s ≡ f j)) ⊎ ((j : ℕ) → j < suc k → s ≢ f j)
    go (yes e) r = inl (k, omega arith, e)
    go (no n) (inl (j, h, e)) = inl (j, omega arith, e)
    go (no n) (inr g) = inr (λ j h. last j (ℕ_discrete j k) h)
      where
        last : (j : ℕ) → Dec (j ≡ k) → j < suc k → s ≢ f j
        last j (yes q) h e = n (e ∙ ap f q)
        last j (no q) h e = g j (omega arith) e
