-- Changes of bytes. Two, one after the other: at places that do not meet they commute, at one place the second stands. One that changes nothing, and one of
-- all bytes.
use Prim.Native.Nat.{ℕ, ◌+◌, ◌-◌, ◌≤◌, ◌<◌}
use mathlib.Core.Path.{◌≡◌, refl, sym, ◌∙◌}
use mathlib.Core.List.{List, append-nil}
use mathlib.Core.Logic.{◌⊎◌, inl, inr}
use native.Mathlib.Omega.{arith}
use lib.ListN.{length, get_or, drop_of_length-le}
use Rattle.layout.specs.Bytes.{splice}
use Rattle.layout.proofs.Laws.Tests.{lt-or-ge}
use Rattle.layout.proofs.Laws.Bytes.{length-splice, get_d-splice-before, get_d-splice-inside, get_d-splice-after, splice-ext}

-- two lists that agree at a byte agree there after the same splice
alike : (u v : List ℕ) (b : ℕ) (q : List ℕ) → b + length q ≤ length u → length u ≡ length v → (i : ℕ) → get_or u i 0 ≡ get_or v i 0 → get_or (splice u b q) i 0 ≡ get_or (splice v b q) i 0
alike u v b q fit len i h = go (lt-or-ge i b) (lt-or-ge i (b + length q))
  where
    go : (i < b) ⊎ (b ≤ i) → (i < b + length q) ⊎ (b + length q ≤ i) → get_or (splice u b q) i 0 ≡ get_or (splice v b q) i 0
    go (inl x) y = get_d-splice-before u b q fit i x ∙ h ∙ sym (get_d-splice-before v b q (omega arith) i x)
    go (inr x) (inr y) = get_d-splice-after u b q fit i y ∙ h ∙ sym (get_d-splice-after v b q (omega arith) i y)
    go (inr x) (inl y) =
        let e : i ≡ b + (i - b) = omega arith in
        rw e (get_d-splice-inside u b q fit (i - b) (omega arith) ∙ sym (get_d-splice-inside v b q (omega arith) (i - b) (omega arith)))

splice-lower : (s : List ℕ) (a : ℕ) (p : List ℕ) (b : ℕ) (q : List ℕ) → a + length p ≤ b → b + length q ≤ length s → splice (splice s a p) b q ≡ splice (splice s b q) a p
splice-lower s a p b q h fit =
    let fa : a + length p ≤ length s = omega arith in
    let la : length (splice s a p) ≡ length s = length-splice s a p fa in
    let lb : length (splice s b q) ≡ length s = length-splice s b q fit in
    splice-ext (splice (splice s a p) b q) (splice s b q) a p (omega arith) (length-splice (splice s a p) b q (omega arith) ∙ la ∙ sym lb)
    (λ i g. alike (splice s a p) s b q (omega arith) la i (get_d-splice-before s a p fa i g))
    (λ i g. get_d-splice-before (splice s a p) b q (omega arith) (a + i) (omega arith) ∙ get_d-splice-inside s a p fa i g)
    (λ i g. alike (splice s a p) s b q (omega arith) la i (get_d-splice-after s a p fa i g))

pub splice-commutes : (s : List ℕ) (a : ℕ) (p : List ℕ) (b : ℕ) (q : List ℕ) → a + length p ≤ length s → b + length q ≤ length s → (a + length p ≤ b) ⊎ (b + length q ≤ a)
    → splice (splice s a p) b q ≡ splice (splice s b q) a p
splice-commutes s a p b q fa fb (inl h) = splice-lower s a p b q h fb
splice-commutes s a p b q fa fb (inr h) = sym (splice-lower s b q a p h fa)

-- the second of two runs at one place stands
pub splice-over : (s : List ℕ) (a : ℕ) (p q : List ℕ) → length p ≡ length q → a + length p ≤ length s → splice (splice s a p) a q ≡ splice s a q
splice-over s a p q e fit =
    let la : length (splice s a p) ≡ length s = length-splice s a p fit in
    splice-ext (splice (splice s a p) a q) s a q (omega arith) (length-splice (splice s a p) a q (omega arith) ∙ la)
    (λ i g. get_d-splice-before (splice s a p) a q (omega arith) i g ∙ get_d-splice-before s a p fit i g)
    (λ i g. get_d-splice-inside (splice s a p) a q (omega arith) i g)
    (λ i g. get_d-splice-after (splice s a p) a q (omega arith) i g ∙ get_d-splice-after s a p fit i (omega arith))

-- a run that stands in its place already
pub splice-same : (s : List ℕ) (at : ℕ) (p : List ℕ) → at + length p ≤ length s → ((i : ℕ) → i < length p → get_or s (at + i) 0 ≡ get_or p i 0) → splice s at p ≡ s
splice-same s at p fit same = sym (splice-ext s s at p fit refl (λ i g. refl) same (λ i g. refl))

-- a run at 0 over no more bytes than its own
pub splice-whole : (c p : List ℕ) → length c ≤ length p → splice c 0 p ≡ p
unfolding splice
splice-whole c p h = rw (drop_of_length-le c h) (append-nil p)
