-- The slots: what the code leaves of one, and the loop over all of them.
use Prim.Native.Nat.{ℕ, ◌+◌, ◌<◌}
use mathlib.Core.Bool.{Bool, true, false, cond, ◌&&◌}
use mathlib.Core.List.{List, [], ◌∷◌, ◌++◌}
use mathlib.Core.Path.{◌≡◌, refl, sym, ap, ◌∙◌, subst}
use native.Mathlib.Omega.{arith}
use lib.ListN.{length, get_or, set}
use borrow.Author.Tests.{eq-eqb, ne_eqb}
use Rattle.layout.specs.Bytes.{zeros, splice}
use Rattle.layout.specs.Geometry.{block_count}
use Rattle.layout.specs.Table.{next, chain}
use Rattle.layout.specs.Directory.{slot_at, type_of, first_block, blocks_of, attribute_block_of, attribute_size_of, file_blocks, attribute_blocks}
use Rattle.layout.specs.Check.{slot_ok, new_name}
use Rattle.volume.specs.Attributes.{set_attribute_fields}
use Rattle.layout.proofs.Laws.Bytes.{length-splice, splice-append, splice-ext, sets-splice}
use Rattle.salvage.specs.Salvage.{claimable, ends, ended, skip, zero_entry}
use Rattle.salvage.specs.Walks.{Claimed, progress, FileTaken, SlotTaken}
use Rattle.salvage.proofs.Walks.Turns.{slot-free, slot-broken, slot-lost, slot-file, file-both, file-first}

-- a file's second chain, when its own is claimed and ended
module _ (s m : List ℕ) (n e : ℕ) (count : block_count s ≡ n) (m' s' : List ℕ) where
  abbrev ended-own : List ℕ
  ended-own = ended s (file_blocks s e)

  abbrev second : List ℕ
  second = attribute_blocks ended-own e

  cleared : Claimed (next ended-own) n (attribute_block_of ended-own e) (attribute_size_of ended-own e) m false m' → s' ≡ set_attribute_fields ended-own e 0 0 → FileTaken s m e 4 s' m'
  unfolding attribute_blocks
  cleared C q =
      record {
        reached = λ cs codes M.
            let z : claimable (block_count s) (cs ++ file_blocks s e) second ≡ false = rw count (sym (C.told (cs ++ file_blocks s e) M)) in
            rw (file-first (progress s cs codes) e z) (record { image = q; marks = C.marks (cs ++ file_blocks s e) M; coded = refl });
      }

  kept : Claimed (next ended-own) n (attribute_block_of ended-own e) (attribute_size_of ended-own e) m true m' → s' ≡ ended ended-own second
      → (a b : Bool) → a ≡ ends s (file_blocks s e) → b ≡ ends ended-own second → (code : ℕ) → code ≡ cond (a && b) 0 3 → FileTaken s m e code s' m'
  unfolding attribute_blocks
  kept C q a b ea eb code ec =
      record {
        reached = λ cs codes M.
            let z : claimable (block_count s) (cs ++ file_blocks s e) second ≡ true = rw count (sym (C.told (cs ++ file_blocks s e) M)) in
            let c : code ≡ cond (ends s (file_blocks s e) && ends ended-own second) 0 3 = ec ∙ ap (λ (t : Bool). cond (t && b) 0 3) ea ∙ ap (λ (t : Bool). cond (ends s (file_blocks s e) && t) 0 3) eb in
            rw (file-both (progress s cs codes) e z) (record { image = q; marks = C.marks (cs ++ file_blocks s e) M; coded = ap (λ (x : ℕ). codes ++ (x ∷ [])) (sym c) });
      }

-- a claim by the numbers that the code has read
pub claimed-as : {v : ℕ → ℕ} {n f c : ℕ} {m : List ℕ} {r : Bool} {m' : List ℕ} → Claimed v n f c m r m' → {f' c' : ℕ} {r' : Bool} → f ≡ f' → c ≡ c' → r ≡ r' → Claimed v n f' c' m r' m'
claimed-as C p q e = rw (← p, ← q, ← e) C

-- A FILE whose own chain, c blocks from f on, is claimed; image₁ is the image with its last value put right
module _ (s m : List ℕ) (n e : ℕ) (count : block_count s ≡ n) (f c : ℕ) (ef : f ≡ first_block s e) (ec : c ≡ blocks_of s e) (image₁ : List ℕ) (e₁ : image₁ ≡ ended s (chain (next s) f c)) where
  abbrev own : List ℕ
  own = file_blocks s e

  own_is : chain (next s) f c ≡ own
  unfolding file_blocks
  own_is = rw (ef, ec)

  image-is : image₁ ≡ ended s own
  image-is = e₁ ∙ ap (ended s) own_is

  module _ (m' s' : List ℕ) where
    pub file-cleared : Claimed (next image₁) n (attribute_block_of image₁ e) (attribute_size_of image₁ e) m false m' → s' ≡ set_attribute_fields image₁ e 0 0 → FileTaken s m e 4 s' m'
    file-cleared = subst (λ (x : List ℕ). Claimed (next x) n (attribute_block_of x e) (attribute_size_of x e) m false m' → s' ≡ set_attribute_fields x e 0 0 → FileTaken s m e 4 s' m') (sym image-is) go
      where
        go : Claimed (next (ended s own)) n (attribute_block_of (ended s own) e) (attribute_size_of (ended s own) e) m false m' → s' ≡ set_attribute_fields (ended s own) e 0 0 → FileTaken s m e 4 s' m'
        go C q = cleared s m n e count m' s' C q

    -- its second chain, c₂ blocks from f₂ on, is claimed too
    module _ (f₂ c₂ : ℕ) (e₂ : (f₂ ≡ attribute_block_of image₁ e) × (c₂ ≡ attribute_size_of image₁ e)) where
      second_is : chain (next image₁) f₂ c₂ ≡ attribute_blocks image₁ e
      unfolding attribute_blocks
      second_is = rw (e₂.0, e₂.1)

      pub file-kept : Claimed (next image₁) n f₂ c₂ m true m' → s' ≡ ended image₁ (chain (next image₁) f₂ c₂)
          → (a b : Bool) → a ≡ ends s (chain (next s) f c) → b ≡ ends image₁ (chain (next image₁) f₂ c₂) → (code : ℕ) → code ≡ cond (a && b) 0 3 → FileTaken s m e code s' m'
      file-kept C q a b ea eb code z =
          subst (λ (x : List ℕ). Claimed (next x) n (attribute_block_of x e) (attribute_size_of x e) m true m' → s' ≡ ended x (attribute_blocks x e) → b ≡ ends x (attribute_blocks x e) → FileTaken s m e code s' m')
          (sym image-is) (λ C' q' eb'. kept s m n e count m' s' C' q' a b (ea ∙ ap (ends s) own_is) eb' code z)
          (claimed-as C e₂.0 e₂.1 refl) (q ∙ ap (ended image₁) second_is) (eb ∙ ap (ends image₁) second_is)

-- ONE SLOT
module _ (s m ds : List ℕ) (n e k : ℕ) (at : e ≡ slot_at ds k) (count : block_count s ≡ n) where
  pub taken_free : type_of s e ≡ 0 → SlotTaken s m ds k 0 s m
  unfolding skip
  taken_free z =
      record {
        reached = λ cs codes M. rw (slot-free ds (progress s cs codes) k (rw (← at) (eq-eqb _ 0 z))) (record { image = refl; marks = M; coded = refl });
      }

  module _ (used : type_of s e ≡ 0 → ⊥) (s' : List ℕ) where
    pub taken-broken : false ≡ slot_ok s e && new_name s ds k → s' ≡ splice s e (zeros 128) → SlotTaken s m ds k 1 s' m
    unfolding zero_entry
    taken-broken wrong q =
        record {
          reached = λ cs codes M.
              rw (slot-broken ds (progress s cs codes) k (rw (← at) (ne_eqb _ 0 used)) (rw (← at) (sym wrong)), ← at) (record { image = q; marks = M; coded = refl });
        }

    module _ (right : true ≡ slot_ok s e && new_name s ds k) (m' : List ℕ) where
      pub taken-lost : Claimed (next s) n (first_block s e) (blocks_of s e) m false m' → s' ≡ splice s e (zeros 128) → SlotTaken s m ds k 2 s' m'
      unfolding zero_entry file_blocks
      taken-lost C q =
          record {
            reached = λ cs codes M.
                let z : claimable (block_count s) cs (file_blocks s e) ≡ false = rw count (sym (C.told cs M)) in
                rw (slot-lost ds (progress s cs codes) k (rw (← at) (ne_eqb _ 0 used)) (rw (← at) (sym right)) (rw (← at) z), ← at) (record { image = q; marks = C.marks cs M; coded = refl });
          }

      pub taken-file : (m₁ : List ℕ) (code : ℕ) → Claimed (next s) n (first_block s e) (blocks_of s e) m true m₁ → FileTaken s m₁ e code s' m' → SlotTaken s m ds k code s' m'
      unfolding file_blocks
      taken-file m₁ code C F =
          record {
            reached = λ cs codes M.
                let z : claimable (block_count s) cs (file_blocks s e) ≡ true = rw count (sym (C.told cs M)) in
                rw (slot-file ds (progress s cs codes) k (rw (← at) (ne_eqb _ 0 used)) (rw (← at) (sym right)) (rw (← at) z), ← at) (F.reached cs codes (C.marks cs M));
          }

-- a code more in the report
pub report-more : (report codes : List ℕ) (k code : ℕ) → length codes ≡ k → k < length report → set (splice report 0 codes) k code ≡ splice report 0 (codes ++ (code ∷ []))
report-more report codes k code e h =
    let l : length (splice report 0 codes) ≡ length report = length-splice report 0 codes (omega arith) in
    let q : k ≡ 0 + length codes = omega arith in
    sets-splice (splice report 0 codes) k (code ∷ []) (omega arith) ∙ ap (λ (j : ℕ). splice (splice report 0 codes) j (code ∷ [])) q ∙ splice-append report 0 codes (code ∷ []) (omega arith)

-- the code of slot 0, stored before
pub report-first : (report : List ℕ) → 0 < length report → get_or report 0 0 ≡ 0 → report ≡ splice report 0 (0 ∷ [])
report-first report h z =
    splice-ext report report 0 (0 ∷ []) (omega arith) refl (λ i l. refl) (λ i l. let e : i ≡ 0 = omega arith in rw e z) (λ i l. refl)

-- the two tests of a slot, one after the other
pub right-first : (a b : Bool) → false ≡ a → false ≡ a && b
right-first a b e = rw (← e)

pub right-both : (a b r : Bool) → true ≡ a → r ≡ b → r ≡ a && b
right-both a b r e q = rw (← e) q
