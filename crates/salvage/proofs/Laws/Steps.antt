-- ONE SLOT: what the work on it leaves, and that the invariant holds with it.
use Prim.Native.Nat.{ℕ, zero, suc, ◌+◌, ◌-◌, ◌*◌, ◌≤◌, ◌<◌}
use mathlib.Core.Bool.{Bool, true, false, ◌&&◌, ◌||◌, cond, or-true}
use mathlib.Core.List.{List, [], ◌∷◌, ◌++◌, append-nil, append_assoc}
use mathlib.Core.Logic.{◌⊎◌, inl, inr, ⊎_elim, ◌≢◌}
use mathlib.Core.Path.{◌≡◌, refl, sym, ◌∙◌, subst}
use native.Mathlib.Omega.{arith}
use lib.Dec.{eqb}
use lib.ListN.{length, get_or}
use borrow.Author.Tests.{eqb-true, eqb-false}
use Rattle.layout.specs.Lists.{every, distinct, last_or, iff}
use Rattle.layout.specs.Bytes.{be32, part, zeros, splice}
use Rattle.layout.specs.Geometry.{block_count, table_blocks, root_block, in_volume, blocks_for}
use Rattle.layout.specs.Table.{next, chain, chain_ok}
use Rattle.layout.specs.Directory.{slot_at, type_of, first_block, size_of, blocks_of, attribute_block_of, attribute_size_of, is_free, is_file, is_directory, name_of, name_ok, file_blocks, attribute_blocks}
use Rattle.layout.specs.Check.{attributes_ok, file_ok, slot_ok, new_name, file_chains, owned}
use Rattle.volume.specs.Attributes.{set_attribute_fields}
use Rattle.layout.proofs.Laws.Tests.{and_split, and-join, true-not-false}
use Rattle.layout.proofs.Laws.Lists.{In, in_left, in_right, in-append, every_in, every_append}
use Rattle.layout.proofs.Laws.Bytes.{length-zeros, get_d-zeros, length-splice, get_d-splice-inside, splice-first}
use Rattle.layout.proofs.Laws.Frames.{Same, same_then, same-inner, same_beside, same-be32, same_byte, same-part}
use Rattle.layout.proofs.Laws.Entries.{same-type, same-field, same_name, same-slot}
use Rattle.layout.proofs.Laws.Slots.{new_name-split, new_name-join}
use Rattle.layout.proofs.Laws.Sound.{slot_ok-split}
use Rattle.layout.proofs.Laws.Files.{attributes_ok-join}
use Rattle.layout.proofs.Laws.Owners.{file-slot-ok, slot-ok-file}
use Rattle.layout.proofs.Laws.Chains.{in_volume-split}
use Rattle.volume.proofs.Laws.Fields.{fields-length, fields-same, fields-first, fields-size}
use Rattle.salvage.specs.Salvage.{Progress, claimable, ends, ended, take_file, zero_entry, skip, take_slot}
use Rattle.salvage.proofs.Laws.Walked.{by_cond, chain-stays, last_of, walked, Claimable, claimable-split, claimed-distinct, ended-length, ended_same, ended-other, ended-out, ended-last}
use Rattle.salvage.proofs.Laws.Places.{Place, slot-low, slot-high, slots_apart}
use Rattle.salvage.proofs.Laws.Done.{chains_at, Done, stays, one_more}

-- what the work on slot k leaves, where it claims the blocks `new`
pub record Step (n : ℕ) (ds new t t' : List ℕ) (k : ℕ) : Type 0 where
  pub len : length t' ≡ length t
  pub beside : (a w : ℕ) → (a + w ≤ 512) ⊎ (512 * root_block n ≤ a) → (a + w ≤ slot_at ds k) ⊎ (slot_at ds k + 128 ≤ a) → Same t t' a w
  pub values : (x : ℕ) → x < 128 * table_blocks n → (In x new → ⊥) → next t' x ≡ next t x

-- an entry that is kept whole: its bytes, and its chains
pub record Whole (t t' : List ℕ) (e : ℕ) : Type 0 where
  pub bytes : Same t t' e 128
  pub blocks : is_file (type_of t e) ≡ true → file_blocks t' e ≡ file_blocks t e
  pub second : is_file (type_of t e) ≡ true → attribute_blocks t' e ≡ attribute_blocks t e

-- what a code that is not 0 tells: the entry is free now, or its attributes are cleared, or a chain of it got its end
pub record Ended (t t' new : List ℕ) (e x : ℕ) : Type 0 where
  pub file : is_file (type_of t e) ≡ true
  pub mine : In x (file_blocks t e) ⊎ In x (attribute_blocks t e)
  pub claimed : In x new
  pub was : next t x ≢ 1
  pub is : next t' x ≡ 1

-- code 4: the entry but for its two attribute fields, which are 0, and its own chain
pub record Cleared (t t' new : List ℕ) (e : ℕ) : Type 0 where
  pub file : is_file (type_of t e) ≡ true
  pub front : Same t t' e 32
  pub back : Same t t' (e + 40) 88
  pub first : attribute_block_of t' e ≡ 0
  pub size : attribute_size_of t' e ≡ 0
  pub blocks : file_blocks t' e ≡ file_blocks t e
  pub claimed : (x : ℕ) → In x (file_blocks t e) → In x new

abbrev pub Moved : ℕ → List ℕ → List ℕ → List ℕ → ℕ → Type 0
Moved code t t' new e = ((type_of t e ≢ 0) × (type_of t' e ≡ 0)) ⊎ (((attribute_size_of t e ≢ 0) × (attribute_size_of t' e ≡ 0)) ⊎ ((code ≡ 3) × ((x : ℕ) × Ended t t' new e x)))

pub record Stepped (n : ℕ) (ds : List ℕ) (p q : Progress) (k : ℕ) : Type 0 where
  pub new : List ℕ
  pub code : ℕ
  pub claims : q.claimed ≡ p.claimed ++ new
  pub fresh : (x : ℕ) → In x p.claimed → In x new → ⊥
  pub step : Step n ds new p.image q.image k
  pub done : Done n ds q.image q.claimed k
  pub told : q.codes ≡ p.codes ++ (code ∷ [])
  pub keeps : (code ≡ 0) ⊎ (code ≡ 3) → Whole p.image q.image (slot_at ds k)
  pub still : code ≡ 0 → q.image ≡ p.image
  pub zeroed : (code ≡ 1) ⊎ (code ≡ 2) → (i : ℕ) → i < 128 → get_or q.image (slot_at ds k + i) 0 ≡ 0
  pub cleared : code ≡ 4 → Cleared p.image q.image new (slot_at ds k)
  pub moved : code ≢ 0 → Moved code p.image q.image new (slot_at ds k)
  pub mine : (code ≡ 0) ⊎ (code ≡ 3) → is_file (type_of p.image (slot_at ds k)) ≡ true → (x : ℕ)
      → In x (file_blocks p.image (slot_at ds k)) ⊎ In x (attribute_blocks p.image (slot_at ds k)) → In x new

-- a test of two that fails; a chain whose last value is not 1
and-false : (a b : Bool) → (a && b) ≡ false → (a ≡ false) ⊎ (b ≡ false)
and-false true b e = inr e
and-false false b e = inl refl

not-ended : (s bs : List ℕ) → ends s bs ≡ false → (1 ≤ length bs) × (next s (last_or 0 bs) ≢ 1)
unfolding ends
not-ended s bs e = (some (length bs) refl, λ z. true-not-false {a = eqb (length bs) 0 || eqb (next s (last_or 0 bs)) 1} (rw z (or-true (eqb (length bs) 0))) e)
  where
    some : (k : ℕ) → length bs ≡ k → 1 ≤ length bs
    some zero q = absurd (true-not-false {a = eqb (length bs) 0 || eqb (next s (last_or 0 bs)) 1} (rw q) e)
    some (suc k) q = omega arith

-- an entry of a block above the table, seen by the table's values
next-below : (t t' : List ℕ) (n a : ℕ) → 512 * root_block n ≤ a → Same t t' 512 (a - 512) → (x : ℕ) → x < 128 * table_blocks n → next t' x ≡ next t x
unfolding next
next-below t t' n a h f x l = same-be32 t t' 512 (a - 512) (512 + 4 * x) f (omega arith) (omega arith)

module _ (n : ℕ) (ds : List ℕ) (G : Place n ds) (t cs : List ℕ) (m : ℕ) (D : Done n ds t cs m) (hm : suc m < 4 * length ds) where
  abbrev k : ℕ
  k = suc m

  abbrev e : ℕ
  e = slot_at ds k

  low : 512 * root_block n ≤ e
  low = slot-low n ds G k hm

  high : e + 128 ≤ length t
  high = omega (arith, slot-high n ds G k hm, D.whole)

  claimed-below : (x : ℕ) → In x cs → x < 128 * table_blocks n
  claimed-below x i = let w = in_volume-split n x (every_in (in_volume n) cs x D.inside i) in omega arith

  -- the slots before it stay
  module _ (new t' : List ℕ) (S : Step n ds new t t' k) (fresh : (x : ℕ) → In x cs → In x new → ⊥) where
    before : (j : ℕ) → 1 ≤ j → j ≤ m → Same t t' (slot_at ds j) 128
    before j h g = S.beside (slot_at ds j) 128 (inr (slot-low n ds G j (omega arith))) (slots_apart n ds G j k (omega arith) hm (λ q. omega arith))

    after-step : Done n ds t' cs m
    after-step = stays n ds G t cs m D (omega arith) t' S.len before (λ x i. S.values x (claimed-below x i) (λ j. fresh x i j))

    name-kept : new_name t ds k ≡ true → type_of t' e ≡ type_of t e → name_of t' e ≡ name_of t e → new_name t' ds k ≡ true
    name-kept w p q =
        new_name-join t' ds k (λ u j j₁ l uj z.
        new_name-split t ds k w (λ y. u (p ∙ y)) j j₁ l (λ y. uj (same-type t t' (slot_at ds j) S.len (inside j l) (before j j₁ (omega arith)) ∙ y))
        (sym (same_name t t' (slot_at ds j) S.len (inside j l) (before j j₁ (omega arith))) ∙ z ∙ q))
      where
        inside : (j : ℕ) → j < k → slot_at ds j + 128 ≤ length t
        inside j l = omega (arith, slot-high n ds G j (omega arith), D.whole)

  -- the slot is free then
  free_more : type_of t e ≡ 0 → Done n ds t cs k
  unfolding chains_at slot_ok owned
  free_more z =
      subst (λ (c : List ℕ). Done n ds t c k) (append-nil cs)
      (one_more n ds t cs m D [] (rw z) (rw z) (rw (append-nil cs) D.apart) refl (rw z) (rw z) (new_name-join t ds k (λ u. absurd (u z))))

  -- the slot is a file then, with these chains
  file-more : (bs xs : List ℕ) → is_file (type_of t e) ≡ true → is_directory (type_of t e) ≡ false
      → chain (next t) (first_block t e) (blocks_of t e) ≡ bs → chain_ok (next t) n (first_block t e) (blocks_of t e) ≡ true
      → chain (next t) (attribute_block_of t e) (attribute_size_of t e) ≡ xs → chain_ok (next t) n (attribute_block_of t e) (attribute_size_of t e) ≡ true
      → distinct eqb (cs ++ (bs ++ xs)) ≡ true → every (in_volume n) (bs ++ xs) ≡ true → slot_ok t e ≡ true → new_name t ds k ≡ true → Done n ds t (cs ++ (bs ++ xs)) k
  unfolding chains_at file_chains owned
  file-more bs xs f nd c₁ o₁ c₂ o₂ d i ok w =
      one_more n ds t cs m D (bs ++ xs) (rw (f, c₁, c₂, append-nil xs)) (rw (f, o₁, o₂)) d i ok nd w

-- the entry is zeroed
module _ (n : ℕ) (ds : List ℕ) (G : Place n ds) (p : Progress) (m : ℕ) (D : Done n ds p.image p.claimed m) (hm : suc m < 4 * length ds) where
  abbrev t : List ℕ
  t = p.image

  abbrev cs : List ℕ
  cs = p.claimed

  abbrev at : ℕ
  at = slot_at ds (suc m)

  low₁ : 512 * root_block n ≤ at
  low₁ = low n ds G t cs m D hm

  high₁ : at + 128 ≤ length t
  high₁ = high n ds G t cs m D hm

  skip-stepped : type_of t at ≡ 0 → Stepped n ds p (skip p) (suc m)
  unfolding skip
  skip-stepped z =
      record {
        new = [];
        code = 0;
        claims = sym (append-nil cs);
        fresh = λ x i j. j;
        step = record { len = refl; beside = λ a w h g i l. refl; values = λ x h o. refl };
        done = free_more n ds G t cs m D hm z;
        told = refl;
        keeps = λ c. record { bytes = λ i l. refl; blocks = λ f. refl; second = λ f. refl };
        mine = λ c f x i. absurd (true-not-false {a = is_file (type_of t at)} f (rw z));
        still = λ c. refl;
        zeroed = λ c i l. absurd (⊎_elim (λ z. omega arith) (λ z. omega arith) c);
        cleared = λ c. absurd (omega arith);
        moved = λ ne. absurd (ne refl);
      }

  zero-fits : at + length (zeros 128) ≤ length t
  zero-fits = omega (arith, high₁, length-zeros 128)

  zero-step : Step n ds [] t (splice t at (zeros 128)) (suc m)
  zero-step =
      record {
        len = length-splice t at (zeros 128) zero-fits;
        beside = λ a w h g. same_beside t at (zeros 128) zero-fits a w (⊎_elim (λ x. inl x) (λ x. inr (omega (arith, length-zeros 128))) g);
        values = λ x l o. next-below t (splice t at (zeros 128)) n at low₁ (same_beside t at (zeros 128) zero-fits 512 (at - 512) (inl (omega (arith, low₁)))) x l;
      }

  zero-type : type_of (splice t at (zeros 128)) at ≡ 0
  zero-type = splice-first t at (zeros 128) zero-fits (omega (arith, length-zeros 128)) ∙ get_d-zeros 128 0

  zero-stepped : type_of t at ≢ 0 → (code : ℕ) → code ≢ 0 → code ≢ 3 → code ≢ 4 → Stepped n ds p (zero_entry p at code) (suc m)
  unfolding zero_entry
  zero-stepped used code c₀ c₃ c₄ =
      let t' : List ℕ = splice t at (zeros 128) in
      record {
        new = [];
        code = code;
        claims = sym (append-nil cs);
        fresh = λ x i j. j;
        step = zero-step;
        done = free_more n ds G t' cs m (after-step n ds G t cs m D hm [] t' zero-step (λ x i j. j)) hm zero-type;
        told = refl;
        keeps = λ c. absurd (⊎_elim c₀ c₃ c);
        mine = λ c f x i. absurd (⊎_elim c₀ c₃ c);
        still = λ c. absurd (c₀ c);
        zeroed = λ c i l. get_d-splice-inside t at (zeros 128) zero-fits i (omega (arith, length-zeros 128)) ∙ get_d-zeros 128 i;
        cleared = λ c. absurd (c₄ c);
        moved = λ ne. inl (used, zero-type);
      }

  -- a file whose own chain is good
  module _ (file : is_file (type_of t at) ≡ true) (nd : is_directory (type_of t at) ≡ false) (ok : slot_ok t at ≡ true) (nn : new_name t ds (suc m) ≡ true) (C : Claimable n cs (file_blocks t at)) where
    abbrev bs : List ℕ
    bs = file_blocks t at

    abbrev t₁ : List ℕ
    t₁ = ended t bs

    abbrev xs : List ℕ
    xs = attribute_blocks t₁ at

    len₁ : length t₁ ≡ length t
    len₁ = ended-length n t bs D.whole C.inside

    whole₁ : length t₁ ≡ 512 * n
    whole₁ = len₁ ∙ D.whole

    same₁ : Same t t₁ at 128
    same₁ = ended_same n t bs D.whole C.inside at 128 (inr low₁)

    -- its attributes too
    module _ (X : Claimable n (cs ++ bs) xs) where
      abbrev t₂ : List ℕ
      t₂ = ended t₁ xs

      same₂ : Same t t₂ at 128
      same₂ = same_then t t₁ t₂ at 128 same₁ (ended_same n t₁ xs whole₁ X.inside at 128 (inr low₁))

      len₂ : length t₂ ≡ length t
      len₂ = ended-length n t₁ xs whole₁ X.inside ∙ len₁

      field₂ : (i : ℕ) → i + 4 ≤ 128 → be32 t₂ (at + i) ≡ be32 t (at + i)
      field₂ = same-field t t₂ at len₂ high₁ same₂

      field₁ : (i : ℕ) → i + 4 ≤ 128 → be32 t₁ (at + i) ≡ be32 t (at + i)
      field₁ = same-field t t₁ at len₁ high₁ same₁

      both-step : Step n ds (bs ++ xs) t t₂ (suc m)
      both-step =
          record {
            len = len₂;
            beside = λ a w h g. same_then t t₁ t₂ a w (ended_same n t bs D.whole C.inside a w h) (ended_same n t₁ xs whole₁ X.inside a w h);
            values = λ x l o. ended-out n t₁ xs whole₁ X.inside x (λ i. o (in_right x bs xs i)) ∙ ended-out n t bs D.whole C.inside x (λ i. o (in_left x bs xs i));
          }

      both-fresh : (x : ℕ) → In x cs → In x (bs ++ xs) → ⊥
      both-fresh x i j = ⊎_elim (λ b. C.fresh x i b) (λ b. X.fresh x (in_left x cs bs i) b) (in-append x bs xs j)

      out₂ : (x : ℕ) → In x bs → next t₂ x ≡ next t₁ x
      out₂ x i = ended-out n t₁ xs whole₁ X.inside x (λ j. X.fresh x (in_right x cs bs i) j)

      first-chain : (chain (next t₂) (first_block t at) (blocks_of t at) ≡ bs) × (chain_ok (next t₂) n (first_block t at) (blocks_of t at) ≡ true)
      unfolding file_blocks
      first-chain =
          walked (next t) (next t₂) n (first_block t at) (blocks_of t at) C.inside C.once
          (λ x i ne. out₂ x i ∙ ended-other n t bs D.whole C.inside x ne)
          (λ h. out₂ (last_or 0 bs) (last_of bs h) ∙ ended-last n t bs D.whole C.inside h)

      second-chain : (chain (next t₂) (attribute_block_of t₁ at) (attribute_size_of t₁ at) ≡ xs) × (chain_ok (next t₂) n (attribute_block_of t₁ at) (attribute_size_of t₁ at) ≡ true)
      unfolding attribute_blocks
      second-chain =
          walked (next t₁) (next t₂) n (attribute_block_of t₁ at) (attribute_size_of t₁ at) X.inside X.once
          (λ x i ne. ended-other n t₁ xs whole₁ X.inside x ne)
          (λ h. ended-last n t₁ xs whole₁ X.inside h)

      type₂ : type_of t₂ at ≡ type_of t at
      type₂ = same-type t t₂ at len₂ high₁ same₂

      ab : attribute_block_of t₂ at ≡ attribute_block_of t₁ at
      ab = field₂ 32 (omega arith) ∙ sym (field₁ 32 (omega arith))

      az : attribute_size_of t₂ at ≡ attribute_size_of t₁ at
      az = field₂ 36 (omega arith) ∙ sym (field₁ 36 (omega arith))

      fb : first_block t₂ at ≡ first_block t at
      fb = field₂ 4 (omega arith)

      fz : blocks_of t₂ at ≡ blocks_of t at
      fz = field₂ 12 (omega arith)

      both-done : Done n ds t₂ (cs ++ (bs ++ xs)) (suc m)
      both-done =
          file-more n ds G t₂ cs m (after-step n ds G t cs m D hm (bs ++ xs) t₂ both-step both-fresh) hm bs xs (rw type₂ file) (rw type₂ nd)
          (rw (fb, fz) first-chain.0) (rw (fb, fz) first-chain.1) (rw (ab, az) second-chain.0) (rw (ab, az) second-chain.1)
          (rw (← append_assoc cs bs xs) (claimed-distinct n (cs ++ bs) xs (claimed-distinct n cs bs D.apart C) X))
          (every_append (in_volume n) bs xs C.inside X.inside)
          (same-slot t t₂ at len₂ high₁ same₂ ∙ ok)
          (name-kept n ds G t cs m D hm (bs ++ xs) t₂ both-step both-fresh nn type₂ (same_name t t₂ at len₂ high₁ same₂))

      old : xs ≡ attribute_blocks t at
      unfolding attribute_blocks
      old =
          sym (chain-stays (next t₁) (next t) (attribute_block_of t₁ at) (attribute_size_of t₁ at)
          (λ x i. sym (ended-out n t bs D.whole C.inside x (λ j. X.fresh x (in_right x cs bs j) i))))
          ∙ rw (field₁ 32 (omega arith), field₁ 36 (omega arith))

      both-whole : Whole t t₂ at
      unfolding file_blocks attribute_blocks
      both-whole =
          record {
            bytes = same₂;
            blocks = λ f. rw (fb, fz) first-chain.0;
            second = λ f. rw (ab, az) second-chain.0 ∙ old;
          }

      -- its code, by its two ends
      abbrev both : Bool
      both = ends t bs && ends t₁ xs

      zero-both : (b : Bool) → cond {A = ℕ} b 0 3 ≡ 0 → b ≡ true
      zero-both true e = refl
      zero-both false e = absurd (omega arith)

      some-both : (b : Bool) → cond {A = ℕ} b 0 3 ≢ 0 → b ≡ false
      some-both true e = absurd (e refl)
      some-both false e = refl

      both-still : both ≡ true → t₂ ≡ t
      unfolding ended
      both-still e = let a = and_split (ends t bs) _ e in rw a.1 (rw a.0)

      ended-first : ends t bs ≡ false → Ended t t₂ (bs ++ xs) at (last_or 0 bs)
      ended-first e =
          let h = not-ended t bs e in
          let i = last_of bs h.0 in
          record {
            file = file;
            mine = inl i;
            claimed = in_left (last_or 0 bs) bs xs i;
            was = h.1;
            is = out₂ (last_or 0 bs) i ∙ ended-last n t bs D.whole C.inside h.0;
          }

      ended-second : ends t₁ xs ≡ false → Ended t t₂ (bs ++ xs) at (last_or 0 xs)
      ended-second e =
          let h = not-ended t₁ xs e in
          let i = last_of xs h.0 in
          record {
            file = file;
            mine = inr (subst (In (last_or 0 xs)) old i);
            claimed = in_right (last_or 0 xs) bs xs i;
            was = λ z. h.1 (ended-out n t bs D.whole C.inside (last_or 0 xs) (λ j. X.fresh (last_or 0 xs) (in_right (last_or 0 xs) cs bs j) i) ∙ z);
            is = ended-last n t₁ xs whole₁ X.inside h.0;
          }

      either : (b : Bool) → (cond {A = ℕ} b 0 3 ≡ 1) ⊎ ((cond {A = ℕ} b 0 3 ≡ 2) ⊎ (cond {A = ℕ} b 0 3 ≡ 4)) → ⊥
      either true c = ⊎_elim (λ z. omega arith) (λ d. ⊎_elim (λ z. omega arith) (λ z. omega arith) d) c
      either false c = ⊎_elim (λ z. omega arith) (λ d. ⊎_elim (λ z. omega arith) (λ z. omega arith) d) c

      both-moved : both ≡ false → Moved (cond {A = ℕ} both 0 3) t t₂ (bs ++ xs) at
      both-moved e = inr (inr (rw e, ⊎_elim (λ y. (last_or 0 bs, ended-first y)) (λ y. (last_or 0 xs, ended-second y)) (and-false (ends t bs) (ends t₁ xs) e)))

      both-stepped : Stepped n ds p (record { image = t₂; claimed = (cs ++ bs) ++ xs; codes = p.codes ++ (cond {A = ℕ} both 0 3 ∷ []) }) (suc m)
      both-stepped =
          record {
            new = bs ++ xs;
            code = cond {A = ℕ} both 0 3;
            claims = append_assoc cs bs xs;
            fresh = both-fresh;
            step = both-step;
            done = rw (append_assoc cs bs xs) both-done;
            told = refl;
            keeps = λ c. both-whole;
            still = λ c. both-still (zero-both both c);
            zeroed = λ c i l. absurd (either both (⊎_elim (λ z. inl z) (λ z. inr (inl z)) c));
            cleared = λ c. absurd (either both (inr (inr c)));
            moved = λ ne. both-moved (some-both both ne);
            mine = λ c f x i. ⊎_elim (λ b. in_left x bs xs b) (λ b. in_right x bs xs (subst (In x) (sym old) b)) i;
          }

    -- its attributes cleared
    abbrev t₃ : List ℕ
    t₃ = set_attribute_fields t₁ at 0 0

    fits₁ : at + 128 ≤ length t₁
    fits₁ = omega (arith, len₁, high₁)

    len₃ : length t₃ ≡ length t
    len₃ = fields-length t₁ at 0 0 fits₁ ∙ len₁

    front₃ : Same t t₃ at 32
    front₃ = same_then t t₁ t₃ at 32 (same-inner t t₁ at 128 at 32 same₁ (omega arith) (omega arith)) (fields-same t₁ at 0 0 fits₁ at 32 (inl (omega arith)))

    back₃ : Same t t₃ (at + 48) 80
    back₃ = same_then t t₁ t₃ (at + 48) 80 (same-inner t t₁ at 128 (at + 48) 80 same₁ (omega arith) (omega arith)) (fields-same t₁ at 0 0 fits₁ (at + 48) 80 (inr (omega arith)))

    values₃ : (x : ℕ) → x < 128 * table_blocks n → next t₃ x ≡ next t₁ x
    values₃ x l = next-below t₁ t₃ n at low₁ (fields-same t₁ at 0 0 fits₁ 512 (at - 512) (inl (omega (arith, low₁)))) x l

    first_step : Step n ds bs t t₃ (suc m)
    first_step =
        record {
          len = len₃;
          beside = λ a w h g. same_then t t₁ t₃ a w (ended_same n t bs D.whole C.inside a w h) (fields-same t₁ at 0 0 fits₁ a w (⊎_elim (λ x. inl (omega arith)) (λ x. inr (omega arith)) g));
          values = λ x l o. values₃ x l ∙ ended-out n t bs D.whole C.inside x o;
        }

    field₃ : (i : ℕ) → i + 4 ≤ 32 → be32 t₃ (at + i) ≡ be32 t (at + i)
    field₃ i h = same-be32 t t₃ at 32 (at + i) front₃ (omega arith) (omega arith)

    type₃ : type_of t₃ at ≡ type_of t at
    type₃ = same_byte t t₃ at 32 at front₃ (omega arith) (omega arith)

    part₃ : part t₃ (at + 48) 80 ≡ part t (at + 48) 80
    part₃ = same-part t t₃ (at + 48) 80 (at + 48) 80 back₃ (omega arith) (omega arith) (omega (arith, high₁)) len₃

    name₃ : name_of t₃ at ≡ name_of t at
    unfolding name_of
    name₃ = rw part₃

    below₁ : (x : ℕ) → In x bs → x < 128 * table_blocks n
    below₁ x i = let w = in_volume-split n x (every_in (in_volume n) bs x C.inside i) in omega arith

    chain₃ : (chain (next t₃) (first_block t at) (blocks_of t at) ≡ bs) × (chain_ok (next t₃) n (first_block t at) (blocks_of t at) ≡ true)
    unfolding file_blocks
    chain₃ =
        walked (next t) (next t₃) n (first_block t at) (blocks_of t at) C.inside C.once
        (λ x i ne. values₃ x (below₁ x i) ∙ ended-other n t bs D.whole C.inside x ne)
        (λ h. values₃ (last_or 0 bs) (below₁ (last_or 0 bs) (last_of bs h)) ∙ ended-last n t bs D.whole C.inside h)

    size₃ : attribute_size_of t₃ at ≡ 0
    size₃ = fields-size t₁ at 0 0 fits₁ (omega arith)

    slot₃ : slot_ok t₃ at ≡ true
    unfolding file_ok name_ok
    slot₃ =
        let a₁ = and_split (name_ok t at) _ (file-slot-ok t at file ok) in
        let a₂ = and_split (attributes_ok t at) _ a₁.1 in
        let ao : attributes_ok t₃ at ≡ true = attributes_ok-join t₃ at (inl (fields-first t₁ at 0 0 fits₁ (omega arith), size₃)) in
        slot-ok-file t₃ at (rw type₃ file)
        (and-join {a = name_ok t₃ at} (rw (name₃, part₃) a₁.0)
        (and-join {a = attributes_ok t₃ at} {b = eqb (blocks_of t₃ at) (blocks_for (size_of t₃ at)) && iff (eqb (first_block t₃ at) 0) (eqb (size_of t₃ at) 0)} ao
        (rw (field₃ 4 (omega arith), field₃ 8 (omega arith), field₃ 12 (omega arith)) a₂.1)))

    first_done : Done n ds t₃ (cs ++ (bs ++ [])) (suc m)
    unfolding chain chain_ok
    first_done =
        file-more n ds G t₃ cs m (after-step n ds G t cs m D hm bs t₃ first_step C.fresh) hm bs [] (rw type₃ file) (rw type₃ nd)
        (rw (field₃ 4 (omega arith), field₃ 12 (omega arith)) chain₃.0) (rw (field₃ 4 (omega arith), field₃ 12 (omega arith)) chain₃.1) (rw size₃) (rw size₃)
        (rw (append-nil bs) (claimed-distinct n cs bs D.apart C))
        (rw (append-nil bs) C.inside)
        slot₃
        (name-kept n ds G t cs m D hm bs t₃ first_step C.fresh nn type₃ name₃)

    -- a chain of no blocks is good
    first_some : claimable n (cs ++ bs) xs ≡ false → attribute_size_of t at ≢ 0
    unfolding attribute_blocks chain claimable
    first_some e z =
        let q : attribute_size_of t₁ at ≡ 0 = same-field t t₁ at len₁ high₁ same₁ 36 (omega arith) ∙ z in
        true-not-false {a = claimable n (cs ++ bs) xs} (rw q) e

    back₄ : Same t t₃ (at + 40) 88
    back₄ = same_then t t₁ t₃ (at + 40) 88 (same-inner t t₁ at 128 (at + 40) 88 same₁ (omega arith) (omega arith)) (fields-same t₁ at 0 0 fits₁ (at + 40) 88 (inr (omega arith)))

    first-cleared : Cleared t t₃ bs at
    unfolding file_blocks
    first-cleared =
        record {
          file = file;
          front = front₃;
          back = back₄;
          first = fields-first t₁ at 0 0 fits₁ (omega arith);
          size = size₃;
          blocks = rw (field₃ 4 (omega arith), field₃ 12 (omega arith)) chain₃.0;
          claimed = λ x i. i;
        }

    first-stepped : claimable n (cs ++ bs) xs ≡ false → Stepped n ds p (record { image = t₃; claimed = cs ++ bs; codes = p.codes ++ (4 ∷ []) }) (suc m)
    first-stepped bad =
        record {
          new = bs;
          code = 4;
          claims = refl;
          fresh = C.fresh;
          step = first_step;
          done = rw (append-nil bs) at first_done;
          told = refl;
          keeps = λ c. absurd (⊎_elim (λ z. four z) (λ z. four₃ z) c);
          mine = λ c f x i. absurd (⊎_elim (λ z. four z) (λ z. four₃ z) c);
          still = λ c. absurd (four c);
          zeroed = λ c i l. absurd (⊎_elim (λ z. omega arith) (λ z. omega arith) c);
          cleared = λ c. first-cleared;
          moved = λ ne. inr (inl (first_some bad, size₃));
        }
      where
        four : ◌≡◌ {A = ℕ} 4 0 → ⊥
        four z = omega arith

        four₃ : ◌≡◌ {A = ℕ} 4 3 → ⊥
        four₃ z = omega arith

    file-stepped : Stepped n ds p (take_file p at) (suc m)
    unfolding take_file
    file-stepped =
        let bn : block_count t ≡ n = omega (arith, D.whole) in
        by_cond (λ q. Stepped n ds p q (suc m)) (claimable (block_count t) (cs ++ bs) xs) _ _
        (λ c. both-stepped (claimable-split n (cs ++ bs) xs (rw bn at c))) (λ c. first-stepped (rw bn at c))

  -- THE LAW OF A SLOT
  pub slot-stepped : is_directory (type_of t at) ≡ false → Stepped n ds p (take_slot ds p (suc m)) (suc m)
  unfolding take_slot
  slot-stepped nd =
      let bn : block_count t ≡ n = omega (arith, D.whole) in
      by_cond (λ q. Stepped n ds p q (suc m)) (is_free (type_of t at)) (skip p) _ (λ c. skip-stepped (eqb-true _ _ c))
      (λ used. by_cond (λ q. Stepped n ds p q (suc m)) (slot_ok t at && new_name t ds (suc m)) _ (zero_entry p at 1)
      (λ c. let w = and_split (slot_ok t at) (new_name t ds (suc m)) c in
      by_cond (λ q. Stepped n ds p q (suc m)) (claimable (block_count t) cs (file_blocks t at)) (take_file p at) (zero_entry p at 2)
      (λ d. file-stepped (is-file nd (eqb-false _ _ used) w.0) nd w.0 w.1 (claimable-split n cs (file_blocks t at) (rw bn at d)))
      (λ d. zero-stepped (eqb-false _ _ used) 2 two₀ two₃ two₄))
      (λ c. zero-stepped (eqb-false _ _ used) 1 one₀ one₃ one₄))
    where
      is-file : is_directory (type_of t at) ≡ false → type_of t at ≢ 0 → slot_ok t at ≡ true → is_file (type_of t at) ≡ true
      is-file nd u ok = ⊎_elim (λ z. absurd (u z)) (λ r. ⊎_elim (λ f. f.0) (λ f. absurd (true-not-false f.0 nd)) r) (slot_ok-split t at ok)

      one₀ : ◌≢◌ {A = ℕ} 1 0
      one₀ z = omega arith

      one₃ : ◌≢◌ {A = ℕ} 1 3
      one₃ z = omega arith

      one₄ : ◌≢◌ {A = ℕ} 1 4
      one₄ z = omega arith

      two₀ : ◌≢◌ {A = ℕ} 2 0
      two₀ z = omega arith

      two₃ : ◌≢◌ {A = ℕ} 2 3
      two₃ z = omega arith

      two₄ : ◌≢◌ {A = ℕ} 2 4
      two₄ z = omega arith
