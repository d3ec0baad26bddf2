-- ALL SLOTS: the invariant after each, and what has stayed of the given image s.
use Prim.Native.Nat.{ℕ, zero, suc, ◌+◌, ◌*◌, ◌≤◌, ◌<◌}
use mathlib.Core.Bool.{true, false}
use mathlib.Core.List.{List, [], ◌∷◌, ◌++◌}
use mathlib.Core.Logic.{◌⊎◌, inl, inr, ⊎_elim, ◌≢◌}
use mathlib.Core.Path.{◌≡◌, refl, sym, ap, ◌∙◌, subst}
use native.Mathlib.Omega.{arith}
use lib.ListN.{length, get_or, length-append, get_or-append}
use lib.Seq.{get_or-append-add}
use native.Mathlib.Nat.{eq-or-lt_of_le}
use Rattle.layout.specs.Lists.{interval}
use Rattle.layout.specs.Geometry.{table_blocks, in_volume}
use Rattle.layout.specs.Table.{next}
use Rattle.layout.specs.Directory.{slot_at, type_of, first_block, blocks_of, attribute_block_of, attribute_size_of, is_file, is_directory, file_blocks, attribute_blocks}
use Rattle.layout.proofs.Laws.Lists.{In, in_left, in_right, every_in}
use Rattle.layout.proofs.Laws.Frames.{Same, same_then}
use Rattle.layout.proofs.Laws.Entries.{same-type, same-field}
use Rattle.layout.proofs.Laws.Chains.{in_volume-split}
use Rattle.salvage.specs.Salvage.{Progress, take_slot, take_slots}
use Rattle.salvage.proofs.Laws.Walked.{chain-stays}
use Rattle.salvage.proofs.Laws.Places.{Place, slot-low, slot-high, slots_apart, slot-beside}
use Rattle.salvage.proofs.Laws.Done.{Done, claimed-root, file-claimed}
use Rattle.salvage.proofs.Laws.Steps.{Whole, Moved, Stepped, slot-stepped}

-- t has of s: length, header, the slots not yet taken, the blocks that are not the root's, the values of blocks not claimed and of the root's
pub record Since (n : ℕ) (ds s t cs : List ℕ) (m : ℕ) : Type 0 where
  pub len : length t ≡ length s
  pub front : Same s t 0 512
  pub later : (j : ℕ) → (j ≡ 0) ⊎ (m < j) → j < 4 * length ds → Same s t (slot_at ds j) 128
  pub bytes : (b : ℕ) → table_blocks n < b → (In b ds → ⊥) → Same s t (512 * b) 512
  pub values : (x : ℕ) → x < 128 * table_blocks n → (In x cs → ⊥) → next t x ≡ next s x
  pub root : (x : ℕ) → In x ds → next t x ≡ next s x

pub record Run (n : ℕ) (ds s : List ℕ) (p : Progress) (m : ℕ) : Type 0 where
  pub done : Done n ds p.image p.claimed m
  pub since : Since n ds s p.image p.claimed m
  pub count : length p.codes ≡ suc m
  pub held : (k : ℕ) → 1 ≤ k → k ≤ m → (get_or p.codes k 0 ≡ 0) ⊎ (get_or p.codes k 0 ≡ 3) → Whole s p.image (slot_at ds k)
  pub still : (k : ℕ) → 1 ≤ k → k ≤ m → get_or p.codes k 0 ≡ 0 → is_file (type_of s (slot_at ds k)) ≡ true → (x : ℕ)
      → In x (file_blocks s (slot_at ds k)) ⊎ In x (attribute_blocks s (slot_at ds k)) → next p.image x ≡ next s x
  pub moved : (k : ℕ) → 1 ≤ k → k ≤ m → get_or p.codes k 0 ≢ 0 → Moved (get_or p.codes k 0) s p.image p.claimed (slot_at ds k)
  pub first : get_or p.codes 0 0 ≡ 0

-- what was done stays done
pub moved_then : (code : ℕ) (s t t' cs cs' : List ℕ) (e : ℕ) → length t' ≡ length t → e + 128 ≤ length t → Moved code s t cs e → Same t t' e 128
    → ((x : ℕ) → In x cs → In x cs') → ((x : ℕ) → In x cs → next t' x ≡ next t x) → Moved code s t' cs' e
moved_then code s t t' cs cs' e l fits (inl w) b f v = inl (w.0, same-type t t' e l fits b ∙ w.1)
moved_then code s t t' cs cs' e l fits (inr (inl w)) b f v = inr (inl (w.0, same-field t t' e l fits b 36 (omega arith) ∙ w.1))
moved_then code s t t' cs cs' e l fits (inr (inr w)) b f v =
    let E = w.1.1 in
    inr (inr (w.0, (w.1.0, record { file = E.file; mine = E.mine; claimed = f w.1.0 E.claimed; was = E.was; is = v w.1.0 E.claimed ∙ E.is })))

-- a whole entry stays whole, where its bytes and the values of its blocks stay
pub whole-then : (s t t' : List ℕ) (e : ℕ) → length t ≡ length s → length t' ≡ length t → e + 128 ≤ length s → Whole s t e → Same t t' e 128
    → (is_file (type_of t e) ≡ true → (x : ℕ) → In x (file_blocks t e) ⊎ In x (attribute_blocks t e) → next t' x ≡ next t x) → Whole s t' e
unfolding file_blocks attribute_blocks
whole-then s t t' e l₁ l₂ fits W b v =
    let f = same-field t t' e l₂ (omega arith) b in
    let ty : is_file (type_of s e) ≡ true → is_file (type_of t e) ≡ true = λ y. ap is_file (same-type s t e l₁ fits W.bytes) ∙ y in
    record {
      bytes = same_then s t t' e 128 W.bytes b;
      blocks = λ y. rw (f 4 (omega arith), f 12 (omega arith)) (chain-stays (next t) (next t') (first_block t e) (blocks_of t e) (λ x i. v (ty y) x (inl i))) ∙ W.blocks y;
      second = λ y. rw (f 32 (omega arith), f 36 (omega arith)) (chain-stays (next t) (next t') (attribute_block_of t e) (attribute_size_of t e) (λ x i. v (ty y) x (inr i))) ∙ W.second y;
    }

-- an entry whose bytes, and whose blocks' values, are as given
whole-given : (s t : List ℕ) (e : ℕ) → length t ≡ length s → e + 128 ≤ length s → Same s t e 128
    → (is_file (type_of t e) ≡ true → (x : ℕ) → In x (file_blocks t e) ⊎ In x (attribute_blocks t e) → next t x ≡ next s x) → Whole s t e
unfolding file_blocks attribute_blocks
whole-given s t e l fits b v =
    let f = same-field s t e l fits b in
    let ty : is_file (type_of s e) ≡ true → is_file (type_of t e) ≡ true = λ y. ap is_file (same-type s t e l fits b) ∙ y in
    record {
      bytes = b;
      blocks = λ y. sym (rw (← f 4 (omega arith), ← f 12 (omega arith)) (chain-stays (next t) (next s) (first_block t e) (blocks_of t e) (λ x i. sym (v (ty y) x (inl i)))));
      second = λ y. sym (rw (← f 32 (omega arith), ← f 36 (omega arith)) (chain-stays (next t) (next s) (attribute_block_of t e) (attribute_size_of t e) (λ x i. sym (v (ty y) x (inr i)))));
    }

module _ (n : ℕ) (ds : List ℕ) (G : Place n ds) (s : List ℕ) where
  pub run-next : (p : Progress) (m : ℕ) (R : Run n ds s p m) → (h : suc m < 4 * length ds) → (q : Progress) → Stepped n ds p q (suc m) → Run n ds s q (suc m)
  run-next p m R h q T =
      let I = R.since in
      let S = T.step in
      record {
        done = T.done;
        count = rw T.told (length-append p.codes (T.code ∷ []) ∙ omega (arith, R.count));
        held = λ k h₁ h₂ c. ⊎_elim (λ e. subst (λ (j : ℕ). Whole s q.image (slot_at ds j)) (sym e) (newly (subst (λ (j : ℕ). (get_or q.codes j 0 ≡ 0) ⊎ (get_or q.codes j 0 ≡ 3)) e c)))
            (λ l. earlier k h₁ (omega arith) c) (eq-or-lt_of_le h₂);
        still = λ k h₁ h₂ c f x i. ⊎_elim
            (λ e. subst (λ (j : ℕ). get_or q.codes j 0 ≡ 0 → is_file (type_of s (slot_at ds j)) ≡ true → In x (file_blocks s (slot_at ds j)) ⊎ In x (attribute_blocks s (slot_at ds j)) → next q.image x ≡ next s x)
            (sym e) (still-newly x) c f i)
            (λ l. still-earlier k h₁ (omega arith) c f x i) (eq-or-lt_of_le h₂);
        moved = λ k h₁ h₂ c. ⊎_elim
            (λ e. subst (λ (j : ℕ). get_or q.codes j 0 ≢ 0 → Moved (get_or q.codes j 0) s q.image q.claimed (slot_at ds j)) (sym e) moved-newly c)
            (λ l. moved-earlier k h₁ (omega arith) c) (eq-or-lt_of_le h₂);
        first = old-code 0 (omega arith) ∙ R.first;
        since =
            record {
              len = S.len ∙ I.len;
              front = same_then s p.image q.image 0 512 I.front (S.beside 0 512 (inl (omega arith)) (inl (omega (arith, slot-low n ds G (suc m) h))));
              later = λ j w l. same_then s p.image q.image (slot_at ds j) 128 (I.later j (⊎_elim (λ x. inl x) (λ x. inr (omega arith)) w) l)
                  (S.beside (slot_at ds j) 128 (inr (slot-low n ds G j l)) (slots_apart n ds G j (suc m) l h (λ e. ⊎_elim (λ x. omega arith) (λ x. omega arith) w)));
              bytes = λ b hb out. same_then s p.image q.image (512 * b) 512 (I.bytes b hb out)
                  (S.beside (512 * b) 512 (inr (omega arith)) (⊎_elim (λ x. inr x) (λ x. inl x) (slot-beside n ds G (suc m) h b out)));
              values = λ x l o.
                  S.values x l (λ i. o (subst (In x) (sym T.claims) (in_right x p.claimed T.new i)))
                  ∙ I.values x l (λ i. o (subst (In x) (sym T.claims) (in_left x p.claimed T.new i)));
              root = λ x i.
                  let w = G.blocks x i in
                  S.values x (omega arith) (λ j. T.fresh x (claimed-root n ds G p.image p.claimed m R.done (omega arith) x i) j) ∙ I.root x i;
            };
      }
    where
      fits : (k : ℕ) → k < 4 * length ds → slot_at ds k + 128 ≤ length s
      fits k l = omega (arith, slot-high n ds G k l, R.done.whole, R.since.len)

      small : (x : ℕ) → In x q.claimed → x < 128 * table_blocks n
      small x i = let w = in_volume-split n x (every_in (in_volume n) q.claimed x T.done.inside i) in omega arith

      old-code : (k : ℕ) → k ≤ m → get_or q.codes k 0 ≡ get_or p.codes k 0
      old-code k g = ap (λ (l : List ℕ). get_or l k 0) T.told ∙ get_or-append p.codes (T.code ∷ []) 0 k (omega (arith, R.count))

      new-code : get_or q.codes (suc m) 0 ≡ T.code
      new-code =
          let e : suc m ≡ length p.codes + 0 = omega (arith, R.count) in
          ap (λ (l : List ℕ). get_or l (suc m) 0) T.told ∙ ap (λ (k : ℕ). get_or (p.codes ++ (T.code ∷ [])) k 0) e ∙ get_or-append-add p.codes (T.code ∷ []) 0 0

      earlier : (k : ℕ) → 1 ≤ k → k ≤ m → (get_or q.codes k 0 ≡ 0) ⊎ (get_or q.codes k 0 ≡ 3) → Whole s q.image (slot_at ds k)
      earlier k h₁ h₂ c =
          whole-then s p.image q.image (slot_at ds k) R.since.len T.step.len (fits k (omega arith))
          (R.held k h₁ h₂ (⊎_elim (λ z. inl (sym (old-code k h₂) ∙ z)) (λ z. inr (sym (old-code k h₂) ∙ z)) c))
          (T.step.beside (slot_at ds k) 128 (inr (slot-low n ds G k (omega arith))) (slots_apart n ds G k (suc m) (omega arith) h (λ e. omega arith)))
          (λ f x i. let j = file-claimed n ds G p.image p.claimed m R.done (omega arith) k h₁ h₂ f x i in
          T.step.values x (small x (subst (In x) (sym T.claims) (in_left x p.claimed T.new j))) (λ y. T.fresh x j y))

      type_at : type_of p.image (slot_at ds (suc m)) ≡ type_of s (slot_at ds (suc m))
      type_at = same-type s p.image (slot_at ds (suc m)) R.since.len (fits (suc m) h) (R.since.later (suc m) (inr (omega arith)) h)

      fresh-value : (x : ℕ) → In x T.new → next p.image x ≡ next s x
      fresh-value x j = R.since.values x (small x (subst (In x) (sym T.claims) (in_right x p.claimed T.new j))) (λ y. T.fresh x y j)

      as-given : (T.code ≡ 0) ⊎ (T.code ≡ 3) → Whole s p.image (slot_at ds (suc m))
      as-given c =
          whole-given s p.image (slot_at ds (suc m)) R.since.len (fits (suc m) h) (R.since.later (suc m) (inr (omega arith)) h)
          (λ f x i. fresh-value x (T.mine c f x i))

      newly : (get_or q.codes (suc m) 0 ≡ 0) ⊎ (get_or q.codes (suc m) 0 ≡ 3) → Whole s q.image (slot_at ds (suc m))
      newly c =
          let c' : (T.code ≡ 0) ⊎ (T.code ≡ 3) = ⊎_elim (λ z. inl (sym new-code ∙ z)) (λ z. inr (sym new-code ∙ z)) c in
          let W = T.keeps c' in
          let G₁ = as-given c' in
          record {
            bytes = same_then s p.image q.image (slot_at ds (suc m)) 128 G₁.bytes W.bytes;
            blocks = λ f. W.blocks (ap is_file type_at ∙ f) ∙ G₁.blocks f;
            second = λ f. W.second (ap is_file type_at ∙ f) ∙ G₁.second f;
          }

      still-newly : (x : ℕ) → get_or q.codes (suc m) 0 ≡ 0 → is_file (type_of s (slot_at ds (suc m))) ≡ true
          → In x (file_blocks s (slot_at ds (suc m))) ⊎ In x (attribute_blocks s (slot_at ds (suc m))) → next q.image x ≡ next s x
      still-newly x c f i =
          let c' : T.code ≡ 0 = sym new-code ∙ c in
          let G₁ = as-given (inl c') in
          let j = T.mine (inl c') (ap is_file type_at ∙ f) x (⊎_elim (λ b. inl (subst (In x) (sym (G₁.blocks f)) b)) (λ b. inr (subst (In x) (sym (G₁.second f)) b)) i) in
          ap (λ (l : List ℕ). next l x) (T.still c') ∙ fresh-value x j

      old_value : (x : ℕ) → In x p.claimed → next q.image x ≡ next p.image x
      old_value x j = T.step.values x (small x (subst (In x) (sym T.claims) (in_left x p.claimed T.new j))) (λ y. T.fresh x j y)

      still-earlier : (k : ℕ) → 1 ≤ k → k ≤ m → get_or q.codes k 0 ≡ 0 → is_file (type_of s (slot_at ds k)) ≡ true → (x : ℕ)
          → In x (file_blocks s (slot_at ds k)) ⊎ In x (attribute_blocks s (slot_at ds k)) → next q.image x ≡ next s x
      still-earlier k h₁ h₂ c f x i =
          let c' : get_or p.codes k 0 ≡ 0 = sym (old-code k h₂) ∙ c in
          let W = R.held k h₁ h₂ (inl c') in
          let f' : is_file (type_of p.image (slot_at ds k)) ≡ true = ap is_file (same-type s p.image (slot_at ds k) R.since.len (fits k (omega arith)) W.bytes) ∙ f in
          let j = file-claimed n ds G p.image p.claimed m R.done (omega arith) k h₁ h₂ f' x
          (⊎_elim (λ b. inl (subst (In x) (sym (W.blocks f)) b)) (λ b. inr (subst (In x) (sym (W.second f)) b)) i) in
          old_value x j ∙ R.still k h₁ h₂ c' f x i

      moved-earlier : (k : ℕ) → 1 ≤ k → k ≤ m → get_or q.codes k 0 ≢ 0 → Moved (get_or q.codes k 0) s q.image q.claimed (slot_at ds k)
      moved-earlier k h₁ h₂ ne =
          rw (old-code k h₂)
          (moved_then (get_or p.codes k 0) s p.image q.image p.claimed q.claimed (slot_at ds k) T.step.len (omega (arith, fits k (omega arith), R.since.len))
          (R.moved k h₁ h₂ (λ z. ne (old-code k h₂ ∙ z)))
          (T.step.beside (slot_at ds k) 128 (inr (slot-low n ds G k (omega arith))) (slots_apart n ds G k (suc m) (omega arith) h (λ e. omega arith)))
          (λ x j. subst (In x) (sym T.claims) (in_left x p.claimed T.new j)) old_value)

      given-mine : (x : ℕ) → T.code ≡ 3 → is_file (type_of s (slot_at ds (suc m))) ≡ true → In x (file_blocks p.image (slot_at ds (suc m))) ⊎ In x (attribute_blocks p.image (slot_at ds (suc m)))
          → In x (file_blocks s (slot_at ds (suc m))) ⊎ In x (attribute_blocks s (slot_at ds (suc m)))
      given-mine x c f i = let G₁ = as-given (inr c) in ⊎_elim (λ b. inl (subst (In x) (G₁.blocks f) b)) (λ b. inr (subst (In x) (G₁.second f) b)) i

      since-moved : (code : ℕ) → T.code ≡ code → Moved code p.image q.image T.new (slot_at ds (suc m)) → Moved code s q.image q.claimed (slot_at ds (suc m))
      since-moved code e (inl w) = inl (λ z. w.0 (type_at ∙ z), w.1)
      since-moved code e (inr (inl w)) =
          inr (inl (λ z. w.0 (same-field s p.image (slot_at ds (suc m)) R.since.len (fits (suc m) h) (R.since.later (suc m) (inr (omega arith)) h) 36 (omega arith) ∙ z), w.1))
      since-moved code e (inr (inr w)) =
          let x = w.1.0 in
          let E = w.1.1 in
          let c' : T.code ≡ 3 = e ∙ w.0 in
          inr (inr (
            w.0,
            (
              x,
              record {
                file = ap is_file (sym type_at) ∙ E.file;
                mine = given-mine x c' (ap is_file (sym type_at) ∙ E.file) E.mine;
                claimed = subst (In x) (sym T.claims) (in_right x p.claimed T.new E.claimed);
                was = λ z. E.was (fresh-value x E.claimed ∙ z);
                is = E.is;
              },
            ),
          ))

      moved-newly : get_or q.codes (suc m) 0 ≢ 0 → Moved (get_or q.codes (suc m) 0) s q.image q.claimed (slot_at ds (suc m))
      moved-newly ne = rw new-code (since-moved T.code refl (T.moved (λ z. ne (new-code ∙ z))))

  pub slot-type : (p : Progress) (m : ℕ) (R : Run n ds s p m) → suc m < 4 * length ds → is_directory (type_of s (slot_at ds (suc m))) ≡ false
      → is_directory (type_of p.image (slot_at ds (suc m))) ≡ false
  slot-type p m R h nd =
      let e = slot_at ds (suc m) in
      let fits : e + 128 ≤ length s = omega (arith, slot-high n ds G (suc m) h, R.done.whole, R.since.len) in
      ap is_directory (same-type s p.image e R.since.len fits (R.since.later (suc m) (inr (omega arith)) h)) ∙ nd

  pub run-slots : (c m : ℕ) (p : Progress) → Run n ds s p m → m + c < 4 * length ds → ((k : ℕ) → m < k → k ≤ m + c → is_directory (type_of s (slot_at ds k)) ≡ false)
      → Run n ds s (take_slots ds p (interval (suc m) c)) (m + c)
  unfolding take_slots
  run-slots zero m p R h f = let e : m + 0 ≡ m = omega arith in rw e R
  run-slots (suc c) m p R h f =
      let e : m + suc c ≡ suc m + c = omega arith in
      let hm : suc m < 4 * length ds = omega arith in
      let nd = slot-type p m R hm (f (suc m) (omega arith) (omega arith)) in
      let q = take_slot ds p (suc m) in
      rw e (run-slots c (suc m) q (run-next p m R hm q (slot-stepped n ds G p m R.done hm nd)) (omega arith) (λ k x y. f k (omega arith) (omega arith)))
