-- WHAT A CODE SAYS of a slot: its case, and the bytes that codes 1, 2 and 4 leave.
use Prim.Native.Nat.{ℕ, zero, suc, ◌+◌, ◌-◌, ◌*◌, ◌≤◌, ◌<◌}
use mathlib.Core.Bool.{Bool, true, false, cond}
use mathlib.Core.List.{List, [], ◌∷◌, ◌++◌}
use mathlib.Core.Logic.{◌⊎◌, inl, inr}
use mathlib.Core.Path.{◌≡◌, refl, sym, ap, ◌∙◌, subst}
use native.Mathlib.Omega.{arith}
use lib.ListN.{length, get_or, take, get_or-append}
use lib.Seq.{ext_get_or, get_or-append-add}
use Rattle.layout.specs.Lists.{interval, joined}
use Rattle.layout.specs.Bytes.{part, block, zeros}
use Rattle.layout.specs.Geometry.{block_count, table_blocks, in_volume}
use Rattle.layout.specs.Table.{next}
use Rattle.layout.specs.Directory.{slot_at, type_of, first_block, size_of, blocks_of, is_directory, directory, root_of, file_blocks, content}
use Rattle.layout.proofs.Laws.Lists.{In, in_left, in_right, every_in, joined_same}
use Rattle.layout.proofs.Laws.Bytes.{length_part, get_d_part, length-zeros, get_d-zeros}
use Rattle.layout.proofs.Laws.Frames.{Same, same_then, same-inner, same-be32, same-part}
use Rattle.layout.proofs.Laws.Entries.{same-field}
use Rattle.layout.proofs.Laws.Chains.{in_volume-split}
use Rattle.salvage.specs.Salvage.{Progress, take_file, zero_entry, skip, take_slot, take_slots, slots_done, salvage_image, salvage_codes}
use Rattle.salvage.specs.Claims.{is_vacant, meets_stage5, own_good, second_good, ends_right, case_in, OnlyCleared}
use Rattle.salvage.proofs.Laws.Walked.{chain-stays}
use Rattle.salvage.proofs.Laws.Places.{Place, slot-low, slot-high, slots_apart}
use Rattle.salvage.proofs.Laws.Done.{claimed-root}
use Rattle.salvage.proofs.Laws.Steps.{Stepped, Cleared, slot-stepped}
use Rattle.salvage.proofs.Laws.Runs.{Run, run-next, run-slots, slot-type}
use Rattle.salvage.proofs.Laws.Final.{final-slot}
use Rattle.salvage.proofs.Laws.Result.{Given, whole, place, start-run, last-slot, no-directory, run, end, len}
use Rattle.salvage.proofs.Laws.Kept.{code_is, claimed-block}

-- one code more, by the slot's case
either-code : (b : Bool) (x y : Progress) (c d : ℕ) (codes : List ℕ) → x.codes ≡ codes ++ (c ∷ []) → y.codes ≡ codes ++ (d ∷ []) → (cond b x y).codes ≡ codes ++ (cond b c d ∷ [])
either-code true x y c d codes e f = e
either-code false x y c d codes e f = f

coded : (ds : List ℕ) (p : Progress) (k : ℕ) → (take_slot ds p k).codes ≡ p.codes ++ (case_in ds p k ∷ [])
unfolding take_slot take_file zero_entry skip
coded ds p k =
    either-code (is_vacant ds p k) _ _ 0 _ p.codes refl
    (either-code (meets_stage5 ds p k) _ _ _ 1 p.codes
    (either-code (own_good ds p k) _ _ _ 2 p.codes (either-code (second_good ds p k) _ _ (cond (ends_right ds p k) 0 3) 4 p.codes refl refl) refl) refl)

-- the slots before one, then the others
slots-split : (ds : List ℕ) (j a b c : ℕ) (p : Progress) → b ≡ a + j → take_slots ds p (interval a (j + c)) ≡ take_slots ds (take_slots ds p (interval a j)) (interval b c)
unfolding take_slots
slots-split ds zero a b c p e = let z : 0 + c ≡ c = omega arith in let f : b ≡ a = omega arith in rw (z, f)
slots-split ds (suc j) a b c p e =
    let z : suc j + c ≡ suc (j + c) = omega arith in
    ap (λ (x : ℕ). take_slots ds p (interval a x)) z ∙ slots-split ds j (suc a) b c (take_slot ds p a) (omega arith)

-- what later slots leave of slot k, which is done: its bytes, its code, and the values of what is claimed
record Onward (ds : List ℕ) (q r : Progress) (k : ℕ) : Type 0 where
  entry : Same q.image r.image (slot_at ds k) 128
  values : (x : ℕ) → In x q.claimed → next r.image x ≡ next q.image x
  claimed : (x : ℕ) → In x q.claimed → In x r.claimed
  code : get_or r.codes k 0 ≡ get_or q.codes k 0

module _ (n : ℕ) (ds : List ℕ) (G : Place n ds) (s : List ℕ) where
  small : (q : Progress) (m : ℕ) → Run n ds s q m → (x : ℕ) → In x q.claimed → x < 128 * table_blocks n
  small q m R x i = let w = in_volume-split n x (every_in (in_volume n) q.claimed x R.done.inside i) in omega arith

  onward : (k c m : ℕ) (q : Progress) → Run n ds s q m → k ≤ m → m + c < 4 * length ds → ((j : ℕ) → m < j → j ≤ m + c → is_directory (type_of s (slot_at ds j)) ≡ false)
      → Onward ds q (take_slots ds q (interval (suc m) c)) k
  unfolding take_slots
  onward k zero m q R h g f = record { entry = λ i l. refl; values = λ x i. refl; claimed = λ x i. i; code = refl }
  onward k (suc c) m q R h g f =
      let hm : suc m < 4 * length ds = omega arith in
      let T = slot-stepped n ds G q m R.done hm (slot-type n ds G s q m R hm (f (suc m) (omega arith) (omega arith))) in
      let q' = take_slot ds q (suc m) in
      let O = onward k c (suc m) q' (run-next n ds G s q m R hm q' T) (omega arith) (omega arith) (λ j a b. f j (omega arith) (omega arith)) in
      let more : (x : ℕ) → In x q.claimed → In x q'.claimed = λ x i. subst (In x) (sym T.claims) (in_left x q.claimed T.new i) in
      record {
        entry = same_then q.image q'.image (take_slots ds q' (interval (suc (suc m)) c)).image (slot_at ds k) 128
            (T.step.beside (slot_at ds k) 128 (inr (slot-low n ds G k (omega arith))) (slots_apart n ds G k (suc m) (omega arith) hm (λ e. omega arith))) O.entry;
        values = λ x i. O.values x (more x i) ∙ T.step.values x (small q m R x i) (λ j. T.fresh x i j);
        claimed = λ x i. O.claimed x (more x i);
        code = O.code ∙ ap (λ (l : List ℕ). get_or l k 0) T.told ∙ get_or-append q.codes (T.code ∷ []) 0 k (omega (arith, R.count));
      }

module _ (s : List ℕ) (A : Given s) (j : ℕ) (h : suc j ≤ 4 * length (directory s (root_of s)) - 2) where
  abbrev n : ℕ
  n = block_count s

  abbrev ds : List ℕ
  ds = directory s (root_of s)

  abbrev m : ℕ
  m = 4 * length ds - 2

  abbrev e : ℕ
  e = slot_at ds (suc j)

  abbrev w : List ℕ
  w = salvage_image s

  G : Place n ds
  G = place s A

  abbrev start : Progress
  start = record { image = s; claimed = ds; codes = 0 ∷ [] }

  abbrev p : Progress
  p = take_slots ds start (interval 1 j)

  abbrev q : Progress
  q = take_slot ds p (suc j)

  below : suc j < 4 * length ds
  below = omega (arith, G.some)

  fits : e + 128 ≤ length s
  fits = omega (arith, slot-high n ds G (suc j) below, whole s A)

  R : Run n ds s p j
  R =
      let z : 0 + j ≡ j = omega arith in
      subst (λ (x : ℕ). Run n ds s p x) z (run-slots n ds G s j 0 start (start-run s A) (omega (arith, G.some)) (λ k a b. no-directory s A k a (omega arith)))

  T : Stepped n ds p q (suc j)
  T = slot-stepped n ds G p j R.done below (slot-type n ds G s p j R below (no-directory s A (suc j) (omega arith) h))

  after : slots_done s ≡ take_slots ds q (interval (suc (suc j)) (m - suc j))
  unfolding slots_done take_slots
  after =
      let z : m ≡ j + suc (m - suc j) = omega arith in
      ap (λ (x : ℕ). take_slots ds start (interval 1 x)) z ∙ slots-split ds j 1 (suc j) (suc (m - suc j)) start (omega arith)

  O : Onward ds q (slots_done s) (suc j)
  O =
      subst (λ (r : Progress). Onward ds q r (suc j)) (sym after)
      (onward n ds G s (suc j) (m - suc j) (suc j) q (run-next n ds G s p j R below q T) (omega arith) (omega (arith, G.some)) (λ k a b. no-directory s A k (omega arith) (omega arith)))

  last_code : (c : ℕ) → q.codes ≡ p.codes ++ (c ∷ []) → get_or (salvage_codes s) (suc j) 0 ≡ c
  last_code c told =
      let z : suc j ≡ length p.codes + 0 = omega (arith, R.count) in
      code_is s A (suc j) h ∙ O.code ∙ ap (λ (l : List ℕ). get_or l (suc j) 0) told ∙ ap (λ (k : ℕ). get_or (p.codes ++ (c ∷ [])) k 0) z ∙ get_or-append-add p.codes (c ∷ []) 0 0

  -- THE CASE
  pub code-case : get_or (salvage_codes s) (suc j) 0 ≡ case_in ds p (suc j)
  code-case = last_code (case_in ds p (suc j)) (coded ds p (suc j))

  pub slot-given : part p.image e 128 ≡ part s e 128
  slot-given = same-part s p.image e 128 e 128 (R.since.later (suc j) (inr (omega arith)) below) (omega arith) (omega arith) fits R.since.len

  bytes : Same q.image w e 128
  bytes = same_then q.image (slots_done s).image w e 128 O.entry (final-slot n ds G (slots_done s).image (slots_done s).claimed m (run s A).done (last-slot s A) w (end s A) (suc j) h)

  -- CODES 1 AND 2
  pub code-zeroed : (get_or (salvage_codes s) (suc j) 0 ≡ 1) ⊎ (get_or (salvage_codes s) (suc j) 0 ≡ 2) → part w e 128 ≡ zeros 128
  code-zeroed c =
      let l : length (part w e 128) ≡ 128 = length_part w e 128 (omega (arith, fits, len s A)) in
      ext_get_or 0 (part w e 128) (zeros 128) (l ∙ sym (length-zeros 128))
      (λ i a. let b : i < 128 = omega (arith, l) in get_d_part w e 128 i b ∙ bytes i b ∙ T.zeroed (told c) i b ∙ sym (get_d-zeros 128 i))
    where
      told : (get_or (salvage_codes s) (suc j) 0 ≡ 1) ⊎ (get_or (salvage_codes s) (suc j) 0 ≡ 2) → (T.code ≡ 1) ⊎ (T.code ≡ 2)
      told (inl z) = inl (sym (last_code T.code T.told) ∙ z)
      told (inr z) = inr (sym (last_code T.code T.told) ∙ z)

  -- CODE 4
  module _ (c : get_or (salvage_codes s) (suc j) 0 ≡ 4) where
    C : Cleared p.image q.image T.new e
    C = T.cleared (sym (last_code T.code T.told) ∙ c)

    long : length q.image ≡ length s
    long = T.step.len ∙ R.since.len

    given : Same s p.image e 128
    given = R.since.later (suc j) (inr (omega arith)) below

    -- from the given image to the result, where the slot's step leaves the bytes
    through : (a k : ℕ) → e ≤ a → a + k ≤ e + 128 → Same p.image q.image a k → Same s w a k
    through a k l u f =
        same_then s p.image w a k (same-inner s p.image e 128 a k given l u) (same_then p.image q.image w a k f (same-inner q.image w e 128 a k bytes l u))

    front : Same s w e 32
    front = through e 32 (omega arith) (omega arith) C.front

    back : Same s w (e + 40) 88
    back = through (e + 40) 88 (omega arith) (omega arith) C.back

    mine : (x : ℕ) → In x T.new → In x q.claimed
    mine x i = subst (In x) (sym T.claims) (in_right x p.claimed T.new i)

    -- its blocks: those of the slot's turn, of the result and of the given image
    blocks-left : file_blocks w e ≡ file_blocks p.image e
    unfolding file_blocks
    blocks-left =
        let f = same-field q.image w e (len s A ∙ sym long) (omega (arith, fits, long)) bytes in
        rw (f 4 (omega arith), f 12 (omega arith))
        (chain-stays (next q.image) (next w) (first_block q.image e) (blocks_of q.image e) value ∙ C.blocks)
      where
        value : (x : ℕ) → In x (file_blocks q.image e) → next w x ≡ next q.image x
        value x i =
            let k = mine x (C.claimed x (subst (In x) C.blocks i)) in
            (end s A).kept x (O.claimed x k) ∙ O.values x k

    blocks-given : file_blocks p.image e ≡ file_blocks s e
    unfolding file_blocks
    blocks-given =
        let f = same-field s p.image e R.since.len fits given in
        sym (rw (← f 4 (omega arith), ← f 12 (omega arith)) (chain-stays (next p.image) (next s) (first_block p.image e) (blocks_of p.image e) value))
      where
        value : (x : ℕ) → In x (file_blocks p.image e) → next s x ≡ next p.image x
        value x i =
            let k = C.claimed x i in
            sym (R.since.values x (small n ds G s q (suc j) (run-next n ds G s p j R below q T) x (mine x k)) (λ y. T.fresh x y k))

    same_bytes : (b : ℕ) → In b (file_blocks w e) → block w b ≡ block s b
    same_bytes b i =
        let k = C.claimed b (subst (In b) blocks-left i) in
        claimed-block s A b (O.claimed b (mine b k)) (λ y. T.fresh b (claimed-root n ds G p.image p.claimed j R.done (omega (arith, below)) b y) k)

    content-kept : content w e ≡ content s e
    unfolding content
    content-kept =
        let z : size_of w e ≡ size_of s e = same-be32 s w e 32 (e + 8) front (omega arith) (omega arith) in
        rw z (ap (take (size_of s e)) (joined_same (block s) (block w) (file_blocks w e) same_bytes ∙ ap (joined (block s)) (blocks-left ∙ blocks-given)))

    pub only-cleared : OnlyCleared s w e
    only-cleared =
        let f = same-field q.image w e (len s A ∙ sym long) (omega (arith, fits, long)) bytes in
        record {
          front = same-part s w e 32 e 32 front (omega arith) (omega arith) (omega (arith, fits)) (len s A);
          back = same-part s w (e + 40) 88 (e + 40) 88 back (omega arith) (omega arith) (omega (arith, fits)) (len s A);
          first = f 32 (omega arith) ∙ C.first;
          size = f 36 (omega arith) ∙ C.size;
          contents = content-kept;
        }
