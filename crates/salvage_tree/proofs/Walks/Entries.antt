-- One slot: what is dropped, files, and the directory of an entry.
use Prim.Native.Nat.{ℕ, ◌+◌, ◌-◌, ◌*◌, ◌/◌, ◌≤◌, ◌<◌}
use mathlib.Core.Bool.{Bool, true, false, not, cond, ◌&&◌, ◌||◌}
use mathlib.Core.List.{List, [], ◌++◌}
use mathlib.Core.Path.{◌≡◌, refl, sym, ap, ◌∙◌, subst}
use native.Mathlib.Omega.{arith}
use lib.Dec.{eqb, ltb}
use lib.ListN.{length, get_or, take, drop}
use lib.Seq.{length-take-le}
use borrow.Author.Tests.{eq-eqb, ne_eqb, lt-ltb, ltb-true, not-true}
use Rattle.std.specs.Cmp.Lexicographic.{pointwise}
use Rattle.layout.specs.Lists.{same, has}
use Rattle.layout.specs.Limits.{max_directory}
use Rattle.layout.specs.Bytes.{be32, part, zeros, splice}
use Rattle.layout.specs.Geometry.{block_count, in_volume}
use Rattle.layout.specs.Table.{next, chain}
use Rattle.layout.specs.Directory.{slot_at, slots, type_of, is_file, first_block, blocks_of, self_of, file_blocks}
use Rattle.layout.specs.Check.{slot_ok, new_name}
use Rattle.layout.specs.Walks.Shapes.{Shape, ChainBelow}
use Rattle.layout.specs.Walks.Slots.{entry_at}
use Rattle.layout.proofs.Laws.Tests.{and_split, is_false, true-not-false}
use Rattle.layout.proofs.Laws.Lists.{In, every_in, get_d-in, has-eqb-in}
use Rattle.salvage.specs.Salvage.{claimable, take_file, end_at}
use Rattle.salvage.specs.Walks.{MarksOf, Claimed, FileTaken, progress}
use Rattle.salvage_tree.specs.SalvageTree.{State, coded, dropped, keep_file, take_file_at, take_slot, take_slots, witness, take_child}
use Rattle.salvage_tree.specs.Walks.{st, Reached, IsGood, Chose, Own, Adopted, readied, FileDone, EntryTaken, child_blocks, Found, Entered}
use Rattle.salvage_tree.proofs.Laws.Chosen.{Chosen, chosen, blocks-some}
use Rattle.salvage_tree.proofs.Walks.Names.{slot_is}
use Rattle.salvage_tree.proofs.Walks.Numbers.{pointwise-same, eqb_turned}
use Rattle.salvage_tree.proofs.Walks.Puts.{end_is}
use Rattle.salvage_tree.proofs.Walks.Blocks.{some-marks, chose-own, chose-first}

-- AN ENTRY DROPPED
pub dropped-is : (s : List ℕ) (e code : ℕ) (m codes s' c' : List ℕ) → s' ≡ splice s e (zeros 128) → c' ≡ coded codes e code → (cs : List ℕ) → MarksOf m cs → Reached (dropped (st s cs codes) e code) s' m c'
unfolding dropped
dropped-is s e code m codes s' c' es ec cs M = record { image = es; marks = M; codes-are = ec }

-- A FILE, by whether its own chain is claimed
module _ (s m codes : List ℕ) (n e f k : ℕ) (count : block_count s ≡ n) (ef : f ≡ first_block s e) (ek : k ≡ blocks_of s e) (r : Bool) (m₁ : List ℕ) (C : Claimed (next s) n f k m r m₁) where
  own_is : chain (next s) f k ≡ file_blocks s e
  unfolding file_blocks
  own_is = rw (ef, ek)

  test-is : (cs : List ℕ) → MarksOf m cs → claimable (block_count s) cs (file_blocks s e) ≡ r
  test-is cs M = rw (count, ← own_is) (sym (C.told cs M))

  pub file-lost : r ≡ false → (s' c' : List ℕ) → s' ≡ splice s e (zeros 128) → c' ≡ coded codes e 2 → FileDone s e m codes s' m₁ c'
  unfolding take_file_at
  file-lost z s' c' es ec =
      record {
        reached = λ cs M.
            let N : MarksOf m₁ cs = subst (λ (t : Bool). MarksOf m₁ (cond t (cs ++ chain (next s) f k) cs)) z (C.marks cs M) in
            let t : claimable (block_count s) cs (file_blocks s e) ≡ false = test-is cs M ∙ z in
            rw t (dropped-is s e 2 m₁ codes s' c' es ec cs N);
      }

  pub file-kept : r ≡ true → (code : ℕ) (s' m' c' : List ℕ) → FileTaken s m₁ e code s' m' → c' ≡ coded codes e code → FileDone s e m codes s' m' c'
  unfolding take_file_at keep_file
  file-kept z code s' m' c' F ec =
      record {
        reached = λ cs M.
            let N : MarksOf m₁ (cs ++ file_blocks s e) = subst (λ (xs : List ℕ). MarksOf m₁ (cs ++ xs)) own_is (subst (λ (t : Bool). MarksOf m₁ (cond t (cs ++ chain (next s) f k) cs)) z (C.marks cs M)) in
            let t : claimable (block_count s) cs (file_blocks s e) ≡ true = test-is cs M ∙ z in
            let R = F.reached cs [] N in
            let q : get_or (take_file (progress s cs []) e).codes 0 0 ≡ code = ap (λ (l : List ℕ). get_or l 0 0) R.coded in
            rw t (record { image = R.image; marks = R.marks; codes-are = ec ∙ ap (coded codes e) (sym q) });
      }

-- A SLOT, in the order of the code's tests
module _ (s ds : List ℕ) (k b : ℕ) (m codes : List ℕ) (eb : b ≡ get_or ds (k / 4) 0) (type : ℕ) (et : type ≡ type_of s (entry_at b k)) where
  at : slot_at ds k ≡ entry_at b k
  at = slot_is ds k b eb

  pub entry_free : type ≡ 0 → EntryTaken s ds k m codes false s m codes
  unfolding take_slot
  entry_free z =
      record {
        done = λ e child cs M. rw (at, eq-eqb (type_of s (entry_at b k)) 0 (sym et ∙ z)) (record { image = refl; marks = M; codes-are = refl });
        same-image = λ e. refl;
        same-marks = λ e. refl;
        same_codes = λ e. refl;
        left = λ e. absurd (true-not-false e refl);
      }

  module _ (used : type ≡ 0 → ⊥) (r : Bool) (er : r ≡ slot_ok s (entry_at b k) && new_name s ds k) where
    not_free : eqb (type_of s (entry_at b k)) 0 ≡ false
    not_free = ne_eqb (type_of s (entry_at b k)) 0 (λ z. used (et ∙ z))

    pub entry-bad : r ≡ false → (s' c' : List ℕ) → s' ≡ splice s (entry_at b k) (zeros 128) → c' ≡ coded codes (entry_at b k) 1 → EntryTaken s ds k m codes false s' m c'
    unfolding take_slot
    entry-bad z s' c' es ec =
        record {
          done = λ e child cs M. rw (at, not_free, sym er ∙ z) (dropped-is s (entry_at b k) 1 m codes s' c' es ec cs M);
          same-image = λ e. absurd (true-not-false e refl);
          same-marks = λ e. absurd (true-not-false e refl);
          same_codes = λ e. absurd (true-not-false e refl);
          left = λ e. absurd (true-not-false e refl);
        }

    module _ (ok : r ≡ true) (f : Bool) (ef : f ≡ is_file type) where
      file-is : is_file (type_of s (entry_at b k)) ≡ f
      file-is = sym (ef ∙ ap is_file et)

      pub entry-file : f ≡ true → (s' m' c' : List ℕ) → FileDone s (entry_at b k) m codes s' m' c' → EntryTaken s ds k m codes false s' m' c'
      unfolding take_slot
      entry-file z s' m' c' F =
          record {
            done = λ e child cs M. rw (at, not_free, sym er ∙ ok, file-is ∙ z) (F.reached cs M);
            same-image = λ e. absurd (true-not-false e refl);
            same-marks = λ e. absurd (true-not-false e refl);
            same_codes = λ e. absurd (true-not-false e refl);
            left = λ e. absurd (true-not-false e refl);
          }

      pub entry-child : f ≡ false → EntryTaken s ds k m codes true s m codes
      unfolding take_slot
      entry-child z =
          record {
            done = λ e. absurd (true-not-false refl e);
            same-image = λ e. refl;
            same-marks = λ e. refl;
            same_codes = λ e. refl;
            left = λ e child cs. rw (at, not_free, sym er ∙ ok, file-is ∙ z);
          }

-- A WITNESS, in the order of the code's tests
module _ (s : List ℕ) (e : ℕ) (ds : List ℕ) (some : 1 ≤ length ds) (first : ℕ) (e₁ : first ≡ get_or ds 0 0) (e₂ : first_block s e ≡ get_or ds 0 0) (self : ℕ) (es : self ≡ be32 s (entry_at first 0 + 4)) where
  b-is : first_block s e ≡ first
  b-is = e₂ ∙ sym e₁

  self-is : self_of s (512 * first) ≡ self
  self-is = let q : entry_at first 0 + 4 ≡ 512 * first + 4 = omega arith in sym (es ∙ ap (be32 s) q)

  pub witness-is : (f g : List ℕ) → f ≡ part s (entry_at first 0 + 48) 80 → g ≡ part s (e + 48) 80 → (r : Bool) → r ≡ pointwise eqb f g → (size : ℕ) → size ≡ be32 s (e + 12) → (last : ℕ) → last ≡ get_or ds (length ds - 1) 0
      → (type : ℕ) → type ≡ type_of s (entry_at last 3) → eqb self first || (r || eqb size (length ds) && eqb type 255) ≡ witness s e ds
  unfolding witness
  witness-is f g ef eg r er size ez last el type et =
      let n : same (part s (512 * first + 48) 80) (part s (e + 48) 80) ≡ r = let q : entry_at first 0 + 48 ≡ 512 * first + 48 = omega arith in sym (er ∙ pointwise-same f g ∙ ap (λ (x : List ℕ). same x g) (ef ∙ ap (λ (x : ℕ). part s x 80) q) ∙ ap (same (part s (512 * first + 48) 80)) eg) in
      let q : end_at ds ≡ entry_at last 3 = end_is ds some ∙ ap (λ (x : ℕ). 512 * x + 384) (sym el) in
      rw (b-is, self-is, n, q, ← et, eqb_turned (length ds) (blocks_of s e), ← ez)

  pub witness-self : self ≡ first → true ≡ witness s e ds
  unfolding witness
  witness-self z = rw (b-is, self-is, eq-eqb self first z)

  module _ (ne : self ≡ first → ⊥) (r : Bool) (f g : List ℕ) (ef : f ≡ part s (entry_at first 0 + 48) 80) (eg : g ≡ part s (e + 48) 80) (er : r ≡ same f g) where
    name-is : same (part s (512 * first + 48) 80) (part s (e + 48) 80) ≡ r
    name-is = let q : entry_at first 0 + 48 ≡ 512 * first + 48 = omega arith in sym (er ∙ ap (λ (x : List ℕ). same x g) (ef ∙ ap (λ (x : ℕ). part s x 80) q) ∙ ap (same (part s (512 * first + 48) 80)) eg)

    pub witness-name : r ≡ true → true ≡ witness s e ds
    unfolding witness
    witness-name z = rw (b-is, self-is, ne_eqb self first ne, name-is ∙ z)

    module _ (no : r ≡ false) (size : ℕ) (ez : size ≡ be32 s (e + 12)) where
      pub witness-size : (size ≡ length ds → ⊥) → false ≡ witness s e ds
      unfolding witness
      witness-size nz = rw (b-is, self-is, ne_eqb self first ne, name-is ∙ no, ne_eqb (length ds) (blocks_of s e) (λ z. nz (ez ∙ sym z)))

      pub witness-end : size ≡ length ds → (last : ℕ) → last ≡ get_or ds (length ds - 1) 0 → (type : ℕ) → type ≡ type_of s (entry_at last 3) → eqb type 255 ≡ witness s e ds
      unfolding witness
      witness-end z last el type et =
          let q : end_at ds ≡ entry_at last 3 = end_is ds some ∙ ap (λ (x : ℕ). 512 * x + 384) (sym el) in
          rw (b-is, self-is, ne_eqb self first ne, name-is ∙ no, eq-eqb (length ds) (blocks_of s e) (sym (sym ez ∙ z)), q, ← et)

-- the first numbers, as they are lent
pub front : (d : ℕ) (xs : List ℕ) → take (d - 0) (drop 0 xs) ≡ take d xs
front d xs = let q : d - 0 ≡ d = omega arith in rw q

-- THE BLOCKS OF A CHILD
module _ (s : List ℕ) (n e : ℕ) (m : List ℕ) (first said : ℕ) (ef : first ≡ first_block s e) (ed : said ≡ blocks_of s e) where
  pub found-bad : (xs : List ℕ) → length xs ≡ max_directory → (r : Bool) → IsGood n m first r → r ≡ false → Found s n e m 0 xs
  found-bad xs l r g z =
      record {
        most = omega arith;
        size = l;
        none = λ q cs M. is_false _ (λ t. bad cs M (ltb-true 0 _ (and_split (ltb 0 (length (child_blocks s n cs e))) (witness s e (child_blocks s n cs e)) t).0));
        own = λ h. absurd (omega arith);
        is = λ h. absurd (omega arith);
        witnessed = λ h. absurd (omega arith);
        first = λ h. absurd (omega arith);
      }
    where
      bad : (cs : List ℕ) → MarksOf m cs → 0 < length (child_blocks s n cs e) → ⊥
      bad cs M h =
          let K : Chosen n cs max_directory (first_block s e) (child_blocks s n cs e) = chosen s n cs (first_block s e) (blocks_of s e) (eqb (blocks_of s (512 * first_block s e)) (blocks_of s e)) in
          let q : get_or (child_blocks s n cs e) 0 0 ≡ first = K.first (omega arith) ∙ sym ef in
          let i : In first (child_blocks s n cs e) = subst (λ (x : ℕ). In x (child_blocks s n cs e)) q (get_d-in (child_blocks s n cs e) 0 0 h) in
          let v : in_volume n first ≡ true = every_in (in_volume n) (child_blocks s n cs e) first K.inside i in
          let o : has eqb first cs ≡ false = is_false _ (λ t. K.fresh first (has-eqb-in first cs t) i) in
          let y : in_volume n first && not (has eqb first cs) ≡ true = rw (v, o) in
          true-not-false (g.told cs M ∙ y) z

  module _ (sure : Bool) (own : ℕ) (eo : own ≡ be32 s (entry_at first 0 + 12)) (es : sure ≡ eqb own said) (r : ℕ) (xs : List ℕ) (C : Chose s n first said sure m r xs) where
    blocks-are : (cs : List ℕ) → MarksOf m cs → child_blocks s n cs e ≡ take r xs
    blocks-are cs M =
        let q : entry_at first 0 + 12 ≡ 512 * first + 12 = omega arith in
        let t : eqb (blocks_of s (512 * first_block s e)) (blocks_of s e) ≡ sure = sym (es ∙ rw (eo, q, ef, ed)) in
        rw (t, ← ef, ← ed) (C.is cs M)

    pub lent-own : 0 < r → Own n (take r xs)
    lent-own h = chose-own s n first said sure m r xs C h

    pub lent-first : 0 < r → first_block s e ≡ get_or (take r xs) 0 0
    lent-first h = sym ef ∙ sym (chose-first s n first said sure m r xs C h)

    pub found_none : 0 < r → (w : Bool) → w ≡ witness s e (take r xs) → w ≡ false → Found s n e m 0 xs
    found_none h w ew z =
        record {
          most = omega arith;
          size = C.size;
          none = λ q cs M. is_false _ (λ t. true-not-false (subst (λ (ys : List ℕ). witness s e ys ≡ true) (blocks-are cs M) (and_split (ltb 0 (length (child_blocks s n cs e))) (witness s e (child_blocks s n cs e)) t).1) (sym ew ∙ z));
          own = λ o. absurd (omega arith);
          is = λ o. absurd (omega arith);
          witnessed = λ o. absurd (omega arith);
          first = λ o. absurd (omega arith);
        }

    pub found_some : 0 < r → (w : Bool) → w ≡ witness s e (take r xs) → w ≡ true → Found s n e m r xs
    found_some h w ew z =
        record {
          most = C.most;
          size = C.size;
          none = λ q. absurd (omega arith);
          own = λ o. chose-own s n first said sure m r xs C h;
          is = λ o. blocks-are;
          witnessed = λ o. sym ew ∙ z;
          first = λ o. sym ef ∙ sym (chose-first s n first said sure m r xs C h);
        }

-- THE CHILD ENTERED, or its entry zeroed
module _ (s : List ℕ) (n parent e : ℕ) (m codes : List ℕ) (r : ℕ) (xs : List ℕ) (count : block_count s ≡ n) (F : Found s n e m r xs) where
  pub entered-none : r ≡ 0 → (s' c' : List ℕ) → s' ≡ splice s e (zeros 128) → c' ≡ coded codes e 2 → Entered s n parent e m codes 0 xs s' m c'
  unfolding take_child
  entered-none z s' c' es ec =
      record {
        most = omega arith;
        own = λ h. absurd (omega arith);
        none = λ q left cs M. rw (count, F.none z cs M) (dropped-is s e 2 m codes s' c' es ec cs M);
        some = λ h. absurd (omega arith);
      }

  pub entered-some : 0 < r → (s' m' c' : List ℕ) → Adopted s parent e (take r xs) m codes s' m' c' → Entered s n parent e m codes r xs s' m' c'
  unfolding take_child
  entered-some h s' m' c' A =
      record {
        most = F.most;
        own = λ o. F.own h;
        none = λ z. absurd (omega arith);
        some = λ o left cs M.
            let R = A.reached cs M in
            let l : 0 < length (take r xs) = (F.own h).some in (
              (readied parent (st s cs codes) e (take r xs)).claimed,
              R.marks,
              rw (count, F.is h cs M, lt-ltb 0 (length (take r xs)) l, F.witnessed h, ← F.first h) (ap (λ (q : State). take_slots (take_child left (first_block s e)) (take r xs) q (slots (take r xs))) (sym (state-is (readied parent (st s cs codes) e (take r xs)) s' c' [] R.image R.codes-are))),
            );
      }
    where
      state-is : (q : State) (a c : List ℕ) → (cs : List ℕ) → a ≡ q.image → c ≡ q.codes → st a q.claimed c ≡ q
      state-is q a c cs ea ec = rw (ea, ec)

  pub entered-own : 0 < r → Own n (take (r - 0) (drop 0 xs))
  entered-own h = subst (Own n) (sym (front r xs)) (F.own h)

-- the chain that a claim has walked, by the numbers that were read
pub below_as : (s : List ℕ) (n e f k : ℕ) → Shape s n → f ≡ first_block s e → k ≡ blocks_of s e → ((i : ℕ) → i < k → get_or (chain (next s) f k) i 0 < n) → ChainBelow s n (first_block s e) (blocks_of s e)
below_as s n e f k h ef ek b = rw (← ef, ← ek) (record { shape = h; below = b })

-- a good block is chosen at least
pub chose-some : (s : List ℕ) (n b d : ℕ) (sure : Bool) (m : List ℕ) (r : ℕ) (xs : List ℕ) (g : Bool) → IsGood n m b g → g ≡ true → Chose s n b d sure m r xs → 0 < r
chose-some s n b d sure m r xs g G z C =
    let w = some-marks m in
    let a = and_split (in_volume n b) (not (has eqb b w.0)) (sym (G.told w.0 w.1) ∙ z) in
    let h : 1 ≤ length (take r xs) = subst (λ (ys : List ℕ). 1 ≤ length ys) (C.is w.0 w.1) (blocks-some s n w.0 b d sure a.0 (not-true _ a.1)) in
    let l : length (take r xs) ≡ r = length-take-le r xs (omega (arith, C.most, C.size)) in
    omega arith
