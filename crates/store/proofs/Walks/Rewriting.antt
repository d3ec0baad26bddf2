-- A file rewritten with one revision more.
use Prim.Native.Nat.{ℕ, zero, suc, ◌+◌, ◌-◌, ◌*◌, ◌≤◌, ◌<◌}
use mathlib.Core.Path.{◌≡◌, refl, sym, ap, ◌∙◌}
use mathlib.Core.Bool.{Bool, true, false, cond}
use mathlib.Core.List.{List, [], ◌∷◌, ◌++◌, append-nil, append_assoc}
use mathlib.Core.Logic.{◌⊎◌, inl, inr, ⊎_elim}
use native.Mathlib.Omega.{arith}
use native.Mathlib.Numerals.{add-one}
use borrow.Author.Tests.{lt-ltb, le-ltb}
use lib.ListN.{length, take, drop, length-append, length-drop}
use lib.Dec.{ltb}
use lib.Seq.{drop_at, take_at, take-length, take-append-le, take-append-add}
use Rattle.layout.specs.Lists.{joined}
use Rattle.layout.specs.Bytes.{bytes4, zeros, part, splice}
use Rattle.layout.proofs.Laws.Lists.{in-drop}
use Rattle.layout.proofs.Laws.Bytes.{length_part, part-part, part-rest, length-bytes4, length-zeros, zeros-add, length-splice, splice-append, splice-three}
use Rattle.layout.proofs.Laws.Tests.{lt-or-ge}
use Rattle.store.specs.Settings.{max_setting, max_revisions, Revision, record_bytes, whole_file, encoded, latest, added}
use Rattle.store.specs.Walks.Forms.{max_form, in_room, Summary, dropped_by, length_after, revision}
use Rattle.store.specs.Claims.{Bytes}
use Rattle.store.proofs.Laws.Form.{body-length}
use Rattle.store.proofs.Laws.Added.{read_some}
use Rattle.store.proofs.Laws.Whole.{bytes_drop, bytes_take, records-whole}

-- what a further revision drops
pub dropped-none : (count oldest : ℕ) → count < max_revisions → dropped_by count oldest ≡ 0
dropped-none count oldest h = rw (lt-ltb _ _ h)

pub dropped-oldest : (count oldest : ℕ) → max_revisions ≤ count → dropped_by count oldest ≡ oldest
dropped-oldest count oldest h = rw (le-ltb _ _ h)

pub dropped-most : (count oldest used : ℕ) → oldest ≤ used → dropped_by count oldest ≤ used
dropped-most count oldest used h = go (ltb count max_revisions)
  where
    go : (t : Bool) → cond t 0 oldest ≤ used
    go true = omega arith
    go false = h

-- a record written in two steps
pub record-put : (s bytes : List ℕ) (at number : ℕ) (t u : List ℕ) → at + 5 + length bytes ≤ length s → t ≡ splice s at (length bytes ∷ bytes4 number)
    → u ≡ splice t (at + 5) (part bytes 0 (length bytes)) → u ≡ splice s at (record_bytes (revision number bytes))
unfolding record_bytes
record-put s bytes at number t u h e f =
    let l = length-bytes4 number in
    let k : at + length (length bytes ∷ bytes4 number) ≡ at + 5 = omega arith in
    f ∙ rw (e, take-length) (rw k at (splice-append s at (length bytes ∷ bytes4 number) bytes (omega arith)))

-- records in two parts
joined-parts : (rs : List Revision) (j : ℕ) → joined record_bytes rs ≡ joined record_bytes (take j rs) ++ joined record_bytes (drop j rs)
joined-parts rs zero = refl
joined-parts [] (suc j) = refl
joined-parts (r ∷ rs) (suc j) = ap (λ (ys : List ℕ). record_bytes r ++ ys) (joined-parts rs j) ∙ sym (append_assoc (record_bytes r) (joined record_bytes (take j rs)) (joined record_bytes (drop j rs)))

joined_snoc : (rs : List Revision) (r : Revision) → joined record_bytes (rs ++ (r ∷ [])) ≡ joined record_bytes rs ++ record_bytes r
joined_snoc [] r = append-nil (record_bytes r)
joined_snoc (x ∷ rs) r = ap (λ (ys : List ℕ). record_bytes x ++ ys) (joined_snoc rs r) ∙ sym (append_assoc (record_bytes x) (joined record_bytes rs) (record_bytes r))

length-record_bytes : (r : Revision) → length (record_bytes r) ≡ 5 + length r.bytes
unfolding record_bytes bytes4
length-record_bytes r = omega arith

whole_length : (rs : List Revision) → length (whole_file rs) ≡ 5 + length (joined record_bytes rs)
unfolding whole_file bytes4
whole_length rs = omega arith

module _ (old : List ℕ) (used count last oldest : ℕ) (small : Bytes old) (long : length old ≡ max_form) (S : Summary old used count last oldest) where
  abbrev rs : List Revision
  rs = in_room old used

  abbrev xs : List ℕ
  xs = part old 5 (used - 5)

  abbrev j : ℕ
  j = length rs - 15

  abbrev d : ℕ
  d = dropped_by count oldest

  xs-long : length xs ≡ used - 5
  xs-long = let a = S.low in let b = S.high in length_part old 5 (used - 5) (omega arith)

  body : joined record_bytes rs ≡ xs
  body = records-whole max_revisions xs rs (bytes_take (used - 5) (drop 5 old) (bytes_drop 5 old small)) S.read

  pub standing-length : length (whole_file rs) ≡ used
  standing-length = let a = S.low in let l = xs-long in let b = ap length body in let w = whole_length rs in omega arith

  few : length rs ≤ 16
  few = (read_some max_revisions xs rs S.read).0

  dropped-is : d ≡ length (joined record_bytes (take j rs))
  dropped-is = ⊎_elim
      (λ h.
      let m = S.many in
      let z : length rs - 15 ≡ 0 = omega arith in
      dropped-none count oldest h ∙ ap (λ (k : ℕ). length (joined record_bytes (take k rs))) (sym z))
      (λ h.
      let m = S.many in
      let f = few in
      let z : length rs - 15 ≡ 1 = omega arith in
      dropped-oldest count oldest h ∙ S.oldest-is ∙ ap (λ (k : ℕ). length (joined record_bytes (take k rs))) (sym z))
      (lt-or-ge count max_revisions)

  kept-body : drop d xs ≡ joined record_bytes (drop j rs)
  kept-body = ap (drop d) (sym body ∙ joined-parts rs j) ∙ drop_at (joined record_bytes (take j rs)) (joined record_bytes (drop j rs)) d (sym dropped-is)

  split-length : d + length (joined record_bytes (drop j rs)) ≡ used - 5
  split-length =
      let a = dropped-is in
      let b = ap length (joined-parts rs j) ∙ length-append (joined record_bytes (take j rs)) (joined record_bytes (drop j rs)) in
      let e = ap length body in
      let l = xs-long in
      omega arith

  pub oldest-most : oldest ≤ used
  oldest-most =
      let a = S.oldest-is in
      let b = ap length (joined-parts rs 1) ∙ length-append (joined record_bytes (take 1 rs)) (joined record_bytes (drop 1 rs)) in
      let e = ap length body in
      let l = xs-long in
      omega arith

  dropped-low : 5 + d ≤ used
  dropped-low = let a = split-length in let b = S.low in omega arith

  kept-few : used - (5 + d) ≤ 3075
  kept-few =
      let a = split-length in
      let b = S.low in
      let s = (read_some max_revisions xs rs S.read).1 in
      let m = body-length (drop j rs) (λ r i. s r (in-drop r j rs i)) in
      let l = length-drop j rs in
      let f = few in
      fifteen (length rs) (length (drop j rs)) (length (joined record_bytes (drop j rs))) f l m a b
    where
      fifteen : (n k b : ℕ) → n ≤ 16 → k ≡ n - (n - 15) → b ≤ 205 * k → d + b ≡ used - 5 → 5 ≤ used → used - (5 + d) ≤ 3075
      fifteen n k b f l m a h = let q : k ≤ 15 = omega arith in omega arith

  -- the same, of the number that the code has
  pub keeps : (x : ℕ) → x ≡ d → (5 + x ≤ used) × (used - (5 + x) ≤ 3075)
  keeps x e = rw e (dropped-low, kept-few)

  kept-is : part old (5 + d) (used - (5 + d)) ≡ joined record_bytes (drop j rs)
  kept-is =
      let a = dropped-low in
      let b = S.high in
      let l = xs-long in
      let e : used - (5 + d) ≡ length xs - d = omega arith in
      sym (part-part old 5 (used - 5) d (used - (5 + d)) (omega arith) (omega arith)) ∙ ap (λ (k : ℕ). part xs d k) e ∙ part-rest xs d ∙ kept-body

  module _ (bytes : List ℕ) (short : length bytes ≤ max_setting) where
    abbrev new : Revision
    new = revision (suc (latest rs)) bytes

    body-after : joined record_bytes (added rs bytes) ≡ joined record_bytes (drop j rs) ++ record_bytes new
    unfolding added
    body-after = joined_snoc (drop j rs) new

    length-is : length (whole_file (added rs bytes)) ≡ 5 + (used - (5 + d)) + 5 + length bytes
    length-is =
        let a = whole_length (added rs bytes) in
        let b = ap length body-after ∙ length-append (joined record_bytes (drop j rs)) (record_bytes new) in
        let e = length-record_bytes new in
        let s = split-length in
        let l = dropped-low in
        omega arith

    pub added-length : length (whole_file (added rs bytes)) ≡ length_after used count oldest (length bytes)
    unfolding length_after
    added-length = let l = dropped-low in length-is ∙ omega arith

    pub added-most : length_after used count oldest (length bytes) ≤ max_form
    unfolding length_after
    added-most = let l = dropped-low in let k = kept-few in omega arith

    -- the four runs that fill the new room
    module _ (room t₁ t₂ t₃ t₄ : List ℕ) (x kept : ℕ) (xe : x ≡ d) (ke : kept ≡ used - (5 + x)) (rl : length room ≡ max_form) (number : ℕ) (ne : number ≡ last + 1)
        (e₁ : t₁ ≡ splice room 0 (1 ∷ bytes4 (5 + kept + 5 + length bytes)))
        (e₂ : t₂ ≡ splice t₁ 5 (part old (5 + x) kept))
        (e₃ : t₃ ≡ splice t₂ (5 + kept) (record_bytes (revision number bytes)))
        (e₄ : t₄ ≡ splice t₃ (5 + kept + 5 + length bytes) (zeros (length t₃ - (5 + kept + 5 + length bytes)))) where
      abbrev u : ℕ
      u = 5 + kept + 5 + length bytes

      abbrev start : List ℕ
      start = 1 ∷ bytes4 u

      abbrev K : List ℕ
      K = joined record_bytes (drop j rs)

      fits : u ≤ max_form
      fits = let k = kept-few in omega arith

      start-long : length start ≡ 5
      start-long = let l = length-bytes4 u in omega arith

      K-long : length K ≡ kept
      K-long = let a = split-length in let b = dropped-low in omega arith

      new_is : revision number bytes ≡ new
      new_is = ap (λ (k : ℕ). revision k bytes) (ne ∙ ap (λ (k : ℕ). k + 1) S.latest-is ∙ add-one (latest rs))

      copied : part old (5 + x) kept ≡ K
      copied = rw (ke, xe) kept-is

      f₂ : t₂ ≡ splice room 0 (start ++ K)
      f₂ =
          let a = start-long in
          let b = K-long in
          let f = fits in
          let z : 0 + length start ≡ 5 = omega arith in
          e₂ ∙ rw (e₁, copied) (rw z at (splice-append room 0 start K (omega arith)))

      front_long : length (start ++ K) ≡ 5 + kept
      front_long = let a = start-long in let b = K-long in length-append start K ∙ omega arith

      R-long : length (record_bytes new) ≡ 5 + length bytes
      R-long = length-record_bytes new

      f₃ : t₃ ≡ splice (splice room 0 (start ++ K)) (5 + kept) (record_bytes new)
      f₃ = e₃ ∙ rw (f₂, new_is)

      t₃-long : length t₃ ≡ max_form
      t₃-long =
          let a = front_long in
          let b = R-long in
          let f = fits in
          let x : length (splice room 0 (start ++ K)) ≡ length room = length-splice room 0 (start ++ K) (omega arith) in
          ap length f₃ ∙ length-splice (splice room 0 (start ++ K)) (5 + kept) (record_bytes new) (omega arith) ∙ x ∙ rl

      runs : t₄ ≡ (start ++ K) ++ (record_bytes new ++ zeros (max_form - u))
      runs =
          let a = front_long in
          let b = R-long in
          let f = fits in
          let z = length-zeros (max_form - u) in
          e₄ ∙ rw (t₃-long, f₃) (splice-three room (start ++ K) (record_bytes new) (zeros (max_form - u)) (5 + kept) u (omega arith) (sym a) (omega arith))

      whole_is : whole_file (added rs bytes) ≡ start ++ (K ++ record_bytes new)
      unfolding whole_file
      whole_is =
          let b = body-after in
          let l : 5 + length (K ++ record_bytes new) ≡ u = let a = K-long in let c = R-long in let e = length-append K (record_bytes new) in omega arith in
          rw (b, l)

      u-is : length (whole_file (added rs bytes)) ≡ u
      u-is = length-is ∙ rw (← xe, ← ke)

      pub rewritten-length : u ≡ length (whole_file (added rs bytes))
      rewritten-length = sym u-is

      pub rewritten-bytes : t₄ ≡ encoded (added rs bytes) max_form
      unfolding encoded
      rewritten-bytes =
          runs ∙ append_assoc start K (record_bytes new ++ zeros (max_form - u)) ∙ ap (λ (l : List ℕ). start ++ l) (sym (append_assoc K (record_bytes new) (zeros (max_form - u))))
          ∙ sym (append_assoc start (K ++ record_bytes new) (zeros (max_form - u))) ∙ sym (rw (u-is, whole_is))

-- the first k bytes do not depend on the size
take-zeros : (r p : ℕ) → r ≤ p → take r (zeros p) ≡ zeros r
take-zeros r p h =
    let e : r + (p - r) ≡ p = omega arith in
    ap (λ (k : ℕ). take r (zeros k)) (sym e) ∙ ap (take r) (zeros-add r (p - r)) ∙ take_at (zeros r) (zeros (p - r)) r (length-zeros r)

pub encoded-take : (qs : List Revision) (k a b : ℕ) → (k ≤ length (whole_file qs)) ⊎ ((k ≤ a) × (k ≤ b)) → take k (encoded qs a) ≡ take k (encoded qs b)
unfolding encoded
encoded-take qs k a b (inl h) = take-append-le k (whole_file qs) _ h ∙ sym (take-append-le k (whole_file qs) _ h)
encoded-take qs k a b (inr h) = ⊎_elim
    (λ g. take-append-le k (whole_file qs) _ (omega arith) ∙ sym (take-append-le k (whole_file qs) _ (omega arith)))
    (λ g. past a g h.0 ∙ sym (past b g h.1))
    (lt-or-ge k (length (whole_file qs)))
  where
    past : (size : ℕ) → length (whole_file qs) ≤ k → k ≤ size → take k (whole_file qs ++ zeros (size - length (whole_file qs))) ≡ whole_file qs ++ zeros (k - length (whole_file qs))
    past size g l =
        let e : k ≡ length (whole_file qs) + (k - length (whole_file qs)) = omega arith in
        ap (λ (i : ℕ). take i (whole_file qs ++ zeros (size - length (whole_file qs)))) e ∙ take-append-add (whole_file qs) (zeros (size - length (whole_file qs))) (k - length (whole_file qs))
        ∙ ap (λ (z : List ℕ). whole_file qs ++ z) (take-zeros (k - length (whole_file qs)) (size - length (whole_file qs)) (omega arith))
