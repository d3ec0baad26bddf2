-- The loops over bytes and over the field of a name, at index i.
use Prim.Native.Nat.{ℕ, zero, suc, ◌+◌, ◌-◌, ◌*◌, ◌≤◌, ◌<◌, max}
use mathlib.Core.Bool.{Bool, true, false, not, cond, ◌&&◌, ◌||◌, and-true, and-false, or-true, false≢true}
use mathlib.Core.Logic.{⊎_elim}
use mathlib.Core.List.{List, [], ◌∷◌, ◌++◌}
use mathlib.Core.Path.{◌≡◌, refl, sym, ap, ◌∙◌, subst}
use native.Mathlib.Nat.{add-zero, le_of_suc-le-suc, not-suc-le-zero, suc-ne-zero, eq-or-lt_of_le}
use native.Mathlib.Numerals.{add-one}
use native.Mathlib.Omega.{arith}
use lib.Dec.{eqb, ltb, leb}
use lib.ListN.{length, get_or, take, drop, replicate, length-drop, get_or-eq_default}
use lib.Seq.{drop-cons, drop-length, take-append_seam}
use borrow.Author.Tests.{le-leb, lt-leb, lt-ltb, le-ltb, ne_eqb, eq-eqb, eqb-true, eqb-false}
use Rattle.std.specs.Int.{from_bool}
use Rattle.std.proofs.lemmas.List.{take-append-drop, get_or-take, length-take-le}
use Rattle.std.proofs.lemmas.Grind.{same_number_lists}
use Rattle.layout.specs.Limits.{max_name}
use Rattle.layout.specs.Lists.{every, same}
use Rattle.layout.specs.Bytes.{zeros, part}
use Rattle.layout.specs.Directory.{slash, name_byte, good_name, unpadded, name_of, padded}
use Rattle.layout.specs.Walks.Chains.{le32}
use Rattle.layout.specs.Walks.Entries.{field_ok, all_zero, Scanned, Clean}
use Rattle.layout.specs.Walks.Names.{ending, some_has, may_hold}
use Rattle.layout.proofs.Laws.Bytes.{get_d_part}
use Rattle.layout.proofs.Laws.Lists.{every_in, get_d-in}
use Rattle.layout.proofs.Laws.Names.{same-eq, same_refl, same-append, take-unpadded, unpadded-most, good_name-split, good_name-length}
use Rattle.layout.proofs.Laws.Tests.{and_split, and-join, is_false, true-not-false, lt-or-ge, below_more}

pub same-lengths : (a b : List ℕ) → (length a ≡ length b → ⊥) → same a b ≡ false
same-lengths a b h = is_false _ (λ t. h (ap length (same-eq a b t)))

pub same_end : (a b : List ℕ) (w : ℕ) → length a ≡ length b → eqb w 0 ≡ eqb w 0 && same (drop (length a) a) (drop (length a) b)
same_end a b w e = rw (drop-length a, e, drop-length b) (sym (and-true (eqb w 0)))

-- two bytes more: the worst of what was met is 0 as long as none differ
pub same_more : (a b : List ℕ) (i w d w' : ℕ) → i < length a → i < length b → d ≡ from_bool (not (eqb (get_or a i 0) (get_or b i 0))) → w' ≡ max w d
    → eqb w 0 && same (drop i a) (drop i b) ≡ eqb w' 0 && same (drop (i + 1) a) (drop (i + 1) b)
same_more a b i w d w' ha hb ed ew = rw (drop-cons a i 0 ha, drop-cons b i 0 hb, add-one) (go (eqb (get_or a i 0) (get_or b i 0)) ed)
  where
    go : (t : Bool) → d ≡ from_bool (not t) → eqb w 0 && (t && same (drop (suc i) a) (drop (suc i) b)) ≡ eqb w' 0 && same (drop (suc i) a) (drop (suc i) b)
    go true e =
        let q : w ≡ w' = omega arith in
        rw q
    go false e = rw (ne_eqb w' 0 (λ z. omega arith)) (and-false (eqb w 0))

-- all of some bytes, of two runs, of none
pub all_zero-every : (xs : List ℕ) → all_zero xs ≡ every (λ x. eqb x 0) xs
unfolding all_zero
all_zero-every [] = refl
all_zero-every (x ∷ xs) = ap (λ (t : Bool). eqb x 0 && t) (all_zero-every xs)

pub all_zero-append : (xs ys : List ℕ) → all_zero (xs ++ ys) ≡ all_zero xs && all_zero ys
unfolding all_zero
all_zero-append [] ys = refl
all_zero-append (x ∷ xs) ys = ap (λ (t : Bool). eqb x 0 && t) (all_zero-append xs ys) ∙ assoc (eqb x 0) (all_zero xs) (all_zero ys)
  where
    assoc : (a b c : Bool) → (a && (b && c)) ≡ ((a && b) && c)
    assoc true b c = refl
    assoc false b c = refl

pub all_zero-none : all_zero [] ≡ true
unfolding all_zero
all_zero-none = refl

pub all_zero-end : (s : List ℕ) (w : ℕ) → eqb w 0 ≡ eqb w 0 && all_zero (drop (length s) s)
unfolding all_zero
all_zero-end s w = rw drop-length (sym (and-true (eqb w 0)))

pub all_zero-more : (s : List ℕ) (i w w' : ℕ) → i < length s → w' ≡ max w (get_or s i 0)
    → eqb w 0 && all_zero (drop i s) ≡ eqb w' 0 && all_zero (drop (i + 1) s)
unfolding all_zero
all_zero-more s i w w' h e = rw (drop-cons s i 0 h, add-one) (go (eqb (get_or s i 0) 0) refl)
  where
    go : (t : Bool) → eqb (get_or s i 0) 0 ≡ t → eqb w 0 && (t && all_zero (drop (suc i) s)) ≡ eqb w' 0 && all_zero (drop (suc i) s)
    go true z =
        let x : get_or s i 0 ≡ 0 = eqb-true (get_or s i 0) 0 z in
        let q : w ≡ w' = omega arith in
        rw q
    go false z =
        let x : get_or s i 0 ≡ 0 → ⊥ = eqb-false (get_or s i 0) 0 z in
        rw (ne_eqb w' 0 (λ y. x (omega arith))) (and-false (eqb w 0))

all_zero-same : (s : List ℕ) → all_zero s ≡ same s (replicate (length s) 0)
unfolding all_zero
all_zero-same [] = refl
all_zero-same (x ∷ xs) = rw (all_zero-same xs)

-- the bytes before the first zero
nonzero : (x : ℕ) (xs : List ℕ) → (x ≡ 0 → ⊥) → unpadded (x ∷ xs) ≡ x ∷ unpadded xs
nonzero zero xs h = absurd (h refl)
nonzero (suc x) xs h = refl

module _ (f : List ℕ) (i : ℕ) (h : i < length f) where
  pub unpadded-end : get_or f i 0 ≡ 0 → unpadded (drop i f) ≡ []
  unpadded-end z = rw (drop-cons f i 0 h, z)

  pub unpadded-next : (get_or f i 0 ≡ 0 → ⊥) → unpadded (drop i f) ≡ get_or f i 0 ∷ unpadded (drop (i + 1) f)
  unpadded-next z = rw (drop-cons f i 0 h, add-one) (nonzero (get_or f i 0) (drop (suc i) f) z)

-- a good name
module _ (name : List ℕ) where
  pub good_name-empty : length name < 1 → good_name name ≡ false
  unfolding good_name
  good_name-empty h = rw (lt-leb 1 (length name) h)

  pub good_name-long : max_name < length name → good_name name ≡ false
  unfolding good_name
  good_name-long h = rw (le-leb 1 (length name) (omega arith), lt-leb (length name) max_name h)

  pub good_name-bytes : 1 ≤ length name → length name ≤ max_name → good_name name ≡ every name_byte name
  unfolding good_name
  good_name-bytes h g = rw (le-leb 1 (length name) h, le-leb (length name) max_name g)

  pub name_bytes-zero : (i : ℕ) → i < length name → get_or name i 0 ≡ 0 → every name_byte (drop i name) ≡ false
  name_bytes-zero i h z = rw (drop-cons name i 0 h, z)

  pub name_bytes-slash : (i : ℕ) → i < length name → get_or name i 0 ≡ slash → every name_byte (drop i name) ≡ false
  name_bytes-slash i h z = rw (drop-cons name i 0 h, z)

  pub name_bytes-next : (i : ℕ) → i < length name → (get_or name i 0 ≡ 0 → ⊥) → (get_or name i 0 ≡ slash → ⊥)
      → every name_byte (drop i name) ≡ every name_byte (drop (i + 1) name)
  name_bytes-next i h z w = rw (drop-cons name i 0 h, ne_eqb (get_or name i 0) 0 z, ne_eqb (get_or name i 0) slash w, add-one)

  pub name_bytes-end : (i : ℕ) → i ≡ length name → every name_byte (drop i name) ≡ true
  name_bytes-end i e = rw (e, drop-length name)

-- a field and a good name
unpadded-byte : (f : List ℕ) (j : ℕ) → j < length (unpadded f) → get_or f j 0 ≡ get_or (unpadded f) j 0
unpadded-byte [] j h = absurd (not-suc-le-zero h)
unpadded-byte (zero ∷ xs) j h = absurd (not-suc-le-zero h)
unpadded-byte (suc x ∷ xs) zero h = refl
unpadded-byte (suc x ∷ xs) (suc j) h = unpadded-byte xs j (le_of_suc-le-suc h)

unpadded-stop : (f : List ℕ) → get_or f (length (unpadded f)) 0 ≡ 0
unpadded-stop [] = refl
unpadded-stop (zero ∷ xs) = refl
unpadded-stop (suc x ∷ xs) = unpadded-stop xs

module _ (f name : List ℕ) where
  pub holds-longer : (get_or f (length name) 0 ≡ 0 → ⊥) → same (unpadded f) name ≡ false
  holds-longer h = is_false _ (λ t.
      let e : unpadded f ≡ name = same-eq (unpadded f) name t in
      h (ap (λ (l : List ℕ). get_or f (length l) 0) (sym e) ∙ unpadded-stop f))

  pub holds-differ : (j : ℕ) → j < length name → (get_or f j 0 ≡ get_or name j 0 → ⊥) → same (unpadded f) name ≡ false
  holds-differ j l h = is_false _ (λ t.
      let e : unpadded f ≡ name = same-eq (unpadded f) name t in
      h (unpadded-byte f j (rw e l) ∙ ap (λ (x : List ℕ). get_or x j 0) e))

-- the first bytes of a field, and a name, four bytes at a time
four-bytes : (a b c d e f g h : ℕ) → a < 256 → b < 256 → c < 256 → d < 256 → e < 256 → f < 256 → g < 256 → h < 256
    → a + b * 0x100 + c * 0x10000 + d * 0x1000000 ≡ e + f * 0x100 + g * 0x10000 + h * 0x1000000 → (a ≡ e) × (b ≡ f) × (c ≡ g) × (d ≡ h)
four-bytes a b c d e f g h la lb lc ld le lf lg lh q = (omega arith, omega arith, omega arith, omega arith)

module _ (f name : List ℕ) (l : length name ≤ length f) where
  pub begins-apart : (at : ℕ) → at + 4 ≤ length name → (le32 f at ≡ le32 name at → ⊥) → same (take (length name) f) name ≡ false
  begins-apart at h ne = is_false _ (λ t.
      let e : take (length name) f ≡ name = same-eq (take (length name) f) name t in
      let g : (j : ℕ) → j < length name → get_or f j 0 ≡ get_or name j 0 =
      λ j k. sym (get_or-take (length name) f j 0 k) ∙ ap (λ (x : List ℕ). get_or x j 0) e
      in
      let a = g at (omega arith) in
      let b = g (at + 1) (omega arith) in
      let c = g (at + 2) (omega arith) in
      let d = g (at + 3) (omega arith) in
      ne (rw (a, b, c, d) refl))

  pub begins-all : ((j : ℕ) → j < length name → get_or f j 0 ≡ get_or name j 0) → same (take (length name) f) name ≡ true
  begins-all g =
      let e = length-take-le (length name) f l in
      ap (λ (x : List ℕ). same x name) (same_number_lists (take (length name) f) name e (λ j k. get_or-take (length name) f j 0 (omega arith) ∙ g j (omega arith)))
      ∙ same_refl name

module _ (f name : List ℕ) (fits : (i : ℕ) → get_or f i 0 < 256) (fits' : (i : ℕ) → get_or name i 0 < 256) where
  pub word-bytes : (at : ℕ) → le32 f at ≡ le32 name at → (j : ℕ) → at ≤ j → j < at + 4 → get_or f j 0 ≡ get_or name j 0
  word-bytes at e j h k = go (j - at) (omega arith)
    where
      q : (get_or f at 0 ≡ get_or name at 0) × (get_or f (at + 1) 0 ≡ get_or name (at + 1) 0) × (get_or f (at + 2) 0 ≡ get_or name (at + 2) 0)
          × (get_or f (at + 3) 0 ≡ get_or name (at + 3) 0)
      q = four-bytes _ _ _ _ _ _ _ _ (fits at) (fits (at + 1)) (fits (at + 2)) (fits (at + 3)) (fits' at) (fits' (at + 1)) (fits' (at + 2)) (fits' (at + 3)) e

      put : (x : ℕ) → j ≡ x → get_or f x 0 ≡ get_or name x 0 → get_or f j 0 ≡ get_or name j 0
      put x i w = rw i w

      go : (d : ℕ) → j - at ≡ d → get_or f j 0 ≡ get_or name j 0
      go zero i = put at (omega arith) q.0
      go (suc zero) i = put (at + 1) (omega arith) q.1
      go (suc (suc zero)) i = put (at + 2) (omega arith) q.2
      go (suc (suc (suc zero))) i = put (at + 3) (omega arith) q.3
      go (suc (suc (suc (suc d)))) i = absurd (omega arith)

-- a field that is the same as a good name byte by byte, and then has a zero or ends
bytes-same : (f name : List ℕ) → every name_byte name ≡ true → ((j : ℕ) → j < length name → get_or f j 0 ≡ get_or name j 0) → get_or f (length name) 0 ≡ 0
    → unpadded f ≡ name
bytes-same [] [] good bytes stop = refl
bytes-same (zero ∷ xs) [] good bytes stop = refl
bytes-same (suc x ∷ xs) [] good bytes stop = absurd (suc-ne-zero x stop)
bytes-same f (zero ∷ ys) good bytes stop = absurd (false≢true good)
bytes-same [] (suc y ∷ ys) good bytes stop = absurd (suc-ne-zero y (sym (bytes 0 (omega arith))))
bytes-same (x ∷ xs) (suc y ∷ ys) good bytes stop =
    let e : x ≡ suc y = bytes 0 (omega arith) in
    let r = bytes-same xs ys (and_split (name_byte (suc y)) (every name_byte ys) good).1 (λ j h. bytes (suc j) (omega arith)) stop in
    rw (e, r)

pub holds-all : (f name : List ℕ) → good_name name ≡ true → ((j : ℕ) → j < length name → get_or f j 0 ≡ get_or name j 0) → get_or f (length name) 0 ≡ 0
    → same (unpadded f) name ≡ true
holds-all f name good bytes stop = rw (bytes-same f name (good_name-split name good).2 bytes stop) (same_refl name)

holds-bytes : (name rest : List ℕ) → every name_byte name ≡ true → get_or (name ++ rest) (length name) 0 ≡ 0 → unpadded (name ++ rest) ≡ name
holds-bytes [] [] good stop = refl
holds-bytes [] (zero ∷ ys) good stop = refl
holds-bytes [] (suc y ∷ ys) good stop = absurd (suc-ne-zero y stop)
holds-bytes (zero ∷ xs) rest good stop = absurd (false≢true good)
holds-bytes (suc x ∷ xs) rest good stop = ap (λ (l : List ℕ). suc x ∷ l) (holds-bytes xs rest (and_split (name_byte (suc x)) (every name_byte xs) good).1 stop)

-- a field that begins with a good name holds it where no byte of a name follows, and one that holds a name begins with it
pub holds-begun : (f name : List ℕ) → good_name name ≡ true → f ≡ name ++ drop (length name) f → eqb (get_or f (length name) 0) 0 ≡ same (unpadded f) name
holds-begun f name good e = go (eqb (get_or f (length name) 0) 0) refl
  where
    go : (t : Bool) → eqb (get_or f (length name) 0) 0 ≡ t → t ≡ same (unpadded f) name
    go true z =
        let stop : get_or f (length name) 0 ≡ 0 = eqb-true _ 0 z in
        let q = holds-bytes name (drop (length name) f) (good_name-split name good).2 (ap (λ (l : List ℕ). get_or l (length name) 0) (sym e) ∙ stop) in
        sym (ap (λ (l : List ℕ). same l name) (ap unpadded e ∙ q) ∙ same_refl name)
    go false z = sym (holds-longer f name (eqb-false _ 0 z))

pub holds-other : (f name : List ℕ) (r : Bool) → ((rest : List ℕ) → f ≡ name ++ rest → r ≡ true) → r ≡ false → r ≡ same (unpadded f) name
holds-other f name r begins e = e ∙ sym (is_false _ (λ t.
    let u : unpadded f ≡ name = same-eq (unpadded f) name t in
    let b = subst (λ (l : List ℕ). take (length l) f ≡ l) u (take-unpadded f) in
    false≢true (sym e ∙ begins (drop (length name) f) (sym (take-append-drop (length name) f) ∙ ap (λ (l : List ℕ). l ++ drop (length name) f) b))))

-- so a field that stops where the name does holds it if it begins with it, and not else
pub holds-begins : (f name : List ℕ) → good_name name ≡ true → get_or f (length name) 0 ≡ 0 → same (take (length name) f) name ≡ same (unpadded f) name
holds-begins f name good stop = go (same (take (length name) f) name) refl
  where
    begun : same (take (length name) f) name ≡ true → f ≡ name ++ drop (length name) f
    begun t = sym (take-append-drop (length name) f) ∙ ap (λ (l : List ℕ). l ++ drop (length name) f) (same-eq (take (length name) f) name t)

    go : (t : Bool) → same (take (length name) f) name ≡ t → same (take (length name) f) name ≡ same (unpadded f) name
    go true t = t ∙ sym (eq-eqb _ 0 stop) ∙ holds-begun f name good (begun t)
    go false t =
        holds-other f name _
        (λ rest e. ap (λ (l : List ℕ). same l name) (ap (take (length name)) e ∙ take-append_seam name rest) ∙ same_refl name)
        t

-- a field, byte by byte
pub scanned-none : (f : List ℕ) → Scanned f 0 0 0
scanned-none f =
    record {
      low = omega arith;
      high = omega arith;
      top = λ h z. omega arith;
      rest = λ j h l. absurd (omega arith);
      full = λ e j h z. omega arith;
      gap = λ h. absurd (omega arith);
    }

module _ (f : List ℕ) (i count last : ℕ) (g : Scanned f i count last) where
  scanned-zero : get_or f i 0 ≡ 0 → Scanned f (i + 1) (count + 0) last
  scanned-zero z =
      let e : count + 0 ≡ count = omega arith in
      rw e
      record {
        low = g.low;
        high = omega (arith, g.high);
        top = g.top;
        rest = below_more (λ j. get_or f j 0 ≡ 0) last i g.rest z;
        full = g.full;
        gap = g.gap;
      }

  scanned-byte : (get_or f i 0 ≡ 0 → ⊥) → Scanned f (i + 1) (count + 1) (i + 1)
  scanned-byte nz =
      record {
        low = omega (arith, g.low, g.high);
        high = omega arith;
        top = λ h z. nz (ap (λ (j : ℕ). get_or f j 0) (sym e) ∙ z);
        rest = λ j h l. absurd (omega arith);
        full = λ t j h z. below_more (λ j. get_or f j 0 ≡ 0 → ⊥) 0 i
            (λ j l u. g.full (omega (arith, g.low, g.high)) j (omega (arith, g.low, g.high))) nz j (omega arith) h z;
        gap = λ h. ⊎_elim
            (λ c. (last, omega (arith, g.high), g.rest last (omega arith) (omega (arith, g.high))))
            (λ c. let w = g.gap c in (w.0, omega (arith, g.high), w.2))
            (eq-or-lt_of_le g.low);
      }
    where
      e : i + 1 - 1 ≡ i
      e = omega arith

  pub scanned-more : (x c l : ℕ) → x ≡ get_or f i 0 → c ≡ cond (eqb x 0) 0 1 → (p : ℕ) → p ≡ cond (eqb x 0) 0 (i + 1) → l ≡ max last p
      → Scanned f (i + 1) (count + c) l
  scanned-more x c l ex ec p ep el = go (eqb x 0) refl ep
    where
      go : (t : Bool) → eqb x 0 ≡ t → p ≡ cond t 0 (i + 1) → Scanned f (i + 1) (count + c) l
      go true e q =
          let r : l ≡ last = omega arith in
          rw (ec, r, e) (scanned-zero (sym ex ∙ eqb-true x 0 e))
      go false e q =
          let r : l ≡ i + 1 = omega (arith, g.high) in
          rw (ec, r, e) (scanned-byte (λ z. eqb-false x 0 e (ex ∙ z)))

pub clean-none : (f : List ℕ) → Clean f 0 0
clean-none f = record { most = omega arith; none = λ e j h z. omega arith; some = λ h. absurd (omega arith) }

pub clean-more : (f : List ℕ) (i clean : ℕ) → Clean f i clean → (x c : ℕ) → x ≡ get_or f i 0 → c ≡ cond (eqb x slash) 0 1 → Clean f (i + 1) (clean + c)
clean-more f i clean g x c ex ec = go (eqb x slash) refl
  where
    go : (t : Bool) → eqb x slash ≡ t → Clean f (i + 1) (clean + c)
    go true e =
        let z : clean + 0 ≡ clean = omega arith in
        rw (ec, e, z)
        record {
          most = omega (arith, g.most);
          none = λ t j h y. absurd (omega (arith, g.most));
          some = λ h. (i, omega arith, sym ex ∙ eqb-true x slash e);
        }
    go false e =
        rw (ec, e)
        record {
          most = omega (arith, g.most);
          none = λ t j h y. below_more (λ j. get_or f j 0 ≡ slash → ⊥) 0 i (λ j l u. g.none (omega arith) j u) (λ z. eqb-false x slash e (ex ∙ z)) j (omega arith) h y;
          some = λ h. let w = g.some (omega arith) in (w.0, omega (arith, w.1), w.2);
        }

good_name-clean : (name : List ℕ) (i : ℕ) → good_name name ≡ true → i < length name → get_or name i 0 ≡ slash → ⊥
good_name-clean name i e h z =
    false≢true (sym (ap name_byte z) ∙ every_in name_byte name (get_or name i 0) (good_name-split name e).2 (get_d-in name i 0 h))

-- what the whole field is
unpadded-length : (f : List ℕ) (k : ℕ) → k ≤ length f → ((j : ℕ) → j < k → get_or f j 0 ≡ 0 → ⊥) → get_or f k 0 ≡ 0 → length (unpadded f) ≡ k
unpadded-length [] k h nz z = omega arith
unpadded-length (zero ∷ xs) zero h nz z = refl
unpadded-length (zero ∷ xs) (suc k) h nz z = absurd (nz 0 (omega arith) refl)
unpadded-length (suc x ∷ xs) zero h nz z = absurd (suc-ne-zero x z)
unpadded-length (suc x ∷ xs) (suc k) h nz z = ap suc (unpadded-length xs k (le_of_suc-le-suc h) (λ j l. nz (suc j) (omega arith)) z)

unpadded-before : (f : List ℕ) (j : ℕ) → get_or f j 0 ≡ 0 → length (unpadded f) ≤ j
unpadded-before [] j z = omega arith
unpadded-before (zero ∷ xs) j z = omega arith
unpadded-before (suc x ∷ xs) zero z = absurd (suc-ne-zero x z)
unpadded-before (suc x ∷ xs) (suc j) z = let h = unpadded-before xs j z in omega arith

unpadded-good : (f : List ℕ) → ((j : ℕ) → j < length (unpadded f) → get_or f j 0 ≡ slash → ⊥) → every name_byte (unpadded f) ≡ true
unpadded-good [] h = refl
unpadded-good (zero ∷ xs) h = refl
unpadded-good (suc x ∷ xs) h =
    rw (ne_eqb (suc x) 0 (suc-ne-zero x), ne_eqb (suc x) slash (h 0 (omega arith))) (unpadded-good xs (λ j l. h (suc j) (omega arith)))

all_zero-all : (f : List ℕ) (k : ℕ) → ((j : ℕ) → k ≤ j → j < length f → get_or f j 0 ≡ 0) → all_zero (drop k f) ≡ true
unfolding all_zero
all_zero-all [] zero h = refl
all_zero-all [] (suc k) h = refl
all_zero-all (x ∷ xs) zero h =
    and-join (eq-eqb x 0 (h 0 (omega arith) (omega arith))) (all_zero-all xs zero (λ j a b. h (suc j) (omega arith) (omega arith)))
all_zero-all (x ∷ xs) (suc k) h = all_zero-all xs k (λ j a b. h (suc j) (omega arith) (omega arith))

pub all_zero-byte : (f : List ℕ) (k j : ℕ) → all_zero (drop k f) ≡ true → k ≤ j → get_or f j 0 ≡ 0
unfolding all_zero
all_zero-byte [] k j t h = refl
all_zero-byte (x ∷ xs) zero zero t h = eqb-true x 0 (and_split (eqb x 0) (all_zero xs) t).0
all_zero-byte (x ∷ xs) zero (suc j) t h = all_zero-byte xs zero j (and_split (eqb x 0) (all_zero xs) t).1 (omega arith)
all_zero-byte (x ∷ xs) (suc k) zero t h = absurd (not-suc-le-zero h)
all_zero-byte (x ∷ xs) (suc k) (suc j) t h = all_zero-byte xs k j t (le_of_suc-le-suc h)

module _ (f : List ℕ) (size : length f ≡ 80) where
  -- the name's end, and zeros from there on
  rest-zero : same f (padded (unpadded f)) ≡ all_zero (drop (length (unpadded f)) f)
  unfolding zeros
  rest-zero =
      let l = unpadded-most f in
      let r : 80 - length (unpadded f) ≡ length (drop (length (unpadded f)) f) = simp length-drop (omega arith) in
      same-append f (unpadded f) (replicate (80 - length (unpadded f)) 0) (omega arith) ∙ rw (take-unpadded f, same_refl (unpadded f), r, all_zero-same)

  field-good : field_ok f ≡ true → good_name (unpadded f) ≡ true
  unfolding field_ok
  field-good t = (and_split (good_name (unpadded f)) _ t).0

  field-zero : field_ok f ≡ true → (j : ℕ) → length (unpadded f) ≤ j → get_or f j 0 ≡ 0
  unfolding field_ok
  field-zero t j h = all_zero-byte f (length (unpadded f)) j (sym rest-zero ∙ (and_split (good_name (unpadded f)) _ t).1) h

  module _ (count last clean : ℕ) (g : Scanned f 80 count last) (s : Clean f 80 clean) where
    pub field_ok-gap : (count ≡ last → ⊥) → field_ok f ≡ false
    field_ok-gap ne = is_false _ (λ t. go t (g.gap (omega (arith, g.low))))
      where
        go : field_ok f ≡ true → (j : ℕ) × (j + 1 < last) × (get_or f j 0 ≡ 0) → ⊥
        go t w =
            let b = unpadded-before f w.0 w.2 in
            g.top (omega (arith, w.1)) (field-zero t (last - 1) (omega (arith, b, w.1)))

    pub field_ok-slash : (clean ≡ 80 → ⊥) → field_ok f ≡ false
    field_ok-slash ne = is_false _ (λ t. go t (s.some (omega (arith, s.most))))
      where
        go : field_ok f ≡ true → (j : ℕ) × (j < 80) × (get_or f j 0 ≡ slash) → ⊥
        go t w =
            ⊎_elim (λ l. good_name-clean (unpadded f) w.0 (field-good t) l (sym (unpadded-byte f w.0 l) ∙ w.2))
            (λ l. let z = field-zero t w.0 l in let y = w.2 in omega (arith, z, y)) (lt-or-ge w.0 (length (unpadded f)))

    module _ (e : count ≡ last) (c : clean ≡ 80) where
      ends : get_or f count 0 ≡ 0
      ends = ⊎_elim (λ l. g.rest count (omega (arith, e)) l) (λ l. get_or-eq_default f 0 (omega (arith, size, l))) (lt-or-ge count 80)

      name-long : length (unpadded f) ≡ count
      name-long = unpadded-length f count (omega (arith, size, e, g.high)) (λ j a. g.full e j (omega (arith, e))) ends

      pub field_ok-count : ltb 0 count ≡ field_ok f
      unfolding field_ok good_name
      field_ok-count =
          let z : all_zero (drop (length (unpadded f)) f) ≡ true = all_zero-all f (length (unpadded f)) (λ j a b. g.rest j (omega (arith, name-long, e)) (omega (arith, size))) in
          let q = unpadded-good f (λ j a. s.none c j (omega (arith, name-long, e, g.high))) in
          rw (rest-zero, z, q, name-long, le-leb count max_name (omega (arith, e, g.high))) (go (leb 1 count))
        where
          go : (t : Bool) → t ≡ ((t && true) && true) && true
          go true = refl
          go false = refl

-- the ending of a name
pub ending-short : (name : List ℕ) → length name < 4 → 0 ≡ ending name
unfolding ending
ending-short name h = rw (lt-ltb _ _ h)

pub ending-word : (name : List ℕ) → 4 ≤ length name → le32 name (length name - 4) ≡ ending name
unfolding ending
ending-word name h = rw (le-ltb _ _ h)

-- whether a block may hold a name
pub may_hold-short : (s name : List ℕ) → length name < 4 → true ≡ may_hold s name
unfolding may_hold
may_hold-short s name h = rw (lt-ltb _ _ h)

pub may_hold-some : (s name : List ℕ) → 4 ≤ length name → some_has s (44 + length name) (ending name) ≡ may_hold s name
unfolding may_hold
may_hold-some s name h = rw (le-ltb _ _ h)

some-has : (s : List ℕ) (at w i : ℕ) → i < 4 → le32 s (at + 128 * i) ≡ w → some_has s at w ≡ true
unfolding some_has
some-has s at w i l e = go i l (eq-eqb (le32 s (at + 128 * i)) w e)
  where
    go : (i : ℕ) → i < 4 → eqb (le32 s (at + 128 * i)) w ≡ true → (eqb (le32 s at) w || (eqb (le32 s (at + 128)) w || (eqb (le32 s (at + 256)) w || eqb (le32 s (at + 384)) w))) ≡ true
    go zero h t = let q : eqb (le32 s at) w ≡ true = subst (λ (x : ℕ). eqb (le32 s x) w ≡ true) (add-zero at) t in rw q
    go (suc zero) h t = rw (t, or-true)
    go (suc (suc zero)) h t = rw (t, or-true, or-true)
    go (suc (suc (suc zero))) h t = rw (t, or-true, or-true, or-true)
    go (suc (suc (suc (suc i)))) h t = absurd (omega arith)

-- an entry that has a good name has its ending, so that its block may hold it
held-ending : (s name : List ℕ) (i : ℕ) → good_name name ≡ true → 4 ≤ length name → same (name_of s (128 * i)) name ≡ true → le32 s (44 + length name + 128 * i) ≡ ending name
unfolding name_of
held-ending s name i good h t =
    let f : List ℕ = part s (128 * i + 48) 80 in
    let e : unpadded f ≡ name = same-eq (unpadded f) name t in
    let few : length name ≤ 80 = good_name-length name good in
    let at : (x j : ℕ) → j < length name → x ≡ 128 * i + 48 + j → get_or s x 0 ≡ get_or name j 0 =
    λ x j l q. ap (λ (y : ℕ). get_or s y 0) q ∙ sym (get_d_part s (128 * i + 48) 80 j (omega arith)) ∙ unpadded-byte f j (rw e l) ∙ ap (λ (y : List ℕ). get_or y j 0) e in
    let k : ℕ = length name - 4 in
    let a = at (44 + length name + 128 * i) k (omega arith) (omega arith) in
    let b = at (44 + length name + 128 * i + 1) (k + 1) (omega arith) (omega arith) in
    let c = at (44 + length name + 128 * i + 2) (k + 2) (omega arith) (omega arith) in
    let d = at (44 + length name + 128 * i + 3) (k + 3) (omega arith) (omega arith) in
    rw (a, b, c, d) (ending-word name h)

pub may_hold-none : (s name : List ℕ) (i : ℕ) → good_name name ≡ true → false ≡ may_hold s name → i < 4 → same (name_of s (128 * i)) name ≡ false
may_hold-none s name i good m l = is_false _ λ t.
    ⊎_elim (λ h. true-not-false (sym (may_hold-short s name h)) (sym m))
    (λ h. true-not-false (some-has s (44 + length name) (ending name) i l (held-ending s name i good h t)) (may_hold-some s name h ∙ sym m))
    (lt-or-ge (length name) 4)
