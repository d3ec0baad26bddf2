-- The records of a file one by one: the clauses of `records_in`, and the turns of `scan` and `find_record`.
use Prim.Native.Nat.{ℕ, zero, suc, ◌+◌, ◌-◌, ◌*◌, ◌≤◌, ◌<◌}
use mathlib.Core.Path.{◌≡◌, refl, sym, ap, ◌∙◌, subst}
use mathlib.Core.Bool.{Bool, true, false, ◌&&◌}
use mathlib.Core.List.{List, [], ◌∷◌, ◌++◌, append-nil}
use mathlib.Core.Logic.{◌⊎◌, inl, inr, ⊎_elim}
use native.Mathlib.Omega.{arith}
use native.Mathlib.Decide.{ℕ_discrete}
use borrow.Author.Tests.{eqb-true, eq-eqb, ne_eqb, leb-true, le-leb, lt-leb, lt-ltb, le-ltb}
use lib.ListN.{length, get_or, take, drop, length-append, length-drop}
use lib.Dec.{eqb, leb, ltb}
use lib.Seq.{drop-drop, get_or-drop}
use Rattle.layout.specs.Lists.{joined}
use Rattle.layout.specs.Bytes.{be32, bytes4, part}
use Rattle.layout.proofs.Laws.Bytes.{length_part, be32-same}
use Rattle.layout.proofs.Laws.Tests.{and_split, true-not-false, lt-or-ge}
use Rattle.store.specs.Settings.{max_setting, max_revisions, Revision, record_bytes, Found, broken, held, before, records_in, follow, numbers_ok, numbered, latest_after, latest}
use Rattle.store.specs.Put.{held_in}
use Rattle.store.specs.Get.{stands, data_of}
use Rattle.store.specs.Walks.Forms.{length_at, follows_on, held_by, Counted, Placed}
use Rattle.store.proofs.Laws.Added.{not-broken, held_same, held-cond, held_none, held-before, latest-snoc}

-- the first record of some bytes
abbrev pub first_in : List ℕ → Revision
first_in xs = record { number = be32 xs 1; bytes = part xs 5 (get_or xs 0 0) }

pub records-end : (fuel : ℕ) (xs : List ℕ) → length xs ≡ 0 → records_in fuel xs ≡ held []
unfolding records_in
records-end zero xs h = rw (eq-eqb _ _ h)
records-end (suc fuel) xs h = rw (eq-eqb _ _ h)

module _ (xs : List ℕ) (some : 0 < length xs) where
  pub records-full : records_in zero xs ≡ broken
  unfolding records_in
  records-full = rw (ne_eqb (length xs) 0 (λ z. omega arith))

  pub records-next : (fuel : ℕ) → get_or xs 0 0 ≤ max_setting → 5 + get_or xs 0 0 ≤ length xs
      → records_in (suc fuel) xs ≡ before (first_in xs) (records_in fuel (drop (5 + get_or xs 0 0) xs))
  unfolding records_in
  records-next fuel a b = rw (ne_eqb (length xs) 0 (λ z. omega arith), le-leb _ _ a, le-leb _ _ b)

  pub records-stop : (fuel : ℕ) → (leb (get_or xs 0 0) max_setting && leb (5 + get_or xs 0 0) (length xs)) ≡ false → records_in fuel xs ≡ broken
  unfolding records_in
  records-stop zero f = rw (ne_eqb (length xs) 0 (λ z. omega arith))
  records-stop (suc fuel) f = rw (ne_eqb (length xs) 0 (λ z. omega arith), f)

-- records that were read, by the first
pub record Here (all : ℕ) (xs : List ℕ) (rs : List Revision) : Type 0 where
  pub rest : List Revision
  pub fuel : ℕ
  pub spent : suc fuel ≡ all
  pub short : get_or xs 0 0 ≤ max_setting
  pub inside : 5 + get_or xs 0 0 ≤ length xs
  pub is : rs ≡ first_in xs ∷ rest
  pub read : records_in fuel (drop (5 + get_or xs 0 0) xs) ≡ held rest

pub here : (fuel : ℕ) (xs : List ℕ) (rs : List Revision) → records_in fuel xs ≡ held rs → 0 < length xs → Here fuel xs rs
unfolding records_in
here zero xs rs q h =
    ⊎_elim (λ z. absurd (let e = eqb-true (length xs) 0 z.1 in omega arith)) (λ z. absurd (not-broken rs z)) (held_none (eqb (length xs) 0) broken rs q)
here (suc fuel) xs rs q h =
    ⊎_elim (λ z. absurd (let e = eqb-true (length xs) 0 z.1 in omega arith)) (λ z.
    let w = held-cond (leb (get_or xs 0 0) max_setting && leb (5 + get_or xs 0 0) (length xs)) _ rs z in
    let a = and_split (leb (get_or xs 0 0) max_setting) _ w.0 in
    let b = held-before (first_in xs) (records_in fuel (drop (5 + get_or xs 0 0) xs)) rs w.1 in
    record { rest = b.0; fuel = fuel; spent = refl; short = leb-true _ _ a.0; inside = leb-true _ _ a.1; is = b.2; read = b.1 })
    (held_none (eqb (length xs) 0) _ rs q)

-- so many records fill no more
pub records-most : (fuel : ℕ) (xs : List ℕ) (rs : List Revision) → records_in fuel xs ≡ held rs → length xs ≤ 205 * fuel
records-most zero xs rs q = ⊎_elim (λ h. let e = (here zero xs rs q h).spent in absurd (omega arith)) (λ h. omega arith) (lt-or-ge 0 (length xs))
records-most (suc fuel) xs rs q =
    ⊎_elim
    (λ h.
    let H = here (suc fuel) xs rs q h in
    let e : H.fuel ≡ fuel = let s = H.spent in omega arith in
    let ys : List ℕ = drop (5 + get_or xs 0 0) xs in
    let more = records-most fuel ys H.rest (subst (λ (k : ℕ). records_in k ys ≡ held H.rest) e H.read) in
    let l = length-drop (5 + get_or xs 0 0) xs in
    let s = H.short in
    omega arith)
    (λ h. omega arith)
    (lt-or-ge 0 (length xs))

-- the first record from an offset on, by the bytes of all
module _ (xs : List ℕ) (at : ℕ) where
  pub first_byte : get_or (drop at xs) 0 0 ≡ get_or xs at 0
  first_byte = let e : at + 0 ≡ at = omega arith in get_or-drop at xs 0 0 ∙ ap (λ (i : ℕ). get_or xs i 0) e

  pub first-number : be32 (drop at xs) 1 ≡ be32 xs (at + 1)
  first-number = be32-same xs (drop at xs) (at + 1) 1 (λ i h. get_or-drop at xs (1 + i) 0 ∙ ap (λ (j : ℕ). get_or xs j 0) (omega arith))

  pub rest-length : at ≤ length xs → at + length (drop at xs) ≡ length xs
  rest-length h = let e = length-drop at xs in omega arith

  pub rest-drop : (size n : ℕ) → n ≡ 5 + size → drop (5 + size) (drop at xs) ≡ drop (at + n) xs
  rest-drop size n e = rw e (drop-drop (5 + size) at xs)

-- a record that stands at an offset
pub record At (xs : List ℕ) (at size : ℕ) : Type 0 where
  pub length-is : size ≡ 5 + get_or xs at 0
  pub short : get_or xs at 0 ≤ max_setting
  pub inside : at + size ≤ length xs

module _ (xs : List ℕ) (at : ℕ) where
  abbrev fits : Bool
  fits = leb (get_or xs at 0) max_setting && leb (at + 5 + get_or xs at 0) (length xs)

  pub length-long : max_setting < get_or xs at 0 → length_at xs at ≡ 0
  unfolding length_at
  length-long h = rw (lt-leb _ _ h)

  pub length_cut : get_or xs at 0 ≤ max_setting → length xs < at + 5 + get_or xs at 0 → length_at xs at ≡ 0
  unfolding length_at
  length_cut a h = rw (le-leb _ _ a, lt-leb _ _ h)

  pub length-right : get_or xs at 0 ≤ max_setting → at + 5 + get_or xs at 0 ≤ length xs → length_at xs at ≡ 5 + get_or xs at 0
  unfolding length_at
  length-right a h = rw (le-leb _ _ a, le-leb _ _ h)

  pub at_some : (size : ℕ) → size ≡ length_at xs at → (size ≡ 0 → ⊥) → At xs at size
  unfolding length_at
  at_some size e n = go fits refl
    where
      go : (t : Bool) → fits ≡ t → At xs at size
      go true q =
          let a = and_split (leb (get_or xs at 0) max_setting) _ q in
          let l : size ≡ 5 + get_or xs at 0 = e ∙ rw q in
          let i = leb-true (at + 5 + get_or xs at 0) (length xs) a.1 in
          record { length-is = l; short = leb-true _ _ a.0; inside = omega arith }
      go false q = absurd (n (e ∙ rw q))

  pub at_none : (size : ℕ) → size ≡ length_at xs at → size ≡ 0 → at < length xs → (fuel : ℕ) → records_in fuel (drop at xs) ≡ broken
  unfolding length_at
  at_none size e z h fuel = go fits refl
    where
      l : at + length (drop at xs) ≡ length xs
      l = rest-length xs at (omega arith)

      go : (t : Bool) → fits ≡ t → records_in fuel (drop at xs) ≡ broken
      go true q = absurd (let w : size ≡ 5 + get_or xs at 0 = e ∙ rw q in omega arith)
      go false q = records-stop (drop at xs) (omega (arith, l)) fuel (rw (first_byte xs at) (same_test q))
        where
          same_test : fits ≡ false → (leb (get_or xs at 0) max_setting && leb (5 + get_or xs at 0) (length (drop at xs))) ≡ false
          same_test q = by (lt-or-ge (length xs) (at + 5 + get_or xs at 0))
            where
              by : (length xs < at + 5 + get_or xs at 0) ⊎ (at + 5 + get_or xs at 0 ≤ length xs) → (leb (get_or xs at 0) max_setting && leb (5 + get_or xs at 0) (length (drop at xs))) ≡ false
              by (inl c) = rw (lt-leb (5 + get_or xs at 0) (length (drop at xs)) (omega (arith, l))) (and_none (leb (get_or xs at 0) max_setting))
                where
                  and_none : (t : Bool) → (t && false) ≡ false
                  and_none true = refl
                  and_none false = refl
              by (inr c) = rw (le-leb (5 + get_or xs at 0) (length (drop at xs)) (omega (arith, l))) (rw (le-leb (at + 5 + get_or xs at 0) (length xs) c) at q)

-- records before others
abbrev pub prefixed : List Revision → Found → Found
prefixed [] f = f
prefixed (r ∷ rs) f = before r (prefixed rs f)

prefixed-snoc : (rs : List Revision) (r : Revision) (f : Found) → prefixed rs (before r f) ≡ prefixed (rs ++ (r ∷ [])) f
prefixed-snoc [] r f = refl
prefixed-snoc (x ∷ rs) r f = ap (before x) (prefixed-snoc rs r f)

prefixed-broken : (rs : List Revision) → prefixed rs broken ≡ broken
prefixed-broken [] = refl
prefixed-broken (x ∷ rs) = ap (before x) (prefixed-broken rs)

prefixed-held : (rs qs : List Revision) → prefixed rs (held qs) ≡ held (rs ++ qs)
prefixed-held [] qs = refl
prefixed-held (x ∷ rs) qs = ap (before x) (prefixed-held rs qs)

-- each number follows the one before it, the first any that is not 0
abbrev pub rising : ℕ → List Revision → Bool
rising last [] = true
rising last (r ∷ rs) = follows_on last r.number && rising r.number rs

pub follows-first : (number : ℕ) → follows_on 0 number ≡ leb 1 number
unfolding follows_on
follows-first number = refl

pub follows_next : (last number : ℕ) → (last ≡ 0 → ⊥) → follows_on last number ≡ eqb number (suc last)
unfolding follows_on
follows_next last number n = rw (ne_eqb last 0 n)

pub follows-none : (last number : ℕ) → last ≡ 0 → ltb 0 number ≡ follows_on last number
follows-none last number z = go (ℕ_discrete number 0) ∙ sym (ap (λ (k : ℕ). follows_on k number) z ∙ follows-first number)
  where
    go : Dec (number ≡ 0) → ltb 0 number ≡ leb 1 number
    go (yes q) = le-ltb 0 number (omega arith) ∙ sym (lt-leb 1 number (omega arith))
    go (no q) = lt-ltb 0 number (omega arith) ∙ sym (le-leb 1 number (omega arith))

module _ (last number : ℕ) (n : last ≡ 0 → ⊥) where
  pub follows-zero : number ≡ 0 → false ≡ follows_on last number
  follows-zero z = sym (follows_next last number n ∙ ne_eqb number (suc last) (λ q. omega arith))

  pub follows-less : (number ≡ 0 → ⊥) → eqb (number - 1) last ≡ follows_on last number
  follows-less m = go (ℕ_discrete number (suc last)) ∙ sym (follows_next last number n)
    where
      go : Dec (number ≡ suc last) → eqb (number - 1) last ≡ eqb number (suc last)
      go (yes q) = eq-eqb (number - 1) last (omega arith) ∙ sym (eq-eqb number (suc last) q)
      go (no q) = ne_eqb (number - 1) last (λ e. q (back number m e)) ∙ sym (ne_eqb number (suc last) q)
        where
          back : (k : ℕ) → (k ≡ 0 → ⊥) → k - 1 ≡ last → k ≡ suc last
          back zero m e = absurd (m refl)
          back (suc k) m e = omega arith

follow-rising : (rs : List Revision) (last : ℕ) → (last ≡ 0 → ⊥) → follow last rs ≡ rising last rs
follow-rising [] last n = refl
follow-rising (r ∷ rs) last n = rw (follows_next last r.number n) (go (ℕ_discrete r.number (suc last)) (follow-rising rs r.number))
  where
    go : Dec (r.number ≡ suc last) → ((r.number ≡ 0 → ⊥) → follow r.number rs ≡ rising r.number rs)
        → (eqb r.number (suc last) && follow r.number rs) ≡ (eqb r.number (suc last) && rising r.number rs)
    go (yes q) more = rw (eq-eqb _ _ q) (more (λ z. omega arith))
    go (no q) more = rw (ne_eqb _ _ q)

numbers-rising : (rs : List Revision) → 0 < length rs → numbers_ok rs ≡ rising 0 rs
numbers-rising [] h = absurd (omega arith)
numbers-rising (r ∷ rs) h = rw (follows-first r.number) (go (ℕ_discrete r.number 0))
  where
    go : Dec (r.number ≡ 0) → (leb 1 r.number && follow r.number rs) ≡ (leb 1 r.number && rising r.number rs)
    go (yes q) = rw (lt-leb 1 r.number (omega arith))
    go (no q) = ap (λ (t : Bool). leb 1 r.number && t) (follow-rising rs r.number q)

rising_snoc : (rs : List Revision) (last : ℕ) (r : Revision) → rising last rs ≡ true → rising last (rs ++ (r ∷ [])) ≡ follows_on (latest_after last rs) r.number
rising_snoc [] last r h = and-true (follows_on last r.number)
  where
    and-true : (t : Bool) → (t && true) ≡ t
    and-true true = refl
    and-true false = refl
rising_snoc (x ∷ rs) last r h = let a = and_split (follows_on last x.number) _ h in rw a.0 (rising_snoc rs x.number r a.1)

rising-append : (rs qs : List Revision) (last : ℕ) → rising last rs ≡ false → rising last (rs ++ qs) ≡ false
rising-append [] qs last h = absurd (true-not-false refl h)
rising-append (x ∷ rs) qs last h = go (follows_on last x.number) (rising x.number rs) h (rising-append rs qs x.number)
  where
    go : (t u : Bool) → (t && u) ≡ false → (u ≡ false → rising x.number (rs ++ qs) ≡ false) → (t && rising x.number (rs ++ qs)) ≡ false
    go true u h more = more h
    go false u h more = refl

-- numbers that do not rise, whatever comes after
numbered-wrong : (rs : List Revision) (f : Found) → rising 0 rs ≡ false → numbered (prefixed rs f) ≡ broken
numbered-wrong rs broken h = ap numbered (prefixed-broken rs)
numbered-wrong rs (held qs) h = ap numbered (prefixed-held rs qs) ∙ go (rs ++ qs) (rising-append rs qs 0 h)
  where
    go : (ys : List Revision) → rising 0 ys ≡ false → numbered (held ys) ≡ broken
    go [] h = refl
    go (y ∷ ys) h = rw (numbers-rising (y ∷ ys) (omega arith) ∙ h)

-- what is left to scan, behind the records done, gives what all gives
pub record Scanning (xs : List ℕ) (at count last : ℕ) : Type 0 where
  pub done : List Revision
  pub left : ℕ
  pub inside : at ≤ length xs
  pub sum : count + left ≡ 16
  pub many : length done ≡ count
  pub seen : records_in max_revisions xs ≡ prefixed done (records_in left (drop at xs))
  pub last-is : last ≡ latest_after 0 done
  pub rises : rising 0 done ≡ true

pub scan-start : (xs : List ℕ) → Scanning xs 0 0 0
scan-start xs = record { done = []; left = 16; inside = omega arith; sum = refl; many = refl; seen = refl; last-is = refl; rises = refl }

pub counted-wrong : (xs : List ℕ) (ok : Bool) (used count last oldest : ℕ) → ok ≡ false → numbered (records_in max_revisions xs) ≡ broken
    → Counted xs ok used count last oldest
counted-wrong xs ok used count last oldest e h =
    record {
      used-is = λ t. absurd (true-not-false t e);
      read = λ t. absurd (true-not-false t e);
      right = λ t. absurd (true-not-false t e);
      many = λ t. absurd (true-not-false t e);
      latest-is = λ t. absurd (true-not-false t e);
      oldest-is = λ t. absurd (true-not-false t e);
      wrong = λ f. h;
    }

module _ (xs : List ℕ) (at count last : ℕ) (S : Scanning xs at count last) where
  pub scan-none : (size : ℕ) → size ≡ length_at xs at → size ≡ 0 → at < length xs → numbered (records_in max_revisions xs) ≡ broken
  scan-none size e z h = ap numbered (S.seen ∙ ap (prefixed S.done) (at_none xs at size e z h S.left) ∙ prefixed-broken S.done)

  module _ (size : ℕ) (A : At xs at size) where
    some : 0 < length (drop at xs)
    some = let l = rest-length xs at S.inside in let a = A.inside in let b = A.length-is in omega arith

    pub scan-full : count ≡ max_revisions → numbered (records_in max_revisions xs) ≡ broken
    scan-full e =
        let z : S.left ≡ 0 = let s = S.sum in omega arith in
        ap numbered (S.seen ∙ ap (λ (k : ℕ). prefixed S.done (records_in k (drop at xs))) z ∙ ap (prefixed S.done) (records-full (drop at xs) some) ∙ prefixed-broken S.done)

    abbrev new : Revision
    new = first_in (drop at xs)

    abbrev grown : List Revision
    grown = S.done ++ (new ∷ [])

    next-seen : (k : ℕ) → S.left ≡ suc k → records_in max_revisions xs ≡ prefixed grown (records_in k (drop (at + size) xs))
    next-seen k e =
        let l = rest-length xs at S.inside in
        let f = first_byte xs at in
        let a = A.inside in
        let b = A.length-is in
        let c = A.short in
        S.seen ∙ ap (λ (j : ℕ). prefixed S.done (records_in j (drop at xs))) e
        ∙ ap (prefixed S.done) (records-next (drop at xs) some k (omega arith) (omega arith))
        ∙ prefixed-snoc S.done new (records_in k (drop (5 + get_or (drop at xs) 0 0) (drop at xs)))
        ∙ ap (λ (ys : List ℕ). prefixed grown (records_in k ys)) (rest-drop xs at (get_or (drop at xs) 0 0) size (omega arith))

    module _ (number : ℕ) (e : number ≡ be32 xs (at + 1)) (t : Bool) (f : t ≡ follows_on last number) where
      grown-rises : rising 0 grown ≡ t
      grown-rises =
          rising_snoc S.done 0 new S.rises
          ∙ ap (λ (i : ℕ). follows_on (latest_after 0 S.done) i) (first-number xs at ∙ sym e) ∙ ap (λ (i : ℕ). follows_on i number) (sym S.last-is) ∙ sym f

      pub scan-wrong : t ≡ false → numbered (records_in max_revisions xs) ≡ broken
      scan-wrong z = go S.left refl
        where
          go : (k : ℕ) → S.left ≡ k → numbered (records_in max_revisions xs) ≡ broken
          go zero q = scan-full (let s = S.sum in omega arith)
          go (suc k) q = ap numbered (next-seen k q) ∙ numbered-wrong grown (records_in k (drop (at + size) xs)) (grown-rises ∙ z)

      pub scan_step : t ≡ true → (count ≡ max_revisions → ⊥) → Scanning xs (at + size) (count + 1) number
      scan_step z n =
          let s = S.sum in
          let k : ℕ = S.left - 1 in
          let q : S.left ≡ suc (S.left - 1) = few s n in
          record {
            done = grown;
            left = S.left - 1;
            inside = A.inside;
            sum = omega arith;
            many = let m = S.many in let l = length-append S.done (new ∷ []) in omega arith;
            seen = next-seen (S.left - 1) q;
            last-is = e ∙ sym (first-number xs at) ∙ sym (latest-snoc S.done 0 new);
            rises = grown-rises ∙ z;
          }
        where
          few : count + S.left ≡ 16 → (count ≡ 16 → ⊥) → S.left ≡ suc (S.left - 1)
          few s n = go S.left s
            where
              go : (k : ℕ) → count + k ≡ 16 → k ≡ suc (k - 1)
              go zero s = absurd (n (omega arith))
              go (suc k) s = omega arith

  module _ (h : length xs ≤ at) where
    all_seen : records_in max_revisions xs ≡ held S.done
    all_seen =
        let l = length-drop at xs in
        S.seen ∙ ap (prefixed S.done) (records-end S.left (drop at xs) (omega arith)) ∙ prefixed-held S.done [] ∙ ap held (append-nil S.done)

    all_done : held_by xs ≡ S.done
    unfolding held_by
    all_done = ap held_in all_seen

    pub scan-empty : count ≡ 0 → numbered (records_in max_revisions xs) ≡ broken
    scan-empty z = ap numbered all_seen ∙ go S.done (S.many ∙ z)
      where
        go : (ys : List Revision) → length ys ≡ 0 → numbered (held ys) ≡ broken
        go [] h = refl
        go (y ∷ ys) h = absurd (omega arith)

    pub scan-nonempty : (count ≡ 0 → ⊥) → 0 < length xs
    scan-nonempty n = go (length xs) refl
      where
        go : (k : ℕ) → length xs ≡ k → 0 < length xs
        go (suc k) q = omega arith
        go zero q = absurd (n (sym S.many ∙ ap length (held_same S.done [] (sym all_seen ∙ records-end max_revisions xs q))))

    oldest-here : (count ≡ 0 → ⊥) → 5 + get_or xs 0 0 ≡ length (joined record_bytes (take 1 S.done))
    unfolding record_bytes bytes4
    oldest-here n =
        let H = here max_revisions xs S.done all_seen (scan-nonempty n) in
        let i = H.inside in
        let p : length (part xs 5 (get_or xs 0 0)) ≡ get_or xs 0 0 = length_part xs 5 (get_or xs 0 0) H.inside in
        let q : length (part xs 5 (get_or xs 0 0) ++ []) ≡ get_or xs 0 0 = ap length (append-nil (part xs 5 (get_or xs 0 0))) ∙ p in
        rw H.is (omega arith)

    pub scan-right : (count ≡ 0 → ⊥) → (used oldest : ℕ) → used ≡ 5 + length xs → oldest ≡ 5 + get_or xs 0 0 → Counted xs true used count last oldest
    unfolding latest
    scan-right n used oldest u o =
        let e = all_done in
        let m = S.many in
        let ok : numbers_ok S.done ≡ true = numbers-rising S.done (pos (length S.done) (λ z. n (sym m ∙ z))) ∙ S.rises in
        record {
          used-is = λ t. u;
          read = λ t. all_seen ∙ ap held (sym e);
          right = λ t. ap numbered all_seen ∙ rw ok (ap held (sym e));
          many = λ t. sym m ∙ ap length (sym e);
          latest-is = λ t. S.last-is ∙ ap (latest_after 0) (sym e);
          oldest-is = λ t. o ∙ oldest-here n ∙ ap (λ (ys : List Revision). length (joined record_bytes (take 1 ys))) (sym e);
          wrong = λ f. absurd (true-not-false refl f);
        }
      where
        pos : (k : ℕ) → (k ≡ 0 → ⊥) → 0 < k
        pos zero n = absurd (n refl)
        pos (suc k) n = omega arith

-- the search for a revision: what is left has it exactly if all have
pub record Finding (xs : List ℕ) (x at : ℕ) : Type 0 where
  pub fuel : ℕ
  pub rest : List Revision
  pub inside : at ≤ length xs
  pub read : records_in fuel (drop at xs) ≡ held rest
  pub there : stands x (held_by xs) ≡ stands x rest
  pub data-are : data_of x (held_by xs) ≡ data_of x rest

pub find-start : (xs : List ℕ) (x : ℕ) → records_in max_revisions xs ≡ held (held_by xs) → Finding xs x 0
find-start xs x h = record { fuel = 16; rest = held_by xs; inside = omega arith; read = h; there = refl; data-are = refl }

module _ (xs : List ℕ) (x at : ℕ) (F : Finding xs x at) where
  module _ (h : at < length xs) (size : ℕ) (s : size ≡ get_or xs at 0) where
    left-some : 0 < length (drop at xs)
    left-some = let l = rest-length xs at F.inside in omega arith

    H : Here F.fuel (drop at xs) F.rest
    H = here F.fuel (drop at xs) F.rest F.read left-some

    pub find-fits : (at + 5 + size ≤ length xs) × (size ≤ max_setting)
    find-fits = let l = rest-length xs at F.inside in let b = first_byte xs at in let i = H.inside in let j = H.short in (omega arith, omega arith)

    module _ (number : ℕ) (e : number ≡ be32 xs (at + 1)) where
      first-is : (first_in (drop at xs)).number ≡ number
      first-is = first-number xs at ∙ sym e

      first-data : (first_in (drop at xs)).bytes ≡ part xs (at + 5) size
      first-data = rw (first_byte xs at ∙ sym s) (ap (take size) (drop-drop 5 at xs))

      pub find-found : number ≡ x → Placed (held_by xs) xs x true (at + 5) size
      find-found q =
          let f = find-fits in
          let t : eqb (first_in (drop at xs)).number x ≡ true = eq-eqb _ _ (first-is ∙ q) in
          let d : data_of x (held_by xs) ≡ part xs (at + 5) size = F.data-are ∙ ap (data_of x) H.is ∙ rw t first-data in
          record {
            there = sym (F.there ∙ ap (stands x) H.is ∙ rw t);
            size_is = λ z. sym (ap length d ∙ length_part xs (at + 5) size (let g = f.0 in omega arith));
            bytes-are = λ z. sym d;
            inside = let g = f.0 in omega arith;
            short = f.1;
          }

      pub find-step : (number ≡ x → ⊥) → Finding xs x (at + 5 + size)
      find-step n =
          let f = find-fits in
          let t : eqb (first_in (drop at xs)).number x ≡ false = ne_eqb _ _ (λ q. n (sym first-is ∙ q)) in
          let sum : at + (5 + size) ≡ at + 5 + size = omega arith in
          let d : drop (5 + get_or (drop at xs) 0 0) (drop at xs) ≡ drop (at + 5 + size) xs = rest-drop xs at (get_or (drop at xs) 0 0) (5 + size) (let b = first_byte xs at in omega arith) ∙ ap (λ (k : ℕ). drop k xs) sum in
          record {
            fuel = H.fuel;
            rest = H.rest;
            inside = f.0;
            read = ap (records_in H.fuel) (sym d) ∙ H.read;
            there = F.there ∙ ap (stands x) H.is ∙ rw t;
            data-are = F.data-are ∙ ap (data_of x) H.is ∙ rw t;
          }

  pub find-end : length xs ≤ at → Placed (held_by xs) xs x false 0 0
  find-end h =
      let l = length-drop at xs in
      let e : F.rest ≡ [] = held_same F.rest [] (sym F.read ∙ records-end F.fuel (drop at xs) (omega arith)) in
      record {
        there = sym (F.there ∙ ap (stands x) e);
        size_is = λ z. absurd (true-not-false z refl);
        bytes-are = λ z. absurd (true-not-false z refl);
        inside = omega arith;
        short = omega arith;
      }
