-- The turns of the loops and the exits of the tests, in plain terms.
use Prim.Native.Nat.{ℕ, zero, suc, ◌+◌, ◌-◌, ◌*◌, ◌≤◌, ◌<◌}
use mathlib.Core.List.{List, [], ◌∷◌, ◌++◌}
use mathlib.Core.Bool.{Bool, true, false, not, cond}
use Rattle.std.specs.Prelude.{Some, None}
use Rattle.std.proofs.Common.{append_assoc}
use mathlib.Core.Logic.{◌≢◌}
use mathlib.Core.Path.{◌≡◌, refl, sym, ap, ◌∙◌}
use native.Mathlib.Omega.{arith}
use native.Mathlib.Numerals.{add-one}
use lib.Dec.{eqb}
use lib.ListN.{length, get_or, set, take, drop, replicate, length-drop, length-set}
use lib.Seq.{take-suc, get_or-drop, length-take-le, drop-drop}
use borrow.Author.Tests.{not-true, not-false, lt-ltb, le-ltb, lt-leb, le-leb}
use Rattle.std.specs.List.{copy_within}
use Rattle.layout.specs.Bytes.{zeros, part, block, splice}
use Rattle.layout.proofs.Laws.Tests.{accept-refused, first_of-refused}
use Rattle.layout.proofs.Laws.Bytes.{length_part, length-splice, length-zeros, get_d-splice-after, splice-append, splice-nil, splice-cons, lent-zeros}
use Rattle.volume_file.specs.Format.{header_ok, home_sectors, home_at, saved_at, file_sectors, address, waits, log_count, count, rising, head_refusal, log_refusal, file_refusal}
use Rattle.volume_file.specs.Save.{flagged, restored, replayed, recovered, after_recover}
use Rattle.volume_file.specs.Answers.{recover_answered, recover_answer}
use Rattle.volume_file.proofs.Laws.Restored.{Rising, rising-split, rising-join, rising-fewer, same_address, restored-length, restored-out}
use Rattle.volume_file.proofs.Laws.Facts.{VolumeFile, Head, head-facts, header-small, file-facts, small, count_none}
use Rattle.volume_file.proofs.Laws.Recovery.{recovered-none, recovered-waits}

-- the addresses, from the last to the first
module _ (h : ℕ) (d : List ℕ) (limit left x : ℕ) (pos : 0 < left) (is : x ≡ address h d (left - 1)) where
  turn : rising h d limit left ≡ rising h d limit (suc (left - 1))
  turn = ap (rising h d limit) (let e : left ≡ suc (left - 1) = omega arith in e)

  pub rising-no : limit ≤ x → rising h d limit left ≡ false
  unfolding rising
  rising-no l = turn ∙ rw (← is, le-ltb x limit l)

  pub rising-yes : x < limit → rising h d limit left ≡ rising h d x (left - 1)
  unfolding rising
  rising-yes l = turn ∙ rw (← is, lt-ltb x limit l)

pub rising-end : (h : ℕ) (d : List ℕ) (limit left : ℕ) → left ≤ 0 → rising h d limit left ≡ true
unfolding rising
rising-end h d limit zero l = refl
rising-end h d limit (suc left) l = absurd (omega arith)

-- a sector copied down, byte by byte
set-splice : (s : List ℕ) (at v : ℕ) → at < length s → set s at v ≡ splice s at (v ∷ [])
set-splice s at v l = sym (splice-cons s at v [] (omega arith) ∙ splice-nil (set s at v) (at + 1))

pub copy_step : (d : List ℕ) (from to i : ℕ) → to + 512 ≤ from → from + 512 ≤ length d → i < 512 → (t : List ℕ) → t ≡ splice d to (take i (drop from d))
    → set t (to + i) (get_or t (from + i) 0) ≡ splice d to (take (i + 1) (drop from d))
copy_step d from to i h g l t e =
    let p : List ℕ = take i (drop from d) in
    let lp : length p ≡ i = length-take-le i (drop from d) (omega (arith, length-drop from d)) in
    let f : to + length p ≤ length d = omega arith in
    let ls : length (splice d to p) ≡ length d = length-splice d to p f in
    let r : get_or (splice d to p) (from + i) 0 ≡ get_or (drop from d) i 0 = get_d-splice-after d to p f (from + i) (omega arith) ∙ sym (get_or-drop from d i 0) in
    let q : to + i ≡ to + length p = omega arith in
    rw (e, r, q) (set-splice (splice d to p) (to + length p) (get_or (drop from d) i 0) (omega arith)
    ∙ splice-append d to p (get_or (drop from d) i 0 ∷ []) (omega arith)
    ∙ ap (splice d to) (sym (take-suc (drop from d) i 0 (omega (arith, length-drop from d))))
    ∙ ap (λ (k : ℕ). splice d to (take k (drop from d))) (sym (add-one i)))

-- a sector copied to another
pub copied : (d : List ℕ) (from to e : ℕ) → e ≡ from + 512 → from + 512 ≤ length d → copy_within d from e to ≡ splice d to (part d from 512)
unfolding splice
copied d from to e q l =
    let n : e - from ≡ 512 = omega arith in
    rw (n, length_part d from 512 l, drop-drop 512 to d, append_assoc)

-- the commit sector, its first byte and then its zeros
pub flagged-made : (d t ys : List ℕ) (b n : ℕ) → 1024 ≤ length d → t ≡ set d 512 b → ys ≡ replicate (length (part t 513 n)) 0 → n ≡ 511
    → take 513 t ++ (ys ++ drop n (drop 513 t)) ≡ flagged d b
unfolding flagged
flagged-made d t ys b n l e y m =
    let lt : length t ≡ length d = ap length e ∙ length-set d 512 b in
    lent-zeros t 513 511 n ys y m (omega arith) ∙ rw e (sym (splice-cons d 512 b (zeros 511) (omega (arith, length-zeros 511))))

-- how many wait, if any do
pub waiting-some : (d : List ℕ) (k : ℕ) → Some k ≡ cond (waits d) (Some (log_count d)) None → (waits d ≡ true) × (k ≡ count d)
unfolding count
waiting-some d k e = go (waits d) e
  where
    go : (w : Bool) → Some k ≡ cond w (Some (log_count d)) None → (w ≡ true) × (k ≡ cond w (log_count d) 0)
    go true e = (refl, cc)
    go false e = cc

pub waiting_none : (d : List ℕ) → None ≡ cond (waits d) (Some (log_count d)) None → waits d ≡ false
waiting_none d e = go (waits d) e
  where
    go : (w : Bool) → None ≡ cond w (Some (log_count d)) None → w ≡ false
    go true e = cc
    go false e = refl

-- the tests of header and length, in order
module _ (d : List ℕ) where
  pub refused-short : length d < 1024 → head_refusal d ≡ 1
  unfolding head_refusal
  refused-short l = rw (lt-leb 1024 (length d) l)

  module _ (long : 1024 ≤ length d) where
    pub refused-header : header_ok (block d 0) ≡ false → head_refusal d ≡ 2
    unfolding head_refusal
    refused-header e = rw (le-leb 1024 (length d) long, e)

    module _ (head : header_ok (block d 0) ≡ true) where
      pub refused-length : eqb (length d) (512 * file_sectors (home_sectors d)) ≡ false → head_refusal d ≡ 3
      unfolding head_refusal
      refused-length e = rw (le-leb 1024 (length d) long, head, e)

      pub accepted-head : eqb (length d) (512 * file_sectors (home_sectors d)) ≡ true → head_refusal d ≡ 0
      unfolding head_refusal
      accepted-head e = rw (le-leb 1024 (length d) long, head, e)

-- those of a log
module _ (d : List ℕ) (h k : ℕ) (hs : h ≡ home_sectors d) where
  pub refused-count : h < k → log_refusal d k ≡ 4
  unfolding log_refusal
  refused-count l = rw (← hs, lt-leb k h l)

  module _ (few : k ≤ h) where
    pub refused-addresses : rising h d h k ≡ false → log_refusal d k ≡ 5
    unfolding log_refusal
    refused-addresses e = rw (← hs, le-leb k h few, e)

    pub accepted-log : rising h d h k ≡ true → log_refusal d k ≡ 0
    unfolding log_refusal
    accepted-log e = rw (← hs, le-leb k h few, e)

-- and of a file: the first of both
module _ (d : List ℕ) (number : ℕ) (is : number ≡ head_refusal d) where
  pub file-refused : number ≢ 0 → number ≡ file_refusal d
  unfolding file_refusal
  file-refused some = sym (rw (← is) (first_of-refused number (log_refusal d (count d)) some))

  module _ (z : number ≡ 0) where
    head-given : Head d
    head-given = head-facts d (sym is ∙ z)

    pub head-long : 1024 ≤ length d
    head-long = omega (arith, head-given.size)

    pub head-sized : (h : ℕ) → h ≡ home_sectors d → (h ≤ 196736) × (length d ≡ 512 * file_sectors h) × (h ≡ home_sectors d)
    head-sized h hs = rw hs (header-small d head-given.header, head-given.size, refl)

    pub file-quiet : waits d ≡ false → 0 ≡ file_refusal d
    unfolding file_refusal log_refusal rising
    file-quiet w = rw (← is, z, count_none d w, le-leb 0 (home_sectors d) (omega arith))

    pub file-rest : (k r : ℕ) → k ≡ count d → r ≡ log_refusal d k → r ≡ file_refusal d
    unfolding file_refusal
    file-rest k r ks e = e ∙ rw (← is, z, ks)

-- a test that was met, or not, and what it says
pub test-true : (r t : Bool) → not r ≡ false → r ≡ t → t ≡ true
test-true r t e q = sym q ∙ not-false r e

pub test-false : (r t : Bool) → not r ≡ true → r ≡ t → t ≡ false
test-false r t e q = sym q ∙ not-true r e

-- sectors of the log written to their home, one by one
module _ (h : ℕ) (d : List ℕ) (k : ℕ) (few : k ≤ h) (size : length d ≡ 512 * file_sectors h) (ok : rising h d h k ≡ true) (j : ℕ) (t : List ℕ) (e : t ≡ restored h d j) where
  rise : j ≤ k → Rising h d h j
  rise l = rising-fewer h d h k j l (rising-split h d h k ok)

  pub restore-long : j ≤ k → length t ≡ length d
  restore-long l = ap length e ∙ restored-length h d size j (omega arith) (rise l)

  high : j ≤ k → (s : ℕ) → 2 + h ≤ s → block t s ≡ block d s
  high l s m = rw e (restored-out h d size j (omega arith) (rise l) s (λ i n q. omega (arith, (rise l).below i n)))

  pub restore-below : j < k → address h t j + 1 ≤ h
  restore-below l =
      let a : address h t j ≡ address h d j = same_address h d t (high (omega arith)) j in
      omega (arith, a, (rising-split h d h k ok).below j l)

  pub restore-turn : j < k → (u : List ℕ) → u ≡ splice t (512 * home_at (address h t j)) (block t (saved_at h j)) → u ≡ restored h d (j + 1)
  unfolding restored
  restore-turn l u q =
      let a : address h t j ≡ address h d j = same_address h d t (high (omega arith)) j in
      let b : block t (saved_at h j) ≡ block d (saved_at h j) = high (omega arith) (saved_at h j) (omega arith) in
      q ∙ rw (a, b, e, add-one j)

-- recovery
pub file-long : (d : List ℕ) → file_refusal d ≡ 0 → 1024 ≤ length d
file-long d e = omega (arith, (file-facts d e).size)

pub record Ready (d : List ℕ) (h k : ℕ) : Type 0 where
  pub small : h ≤ 196736
  pub few : k ≤ h
  pub size : length d ≡ 512 * file_sectors h
  pub rise : rising h d h k ≡ true

module _ (d : List ℕ) (number : ℕ) (is : number ≡ file_refusal d) (z : number ≡ 0) where
  facts : VolumeFile (home_sectors d) d
  facts = file-facts d (sym is ∙ z)

  pub nothing-answered : waits d ≡ false → recover_answered 0 0 0 ≡ recover_answer d
  unfolding recover_answer
  nothing-answered w = rw (← is, z, w)

  pub nothing-done : waits d ≡ false → d ≡ after_recover d
  unfolding after_recover
  nothing-done w = rw (← is, z) (sym (recovered-none d w))

  pub ready-size : (h : ℕ) → h ≡ home_sectors d → (h ≤ 196736) × (length d ≡ 512 * file_sectors h) × (h ≡ home_sectors d)
  ready-size h hs = rw hs (small facts, facts.size, refl)

  module _ (h k : ℕ) (w : waits d ≡ true) (hs : h ≡ home_sectors d) (ks : k ≡ count d) where
    pub ready : Ready d h k
    ready = rw (hs, ks) (record { small = small facts; few = facts.few; size = facts.size; rise = rising-join _ d _ _ facts.rise })

    pub recover-done : (t u : List ℕ) → t ≡ restored h d k → u ≡ flagged t 0 → u ≡ after_recover d
    unfolding replayed after_recover
    recover-done t u et eu = rw (← is, z) (eu ∙ ap (λ (x : List ℕ). flagged x 0) (et ∙ rw (hs, ks)) ∙ sym (recovered-waits d w))

    pub recover-answered : recover_answered 0 1 k ≡ recover_answer d
    unfolding recover_answer
    recover-answered = rw (← is, z, w, ks)

-- a refusal: its number, and nothing changes
module _ (d : List ℕ) (number : ℕ) (is : number ≡ file_refusal d) (some : number ≢ 0) where
  pub recover-refused : recover_answered number 0 0 ≡ recover_answer d
  unfolding recover_answer
  recover-refused = rw (← is) (sym (accept-refused number _ (recover_answered number 0 0) some))

  pub recover-kept : d ≡ after_recover d
  unfolding after_recover
  recover-kept = rw (← is) (sym (accept-refused number (recovered d) d some))
