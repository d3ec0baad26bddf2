-- What the log, written to the home sectors, leaves: sector by sector.
use Prim.Native.Nat.{ℕ, zero, suc, ◌+◌, ◌*◌, ◌/◌, ◌%◌, ◌≤◌, ◌<◌}
use mathlib.Core.List.{List}
use mathlib.Core.Bool.{true}
use mathlib.Core.Logic.{◌⊎◌, inl, inr, ◌≢◌}
use mathlib.Core.Path.{◌≡◌, refl, sym, ap, ◌∙◌}
use native.Mathlib.Omega.{arith}
use native.Mathlib.Decide.{ℕ_discrete}
use lib.Dec.{ltb}
use lib.ListN.{length}
use borrow.Author.Tests.{ltb-true, lt-ltb}
use Rattle.layout.specs.Bytes.{block, splice}
use Rattle.layout.proofs.Laws.Tests.{and_split, and-join}
use Rattle.layout.proofs.Laws.Bytes.{length-block, length-splice}
use Rattle.volume_file.specs.Format.{home_at, saved_at, file_sectors, address_at, address, rising}
use Rattle.volume_file.specs.Save.{restored}
use Rattle.volume_file.proofs.Laws.Sectors.{sector-be32, sector-other, sector-same, among}

-- the first k addresses rise and are below `limit`
pub record Rising (h : ℕ) (d : List ℕ) (limit k : ℕ) : Type 0 where
  pub below : (j : ℕ) → j < k → address h d j < limit
  pub apart : (i j : ℕ) → i < j → j < k → address h d i < address h d j

pub rising_none : (h : ℕ) (d : List ℕ) (limit : ℕ) → Rising h d limit 0
rising_none h d limit = record { below = λ j l. absurd (omega arith); apart = λ i j l m. absurd (omega arith) }

pub rising-split : (h : ℕ) (d : List ℕ) (limit k : ℕ) → rising h d limit k ≡ true → Rising h d limit k
unfolding rising
rising-split h d limit zero e = rising_none h d limit
rising-split h d limit (suc k) e =
    let s = and_split (ltb (address h d k) limit) (rising h d (address h d k) k) e in
    let l : address h d k < limit = ltb-true _ _ s.0 in
    let r = rising-split h d (address h d k) k s.1 in
    record {
      below = λ j m. go j (ℕ_discrete j k) m l r;
      apart = λ i j m n. up i j (ℕ_discrete j k) m n r;
    }
  where
    go : (j : ℕ) → Dec (j ≡ k) → j < suc k → address h d k < limit → Rising h d (address h d k) k → address h d j < limit
    go j (yes q) m l r = rw q l
    go j (no q) m l r = let x : address h d j < address h d k = r.below j (omega arith) in omega arith

    up : (i j : ℕ) → Dec (j ≡ k) → i < j → j < suc k → Rising h d (address h d k) k → address h d i < address h d j
    up i j (yes q) m n r = rw q (r.below i (omega arith))
    up i j (no q) m n r = r.apart i j m (omega arith)

pub rising-join : (h : ℕ) (d : List ℕ) (limit k : ℕ) → Rising h d limit k → rising h d limit k ≡ true
unfolding rising
rising-join h d limit zero r = refl
rising-join h d limit (suc k) r =
    and-join (lt-ltb _ _ (r.below k (omega arith)))
    (rising-join h d (address h d k) k (record { below = λ j l. r.apart j k l (omega arith); apart = λ i j l m. r.apart i j l (omega arith) }))

pub rising-fewer : (h : ℕ) (d : List ℕ) (limit k j : ℕ) → j ≤ k → Rising h d limit k → Rising h d limit j
rising-fewer h d limit k j l r = record { below = λ i m. r.below i (omega arith); apart = λ i i' m n. r.apart i i' m (omega arith) }

-- the log of a file with h home sectors, whose first k addresses rise
module _ (h : ℕ) (d : List ℕ) (size : length d ≡ 512 * file_sectors h) where
  saved-long : (j : ℕ) → j < h → length (block d (saved_at h j)) ≡ 512
  saved-long j l = length-block d (saved_at h j) (omega arith)

  pub restored-length : (k : ℕ) → k ≤ h → Rising h d h k → length (restored h d k) ≡ length d
  unfolding restored
  restored-length zero l r = refl
  restored-length (suc k) l r =
      let i = restored-length k (omega arith) (rising-fewer h d h (suc k) k (omega arith) r) in
      let b = r.below k (omega arith) in
      length-splice (restored h d k) (512 * home_at (address h d k)) (block d (saved_at h k)) (omega (arith, saved-long k (omega arith))) ∙ i

  fewer : (k : ℕ) → Rising h d h (suc k) → Rising h d h k
  fewer k r = rising-fewer h d h (suc k) k (omega arith) r

  -- other sectors stay
  pub restored-out : (k : ℕ) → k ≤ h → Rising h d h k → (s : ℕ) → ((j : ℕ) → j < k → s ≢ home_at (address h d j)) → block (restored h d k) s ≡ block d s
  unfolding restored
  restored-out zero l r s f = refl
  restored-out (suc k) l r s f =
      let b : address h d k < h = r.below k (omega arith) in
      let e = restored-length k (omega arith) (fewer k r) in
      sector-other (restored h d k) (home_at (address h d k)) (block d (saved_at h k)) s (omega arith) (saved-long k (omega arith)) (f k (omega arith))
      ∙ restored-out k (omega arith) (fewer k r) s (λ j m. f j (omega arith))

  -- home sectors that the log names have its bytes
  pub restored-in : (k : ℕ) → k ≤ h → Rising h d h k → (j : ℕ) → j < k → block (restored h d k) (home_at (address h d j)) ≡ block d (saved_at h j)
  unfolding restored
  restored-in zero l r j m = absurd (omega arith)
  restored-in (suc k) l r j m = go (ℕ_discrete j k) (restored-in k (omega arith) (fewer k r) j)
    where
      b : address h d k < h
      b = r.below k (omega arith)

      e : length (restored h d k) ≡ length d
      e = restored-length k (omega arith) (fewer k r)

      go : Dec (j ≡ k) → (j < k → block (restored h d k) (home_at (address h d j)) ≡ block d (saved_at h j))
          → block (splice (restored h d k) (512 * home_at (address h d k)) (block d (saved_at h k))) (home_at (address h d j)) ≡ block d (saved_at h j)
      go (yes q) i = rw q (sector-same (restored h d k) (home_at (address h d k)) (block d (saved_at h k)) (omega (arith, b, e, size)) (saved-long k (omega arith)))
      go (no q) i =
          let a : address h d j < address h d k = r.apart j k (omega arith) (omega arith) in
          sector-other (restored h d k) (home_at (address h d k)) (block d (saved_at h k)) (home_at (address h d j)) (omega (arith, b, e, size)) (saved-long k (omega arith)) (λ z. omega arith)
          ∙ i (omega arith)

-- the same log has the same addresses
pub same_address : (h : ℕ) (d e : List ℕ) → ((s : ℕ) → 2 + h ≤ s → block e s ≡ block d s) → (j : ℕ) → address h e j ≡ address h d j
unfolding address
same_address h d e f j =
    let q : address_at h j ≡ 512 * (2 + h + (j + 1) / 128) + 4 * ((j + 1) % 128) = omega arith in
    rw q (sector-be32 d e (2 + h + (j + 1) / 128) (4 * ((j + 1) % 128)) (omega arith) (f (2 + h + (j + 1) / 128) (omega arith)))

pub same-rising : (h : ℕ) (d e : List ℕ) (limit k : ℕ) → ((j : ℕ) → address h e j ≡ address h d j) → Rising h d limit k → Rising h e limit k
same-rising h d e limit k f r = record {
  below = λ j l. rw (f j) (r.below j l);
  apart = λ i j l m. rw (f i, f j) (r.apart i j l m);
}

-- two disks that have the same sectors but for the commit sector and the home sectors that the log names
pub record Alike (h : ℕ) (d e : List ℕ) (k : ℕ) : Type 0 where
  pub long : length e ≡ length d
  pub others : (s : ℕ) → s ≢ 1 → ((j : ℕ) → j < k → s ≢ home_at (address h d j)) → block e s ≡ block d s

module _ (h : ℕ) (d e : List ℕ) (k : ℕ) (size : length d ≡ 512 * file_sectors h) (few : k ≤ h) (r : Rising h d h k) (a : Alike h d e k) where
  -- the header and the log
  pub alike-header : block e 0 ≡ block d 0
  alike-header = a.others 0 (λ q. omega arith) (λ j m q. omega arith)

  pub alike-high : (s : ℕ) → 2 + h ≤ s → block e s ≡ block d s
  alike-high s l = a.others s (λ q. omega arith) (λ j m q. omega (arith, r.below j m))

  alike-address : (j : ℕ) → address h e j ≡ address h d j
  alike-address = same_address h d e alike-high

  pub alike-rising : Rising h e h k
  alike-rising = same-rising h d e h k alike-address r

  pub alike-restored-length : length (restored h e k) ≡ length (restored h d k)
  alike-restored-length = restored-length h e (a.long ∙ size) k few alike-rising ∙ a.long ∙ sym (restored-length h d size k few r)

  -- THE LAW OF RECOVERY: what stood in the home sectors that the log names does not matter
  pub alike-restored : (s : ℕ) → s ≢ 1 → block (restored h e k) s ≡ block (restored h d k) s
  alike-restored s ne = go (among (λ j. home_at (address h d j)) s k)
    where
      go : ((j : ℕ) × (j < k) × (s ≡ home_at (address h d j))) ⊎ ((j : ℕ) → j < k → s ≢ home_at (address h d j))
          → block (restored h e k) s ≡ block (restored h d k) s
      go (inl (j, l, q)) =
          let p : home_at (address h e j) ≡ s = ap home_at (alike-address j) ∙ sym q in
          ap (block (restored h e k)) (sym p) ∙ restored-in h e (a.long ∙ size) k few alike-rising j l
          ∙ alike-high (saved_at h j) (omega arith)
          ∙ sym (restored-in h d size k few r j l) ∙ ap (block (restored h d k)) (sym q)
      go (inr f) =
          restored-out h e (a.long ∙ size) k few alike-rising s (λ j l q. f j l (q ∙ ap home_at (alike-address j)))
          ∙ a.others s ne f ∙ sym (restored-out h d size k few r s f)
