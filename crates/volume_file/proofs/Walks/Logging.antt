-- The turns of the loop that fills the log, and the exits of what prepares a commit.
use Prim.Native.Nat.{ℕ, ◌+◌, ◌-◌, ◌*◌, ◌≤◌, ◌<◌}
use mathlib.Core.List.{List, [], ◌∷◌, ◌++◌}
use mathlib.Core.Bool.{Bool, true, false, not}
use mathlib.Core.Logic.{inl, ◌≢◌}
use mathlib.Core.Path.{◌≡◌, refl, sym, ap, ◌∙◌}
use native.Mathlib.Omega.{arith}
use native.Mathlib.Nat.{sub-zero}
use lib.Dec.{eqb}
use lib.ListN.{length, take, drop, length-drop, length-append}
use lib.Seq.{take-append-le, drop-append-le, drop-append-add}
use borrow.Author.Tests.{eqb-true, not-true}
use Rattle.layout.specs.Bytes.{bytes4, part, block, splice}
use Rattle.layout.specs.Lists.{interval, select, joined}
use Rattle.layout.proofs.Laws.Tests.{first_of-refused, first_of-zero, require-zero, accept-refused}
use Rattle.layout.proofs.Laws.Lists.{interval-from, select_in, select-split}
use Rattle.layout.proofs.Laws.Bytes.{length-splice, length-block, length-bytes4, length-joined4, splice-append, splice-nil}
use Rattle.layout.proofs.Laws.Splices.{splice-commutes}
use Rattle.layout.proofs.Laws.Files.{length-blocks}
use Rattle.volume_file.specs.Format.{image_sectors_of, journal_sectors_of, own_sectors_of, home_sectors, home_at, saved_at, address_at, file_sectors, count_at, waits, log_count, head_refusal, log_refusal, file_refusal}
use Rattle.volume_file.specs.Save.{home_with, flagged, differs, changes, filled, prepared, lengths_refusal, prepare_refusal, after_prepare, commit_refusal, after_commit}
use Rattle.volume_file.specs.Cuts.{Quiet}
use Rattle.volume_file.specs.Walks.Sectors.{WholeSectors}
use Rattle.volume_file.specs.Answers.{PrepareAnswer, prepare_answered, log_places, prepare_answer}
use Rattle.volume_file.proofs.Laws.Sectors.{sector-beside}
use Rattle.volume_file.proofs.Laws.Facts.{VolumeFile, head-facts, file-facts, small}

-- a sector of two lists in order
pub pair_left : (x y : List ℕ) (i : ℕ) → 512 * i + 512 ≤ length x → block x i ≡ block (x ++ y) i
pair_left x y i h =
    sym (ap (take 512) (drop-append-le (512 * i) x y (omega arith)) ∙ take-append-le 512 (drop (512 * i) x) y (omega (arith, length-drop (512 * i) x)))

pair-right : (x y : List ℕ) (n i : ℕ) → length x ≡ 512 * n → n ≤ i → block y (i - n) ≡ block (x ++ y) i
pair-right x y n i e h =
    let q : 512 * i ≡ length x + 512 * (i - n) = omega arith in
    sym (ap (λ (o : ℕ). part (x ++ y) o 512) q ∙ ap (take 512) (drop-append-add x y (512 * (i - n))))

-- a sector of the program's own bytes, behind image and journal
pub own-right : (x y z : List ℕ) (n m i : ℕ) → length x ≡ 512 * n → length y ≡ 512 * m → n + m ≤ i → block z (i - n - m) ≡ block (x ++ (y ++ z)) i
own-right x y z n m i e f h = pair-right y z m (i - n) f (omega arith) ∙ pair-right x (y ++ z) n i e (omega arith)

pub middle-right : (x y z : List ℕ) (n i : ℕ) → length x ≡ 512 * n → n ≤ i → 512 * (i - n) + 512 ≤ length y → block y (i - n) ≡ block (x ++ (y ++ z)) i
middle-right x y z n i e h l = pair_left y z (i - n) l ∙ pair-right x (y ++ z) n i e h

pub together-long : (image journal own : List ℕ) (h : ℕ) → WholeSectors image journal own h → length (home_with image journal own) ≡ 512 * h
together-long image journal own h p =
    length-append image (journal ++ own) ∙ ap (λ (k : ℕ). length image + k) (length-append journal own) ∙ p.all-long

-- the log from its k-th sector on, written onto t
abbrev logged : ℕ → List ℕ → List ℕ → ℕ → List ℕ → List ℕ
logged h new t k xs = splice (splice t (address_at h k) (joined bytes4 xs)) (512 * saved_at h k) (joined (block new) xs)

abbrev left : List ℕ → List ℕ → ℕ → ℕ → List ℕ
left d new h i = select (differs d new) (interval i (h - i))

left-take : (d new : List ℕ) (h i : ℕ) → i < h → differs d new i ≡ true → left d new h i ≡ i ∷ left d new h (i + 1)
left-take d new h i l e = ap (select (differs d new)) (interval-from h i l) ∙ rw e

left-skip : (d new : List ℕ) (h i : ℕ) → i < h → differs d new i ≡ false → left d new h i ≡ left d new h (i + 1)
left-skip d new h i l e = ap (select (differs d new)) (interval-from h i l) ∙ rw e

-- what is left to log, logged from here, gives what all gives from the start
pub record Logging (d new : List ℕ) (h : ℕ) (t : List ℕ) (k i : ℕ) : Type 0 where
  pub within : i ≤ h
  pub long : length t ≡ length d
  pub home : (s : ℕ) → s < 2 + h → block t s ≡ block d s
  pub place : k + length (left d new h i) ≡ length (left d new h 0)
  pub whole : logged h new d 0 (left d new h 0) ≡ logged h new t k (left d new h i)

pub log-start : (d new : List ℕ) (h : ℕ) → Logging d new h d 0 0
log-start d new h = record { within = omega arith; long = refl; home = λ s l. refl; place = omega arith; whole = refl }

left-few : (d new : List ℕ) (h : ℕ) → length (left d new h 0) ≤ h
left-few d new h = rw sub-zero (omega (arith, select-split (differs d new) h 0))

module _ (d new : List ℕ) (h : ℕ) (t : List ℕ) (k i : ℕ) (g : Logging d new h t k i) (l : i < h) (size : length d ≡ 512 * file_sectors h)
    (fits : length new ≡ 512 * h) where
  -- the test, on the file as it is
  pub log-test : (r : Bool) → r ≡ differs t new i → r ≡ differs d new i
  unfolding differs
  log-test r e = e ∙ rw (g.home (home_at i) (omega arith))

  pub log-skip : differs d new i ≡ false → Logging d new h t k (i + 1)
  log-skip e =
      let q = left-skip d new h i l e in
      record {
        within = omega arith;
        long = g.long;
        home = g.home;
        place = omega (arith, g.place, ap length q);
        whole = g.whole ∙ ap (logged h new t k) q;
      }

  pub log-room : differs d new i ≡ true → k < h
  log-room e = omega (arith, g.place, ap length (left-take d new h i l e), left-few d new h)

  module _ (e : differs d new i ≡ true) (u B : List ℕ) (b : B ≡ block new i) (is : u ≡ splice (splice t (address_at h k) (bytes4 i)) (512 * saved_at h k) B) where
    abbrev r : List ℕ
    r = left d new h (i + 1)

    abbrev J : List ℕ
    J = joined bytes4 r

    abbrev S : List ℕ
    S = joined (block new) r

    J-long : length J ≡ 4 * length r
    J-long = length-joined4 r

    S-long : length S ≡ 512 * length r
    S-long = length-blocks new r (λ x m. let (a, z, w) = select_in (differs d new) (i + 1) (h - (i + 1)) x m in omega (arith, fits))

    B-long : length (block new i) ≡ 512
    B-long = length-block new i (omega arith)

    few : k + 1 + length r ≤ h
    few = omega (arith, g.place, ap length (left-take d new h i l e), left-few d new h)

    four : length (bytes4 i) ≡ 4
    four = length-bytes4 i

    abbrev v : List ℕ
    v = splice t (address_at h k) (bytes4 i)

    v-fits : address_at h k + length (bytes4 i) ≤ length t
    v-fits = omega (arith, four, g.long, few, size)

    v-long : length v ≡ length t
    v-long = length-splice t (address_at h k) (bytes4 i) v-fits

    u-fits : 512 * saved_at h k + length (block new i) ≤ length v
    u-fits = omega (arith, v-long, g.long, few, size, B-long)

    u-is : u ≡ splice v (512 * saved_at h k) (block new i)
    u-is = is ∙ ap (splice v (512 * saved_at h k)) b

    whole-next : logged h new t k (i ∷ r) ≡ logged h new u (k + 1) r
    whole-next =
        let x : address_at h k + length (bytes4 i) ≡ address_at h (k + 1) = omega (arith, four) in
        let y : 512 * saved_at h k + length (block new i) ≡ 512 * saved_at h (k + 1) = omega (arith, B-long) in
        let f : address_at h (k + 1) + length J ≤ length v = omega (arith, J-long, v-long, g.long, few, size) in
        let w : List ℕ = splice v (address_at h (k + 1)) J in
        let wl : length w ≡ length v = length-splice v (address_at h (k + 1)) J f in
        let one : splice t (address_at h k) (bytes4 i ++ J) ≡ w =
        sym (rw x at (splice-append t (address_at h k) (bytes4 i) J (omega (arith, four, J-long, g.long, few, size)))) in
        let two : splice w (512 * saved_at h k) (block new i ++ S) ≡ splice (splice w (512 * saved_at h k) (block new i)) (512 * saved_at h (k + 1)) S =
        sym (rw y at (splice-append w (512 * saved_at h k) (block new i) S (omega (arith, B-long, S-long, wl, v-long, g.long, few, size)))) in
        ap (λ (z : List ℕ). splice z (512 * saved_at h k) (block new i ++ S)) one
        ∙ two
        ∙ ap (λ (z : List ℕ). splice z (512 * saved_at h (k + 1)) S)
        (splice-commutes v (address_at h (k + 1)) J (512 * saved_at h k) (block new i) f u-fits (inl (omega (arith, J-long, few)))
        ∙ ap (λ (z : List ℕ). splice z (address_at h (k + 1)) J) (sym u-is))

    pub log-take : Logging d new h u (k + 1) (i + 1)
    log-take =
        let q = left-take d new h i l e in
        record {
          within = omega arith;
          long = ap length u-is ∙ length-splice v (512 * saved_at h k) (block new i) u-fits ∙ v-long ∙ g.long;
          home = λ s m.
              ap (λ (z : List ℕ). block z s) u-is ∙ sector-beside v (512 * saved_at h k) (block new i) s u-fits (inl (omega arith))
              ∙ sector-beside t (address_at h k) (bytes4 i) s v-fits (inl (omega arith)) ∙ g.home s m;
          place = omega (arith, g.place, ap length q);
          whole = g.whole ∙ ap (logged h new t k) q ∙ whole-next;
        }

-- the end
module _ (d new : List ℕ) (h : ℕ) (t : List ℕ) (k i : ℕ) (g : Logging d new h t k i) (l : h ≤ i) (hs : h ≡ home_sectors d) where
  changes-is : left d new h 0 ≡ changes d new
  unfolding changes
  changes-is = rw (sub-zero, hs)

  none : left d new h i ≡ []
  none = let z : h - i ≡ 0 = omega (arith, g.within) in rw z

  pub log-count : k ≡ length (changes d new)
  log-count = omega (arith, g.place, ap length none, ap length changes-is)

  pub log-few : k ≤ h
  log-few = omega (arith, g.place, left-few d new h)

  pub log-end : t ≡ filled d new
  unfolding filled
  log-end =
      sym (rw (← hs, ← changes-is) (g.whole ∙ ap (logged h new t k) none ∙ splice-nil (splice t (address_at h k) []) (512 * saved_at h k) ∙ splice-nil t (address_at h k)))

-- what is given where nothing is refused
pub record Prepares (d image journal own : List ℕ) : Type 0 where
  pub quiet : Quiet d
  pub image-long : length image ≡ 512 * image_sectors_of (block d 0)
  pub journal-long : length journal ≡ 512 * journal_sectors_of (block d 0)
  pub own-long : length own ≡ 512 * own_sectors_of (block d 0)

pub prepares : (d image journal own : List ℕ) → prepare_refusal d image journal own ≡ 0 → Prepares d image journal own
unfolding prepare_refusal lengths_refusal
prepares d image journal own e =
    let a = first_of-zero (file_refusal d) _ e in
    let b = require-zero (not (waits d)) 5 _ a.1 in
    let f = require-zero (eqb (length image) (512 * image_sectors_of (block d 0))) 6 _ b.1 in
    let g = require-zero (eqb (length journal) (512 * journal_sectors_of (block d 0))) 7 _ f.1 in
    let i = require-zero (eqb (length own) (512 * own_sectors_of (block d 0))) 8 0 g.1 in
    record {
      quiet = record { ok = a.0; none = not-true _ b.0 };
      image-long = eqb-true _ _ f.0;
      journal-long = eqb-true _ _ g.0;
      own-long = eqb-true _ _ i.0;
    }

pub all-together : (d image journal own : List ℕ) → Prepares d image journal own → length image + (length journal + length own) ≡ 512 * home_sectors d
unfolding home_sectors
all-together d image journal own p = omega (arith, p.image-long, p.journal-long, p.own-long)

-- the log of a save that is accepted
pub record Fill (d image journal own : List ℕ) (h : ℕ) : Type 0 where
  pub whole : WholeSectors image journal own h
  pub size : length d ≡ 512 * file_sectors h
  pub few : h ≤ 196736
  pub is : h ≡ home_sectors d

module _ (d image journal own : List ℕ) (number h : ℕ) (is : number ≡ prepare_refusal d image journal own) (z : number ≡ 0) where
  given : Prepares d image journal own
  given = prepares d image journal own (sym is ∙ z)

  facts : VolumeFile (home_sectors d) d
  facts = file-facts d given.quiet.ok

  pub prepare-long : 512 ≤ length d
  prepare-long = omega (arith, facts.size)

  pub prepare-fill : h ≡ home_sectors d → Fill d image journal own h
  prepare-fill e = rw e (record {
    whole = record {
      image-long = omega (arith, given.image-long);
      journal-long = omega (arith, given.journal-long);
      all-long = all-together d image journal own given;
    };
    size = facts.size;
    few = small facts;
    is = refl;
  })

  pub prepare-room : h ≡ home_sectors d → count_at h + 4 ≤ length d
  prepare-room e = omega (arith, facts.size, e)

  pub prepare-answered : h ≡ home_sectors d → (k : ℕ) → k ≡ length (changes d (home_with image journal own)) → (a : PrepareAnswer) → a ≡ log_places h k
      → a ≡ prepare_answer d image journal own
  unfolding prepare_answer
  prepare-answered hs k e a q = q ∙ rw (← is, z, hs, e)

  pub prepare-done : h ≡ home_sectors d → (k : ℕ) → k ≡ length (changes d (home_with image journal own)) → (t u : List ℕ) → t ≡ filled d (home_with image journal own)
      → u ≡ splice t (count_at h) (bytes4 k) → u ≡ after_prepare d image journal own
  unfolding prepared after_prepare
  prepare-done hs k e t u f g = rw (← is, z, ← hs, ← e, ← f, g)

-- a refusal: its number, and nothing changes
module _ (d image journal own : List ℕ) (number : ℕ) (is : number ≡ prepare_refusal d image journal own) (some : number ≢ 0) where
  pub prepare-refused : prepare_answered number 0 0 0 0 0 ≡ prepare_answer d image journal own
  unfolding prepare_answer
  prepare-refused = rw (← is) (sym (accept-refused number _ (prepare_answered number 0 0 0 0 0) some))

  pub prepare-kept : d ≡ after_prepare d image journal own
  unfolding after_prepare
  prepare-kept = rw (← is) (sym (accept-refused number (prepared d (home_with image journal own)) d some))

-- the commit
module _ (d : List ℕ) (number : ℕ) (is : number ≡ head_refusal d) where
  pub commit-head : number ≢ 0 → number ≡ commit_refusal d
  unfolding commit_refusal
  commit-head some = sym (rw (← is) (first_of-refused number _ some))

  module _ (z : number ≡ 0) (k wrong : ℕ) (ks : k ≡ log_count d) (ws : wrong ≡ log_refusal d k) where
    pub commit-log : wrong ≢ 0 → wrong ≡ commit_refusal d
    unfolding commit_refusal
    commit-log some = sym (rw (← is, z, ← ks, ← ws) (first_of-refused wrong _ some))

    module _ (y : wrong ≡ 0) where
      pub commit-waits : waits d ≡ true → 6 ≡ commit_refusal d
      unfolding commit_refusal
      commit-waits w = rw (← is, z, ← ks, ← ws, y, w)

      pub commit-ok : waits d ≡ false → 0 ≡ commit_refusal d
      unfolding commit_refusal
      commit-ok w = rw (← is, z, ← ks, ← ws, y, w)

module _ (d : List ℕ) (number : ℕ) (is : number ≡ commit_refusal d) where
  pub commit-kept : number ≢ 0 → d ≡ after_commit d
  unfolding after_commit
  commit-kept some = rw (← is) (sym (accept-refused number (flagged d 1) d some))

  pub commit-done : number ≡ 0 → (u : List ℕ) → u ≡ flagged d 1 → u ≡ after_commit d
  unfolding after_commit
  commit-done z u e = rw (← is, z, e)

  pub commit-long : number ≡ 0 → 1024 ≤ length d
  unfolding commit_refusal
  commit-long z = let a = first_of-zero (head_refusal d) _ (sym is ∙ z) in omega (arith, (head-facts d a.0).size)
