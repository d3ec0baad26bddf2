-- WHOSE A BLOCK IS: every block in use above the table is the root's, or of one kept file.
use Prim.Native.Nat.{ℕ, ◌-◌, ◌*◌, ◌<◌}
use mathlib.Core.Bool.{true}
use mathlib.Core.List.{List, []}
use mathlib.Core.Logic.{◌⊎◌, inl, inr, ⊎_elim, ◌≢◌}
use mathlib.Core.Path.{◌≡◌, subst}
use native.Mathlib.Decide.{ℕ_discrete}
use native.Mathlib.Omega.{arith}
use lib.Dec.{eqb}
use lib.ListN.{length}
use borrow.Author.Tests.{eqb-true}
use Rattle.layout.specs.Lists.{interval, select, distinct, has, joined}
use Rattle.layout.specs.Geometry.{block_count, table_blocks}
use Rattle.layout.specs.Table.{next, chain}
use Rattle.layout.specs.Directory.{slot_at, type_of, is_file, directory, root_of, file_blocks, attribute_blocks}
use Rattle.layout.specs.Check.{file_chains, owned}
use Rattle.layout.proofs.Laws.Tests.{eqb-self, true-or-false, true-not-false}
use Rattle.layout.proofs.Laws.Lists.{In, in_left, in_right, in-append, has-eqb-in, in-has-eqb, distinct-right}
use Rattle.layout.proofs.Laws.Joins.{in-interval, interval-in, in-select, select_has, of-join, join-join, join_apart}
use Rattle.salvage.specs.Salvage.{slots_done, salvage_image}
use Rattle.salvage.specs.Claims.{Holds}
use Rattle.salvage.proofs.Laws.Done.{files_to, file-not-root}
use Rattle.salvage.proofs.Laws.Result.{Given, place, end, done}

-- the block as a member of one of the file's chains
pub holds-in : (w ds : List ℕ) (k b : ℕ) → Holds w ds k b → In b (file_blocks w (slot_at ds k)) ⊎ In b (attribute_blocks w (slot_at ds k))
holds-in w ds k b H = ⊎_elim (λ i. inl (has-eqb-in b (file_blocks w (slot_at ds k)) i)) (λ i. inr (has-eqb-in b (attribute_blocks w (slot_at ds k)) i)) H.block

module _ (s : List ℕ) (A : Given s) where
  abbrev n : ℕ
  n = block_count s

  abbrev ds : List ℕ
  ds = directory s (root_of s)

  abbrev m : ℕ
  m = 4 * length ds - 2

  abbrev w : List ℕ
  w = salvage_image s

  abbrev cs : List ℕ
  cs = (slots_done s).claimed

  held : (b : ℕ) → In b (owned (next w) (files_to w ds m)) → (k : ℕ) × Holds w ds k b
  unfolding owned files_to file_chains file_blocks attribute_blocks
  held b i =
      let c = of-join (λ c. chain (next w) c.0 c.1) (files_to w ds m) b i in
      let k = of-join (λ k. file_chains w (slot_at ds k)) (select (λ k. is_file (type_of w (slot_at ds k))) (interval 1 m)) c.0 c.1 in
      let x = in-select (λ k. is_file (type_of w (slot_at ds k))) (interval 1 m) k.0 k.1 in
      let r = in-interval 1 m k.0 x.0 in (
        k.0,
        record {
          least = r.0;
          most = omega (arith, r.1);
          file = x.1;
          block = ⊎_elim (λ e. inl (in-has-eqb b (file_blocks w (slot_at ds k.0)) (subst (λ (p : ℕ × ℕ). In b (chain (next w) p.0 p.1)) e c.2)))
              (λ j. ⊎_elim (λ e. inr (in-has-eqb b (attribute_blocks w (slot_at ds k.0)) (subst (λ (p : ℕ × ℕ). In b (chain (next w) p.0 p.1)) e c.2))) (λ z. absurd z) j) k.2;
        },
      )

  pub holder : (b : ℕ) → table_blocks n < b → b < n → next w b ≢ 0 → In b ds ⊎ ((k : ℕ) × Holds w ds k b)
  holder b low high used =
      ⊎_elim
      (λ e. ⊎_elim (λ i. inl i) (λ i. inr (held b i)) (in-append b ds (owned (next w) (files_to w ds m)) (subst (In b) (done s A).claims (has-eqb-in b cs e))))
      (λ e. absurd (used ((end s A).free b low (omega arith) (λ i. true-not-false (in-has-eqb b cs i) e))))
      (true-or-false (has eqb b cs))

  pub holder-apart : (b k : ℕ) → Holds w ds k b → In b ds → ⊥
  holder-apart b k H = file-not-root n ds (place s A) w cs m (done s A) (omega (arith, (place s A).some)) k H.least H.most H.file b (holds-in w ds k b H)

  pub one-holder : (b j k : ℕ) → Holds w ds j b → Holds w ds k b → j ≡ k
  unfolding owned files_to file_chains file_blocks attribute_blocks
  one-holder b j k J K = go (ℕ_discrete j k)
    where
      slotted : List ℕ
      slotted = select (λ x. is_file (type_of w (slot_at ds x))) (interval 1 m)

      blocks : ℕ → List ℕ
      blocks x = joined (λ c. chain (next w) c.0 c.1) (file_chains w (slot_at ds x))

      once : distinct eqb (joined blocks slotted) ≡ true
      once =
          subst (λ (l : List ℕ). distinct eqb l ≡ true) (join-join (λ c. chain (next w) c.0 c.1) (λ x. file_chains w (slot_at ds x)) slotted)
          (distinct-right eqb eqb-true eqb-self ds (owned (next w) (files_to w ds m)) (subst (λ (l : List ℕ). distinct eqb l ≡ true) (done s A).claims (done s A).apart))

      among : (x : ℕ) → Holds w ds x b → In x slotted
      among x H = select_has (λ y. is_file (type_of w (slot_at ds y))) (interval 1 m) x (interval-in m 1 x H.least (omega (arith, H.least, H.most))) H.file

      its : (x : ℕ) → Holds w ds x b → In b (blocks x)
      its x H =
          ⊎_elim (λ i. in_left b (file_blocks w (slot_at ds x)) _ i)
          (λ i. in_right b (file_blocks w (slot_at ds x)) _ (in_left b (attribute_blocks w (slot_at ds x)) [] i)) (holds-in w ds x b H)

      go : Dec (j ≡ k) → j ≡ k
      go (yes e) = e
      go (no ne) = absurd (join_apart blocks eqb eqb-true eqb-self slotted once j k (among j J) (among k K) ne b (its j J) (its k K))
