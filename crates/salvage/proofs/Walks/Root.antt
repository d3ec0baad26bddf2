-- The loop over the root's slots: image, marks and report are those of the slots done so far, and the fingerprints those of their names.
use Prim.Native.Nat.{ℕ, suc, ◌+◌, ◌-◌, ◌*◌, ◌≤◌, ◌<◌}
use mathlib.Core.List.{List, [], ◌∷◌, ◌++◌}
use mathlib.Core.Logic.{inr}
use mathlib.Core.Path.{◌≡◌, refl, sym, ap, ◌∙◌, subst}
use native.Mathlib.Omega.{arith}
use lib.ListN.{length, get_or, set, length-set}
use lib.Seq.{get_or-set_same, get_or-set_other}
use Rattle.layout.specs.Limits.{max_slots, max_directory}
use Rattle.layout.specs.Lists.{interval}
use Rattle.layout.specs.Bytes.{part, splice}
use Rattle.layout.specs.Geometry.{block_count}
use Rattle.layout.specs.Table.{next, chain}
use Rattle.layout.specs.Directory.{slot_at, type_of, blocks_of, directory, root_of}
use Rattle.layout.specs.Walks.Names.{Noted, SlotIn, fingerprint}
use Rattle.layout.specs.Walks.Shapes.{Shape, Blocks, DirectoryAt}
use Rattle.layout.specs.Walks.Slots.{Place, entry_at, slot_block}
use Rattle.layout.proofs.Laws.Tests.{below_more}
use Rattle.layout.proofs.Laws.Lists.{get_d-in}
use Rattle.layout.proofs.Laws.Frames.{Same, same-part, same_byte}
use Rattle.layout.proofs.Laws.Trees.{Directory, directory_ok-split, length-directory}
use Rattle.layout.proofs.Walks.Fingerprints.{noted-none}
use Rattle.layout.proofs.Walks.Shapes.{shape-block_count}
use Rattle.layout.proofs.Walks.Slots.{place-first, place-then, place-entry, place-below}
use Rattle.salvage.specs.Salvage.{Progress, take_slot, take_slots, slots_done}
use Rattle.salvage.specs.Walks.{MarksOf, progress, Reached, SlotGiven, SlotTaken, RootGiven, RootTaken}
use Rattle.salvage.proofs.Laws.Walked.{chain-stays}
use Rattle.salvage.proofs.Laws.Places.{slot-low, slot-high, slots_apart}
use Rattle.salvage.proofs.Laws.Steps.{Stepped, slot-stepped}
use Rattle.salvage.proofs.Laws.Runs.{Run, run-next, slot-type}
use Rattle.salvage.proofs.Laws.Result.{Given, given, place, start-run, no-directory}
use Rattle.salvage.proofs.Walks.Turns.{slots_end, slots_next}
use Rattle.salvage.proofs.Walks.Slots.{report-more, report-first}

pub record Taking (s₀ : List ℕ) (n first d : ℕ) (report₀ s m ps pl report : List ℕ) (b k left : ℕ) : Type 0 where
  pub done : ℕ
  pub claimed : List ℕ
  pub codes : List ℕ
  pub here : k ≡ suc done
  pub run : Run (block_count s₀) (directory s₀ (root_of s₀)) s₀ (progress s claimed codes) done
  pub rest : take_slots (directory s₀ (root_of s₀)) (progress s claimed codes) (interval k left) ≡ slots_done s₀
  pub marks : MarksOf m claimed
  pub noted : Noted s (chain (next s) first d) ps pl k
  pub at : Place (directory s₀ (root_of s₀)) d b k left
  pub told : report ≡ splice report₀ 0 codes

-- in the ranges of the numbers that the loop has
pub record InRange (n d : ℕ) (report₀ s : List ℕ) (b : ℕ) : Type 0 where
  pub some : 1 ≤ d
  pub few : d ≤ max_directory
  pub room : 4 * d ≤ length report₀
  pub shape : Shape s n
  pub below : b < n

module _ {s₀ : List ℕ} {t n first d : ℕ} {m₀ report₀ : List ℕ} (R : RootGiven s₀ t n first d m₀ report₀) where
  abbrev ds : List ℕ
  ds = directory s₀ (root_of s₀)

  abbrev N : ℕ
  N = block_count s₀

  A : Given s₀
  A = (given s₀ (length report₀) (sym R.weighed.number)).0

  pub root-room : 4 * d ≤ length report₀
  root-room = omega (arith, (given s₀ (length report₀) (sym R.weighed.number)).1, R.size)

  count : N ≡ n
  count = shape-block_count s₀ n R.room.shape

  root-right : Directory s₀ N (root_of s₀) (root_of s₀)
  root-right = directory_ok-split s₀ N (root_of s₀) (root_of s₀) A.four

  pub root-size : (1 ≤ d) × (d ≤ max_directory)
  root-size = (omega (arith, R.size, (place s₀ A).some), omega (arith, R.size, length-directory s₀ (root_of s₀), root-right.d-most))

  module _ {s cs codes : List ℕ} {j : ℕ} (U : Run N ds s₀ (progress s cs codes) j) where
    pub root-same : chain (next s) first d ≡ ds
    unfolding directory
    root-same =
        let e : d ≡ blocks_of s₀ (512 * root_of s₀) = R.size ∙ length-directory s₀ (root_of s₀) in
        rw (e, R.begins) (chain-stays (next s₀) (next s) (root_of s₀) (blocks_of s₀ (512 * root_of s₀)) (λ x i. U.since.root x i))

    root-shape : Shape s n
    root-shape = record { whole = omega (arith, U.done.whole, count); low = R.room.shape.low; high = R.room.shape.high }

    pub root-at : DirectoryAt s n first d
    root-at =
        record {
          shape = root-shape;
          blocks = rw root-same (record {
            some = root-size.0;
            few = root-size.1;
            size = sym R.size;
            below = λ i h. let w = (place s₀ A).blocks (get_or ds i 0) (get_d-in ds i 0 (omega (arith, R.size))) in omega (arith, w.1, count);
          });
        }

  -- before the first slot
  pub taking-start : (ps pl : List ℕ) → length ps ≡ max_slots → length pl ≡ max_slots → Taking s₀ n first d report₀ s₀ m₀ ps pl report₀ first 1 (4 * d - 2)
  unfolding slots_done
  taking-start ps pl l l' =
      let U = start-run s₀ A in
      record {
        done = 0;
        claimed = ds;
        codes = 0 ∷ [];
        here = refl;
        run = U;
        rest = ap (λ (x : ℕ). take_slots ds (progress s₀ ds (0 ∷ [])) (interval 1 (4 * x - 2))) R.size;
        marks = R.weighed.marks refl;
        noted = noted-none s₀ (chain (next s₀) first d) ps pl l l';
        at = subst (λ (x : List ℕ). Place x d first 1 (4 * d - 2)) (root-same U) (place-first (next s₀) first d root-size.0);
        told = report-first report₀ (omega (arith, root-room, root-size.0)) R.self;
      }

  module _ {s m ps pl report : List ℕ} {b k left : ℕ} (T : Taking s₀ n first d report₀ s m ps pl report b k left) where
    same-root : chain (next s) first d ≡ ds
    same-root = root-same T.run

    pub taking-shape : Shape s n
    taking-shape = root-shape T.run

    pub taking-below : b < n
    taking-below = place-below n ds d b k left (subst (Blocks n d) same-root (root-at T.run).blocks) T.at

    pub taking-range : InRange n d report₀ s b
    taking-range = record { some = root-size.0; few = root-size.1; room = root-room; shape = taking-shape; below = taking-below }

    taking-entry : entry_at b k ≡ slot_at ds k
    taking-entry = place-entry ds d b k left T.at

    -- the report has the codes of the slots done, and is as long as it was
    counted : length T.codes ≡ k
    counted = T.run.count ∙ sym T.here

    pub taking-end : left ≡ 0 → RootTaken s₀ report₀ s m report
    taking-end z =
        let e : progress s T.claimed T.codes ≡ slots_done s₀ = sym (slots_end ds (progress s T.claimed T.codes) k) ∙ ap (λ (j : ℕ). take_slots ds (progress s T.claimed T.codes) (interval k j)) (sym z) ∙ T.rest in
        record {
          image = ap (λ (p : Progress). p.image) e;
          marks = subst (λ (p : Progress). MarksOf m p.claimed) e T.marks;
          codes = subst (λ (p : Progress). report ≡ splice report₀ 0 p.codes) e T.told;
        }

    module _ (pos : 0 < left) where
      pub taking-slot : k < 4 * d
      taking-slot = omega (arith, T.at.left)

      slot-in : SlotIn s ds b k
      slot-in = record {
        low = omega (arith, T.here);
        high = omega (arith, root-size.1, T.at.left);
        inside = omega (arith, taking-below, taking-shape.whole);
        place = taking-entry;
      }

      pub taking-given : (ps₁ pl₁ : List ℕ) → ps₁ ≡ set ps k (fingerprint (part s (entry_at b k + 48) 80)) → pl₁ ≡ set pl k b → SlotGiven s first d ps₁ pl₁ b k
      taking-given ps₁ pl₁ e f =
          let p = T.noted in
          let v : ℕ = fingerprint (part s (entry_at b k + 48) 80) in
          let low : k < length ps = omega (arith, p.prints-room, root-size.1, T.at.left) in
          rw (e, f)
          (record {
            noted = record {
              prints-room = length-set ps k v ∙ p.prints-room;
              places-room = length-set pl k b ∙ p.places-room;
              right = p.right;
              place = λ i h g. rw (get_or-set_other pl k i b 0 (λ z. absurd (omega arith))) (p.place i h g);
              print = λ i h g u. get_or-set_other ps k i v 0 (λ z. absurd (omega arith)) ∙ p.print i h g u;
            };
            print = get_or-set_same ps k v 0 low;
            slot = rw same-root slot-in;
          })

      module _ {code : ℕ} {s' m' : List ℕ} (S : SlotTaken s m (chain (next s) first d) k code s' m') where
        abbrev p : Progress
        p = progress s T.claimed T.codes

        abbrev q : Progress
        q = take_slot ds p k

        X : Reached T.codes q code s' m'
        X = subst (λ (x : List ℕ). Reached T.codes (take_slot x p k) code s' m') same-root (S.reached T.claimed T.codes T.marks)

        stepped : Stepped N ds p (take_slot ds p (suc T.done)) (suc T.done)
        stepped =
            let h : suc T.done < 4 * length ds = omega (arith, taking-slot, T.here, R.size) in
            slot-stepped N ds (place s₀ A) p T.done T.run.done h
            (slot-type N ds (place s₀ A) s₀ p T.done T.run h (no-directory s₀ A (suc T.done) (omega arith) (omega (arith, T.here, T.at.left, R.size))))

        ran : Run N ds s₀ q k
        ran =
            let h : suc T.done < 4 * length ds = omega (arith, taking-slot, T.here, R.size) in
            subst (λ (j : ℕ). Run N ds s₀ (take_slot ds p j) j) (sym T.here) (run-next N ds (place s₀ A) s₀ p T.done T.run h (take_slot ds p (suc T.done)) stepped)

        q-is : q ≡ progress s' q.claimed (T.codes ++ (code ∷ []))
        q-is = ap (λ (x : List ℕ). progress x q.claimed q.codes) (sym X.image) ∙ ap (λ (x : List ℕ). progress s' q.claimed x) X.coded

        ran' : Run N ds s₀ (progress s' q.claimed (T.codes ++ (code ∷ []))) k
        ran' = subst (λ (x : Progress). Run N ds s₀ x k) q-is ran

        other-slot : (i : ℕ) → i < k → Same s s' (slot_at ds i) 128
        other-slot i h =
            let hk : suc T.done < 4 * length ds = omega (arith, taking-slot, T.here, R.size) in
            let hi : i < 4 * length ds = omega (arith, T.here) in
            let e : (take_slot ds p (suc T.done)).image ≡ s' = ap (λ (j : ℕ). (take_slot ds p j).image) (sym T.here) ∙ sym X.image in
            subst (λ (x : List ℕ). Same s x (slot_at ds i) 128) e
            (stepped.step.beside (slot_at ds i) 128 (inr (slot-low N ds (place s₀ A) i hi)) (slots_apart N ds (place s₀ A) i (suc T.done) hi hk (λ z. omega (arith, T.here))))

        length-same : length s' ≡ length s
        length-same = ran'.since.len ∙ sym T.run.since.len

        field-same : (i : ℕ) → i < k → part s' (slot_at ds i + 48) 80 ≡ part s (slot_at ds i + 48) 80
        field-same i h =
            let hi : i < 4 * length ds = omega (arith, T.here, T.at.left, R.size) in
            same-part s s' (slot_at ds i) 128 (slot_at ds i + 48) 80 (other-slot i h) (omega arith) (omega arith)
            (omega (arith, slot-high N ds (place s₀ A) i hi, T.run.done.whole)) length-same

        type-same : (i : ℕ) → i < k → type_of s' (slot_at ds i) ≡ type_of s (slot_at ds i)
        type-same i h = same_byte s s' (slot_at ds i) 128 (slot_at ds i) (other-slot i h) (omega arith) (omega arith)

        slot-stays : (x i : ℕ) → SlotIn s ds x i → SlotIn s' ds x i
        slot-stays x i z = record { low = z.low; high = z.high; inside = omega (arith, z.inside, length-same); place = z.place }

        -- the next turn: the slot's code is stored, and its fingerprint noted as it is now
        pub taking-turn : (ps₁ ps₂ pl₁ : List ℕ) → (v : ℕ) → ps₁ ≡ set ps k v → ps₂ ≡ set ps₁ k (fingerprint (part s' (entry_at b k + 48) 80)) → pl₁ ≡ set pl k b
            → (c : ℕ) → c ≡ slot_block (next s') b (k + 1) → (rest : ℕ) → rest + 1 ≡ left → Taking s₀ n first d report₀ s' m' ps₂ pl₁ (set report k code) c (k + 1) rest
        taking-turn ps₁ ps₂ pl₁ v e₁ e₂ e₃ c ec rest er =
            let y : ℕ = fingerprint (part s' (entry_at b k + 48) 80) in
            let z : k + 1 ≡ suc k = omega arith in
            let f : suc rest ≡ left = omega arith in
            let r : left - 1 ≡ rest = omega arith in
            let l₁ : length ps₁ ≡ length ps = rw e₁ (length-set ps k v) in
            let l₂ : length ps₂ ≡ length ps = rw e₂ (length-set ps₁ k y) ∙ l₁ in
            let same : chain (next s') first d ≡ ds = root-same ran' in
            let low : k < length ps₁ = omega (arith, T.noted.prints-room, root-size.1, T.at.left) in
            let low' : k < length pl = omega (arith, T.noted.places-room, root-size.1, T.at.left) in
            record {
              done = k;
              claimed = q.claimed;
              codes = T.codes ++ (code ∷ []);
              here = z;
              run = ran';
              rest =
                  ap (λ (x : Progress). take_slots ds x (interval (k + 1) rest)) (sym q-is) ∙ ap (λ (j : ℕ). take_slots ds q (interval j rest)) z
                  ∙ sym (slots_next ds p k rest) ∙ ap (λ (j : ℕ). take_slots ds p (interval k j)) f ∙ T.rest;
              marks = X.marks;
              noted = record {
                prints-room = l₂ ∙ T.noted.prints-room;
                places-room = rw e₃ (length-set pl k b) ∙ T.noted.places-room;
                right = rw same (λ i h g. ran'.done.slot i h (omega arith));
                place = rw same (below_more (λ i. SlotIn s' ds (get_or pl₁ i 0) i) 1 k
                    (λ i h g.
                    let o : get_or pl₁ i 0 ≡ get_or pl i 0 = ap (λ (x : List ℕ). get_or x i 0) e₃ ∙ get_or-set_other pl k i b 0 (λ w. absurd (omega arith)) in
                    rw o (slot-stays (get_or pl i 0) i (rw same-root at (T.noted.place i h g))))
                    (let o : get_or pl₁ k 0 ≡ b = ap (λ (x : List ℕ). get_or x k 0) e₃ ∙ get_or-set_same pl k b 0 low' in rw o (slot-stays b k slot-in)));
                print = rw same (below_more (λ i. (type_of s' (slot_at ds i) ≡ 0 → ⊥) → get_or ps₂ i 0 ≡ fingerprint (part s' (slot_at ds i + 48) 80)) 1 k
                    (λ i h g u. ap (λ (x : List ℕ). get_or x i 0) e₂ ∙ get_or-set_other ps₁ k i y 0 (λ w. absurd (omega arith)) ∙ ap (λ (x : List ℕ). get_or x i 0) e₁
                    ∙ get_or-set_other ps k i v 0 (λ w. absurd (omega arith)) ∙ (rw same-root at (T.noted.print i h g)) (λ w. u (type-same i g ∙ w))
                    ∙ ap fingerprint (sym (field-same i g)))
                    (λ u. ap (λ (x : List ℕ). get_or x k 0) e₂ ∙ get_or-set_same ps₁ k y 0 low ∙ ap (λ (x : ℕ). fingerprint (part s' (x + 48) 80)) taking-entry));
              };
              at = rw (← r)
                  (subst (λ (x : List ℕ). Place x d c (k + 1) (left - 1)) same
                  (place-then (next s') first d b k left c (subst (λ (x : List ℕ). Place x d b k left) (sym same) T.at) pos ec));
              told = ap (λ (x : List ℕ). set x k code) T.told ∙ report-more report₀ T.codes k code counted (omega (arith, root-room, taking-slot));
            }
