-- AS THE FIRST SALVAGE: where that accepts, the root's end slot is right and no folder is lost, both take the slots of the root in the same way.
use Prim.Native.Nat.{ℕ, zero, suc, ◌+◌, ◌-◌, ◌*◌, ◌/◌, ◌≤◌, ◌<◌, ◌%◌}
use mathlib.Core.Bool.{Bool, true, false, not, ◌&&◌, cond}
use mathlib.Core.List.{List, [], ◌∷◌, ◌++◌}
use mathlib.Core.Logic.{inl, inr, ⊎_elim}
use mathlib.Core.Path.{◌≡◌, refl, sym, ap, ◌∙◌, subst}
use native.Mathlib.Nat.{eq-or-lt_of_le}
use native.Mathlib.Omega.{arith}
use lib.ListN.{length, get_or}
use borrow.Author.Tests.{eqb-false, not-true, eq-eqb}
use Rattle.layout.specs.Limits.{min_blocks, max_blocks, max_levels}
use Rattle.layout.specs.Lists.{interval, every}
use Rattle.layout.specs.Bytes.{part, zeros}
use Rattle.layout.specs.Geometry.{block_count}
use Rattle.layout.specs.Directory.{slot_at, slots, type_of, blocks_of, is_free, is_file, is_directory, directory, root_of, file_blocks}
use Rattle.layout.specs.Check.{stage1, stage2, stage3, directory_ok, slot_ok, new_name}
use Rattle.layout.proofs.Laws.Tests.{and_split, true-not-false, require-zero}
use Rattle.layout.proofs.Laws.Lists.{In, every_in}
use Rattle.layout.proofs.Laws.Joins.{interval-in, in-interval}
use Rattle.layout.proofs.Laws.Bytes.{length-zeros, get_d-zeros}
use Rattle.layout.proofs.Laws.Frames.{Same}
use Rattle.layout.proofs.Laws.Entries.{same-type}
use Rattle.layout.proofs.Laws.Sound.{slot_ok-split}
use Rattle.salvage.specs.Salvage as first
use Rattle.salvage.specs.Salvage.{Progress, claimable, take_file, end_at}
use Rattle.salvage.proofs.Laws.Walked.{by_cond}
use Rattle.salvage.proofs.Laws.Places.{Place, slot-high}
use Rattle.salvage_tree.specs.SalvageTree.{State, coded, dropped, keep_file, take_file_at, take_slot, take_slots, take_child, hang, hang_each, lost, directory_blocks, root_blocks_of, tree_done, folders_hung, rest, salvaged}
use Rattle.salvage_tree.specs.Claims.{code_at}
use Rattle.salvage_tree.proofs.Laws.Steps.{Inv, coded-is, coded-put}
use Rattle.salvage_tree.proofs.Laws.Slots.{ChildLaw, Run, run-start, one, home, code_by, next-run}
use Rattle.salvage_tree.proofs.Laws.Counting.{once-count}
use Rattle.salvage_tree.proofs.Laws.Fine.{dir-place, slot-home}
use Rattle.salvage_tree.proofs.Laws.Dirs.{DirIs}
use Rattle.salvage_tree.proofs.Laws.Tree.{all-run, dir-then, child-taken}
use Rattle.salvage_tree.proofs.Laws.Fixed.{st, found, put_same}
use Rattle.salvage_tree.proofs.Laws.Rest as Rest
use Rattle.layout.proofs.Laws.Trees.{directory_ok-split, slot_at-zero}

zero-slot : (ds : List ℕ) (b : ℕ) → slot_at ds 0 ≡ 512 * b → get_or ds 0 0 ≡ b
unfolding slot_at
zero-slot ds b q = omega arith

cond_both : {A B : Type 0} (P : A → B → Type 0) (b : Bool) (x y : A) (x' y' : B) → (b ≡ true → P x x') → (b ≡ false → P y y') → P (cond b x y) (cond b x' y')
cond_both P true x y x' y' f g = f refl
cond_both P false x y x' y' f g = g refl

abbrev pub progress : State → List ℕ → Progress
progress p ks = record { image = p.image; claimed = p.claimed; codes = ks }

-- one slot: the same image and claims, and the same code
record Twin (ks : List ℕ) (e : ℕ) (q : State) (q' : Progress) : Type 0 where
  code : ℕ
  is : q' ≡ progress q (ks ++ (code ∷ []))
  told : code_at q.codes e ≡ code

twin-file : (p : State) (ks : List ℕ) (e : ℕ) → e / 128 < length p.codes → code_at p.codes e ≡ 0 → Twin ks e (keep_file p e) (take_file (progress p ks) e)
unfolding keep_file take_file
twin-file p ks e h z =
    cond_both (λ (f f' : Progress). Twin ks e (record { image = f.image; claimed = f.claimed; codes = coded p.codes e (get_or f.codes 0 0) }) f') (claimable (block_count p.image) _ _) _ _ _ _
    (λ c. record { code = _; is = refl; told = coded-is p.codes e _ h z }) (λ c. record { code = 4; is = refl; told = coded-is p.codes e 4 h z })

twin-slot : (child : State → ℕ → State) (ds : List ℕ) (p : State) (ks : List ℕ) (k : ℕ) → slot_at ds k / 128 < length p.codes → code_at p.codes (slot_at ds k) ≡ 0
    → is_directory (type_of p.image (slot_at ds k)) ≡ false → Twin ks (slot_at ds k) (take_slot child ds p k) (first.take_slot ds (progress p ks) k)
unfolding take_slot first.take_slot first.skip first.zero_entry take_file_at dropped
twin-slot child ds p ks k h z plain =
    cond_both (Twin ks (slot_at ds k)) (is_free (type_of p.image (slot_at ds k))) p _ _ _ (λ c. record { code = 0; is = refl; told = z })
    (λ used. cond_both (Twin ks (slot_at ds k)) (slot_ok p.image (slot_at ds k) && new_name p.image ds k) _ _ _ _
    (λ c. by_cond (λ q. Twin ks (slot_at ds k) q (cond (claimable (block_count p.image) p.claimed (file_blocks p.image (slot_at ds k))) (take_file (progress p ks) (slot_at ds k)) (first.zero_entry (progress p ks) (slot_at ds k) 2))) (is_file (type_of p.image (slot_at ds k))) _ _
    (λ f. cond_both (Twin ks (slot_at ds k)) (claimable (block_count p.image) p.claimed (file_blocks p.image (slot_at ds k))) _ _ _ _
    (λ g. twin-file p ks (slot_at ds k) h z) (λ g. record { code = 2; is = refl; told = coded-put p.codes (slot_at ds k) 2 h (λ y. omega arith) }))
    (λ f. absurd (⊎_elim (λ y. eqb-false _ _ used y) (λ r. ⊎_elim (λ y. true-not-false y.0 f) (λ y. true-not-false y.0 plain) r)
    (slot_ok-split p.image (slot_at ds k) (and_split (slot_ok p.image (slot_at ds k)) _ c).0))))
    (λ c. record { code = 1; is = refl; told = coded-put p.codes (slot_at ds k) 1 h (λ y. omega arith) }))

-- some slots
pub record Twins (ds : List ℕ) (m : ℕ) (q : State) (q' : Progress) : Type 0 where
  pub all : List ℕ
  pub is : q' ≡ progress q all
  pub size : length all ≡ suc m
  pub told : (j : ℕ) → 1 ≤ j → j ≤ m → code_at q.codes (slot_at ds j) ≡ get_or all j 0

get_d-snoc : (ks : List ℕ) (c : ℕ) → get_or (ks ++ (c ∷ [])) (length ks) 0 ≡ c
get_d-snoc [] c = refl
get_d-snoc (k ∷ ks) c = get_d-snoc ks c

get_d_front : (ks : List ℕ) (c j : ℕ) → j < length ks → get_or (ks ++ (c ∷ [])) j 0 ≡ get_or ks j 0
get_d_front [] c j h = absurd (omega arith)
get_d_front (k ∷ ks) c zero h = refl
get_d_front (k ∷ ks) c (suc j) h = get_d_front ks c j (omega arith)

length-snoc : (ks : List ℕ) (c : ℕ) → length (ks ++ (c ∷ [])) ≡ suc (length ks)
length-snoc [] c = refl
length-snoc (k ∷ ks) c = ap suc (length-snoc ks c)

module _ (o : List ℕ) (n left parent : ℕ) (child : State → ℕ → State) (law : ChildLaw o n left parent child) (ds : List ℕ) (G : Place n ds) (p₀ : State) (mine : (x : ℕ) → In x ds → In x p₀.claimed)
    (plain : (k : ℕ) → 1 ≤ k → k ≤ 4 * length ds - 2 → is_directory (type_of o (slot_at ds k)) ≡ false) where
  module _ (p : State) (m : ℕ) (ks : List ℕ) (R : Run o n left parent ds p₀ p m) (l : length ks ≡ suc m) (t : (j : ℕ) → 1 ≤ j → j ≤ m → code_at p.codes (slot_at ds j) ≡ get_or ks j 0) (hm : suc (suc m) < 4 * length ds) where
    abbrev a : ℕ
    a = slot_at ds (suc m)

    lk : suc m < 4 * length ds
    lk = omega arith

    step_run : Run o n left parent ds p₀ (take_slot child ds p (suc m)) (suc m)
    step_run = next-run o n left parent child law ds G p₀ mine p m R hm (take_slot child ds p (suc m)) (one o n left parent child law ds G p₀ mine p (suc m) R.inv (home o n left parent child law ds G p₀ mine p m R hm))

    type-given : type_of p.image a ≡ type_of o a
    type-given =
        same-type o p.image a (R.inv.whole ∙ sym R.inv.given) (omega (arith, R.inv.given, slot-high n ds G (suc m) lk)) (R.later (suc m) (omega arith) (omega arith))

    step-twin : Twin ks a (take_slot child ds p (suc m)) (first.take_slot ds (progress p ks) (suc m))
    step-twin =
        twin-slot child ds p ks (suc m) (omega (arith, R.inv.coded-all, slot-high n ds G (suc m) lk)) (R.unsaid (suc m) (omega arith) (omega arith))
        (ap is_directory type-given ∙ plain (suc m) (omega arith) (omega arith))

    step-codes : (c : ℕ) → code_at (take_slot child ds p (suc m)).codes a ≡ c → (j : ℕ) → 1 ≤ j → j ≤ suc m → code_at (take_slot child ds p (suc m)).codes (slot_at ds j) ≡ get_or (ks ++ (c ∷ [])) j 0
    step-codes c z j j₁ g = ⊎_elim (λ y. last y) (λ y. before (omega arith)) (eq-or-lt_of_le g)
      where
        here : get_or (ks ++ (c ∷ [])) (suc m) 0 ≡ c
        here = subst (λ (i : ℕ). get_or (ks ++ (c ∷ [])) i 0 ≡ c) l (get_d-snoc ks c)

        last : j ≡ suc m → code_at (take_slot child ds p (suc m)).codes (slot_at ds j) ≡ get_or (ks ++ (c ∷ [])) j 0
        last y = subst (λ (i : ℕ). code_at (take_slot child ds p (suc m)).codes (slot_at ds i) ≡ get_or (ks ++ (c ∷ [])) i 0) (sym y) (z ∙ sym here)

        before : j ≤ m → code_at (take_slot child ds p (suc m)).codes (slot_at ds j) ≡ get_or (ks ++ (c ∷ [])) j 0
        before h =
            code_by o n left parent child law ds G p₀ mine p m R hm (take_slot child ds p (suc m)) (one o n left parent child law ds G p₀ mine p (suc m) R.inv (home o n left parent child law ds G p₀ mine p m R hm)) j (omega arith) (λ y. omega arith)
            ∙ t j j₁ h ∙ sym (get_d_front ks c j (omega arith))

  slots-twins : (c m : ℕ) (q : State) (q' : Progress) → Type 0
  slots-twins c m q q' = Twins ds (m + c) (take_slots child ds q (interval (suc m) c)) (first.take_slots ds q' (interval (suc m) c))

  twins-next : (c m : ℕ) (p : State) (p' : Progress) → slots-twins c (suc m) (take_slot child ds p (suc m)) (first.take_slot ds p' (suc m)) → slots-twins (suc c) m p p'
  unfolding slots-twins take_slots first.take_slots
  twins-next c m p p' T = let e : m + suc c ≡ suc m + c = omega arith in rw e T

  twins-none : (m : ℕ) (p : State) (ks : List ℕ) → length ks ≡ suc m → ((j : ℕ) → 1 ≤ j → j ≤ m → code_at p.codes (slot_at ds j) ≡ get_or ks j 0) → slots-twins 0 m p (progress p ks)
  unfolding slots-twins take_slots first.take_slots
  twins-none m p ks l t = let e : m + 0 ≡ m = omega arith in rw e (record { all = ks; is = refl; size = l; told = t })

  twins-more : (c m : ℕ) (p : State) (ks : List ℕ) → Twin ks (slot_at ds (suc m)) (take_slot child ds p (suc m)) (first.take_slot ds (progress p ks) (suc m))
      → ((x : ℕ) → code_at (take_slot child ds p (suc m)).codes (slot_at ds (suc m)) ≡ x → slots-twins c (suc m) (take_slot child ds p (suc m)) (progress (take_slot child ds p (suc m)) (ks ++ (x ∷ []))))
      → slots-twins (suc c) m p (progress p ks)
  twins-more c m p ks W f = twins-next c m p (progress p ks) (subst (slots-twins c (suc m) (take_slot child ds p (suc m))) (sym W.is) (f W.code W.told))

  twins : (c m : ℕ) (p : State) (ks : List ℕ) → Run o n left parent ds p₀ p m → length ks ≡ suc m → ((j : ℕ) → 1 ≤ j → j ≤ m → code_at p.codes (slot_at ds j) ≡ get_or ks j 0) → suc (m + c) < 4 * length ds
      → slots-twins c m p (progress p ks)
  twins zero m p ks R l t h = twins-none m p ks l t
  twins (suc c) m p ks R l t h =
      twins-more c m p ks (step-twin p m ks R l t (omega arith))
      (λ x z. twins c (suc m) (take_slot child ds p (suc m)) (ks ++ (x ∷ [])) (step_run p m ks R l t (omega arith)) (length-snoc ks x ∙ ap suc l) (step-codes p m ks R l t (omega arith) x z) (omega arith))

-- no folder is lost
pub none-hung : (r : ℕ) (p : State) (bs : List ℕ) → ((b : ℕ) → In b bs → lost p r b ≡ false) → hang_each r p bs ≡ p
unfolding hang_each hang
none-hung r p [] f = refl
none-hung r p (b ∷ bs) f = rw (f b (inl refl)) (none-hung r p bs (λ c i. f c (inr i)))

-- WHERE THE FIRST SALVAGE ACCEPTS
module _ (s : List ℕ) (size : ℕ) (ok : first.salvage_refusal s size ≡ 0) (end : type_of s (end_at (directory s (root_of s))) ≡ 255)
    (none : (b : ℕ) → root_of s < b → b < block_count s → lost (tree_done s) (root_of s) b ≡ false) where
  abbrev n : ℕ
  n = block_count s

  abbrev r : ℕ
  r = root_of s

  abbrev D : List ℕ
  D = directory s (root_of s)

  facts : (stage1 s ≡ true) × (stage2 s ≡ true) × (stage3 s ≡ true) × (directory_ok s n r r ≡ true) × (every (λ k. not (is_directory (type_of s (slot_at D k)))) (slots D) ≡ true)
  unfolding first.salvage_refusal
  facts =
      let a₁ = require-zero (stage1 s) 0 _ ok in
      let a₂ = require-zero (stage2 s) 1 _ a₁.1 in
      let a₃ = require-zero (stage3 s) 2 _ a₂.1 in
      let a₄ = require-zero (directory_ok s n r r) 3 _ a₃.1 in
      let a₅ = require-zero (every (λ k. not (is_directory (type_of s (slot_at D k)))) (slots D)) 4 _ a₄.1 in
      (a₁.0, a₂.0, a₃.0, a₄.0, a₅.0)

  shape : (length s ≡ 512 * n) × (min_blocks ≤ n) × (n ≤ max_blocks)
  shape = Rest.size s facts.0

  G : Place n D
  G = dir-place s n r r shape.1 shape.2 facts.3

  some : 1 ≤ length D
  some = G.some

  abbrev child : State → ℕ → State
  child = take_child max_levels (root_of s)

  p₁ : State
  p₁ = st s D (zeros (4 * n))

  start : tree_done s ≡ take_slots child D p₁ (slots D)
  unfolding tree_done root_blocks_of p₁
  start =
      let blocks : directory_blocks s n [] r (blocks_of s (512 * r)) false ≡ D = found s n r r facts.3 end [] (blocks_of s (512 * r)) false shape.1 refl (λ x. omega (arith, once-count D G.apart x)) in
      rw blocks (ap (λ (z : State). take_slots child D z (slots D)) (put_same s n r r facts.3 end [] (zeros (4 * n)) (part s (512 * r + 48) 80) refl))

  I₁ : Inv s n p₁
  unfolding p₁
  I₁ =
      record {
        least = shape.1;
        most = shape.2;
        whole = shape.0;
        inside = λ x i. G.blocks x i;
        once = once-count D G.apart;
        given = shape.0;
        orig = λ x h g out. record { bytes = λ i l. refl; value = refl };
        coded-all = length-zeros (4 * n);
        blank = λ x out i l. get_d-zeros (4 * n) (4 * x + i);
      }

  below : r < n
  below = let z = shape in omega (arith, z.1)

  law : ChildLaw s n max_levels r child
  law = child-taken s n max_levels r below

  own : (x : ℕ) → In x D → In x p₁.claimed
  unfolding p₁
  own x i = i

  later : (k : ℕ) → 1 ≤ k → k ≤ 4 * length D - 2 → Same s p₁.image (slot_at D k) 128
  unfolding p₁
  later k h g i l = refl

  unsaid : (k : ℕ) → 1 ≤ k → k ≤ 4 * length D - 2 → code_at p₁.codes (slot_at D k) ≡ 0
  unfolding p₁
  unsaid k h g = get_d-zeros (4 * n) (slot_at D k / 128)

  plain : (k : ℕ) → 1 ≤ k → k ≤ 4 * length D - 2 → is_directory (type_of s (slot_at D k)) ≡ false
  plain k h g = not-true _ (every_in (λ k. not (is_directory (type_of s (slot_at D k)))) (slots D) k facts.4 (interval-in (4 * length D - 2) 1 k h (omega arith)))

  all : Twins D (0 + (4 * length D - 2)) (take_slots child D p₁ (slots D)) (first.slots_done s)
  unfolding first.slots_done p₁ slots-twins
  all = twins s n max_levels r child law D G p₁ own plain (4 * length D - 2) 0 p₁ (0 ∷ []) (run-start s n max_levels r D p₁ I₁ later unsaid) refl (λ j h g. absurd (omega arith)) (omega (arith, some))

  done-is : first.slots_done s ≡ progress (tree_done s) all.all
  done-is = rw start all.is

  dir-is-right : DirIs p₁.image n r r D
  unfolding p₁
  dir-is-right = record { ok = facts.3; blocks = refl; end-type = end }

  head-is-first : get_or D 0 0 ≡ r
  head-is-first = let q = slot_at-zero s r (directory_ok-split s n r r facts.3).d-least in first_of D r q
    where
      first_of : (ds : List ℕ) (b : ℕ) → slot_at ds 0 ≡ 512 * b → get_or ds 0 0 ≡ b
      first_of ds b q = zero-slot ds b q

  end-then : type_of (tree_done s).image (end_at D) ≡ 255
  end-then = rw start (dir-then s n max_levels r r child law D G head-is-first p₁ I₁ own later unsaid dir-is-right).end-type

  hung-none : folders_hung s ≡ tree_done s
  unfolding folders_hung
  hung-none = none-hung r (tree_done s) (interval (r + 1) (n - (r + 1))) (λ b i. let w = in-interval (r + 1) (n - (r + 1)) b i in none b (omega arith) (omega (arith, below)))

  pub first-image : (salvaged s).image ≡ first.salvage_image s
  unfolding salvaged first.salvage_image first.end_put first.end_right
  first-image =
      rw (hung-none, done-is) (Rest.rest-first s n r (tree_done s) (Rest.tree_is s facts.0) facts.1 facts.2
      ∙ rw (eq-eqb _ 255 end-then) refl)

  pub first-codes : (j : ℕ) → 1 ≤ j → j ≤ 4 * length D - 2 → code_at (salvaged s).codes (slot_at D j) ≡ get_or (first.salvage_codes s) j 0
  unfolding salvaged first.salvage_codes
  first-codes j h g =
      let a = slot_at D j in
      let lj : j < 4 * length D = omega (arith, some) in
      let m = slot-home D j lj in
      let z : a / 128 ≡ 4 * (a / 512) + (a / 128) % 4 = omega arith in
      let c : In (a / 512) (tree_done s).claimed = rw start ((all-run s n max_levels r r child law D G head-is-first p₁ I₁ own later unsaid dir-is-right).step.grows (a / 512) (own (a / 512) m.0)) in
      let k : code_at (rest (tree_done s)).codes a ≡ code_at (tree_done s).codes a =
      ap (λ (i : ℕ). get_or (rest (tree_done s)).codes i 0) z ∙ Rest.codes-kept s n r (tree_done s) (Rest.tree_is s facts.0) (a / 512) c ((a / 128) % 4) (omega arith) ∙ ap (λ (i : ℕ). get_or (tree_done s).codes i 0) (sym z) in
      let t : code_at (tree_done s).codes a ≡ get_or all.all j 0 = rw start (all.told j h (omega arith)) in
      rw (hung-none, done-is) (k ∙ t ∙ sym (get_d_front all.all _ j (omega (arith, all.size))))

  pub first-high : (j : ℕ) → 1 ≤ j → j ≤ 4 * length D - 2 → slot_at D j + 128 ≤ 512 * n
  first-high j h g = slot-high n D G j (omega (arith, some))
