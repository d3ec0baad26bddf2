-- The refusals in the order in which the code tries them, and the steps of an accepted salvage together.
use Prim.Native.Nat.{ℕ, ◌+◌, ◌-◌, ◌*◌, ◌≤◌, ◌<◌}
use mathlib.Core.Bool.{Bool, true, false, not, cond, ◌&&◌, and-true}
use mathlib.Core.List.{List, [], ◌∷◌, ◌++◌}
use mathlib.Core.Path.{◌≡◌, refl, sym, ap, ◌∙◌, subst}
use native.Mathlib.Omega.{arith}
use lib.Dec.{eqb, leb}
use lib.ListN.{length, get_or, set, length-set, length-append}
use lib.Seq.{get_or-set_same, get_or-set_other}
use borrow.Author.Tests.{le-leb, leb-true}
use Rattle.layout.specs.Lists.{every, has}
use Rattle.layout.specs.Refusals.{require}
use Rattle.layout.specs.Bytes.{be32, zeros, splice}
use Rattle.layout.specs.Geometry.{block_count, table_blocks}
use Rattle.layout.specs.Table.{next, chain}
use Rattle.layout.specs.Directory.{slot_at, slots, type_of, is_directory, directory, root_of}
use Rattle.layout.specs.Check.{stage1, stage2, stage3, directory_ok}
use Rattle.layout.specs.Walks.Chains.{Walk, walked}
use Rattle.layout.specs.Walks.Shapes.{Room, DirectoryAt}
use Rattle.layout.specs.Walks.Slots.{entry_at}
use Rattle.layout.specs.Walks.Stages.{follow_directory, head_stage}
use Rattle.layout.proofs.Laws.Tests.{accept-refused, is_false}
use Rattle.layout.proofs.Laws.Lists.{in-every, interval-next}
use Rattle.layout.proofs.Laws.Bytes.{length-splice, get_d-splice-inside, get_d-splice-after, splice-ext}
use Rattle.layout.proofs.Laws.Trees.{length-directory}
use Rattle.layout.proofs.Walks.Marks.{Marked, marked-zeros, Tied}
use Rattle.layout.proofs.Walks.Shapes.{shape-block_count}
use Rattle.layout.proofs.Walks.Tree.{directory-tied}
use Rattle.layout.proofs.Walks.Visits.{self-number}
use Rattle.salvage.specs.Salvage.{end_right, end_put, table_put, counts_put, slots_done, salvage_refusal, salvage_image, salvage_codes, SalvageAnswer, salvage}
use Rattle.salvage.specs.Walks.{MarksOf, no_directory, Weighed, RootGiven, RootTaken, TablePut}
use Rattle.salvage.proofs.Laws.Result.{Given, given, run, place}
use Rattle.salvage.proofs.Walks.Slots.{report-more}
use Rattle.salvage.proofs.Walks.Root.{root-same, root-at}

-- no slot from k on has the type of a directory
module _ (s ds : List ℕ) (k j e type : ℕ) (at : e ≡ slot_at ds k) (et : type ≡ type_of s e) where
  pub plain-next : (rest : ℕ) → rest + 1 ≡ j → (r : Bool) → r ≡ is_directory type → r ≡ false → no_directory s ds k j ≡ no_directory s ds (k + 1) rest
  unfolding no_directory
  plain-next rest h r er z =
      let q : is_directory (type_of s (slot_at ds k)) ≡ false = rw (← at, ← et, ← er) z in
      let p : 0 < j = omega arith in
      let w : j - 1 ≡ rest = omega arith in
      rw (interval-next k j p, q, w)

  pub plain-stop : 0 < j → (r : Bool) → r ≡ is_directory type → r ≡ true → no_directory s ds k j ≡ false
  unfolding no_directory
  plain-stop h r er z =
      let q : is_directory (type_of s (slot_at ds k)) ≡ true = rw (← at, ← et, ← er) z in
      rw (interval-next k j h, q)

pub plain_end : (s ds : List ℕ) (k j : ℕ) → j ≡ 0 → no_directory s ds k j ≡ true
unfolding no_directory
plain_end s ds k j e = rw e

-- a right header
pub head-right : (s : List ℕ) → head_stage s ≡ 0 → (stage1 s ≡ true) × (stage2 s ≡ true) × (stage3 s ≡ true)
unfolding head_stage
head-right s e = go (stage1 s) (stage2 s) (stage3 s) e
  where
    go : (a b c : Bool) → require a 1 (require b 2 (require c 3 0)) ≡ 0 → (a ≡ true) × (b ≡ true) × (c ≡ true)
    go true true true z = (refl, refl, refl)
    go true true false z = absurd (omega arith)
    go true false c z = absurd (omega arith)
    go false b c z = absurd (omega arith)

pub head-wrong : (s : List ℕ) (size r : ℕ) → r ≡ head_stage s → (r ≡ 0 → ⊥) → r ≡ salvage_refusal s size
unfolding salvage_refusal head_stage
head-wrong s size r e ne = e ∙ go (stage1 s) (stage2 s) (stage3 s) _ (λ z. ne (e ∙ z))
  where
    go : (a b c : Bool) (rest : ℕ) → (require a 1 (require b 2 (require c 3 0)) ≡ 0 → ⊥) → require a 1 (require b 2 (require c 3 0)) ≡ require a 1 (require b 2 (require c 3 rest))
    go true true true rest z = absurd (z refl)
    go true true false rest z = refl
    go true false c rest z = refl
    go false b c rest z = refl

-- the root, by the numbers that the code has: where it begins, and how many blocks it has
root-begins : {s : List ℕ} {t n root : ℕ} {m : List ℕ} → Room s t n m → root ≡ t + 1 → root ≡ root_of s
root-begins {s} {t} {n} room er = er ∙ ap (λ (x : ℕ). x + 1) (room.table ∙ ap table_blocks (sym (shape-block_count s n room.shape)))

root-counts : (s : List ℕ) (root d : ℕ) → root ≡ root_of s → d ≡ be32 s (entry_at root 0 + 12) → d ≡ length (directory s (root_of s))
root-counts s root d e ed = self-number s root d 12 ed ∙ ap (λ (b : ℕ). be32 s (512 * b + 12)) e ∙ sym (length-directory s (root_of s))

-- THE ROOT'S STAGE 4, with no block marked before
module _ (s : List ℕ) (n t root size : ℕ) (m₀ m : List ℕ) (ok : Bool) (room : Room s t n m₀) (head : head_stage s ≡ 0) (blank : m₀ ≡ zeros (length m₀))
    (er : root ≡ t + 1) (w : walked ok m ≡ follow_directory s n root root m₀) where
  abbrev ds : List ℕ
  ds = directory s (root_of s)

  root_is : root ≡ root_of s
  root_is = root-begins room er

  tied : Tied (follow_directory s n root root m₀) (directory_ok s n root root && every (λ x. not (has eqb x [])) (directory s root)) (directory s root) (length m₀)
  tied = directory-tied s n m₀ [] (omega (arith, room.marks, room.table)) (subst (λ (x : List ℕ). Marked x []) (sym blank) (marked-zeros (length m₀))) refl root root

  all-out : (xs : List ℕ) → every (λ x. not (has eqb x [])) xs ≡ true
  all-out xs = in-every (λ x. not (has eqb x [])) xs (λ x i. refl)

  root-test : ok ≡ directory_ok s (block_count s) (root_of s) (root_of s)
  root-test =
      ap (λ (x : Walk). x.ok) w ∙ tied.ok ∙ ap (λ (x : Bool). directory_ok s n root root && x) (all-out (directory s root)) ∙ and-true (directory_ok s n root root)
      ∙ rw (root_is, shape-block_count s n room.shape)

  root-marks : ok ≡ true → MarksOf m ds
  root-marks e =
      let M : Marked (follow_directory s n root root m₀).marks (directory s root) = tied.marks (sym (ap (λ (x : Walk). x.ok) w) ∙ e) in
      let q : (follow_directory s n root root m₀).marks ≡ m = sym (ap (λ (x : Walk). x.marks) w) in
      record { at = λ x. subst (λ (l : List ℕ). eqb (get_or l x 0) 0 ≡ not (has eqb x ds)) q (subst (λ (b : ℕ). eqb (get_or (follow_directory s n root root m₀).marks x 0) 0 ≡ not (has eqb x (directory s b))) root_is (M.at x)) }

  H : (stage1 s ≡ true) × (stage2 s ≡ true) × (stage3 s ≡ true)
  H = head-right s head

  pub weighed-root : ok ≡ false → Weighed s size 4 m
  unfolding salvage_refusal
  weighed-root e = record { number = rw (H.0, H.1, H.2, ← root-test, e); marks = λ z. absurd (omega arith) }

  module _ (e : ok ≡ true) (d : ℕ) (ed : d ≡ be32 s (entry_at root 0 + 12)) where
    root-length : d ≡ length ds
    root-length = root-counts s root d root_is ed

    root-chain : chain (next s) root d ≡ ds
    unfolding directory
    root-chain = rw (self-number s root d 12 ed, root_is)

    plain-is : no_directory s (chain (next s) root d) 1 (4 * d - 2) ≡ every (λ k. not (is_directory (type_of s (slot_at ds k)))) (slots ds)
    unfolding no_directory
    plain-is = rw (root-chain, root-length)

    pub weighed-directory : false ≡ no_directory s (chain (next s) root d) 1 (4 * d - 2) → Weighed s size 5 m
    unfolding salvage_refusal
    weighed-directory z = record { number = rw (H.0, H.1, H.2, ← root-test, e, ← plain-is, ← z); marks = λ y. absurd (omega arith) }

    module _ (z : true ≡ no_directory s (chain (next s) root d) 1 (4 * d - 2)) where
      pub weighed-short : size < 4 * d → Weighed s size 9 m
      unfolding salvage_refusal
      weighed-short h =
          let q : leb (4 * length ds) size ≡ false = is_false _ (λ y. let u : 4 * length ds ≤ size = leb-true (4 * length ds) size y in omega (arith, root-length)) in
          record { number = rw (H.0, H.1, H.2, ← root-test, e, ← plain-is, ← z, q); marks = λ y. absurd (omega arith) }

      pub weighed-none : 4 * d ≤ size → Weighed s size 0 m
      unfolding salvage_refusal
      weighed-none h =
          let q : leb (4 * length ds) size ≡ true = le-leb (4 * length ds) size (omega (arith, root-length)) in
          record { number = rw (H.0, H.1, H.2, ← root-test, e, ← plain-is, ← z, q); marks = λ y. root-marks e }

pub weighed-zero : {s : List ℕ} {size r : ℕ} {m : List ℕ} → Weighed s size r m → r ≡ 0 → Weighed s size 0 m
weighed-zero {s} {size} {r} {m} W e = subst (λ (x : ℕ). Weighed s size x m) e W

-- THE ANSWER
pub refused : (s report : List ℕ) (r : ℕ) → r ≡ salvage_refusal s (length report) → (r ≡ 0 → ⊥)
    → ◌≡◌ {A = SalvageAnswer} (record { number = r; image = s; report = report }) (salvage s report)
unfolding salvage
refused s report r e ne = rw (← e) (sym (accept-refused r _ _ ne))

pub accepted : (s report s' report' : List ℕ) → 0 ≡ salvage_refusal s (length report) → s' ≡ salvage_image s → report' ≡ splice report 0 (salvage_codes s)
    → ◌≡◌ {A = SalvageAnswer} (record { number = 0; image = s'; report = report' }) (salvage s report)
unfolding salvage
accepted s report s' report' e p q = rw (← e, p, q)

-- THE STEPS of an accepted salvage
report-over : (report codes : List ℕ) → 0 < length codes → length codes ≤ length report → splice (set report 0 0) 0 codes ≡ splice report 0 codes
report-over report codes pos fits =
    let l : length (set report 0 0) ≡ length report = length-set report 0 0 in
    splice-ext (splice (set report 0 0) 0 codes) report 0 codes (omega arith) (length-splice (set report 0 0) 0 codes (omega arith) ∙ l)
    (λ i h. absurd (omega arith))
    (λ i h. get_d-splice-inside (set report 0 0) 0 codes (omega arith) i h)
    (λ i h. get_d-splice-after (set report 0 0) 0 codes (omega arith) i h ∙ get_or-set_other report 0 i 0 0 (λ z. absurd (omega arith)))

module _ {s : List ℕ} {t n root d : ℕ} {m : List ℕ} (report : List ℕ) (room : Room s t n m) (W : Weighed s (length report) 0 m) (er : root ≡ t + 1) (ed : d ≡ be32 s (entry_at root 0 + 12)) where
  given-root : root ≡ root_of s
  given-root = root-begins room er

  given-size : d ≡ length (directory s (root_of s))
  given-size = root-counts s root d given-root ed

  B : Given s × (4 * length (directory s (root_of s)) ≤ length report)
  B = given s (length report) (sym W.number)

  pub steps-room : (1 ≤ d) × (4 * d ≤ length report)
  steps-room = (omega (arith, given-size, (place s B.0).some), omega (arith, given-size, B.1))

  pub steps-given : RootGiven s t n root d m (set report 0 0)
  steps-given =
      let l : length (set report 0 0) ≡ length report = length-set report 0 0 in
      record {
        room = room;
        weighed = subst (λ (x : ℕ). Weighed s x 0 m) (sym l) W;
        begins = given-root;
        size = given-size;
        self = get_or-set_same report 0 0 0 (omega (arith, steps-room));
      }

  module _ {s₂ m₂ report₂ : List ℕ} (T : RootTaken s (set report 0 0) s₂ m₂ report₂) where
    pub steps-root : DirectoryAt s₂ n root d
    steps-root = subst (λ (x : List ℕ). DirectoryAt x n root d) (sym T.image) (root-at steps-given (run s B.0))

    codes-length : length (slots_done s).codes ≡ 4 * d - 1
    codes-length = omega (arith, (run s B.0).count, given-size, steps-room)

    pub steps-length : length report₂ ≡ length report
    steps-length =
        let l : length (set report 0 0) ≡ length report = length-set report 0 0 in
        ap length T.codes ∙ length-splice (set report 0 0) 0 (slots_done s).codes (omega (arith, codes-length, steps-room)) ∙ l

    pub steps-stored : (code : ℕ) → length (set report₂ (4 * d - 1) code) ≡ length report
    steps-stored code = length-set report₂ (4 * d - 1) code ∙ steps-length

    steps-chain : chain (next s₂) root d ≡ directory s (root_of s)
    steps-chain = subst (λ (x : List ℕ). chain (next x) root d ≡ directory s (root_of s)) (sym T.image) (root-same steps-given (run s B.0))

    pub steps-image : (s₃ s₄ s₅ : List ℕ) → s₃ ≡ end_put s₂ (chain (next s₂) root d) → TablePut s₃ m₂ s₄ → s₅ ≡ counts_put s₄ → s₅ ≡ salvage_image s
    unfolding salvage_image
    steps-image s₃ s₄ s₅ e₃ E₄ e₅ =
        e₅ ∙ ap counts_put (E₄.put (slots_done s).claimed T.marks ∙ ap (λ (x : List ℕ). table_put x (slots_done s).claimed) (e₃ ∙ rw (steps-chain, T.image)))

    pub steps-report : (code : ℕ) → code ≡ cond (end_right s₂ (chain (next s₂) root d)) 0 3 → set report₂ (4 * d - 1) code ≡ splice report 0 (salvage_codes s)
    unfolding salvage_codes
    steps-report code ec =
        let codes : List ℕ = (slots_done s).codes in
        let l : length (set report 0 0) ≡ length report = length-set report 0 0 in
        let q : code ≡ cond (end_right (slots_done s).image (directory s (root_of s))) 0 3 = ec ∙ rw (steps-chain, T.image) in
        ap (λ (x : List ℕ). set x (4 * d - 1) code) T.codes
        ∙ report-more (set report 0 0) codes (4 * d - 1) code codes-length (omega (arith, steps-room))
        ∙ report-over report (codes ++ (code ∷ [])) (more codes code) (omega (arith, length-append codes (code ∷ []), codes-length, steps-room))
        ∙ ap (λ (x : ℕ). splice report 0 (codes ++ (x ∷ []))) q
      where
        more : (xs : List ℕ) (x : ℕ) → 0 < length (xs ++ (x ∷ []))
        more xs x = omega (arith, length-append xs (x ∷ []))
