-- The blocks of a directory: the loops that find them, and the choices.
use Prim.Native.Nat.{ℕ, zero, suc, ◌+◌, ◌-◌, ◌*◌, ◌≤◌, ◌<◌}
use mathlib.Core.Bool.{Bool, true, false, not, ◌&&◌, ◌||◌}
use mathlib.Core.List.{List, [], ◌∷◌, ◌++◌, append-nil, append_assoc}
use mathlib.Core.Logic.{◌⊎◌, ⊎_elim}
use mathlib.Core.Path.{◌≡◌, refl, sym, ap, ◌∙◌, subst}
use native.Mathlib.Decide.{ℕ_discrete}
use native.Mathlib.Omega.{arith}
use lib.Dec.{eqb}
use lib.ListN.{length, get_or, take, set, length-set}
use lib.Seq.{take-suc, take-suc-set, get_or-set_same, get_or-set_other, length-take-le, get_or-take, take-take, take-length}
use borrow.Author.Tests.{eq-eqb, ne_eqb, not-true}
use Rattle.std.specs.List.{list_any}
use Rattle.layout.specs.Lists.{within, interval, every, has, select}
use Rattle.layout.specs.Limits.{max_directory}
use Rattle.layout.specs.Geometry.{in_volume}
use Rattle.layout.specs.Directory.{type_of}
use Rattle.layout.specs.Table.{next, chain}
use Rattle.layout.proofs.Laws.Tests.{and_split, and-join, is_false, true-not-false, within-join, within-split, lt-or-ge}
use Rattle.layout.proofs.Laws.Lists.{In, in_left, in_right, in-append, in-elim, get_d-in, has-eqb-in, in-has-eqb, false-has, interval-next, get_d-interval}
use Rattle.layout.specs.Walks.Shapes.{DirectoryAt}
use Rattle.layout.proofs.Laws.Chains.{nth, nth-suc, chain_snoc, get_d-chain}
use Rattle.layout.proofs.Laws.Joins.{interval-in, in-select, select_has}
use Rattle.layout.proofs.Walks.Marks.{marked_more}
use Rattle.salvage.specs.Walks.{MarksOf}
pub use Rattle.salvage.proofs.Walks.Claims.{good-outside, good-marked}
use Rattle.salvage_tree.specs.SalvageTree.{run, ends_in, row_right, directory_blocks}
use Rattle.salvage_tree.specs.Walks.{IsGood, Ran, RowGood, RowRight, otherwise, ChoseOther, Chose, MarkedToo, Own}
use Rattle.salvage_tree.proofs.Laws.Chosen.{Chosen, chosen}

-- A NUMBER AMONG THE FIRST k
pub met_start : (xs : List ℕ) (b : ℕ) → has eqb b (take 0 xs) ≡ false
met_start xs b = refl

pub met-more : (xs : List ℕ) (b i : ℕ) → i < length xs → has eqb b (take i xs) ≡ false → (get_or xs i 0 ≡ b → ⊥) → has eqb b (take (i + 1) xs) ≡ false
met-more xs b i h e ne =
    let q : i + 1 ≡ suc i = omega arith in
    rw (q, take-suc xs i 0 h)
    (false-has b (take i xs ++ (get_or xs i 0 ∷ [])) (λ j. ⊎_elim (λ o. true-not-false (in-has-eqb b (take i xs) o) e) (λ o. in-elim b (get_or xs i 0) [] o (λ p. ne (sym p)) (λ z. z)) (in-append b (take i xs) (get_or xs i 0 ∷ []) j)))

pub met-found : (xs : List ℕ) (b i k : ℕ) → i < k → k ≤ length xs → get_or xs i 0 ≡ b → true ≡ has eqb b (take k xs)
met-found xs b i k h l e =
    sym (in-has-eqb b (take k xs) (subst (λ (y : ℕ). In y (take k xs)) (get_or-take k xs i 0 h ∙ e) (get_d-in (take k xs) i 0 (rw (length-take-le k xs l) h))))

-- a list's own test
pub any-has : (xs : List ℕ) (b : ℕ) → list_any (λ y. eqb y b) xs ≡ has eqb b xs
any-has [] b = refl
any-has (x ∷ xs) b = ap (λ (t : Bool). t || list_any (λ y. eqb y b) xs) (flip x b) ∙ ap (λ (t : Bool). eqb b x || t) (any-has xs b)
  where
    flip : (x y : ℕ) → eqb x y ≡ eqb y x
    flip x y = elim (ℕ_discrete x y) [ yes e ↦ rw e | no e ↦ rw (ne_eqb x y e, ne_eqb y x (λ z. e (sym z))) ]

-- THE RUN, when k of its blocks are found and c is the next number
pub record Running (s : List ℕ) (n b : ℕ) (m xs : List ℕ) (k c : ℕ) : Type 0 where
  pub most : k ≤ max_directory
  pub size : length xs ≡ max_directory
  pub below : (i : ℕ) → i < k → get_or xs i 0 < n
  pub is : (cs : List ℕ) → MarksOf m cs → run s n cs max_directory b ≡ take k xs ++ run s n (cs ++ take k xs) (max_directory - k) c

pub running-start : (s : List ℕ) (n b : ℕ) (m xs : List ℕ) → length xs ≡ max_directory → Running s n b m xs 0 b
running-start s n b m xs e = record { most = omega arith; size = e; below = λ i h. absurd (omega arith); is = λ cs M. rw (append-nil cs) refl }

run-stop : (s : List ℕ) (n : ℕ) (cs : List ℕ) (j c : ℕ) → in_volume n c && not (has eqb c cs) ≡ false → run s n cs j c ≡ []
unfolding run
run-stop s n cs zero c e = refl
run-stop s n cs (suc j) c e = rw e

run_more : (s : List ℕ) (n : ℕ) (cs : List ℕ) (j c : ℕ) → 0 < j → in_volume n c && not (has eqb c cs) ≡ true → run s n cs j c ≡ c ∷ run s n (cs ++ (c ∷ [])) (j - 1) (next s c)
unfolding run
run_more s n cs zero c p e = absurd (omega arith)
run_more s n cs (suc j) c p e = let q : suc j - 1 ≡ j = omega arith in rw (e, q)

module _ {s : List ℕ} {n b : ℕ} {m xs : List ℕ} {k c : ℕ} (w : Running s n b m xs k c) where
  ended : ((cs : List ℕ) → MarksOf m cs → in_volume n c && not (has eqb c (cs ++ take k xs)) ≡ false) → Ran s n b m k xs
  ended f = record { most = w.most; size = w.size; below = w.below; is = λ cs M. w.is cs M ∙ rw (run-stop s n (cs ++ take k xs) (max_directory - k) c (f cs M)) (append-nil (take k xs)) }

  bad : (cs : List ℕ) → In c (cs ++ take k xs) → in_volume n c && not (has eqb c (cs ++ take k xs)) ≡ false
  bad cs i = rw (in-has-eqb c (cs ++ take k xs) i) (and-false (in_volume n c))
    where
      and-false : (t : Bool) → t && false ≡ false
      and-false true = refl
      and-false false = refl

  pub ran-bad : (r : Bool) → IsGood n m c r → r ≡ false → Ran s n b m k xs
  ran-bad r g e = ended (λ cs M. go cs (in_volume n c) refl (has eqb c cs) refl (sym (g.told cs M) ∙ e))
    where
      go : (cs : List ℕ) (v : Bool) → in_volume n c ≡ v → (h : Bool) → has eqb c cs ≡ h → in_volume n c && not (has eqb c cs) ≡ false → in_volume n c && not (has eqb c (cs ++ take k xs)) ≡ false
      go cs false p h q z = rw p
      go cs true p true q z = bad cs (in_left c cs (take k xs) (has-eqb-in c cs q))
      go cs true p false q z = absurd (true-not-false {a = true} refl (rw (p, q) at z))

  pub ran-met : (r : Bool) → r ≡ has eqb c (take k xs) → r ≡ true → Ran s n b m k xs
  ran-met r g e = ended (λ cs M. bad cs (in_right c cs (take k xs) (has-eqb-in c (take k xs) (sym g ∙ e))))

  pub ran-all : k ≡ max_directory → Ran s n b m k xs
  unfolding run
  ran-all e = record { most = w.most; size = w.size; below = w.below; is = λ cs M. w.is cs M ∙ (let q : max_directory - k ≡ 0 = omega arith in rw q (append-nil (take k xs))) }

  pub running_more : k < max_directory → (r : Bool) → IsGood n m c r → r ≡ true → (u : Bool) → u ≡ has eqb c (take k xs) → u ≡ false → (c' : ℕ) → c' ≡ next s c → Running s n b m (set xs k c) (k + 1) c'
  running_more h r g e u f z c' e' =
      let l : k < length xs = omega (arith, w.size) in
      let q : k + 1 ≡ suc k = omega arith in
      rw (q, e')
      (record {
        most = omega arith;
        size = length-set xs k c ∙ w.size;
        below = λ i j. elim (ℕ_discrete i k) [
          | yes p ↦ rw (p, get_or-set_same xs k c 0 l) (g.below e)
          | no p ↦ rw (get_or-set_other xs k i c 0 p) (w.below i (omega arith))
        ];
        is = λ cs M. w.is cs M ∙ step cs M l;
      })
    where
      fresh : (cs : List ℕ) → MarksOf m cs → in_volume n c && not (has eqb c (cs ++ take k xs)) ≡ true
      fresh cs M =
          let a = and_split (in_volume n c) (not (has eqb c cs)) (sym (g.told cs M) ∙ e) in
          and-join a.0 (ap not (false-has c (cs ++ take k xs) (λ i. ⊎_elim (λ o. true-not-false (in-has-eqb c cs o) (not-true _ a.1)) (λ o. true-not-false (in-has-eqb c (take k xs) o) (sym f ∙ z)) (in-append c cs (take k xs) i))))

      step : (cs : List ℕ) → MarksOf m cs → k < length xs → take k xs ++ run s n (cs ++ take k xs) (max_directory - k) c ≡ take (suc k) (set xs k c) ++ run s n (cs ++ take (suc k) (set xs k c)) (max_directory - suc k) (next s c)
      step cs M l =
          let j : max_directory - suc k ≡ max_directory - k - 1 = omega arith in
          rw (take-suc-set xs k c l, run_more s n (cs ++ take k xs) (max_directory - k) c (omega arith) (fresh cs M), j, append_assoc cs (take k xs) (c ∷ []), append_assoc (take k xs) (c ∷ []) (run s n (cs ++ (take k xs ++ (c ∷ []))) (max_directory - k - 1) (next s c)))

-- A ROW, when the blocks before x are good
pub record Rowing (n b d : ℕ) (m : List ℕ) (x left : ℕ) : Type 0 where
  pub told : (cs : List ℕ) → MarksOf m cs → every (λ y. in_volume n y && not (has eqb y cs)) (interval b d) ≡ every (λ y. in_volume n y && not (has eqb y cs)) (interval x left)
  pub sum : x + left ≡ b + d
  pub low : b < x → x ≤ n

pub rowing_start : (n b d : ℕ) (m : List ℕ) → Rowing n b d m b d
rowing_start n b d m = record { told = λ cs M. refl; sum = refl; low = λ h. absurd (omega arith) }

every-step : (p : ℕ → Bool) (x left rest : ℕ) → rest + 1 ≡ left → every p (interval x left) ≡ p x && every p (interval (x + 1) rest)
every-step p x left rest r = let h : 0 < left = omega arith in let e : left - 1 ≡ rest = omega arith in ap (every p) (interval-next x left h) ∙ rw e

module _ {n b d : ℕ} {m : List ℕ} {x left : ℕ} (w : Rowing n b d m x left) where
  pub row-bad : 0 < left → (r : Bool) → IsGood n m x r → r ≡ false → RowGood n b d m false
  row-bad h r g e =
      record {
        told = λ cs M. sym (w.told cs M ∙ every-step (λ y. in_volume n y && not (has eqb y cs)) x left (left - 1) (omega arith) ∙ rw (sym (g.told cs M) ∙ e));
        below = λ z. absurd (true-not-false z refl);
      }

  pub row_more : (y rest : ℕ) → y ≡ x + 1 → rest + 1 ≡ left → (r : Bool) → IsGood n m x r → r ≡ true → Rowing n b d m y rest
  row_more y rest ey h r g e =
      rw ey
      (record {
        told = λ cs M. w.told cs M ∙ every-step (λ y. in_volume n y && not (has eqb y cs)) x left rest h ∙ rw (sym (g.told cs M) ∙ e);
        sum = omega (arith, w.sum);
        low = λ z. let y = g.below e in omega arith;
      })

  pub row-all : left ≡ 0 → RowGood n b d m true
  row-all e = record { told = λ cs M. sym (w.told cs M ∙ rw e); below = λ z h. let y = w.low (omega (arith, w.sum)) in omega (arith, w.sum) }

-- a row that is not a directory's, by the tests in their order, and one that is
module _ (s : List ℕ) (n b d : ℕ) (m : List ℕ) where
  pub row-size : (d < 1) ⊎ (max_directory < d) → RowRight s n b d m false
  unfolding row_right
  row-size o =
      let z : within 1 max_directory d ≡ false = is_false _ (λ e. let p = within-split 1 max_directory d e in ⊎_elim (λ q. omega arith) (λ q. omega arith) o) in
      record { told = λ cs M. rw z; below = λ e. absurd (true-not-false e refl) }

  module _ (some : 1 ≤ d) (few : d ≤ max_directory) where
    pub row-not : (r : Bool) → RowGood n b d m r → r ≡ false → RowRight s n b d m false
    unfolding row_right
    row-not r g e = record { told = λ cs M. rw (within-join 1 max_directory d some few, sym (g.told cs M) ∙ e); below = λ z. absurd (true-not-false z refl) }

    pub row_typed : (r : Bool) → RowGood n b d m r → r ≡ true → (type : ℕ) → type ≡ type_of s (512 * (b + d - 1) + 384) → RowRight s n b d m (eqb type 255)
    unfolding row_right
    row_typed r g e type q = record { told = λ cs M. rw (within-join 1 max_directory d some few, sym (g.told cs M) ∙ e, q); below = λ z. (some, few, g.below e (omega arith)) }

-- THE CHOICES
module _ (s : List ℕ) (n b d : ℕ) (sure : Bool) (m : List ℕ) where
  pub other_row : (r : Bool) → RowRight s n b d m r → r ≡ true → (xs : List ℕ) → length xs ≡ max_directory → take d xs ≡ interval b d → ChoseOther s n b d sure m d xs
  unfolding otherwise
  other_row r g e xs l q =
      let f = g.below e in
      record {
        most = f.1;
        size = l;
        below = λ i h. rw (sym (get_or-take d xs i 0 h) ∙ ap (λ (ys : List ℕ). get_or ys i 0) q ∙ get_d-interval b d i h) (omega (arith, f.2));
        is = λ cs M. rw (sym (g.told cs M) ∙ e) (sym q);
      }

  module _ (k : ℕ) (xs : List ℕ) (R : Ran s n b m k xs) where
    len : length (take k xs) ≡ k
    len = length-take-le k xs (omega (arith, R.most, R.size))

    module _ (r : Bool) (g : RowRight s n b d m r) (e : r ≡ false) where
      pub other-all : (sure ≡ false) ⊎ ((d < 1) ⊎ (k < d)) → ChoseOther s n b d sure m k xs
      unfolding otherwise
      other-all o =
          record {
            most = R.most;
            size = R.size;
            below = R.below;
            is = λ cs M. rw (R.is cs M, sym (g.told cs M) ∙ e, len, unsure o);
          }
        where
          unsure : (sure ≡ false) ⊎ ((d < 1) ⊎ (k < d)) → sure && within 1 k d ≡ false
          unsure o = is_false _ (λ z. let a = and_split sure (within 1 k d) z in let p = within-split 1 k d a.1 in
              ⊎_elim (λ q. true-not-false a.0 q) (λ q. ⊎_elim (λ h. omega arith) (λ h. omega arith) q) o)

      pub other-sure : sure ≡ true → 1 ≤ d → d ≤ k → ChoseOther s n b d sure m d xs
      unfolding otherwise
      other-sure y h l =
          record {
            most = omega (arith, R.most);
            size = R.size;
            below = λ i j. R.below i (omega arith);
            is = λ cs M. rw (R.is cs M, sym (g.told cs M) ∙ e, len, y, within-join 1 k d h l) (take-take d k xs l);
          }

    pub chose-other : (r : ℕ) (ys : List ℕ) → (1 ≤ d → d ≤ k → ends_in s (get_or xs (d - 1) 0) ≡ false) → ChoseOther s n b d sure m r ys → Chose s n b d sure m r ys
    unfolding directory_blocks otherwise
    chose-other r ys f C =
        record {
          most = C.most;
          size = C.size;
          below = C.below;
          is = λ cs M. (let z : within 1 (length (run s n cs max_directory b)) d && ends_in s (get_or (run s n cs max_directory b) (d - 1) 0) ≡ false = test cs M in rw z) ∙ C.is cs M;
        }
      where
        test : (cs : List ℕ) → MarksOf m cs → within 1 (length (run s n cs max_directory b)) d && ends_in s (get_or (run s n cs max_directory b) (d - 1) 0) ≡ false
        test cs M =
            rw (R.is cs M, len)
            (is_false _ (λ z. let a = and_split (within 1 k d) (ends_in s (get_or (take k xs) (d - 1) 0)) z in
            let p = within-split 1 k d a.0 in
            true-not-false (ap (ends_in s) (sym (get_or-take k xs (d - 1) 0 (omega (arith, p)))) ∙ a.1) (f p.0 p.1)))

    pub chose-run : 1 ≤ d → d ≤ k → ends_in s (get_or xs (d - 1) 0) ≡ true → Chose s n b d sure m d xs
    unfolding directory_blocks
    chose-run h l e =
        record {
          most = omega (arith, R.most);
          size = R.size;
          below = λ i j. R.below i (omega arith);
          is = λ cs M. (let y : within 1 (length (run s n cs max_directory b)) d && ends_in s (get_or (run s n cs max_directory b) (d - 1) 0) ≡ true = test cs M in rw y) ∙ ap (take d) (R.is cs M) ∙ take-take d k xs l;
        }
      where
        test : (cs : List ℕ) → MarksOf m cs → within 1 (length (run s n cs max_directory b)) d && ends_in s (get_or (run s n cs max_directory b) (d - 1) 0) ≡ true
        test cs M = rw (R.is cs M, len, get_or-take k xs (d - 1) 0 (omega arith)) (and-join (within-join 1 k d h l) e)

-- A ROW WRITTEN, block by block
interval-snoc : (b k : ℕ) → interval b (suc k) ≡ interval b k ++ ((b + k) ∷ [])
interval-snoc b zero = let e : b + 0 ≡ b = omega arith in rw e
interval-snoc b (suc k) = let e : b + suc k ≡ suc b + k = omega arith in rw e (ap (λ (ys : List ℕ). b ∷ ys) (interval-snoc (suc b) k))

pub row_written : (xs : List ℕ) (b k : ℕ) → k < length xs → take k xs ≡ interval b k → take (k + 1) (set xs k (b + k)) ≡ interval b (k + 1)
row_written xs b k h e = let q : k + 1 ≡ suc k = omega arith in rw (q, take-suc-set xs k (b + k) h, e) (sym (interval-snoc b k))

-- BLOCKS CLAIMED, one after the other
pub record Claiming (ds m₀ m : List ℕ) (i : ℕ) : Type 0 where
  pub size : length m ≡ length m₀
  pub marks : (cs : List ℕ) → MarksOf m₀ cs → MarksOf m (cs ++ take i ds)

pub claiming-start : (ds m : List ℕ) → Claiming ds m m 0
claiming-start ds m = record { size = refl; marks = λ cs M. rw (append-nil cs) M }

pub claiming-more : (ds m₀ m : List ℕ) (i : ℕ) → Claiming ds m₀ m i → i < length ds → get_or ds i 0 < length m → Claiming ds m₀ (set m (get_or ds i 0) 1) (i + 1)
claiming-more ds m₀ m i w h l =
    let q : i + 1 ≡ suc i = omega arith in
    record {
      size = length-set m (get_or ds i 0) 1 ∙ w.size;
      marks = λ cs M. rw (q, take-suc ds i 0 h, ← append_assoc cs (take i ds) (get_or ds i 0 ∷ []))
          (record { at = (marked_more m (cs ++ take i ds) (get_or ds i 0) l (record { at = (w.marks cs M).at })).at });
    }

pub claiming-end : (ds m₀ m : List ℕ) (i : ℕ) → Claiming ds m₀ m i → i ≡ length ds → MarkedToo ds m₀ m
claiming-end ds m₀ m i w e = record { marks = λ cs M. subst (λ (ys : List ℕ). MarksOf m (cs ++ ys)) (ap (λ (j : ℕ). take j ds) e ∙ take-length ds) (w.marks cs M) }

pub met-none : (xs : List ℕ) (b i k : ℕ) → has eqb b (take i xs) ≡ false → i ≤ k → k ≤ i → false ≡ has eqb b (take k xs)
met-none xs b i k e h l = let q : i ≡ k = omega arith in sym (subst (λ (j : ℕ). has eqb b (take j xs) ≡ false) q e)

-- A BLOCK THAT ENDS
module _ (s : List ℕ) (b type : ℕ) (et : type ≡ type_of s (512 * b + 384)) where
  pub ends-typed : type ≡ 255 → eqb type 255 ≡ ends_in s b
  unfolding ends_in
  ends-typed z = rw (← et, eq-eqb type 255 z)

  pub ends-valued : (type ≡ 255 → ⊥) → (v : ℕ) → v ≡ next s b → eqb v 1 ≡ ends_in s b
  unfolding ends_in
  ends-valued z v e = rw (← et, ne_eqb type 255 z, e)

get_d_past : (m : List ℕ) (y : ℕ) → length m ≤ y → get_or m y 0 ≡ 0
get_d_past [] y h = refl
get_d_past (x ∷ m) zero h = absurd (omega arith)
get_d_past (x ∷ m) (suc y) h = get_d_past m y (omega arith)

-- SOME BLOCKS THAT THE MARKS ARE THOSE OF: there always are
some_blocks : List ℕ → List ℕ
some_blocks m = select (λ x. not (eqb (get_or m x 0) 0)) (interval 0 (length m))

pub some-marks : (m : List ℕ) → (cs : List ℕ) × MarksOf m cs
unfolding some_blocks
some-marks m = (some_blocks m, record { at = λ x. go x (eqb (get_or m x 0) 0) refl })
  where
    go : (x : ℕ) (t : Bool) → eqb (get_or m x 0) 0 ≡ t → t ≡ not (has eqb x (some_blocks m))
    go x true e = sym (ap not (false-has x (some_blocks m) (λ i. true-not-false (in-select (λ y. not (eqb (get_or m y 0) 0)) (interval 0 (length m)) x i).1 (ap not e))))
    go x false e = sym (ap not (in-has-eqb x (some_blocks m) (select_has (λ y. not (eqb (get_or m y 0) 0)) (interval 0 (length m)) x (interval-in (length m) 0 x (omega arith) (inside_of x e)) (ap not e))))
      where
        inside_of : (y : ℕ) → eqb (get_or m y 0) 0 ≡ false → y < 0 + length m
        inside_of y q = ⊎_elim (λ h. omega arith) (λ h. absurd (true-not-false (eq-eqb (get_or m y 0) 0 (get_d_past m y h)) q)) (lt-or-ge y (length m))

-- the blocks that were chosen are a directory's
pub chose-own : (s : List ℕ) (n b d : ℕ) (sure : Bool) (m : List ℕ) (r : ℕ) (xs : List ℕ) → Chose s n b d sure m r xs → 0 < r → Own n (take r xs)
chose-own s n b d sure m r xs C h =
    let w = some-marks m in
    let K : Chosen n w.0 max_directory b (take r xs) = subst (λ (ys : List ℕ). Chosen n w.0 max_directory b ys) (C.is w.0 w.1) (chosen s n w.0 b d sure) in
    let l : length (take r xs) ≡ r = length-take-le r xs (omega (arith, C.most, C.size)) in
    record {
      some = omega arith;
      few = K.few;
      inside = K.inside;
      once = K.once;
      below = λ i j. rw (get_or-take r xs i 0 (omega arith)) (C.below i (omega arith));
    }

pub chose-first : (s : List ℕ) (n b d : ℕ) (sure : Bool) (m : List ℕ) (r : ℕ) (xs : List ℕ) → Chose s n b d sure m r xs → 0 < r → get_or (take r xs) 0 0 ≡ b
chose-first s n b d sure m r xs C h =
    let w = some-marks m in
    let K : Chosen n w.0 max_directory b (take r xs) = subst (λ (ys : List ℕ). Chosen n w.0 max_directory b ys) (C.is w.0 w.1) (chosen s n w.0 b d sure) in
    let l : length (take r xs) ≡ r = length-take-le r xs (omega (arith, C.most, C.size)) in
    K.first (omega arith)

pub row-whole : (xs : List ℕ) (b k d : ℕ) → take k xs ≡ interval b k → k ≤ d → d ≤ k → take d xs ≡ interval b d
row-whole xs b k d e h l = let q : k ≡ d = omega arith in subst (λ (j : ℕ). take j xs ≡ interval b j) q e

-- A CHAIN READ, block by block
pub record Reading (s : List ℕ) (first : ℕ) (xs : List ℕ) (b k : ℕ) : Type 0 where
  pub size : length xs ≡ max_directory
  pub here : b ≡ nth (next s) k first
  pub is : take k xs ≡ chain (next s) first k

pub reading-start : (s : List ℕ) (first : ℕ) (xs : List ℕ) → length xs ≡ max_directory → Reading s first xs first 0
unfolding chain
reading-start s first xs l = record { size = l; here = refl; is = refl }

pub reading-below : (s : List ℕ) (n first d : ℕ) (xs : List ℕ) (b k : ℕ) → Reading s first xs b k → DirectoryAt s n first d → k < d → b < n
reading-below s n first d xs b k w D h = let g = D.blocks.below k h in omega (arith, g, get_d-chain (next s) first d k h, w.here)

pub reading-more : (s : List ℕ) (first : ℕ) (xs : List ℕ) (b k : ℕ) → Reading s first xs b k → k < length xs → (c : ℕ) → c ≡ next s b → Reading s first (set xs k b) c (k + 1)
reading-more s first xs b k w h c e =
    let q : k + 1 ≡ suc k = omega arith in
    rw (q, e)
    (record {
      size = length-set xs k b ∙ w.size;
      here = ap (next s) w.here ∙ sym (nth-suc (next s) k first);
      is = take-suc-set xs k b h ∙ ap (λ (l : List ℕ). l ++ (b ∷ [])) w.is ∙ sym (chain_snoc (next s) (next s) first first k b (λ y h. refl) (sym w.here));
    })

pub reading-end : (s : List ℕ) (first d : ℕ) (xs : List ℕ) (b k : ℕ) → Reading s first xs b k → k ≡ d → take d xs ≡ chain (next s) first d
reading-end s first d xs b k w e = subst (λ (j : ℕ). take j xs ≡ chain (next s) first j) e w.is
