-- THE RESULT IS SOUND: an image whose root is as a right one's, whose slots are done, and whose table and counts are put right.
use Prim.Native.Nat.{ℕ, suc, ◌+◌, ◌-◌, ◌*◌, ◌/◌, ◌≤◌, ◌<◌}
use mathlib.Core.Bool.{true, false, not, ◌||◌, or-true}
use mathlib.Core.List.{List, [], ◌∷◌, ◌++◌, map, append-nil}
use mathlib.Core.Logic.{inl, ⊎_elim, ◌≢◌}
use mathlib.Core.Path.{◌≡◌, refl, sym, ap, ◌∙◌, subst}
use native.Mathlib.Omega.{arith}
use lib.Dec.{eqb}
use lib.ListN.{length}
use borrow.Author.Tests.{eq-eqb, eqb-true, lt-ltb, leb-true, le-leb, not-true}
use Rattle.layout.specs.Limits.{min_blocks, max_blocks, max_levels}
use Rattle.layout.specs.Lists.{every, has}
use Rattle.layout.specs.Bytes.{be32}
use Rattle.layout.specs.Geometry.{block_count, table_blocks, in_volume}
use Rattle.layout.specs.Table.{next, chain, chain_ok, all_ones}
use Rattle.layout.specs.Directory.{slot_at, slots, type_of, blocks_of, is_directory, files, directory, root_of, children, dirs}
use Rattle.layout.specs.Check.{stage1, stage2, stage3, stage6, directory_ok, chains, all_chains, owned, table_ok, check}
use Rattle.layout.proofs.Laws.Tests.{and_split, and-join, true-or-false, within-split, require-zero, true-not-false}
use Rattle.layout.proofs.Laws.Lists.{In, in-every, every-interval, interval-every, every_in, in-has-eqb}
use Rattle.layout.proofs.Laws.Joins.{in-interval, select-none, of-join}
use Rattle.layout.proofs.Laws.Chains.{chain_ok-split, chain_ok-join, in-chain, chain-used}
use Rattle.layout.proofs.Laws.Frames.{Same, same_then, same-inner, same-be32, same-part}
use Rattle.layout.proofs.Laws.Entries.{same-type, same-field}
use Rattle.layout.proofs.Laws.Visits.{Local, Tree, below-is, visit-tree, directory_ok-distinct}
use Rattle.layout.proofs.Laws.Trees.{Directory, directory_ok-split, length-directory, in-directory, slot_at-zero}
use Rattle.salvage.specs.Salvage.{salvage_refusal, take_slots, slots_done, salvage_image}
use Rattle.salvage.proofs.Laws.Walked.{chain-stays, chain_ok-stays}
use Rattle.salvage.proofs.Laws.Places.{Place, slot-high}
use Rattle.salvage.proofs.Laws.Done.{Done, files_to, claimed-root}
use Rattle.salvage.proofs.Laws.Runs.{Run, run-slots}
use Rattle.salvage.proofs.Laws.Final.{Final, final, final-slot, final-done}

-- what refusal 0 gives
pub record Given (s : List ℕ) : Type 0 where
  pub one : stage1 s ≡ true
  pub two : stage2 s ≡ true
  pub three : stage3 s ≡ true
  pub four : directory_ok s (block_count s) (root_of s) (root_of s) ≡ true
  pub plain : every (λ k. not (is_directory (type_of s (slot_at (directory s (root_of s)) k)))) (slots (directory s (root_of s))) ≡ true

pub given : (s : List ℕ) (size : ℕ) → salvage_refusal s size ≡ 0 → Given s × (4 * length (directory s (root_of s)) ≤ size)
unfolding salvage_refusal
given s size e =
    let a₁ = require-zero (stage1 s) 0 _ e in
    let a₂ = require-zero (stage2 s) 1 _ a₁.1 in
    let a₃ = require-zero (stage3 s) 2 _ a₂.1 in
    let a₄ = require-zero (directory_ok s (block_count s) (root_of s) (root_of s)) 3 _ a₃.1 in
    let a₅ = require-zero (every (λ k. not (is_directory (type_of s (slot_at (directory s (root_of s)) k)))) (slots (directory s (root_of s)))) 4 _ a₄.1 in
    let a₆ = require-zero _ 8 _ a₅.1 in
    (record { one = a₁.0; two = a₂.0; three = a₃.0; four = a₄.0; plain = a₅.0 }, leb-true _ _ a₆.0)

module _ (s : List ℕ) (A : Given s) where
  abbrev n : ℕ
  n = block_count s

  abbrev r : ℕ
  r = root_of s

  abbrev ds : List ℕ
  ds = directory s (root_of s)

  pub whole : length s ≡ 512 * n
  unfolding stage1
  whole = eqb-true _ _ (and_split (eqb (length s) (512 * n)) _ A.one).0

  least-most : (min_blocks ≤ n) × (n ≤ max_blocks)
  unfolding stage1
  least-most = within-split min_blocks max_blocks n (and_split (eqb (length s) (512 * n)) _ A.one).1

  root_dir : Directory s n r r
  root_dir = directory_ok-split s n r r A.four

  pub place : Place n ds
  place =
      record {
        least = least-most.0;
        most = least-most.1;
        blocks = λ x i. let w = in-directory s r x i in rw w.2 (root_dir.chained.above w.0 w.1, root_dir.chained.below w.0 w.1);
        apart = directory_ok-distinct s n r r A.four;
        some = omega (arith, length-directory s r, root_dir.d-least);
      }

  pub root-used : (x : ℕ) → In x ds → next s x ≢ 0
  root-used x i = let q = in-directory s r x i in
      λ z. chain-used (next s) n r (blocks_of s (512 * r)) root_dir.chained least-most.0 q.0 q.1 (ap (next s) (sym q.2) ∙ z)

  inside : every (in_volume n) ds ≡ true
  unfolding in_volume
  inside = in-every (in_volume n) ds (λ x i. let w = place.blocks x i in and-join (lt-ltb _ _ w.0) (lt-ltb _ _ w.1))

  start-done : Done n ds s ds 0
  unfolding files_to owned
  start-done =
      record {
        whole = whole;
        claims = sym (append-nil ds);
        apart = place.apart;
        inside = inside;
        chained = refl;
        slot = λ k h g. absurd (omega arith);
        plain = λ k h g. absurd (omega arith);
        name = λ k h g. absurd (omega arith);
      }

  pub start-run : Run n ds s (record { image = s; claimed = ds; codes = 0 ∷ [] }) 0
  start-run =
      record {
        done = start-done;
        count = refl;
        held = λ k h g c. absurd (omega arith);
        still = λ k h g c f x i. absurd (omega arith);
        moved = λ k h g c. absurd (omega arith);
        first = refl;
        since = record { len = refl; front = λ i l. refl; later = λ j w l i h. refl; bytes = λ b h o i l. refl; values = λ x l o. refl; root = λ x i. refl };
      }

  abbrev m : ℕ
  m = 4 * length ds - 2

  pub last-slot : suc m ≡ 4 * length ds - 1
  last-slot = omega (arith, place.some)

  pub no-directory : (k : ℕ) → 0 < k → k ≤ m → is_directory (type_of s (slot_at ds k)) ≡ false
  no-directory k h g = not-true _ (every-interval (λ j. not (is_directory (type_of s (slot_at ds j)))) 1 m A.plain k h (omega arith))

  pub run : Run n ds s (slots_done s) m
  unfolding slots_done
  run =
      let e : 0 + m ≡ m = omega arith in
      subst (λ (k : ℕ). Run n ds s (take_slots ds (record { image = s; claimed = ds; codes = 0 ∷ [] }) (slots ds)) k) e
      (run-slots n ds place s m 0 _ start-run (omega (arith, place.some)) (λ k h g. no-directory k h (omega arith)))

  abbrev t : List ℕ
  t = (slots_done s).image

  abbrev cs : List ℕ
  cs = (slots_done s).claimed

  abbrev w : List ℕ
  w = salvage_image s

  pub end : Final n ds t cs w
  unfolding salvage_image
  end = final n ds place t cs m run.done last-slot

  pub done : Done n ds w cs m
  done = final-done n ds place t cs m run.done last-slot w end

  pub len : length w ≡ length s
  len = end.len ∙ run.since.len

  bw : block_count w ≡ n
  bw = ap (λ (x : ℕ). x / 512) len

  -- the root's own entry
  zero-at : slot_at ds 0 ≡ 512 * r
  zero-at = slot_at-zero s r root_dir.d-least

  self-same : Same s w (512 * r) 128
  self-same =
      subst (λ (a : ℕ). Same s w a 128) zero-at
      (same_then s t w (slot_at ds 0) 128 (run.since.later 0 (inl refl) (omega (arith, place.some))) (final-slot n ds place t cs m run.done last-slot w end 0 (omega arith)))

  self-fits : 512 * r + 128 ≤ length s
  self-fits = omega (arith, slot-high n ds place 0 (omega (arith, place.some)), zero-at, whole)

  self-field : (i : ℕ) → i + 4 ≤ 128 → be32 w (512 * r + i) ≡ be32 s (512 * r + i)
  self-field = same-field s w (512 * r) len self-fits self-same

  self_type : type_of w (512 * r) ≡ type_of s (512 * r)
  self_type = same-type s w (512 * r) len self-fits self-same

  value : (x : ℕ) → In x ds → next w x ≡ next s x
  value x i = end.kept x (claimed-root n ds place t cs m run.done (omega (arith, place.some)) x i) ∙ run.since.root x i

  root-stays : directory w r ≡ ds
  unfolding directory
  root-stays = rw (self-field 12 (omega arith)) (chain-stays (next s) (next w) r (blocks_of s (512 * r)) (λ x i. value x i))

  root-chain : chain_ok (next w) n r (blocks_of s (512 * r)) ≡ chain_ok (next s) n r (blocks_of s (512 * r))
  unfolding directory
  root-chain = chain_ok-stays (next s) (next w) n r (blocks_of s (512 * r)) (λ x i. value x i)

  root-right : directory_ok w n r r ≡ true
  unfolding directory_ok
  root-right =
      rw (self_type, self-field 4 (omega arith), self-field 8 (omega arith), self-field 12 (omega arith), root-stays, root-chain) A.four

  -- no directory below the root
  no-children : children w r ≡ []
  unfolding children
  no-children =
      rw root-stays (ap (map (slot_at ds)) (select-none (λ k. is_directory (type_of w (slot_at ds k))) (slots ds)
      (λ k i e. let x = in-interval 1 m k i in true-not-false e (done.plain k x.0 (omega arith)))))

  dirs-one : dirs w ≡ (r, max_levels) ∷ []
  unfolding dirs
  dirs-one = rw (bw, below-is w max_levels r, no-children)

  local : Local w n r max_levels
  local =
      record {
        end-type = rw root-stays end.end;
        slot = rw root-stays (λ k i. let x = in-interval 1 m k i in done.slot k x.0 (omega arith));
        name = rw root-stays (λ k i. let x = in-interval 1 m k i in done.name k x.0 (omega arith));
        child = λ e i. absurd (subst (In e) no-children i);
        deep = λ z. no-children;
      }

  root-tree : Tree w n
  root-tree =
      record {
        rooted = rw bw root-right;
        local = λ d i. ⊎_elim (λ q. subst (λ (x : ℕ × ℕ). Local w n x.0 x.1) (sym q) local) (λ z. absurd z) (subst (In d) dirs-one i);
        once = rw (dirs-one, root-stays, append-nil ds) place.apart;
      }

  -- the table
  all-chains : all_chains w ≡ (r, length ds) ∷ files_to w ds m
  unfolding all_chains chains files_to files
  all-chains = rw dirs-one (append-nil _ ∙ ap (λ (x : List ℕ). (r, length x) ∷ files_to w x (4 * length x - 2)) root-stays)

  own-chain : chain (next w) r (length ds) ≡ ds
  unfolding directory
  own-chain = rw (length-directory s r) (chain-stays (next s) (next w) r (blocks_of s (512 * r)) (λ x i. value x i))

  all-owned : owned (next w) ((r, length ds) ∷ files_to w ds m) ≡ cs
  unfolding owned
  all-owned = ap (λ (l : List ℕ). l ++ owned (next w) (files_to w ds m)) own-chain ∙ sym done.claims

  chains-right : every (λ c. chain_ok (next w) n c.0 c.1) ((r, length ds) ∷ files_to w ds m) ≡ true
  chains-right = and-join {a = chain_ok (next w) n r (length ds)} (rw (length-directory s r, root-chain) own) done.chained
    where
      own : chain_ok (next s) n r (blocks_of s (512 * r)) ≡ true
      own = chain_ok-join (next s) n r (blocks_of s (512 * r)) root_dir.chained

  -- a claimed block is in use
  pub claimed-used : (b : ℕ) → In b cs → next w b ≢ 0
  unfolding owned
  claimed-used b i =
      let all : List (ℕ × ℕ) = (r, length ds) ∷ files_to w ds m in
      let q = of-join (λ c. chain (next w) c.0 c.1) all b (subst (In b) (sym all-owned) i) in
      let c = chain_ok-split (next w) n q.0.0 q.0.1 (every_in (λ c. chain_ok (next w) n c.0 c.1) all q.0 chains-right q.1) in
      let x = in-chain (next w) q.0.0 q.0.1 b q.2 in
      λ z. chain-used (next w) n q.0.0 q.0.1 c place.least x.0 x.1 (ap (next w) (sym x.2) ∙ z)

  table-right : table_ok (next w) n ((r, length ds) ∷ files_to w ds m) ≡ true
  unfolding table_ok all_ones
  table-right =
      rw all-owned (and-join chains-right (and-join done.apart
      (and-join (interval-every (λ b. eqb (next w b) 1) 0 (table_blocks n + 1) (λ b h g. eq-eqb _ 1 (end.ones b (omega arith))))
      (interval-every (λ b. eqb (next w b) 0 || has eqb b cs) (table_blocks n + 1) (128 * table_blocks n - (table_blocks n + 1)) free-or))))
    where
      free-or : (b : ℕ) → table_blocks n + 1 ≤ b → b < table_blocks n + 1 + (128 * table_blocks n - (table_blocks n + 1)) → eqb (next w b) 0 || has eqb b cs ≡ true
      free-or b h g = ⊎_elim
          (λ i. rw i (or-true (eqb (next w b) 0)))
          (λ o. rw (eq-eqb (next w b) 0 (end.free b (omega arith) (omega arith) (λ i. true-not-false (in-has-eqb b cs i) o))))
          (true-or-false (has eqb b cs))

  six : stage6 w ≡ true
  unfolding stage6
  six = rw (bw, all-chains) table-right

  head : Same s w 0 20
  head = same_then s t w 0 20 (same-inner s t 0 512 0 20 run.since.front (omega arith) (omega arith)) end.head

  tail : Same s w 28 4
  tail = same_then s t w 28 4 (same-inner s t 0 512 28 4 run.since.front (omega arith) (omega arith)) (same-inner t w 28 484 28 4 end.tail (omega arith) (omega arith))

  one : stage1 w ≡ true
  unfolding stage1
  one = rw len A.one

  two : stage2 w ≡ true
  unfolding stage2
  two = rw (same-part s w 0 20 0 12 head (omega arith) (omega arith) (omega (arith, whole, least-most)) len) A.two

  three : stage3 w ≡ true
  unfolding stage3
  three =
      rw (len, same-be32 s w 0 20 12 head (omega arith) (omega arith), same-be32 s w 0 20 16 head (omega arith) (omega arith), same-be32 s w 28 4 28 tail (omega arith) (omega arith))
      A.three

  -- THE LAW
  pub salvaged-sound : check w ≡ 0
  unfolding check
  salvaged-sound =
      let T : Tree w (block_count w) = subst (Tree w) (sym bw) root-tree in
      rw (one, two, three, visit-tree w T, six, end.counts)

  -- salvaged once, it is accepted again
  pub root-again : directory w (root_of w) ≡ ds
  root-again = rw bw root-stays

  pub given-again : Given w
  given-again =
      record {
        one = one;
        two = two;
        three = three;
        four = rw bw root-right;
        plain = rw root-again (in-every (λ k. not (is_directory (type_of w (slot_at ds k)))) (slots ds)
            (λ k i. let x = in-interval 1 m k i in ap not (done.plain k x.0 (omega arith))));
      }

-- and an image that passes is
pub accepts : (s : List ℕ) (size : ℕ) → Given s → 4 * length (directory s (root_of s)) ≤ size → salvage_refusal s size ≡ 0
unfolding salvage_refusal
accepts s size A h = rw (A.one, A.two, A.three, A.four, A.plain, le-leb (4 * length (directory s (root_of s))) size h)
