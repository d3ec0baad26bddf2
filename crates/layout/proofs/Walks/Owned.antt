-- STAGE 6: the chains of all entries of the marked blocks, clause by clause; and that this is the rule, where just the directory blocks are marked.
use Prim.Native.Nat.{ℕ, zero, suc, ◌+◌, ◌-◌, ◌*◌, ◌≤◌, ◌<◌}
use mathlib.Core.Bool.{Bool, true, false, not, cond, ◌&&◌, ◌||◌, not-not, false≢true}
use mathlib.Core.List.{List, [], ◌∷◌, ◌++◌, append-nil, map}
use mathlib.Core.Path.{◌≡◌, refl, sym, ap, ◌∙◌}
use native.Mathlib.Omega.{arith}
use lib.Dec.{eqb}
use lib.ListN.{length, get_or}
use borrow.Author.Tests.{eq-eqb, ne_eqb, eqb-true, eqb-false}
use Rattle.layout.specs.Limits.{min_blocks}
use Rattle.layout.specs.Lists.{interval, every, has, distinct, select, keep, joined}
use Rattle.layout.specs.Bytes.{zeros, part}
use Rattle.layout.specs.Geometry.{block_count, table_blocks}
use Rattle.layout.specs.Table.{next, chain_ok, all_ones}
use Rattle.layout.specs.Directory.{type_of, first_block, blocks_of, attribute_block_of, attribute_size_of, is_file}
use Rattle.layout.specs.Check.{file_chains, owned, table_ok, stage6, all_chains}
use Rattle.layout.specs.Walks.Chains.{Walk, walked, follow, follow_all, count_used}
use Rattle.layout.specs.Walks.Entries.{all_zero}
use Rattle.layout.specs.Walks.Shapes.{Shape}
use Rattle.layout.specs.Walks.Slots.{entry_at}
use Rattle.layout.specs.Walks.Stages.{slot_chains, follow_file, follow_slot, follow_slots, is_marked, follow_blocks, follow_table}
use Rattle.layout.proofs.Laws.Bytes.{length-zeros, get_d_part}
use Rattle.layout.proofs.Laws.Lists.{In, every-same, interval-next, has-eqb-in, in-has-eqb, select_in, select-distinct}
use Rattle.layout.proofs.Laws.Joins.{select_has, select-none, in-interval, interval-in, join-map, join-join, join-append}
use Rattle.layout.proofs.Laws.Tests.{and_split}
use Rattle.layout.proofs.Laws.Visits.{Tree, dir_blocks}
use Rattle.layout.proofs.Laws.Trees.{block-above}
use Rattle.layout.proofs.Laws.Sound.{quad, entry_chains, entry_chains_of, any_order}
use Rattle.layout.proofs.Walks.Marks.{Marked, marked-zeros, Tied, follow_all-tied}
use Rattle.layout.proofs.Walks.Names.{all_zero-byte}
use Rattle.layout.proofs.Walks.Shapes.{shape-block_count}
use Rattle.layout.proofs.Walks.Used.{rest-counted, owned_in}

-- chains after others
module _ (v : ℕ → ℕ) (n : ℕ) where
  pub follow_all-append : (cs ds : List (ℕ × ℕ)) (m : List ℕ)
      → follow_all v n (cs ++ ds) m ≡ (let w : Walk = follow_all v n cs m in cond w.ok (follow_all v n ds w.marks) w)
  unfolding follow_all
  follow_all-append [] ds m = refl
  follow_all-append (c ∷ cs) ds m = go (follow v n c.1 c.0 m).ok refl (follow_all-append cs ds (follow v n c.1 c.0 m).marks)
    where
      w : Walk
      w = follow v n c.1 c.0 m

      go : (t : Bool) → w.ok ≡ t
          → follow_all v n (cs ++ ds) w.marks ≡ (let x : Walk = follow_all v n cs w.marks in cond x.ok (follow_all v n ds x.marks) x)
          → cond t (follow_all v n (cs ++ ds) w.marks) w
          ≡ (let x : Walk = cond t (follow_all v n cs w.marks) w in cond x.ok (follow_all v n ds x.marks) x)
      go true e h = h
      go false e h = sym (ap (λ (b : Bool). cond b (follow_all v n ds w.marks) w) e)

-- what is selected of an interval, in two parts
select-two : (p : ℕ → Bool) (a j k : ℕ) → k ≤ j → select p (interval a j) ≡ select p (interval a k) ++ select p (interval (a + k) (j - k))
select-two p a j zero h =
    let e : a + 0 ≡ a = omega arith in
    let d : j - 0 ≡ j = omega arith in
    rw (e, d)
select-two p a zero (suc k) h = absurd (omega arith)
select-two p a (suc j) (suc k) h =
    let e : a + suc k ≡ suc a + k = omega arith in
    let d : suc j - suc k ≡ j - k = omega arith in
    rw (e, d) (go (p a) (select-two p (suc a) j k (omega arith)))
  where
    go : (t : Bool) → select p (interval (suc a) j) ≡ select p (interval (suc a) k) ++ select p (interval (suc a + k) (j - k))
        → keep t a (select p (interval (suc a) j)) ≡ keep t a (select p (interval (suc a) k)) ++ select p (interval (suc a + k) (j - k))
    go true r = ap (λ (l : List ℕ). a ∷ l) r
    go false r = r

-- one chain
follow_all-one : (v : ℕ → ℕ) (n first blocks : ℕ) (m : List ℕ) → follow_all v n ((first, blocks) ∷ []) m ≡ follow v n blocks first m
unfolding follow_all
follow_all-one v n first blocks m = go (follow v n blocks first m) (follow v n blocks first m).ok refl
  where
    go : (w : Walk) (t : Bool) → w.ok ≡ t → cond t (walked true w.marks) w ≡ w
    go w true e = ap (λ (b : Bool). walked b w.marks) (sym e)
    go w false e = refl

-- the two of a file
module _ (s : List ℕ) (n e : ℕ) (m m' : List ℕ) where
  pub follow_file-stop : walked false m' ≡ follow (next s) n (blocks_of s e) (first_block s e) m → walked false m' ≡ follow_file s n e m
  unfolding follow_file file_chains follow_all
  follow_file-stop h = rw (← h)

  pub follow_file-next : walked true m' ≡ follow (next s) n (blocks_of s e) (first_block s e) m → (first blocks : ℕ) → first ≡ attribute_block_of s e → blocks ≡ attribute_size_of s e
      → follow (next s) n blocks first m' ≡ follow_file s n e m
  unfolding follow_file file_chains follow_all
  follow_file-next h first blocks ef eb = rw (← h, ef, eb) (sym (follow_all-one (next s) n (attribute_block_of s e) (attribute_size_of s e) m'))

-- one slot
module _ (s : List ℕ) (n e : ℕ) (m : List ℕ) (ty : ℕ) (et : ty ≡ type_of s e) where
  pub follow_slot-file : true ≡ is_file ty → follow_file s n e m ≡ follow_slot s n e m
  unfolding follow_slot slot_chains follow_file
  follow_slot-file h = rw (← et, ← h)

  module _ (hf : false ≡ is_file ty) where
    pub follow_slot-none : (ty ≡ 1 → ⊥) → walked true m ≡ follow_slot s n e m
    unfolding follow_slot slot_chains follow_all
    follow_slot-none h = rw (← et, ← hf, ne_eqb ty 1 h)

    pub follow_slot-self : ty ≡ 1 → follow (next s) n (blocks_of s e) (first_block s e) m ≡ follow_slot s n e m
    unfolding follow_slot slot_chains
    follow_slot-self h = rw (← et, ← hf, eq-eqb ty 1 h) (sym (follow_all-one (next s) n (first_block s e) (blocks_of s e) m))

-- the slots of a block
module _ (s : List ℕ) (n b k j : ℕ) (m : List ℕ) where
  pub follow_slots-end : j ≡ 0 → follow_slots s n b k j m ≡ walked true m
  unfolding follow_slots follow_all
  follow_slots-end e = rw e

  slots-suc : 0 < j → follow_slots s n b k j m ≡ (let w : Walk = follow_slot s n (entry_at b k) m in cond w.ok (follow_slots s n b (k + 1) (j - 1) w.marks) w)
  unfolding follow_slots follow_slot
  slots-suc h =
      rw (interval-next k j h) (follow_all-append (next s) n (slot_chains s (entry_at b k)) (joined (λ x. slot_chains s (entry_at b x)) (interval (k + 1) (j - 1))) m)

  pub follow_slots-next : 0 < j → (m' : List ℕ) → walked true m' ≡ follow_slot s n (entry_at b k) m → follow_slots s n b k j m ≡ follow_slots s n b (k + 1) (j - 1) m'
  follow_slots-next h m' e = slots-suc h ∙ rw (← e)

  pub follow_slots-stop : 0 < j → (m' : List ℕ) → walked false m' ≡ follow_slot s n (entry_at b k) m → follow_slots s n b k j m ≡ walked false m'
  follow_slots-stop h m' e = slots-suc h ∙ rw (← e)

-- the marked blocks
module _ (s : List ℕ) (n : ℕ) (ms : List ℕ) (b : ℕ) (m : List ℕ) where
  pub follow_blocks-other : get_or ms b 0 ≡ 0 → walked true m ≡ follow_blocks s n ms b 1 m
  unfolding follow_blocks follow_all
  follow_blocks-other e = rw (eq-eqb (get_or ms b 0) 0 e)

  pub follow_blocks-marked : (get_or ms b 0 ≡ 0 → ⊥) → follow_slots s n b 0 4 m ≡ follow_blocks s n ms b 1 m
  unfolding follow_blocks follow_slots
  follow_blocks-marked h =
      rw (ne_eqb (get_or ms b 0) 0 h) (ap (λ (cs : List (ℕ × ℕ)). follow_all (next s) n cs m) (sym (append-nil (joined (λ k. slot_chains s (entry_at b k)) (interval 0 4)))))

  module _ (j : ℕ) where
    pub follow_blocks-end : j ≡ 0 → follow_blocks s n ms b j m ≡ walked true m
    unfolding follow_blocks follow_all
    follow_blocks-end e = rw e

    abbrev chains_in : ℕ → List (ℕ × ℕ)
    chains_in x = joined (λ k. slot_chains s (entry_at x k)) (interval 0 4)

    two-parts : (k : ℕ) → k ≤ j
        → follow_blocks s n ms b j m ≡ (let w : Walk = follow_blocks s n ms b k m in cond w.ok (follow_blocks s n ms (b + k) (j - k) w.marks) w)
    unfolding follow_blocks
    two-parts k h =
        ap (λ (bs : List ℕ). follow_all (next s) n (joined chains_in bs) m) (select-two (is_marked ms) b j k h)
        ∙ rw (join-append chains_in (select (is_marked ms) (interval b k)) (select (is_marked ms) (interval (b + k) (j - k))))
        (follow_all-append (next s) n (joined chains_in (select (is_marked ms) (interval b k))) (joined chains_in (select (is_marked ms) (interval (b + k) (j - k)))) m)

    -- the first k, and the others
    pub follow_blocks-next : (k : ℕ) → k ≤ j → (m' : List ℕ) → walked true m' ≡ follow_blocks s n ms b k m → follow_blocks s n ms b j m ≡ follow_blocks s n ms (b + k) (j - k) m'
    follow_blocks-next k h m' e = two-parts k h ∙ rw (← e)

    pub follow_blocks-stop : (k : ℕ) → k ≤ j → (m' : List ℕ) → walked false m' ≡ follow_blocks s n ms b k m → follow_blocks s n ms b j m ≡ walked false m'
    follow_blocks-stop k h m' e = two-parts k h ∙ rw (← e)

    -- none of them is marked
    pub follow_blocks-none : (w : ℕ) → w ≡ j → true ≡ all_zero (part ms b w) → walked true m ≡ follow_blocks s n ms b j m
    unfolding follow_blocks follow_all
    follow_blocks-none w e t =
        let z : select (is_marked ms) (interval b j) ≡ [] =
        select-none (is_marked ms) (interval b j) (λ x i u.
        let l = in-interval b j x i in
        let q : b + (x - b) ≡ x = omega (arith, l.0) in
        let y : get_or ms x 0 ≡ 0 = ap (λ (i : ℕ). get_or ms i 0) (sym q) ∙ sym (get_d_part ms b w (x - b) (omega (arith, l, e))) ∙ all_zero-byte (part ms b w) 0 (x - b) (sym t) (omega arith) in
        false≢true (sym (ap not (eq-eqb (get_or ms x 0) 0 y)) ∙ u)) in
        rw z

-- the whole table
module _ (s : List ℕ) (t n : ℕ) (ms m m' : List ℕ) where
  pub follow_table-chains : walked false m' ≡ follow_blocks s n ms 0 n m → false ≡ follow_table s t n ms m
  unfolding follow_table
  follow_table-chains e = rw (← e)

  module _ (e : walked true m' ≡ follow_blocks s n ms 0 n m) where
    pub follow_table-ones : false ≡ all_ones (next s) 0 (t + 1) → false ≡ follow_table s t n ms m
    unfolding follow_table
    follow_table-ones h = rw (← e, ← h)

    module _ (h : true ≡ all_ones (next s) 0 (t + 1)) (c : ℕ) (ec : c ≡ count_used (next s) 0 (128 * t)) (x : ℕ) (ex : x ≡ count_used (λ b. get_or m' b 0) 0 (128 * t)) where
      pub follow_table-other : (c ≡ t + 1 + x → ⊥) → false ≡ follow_table s t n ms m
      unfolding follow_table
      follow_table-other d = rw (← e, ← h, ← ec, ← ex, ne_eqb c (t + 1 + x) d)

      pub follow_table-all : c ≡ t + 1 + x → true ≡ follow_table s t n ms m
      unfolding follow_table
      follow_table-all d = rw (← e, ← h, ← ec, ← ex, eq-eqb c (t + 1 + x) d)

-- the entries of a block, and those of the marked blocks
quad_is : (b : ℕ) → map (entry_at b) (interval 0 4) ≡ quad b
unfolding quad
quad_is b =
    let z : 512 * b + 0 ≡ 512 * b = omega arith in
    rw z

abbrev blocks_in : List ℕ → ℕ → List ℕ
blocks_in ms n = select (is_marked ms) (interval 0 n)

marked-chains : (s ms : List ℕ) (n : ℕ) → joined (λ x. joined (λ k. slot_chains s (entry_at x k)) (interval 0 4)) (blocks_in ms n) ≡ entry_chains_of s (blocks_in ms n)
unfolding slot_chains entry_chains entry_chains_of
marked-chains s ms n = each (blocks_in ms n) ∙ sym (join-join (entry_chains s) quad (blocks_in ms n))
  where
    each : (bs : List ℕ) → joined (λ x. joined (λ k. slot_chains s (entry_at x k)) (interval 0 4)) bs ≡ joined (λ x. joined (entry_chains s) (quad x)) bs
    each [] = refl
    each (b ∷ bs) =
        let e : joined (λ k. entry_chains s (entry_at b k)) (interval 0 4) ≡ joined (entry_chains s) (quad b) = sym (join-map (entry_chains s) (entry_at b) (interval 0 4)) ∙ ap (joined (entry_chains s)) (quad_is b) in
        rw (e, each bs)

-- the walk from no marks is the rule on its chains
rest-tied : (v : ℕ → ℕ) (m os : List ℕ) (a k : ℕ) → Marked m os
    → every (λ b. eqb (v b) 0 || has eqb b os) (interval a k) ≡ every (λ b. eqb (v b) 0 || not (eqb (get_or m b 0) 0)) (interval a k)
rest-tied v m os a k g =
    every-same (λ b. eqb (v b) 0 || has eqb b os) (λ b. eqb (v b) 0 || not (eqb (get_or m b 0) 0)) (interval a k)
    (λ x i. ap (λ (t : Bool). eqb (v x) 0 || t) (sym (ap not (g.at x) ∙ not-not (has eqb x os))))

marked-in : (m os : List ℕ) → Marked m os → (b : ℕ) → (get_or m b 0 ≡ 0 → ⊥) → In b os
marked-in m os g b h = go (has eqb b os) refl
  where
    go : (t : Bool) → has eqb b os ≡ t → In b os
    go true e = has-eqb-in b os e
    go false e = absurd (h (eqb-true (get_or m b 0) 0 (g.at b ∙ ap not e)))

module _ (s : List ℕ) (n : ℕ) (low : min_blocks ≤ n) (ms : List ℕ) (size : ℕ) (high : n ≤ size) where
  abbrev cs : List (ℕ × ℕ)
  cs = joined (λ x. joined (λ k. slot_chains s (entry_at x k)) (interval 0 4)) (select (is_marked ms) (interval 0 n))

  follow_table-tied : follow_table s (table_blocks n) n ms (zeros size) ≡ table_ok (next s) n cs
  unfolding follow_table follow_blocks table_ok all_ones
  follow_table-tied = go (follow_all (next s) n cs m).ok refl
    where
      m : List ℕ
      m = zeros size

      m' : List ℕ
      m' = (follow_all (next s) n cs m).marks

      os : List ℕ
      os = owned (next s) cs

      all : Bool
      all = every (λ c. chain_ok (next s) n c.0 c.1) cs

      ones : Bool
      ones = every (λ b. eqb (next s b) 1) (interval 0 (table_blocks n + 1))

      rest : Bool
      rest = every (λ b. eqb (next s b) 0 || has eqb b os) (interval (table_blocks n + 1) (128 * table_blocks n - (table_blocks n + 1)))

      tied : Tied (follow_all (next s) n cs m) (all && distinct eqb os) os (length m)
      tied = follow_all-tied (next s) n cs m [] (let l = length-zeros size in omega arith) (marked-zeros size) refl

      counted : Bool
      counted = eqb (count_used (next s) 0 (128 * table_blocks n)) (table_blocks n + 1 + count_used (λ b. get_or m' b 0) 0 (128 * table_blocks n))

      none : (a p x : Bool) → a && p ≡ false → false ≡ a && (p && x)
      none true true x z = absurd (false≢true (sym z))
      none true false x z = refl
      none false p x z = refl

      free : all ≡ true → Marked m' os → ones ≡ true → rest ≡ counted
      free good g o =
          rest-tied (next s) m' os (table_blocks n + 1) (128 * table_blocks n - (table_blocks n + 1)) g
          ∙ rest-counted (next s) (λ b. get_or m' b 0) (table_blocks n + 1) (128 * table_blocks n) (omega (arith, low)) o
          (λ b h. below b h (eqb (get_or m' b 0) 0) refl)
          (λ b h z. (owned_in (next s) n low cs good b (marked-in m' os g b h)).2 z)
        where
          below : (b : ℕ) → b < table_blocks n + 1 → (t : Bool) → eqb (get_or m' b 0) 0 ≡ t → get_or m' b 0 ≡ 0
          below b h true e = eqb-true (get_or m' b 0) 0 e
          below b h false e = absurd (let q = owned_in (next s) n low cs good b (marked-in m' os g b (eqb-false (get_or m' b 0) 0 e)) in omega (arith, q.0))

      both : (t : Bool) → ones ≡ t → (ones ≡ true → rest ≡ counted) → t && counted ≡ t && rest
      both true o f = sym (f o)
      both false o f = refl

      go : (t : Bool) → (follow_all (next s) n cs m).ok ≡ t → (follow_all (next s) n cs m).ok && (ones && counted) ≡ all && (distinct eqb os && (ones && rest))
      go true e =
          let p = and_split all (distinct eqb os) (sym tied.ok ∙ e) in
          rw (e, p.0, p.1) (both ones refl (free p.0 (tied.marks e)))
      go false e = rw e (none all (distinct eqb os) (ones && rest) (sym tied.ok ∙ e))

-- THE LAW
module _ (s : List ℕ) (n : ℕ) (ms : List ℕ) (shape : Shape s n) (T : Tree s n) (g : Marked ms (dir_blocks s)) where
  block_in : (b : ℕ) → In b (select (is_marked ms) (interval 0 n)) → In b (dir_blocks s)
  block_in b i =
      let w = select_in (is_marked ms) 0 n b i in
      has-eqb-in b (dir_blocks s) (sym (ap not (g.at b) ∙ not-not (has eqb b (dir_blocks s))) ∙ w.2)

  in_block : (b : ℕ) → In b (dir_blocks s) → In b (select (is_marked ms) (interval 0 n))
  in_block b i =
      let h = block-above s n T shape.low b i in
      select_has (is_marked ms) (interval 0 n) b (interval-in n 0 b (omega arith) (omega (arith, h.1)))
      (ap not (g.at b) ∙ not-not (has eqb b (dir_blocks s)) ∙ in-has-eqb b (dir_blocks s) i)

  pub stage6-tied : (size : ℕ) → n ≤ size → follow_table s (table_blocks n) n ms (zeros size) ≡ stage6 s
  unfolding stage6
  stage6-tied size room =
      let bl : List ℕ = select (is_marked ms) (interval 0 n) in
      let z : block_count s ≡ n = shape-block_count s n shape in
      follow_table-tied s n shape.low ms size room
      ∙ ap (table_ok (next s) n) (marked-chains s ms n)
      ∙ sym (any_order s n T shape.low bl (select-distinct (is_marked ms) 0 n) block_in in_block)
      ∙ ap (λ (k : ℕ). table_ok (next s) k (all_chains s)) (sym z)
