-- The steps of a change that take blocks, one to the end of the chain and all the new ones, and that put data.
use Prim.Native.Nat.{ℕ, zero, suc, ◌+◌, ◌-◌, ◌*◌, ◌≤◌, ◌<◌}
use mathlib.Core.Path.{◌≡◌, refl, sym, ap, ◌∙◌, subst}
use mathlib.Core.List.{List, ◌∷◌, ◌++◌, append_assoc, append-nil, []}
use mathlib.Core.Logic.{◌⊎◌, inl, inr, ⊎_elim, ◌≢◌}
use native.Mathlib.Omega.{arith}
use lib.ListN.{length, get_or, take, drop, length-take}
use Rattle.layout.specs.Bytes.{be32, splice}
use Rattle.layout.specs.Geometry.{block_count, table_blocks, root_block}
use Rattle.layout.specs.Table.{next, chain, occupied}
use Rattle.volume.specs.Entries.{taken, grown}
use Rattle.volume.specs.Write.{put}
use Rattle.volume.proofs.Laws.Table.{taken_next, taken-link, taken-same, taken-occupied, taken-first, taken-length, taken-used, taken-left}
use Rattle.layout.proofs.Laws.Lists.{In, head_apart, tail-distinct}
use Rattle.layout.proofs.Laws.Frames.{Same, same_then}
use Rattle.layout.proofs.Laws.Chains.{nth, nth-suc, chain_first, nth-agree, Chain, chain-differ, chain-used, chain_snoc, LastIs}
use Rattle.layout.proofs.Laws.Tables.{table-pushed}
use Rattle.layout.proofs.Laws.Counts.{occupied-most}
use Rattle.layout.proofs.Laws.Tests.{lt-or-gt, lt-or-ge}
use Rattle.layout.proofs.Laws.Bytes.{splice-nil}
use Rattle.layout.proofs.Laws.Sound.{Sound, blocks_of_all}
use Rattle.layout.proofs.Laws.Owners.{Fresh}
use Rattle.layout.proofs.Laws.Steps.{over, over-same, over-other, Midway, Staying, kept_above, kept-used, dir-apart, bytes-step}

abbrev first_now : ℕ → ℕ → ℕ → ℕ
first_now zero b x = x
first_now (suc c) b x = b

module _ (s : List ℕ) (S : Sound s) (ks : List (ℕ × ℕ)) (P : ℕ → Type 0) (f l : ℕ → ℕ) (k : ℕ) (St : Staying s ks P f l k) where
  abbrev n : ℕ
  n = block_count s

  -- a block is taken
  module _ (t : List ℕ) (b c : ℕ) (I : Midway s ks P f l k t b c) (x : ℕ) (bs : List ℕ) (F : Fresh n (next t) (x ∷ bs)) (a : ℕ) (la : LastIs (next t) b c a) where
    abbrev t' : List ℕ
    t' = taken t n a x

    whole : length t ≡ 512 * n
    whole = I.len ∙ S.whole

    tx : table_blocks n < x
    tx = F.above x (inl refl)

    xn : x < n
    xn = F.below x (inl refl)

    zero-x : next t x ≡ 0
    zero-x = F.empty x (inl refl)

    mine : Chain (next t) n b c
    mine = rw (over-same k b f, over-same k c l) at (I.table.right k St.owner)

    -- the last block is below n, in use, and in the chain
    last-small : (c : ℕ) → Chain (next t) n b c → LastIs (next t) b c a → a < n
    last-small zero C e = omega (arith, S.least)
    last-small (suc c) C e = omega (arith, C.below c (omega arith))

    an : a < n
    an = last-small c mine la

    last-used : (c : ℕ) → Chain (next t) n b c → LastIs (next t) b c a → 0 < a → next t a ≢ 0
    last-used zero C e pos = absurd (omega arith)
    last-used (suc c) C e pos = rw e (chain-used (next t) n b (suc c) C S.least c (omega arith))

    used-a : 0 < a → next t a ≢ 0
    used-a = last-used c mine la

    last-in : (c : ℕ) → LastIs (next t) b c a → 0 < a → (y : ℕ) × (y < c) × (a ≡ nth (next t) y b)
    last-in zero e pos = absurd (omega arith)
    last-in (suc c) e pos = (c, omega arith, e)

    other : (y : ℕ) → y < 128 * table_blocks n → y ≢ x → (0 < a → y ≢ a) → next t' y ≡ next t y
    other = taken_next n S.least t a x whole an xn tx

    front : (c : ℕ) → Chain (next t) n b c → LastIs (next t) b c a → (y : ℕ) → y < c → nth (next t') y (first_now c b x) ≡ nth (next t) y b
    front zero C e y h = absurd (omega arith)
    front (suc c) C e y h =
        nth-agree (next t) (next t') y b
        (λ i g. other (nth (next t) i b) (omega (arith, C.below i (omega arith)))
        (λ q. chain-used (next t) n b (suc c) C S.least i (omega arith) (ap (next t) q ∙ zero-x))
        (λ pos q. chain-differ (next t) n b (suc c) C S.least i c (omega arith) (omega arith) (q ∙ e)))

    end : (c : ℕ) → Chain (next t) n b c → LastIs (next t) b c a → nth (next t') c (first_now c b x) ≡ x
    end zero C e = refl
    end (suc c) C e =
        nth-suc (next t') c b ∙ ap (next t') (front (suc c) C e c (omega arith) ∙ sym e)
        ∙ taken-link n S.least t a x whole an xn tx (omega (arith, xn, S.most)) (omega (arith, C.above c (omega arith)))

    away : (q : ℕ) → In q (blocks_of_all s ks) → q ≢ x
    away q i e = kept-used s S ks P f l k St q i (sym (I.values q i) ∙ ap (next t) e ∙ zero-x)

    keeps : (i w : ℕ) → (i + w ≤ 20) ⊎ (28 ≤ i) → (i + w ≤ 512) ⊎ ((512 * root_block n ≤ i) × ((i + w ≤ 512 * x) ⊎ (512 * x + 512 ≤ i))) → Same t t' i w
    keeps = taken-same n S.least t a x whole an xn tx

    more : be32 t 20 + 1 ≡ occupied (next t') n
    more = omega (arith, I.used, taken-occupied n S.least t a x whole an xn tx zero-x used-a S.most)

    taken_step : Midway s ks P f l k t' (first_now c b x) (suc c)
    taken_step =
        record {
          len = taken-length n S.least t a x whole an xn ∙ sym S.whole;
          head = same_then s t t' 0 20 I.head (keeps 0 20 (inl (omega arith)) (inl (omega arith)));
          tail = same_then s t t' 28 4 I.tail (keeps 28 4 (inr (omega arith)) (inl (omega arith)));
          kept = λ q i.
              let w = kept_above s S ks P f l k St q i in
              same_then s t t' (512 * q) 512 (I.kept q i)
              (keeps (512 * q) 512 (inr (omega arith)) (inr (omega arith, ⊎_elim (λ p. inl (omega arith)) (λ p. inr (omega arith)) (lt-or-gt q x (away q i)))));
          values = λ q i.
              other q (omega (arith, (kept_above s S ks P f l k St q i).1)) (away q i)
              (λ pos e. let r = last-in c la pos in dir-apart s S ks P f l k St t b c I q i r.0 r.1 (e ∙ r.2)) ∙ I.values q i;
          table = table-pushed n P (next t) (over k b f) (over k c l) I.table S.least k St.owner (next t') (over k (first_now c b x) f) (over k (suc c) l)
              (λ j h ne. over-other k (first_now c b x) f j ne ∙ sym (over-other k b f j ne)) (λ j h ne. over-other k (suc c) l j ne ∙ sym (over-other k c l j ne))
              x tx xn zero-x (taken-first n S.least t a x whole an xn tx zero-x used-a S.most) (over-same k (suc c) l ∙ ap suc (sym (over-same k c l)))
              (λ y h. rw (over-same k (first_now c b x) f, over-same k b f) (front c mine la y (omega (arith, over-same k c l))))
              (rw (over-same k (first_now c b x) f, over-same k c l) (end c mine la))
              (λ y h ne away. other y h ne (λ pos e. let r = last-in c la pos in away r.0 (omega (arith, over-same k c l)) (e ∙ r.2 ∙ ap (nth (next t) r.0) (sym (over-same k b f)))));
          used = taken-used n S.least t a x whole an xn (omega (arith, more, occupied-most (next t') n, S.most)) ∙ more;
          free = taken-left n S.least t a x whole an xn (omega (arith, S.most)) ∙ ap (λ (z : ℕ). n - z) more;
        }

    taken-last : LastIs (next t') (first_now c b x) (suc c) x
    taken-last = sym (end c mine la)

    taken-chain : chain (next t') (first_now c b x) (suc c) ≡ chain (next t) b c ++ (x ∷ [])
    taken-chain = chain_snoc (next t) (next t') b (first_now c b x) c x (front c mine la) (end c mine la)

    taken-fresh : Fresh n (next t') bs
    taken-fresh =
        record {
          above = λ y i. F.above y (inr i);
          below = λ y i. F.below y (inr i);
          empty = λ y i.
              let z : next t y ≡ 0 = F.empty y (inr i) in
              other y (omega (arith, F.below y (inr i))) (λ e. head_apart x bs F.distinct-all (subst (λ (q : ℕ). In q bs) e i))
              (λ pos e. used-a pos (ap (next t) (sym e) ∙ z)) ∙ z;
          distinct-all = tail-distinct x bs F.distinct-all;
        }

  -- then all of them
  pub grown-steps : (bs : List ℕ) (t : List ℕ) (b c a : ℕ) → Midway s ks P f l k t b c → LastIs (next t) b c a → Fresh n (next t) bs
      → (z : ℕ) × Midway s ks P f l k (grown t n a bs) z (c + length bs) × (chain (next (grown t n a bs)) z (c + length bs) ≡ chain (next t) b c ++ bs)
  unfolding grown
  grown-steps [] t b c a I la F = let e : c + 0 ≡ c = omega arith in rw e (b, I, sym (append-nil (chain (next t) b c)))
  grown-steps (x ∷ bs) t b c a I la F =
      let r = grown-steps bs (taken t n a x) (first_now c b x) (suc c) x (taken_step t b c I x bs F a la) (taken-last t b c I x bs F a la) (taken-fresh t b c I x bs F a la) in
      let e : c + suc (length bs) ≡ suc c + length bs = omega arith in
      rw e (r.0, r.1, r.2 ∙ ap (λ (q : List ℕ). q ++ bs) (taken-chain t b c I x bs F a la) ∙ append_assoc (chain (next t) b c) (x ∷ []) bs)

  -- a chain that begins: the blocks taken are it, from the first of them on
  pub grown-new : (bs t : List ℕ) (b : ℕ) → 0 < length bs → Midway s ks P f l k t b 0 → Fresh n (next t) bs
      → Midway s ks P f l k (grown t n 0 bs) (get_or bs 0 0) (length bs) × (chain (next (grown t n 0 bs)) (get_or bs 0 0) (length bs) ≡ bs)
  unfolding chain
  grown-new bs t b some I F =
      let g = grown-steps bs t b 0 0 I refl F in
      let q : 0 + length bs ≡ length bs = omega arith in
      let linked : chain (next (grown t n 0 bs)) g.0 (length bs) ≡ bs = rw q at g.2 in
      let starts : g.0 ≡ get_or bs 0 0 = chain_first (next (grown t n 0 bs)) g.0 (length bs) some ∙ ap (λ (c : List ℕ). get_or c 0 0) linked in
      (rw (starts, q) at g.1, rw starts at linked)

  -- data is put into blocks that are none of the directories'
  pub put-steps : (bs : List ℕ) (t : List ℕ) (b c offset : ℕ) (bytes : List ℕ) → Midway s ks P f l k t b c
      → ((q : ℕ) → In q bs → (table_blocks n < q) × (q < n) × (In q (blocks_of_all s ks) → ⊥)) → Midway s ks P f l k (put t bs offset bytes) b c
  unfolding put
  put-steps [] t b c offset bytes I g = I
  put-steps (q ∷ bs) t b c offset bytes I g =
      put-steps bs (splice t (512 * q + offset) (take (512 - offset) bytes)) b c (offset - 512) (drop (512 - offset) bytes) (here (lt-or-ge offset 512)) (λ x i. g x (inr i))
    where
      here : (offset < 512) ⊎ (512 ≤ offset) → Midway s ks P f l k (splice t (512 * q + offset) (take (512 - offset) bytes)) b c
      here (inl h) =
          let w = g q (inl refl) in
          bytes-step s S ks P f l k St t b c I q w.0 w.1 w.2 (512 * q + offset) (take (512 - offset) bytes) (omega arith) (omega (arith, length-take (512 - offset) bytes))
      here (inr h) = let z : 512 - offset ≡ 0 = omega arith in rw (z, splice-nil) I
