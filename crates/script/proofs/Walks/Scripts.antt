-- The items of a script one after the other, and the call of each.
use Prim.Native.Nat.{ℕ, ◌+◌, ◌-◌, ◌≤◌, ◌<◌}
use mathlib.Core.Path.{◌≡◌, refl, ap, ◌∙◌}
use mathlib.Core.Bool.{Bool, true, false, cond, not, ◌||◌}
use mathlib.Core.Logic.{◌⊎◌, inl, inr, ⊎_elim}
use mathlib.Core.List.{List, [], ◌∷◌, map}
use native.Mathlib.Omega.{arith}
use native.Mathlib.Decide.{ℕ_discrete}
use borrow.Author.Tests.{le-leb, lt-leb, leb-true, leb-false, ne_eqb, eqb-true, eqb-false}
use lib.Dec.{leb, eqb}
use lib.ListN.{length}
use Rattle.layout.specs.Lists.{within, every}
use Rattle.layout.specs.Bytes.{be32, be64}
use Rattle.store.specs.Get.{the_latest, the_number, get_in, get}
use Rattle.journal.specs.Run.{Call, State, change, undo, look, check_image, find_file, read_file, look_at, read_attributes_of, show_volume, show_entry, get_settings_in, get_settings, filled, got, look_answer, answer}
use Rattle.script.specs.Script.{list, journal_info, undo_to, mark_call, last_op, op_at, name_at, directory_at, serial_at, data_at, data_length, item_size, put_at, change_at, call_at, shows, which_at, get_at, show_at, item_call, item_ok, items_from, calls_from, answer_size, item_room, answers_size}
use Rattle.journal.specs.Kinds.{call, further}
use Rattle.script.specs.Walks.Scripts.{looks, fills, head_size, filled_at}
use Rattle.layout.proofs.Laws.Tests.{and_split, or_split, true-not-false, lt-or-ge}
use Rattle.layout.proofs.Laws.Bytes.{length_part}
use Rattle.journal.proofs.Laws.RecordWalk.{records-none, records-more, records-enough}

-- the length of the numbers of a look from op 16 on
pub head_small : (op r : ℕ) → r ≡ head_size op → r ≤ 64
head_small op r e = go (eqb op 16) (eqb op 17) e
  where
    go : (t u : Bool) → r ≡ cond t 32 (cond u 64 16) → r ≤ 64
    go true u q = omega arith
    go false true q = omega arith
    go false false q = omega arith

-- the ops that look, and those that fill a buffer
module _ (x : ℕ) where
  pub looks-split : looks x ≡ true → (x ≡ 13) ⊎ (x ≤ 4)
  looks-split h = ⊎_elim (λ a. inl (eqb-true x 13 a)) (λ b. inr (leb-true x 4 b)) (or_split (eqb x 13) (leb x 4) h)

  pub fills-split : fills x ≡ true → (x ≡ 13) ⊎ (x ≡ 3)
  fills-split h = ⊎_elim (λ a. inl (eqb-true x 13 a)) (λ b. inr (eqb-true x 3 b)) (or_split (eqb x 13) (eqb x 3) h)

  -- the looks from op 16 on
  pub shows-split : shows x ≡ true → (16 ≤ x) × (x < 24)
  shows-split h =
      let w = and_split (leb 16 x) (leb x 23) (and_split (not (eqb x 18 || eqb x 21)) (within 16 23 x) h).1 in
      let l : x ≤ 23 = leb-true x 23 w.1 in (leb-true 16 x w.0, omega arith)

  neither : (a b : Bool) → a || b ≡ false → (a ≡ false) × (b ≡ false)
  neither true b h = absurd (true-not-false refl h)
  neither false true h = absurd (true-not-false refl h)
  neither false false h = (refl, refl)

  pub not-looks : looks x ≡ false → (x ≡ 13 → ⊥) × (4 < x)
  not-looks h = let n = neither (eqb x 13) (leb x 4) h in (eqb-false x 13 n.0, leb-false x 4 n.1)

  pub not-fills : fills x ≡ false → (x ≡ 13 → ⊥) × (x ≡ 3 → ⊥)
  not-fills h = let n = neither (eqb x 13) (eqb x 3) h in (eqb-false x 13 n.0, eqb-false x 3 n.1)

module _ (s : List ℕ) (at : ℕ) where
  pub items-none : length s ≤ at → items_from s at ≡ []
  unfolding items_from
  items-none h = records-none (item_size s) (length s) at (length s - at) h

  pub items-step : at < length s → items_from s at ≡ at ∷ items_from s (at + item_size s at)
  unfolding items_from
  items-step h =
      records-more (item_size s) (length s) at (length s - at) h (omega arith)
      ∙ ap (λ (l : List ℕ). at ∷ l) (records-enough (item_size s) (length s) (λ a. omega arith) (length s - at - 1) (length s - (at + item_size s at)) (at + item_size s at) (omega arith) (omega arith))

  pub calls-none : length s ≤ at → calls_from s at ≡ []
  unfolding calls_from
  calls-none h = ap (λ (l : List ℕ). map (item_call s) l) (items-none h)

  pub calls-step : at < length s → calls_from s at ≡ item_call s at ∷ calls_from s (at + item_size s at)
  unfolding calls_from
  calls-step h = ap (λ (l : List ℕ). map (item_call s) l) (items-step h)

  -- an item of the form
  pub item-fits : item_ok s at ≡ true → (at + item_size s at ≤ length s) × (1 ≤ op_at s at) × (op_at s at ≤ last_op)
  unfolding item_ok
  item-fits t =
      let a = and_split (leb (at + item_size s at) (length s)) _ t in
      let b = and_split (leb 1 (op_at s at)) _ a.1 in
      (leb-true _ _ a.0, leb-true _ _ b.0, leb-true _ _ b.1)

  pub item-cut : length s < at + item_size s at → item_ok s at ≡ false
  unfolding item_ok
  item-cut h = rw (lt-leb _ _ h)

  pub item-low : at + item_size s at ≤ length s → op_at s at < 1 → item_ok s at ≡ false
  unfolding item_ok
  item-low h k = rw (le-leb _ _ h, lt-leb _ _ k)

  pub item-last : at + item_size s at ≤ length s → 1 ≤ op_at s at → item_ok s at ≡ leb (op_at s at) last_op
  unfolding item_ok
  item-last h k = rw (le-leb _ _ h, le-leb _ _ k)

  pub every-step : at < length s → item_ok s at ≡ true → every (item_ok s) (items_from s at) ≡ every (item_ok s) (items_from s (at + item_size s at))
  every-step h t = rw (items-step h, t)

  pub every-bad : at < length s → item_ok s at ≡ false → every (item_ok s) (items_from s at) ≡ false
  every-bad h f = rw (items-step h, f)

  pub every-end : length s ≤ at → every (item_ok s) (items_from s at) ≡ true
  every-end h = rw (items-none h)

  -- of a script of the form, the item that is next, and the rest
  pub record Next : Type 0 where
    pub fits : at + item_size s at ≤ length s
    pub low : 1 ≤ op_at s at
    pub rest : every (item_ok s) (items_from s (at + item_size s at)) ≡ true

  pub next : at < length s → every (item_ok s) (items_from s at) ≡ true → Next
  next h w =
      let a = and_split (item_ok s at) _ (rw (items-step h) at w) in
      let f = item-fits a.0 in
      record { fits = f.0; low = f.1; rest = a.1 }

  -- the call of each op
  pub is-check : op_at s at ≡ 1 → call_at s at ≡ look check_image
  unfolding call_at
  is-check e = rw e

  pub is-lookup : op_at s at ≡ 2 → call_at s at ≡ look (find_file (name_at s at))
  unfolding call_at
  is-lookup e = rw e

  pub is_read : op_at s at ≡ 3 → call_at s at ≡ look (read_file (name_at s at) (be64 s (at + 9)) (data_at s at))
  unfolding call_at
  is_read e = rw e

  pub is-look-in-place : op_at s at ≡ 4 → call_at s at ≡ look (look_at (name_at s at) (be64 s (at + 9)))
  unfolding call_at
  is-look-in-place e = rw e

  pub is-read-attributes : op_at s at ≡ 13 → call_at s at ≡ look (read_attributes_of (name_at s at) (data_at s at))
  unfolding call_at
  is-read-attributes e = rw e

  pub is-change : looks (op_at s at) ≡ false → (op_at s at ≡ 8 → ⊥) → call_at s at ≡ change (change_at s at)
  unfolding call_at
  is-change l ne =
      let h = not-looks (op_at s at) l in
      rw (
        ne_eqb (op_at s at) 1 (λ e. omega arith),
        ne_eqb (op_at s at) 2 (λ e. omega arith),
        ne_eqb (op_at s at) 3 (λ e. omega arith),
        ne_eqb (op_at s at) 4 (λ e. omega arith),
        ne_eqb (op_at s at) 13 h.0,
        ne_eqb (op_at s at) 8 ne,
      )

  pub is-put-in : op_at s at ≡ 21 → call_at s at ≡ change (put_at s at)
  unfolding call_at change_at
  is-put-in e = rw e

  pub is-undo : op_at s at ≡ 8 → call_at s at ≡ undo
  unfolding call_at
  is-undo e = rw e

  pub length-data : at + item_size s at ≤ length s → length (data_at s at) ≡ data_length s at
  unfolding data_at
  length-data h = length_part s (at + 33 + be32 s (at + 25)) (be32 s (at + 29)) (omega arith)

  -- the length of the answer
  either : (b : Bool) (x y : Call) (k : ℕ) → answer_size x ≡ k → answer_size y ≡ k → answer_size (cond b x y) ≡ k
  either true x y k f g = f
  either false x y k f g = g

  pub size-read : at + item_size s at ≤ length s → fills (op_at s at) ≡ true → answer_size (call_at s at) ≡ 16 + data_length s at
  unfolding answer_size
  size-read h f = ⊎_elim (λ e. rw (is-read-attributes e, length-data h)) (λ e. rw (is_read e, length-data h)) (fills-split (op_at s at) f)

  pub size-look-in-place : op_at s at ≡ 4 → answer_size (call_at s at) ≡ 528
  unfolding answer_size
  size-look-in-place e = rw (is-look-in-place e)

  pub size-plain : fills (op_at s at) ≡ false → eqb (op_at s at) 4 ≡ false → answer_size (call_at s at) ≡ 16
  unfolding answer_size call_at
  size-plain e f =
      let n = not-fills (op_at s at) e in
      rw (ne_eqb (op_at s at) 13 n.0, ne_eqb (op_at s at) 3 n.1, f)
      (either (eqb (op_at s at) 1) _ _ 16 refl
      (either (eqb (op_at s at) 2) _ _ 16 refl (either (eqb (op_at s at) 8) _ _ 16 refl refl)))

  pub size_low : fills (op_at s at) ≡ false → op_at s at ≤ 2 → answer_size (call_at s at) ≡ 16
  size_low f h = size-plain f (ne_eqb (op_at s at) 4 (λ e. omega arith))

  pub size-high : looks (op_at s at) ≡ false → answer_size (call_at s at) ≡ 16
  size-high l =
      let h = not-looks (op_at s at) l in
      size-plain (rw (ne_eqb (op_at s at) 13 h.0, ne_eqb (op_at s at) 3 (λ e. omega arith))) (ne_eqb (op_at s at) 4 (λ e. omega arith))

  -- the item that fills a buffer, and the one that looks and is none of the others
  pub read-answer : (p : State) → fills (op_at s at) ≡ true → answer p (call_at s at) ≡ filled (filled_at p.image s at)
  unfolding answer look_answer filled_at
  read-answer p f = ⊎_elim (λ e. rw (is-read-attributes e, e)) (λ e. rw (is_read e, e)) (fills-split (op_at s at) f)

  pub last-look : looks (op_at s at) ≡ true → fills (op_at s at) ≡ false → 1 ≤ op_at s at → (op_at s at ≡ 1 → ⊥) → (op_at s at ≡ 2 → ⊥) → op_at s at ≡ 4
  last-look l f low a b =
      let n = not-fills (op_at s at) f in
      ⊎_elim (λ e. absurd (n.0 e)) (λ h. omega arith) (looks-split (op_at s at) l)

  -- a list, or a call, and the room for its answer
  pub is-list : op_at s at ≡ 15 → item_call s at ≡ further (list, data_at s at)
  unfolding item_call
  is-list e = rw e

  pub is_call : (op_at s at ≡ 15 → ⊥) → op_at s at < 27 → shows (op_at s at) ≡ false → item_call s at ≡ call (call_at s at)
  unfolding item_call
  is_call n m h = rw (ne_eqb (op_at s at) 15 n, lt-leb 27 (op_at s at) m, h)

  -- journal info, and undo to a mark
  is-mark : 27 ≤ op_at s at → item_call s at ≡ mark_call s at
  unfolding item_call
  is-mark h = rw (ne_eqb (op_at s at) 15 (λ e. omega arith), le-leb 27 (op_at s at) h)

  pub is-info : op_at s at ≡ 27 → item_call s at ≡ further (journal_info, tt)
  unfolding mark_call
  is-info e = is-mark (omega arith) ∙ rw e

  pub is-undo-to : 27 ≤ op_at s at → (op_at s at ≡ 27 → ⊥) → item_call s at ≡ further (undo_to, be32 s (at + 13))
  unfolding mark_call
  is-undo-to h n = is-mark h ∙ rw (ne_eqb (op_at s at) 27 n)

  -- a look at the volume, at an entry or at settings
  pub is-show : shows (op_at s at) ≡ true → item_call s at ≡ call (look (show_at s at))
  unfolding item_call
  is-show h =
      let m = shows-split (op_at s at) h in
      rw (ne_eqb (op_at s at) 15 (λ e. omega (arith, m.0)), lt-leb 27 (op_at s at) (omega (arith, m.1)), h)

  pub shows-volume : op_at s at ≡ 16 → show_at s at ≡ show_volume (data_at s at)
  unfolding show_at
  shows-volume e = rw e

  pub shows-entry : op_at s at ≡ 17 → show_at s at ≡ show_entry (name_at s at) (be64 s (at + 9)) (data_at s at)
  unfolding show_at
  shows-entry e = rw e

  pub shows-settings : (op_at s at ≡ 16 → ⊥) → (op_at s at ≡ 17 → ⊥) → show_at s at ≡ get_at s at
  unfolding show_at
  shows-settings m n = rw (ne_eqb (op_at s at) 16 m, ne_eqb (op_at s at) 17 n)

  -- the revision that a get asks for; a get in a directory, and one in the root
  pub which-19 : op_at s at ≡ 19 → which_at s at ≡ the_number (be32 s (at + 13))
  unfolding which_at
  which-19 e = rw e

  pub which-22 : op_at s at ≡ 22 → which_at s at ≡ the_number (be32 s (at + 13))
  unfolding which_at
  which-22 e = rw e

  pub which-latest : (op_at s at ≡ 19 → ⊥) → (op_at s at ≡ 22 → ⊥) → which_at s at ≡ the_latest
  unfolding which_at
  which-latest m n = rw (ne_eqb (op_at s at) 19 m, ne_eqb (op_at s at) 22 n)

  pub get-placed : (image : List ℕ) → 22 ≤ op_at s at → look_answer image (get_at s at) ≡ got (get_in image (directory_at s at) (serial_at s at) (which_at s at) (data_at s at))
  unfolding look_answer get_at
  get-placed image h = rw (le-leb 22 (op_at s at) h)

  pub get-rooted : (image : List ℕ) → op_at s at < 22 → look_answer image (get_at s at) ≡ got (get image (name_at s at) (which_at s at) (data_at s at))
  unfolding look_answer get_at
  get-rooted image h = rw (lt-leb 22 (op_at s at) h)

  size-get : at + item_size s at ≤ length s → answer_size (look (get_at s at)) ≡ 16 + data_length s at
  unfolding answer_size get_at
  size-get h = go (leb 22 (op_at s at))
    where
      go : (t : Bool)
          → answer_size (look (cond t (get_settings_in (directory_at s at) (serial_at s at) (which_at s at) (data_at s at)) (get_settings (name_at s at) (which_at s at) (data_at s at))))
          ≡ 16 + data_length s at
      go true = ap (λ (x : ℕ). 16 + x) (length-data h)
      go false = ap (λ (x : ℕ). 16 + x) (length-data h)

  pub size-show : at + item_size s at ≤ length s → answer_size (look (show_at s at)) ≡ head_size (op_at s at) + data_length s at
  unfolding answer_size show_at
  size-show h = go (eqb (op_at s at) 16) (eqb (op_at s at) 17)
    where
      go : (t u : Bool)
          → answer_size (look (cond t (show_volume (data_at s at)) (cond u (show_entry (name_at s at) (be64 s (at + 9)) (data_at s at)) (get_at s at))))
          ≡ cond t 32 (cond u 64 16) + data_length s at
      go true u = ap (λ (x : ℕ). 32 + x) (length-data h)
      go false true = ap (λ (x : ℕ). 64 + x) (length-data h)
      go false false = size-get h

  pub room-is-show : shows (op_at s at) ≡ true → item_room (item_call s at) ≡ answer_size (look (show_at s at))
  unfolding item_room
  room-is-show g = rw (is-show g)

  pub room-show : at + item_size s at ≤ length s → shows (op_at s at) ≡ true → item_room (item_call s at) ≡ head_size (op_at s at) + data_length s at
  room-show h g = room-is-show g ∙ size-show h

  pub room-list : op_at s at ≡ 15 → item_room (item_call s at) ≡ 16
  unfolding item_room
  room-list e = rw (is-list e)

  pub room-mark : 27 ≤ op_at s at → item_room (item_call s at) ≡ 16
  unfolding item_room mark_call
  room-mark h = rw (is-mark h) (go (eqb (op_at s at) 27))
    where
      go : (b : Bool) → item_room (cond b (further (journal_info, tt)) (further (undo_to, be32 s (at + 13)))) ≡ 16
      go true = refl
      go false = refl

  pub room-call : (op_at s at ≡ 15 → ⊥) → op_at s at < 27 → shows (op_at s at) ≡ false → item_room (item_call s at) ≡ answer_size (call_at s at)
  unfolding item_room
  room-call n m h = rw (is_call n m h)

  pub room-read : at + item_size s at ≤ length s → fills (op_at s at) ≡ true → item_room (item_call s at) ≡ 16 + data_length s at
  room-read h f =
      room-call (λ e. ⊎_elim (λ a. omega arith) (λ b. omega arith) (fills-split (op_at s at) f)) (⊎_elim (λ a. omega arith) (λ b. omega arith) (fills-split (op_at s at) f))
      (⊎_elim (λ a. rw a) (λ b. rw b) (fills-split (op_at s at) f))
      ∙ size-read h f

  pub room-look-in-place : op_at s at ≡ 4 → item_room (item_call s at) ≡ 528
  room-look-in-place e = room-call (λ f. omega arith) (omega arith) (rw e) ∙ size-look-in-place e

  pub room-plain : shows (op_at s at) ≡ false → fills (op_at s at) ≡ false → eqb (op_at s at) 4 ≡ false → item_room (item_call s at) ≡ 16
  room-plain h f g = go (ℕ_discrete (op_at s at) 15) (lt-or-ge (op_at s at) 27)
    where
      go : Dec (op_at s at ≡ 15) → (op_at s at < 27) ⊎ (27 ≤ op_at s at) → item_room (item_call s at) ≡ 16
      go (yes e) m = room-list e
      go (no n) (inl m) = room-call n m h ∙ size-plain f g
      go (no n) (inr m) = room-mark m

  -- room for the answers from here on
  pub sizes_step : at < length s → answers_size (calls_from s at) ≡ item_room (item_call s at) + answers_size (calls_from s (at + item_size s at))
  unfolding answers_size
  sizes_step h = rw (calls-step h)

  pub sizes-none : length s ≤ at → answers_size (calls_from s at) ≡ 0
  unfolding answers_size
  sizes-none h = rw (calls-none h)

  pub room-short : (left : ℕ) → at < length s → left < item_room (item_call s at) → leb (answers_size (calls_from s at)) left ≡ false
  room-short left h k = lt-leb (answers_size (calls_from s at)) left (omega (arith, sizes_step h))

  pub room-step : (left : ℕ) → at < length s → item_room (item_call s at) ≤ left
      → leb (answers_size (calls_from s at)) left ≡ leb (answers_size (calls_from s (at + item_size s at))) (left - item_room (item_call s at))
  room-step left h k = go (leb later (left - item_room (item_call s at))) refl
    where
      later : ℕ
      later = answers_size (calls_from s (at + item_size s at))

      go : (b : Bool) → leb later (left - item_room (item_call s at)) ≡ b → leb (answers_size (calls_from s at)) left ≡ b
      go true e =
          let l : later ≤ left - item_room (item_call s at) = leb-true _ _ e in
          le-leb (answers_size (calls_from s at)) left (omega (arith, sizes_step h))
      go false e =
          let l : left - item_room (item_call s at) < later = leb-false _ _ e in
          lt-leb (answers_size (calls_from s at)) left (omega (arith, sizes_step h))

  pub room-none : (left : ℕ) → length s ≤ at → leb (answers_size (calls_from s at)) left ≡ true
  room-none left h = rw (sizes-none h) (le-leb 0 left (omega arith))
