-- Answers as bytes: their lengths, and what the code writes piece by piece.
use Rattle.std.specs.Prelude.{Result, Ok, Err}
use Prim.Native.Nat.{ℕ, ◌+◌, ◌-◌, ◌≤◌, ◌<◌}
use mathlib.Core.Path.{◌≡◌, refl, sym, ap, ◌∙◌}
use mathlib.Core.List.{List, [], ◌++◌, append_assoc}
use mathlib.Core.Bool.{Bool, true, false, cond}
use lib.Dec.{eqb}
use native.Mathlib.Omega.{arith}
use borrow.Rule.Slice.PartMut.{put_mid}
use lib.ListN.{length, replicate, length-append, length-replicate}
use Rattle.layout.specs.Bytes.{be64, bytes4, zeros, part, splice}
use Rattle.layout.specs.declared.refusal.Refusal.{Refusal}
use Rattle.layout.specs.Looks.{ReadAnswer, Extent, VolumeAnswer, EntryAnswer, read, extent_of, look_in_place, read_attributes, volume_info, next_entry}
use Rattle.store.specs.Get.{GetAnswer, got_answer, get_in}
use Rattle.journal.specs.Run.{Call, Answer, State, change, undo, look, check_image, find_file, read_file, look_at, read_attributes_of, show_volume, show_entry, get_settings_in, filled, shown, got, described, entered, look_answer, answer, change_answer, change_refusal, undo_answer, undo_refusal}
use Rattle.script.specs.Script.{ItemKind, list, journal_info, undo_to, item_kind_of, item_kinds, encoded_reply, op_at, name_at, data_at, numbers, volume_head, entry_head, encoded, encoded_item, answer_size, item_room}
use Rattle.journal.specs.Kinds.{KindCall, call, further, answer_of}
use Rattle.script.specs.Walks.Scripts.{filled_at}
use Rattle.layout.specs.Answers.{read_answer, volume_answer, entry_answer}
use Rattle.layout.specs.declared.overview.VolumeInfo.{VolumeInfo}
use Rattle.layout.specs.declared.overview.EntryInfo.{EntryInfo}
use Rattle.layout.proofs.Laws.Bytes.{length-zeros, lent, put_mid-splice, splice-append, splice-whole, splice-two, splice-three, splice-back}
use Rattle.layout.proofs.Laws.Tests.{accept-either}
use Rattle.store.proofs.Laws.Gets.{get-length}
use Rattle.layout.proofs.Laws.Looks.{read_count, read_length, attributes-count, attributes-length, extent-small, length-look, look-short, volume-length, entry_length}

pub length-numbers : (a b c d : ℕ) → length (numbers a b c d) ≡ 16
unfolding numbers bytes4
length-numbers a b c d = refl

-- four numbers, written one after the other
pub numbers-put : (s : List ℕ) (a b c d : ℕ) → 16 ≤ length s
    → splice (splice (splice (splice s 0 (bytes4 a)) 4 (bytes4 b)) 8 (bytes4 c)) 12 (bytes4 d) ≡ splice s 0 (numbers a b c d)
unfolding numbers bytes4
numbers-put s a b c d h =
    ap (λ (x : List ℕ). splice (splice x 8 (bytes4 c)) 12 (bytes4 d)) (splice-append s 0 (bytes4 a) (bytes4 b) (omega arith))
    ∙ ap (λ (x : List ℕ). splice x 12 (bytes4 d)) (splice-append s 0 (bytes4 a ++ bytes4 b) (bytes4 c) (omega arith))
    ∙ splice-append s 0 (bytes4 a ++ (bytes4 b ++ bytes4 c)) (bytes4 d) (omega arith)

-- an answer of numbers alone
pub numbers-alone : (s : List ℕ) (a b c d : ℕ) → length s ≡ 16 → splice s 0 (numbers a b c d) ≡ numbers a b c d
numbers-alone s a b c d h = splice-whole s (numbers a b c d) (length-numbers a b c d ∙ sym h)

-- the numbers of the volume and of an entry
pub length-volume_head : (a : VolumeAnswer) → length (volume_head a) ≡ 32
unfolding volume_head numbers bytes4
length-volume_head a = refl

pub length-entry_head : (a : EntryAnswer) → length (entry_head a) ≡ 64
unfolding entry_head numbers bytes4
length-entry_head a = refl

-- an answer's length is that of its call, whatever the state
pub answer-length : (p : State) (c : Call) → length (encoded (answer p c)) ≡ answer_size c
unfolding answer answer_size encoded change_answer undo_answer look_answer
answer-length p (change c) = accept-either (λ (a : Answer). length (encoded a) ≡ 16) (change_refusal p c) _ _ (length-numbers _ _ _ _) (length-numbers _ _ _ _)
answer-length p undo = accept-either (λ (a : Answer). length (encoded a) ≡ 16) (undo_refusal p) _ _ (length-numbers _ _ _ _) (length-numbers _ _ _ _)
answer-length p (look check_image) = length-numbers _ _ _ _
answer-length p (look (find_file name)) = length-numbers _ _ _ _
answer-length p (look (read_file name offset buffer)) =
    let r : ReadAnswer = read p.image name offset buffer in
    length-append (numbers r.number r.count 0 0) r.buffer ∙ rw (length-numbers, read_length p.image name offset buffer)
answer-length p (look (read_attributes_of name buffer)) =
    let r : ReadAnswer = read_attributes p.image name buffer in
    length-append (numbers r.number r.count 0 0) r.buffer ∙ rw (length-numbers, attributes-length p.image name buffer)
answer-length p (look (get_settings_in directory serial which buffer)) =
    let g : GetAnswer = get_in p.image directory serial which buffer in
    length-append (numbers g.number g.revision g.size 0) g.buffer ∙ rw (length-numbers, get-length p.image directory serial which buffer)
answer-length p (look (look_at name i)) =
    let b : List ℕ = look_in_place p.image name i in
    let h : length b ≤ 512 = look-short p.image name i in
    let x : Extent = extent_of p.image name i in
    length-append (numbers x.start x.size 0 0) (b ++ zeros (512 - length b)) ∙ rw (length-numbers, length-append, length-zeros) (omega arith)
answer-length p (look (show_volume buffer)) =
    let a : VolumeAnswer = volume_info p.image buffer in
    length-append (volume_head a) a.buffer ∙ rw (length-volume_head, volume-length p.image buffer)
answer-length p (look (show_entry name start buffer)) =
    let a : EntryAnswer = next_entry p.image name start buffer in
    length-append (entry_head a) a.buffer ∙ rw (length-entry_head, entry_length p.image buffer name start)

reply-length : (i : ItemKind) (r : (item_kind_of i).Reply) → length (encoded_reply i r) ≡ 16
unfolding encoded_reply
reply-length list r = length-numbers _ _ _ _
reply-length journal_info r = length-numbers _ _ _ _
reply-length undo_to r = length-numbers _ _ _ _

pub item-length : (p : State) (c : KindCall item_kinds) → length (encoded_item (answer_of p c)) ≡ item_room c
unfolding encoded_item answer_of item_room
item-length p (call c) = answer-length p c
item-length p (further c) = reply-length c.0 ((item_kind_of c.0).reply p c.1)

-- the answers of read and look in place, as the code writes them
pub read-encoded : (s buffer : List ℕ) (a : ReadAnswer) → length s ≡ 16 + length buffer → a.buffer ≡ buffer
    → splice (splice s 16 buffer) 0 (numbers a.number a.count 0 0) ≡ encoded (filled a)
unfolding encoded
read-encoded s buffer a h e = splice-back s (numbers a.number a.count 0 0) buffer 16 h (length-numbers a.number a.count 0 0) ∙ rw e

pub shown-encoded : (s bytes : List ℕ) (start : ℕ) → length s ≡ 528 → length bytes ≤ 512
    → splice (splice (splice s 0 (numbers start (length bytes) 0 0)) 16 bytes) (16 + length bytes) (zeros (512 - length bytes))
    ≡ encoded (shown (record { start = start; size = length bytes }) bytes)
unfolding encoded
shown-encoded s bytes start h k =
    let l = length-numbers start (length bytes) 0 0 in
    let z = length-zeros (512 - length bytes) in
    splice-three s (numbers start (length bytes) 0 0) bytes (zeros (512 - length bytes)) 16 (16 + length bytes) (omega arith) (omega arith) (omega arith)

-- number and count of a read do not depend on the buffer
module _ (f : Result ℕ Refusal) (b : List ℕ) where
  pub number-alone : (read_answer f []).number ≡ (read_answer f b).number
  number-alone = elim f as (λ k. (read_answer k []).number ≡ (read_answer k b).number) [ Ok count ↦ refl | Err why ↦ refl ]

  pub count-alone : (read_answer f []).count ≡ (read_answer f b).count
  count-alone = elim f as (λ k. (read_answer k []).count ≡ (read_answer k b).count) [ Ok count ↦ refl | Err why ↦ refl ]

  pub buffer-alone : (read_answer f b).buffer ≡ b
  buffer-alone = elim f as (λ k. (read_answer k b).buffer ≡ b) [ Ok count ↦ refl | Err why ↦ refl ]

-- what read_into left in the part, and the numbers before it
pub read-answered : (s b : List ℕ) (a : ReadAnswer) (f : Result ℕ Refusal) → read_answer f b ≡ a → length s ≡ 16 + length a.buffer
    → splice (splice s 16 b) 0 (numbers (read_answer f []).number (read_answer f []).count 0 0) ≡ encoded (filled a)
read-answered s b a f e h =
    let l : length b ≡ length a.buffer = ap length (sym (buffer-alone f b)) ∙ ap (λ (x : ReadAnswer). length x.buffer) e in
    rw (number-alone f b, count-alone f b) (read-encoded s b (read_answer f b) (omega arith) (buffer-alone f b)) ∙ ap (λ (x : ReadAnswer). encoded (filled x)) e

-- an item's buffer keeps its length, and no more is filled
module _ (image s : List ℕ) (at : ℕ) where
  pub filled-length : length (filled_at image s at).buffer ≡ length (data_at s at)
  unfolding filled_at
  filled-length = go (eqb (op_at s at) 13)
    where
      go : (t : Bool) → length (cond t (read_attributes image (name_at s at) (data_at s at)) (read image (name_at s at) (be64 s (at + 9)) (data_at s at))).buffer ≡ length (data_at s at)
      go true = attributes-length image (name_at s at) (data_at s at)
      go false = read_length image (name_at s at) (be64 s (at + 9)) (data_at s at)

  filled-count : (filled_at image s at).count ≤ length (data_at s at)
  unfolding filled_at
  filled-count = go (eqb (op_at s at) 13)
    where
      go : (t : Bool) → (cond t (read_attributes image (name_at s at) (data_at s at)) (read image (name_at s at) (be64 s (at + 9)) (data_at s at))).count ≤ length (data_at s at)
      go true = attributes-count image (name_at s at) (data_at s at)
      go false = read_count image (name_at s at) (be64 s (at + 9)) (data_at s at)

  pub read_small : (b : List ℕ) (f : Result ℕ Refusal) → read_answer f b ≡ filled_at image s at → (read_answer f []).count ≤ length (data_at s at)
  read_small b f e = omega (arith, count-alone f b, ap (λ (a : ReadAnswer). a.count) e, filled-count)

zeros-are : (k : ℕ) → replicate k 0 ≡ zeros k
unfolding zeros
zeros-are k = refl

-- the parts that calls left: of look in place, and of read
pub shown-written : (s t bytes x y : List ℕ) (start : ℕ) → length s ≡ 528 → length bytes ≤ 512 → t ≡ splice s 0 (numbers start (length bytes) 0 0) → x ≡ bytes
    → y ≡ replicate (length (part (put_mid 16 (16 + length bytes - 16) t x) (16 + length bytes) (528 - (16 + length bytes)))) 0
    → length y ≡ 528 - (16 + length bytes)
    → put_mid (16 + length bytes) (528 - (16 + length bytes)) (put_mid 16 (16 + length bytes - 16) t x) y
    ≡ encoded (shown (record { start = start; size = length bytes }) bytes)
shown-written s t bytes x y start h g d e f l =
    let z : y ≡ zeros (length y) = whole y (length (part (put_mid 16 (16 + length bytes - 16) t x) (16 + length bytes) (528 - (16 + length bytes)))) f in
    let m : length y ≡ 512 - length bytes = omega arith in
    put_mid-splice (put_mid 16 (16 + length bytes - 16) t x) (16 + length bytes) (528 - (16 + length bytes)) y l
    ∙ ap (λ (r : List ℕ). splice r (16 + length bytes) y) (put_mid-splice t 16 (16 + length bytes - 16) x (ap length e ∙ omega arith))
    ∙ rw (z, m, d, e) (shown-encoded s bytes start h g)
  where
    whole : (y : List ℕ) (k : ℕ) → y ≡ replicate k 0 → y ≡ zeros (length y)
    whole y k f = f ∙ zeros-are k ∙ ap zeros (sym (ap length f ∙ length-replicate {A = ℕ} k 0))

pub read-written : (s b t : List ℕ) (a : ReadAnswer) (size : ℕ) (f : Result ℕ Refusal) (n₁ n₂ n₃ n₄ : ℕ) → read_answer f b ≡ a
    → length a.buffer ≡ size → length s ≡ 16 + size → length b ≡ 16 + size - 16
    → (n₁ ≡ (read_answer f []).number) × (n₂ ≡ (read_answer f []).count) × (n₃ ≡ 0) × (n₄ ≡ 0)
    → t ≡ splice (put_mid 16 (16 + size - 16) s b) 0 (numbers n₁ n₂ n₃ n₄) → t ≡ encoded (filled a)
read-written s b t a size f n₁ n₂ n₃ n₄ e l h k n d =
    d ∙ rw (n.0, n.1, n.2, n.3) (rw (put_mid-splice s 16 (16 + size - 16) b k) (read-answered s b a f e (h ∙ omega arith)))

-- look in place by its numbers: the part that begins there
module _ (s name : List ℕ) (i start size : ℕ) (starts : start ≡ (extent_of s name i).start) (sizes : size ≡ (extent_of s name i).size) where
  shown-part : part s start (start + size - start) ≡ look_in_place s name i
  unfolding look_in_place
  shown-part = let e : start + size - start ≡ size = omega arith in rw (e, starts, sizes)

  pub shown-short : length (part s start (start + size - start)) ≤ 512
  shown-short = rw shown-part (look-short s name i)

  pub shown-small : start < 0x100000000
  shown-small = omega (arith, starts, extent-small s name i)

  pub shown-answer : shown (record { start = start; size = length (part s start (start + size - start)) }) (part s start (start + size - start))
      ≡ look_answer s (look_at name i)
  unfolding look_answer
  shown-answer = rw (shown-part, length-look s name i, starts)

-- numbers in groups of four, one after the other
pub two-groups : (s a b : List ℕ) → length s ≡ 32 → length a ≡ 16 → length b ≡ 16 → splice (splice s 0 a) 16 b ≡ a ++ b
two-groups s a b h ea eb = splice-two s a b 16 (omega arith) (omega arith)

pub four-groups : (s a b c d : List ℕ) → length s ≡ 64 → length a ≡ 16 → length b ≡ 16 → length c ≡ 16 → length d ≡ 16
    → splice (splice (splice (splice s 0 a) 16 b) 32 c) 48 d ≡ a ++ (b ++ (c ++ d))
four-groups s a b c d h ea eb ec ed =
    let x : 0 + length a ≡ 16 = omega arith in
    let y : 0 + length (a ++ b) ≡ 32 = rw (length-append, ea, eb) in
    let z : length ((a ++ b) ++ c) ≡ 48 = rw (length-append, length-append, ea, eb, ec) in
    ap (λ (t : List ℕ). splice (splice t 32 c) 48 d) (rw x at (splice-append s 0 a b (omega arith)))
    ∙ ap (λ (t : List ℕ). splice t 48 d) (rw y at (splice-append s 0 (a ++ b) c (omega arith)))
    ∙ splice-two s ((a ++ b) ++ c) d 48 (omega arith) (sym z) ∙ rw (append_assoc, append_assoc)

-- the numbers before the buffer that a look has left
headed : (s b ys h : List ℕ) (k m : ℕ) → length s ≡ m + length b → length b ≡ k → length h ≡ m → ys ≡ h → put_mid 0 m (put_mid m k s b) ys ≡ h ++ b
headed s b ys h k m l lb lh e =
    lent (put_mid m k s b) 0 m ys h e lh ∙ ap (λ (x : List ℕ). splice x 0 h) (put_mid-splice s m k b lb) ∙ splice-back s h b m l lh

pub described-written : (s b ys : List ℕ) (k : ℕ) (v : VolumeInfo) (a : VolumeAnswer) → volume_answer v b ≡ a → length s ≡ 32 + length b → length b ≡ k
    → ys ≡ volume_head (volume_answer v []) → put_mid 0 32 (put_mid 32 k s b) ys ≡ encoded (described a)
unfolding encoded volume_head
described-written s b ys k v a e l lb w =
    headed s b ys (volume_head (volume_answer v [])) k 32 l lb (length-volume_head (volume_answer v [])) w ∙ ap (λ (x : VolumeAnswer). encoded (described x)) e

pub entered-written : (s b ys : List ℕ) (k : ℕ) (v : EntryInfo) (a : EntryAnswer) → entry_answer v b ≡ a → length s ≡ 64 + length b → length b ≡ k
    → ys ≡ entry_head (entry_answer v []) → put_mid 0 64 (put_mid 64 k s b) ys ≡ encoded (entered a)
unfolding encoded entry_head
entered-written s b ys k v a e l lb w =
    headed s b ys (entry_head (entry_answer v [])) k 64 l lb (length-entry_head (entry_answer v [])) w ∙ ap (λ (x : EntryAnswer). encoded (entered x)) e

pub got-written : (s b : List ℕ) (k number revision size : ℕ) (a : Answer) → got (got_answer number revision size b) ≡ a → length s ≡ 16 + length b → length b ≡ k
    → splice (put_mid 16 k s b) 0 (numbers number revision size 0) ≡ encoded a
unfolding encoded
got-written s b k number revision size a e l lb =
    ap (λ (x : List ℕ). splice x 0 (numbers number revision size 0)) (put_mid-splice s 16 k b lb)
    ∙ splice-back s (numbers number revision size 0) b 16 l (length-numbers number revision size 0) ∙ ap encoded e
