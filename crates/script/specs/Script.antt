-- Scripts: a run's calls as bytes, and its answers as bytes. A script is a sequence of items that fill it exactly. An item is a header of 33 bytes,
-- then a name, then data. In the header, all numbers big-endian: op (1 byte), type (1), user (1), group (1), permissions (1), flags (4), offset (8),
-- time (8), length of the name (4), length of the data (4). Fields that an op does not use are not looked at.
use Rattle.std.specs.Prelude.{ℕ, ◌+◌, ◌-◌, ◌/◌, ◌%◌, ◌≤◌, min, ◌≡◌, List, [], ◌∷◌, ◌++◌, map, Bool, not, ◌&&◌, ◌||◌, cond, length, get_or, eqb, leb}
use Rattle.layout.specs.Lists.{within, every, joined}
use Rattle.layout.specs.Bytes.{be32, be64, bytes4, zeros, part, splice}
use Rattle.layout.specs.Check.{check}
use Rattle.layout.specs.Looks.{VolumeAnswer, EntryAnswer}
use Rattle.store.specs.Change.{Change, create, write, delete, create_directory, delete_directory, set_attributes, clear_attributes, clear_flags, shorten, replace, move, put_in, put}
use Rattle.store.specs.Get.{Which, the_latest, the_number}
use Rattle.journal.specs.Journal.{records_from, started, start_refusal}
use Rattle.journal.specs.Run.{Look, check_image, find_file, read_file, look_at, read_attributes_of, get_settings_in, get_settings, show_volume, show_entry, Call, change, undo, look, Answer, changed, undone, checked, found, filled, shown, got, described, entered, State, state}
use Rattle.journal.specs.Replay.{replayed}
use Rattle.journal.specs.Kinds.{Kind, KindCall, call, further, KindAnswer, answered, replied, one_of, run_of, answers_of, standing_of, replay_answers_of}
use Rattle.write_list.specs.Runs.{lists}
use Rattle.back.specs.Runs.{infos, backs}

-- Of the item at an offset: its op, its name, its data and its length.
abbrev pub op_at : List ℕ → ℕ → ℕ
op_at s at = get_or s at 0

abbrev pub name_length : List ℕ → ℕ → ℕ
name_length s at = be32 s (at + 25)

abbrev pub data_length : List ℕ → ℕ → ℕ
data_length s at = be32 s (at + 29)

unfoldable pub name_at : List ℕ → ℕ → List ℕ
name_at s at = part s (at + 33) (name_length s at)

unfoldable pub data_at : List ℕ → ℕ → List ℕ
data_at s at = part s (at + 33 + name_length s at) (data_length s at)

-- A directory and a serial number are one name: the flags tell how many of its first bytes are the directory; all of them, if it has no more.
abbrev pub directory_length : List ℕ → ℕ → ℕ
directory_length s at = min (be32 s (at + 5)) (name_length s at)

unfoldable pub directory_at : List ℕ → ℕ → List ℕ
directory_at s at = part s (at + 33) (directory_length s at)

unfoldable pub serial_at : List ℕ → ℕ → List ℕ
serial_at s at = part s (at + 33 + directory_length s at) (name_length s at - directory_length s at)

abbrev pub item_size : List ℕ → ℕ → ℕ
item_size s at = 33 + name_length s at + data_length s at

-- the whole item stands in the script
abbrev pub Fits : List ℕ → ℕ → Type 0
Fits s at = at + item_size s at ≤ length s

-- Ops: 1 check, 2 look up, 3 read (the data is its buffer as it is before the call), 4 look in place (the offset is its index), 5 create, 6 write,
-- 7 delete, 8 undo, 9 create directory (its number of blocks is in the last four bytes of the offset), 10 delete directory, 11 set attributes,
-- 12 clear attributes, 13 read attributes (the data is its buffer, as for read), 14 clear flags, 15 write list (the data is the list), 16 the volume's
-- numbers, 17 an entry of the directory of the name (the offset is the slot to begin with), 18 put settings (the name is the serial number, the data the
-- settings), 19 get settings (the revision is in the last four bytes of the offset), 20 get latest settings; 21, 22 and 23 are 18, 19 and 20 in a directory
-- (the name is the directory and the serial number); 24 shorten (the offset is the size), 25 replace, 26 move (the data is the new path); 27 journal info;
-- 28 undo to a mark (the mark is in the last four bytes of the offset). In 16, 17, 19, 20, 22 and 23 the data is the buffer.
abbrev pub last_op : ℕ
last_op = 28

-- a put in a directory
unfoldable pub put_at : List ℕ → ℕ → Change
put_at s at = put_in (directory_at s at) (serial_at s at) (be64 s (at + 17)) (data_at s at)

-- shorten, replace and move; else delete
unfoldable pub renew_at : List ℕ → ℕ → Change
renew_at s at =
    let name = name_at s at in
    let time = be64 s (at + 17) in
    cond (eqb (op_at s at) 24) (shorten name (be64 s (at + 9)) time)
    (cond (eqb (op_at s at) 25) (replace name (data_at s at) time)
    (cond (eqb (op_at s at) 26) (move name (data_at s at)) (delete name)))

unfoldable pub change_at : List ℕ → ℕ → Change
change_at s at =
    let name = name_at s at in
    let time = be64 s (at + 17) in
    let type = get_or s (at + 1) 0 in
    let user = get_or s (at + 2) 0 in
    let group = get_or s (at + 3) 0 in
    let permissions = get_or s (at + 4) 0 in
    let flags = be32 s (at + 5) in
    cond (eqb (op_at s at) 5) (create name type user group permissions flags time)
    (cond (eqb (op_at s at) 6) (write name (be64 s (at + 9)) (data_at s at) time)
    (cond (eqb (op_at s at) 9) (create_directory name type user group permissions flags time (be32 s (at + 13)))
    (cond (eqb (op_at s at) 10) (delete_directory name)
    (cond (eqb (op_at s at) 11) (set_attributes name (data_at s at))
    (cond (eqb (op_at s at) 12) (clear_attributes name)
    (cond (eqb (op_at s at) 14) (clear_flags name)
    (cond (eqb (op_at s at) 18) (put name time (data_at s at))
    (cond (eqb (op_at s at) 21) (put_at s at) (renew_at s at)))))))))

unfoldable pub call_at : List ℕ → ℕ → Call
call_at s at =
    let name = name_at s at in
    let offset = be64 s (at + 9) in
    cond (eqb (op_at s at) 1) (look check_image)
    (cond (eqb (op_at s at) 2) (look (find_file name))
    (cond (eqb (op_at s at) 3) (look (read_file name offset (data_at s at)))
    (cond (eqb (op_at s at) 4) (look (look_at name offset))
    (cond (eqb (op_at s at) 13) (look (read_attributes_of name (data_at s at)))
    (cond (eqb (op_at s at) 8) undo (change (change_at s at)))))))

-- the looks from op 16 on: all to 23 but the two puts
abbrev pub shows : ℕ → Bool
shows op = not (eqb op 18 || eqb op 21) && within 16 23 op

-- the gets: 19 and 22 of a revision, 20 and 23 of the latest; 19 and 20 in the root, 22 and 23 in a directory
unfoldable pub which_at : List ℕ → ℕ → Which
which_at s at = cond (eqb (op_at s at) 19 || eqb (op_at s at) 22) (the_number (be32 s (at + 13))) the_latest

unfoldable pub get_at : List ℕ → ℕ → Look
get_at s at =
    cond (leb 22 (op_at s at)) (get_settings_in (directory_at s at) (serial_at s at) (which_at s at) (data_at s at)) (get_settings (name_at s at) (which_at s at) (data_at s at))

unfoldable pub show_at : List ℕ → ℕ → Look
show_at s at =
    cond (eqb (op_at s at) 16) (show_volume (data_at s at))
    (cond (eqb (op_at s at) 17) (show_entry (name_at s at) (be64 s (at + 9)) (data_at s at)) (get_at s at))

-- The further calls of a script: a list of writes, an info of the journal, an undo to a mark.
pub data ItemKind : Type 0 where
  list : ItemKind
  journal_info : ItemKind
  undo_to : ItemKind

abbrev pub item_kind_of : ItemKind → Kind
item_kind_of list = lists
item_kind_of journal_info = infos
item_kind_of undo_to = backs

abbrev pub item_kinds : Kind
item_kinds = one_of item_kind_of

-- the calls from op 27 on
unfoldable pub mark_call : List ℕ → ℕ → KindCall item_kinds
mark_call s at = cond (eqb (op_at s at) 27) (further (journal_info, tt)) (further (undo_to, be32 s (at + 13)))

unfoldable pub item_call : List ℕ → ℕ → KindCall item_kinds
item_call s at =
    cond (eqb (op_at s at) 15) (further (list, data_at s at))
    (cond (leb 27 (op_at s at)) (mark_call s at)
    (cond (shows (op_at s at)) (call (look (show_at s at))) (call (call_at s at))))

-- an item that is not cut off, with a known op
unfoldable pub item_ok : List ℕ → ℕ → Bool
item_ok s at = leb (at + item_size s at) (length s) && within 1 last_op (op_at s at)

-- the offsets of the items from `at` on, each where the one before it ends; the calls of a script
unfoldable pub items_from : List ℕ → ℕ → List ℕ
items_from s at = records_from (item_size s) (length s) at (length s - at)

unfoldable pub calls_from : List ℕ → ℕ → List (KindCall item_kinds)
calls_from s at = map (item_call s) (items_from s at)

abbrev pub calls_of : List ℕ → List (KindCall item_kinds)
calls_of s = calls_from s 0

-- An answer as bytes: four numbers of 32 bits, of the volume's numbers eight, of an entry sixteen, its times as two each, the high one first; then, for
-- the calls with a buffer, the buffer after the call, and for look in place 512 bytes, the part and zeros after it.
unfoldable pub numbers : ℕ → ℕ → ℕ → ℕ → List ℕ
numbers a b c d = bytes4 a ++ (bytes4 b ++ (bytes4 c ++ bytes4 d))

unfoldable pub volume_head : VolumeAnswer → List ℕ
volume_head a = numbers a.number a.blocks a.used a.free ++ numbers a.root_blocks 0 0 0

unfoldable pub entry_head : EntryAnswer → List ℕ
entry_head a =
    numbers a.number a.slot a.size a.blocks ++ (numbers a.first a.attribute_block a.attribute_size a.flags
    ++ (numbers (a.created / 0x100000000) (a.created % 0x100000000) (a.modified / 0x100000000) (a.modified % 0x100000000)
    ++ numbers a.type a.user a.group a.permissions))

unfoldable pub encoded : Answer → List ℕ
encoded (changed number slot size) = numbers number slot size 0
encoded (undone number size) = numbers number 0 size 0
encoded (checked number) = numbers number 0 0 0
encoded (found a) = numbers a.number a.slot a.size a.blocks
encoded (filled a) = numbers a.number a.count 0 0 ++ a.buffer
encoded (shown x bytes) = numbers x.start x.size 0 0 ++ (bytes ++ zeros (512 - length bytes))
encoded (got a) = numbers a.number a.revision a.size 0 ++ a.buffer
encoded (described a) = volume_head a ++ a.buffer
encoded (entered a) = entry_head a ++ a.buffer

unfoldable pub encoded_reply : (i : ItemKind) → (item_kind_of i).Reply → List ℕ
encoded_reply list r = numbers r.number r.done 0 0
encoded_reply journal_info r = numbers r.number r.used r.records r.last
encoded_reply undo_to r = numbers r.number r.done 0 0

unfoldable pub encoded_item : KindAnswer item_kinds → List ℕ
encoded_item (answered a) = encoded a
encoded_item (replied r) = encoded_reply r.0 r.1

-- the length of the answer to a call, on every image and journal; of all answers to a script
unfoldable pub answer_size : Call → ℕ
answer_size (change c) = 16
answer_size undo = 16
answer_size (look check_image) = 16
answer_size (look (find_file name)) = 16
answer_size (look (read_file name offset buffer)) = 16 + length buffer
answer_size (look (look_at name i)) = 16 + 512
answer_size (look (read_attributes_of name buffer)) = 16 + length buffer
answer_size (look (get_settings_in directory serial which buffer)) = 16 + length buffer
answer_size (look (show_volume buffer)) = 32 + length buffer
answer_size (look (show_entry name start buffer)) = 64 + length buffer

unfoldable pub item_room : KindCall item_kinds → ℕ
item_room (call c) = answer_size c
item_room (further c) = 16

unfoldable pub answers_size : List (KindCall item_kinds) → ℕ
answers_size [] = 0
answers_size (c ∷ cs) = item_room c + answers_size cs

-- A script is run, or it is not of this form, or the room for the answers is too short.
pub data Status : Type 0 where
  done : Status
  malformed : Status
  no_room : Status

-- What running a script leaves: its status, image and journal, and the bytes of `out`. A script that is not run changes nothing at all.
pub record Outcome : Type 0 where
  pub status : Status
  pub state : State
  pub out : List ℕ

abbrev pub leaves : Status → List ℕ → List ℕ → List ℕ → Outcome
leaves status image journal out = record { status = status; state = state image journal; out = out }

unfoldable pub given : State → List ℕ → List ℕ → State → List (KindAnswer item_kinds) → Outcome
given p script out last replies =
    let made : Outcome = record { status = done; state = last; out = splice out 0 (joined encoded_item replies) } in
    let fitting = cond (leb (answers_size (calls_of script)) (length out)) made (record { status = no_room; state = p; out = out }) in
    cond (every (item_ok script) (items_from script 0)) fitting (record { status = malformed; state = p; out = out })

-- by the rules, call by call; and by the replay of the changes that stand, from a sound image and a journal just started
unfoldable pub outcome : State → List ℕ → List ℕ → Outcome
outcome p script out = given p script out (run_of p (calls_of script)) (answers_of p (calls_of script))

unfoldable pub replay_outcome : State → List ℕ → List ℕ → Outcome
replay_outcome start script out =
    given start script out (replayed start (standing_of start [] (calls_of script))) (replay_answers_of start [] (calls_of script))

pub record JustStarted (image journal : List ℕ) : Type 0 where
  pub sound : check image ≡ 0
  pub sized : start_refusal journal ≡ 0
  pub just : journal ≡ started (length journal)
