-- The model computes: 10 free blocks, `/A` made and 513 bytes written to it; then moved to `/B`.
use Prim.Native.Nat.{ℕ}
use mathlib.Core.Path.{◌≡◌, refl}
use mathlib.Core.Bool.{true}
use mathlib.Core.List.{List, [], ◌∷◌}
use lib.ListN.{replicate}
use Rattle.layout.specs.Bytes.{splice}
use Rattle.layout.specs.Directory.{good_name}
use Rattle.layout.specs.Paths.{cut, parts, path_ok, shallow}
use Rattle.volume.specs.Change.{create, write, delete, create_directory, move}
use Rattle.volume.specs.Views.{subject as path-of, further as path-further}
use Rattle.store.specs.Change.{plain, subject, further}
use Rattle.model.specs.Model.{Model, empty, set_at, becomes, step}
use Rattle.model.specs.Looks.{no_file, read_in}
use Rattle.model.specs.Refusals.{in_folder, new_number, room_number, refusal_in}

abbrev a : List ℕ
a = 47 ∷ 65 ∷ []

abbrev b : List ℕ
b = 47 ∷ 66 ∷ []

abbrev inside : List ℕ
inside = 47 ∷ 66 ∷ 47 ∷ 67 ∷ []

abbrev m : Model
m = step (step (empty 1 10) (plain (create a 0x60 1 2 3 0 7))) (plain (write a 0 (replicate 513 9) 8))

two_blocks : m.free ≡ 8
unfolding step set_at becomes subject path-of further path-further splice
two_blocks = refl

last_byte : read_in m a 512 (0 ∷ 0 ∷ []) ≡ record { number = 0; count = 1; buffer = 9 ∷ 0 ∷ [] }
unfolding step set_at becomes subject path-of further path-further splice read_in no_file parts cut path_ok shallow good_name
last_byte = refl

taken : refusal_in true true m (plain (create a 0x60 0 0 0 0 9)) ≡ 11
unfolding step set_at becomes subject path-of further path-further splice refusal_in new_number in_folder parts cut path_ok shallow good_name
taken = refl

no-parent : refusal_in true true m (plain (create inside 0x60 0 0 0 0 9)) ≡ 10
unfolding step set_at becomes subject path-of further path-further splice refusal_in new_number in_folder parts cut path_ok shallow good_name
no-parent = refl

beyond : refusal_in true true m (plain (write a 514 [] 9)) ≡ 12
unfolding step set_at becomes subject path-of further path-further splice refusal_in no_file parts cut path_ok shallow good_name
beyond = refl

no-room : refusal_in true true m (plain (create_directory (47 ∷ 66 ∷ []) 0x20 0 0 0 0 9 9)) ≡ 14
unfolding step set_at becomes subject path-of further path-further splice refusal_in room_number new_number in_folder parts cut path_ok shallow good_name
no-room = refl

abbrev n : Model
n = step m (plain (move a b))

moved-there : read_in n b 512 (0 ∷ 0 ∷ []) ≡ record { number = 0; count = 1; buffer = 9 ∷ 0 ∷ [] }
unfolding step set_at becomes subject path-of further path-further splice read_in no_file parts cut path_ok shallow good_name
moved-there = refl

moved-away : refusal_in true true n (plain (delete a)) ≡ 10
unfolding step set_at becomes subject path-of further path-further splice refusal_in no_file parts cut path_ok shallow good_name
moved-away = refl

moved-free : n.free ≡ 8
unfolding step set_at becomes subject path-of further path-further splice
moved-free = refl
