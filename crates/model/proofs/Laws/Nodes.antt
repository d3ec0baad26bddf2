-- One node and one change: what the views' functions make of it is what the model makes of it.
use Prim.Native.Nat.{ℕ, ◌+◌, ◌-◌, ◌/◌, ◌≤◌, max}
use mathlib.Core.Path.{◌≡◌, refl, sym, ap, ◌∙◌}
use mathlib.Core.Bool.{Bool, true, false, false≢true}
use mathlib.Core.List.{List, [], cons-ne-nil}
use native.Mathlib.Omega.{arith}
use borrow.Author.Tests.{leb-true, le-leb}
use lib.ListN.{length, take, length-append, length-take, length-drop}
use lib.Dec.{leb}
use Rattle.layout.specs.Bytes.{bytes4, zeros, splice}
use Rattle.layout.specs.Geometry.{blocks_for}
use Rattle.volume.specs.Change.{create, write, delete, create_directory, delete_directory, set_attributes, clear_attributes, clear_flags, shorten, replace, move}
use Rattle.volume.specs.Views as views
use Rattle.store.specs.Settings.{encoded, added}
use Rattle.store.specs.Put.{held_in}
use Rattle.store.specs.Change.{Change, plain, put_in, further}
use Rattle.store.specs.Views.{stored_in, made, made_folder, takes, gives, gives_folder}
use Rattle.store.proofs.Laws.Serials.{is_in}
use Rattle.model.specs.Model.{Node, nothing, file, folder, blocks, new, settings, becomes, shows_nothing, shows_folder, shows_file}
use Rattle.model.proofs.Laws.Allows.{only_file, suits}
use Rattle.model.specs.Refines.{as_file, as_folder}

-- a splice within a list
pub splice-length : (s : List ℕ) (at : ℕ) (p : List ℕ) → at ≤ length s → length (splice s at p) ≡ max (length s) (at + length p)
unfolding splice
splice-length s at p h = simp (length-append, length-take, length-drop) (omega arith)

pub made-becomes : (c : Change) (x : Node) → suits c x ≡ true → made c (as_file x) ≡ as_file (becomes c x)
unfolding suits becomes made views.made bytes4 zeros
made-becomes (plain (create path type user group permissions flags time)) x h = refl
made-becomes (plain (write path offset bytes time)) nothing h = refl
made-becomes (plain (write path offset bytes time)) (file f) h = refl
made-becomes (plain (write path offset bytes time)) (folder d) h = refl
made-becomes (plain (delete path)) x h = refl
made-becomes (plain (create_directory path type user group permissions flags time size)) nothing h = refl
made-becomes (plain (create_directory path type user group permissions flags time size)) (file f) h = absurd (false≢true h)
made-becomes (plain (create_directory path type user group permissions flags time size)) (folder d) h = absurd (false≢true h)
made-becomes (plain (delete_directory path)) nothing h = refl
made-becomes (plain (delete_directory path)) (file f) h = absurd (false≢true h)
made-becomes (plain (delete_directory path)) (folder d) h = refl
made-becomes (plain (set_attributes path bytes)) nothing h = refl
made-becomes (plain (set_attributes path bytes)) (file f) h = refl
made-becomes (plain (set_attributes path bytes)) (folder d) h = refl
made-becomes (plain (clear_attributes path)) nothing h = refl
made-becomes (plain (clear_attributes path)) (file f) h = refl
made-becomes (plain (clear_attributes path)) (folder d) h = refl
made-becomes (plain (clear_flags path)) nothing h = refl
made-becomes (plain (clear_flags path)) (file f) h = refl
made-becomes (plain (clear_flags path)) (folder d) h = refl
made-becomes (plain (shorten path size time)) nothing h = refl
made-becomes (plain (shorten path size time)) (file f) h = refl
made-becomes (plain (shorten path size time)) (folder d) h = refl
made-becomes (plain (replace path bytes time)) nothing h = refl
made-becomes (plain (replace path bytes time)) (file f) h = refl
made-becomes (plain (replace path bytes time)) (folder d) h = refl
made-becomes (plain (move path to)) x h = refl
made-becomes (put_in directory serial time bytes) nothing h = refl
made-becomes (put_in directory serial time bytes) (file f) h = refl
made-becomes (put_in directory serial time bytes) (folder d) h = absurd (false≢true h)

pub folder-becomes : (c : Change) (x : Node) → suits c x ≡ true → made_folder c (as_folder x) ≡ as_folder (becomes c x)
unfolding suits becomes made_folder views.made_folder
folder-becomes (plain (create path type user group permissions flags time)) nothing h = refl
folder-becomes (plain (create path type user group permissions flags time)) (file f) h = refl
folder-becomes (plain (create path type user group permissions flags time)) (folder d) h = absurd (false≢true h)
folder-becomes (plain (write path offset bytes time)) nothing h = refl
folder-becomes (plain (write path offset bytes time)) (file f) h = refl
folder-becomes (plain (write path offset bytes time)) (folder d) h = refl
folder-becomes (plain (delete path)) nothing h = refl
folder-becomes (plain (delete path)) (file f) h = refl
folder-becomes (plain (delete path)) (folder d) h = absurd (false≢true h)
folder-becomes (plain (create_directory path type user group permissions flags time size)) x h = refl
folder-becomes (plain (delete_directory path)) x h = refl
folder-becomes (plain (set_attributes path bytes)) nothing h = refl
folder-becomes (plain (set_attributes path bytes)) (file f) h = refl
folder-becomes (plain (set_attributes path bytes)) (folder d) h = refl
folder-becomes (plain (clear_attributes path)) nothing h = refl
folder-becomes (plain (clear_attributes path)) (file f) h = refl
folder-becomes (plain (clear_attributes path)) (folder d) h = refl
folder-becomes (plain (clear_flags path)) nothing h = refl
folder-becomes (plain (clear_flags path)) (file f) h = refl
folder-becomes (plain (clear_flags path)) (folder d) h = refl
folder-becomes (plain (shorten path size time)) nothing h = refl
folder-becomes (plain (shorten path size time)) (file f) h = refl
folder-becomes (plain (shorten path size time)) (folder d) h = refl
folder-becomes (plain (replace path bytes time)) nothing h = refl
folder-becomes (plain (replace path bytes time)) (file f) h = refl
folder-becomes (plain (replace path bytes time)) (folder d) h = refl
folder-becomes (plain (move path to)) nothing h = refl
folder-becomes (plain (move path to)) (file f) h = refl
folder-becomes (plain (move path to)) (folder d) h = absurd (false≢true h)
folder-becomes (put_in directory serial time bytes) nothing h = refl
folder-becomes (put_in directory serial time bytes) (file f) h = refl
folder-becomes (put_in directory serial time bytes) (folder d) h = absurd (false≢true h)

-- the blocks of bytes written within a file
grown-blocks : (old offset new a : ℕ) → 0 + 0 + ((max old (offset + new) + 511) / 512 + a) ≡ (max old (offset + new) + 511) / 512 - (old + 511) / 512 + ((old + 511) / 512 + a)
grown-blocks old offset new a =
    let h : (old + 511) / 512 ≤ (max old (offset + new) + 511) / 512 = omega arith in
    omega arith

written-blocks : (b : List ℕ) (offset : ℕ) (p : List ℕ) (a : ℕ) → offset ≤ length b
    → 0 + 0 + (blocks_for (length (splice b offset p)) + a) ≡ blocks_for (max (length b) (offset + length p)) - blocks_for (length b) + (blocks_for (length b) + a)
written-blocks b offset p a h = rw (splice-length b offset p h) (grown-blocks (length b) offset (length p) a)

-- and of a file cut at its end
cut-blocks : (b : List ℕ) (size a : ℕ) → size ≤ length b → blocks_for (length b) - blocks_for size + 0 + (blocks_for (length (take size b)) + a) ≡ 0 + (blocks_for (length b) + a)
cut-blocks b size a h = let l : length (take size b) ≡ size = length-take size b ∙ omega arith in rw l (omega arith)

-- but for a move, whose blocks go with what it brings
pub blocks-become : (c : Change) → further c ≡ [] → (x : Node) → suits c x ≡ true → gives c (as_file x) + gives_folder c (as_folder x) + blocks (becomes c x) ≡ takes c (as_file x) + blocks x
unfolding suits becomes further views.further gives views.gives gives_folder views.gives_folder takes views.takes views.made
blocks-become (plain (create path type user group permissions flags time)) o nothing h = refl
blocks-become (plain (create path type user group permissions flags time)) o (file f) h = absurd (false≢true h)
blocks-become (plain (create path type user group permissions flags time)) o (folder d) h = absurd (false≢true h)
blocks-become (plain (write path offset bytes time)) o nothing h = refl
blocks-become (plain (write path offset bytes time)) o (file f) h = written-blocks f.bytes offset bytes (length f.attributes / 512) (leb-true _ _ h)
blocks-become (plain (write path offset bytes time)) o (folder d) h = absurd (false≢true h)
blocks-become (plain (delete path)) o nothing h = refl
blocks-become (plain (delete path)) o (file f) h = omega arith
blocks-become (plain (delete path)) o (folder d) h = absurd (false≢true h)
blocks-become (plain (create_directory path type user group permissions flags time size)) o nothing h = omega arith
blocks-become (plain (create_directory path type user group permissions flags time size)) o (file f) h = absurd (false≢true h)
blocks-become (plain (create_directory path type user group permissions flags time size)) o (folder d) h = absurd (false≢true h)
blocks-become (plain (delete_directory path)) o nothing h = refl
blocks-become (plain (delete_directory path)) o (file f) h = absurd (false≢true h)
blocks-become (plain (delete_directory path)) o (folder d) h = omega arith
blocks-become (plain (set_attributes path bytes)) o nothing h = absurd (false≢true h)
blocks-become (plain (set_attributes path bytes)) o (file f) h = omega arith
blocks-become (plain (set_attributes path bytes)) o (folder d) h = absurd (false≢true h)
blocks-become (plain (clear_attributes path)) o nothing h = refl
blocks-become (plain (clear_attributes path)) o (file f) h = omega arith
blocks-become (plain (clear_attributes path)) o (folder d) h = absurd (false≢true h)
blocks-become (plain (clear_flags path)) o nothing h = refl
blocks-become (plain (clear_flags path)) o (file f) h = omega arith
blocks-become (plain (clear_flags path)) o (folder d) h = absurd (false≢true h)
blocks-become (plain (shorten path size time)) o nothing h = absurd (false≢true h)
blocks-become (plain (shorten path size time)) o (file f) h = cut-blocks f.bytes size (length f.attributes / 512) (leb-true _ _ h)
blocks-become (plain (shorten path size time)) o (folder d) h = absurd (false≢true h)
blocks-become (plain (replace path bytes time)) o nothing h = absurd (false≢true h)
blocks-become (plain (replace path bytes time)) o (file f) h = omega arith
blocks-become (plain (replace path bytes time)) o (folder d) h = absurd (false≢true h)
blocks-become (plain (move path to)) o x h = absurd (cons-ne-nil _ _ o)
blocks-become (put_in directory serial time bytes) o nothing h = written-blocks [] 0 (encoded (added [] bytes) 0) 0 (omega arith)
blocks-become (put_in directory serial time bytes) o (file f) h =
    written-blocks f.bytes 0 (encoded (added (held_in (settings (file f))) bytes) (length f.bytes)) (length f.attributes / 512) (omega arith)
blocks-become (put_in directory serial time bytes) o (folder d) h = absurd (false≢true h)

-- what the image shows, as tests of the node
abbrev pub is_shown : views.Maybe views.File → Bool
is_shown views.nothing = false
is_shown (views.just f) = true

abbrev pub is_shown_folder : views.Maybe views.Folder → Bool
is_shown_folder views.nothing = false
is_shown_folder (views.just f) = true

abbrev pub length_shown : views.Maybe views.File → ℕ
length_shown views.nothing = 0
length_shown (views.just f) = length f.bytes

pub none-node : (x : Node) → as_file x ≡ views.nothing → as_folder x ≡ views.nothing → shows_nothing x ≡ true
none-node nothing p q = refl
none-node (file f) p q = absurd (false≢true (sym (ap is_shown p)))
none-node (folder d) p q = absurd (false≢true (sym (ap is_shown_folder q)))

pub file-node : (x : Node) → is_shown (as_file x) ≡ true → shows_file x ≡ true
file-node nothing p = absurd (false≢true p)
file-node (file f) p = refl
file-node (folder d) p = absurd (false≢true p)

pub within-node : (x : Node) (offset : ℕ) → is_shown (as_file x) ≡ true → offset ≤ length_shown (as_file x) → only_file (λ f. leb offset (length f.bytes)) x ≡ true
within-node nothing offset p h = absurd (false≢true p)
within-node (file f) offset p h = le-leb _ _ h
within-node (folder d) offset p h = absurd (false≢true p)

pub folder-node : (x : Node) → is_shown_folder (as_folder x) ≡ true → shows_folder x ≡ true
folder-node nothing p = absurd (false≢true p)
folder-node (file f) p = absurd (false≢true p)
folder-node (folder d) p = refl

pub settings-of : (x : Node) → settings x ≡ stored_in (as_file x)
settings-of nothing = refl
settings-of (file f) = refl
settings-of (folder d) = refl

pub is-in : (x : Node) → shows_file x ≡ is_in (as_file x)
is-in nothing = refl
is-in (file f) = refl
is-in (folder d) = refl
