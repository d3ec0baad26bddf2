-- Code-facing: the two ways of a put, to the file that is there and to one that it makes; and where its entry is, or goes.
use Rattle.std.specs.Prelude.{Result, Ok, Err, ℕ, ◌<◌, ◌≡◌, true, false, List, length, leb}
use Rattle.layout.specs.declared.file.File.{File}
use Rattle.layout.specs.declared.refusal.Refusal.{Refusal}
use Rattle.layout.specs.Reasons.{number_of}
use Rattle.layout.specs.Refusals.{require, first_of}
use Rattle.layout.specs.Geometry.{block_count}
use Rattle.layout.specs.Table.{next, free_blocks}
use Rattle.layout.specs.Directory.{size_of, is_file, content}
use Rattle.layout.specs.Walks.Looks.{Located}
use Rattle.volume.specs.Create.{place_refusal}
use Rattle.volume.specs.Write.{write_at_refusal}
use Rattle.volume.specs.Walks.Places.{Vacant}
use Rattle.store.specs.Settings.{Revision, encoded, revisions, added}
use Rattle.store.specs.Put.{path_of, is_there, held_in, form_refusal, put_refusal}

-- the revisions in the file whose entry is at e; the file with one more
abbrev pub held_at : List ℕ → ℕ → List Revision
held_at s e = held_in (revisions (content s e))

unfoldable pub rewritten_at : List ℕ → ℕ → List ℕ → List ℕ
rewritten_at s e bytes = encoded (added (held_at s e) bytes) (size_of s e)

-- 24, 25 and 14, of a put to that file
unfoldable pub more_refusal : List ℕ → ℕ → List ℕ → ℕ
more_refusal s e bytes = first_of (form_refusal (revisions (content s e))) (write_at_refusal s e 0 (length (rewritten_at s e bytes)))

-- 10, 11, 13 and 14, of a put that makes its file: it needs one block
unfoldable pub first_refusal : List ℕ → List ℕ → ℕ
first_refusal s path = first_of (place_refusal s path) (require (leb 1 (length (free_blocks (next s) (block_count s)))) 14 0)

-- what is found out of a file: 24 or 25, or if that is 0, its length with a revision more
pub record Weighed (s : List ℕ) (e : ℕ) (bytes : List ℕ) (number size : ℕ) : Type 0 where
  pub number_is : number ≡ form_refusal (revisions (content s e))
  pub size_is : number ≡ 0 → size ≡ length (rewritten_at s e bytes)
  pub small : number ≡ 0 → size < 4294967296

-- the file that is there, which is of the form and so has bytes; or the free place in the directory, whose size is 0 and whose `first` is the directory's first block
pub record PutTarget (s directory serial : List ℕ) (slot block first size blocks : ℕ) : Type 0 where
  pub file : is_there s directory serial ≡ true → Located is_file s (path_of directory serial) slot block first size blocks × (0 < size)
  pub place : is_there s directory serial ≡ false → Vacant s (path_of directory serial) first slot block × (size ≡ 0)

-- what preparing a put gives: the number of its refusal, and if that is 0, where its entry is
pub record PutPrepared (s directory serial : List ℕ) (time : ℕ) (bytes : List ℕ) (number slot block first size blocks : ℕ) : Type 0 where
  pub number_is : number ≡ put_refusal s directory serial time bytes
  pub target : number ≡ 0 → PutTarget s directory serial slot block first size blocks

-- the same of answers: what is found, or the reason of the refusal
abbrev pub WeighedFor : List ℕ → ℕ → List ℕ → Result ℕ Refusal → Type 0
WeighedFor s e bytes (Ok size) = Weighed s e bytes 0 size
WeighedFor s e bytes (Err why) = number_of why ≡ form_refusal (revisions (content s e))

abbrev pub PutPreparedFor : List ℕ → List ℕ → List ℕ → ℕ → List ℕ → Result File Refusal → Type 0
PutPreparedFor s directory serial time bytes (Ok f) = PutPrepared s directory serial time bytes 0 f.slot f.block f.first f.size f.blocks
PutPreparedFor s directory serial time bytes (Err why) = number_of why ≡ put_refusal s directory serial time bytes
