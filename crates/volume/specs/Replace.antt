-- Replace, on a sound image (FORMAT.md, "Replace"): "one change that leaves what a shorten to min(size, length) and a write of the bytes at 0 would, with that time". The
-- file is given by the offset e of its entry.
use Rattle.std.specs.Prelude.{ℕ, min, List, ◌++◌, length}
use Rattle.layout.specs.Directory.{size_of}
use Rattle.volume.specs.Write.{write_refusal, write_at, write_named}
use Rattle.volume.specs.Shorten.{shorten_at, shorten_named}

unfoldable pub replace_at : List ℕ → ℕ → List ℕ → ℕ → List ℕ
replace_at s e bytes time = write_at (shorten_at s e (min (size_of s e) (length bytes)) time) e 0 bytes time

-- saved blocks: "those of both". The shorten does not change those of the write, so they are told of the image before it.
unfoldable pub replace_named : List ℕ → ℕ → ℕ → List ℕ
replace_named s e count = shorten_named s e (min (size_of s e) count) ++ write_named s e 0 count

-- 9, 17, 10 and 14, as of a write at 0. The write's 12 cannot be met: the offset 0 is above no file's size.
unfoldable pub replace_refusal : List ℕ → List ℕ → ℕ → ℕ
replace_refusal s path count = write_refusal s path 0 count
