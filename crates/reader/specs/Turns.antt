-- A reader's read (FORMAT.md, 7.3): "the reader answers as 01's read at its place, which moves on by the count". A refused read has count 0 and keeps its place.
use Rattle.std.specs.Prelude.{ℕ}
use Rattle.reader.specs.declared.reader.Reader.{Reader}

-- the same reader at another position
abbrev pub placed : Reader → ℕ → Reader
placed r position = record { image = r.image; path = r.path; position = position }
