-- The refusals of the calls on a volume file (VOLUME-FILE.md, 4). They are numbers of their own, because a volume file is no image.
use Rattle.std.specs.Prelude.{ℕ}

-- it is shorter than its first two sectors
abbrev pub too_short : ℕ
too_short = 1

-- the header is none, or the sizes asked for are out of their ranges
abbrev pub bad_header : ℕ
bad_header = 2

-- its length is not the one of its n, m and x
abbrev pub bad_length : ℕ
bad_length = 3

-- the log counts more sectors than the home has
abbrev pub bad_count : ℕ
bad_count = 4

-- the log's addresses do not rise, or one of them is no home sector
abbrev pub bad_address : ℕ
bad_address = 5

-- the log waits: it must be recovered first
abbrev pub log_waits : ℕ
log_waits = 6

-- image, journal or the program's own bytes are not as long as their places
abbrev pub image_length_of : ℕ
image_length_of = 7

abbrev pub journal_length_of : ℕ
journal_length_of = 8

abbrev pub own_length_of : ℕ
own_length_of = 9
