-- The limits (FORMAT.md, 2), each named once.
use Rattle.std.specs.Prelude.{ℕ, ◌*◌}

-- "An image is 512·n bytes, 3 ≤ n"; "Raise n to 65,536"
abbrev pub min_blocks : ℕ
min_blocks = 3

abbrev pub max_blocks : ℕ
max_blocks = 65536

-- a volume of at most this many blocks is checked and changed with marks of its own size, and checked with fewer still (no limits of the papers)
abbrev pub tiny_blocks : ℕ
tiny_blocks = 512

abbrev pub small_blocks : ℕ
small_blocks = 4096

-- "size_blocks d with 1 ≤ d ≤ 64"
abbrev pub max_directory : ℕ
max_directory = 64

-- "Slots are counted along the root chain, four in a block."
abbrev pub max_slots : ℕ
max_slots = 4 * max_directory

-- "at most 8 levels below the root"
abbrev pub max_levels : ℕ
max_levels = 8

-- "A name is 1 to 80 non-zero bytes" (FORMAT.md, 3.4): the whole field
abbrev pub max_name : ℕ
max_name = 80

-- refusal 9: "data above 4,096 bytes"
abbrev pub max_data : ℕ
max_data = 4096

-- L6: "size 1 to 8", in blocks
abbrev pub max_attributes : ℕ
max_attributes = 8

-- the journal: "It is 5 to", and "67,108,864 bytes"
abbrev pub min_journal : ℕ
min_journal = 5

abbrev pub max_journal : ℕ
max_journal = 67108864

-- "The lister reads up to 65,536 bytes from standard input"
abbrev pub max_listed : ℕ
max_listed = 65536
