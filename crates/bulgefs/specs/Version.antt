-- The version of the library, 10000 * major + 100 * minor + patch. include/bulgefs.h has it as BULGEFS_VERSION, and tests/header holds the two together.
use Rattle.std.specs.Prelude.{ℕ}

abbrev pub version : ℕ
version = 1400
