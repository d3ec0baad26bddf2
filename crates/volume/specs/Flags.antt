-- System flags cleared, on a sound image (FORMAT.md, 9.8: "One new call clears it for a named file, naming its directory block in the journal, also when it is
-- zero already; no time changes."). Its refusals, 9, 17 and 10, are file_refusal of the layout. The file is given by the offset e of its entry.
use Rattle.std.specs.Prelude.{ℕ, ◌+◌, ◌/◌, List, [], ◌∷◌}
use Rattle.layout.specs.Bytes.{zeros, splice}

unfoldable pub clear_flags_at : List ℕ → ℕ → List ℕ
clear_flags_at s e = splice s (e + 40) (zeros 4)

unfoldable pub clear_flags_named : ℕ → List ℕ
clear_flags_named e = e / 512 ∷ []
