-- What the private contracts ask of an image, a journal and the program's own sectors: whole sectors, h in all.
use Rattle.std.specs.Prelude.{ℕ, ◌+◌, ◌*◌, ◌/◌, ◌≡◌, List, length}

pub record WholeSectors (image journal own : List ℕ) (h : ℕ) : Type 0 where
  pub image-long : length image ≡ 512 * (length image / 512)
  pub journal-long : length journal ≡ 512 * (length journal / 512)
  pub all-long : length image + (length journal + length own) ≡ 512 * h
