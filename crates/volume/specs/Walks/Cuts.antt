-- Code-facing: where a chain is cut, and the block of the new end.
use Rattle.std.specs.Prelude.{ℕ, zero, suc, ◌-◌, ◌≡◌, true, List, [], ◌∷◌, get_or, take, drop}
use Rattle.layout.specs.Lists.{last_or}
use Rattle.layout.specs.Table.{chain, chain_ok}

-- the chain of k blocks from `first` on is cut to its first j: the first and the last of them (0: there is none), and the first of the others
pub record CutAt (v : ℕ → ℕ) (first k j start last rest : ℕ) : Type 0 where
  pub begins : start ≡ get_or (take j (chain v first k)) 0 0
  pub before : last ≡ last_or 0 (take j (chain v first k))
  pub behind : chain v rest (k - j) ≡ drop j (chain v first k)
  pub chained : (n : ℕ) → chain_ok v n first k ≡ true → chain_ok v n rest (k - j) ≡ true

-- the block of the new end, if bytes behind it become 0
unfoldable pub end_blocks : (last tail : ℕ) → List ℕ
end_blocks last zero = []
end_blocks last (suc tail) = last ∷ []
