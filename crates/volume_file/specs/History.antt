-- A WHOLE HISTORY of a volume file: saves, each done or cut, and after a cut recovery, which may be cut too, and more than once, before it comes to its end.
use Rattle.std.specs.Prelude.{ℕ, ◌≡◌, ◌⊎◌, List, [], ◌∷◌}
use Rattle.layout.specs.Bytes.{block}
use Rattle.volume_file.specs.Format.{home_of}
use Rattle.volume_file.specs.Save.{committed, recovered}
use Rattle.volume_file.specs.Cuts.{Cut, RecoveryCuts, Quiet, Fits}

-- of each save: the home that it was to leave, and whether it was done
pub data Event : Type 0 where
  done : List ℕ → Event
  cut : List ℕ → Event

-- from the file d the events lead to the file e
pub data Leads : List ℕ → List Event → List ℕ → Type 0 where
  still : (d : List ℕ) → Leads d [] d
  after : {d e : List ℕ} {new : List ℕ} {es : List Event} → Fits d new → Leads (recovered (committed d new)) es e → Leads d (done new ∷ es) e
  after_cut : {d d' d'' e : List ℕ} {new : List ℕ} {es : List Event} → Fits d new → Cut d new d' → RecoveryCuts d' d'' → Leads (recovered d'') es e
      → Leads d (cut new ∷ es) e

-- what the home may be after the events, where it was `old` before: a save that is done leaves `new`, one that is cut leaves `old` or `new`, and nothing else
abbrev pub MayBe : List ℕ → List Event → List ℕ → Type 0
MayBe old [] home = home ≡ old
MayBe old (done new ∷ es) home = MayBe new es home
MayBe old (cut new ∷ es) home = MayBe old es home ⊎ MayBe new es home

-- the header stays too, and with it the lengths of the three parts
abbrev pub HistoryTheorem : Type 0
HistoryTheorem = (d e : List ℕ) (es : List Event) → Quiet d → Leads d es e → Quiet e × (block e 0 ≡ block d 0) × MayBe (home_of d) es (home_of e)
