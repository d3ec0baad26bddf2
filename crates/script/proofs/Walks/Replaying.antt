-- The outcome of a script, from a sound image and a journal just started, is that of the replay: the theorem over whole runs.
use Prim.Native.Nat.{ℕ}
use mathlib.Core.Path.{◌≡◌, sym, ap, subst, ◌∙◌}
use mathlib.Core.List.{List, []}
use borrow.Author.Tests.{leb-true}
use lib.Dec.{leb}
use lib.ListN.{length}
use Rattle.layout.specs.Lists.{within}
use Rattle.layout.specs.Limits.{min_journal, max_journal}
use Rattle.journal.specs.Journal.{start_refusal}
use Rattle.journal.specs.Run.{State, state}
use Rattle.journal.specs.Replay.{replayed}
use Rattle.journal.specs.Kinds.{KindAnswer, answers_of, standing_of, StandsFor, FreeRunTheorem, MatchesKindReplay}
use Rattle.script.specs.Script.{ItemKind, list, journal_info, undo_to, item_kind_of, item_kinds, calls_of, Outcome, given, outcome, replay_outcome, JustStarted}
use Rattle.layout.proofs.Laws.Tests.{and_split, require-zero}
use Rattle.journal.proofs.Laws.Kinds.{one-of}
use Rattle.journal.proofs.Theorems.{every-free-run}
use Rattle.write_list.proofs.Laws.Runs.{lists-stand}
use Rattle.back.proofs.Laws.Runs.{infos-stand, backs-stand}

kinds-stand : (i : ItemKind) → StandsFor (item_kind_of i)
kinds-stand list = lists-stand
kinds-stand journal_info = infos-stand
kinds-stand undo_to = backs-stand

-- no item ends a run
items-fit : (i : ItemKind) (p : State) (c : (item_kind_of i).Further) → (item_kind_of i).Fits p c
items-fit list p c = tt
items-fit journal_info p c = tt
items-fit undo_to p c = tt

every-item-run : FreeRunTheorem item_kinds
every-item-run = every-free-run item_kinds (one-of item_kind_of kinds-stand) (λ p c. items-fit c.0 p c.1)

fresh-matches : (image journal s : List ℕ) → JustStarted image journal → MatchesKindReplay (state image journal) (calls_of s)
unfolding start_refusal
fresh-matches image journal s f =
    let w = and_split (leb min_journal (length journal)) (leb (length journal) max_journal) (require-zero (within min_journal max_journal (length journal)) 7 0 f.sized).0 in
    subst (λ (j : List ℕ). MatchesKindReplay (state image j) (calls_of s)) (sym f.just)
    (every-item-run image (length journal) (calls_of s) f.sound (leb-true _ _ w.0) (leb-true _ _ w.1))

pub replays : (image journal s out : List ℕ) (left : Outcome) → left ≡ outcome (state image journal) s out
    → (left ≡ outcome (state image journal) s out) × (JustStarted image journal → left ≡ replay_outcome (state image journal) s out)
unfolding outcome replay_outcome
replays image journal s out left e = (
  e,
  λ f. let m = fresh-matches image journal s f in
      e ∙ ap (λ (p : State). given (state image journal) s out p (answers_of (state image journal) (calls_of s))) m.state
      ∙ ap (λ (a : List (KindAnswer item_kinds)). given (state image journal) s out (replayed (state image journal) (standing_of (state image journal) [] (calls_of s))) a) m.answered,
)
