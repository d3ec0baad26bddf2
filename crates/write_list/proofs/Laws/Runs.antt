-- A list is a run of the writes that it does, and with that the theorem over runs with lists.
use Prim.Native.Nat.{ℕ, zero, suc, ◌+◌}
use mathlib.Core.List.{List, [], ◌∷◌, map}
use mathlib.Core.Path.{◌≡◌, refl, sym, ap, ◌∙◌}
use native.Mathlib.Omega.{arith}
use native.Mathlib.Numerals.{add-one}
use lib.ListN.{length, take}
use Rattle.layout.specs.Refusals.{accept}
use Rattle.store.specs.Change.{Change}
use Rattle.journal.specs.Run.{change, State, step, run, change_refusal, after_change}
use Rattle.journal.specs.Replay.{replayed, standing}
use Rattle.journal.specs.Kinds.{StandsFor}
use Rattle.journal.specs.Back.{TellsRight}
use Rattle.journal.proofs.Laws.Back.{one-stands}
use Rattle.journal.proofs.Theorems.{every-free-run}
use Rattle.write_list.specs.List.{writes, listed, one_by_one, list_refusal, write_list}
use Rattle.write_list.specs.Runs.{lists, ListRunTheorem, list_tell}

-- the count goes up from where it begins
counts : (cs : List Change) (p : State) (k : ℕ) → one_by_one p k cs ≡ listed (one_by_one p 0 cs).state (one_by_one p 0 cs).number ((one_by_one p 0 cs).done + k)
unfolding one_by_one
counts [] p k = ap (λ (x : ℕ). listed p 0 x) (omega arith)
counts (c ∷ cs) p k = go (change_refusal p c) (counts cs (after_change p c) (suc k)) (counts cs (after_change p c) 1)
  where
    go : (r : ℕ)
        → one_by_one (after_change p c) (suc k) cs ≡ listed (one_by_one (after_change p c) 0 cs).state (one_by_one (after_change p c) 0 cs).number ((one_by_one (after_change p c) 0 cs).done + suc k)
        → one_by_one (after_change p c) 1 cs ≡ listed (one_by_one (after_change p c) 0 cs).state (one_by_one (after_change p c) 0 cs).number ((one_by_one (after_change p c) 0 cs).done + 1)
        → accept r (one_by_one (after_change p c) (suc k) cs) (listed p r k)
        ≡ listed (accept r (one_by_one (after_change p c) 1 cs) (listed p r 0)).state (accept r (one_by_one (after_change p c) 1 cs) (listed p r 0)).number ((accept r (one_by_one (after_change p c) 1 cs) (listed p r 0)).done + k)
    go zero a b =
        let e : (one_by_one (after_change p c) 0 cs).done + suc k ≡ (one_by_one (after_change p c) 0 cs).done + 1 + k = omega arith in
        a ∙ rw (b, e)
    go (suc r) a b = ap (λ (x : ℕ). listed p (suc r) x) (omega arith)

-- ONE BY ONE: image and journal are those of a run of as many of the changes as were done
done-run : (cs : List Change) (p : State) → (one_by_one p 0 cs).state ≡ run p (map change (take (one_by_one p 0 cs).done cs))
unfolding one_by_one run step
done-run [] p = refl
done-run (c ∷ cs) p = go (change_refusal p c) (done-run cs (after_change p c))
  where
    go : (r : ℕ) → (one_by_one (after_change p c) 0 cs).state ≡ run (after_change p c) (map change (take (one_by_one (after_change p c) 0 cs).done cs))
        → (accept r (one_by_one (after_change p c) 1 cs) (listed p r 0)).state ≡ run p (map change (take (accept r (one_by_one (after_change p c) 1 cs) (listed p r 0)).done (c ∷ cs)))
    go zero h = rw (counts cs (after_change p c) 1, add-one (one_by_one (after_change p c) 0 cs).done) h
    go (suc r) h = refl

-- A LIST IS ITS WRITES: on any image, journal and list, what it leaves is what a run of the writes that it does leaves
pub list-run : (p : State) (l : List ℕ) → (write_list p l).state ≡ run p (map change (take (write_list p l).done (writes l)))
unfolding write_list run
list-run p l = go (list_refusal p l)
  where
    go : (r : ℕ) → (accept r (one_by_one p 0 (writes l)) (listed p r 0)).state ≡ run p (map change (take (accept r (one_by_one p 0 (writes l)) (listed p r 0)).done (writes l)))
    go zero = done-run (writes l) p
    go (suc r) = refl

pub lists-stand : StandsFor lists
lists-stand p m l f = list-run p l

pub every-list-run : ListRunTheorem
every-list-run = every-free-run lists lists-stand (λ p l. tt)

-- THE COUNT: as many changes stand more as were done
step-stand : (cs : List Change) (start : State) (changes : List Change) (c : Change) (d : ℕ) → change_refusal (replayed start changes) c ≡ 0
    → length (c ∷ changes) + d ≡ length (standing start (c ∷ changes) (map change (take d cs)))
    → length changes + suc d ≡ length (standing start changes (map change (take (suc d) (c ∷ cs))))
unfolding standing
step-stand cs start changes c d e h =
    let a : length changes + suc d ≡ length (c ∷ changes) + d = omega arith in
    a ∙ h ∙ ap (λ (l : List Change). length (standing start l (map change (take d cs)))) (sym (one-stands start changes c e))

done-stand : (cs : List Change) (start : State) (changes : List Change)
    → length changes + (one_by_one (replayed start changes) 0 cs).done ≡ length (standing start changes (map change (take (one_by_one (replayed start changes) 0 cs).done cs)))
unfolding one_by_one standing replayed
done-stand [] start changes = omega arith
done-stand (c ∷ cs) start changes = go (change_refusal (replayed start changes) c) refl (done-stand cs start (c ∷ changes))
  where
    go : (r : ℕ) → change_refusal (replayed start changes) c ≡ r
        → length (c ∷ changes) + (one_by_one (after_change (replayed start changes) c) 0 cs).done
        ≡ length (standing start (c ∷ changes) (map change (take (one_by_one (after_change (replayed start changes) c) 0 cs).done cs)))
        → length changes + (accept r (one_by_one (after_change (replayed start changes) c) 1 cs) (listed (replayed start changes) r 0)).done
        ≡ length (standing start changes (map change (take (accept r (one_by_one (after_change (replayed start changes) c) 1 cs) (listed (replayed start changes) r 0)).done (c ∷ cs))))
    go zero e h =
        rw (counts cs (after_change (replayed start changes) c) 1, add-one (one_by_one (after_change (replayed start changes) c) 0 cs).done)
        (step-stand cs start changes c (one_by_one (after_change (replayed start changes) c) 0 cs).done e h)
    go (suc r) e h = omega arith

pub lists-told : TellsRight lists list_tell
unfolding write_list standing
lists-told start changes l = go (list_refusal (replayed start changes) l)
  where
    go : (r : ℕ) → length changes + (accept r (one_by_one (replayed start changes) 0 (writes l)) (listed (replayed start changes) r 0)).done
        ≡ length (standing start changes (map change (take (accept r (one_by_one (replayed start changes) 0 (writes l)) (listed (replayed start changes) r 0)).done (writes l))))
    go zero = done-stand (writes l) start changes
    go (suc r) = omega arith
