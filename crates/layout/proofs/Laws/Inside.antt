-- One path inside another: where the inner one leads somewhere, the outer one names a directory; and where there is a directory no file is.
use Prim.Native.Nat.{ℕ, ◌≤◌}
use mathlib.Core.Path.{◌≡◌, refl, sym, ap, ◌∙◌, subst}
use mathlib.Core.Bool.{true, false≢true}
use mathlib.Core.List.{List, [], ◌∷◌, ◌++◌, append-nil}
use mathlib.Core.Logic.{◌≢◌}
use native.Mathlib.Decide.{ℕ_discrete}
use native.Mathlib.Omega.{arith}
use borrow.Author.Tests.{leb-true, eq-eqb, ne_eqb}
use lib.ListN.{length}
use lib.Dec.{leb}
use Rattle.layout.specs.Claims.{begins_with, is_inside}
use Rattle.layout.specs.Lists.{same, every}
use Rattle.layout.specs.Directory.{slot_at, type_of, is_file, is_directory, good_name, slot_of, directory, root_of, dirs}
use Rattle.layout.specs.Paths.{parts, path_ok, leading, last_part, child_of, resolve, home, path_slot}
use Rattle.layout.proofs.Laws.Tests.{and_split, true-not-false, within-split}
use Rattle.layout.proofs.Laws.Lists.{In}
use Rattle.layout.proofs.Laws.Names.{same-eq}
use Rattle.layout.proofs.Laws.Sound.{Sound}
use Rattle.layout.proofs.Laws.Owners.{file-no-dir, file-used-type}
use Rattle.layout.proofs.Laws.Slots.{names-differ}
use Rattle.layout.proofs.Laws.Paths.{Named, child-found}
use Rattle.layout.proofs.Laws.Ways.{same-path}

-- parts that begin with others go on behind them
begins-with : (qs ps : List (List ℕ)) → begins_with qs ps ≡ true → (rest : List (List ℕ)) × (qs ≡ ps ++ rest)
begins-with qs [] e = (qs, refl)
begins-with [] (p ∷ ps) e = absurd (false≢true e)
begins-with (q ∷ qs) (p ∷ ps) e =
    let w = and_split (same q p) (begins_with qs ps) e in
    let r = begins-with qs ps w.1 in
    (r.0, ap (λ (x : List ℕ). x ∷ qs) (same-eq q p w.0) ∙ ap (λ (l : List (List ℕ)). p ∷ l) r.1)

leading-append : (ps : List (List ℕ)) (r : List ℕ) (rs : List (List ℕ)) → leading (ps ++ (r ∷ rs)) ≡ ps ++ leading (r ∷ rs)
leading-append [] r rs = refl
leading-append (p ∷ []) r rs = refl
leading-append (p ∷ q ∷ ps) r rs = ap (λ (l : List (List ℕ)). p ∷ l) (leading-append (q ∷ ps) r rs)

-- where parts lead on, the last of them names a directory
resolve-none : (s : List ℕ) (b : ℕ) → resolve s b [] ≡ b
unfolding resolve
resolve-none s b = refl

resolve-next : (s : List ℕ) (b : ℕ) (p : List ℕ) (ps : List (List ℕ)) → child_of s b p ≢ 0 → resolve s b (p ∷ ps) ≡ resolve s (child_of s b p) ps
unfolding resolve
resolve-next s b p ps n = rw (ne_eqb (child_of s b p) 0 n)

part-leads : (s : List ℕ) (b : ℕ) (p : List ℕ) (ps : List (List ℕ)) → resolve s b (p ∷ ps) ≢ 0 → child_of s b p ≢ 0
unfolding resolve
part-leads s b p ps ne z = ne (rw (eq-eqb (child_of s b p) 0 z))

parts-lead : (s : List ℕ) (b : ℕ) (ps more : List (List ℕ)) → b ≢ 0 → 1 ≤ length ps → resolve s b (ps ++ more) ≢ 0
    → (resolve s b (leading ps) ≢ 0) × (child_of s (resolve s b (leading ps)) (last_part ps) ≢ 0)
parts-lead s b [] more nb h ne = absurd (omega arith)
parts-lead s b (p ∷ []) more nb h ne = rw (resolve-none s b) (nb, part-leads s b p more ne)
parts-lead s b (p ∷ q ∷ ps) more nb h ne =
    let n = part-leads s b p ((q ∷ ps) ++ more) ne in
    let r = parts-lead s (child_of s b p) (q ∷ ps) more n (omega arith) (λ z. ne (resolve-next s b p ((q ∷ ps) ++ more) n ∙ z)) in
    rw (resolve-next s b p (leading (q ∷ ps)) n) r

-- a path that leads somewhere makes a directory of every path that it is inside
module _ (s path outer : List ℕ) (good : path_ok path ≡ true) (fine : path_ok outer ≡ true) (ne : path ≢ outer) (there : home s path ≢ 0) (i : is_inside path outer ≡ true) where
  some-parts : 1 ≤ length (parts outer)
  unfolding path_ok
  some-parts = leb-true 1 (length (parts outer)) (and_split (leb 1 (length (parts outer))) (every good_name (parts outer)) fine).0

  longer-parts : (rest : List (List ℕ)) → parts path ≡ parts outer ++ rest → resolve s (root_of s) (parts outer ++ leading rest) ≢ 0
  unfolding home
  longer-parts [] q =
      let e : parts path ≡ parts outer = q ∙ append-nil {A = List ℕ} (parts outer) in
      absurd (ne (same-path path outer good fine (ap leading e) (ap last_part e)))
  longer-parts (r ∷ rs) q =
      λ z. there (ap (λ (ps : List (List ℕ)). resolve s (root_of s) (leading ps)) q ∙ ap (resolve s (root_of s)) (leading-append (parts outer) r rs) ∙ z)

  leads : (home s outer ≢ 0) × (child_of s (home s outer) (last_part (parts outer)) ≢ 0)
  unfolding is_inside home
  leads =
      let w = begins-with (parts path) (parts outer) i in
      parts-lead s (root_of s) (parts outer) (leading w.0) (λ z. omega arith) some-parts (longer-parts w.0 w.1)

  pub outer-directory : path_slot is_directory s outer ≢ 0
  unfolding path_slot
  outer-directory z =
      let N = (child-found s (home s outer) (last_part (parts outer)) leads.1).0 in
      let q : slot_of is_directory s (directory s (home s outer)) (last_part (parts outer)) ≡ 0 = rw (ne_eqb (home s outer) 0 leads.0) at z in
      let l = N.low in
      omega arith

pub directory-used-type : (type : ℕ) → is_directory type ≡ true → type ≢ 0
directory-used-type type t z = let w = within-split 0x20 0x5F type t in omega arith

-- a name is a file's or a directory's
pub one-kind : (s : List ℕ) → Sound s → (d : ℕ × ℕ) → In d (dirs s) → (name : List ℕ) (j k : ℕ) → Named is_file s d.0 name j → Named is_directory s d.0 name k → ⊥
one-kind s S d di name j k M N = go (ℕ_discrete j k)
  where
    type_at : ℕ → ℕ
    type_at i = type_of s (slot_at (directory s d.0) i)

    go : Dec (j ≡ k) → ⊥
    go (yes q) = true-not-false N.typed (file-no-dir (type_at k) (subst (λ (i : ℕ). is_file (type_at i) ≡ true) q M.typed))
    go (no n) =
        names-differ s S d di j k M.low N.low M.high N.high n (file-used-type (type_at j) M.typed) (directory-used-type (type_at k) N.typed) (M.named ∙ sym N.named)
