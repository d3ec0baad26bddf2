-- ONE STEP, AND TWO IN EITHER ORDER, by the model alone: no image is looked at.
use Prim.Native.Nat.{ℕ, ◌+◌, ◌-◌, ◌≤◌}
use mathlib.Core.Path.{◌≡◌, refl, sym, ap, ◌∙◌, subst}
use mathlib.Core.Bool.{true, false, false≢true}
use mathlib.Core.List.{List, [], ◌∷◌}
use mathlib.Core.Logic.{◌⊎◌, inl, inr, ⊎_elim, ◌≢◌}
use native.Mathlib.Omega.{arith}
use borrow.Author.Tests.{leb-true}
use lib.Dec.{leb}
use Rattle.layout.specs.Lists.{same}
use Rattle.layout.proofs.Laws.Tests.{and_split, is_false, true-not-false}
use Rattle.layout.proofs.Laws.Lists.{In, every_in}
use Rattle.layout.proofs.Laws.Names.{same_refl, same-eq, same_or_not}
use Rattle.volume.specs.Change.{create, write, delete, create_directory, delete_directory, set_attributes, clear_attributes, clear_flags, shorten, replace, move}
use Rattle.volume.specs.Views as views
use Rattle.volume.proofs.Laws.Orders.{in-or-not}
use Rattle.store.specs.Change.{Change, plain, put_in, subject, further, subjects}
use Rattle.store.specs.Views.{takes, gives, gives_folder}
use Rattle.model.specs.Model.{Node, nothing, file, folder, Model, blocks, set_at, becomes, brought, step, shows_nothing, shows_file}
use Rattle.model.specs.Refines.{Alike}
use Rattle.model.proofs.Laws.Allows.{suits, allows}

-- a change has one path, or is a move
pub record Moves (c : Change) : Type 0 where
  pub to : List ℕ
  pub is : further c ≡ to ∷ []
  pub gone : (x : Node) → becomes c x ≡ nothing
  pub none-taken : (f : views.Maybe views.File) → takes c f ≡ 0
  pub none-given : (f : views.Maybe views.File) (d : views.Maybe views.Folder) → gives c f + gives_folder c d ≡ 0
  pub wants : (x : Node) → suits c x ≡ shows_file x

pub one-or-two : (c : Change) → (further c ≡ []) ⊎ Moves c
unfolding further views.further becomes suits takes views.takes gives views.gives gives_folder views.gives_folder
one-or-two (plain (create path type user group permissions flags time)) = inl refl
one-or-two (plain (write path offset bytes time)) = inl refl
one-or-two (plain (delete path)) = inl refl
one-or-two (plain (create_directory path type user group permissions flags time size)) = inl refl
one-or-two (plain (delete_directory path)) = inl refl
one-or-two (plain (set_attributes path bytes)) = inl refl
one-or-two (plain (clear_attributes path)) = inl refl
one-or-two (plain (clear_flags path)) = inl refl
one-or-two (plain (shorten path size time)) = inl refl
one-or-two (plain (replace path bytes time)) = inl refl
one-or-two (plain (move path to)) = inr (record { to = to; is = refl; gone = λ x. refl; none-taken = λ f. refl; none-given = λ f d. refl; wants = λ x. refl })
one-or-two (put_in directory serial time bytes) = inl refl

-- what suits a path that shows nothing makes something there
fills-nothing : (c : Change) → suits c nothing ≡ true → shows_nothing (becomes c nothing) ≡ false
unfolding suits becomes
fills-nothing (plain (create path type user group permissions flags time)) h = refl
fills-nothing (plain (write path offset bytes time)) h = absurd (false≢true h)
fills-nothing (plain (delete path)) h = absurd (false≢true h)
fills-nothing (plain (create_directory path type user group permissions flags time size)) h = refl
fills-nothing (plain (delete_directory path)) h = absurd (false≢true h)
fills-nothing (plain (set_attributes path bytes)) h = absurd (false≢true h)
fills-nothing (plain (clear_attributes path)) h = absurd (false≢true h)
fills-nothing (plain (clear_flags path)) h = absurd (false≢true h)
fills-nothing (plain (shorten path size time)) h = absurd (false≢true h)
fills-nothing (plain (replace path bytes time)) h = absurd (false≢true h)
fills-nothing (plain (move path to)) h = absurd (false≢true h)
fills-nothing (put_in directory serial time bytes) h = refl

pub is-nothing : (x : Node) → shows_nothing x ≡ true → x ≡ nothing
is-nothing nothing h = refl
is-nothing (file f) h = absurd (false≢true h)
is-nothing (folder d) h = absurd (false≢true h)

fills : (c : Change) (x : Node) → shows_nothing x ≡ true → suits c x ≡ true → shows_nothing (becomes c x) ≡ false
fills c x e h = let q = is-nothing x e in rw q (fills-nothing c (subst (λ (y : Node). suits c y ≡ true) q h))

no-file : (x : Node) → shows_nothing x ≡ true → shows_file x ≡ true → ⊥
no-file nothing e h = false≢true h
no-file (file f) e h = false≢true e
no-file (folder d) e h = false≢true e

pub nothing-blocks : (x : Node) → shows_nothing x ≡ true → blocks x ≡ 0
nothing-blocks x h = ap blocks (is-nothing x h)

-- what paths show, set and brought
set_own : (m : Model) (path : List ℕ) (x : Node) → (set_at m path x).at path ≡ x
unfolding set_at
set_own m path x = rw (same_refl path)

set_other : (m : Model) (path : List ℕ) (x : Node) (other : List ℕ) → other ≢ path → (set_at m path x).at other ≡ m.at other
unfolding set_at
set_other m path x other ne = rw (is_false (same other path) (λ t. ne (same-eq other path t)))

-- no block is lost, and none comes from nowhere
set-blocks : (m : Model) (path : List ℕ) (x : Node) → blocks x ≤ m.free + blocks (m.at path) → (set_at m path x).free + blocks x ≡ m.free + blocks (m.at path)
unfolding set_at
set-blocks m path x h = omega arith

brought-root : (x : Node) (tos : List (List ℕ)) (m : Model) → (brought x tos m).root_size ≡ m.root_size
unfolding set_at
brought-root x [] m = refl
brought-root x (to ∷ tos) m = brought-root x tos m

pub step-root : (m : Model) (c : Change) → (step m c).root_size ≡ m.root_size
unfolding step set_at
step-root m c = brought-root (m.at (subject c)) (further c) (set_at m (subject c) (becomes c (m.at (subject c))))

brought-other : (x : Node) (tos : List (List ℕ)) (m : Model) (path : List ℕ) → (In path tos → ⊥) → (brought x tos m).at path ≡ m.at path
brought-other x [] m path out = refl
brought-other x (to ∷ tos) m path out = set_other (brought x tos m) to x path (λ z. out (inl z)) ∙ brought-other x tos m path (λ i. out (inr i))

brought-here : (x : Node) (tos : List (List ℕ)) (m : Model) (path : List ℕ) → In path tos → (brought x tos m).at path ≡ x
brought-here x [] m path x'' = elim x'' [ ]
brought-here x (to ∷ tos) m path (inl e) = rw e (set_own (brought x tos m) to x)
brought-here x (to ∷ tos) m path (inr i) = go (same_or_not path to) (brought-here x tos m path i)
  where
    go : (path ≡ to) ⊎ (path ≢ to) → (brought x tos m).at path ≡ x → (set_at (brought x tos m) to x).at path ≡ x
    go (inl e) h = rw e (set_own (brought x tos m) to x)
    go (inr ne) h = set_other (brought x tos m) to x path ne ∙ h

-- all blocks of some paths
abbrev pub weight : Model → List (List ℕ) → ℕ
weight m [] = 0
weight m (p ∷ ps) = blocks (m.at p) + weight m ps

weight-same : (m n : Model) (ps : List (List ℕ)) → ((p : List ℕ) → In p ps → m.at p ≡ n.at p) → weight m ps ≡ weight n ps
weight-same m n [] f = refl
weight-same m n (p ∷ ps) f = rw (f p (inl refl), weight-same m n ps (λ q i. f q (inr i)))

-- ONE STEP
module _ (m : Model) (c : Change) (fits : allows m c ≡ true) where
  abbrev here : Node
  here = m.at (subject c)

  abbrev middle : Model
  middle = set_at m (subject c) (becomes c (m.at (subject c)))

  pub suit : suits c here ≡ true
  unfolding allows
  suit = (and_split (suits c here) _ fits).0

  pub room : blocks (becomes c here) ≤ m.free + blocks here
  unfolding allows
  room = leb-true _ _ (and_split (leb (blocks (becomes c here)) (m.free + blocks here)) _ (and_split (suits c here) _ fits).1).0

  pub vacant : (to : List ℕ) → In to (further c) → shows_nothing (m.at to) ≡ true
  unfolding allows
  vacant to i = every_in (λ q. shows_nothing (m.at q)) (further c) to (and_split (leb (blocks (becomes c here)) (m.free + blocks here)) _ (and_split (suits c here) _ fits).1).1 i

  not_back : In (subject c) (further c) → ⊥
  not_back i = go (one-or-two c)
    where
      go : (further c ≡ []) ⊎ Moves c → ⊥
      go (inl o) = subst (In (subject c)) o i
      go (inr M) = no-file here (vacant (subject c) i) (sym (M.wants here) ∙ suit)

  pub own_at : (step m c).at (subject c) ≡ becomes c here
  unfolding step
  own_at = brought-other here (further c) middle (subject c) not_back ∙ set_own m (subject c) (becomes c here)

  pub come-at : (to : List ℕ) → In to (further c) → (step m c).at to ≡ here
  unfolding step
  come-at to i = brought-here here (further c) middle to i

  pub other_at : (path : List ℕ) → (In path (subjects c) → ⊥) → (step m c).at path ≡ m.at path
  unfolding step
  other_at path out = brought-other here (further c) middle path (λ i. out (inr i)) ∙ set_other m (subject c) (becomes c here) path (λ z. out (inl z))

  last-one : further c ≡ [] → (step m c).free ≡ middle.free
  unfolding step
  last-one o = rw o

  pub free_one : further c ≡ [] → (step m c).free ≡ m.free + blocks here - blocks (becomes c here)
  free_one o = omega (arith, last-one o, set-blocks m (subject c) (becomes c here) room, room)

  one-path : further c ≡ [] → (step m c).free + weight (step m c) (subjects c) ≡ m.free + weight m (subjects c)
  one-path o =
      let w : weight (step m c) (subjects c) ≡ blocks (becomes c here) + 0 = ap (λ (l : List (List ℕ)). blocks ((step m c).at (subject c)) + weight (step m c) l) o ∙ ap (λ (x : Node). blocks x + 0) own_at in
      let v : weight m (subjects c) ≡ blocks here + 0 = ap (λ (l : List (List ℕ)). blocks here + weight m l) o in
      omega (arith, free_one o, w, v, room)

  to_in : (M : Moves c) → In M.to (further c)
  to_in M = rw M.is (inl refl)

  last-two : (M : Moves c) → (step m c).free ≡ (set_at middle M.to here).free
  unfolding step
  last-two M = rw M.is

  pub free_moved : Moves c → (step m c).free ≡ m.free
  free_moved M =
      let i = to_in M in
      let n : M.to ≢ subject c = λ z. not_back (subst (λ (q : List ℕ). In q (further c)) z i) in
      let y : blocks (middle.at M.to) ≡ 0 = ap blocks (set_other m (subject c) (becomes c here) M.to n) ∙ nothing-blocks (m.at M.to) (vacant M.to i) in
      let g : blocks (becomes c here) ≡ 0 = ap blocks (M.gone here) in
      let w = set-blocks m (subject c) (becomes c here) room in
      let v = set-blocks middle M.to here (omega (arith, w, g)) in
      omega (arith, last-two M, v, w, g, y)

  two-paths : (M : Moves c) → (step m c).free + weight (step m c) (subjects c) ≡ m.free + weight m (subjects c)
  two-paths M =
      let i = to_in M in
      let z : blocks (m.at M.to) ≡ 0 = nothing-blocks (m.at M.to) (vacant M.to i) in
      let g : blocks (becomes c here) ≡ 0 = ap blocks (M.gone here) in
      let w : weight (step m c) (subjects c) ≡ blocks (becomes c here) + (blocks here + 0) =
      ap (λ (l : List (List ℕ)). blocks ((step m c).at (subject c)) + weight (step m c) l) M.is ∙ rw (own_at, come-at M.to i) in
      let v : weight m (subjects c) ≡ blocks here + (blocks (m.at M.to) + 0) = ap (λ (l : List (List ℕ)). blocks here + weight m l) M.is in
      omega (arith, free_moved M, w, v, g, z)

  pub no-loss : (step m c).free + weight (step m c) (subjects c) ≡ m.free + weight m (subjects c)
  no-loss = ⊎_elim one-path two-paths (one-or-two c)

-- what it makes of its own paths goes by what its path shows
pub local : (m n : Model) (c : Change) → allows m c ≡ true → allows n c ≡ true → m.at (subject c) ≡ n.at (subject c) → (p : List ℕ) → In p (subjects c) → (step m c).at p ≡ (step n c).at p
local m n c f g e p (inl q) = rw q (own_at m c f ∙ ap (becomes c) e ∙ sym (own_at n c g))
local m n c f g e p (inr i) = come-at m c f p i ∙ e ∙ sym (come-at n c g p i)

-- TWO CHANGES on different paths, each allowed in both orders: where one brings something no path of the other is
module _ (m : Model) (c d : Change) (ne : subject c ≢ subject d) (c-first : allows m c ≡ true) (d-second : allows (step m c) d ≡ true) (d-first : allows m d ≡ true) (c-second : allows (step m d) c ≡ true) where
  not-subject : (p : List ℕ) → In p (further c) → p ≡ subject d → ⊥
  not-subject p i e =
      let a : shows_nothing (m.at (subject d)) ≡ true = subst (λ (q : List ℕ). shows_nothing (m.at q) ≡ true) e (vacant m c c-first p i) in
      let b : shows_nothing ((step m d).at (subject d)) ≡ true = subst (λ (q : List ℕ). shows_nothing ((step m d).at q) ≡ true) e (vacant (step m d) c c-second p i) in
      true-not-false b (ap shows_nothing (own_at m d d-first) ∙ fills d (m.at (subject d)) a (suit m d d-first))

  not-further : (p : List ℕ) → In p (further c) → In p (further d) → ⊥
  not-further p i j = go (one-or-two c)
    where
      go : (further c ≡ []) ⊎ Moves c → ⊥
      go (inl o) = subst (In p) o i
      go (inr M) =
          no-file (m.at (subject c)) (sym (ap shows_nothing (come-at m c c-first p i)) ∙ vacant (step m c) d d-second p j) (sym (M.wants (m.at (subject c))) ∙ suit m c c-first)

pub none-common : (m : Model) (c d : Change) → subject c ≢ subject d → allows m c ≡ true → allows (step m c) d ≡ true → allows m d ≡ true → allows (step m d) c ≡ true
    → (p : List ℕ) → In p (subjects c) → In p (subjects d) → ⊥
none-common m c d ne f g h k p (inl a) (inl b) = ne (sym a ∙ b)
none-common m c d ne f g h k p (inl a) (inr j) = not-subject m d c (λ z. ne (sym z)) h k f g p j a
none-common m c d ne f g h k p (inr i) (inl b) = not-subject m c d ne f g h k p i b
none-common m c d ne f g h k p (inr i) (inr j) = not-further m c d ne f g h k p i j

-- after both, one order against the other
module _ (m : Model) (c d : Change) (ne : subject c ≢ subject d) (c-first : allows m c ≡ true) (d-second : allows (step m c) d ≡ true) (d-first : allows m d ≡ true) (c-second : allows (step m d) c ≡ true) where
  apart : (p : List ℕ) → In p (subjects c) → In p (subjects d) → ⊥
  apart = none-common m c d ne c-first d-second d-first c-second

  -- the first one's paths, after both and after the second one done first
  at_c : (p : List ℕ) → In p (subjects c) → (step (step m c) d).at p ≡ (step m c).at p
  at_c p i = other_at (step m c) d d-second p (apart p i)

  at-c-late : (p : List ℕ) → In p (subjects c) → (step (step m d) c).at p ≡ (step m c).at p
  at-c-late p i = local (step m d) m c c-second c-first (other_at m d d-first (subject c) (apart (subject c) (inl refl))) p i

  still-d : (p : List ℕ) → In p (subjects d) → (step m c).at p ≡ m.at p
  still-d p j = other_at m c c-first p (λ i. apart p i j)

  after_both : (step (step m c) d).free + weight (step m c) (subjects c) + weight (step (step m c) d) (subjects d) ≡ m.free + weight m (subjects c) + weight m (subjects d)
  after_both =
      omega (arith, no-loss m c c-first, no-loss (step m c) d d-second, weight-same (step m c) m (subjects d) still-d)

pub either-order-model : (m : Model) (c d : Change) → subject c ≢ subject d → allows m c ≡ true → allows (step m c) d ≡ true → allows m d ≡ true → allows (step m d) c ≡ true
    → Alike (step (step m c) d) (step (step m d) c)
either-order-model m c d ne f g h k = record { at = λ path. each path (in-or-not path (subjects c)) (in-or-not path (subjects d)); free = same-free; root_size = step-root (step m c) d ∙ step-root m c ∙ sym (step-root (step m d) c ∙ step-root m d) }
  where
    en : subject d ≢ subject c
    en z = ne (sym z)

    each : (path : List ℕ) → In path (subjects c) ⊎ (In path (subjects c) → ⊥) → In path (subjects d) ⊎ (In path (subjects d) → ⊥) → (step (step m c) d).at path ≡ (step (step m d) c).at path
    each path (inl i) w = at_c m c d ne f g h k path i ∙ sym (at-c-late m c d ne f g h k path i)
    each path (inr out) (inl j) = at-c-late m d c en h k f g path j ∙ sym (at_c m d c en h k f g path j)
    each path (inr out) (inr away) = other_at (step m c) d g path away ∙ other_at m c f path out ∙ sym (other_at (step m d) c k path out ∙ other_at m d h path away)

    same-free : (step (step m c) d).free ≡ (step (step m d) c).free
    same-free =
        let a : weight (step (step m c) d) (subjects d) ≡ weight (step m d) (subjects d) = weight-same (step (step m c) d) (step m d) (subjects d) (at-c-late m d c en h k f g) in
        let b : weight (step (step m d) c) (subjects c) ≡ weight (step m c) (subjects c) = weight-same (step (step m d) c) (step m c) (subjects c) (at-c-late m c d ne f g h k) in
        omega (arith, after_both m c d ne f g h k, after_both m d c en h k f g, a, b)
