-- A sound image and a path: every directory on the way stands, and where the path leads.
use Prim.Native.Nat.{ℕ, zero, suc, ◌+◌, ◌-◌, ◌*◌, ◌≤◌, ◌<◌}
use mathlib.Core.Bool.{Bool, true, false, cond, ◌&&◌}
use mathlib.Core.List.{List, [], ◌∷◌}
use mathlib.Core.Path.{◌≡◌, refl, sym, ap, ◌∙◌, subst}
use native.Mathlib.Decide.{ℕ_discrete}
use native.Mathlib.Omega.{arith}
use lib.Dec.{eqb, leb}
use lib.ListN.{length, get_or, drop}
use borrow.Author.Tests.{ne_eqb, eqb-false, le-leb, leb-true}
use Rattle.std.specs.Prelude.{Option, Some, None}
use Rattle.layout.specs.declared.directory.Entry.{Entry}
use Rattle.layout.specs.declared.path.Spot.{Spot}
use Rattle.layout.specs.Limits.{max_levels}
use Rattle.layout.specs.Lists.{within, every, same}
use Rattle.layout.specs.Geometry.{block_count}
use Rattle.layout.specs.Bytes.{be32}
use Rattle.layout.specs.Table.{next, chain}
use Rattle.layout.specs.Directory.{slot_at, slots, type_of, blocks_of, is_used, slash, good_name, name_of, slot_of, free_slot, directory, is_empty, root_of, root, dirs}
use Rattle.layout.specs.Check.{check}
use Rattle.layout.specs.Paths.{cut, parts, path_ok, leading, last_part, shallow, child_of, resolve, home, path_slot}
use Rattle.layout.specs.Walks.Shapes.{DirectoryAt}
use Rattle.layout.specs.Walks.Slots.{Stands, StandsAt, entry_at, all_free}
use Rattle.layout.specs.Walks.Paths.{Along, PathGiven, Spotted, SpottedAt}
use Rattle.layout.proofs.Laws.Chains.{length-chain, get_d-chain}
use Rattle.layout.proofs.Laws.Lists.{In}
use Rattle.layout.proofs.Laws.Joins.{select-agree}
use Rattle.layout.proofs.Laws.Paths.{child-in-tree}
use Rattle.layout.proofs.Laws.Sound.{sound}
use Rattle.layout.proofs.Laws.Tests.{and_split}
use Rattle.layout.proofs.Laws.Trees.{in_tree, root_in, length-directory}
use Rattle.layout.proofs.Walks.Paths.{directory-is}
use Rattle.layout.proofs.Walks.Shapes.{sound-shape}
use Rattle.layout.proofs.Walks.Visits.{self-number}

-- the directories of a sound image
module _ (s : List ℕ) (ok : check s ≡ 0) where
  n : ℕ
  n = block_count s

  pub sound-directory : (d : ℕ × ℕ) → In d (dirs s) → DirectoryAt s (block_count s) d.0 (blocks_of s (512 * d.0))
  sound-directory d i =
      let D = (in_tree s (block_count s) (sound s ok).tree d i).1 in
      let k : ℕ = blocks_of s (512 * d.0) in
      record {
        shape = sound-shape s ok;
        blocks = record {
          some = D.d-least;
          few = D.d-most;
          size = length-chain (next s) d.0 k;
          below = λ j h. rw (get_d-chain (next s) d.0 k j h) (D.chained.below j h);
        };
      }

  pub sound-along : (ps : List (List ℕ)) (b left : ℕ) → In (b, left) (dirs s) → length ps ≤ left → Along s (block_count s) b ps
  unfolding Along
  sound-along [] b left i h = sound-directory (b, left) i
  sound-along (p ∷ ps) b zero i h = absurd (omega arith)
  sound-along (p ∷ ps) b (suc left) i h =
      (sound-directory (b, suc left) i, λ ne. sound-along ps (child_of s b p) left (child-in-tree s b p left i ne) (omega arith))

-- the directory that some parts lead to
pub along-end : (s : List ℕ) (n : ℕ) (ps : List (List ℕ)) (b : ℕ) → Along s n b ps → (resolve s b ps ≡ 0 → ⊥) → DirectoryAt s n (resolve s b ps) (blocks_of s (512 * resolve s b ps))
unfolding Along resolve
along-end s n [] b a ne = a
along-end s n (p ∷ ps) b a ne = go (eqb (child_of s b p) 0) refl (along-end s n ps (child_of s b p)) ne
  where
    go : (t : Bool) → eqb (child_of s b p) 0 ≡ t
        → (Along s n (child_of s b p) ps → (resolve s (child_of s b p) ps ≡ 0 → ⊥) → DirectoryAt s n (resolve s (child_of s b p) ps) (blocks_of s (512 * resolve s (child_of s b p) ps)))
        → (cond t 0 (resolve s (child_of s b p) ps) ≡ 0 → ⊥) → DirectoryAt s n (cond t 0 (resolve s (child_of s b p) ps)) (blocks_of s (512 * cond t 0 (resolve s (child_of s b p) ps)))
    go true q ih f = absurd (f refl)
    go false q ih f = ih (a.1 (eqb-false _ 0 q)) f

-- the directory at block b, of as many blocks as were read
module _ (s : List ℕ) (n b d : ℕ) (ed : d ≡ be32 s (entry_at b 0 + 12)) where
  pub at_read : DirectoryAt s n b (blocks_of s (512 * b)) → DirectoryAt s n b d
  at_read D = subst (DirectoryAt s n b) (sym (self-number s b d 12 ed)) D

  pub free-read : (k at : ℕ) → Stands (chain (next s) b d) n (free_slot s (chain (next s) b d)) k at → Stands (directory s b) n (free_slot s (directory s b)) k at
  free-read k at st = rw (directory-is s b d ed) at st

  pub empty-read : 1 ≤ d → all_free s (chain (next s) b d) 1 (4 * d - 2) ≡ is_empty s b
  unfolding all_free is_empty
  empty-read h = rw (directory-is s b d ed, length-directory s b, ← self-number s b d 12 ed)

-- a path begins with `/`
module _ (path : List ℕ) (good : path_ok path ≡ true) where
  pub some-parts : 1 ≤ length (parts path)
  unfolding path_ok
  some-parts = leb-true 1 (length (parts path)) (and_split (leb 1 (length (parts path))) _ good).0

  pub path_names : every good_name (parts path) ≡ true
  unfolding path_ok
  path_names = (and_split (leb 1 (length (parts path))) _ good).1

  pub path-some : 1 ≤ length path
  unfolding parts
  path-some = go path some-parts
    where
      go : (l : List ℕ) → 1 ≤ length (parts l) → 1 ≤ length l
      go [] h = absurd (omega arith)
      go (x ∷ xs) h = omega arith

  pub path-rest : parts path ≡ cut (drop 1 path)
  unfolding parts
  path-rest = go path some-parts
    where
      first : (t : Bool) (xs : List ℕ) → 1 ≤ length (cond t (cut xs) []) → cond t (cut xs) [] ≡ cut xs
      first true xs h = refl
      first false xs h = absurd (omega arith)

      go : (l : List ℕ) → 1 ≤ length (parts l) → parts l ≡ cut (drop 1 l)
      go [] h = absurd (omega arith)
      go (x ∷ xs) h = first (eqb x slash) xs h

  last-good : (ps : List (List ℕ)) → 1 ≤ length ps → every good_name ps ≡ true → good_name (last_part ps) ≡ true
  last-good [] h g = absurd (omega arith)
  last-good (p ∷ []) h g = (and_split (good_name p) _ g).0
  last-good (p ∷ q ∷ ps) h g = last-good (q ∷ ps) (omega arith) (and_split (good_name p) _ g).1

  pub path-last : good_name (last_part (parts path)) ≡ true
  path-last = last-good (parts path) some-parts path_names

pub home-is : (s path : List ℕ) (ps : List (List ℕ)) → parts path ≡ ps → resolve s (root_of s) (leading ps) ≡ home s path
unfolding home
home-is s path ps e = rw e

-- where a path leads in a sound image
module _ (s path : List ℕ) (G : PathGiven s path) where
  pub given-along : Along s (block_count s) (root_of s) (leading (parts path))
  unfolding shallow
  given-along =
      sound-along s G.sound (leading (parts path)) (root_of s) max_levels (root_in s (block_count s)) (leb-true _ _ G.few)

  pub given-home : (home s path ≡ 0 → ⊥) → DirectoryAt s (block_count s) (home s path) (blocks_of s (512 * home s path))
  unfolding home
  given-home ne = along-end s (block_count s) (leading (parts path)) (root_of s) given-along ne

  module _ (type : ℕ → Bool) where
    pub spotted-none : (h : ℕ) → h ≡ home s path → h ≡ 0 → Spotted type s path 0 0 0
    unfolding path_slot
    spotted-none h e z =
        record { there = sym z ∙ e; stands = record { slot = rw (← e, z); low = omega arith; block = λ q. absurd (q refl); none = λ q. refl } }

    pub spotted-there : (h : ℕ) → h ≡ home s path → (h ≡ 0 → ⊥) → (k b : ℕ) (ds name : List ℕ) → ds ≡ directory s h → name ≡ last_part (parts path)
        → Stands ds (block_count s) (slot_of type s ds name) k b → Spotted type s path h k b
    unfolding path_slot
    spotted-there h e ne k b ds name ed en st =
        record { there = e; stands = rw (← e, ne_eqb h 0 ne) (rw (ed, en) at st) }

    pub path-there : (h : ℕ) → h ≡ home s path → (h ≡ 0 → ⊥) → (ds name : List ℕ) → ds ≡ directory s h → name ≡ last_part (parts path) → (r : Option Entry)
        → StandsAt ds (block_count s) (slot_of type s ds name) r → StandsAt (directory s (home s path)) (block_count s) (path_slot type s path) r
    unfolding path_slot
    path-there h e ne ds name ed en r st = rw (← e, ne_eqb h 0 ne) (rw (ed, en) at st)

-- among all entries that are used: a byte that is not 0 is from 1 to 255
module _ (s path : List ℕ) (bytes : (i : ℕ) → get_or s i 0 < 256) where
  used-within : (x : ℕ) → x < 256 → is_used x ≡ within 1 255 x
  used-within x h = go (ℕ_discrete x 0)
    where
      go : Dec (x ≡ 0) → is_used x ≡ within 1 255 x
      go (yes z) = rw z
      go (no z) = rw (ne_eqb x 0 z, le-leb 1 x (omega arith), le-leb x 255 (omega arith))

  used-slot : (ds name : List ℕ) → slot_of is_used s ds name ≡ slot_of (within 1 255) s ds name
  unfolding slot_of
  used-slot ds name =
      ap (λ (l : List ℕ). get_or l 0 0) (select-agree (λ k. within 1 255 (type_of s (slot_at ds k)) && same (name_of s (slot_at ds k)) name)
      (λ k. is_used (type_of s (slot_at ds k)) && same (name_of s (slot_at ds k)) name) (slots ds)
      (λ k i. ap (λ (t : Bool). t && same (name_of s (slot_at ds k)) name) (used-within (type_of s (slot_at ds k)) (bytes (slot_at ds k)))))

  pub spotted-used : {h k b : ℕ} → Spotted (within 1 255) s path h k b → Spotted is_used s path h k b
  unfolding path_slot
  spotted-used sp = record { there = sp.there; stands = rw (used-slot (directory s (home s path)) (last_part (parts path))) sp.stands }

  path-used : path_slot (within 1 255) s path ≡ path_slot is_used s path
  unfolding path_slot
  path-used = rw (used-slot (directory s (home s path)) (last_part (parts path)))

  pub spotted-used-at : (r : Option Spot) → SpottedAt (within 1 255) s path r → SpottedAt is_used s path r
  spotted-used-at (Some spot) p = (p.0, p.1, subst (λ (x : ℕ). StandsAt (directory s (home s path)) (block_count s) x spot.entry) path-used p.2)
  spotted-used-at None p = p

-- the root of a sound image, of as many blocks as were read
module _ (s : List ℕ) (ok : check s ≡ 0) (d : ℕ) (ed : d ≡ be32 s (entry_at (root_of s) 0 + 12)) where
  pub root-at : DirectoryAt s (block_count s) (root_of s) d
  root-at = at_read s (block_count s) (root_of s) d ed (sound-directory s ok (root_of s, max_levels) (root_in s (block_count s)))

  pub root-chain : chain (next s) (root_of s) d ≡ root s
  root-chain = directory-is s (root_of s) d ed
