-- A directory put right: what its chain and its self entry were, and what comes of image, marks and codes.
use Prim.Native.Nat.{ℕ, suc, ◌+◌, ◌-◌, ◌*◌, ◌/◌, ◌%◌, ◌≤◌, ◌<◌}
use mathlib.Core.Bool.{Bool, true, false, cond, ◌&&◌}
use mathlib.Core.List.{List, [], ◌∷◌}
use mathlib.Core.Logic.{inl, inr}
use mathlib.Core.Path.{◌≡◌, refl, sym, ap, ◌∙◌, subst}
use native.Mathlib.Omega.{arith}
use lib.Dec.{eqb}
use lib.ListN.{length, get_or, drop}
use lib.Seq.{drop-cons, drop-length}
use borrow.Author.Tests.{eq-eqb, eqb-true, ne_eqb}
use Rattle.layout.specs.Lists.{same, every}
use Rattle.layout.specs.Limits.{max_directory}
use Rattle.layout.specs.Bytes.{be32, part, splice}
use Rattle.layout.specs.Geometry.{table_blocks, in_volume}
use Rattle.layout.specs.Table.{next, chain, ends_after}
use Rattle.layout.specs.Directory.{slot_at, type_of, self_of, parent_of, blocks_of}
use Rattle.layout.specs.Walks.Shapes.{Shape}
use Rattle.layout.specs.Walks.Slots.{entry_at}
use Rattle.layout.proofs.Laws.Tests.{and_split, and-join}
use Rattle.layout.proofs.Laws.Lists.{In, every_in}
use Rattle.layout.proofs.Laws.Chains.{in_volume-split}
use Rattle.layout.proofs.Laws.Names.{same-eq, same_refl}
use Rattle.salvage.specs.Salvage.{end_at}
use Rattle.salvage_tree.specs.SalvageTree.{coded, note, put_number, put_byte, put_field, put_value, link_from, linked, self_put, put_directory, sized}
use Rattle.salvage_tree.specs.Walks.{st, Own, MarkedToo, links_from, links_right, self_right, PutDone, Adopted}
use Rattle.salvage_tree.proofs.Laws.Puts.{SelfIs, self-is, LinkedIs, links}
use Rattle.salvage_tree.proofs.Laws.Steps.{next-behind}
use Rattle.salvage_tree.proofs.Walks.Numbers.{both_ways, number-left, byte_left, byte-set, byte_flag, field-left, value-left, number-flag}

-- THE VALUES OF A CHAIN: where they are right nothing is written, and after the writing they are
links-left : (ds : List ℕ) (s : List ℕ) (b : ℕ) → links_from s b ds ≡ true → s ≡ link_from s b ds
unfolding links_from link_from
links-left [] s b e = value-left s b 1 (eqb-true _ _ e)
links-left (c ∷ ds) s b e =
    let a = and_split (eqb (next s b) c) (links_from s c ds) e in
    links-left ds s c a.1 ∙ ap (λ (u : List ℕ). link_from u c ds) (value-left s b c (eqb-true _ _ a.0))

links-are : (ds : List ℕ) (t : List ℕ) (n b : ℕ) → chain (next t) b (suc (length ds)) ≡ b ∷ ds → ends_after (next t) n b (suc (length ds)) ≡ true → links_from t b ds ≡ true
unfolding links_from chain ends_after
links-are [] t n b q e = (and_split (in_volume n b) (eqb (next t b) 1) e).1
links-are (c ∷ ds) t n b q e =
    let h : next t b ≡ c = ap (λ (l : List ℕ). get_or l 1 0) q in
    let f : chain (next t) (next t b) (suc (length ds)) ≡ c ∷ ds = ap (λ (l : List ℕ). drop 1 l) q in
    let g = (and_split (in_volume n b) (ends_after (next t) n (next t b) (suc (length ds))) e).1 in
    and-join (eq-eqb (next t b) c h)
    (links-are ds t n c (subst (λ (z : ℕ). chain (next t) z (suc (length ds)) ≡ c ∷ ds) h f) (subst (λ (z : ℕ). ends_after (next t) n z (suc (length ds)) ≡ true) h g))

links-agree : (ds : List ℕ) (s t : List ℕ) (b : ℕ) → ((x : ℕ) → In x (b ∷ ds) → next t x ≡ next s x) → links_from s b ds ≡ true → links_from t b ds ≡ true
unfolding links_from
links-agree [] s t b f e = rw (f b (inl refl)) e
links-agree (c ∷ ds) s t b f e =
    let a = and_split (eqb (next s b) c) (links_from s c ds) e in
    let h : eqb (next t b) c ≡ true = rw (f b (inl refl)) a.0 in
    and-join h (links-agree ds s t c (λ x i. f x (inr i)) a.1)

-- A SELF ENTRY: where it is right nothing is written
self_left : (s : List ℕ) (b parent d : ℕ) (field : List ℕ) → self_right s b parent d field ≡ true → s ≡ self_put s b parent d field
unfolding self_right self_put
self_left s b parent d field e =
    let a₁ = and_split (eqb (type_of s (512 * b)) 1) _ e in
    let a₂ = and_split (eqb (self_of s (512 * b)) b) _ a₁.1 in
    let a₃ = and_split (eqb (parent_of s (512 * b)) parent) _ a₂.1 in
    let a₄ = and_split (eqb (blocks_of s (512 * b)) d) _ a₃.1 in
    let q₁ : put_byte s (512 * b) 1 ≡ s = sym (byte_left s (512 * b) 1 (eqb-true _ _ a₁.0)) in
    let q₂ : put_number s (512 * b + 4) b ≡ s = sym (number-left s (512 * b + 4) b (eqb-true _ _ a₂.0)) in
    let q₃ : put_number s (512 * b + 8) parent ≡ s = sym (number-left s (512 * b + 8) parent (eqb-true _ _ a₃.0)) in
    let q₄ : put_number s (512 * b + 12) d ≡ s = sym (number-left s (512 * b + 12) d (eqb-true _ _ a₄.0)) in
    let q₅ : put_field s (512 * b + 48) field ≡ s = sym (field-left s (512 * b + 48) field _ refl a₄.1) in
    rw (q₁, q₂, q₃, q₄, q₅)

self-right : (s t : List ℕ) (b parent d : ℕ) (field : List ℕ) → SelfIs s t b parent d field → self_right t b parent d field ≡ true
unfolding self_right
self-right s t b parent d field S =
    and-join (eq-eqb _ 1 S.type) (and-join (eq-eqb _ b S.self) (and-join (eq-eqb _ parent S.parent_is) (and-join (eq-eqb _ d S.size) (subst (λ (u : List ℕ). same u field ≡ true) (sym S.name) (same_refl field)))))

-- BOTH: whether anything of chain and self entry was different
module _ (n : ℕ) (s : List ℕ) (b : ℕ) (ds : List ℕ) (parent : ℕ) (field : List ℕ) (H : Shape s n) (O : Own n (b ∷ ds)) (hp : parent < n) (hf : length field ≡ 80) where
  abbrev l : List ℕ
  l = link_from s b ds

  abbrev u : List ℕ
  u = self_put l b parent (suc (length ds)) field

  L : LinkedIs n H.low H.high s l b ds
  L = links n H.low H.high ds b s H.whole O.inside O.once

  hb : (table_blocks n < b) × (b < n)
  hb = in_volume-split n b (and_split (in_volume n b) (every (in_volume n) ds) O.inside).0

  S : SelfIs l u b parent (suc (length ds)) field
  S = self-is l b parent (suc (length ds)) field hf (omega (arith, L.len, H.whole, hb)) (omega (arith, hb, H.high)) (omega (arith, hp, H.high)) (omega (arith, O.few))

  linked-u : links_from u b ds ≡ true
  linked-u = links-agree ds l u b (λ x i. next-behind l u n (512 * b) (omega (arith, hb)) (S.put.beside 512 (512 * b - 512) (inl (omega (arith, hb)))) x (in_volume-split n x (every_in (in_volume n) (b ∷ ds) x O.inside i)).1)
      (links-are ds l n b L.is L.ends)

  head-flag : links_from s b ds && self_right l b parent (suc (length ds)) field ≡ same s u
  head-flag =
      both_ways _ _
      (λ e. let a = and_split (links_from s b ds) (self_right l b parent (suc (length ds)) field) e in
      let q : s ≡ u = links-left ds s b a.0 ∙ self_left l b parent (suc (length ds)) field a.1 in
      subst (λ (x : List ℕ). same s x ≡ true) q (same_refl s))
      (λ e. let q : s ≡ u = same-eq s u e in
      let k : links_from s b ds ≡ true = subst (λ (x : List ℕ). links_from x b ds ≡ true) (sym q) linked-u in
      and-join k (subst (λ (x : List ℕ). self_right x b parent (suc (length ds)) field ≡ true) (sym q ∙ links-left ds s b k) (self-right l u b parent (suc (length ds)) field S)))

-- the code's two tests, of a list of blocks
pub head-put : (n : ℕ) (s ds : List ℕ) (parent : ℕ) (field : List ℕ) → Shape s n → Own n ds → parent < n → length field ≡ 80
    → (x y : Bool) → x ≡ links_right s ds → y ≡ self_right (linked s ds) (get_or ds 0 0) parent (length ds) field → (s' : List ℕ) → s' ≡ self_put (linked s ds) (get_or ds 0 0) parent (length ds) field
    → x && y ≡ same s s'
unfolding links_right linked
head-put n s [] parent field H O hp hf x y ex ey s' e = absurd (let k = O.some in omega arith)
head-put n s (b ∷ ds) parent field H O hp hf x y ex ey s' e = rw (ex, ey, e) (head-flag n s b ds parent field H O hp hf)

-- THE LOOPS over the blocks: from block b on, i of them are behind
pub record Linking (f : List ℕ → ℕ → List ℕ → Bool) (s ds : List ℕ) (b i : ℕ) : Type 0 where
  pub some : 1 ≤ i
  pub most : i ≤ length ds
  pub here : b ≡ get_or ds (i - 1) 0
  pub is : links_right s ds ≡ f s b (drop i ds)

abbrev pub LinksOn : List ℕ → List ℕ → ℕ → ℕ → Type 0
LinksOn s ds b i = Linking links_from s ds b i

pub links-start : (s ds : List ℕ) → 1 ≤ length ds → LinksOn s ds (get_or ds 0 0) 1
unfolding links_right
links-start s [] h = absurd (omega arith)
links-start s (b ∷ ds) h = record { some = omega arith; most = omega arith; here = refl; is = refl }

module _ {s ds : List ℕ} {b i : ℕ} (w : LinksOn s ds b i) where
  pub links-wrong : i < length ds → (v : ℕ) → v ≡ next s b → (v ≡ get_or ds i 0 → ⊥) → false ≡ links_right s ds
  unfolding links_from
  links-wrong h v e ne = sym (w.is ∙ ap (links_from s b) (drop-cons ds i 0 h) ∙ rw (ne_eqb (next s b) (get_or ds i 0) (λ z. ne (e ∙ z))))

  pub links-on : i < length ds → (v : ℕ) → v ≡ next s b → v ≡ get_or ds i 0 → LinksOn s ds (get_or ds i 0) (i + 1)
  unfolding links_from
  links-on h v e z =
      let p : i + 1 ≡ suc i = omega arith in
      let q : suc i - 1 ≡ i = omega arith in
      rw p (record { some = omega arith; most = omega arith; here = rw q; is = w.is ∙ ap (links_from s b) (drop-cons ds i 0 h) ∙ rw (eq-eqb (next s b) (get_or ds i 0) (sym e ∙ z)) })

  pub links_end : i ≡ length ds → (v : ℕ) → v ≡ next s b → eqb v 1 ≡ links_right s ds
  unfolding links_from
  links_end h v e = sym (w.is ∙ ap (λ (xs : List ℕ). links_from s b xs) (ap (λ (j : ℕ). drop j ds) h ∙ drop-length ds) ∙ rw (← e))

pub record Writing (goal s ds : List ℕ) (b i : ℕ) : Type 0 where
  pub some : 1 ≤ i
  pub most : i ≤ length ds
  pub here : b ≡ get_or ds (i - 1) 0
  pub long : length s ≡ length goal
  pub is : goal ≡ link_from s b (drop i ds)

pub writing_start : (s ds : List ℕ) → 1 ≤ length ds → length (linked s ds) ≡ length s → Writing (linked s ds) s ds (get_or ds 0 0) 1
unfolding linked
writing_start s [] h l = absurd (omega arith)
writing_start s (b ∷ ds) h l = record { some = omega arith; most = omega arith; here = refl; long = sym l; is = refl }

module _ {goal s ds : List ℕ} {b i : ℕ} (w : Writing goal s ds b i) where
  pub writing-on : i < length ds → (c : ℕ) → c ≡ get_or ds i 0 → (s' : List ℕ) → length s' ≡ length s → s' ≡ put_value s b c → Writing goal s' ds c (i + 1)
  unfolding link_from
  writing-on h c ec s' l e =
      let p : i + 1 ≡ suc i = omega arith in
      let q : suc i - 1 ≡ i = omega arith in
      rw (p, ec) (record { some = omega arith; most = omega arith; here = rw q; long = l ∙ w.long; is = w.is ∙ ap (link_from s b) (drop-cons ds i 0 h) ∙ rw (e, ec) })

  pub writing-end : i ≡ length ds → (s' : List ℕ) → s' ≡ put_value s b 1 → s' ≡ goal
  unfolding link_from
  writing-end h s' e = e ∙ sym (w.is ∙ ap (λ (xs : List ℕ). link_from s b xs) (ap (λ (j : ℕ). drop j ds) h ∙ drop-length ds))

pub linked_long : (n : ℕ) (s ds : List ℕ) → Shape s n → Own n ds → length (linked s ds) ≡ length s
unfolding linked
linked_long n s [] H O = refl
linked_long n s (b ∷ ds) H O = (links n H.low H.high ds b s H.whole O.inside O.once).len

-- THE SELF ENTRY by its tests, in the code's order
module _ (s : List ℕ) (b parent d : ℕ) (field : List ℕ) (type : ℕ) (et : type ≡ type_of s (entry_at b 0)) where
  at_zero : entry_at b 0 ≡ 512 * b
  at_zero = omega arith

  type-is : type_of s (512 * b) ≡ type
  type-is = sym (et ∙ ap (λ (x : ℕ). type_of s x) at_zero)

  pub self_type : (type ≡ 1 → ⊥) → false ≡ self_right s b parent d field
  unfolding self_right
  self_type ne = rw (type-is, ne_eqb type 1 ne)

  module _ (q : type ≡ 1) (self : ℕ) (es : self ≡ be32 s (entry_at b 0 + 4)) where
    own_is : self_of s (512 * b) ≡ self
    own_is = sym (es ∙ ap (λ (x : ℕ). be32 s (x + 4)) at_zero)

    pub self-self : (self ≡ b → ⊥) → false ≡ self_right s b parent d field
    unfolding self_right
    self-self ne = rw (type-is, eq-eqb type 1 q, own_is, ne_eqb self b ne)

    module _ (r : self ≡ b) (up : ℕ) (ep : up ≡ be32 s (entry_at b 0 + 8)) where
      up_is : parent_of s (512 * b) ≡ up
      up_is = sym (ep ∙ ap (λ (x : ℕ). be32 s (x + 8)) at_zero)

      pub self-parent : (up ≡ parent → ⊥) → false ≡ self_right s b parent d field
      unfolding self_right
      self-parent ne = rw (type-is, eq-eqb type 1 q, own_is, eq-eqb self b r, up_is, ne_eqb up parent ne)

      module _ (v : up ≡ parent) (size : ℕ) (ez : size ≡ be32 s (entry_at b 0 + 12)) where
        size_is : blocks_of s (512 * b) ≡ size
        size_is = sym (ez ∙ ap (λ (x : ℕ). be32 s (x + 12)) at_zero)

        pub self-size : (size ≡ d → ⊥) → false ≡ self_right s b parent d field
        unfolding self_right
        self-size ne = rw (type-is, eq-eqb type 1 q, own_is, eq-eqb self b r, up_is, eq-eqb up parent v, size_is, ne_eqb size d ne)

        pub self-field : size ≡ d → (f : Bool) → f ≡ same (part s (512 * b + 48) 80) field → f ≡ self_right s b parent d field
        unfolding self_right
        self-field z f e = rw (type-is, eq-eqb type 1 q, own_is, eq-eqb self b r, up_is, eq-eqb up parent v, size_is, eq-eqb size d z) e

pub self-steps : (s : List ℕ) (b parent d : ℕ) (field s₁ s₂ s₃ s₄ s₅ : List ℕ) → s₁ ≡ put_byte s (512 * b) 1 → s₂ ≡ put_number s₁ (512 * b + 4) b → s₃ ≡ put_number s₂ (512 * b + 8) parent
    → s₄ ≡ put_number s₃ (512 * b + 12) d → s₅ ≡ put_field s₄ (512 * b + 48) field → s₅ ≡ self_put s b parent d field
unfolding self_put
self-steps s b parent d field s₁ s₂ s₃ s₄ s₅ e₁ e₂ e₃ e₄ e₅ = rw (e₅, e₄, e₃, e₂, e₁)

-- THE WHOLE
pub end_is : (ds : List ℕ) → 1 ≤ length ds → end_at ds ≡ 512 * get_or ds (length ds - 1) 0 + 384
unfolding slot_at
end_is ds h =
    let q : (4 * length ds - 1) / 4 ≡ length ds - 1 = omega arith in
    let r : (4 * length ds - 1) % 4 ≡ 3 = omega arith in
    rw (q, r)

pub put-done : (s ds : List ℕ) (parent : ℕ) (field m codes : List ℕ) → 1 ≤ length ds → (s₁ c₁ s₂ c₂ m' : List ℕ) (x y : Bool)
    → s₁ ≡ self_put (linked s ds) (get_or ds 0 0) parent (length ds) field → x ≡ same s s₁ → c₁ ≡ coded codes (512 * get_or ds 0 0 + 128 * 0) (cond x 0 3)
    → s₂ ≡ put_byte s₁ (512 * get_or ds (length ds - 1) 0 + 384) 255 → y ≡ same s₁ s₂ → c₂ ≡ coded c₁ (512 * get_or ds (length ds - 1) 0 + 128 * 3) (cond y 0 3)
    → MarkedToo ds m m' → PutDone s ds parent field m codes s₂ m' c₂
unfolding put_directory note
put-done s ds parent field m codes h s₁ c₁ s₂ c₂ m' x y e₁ ex k₁ e₂ ey k₂ M =
    let z : 512 * get_or ds 0 0 + 128 * 0 ≡ 512 * get_or ds 0 0 = omega arith in
    let w : 512 * get_or ds (length ds - 1) 0 + 128 * 3 ≡ end_at ds = sym (end_is ds h) in
    let t₁ : List ℕ = self_put (linked s ds) (get_or ds 0 0) parent (length ds) field in
    let i : s₂ ≡ put_byte t₁ (end_at ds) 255 = e₂ ∙ ap (λ (a : ℕ). put_byte s₁ a 255) (sym (end_is ds h)) ∙ ap (λ (v : List ℕ). put_byte v (end_at ds) 255) e₁ in
    record {
      reached = λ cs K. record {
        image = i;
        marks = M.marks cs K;
        codes-are = k₂ ∙ ap (λ (a : ℕ). coded c₁ a (cond y 0 3)) w
            ∙ ap (λ (v : List ℕ). coded v (end_at ds) (cond y 0 3)) (k₁ ∙ ap (λ (a : ℕ). coded codes a (cond x 0 3)) z ∙ ap (λ (v : Bool). coded codes (512 * get_or ds 0 0) (cond v 0 3)) (ex ∙ ap (same s) e₁))
            ∙ ap (λ (v : Bool). coded (coded codes (512 * get_or ds 0 0) (cond (same s t₁) 0 3)) (end_at ds) (cond v 0 3)) (ey ∙ ap (λ (v : List ℕ). same v s₂) e₁ ∙ ap (same t₁) i);
      };
    }

-- the directory of an entry, whose size is set first
pub adopt-done : (s : List ℕ) (parent e : ℕ) (ds m codes s₁ c₁ field s' m' c' : List ℕ) → s₁ ≡ (sized (st s [] codes) e (length ds)).image → c₁ ≡ (sized (st s [] codes) e (length ds)).codes
    → field ≡ part s (e + 48) 80 → PutDone s₁ ds parent field m c₁ s' m' c' → Adopted s parent e ds m codes s' m' c'
unfolding sized note
adopt-done s parent e ds m codes s₁ c₁ field s' m' c' e₁ e₂ ef D =
    let E : PutDone (put_number s (e + 12) (length ds)) ds parent (part s (e + 48) 80) m (coded codes e (cond (same s (put_number s (e + 12) (length ds))) 0 3)) s' m' c' = rw (e₁, e₂, ef) at D in
    record { reached = E.reached }

pub size-put : (s codes : List ℕ) (b k d v : ℕ) → 512 * b + 512 ≤ length s → d ≤ max_directory → v ≡ be32 s (entry_at b k + 12)
    → cond {A = ℕ} (eqb v d) 0 3 ≡ cond (same s (put_number s (entry_at b k + 12) d)) 0 3
size-put s codes b k d v h l e = ap (λ (x : Bool). cond {A = ℕ} x 0 3) (ap (λ (x : ℕ). eqb x d) e ∙ number-flag s (entry_at b k + 12) d (omega arith) (omega arith))

pub head_bytes : (s ds : List ℕ) (parent : ℕ) (field l s' : List ℕ) → l ≡ linked s ds → s' ≡ self_put l (get_or ds 0 0) parent (length ds) field → s' ≡ self_put (linked s ds) (get_or ds 0 0) parent (length ds) field
head_bytes s ds parent field l s' e f = f ∙ ap (λ (x : List ℕ). self_put x (get_or ds 0 0) parent (length ds) field) e

-- THE END SLOT
module _ (s : List ℕ) (b type : ℕ) (et : type ≡ type_of s (entry_at b 3)) (h : 512 * b + 384 < length s) where
  pub end_kept : type ≡ 255 → s ≡ put_byte s (512 * b + 384) 255
  end_kept z = byte_left s (512 * b + 384) 255 (sym et ∙ z)

  pub end-right : type ≡ 255 → true ≡ same s s
  end-right z = sym (same_refl s)

  module _ (ne : type ≡ 255 → ⊥) (s' : List ℕ) (e : s' ≡ splice s (512 * b + 384) (255 ∷ [])) where
    pub end-stored : s' ≡ put_byte s (512 * b + 384) 255
    end-stored = e ∙ byte-set s (512 * b + 384) 255 (λ z. ne (et ∙ z))

    pub end-wrong : false ≡ same s s'
    end-wrong = sym (ap (same s) end-stored ∙ sym (byte_flag s (512 * b + 384) 255 h) ∙ ne_eqb (type_of s (512 * b + 384)) 255 (λ z. ne (et ∙ z)))

pub sized-is : (s codes : List ℕ) (b k d v : ℕ) → v ≡ be32 s (entry_at b k + 12) → 512 * b + 512 ≤ length s → d ≤ max_directory → (s' c' : List ℕ) → s' ≡ put_number s (512 * b + 128 * (k % 4) + 12) d
    → c' ≡ coded codes (512 * b + 128 * (k % 4)) (cond (eqb v d) 0 3) → (s' ≡ (sized (st s [] codes) (entry_at b k) d).image) × (c' ≡ (sized (st s [] codes) (entry_at b k) d).codes)
unfolding sized note
sized-is s codes b k d v e h l s' c' es ec = (es, ec ∙ ap (λ (x : ℕ). coded codes (entry_at b k) x) (size-put s codes b k d v h l e))

pub put_as : (s ds : List ℕ) (parent : ℕ) (field f m codes s' m' c' : List ℕ) → field ≡ f → PutDone s ds parent field m codes s' m' c' → PutDone s ds parent f m codes s' m' c'
put_as s ds parent field f m codes s' m' c' e D = subst (λ (x : List ℕ). PutDone s ds parent x m codes s' m' c') e D
