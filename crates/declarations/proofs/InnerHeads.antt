-- The impls that can match a reference whose self type has an inner head have one of two keys.
use Rattle.std.proofs.Common.{◌≡◌, ℕ, suc, Bool, true, false, ◌&&◌, ◌||◌, not, List, [], ◌∷◌, Option, Some, None, refl, sym, ap, ◌∙◌}
use Rattle.std.specs.Prelude.{◌==◌}
use Rattle.std.specs.Option.{option_map}
use Rattle.type_terms.specs.Promised.Label.{Label, slice, ref, raw_pointer}
use Rattle.type_terms.specs.Promised.Trees.{Trees, none, tree, erase_label}
use Rattle.type_terms.specs.Codes.{same_label}
use Rattle.type_terms.specs.Promised.Handles.{Entry, trees_at}
use Rattle.type_terms.specs.declared.TraitId.{TraitId}
use Rattle.type_terms.proofs.BooleanBasics.{and-both, and-false}
use Rattle.type_terms.proofs.Made.{false-true}
use Rattle.type_terms.proofs.Matching.{same-label-sound}
use Rattle.type_terms.proofs.TypeBasics.{some-not-none}
use Rattle.term_folds.specs.Signatures.{StartsWithType}
use Rattle.declarations.specs.declared.simplify.SimplifiedType.{SimplifiedType}
use Rattle.declarations.specs.declared.heads.ImplHead.{ImplHead}
use Rattle.declarations.specs.declared.heads.ImplKey.TheVariants.{Shallow, Inner}
use Rattle.declarations.specs.Apart.{has_parts, tops_may_meet, may_meet, levels, are_apart}
use Rattle.declarations.specs.Heads.{is_rigid, head_of, is_pointer, pointee, inner_head_of, is_shallow, label_of, same_self}
use Rattle.declarations.specs.Held.{AreHeld, ImplHeld}
use Rattle.declarations.specs.Index.{has_key, has_inner_key, ids_of}
use Rattle.declarations.specs.Items.{Items, HeldImpl, impl_in}
use Rattle.declarations.specs.Merges.{IsMerge}
use Rattle.declarations.specs.Promised.Elaboration.{Each}
use Rattle.declarations.specs.Relevant.{is_match, matches_in, impl_indices}
use Rattle.declarations.proofs.Matched.{open-match, matched}
use Rattle.declarations.proofs.Meeting.{rigid-closed, closed-tops, head-is}
use Rattle.declarations.proofs.Merging.{merge-filtered}
use Rattle.declarations.proofs.Relevance.{rel, wanted}
use Rattle.declarations.proofs.Walking.{meets}

-- ---- types that can become one have one head, and one inner head
same-tops : (n : ℕ) (l m : Label) (c o d p : Trees) → is_rigid l ≡ true → is_rigid m ≡ true → may_meet (suc n) (tree l c o) (tree m d p) ≡ true
    → (same_label (erase_label l) (erase_label m) ≡ true) × ((not (has_parts l) || may_meet n c d) ≡ true)
same-tops n l m c o d p r q h =
    let s = same_label (erase_label l) (erase_label m) in
    let top = (and-both (tops_may_meet l m (may_meet n c d)) (may_meet (suc n) o p) h).0 in
    and-both s (not (has_parts l) || may_meet n c d) (sym (closed-tops l m s (may_meet n c d) (rigid-closed l r) (rigid-closed m q) refl) ∙ top)

one-head : (n : ℕ) (x y : Trees) (a b : Label) → head_of x ≡ Some a → head_of y ≡ Some b → may_meet (suc n) x y ≡ true → same_label a b ≡ true
one-head n none y a b e f h = absurd cc
one-head n (tree l c o) none a b e f h = absurd cc
one-head n (tree l c o) (tree m d p) a b e f h =
    let u = head-is l a c o e in
    let v = head-is m b d p f in
    ap (λ z. same_label z b) (sym u.1) ∙ ap (same_label (erase_label l)) (sym v.1) ∙ (same-tops n l m c o d p u.0 v.0 h).0

one-inner : (n : ℕ) (x y : Trees) (a b : Label) → inner_head_of x ≡ Some a → inner_head_of y ≡ Some b → may_meet (suc (suc n)) x y ≡ true → same_label a b ≡ true
one-inner n none y a b e f h = absurd cc
one-inner n (tree l c o) none a b e f h = absurd cc
one-inner n (tree l c o) (tree m d p) a b e f h = by l m c d e f h
  where
    by : (l m : Label) (c d : Trees) → head_of (pointee l c) ≡ Some a → head_of (pointee m d) ≡ Some b → may_meet (suc (suc n)) (tree l c o) (tree m d p) ≡ true → same_label a b ≡ true
    by slice slice c d e f h = one-head n c d a b e f (same-tops (suc n) slice slice c o d p refl refl h).1
    by slice (ref v) c d e f h = absurd (false-true h)
    by slice (raw_pointer v) c d e f h = absurd (false-true h)
    by slice m c d e f h = absurd cc
    by (raw_pointer u) (raw_pointer v) c d e f h = one-head n c d a b e f (same-tops (suc n) (raw_pointer u) (raw_pointer v) c o d p refl refl h).1
    by (raw_pointer u) slice c d e f h = absurd (false-true h)
    by (raw_pointer u) (ref v) c d e f h = absurd (false-true h)
    by (raw_pointer u) m c d e f h = absurd cc
    by (ref u) (ref v) none d e f h = absurd cc
    by (ref u) (ref v) (tree k g q) none e f h = absurd cc
    by (ref u) (ref v) (tree k g q) (tree j i r) e f h =
        let parts = (same-tops (suc n) (ref u) (ref v) (tree k g q) o (tree j i r) p refl refl h).1 in
        one-head n q r a b e f (and-both (tops_may_meet k j (may_meet n g i)) (may_meet (suc n) q r) parts).1
    by (ref u) slice c d e f h = absurd (false-true h)
    by (ref u) (raw_pointer v) c d e f h = absurd (false-true h)
    by (ref u) m c d e f h = absurd cc
    by l m c d e f h = absurd cc

-- ---- what has an inner head
pointer-head : (x : Trees) (b : Label) → inner_head_of x ≡ Some b → (a : Label) × (head_of x ≡ Some a) × (is_pointer a ≡ true)
pointer-head none b e = absurd cc
pointer-head (tree l c o) b e = by l e
  where
    by : (l : Label) → head_of (pointee l c) ≡ Some b → (a : Label) × (head_of (tree l c o) ≡ Some a) × (is_pointer a ≡ true)
    by slice e = (slice, refl, refl)
    by (ref u) e = (ref u, refl, refl)
    by (raw_pointer u) e = (raw_pointer u, refl, refl)
    by l e = absurd cc

no-head : (x : Trees) → head_of x ≡ None → inner_head_of x ≡ None
no-head none e = refl
no-head (tree l c o) e = by l e
  where
    by : (l : Label) → head_of (tree l c o) ≡ None → inner_head_of (tree l c o) ≡ None
    by slice e = absurd cc
    by (ref u) e = absurd cc
    by (raw_pointer u) e = absurd cc
    by l e = refl

-- ---- where a header can become one with a type that has an inner head
module _ (x y : Trees) (a b : Label) (head : head_of x ≡ Some a) (pointer : is_pointer a ≡ true) (inner : inner_head_of x ≡ Some b) (meet : may_meet levels x y ≡ true) where
  which : (h k : Option Label) → h ≡ head_of y → k ≡ inner_head_of y → (is_shallow h k || (same_self (Some a) h && same_self (Some b) k)) ≡ wanted (Some a) h
  which None None e f = refl
  which None (Some k) e f = absurd (some-not-none k (f ∙ no-head y (sym e)))
  which (Some m) None e f =
      let one = one-head 8 x y a m head (sym e) meet in
      ap (λ z. z || (same_label a m && false)) (ap is_pointer (sym (same-label-sound a m one)) ∙ pointer) ∙ sym one
  which (Some m) (Some k) e f =
      let one = one-head 8 x y a m head (sym e) meet in
      ap (λ z. z && same_label b k) one ∙ one-inner 7 x y b k inner (sym f) meet ∙ sym one

not-apart-meet : (x y : Trees) → not (are_apart x y) ≡ true → may_meet levels x y ≡ true
not-apart-meet x y h = by _ (may_meet levels x y) h
  where
    by : (p m : Bool) → not (p || not m) ≡ true → m ≡ true
    by p true h = refl
    by true false h = absurd (false-true h)
    by false false h = absurd (false-true h)

together : (t s h k : Bool) → ((t && s) || ((t && h) && k)) ≡ (t && (s || (h && k)))
together true s h k = refl
together false s h k = refl

module _ (t : TraitId) (s : Option SimplifiedType) (u : SimplifiedType) where
  abbrev asked : ImplHead
  asked = record { trait_id = t; self_ty = s }

  -- the two lists
  pub inner-lists : (is : List HeldImpl) → IsMerge (ids_of (has_key (Shallow t)) is) (ids_of (has_key (Inner asked u)) is) (ids_of (has_inner_key asked u) is)
  inner-lists is =
      merge-filtered (λ (i : HeldImpl). i.id) (has_key (Shallow t)) (has_key (Inner asked u)) (has_inner_key asked u) (λ i. refl)
      (λ i. by (i.def.header.def_id.index == t.index) (same_self (option_map label_of s) i.self_head) i.self_head i.inner_head) is
    where
      by : (a m : Bool) (h k : Option Label) → (a && is_shallow h k) ≡ true → ((a && m) && same_self (Some (label_of u)) k) ≡ false
      by true m h None e = sym (and-false m)
      by true m h (Some k) e = absurd (false-true e)
      by false m h k e = absurd (false-true e)

  module _ (es : List Entry) (args : Trees) (starts : StartsWithType args) (head : option_map label_of s ≡ head_of args) (inner : Some (label_of u) ≡ inner_head_of args) where
    wanted-inner : (i : HeldImpl) → i.self_head ≡ head_of (trees_at es i.def.header.args.0) → i.inner_head ≡ inner_head_of (trees_at es i.def.header.args.0) → meets es args i ≡ true
        → (is_shallow i.self_head i.inner_head || (same_self (option_map label_of s) i.self_head && same_self (Some (label_of u)) i.inner_head)) ≡ wanted (head_of args) i.self_head
    wanted-inner i e f m =
        let p = pointer-head args (label_of u) (sym inner) in
        let a : option_map label_of s ≡ Some p.0 = head ∙ p.1 in
        ap (λ z. is_shallow i.self_head i.inner_head || (same_self z i.self_head && same_self (Some (label_of u)) i.inner_head)) a
        ∙ which args (trees_at es i.def.header.args.0) p.0 (label_of u) p.1 p.2 (sym inner) (not-apart-meet args (trees_at es i.def.header.args.0) m) i.self_head i.inner_head e f
        ∙ ap (λ z. wanted z i.self_head) (sym p.1)

    same-test : (i : HeldImpl) → i.self_head ≡ head_of (trees_at es i.def.header.args.0) → i.inner_head ≡ inner_head_of (trees_at es i.def.header.args.0)
        → (has_inner_key asked u i && meets es args i) ≡ (rel t.index (head_of args) i && meets es args i)
    same-test i e f =
        ap (λ b. b && meets es args i) (together own (is_shallow i.self_head i.inner_head) (same_self (option_map label_of s) i.self_head) (same_self (Some (label_of u)) i.inner_head))
        ∙ by (meets es args i) refl
      where
        own : Bool
        own = i.def.header.def_id.index == t.index

        found : Bool
        found = is_shallow i.self_head i.inner_head || (same_self (option_map label_of s) i.self_head && same_self (Some (label_of u)) i.inner_head)

        by : (m : Bool) → meets es args i ≡ m → ((own && found) && m) ≡ ((own && wanted (head_of args) i.self_head) && m)
        by true q = ap (λ w. (own && w) && true) (wanted-inner i e f q)
        by false q = sym (and-false (own && found)) ∙ and-false (own && wanted (head_of args) i.self_head)

    each-inner : (is : List HeldImpl) → Each (λ i. ImplHeld es i.def) is → Each (λ (i : HeldImpl). i.self_head ≡ head_of (trees_at es i.def.header.args.0)) is
        → Each (λ (i : HeldImpl). i.inner_head ≡ inner_head_of (trees_at es i.def.header.args.0)) is
        → Each (λ (i : HeldImpl). (has_inner_key asked u i && meets es args i) ≡ is_match t.index args (impl_in es i.id i.def)) is
    each-inner [] h e f = tt
    each-inner (i ∷ is) h e f = (same-test i e.0 f.0 ∙ open-match es t.index args starts i h.0 e.0, each-inner is h.1 e.1 f.1)

    pub inner-matching : (d : Items) → AreHeld es d
        → impl_indices (ids_of (λ i. has_inner_key asked u i && meets es args i) d.impls) ≡ matches_in es d (record { trait = t.index; args = args })
    inner-matching d h = matched es t.index args (λ i. has_inner_key asked u i && meets es args i) d.impls (each-inner d.impls h.impls h.heads h.inner)
