-- The impls that can match a reference are, by heads, handles and the first levels, those that do.
use Rattle.std.proofs.Common.{◌≡◌, ℕ, Bool, true, false, ◌&&◌, ◌||◌, not, List, [], ◌∷◌, Option, Some, None, refl, sym, ap, ◌∙◌}
use Rattle.std.specs.Prelude.{◌==◌, map, filter}
use Rattle.std.specs.Option.{option_map}
use Rattle.type_terms.specs.Promised.Label.{Label}
use Rattle.type_terms.specs.Promised.Trees.{Trees, none, tree, erase}
use Rattle.type_terms.specs.Codes.{same}
use Rattle.type_terms.proofs.Applies.{same-complete}
use Rattle.type_terms.proofs.Made.{false-true}
use Rattle.type_terms.proofs.Matching.{same-sound}
use Rattle.type_terms.proofs.Members.{same-number, self-number}
use Rattle.type_terms.specs.Promised.Handles.{Entry, Has, trees_at}
use Rattle.type_terms.specs.Terms.{Lawful, args_lists}
use Rattle.type_terms.specs.declared.TraitId.{TraitId}
use Rattle.term_folds.specs.Signatures.{StartsWithType}
use Rattle.term_folds.specs.declared.predicate.TraitRef.{TraitRef}
use Rattle.declarations.specs.declared.simplify.SimplifiedType.{SimplifiedType}
use Rattle.declarations.specs.declared.heads.ImplKey.TheVariants.{Open, Fixed}
use Rattle.declarations.specs.Apart.{is_fixed, are_apart}
use Rattle.declarations.specs.Heads.{head_of, label_of, same_self}
use Rattle.declarations.specs.Held.{AreHeld, ReferenceHeld, ImplHeld}
use Rattle.declarations.specs.Index.{has_key, has_open_head, ids_of}
use Rattle.declarations.specs.Items.{Items, HeldImpl, impl_in, reference_in}
use Rattle.declarations.specs.Promised.Elaboration.{Each}
use Rattle.declarations.specs.Merges.{IsMerge}
use Rattle.declarations.specs.Relevant.{is_relevant_to, is_match, matches_in, impl_indices}
use Rattle.declarations.proofs.Keys.{same-self-itself}
use Rattle.declarations.proofs.Meeting.{one-handle, not-apart-itself, fixed-apart}
use Rattle.declarations.proofs.Merging.{merge-filtered}
use Rattle.declarations.proofs.Relevance.{rel, wanted, relevant-one, one-more}
use Rattle.declarations.proofs.Walking.{meets}

-- ---- handles
-- arguments are one exactly if their handles are
same-handles : (es : List Entry) → Lawful es → (i j : ℕ) → Has es args_lists i → Has es args_lists j → (i == j) ≡ same (trees_at es j) (trees_at es i)
same-handles es law i j h g = by (i == j) (same (trees_at es j) (trees_at es i)) refl refl
  where
    by : (a b : Bool) → (i == j) ≡ a → same (trees_at es j) (trees_at es i) ≡ b → a ≡ b
    by true true p q = refl
    by true false p q =
        let bad : true ≡ false = sym (same-complete (trees_at es j) (trees_at es i) (ap (trees_at es) (sym (same-number i j p)))) ∙ q in absurd cc
    by false true p q =
        let one = one-handle es law args_lists i j h g (sym (same-sound (trees_at es j) (trees_at es i) q)) in
        let bad : true ≡ false = sym (ap (λ n. n == j) one ∙ self-number j) ∙ p in absurd cc
    by false false p q = refl

-- two fixed lists are apart exactly if they are two
fixed-are-apart : (x y : Trees) → is_fixed x ≡ true → is_fixed y ≡ true → are_apart x y ≡ not (same x y)
fixed-are-apart x y f g = by (same x y) refl
  where
    by : (b : Bool) → same x y ≡ b → are_apart x y ≡ not b
    by true e = sym (not-apart-itself x y (same-sound x y e))
    by false e = sym (fixed-apart x y (ap (λ b. b && is_fixed y) f ∙ g) (λ q. false-true (sym e ∙ same-complete x y q)))

-- ---- tests
joined : (a w n : Bool) → ((a && w) && n) ≡ (a && (w && n))
joined true w n = refl
joined false w n = refl

-- of a fixed reference. a: the trait's; n: no head; m: of the head; f: fixed; e: the reference itself; x: apart
met : (a n m f e x : Bool) → (e ≡ true → (n || m) ≡ true) → (f ≡ true → x ≡ not e)
    → (((((a && n) && not f) || ((a && m) && not f)) && not x) || (f && (a && e))) ≡ (a && ((n || m) && not x))
met true true true true true x g h = ap not (sym (h refl))
met true true true true false x g h = ap not (sym (h refl))
met true true false true true x g h = ap not (sym (h refl))
met true true false true false x g h = ap not (sym (h refl))
met true false true true true x g h = ap not (sym (h refl))
met true false true true false x g h = ap not (sym (h refl))
met true false false true true x g h = absurd (false-true (g refl))
met true false false true false x g h = refl
met true true true false e true g h = refl
met true true true false e false g h = refl
met true true false false e true g h = refl
met true true false false e false g h = refl
met true false true false e true g h = refl
met true false true false e false g h = refl
met true false false false e x g h = refl
met false n m true e x g h = refl
met false n m false e x g h = refl

-- ---- one impl
module _ (es : List Entry) (t : ℕ) (args : Trees) (starts : StartsWithType args) where
  relevant-is : (i : HeldImpl) → ImplHeld es i.def → i.self_head ≡ head_of (trees_at es i.def.header.args.0)
      → is_relevant_to (erase args) (erase (trees_at es i.def.header.args.0)) ≡ wanted (head_of args) i.self_head
  relevant-is i h e = by args starts
    where
      by : (A : Trees) → StartsWithType A → is_relevant_to (erase A) (erase (trees_at es i.def.header.args.0)) ≡ wanted (head_of A) i.self_head
      by none s = absurd s
      by (tree l c o) s = relevant-one l c o (trees_at es i.def.header.args.0) h.begins ∙ ap (wanted (head_of (tree l c o))) (sym e)

  pub open-match : (i : HeldImpl) → ImplHeld es i.def → i.self_head ≡ head_of (trees_at es i.def.header.args.0)
      → (rel t (head_of args) i && meets es args i) ≡ is_match t args (impl_in es i.id i.def)
  open-match i h e =
      joined (i.def.header.def_id.index == t) (wanted (head_of args) i.self_head) (meets es args i)
      ∙ ap (λ w. (i.def.header.def_id.index == t) && (w && meets es args i)) (sym (relevant-is i h e))

-- ---- all of them
pub matched : (es : List Entry) (t : ℕ) (args : Trees) (p : HeldImpl → Bool) (is : List HeldImpl) → Each (λ (i : HeldImpl). p i ≡ is_match t args (impl_in es i.id i.def)) is
    → impl_indices (ids_of p is) ≡ map (λ i. i.name) (filter (is_match t args) (map (λ i. impl_in es i.id i.def) is))
matched es t args p [] h = refl
matched es t args p (i ∷ is) h =
    one-more (p i) (is_match t args (impl_in es i.id i.def)) i (impl_in es i.id i.def) (filter p is) (filter (is_match t args) (map (λ i. impl_in es i.id i.def) is)) refl h.0 (matched es t args p is h.1)

each-open : (es : List Entry) (t : ℕ) (args : Trees) → StartsWithType args → (is : List HeldImpl) → Each (λ i. ImplHeld es i.def) is
    → Each (λ (i : HeldImpl). i.self_head ≡ head_of (trees_at es i.def.header.args.0)) is
    → Each (λ (i : HeldImpl). (rel t (head_of args) i && meets es args i) ≡ is_match t args (impl_in es i.id i.def)) is
each-open es t args s [] h e = tt
each-open es t args s (i ∷ is) h e = (open-match es t args s i h.0 e.0, each-open es t args s is h.1 e.1)

pub open-matching : (es : List Entry) (d : Items) (t : ℕ) (args : Trees) → StartsWithType args → AreHeld es d
    → impl_indices (ids_of (λ i. rel t (head_of args) i && meets es args i) d.impls) ≡ matches_in es d (record { trait = t; args = args })
open-matching es d t args s h = matched es t args (λ i. rel t (head_of args) i && meets es args i) d.impls (each-open es t args s d.impls h.impls h.heads)

-- ---- of a fixed reference
-- the header is not fixed, and has that head or none
abbrev pub is_open_of : TraitId → Option SimplifiedType → HeldImpl → Bool
is_open_of t s i = has_key (Open (record { trait_id = t; self_ty = None })) i || has_open_head t s i

-- without a head there is none
pub nothing-headed : (t : TraitId) (is : List HeldImpl) → [] ≡ ids_of (has_open_head t None) is
nothing-headed t [] = refl
nothing-headed t (i ∷ is) = nothing-headed t is

-- the two lists of these
pub open-lists : (t : TraitId) (s : Option SimplifiedType) (is : List HeldImpl)
    → IsMerge (ids_of (has_key (Open (record { trait_id = t; self_ty = None }))) is) (ids_of (has_open_head t s) is) (ids_of (is_open_of t s) is)
open-lists t s is =
    merge-filtered (λ (i : HeldImpl). i.id) (has_key (Open (record { trait_id = t; self_ty = None }))) (has_open_head t s) (is_open_of t s) (λ i. refl) (other s) is
  where
    other : (s : Option SimplifiedType) (i : HeldImpl) → has_key (Open (record { trait_id = t; self_ty = None })) i ≡ true → has_open_head t s i ≡ false
    other None i h = refl
    other (Some x) i h = by (i.def.header.def_id.index == t.index) i.self_head (not i.is_fixed) h
      where
        by : (a : Bool) (k : Option Label) (f : Bool) → ((a && same_self None k) && f) ≡ true → ((a && same_self (Some (label_of x)) k) && f) ≡ false
        by true None f h = refl
        by true (Some k) f h = absurd (false-true h)
        by false k f h = absurd (false-true h)

module _ (es : List Entry) (law : Lawful es) (r : TraitRef) (held : ReferenceHeld es r) (starts : StartsWithType (trees_at es r.args.0)) (s : Option SimplifiedType)
    (head : option_map label_of s ≡ head_of (trees_at es r.args.0)) (closed : is_fixed (trees_at es r.args.0) ≡ true) where
  abbrev asked : Trees
  asked = trees_at es r.args.0

  -- it is not apart and its header is open, or its header is the reference
  abbrev pub can_meet : HeldImpl → Bool
  can_meet i = (is_open_of r.def_id s i && meets es asked i) || has_key (Fixed r) i

  abbrev headed : Option SimplifiedType → HeldImpl → Bool
  headed None i = false
  headed (Some x) i = same_self (Some (label_of x)) i.self_head

  open-headed : (o : Option SimplifiedType) (i : HeldImpl) → has_open_head r.def_id o i ≡ (((i.def.header.def_id.index == r.def_id.index) && headed o i) && not i.is_fixed)
  open-headed None i = by (i.def.header.def_id.index == r.def_id.index)
    where
      by : (a : Bool) → false ≡ ((a && false) && not i.is_fixed)
      by true = refl
      by false = refl
  open-headed (Some x) i = refl

  either-headed : (o : Option SimplifiedType) (i : HeldImpl) → (same_self None i.self_head || headed o i) ≡ wanted (option_map label_of o) i.self_head
  either-headed None i = by (same_self None i.self_head)
    where
      by : (b : Bool) → (b || false) ≡ b
      by true = refl
      by false = refl
  either-headed (Some x) i = refl

  wanted-itself : (k : Option Label) → wanted k k ≡ true
  wanted-itself None = refl
  wanted-itself (Some l) = same-self-itself (Some l)

  fixed-match : (i : HeldImpl) → ImplHeld es i.def → i.self_head ≡ head_of (trees_at es i.def.header.args.0) → i.is_fixed ≡ is_fixed (trees_at es i.def.header.args.0)
      → can_meet i ≡ is_match r.def_id.index asked (impl_in es i.id i.def)
  fixed-match i h e f =
      let H = trees_at es i.def.header.args.0 in
      let a = i.def.header.def_id.index == r.def_id.index in
      let one = i.def.header.args.0 == r.args.0 in
      let x = are_apart asked H in
      ap (λ b. ((has_key (Open (record { trait_id = r.def_id; self_ty = None })) i || b) && meets es asked i) || has_key (Fixed r) i) (open-headed s i)
      ∙ met a (same_self None i.self_head) (headed s i) i.is_fixed one x itself two
      ∙ ap (λ w. a && (w && not x)) (either-headed s i ∙ ap (λ k. wanted k i.self_head) head ∙ sym (relevant-is es r.def_id.index asked starts i h e))
    where
      itself : (i.def.header.args.0 == r.args.0) ≡ true → (same_self None i.self_head || headed s i) ≡ true
      itself q =
          either-headed s i
          ∙ ap (λ k. wanted k i.self_head) (head ∙ ap (λ n. head_of (trees_at es n)) (sym (same-number i.def.header.args.0 r.args.0 q)) ∙ sym e)
          ∙ wanted-itself i.self_head

      two : i.is_fixed ≡ true → are_apart asked (trees_at es i.def.header.args.0) ≡ not (i.def.header.args.0 == r.args.0)
      two q =
          fixed-are-apart asked (trees_at es i.def.header.args.0) closed (sym f ∙ q)
          ∙ ap not (sym (same-handles es law i.def.header.args.0 r.args.0 h.header held))

  each-fixed : (is : List HeldImpl) → Each (λ i. ImplHeld es i.def) is → Each (λ (i : HeldImpl). i.self_head ≡ head_of (trees_at es i.def.header.args.0)) is
      → Each (λ (i : HeldImpl). i.is_fixed ≡ is_fixed (trees_at es i.def.header.args.0)) is
      → Each (λ (i : HeldImpl). can_meet i ≡ is_match r.def_id.index asked (impl_in es i.id i.def)) is
  each-fixed [] h e f = tt
  each-fixed (i ∷ is) h e f = (fixed-match i h.0 e.0 f.0, each-fixed is h.1 e.1 f.1)

  pub fixed-matching : (d : Items) → AreHeld es d → impl_indices (ids_of can_meet d.impls) ≡ matches_in es d (reference_in es r)
  fixed-matching d h = matched es r.def_id.index asked can_meet d.impls (each-fixed d.impls h.impls h.heads h.fixed)
