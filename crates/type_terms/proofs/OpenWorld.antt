-- In a linked set, a rule instance that is not in a crate's view, and whose premises have proofs, concludes a trait
-- reference that is not knowable to the crate.
use Rattle.std.proofs.Common.{◌≡◌, ℕ, zero, suc, Bool, true, false, List, [], ◌∷◌, ◌++◌, refl, ap, sym, ◌∙◌, ◌&&◌, ◌==◌, not, if◌then◌else◌, subst, ◌⊎◌, inl, inr, None, IsTrue, filter, length}
use Rattle.std.specs.List.{flat_map, list_all, list_any}
use Rattle.type_terms.specs.Promised.Label.{array, slice, dynamic, adt, ref, raw_pointer}
use Rattle.type_terms.specs.Promised.Trees.{Trees, none, tree, some_node}
use Rattle.type_terms.specs.Trees.{arguments}
use Rattle.type_terms.specs.Promised.Worlds.{World, Reference, StructDecl, TraitDecl, ImplDecl, structs_named, traits_named, sees, view_of, all_with_args}
use Rattle.type_terms.specs.Promised.Walks.{struct_is, visited, until_decisive, open_walk, seen, is_known, Met, local, entered, struct_leaf}
use Rattle.type_terms.specs.Promised.Rules.{BuiltIn, sized_struct, auto_struct, object_auto, object_principal, equal_rows, unsize_struct, built_in, Rule, rules, impl_rules, built_in_rules, plain_rules, sized_rules, auto_rules, auto_rules_plain, unsize_rules, unsize_array_rules, unsize_to_dyn_rules, unsize_upcast_rules, unsize_struct_rules, some_unsizing, with_unsizing, last_unsizes, object_bound_rules, object_rules, principal_with, autos_with, same_reference, elaborated, is_declared, are_dyn_compatible, is_auto, is_written, same_head, sized, unsize, strict_supertraits, strict_supertraits_within, written_supertraits, row, last_asked, each_asked, fields_of}
use Rattle.type_terms.specs.Promised.Proofs.{In, Every, HasProof}
use Rattle.type_terms.specs.Promised.Answers.{is_closed, is_open}
use Rattle.type_terms.specs.Promised.Renumbering.{View}
use Rattle.type_terms.specs.Promised.LinkedSet.{JoinedSet, LinkedSet}
use Rattle.type_terms.specs.LinkedSet.{Unknown}
use Rattle.type_terms.specs.Promised.Versions.{sees_struct, sees_trait, in_scope}
use Rattle.type_terms.proofs.Members.{here, in-cases, in-nothing, in-filter, filter-in, some-member, member-some, in-append, in-left, in-right, in-flat, flat-in, true-or-false, not-both, so-false, same-number}
use Rattle.type_terms.proofs.Walking.{left, right, nobody}
use Rattle.type_terms.proofs.Unseen.{OneEach, struct-there, trait-there, walk-lemma}
use Rattle.type_terms.proofs.Fitting.{ByImpl, impl-rule, closed-arguments, not-true}
use Rattle.type_terms.proofs.CoreThere.{sized-bare, unsize-bare}
use Rattle.type_terms.proofs.DynRows.{sees-all, same-object-bounds, same-to-dyn, same-upcast, unseen-dyn, unseen-target}
use Rattle.type_terms.specs.Codes.{same}

-- A trait without bounds has no supertraits
abbrev pub Bare : World → ℕ → Type 0
Bare W t = (x : TraitDecl) → In x W.traits → x.name ≡ t → x.bounds ≡ []

none-flat : {A B : Type 0} (f : A → List B) (xs : List A) → ((x : A) → In x xs → f x ≡ []) → flat_map f xs ≡ []
none-flat f [] h = refl
none-flat {A = A} {B = B} f (x ∷ xs) h =
    subst (λ (z : List B). z ++ flat_map f xs ≡ []) (sym (h x (here x xs))) (none-flat f xs (λ y g. h y (suc g.0, g.1)))

bare-written : (W : World) (t : ℕ) (args : Trees) → Bare W t → written_supertraits W (record { trait = t; args = args }) ≡ []
bare-written W t args b = none-flat _ (traits_named W t) (λ x g. at x (in-filter (λ (y : TraitDecl). y.name == t) W.traits x g))
  where
    at : (x : TraitDecl) → In x W.traits × ((x.name == t) ≡ true) → all_with_args args x.bounds ≡ []
    at x m = ap (all_with_args args) (b x m.0 (same-number x.name t m.1))

pub bare-within : (n : ℕ) (W : World) (t : ℕ) (args : Trees) → Bare W t → strict_supertraits_within n W (record { trait = t; args = args }) ≡ []
bare-within zero W t args b = refl
bare-within (suc n) W t args b = ap (flat_map (λ s. s ∷ strict_supertraits_within n W s)) (bare-written W t args b)

bare-supers : (W : World) (t : ℕ) (args : Trees) → Bare W t → Every (HasProof W []) (strict_supertraits W (record { trait = t; args = args }))
bare-supers W t args b = subst (Every (HasProof W [])) (sym (bare-within (length W.traits) W t args b)) tt

-- What c doesn't see makes a reference unknown
unseen-trait : (W : World) (c t : ℕ) (args : Trees) → sees_trait W c t ≡ false → is_known W c (record { trait = t; args = args }) ≡ false
unseen-trait W c t args e = so-false _ (λ g. not-both (sees_trait W c t) (left (sees_trait W c t) _ g) e)

unseen-self : (W : World) (c t s : ℕ) (k o : Trees) → sees_struct W c s ≡ false → is_known W c (record { trait = t; args = tree (adt s) k o }) ≡ false
unseen-self W c t s k o e = so-false _ (λ g. not-both (sees_struct W c s) (found g) e)
  where
    first : (b0 b2 : Bool) (xs ys : List Met) → b0 ≡ false
        → list_all (seen W c) (until_decisive ((if b0 then local ∷ [] else if b2 then entered s ∷ xs else struct_leaf s ∷ []) ++ ys)) ≡ true → sees_struct W c s ≡ true
    first true b2 xs ys z h = cc
    first false true xs ys z h = left (sees_struct W c s) _ h
    first false false xs ys z h = left (sees_struct W c s) _ h

    found : is_known W c (record { trait = t; args = tree (adt s) k o }) ≡ true → sees_struct W c s ≡ true
    found g =
        first (struct_is (λ x. false) W s) (struct_is (λ x. x.is_fundamental) W s) (visited W None k) (visited W None o) (nobody (structs_named W s))
        (left (list_all (seen W c) (open_walk W (record { trait = t; args = tree (adt s) k o }))) _ (right (sees_trait W c t) _ g))

-- a declared struct: c sees it, and then its view has it, or c sees no struct of that name
struct-split : (W : World) → OneEach W → (c s : ℕ) (x : StructDecl) → In x (structs_named W s) → In x (structs_named (view_of W c) s) ⊎ (sees_struct W c s ≡ false)
struct-split W one c s x h = by (true-or-false (sees W c x.home))
  where
    m : In x W.structs × ((x.name == s) ≡ true)
    m = in-filter (λ (y : StructDecl). y.name == s) W.structs x h

    by : (sees W c x.home ≡ true) ⊎ (sees W c x.home ≡ false) → In x (structs_named (view_of W c) s) ⊎ (sees_struct W c s ≡ false)
    by (inl e) = inl (filter-in (λ (y : StructDecl). y.name == s) (view_of W c).structs x (filter-in (λ (y : StructDecl). sees W c y.home) W.structs x m.0 e) m.1)
    by (inr e) = inr (so-false _ (λ g. no (struct-there (λ y. sees W c y.home) W s g)))
      where
        no : (y : StructDecl) × In y W.structs × (y.name ≡ s) × (sees W c y.home ≡ true) → ⊥
        no y = not-both (sees W c x.home) (subst (λ (z : StructDecl). sees W c z.home ≡ true) (one.0 y.0 x y.1 m.0 (y.2 ∙ sym (same-number x.name s m.1))) y.3) e

trait-split : (W : World) → OneEach W → (c t : ℕ) (x : TraitDecl) → In x (traits_named W t) → In x (traits_named (view_of W c) t) ⊎ (sees_trait W c t ≡ false)
trait-split W one c t x h = by (true-or-false (sees W c x.home))
  where
    m : In x W.traits × ((x.name == t) ≡ true)
    m = in-filter (λ (y : TraitDecl). y.name == t) W.traits x h

    by : (sees W c x.home ≡ true) ⊎ (sees W c x.home ≡ false) → In x (traits_named (view_of W c) t) ⊎ (sees_trait W c t ≡ false)
    by (inl e) = inl (filter-in (λ (y : TraitDecl). y.name == t) (view_of W c).traits x (filter-in (λ (y : TraitDecl). sees W c y.home) W.traits x m.0 e) m.1)
    by (inr e) = inr (so-false _ (λ g. no (trait-there (λ y. sees W c y.home) W t g)))
      where
        no : (y : TraitDecl) × In y W.traits × (y.name ≡ t) × (sees W c y.home ≡ true) → ⊥
        no y = not-both (sees W c x.home) (subst (λ (z : TraitDecl). sees W c z.home ≡ true) (one.1 y.0 x y.1 m.0 (y.2 ∙ sym (same-number x.name t m.1))) y.3) e

-- Rules by a struct's fields
by-fields : (W : World) → OneEach W → (c t s : ℕ) (k o : Trees) (f : StructDecl → List Rule) (u : Rule) → Bare W t → In u (flat_map f (structs_named W s))
    → In u (flat_map f (structs_named (view_of W c) s)) ⊎ Unknown W c (record { trait = t; args = tree (adt s) k o })
by-fields W one c t s k o f u b h = by (struct-split W one c s m.0 m.1)
  where
    m : (x : StructDecl) × In x (structs_named W s) × In u (f x)
    m = in-flat f (structs_named W s) u h

    by : In m.0 (structs_named (view_of W c) s) ⊎ (sees_struct W c s ≡ false)
        → In u (flat_map f (structs_named (view_of W c) s)) ⊎ Unknown W c (record { trait = t; args = tree (adt s) k o })
    by (inl e) = inl (flat-in f (structs_named (view_of W c) s) m.0 u e m.2)
    by (inr e) = inr (record { unknown = unseen-self W c t s k o e; supers_stand = bare-supers W t (tree (adt s) k o) b })

sized-row : (W : World) → OneEach W → (c t : ℕ) → Bare W t → (a : Trees) (u : Rule) → In u (sized_rules W a)
    → In u (sized_rules (view_of W c) a) ⊎ Unknown W c (record { trait = t; args = a })
sized-row W one c t b none u h = inl h
sized-row W one c t b (tree (adt s) k o) u h = by-fields W one c t s k o (λ x. row sized_struct (last_asked sized (fields_of x k))) u b h
sized-row W one c t b (tree l k o) u h = inl h

auto-row : (W : World) → OneEach W → (c t : ℕ) → Bare W t → (a : Trees) (u : Rule) → In u (auto_rules_plain W t a)
    → In u (auto_rules_plain (view_of W c) t a) ⊎ Unknown W c (record { trait = t; args = a })
auto-row W one c t b none u h = inl h
auto-row W one c t b (tree (adt s) k o) u h = by-fields W one c t s k o (λ x. row auto_struct (each_asked t (fields_of x k))) u b h
auto-row W one c t b (tree (raw_pointer _) none p) u h = inl h
auto-row W one c t b (tree (raw_pointer _) (tree l k o) p) u h = inl h
auto-row W one c t b (tree array none p) u h = inl h
auto-row W one c t b (tree array (tree l k o) p) u h = inl h
auto-row W one c t b (tree slice none p) u h = inl h
auto-row W one c t b (tree slice (tree l k o) p) u h = inl h
auto-row W one c t b (tree (ref _) none p) u h = inl h
auto-row W one c t b (tree (ref _) (tree r rc none) p) u h = inl h
auto-row W one c t b (tree (ref _) (tree r rc (tree l k o)) p) u h = inl h
auto-row W one c t b (tree l k o) u h = inl h

-- no impl of W switches the rule off, so none of the view does
pub fewer : {A : Type 0} (p q : A → Bool) (xs : List A) → list_any p xs ≡ false → list_any p (filter q xs) ≡ false
fewer p q xs h = so-false _ (λ g. no (some-member p (filter q xs) g))
  where
    no : (x : _) × In x (filter q xs) × (p x ≡ true) → ⊥
    no x = not-both (list_any p xs) (member-some p xs x.0 (in-filter q xs x.0 x.1).0 x.2) h

auto-rules-row : (W : World) → OneEach W → (c t : ℕ) → Bare W t → (a : Trees) (u : Rule) → In u (auto_rules W t a)
    → In u (auto_rules (view_of W c) t a) ⊎ Unknown W c (record { trait = t; args = a })
auto-rules-row W one c t b none u h = inl h
auto-rules-row W one c t b (tree l k o) u h = by (is_written W t l) (is_written (view_of W c) t l) refl refl h
  where
    by : (v w : Bool) → is_written W t l ≡ v → is_written (view_of W c) t l ≡ w → In u (if v then [] else auto_rules_plain W t (tree l k o))
        → In u (if w then [] else auto_rules_plain (view_of W c) t (tree l k o)) ⊎ Unknown W c (record { trait = t; args = tree l k o })
    by true w e f g = absurd (in-nothing u g)
    by false true e f g = absurd (not-both (is_written (view_of W c) t l) f (fewer (λ (i : ImplDecl). (i.header.trait == t) && same_head l i.header.args) (λ (i : ImplDecl). sees W c i.home) W.impls e))
    by false false e f g = auto-row W one c t b (tree l k o) u g

-- All built-in rules of a linked set
when : (b : Bool) (xs ys : List Rule) (u : Rule) (X : Type 0) → (b ≡ true → In u xs → In u ys ⊎ X) → In u (if b then xs else []) → In u (if b then ys else []) ⊎ X
when true xs ys u X f h = f refl h
when false xs ys u X f h = absurd (in-nothing u h)

where-true : (b : Bool) (xs : List Rule) (u : Rule) → b ≡ true → In u xs → In u (if b then xs else [])
where-true true xs u e h = h
where-true false xs u e h = cc

pub was-true : (b : Bool) (xs : List Rule) (u : Rule) → In u (if b then xs else []) → (b ≡ true) × In u xs
was-true true xs u h = (refl, h)
was-true false xs u h = absurd (in-nothing u h)

left-part : (X : Type 0) (u : Rule) (xs ys zs : List Rule) → In u xs ⊎ X → In u (xs ++ ys) ⊎ X
left-part X u xs ys zs (inl h) = inl (in-left u xs ys h)
left-part X u xs ys zs (inr x) = inr x

right-part : (X : Type 0) (u : Rule) (xs ys : List Rule) → In u ys ⊎ X → In u (xs ++ ys) ⊎ X
right-part X u xs ys (inl h) = inl (in-right u xs ys h)
right-part X u xs ys (inr x) = inr x

-- either part of a list of rules, each within the part of the other list
parts : (X : Type 0) (u : Rule) (xs ys xs' ys' : List Rule) → (In u xs → In u xs' ⊎ X) → (In u ys → In u ys' ⊎ X) → In u (xs ++ ys) → In u (xs' ++ ys') ⊎ X
parts X u xs ys xs' ys' f g h = by (in-append u xs ys h)
  where
    by : In u xs ⊎ In u ys → In u (xs' ++ ys') ⊎ X
    by (inl e) = left-part X u xs' ys' [] (f e)
    by (inr e) = right-part X u xs' ys' (g e)

auto-part : (W : World) → OneEach W → ((x : TraitDecl) → In x W.traits → x.is_auto ≡ true → x.bounds ≡ []) → (c t : ℕ) (a : Trees) (u : Rule)
    → In u (if is_auto W t then auto_rules W t a else [])
    → In u (if is_auto (view_of W c) t then auto_rules (view_of W c) t a else []) ⊎ Unknown W c (record { trait = t; args = a })
auto-part W one ab c t a u h = by (trait-split W one c t x.0 x.1)
  where
    w : (is_auto W t ≡ true) × In u (auto_rules W t a)
    w = was-true (is_auto W t) (auto_rules W t a) u h

    x : (x : TraitDecl) × In x (traits_named W t) × (x.is_auto ≡ true)
    x = some-member (λ (y : TraitDecl). y.is_auto) (traits_named W t) w.0

    m : In x.0 W.traits × ((x.0.name == t) ≡ true)
    m = in-filter (λ (y : TraitDecl). y.name == t) W.traits x.0 x.1

    b : Bare W t
    b y g n = ab y g (ap (λ (z : TraitDecl). z.is_auto) (one.1 y x.0 g m.0 (n ∙ sym (same-number x.0.name t m.1))) ∙ x.2)

    by : In x.0 (traits_named (view_of W c) t) ⊎ (sees_trait W c t ≡ false)
        → In u (if is_auto (view_of W c) t then auto_rules (view_of W c) t a else []) ⊎ Unknown W c (record { trait = t; args = a })
    by (inl e) = seen-one (auto-rules-row W one c t b a u w.1)
      where
        seen-one : In u (auto_rules (view_of W c) t a) ⊎ Unknown W c (record { trait = t; args = a })
            → In u (if is_auto (view_of W c) t then auto_rules (view_of W c) t a else []) ⊎ Unknown W c (record { trait = t; args = a })
        seen-one (inl q) = inl (where-true (is_auto (view_of W c) t) (auto_rules (view_of W c) t a) u (member-some (λ (y : TraitDecl). y.is_auto) (traits_named (view_of W c) t) x.0 e x.2) q)
        seen-one (inr q) = inr q
    by (inr e) = inr (record { unknown = unseen-trait W c t a e; supers_stand = bare-supers W t a b })

-- The rows of `dyn` and of unsizing
row-premises : (n : BuiltIn) (ps : List Reference) (u : Rule) → In u (row n ps) → u.premises ≡ ps
row-premises n ps u h = by (in-cases u (record { way = built_in n; premises = ps }) [] h)
  where
    by : (record { way = built_in n; premises = ps } ≡ u) ⊎ In u [] → u.premises ≡ ps
    by (inl e) = ap (λ (v : Rule). v.premises) (sym e)
    by (inr e) = absurd (in-nothing u e)

-- so do all rows for equal references
equal-premises : (b : ℕ → BuiltIn) (ps : List Reference) (r : Reference) (k : ℕ) (ss : List Reference) (u : Rule) → In u (equal_rows b ps r k ss) → u.premises ≡ ps
equal-premises b ps r k [] u h = absurd (in-nothing u h)
equal-premises b ps r k (s ∷ ss) u h = by (in-append u (if same_reference r s then row (b k) ps else []) (equal_rows b ps r (suc k) ss) h) (equal-premises b ps r (suc k) ss u)
  where
    by : In u (if same_reference r s then row (b k) ps else []) ⊎ In u (equal_rows b ps r (suc k) ss) → (In u (equal_rows b ps r (suc k) ss) → u.premises ≡ ps) → u.premises ≡ ps
    by (inl g) f = row-premises (b k) ps u (was-true (same_reference r s) (row (b k) ps) u g).1
    by (inr g) f = f g

-- object bounds ask for the supertraits
pub object-premises : (W : World) (r : Reference) (ps qs : List Reference) (u : Rule) → In u (object_bound_rules W r ps qs) → u.premises ≡ strict_supertraits W r
object-premises W r ps qs u h = by (in-append u autos principal (was-true (is_declared W r.trait && are_dyn_compatible W ps) (autos ++ principal) u h).1)
  where
    autos : List Rule
    autos = if not (r.trait == sized) && list_any (same_reference r) qs then row object_auto (strict_supertraits W r) else []

    principal : List Rule
    principal = if not (r.trait == sized) then equal_rows object_principal (strict_supertraits W r) r 0 (elaborated W ps) else []

    by : In u autos ⊎ In u principal → u.premises ≡ strict_supertraits W r
    by (inl g) = row-premises object_auto (strict_supertraits W r) u (was-true (not (r.trait == sized) && list_any (same_reference r) qs) (row object_auto (strict_supertraits W r)) u g).1
    by (inr g) =
        equal-premises object_principal (strict_supertraits W r) r 0 (elaborated W ps) u
        (was-true (not (r.trait == sized)) (equal_rows object_principal (strict_supertraits W r) r 0 (elaborated W ps)) u g).1

object-row : (W : World) (vs : List View) (rank : ℕ → ℕ) (l : JoinedSet W vs rank) (c t : ℕ) (a : Trees) (u : Rule) → Every (HasProof W []) u.premises
    → In u (object_rules W (record { trait = t; args = a }) a) → In u (object_rules (view_of W c) (record { trait = t; args = a }) a) ⊎ Unknown W c (record { trait = t; args = a })
object-row W vs rank l c t none u ps h = inl h
object-row W vs rank l c t (tree dynamic k o) u ps h = by (true-or-false (sees_trait W c t)) (true-or-false (sees-all W vs rank l c p))
  where
    r : Reference
    r = record { trait = t; args = tree dynamic k o }

    p : List Reference
    p = principal_with (tree dynamic k none) k

    q : List Reference
    q = autos_with (tree dynamic k none) k

    supers : Every (HasProof W []) (strict_supertraits W r)
    supers = subst (Every (HasProof W [])) (object-premises W r p q u h) ps

    by : (sees_trait W c t ≡ true) ⊎ (sees_trait W c t ≡ false) → (sees-all W vs rank l c p ≡ true) ⊎ (sees-all W vs rank l c p ≡ false)
        → In u (object_bound_rules (view_of W c) r p q) ⊎ Unknown W c r
    by (inl e) (inl f) = inl (subst (λ us. In u us) (sym (same-object-bounds W vs rank l c r p q e f)) h)
    by (inr e) f = inr (record { unknown = unseen-trait W c t (tree dynamic k o) e; supers_stand = supers })
    by (inl e) (inr f) = inr (record { unknown = unseen-dyn W vs rank l c t k o f; supers_stand = supers })
object-row W vs rank l c t (tree m k o) u ps h = inl h

unsize-to-dyn-row : (W : World) (vs : List View) (rank : ℕ → ℕ) (l : JoinedSet W vs rank) (c t : ℕ) → Bare W t → (a : Trees) (u : Rule) → some_node is_open a ≡ false
    → In u (unsize_to_dyn_rules W a) → In u (unsize_to_dyn_rules (view_of W c) a) ⊎ Unknown W c (record { trait = t; args = a })
unsize-to-dyn-row W vs rank l c t b (tree m k (tree dynamic bs o)) u z h = by (true-or-false (sees-all W vs rank l c p))
  where
    p : List Reference
    p = principal_with (tree m k none) bs

    by : (sees-all W vs rank l c p ≡ true) ⊎ (sees-all W vs rank l c p ≡ false)
        → In u (unsize_to_dyn_rules (view_of W c) (tree m k (tree dynamic bs o))) ⊎ Unknown W c (record { trait = t; args = tree m k (tree dynamic bs o) })
    by (inl e) = inl (subst (λ us. In u us) (sym (same-to-dyn W vs rank l c m k bs o e)) h)
    by (inr e) = inr (record { unknown = unseen-target W vs rank l c t m k bs o z e; supers_stand = bare-supers W t (tree m k (tree dynamic bs o)) b })
unsize-to-dyn-row W vs rank l c t b a u z h = inl h

unsize-upcast-row : (W : World) (vs : List View) (rank : ℕ → ℕ) (l : JoinedSet W vs rank) (c t : ℕ) → Bare W t → (a : Trees) (u : Rule)
    → In u (unsize_upcast_rules W a) → In u (unsize_upcast_rules (view_of W c) a) ⊎ Unknown W c (record { trait = t; args = a })
unsize-upcast-row W vs rank l c t b (tree dynamic k (tree dynamic bs o)) u h = by (true-or-false (sees-all W vs rank l c p))
  where
    p : List Reference
    p = principal_with (tree dynamic k none) k

    by : (sees-all W vs rank l c p ≡ true) ⊎ (sees-all W vs rank l c p ≡ false)
        → In u (unsize_upcast_rules (view_of W c) (tree dynamic k (tree dynamic bs o))) ⊎ Unknown W c (record { trait = t; args = tree dynamic k (tree dynamic bs o) })
    by (inl e) = inl (subst (λ us. In u us) (sym (same-upcast W vs rank l c k bs o e)) h)
    by (inr e) = inr (record { unknown = unseen-dyn W vs rank l c t k (tree dynamic bs o) e; supers_stand = bare-supers W t (tree dynamic k (tree dynamic bs o)) b })
unsize-upcast-row W vs rank l c t b a u h = inl h

unsize-struct-row : (W : World) → OneEach W → (c t : ℕ) → Bare W t → (a : Trees) (u : Rule)
    → In u (unsize_struct_rules W a) → In u (unsize_struct_rules (view_of W c) a) ⊎ Unknown W c (record { trait = t; args = a })
unsize-struct-row W one c t b (tree (adt s) x (tree (adt v) y o)) u h =
    when (s == v) (flat_map f (structs_named W s)) (flat_map f (structs_named (view_of W c) s)) u (Unknown W c (record { trait = t; args = tree (adt s) x (tree (adt v) y o) }))
    (λ e g. by-fields W one c t s x (tree (adt v) y o) f u b g) h
  where
    f : StructDecl → List Rule
    f d = if some_unsizing d.fields 0 x && same (with_unsizing d.fields 0 x y) y then row unsize_struct (last_unsizes d.fields x y) else []
unsize-struct-row W one c t b a u h = inl h

unsize-row : (W : World) (vs : List View) (rank : ℕ → ℕ) (l : JoinedSet W vs rank) (c t : ℕ) → Bare W t → (a : Trees) (u : Rule) → some_node is_open a ≡ false
    → In u (unsize_rules W a) → In u (unsize_rules (view_of W c) a) ⊎ Unknown W c (record { trait = t; args = a })
unsize-row W vs rank l c t b a u z h =
    parts X u (unsize_array_rules a) (unsize_to_dyn_rules W a ++ (unsize_upcast_rules W a ++ unsize_struct_rules W a)) (unsize_array_rules a)
    (unsize_to_dyn_rules V a ++ (unsize_upcast_rules V a ++ unsize_struct_rules V a)) (λ g. inl g)
    (parts X u (unsize_to_dyn_rules W a) (unsize_upcast_rules W a ++ unsize_struct_rules W a) (unsize_to_dyn_rules V a) (unsize_upcast_rules V a ++ unsize_struct_rules V a)
    (unsize-to-dyn-row W vs rank l c t b a u z)
    (parts X u (unsize_upcast_rules W a) (unsize_struct_rules W a) (unsize_upcast_rules V a) (unsize_struct_rules V a)
    (unsize-upcast-row W vs rank l c t b a u) (unsize-struct-row W (l.fits.one_struct, l.fits.one_trait) c t b a u)))
    h
  where
    X : Type 0
    X = Unknown W c (record { trait = t; args = a })

    V : World
    V = view_of W c

built-in-split : (W : World) (vs : List View) (rank : ℕ → ℕ) → JoinedSet W vs rank → (c t : ℕ) (a : Trees) (u : Rule) → some_node is_open a ≡ false → Every (HasProof W []) u.premises
    → In u (built_in_rules W (record { trait = t; args = a }))
    → In u (built_in_rules (view_of W c) (record { trait = t; args = a })) ⊎ Unknown W c (record { trait = t; args = a })
built-in-split W vs rank l c t a u z ps h =
    parts X u (plain_rules r) (s1 W ++ (s2 W ++ (s3 W ++ object_rules W r a))) (plain_rules r) (s1 V ++ (s2 V ++ (s3 V ++ object_rules V r a))) (λ g. inl g)
    (parts X u (s1 W) (s2 W ++ (s3 W ++ object_rules W r a)) (s1 V) (s2 V ++ (s3 V ++ object_rules V r a))
    (when (t == sized) (sized_rules W a) (sized_rules V a) u X (λ e g. sized-row W one c t (λ x m n. sized-bare W vs rank l x m (n ∙ same-number t sized e)) a u g))
    (parts X u (s2 W) (s3 W ++ object_rules W r a) (s2 V) (s3 V ++ object_rules V r a)
    (auto-part W one l.rules.autos_bare c t a u)
    (parts X u (s3 W) (object_rules W r a) (s3 V) (object_rules V r a)
    (when (t == unsize) (unsize_rules W a) (unsize_rules V a) u X (λ e g. unsize-row W vs rank l c t (λ x m n. unsize-bare W vs rank l x m (n ∙ same-number t unsize e)) a u z g))
    (object-row W vs rank l c t a u ps))))
    h
  where
    r : Reference
    r = record { trait = t; args = a }

    X : Type 0
    X = Unknown W c r

    V : World
    V = view_of W c

    one : OneEach W
    one = (l.fits.one_struct, l.fits.one_trait)

    s1 : World → List Rule
    s1 U = if t == sized then sized_rules U a else []

    s2 : World → List Rule
    s2 U = if is_auto U t then auto_rules U t a else []

    s3 : World → List Rule
    s3 U = if t == unsize then unsize_rules U a else []

-- A rule of W is a rule of c's view, or the reference is unknown to c and its supertraits have proofs
pub open-world : (W : World) (vs : List View) (rank : ℕ → ℕ) → LinkedSet W vs rank → (c : ℕ) (r : Reference) → IsTrue (is_closed r.args) → (u : Rule)
    → In u (rules W [] r) → Every (HasProof W []) u.premises → In u (rules (view_of W c) [] r) ⊎ Unknown W c r
open-world W vs rank l c r z u h ps =
    parts (Unknown W c r) u (flat_map (impl_rules r) W.impls) (built_in_rules W r ++ []) (flat_map (impl_rules r) (view_of W c).impls) (built_in_rules (view_of W c) r ++ [])
    by-an-impl
    (parts (Unknown W c r) u (built_in_rules W r) [] (built_in_rules (view_of W c) r) [] (built-in-split W vs rank l.joined c r.trait r.args u (not-true (some_node is_open r.args) z) ps) (λ g. inl g))
    h
  where
    one : OneEach W
    one = (l.joined.fits.one_struct, l.joined.fits.one_trait)

    by-an-impl : In u (flat_map (impl_rules r) W.impls) → In u (flat_map (impl_rules r) (view_of W c).impls) ⊎ Unknown W c r
    by-an-impl g = pick (true-or-false (sees W c i.home))
      where
        m : (i : ImplDecl) × In i W.impls × In u (impl_rules r i)
        m = in-flat (impl_rules r) W.impls u g

        i : ImplDecl
        i = m.0

        b : ByImpl r i u
        b = impl-rule r i u m.2

        A : Trees
        A = arguments i.params i.header.args r.args

        clauses : Every (HasProof W []) (all_with_args A i.clauses)
        clauses = subst (λ (v : Rule). Every (HasProof W []) v.premises) (sym b.is-rule) ps

        scope : in_scope W i.home i.header ≡ true
        scope = l.joined.rules.headers_in_scope i m.1

        pick : (sees W c i.home ≡ true) ⊎ (sees W c i.home ≡ false) → In u (flat_map (impl_rules r) (view_of W c).impls) ⊎ Unknown W c r
        pick (inl e) = inl (flat-in (impl_rules r) (view_of W c).impls i u (filter-in (λ (x : ImplDecl). sees W c x.home) W.impls i m.1 e) m.2)
        pick (inr e) = inr (record {
          unknown =
              subst (λ (q : Reference). is_known W c q ≡ false) b.is-instance
              (walk-lemma W one c i.home (sees_struct W i.home) (sees_trait W i.home) i.header A b.fitting
              (right (sees_trait W i.home i.header.trait) _ scope) (l.joined.orphan_rule i m.1) e);
          supers_stand =
              subst (λ (q : Reference). Every (HasProof W []) (strict_supertraits W q)) b.is-instance
              (l.supers_proved i m.1 A (closed-arguments i.params i.header.args r.args z) b.fitting clauses);
        })
