-- Of a text without a fault, the self type of each impl is a parameter, or no variable or placeholder.
use Rattle.std.proofs.Common.{◌≡◌, ℕ, zero, suc, ◌+◌, ◌-◌, Bool, true, false, ◌||◌, List, [], ◌∷◌, ◌++◌, Option, Some, None, Ok, refl, sym, ap, ◌∙◌, subst, if◌then◌else◌}
use Rattle.std.proofs.lemmas.Option.{same_Some}
use Rattle.std.specs.Prelude.{length}
use Rattle.std.specs.List.{flat_map}
use Rattle.type_terms.specs.Promised.Label.{Label, Sort, of_type, param, bool, char, str, never, array, slice, tuple, dynamic, static, int, uint, adt, fn_ptr, ref, raw_pointer, auto_trait, value, principal, placeholder, infer, canonical, bound, predicate}
use Rattle.type_terms.specs.Promised.Trees.{Trees, none, tree, ◌+++◌}
use Rattle.text_language.specs.Promised.Syntax.{TypeTree, of_primitive, never_type, variable_type, named, reference_to, pointer_to, slice_of, array_of, tuple_of, fn_of, fn_to, dyn_of, Line, crate_line, struct_line, trait_line, impl_line, prove_line, refute_line, later_line, supers_line, Params, Clause}
use Rattle.text_language.specs.Syntax.{spelling}
use Rattle.text_language.specs.Promised.Declarations.{Declarations, NamedImpl, LaterImpl, Known, a_crate, a_struct, a_trait, known}
use Rattle.text_language.specs.Declarations.{nothing_declared}
use Rattle.text_language.specs.Uses.{Use, crate_use, name_use, trait_use, lifetime_use, binder_use, variable_use, misfit_use, dyn_use, items_use, number_use, type_uses, bound_uses, clause_uses, kinds_of_struct}
use Rattle.text_language.specs.Promised.Faults.{is_among}
use Rattle.text_language.specs.Faults.{variables_in, is_any, has_stray_variable, tests, first_of, fault_of}
use Rattle.text_language.specs.Lowering.{Meanings, type_tree, args_trees, struct_label, place_among}
use Rattle.text_language.specs.Adding.{item_meanings, impl_of, with_impl, added}
use Rattle.text_language.specs.Text.{TextGives}
use Rattle.declarations.specs.Heads.{begins_declared}
use Rattle.text_tables.specs.Numbered.{EachNumbered}
use Rattle.text_lowering.specs.Seen.{BeginDeclared, LaterBeginDeclared}
use Rattle.text_lowering.proofs.Scalars.{is_scalar, Scalars}
use Rattle.text_lowering.proofs.ScalarTokens.{AllFine, impl-scalars}
use Rattle.text_lowering.proofs.EachLine.{text-keeps}

-- ---- no variable stands there
in-the-middle : (xs ys : List Use) (p : Sort) (n : List ℕ) → is_any (variables_in ((xs ++ variable_use p n ∷ []) ++ ys)) ≡ true
in-the-middle [] ys p n = refl
in-the-middle (crate_use a ∷ xs) ys p n = in-the-middle xs ys p n
in-the-middle (name_use a b c ∷ xs) ys p n = in-the-middle xs ys p n
in-the-middle (trait_use a b ∷ xs) ys p n = in-the-middle xs ys p n
in-the-middle (lifetime_use a b ∷ xs) ys p n = in-the-middle xs ys p n
in-the-middle (binder_use a b ∷ xs) ys p n = in-the-middle xs ys p n
in-the-middle (variable_use a b ∷ xs) ys p n = refl
in-the-middle (misfit_use ∷ xs) ys p n = in-the-middle xs ys p n
in-the-middle (dyn_use a ∷ xs) ys p n = in-the-middle xs ys p n
in-the-middle (items_use a ∷ xs) ys p n = in-the-middle xs ys p n
in-the-middle (number_use a ∷ xs) ys p n = in-the-middle xs ys p n

either : (a b : Bool) → (a || b) ≡ false → a ≡ false
either false b e = refl
either true b e = absurd cc

-- ---- the type begins so
struct-rigid : (k : Option Known) (c o : Trees) → begins_declared (tree (struct_label k) c o) ≡ true
struct-rigid None c o = refl
struct-rigid (Some (a_crate k)) c o = refl
struct-rigid (Some (a_struct k h ks)) c o = refl
struct-rigid (Some (a_trait k h a ks)) c o = refl

named-begins : (b : Bool) (i : ℕ) (k : Option Known) (c o : Trees) → begins_declared (tree (if b then param of_type i else struct_label k) c o) ≡ true
named-begins true i k c o = refl
named-begins false i k c o = struct-rigid k c o

scalar-begins : (l : Label) (c o : Trees) → is_scalar l ≡ true → begins_declared (tree l c o) ≡ true
scalar-begins bool c o h = refl
scalar-begins char c o h = refl
scalar-begins str c o h = refl
scalar-begins (int n) c o h = refl
scalar-begins (uint n) c o h = refl
scalar-begins never c o h = absurd cc
scalar-begins array c o h = absurd cc
scalar-begins slice c o h = absurd cc
scalar-begins tuple c o h = absurd cc
scalar-begins dynamic c o h = absurd cc
scalar-begins (adt n) c o h = absurd cc
scalar-begins (fn_ptr n) c o h = absurd cc
scalar-begins (ref n) c o h = absurd cc
scalar-begins (raw_pointer n) c o h = absurd cc
scalar-begins static c o h = absurd cc
scalar-begins (auto_trait x) c o h = absurd cc
scalar-begins (value x) c o h = absurd cc
scalar-begins (principal x y) c o h = absurd cc
scalar-begins (param x y) c o h = absurd cc
scalar-begins (placeholder x y) c o h = absurd cc
scalar-begins (infer x y) c o h = absurd cc
scalar-begins (canonical x y) c o h = absurd cc
scalar-begins (bound x y z) c o h = absurd cc
scalar-begins (predicate x) c o h = absurd cc

-- a type whose parameters are parameters begins so, if it is no variable
type-begins : (e : Meanings) (t : TypeTree) (o : Trees) → e.parameter ≡ param → Scalars t → ((n : List ℕ) → t ≡ variable_type n → ⊥) → begins_declared (type_tree e [] of_type t +++ o) ≡ true
type-begins e (of_primitive l) o p f v = scalar-begins l none o f
type-begins e never_type o p f v = refl
type-begins e (variable_type n) o p f v = absurd (v n refl)
type-begins e (named n args) o p f v =
    subst (λ q. begins_declared (tree (if is_among n e.params.types then q of_type (e.first + length e.params.lifetimes + place_among n e.params.types) else struct_label (known e.items n)) (args_trees e [] (kinds_of_struct (known e.items n)) args) o) ≡ true) (sym p)
    (named-begins (is_among n e.params.types) _ (known e.items n) (args_trees e [] (kinds_of_struct (known e.items n)) args) o)
type-begins e (reference_to l m t) o p f v = refl
type-begins e (pointer_to m t) o p f v = refl
type-begins e (slice_of t) o p f v = refl
type-begins e (array_of t n) o p f v = refl
type-begins e (tuple_of ts) o p f v = refl
type-begins e (fn_of b ts) o p f v = refl
type-begins e (fn_to b ts r) o p f v = refl
type-begins e (dyn_of i is) o p f v = refl

-- ---- lines
abbrev AllPassed : List (ℕ × Bool) → Type 0
AllPassed [] = Unit {0}
AllPassed (t ∷ ts) = (t.1 ≡ false) × AllPassed ts

all-passed : (ts : List (ℕ × Bool)) → first_of ts ≡ None → AllPassed ts
all-passed [] e = tt
all-passed ((n, b) ∷ ts) e = by b e (λ g. all-passed ts g)
  where
    by : (c : Bool) → (if c then Some n else first_of ts) ≡ None → (first_of ts ≡ None → AllPassed ts) → (c ≡ false) × AllPassed ts
    by true g k = absurd cc
    by false g k = (refl, k g)

no-stray : (d : Declarations) (l : Line) → fault_of d l ≡ None → has_stray_variable d l ≡ false
no-stray d l e = (all-passed (tests d l) e).1.1.1.1.1.1.1.1.1.1.0

not-both : (b : Bool) → b ≡ true → b ≡ false → ⊥
not-both true e f = absurd cc
not-both false e f = absurd cc

no-variable : (d : Declarations) (ps : Params) (h : Clause) (ks : List Clause) (n : List ℕ) → has_stray_variable d (impl_line ps h ks) ≡ false → h.subject ≡ variable_type n → ⊥
no-variable d ps h ks n unstray is =
    not-both (is_any (variables_in ((bound_uses d h.bound ++ type_uses d [] of_type h.subject) ++ flat_map (clause_uses d) ks)))
    (ap (λ t. is_any (variables_in ((bound_uses d h.bound ++ type_uses d [] of_type t) ++ flat_map (clause_uses d) ks))) is ∙ in-the-middle (bound_uses d h.bound) (flat_map (clause_uses d) ks) of_type n)
    (either _ _ unstray)

header-begins : (d : Declarations) (ps : Params) (h : Clause) (ks : List Clause) → AllFine (spelling (impl_line ps h ks)) → fault_of d (impl_line ps h ks) ≡ None
    → begins_declared (impl_of d (item_meanings d (impl_line ps h ks) 0) ps h ks).item.header.args ≡ true
header-begins d ps h ks w f =
    type-begins (item_meanings d (impl_line ps h ks) 0) h.subject _ refl (impl-scalars ps h ks w).0.0 (λ n is. no-variable d ps h ks n (no-stray d (impl_line ps h ks) f) is)

-- ---- texts
one-more : (xs : List NamedImpl) (x : NamedImpl) → EachNumbered (λ k i. begins_declared i.item.header.args ≡ true) xs → begins_declared x.item.header.args ≡ true → EachNumbered (λ k i. begins_declared i.item.header.args ≡ true) (xs ++ x ∷ [])
one-more [] x h g zero y e = ap (λ z. begins_declared z.item.header.args) (sym (same_Some x y e)) ∙ g
one-more [] x h g (suc k) y e = absurd cc
one-more (z ∷ xs) x h g zero y e = h zero y e
one-more (z ∷ xs) x h g (suc k) y e = one-more xs x (λ j w q. h (suc j) w q) g k y e

one-more-later : (xs : List LaterImpl) (x : LaterImpl) → EachNumbered (λ k i. begins_declared i.added.item.header.args ≡ true) xs → begins_declared x.added.item.header.args ≡ true
    → EachNumbered (λ k i. begins_declared i.added.item.header.args ≡ true) (xs ++ x ∷ [])
one-more-later [] x h g zero y e = ap (λ z. begins_declared z.added.item.header.args) (sym (same_Some x y e)) ∙ g
one-more-later [] x h g (suc k) y e = absurd cc
one-more-later (z ∷ xs) x h g zero y e = h zero y e
one-more-later (z ∷ xs) x h g (suc k) y e = one-more-later xs x (λ j w q. h (suc j) w q) g k y e

-- of all impls, those of sections too
abbrev AllBegun : Declarations → Type 0
AllBegun d = BeginDeclared d × LaterBeginDeclared d

impl-begun : (d : Declarations) (x : NamedImpl) → begins_declared x.item.header.args ≡ true → AllBegun d → AllBegun (with_impl d x)
impl-begun d x g h = by d.in_section
  where
    by : (b : Bool) → AllBegun (if b then record d { later_impls = d.later_impls ++ record { section = length d.sections - 1; added = x } ∷ [] } else record d { impls = d.impls ++ x ∷ [] })
    by true = (h.0, one-more-later d.later_impls (record { section = length d.sections - 1; added = x }) h.1 g)
    by false = (one-more d.impls x h.0 g, h.1)

-- a line's impl begins so, and nothing else is added
line-added : (d : Declarations) (l : Line) → AllFine (spelling l) → fault_of d l ≡ None → AllBegun d → AllBegun (added d l)
line-added d (crate_line n us) w f h = h
line-added d (struct_line g n ps fs) w f h = h
line-added d (trait_line g a n ps bs) w f h = h
line-added d (impl_line ps k ks) w f h = impl-begun d (impl_of d (item_meanings d (impl_line ps k ks) 0) ps k ks) (header-begins d ps k ks w f) h
line-added d (prove_line c ps a bs ks) w f h = h
line-added d (refute_line c ps a bs) w f h = h
line-added d (later_line n) w f h = h
line-added d (supers_line n) w f h = h

-- read one after the other
abbrev AllBegin : List NamedImpl → Type 0
AllBegin [] = Unit {0}
AllBegin (i ∷ is) = (begins_declared i.item.header.args ≡ true) × AllBegin is

each-begins : (is : List NamedImpl) → AllBegin is → EachNumbered (λ k i. begins_declared i.item.header.args ≡ true) is
each-begins [] h k x e = absurd cc
each-begins (i ∷ is) h zero x e = ap (λ z. begins_declared z.item.header.args) (sym (same_Some i x e)) ∙ h.0
each-begins (i ∷ is) h (suc k) x e = each-begins is h.1 k x e

core-begins : AllBegun nothing_declared
core-begins = (each-begins nothing_declared.impls (refl, (refl, (refl, (refl, (refl, (refl, (refl, (refl, (refl, (refl, (refl, (refl, (refl, (refl, (refl, (refl, (refl, (refl, (refl, (refl, (refl, (refl, (refl, (refl, (refl, (refl, (refl, (refl, (refl, (refl, (refl, (refl, (refl, (refl, (refl, (refl, (refl, (refl, (refl, tt))))))))))))))))))))))))))))))))))))))), λ k x e. absurd cc)

-- of a text's impls, those of sections too
text-begun : (bytes : List ℕ) (d : Declarations) → TextGives bytes (Ok d) → AllBegun d
text-begun bytes d t = text-keeps AllBegun line-added core-begins bytes d t

pub texts-begin : (bytes : List ℕ) (d : Declarations) → TextGives bytes (Ok d) → BeginDeclared d
texts-begin bytes d h = (text-begun bytes d h).0

pub later-begin : (bytes : List ℕ) (d : Declarations) → TextGives bytes (Ok d) → LaterBeginDeclared d
later-begin bytes d h = (text-begun bytes d h).1
