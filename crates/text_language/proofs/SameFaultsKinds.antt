-- The tests for one kind of line, for variables, for a `dyn` and for limits: faults 8 to 16.
use Rattle.std.proofs.Common.{◌≡◌, ℕ, zero, suc, ◌+◌, Bool, true, false, List, [], ◌∷◌, ◌++◌, length, Option, Some, None, bytes_eq, refl, sym, ap, ◌∙◌, arith}
use Rattle.std.specs.Prelude.{◌||◌, ◌&&◌, not, ◌==◌, nat_lt}
use Rattle.std.specs.Option.{option_map_or}
use Rattle.std.specs.List.{list_any, flat_map}
use Rattle.std.proofs.lemmas.Bool.Decides.{nat_tests}
use Rattle.std.proofs.lemmas.Grind.{flat_map-append}
use Rattle.std.proofs.lemmas.List.{append-nil}
use Rattle.std.proofs.lemmas.List.Folds.{list_any-append}
use Rattle.std.proofs.lemmas.Slice.Eq.{bytes_eq-Decides}
use Rattle.type_terms.specs.Promised.Label.{Sort}
use Rattle.type_terms.specs.Promised.Trees.{is_sort}
use Rattle.text_language.specs.Promised.Syntax.{TypeTree, named, Params, Clause, Bound, Line, crate_line, struct_line, trait_line, impl_line, prove_line, refute_line, later_line, supers_line}
use Rattle.text_language.specs.Promised.Declarations.{Declarations, Known, a_crate, a_struct, a_trait, known, kinds_of, impl_owner}
use Rattle.text_language.specs.Uses.{Use, name_use, trait_use, uses, asked_uses, header_uses, clause_uses, bound_uses}
use Rattle.text_language.specs.Promised.Faults.{is_among, with_own, is_auto_name, built_in_traits}
use Rattle.text_language.specs.Faults.{takes_names, is_line_param, is_other_sort, uses_other_sort, is_name_use, has_free_param, is_use_of, bounds_use_own, is_loaded_auto, is_struct_in, is_own_struct, is_foreign_auto, is_built_in, implements_built_in, variables_in, has_stray_variable, refutes_params}
use Rattle.text_language.specs.Promised.Mentions.{Mention, crate_mention, name_mention, trait_mention, lifetime_mention, binder_mention, variable_mention, misfit_mention, dyn_mention, list_mention, number_mention, type_mention, line_mentions, asked_mentions, bound_mentions, header_mentions}
use Rattle.text_language.specs.Promised.LineFaults.{names_among, heads_own_struct, faults_by_kind, variables_among}
use Rattle.text_language.proofs.SameMentions.{as_uses, mentions-are, asked-mentions-are, bound-mentions-are, header-mentions-are, other-variables}
use Rattle.text_language.proofs.SameFaultsOrder.{or-true, holds}
use Rattle.text_language.proofs.SameFaultsNames.{any-given, any-flat, lifted, param-unknown}
use Rattle.type_terms.proofs.BooleanBasics.{left-false, no-more as or-false}

-- ---- 8
name-used : (n : List ℕ) (m : Mention) → is_among n (names_among (m ∷ [])) ≡ list_any (is_use_of n) (as_uses m)
name-used n (crate_mention m) = refl
name-used n (name_mention p m k) = refl
name-used n (trait_mention m k) = refl
name-used n (lifetime_mention s m) = refl
name-used n (binder_mention s []) = refl
name-used n (binder_mention s (m ∷ ms)) = refl
name-used n (variable_mention p m) = refl
name-used n misfit_mention = refl
name-used n (dyn_mention is) = refl
name-used n (list_mention k) = refl
name-used n (number_mention k) = refl
name-used n (type_mention k) = refl

names-used : (n : List ℕ) (ms : List Mention) → is_among n (names_among ms) ≡ list_any (is_use_of n) (flat_map as_uses ms)
names-used n ms =
    any-flat (λ x. bytes_eq x n) (λ m. elim m [ name_mention _ n _ ↦ n ∷ [] | trait_mention n _ ↦ n ∷ [] | _ ↦ [] ]) ms
    ∙ lifted (λ m. list_any (λ x. bytes_eq x n) (elim m [ name_mention _ n _ ↦ n ∷ [] | trait_mention n _ ↦ n ∷ [] | _ ↦ [] ])) (is_use_of n)
    (λ m. ap (list_any (λ x. bytes_eq x n)) (sym (append-nil (elim m [ name_mention _ n _ ↦ n ∷ [] | trait_mention n _ ↦ n ∷ [] | _ ↦ [] ]))) ∙ name-used n m) ms

any-within : (p q : List ℕ → Bool) (ns : List (List ℕ)) → ((n : List ℕ) → is_among n ns ≡ true → p n ≡ q n) → list_any p ns ≡ list_any q ns
any-within p q [] h = refl
any-within p q (n ∷ ns) h =
    ap (λ b. b || list_any p ns) (h n (ap (λ b. b || is_among n ns) ((bytes_eq-Decides n n).1 refl)))
    ∙ ap (λ b. q n || b) (any-within p q ns (λ m e. h m (ap (λ b. bytes_eq n m || b) e ∙ or-true (bytes_eq n m))))

-- no parameter stands where a trait has to
no-trait : (d : Declarations) (l : Line) (n : List ℕ) → is_line_param l n ≡ true → (u : Use) → is_other_sort d l u ≡ false → is_use_of n u ≡ is_name_use n u
no-trait d l n p (trait_use m k) e = by (bytes_eq m n) refl
  where
    by : (b : Bool) → bytes_eq m n ≡ b → b ≡ false
    by true f =
        let q : is_line_param l m ≡ false = left-false (is_line_param l m) _ e in
        let r : is_line_param l m ≡ is_line_param l n = ap (is_line_param l) ((bytes_eq-Decides m n).0 f) in
        absurd cc
    by false f = refl
no-trait d l n p (name_use q m k) e = refl
no-trait d l n p _ e = refl

pub free-param-is : (d : Declarations) (l : Line) → uses_other_sort d l ≡ false → holds 8 (faults_by_kind d l) ≡ has_free_param d l
free-param-is d (crate_line n us) e = refl
free-param-is d (struct_line f n ps fs) e = refl
free-param-is d (trait_line f a n ps bs) e = refl
free-param-is d (impl_line ps h ks) e =
    let l : Line = impl_line ps h ks in
    let here : list_any (is_other_sort d l) (header_uses d h) ≡ false =
    left-false (list_any (is_other_sort d l) (header_uses d h)) (list_any (is_other_sort d l) (flat_map (clause_uses d) ks))
    (sym (list_any-append (is_other_sort d l) (header_uses d h) (flat_map (clause_uses d) ks)) ∙ e) in
    or-false (list_any (λ n. not (is_among n (names_among (header_mentions d h)))) (ps.types ++ ps.consts))
    ∙ any-within (λ n. not (is_among n (names_among (header_mentions d h)))) (λ n. not (list_any (is_name_use n) (header_uses d h))) (ps.types ++ ps.consts)
    (λ n p. ap not (names-used n (header_mentions d h) ∙ ap (list_any (is_use_of n)) (header-mentions-are d h)
    ∙ any-given (is_other_sort d l) (is_use_of n) (is_name_use n) (no-trait d l n p) (header_uses d h) here))
free-param-is d (prove_line c ps a bs ks) e = refl
free-param-is d (refute_line c ps a bs) e = refl
free-param-is d (later_line n) e = refl
free-param-is d (supers_line n) e = refl

-- ---- 9
bounds-used : (d : Declarations) (bs : List Bound) → flat_map as_uses (flat_map (bound_mentions d) bs) ≡ flat_map (bound_uses d) bs
bounds-used d [] = refl
bounds-used d (b ∷ bs) =
    flat_map-append as_uses (bound_mentions d b) (flat_map (bound_mentions d) bs) ∙ ap (λ x. x ++ flat_map as_uses (flat_map (bound_mentions d) bs)) (bound-mentions-are d b)
    ∙ ap (λ x. bound_uses d b ++ x) (bounds-used d bs)

pub own-name-is : (d : Declarations) (l : Line) → holds 9 (faults_by_kind d l) ≡ bounds_use_own d l
own-name-is d (crate_line n us) = refl
own-name-is d (struct_line f n ps fs) = refl
own-name-is d (trait_line f a n ps bs) = or-false (is_among n (names_among (flat_map (bound_mentions d) bs))) ∙ names-used n (flat_map (bound_mentions d) bs) ∙ ap (list_any (is_use_of n)) (bounds-used d bs)
own-name-is d (impl_line ps h ks) = refl
own-name-is d (prove_line c ps a bs ks) = refl
own-name-is d (refute_line c ps a bs) = refl
own-name-is d (later_line n) = refl
own-name-is d (supers_line n) = refl

-- ---- 10
some-of : (m n : ℕ) → nat_lt 0 (m + n) ≡ not ((m == 0) && (n == 0))
some-of zero zero = refl
some-of zero (suc n) = by (suc n == 0) refl
  where
    by : (b : Bool) → (suc n == 0) ≡ b → nat_lt 0 (0 + suc n) ≡ not b
    by true e = grind (arith, nat_tests)
    by false e = grind (arith, nat_tests)
some-of (suc m) n = by (suc m == 0) refl
  where
    by : (b : Bool) → (suc m == 0) ≡ b → nat_lt 0 (suc m + n) ≡ not (b && (n == 0))
    by true e = grind (arith, nat_tests)
    by false e = grind (arith, nat_tests)

pub loaded-is : (d : Declarations) (l : Line) → holds 10 (faults_by_kind d l) ≡ is_loaded_auto l
loaded-is d (crate_line n us) = refl
loaded-is d (struct_line f n ps fs) = refl
loaded-is d (trait_line f a n ps bs) =
    or-false (a && nat_lt 0 (length (kinds_of ps) + length bs)) ∙ ap (λ b. a && b) (some-of (length (kinds_of ps)) (length bs))
loaded-is d (impl_line ps h ks) = refl
loaded-is d (prove_line c ps a bs ks) = refl
loaded-is d (refute_line c ps a bs) = refl
loaded-is d (later_line n) = refl
loaded-is d (supers_line n) = refl

-- ---- 11
struct-in : (c : ℕ) (w : Option Known) → option_map_or (λ k. elim k [ a_struct i h kinds ↦ h == c | _ ↦ false ]) w false ≡ option_map_or (is_struct_in c) w false
struct-in c None = refl
struct-in c (Some (a_crate i)) = refl
struct-in c (Some (a_struct i h kinds)) = refl
struct-in c (Some (a_trait i h a kinds)) = refl

without : (b x : Bool) → (b ≡ true → x ≡ false) → x ≡ not b && x
without true x f = f refl
without false x f = refl

own-struct : (d : Declarations) (ps : Params) (h : Clause) (ks : List Clause) → takes_names d (impl_line ps h ks) ≡ false
    → (t : TypeTree) → heads_own_struct d t ≡ is_own_struct d (impl_line ps h ks) t
own-struct d ps h ks e (named n args) =
    struct-in (impl_owner d) (known d n)
    ∙ without (is_line_param (impl_line ps h ks) n) (option_map_or (is_struct_in (impl_owner d)) (known d n) false)
    (λ p. ap (λ w. option_map_or (is_struct_in (impl_owner d)) w false) (param-unknown d (impl_line ps h ks) e n p))
own-struct d ps h ks e _ = refl

pub foreign-auto-is : (d : Declarations) (l : Line) → takes_names d l ≡ false → holds 11 (faults_by_kind d l) ≡ is_foreign_auto d l
foreign-auto-is d (crate_line n us) e = refl
foreign-auto-is d (struct_line f n ps fs) e = refl
foreign-auto-is d (trait_line f a n ps bs) e = refl
foreign-auto-is d (impl_line ps h ks) e =
    or-false (is_auto_name d h.bound.trait && not (heads_own_struct d h.subject)) ∙ ap (λ b. is_auto_name d h.bound.trait && not b) (own-struct d ps h ks e h.subject)
foreign-auto-is d (prove_line c ps a bs ks) e = refl
foreign-auto-is d (refute_line c ps a bs) e = refl
foreign-auto-is d (later_line n) e = refl
foreign-auto-is d (supers_line n) e = refl

-- ---- 12
pub built-in-is : (d : Declarations) (l : Line) → holds 12 (faults_by_kind d l) ≡ implements_built_in d l
built-in-is d (crate_line n us) = refl
built-in-is d (struct_line f n ps fs) = refl
built-in-is d (trait_line f a n ps bs) = refl
built-in-is d (impl_line ps h ks) = by (known d h.bound.trait)
  where
    by : (w : Option Known) → option_map_or (λ k. elim k [ a_trait i _ _ _ ↦ list_any (λ t. t == i) built_in_traits | _ ↦ false ]) w false || false ≡ option_map_or is_built_in w false
    by None = refl
    by (Some (a_crate i)) = refl
    by (Some (a_struct i c kinds)) = refl
    by (Some (a_trait i c a kinds)) = or-false (is_built_in (a_trait i c a kinds))
built-in-is d (prove_line c ps a bs ks) = refl
built-in-is d (refute_line c ps a bs) = refl
built-in-is d (later_line n) = refl
built-in-is d (supers_line n) = refl

-- ---- 13
pub variables-of : (ms : List Mention) → variables_among ms ≡ variables_in (flat_map as_uses ms)
variables-of [] = refl
variables-of (crate_mention n ∷ ms) = variables-of ms
variables-of (name_mention p n k ∷ ms) = variables-of ms
variables-of (trait_mention n k ∷ ms) = variables-of ms
variables-of (lifetime_mention s n ∷ ms) = variables-of ms
variables-of (binder_mention s [] ∷ ms) = variables-of ms
variables-of (binder_mention s (n ∷ ns) ∷ ms) = variables-of ms
variables-of (variable_mention p n ∷ ms) = ap (λ vs. (n, p) ∷ vs) (variables-of ms)
variables-of (misfit_mention ∷ ms) = variables-of ms
variables-of (dyn_mention is ∷ ms) = variables-of ms
variables-of (list_mention k ∷ ms) = variables-of ms
variables-of (number_mention k ∷ ms) = variables-of ms
variables-of (type_mention k ∷ ms) = variables-of ms

abbrev pub Named : Type 0
Named = List ℕ × Sort

abbrev pub asked-variables : Declarations → Line → List Named
asked-variables d l = variables_among (asked_mentions d l)

abbrev pub of_two_kinds : List Named → Bool
of_two_kinds vs = list_any (λ v. list_any (λ w. bytes_eq v.0 w.0 && not (is_sort v.1 w.1)) vs) vs

-- there is a variable outside of what is asked
abbrev pub has_other : Declarations → Line → Bool
has_other d l = nat_lt (length (asked-variables d l)) (length (variables_among (line_mentions (with_own d l) l)))

abbrev has_stray : Declarations → Line → Bool
has_stray d l = has_other d l || of_two_kinds (asked-variables d l)

pub asked-are : (d : Declarations) (l : Line) → asked-variables d l ≡ variables_in (asked_uses d l)
asked-are d l = variables-of (asked_mentions d l) ∙ ap variables_in (asked-mentions-are d l)

all-are : (d : Declarations) (l : Line) → variables_among (line_mentions d l) ≡ variables_in (uses d l)
all-are d l = variables-of (line_mentions d l) ∙ ap variables_in (mentions-are d l)

stray-variable : (d : Declarations) (l : Line) → has_stray d l ≡ has_stray_variable d l
stray-variable d l =
    let e : Declarations = with_own d l in
    ap (λ vs. nat_lt (length vs) (length (variables_among (line_mentions e l))) || of_two_kinds vs) (asked-are d l)
    ∙ ap (λ vs. nat_lt (length (variables_in (asked_uses d l))) (length vs) || of_two_kinds (variables_in (asked_uses d l))) (all-are e l)
    ∙ ap (λ b. b || of_two_kinds (variables_in (asked_uses d l))) (sym (other-variables d l))

pub stray-is : (d : Declarations) (l : Line) → has_other d l || (of_two_kinds (asked-variables d l) || false) ≡ has_stray_variable d l
stray-is d l =
    ap (λ b. has_other d l || b) (or-false (of_two_kinds (asked-variables d l))) ∙ stray-variable d l

-- ---- 14
some-in : (n : ℕ) → nat_lt 0 n ≡ not (n == 0)
some-in zero = refl
some-in (suc n) = by (suc n == 0) refl
  where
    by : (b : Bool) → (suc n == 0) ≡ b → nat_lt 0 (suc n) ≡ not b
    by true e = grind (arith, nat_tests)
    by false e = grind (arith, nat_tests)

pub refutes-is : (d : Declarations) (l : Line) → holds 14 (faults_by_kind d l) ≡ refutes_params l
refutes-is d (crate_line n us) = refl
refutes-is d (struct_line f n ps fs) = refl
refutes-is d (trait_line f a n ps bs) = refl
refutes-is d (impl_line ps h ks) = refl
refutes-is d (prove_line c ps a bs ks) = refl
refutes-is d (refute_line c ps a bs) = or-false (nat_lt 0 (length (kinds_of ps))) ∙ some-in (length (kinds_of ps))
refutes-is d (later_line n) = refl
refutes-is d (supers_line n) = refl
