-- A line without a fault adds to the declarations what the long definition gives.
use Rattle.std.proofs.Common.{◌≡◌, ℕ, suc, ◌+◌, ◌-◌, Bool, true, false, ◌||◌, List, [], ◌∷◌, ◌++◌, map, length, None, refl, ap, ◌∙◌, arith}
use Rattle.std.specs.Prelude.{if◌then◌else◌}
use Rattle.std.specs.List.{fold, list_any, flat_map}
use Rattle.std.specs.Option.{option_map_or}
use Rattle.std.specs.Str.{bytes_eq}
use Rattle.type_terms.specs.Promised.Label.{Label, Sort, of_type, param, placeholder}
use Rattle.type_terms.specs.Promised.Trees.{Trees, leaf}
use Rattle.type_terms.specs.Promised.Worlds.{Reference}
use Rattle.text_language.specs.Promised.Syntax.{Params, Clause, Line, crate_line, struct_line, trait_line, impl_line, prove_line, refute_line, later_line, supers_line}
use Rattle.text_language.specs.Promised.Declarations.{Declarations, NamedImpl, Variable, of_later, of_supers, known, kinds_of, names_of, last_crate, last_later, impl_owner}
use Rattle.text_language.specs.Declarations.{sorted_names}
use Rattle.text_language.specs.Uses.{Use, crate_use, name_use, trait_use, lifetime_use, binder_use, variable_use, misfit_use, dyn_use, items_use, number_use, uses, type_uses, bound_uses, clause_uses, header_uses, params_of}
use Rattle.text_language.specs.Faults.{first_of, tests, fault_of, declares_taken, is_taken_param, is_taken_binder, is_unknown_use, is_other_sort, is_bad_dyn, static_name, is_in_scope, is_crate, is_type_of, is_trait_of, is_line_param, is_param_of, variables_in, once}
use Rattle.text_language.specs.Promised.Faults.{is_among, repeats, with_own}
use Rattle.text_language.specs.Lowering.{Meanings, crate_number, clause_reference}
use Rattle.text_language.specs.Adding.{added, item_meanings, question_meanings}
use Rattle.text_language.specs.Promised.LineMeanings.{named_params, means, own_param, as_trees, bound_meaning, clause_meaning, question_added, with_line}
use Rattle.text_language.specs.Promised.LineFaults.{variables_among}
use Rattle.text_language.specs.Promised.Mentions.{clause_mentions}
use Rattle.text_language.proofs.SameFaultsKinds.{variables-of}
use Rattle.text_language.proofs.SameMentions.{clauses-mentions-are}
use Rattle.text_language.proofs.SameMeaningsVariables.{as-variables, each-once}
use Rattle.text_language.proofs.SameMeaningsNames.{not-false, kinds-are, names-are, as-many}
use Rattle.text_language.proofs.SameMeaningsTypes.{UseFits, AllFit, first-fit, rest-fit, crate-numbered, fields-are, bounds-are, clause-from, clause-is, clauses-are}
use Rattle.type_terms.proofs.BooleanBasics.{left-false as or-first, right-false as or-second}

-- ---- no test of a fault holds
abbrev NoneHolds : List (ℕ × Bool) → Type 0
NoneHolds [] = Unit {0}
NoneHolds ((n, b) ∷ ts) = (b ≡ false) × NoneHolds ts

none-holds : (ts : List (ℕ × Bool)) → first_of ts ≡ None → NoneHolds ts
none-holds [] e = tt
none-holds ((n, true) ∷ ts) e = absurd cc
none-holds ((n, false) ∷ ts) e = (refl, none-holds ts e)

use-fits : (d : Declarations) (l : Line) (u : Use) → is_taken_binder l u ≡ false → is_unknown_use d l u ≡ false → is_other_sort d l u ≡ false → is_bad_dyn (with_own d l) u ≡ false → UseFits d l u
use-fits d l (crate_use n) a b c e = not-false (option_map_or is_crate (known d n) false) c
use-fits d l (name_use p n k) a b c e = not-false (if is_line_param l n then is_param_of l p n k else option_map_or (is_type_of p k) (known (with_own d l) n) false) c
use-fits d l (trait_use n k) a b c e = not-false (option_map_or (is_trait_of k) (known (with_own d l) n) false) (or-second (is_line_param l n) _ c)
use-fits d l (lifetime_use s n) a b c e = not-false (bytes_eq n static_name || is_in_scope l s n) b
use-fits d l (binder_use s ns) a b c e = or-first (is_among static_name ns) (list_any (is_in_scope l s) ns) (or-second (repeats ns) _ a)
use-fits d l (variable_use p n) a b c e = tt
use-fits d l misfit_use a b c e = absurd cc
use-fits d l (dyn_use is) a b c e = e
use-fits d l (items_use k) a b c e = tt
use-fits d l (number_use n) a b c e = tt

uses-fit : (d : Declarations) (l : Line) (us : List Use)
    → list_any (is_taken_binder l) us ≡ false → list_any (is_unknown_use d l) us ≡ false → list_any (is_other_sort d l) us ≡ false → list_any (is_bad_dyn (with_own d l)) us ≡ false → AllFit d l us
uses-fit d l [] a b c e = tt
uses-fit d l (u ∷ us) a b c e = (
  use-fits d l u (or-first (is_taken_binder l u) _ a) (or-first (is_unknown_use d l u) _ b) (or-first (is_other_sort d l u) _ c) (or-first (is_bad_dyn (with_own d l) u) _ e),
  uses-fit d l us (or-second (is_taken_binder l u) _ a) (or-second (is_unknown_use d l u) _ b) (or-second (is_other_sort d l u) _ c) (or-second (is_bad_dyn (with_own d l) u) _ e),
)

all-fit : (d : Declarations) (l : Line) → fault_of d l ≡ None → AllFit d l (uses (with_own d l) l)
all-fit d l e =
    let p = none-holds (tests d l) e in
    uses-fit d l (uses (with_own d l) l) (or-second (is_taken_param d l) _ (or-second (declares_taken d l) _ p.1.0)) p.1.1.0 p.1.1.1.1.0 p.1.1.1.1.1.1.1.1.1.1.1.1.0

no-static : (d : Declarations) (l : Line) → fault_of d l ≡ None → is_among static_name (params_of l).lifetimes ≡ false
no-static d l e =
    let p = none-holds (tests d l) e in
    or-first (is_among static_name (params_of l).lifetimes) _ (or-second (repeats (params_of l).lifetimes) _ (or-first (is_taken_param d l) _ (or-second (declares_taken d l) _ p.1.0)))

-- ---- each kind of line
crates-numbered : (d : Declarations) (l : Line) (us : List (List ℕ)) → AllFit d l (map crate_use us) → map (λ u. (means d u).0) us ≡ map (λ u. crate_number (known d u)) us
crates-numbered d l [] f = refl
crates-numbered d l (u ∷ us) f = ap (λ x. x ∷ map (λ n. (means d n).0) us) (crate-numbered d u f.0) ∙ ap (λ x. crate_number (known d u) ∷ x) (crates-numbered d l us f.1)

params-stand : (p : Sort) (i : ℕ) → param p i ≡ param p (0 + i)
params-stand p i = ap (param p) (omega arith)

trait-params-stand : (p : Sort) (i : ℕ) → param p (suc i) ≡ param p (1 + i)
trait-params-stand p i = ap (param p) (omega arith)

question-params-stand : (p : Sort) (i : ℕ) → placeholder p i ≡ placeholder p (0 + i)
question-params-stand p i = ap (placeholder p) (omega arith)

-- a choice by one test twice
twice : {A B : Type 0} (b : Bool) (i j : A) (f g : A → B) → (if b then f i else g j) ≡ (if b then f (if b then i else j) else g (if b then i else j))
twice true i j f g = refl
twice false i j f g = refl

-- a struct and a trait with these kinds of parameters, and these fields and bounds
abbrev struct_with : Declarations → Bool → List ℕ → List Sort → List Trees → Declarations
struct_with d f n ks ts = record d { structs = d.structs ++ record { text = n; kinds = ks; item = record { name = length d.structs; home = last_crate d; is_fundamental = f; fields = ts } } ∷ [] }

abbrev trait_with : Declarations → Bool → Bool → List ℕ → List Sort → List Reference → Declarations
trait_with d f a n ks rs = record d { traits = d.traits ++ record { text = n; kinds = ks; item = record { name = length d.traits; home = last_crate d; is_fundamental = f; is_auto = a; bounds = rs } } ∷ [] }

-- an impl of so many parameters, with this header and these clauses, and the number i
abbrev impl_with : Declarations → Params → ℕ → Reference → List Reference → ℕ → NamedImpl
impl_with d ps k r rs i = record { params = sorted_names ps; item = record { name = i; home = impl_owner d; params = k; header = r; clauses = rs } }

abbrev in_later : Declarations → NamedImpl → Declarations
in_later d i = record d { later_impls = d.later_impls ++ record { section = length d.sections - 1; added = i } ∷ [] }

abbrev in_crate : Declarations → NamedImpl → Declarations
in_crate d i = record d { impls = d.impls ++ i ∷ [] }

-- a question with these parts
abbrev question_with : Declarations → List Variable → Bool → List (List ℕ) → ℕ → Reference → List Reference → List Reference → Declarations
question_with d vs r ns c a fs rs = record d {
  questions = d.questions ++ record {
    is_refute = r;
    asker = c;
    params = ns;
    asked = a;
    further = fs;
    clauses = rs;
    variables = vs;
  } ∷ [];
}

-- the variables of what is asked, each once
named-once : (d : Declarations) (ks : List Clause)
    → fold (λ r v. if list_any (λ w. bytes_eq v.0 w.text) r then r else r ++ record { text = v.0; kind = v.1 } ∷ []) [] (variables_among (flat_map (clause_mentions d) ks))
    ≡ as-variables (once (variables_in (flat_map (clause_uses d) ks)))
named-once d ks =
    ap (λ (ms : List (List ℕ × Sort)). fold (λ r v. if list_any (λ w. bytes_eq v.0 w.text) r then r else r ++ record { text = v.0; kind = v.1 } ∷ []) [] ms)
    (variables-of (flat_map (clause_mentions d) ks) ∙ ap variables_in (clauses-mentions-are d ks))
    ∙ each-once (variables_in (flat_map (clause_uses d) ks))

-- The variables of a query.
abbrev asked-ones : Declarations → Clause → List Clause → List Variable
asked-ones d a bs = as-variables (once (variables_in (flat_map (clause_uses d) (a ∷ bs))))

-- A clause of a query with these parameters and variables.
abbrev asked-clause : Declarations → Params → List Variable → Clause → Reference
asked-clause d ps us = clause_meaning d (own_param ps placeholder) us

-- A query whose crate and clauses mean the same by both definitions.
question-same : (d : Declarations) (r : Bool) (c : List ℕ) (ps : Params) (a : Clause) (bs ks : List Clause) (e : Meanings)
    → (means d c).0 ≡ crate_number (known d c) → asked-clause d ps (asked-ones d a bs) a ≡ clause_reference e a
    → map (asked-clause d ps (asked-ones d a bs)) bs ≡ map (clause_reference e) bs → map (asked-clause d ps (asked-ones d a bs)) ks ≡ map (clause_reference e) ks
    → question_added d r c ps a bs ks ≡ question_with d (asked-ones d a bs) r (names_of ps) (crate_number (known d c)) (clause_reference e a) (map (clause_reference e) bs) (map (clause_reference e) ks)
question-same d r c ps a bs ks e n x y z =
    let us = asked-ones d a bs in
    let short = asked-clause d ps us in
    let old = clause_reference e in
    ap (λ vs. question_with d vs r (map (λ v. v.0) (named_params ps)) (means d c).0 (asked-clause d ps vs a) (map (asked-clause d ps vs) bs) (map (asked-clause d ps vs) ks)) (named-once d (a ∷ bs))
    ∙ ap (λ ns. question_with d us r ns (means d c).0 (short a) (map short bs) (map short ks)) (names-are ps)
    ∙ ap (λ i. question_with d us r (names_of ps) i (short a) (map short bs) (map short ks)) n
    ∙ ap (λ k. question_with d us r (names_of ps) (crate_number (known d c)) k (map short bs) (map short ks)) x
    ∙ ap (λ rs. question_with d us r (names_of ps) (crate_number (known d c)) (old a) rs (map short ks)) y
    ∙ ap (question_with d us r (names_of ps) (crate_number (known d c)) (old a) (map old bs)) z

pub with-line-is : (d : Declarations) (l : Line) → fault_of d l ≡ None → with_line d l ≡ added d l
with-line-is d (crate_line n us) e =
    ap (λ x. record d { crates = d.crates ++ record { text = n; item = record { name = length d.crates; uses = x } } ∷ []; in_section = false }) (crates-numbered d (crate_line n us) us (all-fit d (crate_line n us) e))
with-line-is d (struct_line f n ps fs) e =
    let l = struct_line f n ps fs in
    ap (λ ks. struct_with d f n ks (as_trees (struct_with d f n ks []) (own_param ps param) [] [] fs)) (kinds-are ps)
    ∙ ap (struct_with d f n (kinds_of ps)) (fields-are d l 0 param param params-stand [] (no-static d l e) fs (all-fit d l e))
with-line-is d (trait_line f a n ps bs) e =
    let l = trait_line f a n ps bs in
    let label : Sort → ℕ → Label = λ p i. param p (suc i) in
    ap (λ ks. trait_with d f a n ks (map (bound_meaning (trait_with d f a n ks []) (own_param ps label) [] (leaf (param of_type 0))) bs)) (kinds-are ps)
    ∙ ap (trait_with d f a n (kinds_of ps)) (bounds-are d l 1 param label trait-params-stand [] (no-static d l e) (leaf (param of_type 0)) bs (all-fit d l e))
with-line-is d (impl_line ps h ks) e =
    let l = impl_line ps h ks in
    let v = all-fit d l e in
    let w = first-fit d l (header_uses d h) (flat_map (clause_uses d) ks) v in
    let old = item_meanings d l 0 in
    let short = clause_meaning d (own_param ps param) [] in
    let x = clause-from d l 0 param param params-stand [] (no-static d l e) h (rest-fit d l (bound_uses d h.bound) (type_uses d [] of_type h.subject) w) (first-fit d l (bound_uses d h.bound) (type_uses d [] of_type h.subject) w) in
    let y = clauses-are d l 0 param param params-stand [] (no-static d l e) ks (rest-fit d l (header_uses d h) (flat_map (clause_uses d) ks) v) in
    let made : ℕ → Reference → List Reference → Declarations = λ k r rs. if d.in_section then in_later d (impl_with d ps k r rs (last_later d)) else in_crate d (impl_with d ps k r rs (length d.impls)) in
    let item : ℕ → NamedImpl = impl_with d ps (length (kinds_of ps)) (clause_reference old h) (map (clause_reference old) ks) in
    ap (λ k. made k (short h) (map short ks)) (as-many ps)
    ∙ ap (λ r. made (length (kinds_of ps)) r (map short ks)) x
    ∙ ap (made (length (kinds_of ps)) (clause_reference old h)) y
    ∙ twice d.in_section (last_later d) (length d.impls) (λ i. in_later d (item i)) (λ i. in_crate d (item i))
with-line-is d (prove_line c ps a bs ks) e =
    let l = prove_line c ps a bs ks in
    let v = all-fit d l e in
    let asked : List Use = flat_map (clause_uses d) (a ∷ bs) in
    let vs = once (variables_in asked) in
    let w = first-fit d l asked (flat_map (clause_uses d) ks) v.1 in
    let x = clause-is d l 0 placeholder placeholder question-params-stand vs (no-static d l e) a (first-fit d l (clause_uses d a) (flat_map (clause_uses d) bs) w) in
    let y = clauses-are d l 0 placeholder placeholder question-params-stand vs (no-static d l e) bs (rest-fit d l (clause_uses d a) (flat_map (clause_uses d) bs) w) in
    let z = clauses-are d l 0 placeholder placeholder question-params-stand vs (no-static d l e) ks (rest-fit d l asked (flat_map (clause_uses d) ks) v.1) in
    question-same d false c ps a bs ks (question_meanings d l) (crate-numbered d c v.0) x y z
with-line-is d (refute_line c ps a bs) e =
    let l = refute_line c ps a bs in
    let v = all-fit d l e in
    let vs = once (variables_in (flat_map (clause_uses d) (a ∷ bs))) in
    let x = clause-is d l 0 placeholder placeholder question-params-stand vs (no-static d l e) a (first-fit d l (clause_uses d a) (flat_map (clause_uses d) bs) v.1) in
    let y = clauses-are d l 0 placeholder placeholder question-params-stand vs (no-static d l e) bs (rest-fit d l (clause_uses d a) (flat_map (clause_uses d) bs) v.1) in
    question-same d true c ps a bs [] (question_meanings d l) (crate-numbered d c v.0) x y refl
with-line-is d (later_line n) e =
    ap (λ i. record d { sections = d.sections ++ i ∷ []; checks = d.checks ++ of_later (length d.sections) i ∷ []; in_section = true }) (crate-numbered d n (all-fit d (later_line n) e).0)
with-line-is d (supers_line n) e = ap (λ i. record d { checks = d.checks ++ of_supers i ∷ [] }) (crate-numbered d n (all-fit d (supers_line n) e).0)
