-- Declarations that mean the same for the solver have the same sorts of parameters at their traits: the where-clauses of a lowered question
-- have an argument for each parameter by all of them.
use Rattle.std.proofs.Common.{◌≡◌, ◌==◌, ℕ, max, true, not, List, [], ◌∷◌, Option, Some, None, refl, sym, ap, subst}
use Rattle.std.specs.Option.{option_map_or}
use Rattle.std.specs.Prelude.{IfSome}
use Rattle.type_terms.specs.Promised.Label.{Sort, of_type, of_const, of_lifetime, param, of_trait, predicate}
use Rattle.type_terms.specs.Promised.Trees.{Trees, none, tree, is_sort}
use Rattle.type_terms.specs.Trees.{outer_binder}
use Rattle.type_terms.specs.Promised.Rules.{unsize}
use Rattle.type_terms.proofs.Walking.{left, right, both, or-right}
use Rattle.type_terms.specs.Promised.Handles.{Entry, trees_at}
use Rattle.term_folds.specs.declared.predicate.TraitRef.{TraitRef}
use Rattle.infer_table.specs.Canonical.{CanonicalForm}
use Rattle.declarations.specs.Applied.{IsApplied, AreApplied, sorts_of, sorts_of_params}
use Rattle.declarations.specs.Items.{Items, trait_at}
use Rattle.declarations.specs.declared.items.TraitDef.{TraitDef}
use Rattle.candidate_model.specs.Asking.{next_of}
use Rattle.candidate_assembly.specs.Fitting.{same_sorts, are_of_trait, is_shut, type_fits, fits_declared, solving_of}
use Rattle.candidate_assembly.specs.Solving.{Solving}
use Rattle.sessions.specs.Applying.{SolversClausesApply}
use Rattle.sessions.proofs.ClausesApply.{texts-clauses-apply}
use Rattle.sessions.proofs.GivenTexts.{text-given}
use Rattle.sessions.proofs.Fitting.{same-ones}

sort-is : (s t : Sort) → is_sort s t ≡ true → s ≡ t
sort-is of_type of_type h = refl
sort-is of_const of_const h = refl
sort-is of_lifetime of_lifetime h = refl
sort-is s t h = absurd cc

sorts-are : (ss ts : List Sort) → same_sorts ss ts ≡ true → ss ≡ ts
sorts-are [] [] h = refl
sorts-are (s ∷ ss) (t ∷ ts) h = two (sort-is s t (left (is_sort s t) (same_sorts ss ts) h)) (sorts-are ss ts (right (is_sort s t) (same_sorts ss ts) h))
  where
    two : s ≡ t → ss ≡ ts → (s ∷ ss) ≡ t ∷ ts
    two p q = cc
sorts-are ss ts h = absurd cc

-- the sorts are those of the parameters, if the trait is declared, exactly if the test says so
sorts-tested : (ss : List Sort) (o : Option TraitDef) → IfSome o (λ def. ss ≡ sorts_of_params def) → option_map_or (λ def. same_sorts ss (sorts_of_params def)) o true ≡ true
sorts-tested ss None h = refl
sorts-tested ss (Some def) h = subst (λ z. same_sorts ss z ≡ true) h (same-ones ss)

tested-sorts : (ss : List Sort) (o : Option TraitDef) → option_map_or (λ def. same_sorts ss (sorts_of_params def)) o true ≡ true → IfSome o (λ def. ss ≡ sorts_of_params def)
tested-sorts ss None h = tt
tested-sorts ss (Some def) h = sorts-are ss (sorts_of_params def) h

-- ---- a goal that tells the sorts of a trait
-- a parameter of each sort
abbrev pub parameters_of : List Sort → Trees
parameters_of [] = none
parameters_of (s ∷ ss) = tree (param s 0) none (parameters_of ss)

their-sorts : (ss : List Sort) → sorts_of (parameters_of ss) ≡ ss
their-sorts [] = refl
their-sorts (s ∷ ss) = ap (λ z. s ∷ z) (their-sorts ss)

no-binder : (ss : List Sort) → outer_binder (parameters_of ss) ≡ 0
no-binder [] = refl
no-binder (s ∷ ss) = ap (λ n. max (max 0 0) n) (no-binder ss)

first-fits : (d : Items) (ss : List Sort) → type_fits d (parameters_of ss) ≡ true
first-fits d [] = refl
first-fits d (s ∷ ss) = refl

next-fits : (d : Items) (ss : List Sort) → type_fits d (next_of (parameters_of ss)) ≡ true
next-fits d [] = refl
next-fits d (s ∷ ss) = first-fits d ss

-- the trait's reference to parameters of these sorts
abbrev pub form_of : ℕ → List Sort → CanonicalForm
form_of t ss = record { goal = record { environment = none; predicate = tree (predicate (of_trait t)) (parameters_of ss) none }; kinds = [] }

form-fits : (d : Items) (t : ℕ) (ss : List Sort) → are_of_trait d t ss ≡ true → fits_declared d (form_of t ss) ≡ true
form-fits d t ss h =
    both (are_of_trait d t (sorts_of (parameters_of ss))) _ (subst (λ z. are_of_trait d t z ≡ true) (sym (their-sorts ss)) h)
    (both (is_shut (parameters_of ss)) _ (ap (λ n. n == 0) (no-binder ss))
    (both (type_fits d (parameters_of ss)) _ (first-fits d ss) (or-right (not (t == unsize)) (type_fits d (next_of (parameters_of ss))) (next-fits d ss))))

fitting-form : (d : Items) (t : ℕ) (ss : List Sort) → fits_declared d (form_of t ss) ≡ true → are_of_trait d t ss ≡ true
fitting-form d t ss h = subst (λ z. are_of_trait d t z ≡ true) (their-sorts ss) (left (are_of_trait d t (sorts_of (parameters_of ss))) _ h)

-- ---- declarations that mean the same
module _ (es fs : List Entry) (d e : Items) (same : solving_of es d ≡ solving_of fs e) where
  sorts-alike : (t : ℕ) (ss : List Sort) → are_of_trait e t ss ≡ true → are_of_trait d t ss ≡ true
  sorts-alike t ss h = fitting-form d t ss (subst (λ (s : Solving). s.fits (form_of t ss) ≡ true) (sym same) (form-fits e t ss h))

  pub applied-alike : (held : List Entry) (r : TraitRef) → IsApplied held e r → IsApplied held d r
  applied-alike held r h =
      let ss = sorts_of (trees_at held r.args.0) in
      record {
        sorts = tested-sorts ss (trait_at r.def_id.index d.traits) (sorts-alike r.def_id.index ss (sorts-tested ss (trait_at r.def_id.index e.traits) h.sorts));
        closed = h.closed;
      }

  each-alike : (held : List Entry) (rs : List TraitRef) → AreApplied held e rs → AreApplied held d rs
  each-alike held [] h = tt
  each-alike held (r ∷ rs) h = (applied-alike held r h.0, each-alike held rs h.1)

pub solvers-clauses-apply : SolversClausesApply
solvers-clauses-apply d t n q is es decls solving held l low =
    each-alike es solving.entries decls solving.declarations solving.is held l.clauses.items
    (texts-clauses-apply t.0 d (text-given d t) n q is solving.entries solving.declarations solving.seen held l low)
