-- The where-clauses of a lowered question have an argument for each parameter of their traits, and lead out of no binder.
use Rattle.std.proofs.Common.{◌≡◌, ℕ, ◌-◌, false, ◌||◌, List, [], ◌∷◌, Option, Some, None, max, refl, subst}
use Rattle.std.specs.Option.{option_map_or}
use Rattle.std.specs.Prelude.{IfSome}
use Rattle.type_terms.specs.Promised.Label.{Label, Sort, bound}
use Rattle.type_terms.specs.Promised.Trees.{Trees, none, tree, some_node}
use Rattle.type_terms.specs.Trees.{outer_binder, own_binder, outside}
use Rattle.type_terms.specs.Promised.Proofs.{In}
use Rattle.type_terms.proofs.Fitting.{child-shut, next-shut}
use Rattle.type_terms.proofs.Members.{here, there, in-map}
use Rattle.type_terms.specs.Made.{terms}
use Rattle.type_terms.specs.Promised.Handles.{trees_at}
use Rattle.term_folds.specs.declared.predicate.TraitRef.{TraitRef}
use Rattle.declarations.specs.Applied.{IsApplied, sorts_of, sorts_of_params}
use Rattle.declarations.specs.Items.{reference_in, trait_at}
use Rattle.declarations.specs.Promised.Elaboration.{Each}
use Rattle.declarations.specs.declared.items.TraitDef.{TraitDef}
use Rattle.candidate_model.proofs.Instances.{is_bound}
use Rattle.sessions.specs.Applying.{TextsClausesApply}
use Rattle.sessions.proofs.AskedGoals.{all-fixed, none-pass, fixed-unbound}
use Rattle.sessions.proofs.TextQuestions.{clause-formed}
use Rattle.type_terms.proofs.Matching.{or-false-left as no-left}
use Rattle.type_terms.proofs.TermBasics.{outside-zero}

-- what is not bound leads out of no binder
own-zero : (l : Label) → is_bound l ≡ false → own_binder l ≡ 0
own-zero (bound s k i) h = cc
own-zero l h = refl

pub unbound-outer : (t : Trees) → some_node is_bound t ≡ false → outer_binder t ≡ 0
unbound-outer none h = refl
unbound-outer (tree l c o) h =
    maxes (own_binder l) (outside l (outer_binder c)) (outer_binder o) (own-zero l (no-left (is_bound l) (some_node is_bound c) (no-left (is_bound l || some_node is_bound c) (some_node is_bound o) h)))
    (outside-zero l (outer_binder c) (unbound-outer c (child-shut is_bound l c o h))) (unbound-outer o (next-shut is_bound l c o h))
  where
    maxes : (a b c : ℕ) → a ≡ 0 → b ≡ 0 → c ≡ 0 → max (max a b) c ≡ 0
    maxes a b c p q r = cc

pub each-of : {A : Type 0} (P : A → Type 0) (xs : List A) → ((x : A) → In x xs → P x) → Each P xs
each-of P [] f = tt
each-of P (x ∷ xs) f = (f x (here x xs), each-of P xs (λ y i. f y (there y x xs i)))

-- the sorts that are declared are those of the parameters
pub declared-sorts : (ss : List Sort) (o : Option TraitDef) → ss ≡ option_map_or sorts_of_params o [] → IfSome o (λ def. ss ≡ sorts_of_params def)
declared-sorts ss None e = tt
declared-sorts ss (Some def) e = e

pub texts-clauses-apply : TextsClausesApply
texts-clauses-apply bytes d t n q is es decls seen held l low = each-of (IsApplied held decls) l.clauses.items applied
  where
    applied : (r : TraitRef) → In r l.clauses.items → IsApplied held decls r
    applied r i =
        let stands = subst (λ rs. In (reference_in held r) rs) low.clauses (in-map (reference_in held) l.clauses.items r i) in
        let formed = clause-formed bytes d t (n - 1) q is.there es decls seen (reference_in held r) stands in
        record {
          sorts = declared-sorts (sorts_of (trees_at held r.args.0)) (trait_at r.def_id.index decls.traits) formed.fit.trait.1;
          closed = unbound-outer (trees_at held r.args.0) (none-pass is_bound fixed-unbound (trees_at held r.args.0) (all-fixed terms (trees_at held r.args.0) formed.fixed));
        }
