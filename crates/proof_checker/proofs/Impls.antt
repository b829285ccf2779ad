-- Rules by impls.
use Rattle.std.proofs.Common.{◌≡◌, List, [], ◌∷◌, refl, ap, subst, map, None, true}
use Rattle.type_terms.specs.Promised.Trees.{Trees, Fits}
use Rattle.type_terms.specs.Trees.{outer_binder}
use Rattle.type_terms.specs.Promised.Worlds.{World, Reference, ImplDecl, with_args, all_with_args}
use Rattle.type_terms.specs.Erased.{IsCovered}
use Rattle.type_terms.specs.Promised.Erased.{erased_impl, erased_reference, erased_world}
use Rattle.type_terms.specs.Promised.Rules.{Rule, by_impl}
use Rattle.type_terms.specs.Promised.Proofs.{In, Every}
use Rattle.type_terms.proofs.Applies.{applies-up-to-lifetimes}
use Rattle.type_terms.specs.Promised.Handles.{Entry, Keeps, trees_at}
use Rattle.type_terms.specs.Terms.{Lawful, args_lists}
use Rattle.type_terms.specs.Kept.{trees-later}
use Rattle.type_terms.specs.Made.{terms, is_made, is_in_range}
use Rattle.term_folds.specs.Arguments.{first_misfit}
use Rattle.term_folds.specs.declared.predicate.TraitRef.{TraitRef}
use Rattle.declarations.specs.Items.{reference_in}
use Rattle.declarations.specs.Applied.{references_in, TraitRefsHeld}
use Rattle.declarations.specs.Promised.Elaboration.{Each}
use Rattle.proof_checker.specs.Checked.{IsRuleByWay}
use Rattle.proof_checker.specs.Steps.{terms_of}
use Rattle.structural_traits.proofs.FieldRows.{args-made}
use Rattle.structural_traits.proofs.Fitting.{fits-of}
use Rattle.proof_checker.proofs.Fitting.{erased-closed}

pub clauses-fit : (es : List Entry) → Lawful es → (A : Trees) → is_made is_in_range terms A ≡ true → (rs : List TraitRef) → TraitRefsHeld es rs
    → Each (λ (b : TraitRef). first_misfit A (trees_at es b.args.0) ≡ None) rs → Every (λ (k : Reference). Fits A k.args) (references_in es rs)
clauses-fit es law A m [] h f = tt
clauses-fit es law A m (r ∷ rs) h f = (fits-of A m (trees_at es r.args.0) (args-made es law r.args.0 h.0) f.0, clauses-fit es law A m rs h.1 f.1)

pub fits-back : (es fs : List Entry) → Keeps es fs → (A B : Trees) → B ≡ A → (rs : List TraitRef) → TraitRefsHeld es rs
    → Each (λ (b : TraitRef). first_misfit B (trees_at fs b.args.0) ≡ None) rs → Each (λ (b : TraitRef). first_misfit A (trees_at es b.args.0) ≡ None) rs
fits-back es fs k A B e [] h f = tt
fits-back es fs k A B e (r ∷ rs) h f =
    (subst (λ t. first_misfit A t ≡ None) (trees-later es fs k args_lists r.args.0 h.0) (subst (λ a. first_misfit a (trees_at fs r.args.0) ≡ None) e f.0), fits-back es fs k A B e rs h.1 f.1)

pub terms-map : (es : List Entry) (rs : List TraitRef) → terms_of es rs ≡ map erased_reference (references_in es rs)
terms-map es [] = refl
terms-map es (r ∷ rs) = ap (λ l. erased_reference (reference_in es r) ∷ l) (terms-map es rs)

pub by-the-impl : (V : World) (E : List Reference) (i : ImplDecl) (A : Trees) (r : Reference) (ps : List Reference) → In i V.impls → IsCovered (erased_impl i) → outer_binder A ≡ 0
    → Fits A i.header.args → Every (λ (k : Reference). Fits A k.args) i.clauses → erased_reference (with_args A i.header) ≡ erased_reference r
    → ps ≡ map erased_reference (all_with_args A i.clauses) → IsRuleByWay (erased_world V) E (erased_reference r) (by_impl i.name) ps
by-the-impl V E i A r ps h v z f fs e q =
    applies-up-to-lifetimes V E i A r h v (erased-closed A z) f fs e (let w : Rule = record { way = by_impl i.name; premises = ps } in w)
    (ap (λ ks. (let w : Rule = record { way = by_impl i.name; premises = ks } in w)) q)
