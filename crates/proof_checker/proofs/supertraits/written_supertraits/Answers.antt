use Rattle.std.proofs.Common.{◌≡◌, ap, ◌∙◌, sym, subst, None}
use Rattle.std.specs.Prelude.{IfSome}
use Rattle.type_terms.specs.Promised.Worlds.{all_with_args}
use Rattle.type_terms.specs.Promised.Handles.{trees_at}
use Rattle.term_folds.specs.Arguments.{first_misfit}
use Rattle.term_folds.specs.declared.predicate.TraitRef.{TraitRef}
use Rattle.declarations.specs.Applied.{references_in, TraitRefsHeld}
use Rattle.declarations.specs.Promised.Elaboration.{Each}
use Rattle.proof_checker.proofs.Above.{supertraits-are}
use Rattle.type_terms.proofs.Grown.{grew-none}
use Rattle.proof_checker.proofs.Results.{none-each, not-ok}
use Rattle.type_terms.proofs.FailFacts.{at-limit}
use Rattle.proof_checker.proofs.supertraits.written_supertraits.Goals as goal

pub all_with_arguments-requires-clause-held : goal.all_with_arguments-requires-clause-held
all_with_arguments-requires-clause-held c = subst (TraitRefsHeld c.args.cx.now.entries) (sym c.deref.ensures.value) (c.in-Some.ensures.held c.args.cx.now.entries c.requires.declared)

pub returns-in-Some-2-clause-are : goal.returns-in-Some-2-clause-are
returns-in-Some-2-clause-are c =
    let es = c.args.cx.now.entries in
    let fs = c.all_with_arguments.new.cx.entries in
    let A = trees_at es c.args.reference.args.0 in
    let def = c.in-Some.def.now in
    let cl = c.deref.result.now in
    let dv = c.deref.ensures.value in
    let are = subst (λ o. IfSome o (λ v. references_in fs v.items ≡ all_with_args A (references_in es cl))) c.in-Some-2.is c.in_ok-supertraits.ensures.are in
    let fits = subst (λ o. IfSome o (λ v. Each (λ (b : TraitRef). first_misfit A (trees_at es b.args.0) ≡ None) cl)) c.in-Some-2.is c.in_ok-supertraits.ensures.fits in
    supertraits-are es fs c.lawful.ensures c.args.declarations.now c.args.reference def (c.in-Some.ensures.written es) c.requires.reference (c.in-Some.ensures.held es c.requires.declared)
    (subst (λ l. Each (λ (b : TraitRef). first_misfit A (trees_at es b.args.0) ≡ None) l) dv fits) c.in-Some-2.supertraits.items (are ∙ ap (λ l. all_with_args A (references_in es l)) dv)

pub returns-in-None-clause-terms : goal.returns-in-None-clause-terms
returns-in-None-clause-terms c = record {
  grew = grew-none;
  full = tt;
}

pub returns-in-None-clause-held : goal.returns-in-None-clause-held
returns-in-None-clause-held c = none-each _ _ c.new.ensures.items

pub returns-in-None-clause-are : goal.returns-in-None-clause-are
returns-in-None-clause-are c = none-each _ _ c.new.ensures.items

pub outer_exclusive_binder-requires : goal.outer_exclusive_binder-requires
outer_exclusive_binder-requires c = c.requires.reference

pub all_with_arguments-requires-clause-args : goal.all_with_arguments-requires-clause-args
all_with_arguments-requires-clause-args c = c.requires.reference

pub all_with_arguments-requires-clause-closed : goal.all_with_arguments-requires-clause-closed
all_with_arguments-requires-clause-closed c = sym c.outer_exclusive_binder.ensures ∙ c.if-outer_exclusive_binder-ne0.false

pub returns-in_err-supertraits-clause-terms : goal.returns-in_err-supertraits-clause-terms
returns-in_err-supertraits-clause-terms c = record {
  grew = c.all_with_arguments.ensures.terms.grew;
  full = at-limit c.from_residual.result c.from_residual.ensures.1 c.in_err-supertraits.ensures.terms.full;
}

pub returns-in_err-supertraits-clause-held : goal.returns-in_err-supertraits-clause-held
returns-in_err-supertraits-clause-held c = not-ok _ _ c.from_residual.result c.from_residual.ensures.1

pub returns-in_err-supertraits-clause-are : goal.returns-in_err-supertraits-clause-are
returns-in_err-supertraits-clause-are c = not-ok _ _ c.from_residual.result c.from_residual.ensures.1

pub returns-in-Some-2-clause-terms : goal.returns-in-Some-2-clause-terms
returns-in-Some-2-clause-terms c = record {
  grew = c.all_with_arguments.ensures.terms.grew;
  full = tt;
}

pub returns-in-Some-2-clause-held : goal.returns-in-Some-2-clause-held
returns-in-Some-2-clause-held c = subst (λ o. IfSome o (λ v. TraitRefsHeld c.all_with_arguments.new.cx.entries v.items)) c.in-Some-2.is c.in_ok-supertraits.ensures.held

pub returns-in-None-2-clause-terms : goal.returns-in-None-2-clause-terms
returns-in-None-2-clause-terms c = record {
  grew = c.all_with_arguments.ensures.terms.grew;
  full = tt;
}

pub returns-in-None-2-clause-held : goal.returns-in-None-2-clause-held
returns-in-None-2-clause-held c = none-each _ _ c.new-in-None-2.ensures.items

pub returns-in-None-2-clause-are : goal.returns-in-None-2-clause-are
returns-in-None-2-clause-are c = none-each _ _ c.new-in-None-2.ensures.items
