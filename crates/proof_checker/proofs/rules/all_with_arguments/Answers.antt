use Rattle.std.proofs.Common.{refl, ◌≡◌, ◌++◌, ap, sym, ◌∙◌, subst, None, append-nil}
use Rattle.std.specs.Prelude.{IfSome}
use Rattle.type_terms.specs.Promised.Worlds.{with_args, all_with_args}
use Rattle.type_terms.specs.Terms.{args_lists}
use Rattle.type_terms.specs.Promised.Handles.{trees_at}
use Rattle.term_folds.specs.Arguments.{first_misfit}
use Rattle.term_folds.specs.declared.predicate.TraitRef.{TraitRef}
use Rattle.type_terms.specs.Kept.{trees-later, has-later}
use Rattle.type_terms.proofs.Grown.{grew-on, grew-none}
use Rattle.type_terms.proofs.FailFacts.{at-limit}
use Rattle.declarations.specs.Items.{reference_in}
use Rattle.declarations.specs.Held.{ReferenceHeld}
use Rattle.declarations.specs.Promised.Elaboration.{Each}
use Rattle.declarations.specs.Applied.{references_in, TraitRefsHeld}
use Rattle.declarations.proofs.Growth.{reference-same, reference-kept}
use Rattle.declarations.proofs.Bounded.{held-more, one-more}
use Rattle.proof_checker.proofs.Results.{not-ok, none-each, memory-at-limit}
use Rattle.type_terms.specs.Trees.{outer_binder}
use Rattle.proof_checker.proofs.Places.{shorter}
use Rattle.proof_checker.proofs.rules.all_with_arguments.Goals as goal
use Rattle.type_terms.proofs.ListBasics.{empty as none-left}

pub references-preserved : goal.references-preserved
references-preserved c =
    let es = c.args.cx.now.entries in
    let now = c.references.cx.entries in
    let next = c.with_arguments.new.cx.entries in
    let inv = c.references.invariant in
    let A = trees_at es c.args.args.0 in
    let found = c.references.found.items in
    let r = c.in-Some-2.instance in
    let k = c.with_arguments.ensures.terms.grew.keeps in
    let back = c.in-Some.ensures.cases.0 in
    let x = c.in-Some.next.now in
    let rest = c.in-Some.others.now in
    let held = subst (TraitRefsHeld es) back inv.left_held in
    let all = all_with_args A (references_in es c.args.references.now) in
    let ys = all_with_args A (references_in es rest) in
    let y = with_args A (reference_in es x) in
    let as_before = trees-later es now inv.grew.keeps args_lists c.args.args.0 c.requires.args in
    let made_held = subst (λ o. IfSome o (ReferenceHeld next)) c.in-Some-2.is c.in_ok-instance.ensures.held in
    let made_is = subst (λ o. IfSome o (λ (i : TraitRef). reference_in next i ≡ with_args (trees_at now c.args.args.0) (reference_in now x))) c.in-Some-2.is c.in_ok-instance.ensures.is in
    let made_fits = subst (λ o. IfSome o (λ (i : TraitRef). first_misfit (trees_at now c.args.args.0) (trees_at now x.args.0) ≡ None)) c.in-Some-2.is c.in_ok-instance.ensures.fits in
    let fit : first_misfit A (trees_at es x.args.0) ≡ None = subst (λ t. first_misfit A t ≡ None) (trees-later es now inv.grew.keeps args_lists x.args.0 held.0)
    (subst (λ a. first_misfit a (trees_at now x.args.0) ≡ None) as_before made_fits) in
    let is = made_is ∙ ap (λ a. with_args a (reference_in now x)) as_before ∙ ap (λ s. with_args A s) (reference-same es now inv.grew.keeps x held.0) in
    let before = subst (λ l. references_in now found ++ all_with_args A (references_in es l) ≡ all) back inv.are in
    let put = c.in_ok-push-in-Some-2.ensures.items in
    record {
      grew = grew-on inv.grew c.with_arguments.ensures.terms.grew;
      left_held = held.1;
      fits = λ h. inv.fits (subst (Each (λ (b : TraitRef). first_misfit A (trees_at es b.args.0) ≡ None)) (sym back) (fit, h));
      found_held = subst (TraitRefsHeld next) (sym put) (held-more now next k found r inv.found_held made_held);
      are = subst (λ l. references_in next l ++ ys ≡ all) (sym put) (one-more now next k found r y ys all inv.found_held is before);
    }

pub references-init : goal.references-init
references-init c =
    let es = c.args.cx.now.entries in
    record {
      grew = grew-none;
      left_held = c.requires.held;
      fits = λ h. h;
      found_held = none-each _ _ c.new-found.ensures.items;
      are = ap (λ l. references_in es l ++ all_with_args (trees_at es c.args.args.0) (references_in es c.args.references.now)) c.new-found.ensures.items;
    }

pub with_arguments-requires-clause-held : goal.with_arguments-requires-clause-held
with_arguments-requires-clause-held c =
    let es = c.args.cx.now.entries in
    reference-kept es c.references.cx.entries c.references.invariant.grew.keeps c.in-Some.next.now (subst (TraitRefsHeld es) c.in-Some.ensures.cases.0 c.references.invariant.left_held).0

pub with_arguments-requires-clause-args : goal.with_arguments-requires-clause-args
with_arguments-requires-clause-args c = has-later c.args.cx.now.entries c.references.cx.entries c.references.invariant.grew.keeps args_lists c.args.args.0 c.requires.args

pub with_arguments-requires-clause-closed : goal.with_arguments-requires-clause-closed
with_arguments-requires-clause-closed c =
    ap outer_binder (trees-later c.args.cx.now.entries c.references.cx.entries c.references.invariant.grew.keeps args_lists c.args.args.0 c.requires.args) ∙ c.requires.closed

pub returns-in_err-instance-clause-terms : goal.returns-in_err-instance-clause-terms
returns-in_err-instance-clause-terms c = record {
  grew = grew-on c.references.invariant.grew c.with_arguments.ensures.terms.grew;
  full = at-limit c.from_residual.result c.from_residual.ensures.1 c.in_err-instance.ensures.terms.full;
}

pub returns-in_err-instance-clause-held : goal.returns-in_err-instance-clause-held
returns-in_err-instance-clause-held c = not-ok _ _ c.from_residual.result c.from_residual.ensures.1

pub returns-in_err-instance-clause-are : goal.returns-in_err-instance-clause-are
returns-in_err-instance-clause-are c = not-ok _ _ c.from_residual.result c.from_residual.ensures.1

pub returns-in_err-push-in-Some-2-clause-terms : goal.returns-in_err-push-in-Some-2-clause-terms
returns-in_err-push-in-Some-2-clause-terms c = record {
  grew = grew-on c.references.invariant.grew c.with_arguments.ensures.terms.grew;
  full = memory-at-limit _ c.from_residual-in_err-push-in-Some-2.result c.from_residual-in_err-push-in-Some-2.ensures.1 refl;
}

pub returns-in_err-push-in-Some-2-clause-held : goal.returns-in_err-push-in-Some-2-clause-held
returns-in_err-push-in-Some-2-clause-held c = not-ok _ _ c.from_residual-in_err-push-in-Some-2.result c.from_residual-in_err-push-in-Some-2.ensures.1

pub returns-in_err-push-in-Some-2-clause-are : goal.returns-in_err-push-in-Some-2-clause-are
returns-in_err-push-in-Some-2-clause-are c = not-ok _ _ c.from_residual-in_err-push-in-Some-2.result c.from_residual-in_err-push-in-Some-2.ensures.1

pub references-smaller : goal.references-smaller
references-smaller c = shorter c.in-Some.next.now c.references.left.now c.in-Some.others.now c.in-Some.ensures.cases.0

pub returns-in-None-clause-terms : goal.returns-in-None-clause-terms
returns-in-None-clause-terms c = record {
  grew = grew-on c.references.invariant.grew c.with_arguments.ensures.terms.grew;
  full = tt;
}

pub returns-clause-terms : goal.returns-clause-terms
returns-clause-terms c = record {
  grew = c.references.invariant.grew;
  full = tt;
}

pub returns-clause-held : goal.returns-clause-held
returns-clause-held c = c.references.invariant.found_held

pub returns-clause-are : goal.returns-clause-are
returns-clause-are c =
    let es = c.args.cx.now.entries in
    let found = references_in c.references.cx.entries c.references.found.items in
    let left = none-left c.references.left.now c.in_default.ensures.cases in
    sym (append-nil found) ∙ ap (λ l. found ++ all_with_args (trees_at es c.args.args.0) (references_in es l)) (sym left) ∙ c.references.invariant.are

pub returns-clause-fits : goal.returns-clause-fits
returns-clause-fits c = c.references.invariant.fits (none-each _ _ (none-left c.references.left.now c.in_default.ensures.cases))
