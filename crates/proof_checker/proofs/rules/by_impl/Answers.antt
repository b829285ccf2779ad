use Rattle.std.proofs.Common.{◌≡◌, ◌==◌, [], ap, sym, ◌∙◌, subst, map, None}
use Rattle.std.specs.Prelude.{IfSome}
use Rattle.type_terms.specs.Promised.Worlds.{ImplDecl, with_args, all_with_args}
use Rattle.type_terms.specs.Promised.Erased.{erased_reference}
use Rattle.type_terms.specs.Promised.Proofs.{In}
use Rattle.type_terms.proofs.Members.{here, in-filter}
use Rattle.type_terms.specs.Terms.{args_lists}
use Rattle.type_terms.specs.Promised.Handles.{trees_at}
use Rattle.type_terms.specs.Kept.{trees-later, has-later}
use Rattle.term_folds.specs.Arguments.{first_misfit}
use Rattle.term_folds.specs.declared.predicate.TraitRef.{TraitRef}
use Rattle.type_terms.proofs.FailFacts.{at-limit}
use Rattle.declarations.specs.Items.{reference_in, impl_in, written}
use Rattle.declarations.specs.Held.{ReferenceHeld}
use Rattle.declarations.specs.Promised.Elaboration.{Each}
use Rattle.declarations.specs.Applied.{references_in, TraitRefsHeld}
use Rattle.declarations.proofs.Growth.{reference-same, reference-kept, each-kept}
use Rattle.declarations.proofs.Bounded.{all-same}
use Rattle.proof_checker.proofs.Results.{both-some, not-ok}
use Rattle.structural_traits.proofs.FieldRows.{args-made}
use Rattle.structural_traits.proofs.Fitting.{fits-of}
use Rattle.proof_checker.proofs.Impls.{clauses-fit, fits-back, terms-map, by-the-impl}
use Rattle.type_terms.proofs.Grown.{grew-none, grew-on}
use Rattle.type_terms.specs.Trees.{outer_binder}
use Rattle.proof_checker.proofs.rules.by_impl.Goals as goal

pub all_with_arguments-requires-clause-held : goal.all_with_arguments-requires-clause-held
all_with_arguments-requires-clause-held c =
    let es = c.args.cx.now.entries in
    let es2 = c.are_one.new.cx.entries in
    let k1 = c.with_arguments.ensures.terms.grew.keeps in
    let k2 = c.are_one.ensures.terms.grew.keeps in
    let ih = c.in-Some.ensures.held es c.requires.declared in
    subst (TraitRefsHeld es2) (sym c.deref.ensures.value)
    (each-kept (ReferenceHeld es) (ReferenceHeld es2) (λ r h. reference-kept es es2 (λ j e g. k2 j e (k1 j e g)) r h) c.in-Some.def.now.clauses.items ih.clauses)

pub returns-clause-rule : goal.returns-clause-rule
returns-clause-rule c =
    let es = c.args.cx.now.entries in
    let es1 = c.with_arguments.new.cx.entries in
    let es2 = c.are_one.new.cx.entries in
    let es3 = c.all_with_arguments.new.cx.entries in
    let k1 = c.with_arguments.ensures.terms.grew.keeps in
    let k2 = c.are_one.ensures.terms.grew.keeps in
    let law = c.lawful.ensures in
    let A = trees_at es c.args.source.args.0 in
    let B = trees_at es2 c.args.source.args.0 in
    let d = c.args.declarations.now in
    let def = c.in-Some.def.now in
    let V = written es d in
    let i = impl_in es c.args.source.impl_def_id def in
    let ih = c.in-Some.ensures.held es c.requires.declared in
    let named = c.in-Some.ensures.written es in
    let mem = (in-filter (λ (x : ImplDecl). x.name == c.args.source.impl_def_id.index) V.impls i (subst (In i) (sym named) (here i []))).0 in
    let made = args-made es law c.args.source.args.0 c.requires.args in
    let cl = c.deref.result.now in
    let dv = c.deref.ensures.value in
    let held_cl = subst (TraitRefsHeld es) (sym dv) ih.clauses in
    let now_then = trees-later es es2 (λ j e g. k2 j e (k1 j e g)) args_lists c.args.source.args.0 c.requires.args in
    let hd = subst (λ o. IfSome o (λ (x : TraitRef). reference_in es1 x ≡ with_args A (reference_in es def.header))) c.in-Some-made.is c.in_ok-made.ensures.is in
    let hf = subst (λ o. IfSome o (λ (x : TraitRef). first_misfit A (trees_at es def.header.args.0) ≡ None)) c.in-Some-made.is c.in_ok-made.ensures.fits in
    let q = c.in_ok-are_one.ensures.one c.if-not-branch.false in
    both-some _ _ _ c.all_with_arguments.result
    (λ v pr cf E.
    let fs = subst (λ l. Each (λ (b : TraitRef). first_misfit A (trees_at es b.args.0) ≡ None) l) dv (fits-back es es2 (λ j e g. k2 j e (k1 j e g)) A B now_then cl held_cl cf) in
    by-the-impl V E i A (reference_in es c.args.reference) _ mem (c.requires.covered i mem) (sym c.outer_exclusive_binder.ensures ∙ c.if-outer_exclusive_binder-ne0.false)
    (fits-of A made (trees_at es def.header.args.0) (args-made es law def.header.args.0 ih.header) hf)
    (clauses-fit es law A made def.clauses.items ih.clauses fs)
    (ap erased_reference (sym hd) ∙ q ∙ ap erased_reference (reference-same es es1 k1 c.args.reference c.requires.reference))
    (terms-map es3 v.items ∙ ap (map erased_reference) (pr ∙ ap (λ a. all_with_args a (references_in es2 cl)) now_then ∙ ap (all_with_args A) (all-same es es2 (λ j e g. k2 j e (k1 j e g)) cl held_cl ∙ ap (references_in es) dv))))
    c.all_with_arguments.ensures.are c.all_with_arguments.ensures.fits

pub returns-in-None-clause-terms : goal.returns-in-None-clause-terms
returns-in-None-clause-terms c = record {
  grew = grew-none;
  full = tt;
}

pub outer_exclusive_binder-requires : goal.outer_exclusive_binder-requires
outer_exclusive_binder-requires c = c.requires.args

pub with_arguments-requires-clause-held : goal.with_arguments-requires-clause-held
with_arguments-requires-clause-held c = (c.in-Some.ensures.held c.args.cx.now.entries c.requires.declared).header

pub with_arguments-requires-clause-args : goal.with_arguments-requires-clause-args
with_arguments-requires-clause-args c = c.requires.args

pub with_arguments-requires-clause-closed : goal.with_arguments-requires-clause-closed
with_arguments-requires-clause-closed c = sym c.outer_exclusive_binder.ensures ∙ c.if-outer_exclusive_binder-ne0.false

pub returns-in_err-made-clause-terms : goal.returns-in_err-made-clause-terms
returns-in_err-made-clause-terms c = record {
  grew = c.with_arguments.ensures.terms.grew;
  full = at-limit c.from_residual.result c.from_residual.ensures.1 c.in_err-made.ensures.terms.full;
}

pub returns-in_err-made-clause-held : goal.returns-in_err-made-clause-held
returns-in_err-made-clause-held c = not-ok _ _ c.from_residual.result c.from_residual.ensures.1

pub returns-in_err-made-clause-rule : goal.returns-in_err-made-clause-rule
returns-in_err-made-clause-rule c = not-ok _ _ c.from_residual.result c.from_residual.ensures.1

pub returns-in-None-made-clause-terms : goal.returns-in-None-made-clause-terms
returns-in-None-made-clause-terms c = record {
  grew = c.with_arguments.ensures.terms.grew;
  full = tt;
}

pub are_one-requires-clause-one : goal.are_one-requires-clause-one
are_one-requires-clause-one c = subst (λ o. IfSome o (ReferenceHeld c.with_arguments.new.cx.entries)) c.in-Some-made.is c.in_ok-made.ensures.held

pub are_one-requires-clause-other : goal.are_one-requires-clause-other
are_one-requires-clause-other c = reference-kept c.args.cx.now.entries c.with_arguments.new.cx.entries c.with_arguments.ensures.terms.grew.keeps c.args.reference c.requires.reference

pub returns-in_err-are_one-clause-terms : goal.returns-in_err-are_one-clause-terms
returns-in_err-are_one-clause-terms c = record {
  grew = grew-on c.with_arguments.ensures.terms.grew c.are_one.ensures.terms.grew;
  full = at-limit c.from_residual-in_err-are_one.result c.from_residual-in_err-are_one.ensures.1 c.in_err-are_one.ensures.terms.full;
}

pub returns-in_err-are_one-clause-held : goal.returns-in_err-are_one-clause-held
returns-in_err-are_one-clause-held c = not-ok _ _ c.from_residual-in_err-are_one.result c.from_residual-in_err-are_one.ensures.1

pub returns-in_err-are_one-clause-rule : goal.returns-in_err-are_one-clause-rule
returns-in_err-are_one-clause-rule c = not-ok _ _ c.from_residual-in_err-are_one.result c.from_residual-in_err-are_one.ensures.1

pub returns-then-not-branch-clause-terms : goal.returns-then-not-branch-clause-terms
returns-then-not-branch-clause-terms c = record {
  grew = grew-on c.with_arguments.ensures.terms.grew c.are_one.ensures.terms.grew;
  full = tt;
}

pub all_with_arguments-requires-clause-args : goal.all_with_arguments-requires-clause-args
all_with_arguments-requires-clause-args c =
    has-later c.args.cx.now.entries c.are_one.new.cx.entries (λ i e h. c.are_one.ensures.terms.grew.keeps i e (c.with_arguments.ensures.terms.grew.keeps i e h)) args_lists c.args.source.args.0 c.requires.args

pub all_with_arguments-requires-clause-closed : goal.all_with_arguments-requires-clause-closed
all_with_arguments-requires-clause-closed c =
    ap outer_binder (trees-later c.args.cx.now.entries c.are_one.new.cx.entries (λ i e h. c.are_one.ensures.terms.grew.keeps i e (c.with_arguments.ensures.terms.grew.keeps i e h)) args_lists c.args.source.args.0 c.requires.args)
    ∙ sym c.outer_exclusive_binder.ensures ∙ c.if-outer_exclusive_binder-ne0.false

pub returns-clause-terms : goal.returns-clause-terms
returns-clause-terms c = record {
  grew = grew-on (grew-on c.with_arguments.ensures.terms.grew c.are_one.ensures.terms.grew) c.all_with_arguments.ensures.terms.grew;
  full = c.all_with_arguments.ensures.terms.full;
}

pub returns-clause-held : goal.returns-clause-held
returns-clause-held c = c.all_with_arguments.ensures.held
