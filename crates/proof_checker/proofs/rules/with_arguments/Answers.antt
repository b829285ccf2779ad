use Rattle.std.proofs.Common.{◌≡◌, ◌∙◌, ap, sym, subst, None, Err}
use Rattle.type_terms.specs.Promised.Handles.{trees_at}
use Rattle.type_terms.specs.Promised.Trees.{instantiate}
use Rattle.type_terms.specs.Pieces.{one_piece}
use Rattle.type_terms.specs.Promised.Worlds.{with_args}
use Rattle.term_folds.specs.Arguments.{first_misfit}
use Rattle.term_folds.specs.declared.instantiate.InstantiateError.TheVariants as error
use Rattle.term_folds.specs.declared.predicate.TraitRef.{TraitRef}
use Rattle.declarations.specs.Held.{ReferenceHeld}
use Rattle.declarations.specs.Items.{reference_in}
use Rattle.structural_traits.proofs.Misfits.{no-misfit, one-reference}
use Rattle.proof_checker.proofs.rules.with_arguments.Goals as goal

pub returns-in-Ok-clause-fits : goal.returns-in-Ok-clause-fits
returns-in-Ok-clause-fits c =
    let es = c.args.cx.now.entries in
    let A = trees_at es c.args.args.0 in
    subst (λ (b : TraitRef). first_misfit A (trees_at es b.args.0) ≡ None) c.bind.ensures
    (no-misfit c.in-Ok.instance A (trees_at es c.bind.result.value.args.0) c.in-Ok.ensures.out_of_range c.in-Ok.ensures.other_kind)

pub returns-in-Err-Fault-clause-terms : goal.returns-in-Err-Fault-clause-terms
returns-in-Err-Fault-clause-terms c = record {
  grew = c.instantiate.ensures.grew;
  full = λ q. c.in-Err-Fault.ensures.full (ap Err (c.in-Err-Fault.field-0-is ∙ ap error.Fault q));
}

pub instantiate-requires-clause-held : goal.instantiate-requires-clause-held
instantiate-requires-clause-held c = subst (ReferenceHeld c.args.cx.now.entries) (sym c.bind.ensures) c.requires.held

pub instantiate-requires-clause-range : goal.instantiate-requires-clause-range
instantiate-requires-clause-range c = let es = c.args.cx.now.entries in
    c.closed_arguments_are_in_range.ensures (trees_at es c.args.args.0) (one_piece (trees_at es c.bind.result.value.args.0)) c.requires.closed

pub returns-in-Ok-clause-terms : goal.returns-in-Ok-clause-terms
returns-in-Ok-clause-terms c = record {
  grew = c.instantiate.ensures.grew;
  full = tt;
}

pub returns-in-Ok-clause-held : goal.returns-in-Ok-clause-held
returns-in-Ok-clause-held c = c.in-Ok.ensures.held

pub returns-in-Ok-clause-is : goal.returns-in-Ok-clause-is
returns-in-Ok-clause-is c =
    let old = c.args.cx.now.entries in
    let new = c.instantiate.new.cx.entries in
    let A = trees_at old c.args.args.0 in
    let made = c.in-Ok.instance in
    let bound = c.bind.result.value in
    one-reference made.def_id.index bound.def_id.index (trees_at new made.args.0) (instantiate 0 A (trees_at old bound.args.0)) c.in-Ok.ensures.outline c.in-Ok.ensures.instantiated
    ∙ ap (λ (b : TraitRef). with_args A (reference_in old b)) c.bind.ensures

pub returns-in-Err-ParamOutOfRange-clause-terms : goal.returns-in-Err-ParamOutOfRange-clause-terms
returns-in-Err-ParamOutOfRange-clause-terms c = record {
  grew = c.instantiate.ensures.grew;
  full = tt;
}

pub returns-in-Err-ParamKind-clause-terms : goal.returns-in-Err-ParamKind-clause-terms
returns-in-Err-ParamKind-clause-terms c = record {
  grew = c.instantiate.ensures.grew;
  full = tt;
}
