use Rattle.std.proofs.Common.{◌≡◌, ap, sym, ◌∙◌, subst, None, Err}
use Rattle.std.specs.Option.{option_or}
use Rattle.type_terms.specs.Promised.Trees.{instantiate}
use Rattle.type_terms.specs.Promised.Handles.{trees_at}
use Rattle.type_terms.specs.declared.kinds.Ty.{Ty}
use Rattle.type_terms.specs.Pieces.{each_piece, one_piece}
use Rattle.term_folds.specs.Arguments.{first_misfit}
use Rattle.term_folds.specs.declared.instantiate.InstantiateError.TheVariants as error
use Rattle.structural_traits.proofs.Misfits.{no-misfit, one-same}
use Rattle.structural_traits.proofs.fields.field_with.Goals as goal

pub returns-in-Ok-clause-is : goal.returns-in-Ok-clause-is
returns-in-Ok-clause-is c =
    let old = c.args.cx.now.entries in
    let A = trees_at old c.args.args.0 in
    one-same (trees_at c.instantiate.new.cx.entries c.in-Ok.ty.0) (instantiate 0 A (trees_at old c.args.field.0))
    (c.in-Ok.ensures.instantiated ∙ ap (λ (b : Ty). each_piece (λ d t. instantiate d A t) (one_piece (trees_at old b.0))) c.bind.ensures)

pub returns-in-Ok-clause-fits : goal.returns-in-Ok-clause-fits
returns-in-Ok-clause-fits c =
    let es = c.args.cx.now.entries in
    let A = trees_at es c.args.args.0 in
    subst (λ (b : Ty). first_misfit A (trees_at es b.0) ≡ None) c.bind.ensures
    (no-misfit {T = Ty} c.in-Ok.ty A (trees_at es c.bind.result.value.0) c.in-Ok.ensures.out_of_range c.in-Ok.ensures.other_kind)

pub returns-in-Err-Fault-clause-terms : goal.returns-in-Err-Fault-clause-terms
returns-in-Err-Fault-clause-terms c = record {
  grew = c.instantiate.ensures.grew;
  full = λ q. c.in-Err-Fault.ensures.full (ap Err (c.in-Err-Fault.field-0-is ∙ ap error.Fault q));
}

pub returns-in-Err-ParamOutOfRange-clause-misfits : goal.returns-in-Err-ParamOutOfRange-clause-misfits
returns-in-Err-ParamOutOfRange-clause-misfits c = λ m.
    let es = c.args.cx.now.entries in
    let A = trees_at es c.args.args.0 in
    let fits = ap (λ (b : Ty). first_misfit A (trees_at es b.0)) c.bind.ensures ∙ m in
    absurd (let z = c.in-Err-ParamOutOfRange.ensures.out_of_range.0 (ap Err c.in-Err-ParamOutOfRange.field-0-is) in let y = sym (ap (λ n. option_or n None) fits) ∙ z in cc)

pub returns-in-Err-ParamKind-clause-misfits : goal.returns-in-Err-ParamKind-clause-misfits
returns-in-Err-ParamKind-clause-misfits c = λ m.
    let es = c.args.cx.now.entries in
    let A = trees_at es c.args.args.0 in
    let fits = ap (λ (b : Ty). first_misfit A (trees_at es b.0)) c.bind.ensures ∙ m in
    absurd (let z = c.in-Err-ParamKind.ensures.other_kind.0 (ap Err c.in-Err-ParamKind.field-0-is) in let y = sym (ap (λ n. option_or n None) fits) ∙ z in cc)
