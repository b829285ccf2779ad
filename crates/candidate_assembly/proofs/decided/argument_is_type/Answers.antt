use Rattle.std.proofs.Common.{◌∙◌, false}
use Rattle.type_terms.specs.declared.kinds.GenericArgKind.TheVariants.{Lifetime, Ty, Const}
use Rattle.candidate_model.specs.Asking.{begins_with_type}
use Rattle.candidate_assembly.proofs.Firsts.{first-is, first-type, first-region, first-const, begins-alone, begins-other}
use Rattle.candidate_assembly.proofs.decided.argument_is_type.Goals as goal

pub returns-in-Ty : goal.returns-in-Ty
returns-in-Ty c = λ t h.
    let es = c.args.cx.now.entries in
    c.is_variable_or_rigid.ensures ∙ first-type (begins_with_type) (begins-alone) es c.lawful.ensures t c.in-Ty.ty (first-is es t c.args.arg c.in-Some.arg (Ty c.in-Ty.ty) c.in-Some.is c.in-Ty.is h)

pub returns-in-Lifetime : goal.returns-in-Lifetime
returns-in-Lifetime c = λ t h.
    let es = c.args.cx.now.entries in
    first-region (begins_with_type) false (begins-other) es c.lawful.ensures t c.in-Lifetime.field-0 (first-is es t c.args.arg c.in-Some.arg (Lifetime c.in-Lifetime.field-0) c.in-Some.is c.in-Lifetime.is h)

pub returns-in-Const : goal.returns-in-Const
returns-in-Const c = λ t h.
    let es = c.args.cx.now.entries in
    first-const (begins_with_type) false (begins-other) es c.lawful.ensures t c.in-Const.field-0 (first-is es t c.args.arg c.in-Some.arg (Const c.in-Const.field-0) c.in-Some.is c.in-Const.is h)
