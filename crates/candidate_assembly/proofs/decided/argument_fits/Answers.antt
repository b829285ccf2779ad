use Rattle.std.proofs.Common.{◌∙◌, true}
use Rattle.type_terms.specs.declared.kinds.GenericArgKind.TheVariants.{Lifetime, Ty, Const}
use Rattle.candidate_assembly.specs.Fitting.{type_fits}
use Rattle.candidate_assembly.proofs.Firsts.{first-is, first-type, first-region, first-const, fits-alone, fits-other}
use Rattle.candidate_assembly.proofs.decided.argument_fits.Goals as goal

pub returns-in-Ty : goal.returns-in-Ty
returns-in-Ty c = λ t h.
    let es = c.args.cx.now.entries in
    let d = c.args.declarations.now in
    c.type_fits.ensures ∙ first-type (type_fits d) (fits-alone d) es c.lawful.ensures t c.in-Ty.ty (first-is es t c.args.arg c.in-Some.arg (Ty c.in-Ty.ty) c.in-Some.is c.in-Ty.is h)

pub returns-in-Lifetime : goal.returns-in-Lifetime
returns-in-Lifetime c = λ t h.
    let es = c.args.cx.now.entries in
    let d = c.args.declarations.now in
    first-region (type_fits d) true (fits-other d) es c.lawful.ensures t c.in-Lifetime.field-0 (first-is es t c.args.arg c.in-Some.arg (Lifetime c.in-Lifetime.field-0) c.in-Some.is c.in-Lifetime.is h)

pub returns-in-Const : goal.returns-in-Const
returns-in-Const c = λ t h.
    let es = c.args.cx.now.entries in
    let d = c.args.declarations.now in
    first-const (type_fits d) true (fits-other d) es c.lawful.ensures t c.in-Const.field-0 (first-is es t c.args.arg c.in-Some.arg (Const c.in-Const.field-0) c.in-Some.is c.in-Const.is h)
