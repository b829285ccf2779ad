use Rattle.declarations.proofs.Bounded.{put-for-itself}
use Rattle.declarations.proofs.arguments.is_only_parameter.Goals as goal

pub returns-in-Param : goal.returns-in-Param
returns-in-Param c = λ e.
    put-for-itself c.args.cx.now.entries c.lawful.ensures c.in-Some-Some.field-0-1 c.in-Some-Some.ensures'.0 c.in-Some-Some.ty.0 c.args.args.0 c.args.bound.0 c.in-Param.field-0 c.in-Param.ensures.is
    c.in-Some-Some.ensures.1 c.in-Some-Some.ensures'.1 c.requires.fits
