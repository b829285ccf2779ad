use Rattle.type_terms.specs.Promised.Handles.{types}
use Rattle.type_terms.specs.Kept.{trees-is}
use Rattle.built_in_candidates.proofs.unsize_struct.struct_with.Goals as goal

pub returns-in-Adt : goal.returns-in-Adt
returns-in-Adt c = (c.in-Adt.ensures.held, trees-is c.args.cx.now.entries types c.args.ty.0 _ c.in-Adt.ensures.is)
