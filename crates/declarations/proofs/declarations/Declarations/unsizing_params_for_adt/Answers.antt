use Rattle.std.proofs.Common.{◌∙◌, length}
use Rattle.type_terms.specs.Promised.Erased.{erased_struct}
use Rattle.declarations.specs.Items.{struct_in}
use Rattle.declarations.specs.Unsizing.{field_trees}
use Rattle.declarations.proofs.Unsized.{flags-told}
use Rattle.declarations.proofs.declarations.Declarations.unsizing_params_for_adt.Goals as goal

pub returns-in-Some : goal.returns-in-Some
returns-in-Some c es h =
    let def = c.in-Some.def.now in
    let told = c.deref.ensures.value ∙ (c.in-Some.ensures.held es h).1 in
    (erased_struct (struct_in es (c.args.id, def)), c.in-Some.ensures.found es, flags-told (field_trees es def.fields.items) (length def.params.items) c.deref.result.now told)
