use Rattle.std.proofs.Common.{ap, sym, ◌∙◌, refl}
use Rattle.std.specs.List.{flat_map}
use Rattle.type_terms.specs.Promised.Handles.{trees_at}
use Rattle.declarations.specs.Items.{struct_in, written}
use Rattle.candidate_model.specs.Candidates.{unsize_by_struct}
use Rattle.built_in_candidates.specs.Goals.{asked_of}
use Rattle.structural_traits.proofs.Structs.{fields-fit}
use Rattle.built_in_candidates.proofs.StructRows.{fits-struct, one-struct}
use Rattle.built_in_candidates.proofs.unsize_struct.unsize_adt.Goals as goal
use Rattle.type_terms.proofs.TypeBasics.{if-ok}

pub unsize_struct-requires-clause-def : goal.unsize_struct-requires-clause-def
unsize_struct-requires-clause-def c = c.in-Some.ensures.held c.args.cx.now.entries c.requires.declared

pub unsize_struct-requires-clause-fit : goal.unsize_struct-requires-clause-fit
unsize_struct-requires-clause-fit c = fits-struct c.args.declarations.now c.args.def_id.index c.in-Some.def.now (trees_at c.args.cx.now.entries c.args.args.own.0) c.requires.applied c.in-Some.ensures.is

pub unsize_struct-requires-clause-target_fit : goal.unsize_struct-requires-clause-target_fit
unsize_struct-requires-clause-target_fit c = fits-struct c.args.declarations.now c.args.def_id.index c.in-Some.def.now (trees_at c.args.cx.now.entries c.args.args.target.0) c.requires.target_applied c.in-Some.ensures.is

pub unsize_struct-requires-clause-fields_fit : goal.unsize_struct-requires-clause-fields_fit
unsize_struct-requires-clause-fields_fit c =
    let es = c.args.cx.now.entries in
    fields-fit es c.args.declarations.now c.args.def_id.index (trees_at es c.args.args.own.0) c.in-Some.def.now c.requires.fields c.requires.applied c.in-Some.ensures.is

pub unsize_struct-requires-clause-target_fields_fit : goal.unsize_struct-requires-clause-target_fields_fit
unsize_struct-requires-clause-target_fields_fit c =
    let es = c.args.cx.now.entries in
    fields-fit es c.args.declarations.now c.args.def_id.index (trees_at es c.args.args.target.0) c.in-Some.def.now c.requires.fields c.requires.target_applied c.in-Some.ensures.is

pub returns-in-Some-clause-is : goal.returns-in-Some-clause-is
returns-in-Some-clause-is c =
    let es = c.args.cx.now.entries in
    let V = written es c.args.declarations.now in
    let a = asked_of es c.args.goal.now in
    let x = struct_in es (c.args.def_id, c.in-Some.def.now) in
    if-ok _ _ c.unsize_struct.result
    (λ o is. is V x refl ∙ one-struct V a (trees_at es c.args.args.own.0) (trees_at es c.args.args.target.0) _ x (c.in-Some.ensures.written es))
    c.unsize_struct.ensures.is

pub returns-in-None-clause-is : goal.returns-in-None-clause-is
returns-in-None-clause-is c =
    let es = c.args.cx.now.entries in
    let V = written es c.args.declarations.now in
    sym (ap (flat_map (unsize_by_struct V (asked_of es c.args.goal.now) (trees_at es c.args.args.own.0) (trees_at es c.args.args.target.0))) (c.in-None.ensures.written es))
