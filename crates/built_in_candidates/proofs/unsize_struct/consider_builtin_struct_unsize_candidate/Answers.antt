use Rattle.std.proofs.Common.{sym, ◌∙◌, subst}
use Rattle.type_terms.specs.Promised.Handles.{trees_at}
use Rattle.declarations.specs.Items.{written}
use Rattle.infer_table.proofs.BindFacts.{type-is}
use Rattle.structural_traits.specs.Constituents.{AreArguments, StructIsApplied}
use Rattle.built_in_candidates.specs.Goals.{asked_of}
use Rattle.built_in_candidates.proofs.StructRows.{two-structs, other-structs, first-no-struct, second-no-struct}
use Rattle.built_in_candidates.proofs.unsize_struct.consider_builtin_struct_unsize_candidate.Goals as goal
use Rattle.type_terms.proofs.TypeBasics.{if-ok}

pub unsize_adt-requires-clause-applied : goal.unsize_adt-requires-clause-applied
unsize_adt-requires-clause-applied c = subst (StructIsApplied c.args.declarations.now) c.in-Some-Some.ensures.1 c.requires.applied

pub unsize_adt-requires-clause-target_applied : goal.unsize_adt-requires-clause-target_applied
unsize_adt-requires-clause-target_applied c =
    let d = c.args.declarations.now in
    let D = trees_at c.args.cx.now.entries c.in-Some-Some.target_args.0 in
    subst (λ s. AreArguments d s D) (sym c.if-def_id-other.true) (subst (StructIsApplied d) c.in-Some-Some.ensures'.1 c.requires.target_applied)

pub returns-then-def_id-other-clause-is : goal.returns-then-def_id-other-clause-is
returns-then-def_id-other-clause-is c =
    let es = c.args.cx.now.entries in
    let V = written es c.args.declarations.now in
    let a = asked_of es c.args.goal.now in
    if-ok _ _ c.unsize_adt.result
    (λ o is.
    is ∙ two-structs V a c.in-Some-Some.def_id.index c.in-Some-Some.other.index _ _ (trees_at es c.args.coercion.self_ty.0) (trees_at es c.args.coercion.target.0) c.in-Some-Some.ensures.1 c.in-Some-Some.ensures'.1 c.if-def_id-other.true)
    c.unsize_adt.ensures.is

pub returns-else-def_id-other-clause-is : goal.returns-else-def_id-other-clause-is
returns-else-def_id-other-clause-is c =
    let es = c.args.cx.now.entries in
    other-structs (written es c.args.declarations.now) (asked_of es c.args.goal.now) c.in-Some-Some.def_id.index c.in-Some-Some.other.index _ _ (trees_at es c.args.coercion.self_ty.0) (trees_at es c.args.coercion.target.0)
    c.in-Some-Some.ensures.1 c.in-Some-Some.ensures'.1 c.if-def_id-other.false

pub returns-in-Some-None-clause-is : goal.returns-in-Some-None-clause-is
returns-in-Some-None-clause-is c =
    let es = c.args.cx.now.entries in
    let law = c.lawful.ensures in
    second-no-struct (written es c.args.declarations.now) (asked_of es c.args.goal.now) (trees_at es c.args.coercion.self_ty.0) (trees_at es c.args.coercion.target.0)
    (type-is es law c.args.coercion.self_ty.0 c.requires.self_held) (type-is es law c.args.coercion.target.0 c.requires.target) c.in-Some-None.ensures-1

pub returns-in-None-Some-clause-is : goal.returns-in-None-Some-clause-is
returns-in-None-Some-clause-is c =
    let es = c.args.cx.now.entries in
    first-no-struct (written es c.args.declarations.now) (asked_of es c.args.goal.now) (trees_at es c.args.coercion.self_ty.0) (trees_at es c.args.coercion.target.0)
    (type-is es c.lawful.ensures c.args.coercion.self_ty.0 c.requires.self_held) c.in-None-Some.ensures-1

pub returns-in-None-None-clause-is : goal.returns-in-None-None-clause-is
returns-in-None-None-clause-is c =
    let es = c.args.cx.now.entries in
    first-no-struct (written es c.args.declarations.now) (asked_of es c.args.goal.now) (trees_at es c.args.coercion.self_ty.0) (trees_at es c.args.coercion.target.0)
    (type-is es c.lawful.ensures c.args.coercion.self_ty.0 c.requires.self_held) c.in-None-None.ensures-1
