use Rattle.std.proofs.Common.{ap, ◌∙◌, subst}
use Rattle.std.specs.List.{slice_get}
use Rattle.type_terms.specs.Promised.Trees.{leaf, ◌+++◌}
use Rattle.type_terms.specs.Promised.Handles.{trees_at}
use Rattle.declarations.specs.Items.{written}
use Rattle.declarations.specs.Promised.Elaboration.{Each}
use Rattle.built_in_candidates.specs.Goals.{asked_of}
use Rattle.built_in_candidates.specs.Objects.{AreArgumentsOf}
use Rattle.built_in_candidates.proofs.Objects.{principal-any, object-applied, between-read}
use Rattle.built_in_candidates.proofs.upcast.consider_builtin_dyn_upcast_candidates.Goals as goal
use Rattle.type_terms.proofs.TypeBasics.{if-ok}

pub consider_upcast-requires-clause-applied : goal.consider_upcast-requires-clause-applied
consider_upcast-requires-clause-applied c = λ l h.
    let es = c.args.cx.now.entries in
    let d = c.args.declarations.now in
    let S = trees_at es c.args.coercion.self_ty.0 in
    let b = trees_at es c.in-Some-Some.source.0 in
    let o = c.in-Some-Some.ensures in
    subst (Each (AreArgumentsOf d)) (principal-any S b o.1 l o.2 h) (object-applied d S (b +++ leaf o.1) o.3 c.requires.object)

pub returns-in-Some-Some-clause-is : goal.returns-in-Some-Some-clause-is
returns-in-Some-Some-clause-is c =
    let es = c.args.cx.now.entries in
    let V = written es c.args.declarations.now in
    let a = asked_of es c.args.goal.now in
    let S = trees_at es c.args.coercion.self_ty.0 in
    let T = trees_at es c.args.coercion.target.0 in
    let source = c.in-Some-Some.ensures in
    let target = c.in-Some-Some.ensures' in
    let B = trees_at es c.in-Some-Some.source.0 +++ leaf source.1 in
    let D = trees_at es c.in-Some-Some.target.0 +++ leaf target.1 in
    if-ok _ _ c.consider_upcast.result (λ o is. is source.1 source.2 target.1 target.2 ∙ ap (λ l. slice_get l c.args.place) (between-read V a S T B D source.3 target.3)) c.consider_upcast.ensures.is
