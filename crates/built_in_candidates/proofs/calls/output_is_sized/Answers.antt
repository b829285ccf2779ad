use Rattle.std.proofs.Common.{ap, sym, ◌∙◌, subst}
use Rattle.type_terms.specs.Promised.Rules.{last_asked, sized}
use Rattle.type_terms.specs.Terms.{type_lists}
use Rattle.type_terms.specs.Kept.{trees-is}
use Rattle.type_terms.specs.Kinds.{TysHeld}
use Rattle.structural_traits.specs.Constituents.{types_asked}
use Rattle.structural_traits.proofs.Trees.{tys-last, held-last}
use Rattle.built_in_candidates.proofs.calls.output_is_sized.Goals as goal
use Rattle.type_terms.proofs.TypeBasics.{if-ok}

pub types_asked-requires : goal.types_asked-requires
types_asked-requires c =
    subst (TysHeld c.args.cx.now.entries) (sym (c.deref.ensures.value ∙ c.in_ok-output.ensures.is)) (held-last c.args.cx.now.entries c.tys.result.now c.tys.ensures.held)

pub returns-clause-are : goal.returns-clause-are
returns-clause-are c =
    let es = c.args.cx.now.entries in
    if-ok _ _ c.types_asked.result
    (λ v e.
    e ∙ ap (types_asked es sized) (c.deref.ensures.value ∙ c.in_ok-output.ensures.is) ∙ sym (tys-last es c.lawful.ensures sized c.tys.result.now c.tys.ensures.held)
    ∙ ap (last_asked sized) (sym (trees-is es type_lists c.args.inputs_and_output.0 _ c.tys.ensures.is)))
    c.types_asked.ensures.are
