use Rattle.std.proofs.Common.{ap, sym, ◌∙◌, subst}
use Rattle.type_terms.specs.Promised.Rules.{but_last}
use Rattle.type_terms.specs.Kinds.{TysHeld, tys_trees}
use Rattle.built_in_candidates.proofs.FnPointers.{inputs-are, inputs-held}
use Rattle.built_in_candidates.proofs.calls.inputs.Goals as goal
use Rattle.type_terms.proofs.ListBasics.{empty-is}

pub returns-in-Some-clause-is : goal.returns-in-Some-clause-is
returns-in-Some-clause-is c = λ es law h.
    let back = c.in-Some.ensures.cases.0 in
    inputs-are es law c.in-Some.inputs.now c.in-Some.field-0-0.now (subst (TysHeld es) back h) ∙ ap (λ l. but_last (tys_trees es l)) (sym back)

pub returns-in-Some-clause-held : goal.returns-in-Some-clause-held
returns-in-Some-clause-held c = λ es h. inputs-held es c.in-Some.inputs.now c.in-Some.field-0-0.now (subst (TysHeld es) c.in-Some.ensures.cases.0 h)

pub returns-in-None-clause-is : goal.returns-in-None-clause-is
returns-in-None-clause-is c = λ es law h. ap (λ l. but_last (tys_trees es l)) (sym (empty-is c.args.inputs_and_output.now c.in-None.ensures.cases))
