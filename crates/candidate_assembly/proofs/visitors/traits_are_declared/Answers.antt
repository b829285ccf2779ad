use Rattle.std.proofs.Common.{sym, ◌∙◌}
use Rattle.type_terms.specs.Kinds.{autos_trees}
use Rattle.declarations.specs.Items.{written}
use Rattle.candidate_assembly.proofs.Finding.{among, stray-next, stray-found, stray-none}
use Rattle.candidate_assembly.proofs.visitors.traits_are_declared.Goals as goal
use Rattle.type_terms.proofs.ListBasics.{empty-is}

pub returns-then-not-trait_is_declared : goal.returns-then-not-trait_is_declared
returns-then-not-trait_is_declared c = λ es.
    let V = written es c.args.declarations.now in
    stray-found V c.ids.left.now (among V (autos_trees c.args.ids.now)) c.in-Some.id.now c.in-Some.others.now c.in-Some.ensures.cases.0 (c.ids.invariant es)
    (sym (c.trait_is_declared.ensures es) ∙ c.if-not-trait_is_declared.true)

pub ids-preserved : goal.ids-preserved
ids-preserved c = λ es.
    let V = written es c.args.declarations.now in
    stray-next V c.ids.left.now (among V (autos_trees c.args.ids.now)) c.in-Some.id.now c.in-Some.others.now c.in-Some.ensures.cases.0 (c.ids.invariant es)
    (sym (c.trait_is_declared.ensures es) ∙ c.if-not-trait_is_declared.false)

pub returns : goal.returns
returns c = λ es.
    let V = written es c.args.declarations.now in
    stray-none V c.ids.left.now (among V (autos_trees c.args.ids.now)) (empty-is c.ids.left.now c.in_default.ensures.cases) (c.ids.invariant es)
