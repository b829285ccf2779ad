use Rattle.std.proofs.Common.{Bool, List, ◌&&◌, sym, ap, ◌∙◌}
use Rattle.std.specs.List.{slice_get}
use Rattle.type_terms.specs.Promised.Trees.{Trees, leaf, ◌+++◌}
use Rattle.type_terms.specs.Promised.Worlds.{Reference}
use Rattle.type_terms.specs.Promised.Rules.{principal_with, autos_with, are_declared, upcasts_autos}
use Rattle.type_terms.specs.Promised.Handles.{bounds_lists, trees_at}
use Rattle.type_terms.specs.Kept.{trees-later}
use Rattle.infer_table.proofs.Numbers.{goal-held-later}
use Rattle.goal_evaluator.specs.Merge.{if_there}
use Rattle.declarations.specs.Items.{written}
use Rattle.declarations.specs.Applied.{references_in}
use Rattle.declarations.specs.Promised.Elaboration.{elaborate}
use Rattle.candidate_model.specs.Candidates.{if_so, upcasts_to}
use Rattle.built_in_candidates.specs.Goals.{asked_of}
use Rattle.built_in_candidates.proofs.Asking.{asked-later}
use Rattle.built_in_candidates.proofs.upcast.consider_upcast.Goals as goal
use Rattle.type_terms.proofs.TypeBasics.{if-ok}

pub upcast_candidate-requires-clause-goal : goal.upcast_candidate-requires-clause-goal
upcast_candidate-requires-clause-goal c = goal-held-later c.args.cx.now.entries c.upcast_ends.new.cx.entries c.upcast_ends.ensures.terms.grew.keeps c.args.goal.now.goal c.requires.goal

pub returns-then-can_upcast-clause-is : goal.returns-then-can_upcast-clause-is
returns-then-can_upcast-clause-is c =
    let old = c.args.cx.now.entries in
    let mid = c.upcast_ends.new.cx.entries in
    let keeps = c.upcast_ends.ensures.terms.grew.keeps in
    let V = written old c.args.declarations.now in
    let g = c.args.goal.now in
    let a = asked_of old g in
    let n = c.args.place in
    let S = trees_at old c.args.upcast.self_ty.0 in
    let ps = references_in mid (if_there c.in_ok-ends.ends.from.principal) in
    let qs = references_in mid (if_there c.in_ok-ends.ends.to) in
    let test : List Reference → Trees → Trees → Bool = λ rs b d. are_declared V rs && upcasts_autos V rs (autos_with S b) (autos_with S d) in
    if-ok _ _ c.upcast_candidate.result
    (λ o is. λ l h m j.
    let B = trees_at old c.args.upcast.source.0 +++ leaf l in
    let D = trees_at old c.args.upcast.target.0 +++ leaf m in
    let P = principal_with S B in
    let principal = c.in_ok-ends.ensures.principal l h in
    let elab = c.in_ok-ends.ensures.elaborated l h ∙ ap (elaborate V) (sym principal) in
    let ok = c.can_upcast.ensures old mid S c.requires.traits elab l h m j
    ∙ ap (λ rs. test rs (trees_at mid c.args.upcast.source.0 +++ leaf l) (trees_at mid c.args.upcast.target.0 +++ leaf m)) principal
    ∙ ap (λ b. test P (b +++ leaf l) (trees_at mid c.args.upcast.target.0 +++ leaf m)) (trees-later old mid keeps bounds_lists c.args.upcast.source.0 c.requires.source)
    ∙ ap (λ d. test P B (d +++ leaf m)) (trees-later old mid keeps bounds_lists c.args.upcast.target.0 c.requires.target) in
    is V elab
    ∙ ap (λ x. slice_get (upcasts_to V x ps qs) n) (asked-later old mid keeps g c.requires.goal)
    ∙ ap (λ rs. slice_get (upcasts_to V a rs qs) n) principal
    ∙ ap (λ rs. slice_get (upcasts_to V a P rs) n) (c.in_ok-ends.ensures.to m j)
    ∙ sym (ap (λ b. slice_get (if_so b (upcasts_to V a P (principal_with S D))) n) (sym ok ∙ c.if-can_upcast.true)))
    c.upcast_candidate.ensures.is

pub returns-clause-is : goal.returns-clause-is
returns-clause-is c = λ l h m j.
    let old = c.args.cx.now.entries in
    let mid = c.upcast_ends.new.cx.entries in
    let keeps = c.upcast_ends.ensures.terms.grew.keeps in
    let V = written old c.args.declarations.now in
    let a = asked_of old c.args.goal.now in
    let S = trees_at old c.args.upcast.self_ty.0 in
    let B = trees_at old c.args.upcast.source.0 +++ leaf l in
    let D = trees_at old c.args.upcast.target.0 +++ leaf m in
    let P = principal_with S B in
    let test : List Reference → Trees → Trees → Bool = λ rs b d. are_declared V rs && upcasts_autos V rs (autos_with S b) (autos_with S d) in
    let principal = c.in_ok-ends.ensures.principal l h in
    let elab = c.in_ok-ends.ensures.elaborated l h ∙ ap (elaborate V) (sym principal) in
    let ok = c.can_upcast.ensures old mid S c.requires.traits elab l h m j
    ∙ ap (λ rs. test rs (trees_at mid c.args.upcast.source.0 +++ leaf l) (trees_at mid c.args.upcast.target.0 +++ leaf m)) principal
    ∙ ap (λ b. test P (b +++ leaf l) (trees_at mid c.args.upcast.target.0 +++ leaf m)) (trees-later old mid keeps bounds_lists c.args.upcast.source.0 c.requires.source)
    ∙ ap (λ d. test P B (d +++ leaf m)) (trees-later old mid keeps bounds_lists c.args.upcast.target.0 c.requires.target) in
    sym (ap (λ b. slice_get (if_so b (upcasts_to V a P (principal_with S D))) c.args.place) (sym ok ∙ c.if-can_upcast.false))
