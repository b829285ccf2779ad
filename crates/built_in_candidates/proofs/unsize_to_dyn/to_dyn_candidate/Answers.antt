use Rattle.std.proofs.Common.{[], ◌∷◌, ◌++◌, map, ap, sym, ◌∙◌, subst}
use Rattle.type_terms.specs.Promised.Rules.{asked, sized, autos_with, are_dyn_compatible}
use Rattle.type_terms.specs.Promised.Handles.{Keeps, types, bounds_lists, trees_at}
use Rattle.type_terms.specs.Kept.{has-later, trees-later}
use Rattle.infer_table.proofs.Numbers.{goal-held-later}
use Rattle.goal_evaluator.specs.Lists.{Every}
use Rattle.goal_evaluator.specs.Merge.{if_there}
use Rattle.goal_evaluator.specs.Readings.{EquationHeld}
use Rattle.goal_evaluator.specs.StepReadings.{equation_read}
use Rattle.declarations.specs.Items.{written}
use Rattle.declarations.specs.Applied.{references_in, TraitRefsHeld}
use Rattle.declarations.specs.Promised.Elaboration.{elaborate}
use Rattle.candidate_model.specs.Candidates.{by_rule, misc}
use Rattle.type_terms.specs.Promised.Trees.{◌+++◌, leaf}
use Rattle.built_in_candidates.specs.Goals.{asked_of}
use Rattle.built_in_candidates.proofs.Asking.{asked-later}
use Rattle.built_in_candidates.proofs.ToDyn.{compatible, incompatible}
use Rattle.built_in_candidates.proofs.unsize_to_dyn.to_dyn_candidate.Goals as goal

pub unsizing_obligations-requires-clause-self_held : goal.unsizing_obligations-requires-clause-self_held
unsizing_obligations-requires-clause-self_held c = has-later c.args.cx.now.entries c.elaborated_principal.new.cx.entries c.elaborated_principal.ensures.terms.grew.keeps types c.args.self_ty.0 c.requires.self_held

pub unsizing_obligations-requires-clause-bounds : goal.unsizing_obligations-requires-clause-bounds
unsizing_obligations-requires-clause-bounds c = has-later c.args.cx.now.entries c.elaborated_principal.new.cx.entries c.elaborated_principal.ensures.terms.grew.keeps bounds_lists c.args.bounds.0 c.requires.bounds

pub returns-then-is_dyn_compatible-clause-held : goal.returns-then-is_dyn_compatible-clause-held
returns-then-is_dyn_compatible-clause-held c =
    let old = c.args.cx.now.entries in
    let mid = c.elaborated_principal.new.cx.entries in
    let new = c.unsizing_obligations.new.cx.entries in
    let k : Keeps old new = λ i e h. c.unsizing_obligations.ensures.terms.grew.keeps i e (c.elaborated_principal.ensures.terms.grew.keeps i e h) in
    c.in_ok-candidate.ensures.held new (goal-held-later old new k c.args.goal.now.goal c.requires.goal)
    (subst (Every (EquationHeld new)) (sym c.new.ensures.items) tt) (subst (TraitRefsHeld new) (sym c.deref-then-is_dyn_compatible.ensures.value) c.in_ok-premises.ensures.held)

pub returns-then-is_dyn_compatible-clause-is : goal.returns-then-is_dyn_compatible-clause-is
returns-then-is_dyn_compatible-clause-is c = λ l lifetime.
    let old = c.args.cx.now.entries in
    let mid = c.elaborated_principal.new.cx.entries in
    let new = c.unsizing_obligations.new.cx.entries in
    let k = c.elaborated_principal.ensures.terms.grew.keeps in
    let whole : Keeps old new = λ i e h. c.unsizing_obligations.ensures.terms.grew.keeps i e (k i e h) in
    let d = c.args.declarations.now in
    let V = written old d in
    let g = c.args.goal.now in
    let a = asked_of old g in
    let S = trees_at old c.args.self_ty.0 in
    let b = trees_at old c.args.bounds.0 +++ leaf l in
    let from = c.in_ok-from in
    let ps = references_in mid (if_there from.from.principal) in
    let principal = from.ensures.principal l lifetime in
    let elaborated = ap (references_in mid) c.deref.ensures.value ∙ from.ensures.elaborated l lifetime ∙ ap (elaborate V) (sym principal) in
    let test = c.is_dyn_compatible.ensures old mid c.requires.traits elaborated ∙ ap (are_dyn_compatible V) principal in
    let self = trees-later old mid k types c.args.self_ty.0 c.requires.self_held in
    let same = trees-later old mid k bounds_lists c.args.bounds.0 c.requires.bounds in
    let b_mid = trees_at mid c.args.bounds.0 +++ leaf l in
    let premises = ap (references_in new) c.deref-then-is_dyn_compatible.ensures.value ∙ c.in_ok-premises.ensures.are l lifetime
    ∙ ap (λ s. ps ++ (autos_with s b_mid ++ asked sized s ∷ [])) self
    ∙ ap (λ t. ps ++ (autos_with S (t +++ leaf l) ++ asked sized S ∷ [])) same
    ∙ ap (λ rs. rs ++ (autos_with S b ++ asked sized S ∷ [])) principal in
    let now = c.deref-then-is_dyn_compatible.result.now in
    let made = c.in_ok-candidate.ensures.is new V
    ∙ ap (λ es. by_rule V (asked_of new g) misc (map (equation_read new) es) (references_in new now)) c.new.ensures.items
    ∙ ap (λ x. by_rule V x misc [] (references_in new now)) (asked-later old new whole g c.requires.goal)
    ∙ ap (by_rule V a misc []) premises in
    ap (λ x. x ∷ []) made ∙ compatible V a S b c.is_dyn_compatible.result test c.if-is_dyn_compatible.true

pub returns-clause-is : goal.returns-clause-is
returns-clause-is c = λ l lifetime.
    let old = c.args.cx.now.entries in
    let mid = c.elaborated_principal.new.cx.entries in
    let V = written old c.args.declarations.now in
    let S = trees_at old c.args.self_ty.0 in
    let b = trees_at old c.args.bounds.0 +++ leaf l in
    let from = c.in_ok-from in
    let principal = from.ensures.principal l lifetime in
    let elaborated = ap (references_in mid) c.deref.ensures.value ∙ from.ensures.elaborated l lifetime ∙ ap (elaborate V) (sym principal) in
    let test = c.is_dyn_compatible.ensures old mid c.requires.traits elaborated ∙ ap (are_dyn_compatible V) principal in
    incompatible V (asked_of old c.args.goal.now) S b c.is_dyn_compatible.result test c.if-is_dyn_compatible.false
