use Rattle.std.proofs.Common.{sym, ap, ◌∙◌, subst, None}
use Rattle.type_terms.specs.Promised.Rules.{auto_rules_plain}
use Rattle.type_terms.specs.Promised.Handles.{types, trees_at}
use Rattle.type_terms.specs.Kept.{trees-is}
use Rattle.infer_table.proofs.Numbers.{goal-held-later}
use Rattle.declarations.specs.Items.{written}
use Rattle.declarations.specs.Relevant.{next_above}
use Rattle.candidate_model.specs.Asking.{with_plain_head}
use Rattle.candidate_model.specs.Candidates.{as_written, misc}
use Rattle.built_in_candidates.specs.Goals.{asked_of}
use Rattle.structural_traits.specs.Constituents.{AreConstituents, FitsFields}
use Rattle.built_in_candidates.proofs.Asking.{asked-later}
use Rattle.built_in_candidates.proofs.Relevant.{relevant-names}
use Rattle.built_in_candidates.proofs.Autos.{switched-off, switched-on}
use Rattle.built_in_candidates.proofs.Heads.{applied-first, auto-first}
use Rattle.built_in_candidates.proofs.built_in.consider_auto_trait_candidate.Goals as goal
use Rattle.type_terms.proofs.TypeBasics.{if-ok}

pub returns-in-Some-clause-is : goal.returns-in-Some-clause-is
returns-in-Some-clause-is c =
    let old = c.args.cx.now.entries in
    let d = c.args.declarations.now in
    let V = written old d in
    let g = c.args.goal.now in
    let a = asked_of old g in
    let t = g.goal.predicate.trait_ref.def_id.index in
    let T = trees_at old g.goal.predicate.trait_ref.args.0 in
    let S = trees_at old c.self_ty-self_ty.result.0 in
    let first = trees-is old types c.self_ty-self_ty.result.0 _ c.self_ty-self_ty.ensures.is in
    let named = relevant-names old d a S c.requires.considered.first first c.requires.impls in
    sym (ap (as_written V a misc) (switched-off V t T c.in-Some.field-0.index c.requires.considered.first (c.in-Some.ensures.is ∙ ap (next_above None) named)))

pub for_constituent_tys-requires-clause-goal : goal.for_constituent_tys-requires-clause-goal
for_constituent_tys-requires-clause-goal c =
    goal-held-later c.args.cx.now.entries c.instantiate_constituent_tys_for_auto_trait.new.cx.entries c.instantiate_constituent_tys_for_auto_trait.ensures.terms.grew.keeps c.args.goal.now.goal c.requires.considered.goal

pub returns-in_ok-tys-in-None-clause-is : goal.returns-in_ok-tys-in-None-clause-is
returns-in_ok-tys-in-None-clause-is c =
    let old = c.args.cx.now.entries in
    let mid = c.instantiate_constituent_tys_for_auto_trait.new.cx.entries in
    let d = c.args.declarations.now in
    let V = written old d in
    let g = c.args.goal.now in
    let a = asked_of old g in
    let t = g.goal.predicate.trait_ref.def_id.index in
    let T = trees_at old g.goal.predicate.trait_ref.args.0 in
    let S = trees_at old c.self_ty-self_ty.result.0 in
    let starts = c.requires.considered.first in
    let first = trees-is old types c.self_ty-self_ty.result.0 _ c.self_ty-self_ty.ensures.is in
    let named = relevant-names old d a S starts first c.requires.impls in
    let plain = auto_rules_plain V t (with_plain_head T) in
    let fits : FitsFields old d S = record { fields = c.requires.considered.fields; applied = applied-first d T S starts first c.requires.considered.applied } in
    let on = switched-on V t T starts (c.in-None.ensures.is ∙ ap (next_above None) named) in
    let are = subst (λ us. AreConstituents (λ v. v.items) mid t us c.in_ok-tys-in-None.tys) (auto-first T S starts first V t) (c.in_ok-tys-in-None.ensures.are (λ _. fits) t) in
    if-ok _ _ c.for_constituent_tys.result
    (λ o is.
    is V plain are
    ∙ ap (λ b. as_written V b misc plain) (asked-later old mid c.instantiate_constituent_tys_for_auto_trait.ensures.terms.grew.keeps g c.requires.considered.goal)
    ∙ ap (as_written V a misc) (sym on))
    c.for_constituent_tys.ensures.is
