use Rattle.std.proofs.Common.{ap, sym, ◌∙◌, subst}
use Rattle.type_terms.specs.Promised.Trees.{◌+++◌, leaf}
use Rattle.type_terms.specs.Promised.Rules.{principal_with}
use Rattle.type_terms.specs.Promised.Handles.{bounds_lists, trees_at}
use Rattle.type_terms.specs.Kept.{has-later, trees-later}
use Rattle.infer_table.proofs.Numbers.{goal-held-later}
use Rattle.declarations.specs.Items.{written}
use Rattle.declarations.specs.Promised.Elaboration.{Each}
use Rattle.declarations.proofs.Growth.{all-held, all-written}
use Rattle.declarations.proofs.Elaborating.{have-bounds-later}
use Rattle.candidate_model.specs.Asking.{with_plain_head}
use Rattle.infer_table.proofs.BindFacts.{type-is}
use Rattle.built_in_candidates.specs.Goals.{asked_of}
use Rattle.built_in_candidates.specs.Constituents.{candidates_of}
use Rattle.built_in_candidates.specs.Objects.{AreArgumentsOf}
use Rattle.built_in_candidates.specs.Unsizing.{to_dyn}
use Rattle.built_in_candidates.proofs.Asking.{asked-later}
use Rattle.built_in_candidates.proofs.ToDyn.{principal-applied, row-to-dyn, row-from-dyn, row-to-other}
use Rattle.built_in_candidates.proofs.unsize_to_dyn.consider_builtin_unsize_to_dyn_candidate.Goals as goal
use Rattle.type_terms.proofs.TypeBasics.{if-ok}

pub to_dyn_candidate-requires-clause-goal : goal.to_dyn_candidate-requires-clause-goal
to_dyn_candidate-requires-clause-goal c = goal-held-later c.args.cx.now.entries c.with_plain_head.new.cx.entries c.with_plain_head.ensures.terms.grew.keeps c.args.goal.now.goal c.requires.goal

pub to_dyn_candidate-requires-clause-declared : goal.to_dyn_candidate-requires-clause-declared
to_dyn_candidate-requires-clause-declared c = all-held c.args.cx.now.entries c.with_plain_head.new.cx.entries c.with_plain_head.ensures.terms.grew.keeps c.args.declarations.now c.requires.declared

pub to_dyn_candidate-requires-clause-traits : goal.to_dyn_candidate-requires-clause-traits
to_dyn_candidate-requires-clause-traits c = have-bounds-later c.args.cx.now.entries c.with_plain_head.new.cx.entries c.with_plain_head.ensures.terms.grew.keeps c.args.declarations.now c.requires.declared c.requires.traits

pub to_dyn_candidate-requires-clause-bounds : goal.to_dyn_candidate-requires-clause-bounds
to_dyn_candidate-requires-clause-bounds c = has-later c.args.cx.now.entries c.with_plain_head.new.cx.entries c.with_plain_head.ensures.terms.grew.keeps bounds_lists c.in-None-Some.bounds.0 c.in-None-Some.ensures'.0

pub to_dyn_candidate-requires-clause-applied : goal.to_dyn_candidate-requires-clause-applied
to_dyn_candidate-requires-clause-applied c = λ l lifetime.
    let old = c.args.cx.now.entries in
    let mid = c.with_plain_head.new.cx.entries in
    let k = c.with_plain_head.ensures.terms.grew.keeps in
    let d = c.args.declarations.now in
    let S = trees_at old c.args.coercion.self_ty.0 in
    let T = trees_at old c.args.coercion.target.0 in
    let found = c.in-None-Some.ensures' in
    let B = trees_at old c.in-None-Some.bounds.0 in
    subst (λ s. Each (AreArgumentsOf d) (principal_with s (trees_at mid c.in-None-Some.bounds.0 +++ leaf l))) (sym c.in_ok-plain-in-None-Some.ensures.is)
    (subst (λ t. Each (AreArgumentsOf d) (principal_with (with_plain_head S) (t +++ leaf l))) (sym (trees-later old mid k bounds_lists c.in-None-Some.bounds.0 found.0))
    (principal-applied d S T B found.1 l (type-is old c.lawful.ensures c.args.coercion.self_ty.0 c.requires.self_held) found.2 lifetime found.3 c.requires.applied))

pub returns-in_ok-plain-in-None-Some-clause-is : goal.returns-in_ok-plain-in-None-Some-clause-is
returns-in_ok-plain-in-None-Some-clause-is c =
    let old = c.args.cx.now.entries in
    let mid = c.with_plain_head.new.cx.entries in
    let new = c.to_dyn_candidate.new.cx.entries in
    let k = c.with_plain_head.ensures.terms.grew.keeps in
    let d = c.args.declarations.now in
    let V = written old d in
    let g = c.args.goal.now in
    let a = asked_of old g in
    let t = g.goal.predicate.trait_ref.def_id.index in
    let S = trees_at old c.args.coercion.self_ty.0 in
    let T = trees_at old c.args.coercion.target.0 in
    let found = c.in-None-Some.ensures' in
    let b = trees_at old c.in-None-Some.bounds.0 +++ leaf found.1 in
    if-ok _ _ c.to_dyn_candidate.result
    (λ o is.
    ap (λ W. candidates_of W t new o) (sym (all-written old mid k d c.requires.declared))
    ∙ is found.1 found.2
    ∙ ap (λ W. to_dyn W (asked_of mid g) (trees_at mid c.in_ok-plain-in-None-Some.plain.0) (trees_at mid c.in-None-Some.bounds.0 +++ leaf found.1)) (all-written old mid k d c.requires.declared)
    ∙ ap (λ x. to_dyn V x (trees_at mid c.in_ok-plain-in-None-Some.plain.0) (trees_at mid c.in-None-Some.bounds.0 +++ leaf found.1)) (asked-later old mid k g c.requires.goal)
    ∙ ap (λ s. to_dyn V a s (trees_at mid c.in-None-Some.bounds.0 +++ leaf found.1)) c.in_ok-plain-in-None-Some.ensures.is
    ∙ ap (λ x. to_dyn V a (with_plain_head S) (x +++ leaf found.1)) (trees-later old mid k bounds_lists c.in-None-Some.bounds.0 found.0)
    ∙ row-to-dyn V a S T b (type-is old c.lawful.ensures c.args.coercion.self_ty.0 c.requires.self_held) c.in-None-Some.ensures found.3)
    c.to_dyn_candidate.ensures.is

pub returns-in-Some-None-clause-is : goal.returns-in-Some-None-clause-is
returns-in-Some-None-clause-is c =
    let old = c.args.cx.now.entries in
    row-from-dyn (written old c.args.declarations.now) (asked_of old c.args.goal.now) (trees_at old c.args.coercion.self_ty.0) (trees_at old c.args.coercion.target.0) _ c.in-Some-None.ensures.3

pub returns-in-Some-Some-clause-is : goal.returns-in-Some-Some-clause-is
returns-in-Some-Some-clause-is c =
    let old = c.args.cx.now.entries in
    row-from-dyn (written old c.args.declarations.now) (asked_of old c.args.goal.now) (trees_at old c.args.coercion.self_ty.0) (trees_at old c.args.coercion.target.0) _ c.in-Some-Some.ensures.3

pub returns-in-None-None-clause-is : goal.returns-in-None-None-clause-is
returns-in-None-None-clause-is c =
    let old = c.args.cx.now.entries in
    row-to-other (written old c.args.declarations.now) (asked_of old c.args.goal.now) (trees_at old c.args.coercion.self_ty.0) (trees_at old c.args.coercion.target.0)
    (type-is old c.lawful.ensures c.args.coercion.self_ty.0 c.requires.self_held) (type-is old c.lawful.ensures c.args.coercion.target.0 c.requires.target) c.in-None-None.ensures'
