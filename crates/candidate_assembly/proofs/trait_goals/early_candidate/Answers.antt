use Rattle.std.proofs.Common.{◌≡◌, sym, ◌∙◌, ap, option_map}
use Rattle.std.specs.List.{slice_get}
use Rattle.std.proofs.lemmas.Result.{IfOk-weaker}
use Rattle.type_terms.proofs.Grown.{grew-on}
use Rattle.declarations.specs.Items.{written}
use Rattle.candidate_model.specs.Asking.{clauses}
use Rattle.candidate_model.specs.Candidates.{by_clauses, built_in}
use Rattle.candidate_model.specs.Solver.{is_clause}
use Rattle.built_in_candidates.specs.Goals.{asked_of, candidate_of}
use Rattle.candidate_assembly.specs.Sections.{considered_from, is_built_in, misc_is_bound}
use Rattle.candidate_assembly.proofs.DecidedGoals.{can-be, object, unsizing, decided-later, past-later, first-of, second-of}
use Rattle.candidate_assembly.proofs.trait_goals.early_candidate.Goals as goal

pub assemble_builtin_impl_candidates-requires-clause-considered : goal.assemble_builtin_impl_candidates-requires-clause-considered
assemble_builtin_impl_candidates-requires-clause-considered c =
    let mid = c.assemble_param_env_candidates.new.cx.entries in
    can-be mid c.args.declarations.now c.args.goal.now (decided-later c.args.cx.now.entries mid c.in_ok-candidate.ensures.terms.grew.keeps c.args.declarations.now c.args.goal.now c.requires.decided)

pub assemble_builtin_impl_candidates-requires-clause-impls : goal.assemble_builtin_impl_candidates-requires-clause-impls
assemble_builtin_impl_candidates-requires-clause-impls c =
    (decided-later c.args.cx.now.entries c.assemble_param_env_candidates.new.cx.entries c.in_ok-candidate.ensures.terms.grew.keeps c.args.declarations.now c.args.goal.now c.requires.decided).ready.impls

pub assemble_builtin_impl_candidates-requires-clause-bounds : goal.assemble_builtin_impl_candidates-requires-clause-bounds
assemble_builtin_impl_candidates-requires-clause-bounds c =
    (decided-later c.args.cx.now.entries c.assemble_param_env_candidates.new.cx.entries c.in_ok-candidate.ensures.terms.grew.keeps c.args.declarations.now c.args.goal.now c.requires.decided).ready.bounds

pub assemble_builtin_impl_candidates-requires-clause-object : goal.assemble_builtin_impl_candidates-requires-clause-object
assemble_builtin_impl_candidates-requires-clause-object c =
    let mid = c.assemble_param_env_candidates.new.cx.entries in
    object mid c.args.declarations.now c.args.goal.now (decided-later c.args.cx.now.entries mid c.in_ok-candidate.ensures.terms.grew.keeps c.args.declarations.now c.args.goal.now c.requires.decided)

pub assemble_builtin_impl_candidates-requires-clause-unsizing : goal.assemble_builtin_impl_candidates-requires-clause-unsizing
assemble_builtin_impl_candidates-requires-clause-unsizing c =
    let mid = c.assemble_param_env_candidates.new.cx.entries in
    unsizing mid c.args.declarations.now c.args.goal.now (decided-later c.args.cx.now.entries mid c.in_ok-candidate.ensures.terms.grew.keeps c.args.declarations.now c.args.goal.now c.requires.decided)

pub returns-in-None-clause-terms : goal.returns-in-None-clause-terms
returns-in-None-clause-terms c = record {
  grew = grew-on c.in_ok-candidate.ensures.terms.grew c.assemble_builtin_impl_candidates.ensures.terms.grew;
  full = c.assemble_builtin_impl_candidates.ensures.terms.full;
}

pub returns-in-Some-clause-is : goal.returns-in-Some-clause-is
returns-in-Some-clause-is c = λ seen s t.
    let es = c.args.cx.now.entries in
    let V = written es c.args.declarations.now in
    let a = asked_of es c.args.goal.now in
    let new = c.assemble_param_env_candidates.new.cx.entries in
    first-of (candidate_of V a.reference.trait new c.in-Some.candidate) (slice_get (by_clauses V a (clauses a)) (considered_from is_clause seen)) (slice_get (built_in V a) (considered_from (is_built_in (misc_is_bound a)) seen))
    (ap (option_map (candidate_of V a.reference.trait new)) (sym c.in-Some.is) ∙ c.in_ok-candidate.ensures.is V seen s)

pub returns-in-None-clause-is : goal.returns-in-None-clause-is
returns-in-None-clause-is c =
    let es = c.args.cx.now.entries in
    let d = c.args.declarations.now in
    let V = written es d in
    let a = asked_of es c.args.goal.now in
    let mid = c.assemble_param_env_candidates.new.cx.entries in
    let new = c.assemble_builtin_impl_candidates.new.cx.entries in
    IfOk-weaker c.assemble_builtin_impl_candidates.result _ _
    (λ o p. λ seen s t.
    second-of (slice_get (by_clauses V a (clauses a)) (considered_from is_clause seen)) (slice_get (built_in V a) (considered_from (is_built_in (misc_is_bound a)) seen)) (option_map (candidate_of V a.reference.trait new) o)
    (ap (option_map (candidate_of V a.reference.trait mid)) (sym c.in-None.is) ∙ c.in_ok-candidate.ensures.is V seen s)
    (past-later es mid c.in_ok-candidate.ensures.terms.grew.keeps d c.args.goal.now c.requires.decided c.args.done.now c.requires.done (λ W b z. option_map (candidate_of W b.reference.trait new) o ≡ slice_get (built_in W b) (considered_from (is_built_in (misc_is_bound b)) z)) p seen s))
    c.assemble_builtin_impl_candidates.ensures.is
