use Rattle.std.proofs.Common.{◌∙◌, ap}
use Rattle.std.specs.List.{slice_get}
use Rattle.std.proofs.lemmas.Result.{IfOk-weaker}
use Rattle.candidate_model.specs.Asking.{clauses}
use Rattle.candidate_model.specs.Candidates.{by_clauses}
use Rattle.candidate_model.specs.Solver.{is_clause}
use Rattle.built_in_candidates.specs.Goals.{asked_of}
use Rattle.candidate_assembly.proofs.Counted.{counted}
use Rattle.candidate_assembly.proofs.assembly.assemble_param_env_candidates.Goals as goal

pub returns-clause-is : goal.returns-clause-is
returns-clause-is c =
    let es = c.args.cx.now.entries in
    let a = asked_of es c.args.goal.now in
    IfOk-weaker c.consider_param_env_candidate.result _ _
    (λ o h V seen s. h V ∙ ap (slice_get (by_clauses V a (clauses a))) (c.considered_from-place.ensures ∙ counted is_clause es c.args.done.now seen s))
    c.consider_param_env_candidate.ensures.is
