use Rattle.std.proofs.Common.{sym, ◌∙◌, ap, subst, [], ◌∷◌}
use Rattle.infer_table.specs.Constraints.{constraints_trees}
use Rattle.infer_table.specs.Content.{AllConstraintsHeld}
use Rattle.infer_table.proofs.ConstraintLists.{constraints-append, constraints-held-push}
use Rattle.built_in_candidates.specs.Goals.{candidate_of}
use Rattle.candidate_model.proofs.CandidateKinds.{with_regions}
use Rattle.built_in_candidates.proofs.outlives.recording.Goals as goal

pub returns-clause-is : goal.returns-clause-is
returns-clause-is c = λ V t es.
    let cs = c.args.candidate.region_constraints.items in
    ap (λ r. with_regions r (candidate_of V t es c.args.candidate)) (ap (constraints_trees es) c.in_ok-push.ensures.items ∙ constraints-append es cs (c.args.constraint ∷ []))

pub returns-clause-held : goal.returns-clause-held
returns-clause-held c = λ es h k. record {
  equations = h.equations;
  constraints =
      subst (AllConstraintsHeld es) (sym c.in_ok-push.ensures.items) (constraints-held-push es c.args.candidate.region_constraints.items c.args.constraint h.constraints k);
  nested = h.nested;
}
