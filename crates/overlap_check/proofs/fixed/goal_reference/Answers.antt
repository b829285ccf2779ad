use Rattle.std.proofs.Common.{refl, ap, ◌∙◌, Err, arith}
use Rattle.type_terms.specs.Promised.Handles.{trees_at}
use Rattle.type_terms.specs.Terms.{args_lists}
use Rattle.type_terms.specs.Kept.{trees-is}
use Rattle.type_terms.specs.Kinds.{args_trees}
use Rattle.type_terms.proofs.FailFacts.{refused-term, at-limit}
use Rattle.type_terms.proofs.TreeLaws.{append-none}
use Rattle.overlap_check.proofs.FixedClauses.{same-reference}
use Rattle.overlap_check.proofs.fixed.goal_reference.Goals as goal

pub returns-in_err-args-clause-terms : goal.returns-in_err-args-clause-terms
returns-in_err-args-clause-terms c = record {
  grew = c.mk_args.ensures.grew;
  full =
      let refused = c.in_err-args.ensures in
      at-limit c.from_residual-in_err-args.result c.from_residual-in_err-args.ensures.1 (λ p. refused-term args_lists (omega arith) (refused.full (ap Err p)) refused.grew.limit refused.refused);
}

pub returns-clause-is : goal.returns-clause-is
returns-clause-is c =
    let g = c.args.goal in
    same-reference g.def_id.index g.def_id.index _ _ refl
    (trees-is c.mk_args.new.self.entries args_lists c.in_ok-args.args.0 _ c.in_ok-args.ensures.is
    ∙ ap (args_trees c.args.cx.now.entries) c.in_ok-list.ensures.items ∙ append-none (trees_at c.args.cx.now.entries g.self_ty.0))
