use Rattle.std.proofs.Common.{ap, ◌∙◌, Err, arith}
use Rattle.type_terms.specs.Promised.Label.{adt}
use Rattle.type_terms.specs.Promised.Trees.{none, tree}
use Rattle.type_terms.specs.Promised.Handles.{types}
use Rattle.type_terms.specs.Terms.{args_lists}
use Rattle.type_terms.specs.Kept.{trees-is}
use Rattle.type_terms.proofs.FailFacts.{refused-term, at-limit}
use Rattle.type_terms.proofs.Grown.{grew-on}
use Rattle.overlap_check.proofs.header.struct_of.Goals as goal

pub returns-clause-is : goal.returns-clause-is
returns-clause-is c =
    trees-is c.mk_ty.new.self.entries types c.in_ok-ty.ty.0 _ c.in_ok-ty.ensures.is
    ∙ ap (λ t. tree (adt c.args.id.index) t none) (trees-is c.mk_args.new.self.entries args_lists c.in_ok-args.args.0 _ c.in_ok-args.ensures.is)

pub returns-in_err-args-clause-terms : goal.returns-in_err-args-clause-terms
returns-in_err-args-clause-terms c = record {
  grew = c.mk_args.ensures.grew;
  full =
      let refused = c.in_err-args.ensures in
      at-limit c.from_residual.result c.from_residual.ensures.1 (λ p. refused-term args_lists (omega arith) (refused.full (ap Err p)) refused.grew.limit refused.refused);
}

pub returns-in_err-ty-clause-terms : goal.returns-in_err-ty-clause-terms
returns-in_err-ty-clause-terms c = record {
  grew = grew-on c.mk_args.ensures.grew c.mk_ty.ensures.grew;
  full =
      let refused = c.in_err-ty.ensures in
      at-limit c.from_residual-in_err-ty.result c.from_residual-in_err-ty.ensures.1 (λ p. refused-term types (omega arith) (refused.full (ap Err p)) refused.grew.limit refused.refused);
}
