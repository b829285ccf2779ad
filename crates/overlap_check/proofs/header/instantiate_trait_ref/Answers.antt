use Rattle.std.proofs.Common.{ap, ◌∙◌, Err, arith}
use Rattle.type_terms.specs.Promised.Trees.{Trees}
use Rattle.type_terms.specs.Promised.Worlds.{Reference}
use Rattle.type_terms.specs.Terms.{args_lists}
use Rattle.type_terms.specs.Kept.{trees-is}
use Rattle.type_terms.proofs.FailFacts.{refused-term, at-limit}
use Rattle.type_terms.proofs.Grown.{grew-on}
use Rattle.overlap_check.proofs.header.instantiate_trait_ref.Goals as goal

pub returns-clause-is : goal.returns-clause-is
returns-clause-is c =
    ap (λ (t : Trees). let s : Reference = record { trait = c.args.trait_ref.def_id.index; args = t } in s)
    (trees-is c.mk_args.new.self.entries args_lists c.in_ok-instance.instance.0 _ c.in_ok-instance.ensures.is ∙ c.in_ok-list.ensures.are)

pub returns-in_err-instance-clause-terms : goal.returns-in_err-instance-clause-terms
returns-in_err-instance-clause-terms c = record {
  grew = grew-on c.instantiate_args.ensures.terms.grew c.mk_args.ensures.grew;
  full =
      let refused = c.in_err-instance.ensures in
      at-limit c.from_residual-in_err-instance.result c.from_residual-in_err-instance.ensures.1 (λ p. refused-term args_lists (omega arith) (refused.full (ap Err p)) refused.grew.limit refused.refused);
}
