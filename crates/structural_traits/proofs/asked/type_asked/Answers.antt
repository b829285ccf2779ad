use Rattle.std.proofs.Common.{ap, ◌∙◌, arith, Err}
use Rattle.type_terms.specs.Promised.Trees.{Trees}
use Rattle.type_terms.specs.Promised.Worlds.{Reference}
use Rattle.type_terms.specs.Terms.{args_lists}
use Rattle.type_terms.specs.Promised.Handles.{trees_at}
use Rattle.type_terms.specs.Kinds.{args_trees}
use Rattle.type_terms.specs.Kept.{trees-is}
use Rattle.type_terms.proofs.FailFacts.{refused-term, at-limit}
use Rattle.type_terms.proofs.TreeLaws.{append-none}
use Rattle.structural_traits.proofs.asked.type_asked.Goals as goal

pub returns-in_err-args-clause-terms : goal.returns-in_err-args-clause-terms
returns-in_err-args-clause-terms c = record {
  grew = c.mk_args.ensures.grew;
  full =
      let refused = c.in_err-args.ensures in
      let handed = c.from_residual-in_err-args in
      at-limit handed.result handed.ensures.1 (λ p. refused-term args_lists (omega arith) (refused.full (ap Err p)) refused.grew.limit refused.refused);
}

pub returns-clause-is : goal.returns-clause-is
returns-clause-is c =
    let old = c.args.cx.now.entries in
    let new = c.mk_args.new.self.entries in
    ap (λ (t : Trees). let r : Reference = record { trait = c.args.def_id.index; args = t } in r)
    (trees-is new args_lists c.in_ok-args.args.0 _ c.in_ok-args.ensures.is ∙ ap (args_trees old) c.in_ok-list.ensures.items ∙ append-none (trees_at old c.args.ty.0))
