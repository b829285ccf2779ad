use Rattle.std.proofs.Common.{ap, sym, ◌∙◌, arith, Err}
use Rattle.type_terms.specs.Terms.{args_lists}
use Rattle.type_terms.specs.Promised.Handles.{trees_at}
use Rattle.type_terms.specs.Kinds.{args_trees}
use Rattle.type_terms.specs.Kept.{args-held-later, trees-is}
use Rattle.infer_table.specs.Values.{values_of, filled_values, values-later}
use Rattle.infer_table.proofs.Fillings.{filled-fold}
use Rattle.type_terms.proofs.FailFacts.{refused-term, only-tables, at-limit}
use Rattle.type_terms.proofs.Grown.{grew-on}
use Rattle.goal_evaluator.proofs.apply.fill_values.Goals as goal

pub fold_with-requires-clause-ready : goal.fold_with-requires-clause-ready
fold_with-requires-clause-ready c = args-held-later c.args.cx.now.entries c.mk_args.new.self.entries c.mk_args.ensures.grew.keeps c.args.values.now c.requires.values

pub returns-clause-filled : goal.returns-clause-filled
returns-clause-filled c =
    let es = c.args.cx.now.entries in
    let made = c.mk_args.new.self.entries in
    let end = c.fold_with.new.cx.entries in
    let vs = c.args.values.now in
    ap (args_trees end) c.in_ok-from_slice-2.ensures.items
    ∙ sym (trees-is end args_lists c.in_ok-filled.filled.0 _ c.args-2.ensures.is)
    ∙ filled-fold (values_of made vs) _ _ c.in_ok-filled.ensures.folded.1
    ∙ ap (λ z. filled_values z (trees_at made c.in_ok-terms.terms.0)) (values-later es made c.mk_args.ensures.grew.keeps vs c.requires.values)
    ∙ ap (filled_values (values_of es vs)) (trees-is made args_lists c.in_ok-terms.terms.0 _ c.in_ok-terms.ensures.is ∙ ap (args_trees es) c.in_ok-from_slice.ensures.items)

pub returns-in_err-terms-clause-terms : goal.returns-in_err-terms-clause-terms
returns-in_err-terms-clause-terms c = record {
  grew = c.mk_args.ensures.grew;
  full =
      let refused = c.in_err-terms.ensures in
      let handed = c.from_residual-in_err-terms in
      at-limit handed.result handed.ensures.1 (λ p. refused-term args_lists (omega arith) (refused.full (ap Err p)) refused.grew.limit refused.refused);
}

pub returns-in_err-filled-clause-terms : goal.returns-in_err-filled-clause-terms
returns-in_err-filled-clause-terms c = record {
  grew = grew-on c.mk_args.ensures.grew c.fold_with.ensures.grew;
  full =
      let handed = c.from_residual-in_err-filled in
      at-limit handed.result handed.ensures.1 (λ p. only-tables (c.in_err-filled.ensures.full (ap Err p)));
}
