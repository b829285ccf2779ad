use Rattle.std.proofs.Common.{◌≡◌, ◌++◌, ◌∷◌, [], ap, sym, subst, Err, arith}
use Rattle.type_terms.specs.Promised.Handles.{types, consts}
use Rattle.type_terms.specs.declared.kinds.GenericArgKind.{GenericArgKind}
use Rattle.term_folds.specs.Arguments.{arg_sort}
use Rattle.type_terms.proofs.FailFacts.{refused-term}
use Rattle.solver_graph.proofs.Shortages.{handed}
use Rattle.sessions.specs.Tables.{table_of}
use Rattle.sessions.proofs.Counts.{one-more-type, one-more-const, one-more-lifetime}
use Rattle.sessions.proofs.table.add_unknown.Goals as goal

pub returns-in_err-next_ty_var-in-Ty-clause-terms : goal.returns-in_err-next_ty_var-in-Ty-clause-terms
returns-in_err-next_ty_var-in-Ty-clause-terms c = record {
  grew = c.next_ty_var.ensures.grew;
  full =
      let refused = c.in_err-next_ty_var-in-Ty.ensures in
      handed _ c.from_residual-in_err-next_ty_var-in-Ty.result c.from_residual-in_err-next_ty_var-in-Ty.ensures.1
      (λ p. refused-term types (omega arith) (refused.full (ap Err p)) refused.grew.limit refused.nothing_made);
}

pub returns-in_err-next_const_var-in-Const-clause-terms : goal.returns-in_err-next_const_var-in-Const-clause-terms
returns-in_err-next_const_var-in-Const-clause-terms c = record {
  grew = c.next_const_var.ensures.grew;
  full =
      let refused = c.in_err-next_const_var-in-Const.ensures in
      handed _ c.from_residual-in_err-next_const_var-in-Const.result c.from_residual-in_err-next_const_var-in-Const.ensures.1
      (λ p. refused-term consts (omega arith) (refused.full (ap Err p)) refused.grew.limit refused.nothing_made);
}

pub returns-in_ok-next_region_var-in-Lifetime-clause-made : goal.returns-in_ok-next_region_var-in-Lifetime-clause-made
returns-in_ok-next_region_var-in-Lifetime-clause-made c = λ ks e.
    subst (λ (a : GenericArgKind). c.next_region_var.new.self ≡ table_of (ks ++ arg_sort a ∷ [])) (sym c.in-Lifetime.is)
    (one-more-lifetime c.args.table.now c.next_region_var.new.self ks c.in_ok-next_region_var-in-Lifetime.ensures.made e)

pub returns-in_ok-next_ty_var-in-Ty-clause-made : goal.returns-in_ok-next_ty_var-in-Ty-clause-made
returns-in_ok-next_ty_var-in-Ty-clause-made c = λ ks e.
    subst (λ (a : GenericArgKind). c.next_ty_var.new.self ≡ table_of (ks ++ arg_sort a ∷ [])) (sym c.in-Ty.is)
    (one-more-type c.args.table.now c.next_ty_var.new.self ks c.in_ok-next_ty_var-in-Ty.ensures.made e)

pub returns-in_ok-next_const_var-in-Const-clause-made : goal.returns-in_ok-next_const_var-in-Const-clause-made
returns-in_ok-next_const_var-in-Const-clause-made c = λ ks e.
    subst (λ (a : GenericArgKind). c.next_const_var.new.self ≡ table_of (ks ++ arg_sort a ∷ [])) (sym c.in-Const.is)
    (one-more-const c.args.table.now c.next_const_var.new.self ks c.in_ok-next_const_var-in-Const.ensures.made e)
